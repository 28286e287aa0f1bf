-- Walked arrays that arrived, as the program keeps them, and where two of them meet. No public contract cites this file.
use Rattle.std.specs.Prelude.{ℕ, ◌+◌, ◌≤◌, ◌<◌, ◌≡◌, List, [], Option, Some, None, cond, ◌&&◌, ◌||◌, ltb, eqb, length, get_or}
use Rattle.lists.specs.Lists.{first_where}
use Rattle.path.specs.declared.Walked.{Walked as WalkedArray}
use Rattle.path.specs.Told.{Walked}
use Rattle.path.specs.Answers.{the_walk}
use Rattle.verdict.specs.declared.Meeting.{Meeting}
use Rattle.verdict.specs.Checks.{parallel, met_at, meets_first}

-- what stands past the end of an array of them
abbrev pub past_end : WalkedArray
past_end = record { count = 0; servers = []; switches = [] }

pub record Arrived (w : Walked) : Type 0 where
  pub some : 2 ≤ w.count
  pub few : w.count ≤ 9
  pub long_servers : length w.servers ≡ 9
  pub long_switches : length w.switches ≡ 8

pub record AllArrived (m : ℕ) (ws : List WalkedArray) : Type 0 where
  pub long : length ws ≡ 4
  pub each : (i : ℕ) → i < m → Arrived (the_walk (get_or ws i past_end))

-- the first hop, of those that use these switches and lead to these servers, that uses switch w or leads to server a; past all where none does
unfoldable pub first_met : List ℕ → List ℕ → ℕ → ℕ → ℕ
first_met used met w a = first_where (λ q. eqb w (get_or used q 0) || (ltb q (length met) && eqb a (get_or met q 0))) (length used)

-- the hops of two walked arrays where they first meet, counted from 1; none where they are parallel
unfoldable pub meeting_of : Walked → Walked → Option Meeting
meeting_of u v =
    cond (parallel u v) None (Some (record { first = meets_first u v + 1; later = met_at u v (meets_first u v) + 1 }))
