-- The step as a driver in C sees it: one word that holds all but the MAC, and the MAC as one number.
use Rattle.std.specs.Prelude.{ℕ, ◌+◌, ◌*◌, ◌/◌, ◌%◌, ◌<◌, List, [], ◌∷◌, Bool, cond, eqb, get_or}
use Rattle.refusals.specs.Refusals.{refused_at}
use Rattle.path.specs.Routes.{byte_of, level_of, value_of}
use Rattle.step.specs.Told.{Step}
use Rattle.driver.specs.declared.Stepped.{Stepped}

abbrev pub flag_of : Bool → ℕ
flag_of b = cond b 1 0

-- bytes after m as one number, the first highest
unfoldable pub bytes_number : ℕ → List ℕ → ℕ
bytes_number m [] = m
bytes_number m (b ∷ bs) = bytes_number (256 * m + b) bs

unfoldable pub mac_number : List ℕ → ℕ
mac_number bs = bytes_number 0 bs

-- the word, from the lowest byte: the refusal's number, its hop, 1 if delivered, the next index, the next server (two bytes), the
-- OutPort, and the path byte of the way back, which is 0 where there is no hop
unfoldable pub step_word : Step → ℕ
step_word x =
    x.refusal.number + 256 * x.refusal.hop + 65536 * flag_of x.delivered + 16777216 * x.index + 4294967296 * x.next + 281474976710656 * x.port + 72057594037927936 * byte_of x.level x.old

unfoldable pub packed : Step → Stepped
packed x = record { word = step_word x; mac = mac_number x.mac }

-- what a driver reads back of the two numbers w and m. The refusal's route is 1 where its hop is not 0.
unfoldable pub step_in : ℕ → ℕ → Step
step_in w m =
    record {
      refusal = refused_at (w % 256) (cond (eqb (w / 256 % 256) 0) 0 1) (w / 256 % 256);
      delivered = eqb (w / 65536 % 256) 1;
      next = w / 4294967296 % 65536;
      index = w / 16777216 % 256;
      mac = m / 1099511627776 % 256 ∷ m / 4294967296 % 256 ∷ m / 16777216 % 256 ∷ m / 65536 % 256 ∷ m / 256 % 256 ∷ m % 256 ∷ [];
      port = w / 281474976710656 % 256;
      level = level_of (w / 72057594037927936);
      old = value_of (w / 72057594037927936);
    }

unfoldable pub unpacked : Stepped → Step
unpacked x = step_in x.word x.mac

-- a list of bytes
pub record Bytes (xs : List ℕ) : Type 0 where
  pub at : (j : ℕ) → get_or xs j 0 < 256
