-- Lent buffers and the words of the calls from C, proved.
use Prim.Native.Nat.{ℕ, zero, suc, ◌+◌, ◌*◌, ◌/◌, ◌%◌, ◌≤◌, ◌<◌}
use mathlib.Core.Path.{◌≡◌, refl, sym, ap, subst, ◌∙◌}
use mathlib.Core.Bool.{Bool, true, false, cond}
use mathlib.Core.List.{List, [], ◌∷◌}
use native.Mathlib.Omega.{arith}
use lib.Dec.{lit<}
use Rattle.refusals.specs.Refusals.{Refusal, earlier_route, earlier_hop, answer}
use Rattle.refusals.proofs.NumberLaws.{one_le}
use Rattle.room.specs.Shapes.{servers_of}
use Rattle.room.specs.Refusals.{shape_refusal, link_refusal}
use Rattle.room.proofs.NumberLaws.{shape-numbers}
use Rattle.room.specs.Answers.{no_number, a_number, between_answer}
use Rattle.trees.specs.Answers.{tree_answer, tree_left}
use Rattle.links.specs.Answers.{failed_answer}
use Rattle.summary.specs.Told.{DeadSwitch}
use Rattle.summary.specs.Answers.{link_answer, link_table, link_summary, changed_server, server_answer, server_table, server_summary, dead_answer, fresh_answer, fresh_summary}
use Rattle.summary.proofs.AnswerLaws.{dead-small, dead-zeros}
use Rattle.driver.proofs.SummarySmall.{link_fits, server-fits, fresh-fits, dead_with}
use Rattle.path.specs.Told.{Hop}
use Rattle.path.specs.Routes.{byte_of}
use Rattle.path.specs.Answers.{hop_answer}
use Rattle.path.proofs.HopLaws.{byte-apart}
use Rattle.step.specs.Told.{Step}
use Rattle.step.specs.Steps.{step_answer}
use Rattle.driver.specs.declared.Answer.{Answer}
use Rattle.driver.specs.Words.{word, refusal_in, Small, left, between_word, asked_word, dead_word}
use Rattle.driver.proofs.WordLaws.{refusal-back, value-back, plain-small, left-given, left_lent}
use Rattle.driver.proofs.TreeSmall.{parent-small, tree-small}
use Rattle.driver.proofs.RoomSmall.{servers-small, bound-small, switches-small, server-at-small, digit-small, address-small, neighbour-small, switch-small, between-level, between-fits, digits-fits, asked-fits}
use Rattle.driver.proofs.PathSmall.{byte_small, parts_found, HopFit, hop-found, read_small, reverse-small, write-small, check-small}
use Rattle.driver.proofs.RouteSmall.{build-small, find-small, select-small}
use Rattle.driver.proofs.PickSmall.{pick_small}
use Rattle.driver.specs.Packed.{mac_number, packed, step_in, unpacked}
use Rattle.driver.proofs.PackLaws as packs
use Rattle.driver.proofs.PackLaws.{word_fields, unpack_packed, mac-made, step_small, step_unpacks}
use Rattle.room.proofs.RefusalLaws.{valid_of}
use Rattle.driver.specs.declared.Room.{Room}
use Rattle.driver.specs.Rooms.{room_of, shape_in}
use Rattle.driver.proofs.ShapeLaws.{held_is, room-refused, room-shape}
use Rattle.demands.specs.Buffers.{Holds, EveryBuffer, EveryRoom, Tells, TellsStep, DeadParts, HopParts, EveryWord}

-- ---- the rooms

room-number : (n k m : ℕ) → n ≤ 255 → k ≤ 255 → m ≤ 255 → (room_of n k m).number ≡ n + (256 * k + 65536 * m)
unfolding room_of
room-number n k m a b d = omega (arith, held_is n a, held_is k b, held_is m d)

room-only : (r : Room) → shape_refusal (shape_in r) ≡ 0 → room_of (shape_in r).n (shape_in r).k (shape_in r).m ≡ r
unfolding shape_in
room-only r z =
    let v = valid_of (shape_in r) z in
    let e : (room_of (r.number % 256) (r.number / 256 % 256) (r.number / 65536)).number ≡ r.number =
    room-number (r.number % 256) (r.number / 256 % 256) (r.number / 65536) (omega (arith, v.ports)) (omega (arith, v.levels)) (omega (arith, v.ports, v.most)) ∙ omega arith in
    ap (λ (x : ℕ). record { number = x }) e

pub every-room : EveryRoom
every-room = record { refused = room-refused; shape = room-shape; number = room-number; only = room-only }

-- ---- the words

-- the byte above the refusal's hop
earlier : (r : Refusal) (v : ℕ) → Small r v → (word r v).word / 16777216 % 256 ≡ 16 * earlier_route r + earlier_hop r
unfolding word
earlier r v h = omega (arith, h.number, h.route, h.hop, h.earlier-route, h.earlier-hop)

tells : {r : Refusal} {v : ℕ} → Small r v → Tells (word r v) r v
tells {r} {v} h = record { refusal = refusal-back r v h; value = value-back r v h; earlier = earlier r v h }

-- a word that was made of a refusal and a number
said : {r : Refusal} {v : ℕ} {w : Answer} → w ≡ word r v → Small r v → Tells w r v
said {r} {v} e h = subst (λ (w : Answer). Tells w r v) (sym e) (tells h)

level-small : (b : Bool) (l : ℕ) → l ≤ 3 → cond b (suc l) 0 < 4294967296
level-small true l h = omega arith
level-small false l h = lit< tt

bit-small : (b : Bool) → cond b 1 0 < 4294967296
bit-small true = lit< tt
bit-small false = lit< tt

-- the bytes of a step's two numbers
tells_step : (x : Step) → packs.Small x → TellsStep (packed x) x
unfolding packed unpacked step_in byte_of
tells_step x h =
    let f = word_fields x h in
    let b = byte-apart x.level x.old h.fits.old in
    let m = mac_number x.mac in
    record {
      number = f.number;
      hop = f.hop;
      delivered = f.delivered;
      index = f.index;
      next = f.next;
      port = f.port;
      back = f.back;
      level = ap (λ (y : ℕ). y / 64) f.back ∙ b.0;
      old = ap (λ (y : ℕ). y % 64) f.back ∙ b.1;
      mac = ap (λ (y : ℕ). y ∷ m / 4294967296 % 256 ∷ m / 16777216 % 256 ∷ m / 65536 % 256 ∷ m / 256 % 256 ∷ m % 256 ∷ []) (high m (omega (arith, mac-made x.mac h.long, h.mac.at 0, h.mac.at 1, h.mac.at 2, h.mac.at 3, h.mac.at 4, h.mac.at 5))) ∙ ap (λ (y : Step). y.mac) (unpack_packed x h);
      route = ap (λ (r : Refusal). r.route) h.fits.place;
      no_earlier = (ap earlier_route h.fits.place, ap earlier_hop h.fits.place);
    }
  where
    high : (m : ℕ) → m < 281474976710656 → m / 1099511627776 ≡ m / 1099511627776 % 256
    high m p = omega arith

-- what a dead switch comes to as a number, and what is read out of it
dead-value : (x : DeadSwitch) → (x.level ≤ 3) × (x.number < 4096) → cond x.found (16777216 + 65536 * x.level + x.number) 0 < 4294967296
dead-value x h = go x.found
  where
    go : (b : Bool) → cond b (16777216 + 65536 * x.level + x.number) 0 < 4294967296
    go true = omega (arith, h.0, h.1)
    go false = lit< tt

dead_parts : (x : DeadSwitch) → (x.level ≤ 3) × (x.number < 4096) → (x.found ≡ false → (x.level ≡ 0) × (x.number ≡ 0)) → (v : ℕ) → v ≡ cond x.found (16777216 + 65536 * x.level + x.number) 0 → DeadParts v x
dead_parts x h k v e = go x.found refl e
  where
    go : (b : Bool) → x.found ≡ b → v ≡ cond b (16777216 + 65536 * x.level + x.number) 0 → DeadParts v x
    go true q f = record { found = ap (λ (y : ℕ). y / 16777216) f ∙ omega (arith, h.0, h.1) ∙ sym (ap (λ (y : Bool). cond y 1 0) q); level = omega (arith, h.0, h.1); number = omega (arith, h.0, h.1) }
    go false q f = let z = k q in record { found = omega arith ∙ sym (ap (λ (y : Bool). cond y 1 0) q); level = omega (arith, z.0); number = omega (arith, z.1) }

-- what is read out of the number of a hop
hop_parts : (x : Hop) → HopFit x → (v : ℕ) → v ≡ x.next + 65536 * (64 * x.level + x.old) → HopParts v x
hop_parts x h v e =
    record { next = omega (arith, e, h.next, h.level, h.old); level = omega (arith, e, h.next, h.level, h.old); old = omega (arith, e, h.next, h.level, h.old) }

pub every-word : EveryWord
unfolding between_word asked_word dead_word byte_of
every-word =
    record {
      shape = λ s. tells (plain-small (shape_refusal s) (one_le 255 refl (shape-numbers s)));
      servers = λ s. tells (servers-small s);
      bounds = λ s l. tells (bound-small s l);
      switches = λ s l. tells (switches-small s l);
      server-at = λ s l w v. tells (server-at-small s l w v);
      path_byte = λ s l v. tells (byte_small s l v);
      path_byte_parts = λ s b. tells (parts_found s b _ refl).small;
      hop_of = λ s a b. tells (hop-found s a b _ refl).small;
      hop_parts = λ s a b. let f = hop-found s a b (hop_answer s a b) refl in hop_parts (hop_answer s a b) f _ (tells f.small).value;
      digits = λ s a. tells (digits-fits s a 0 (lit< tt) refl);
      one_digit = λ s a l. tells (digit-small s a l);
      address = λ s d0 d1 d2 d3. tells (address-small s (d0 ∷ d1 ∷ d2 ∷ d3 ∷ []) refl);
      switch = λ s a l. tells (switch-small s a l);
      neighbour = λ s a l v. tells (neighbour-small s a l v);
      parent = λ s a l x. tells (parent-small s a l x);
      tree = λ s a l. tells (tree-small s a l);
      between = λ s a b. tells (between-fits s a b _ (level-small (between_answer s a b).adjacent (between_answer s a b).level (between-level s a b refl)) refl);
      failed_link = λ s t a l. tells (asked-fits s t a l _ (bit-small (failed_answer s t a l).failed) refl);
      mark_or_clear = λ s t c a l. tells (link_fits s t c a l refl);
      mark_or_clear_server = λ s t c a. tells (server-fits s t c a refl);
      dead-switch = λ s t c. tells (dead_with s t c refl _ (dead-value (dead_answer s t c) (dead-small s t c)));
      dead_parts = λ s t c.
          dead_parts (dead_answer s t c) (dead-small s t c) (dead-zeros s t c) _
          (tells {r = (dead_answer s t c).refusal} (dead_with s t c refl _ (dead-value (dead_answer s t c) (dead-small s t c)))).value;
      summarize = λ s t c. tells (fresh-fits s t c refl);
      read = λ s a d bs. tells (read_small s a d bs);
      write = λ s vs. tells (write-small s vs);
      reversed = λ s a d bs. tells (reverse-small s a d bs);
      check = λ s t a d bs. tells (check-small s t a d bs);
      build = λ s a d. tells (build-small s a d _ refl);
      find = λ s t a d w lent path x. said x.says (find-small x.answer x.finding);
      select = λ s t a d w lent routes x. said x.says (select-small x.answer x.selecting);
      pick = λ s t a d fs ks. tells (pick_small s t a d fs ks _ refl);
      step = λ s a d i bs e h. (tells_step (step_answer s a d i bs e) (step_small s a d i bs e h), step_unpacks s a d i bs e h);
    }

-- ---- lent buffers

-- what an answer of a refusal's number leaves
held : (r : ℕ) (lent written : List ℕ) → Holds r lent written (left r lent written)
held r lent written = record { written = λ e. sym (left-given r lent written e); kept = λ n. sym (left_lent r lent written n) }

-- the same of a word that tells the number, and a buffer that was left so
told : (w : Answer) {r : Refusal} (v : ℕ) {lent written now : List ℕ} → Tells w r v → now ≡ left r.number lent written → Holds (refusal_in w).number lent written now
told w {r} v {lent} {written} {now} h e =
    subst (λ (m : ℕ). Holds m lent written now) (ap (λ (x : Refusal). x.number) (sym h.refusal))
    (subst (Holds r.number lent written) (sym e) (held r.number lent written))

changed : (q : ℕ) (t u : List ℕ) → Holds q t u (answer q (λ r. t) u)
changed zero t u = record { written = λ e. refl; kept = λ n. absurd (n refl) }
changed (suc q) t u = record { written = λ e. let z : ⊥ = omega arith in absurd z; kept = λ n. refl }

-- the same of an answer that is a number
numbers-changed : (q v : ℕ) (t u : List ℕ) → Holds (answer q no_number (a_number v)).refusal.number t u (answer q (λ r. t) u)
numbers-changed zero v t u = changed zero t u
numbers-changed (suc q) v t u = changed (suc q) t u

pub every_buffer : EveryBuffer
unfolding tree_answer tree_left link_answer link_table link_summary changed_server server_answer server_table server_summary fresh_answer fresh_summary
every_buffer =
    record {
      marked = λ s t c a l. changed _ t _;
      marked_summary = λ s t c a l. changed _ c _;
      cleared = λ s t c a l. changed _ t _;
      cleared_summary = λ s t c a l. changed _ c _;
      marked_server = λ s t c a. changed _ t _;
      marked_server_summary = λ s t c a. changed _ c _;
      cleared_server = λ s t c a. changed _ t _;
      cleared_server_summary = λ s t c a. changed _ c _;
      summarized = λ s t c. changed _ c _;
      tree = λ s a l lent. numbers-changed (link_refusal s a l) (servers_of s) lent _;
      laid = λ s t a d bs r u h. h.kept;
      digits = λ s a lent. held _ lent _;
      read = λ s a d bs lent. held _ lent _;
      write = λ s vs lent. held _ lent _;
      reversed = λ s a d bs lent. held _ lent _;
      build = λ s a d lent. held _ lent _;
      find = λ s t a d w lent path x. told w _ (said x.says (find-small x.answer x.finding)) x.leaves;
      select = λ s t a d w lent routes x. told w _ (said x.says (select-small x.answer x.selecting)) x.leaves;
    }
