-- How many of the moves each pass serves, counted one after another.
use Rattle.std.proofs.Common.{◌≡◌, ◌≢◌, ◌⊎◌, ℕ, ◌+◌, ◌%◌, ◌<◌, ◌≤◌, ◌==◌, Bool, true, false, if◌then◌else◌, List, [], ◌∷◌, length, map, take, get_or, slice_index, slice_set, inl, inr, refl, sym, ap, ◌∙◌, length-append, length-take-le, get_or-set_same, get_or-set_other, mod-lt, length-set, arith}
use Rattle.std.proofs.lemmas.Bool.{cases_eq, eq-eqb, ne_eqb}
use Rattle.std.proofs.lemmas.List.{length-map}
use Rattle.entity_recs.specs.declared.cmd.Cmd.{Cmd}
use Rattle.entity_recs.specs.Commands.{Command, command_of}
use Rattle.move_phase.specs.Serving.{served_by}
use Rattle.move_phase.specs.Running.{HaveRoom}
use Rattle.move_phase.proofs.Running.{served_next}

-- a pass serves at most all
served_at_most : (passes number : ℕ) (commands : List Command) → length (served_by passes number commands) ≤ length commands
served_at_most passes number [] = omega arith
served_at_most passes number (c ∷ commands) =
    let rest = served_at_most passes number commands in
    by (c.slot % passes == number) rest
  where
    by : (b : Bool) → length (served_by passes number commands) ≤ length commands
        → length (if b then c ∷ served_by passes number commands else served_by passes number commands) ≤ length (c ∷ commands)
    by true rest = omega (arith, rest)
    by false rest = omega (arith, rest)

module _ (passes : ℕ) (moves : List Cmd) (i : ℕ) (m : Cmd) (inside : i < length moves) (is : m ≡ get_or moves i m) (rooms : List ℕ)
    (room : HaveRoom passes (map command_of (take i moves)) rooms) (w : ℕ) (w_is : w ≡ m.slot % passes) (some : 0 < passes) where
  worker_is : w < passes
  worker_is = let below = mod-lt m.slot some in omega (arith, w_is, below)

  -- the count of one worker isn't above that of the moves
  pub room_small : slice_index rooms w ≤ i
  room_small =
      let count = room.each w worker_is in
      let most = served_at_most passes w (map command_of (take i moves)) in
      let long = length-map (take i moves) command_of in
      let short : length (take i moves) ≡ i = length-take-le i moves (omega (arith, inside)) in
      omega (arith, count, most, long, short)

  -- with one more of its moves
  pub room_next : HaveRoom passes (map command_of (take (i + 1) moves)) (slice_set rooms w (slice_index rooms w + 1))
  room_next = record {
    enough = omega (arith, room.enough, length-set rooms w (slice_index rooms w + 1));
    each = λ j within. each j within (cases_eq j w);
  }
    where
      grown : (j : ℕ) → length (served_by passes j (map command_of (take (i + 1) moves)))
          ≡ length (served_by passes j (map command_of (take i moves))) + length (served_by passes j (command_of m ∷ []))
      grown j =
          ap length (served_next passes j moves i m inside is)
          ∙ length-append (served_by passes j (map command_of (take i moves))) (served_by passes j (command_of m ∷ []))

      own : (j : ℕ) → (b : Bool) → (m.slot % passes == j) ≡ b → length (served_by passes j (command_of m ∷ [])) ≡ (if b then 1 else 0)
      own j true e = rw e refl
      own j false e = rw e refl

      each : (j : ℕ) → j < passes → (j ≡ w) ⊎ (j ≢ w)
          → slice_index (slice_set rooms w (slice_index rooms w + 1)) j ≡ length (served_by passes j (map command_of (take (i + 1) moves)))
      each j within (inl same) =
          let at : slice_index (slice_set rooms w (slice_index rooms w + 1)) j ≡ slice_index rooms w + 1 =
          ap (λ (k : ℕ). slice_index (slice_set rooms w (slice_index rooms w + 1)) k) same
          ∙ get_or-set_same rooms w (slice_index rooms w + 1) 0 (omega (arith, worker_is, room.enough)) in
          let was = ap (λ (k : ℕ). slice_index rooms k) (sym same) ∙ room.each j within in
          let one = own j true (eq-eqb (m.slot % passes) j (sym w_is ∙ sym same)) in
          omega (arith, at, was, one, grown j)
      each j within (inr apart) =
          let at = get_or-set_other rooms w j (slice_index rooms w + 1) 0 apart in
          let was = room.each j within in
          let none = own j false (ne_eqb (m.slot % passes) j (λ e. apart (sym e ∙ sym w_is))) in
          omega (arith, at, was, none, grown j)
