-- Turns of all seats, and what they end from the start on.
use Rattle.std.proofs.Common.{◌≡◌, ℕ, zero, suc, ◌+◌, ◌<◌, ◌≤◌, Bool, true, false, List, [], ◌∷◌, length, refl, sym, ap, ◌∙◌, subst, inl, inr, is_some, arith}
use Rattle.std.specs.Prelude.{◌==◌, map}
use Rattle.std.specs.List.{range_with_len, list_any}
use Rattle.std.proofs.lemmas.Bool.{cases_Bool, true≢false, or_left, or_right, eq-eqb, eqb-true}
use Rattle.core_steps.specs.Nodes.{Fixed}
use Rattle.core_steps.specs.Stands.{IsLawful, IsStart}
use Rattle.core_steps.specs.Machine.{Machine, next_of}
use Rattle.core_steps.specs.Calls.{Call, Go, after_call, after_calls, has_command, start_machine, MayAllBeCalled, StandsSomehow}
use Rattle.core_steps.proofs.Nexts.{next_exists}
use Rattle.core_steps.proofs.Reached.{each_machine_stands}
use Rattle.core_progress.specs.Progress.{commands_given, commands_in, lets_go, AreRounds, after_rounds, turns, after_turns}
use Rattle.core_progress.specs.Laws.{TurnsAreRounds, TurnsEndAllCommands, CommandsInHandAreSeen}
use Rattle.core_progress.proofs.Serving.{served_next}
use Rattle.core_progress.proofs.Calls.{below_made}
use Rattle.core_progress.proofs.Rounds.{stands_after, rounds_end}
use Rattle.core_progress.proofs.Ends.{commands_take_few_steps}

later : (a b : ℕ) → (a == b) ≡ false → a ≤ b → a + 1 ≤ b
later a b other least = let differ : a ≡ b → ⊥ = λ same. true≢false (sym (eq-eqb a b same) ∙ other) in omega (arith, differ, least)

turns_may : (F : Fixed) (m : Machine) (low n : ℕ) → MayAllBeCalled F m (map Go (range_with_len low n))
turns_may F m low zero = tt
turns_may F m low (suc n) = (tt, turns_may F (after_call F m (Go low)) (low + 1) n)

turns_go : (i low n : ℕ) → low ≤ i → i < low + n → lets_go i (map Go (range_with_len low n)) ≡ true
turns_go i low zero least most = absurd (omega (arith, least, most))
turns_go i low (suc n) least most = elim (cases_Bool (low == i)) [
  | inl same ↦ or_left _ _ same
  | inr other ↦ or_right _ _ (turns_go i (low + 1) n (later low i other least) (omega (arith, most)))
]

pub turns_are_rounds : TurnsAreRounds
turns_are_rounds F m history now is = record {
  may = turns_may F m 0 (m.core.view 0).made;
  each = λ i can.
      let next = served_next m.core.words (m.core.view i) (next_of F m i) can in
      let below = below_made F m history now i is (sym (next_exists F m history now i is) ∙ ap is_some next.is) in
      turns_go i 0 (m.core.view 0).made (omega arith) (omega (arith, below));
}

-- ---- turns after turns

none_given : (low n : ℕ) → commands_given (map Go (range_with_len low n)) ≡ 0
none_given low zero = refl
none_given low (suc n) = none_given (low + 1) n

many_turns : Fixed → Machine → ℕ → List (List Call)
many_turns F m zero = []
many_turns F m (suc n) = turns m ∷ many_turns F (after_calls F m (turns m)) n

-- so many turns are so many rounds, which give no command
record AreTurns (F : Fixed) (m : Machine) (n : ℕ) (rounds : List (List Call)) : Type 0 where
  each : AreRounds F m rounds
  none : commands_in rounds ≡ 0
  many : length rounds ≡ n
  after : after_rounds F m rounds ≡ after_turns F m n

are_turns : (F : Fixed) (m : Machine) (n : ℕ) → IsLawful F → IsStart F → StandsSomehow F m → AreTurns F m n (many_turns F m n)
unfolding many_turns
are_turns F m zero lawful start is = record { each = tt; none = refl; many = refl; after = refl }
are_turns F m (suc n) lawful start is =
    let round = turns_are_rounds F m is.history is.now is.stands in
    let rest = are_turns F (after_calls F m (turns m)) n lawful start (stands_after F m (turns m) lawful start round.may is) in
    let first = none_given 0 (m.core.view 0).made in
    let none = rest.none in
    let many = rest.many in
    record { each = (round, rest.each); none = omega (arith, first, none); many = omega (arith, many); after = rest.after }

pub turns_end_all_commands : TurnsEndAllCommands
turns_end_all_commands F room rooms calls n lawful start depth may enough i =
    let m = after_calls F (start_machine F room rooms) calls in
    let is = each_machine_stands F room rooms calls lawful start may in
    let are = are_turns F m n lawful start is in
    let few = commands_take_few_steps F room rooms calls lawful start depth may in
    let many = are.many in
    subst (λ (end : Machine). has_command end i ≡ false) are.after
    (rounds_end F m (many_turns F m n) lawful start depth is are.each are.none (omega (arith, few, enough, many)) i)

-- ---- who has a command in hand

any_there : (test : ℕ → Bool) (i low n : ℕ) → test i ≡ true → low ≤ i → i < low + n → list_any test (range_with_len low n) ≡ true
any_there test i low zero is least most = absurd (omega (arith, least, most))
any_there test i low (suc n) is least most = elim (cases_Bool (low == i)) [
  | inl same ↦ or_left _ _ (subst (λ (j : ℕ). test j ≡ true) (sym (eqb-true low i same)) is)
  | inr other ↦ or_right _ _ (any_there test i (low + 1) n is (later low i other least) (omega (arith, most)))
]

pub commands_in_hand_are_seen : CommandsInHandAreSeen
commands_in_hand_are_seen F m history now i is has =
    let below = below_made F m history now i is has in
    any_there (has_command m) i 0 (m.core.view 0).made has (omega arith) (omega (arith, below))
