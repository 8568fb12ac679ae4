-- Each entry of moves that run in a row is_entry_of the move that it was made of, where the numbers are apart.
use Rattle.std.specs.Prelude.{◌≡◌, ℕ, ◌+◌, ◌==◌, true, false, List, [], ◌∷◌, find, Some}
use Rattle.std.specs.List.{IsDistinct, AllByRecursion}
use Rattle.std.proofs.Common.{refl, ◌∙◌}
use Rattle.std.proofs.lemmas.Bool.{eq-eqb, and_from, cond-true, cond-false}
use Rattle.entity_recs.specs.Commands.{Command, is_same_move}
use Rattle.entity_recs.specs.Worlds.{World}
use Rattle.entity_recs.specs.Histories.{Action, Item, outcome, apply, entry_of, entries_in_order}
use Rattle.move_journal.specs.Merges.{history_of, HasNumbersApart}

-- the first of the moves with this command's player and number is this command
pub record IsFound (moves : List Command) (c : Command) : Type 0 where
  pub first : find (λ d. is_same_move d c) moves ≡ Some c

-- a command has its own player and number
same_as_itself : (c : Command) → is_same_move c c ≡ true
same_as_itself c = and_from (c.slot == c.slot) (c.seq == c.seq) (eq-eqb c.slot c.slot refl) (eq-eqb c.seq c.seq refl)

-- a move with another number doesn't hide what is found after it
found_after : (m : Command) (moves commands : List Command) → AllByRecursion (λ c. is_same_move m c ≡ false) commands
    → AllByRecursion (IsFound moves) commands → AllByRecursion (IsFound (m ∷ moves)) commands
found_after m moves [] differs found = tt
found_after m moves (c ∷ commands) differs found = (
  record { first = cond-false (is_same_move m c) (Some m) (find (λ d. is_same_move d c) moves) differs.0 ∙ found.0.first },
  found_after m moves commands differs.1 found.1,
)

-- each of the moves is found among them
pub each_is_found : (moves : List Command) → HasNumbersApart moves → AllByRecursion (IsFound moves) moves
unfolding IsDistinct
each_is_found [] apart = tt
each_is_found (m ∷ moves) apart = (
  record { first = cond-true (is_same_move m m) (Some m) (find (λ d. is_same_move d m) moves) (same_as_itself m) },
  found_after m moves moves apart.0 (each_is_found moves apart.1),
)

-- the commands that run in this order, each with its entry
abbrev pub items_in_order : Action → World → ℕ → List Command → List Item
items_in_order act w place [] = []
items_in_order act w place (c ∷ commands) =
    record { command = c; entry = entry_of place c (outcome act w c) } ∷ items_in_order act (apply act w c) (place + 1) commands

-- the history of their entries is that
pub history_in_order : (act : Action) (moves : List Command) (w : World) (place : ℕ) (commands : List Command) → AllByRecursion (IsFound moves) commands
    → history_of moves (entries_in_order act w place commands) ≡ items_in_order act w place commands
history_in_order act moves w place [] found = refl
history_in_order act moves w place (c ∷ commands) found =
    let tail = history_in_order act moves (apply act w c) (place + 1) commands found.1 in
    rw (found.0.first, tail)
