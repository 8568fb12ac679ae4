-- What moves that run in a row leave: a legal history, a merge, and the one journal that is_entry_of them in their order.
use Rattle.std.specs.Prelude.{◌≡◌, ℕ, suc, ◌+◌, ◌==◌, List, [], ◌∷◌, ◌++◌, length}
use Rattle.std.proofs.Common.{refl, ap, subst, inl, inr, arith}
use Rattle.std.proofs.lemmas.Bool.{cases_Bool}
use Rattle.entity_recs.specs.Commands.{Command}
use Rattle.entity_recs.specs.Worlds.{World}
use Rattle.entity_recs.specs.Histories.{Action, Item, IsLegal, outcome, apply, run, entry_of, entries_in_order}
use Rattle.move_journal.specs.Merges.{reported_numbers, sent_numbers, IsInOrder}
use Rattle.move_journal.proofs.Founds.{items_in_order}

-- a legal history, the first entry of which has this place
pub record IsLegalFrom (act : Action) (place : ℕ) (w : World) (history : List Item) : Type 0 where
  pub each : (before : List Item) (item : Item) (following : List Item) → history ≡ before ++ item ∷ following
      → item.entry ≡ entry_of (place + length before) item.command (outcome act (run act w before) item.command)

-- the entry at the front of a history of commands that run in order
front_entry : (act : Action) (w : World) (place : ℕ) (c : Command) (items : List Item) (item : Item) (following : List Item)
    → record { command = c; entry = entry_of place c (outcome act w c) } ∷ items ≡ item ∷ following
    → item.entry ≡ entry_of (place + 0) item.command (outcome act w item.command)
front_entry act w place c items item following same =
    let first : ◌≡◌ {A = Item} (record { command = c; entry = entry_of place c (outcome act w c) }) item = cc in
    subst (λ (i : Item). i.entry ≡ entry_of (place + 0) i.command (outcome act w i.command)) first
    (ap (λ (p : ℕ). entry_of p c (outcome act w c)) (let none : place ≡ place + 0 = omega arith in none))

-- each entry of commands that run in order is that of its command after those before it
entry_in_order : (act : Action) (w : World) (place : ℕ) (commands : List Command) (before : List Item) (item : Item) (following : List Item)
    → items_in_order act w place commands ≡ before ++ item ∷ following
    → item.entry ≡ entry_of (place + length before) item.command (outcome act (run act w before) item.command)
entry_in_order act w place [] [] item following same = cc
entry_in_order act w place [] (b ∷ before) item following same = cc
entry_in_order act w place (c ∷ commands) [] item following same =
    front_entry act w place c (items_in_order act (apply act w c) (place + 1) commands) item following same
entry_in_order act w place (c ∷ commands) (b ∷ before) item following same =
    let first : ◌≡◌ {A = Item} (record { command = c; entry = entry_of place c (outcome act w c) }) b = cc in
    let rest : items_in_order act (apply act w c) (place + 1) commands ≡ before ++ item ∷ following = cc in
    let later = entry_in_order act (apply act w c) (place + 1) commands before item following rest in
    let places : place + 1 + length before ≡ place + suc (length before) = omega arith in
    let moved = subst (λ (p : ℕ). item.entry ≡ entry_of p item.command (outcome act (run act (apply act w c) before) item.command)) places later in
    subst (λ (i : Item). item.entry ≡ entry_of (place + suc (length before)) item.command (outcome act (run act (apply act w i.command) before) item.command)) first moved

-- the history of commands that run in order is legal
pub legal_in_order : (act : Action) (w : World) (place : ℕ) (commands : List Command) → IsLegalFrom act place w (items_in_order act w place commands)
legal_in_order act w place commands = record { each = entry_in_order act w place commands }

-- of each player their entries have the numbers of its commands
pub player_items_in_order : (act : Action) (slot : ℕ) (w : World) (place : ℕ) (commands : List Command)
    → reported_numbers slot (entries_in_order act w place commands) ≡ sent_numbers slot commands
player_items_in_order act slot w place [] = refl
player_items_in_order act slot w place (c ∷ commands) =
    let tail = player_items_in_order act slot (apply act w c) (place + 1) commands in
    elim (cases_Bool (c.slot == slot)) [ inl e ↦ rw e (cc) | inr e ↦ rw e tail ]

-- their entries have them in their order
pub order_in_order : (act : Action) (w : World) (place : ℕ) (commands : List Command) → IsInOrder (entries_in_order act w place commands) commands
order_in_order act w place [] = refl
order_in_order act w place (c ∷ commands) =
    let tail = order_in_order act (apply act w c) (place + 1) commands in
    cc

-- a legal history whose first entry has place 0
pub legal_from_first : (act : Action) (w : World) (history : List Item) → IsLegalFrom act 0 w history → IsLegal act w history
legal_from_first act w history legal = record {
  each = λ before item following parts.
      let places : 0 + length before ≡ length before = omega arith in
      subst (λ (p : ℕ). item.entry ≡ entry_of p item.command (outcome act (run act w before) item.command)) places (legal.each before item following parts);
}
