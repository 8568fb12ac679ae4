-- A legal history leaves no choice: its entries are those of its commands.
use Rattle.std.specs.Prelude.{◌≡◌, ℕ, suc, ◌+◌, ◌==◌, ◌&&◌, List, [], ◌∷◌, length, find, Option, Some}
use Rattle.std.specs.List.{AllByRecursion}
use Rattle.std.proofs.Common.{refl, sym, ap, subst, arith}
use Rattle.entity_recs.specs.Commands.{Command}
use Rattle.entity_recs.specs.declared.effect.Entry.{Entry}
use Rattle.entity_recs.specs.Worlds.{World}
use Rattle.entity_recs.specs.Histories.{Action, Item, IsLegal, outcome, apply, run, entry_of, entries_in_order}
use Rattle.move_journal.specs.Merges.{history_of, with_command, is_entry_of, IsInOrder, Number}
use Rattle.move_journal.proofs.Founds.{IsFound}
use Rattle.move_journal.proofs.Orders.{IsLegalFrom}

-- the entry is_entry_of a command with its player and its number
pub record HasNumberOf (e : Entry) (c : Command) : Type 0 where
  pub slot : e.slot ≡ c.slot
  pub seq : e.seq ≡ c.seq

-- the first entry of a journal in order has the number of the first command
first_number : (e : Entry) (journal : List Entry) (c : Command) (commands : List Command) → IsInOrder (e ∷ journal) (c ∷ commands) → HasNumberOf e c
first_number e journal c commands order =
    let numbers : ◌≡◌ {A = Number} (record { slot = e.slot; seq = e.seq }) (record { slot = c.slot; seq = c.seq }) = cc in
    record { slot = ap (λ (n : Number). n.slot) numbers; seq = ap (λ (n : Number). n.seq) numbers }

-- the other entries are in order too
rest_in_order : (e : Entry) (journal : List Entry) (c : Command) (commands : List Command) → IsInOrder (e ∷ journal) (c ∷ commands) → IsInOrder journal commands
rest_in_order e journal c commands order = cc

-- the first command with the number of the entry is the command that is found
pub looked_up_command : (moves : List Command) (e : Entry) (c : Command) → IsFound moves c → HasNumberOf e c → find (is_entry_of e) moves ≡ Some c
looked_up_command moves e c found number =
    let by_slot = subst (λ (s : ℕ). find (λ d. (d.slot == s) && (d.seq == c.seq)) moves ≡ Some c) (sym number.slot) found.first in
    subst (λ (s : ℕ). find (λ d. (d.slot == e.slot) && (d.seq == s)) moves ≡ Some c) (sym number.seq) by_slot

-- the history of a journal begins with the command that its first entry is_entry_of
pub front_of_history : (moves : List Command) (e : Entry) (journal : List Entry) (c : Command) → find (is_entry_of e) moves ≡ Some c
    → history_of moves (e ∷ journal) ≡ record { command = c; entry = e } ∷ history_of moves journal
front_of_history moves e journal c found = ap (λ (looked_up : Option Command). with_command looked_up e (history_of moves journal)) found

-- the first entry of a legal history is that of its command
pub first_entry : (act : Action) (place : ℕ) (w : World) (c : Command) (e : Entry) (items : List Item)
    → IsLegalFrom act place w (record { command = c; entry = e } ∷ items) → e ≡ entry_of place c (outcome act w c)
first_entry act place w c e items legal =
    let here : place + 0 ≡ place = omega arith in
    subst (λ (p : ℕ). e ≡ entry_of p c (outcome act w c)) here (legal.each [] (record { command = c; entry = e }) items refl)

-- what is after the first entry is legal from the next place in the world after its command
pub legal_after : (act : Action) (place : ℕ) (w : World) (c : Command) (e : Entry) (items : List Item)
    → IsLegalFrom act place w (record { command = c; entry = e } ∷ items) → IsLegalFrom act (place + 1) (apply act w c) items
legal_after act place w c e items legal = record {
  each = λ before item following parts.
      let next : place + suc (length before) ≡ place + 1 + length before = omega arith in
      subst (λ (p : ℕ). item.entry ≡ entry_of p item.command (outcome act (run act (apply act w c) before) item.command)) next
      (legal.each (record { command = c; entry = e } ∷ before) item following (ap (λ (rest : List Item). record { command = c; entry = e } ∷ rest) parts));
}

-- a journal in the order of these commands, whose history is legal, is the one that running them gives
pub one_journal : (act : Action) (moves : List Command) (place : ℕ) (w : World) (journal : List Entry) (commands : List Command)
    → AllByRecursion (IsFound moves) commands → IsInOrder journal commands → IsLegalFrom act place w (history_of moves journal)
    → journal ≡ entries_in_order act w place commands
one_journal act moves place w [] [] found order legal = refl
one_journal act moves place w [] (c ∷ commands) found order legal = cc
one_journal act moves place w (e ∷ journal) [] found order legal = cc
one_journal act moves place w (e ∷ journal) (c ∷ commands) found order legal =
    let looked_up = looked_up_command moves e c found.0 (first_number e journal c commands order) in
    let whole = subst (IsLegalFrom act place w) (front_of_history moves e journal c looked_up) legal in
    let first = first_entry act place w c e (history_of moves journal) whole in
    let rest = one_journal act moves (place + 1) (apply act w c) journal commands found.1 (rest_in_order e journal c commands order)
    (legal_after act place w c e (history_of moves journal) whole) in
    cc

-- a legal history is legal from place 0
pub legal_at_first : (act : Action) (w : World) (history : List Item) → IsLegal act w history → IsLegalFrom act 0 w history
legal_at_first act w history legal = record {
  each = λ before item following parts.
      let places : length before ≡ 0 + length before = omega arith in
      subst (λ (p : ℕ). item.entry ≡ entry_of p item.command (outcome act (run act w before) item.command)) places (legal.each before item following parts);
}
