-- The entries of a legal history: each has its place and its command's number.
use Rattle.std.specs.Prelude.{◌≡◌, ℕ, ◌+◌, ◌<◌, ◌==◌, List, [], ◌∷◌, ◌++◌, length, map, slice_index_or, Contains}
use Rattle.std.specs.List.{range_with_len}
use Rattle.std.proofs.Common.{refl, sym, ap, ◌∙◌, subst, inl, inr, append_assoc, length-append, arith}
use Rattle.std.proofs.lemmas.Bool.{cases_Bool}
use Rattle.std.proofs.lemmas.List.{get_or-map}
use Rattle.std.proofs.lemmas.List.FromFn.{get_or-range_with_len}
use Rattle.entity_recs.specs.Commands.{Command}
use Rattle.entity_recs.specs.declared.effect.Entry.{Entry}
use Rattle.entity_recs.specs.Worlds.{World}
use Rattle.entity_recs.specs.Histories.{Action, Item, IsLegal, commands_of}
use Rattle.move_journal.specs.Merges.{IsInOrder, history_of, reported_numbers, sent_numbers}
use Rattle.move_journal.proofs.Founds.{IsFound}
use Rattle.move_journal.proofs.Uniques.{HasNumberOf, looked_up_command, front_of_history}
use Rattle.move_phase.specs.Serving.{entries_from}
use Rattle.move_phase.proofs.Rising.{HasRisingKeys, contains_first, contains_later}

-- the item's entry has this place and the number of its command
pub record IsItemAt (place : ℕ) (item : Item) : Type 0 where
  pub place_is : item.entry.place ≡ place
  pub number : HasNumberOf item.entry item.command

-- the items do, the first of which has this place
abbrev pub AreItemsFrom : ℕ → List Item → Type 0
AreItemsFrom place [] = Unit {0}
AreItemsFrom place (item ∷ items) = IsItemAt place item × AreItemsFrom (place + 1) items

module _ (act : Action) (w : World) (history : List Item) (legal : IsLegal act w history) where
  -- each item of a legal history
  item_at : (before : List Item) (item : Item) (later : List Item) → history ≡ before ++ item ∷ later
      → IsItemAt (length before) item
  item_at before item later parts =
      let is = legal.each before item later parts in
      record {
        place_is = ap (λ (e : Entry). e.place) is;
        number = record { slot = ap (λ (e : Entry). e.slot) is; seq = ap (λ (e : Entry). e.seq) is };
      }

  -- each item after those before
  items_after : (before rest : List Item) → history ≡ before ++ rest → AreItemsFrom (length before) rest
  items_after before [] parts = tt
  items_after before (item ∷ rest) parts =
      let later = items_after (before ++ item ∷ []) rest (parts ∙ sym (append_assoc before (item ∷ []) rest)) in
      let count : length (before ++ item ∷ []) ≡ length before + 1 = omega (arith, length-append before (item ∷ [])) in
      (item_at before item rest parts, subst (λ (n : ℕ). AreItemsFrom n rest) count later)

  -- the items of a legal history are in their places
  pub legal_items : AreItemsFrom 0 history
  legal_items = items_after [] history refl

-- their places are the numbers from the first one on
pub places_are : (n : ℕ) (items : List Item) → AreItemsFrom n items
    → map (λ (item : Item). item.entry.place) items ≡ range_with_len n (length items)
places_are n [] are = refl
places_are n (item ∷ items) are =
    let here : item.entry.place ≡ n = are.0.place_is in
    let tail = places_are (n + 1) items are.1 in
    cc

-- keys that are the numbers from one on rise
pub rises_in_row : {X : Type 0} (key : X → ℕ) (n : ℕ) (xs : List X) → map key xs ≡ range_with_len n (length xs) → HasRisingKeys key xs
rises_in_row key n xs row = λ i j d below within.
    let inside : i < length xs = omega (arith, below, within) in
    let at_i : key (slice_index_or xs i d) ≡ n + i =
    sym (get_or-map key xs i d (key d) inside) ∙ ap (λ (ns : List ℕ). slice_index_or ns i (key d)) row ∙ get_or-range_with_len n (length xs) i (key d) inside in
    let at_j : key (slice_index_or xs j d) ≡ n + j =
    sym (get_or-map key xs j d (key d) within) ∙ ap (λ (ns : List ℕ). slice_index_or ns j (key d)) row ∙ get_or-range_with_len n (length xs) j (key d) within in
    omega (arith, below, at_i, at_j)

-- of each player the entries have the numbers of the commands
pub numbers_are : (slot n : ℕ) (items : List Item) → AreItemsFrom n items
    → reported_numbers slot (entries_from items) ≡ sent_numbers slot (commands_of items)
numbers_are slot n [] are = refl
numbers_are slot n (item ∷ items) are =
    let slots : item.entry.slot ≡ item.command.slot = are.0.number.slot in
    let seqs : item.entry.seq ≡ item.command.seq = are.0.number.seq in
    let tail = numbers_are slot (n + 1) items are.1 in
    elim (cases_Bool (item.command.slot == slot)) [ inl e ↦ rw (slots, e) (cc) | inr e ↦ rw (slots, e) tail ]

-- the entries are in the order of the commands
pub order_is : (n : ℕ) (items : List Item) → AreItemsFrom n items → IsInOrder (entries_from items) (commands_of items)
order_is n [] are = refl
order_is n (item ∷ items) are =
    let slots : item.entry.slot ≡ item.command.slot = are.0.number.slot in
    let seqs : item.entry.seq ≡ item.command.seq = are.0.number.seq in
    let tail = order_is (n + 1) items are.1 in
    cc

-- the history of the entries is the items, where each command is found among the moves
pub history_is : (moves : List Command) (n : ℕ) (items : List Item) → AreItemsFrom n items
    → ((item : Item) → Contains items item → IsFound moves item.command) → history_of moves (entries_from items) ≡ items
history_is moves n [] are found = refl
history_is moves n (item ∷ items) are found =
    let looked_up = looked_up_command moves item.entry item.command (found item (contains_first item items)) are.0.number in
    let front = front_of_history moves item.entry (entries_from items) item.command looked_up in
    let tail = history_is moves (n + 1) items are.1 (λ other has. found other (contains_later other item items has)) in
    front ∙ ap (λ (rest : List Item). item ∷ rest) tail
