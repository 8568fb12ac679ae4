-- The history of a merge loses no entry and no move: each entry takes the first of its player's moves that are left.
use Rattle.std.specs.Prelude.{◌≡◌, ℕ, ◌==◌, true, false, List, [], ◌∷◌, map, filter, All, if◌then◌else◌}
use Rattle.std.specs.List.Sorted.{IsPermutation}
use Rattle.std.proofs.Common.{refl, sym, ap, ◌∙◌, subst, inl, inr}
use Rattle.std.proofs.lemmas.Bool.{cases_Bool, eq-eqb, eqb-true, and_from}
use Rattle.std.proofs.lemmas.List.Elements.{All-nil, All-cons, All-head, All-tail}
use Rattle.std.proofs.lemmas.List.Sorted.{All-permutation, IsPermutation-refl, IsPermutation-sym, IsPermutation-trans, IsPermutation-cons, IsPermutation-middle}
use Rattle.entity_recs.specs.Commands.{Command}
use Rattle.entity_recs.specs.declared.effect.Entry.{Entry}
use Rattle.entity_recs.specs.Histories.{Item}
use Rattle.move_journal.specs.Merges.{IsMerge, IsWholeHistory, reported_numbers, sent_numbers, is_entry_of, history_of}
use Rattle.move_journal.proofs.Founds.{IsFound}
use Rattle.move_journal.proofs.Uniques.{HasNumberOf, looked_up_command, front_of_history}

-- one player's moves
abbrev pub sent_by : ℕ → List Command → List Command
sent_by slot moves = filter (λ c. c.slot == slot) moves

-- a player's first move, and all other moves, of this player and of others, in their order
pub record IsFront (slot : ℕ) (moves : List Command) (c : Command) (rest : List Command) : Type 0 where
  pub own : c.slot ≡ slot
  pub first : sent_by slot moves ≡ c ∷ sent_by slot rest
  pub others : (other : ℕ) → (slot == other) ≡ false → sent_by other moves ≡ sent_by other rest
  pub parts : IsPermutation (c ∷ rest) moves

-- a player's first move with all other moves
pub record Front (slot : ℕ) (moves : List Command) : Type 0 where
  pub command : Command
  pub rest : List Command
  pub is : IsFront slot moves command rest

-- where the first of all moves is the player's
front_here : (slot : ℕ) (m : Command) (moves : List Command) → (m.slot == slot) ≡ true → Front slot (m ∷ moves)
front_here slot m moves own =
    let same : m.slot ≡ slot = eqb-true m.slot slot own in
    record {
      command = m;
      rest = moves;
      is = record {
        own = same;
        first = rw own refl;
        others = λ other differs. rw (same, differs) refl;
        parts = IsPermutation-refl (m ∷ moves);
      };
    }

-- a move in front of which another player's is put
front_after : (slot : ℕ) (m : Command) (moves : List Command) → (m.slot == slot) ≡ false → Front slot moves → Front slot (m ∷ moves)
front_after slot m moves other front =
    let c = front.command in
    let rest = front.rest in
    record {
      command = c;
      rest = m ∷ rest;
      is = record {
        own = front.is.own;
        first = rw other front.is.first;
        others = λ slot' differs. ap (λ (ms : List Command). if m.slot == slot' then m ∷ ms else ms) (front.is.others slot' differs);
        parts = IsPermutation-trans (c ∷ m ∷ rest) (m ∷ c ∷ rest) (m ∷ moves)
            (IsPermutation-sym (m ∷ c ∷ rest) (c ∷ m ∷ rest) (IsPermutation-middle (m ∷ []) c rest))
            (IsPermutation-cons m (c ∷ rest) moves front.is.parts);
      };
    }

-- a player who sent a number has a first move
front_of : (slot n : ℕ) (numbers : List ℕ) (moves : List Command) → n ∷ numbers ≡ sent_numbers slot moves → Front slot moves
front_of slot n numbers [] sent = cc
front_of slot n numbers (m ∷ moves) sent =
    elim (cases_Bool (m.slot == slot)) [
      | inl own ↦ front_here slot m moves own
      | inr other ↦ front_after slot m moves other (front_of slot n numbers moves (rw other at sent))
    ]

-- where no player sent a number there is no move
none_sent : (moves : List Command) → IsMerge [] moves → moves ≡ []
none_sent [] merge = refl
none_sent (m ∷ moves) merge =
    let none = merge.each m.slot in
    let bad = rw (eq-eqb m.slot m.slot refl) at none in
    cc

-- what its first entry's player sent, by a journal that is a merge
sent_at_front : (e : Entry) (journal : List Entry) (moves : List Command) → IsMerge (e ∷ journal) moves
    → e.seq ∷ reported_numbers e.slot journal ≡ sent_numbers e.slot moves
sent_at_front e journal moves merge = rw (eq-eqb e.slot e.slot refl) at (merge.each e.slot)

-- a player's numbers in a journal that its entry heads, and in the moves that its first move heads
numbers_at_front : (e : Entry) (journal : List Entry) (moves : List Command) (c : Command) (rest : List Command) → IsMerge (e ∷ journal) moves
    → IsFront e.slot moves c rest → e.seq ∷ reported_numbers e.slot journal ≡ c.seq ∷ sent_numbers e.slot rest
numbers_at_front e journal moves c rest merge front =
    sent_at_front e journal moves merge ∙ ap (map (λ m. m.seq)) front.first

-- the journal's first entry has the number of its player's first move
front_number : (e : Entry) (journal : List Entry) (moves : List Command) (c : Command) (rest : List Command) → IsMerge (e ∷ journal) moves
    → IsFront e.slot moves c rest → HasNumberOf e c
front_number e journal moves c rest merge front =
    let numbers = numbers_at_front e journal moves c rest merge front in
    record { slot = sym front.own; seq = cc }

-- the rest of the journal is a merge of the other moves
rest_merges : (e : Entry) (journal : List Entry) (moves : List Command) (c : Command) (rest : List Command) → IsMerge (e ∷ journal) moves
    → IsFront e.slot moves c rest → IsMerge journal rest
rest_merges e journal moves c rest merge front =
    let numbers = numbers_at_front e journal moves c rest merge front in
    let own : reported_numbers e.slot journal ≡ sent_numbers e.slot rest = cc in
    record {
      each = λ slot. elim (cases_Bool (e.slot == slot)) [
        | inl same ↦ subst (λ (s : ℕ). reported_numbers s journal ≡ sent_numbers s rest) (eqb-true e.slot slot same) own
        | inr differs ↦
            let looked_up : reported_numbers slot journal ≡ sent_numbers slot moves = rw differs at (merge.each slot) in
            looked_up ∙ ap (map (λ m. m.seq)) (front.others slot differs)
      ];
    }

-- a whole history of the other moves, with the entry of a player's first move in front, is whole
whole_with_front : (e : Entry) (journal : List Entry) (moves : List Command) (c : Command) (rest : List Command) (items : List Item) → HasNumberOf e c
    → IsFront e.slot moves c rest → IsWholeHistory journal rest items → IsWholeHistory (e ∷ journal) moves (record { command = c; entry = e } ∷ items)
whole_with_front e journal moves c rest items number front whole = record {
  entries = ap (λ (es : List Entry). e ∷ es) whole.entries;
  matched = All-cons (λ (item : Item). is_entry_of item.entry item.command ≡ true) (record { command = c; entry = e }) items
      (and_from (c.slot == e.slot) (c.seq == e.seq) (eq-eqb c.slot e.slot (sym number.slot)) (eq-eqb c.seq e.seq (sym number.seq))) whole.matched;
  sent = λ slot. elim (cases_Bool (e.slot == slot)) [
    | inl same ↦
        let here : (c.slot == slot) ≡ true = ap (λ (s : ℕ). s == slot) front.own ∙ same in
        let first : sent_by slot moves ≡ c ∷ sent_by slot rest =
        subst (λ (s : ℕ). sent_by s moves ≡ c ∷ sent_by s rest) (eqb-true e.slot slot same) front.first in
        rw here (ap (λ (ms : List Command). c ∷ ms) (whole.sent slot) ∙ sym first)
    | inr differs ↦
        let elsewhere : (c.slot == slot) ≡ false = ap (λ (s : ℕ). s == slot) front.own ∙ differs in
        rw elsewhere (whole.sent slot ∙ sym (front.others slot differs))
  ];
  each_once = IsPermutation-trans (c ∷ map (λ item. item.command) items) (c ∷ rest) moves
      (IsPermutation-cons c (map (λ item. item.command) items) rest whole.each_once) front.parts;
}

-- the history of a merge is whole, where each of the moves is found
pub whole_history : (all : List Command) (journal : List Entry) (moves : List Command) → All (IsFound all) moves → IsMerge journal moves
    → IsWholeHistory journal moves (history_of all journal)
whole_history all [] moves found merge = subst (λ (ms : List Command). IsWholeHistory [] ms []) (sym (none_sent moves merge)) (record {
  entries = refl;
  matched = All-nil (λ (item : Item). is_entry_of item.entry item.command ≡ true);
  sent = λ slot. refl;
  each_once = IsPermutation-refl [];
})
whole_history all (e ∷ journal) moves found merge =
    let front = front_of e.slot e.seq (reported_numbers e.slot journal) moves (sent_at_front e journal moves merge) in
    let c = front.command in
    let rest = front.rest in
    let number = front_number e journal moves c rest merge front.is in
    let parts = IsPermutation-sym (c ∷ rest) moves front.is.parts in
    let found_parts = All-permutation (IsFound all) moves (c ∷ rest) parts found in
    let looked_up = looked_up_command all e c (All-head (IsFound all) c rest found_parts) number in
    let whole = whole_history all journal rest (All-tail (IsFound all) c rest found_parts) (rest_merges e journal moves c rest merge front.is) in
    subst (λ (items : List Item). IsWholeHistory (e ∷ journal) moves items) (sym (front_of_history all e journal c looked_up))
    (whole_with_front e journal moves c rest (history_of all journal) number front.is whole)
