-- The commands of a history are among the moves that it was read off.
use Rattle.std.specs.Prelude.{◌≡◌, Bool, true, false, List, [], ◌∷◌, map, find, All, Option, Some, None, if◌then◌else◌}
use Rattle.std.proofs.Common.{subst}
use Rattle.std.proofs.lemmas.Option.{same_Some}
use Rattle.std.proofs.lemmas.List.Elements.{All-head, All-tail, All-nil, All-cons}
use Rattle.entity_recs.specs.Commands.{Command}
use Rattle.entity_recs.specs.declared.effect.Entry.{Entry}
use Rattle.entity_recs.specs.Histories.{Item}
use Rattle.move_journal.specs.Merges.{is_entry_of, with_command, history_of}

-- the first of two is what is found, or something in the rest
found_at : (P : Command → Type 0) (b : Bool) (m : Command) (rest : Option Command) (c : Command) → (if b then Some m else rest) ≡ Some c → P m
    → (rest ≡ Some c → P c) → P c
found_at P true m rest c is here there = subst P (same_Some m c is) here
found_at P false m rest c is here there = there is

-- what is found among moves has what all of them have
found_has : (P : Command → Type 0) (p : Command → Bool) (moves : List Command) (c : Command) → find p moves ≡ Some c → All P moves → P c
found_has P p [] c is all = cc
found_has P p (m ∷ moves) c is all =
    found_at P (p m) m (find p moves) c is (All-head P m moves all) (λ there. found_has P p moves c there (All-tail P m moves all))

more_have : (P : Command → Type 0) (o : Option Command) (e : Entry) (items : List Item) → ((c : Command) → o ≡ Some c → P c) → All P (map (λ item. item.command) items)
    → All P (map (λ item. item.command) (with_command o e items))
more_have P None e items here rest = rest
more_have P (Some c) e items here rest = All-cons P c (map (λ (item : Item). item.command) items) (here c refl_some) rest
  where
    refl_some : ◌≡◌ {A = Option Command} (Some c) (Some c)
    refl_some = λ i. Some c

-- the commands of a journal's history have what all moves have
pub history_has : (P : Command → Type 0) (moves : List Command) (journal : List Entry) → All P moves
    → All P (map (λ item. item.command) (history_of moves journal))
history_has P moves [] all = All-nil P
history_has P moves (e ∷ journal) all =
    more_have P (find (is_entry_of e) moves) e (history_of moves journal) (λ c is. found_has P (is_entry_of e) moves c is all) (history_has P moves journal all)
