-- Passes whose seats are ended into the first one's, one after another.
use Rattle.std.proofs.Common.{◌≡◌, ℕ, zero, suc, ◌<◌, ◌≤◌, ◌↔◌, Bool, true, false, IsTrue, List, [], ◌∷◌, ◌++◌, map, length, refl, sym, ap, ◌∙◌, subst, arith, All, slice_index_or, Option, Some, None, drop, append_assoc, length-append, add_assoc}
use Rattle.std.proofs.lemmas.List.{length-map, append-nil}
use Rattle.std.specs.List.{range_with_len}
use Rattle.std.proofs.lemmas.List.Elements.{recursion_from_All, All-from_recursion}
use Rattle.std.specs.Bool.{OnTrue}
use Rattle.std.specs.List.{AllByRecursion}
use Rattle.core_steps.specs.declared.sizes.TheConstants.{MOST_SEATS}
use Rattle.atomic_table.specs.Seated.{TableId}
use Rattle.move_journal.specs.Logs.{JournalView}
use Rattle.core_steps.specs.Nodes.{Fixed}
use Rattle.core_steps.specs.Reads.{Refused}
use Rattle.ruled_words.specs.Sights.{HeldWord, IsOneOf, Tally, tally_of_both, AreRefusalsServed, SightView, with_one_ended}
use Rattle.ruled_words.specs.Going.{IsAtRest}
use Rattle.ruled_words.specs.Passes.{PassView, RefusalIsListed, sight_of, IsPassOf}
use Rattle.shared_moves.specs.Closing.{tally_of_all, AreRefusalsHeld, HasNoCommand, with_passes_ended, sight_at_end, log_from}
use Rattle.ruled_words.proofs.Takings.{one_in_front, one_in_back}
use Rattle.ruled_words.proofs.HandSteps.{no_more}

-- the pass can be ended
pub record CanEnd (table : TableId) (p : PassView) : Type 0 where
  pub at_table : p.table ≡ table
  pub rests : IsAtRest p.view

-- each of the passes can be ended
abbrev pub AllCanEnd : TableId → List PassView → Type 0
AllCanEnd table [] = Unit {0}
AllCanEnd table (p ∷ passes) = CanEnd table p × AllCanEnd table passes

-- of these passes some are ended into the first one's seat, and the others are left
pub record IsEndedBut (table : TableId) (all left : List PassView) (at : TableId) (me : SightView) (given : List JournalView) : Type 0 where
  pub at_table : at ≡ table
  pub sight : with_passes_ended left me ≡ sight_at_end all
  pub logs : given ++ map log_from left ≡ map log_from all
  pub can_end : AllCanEnd table left
  pub rests : IsAtRest me.view
  pub first : me.number ≡ 0

-- what the passes of a table are, as they are handed in, lets each be ended
pub all_can_end : (F : Fixed) (count : ℕ) (table : TableId) (passes : List PassView) → AllByRecursion (IsPassOf F count table) passes → AllByRecursion HasNoCommand passes → AllCanEnd table passes
all_can_end F count table [] own none = tt
all_can_end F count table (p ∷ passes) own none =
    (record { at_table = own.0.at_table; rests = record { lives = own.0.lives; idle = none.0.idle } }, all_can_end F count table passes own.1 none.1)

-- a log that there was room for is put last
put_last : (fits : Bool) (old new : List JournalView) (log : JournalView) → (IsTrue fits ↔ (length old < 16)) → length old < 16 → OnTrue fits (new ≡ old ++ log ∷ []) → new ≡ old ++ log ∷ []
put_last true old new log fit short put = put
put_last false old new log fit short put = let no : IsTrue false = fit.1 short in cc

-- a list's first and the rest of it
first_and_rest : (all left : List PassView) (p : PassView) → 0 < length all → p ≡ slice_index_or all 0 p → left ≡ drop 1 all → all ≡ p ∷ left
first_and_rest [] left p some first rest = absurd (omega (arith, some))
first_and_rest (x ∷ xs) left p some first rest = ap (λ (ps : List PassView). x ∷ ps) (sym rest) ∙ ap (λ (y : PassView). y ∷ left) (sym first)

-- the first number is 0
first_number : (all left : List PassView) (p : PassView) (n : ℕ) → map (λ (x : PassView). x.number) all ≡ range_with_len 0 n → all ≡ p ∷ left → p.number ≡ 0
first_number all left p zero numbers is =
    let none : map (λ (x : PassView). x.number) (p ∷ left) ≡ [] = ap (map (λ (x : PassView). x.number)) (sym is) ∙ numbers in
    cc
first_number all left p (suc n) numbers is =
    let some : p.number ∷ map (λ (x : PassView). x.number) left ≡ 0 ∷ range_with_len 1 n = ap (map (λ (x : PassView). x.number)) (sym is) ∙ numbers in
    cc

module _ (table : TableId) (all : List PassView) where
  -- the first one is at hand
  begins : (p : PassView) (left : List PassView) (at : TableId) (me : SightView) (given : List JournalView) → all ≡ p ∷ left → AllCanEnd table all → p.number ≡ 0
      → at ≡ p.table → me ≡ sight_of p → given ≡ log_from p ∷ [] → IsEndedBut table all left at me given
  begins p left at me given is can first here seat logs =
      let each = subst (AllCanEnd table) is can in
      rw (seat, logs, is) (record {
        at_table = here ∙ each.0.at_table;
        sight = refl;
        logs = refl;
        can_end = each.1;
        rests = each.0.rests;
        first = first;
      })

  -- there is room for the log of one that is left
  has_room : (p : PassView) (left : List PassView) (at : TableId) (me : SightView) (given : List JournalView) → IsEndedBut table all (p ∷ left) at me given → length all ≤ MOST_SEATS
      → length given < 16
  has_room p left at me given is few =
      let whole = ap (λ (logs : List JournalView). length logs) is.logs in
      let parts = length-append given (map log_from (p ∷ left)) in
      let more : 0 < length (map log_from (p ∷ left)) = omega arith in
      let count = length-map all log_from in
      omega (arith, whole, parts, more, count, few)

  -- one more is ended
  goes_on : (p : PassView) (left : List PassView) (at : TableId) (me me' : SightView) (given : List JournalView) → IsEndedBut table all (p ∷ left) at me given
      → me' ≡ with_one_ended me (sight_of p) → IsEndedBut table all left at me' (given ++ log_from p ∷ [])
  goes_on p left at me me' given is ended = rw ended (record {
    at_table = is.at_table;
    sight = is.sight;
    logs = append_assoc given (log_from p ∷ []) (map log_from left) ∙ is.logs;
    can_end = is.can_end.1;
    rests = record { lives = is.rests.lives; idle = is.rests.idle };
    first = is.first;
  })

-- the first of the passes, taken out of the list, with its log put into the empty list
pub first_taken : (F : Fixed) (table : TableId) (all left : List PassView) (p : PassView) (count : ℕ) (at : TableId) (me : SightView) (old given : List JournalView) (log : JournalView) (fits : Bool)
    → All (IsPassOf F count table) all → All HasNoCommand all → map (λ (x : PassView). x.number) all ≡ range_with_len 0 count → 0 < length all
    → p ≡ slice_index_or all 0 p → left ≡ drop 1 all → at ≡ p.table → me ≡ sight_of p → log ≡ log_from p → old ≡ []
    → (IsTrue fits ↔ (length old < 16)) → OnTrue fits (given ≡ old ++ log ∷ []) → IsEndedBut table all left at me given
first_taken F table all left p count at me old given log fits own none numbers some first rest here seat is empty fit put =
    let split = first_and_rest all left p some first rest in
    let can = all_can_end F count table all (recursion_from_All (IsPassOf F count table) all own) (recursion_from_All HasNoCommand all none) in
    let short : length old < 16 = subst (λ (xs : List JournalView). length xs < 16) (sym empty) (omega arith) in
    let whole : given ≡ log_from p ∷ [] = put_last fits old given log fit short put ∙ ap (λ (xs : List JournalView). xs ++ log ∷ []) empty ∙ ap (λ (x : JournalView). x ∷ []) is in
    begins table all p left at me given split can (first_number all left p count numbers split) here seat whole

-- the next of the passes that are left is ended, with its log put last
pub next_ended : (table : TableId) (all items left : List PassView) (p : PassView) (at at' : TableId) (me me' other : SightView) (given given' : List JournalView) (log : JournalView) (fits : Bool)
    → IsEndedBut table all items at me given → length all ≤ MOST_SEATS → items ≡ p ∷ left → other ≡ sight_of p → log ≡ log_from p → at' ≡ at → me' ≡ with_one_ended me other
    → (IsTrue fits ↔ (length given < 16)) → OnTrue fits (given' ≡ given ++ log ∷ []) → IsEndedBut table all left at' me' given'
next_ended table all items left p at at' me me' other given given' log fits is few next seat own here ended fit put =
    let now : IsEndedBut table all (p ∷ left) at me given = subst (λ (xs : List PassView). IsEndedBut table all xs at me given) next is in
    let whole = put_last fits given given' log fit (has_room table all p left at me given now few) put in
    let sight : me' ≡ with_one_ended me (sight_of p) = ended ∙ ap (λ (m : SightView). with_one_ended me m) seat in
    rw (whole, here, own) (goes_on table all p left at me me' given now sight)

both_assoc : (a b c : Tally) → tally_of_both (tally_of_both a b) c ≡ tally_of_both a (tally_of_both b c)
both_assoc a b c i = record { begun = add_assoc a.begun b.begun c.begun i; served = append_assoc a.served b.served c.served i; refused = append_assoc a.refused b.refused c.refused i }

takes_ended : (passes : List PassView) (sight : SightView) → (with_passes_ended passes sight).tally ≡ tally_of_both sight.tally (tally_of_all passes)
takes_ended [] sight = λ i. record { begun = no_more sight.tally.begun i; served = sym (append-nil sight.tally.served) i; refused = sym (append-nil sight.tally.refused) i }
takes_ended (p ∷ passes) sight = takes_ended passes (with_one_ended sight (sight_of p)) ∙ both_assoc sight.tally p.tally (tally_of_all passes)

pub takes_at_close : (passes : List PassView) (me : SightView) → me ≡ sight_at_end passes → AreRefusalsServed me.tally → AreRefusalsServed (tally_of_all passes)
takes_at_close passes me is served = subst AreRefusalsServed (ap (λ (m : SightView). m.tally) is ∙ at_end passes) served
  where
    at_end : (ps : List PassView) → (sight_at_end ps).tally ≡ tally_of_all ps
    at_end [] = refl
    at_end (p ∷ ps) = takes_ended ps (sight_of p)

-- what one pass was refused is among what all were
listed_more : (o : Option Refused) (xs ys : List HeldWord) → ((h : HeldWord) → IsOneOf h xs → IsOneOf h ys) → RefusalIsListed o xs → RefusalIsListed o ys
listed_more None xs ys more is = tt
listed_more (Some r) xs ys more is = more (record { node = r.node; word = r.word }) is

each_listed : (F : Fixed) (count : ℕ) (table : TableId) (passes : List PassView) (served : List HeldWord) → AllByRecursion (IsPassOf F count table) passes
    → ((h : HeldWord) → IsOneOf h (tally_of_all passes).refused → IsOneOf h served) → AllByRecursion (λ (p : PassView). RefusalIsListed p.view.refused served) passes
each_listed F count table [] served own more = tt
each_listed F count table (p ∷ passes) served own more = (
  listed_more p.view.refused p.tally.refused served (λ h is. more h (one_in_front h p.tally.refused (tally_of_all passes).refused is)) own.0.refusal,
  each_listed F count table passes served own.1 (λ h is. more h (one_in_back h p.tally.refused (tally_of_all passes).refused is)),
)

pub refusals_held : (F : Fixed) (count : ℕ) (table : TableId) (passes : List PassView) → All (IsPassOf F count table) passes → AreRefusalsServed (tally_of_all passes) → AreRefusalsHeld passes
refusals_held F count table passes own served =
    All-from_recursion (λ (p : PassView). RefusalIsListed p.view.refused (tally_of_all passes).served) passes
    (each_listed F count table passes (tally_of_all passes).served (recursion_from_All (IsPassOf F count table) passes own) (λ h is. served h is))
