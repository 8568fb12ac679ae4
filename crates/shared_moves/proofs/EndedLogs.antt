-- The logs under the numbers of passes that were ended into the first one's seat.
use Rattle.std.proofs.Common.{◌≡◌, ℕ, zero, suc, ◌+◌, ◌<◌, ◌≤◌, Bool, true, false, List, [], ◌∷◌, ◌++◌, map, length, refl, sym, ap, ◌∙◌, subst, inl, inr, arith, All, append_assoc, zero-add}
use Rattle.std.specs.Prelude.{◌==◌, ◌||◌}
use Rattle.std.specs.List.{AllByRecursion, range_with_len, flat_map}
use Rattle.std.specs.List.Sorted.{IsPermutation, IsStrictlyIncreasing}
use Rattle.std.proofs.lemmas.Bool.{cases_eq, eq-eqb, ne_eqb, or_left, cond-true, cond-false}
use Rattle.std.proofs.lemmas.List.{append-nil}
use Rattle.std.proofs.lemmas.List.Elements.{All-from_recursion, recursion_from_All}
use Rattle.atomic_table.specs.Seated.{TableId}
use Rattle.entity_recs.specs.Histories.{Item, places_of}
use Rattle.world_tree.specs.Worlds.{WorldView}
use Rattle.core_steps.specs.Nodes.{Fixed}
use Rattle.core_steps.specs.Reads.{Ended, View}
use Rattle.core_steps.specs.Stands.{ended_log, is_ended, items_below}
use Rattle.ruled_words.specs.Sights.{SightView, with_one_ended}
use Rattle.ruled_words.specs.Going.{IsAtRest}
use Rattle.ruled_words.specs.Passes.{PassView, sight_of, IsPassOf}
use Rattle.ruled_words.specs.Ends.{AreEndedBelow, log_in, logs_in, ClosesInto}
use Rattle.shared_moves.specs.Closing.{HasNoCommand, with_passes_ended, sight_at_end, IsClosed}
use Rattle.shared_moves.proofs.EndedPasses.{AllCanEnd, all_can_end}

-- ---- what stays of a sight while others are ended into it

record IsSameButEnded (one two : SightView) : Type 0 where
  pub number : two.number ≡ one.number
  pub log : two.view.log ≡ one.view.log
  pub rests : IsAtRest one.view → IsAtRest two.view

same_but_ended : (passes : List PassView) (sight : SightView) → IsSameButEnded sight (with_passes_ended passes sight)
same_but_ended [] sight = record { number = refl; log = refl; rests = λ rests. rests }
same_but_ended (p ∷ passes) sight =
    let later = same_but_ended passes (with_one_ended sight (sight_of p)) in
    record {
      number = later.number;
      log = later.log;
      rests = λ rests. later.rests (record { lives = rests.lives; idle = rests.idle });
    }

-- ---- numbers that rise by one

-- the passes' numbers are those from this one on
abbrev IsNumberedFrom : ℕ → List PassView → Type 0
IsNumberedFrom low [] = Unit {0}
IsNumberedFrom low (p ∷ passes) = (p.number ≡ low) × IsNumberedFrom (low + 1) passes

numbered : (passes : List PassView) (low n : ℕ) → map (λ (p : PassView). p.number) passes ≡ range_with_len low n → IsNumberedFrom low passes
numbered [] low n numbers = tt
numbered (p ∷ passes) low zero numbers = cc
numbered (p ∷ passes) low (suc n) numbers =
    let first : p.number ≡ low = cc in
    let rest : map (λ (x : PassView). x.number) passes ≡ range_with_len (low + 1) n = cc in
    (first, numbered passes (low + 1) n rest)

counted : (passes : List PassView) (low n : ℕ) → map (λ (p : PassView). p.number) passes ≡ range_with_len low n → length passes ≡ n
counted [] low zero numbers = refl
counted [] low (suc n) numbers = cc
counted (p ∷ passes) low zero numbers = cc
counted (p ∷ passes) low (suc n) numbers =
    let rest : map (λ (x : PassView). x.number) passes ≡ range_with_len (low + 1) n = cc in
    ap suc (counted passes (low + 1) n rest)

-- ---- the logs of ended seats

-- lower numbers have what they had
record IsKeptBelow (n : ℕ) (one two : List Ended) : Type 0 where
  pub is_ended : is_ended two n ≡ is_ended one n
  pub log : ended_log two n ≡ ended_log one n

kept_below : (passes : List PassView) (sight : SightView) (low n : ℕ) → IsNumberedFrom low passes → n < low → IsKeptBelow n sight.view.ended (with_passes_ended passes sight).view.ended
kept_below [] sight low n numbers below = record { is_ended = refl; log = refl }
kept_below (p ∷ passes) sight low n numbers below =
    let later = kept_below passes (with_one_ended sight (sight_of p)) (low + 1) n numbers.1 (omega (arith, below)) in
    let other : (p.number == n) ≡ false = ne_eqb p.number n (λ same. let own = numbers.0 in absurd (omega (arith, below, same, own))) in
    record {
      is_ended = later.is_ended ∙ ap (λ (b : Bool). b || is_ended sight.view.ended n) other;
      log = later.log ∙ cond-false (p.number == n) p.view.log (ended_log sight.view.ended n) other;
    }

-- each of the passes from this number on has its log among the ended ones
abbrev AreLogged : List Ended → ℕ → List PassView → Type 0
AreLogged ended low [] = Unit {0}
AreLogged ended low (p ∷ passes) = (is_ended ended low ≡ true) × (ended_log ended low ≡ p.view.log) × AreLogged ended (low + 1) passes

logged : (passes : List PassView) (sight : SightView) (low : ℕ) → IsNumberedFrom low passes → AreLogged (with_passes_ended passes sight).view.ended low passes
logged [] sight low numbers = tt
logged (p ∷ passes) sight low numbers =
    let new : SightView = with_one_ended sight (sight_of p) in
    let kept = kept_below passes new (low + 1) low numbers.1 (omega arith) in
    let own : (p.number == low) ≡ true = eq-eqb p.number low numbers.0 in (
      kept.is_ended ∙ or_left _ _ own,
      kept.log ∙ cond-true (p.number == low) p.view.log (ended_log sight.view.ended low) own,
      logged passes new (low + 1) numbers.1,
    )

ended_at : (ended : List Ended) (low : ℕ) (passes : List PassView) (n : ℕ) → AreLogged ended low passes → low ≤ n → n < low + length passes → is_ended ended n ≡ true
ended_at ended low [] n logged least below = absurd (omega (arith, least, below))
ended_at ended low (p ∷ passes) n logged least below = elim (cases_eq n low) [
  | inl same ↦ subst (λ (k : ℕ). is_ended ended k ≡ true) (sym same) logged.0
  | inr other ↦ ended_at ended (low + 1) passes n logged.2 (above n least other) (omega (arith, below))
]
  where
    above : (k : ℕ) → low ≤ k → (k ≡ low → ⊥) → low + 1 ≤ k
    above k least other = omega (arith, least, other)

-- ---- logs by number

-- the logs from this number on are those of the passes
abbrev AreLogsFrom : (ℕ → List Item) → ℕ → List PassView → Type 0
AreLogsFrom log low [] = Unit {0}
AreLogsFrom log low (p ∷ passes) = (log low ≡ p.view.log) × AreLogsFrom log (low + 1) passes

logs_from : (view : View) (low : ℕ) (passes : List PassView) → 0 < low → AreLogged view.ended low passes → AreLogsFrom (log_in view) low passes
logs_from view low [] above logged = tt
logs_from view low (p ∷ passes) above logged = (
  cond-false (low == 0) view.log (ended_log view.ended low) (ne_eqb low 0 (λ same. absurd (omega (arith, above, same)))) ∙ logged.1,
  logs_from view (low + 1) passes (omega arith) logged.2,
)

items_from : (log : ℕ → List Item) (low : ℕ) (passes : List PassView) → AreLogsFrom log low passes
    → items_below (low + length passes) log ≡ items_below low log ++ flat_map (λ (l : List Item). l) (map (λ (p : PassView). p.view.log) passes)
unfolding items_below
items_from log low [] are = let none : low + 0 ≡ low = omega arith in ap (λ (n : ℕ). items_below n log) none ∙ sym (append-nil (items_below low log))
items_from log low (p ∷ passes) are =
    let count : low + suc (length passes) ≡ low + 1 + length passes = omega arith in
    let next : low + 1 ≡ suc low = omega arith in
    let rest = flat_map (λ (l : List Item). l) (map (λ (x : PassView). x.view.log) passes) in
    ap (λ (n : ℕ). items_below n log) count ∙ items_from log (low + 1) passes are.1
    ∙ ap (λ (n : ℕ). items_below n log ++ rest) next
    ∙ ap (λ (l : List Item). (items_below low log ++ l) ++ rest) are.0
    ∙ append_assoc (items_below low log) p.view.log rest

each_log : (P : List Item → Type 0) (log : ℕ → List Item) (low : ℕ) (passes : List PassView) → AreLogsFrom log low passes → ((n : ℕ) → low ≤ n → n < low + length passes → P (log n))
    → AllByRecursion P (map (λ (p : PassView). p.view.log) passes)
each_log P log low [] are each = tt
each_log P log low (p ∷ passes) are each = (
  subst P are.0 (each low (omega arith) (omega arith)),
  each_log P log (low + 1) passes are.1 (λ n least below. each n (omega (arith, least)) (omega (arith, below))),
)

-- ---- the seat that is left

-- the seat that is left after the passes are ended
pub record IsLeftAfter (passes : List PassView) (sight : SightView) : Type 0 where
  pub rests : IsAtRest sight.view
  pub first : sight.number ≡ 0
  pub ended : AreEndedBelow (length passes) sight.view
  pub logs : AreLogsFrom (log_in sight.view) 0 passes

left_of : (p : PassView) (passes : List PassView) → IsAtRest p.view → IsNumberedFrom 0 (p ∷ passes) → IsLeftAfter (p ∷ passes) (with_passes_ended passes (sight_of p))
left_of p passes rests numbers =
    let same = same_but_ended passes (sight_of p) in
    let each = logged passes (sight_of p) 1 numbers.1 in
    record {
      rests = same.rests rests;
      first = same.number ∙ numbers.0;
      ended = λ n above below. ended_at (with_passes_ended passes (sight_of p)).view.ended 1 passes n each (omega (arith, above)) (omega (arith, below));
      logs = (same.log, logs_from (with_passes_ended passes (sight_of p)).view 1 passes (omega arith) each);
    }

pub left_after : (table : TableId) (passes : List PassView) (count : ℕ) → 0 < length passes → AllCanEnd table passes → map (λ (p : PassView). p.number) passes ≡ range_with_len 0 count
    → IsLeftAfter passes (sight_at_end passes)
left_after table [] count some can numbers = absurd (omega (arith, some))
left_after table (p ∷ passes) count some can numbers = left_of p passes can.0.rests (numbered (p ∷ passes) 0 count numbers)

pub passes_count : (passes : List PassView) (count : ℕ) → map (λ (p : PassView). p.number) passes ≡ range_with_len 0 count → length passes ≡ count
passes_count passes count numbers = counted passes 0 count numbers

-- ---- what is read at the end, by pass

module _ (F : Fixed) (world : WorldView) (passes : List PassView) (sight : SightView) (left : IsLeftAfter passes sight) (closes : ClosesInto F world sight.view) (made : sight.view.made ≡ length passes) where
  logs_are : logs_in sight.view ≡ flat_map (λ (l : List Item). l) (map (λ (p : PassView). p.view.log) passes)
  unfolding items_below
  logs_are =
      ap (λ (n : ℕ). items_below n (log_in sight.view)) (made ∙ sym (zero-add (length passes)))
      ∙ items_from (log_in sight.view) 0 passes left.logs

  pub is_closed : IsClosed F (map (λ (p : PassView). p.view.log) passes) world
  is_closed = record {
    history = closes.history;
    legal = closes.legal;
    items = subst (IsPermutation closes.history) logs_are closes.items;
    rising = All-from_recursion (λ (log : List Item). IsStrictlyIncreasing (places_of log)) (map (λ (p : PassView). p.view.log) passes)
        (each_log (λ (log : List Item). IsStrictlyIncreasing (places_of log)) (log_in sight.view) 0 passes left.logs (λ n least below. closes.rising n (omega (arith, below, made))));
    run_is = closes.run_is;
    taken = closes.taken;
  }

-- the seat that is left of a table's passes
pub left_here : (F : Fixed) (count : ℕ) (table : TableId) (passes : List PassView) (me : SightView) → All (IsPassOf F count table) passes → All HasNoCommand passes
    → map (λ (p : PassView). p.number) passes ≡ range_with_len 0 count → 0 < count → me ≡ sight_at_end passes → IsLeftAfter passes me
left_here F count table passes me own none numbers some is =
    let same = passes_count passes count numbers in
    let can = all_can_end F count table passes (recursion_from_All (IsPassOf F count table) passes own) (recursion_from_All HasNoCommand passes none) in
    subst (λ (m : SightView). IsLeftAfter passes m) (sym is) (left_after table passes count (omega (arith, some, same)) can numbers)
