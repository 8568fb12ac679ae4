-- A table whose other seats are ended: its history is legal, and its words are those of the run.
use Rattle.std.specs.List.Sorted.{IsStrictlyIncreasing}
use Rattle.std.specs.List.{AllByRecursion}
use Rattle.std.proofs.lemmas.List.Elements.{recursion_from_All}
use Rattle.std.proofs.Common.{◌≡◌, ℕ, ◌-◌, ◌<◌, ◌≤◌, true, false, List, [], ◌∷◌, length, slice_index, refl, sym, ap, ◌∙◌, subst, inl, inr, arith}
use Rattle.std.specs.Prelude.{◌==◌}
use Rattle.std.specs.List.Sorted.{IsPermutation}
use mathlib.Core.Option as maybe
use lib.ListN.{get_elem?}
use Rattle.std.proofs.lemmas.Bool.{cases_Bool, cases_lt, true≢false, eqb-true, eqb-false, cond-true, cond-false}
use Rattle.core_steps.specs.declared.sizes.TheConstants.{TABLE_WORDS}
use Rattle.atomic_table.specs.Table.{State}
use Rattle.entity_recs.specs.Histories.{Item, places_of}
use Rattle.core_steps.specs.Cells.{Cell, Body, State as StateCell, word_in, cell_index}
use Rattle.core_steps.specs.Nodes.{Fixed}
use Rattle.core_steps.specs.Points.{Point, Idle, stores_owed}
use Rattle.core_steps.specs.Reads.{Ended, View}
use Rattle.core_steps.specs.Stands.{is_live_cell, value_in, owed_at, ended_log, is_ended, log_of, items_below, items_of, IsLogWithin, IsNumbered}
use Rattle.core_steps.proofs.Runs.{IsRunWorld}
use Rattle.core_steps.proofs.Exclusion.{now_world}
use Rattle.core_steps.proofs.Layouts.{layout_is_right}
use Rattle.core_steps.proofs.Appending.{items_same_below}
use Rattle.ruled_words.specs.Sights.{AreRefusalsServed, SightView}
use Rattle.ruled_words.specs.Going.{IsAtRest}
use Rattle.ruled_words.specs.Rule.{IsRuled}
use Rattle.ruled_words.specs.Ends.{AreOthersEnded, AreEndedBelow, log_in, logs_in, Closes}
use Rattle.ruled_words.proofs.Takings.{takes_at_end}
use Rattle.ruled_words.proofs.Readings.{HasRecordWords, record_read_is, is_entry}

-- the places of an ended log rise
ended_rises : (count : ℕ) (ended : List Ended) → AllByRecursion (λ (e : Ended). IsLogWithin count e.room e.log) ended → (n : ℕ)
    → IsStrictlyIncreasing (places_of (ended_log ended n))
ended_rises count [] within n = λ k below. absurd (omega (arith, below))
ended_rises count (e ∷ ended) within n = elim (cases_Bool (e.number == n)) [
  | inl here ↦ subst (λ (log : List Item). IsStrictlyIncreasing (places_of log)) (sym (cond-true (e.number == n) e.log (ended_log ended n) here)) within.0.rising
  | inr other ↦ subst (λ (log : List Item). IsStrictlyIncreasing (places_of log)) (sym (cond-false (e.number == n) e.log (ended_log ended n) other)) (ended_rises count ended within.1 n)
]

module _ (F : Fixed) (rooms : List ℕ) (s : State (Unit {0}) SightView) (r : IsRuled F rooms s) (sight : SightView) (at : get_elem? s.views 0 ≡ maybe.some sight) (rests : IsAtRest sight.view)
    (others : AreOthersEnded sight.view) where
  seen : r.core.view 0 ≡ sight.view
  seen = r.seats.view 0 sight at

  numbers : IsNumbered r.core.view
  numbers = r.stands.core.numbers

  -- no other seat lives
  ended : (n : ℕ) → (n == 0) ≡ false → (r.core.view n).live ≡ false
  ended n other = elim (cases_Bool (r.core.view n).live) [
    | inl lives ↦
        let below = subst (λ (v : View). n < v.made) seen (numbers.live n lives) in
        let was = others n (above n (eqb-false n 0 other)) below in
        absurd (true≢false (sym (subst (λ (v : View). is_ended v.ended n ≡ true) (sym seen) was) ∙ numbers.differ n lives))
    | inr gone ↦ gone
  ]
    where
      above : (k : ℕ) → (k ≡ 0 → ⊥) → 0 < k
      above k differs = omega (arith, differs)

  idle : (n : ℕ) → (r.core.view n).point ≡ Idle
  idle n = elim (cases_Bool (n == 0)) [
    | inl zeroth ↦ subst (λ (k : ℕ). (r.core.view k).point ≡ Idle) (sym (eqb-true n 0 zeroth)) (ap (λ (v : View). v.point) seen ∙ rests.idle)
    | inr other ↦ ap (λ (v : View). v.point) (numbers.others n (ended n other))
  ]

  logs_same : (k : ℕ) → log_of r.core.view k ≡ log_in sight.view k
  logs_same k = elim (cases_Bool (k == 0)) [
    | inl zeroth ↦
        let here : log_of r.core.view 0 ≡ (r.core.view 0).log = cond-true (r.core.view 0).live (r.core.view 0).log (ended_log (r.core.view 0).ended 0) (ap (λ (v : View). v.live) seen ∙ rests.lives) in
        subst (λ (n : ℕ). log_of r.core.view n ≡ log_in sight.view n) (sym (eqb-true k 0 zeroth)) (here ∙ ap (λ (v : View). v.log) seen)
    | inr other ↦
        cond-false (r.core.view k).live (r.core.view k).log (ended_log (r.core.view 0).ended k) (ended k other)
        ∙ ap (λ (v : View). ended_log v.ended k) seen
        ∙ sym (cond-false (k == 0) sight.view.log (ended_log sight.view.ended k) other)
  ]

  items_same : items_of r.core.view ≡ logs_in sight.view
  items_same =
      ap (λ (n : ℕ). items_below n (log_of r.core.view)) (ap (λ (v : View). v.made) seen)
      ∙ items_same_below sight.view.made (log_of r.core.view) (log_in sight.view) (λ k below. logs_same k)

  word_is : (cell : Cell) → is_live_cell F cell ≡ true → word_in r.core.words cell ≡ value_in r.now cell
  word_is cell live = r.stands.core.unowed cell live (λ i. ap (λ (p : Point). owed_at (stores_owed p) cell) (idle i))

  rises : (n : ℕ) → IsStrictlyIncreasing (places_of (log_in sight.view n))
  rises n = elim (cases_Bool (n == 0)) [
    | inl zeroth ↦
        subst (λ (log : List Item). IsStrictlyIncreasing (places_of log)) (ap (λ (v : View). v.log) seen ∙ sym (cond-true (n == 0) sight.view.log (ended_log sight.view.ended n) zeroth))
        (r.stands.core.seats 0).counted.within.rising
    | inr other ↦
        subst (λ (log : List Item). IsStrictlyIncreasing (places_of log)) (ap (λ (v : View). ended_log v.ended n) seen ∙ sym (cond-false (n == 0) sight.view.log (ended_log sight.view.ended n) other))
        (ended_rises r.core.words.commits (r.core.view 0).ended (recursion_from_All (λ (e : Ended). IsLogWithin r.core.words.commits e.room e.log) (r.core.view 0).ended r.stands.core.ended) n)
  ]

  is_run : IsRunWorld F r.now
  is_run = now_world F r.core r.history r.now r.lawful r.start r.stands.core

  -- a list with the same words
  module _ (words : List ℕ) (same : (k : ℕ) → k < TABLE_WORDS → slice_index words k ≡ slice_index s.words k) where
    record_words : HasRecordWords F words r.now
    record_words = record {
      body = λ slot k below word live.
          same (cell_index (Body slot k)) (omega (arith, below, word)) ∙ r.words.each (cell_index (Body slot k)) (omega (arith, below, word))
          ∙ (layout_is_right r.core.words).body slot k below word ∙ word_is (Body slot k) live;
      state = λ id below live.
          same (cell_index (StateCell id)) (omega (arith, below)) ∙ r.words.each (cell_index (StateCell id)) (omega (arith, below))
          ∙ (layout_is_right r.core.words).state id ∙ word_is (StateCell id) live;
    }

    pub closes_with : Closes F words sight.view
    closes_with = record {
      history = r.history;
      now = r.now;
      tied = r.stands.core.tied;
      legal = r.stands.core.legal;
      items = subst (IsPermutation r.history) items_same r.stands.core.items;
      rising = λ n below. rises n;
      body = record_words.body;
      state = record_words.state;
      ids = is_run.ids;
      entry = is_entry F words r.now r.lawful r.start is_run record_words;
      taken = is_run.taken;
      read = record_read_is F words r.now r.lawful r.start is_run record_words;
    }

  pub refusals : AreRefusalsServed sight.tally
  refusals = takes_at_end s.views sight r.core.words.node r.takes at (λ k x e other. ap (λ (v : View). v.live) (sym (r.seats.view k x e)) ∙ ended k other)

  pub closes : Closes F s.words sight.view
  closes = closes_with s.words (λ k below. refl)

module _ (F : Fixed) (rooms : List ℕ) (s : State (Unit {0}) SightView) (r : IsRuled F rooms s) (sight : SightView) (at : get_elem? s.views 0 ≡ maybe.some sight)
    (ended : AreEndedBelow (length rooms) sight.view) where
  made_most : sight.view.made ≤ length rooms
  made_most = subst (λ (v : View). v.made ≤ length rooms) (r.seats.view 0 sight at) r.fits.made

  -- where seats were ended for all rooms, none is left
  pub others_ended : AreOthersEnded sight.view
  others_ended n above below = ended n above (omega (arith, below, made_most))

  some_made : 0 < sight.view.made
  some_made = subst (λ (v : View). 0 < v.made) (r.seats.view 0 sight at) (r.stands.core.numbers.live 0 r.stands.core.numbers.first)

  ended_is_made : (n : ℕ) → 0 < n → n < length rooms → n < sight.view.made
  ended_is_made n above below =
      subst (λ (v : View). is_ended v.ended n ≡ true → n < v.made) (r.seats.view 0 sight at) (r.stands.core.numbers.ended n) (ended n above below)

  -- and as many were made as there are rooms
  pub made_is : sight.view.made ≡ length rooms
  made_is = elim (cases_lt 1 (length rooms)) [
    | inl more ↦ let last = ended_is_made (length rooms - 1) (omega (arith, more)) (omega (arith, more)) in omega (arith, last, made_most, more)
    | inr one ↦ omega (arith, one, made_most, some_made)
  ]
