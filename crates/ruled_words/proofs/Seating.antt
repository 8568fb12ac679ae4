-- What it asks of the rule to look at the count, and to make and end a seat.
use Rattle.std.proofs.Common.{◌≡◌, ℕ, ◌^◌, ◌<◌, List, [], ◌∷◌, ◌++◌, length, refl, sym, ◌∙◌, subst, inl, inr, slice_index, slice_set}
use mathlib.Core.Option as maybe
use lib.ListN.{get_elem?}
use Rattle.atomic_table.specs.Table.{Me, keeps, Allows, Splits, Joins}
use Rattle.atomic_table.proofs.Lists.{at_set, set_here}
use Rattle.core_steps.specs.Nodes.{Fixed}
use Rattle.ruled_words.specs.Sights.{SightView, no_sight, with_one_made, sight_made, with_one_ended}
use Rattle.ruled_words.specs.Going.{IsAtRest, view_looked}
use Rattle.ruled_words.specs.Rule.{IsRuled}
use Rattle.ruled_words.specs.Plays.{SeatLooked}
use Rattle.ruled_words.proofs.Idle.{place_below}
use Rattle.ruled_words.proofs.SoundSights.{sound_sight}
use Rattle.ruled_words.proofs.Counting.{seen_is_below}
use Rattle.ruled_words.proofs.Looking.{looks}
use Rattle.ruled_words.proofs.Making.{makes}
use Rattle.ruled_words.proofs.Ending.{ends}

looked_here : (F : Fixed) (rooms : List ℕ) (slots i : ℕ) (me : Me (Unit {0}) SightView) → IsAtRest me.0.view
    → Allows (IsRuled F rooms) slots i me 0 (λ n. n) (λ found after. SeatLooked F (length rooms) me found after)
looked_here F rooms slots i me rests s r _ at small =
    let found = slice_index s.words 0 in
    let new : SightView = record { number = me.0.number; view = view_looked found me.0.view; tally = me.0.tally } in
    let ruled = looks F rooms s r i me.0 at rests in (
      new,
      keeps,
      tt,
      ruled,
      (record { number = refl; view = refl; tally = refl; seen = seen_is_below F rooms s r i me.0 at; sound_sight = sound_sight F rooms _ ruled i new (set_here s.views i new (place_below s.views i me.0 at)) }, refl),
    )

-- a seat that rests may look at the count
pub allowed_look : (F G : Fixed) (rooms : List ℕ) (passes slots i : ℕ) (me : Me (Unit {0}) SightView) → F ≡ G → passes ≡ length rooms → IsAtRest me.0.view
    → Allows (IsRuled G rooms) slots i me 0 (λ n. n) (λ found after. SeatLooked F passes me found after)
allowed_look F G rooms passes slots i me fixed count rests =
    subst (λ (H : Fixed). Allows (IsRuled H rooms) slots i me 0 (λ n. n) (λ found after. SeatLooked F passes me found after)) fixed
    (subst (λ (n : ℕ). Allows (IsRuled F rooms) slots i me 0 (λ n. n) (λ found after. SeatLooked F n me found after)) (sym count) (looked_here F rooms slots i me rests))

-- seat 0 may make a seat while there is a room for it
pub may_make : (F : Fixed) (rooms : List ℕ) (room i : ℕ) (sight : SightView) → IsAtRest sight.view → sight.number ≡ 0 → sight.view.made < length rooms → room < 2 ^ 32
    → Splits (IsRuled F rooms) i sight (with_one_made sight) (sight_made room sight)
may_make F rooms room i sight rests first more small s r at =
    let here : i ≡ 0 = sym (r.seats.number i sight at rests.lives) ∙ first in
    let at_0 : get_elem? s.views 0 ≡ maybe.some sight = subst (λ (n : ℕ). get_elem? s.views n ≡ maybe.some sight) here at in
    subst (λ (n : ℕ). IsRuled F rooms (record { words = s.words; homes = s.homes; views = slice_set s.views n (with_one_made sight) ++ sight_made room sight ∷ [] })) (sym here)
    (makes F rooms room s r sight at_0 rests more small)

-- another seat that rests may be ended into seat 0
pub may_end : (F : Fixed) (rooms : List ℕ) (i : ℕ) (sight : SightView) (other : ℕ) (ended : SightView) → IsAtRest sight.view → sight.number ≡ 0 → IsAtRest ended.view
    → Joins (IsRuled F rooms) i sight other ended (with_one_ended sight ended) no_sight
may_end F rooms i sight other ended rests first rests_too s r at differ there =
    let here : i ≡ 0 = sym (r.seats.number i sight at rests.lives) ∙ first in
    let at_0 : get_elem? s.views 0 ≡ maybe.some sight = subst (λ (n : ℕ). get_elem? s.views n ≡ maybe.some sight) here at in
    elim (at_set s.views i other (with_one_ended sight ended) ended there) [
      | inl same ↦ absurd (differ same.0)
      | inr is ↦ subst (λ (n : ℕ). IsRuled F rooms (record { words = s.words; homes = s.homes; views = slice_set (slice_set s.views n (with_one_ended sight ended)) other no_sight })) (sym here)
          (ends F rooms s r other sight ended at_0 (λ same. differ (same ∙ sym here)) is.1 rests rests_too)
    ]
