-- The step that comes next of a pass, and what is known after it.
use Rattle.std.proofs.Common.{◌≡◌, ◌≤◌, ℕ, Bool, true, false, if◌then◌else◌, refl, sym, ap, ◌∙◌, subst, Option, Some, None, is_some}
use Rattle.std.proofs.lemmas.Bool.{false≢true}
use Rattle.atomic_table.specs.Seated.{TableId}
use Rattle.atomic_table.specs.declared.shared.Seat.{Seat}
use Rattle.entity_recs.specs.declared.effect.Effect.{Effect}
use Rattle.core_steps.specs.Nodes.{Fixed, write_nodes}
use Rattle.core_steps.specs.Points.{Point, Idle, Owning, Taking, Checking, Entering, Entered, Loading, Leaving, Sensing}
use Rattle.core_steps.specs.Points.{Resolving, Claiming, Storing, Releasing, Returning, Yielding}
use Rattle.core_steps.specs.Reads.{View, record_read, effect_loaded}
use Rattle.core_steps.specs.Steps.{first_yield}
use Rattle.core_steps.specs.Machine.{resolving, quitting, next_at}
use Rattle.ruled_words.specs.Sights.{SightView, Tally, tally_after}
use Rattle.ruled_words.specs.Going.{next_asked, MayGo}
use Rattle.core_seats.specs.Going.{view_found, word_left}
use Rattle.ruled_words.specs.Holders.{IsFoundHeld, AreReached}
use Rattle.ruled_words.specs.Plays.{IsSoundSight, SeatStepped}
use Rattle.core_seats.specs.Ready.{is_resolving}
use Rattle.ruled_words.specs.Hands.{hand_view, IsAtPlace}
use Rattle.ruled_words.specs.declared.setting.Setting.{Setting}
use Rattle.ruled_words.specs.Passes.{PassView, next_of_pass, pass_after, IsPassOf, IsReady, HasGone}
use Rattle.core_seats.specs.Nexts.{next_resolved, next_point, the_next}
use Rattle.core_seats.proofs.Steps.{some_next}

resolved_comes : (F : Fixed) (view : View) (o : Option Effect) → ((e : Effect) → o ≡ Some e → e ≡ effect_loaded F view) → is_some (next_resolved F view o) ≡ true
    → Some (resolving (effect_loaded F view) (write_nodes F (record_read view.cmd.slot view.again) (effect_loaded F view))) ≡ Some (the_next (next_resolved F view o))
resolved_comes F view None is e = absurd (false≢true e)
resolved_comes F view (Some effect) is e =
    ap (λ (x : Effect). Some (resolving x (write_nodes F (record_read view.cmd.slot view.again) x))) (sym (is effect refl))

point_comes : (F : Fixed) (p : PassView) (point : Point) → (is_resolving point ≡ true → (e : Effect) → p.effect ≡ Some e → e ≡ effect_loaded F p.view) → is_some (next_point F p.view p.given p.effect point) ≡ true
    → next_at F p.view p.given point ≡ Some (the_next (next_point F p.view p.given p.effect point))
point_comes F p Idle is e = some_next _ e
point_comes F p Owning is e = some_next _ e
point_comes F p (Taking got rest) is e = some_next _ e
point_comes F p Checking is e = some_next _ e
point_comes F p (Entering node plan) is e = some_next _ e
point_comes F p (Entered node plan) is e = some_next _ e
point_comes F p (Loading node part players plan) is e = some_next _ e
point_comes F p (Leaving node plan) is e = some_next _ e
point_comes F p (Sensing ids) is e = some_next _ e
point_comes F p Resolving is e = resolved_comes F p.view p.effect (is refl) e
point_comes F p (Claiming got rest) is e = some_next _ e
point_comes F p (Storing nodes stores) is e = some_next _ e
point_comes F p (Releasing nodes) is e = some_next _ e
point_comes F p (Returning leaves) is e = some_next _ e
point_comes F p (Yielding nodes leaves) is e = some_next _ e

comes_asked : (F : Fixed) (p : PassView) (quits : Bool) → (is_resolving p.view.point ≡ true → (e : Effect) → p.effect ≡ Some e → e ≡ effect_loaded F p.view)
    → is_some (if quits then Some (quitting (first_yield F p.view)) else next_point F p.view p.given p.effect p.view.point) ≡ true
    → next_asked F p.view p.given quits ≡ Some (the_next (if quits then Some (quitting (first_yield F p.view)) else next_point F p.view p.given p.effect p.view.point))
comes_asked F p true is e = refl
comes_asked F p false is e = point_comes F p p.view.point is e

-- what comes next of a pass may be done
pub may_go : (F : Fixed) (passes : ℕ) (table : TableId) (p : PassView) → IsPassOf F passes table p → is_some (next_of_pass F p) ≡ true
    → MayGo F passes p.number p.view p.given p.quits (the_next (next_of_pass F p))
may_go F passes table p own comes = record {
  lives = own.lives;
  comes = comes_asked F p p.quits own.has_effect comes;
  pending = own.pending;
  serves = own.serves;
  at_take = own.may_quit;
}

pub sight_is : (sight : SightView) (number : ℕ) (view : View) (tally : Tally) → sight.number ≡ number → sight.view ≡ view → sight.tally ≡ tally
    → sight ≡ record { number = number; view = view; tally = tally }
sight_is sight number view tally e f g i = record { number = e i; view = f i; tally = g i }

module _ (F : Fixed) (passes : ℕ) (table : TableId) (p : PassView) (seat : Seat (Unit {0}) SightView) (setting : Setting) (number word : ℕ) (is : IsReady F passes table p (hand_view seat setting number) word) (at : IsAtPlace seat setting number) where
  number_is : seat.me.0.number ≡ p.number
  number_is = at.has_number ∙ is.same_number

  pub sound_sight_ready : IsSoundSight F passes seat.me.0
  sound_sight_ready = subst (IsSoundSight F passes) (sym (sight_is seat.me.0 p.number p.view p.tally number_is is.same_view is.same_tally)) is.own.sound_sight

  pub may_ready : MayGo F passes seat.me.0.number seat.me.0.view p.given p.quits (the_next (next_of_pass F p))
  may_ready =
      subst (λ (n : ℕ). MayGo F passes n seat.me.0.view p.given p.quits (the_next (next_of_pass F p))) (sym number_is)
      (subst (λ (v : View). MayGo F passes p.number v p.given p.quits (the_next (next_of_pass F p))) (sym is.same_view) (may_go F passes table p is.own is.comes))

  pub has_gone : (new : Seat (Unit {0}) SightView) (found : ℕ) → new.table_id ≡ seat.table_id → SeatStepped F passes (the_next (next_of_pass F p)) seat.me found new.me → HasGone F passes p found (hand_view new setting number)
  has_gone new found same stepped =
      let went = stepped.went.0 in
      let moved = went.number ∙ number_is in
      let view = went.view ∙ ap (λ (v : View). view_found F v (the_next (next_of_pass F p)) found) is.same_view in
      let tally : new.me.0.tally ≡ (pass_after F (the_next (next_of_pass F p)) found p).tally = went.tally
      ∙ ap (λ (n : ℕ). tally_after (the_next (next_of_pass F p)) found (word_left F n seat.me.0.view (the_next (next_of_pass F p)) found) seat.me.0.tally) number_is
      ∙ ap (λ (v : View). tally_after (the_next (next_of_pass F p)) found (word_left F p.number v (the_next (next_of_pass F p)) found) seat.me.0.tally) is.same_view
      ∙ ap (tally_after (the_next (next_of_pass F p)) found (word_left F p.number p.view (the_next (next_of_pass F p)) found)) is.same_tally in
      record {
        same_table = same ∙ is.same_table;
        same_setting = is.same_setting;
        same_number = is.same_number;
        went = view;
        tally = tally;
        sound_sight = subst (IsSoundSight F passes) (sight_is new.me.0 p.number _ _ moved view tally) went.sound_sight;
        small = went.small;
        taken = went.taken;
        counted = λ counts. subst (λ (v : View). v.seen ≤ found) is.same_view (went.counted counts);
        held = subst (λ (n : ℕ). IsFoundHeld F passes n (the_next (next_of_pass F p)) found) number_is stepped.held;
        reached = subst (λ (v : View). AreReached F v (the_next (next_of_pass F p))) is.same_view stepped.reached;
        seen = λ commits. subst (λ (v : View). v.seen ≤ found) is.same_view (stepped.seen commits);
      }
