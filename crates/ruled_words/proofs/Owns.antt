-- What a pass keeps beside its view, after a step.
use Rattle.std.proofs.Common.{◌≡◌, ℕ, Bool, true, false, if◌then◌else◌, List, [], ◌∷◌, refl, sym, ap, ◌∙◌, subst, inl, inr, Option, Some, None, is_some}
use Rattle.std.specs.Prelude.{◌==◌}
use Rattle.std.proofs.lemmas.Bool.{cases_Bool, false≢true, true≢false, cond-true, cond-false}
use Rattle.atomic_table.specs.Seated.{TableId}
use Rattle.entity_recs.specs.declared.effect.Effect.{Effect}
use Rattle.entity_recs.specs.Commands.{Command}
use Rattle.core_steps.specs.Nodes.{Fixed, write_nodes}
use Rattle.core_steps.specs.Points.{Point, Idle, Owning, Taking, Checking, Entering, Entered, Loading, Leaving, Sensing}
use Rattle.core_steps.specs.Points.{Resolving, Claiming, Storing, Releasing, Returning, Yielding}
use Rattle.core_steps.specs.Reads.{View, record_read, effect_loaded}
use Rattle.core_steps.specs.Held.{inner_held, leaves_held}
use Rattle.core_steps.specs.Steps.{rest_of, yielding, yielded, first_yield, view_after_claim, view_after_refusal}
use Rattle.core_steps.specs.Machine.{Next, resolving, quitting}
use Rattle.core_seats.specs.Going.{view_found, word_left}
use Rattle.core_seats.specs.Nexts.{next_resolved, next_point, the_next}
use Rattle.core_seats.specs.Ready.{is_resolving}
use Rattle.ruled_words.specs.Going.{view_looked}
use Rattle.ruled_words.specs.Plays.{IsSoundSight}
use Rattle.ruled_words.specs.Passes.{PassView, sight_of, next_of_pass, pass_after, IsPassOf}
use Rattle.ruled_words.proofs.Refusing.{refusal_listed, refusals_counted}
use Rattle.ruled_words.proofs.Views.{keeps_found}

pub no_effect : {R : Type 0} (o : Option Effect) (e : Effect) → o ≡ None → o ≡ Some e → R
no_effect o e none some = cc

no_command : {R : Type 0} (c : Command) → None ≡ Some c → R
no_command c e = cc

pub resolving_is : (point : Point) → is_resolving point ≡ true → point ≡ Resolving
resolving_is Idle e = absurd (false≢true e)
resolving_is Owning e = absurd (false≢true e)
resolving_is (Taking got rest) e = absurd (false≢true e)
resolving_is Checking e = absurd (false≢true e)
resolving_is (Entering node plan) e = absurd (false≢true e)
resolving_is (Entered node plan) e = absurd (false≢true e)
resolving_is (Loading node part players plan) e = absurd (false≢true e)
resolving_is (Leaving node plan) e = absurd (false≢true e)
resolving_is (Sensing ids) e = absurd (false≢true e)
resolving_is Resolving e = refl
resolving_is (Claiming got rest) e = absurd (false≢true e)
resolving_is (Storing nodes stores) e = absurd (false≢true e)
resolving_is (Releasing nodes) e = absurd (false≢true e)
resolving_is (Returning leaves) e = absurd (false≢true e)
resolving_is (Yielding nodes leaves) e = absurd (false≢true e)

not_yielding : (view : View) (nodes leaves : List ℕ) → is_resolving (yielding view nodes leaves).point ≡ false
not_yielding view [] [] = refl
not_yielding view [] (leaf ∷ leaves) = refl
not_yielding view (node ∷ nodes) leaves = refl

not_yielded : (view : View) (nodes leaves : List ℕ) → is_resolving (yielded view nodes leaves).point ≡ false
not_yielded view [] leaves = not_yielding view [] (rest_of leaves)
not_yielded view (node ∷ nodes) leaves = not_yielding view nodes leaves

-- the effect is right of the view, if that is one in which all is read
abbrev IsRight : Fixed → Option Effect → View → Type 0
IsRight F effect view = is_resolving view.point ≡ true → (e : Effect) → effect ≡ Some e → e ≡ effect_loaded F view

late : (F : Fixed) (effect : Option Effect) (view : View) → is_resolving view.point ≡ false → IsRight F effect view
late F effect view is at e some = absurd (true≢false (sym at ∙ is))

module _ (F : Fixed) (p : PassView) (found : ℕ) (has_effect : IsRight F p.effect p.view) where
  right_quit : (o : Option ℕ) → IsRight F p.effect (view_found F p.view (quitting o) found)
  right_quit None = late F p.effect (view_found F p.view (quitting None) found) refl
  right_quit (Some node) =
      let nodes = inner_held F p.view.point in
      let leaves = leaves_held p.view.point p.view.wanted in
      late F p.effect (yielded p.view nodes leaves) (not_yielded p.view nodes leaves)

  right_resolving : (f : Effect) (nodes : List ℕ) → IsRight F p.effect (view_found F p.view (resolving f nodes) found)
  right_resolving f [] = late F p.effect (view_found F p.view (resolving f []) found) refl
  right_resolving f (node ∷ nodes) = elim (cases_Bool (found == 0)) [
    | inl free ↦ subst (IsRight F p.effect) (sym (cond-true (found == 0) (view_after_claim F f node p.view) (view_after_refusal node found p.view) free))
        (late F p.effect (view_after_claim F f node p.view) refl)
    | inr held ↦ subst (IsRight F p.effect) (sym (cond-false (found == 0) (view_after_claim F f node p.view) (view_after_refusal node found p.view) held))
        (λ at e some. has_effect at e some)
  ]

  right_resolved : (o : Option Effect) → is_some (next_resolved F p.view o) ≡ true → IsRight F p.effect (view_found F p.view (the_next (next_resolved F p.view o)) found)
  right_resolved None comes = absurd (false≢true comes)
  right_resolved (Some f) comes = right_resolving f (write_nodes F (record_read p.view.cmd.slot p.view.again) f)

  right_read : (point : Point) → point ≡ Resolving → (quits : Bool)
      → is_some (if quits then Some (quitting (first_yield F p.view)) else next_point F p.view p.given p.effect point) ≡ true
      → IsRight F p.effect (view_found F p.view (the_next (if quits then Some (quitting (first_yield F p.view)) else next_point F p.view p.given p.effect point)) found)
  right_read point at true comes = right_quit (first_yield F p.view)
  right_read point at false comes =
      subst (λ (q : Point). is_some (next_point F p.view p.given p.effect q) ≡ true → IsRight F p.effect (view_found F p.view (the_next (next_point F p.view p.given p.effect q)) found)) (sym at)
      (right_resolved p.effect) comes

-- an effect that is kept after a step is still that of what was loaded
right_after : (F : Fixed) (passes : ℕ) (table : TableId) (p : PassView) (found : ℕ) → IsPassOf F passes table p → is_some (next_of_pass F p) ≡ true
    → IsRight F p.effect (view_found F p.view (the_next (next_of_pass F p)) found)
right_after F passes table p found own comes = elim (cases_Bool (is_resolving p.view.point)) [
  | inl is ↦ right_read F p found own.has_effect p.view.point (resolving_is p.view.point is) p.quits comes
  | inr not ↦ λ at e some. no_effect p.effect e (own.only_resolving not) some
]

-- the pass after what comes next is the table's
pub own_after : (F : Fixed) (passes : ℕ) (table : TableId) (p : PassView) (found : ℕ) → IsPassOf F passes table p → is_some (next_of_pass F p) ≡ true
    → IsSoundSight F passes (sight_of (pass_after F (the_next (next_of_pass F p)) found p)) → IsPassOf F passes table (pass_after F (the_next (next_of_pass F p)) found p)
own_after F passes table p found own comes sound_sight =
    let next : Next = the_next (next_of_pass F p) in
    let view : View = view_found F p.view next found in
    record {
      at_table = own.at_table;
      at_setting = own.at_setting;
      lives = (keeps_found F p.view next found).live ∙ own.lives;
      sound_sight = sound_sight;
      pending = λ c e. no_command c e;
      serves = λ c e. no_command c e;
      may_quit = λ e. absurd (false≢true e);
      has_effect = λ at e some. right_after F passes table p found own comes at e (sym (cond-true (is_resolving view.point) p.effect None at) ∙ some);
      only_resolving = λ at. cond-false (is_resolving view.point) p.effect None at;
      refusal = refusal_listed F p.view next found (word_left F p.number p.view next found) p.tally own.refusal;
      counted = refusals_counted F p.view next found (word_left F p.number p.view next found) p.tally own.counted;
    }

-- the pass that has looked at the count is still the table's
pub looked_own : (F : Fixed) (passes : ℕ) (table : TableId) (p new : PassView) (found : ℕ) → new ≡ record p { view = view_looked found p.view } → IsPassOf F passes table p
    → IsSoundSight F passes (sight_of new) → IsPassOf F passes table new
looked_own F passes table p new found is own sound_sight =
    subst (IsPassOf F passes table) (sym is) (record {
      at_table = own.at_table;
      at_setting = own.at_setting;
      lives = own.lives;
      sound_sight = subst (λ (q : PassView). IsSoundSight F passes (sight_of q)) is sound_sight;
      pending = λ c e. let pending = own.pending c e in record { lives = pending.lives; idle = pending.idle; command = pending.command; room = pending.room };
      serves = own.serves;
      may_quit = own.may_quit;
      has_effect = own.has_effect;
      only_resolving = own.only_resolving;
      refusal = own.refusal;
      counted = own.counted;
    })

same_effect : (a b : Effect) → Some a ≡ Some b → a ≡ b
same_effect a b e = cc

-- the pass that was given its effect is still the table's
pub resolved_own : (F : Fixed) (passes : ℕ) (table : TableId) (p : PassView) (e : Effect) → IsPassOf F passes table p → p.view.point ≡ Resolving → e ≡ effect_loaded F p.view
    → IsPassOf F passes table (record p { effect = Some e })
resolved_own F passes table p e own at is = record {
  at_table = own.at_table;
  at_setting = own.at_setting;
  lives = own.lives;
  sound_sight = own.sound_sight;
  pending = own.pending;
  serves = own.serves;
  may_quit = own.may_quit;
  has_effect = λ resolving f some. sym (same_effect e f some) ∙ is;
  only_resolving = λ not. absurd (true≢false (sym (ap is_resolving at) ∙ not));
  refusal = own.refusal;
  counted = own.counted;
}
