-- A step of a pass that is held without the same seat in plain values.
use Rattle.std.proofs.Common.{◌≡◌, ℕ, ◌+◌, ◌%◌, arith, Bool, true, false, if◌then◌else◌, sym, ap, ◌∙◌, refl, subst, Option, Some, None, is_some}
use Rattle.std.proofs.lemmas.Option.{same_Some}
use Rattle.atomic_table.specs.Seated.{TableId}
use Rattle.entity_recs.specs.declared.effect.Effect.{Effect}
use Rattle.entity_recs.specs.Commands.{Command}
use Rattle.core_steps.specs.Cells.{body_index}
use Rattle.core_steps.specs.Nodes.{Fixed}
use Rattle.core_steps.specs.Points.{Point, Idle}
use Rattle.core_steps.specs.Machine.{Next, Begin, IsPending, index_of}
use Rattle.core_seats.specs.Going.{word_left}
use Rattle.core_seats.specs.Nexts.{next_point, the_next}
use Rattle.core_seats.specs.Ready.{is_resolving}
use Rattle.ruled_words.specs.Passes.{PassView, effect_kept, next_of_pass, pass_after, word_after, IsPassOf, IsReady, HasGone}
use Rattle.ruled_words.specs.Hands.{IsPlain, IsHandOf, given_to, begun_with, plain_pass}
use Rattle.ruled_words.proofs.Owns.{own_after}

none_kept : (b : Bool) (o : Option Effect) → o ≡ None → None ≡ (if b then o else None)
none_kept true o none = sym none
none_kept false o none = refl

module _ (F : Fixed) (passes : ℕ) (table : TableId) (p hand : PassView) (found : ℕ) (own : IsPassOf F passes table p) (comes : is_some (next_of_pass F p) ≡ true) (gone : HasGone F passes p found hand) (plain : IsPlain hand) where
  -- the hand's pass, with the effect that is kept, is the pass after its step
  pub kept_after : record hand { effect = effect_kept hand.view p.effect } ≡ pass_after F (the_next (next_of_pass F p)) found p
  kept_after = λ i. record {
    table = gone.same_table i;
    setting = gone.same_setting i;
    number = gone.same_number i;
    given = plain.given i;
    quits = plain.quits i;
    effect = effect_kept (gone.went i) p.effect;
    view = gone.went i;
    tally = gone.tally i;
  }

  pub kept_own : IsPassOf F passes table (record hand { effect = effect_kept hand.view p.effect })
  kept_own = subst (IsPassOf F passes table) (sym kept_after) (own_after F passes table p found own comes gone.sound_sight)

  -- the same where no effect was kept
  pub plain_after : p.effect ≡ None → hand ≡ pass_after F (the_next (next_of_pass F p)) found p
  plain_after none =
      let effect_is : hand.effect ≡ effect_kept hand.view p.effect = plain.effect ∙ none_kept (is_resolving hand.view.point) p.effect none in
      (λ i. record hand { effect = effect_is i }) ∙ kept_after

  pub plain_own : p.effect ≡ None → IsPassOf F passes table hand
  plain_own none = subst (IsPassOf F passes table) (sym (plain_after none)) (own_after F passes table p found own comes gone.sound_sight)

pub no_more : (n : ℕ) → n ≡ n + 0
no_more n = omega arith

-- ---- a command is begun

module _ (F : Fixed) (passes : ℕ) (table : TableId) (hand : PassView) (c : Command) (own : IsPassOf F passes table (plain_pass hand)) (idle : hand.view.point ≡ Idle)
    (pending : IsPending F hand.view c) (serves : c.slot % passes ≡ hand.number) where
  given_own : IsPassOf F passes table (given_to (plain_pass hand) c)
  given_own = record {
    at_table = own.at_table;
    at_setting = own.at_setting;
    lives = own.lives;
    sound_sight = own.sound_sight;
    pending = λ d e. subst (IsPending F hand.view) (same_Some c d e) pending;
    serves = λ d e. subst (λ (x : Command). x.slot % passes ≡ hand.number) (same_Some c d e) serves;
    may_quit = own.may_quit;
    has_effect = own.has_effect;
    only_resolving = own.only_resolving;
    refusal = own.refusal;
    counted = own.counted;
  }

  given_next : next_of_pass F (given_to (plain_pass hand) c) ≡ Some (Begin c)
  given_next = ap (λ (q : Point). next_point F hand.view (Some c) None q) idle

  -- the first word of the own record is loaded next
  pub begin_ready : (word : ℕ) → word ≡ body_index c.slot → IsReady F passes table (given_to (plain_pass hand) c) hand word
  begin_ready word index = record {
    own = given_own;
    same_table = refl;
    same_setting = refl;
    same_number = refl;
    same_view = refl;
    same_tally = refl;
    comes = ap (λ (o : Option Next). is_some o) given_next;
    index = index ∙ no_more (body_index c.slot) ∙ sym (ap (λ (o : Option Next). index_of hand.view (the_next o)) given_next);
  }

  pub begin_left : (found : ℕ) → word_after F (given_to (plain_pass hand) c) found ≡ found
  begin_left found = ap (λ (o : Option Next). word_left F hand.number hand.view (the_next o) found) given_next

  module _ (new : PassView) (found : ℕ) (gone : HasGone F passes (given_to (plain_pass hand) c) found new) (plain : IsPlain new) where
    after_begin : pass_after F (the_next (next_of_pass F (given_to (plain_pass hand) c))) found (given_to (plain_pass hand) c) ≡ begun_with c found (plain_pass hand)
    after_begin = ap (λ (o : Option Next). pass_after F (the_next o) found (given_to (plain_pass hand) c)) given_next

    pub has_begun : new ≡ begun_with c found (plain_pass hand)
    has_begun = plain_after F passes table (given_to (plain_pass hand) c) new found given_own (ap (λ (o : Option Next). is_some o) given_next) gone plain refl ∙ after_begin

    pub begun_own : IsHandOf F passes table new
    begun_own = record { pass = plain_own F passes table (given_to (plain_pass hand) c) new found given_own (ap (λ (o : Option Next). is_some o) given_next) gone plain refl; plain = plain }
