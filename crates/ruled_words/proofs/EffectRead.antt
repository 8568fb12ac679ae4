-- What the action gives on the words of players kept by slot and on the states that were loaded.
use Rattle.std.proofs.Common.{◌≡◌, ℕ, ◌<◌, ◌++◌, true, List, [], ◌∷◌, Some, refl, sym, ap, ◌∙◌, subst}
use Rattle.std.proofs.lemmas.Bool.{false≢true}
use Rattle.entity_recs.specs.declared.effect.Effect.{Effect}
use Rattle.core_seats.specs.Ready.{is_resolving}
use Rattle.ruled_words.specs.Hands.{pass_keeping}
use Rattle.std.specs.List.Sorted.{IsStrictlyIncreasing}
use Rattle.arena_geo.specs.Bounds.{Bounds}
use Rattle.entity_recs.specs.declared.rec.Rec.{Rec}
use Rattle.entity_recs.specs.Commands.{Command}
use Rattle.entity_recs.specs.Actions.{IsCall}
use Rattle.core_steps.specs.Nodes.{Fixed}
use Rattle.core_steps.specs.Points.{Point, Resolving, stage_of, is_busy}
use Rattle.core_steps.specs.Reads.{record_read, region_in, near_loaded, loaded_near, effect_loaded}
use Rattle.core_steps.specs.Steps.{sensing}
use Rattle.atomic_table.specs.Seated.{TableId}
use Rattle.core_seats.specs.NearKept.{players_kept, things_loaded}
use Rattle.core_seats.proofs.KeptNear.{near_in_parts}
use Rattle.ruled_words.specs.Passes.{PassView, IsPassOf}
use Rattle.ruled_words.specs.Straight.{in_view, HasKept}

busy_sensing : (ids : List ℕ) → is_busy (stage_of (sensing ids)) ≡ true
busy_sensing [] = refl
busy_sensing (id ∷ ids) = refl

-- the command in hand is of a player
pub slot_below : (F : Fixed) (passes : ℕ) (table : TableId) (p : PassView) (ids : List ℕ) (c : Command) → IsPassOf F passes table p → p.view.point ≡ sensing ids → c ≡ p.view.cmd → c.slot < 64
slot_below F passes table p ids c own at is =
    let given = own.sound_sight.sound.hand (ap (λ (q : Point). is_busy (stage_of q)) at ∙ busy_sensing ids) in
    subst (λ (d : Command). d.slot < 64) (sym is) given.command.slot

module _ (F : Fixed) (old new : PassView) (c : Command) (region : List Bounds) (again : List ℕ) (seen : ℕ) (six : List (List ℕ)) (near : List Rec) (rising : IsStrictlyIncreasing F.start.ids) (below : c.slot < 64)
    (view : new ≡ in_view old (record old.view { states = new.view.states; point = Resolving })) (region_is : region ≡ region_in F old.view.cmd old.view.own) (c_is : c ≡ old.view.cmd) (again_is : again ≡ old.view.again)
    (kept : HasKept seen six old.view.others) (near_is : near ≡ players_kept F region c.slot seen six ++ things_loaded F region new.view.states) where
  cmd_same : c ≡ new.view.cmd
  cmd_same = c_is ∙ sym (ap (λ (p : PassView). p.view.cmd) view)

  own_same : old.view.own ≡ new.view.own
  own_same = sym (ap (λ (p : PassView). p.view.own) view)

  again_same : again ≡ new.view.again
  again_same = again_is ∙ sym (ap (λ (p : PassView). p.view.again) view)

  others_same : old.view.others ≡ new.view.others
  others_same = sym (ap (λ (p : PassView). p.view.others) view)

  region_same : region ≡ region_in F new.view.cmd new.view.own
  region_same = region_is ∙ (λ i. region_in F ((sym c_is ∙ cmd_same) i) (own_same i))

  -- the list is what was loaded near
  pub near_same : near ≡ loaded_near F new.view
  near_same = near_is ∙ sym (near_in_parts F region c.slot seen six old.view.others new.view.states below kept rising)
      ∙ (λ i. near_loaded F (region_same i) (cmd_same i).slot (others_same i) new.view.states)

  me_same : record_read c.slot again ≡ record_read new.view.cmd.slot new.view.again
  me_same = λ i. record_read (cmd_same i).slot (again_same i)

  -- the action may be asked
  pub may_act : IsCall F.takes (record_read new.view.cmd.slot new.view.again) (loaded_near F new.view) new.view.cmd → IsCall F.takes (record_read c.slot again) near c
  may_act call =
      subst (λ (d : Command). IsCall F.takes (record_read c.slot again) near d) (sym cmd_same)
      (subst (λ (rs : List Rec). IsCall F.takes (record_read c.slot again) rs new.view.cmd) (sym near_same)
      (subst (λ (r : Rec). IsCall F.takes r (loaded_near F new.view) new.view.cmd) (sym me_same) call))

  -- and it gives the effect of what was loaded
  pub effect_same : F.effect_of (record_read c.slot again) near c ≡ effect_loaded F new.view
  effect_same = λ i. F.effect_of (me_same i) (near_same i) (cmd_same i)

-- ---- the effect is in hand

same_effect : (d e : Effect) → Some e ≡ Some d → d ≡ e
same_effect d e same = cc

-- the pass keeps the effect of what was loaded
pub keeping_own : (F : Fixed) (passes : ℕ) (table : TableId) (p : PassView) (e : Effect) → IsPassOf F passes table p → p.view.point ≡ Resolving → e ≡ effect_loaded F p.view
    → IsPassOf F passes table (pass_keeping p e)
keeping_own F passes table p e own at is = record {
  at_table = own.at_table;
  at_setting = own.at_setting;
  lives = own.lives;
  sound_sight = own.sound_sight;
  pending = own.pending;
  serves = own.serves;
  may_quit = own.may_quit;
  has_effect = λ resolves d same. same_effect d e same ∙ is;
  only_resolving = λ not. absurd (false≢true (sym not ∙ ap is_resolving at));
  refusal = own.refusal;
  counted = own.counted;
}
