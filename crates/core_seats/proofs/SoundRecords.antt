-- The records of which a sound view speaks are records that the action keeps.
use Rattle.std.proofs.Common.{◌≡◌, true, sym, ap, ◌∙◌, subst}
use Rattle.entity_recs.specs.declared.effect.Effect.{Effect}
use Rattle.entity_recs.specs.Records.{IsRecord}
use Rattle.entity_recs.specs.Actions.{HasValidity}
use Rattle.core_steps.specs.Nodes.{Fixed}
use Rattle.core_steps.specs.Points.{Point, Resolving, stage_of, is_settled, is_read_again}
use Rattle.core_steps.specs.Reads.{View, record_read, effect_loaded}
use Rattle.core_seats.specs.Sound.{IsSound}

module _ (F : Fixed) (view : View) (sound : IsSound F view) where
  pub before_is_record : (point : Point) → HasValidity F.takes F.effect_of → view.point ≡ point → is_settled (stage_of point) ≡ true
      → is_read_again (stage_of point) ≡ true → IsRecord (record_read view.cmd.slot view.again)
  before_is_record point validity at settled read =
      let taken = sound.taken_again (ap (λ (p : Point). is_settled (stage_of p)) at ∙ settled) (ap (λ (p : Point). is_read_again (stage_of p)) at ∙ read) in
      (validity.keepable (record_read view.cmd.slot view.again) taken.taken).bounds

  pub loaded_is_record : (e : Effect) → HasValidity F.takes F.effect_of → view.point ≡ Resolving → e ≡ effect_loaded F view → IsRecord e.me
  loaded_is_record e validity at is =
      subst (λ (f : Effect). IsRecord f.me) (sym is)
      (validity.keepable (effect_loaded F view).me (validity.me _ _ _ (sound.effect at))).bounds
