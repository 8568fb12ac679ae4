use Rattle.std.proofs.Common.{refl, subst, sym}
use Rattle.entity_recs.specs.Records.{IsRecord}
use Rattle.trial_outcomes.proofs.ErrandRecords.{keepable}
use Rattle.trial_outcomes.proofs.ErrandLaws.{arrived_is_record}
use Rattle.core_trials.proofs.errand.ErrandAction.region.Goals as goal

pub abs_box-requires : goal.abs_box-requires
abs_box-requires c = (keepable c.args.me.now c.args.me.now.kind refl c.requires.taken).bounds

pub abs_box-requires-2 : goal.abs_box-requires-2
abs_box-requires-2 c = subst IsRecord (sym c.player_at_arrival.ensures) (arrived_is_record c.args.me.now _ c.requires)
