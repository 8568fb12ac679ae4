use Rattle.std.proofs.Common.{[], ◌∷◌}
use Rattle.std.proofs.lemmas.List.Elements.{All-cons, All-nil}
use Rattle.entity_recs.specs.Records.{IsRecord}
use Rattle.rule_trials.proofs.tests.shots.shoot.Goals as goal

pub fire-fired-requires-clause-records : goal.fire-fired-requires-clause-records
fire-fired-requires-clause-records c =
    All-cons IsRecord c.args.first (c.args.second ∷ []) c.requires.first (All-cons IsRecord c.args.second [] c.requires.second (All-nil IsRecord))
