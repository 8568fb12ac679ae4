use Rattle.std.proofs.Common.{[]}
use Rattle.std.specs.List.{IsDistinct}
use Rattle.std.proofs.lemmas.List.Elements.{All-cons, All-nil}
use Rattle.entity_recs.specs.Records.{IsRecord}
use Rattle.world_trials.proofs.tests.filled.Goals as goal

pub new-requires-clause-records : goal.new-requires-clause-records
new-requires-clause-records g c = All-cons IsRecord c.player.result [] c.player.ensures.record (All-nil IsRecord)

pub new-requires-clause-apart : goal.new-requires-clause-apart
unfolding IsDistinct
new-requires-clause-apart g c = (tt, tt)
