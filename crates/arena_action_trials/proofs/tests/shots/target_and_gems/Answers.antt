use Rattle.std.proofs.Common.{[], ◌∷◌}
use Rattle.std.proofs.lemmas.List.Elements.{All-from_recursion}
use Rattle.entity_recs.specs.Records.{IsRecord}
use Rattle.arena_action_trials.proofs.tests.shots.target_and_gems.Goals as goal

pub returns-clause-records : goal.returns-clause-records
returns-clause-records c =
    All-from_recursion IsRecord
    (c.target.result ∷ c.gem.result ∷ c.gem-2.result ∷ c.gem-3.result ∷ c.gem-4.result ∷ c.gem-5.result ∷ c.gem-6.result ∷ c.gem-7.result ∷ c.gem-8.result ∷ [])
    (c.target.ensures.record, (c.gem.ensures.record, (c.gem-2.ensures.record, (c.gem-3.ensures.record, (c.gem-4.ensures.record, (c.gem-5.ensures.record, (c.gem-6.ensures.record, (c.gem-7.ensures.record, (c.gem-8.ensures.record, tt)))))))))
