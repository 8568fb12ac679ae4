use Rattle.std.proofs.Common.{refl, sym, subst, [], ◌∷◌}
use Rattle.std.specs.List.Sorted.{IsStrictlyIncreasing}
use Rattle.arena_action_trials.proofs.RisingIds.{rise_by_test}
use Rattle.arena_action_trials.proofs.tests.shots.effect_among_gems.Goals as goal

pub act-requires-clause-rising : goal.act-requires-clause-rising
act-requires-clause-rising g c =
    subst IsStrictlyIncreasing (sym c.target_and_gems.ensures.ids)
    (rise_by_test (1 ∷ 64 ∷ 65 ∷ 66 ∷ 67 ∷ 68 ∷ 69 ∷ 70 ∷ 71 ∷ []) refl)
