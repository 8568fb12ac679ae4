use Rattle.std.proofs.Common.{◌≡◌, ◌≤◌, ◌*◌, ◌^◌}
use Rattle.world_tree.specs.Worlds.{IsLinked}
use Rattle.frame_phases.proofs.Scoring.{score_first}
use Rattle.frame_phases.proofs.scores.score_of.Given as goal

-- the scores of the slots so far, each of 32 bits; the first look at the world says that it is linked
abbrev pub invariant-loop-slot : goal.invariant-loop-slot
invariant-loop-slot l = record {
  sum : l.score ≡ score_first l.slot l.world.records;
  bound : l.score ≤ 2 ^ 32 * l.slot;
  linked : 1 ≤ l.slot → IsLinked l.world;
}
