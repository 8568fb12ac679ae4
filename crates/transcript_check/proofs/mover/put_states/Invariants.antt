use Rattle.std.proofs.Common.{◌≡◌, ◌≤◌, length, drop}
use Rattle.plain_server.specs.Moving.{with_new_states}
use Rattle.transcript_check.proofs.mover.put_states.Given as goal

-- the states from this place on were put
abbrev pub invariant-loop-left : goal.invariant-loop-left
invariant-loop-left l = record {
  inside : l.left ≤ length l.states;
  put : l.world.records ≡ with_new_states (drop l.left l.states) l.fn.world.records;
}

abbrev pub decreases-loop-left : goal.decreases-loop-left
decreases-loop-left l = l.left
