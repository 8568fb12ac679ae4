use Rattle.std.proofs.Common.{◌-◌}
use Rattle.arena_map.specs.declared.limits.TheConstants.{MOST_FRAMES}
use Rattle.transcript_check.proofs.FedRead.{FedSoFar}
use Rattle.transcript_check.proofs.auditing.compare_log.Given as goal

-- the frames so far were read
abbrev pub invariant-pieces : goal.invariant-pieces
invariant-pieces g l = FedSoFar g.S.Source l.fn.checker.map l.fn.source l.source l.fn.checker.input l.checker

abbrev pub decreases-pieces : goal.decreases-pieces
decreases-pieces g l = MOST_FRAMES - l.checker.frames
