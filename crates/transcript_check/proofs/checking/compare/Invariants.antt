use Rattle.std.proofs.Common.{map, take}
use Rattle.transcript_check.proofs.FramesRead.{FramesSoFar}
use Rattle.transcript_check.proofs.checking.compare.Given as goal

-- the frames so far were read
abbrev pub invariant-loop-arrivals : goal.invariant-loop-arrivals
invariant-loop-arrivals g l =
    FramesSoFar g.S.Source l.fn.checker.map (take l.arrivals-index (map (λ arrivals. arrivals.items) l.frames)) l.fn.source l.source l.fn.checker.input l.checker
