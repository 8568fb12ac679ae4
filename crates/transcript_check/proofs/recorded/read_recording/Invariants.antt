use Rattle.demo_lines.specs.Recording.{lines_left}
use Rattle.transcript_check.proofs.Recording.{ReadsOn}
use Rattle.transcript_check.proofs.recorded.read_recording.Given as goal

-- the recording goes on after what was read
abbrev pub invariant-events : goal.invariant-events
invariant-events g l = ReadsOn g.S.Source l.fn.reader.reading.limit l.fn.source l.source l.reader l.recorded

abbrev pub decreases-events : goal.decreases-events
decreases-events g l = lines_left l.reader.reading
