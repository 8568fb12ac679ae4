use Rattle.std.proofs.Common.{drop}
use Rattle.out_text.specs.OutLines.{text_of}
use Rattle.out_text.specs.FrameLines.{reply_lines}
use Rattle.out_text.proofs.Buffering.{IsPrinting}
use Rattle.out_text.proofs.printer.Printer.print_replies.Given as goal

-- the lines of the replies so far were printed, and those of the others are left
abbrev pub invariant-loop-i : goal.invariant-loop-i
invariant-loop-i g l =
    IsPrinting g.K.Sink.taken g.K.Sink.faults g.K.Sink.room l.fn.sink l.sink l.fn.self l.self
    (text_of (reply_lines l.slots l.replies)) (text_of (reply_lines (drop l.i l.slots) (drop l.i l.replies)))
