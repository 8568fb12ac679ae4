use Rattle.std.proofs.Common.{map, drop}
use Rattle.out_text.specs.OutLines.{text_of}
use Rattle.out_text.proofs.Buffering.{IsPrinting}
use Rattle.out_text.proofs.printer.Printer.print_each.Given as goal

-- the lines of the items so far were printed, and those of the others are left
abbrev pub invariant-loop-item : goal.invariant-loop-item
invariant-loop-item g l =
    IsPrinting g.K.Sink.taken g.K.Sink.faults g.K.Sink.room l.fn.sink l.sink l.fn.self l.self
    (text_of (map g.T.Printed.line l.items)) (text_of (map g.T.Printed.line (drop l.item-index l.items)))
