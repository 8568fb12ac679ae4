use Rattle.std.proofs.Common.{◌∙◌}
use Rattle.out_text.specs.Printing.{line_of}
use Rattle.out_text.proofs.LinesRead.{found_printed, printed_read}
use Rattle.out_text.proofs.reading.read_line.Goals as goal

pub returns-clause-found : goal.returns-clause-found
returns-clause-found c = found_printed c.line_in.result line_of c.args.line.now c.line_in.ensures

pub returns-clause-only : goal.returns-clause-only
returns-clause-only c = λ l is. c.line_in.ensures ∙ printed_read c.args.line.now l is
