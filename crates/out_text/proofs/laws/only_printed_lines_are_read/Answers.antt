use Rattle.out_text.proofs.Spellings.{did_lines_are_read, frame_lines_are_read}
use Rattle.out_text.proofs.laws.only_printed_lines_are_read.Goals as goal

pub returns-clause-dids : goal.returns-clause-dids
returns-clause-dids c = did_lines_are_read

pub returns-clause-frames : goal.returns-clause-frames
returns-clause-frames c = frame_lines_are_read
