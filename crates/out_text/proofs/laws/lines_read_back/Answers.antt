use Rattle.out_text.proofs.LinesRead.{line-sound, printed_read}
use Rattle.out_text.proofs.laws.lines_read_back.Goals as goal

pub returns : goal.returns
returns c = λ line l. (line-sound line l, printed_read line l)
