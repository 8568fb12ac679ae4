use Rattle.std.proofs.Common.{◌∙◌, sym}
use Rattle.packet_read.proofs.Again.{same_packet}
use Rattle.packet_read.proofs.laws.one_spelling.Goals as goal

pub returns : goal.returns
returns c = record {
  of_a_packet = λ p a b left right. left.spelled ∙ sym right.spelled;
  of_no_other = same_packet;
}
