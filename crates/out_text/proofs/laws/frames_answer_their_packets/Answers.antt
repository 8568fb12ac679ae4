use Rattle.out_text.proofs.OneAnswer.{one_answer_each}
use Rattle.out_text.proofs.laws.frames_answer_their_packets.Goals as goal

pub returns : goal.returns
returns c = one_answer_each
