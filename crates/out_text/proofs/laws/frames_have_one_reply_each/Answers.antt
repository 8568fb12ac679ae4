use Rattle.out_text.proofs.OneReply.{one_reply}
use Rattle.out_text.proofs.laws.frames_have_one_reply_each.Goals as goal

pub returns : goal.returns
returns c = one_reply
