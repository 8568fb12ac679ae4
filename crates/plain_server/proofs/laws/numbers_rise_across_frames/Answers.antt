use Rattle.plain_server.proofs.Numbers.{numbers_rise_on}
use Rattle.plain_server.proofs.laws.numbers_rise_across_frames.Goals as goal

pub returns : goal.returns
returns c = numbers_rise_on
