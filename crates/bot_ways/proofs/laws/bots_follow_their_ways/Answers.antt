use Rattle.bot_ways.proofs.BotMoves.{bots_follow_their_ways}
use Rattle.bot_ways.proofs.laws.bots_follow_their_ways.Goals as goal

pub returns : goal.returns
returns c = bots_follow_their_ways
