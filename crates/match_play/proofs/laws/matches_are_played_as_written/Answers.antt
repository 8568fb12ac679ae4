use Rattle.match_play.proofs.Written.{matches_are_played_as_written}
use Rattle.match_play.proofs.laws.matches_are_played_as_written.Goals as goal

pub returns : goal.returns
returns c = matches_are_played_as_written
