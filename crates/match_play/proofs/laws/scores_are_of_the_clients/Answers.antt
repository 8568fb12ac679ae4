use Rattle.match_play.proofs.ScoresOfClients.{scores_are_of_the_clients}
use Rattle.match_play.proofs.laws.scores_are_of_the_clients.Goals as goal

pub returns : goal.returns
returns c = scores_are_of_the_clients
