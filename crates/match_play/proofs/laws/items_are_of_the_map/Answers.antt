use Rattle.match_play.proofs.ItemsOfTheMap.{items_are_of_the_map}
use Rattle.match_play.proofs.laws.items_are_of_the_map.Goals as goal

pub returns : goal.returns
returns c = items_are_of_the_map
