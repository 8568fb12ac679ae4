use Rattle.arena_map.proofs.LineThings.{lines_give_their_things}
use Rattle.arena_map.proofs.laws.lines_give_their_things.Goals as goal

pub returns : goal.returns
returns c = lines_give_their_things
