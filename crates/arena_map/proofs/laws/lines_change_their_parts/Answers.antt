use Rattle.arena_map.proofs.LineParts.{lines_change_their_parts}
use Rattle.arena_map.proofs.laws.lines_change_their_parts.Goals as goal

pub returns : goal.returns
returns c = lines_change_their_parts
