use Rattle.demo_lines.proofs.MapGiven.{nothing_needs_the_map}
use Rattle.demo_lines.proofs.laws.nothing_needs_the_map.Goals as goal

pub returns : goal.returns
returns c = nothing_needs_the_map
