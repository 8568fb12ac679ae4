use Rattle.demo_lines.proofs.MapGiven.{memory_is_for_the_map}
use Rattle.demo_lines.proofs.laws.memory_is_for_the_map.Goals as goal

pub returns : goal.returns
returns c = memory_is_for_the_map
