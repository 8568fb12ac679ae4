use Rattle.demo_make.proofs.Lines.{corner-near}
use Rattle.demo_make.proofs.map_lines.block.Goals as goal

pub top_corner-requires : goal.top_corner-requires
top_corner-requires c = rw c.block_corner-lo.ensures (corner-near c.args.j c.requires)
