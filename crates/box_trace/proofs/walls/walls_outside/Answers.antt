use Rattle.arena_geo.specs.Bounds.{bounds}
use Rattle.box_trace.proofs.WallBoxes.{IsBox-low_x}
use Rattle.box_trace.proofs.walls.walls_outside.Goals as goal

pub wall-requires : goal.wall-requires
wall-requires c =
    rw (c.with_x.ensures, c.sub-low.ensures, c.add-high.ensures)
    (IsBox-low_x (bounds c.args.lo c.args.hi) (record { lo = c.requires.lo; hi = c.requires.hi; ordered = c.requires.ordered }))
