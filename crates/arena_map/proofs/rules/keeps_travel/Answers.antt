use Rattle.std.proofs.Common.{sym, ap, ◌∙◌, w32}
use Rattle.std.proofs.lemmas.Int.{to_z-of_z}
use Rattle.arena_geo.specs.Boxes.{contains}
use Rattle.arena_map.specs.Positions.{box_at_the_top, keeps_travel}
use Rattle.arena_map.proofs.Boxes.{rise-fits}
use Rattle.arena_map.proofs.rules.keeps_travel.Goals as goal

pub returns-in-Lift : goal.returns-in-Lift
returns-in-Lift c =
    let limits = rw c.in-Lift.is at c.requires.limits in
    let rise = to_z-of_z w32 c.in-Lift.rise (rise-fits c.in-Lift.rise limits.2 limits.3) in
    c.contains.ensures
    ∙ ap (contains c.args.arena.now) (c.box_at_the_top.ensures ∙ ap (box_at_the_top c.in-Lift.lo c.in-Lift.hi) rise)
    ∙ sym (ap (keeps_travel c.args.arena.now) c.in-Lift.is)
