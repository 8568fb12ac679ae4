use Rattle.std.proofs.Common.{rules, arith, suc, ◌+◌, ◌≡◌}
use Rattle.demo_walk.specs.Places.{is_place}
use Rattle.demo_walk.proofs.PlaceParts.{passing-more}
use Rattle.demo_walk.proofs.places.place_count.Goals as goal

pub loop-index-preserved : goal.loop-index-preserved
loop-index-preserved c =
    let more = passing-more (is_place c.args.map.now) c.loop-index.index in
    let one : c.loop-index.index + 1 ≡ suc c.loop-index.index = omega arith in
    record { value = rw one (search (rules, more)); few = search rules }
