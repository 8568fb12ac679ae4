use Rattle.std.proofs.Common.{◌≡◌, List, length, set, ap, refl, arith}
use Rattle.arena_geo.specs.declared.vec3.Vec3.{Vec3}
use Rattle.bot_ways.specs.Walks.{length_to}
use Rattle.bot_ways.specs.Search.{lesser, through}
use Rattle.bot_ways.proofs.Searching.{tried_next}
use Rattle.bot_ways.proofs.search.try_edges.Goals as goal

pub loop-to-preserved : goal.loop-to-preserved
loop-to-preserved c =
    let now = c.loop-to.least in
    let to = c.loop-to.to in
    let end = ap (λ (xs : List Vec3). length xs) c.spawns-to-end.ensures.value in
    let written : c.set.new.self ≡ set now to (lesser (length_to now to) (through c.args.map.now c.args.from to)) =
    rw (c.set.ensures, c.lesser-shortest.ensures, c.length_to.ensures.value, c.through.ensures) refl in
    tried_next c.args.map.now c.args.from to c.args.least.now now c.set.new.self (omega arith) c.loop-to.invariant written
