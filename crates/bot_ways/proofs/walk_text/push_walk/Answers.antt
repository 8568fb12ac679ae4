use Rattle.std.proofs.Common.{slice_get, sym, ap, ◌∙◌, arith}
use Rattle.bot_ways.proofs.WalkSteps.{at_edge, stride-at, walks-next, walks-end}
use Rattle.bot_ways.proofs.walk_text.push_walk.Goals as goal

pub waypoint_point-from-requires : goal.waypoint_point-from-requires
waypoint_point-from-requires c =
    let e = at_edge c.args.map.now c.args.way.now c.loop-index.index c.loop-index.auto.index c.loop-index-test.true c.loop-index.invariant.walk in
    omega (arith, c.from.ensures, e.from_in)

pub waypoint_point-to-requires : goal.waypoint_point-to-requires
waypoint_point-to-requires c =
    let e = at_edge c.args.map.now c.args.way.now c.loop-index.index c.loop-index.auto.index c.loop-index-test.true c.loop-index.invariant.walk in
    omega (arith, c.from-in-loop-index.ensures, e.to_in)

pub push_frames-requires-clause-stride : goal.push_frames-requires-clause-stride
push_frames-requires-clause-stride c =
    stride-at c.args.map.now c.args.way.now c.loop-index.index c.from.result c.from-in-loop-index.result c.waypoint_point-from.result c.waypoint_point-to.result
    c.loop-index.auto.index c.loop-index-test.true c.loop-index.invariant.walk c.from.ensures c.from-in-loop-index.ensures
    c.waypoint_point-from.ensures.value c.waypoint_point-to.ensures.value c.waypoint_point-from.ensures.near c.waypoint_point-to.ensures.near

pub moves_between-seq-requires : goal.moves_between-seq-requires
moves_between-seq-requires c =
    stride-at c.args.map.now c.args.way.now c.loop-index.index c.from.result c.from-in-loop-index.result c.waypoint_point-from.result c.waypoint_point-to.result
    c.loop-index.auto.index c.loop-index-test.true c.loop-index.invariant.walk c.from.ensures c.from-in-loop-index.ensures
    c.waypoint_point-from.ensures.value c.waypoint_point-to.ensures.value c.waypoint_point-from.ensures.near c.waypoint_point-to.ensures.near

pub loop-index-preserved : goal.loop-index-preserved
loop-index-preserved c =
    let m = c.args.map.now in
    let way = c.args.way.now in
    let i = c.loop-index.index in
    let p = c.waypoint_point-from.result in
    let q = c.waypoint_point-to.result in
    let is_stride = stride-at m way i c.from.result c.from-in-loop-index.result p q c.loop-index.auto.index c.loop-index-test.true c.loop-index.invariant.walk
    c.from.ensures c.from-in-loop-index.ensures c.waypoint_point-from.ensures.value c.waypoint_point-to.ensures.value c.waypoint_point-from.ensures.near c.waypoint_point-to.ensures.near in
    rw (c.moves_between-seq.ensures.value, c.distance-length.ensures.value)
    (walks-next m way i c.loop-index.seq c.loop-index.length c.loop-index.text c.args.text.now c.push_frames.new.text p q c.loop-index.invariant
    c.loop-index.auto.index c.loop-index-test.true
    (ap (slice_get m.spawns) (sym c.from.ensures) ∙ c.waypoint_point-from.ensures.value) (ap (slice_get m.spawns) (sym c.from-in-loop-index.ensures) ∙ c.waypoint_point-to.ensures.value)
    c.in_ok-push_frames.ensures (omega (arith, c.moves_between-seq.ensures.few, c.moves_between-seq.ensures.value)) is_stride.few)

pub returns-clause-text : goal.returns-clause-text
returns-clause-text c =
    (walks-end c.args.map.now c.args.way.now c.loop-index.index c.loop-index.seq c.loop-index.length c.loop-index.text c.args.text.now c.loop-index.invariant
    c.loop-index.auto.index c.loop-index-test.false).text_is

pub returns-clause-length : goal.returns-clause-length
returns-clause-length c =
    (walks-end c.args.map.now c.args.way.now c.loop-index.index c.loop-index.seq c.loop-index.length c.loop-index.text c.args.text.now c.loop-index.invariant
    c.loop-index.auto.index c.loop-index-test.false).far_is
