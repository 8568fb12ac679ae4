use Rattle.arena_actions.specs.Leaps.{leap_of}
use Rattle.arena_actions.proofs.Leaping.{room_for_leap, leap_put}
use Rattle.arena_actions.proofs.leaps.Leaps.of.Goals as goal

pub push-requires-clause-room : goal.push-requires-clause-room
push-requires-clause-room c some =
    room_for_leap c.args.map.now c.entities-thing-items.result.now c.loop-thing.thing-index _ c.leap_of.result c.loop-thing.leaps c.entities-thing-items.ensures.rules
    c.entities-thing-items.ensures.value c.loop-thing-test.true c.leap_of.ensures.value c.loop-thing.invariant some

pub loop-thing-preserved : goal.loop-thing-preserved
loop-thing-preserved c =
    leap_put (leap_of c.args.map.now) c.entities-thing-items.result.now c.loop-thing.thing-index _ c.loop-thing.leaps _ c.leap_of.result c.loop-thing-test.true c.leap_of.ensures.value
    c.loop-thing.invariant c.push.ensures
