use Rattle.demo_lines.specs.Kinds.{event_of_kind}
use Rattle.demo_lines.specs.Recording.{lines_left}
use Rattle.arena_engine.proofs.Ended.{GoesFrom}
use Rattle.arena_engine.proofs.event_loop.play_events.Given as goal

-- the events before this one were played, seen from each start
abbrev pub invariant-events : goal.invariant-events
invariant-events g l =
    GoesFrom g.S.Source g.K.Sink l.feeding l.host.workers l.fn.source l.source l.fn.sink l.sink l.fn.demo l.demo l.fn.game l.game l.fn.first (event_of_kind l.kind l.arrival)

abbrev pub decreases-events : goal.decreases-events
decreases-events g l = lines_left l.demo.reading
