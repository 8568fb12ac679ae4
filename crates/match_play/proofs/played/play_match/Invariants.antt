use Rattle.demo_make.specs.Remaining.{remaining_events}
use Rattle.match_play.proofs.Events.{IsGameUnderWay}
use Rattle.match_play.proofs.played.play_match.Given as goal

-- the frames that were run have their journals, and the frames that are left come by the events that are
abbrev pub invariant-loop-event : goal.invariant-loop-event
invariant-loop-event g l = IsGameUnderWay l.seed l.players l.host.workers l.frames l.game (remaining_events l.event-iterator)
