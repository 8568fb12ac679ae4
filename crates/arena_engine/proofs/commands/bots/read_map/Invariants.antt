use Rattle.demo_lines.specs.Recording.{lines_left}
use Rattle.arena_engine.proofs.MapRead.{ReadsOn}
use Rattle.arena_engine.proofs.commands.bots.read_map.Given as goal

-- the recording goes on after what was read
abbrev pub invariant-events : goal.invariant-events
invariant-events g l = ReadsOn g.S.Source l.fn.source l.source l.demo

abbrev pub decreases-events : goal.decreases-events
decreases-events g l = lines_left l.demo.reading
