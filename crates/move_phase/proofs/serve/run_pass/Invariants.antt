use Rattle.std.proofs.Common.{length, map, take}
use Rattle.entity_recs.specs.Commands.{command_of}
use Rattle.ruled_words.specs.Passes.{fixed_in}
use Rattle.move_phase.specs.Serving.{served_by}
use Rattle.move_phase.specs.Running.{HasServed}
use Rattle.move_phase.proofs.serve.run_pass.Given as goal

-- the moves so far that the pass serves are in its log
abbrev pub invariant-loop-cmd : goal.invariant-loop-cmd
invariant-loop-cmd g l =
    HasServed (fixed_in g.A.Action.meaning l.shared) (length l.shared.rooms) l.shared.table l.fn.pass l.pass
    (served_by (length l.shared.rooms) l.fn.pass.number (map command_of (take l.cmd-index l.moves)))
