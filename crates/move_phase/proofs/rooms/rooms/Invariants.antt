use Rattle.std.proofs.Common.{◌≡◌, length, map, take}
use Rattle.entity_recs.specs.Commands.{command_of}
use Rattle.move_phase.specs.declared.rooms.TheConstants.{MOST_WORKERS}
use Rattle.move_phase.specs.Running.{HaveRoom}
use Rattle.move_phase.proofs.rooms.rooms.Given as goal

-- there is room for the moves so far
abbrev pub invariant-loop-cmd : goal.invariant-loop-cmd
invariant-loop-cmd l = (length l.room ≡ MOST_WORKERS) × HaveRoom l.workers (map command_of (take l.cmd-index l.moves)) l.room
