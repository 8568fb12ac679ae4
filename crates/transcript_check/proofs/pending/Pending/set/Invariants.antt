use Rattle.std.proofs.Common.{◌≡◌, map, take}
use Rattle.std.specs.List.{AllByRecursion}
use Rattle.entity_recs.specs.Commands.{command_of}
use Rattle.plain_server.specs.Moving.{HasSmallNumber}
use Rattle.transcript_check.proofs.pending.Pending.set.Given as goal

-- the moves so far
abbrev pub invariant-loop-cmd : goal.invariant-loop-cmd
invariant-loop-cmd l = record {
  moves : l.self ≡ map command_of (take l.cmd-index l.moves);
  small : AllByRecursion HasSmallNumber l.self;
}
