use Rattle.std.proofs.Common.{◌≡◌, ◌+◌, ◌*◌, ◌≤◌, ◌++◌, drop, length}
use Rattle.edge_io.specs.declared.line_buf.TheConstants.{ROOM}
use Rattle.out_text.specs.OutLines.{ids_text}
use Rattle.out_text.proofs.Writing.{more_ids}
use Rattle.out_text.proofs.printing.push_ids.Given as goal

-- what is printed so far and the ids left are all, and there is room for them
abbrev pub invariant-loop-id : goal.invariant-loop-id
invariant-loop-id l = record {
  all : l.out ++ more_ids (drop l.id-index l.rest) ≡ l.fn.out ++ ids_text l.fn.ids;
  room : length l.out + 11 * length (drop l.id-index l.rest) ≤ ROOM;
}
