use Rattle.std.proofs.Common.{◌≡◌, ◌≤◌, ◌*◌, take}
use Rattle.match_play.specs.Totals as totals
use Rattle.match_play.proofs.items.items_in.Given as goal

-- the items of the entries so far, at most 8 of each
abbrev pub invariant-loop-entry : goal.invariant-loop-entry
invariant-loop-entry l = record {
  count : l.items ≡ totals.items_in (take l.entry-index l.entries);
  bound : l.items ≤ 8 * l.entry-index;
}
