use Rattle.std.proofs.Common.{◌≡◌, ◌≤◌, length}
use Rattle.box_strips.proofs.Spreading.{AreSpread}
use Rattle.box_strips.proofs.rows.spread.Given as goal

abbrev pub invariant-loop-word : goal.invariant-loop-word
invariant-loop-word l = record { are : AreSpread l.words l.fn.rows l.rows l.word; some : l.words ≤ l.word; long : length l.rows ≡ length l.fn.rows }
