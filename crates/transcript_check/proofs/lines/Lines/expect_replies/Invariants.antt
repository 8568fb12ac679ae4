use Rattle.std.proofs.Common.{◌≤◌}
use Rattle.world_tree.specs.Live.{live_in}
use Rattle.world_tree.specs.Worlds.{IsLinked}
use Rattle.out_text.specs.FrameLines.{to_line}
use Rattle.transcript_check.proofs.Replies.{replies_left}
use Rattle.transcript_check.proofs.ReadingOn.{ReadsSome}
use Rattle.transcript_check.proofs.lines.Lines.expect_replies.Given as goal

-- the lines of the slots so far were read, and those of the others are left; once a record was asked for, the world is
-- known to be linked
abbrev pub invariant-loop-slot : goal.invariant-loop-slot
invariant-loop-slot g l = record {
  some : ReadsSome g.S.Source l.fn.source l.source l.fn.self.input l.self.input (replies_left (to_line l.frame (live_in l.world.records)) l.world.records 0)
      (replies_left (to_line l.frame (live_in l.world.records)) l.world.records l.slot);
  linked : 1 ≤ l.slot → IsLinked l.world;
}
