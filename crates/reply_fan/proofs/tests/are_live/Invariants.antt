use Rattle.std.specs.Prelude.{IsSome}
use Rattle.std.specs.List.{AllWithin}
use Rattle.world_tree.specs.Live.{record_at}
use Rattle.reply_fan.proofs.tests.are_live.Given as goal

-- the slots so far are live
abbrev pub invariant-loop-i : goal.invariant-loop-i
invariant-loop-i l = AllWithin (λ slot. IsSome (record_at l.world.records slot)) l.slots 0 l.i
