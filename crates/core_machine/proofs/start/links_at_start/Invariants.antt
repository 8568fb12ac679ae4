use Rattle.std.proofs.Common.{◌≡◌, ◌&&◌, ◌==◌}
use Rattle.areanode.specs.Words.{word_of}
use Rattle.core_steps.specs.Nodes.{home}
use Rattle.core_steps.specs.Stands.{is_player}
use Rattle.core_seats.specs.Shown.{fixed_of}
use Rattle.core_machine.proofs.start.links_at_start.Given as goal

abbrev pub invariant-loop-slot : goal.invariant-loop-slot
invariant-loop-slot g l =
    let F = fixed_of g.A.Action.meaning l.rules in
    l.word ≡ word_of l.slot (λ slot. is_player F slot && (l.node == home F (F.start.record_of slot)))
