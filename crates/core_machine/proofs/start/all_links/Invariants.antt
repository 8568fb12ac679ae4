use Rattle.std.proofs.Common.{◌≡◌, ℕ, ◌<◌, get_or, length}
use Rattle.core_steps.specs.declared.sizes.TheConstants.{TABLE_NODES}
use Rattle.core_steps.specs.Stands.{start_words}
use Rattle.core_seats.specs.Shown.{fixed_of}
use Rattle.core_machine.proofs.start.all_links.Given as goal

abbrev pub invariant-loop-node : goal.invariant-loop-node
invariant-loop-node g l = record { each : (k : ℕ) → k < l.node → get_or l.links k 0 ≡ (start_words (fixed_of g.A.Action.meaning l.rules)).links k; size : length l.links ≡ TABLE_NODES }
