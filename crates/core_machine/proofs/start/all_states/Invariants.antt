use Rattle.std.proofs.Common.{◌≡◌, ℕ, ◌<◌, get_or, length}
use Rattle.core_steps.specs.declared.sizes.TheConstants.{TABLE_STATES}
use Rattle.entity_recs.specs.Worlds.{record_with}
use Rattle.core_machine.proofs.start.all_states.Given as goal

abbrev pub invariant-loop-id : goal.invariant-loop-id
invariant-loop-id g l = record { each : (k : ℕ) → k < l.id → get_or l.state k 0 ≡ (record_with l.rules.start k).state; size : length l.state ≡ TABLE_STATES }
