use Rattle.std.proofs.Common.{◌≡◌, ℕ, ◌<◌, [], get_or, length}
use Rattle.core_steps.specs.Encoding.{words_of}
use Rattle.entity_recs.specs.Worlds.{record_with}
use Rattle.core_machine.proofs.start.all_bodies.Given as goal

abbrev pub invariant-loop-slot : goal.invariant-loop-slot
invariant-loop-slot g l = record { each : (k : ℕ) → k < l.slot → get_or l.body k [] ≡ words_of (record_with l.rules.start k); size : length l.body ≡ 64 }
