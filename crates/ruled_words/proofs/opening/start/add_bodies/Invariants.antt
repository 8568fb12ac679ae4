use Rattle.std.proofs.Common.{◌≡◌, ◌+◌, ◌*◌}
use Rattle.core_steps.specs.declared.sizes.TheConstants.{FIRST_RECORD_WORD}
use Rattle.ruled_words.specs.Starts.{first_words}
use Rattle.ruled_words.proofs.opening.start.add_bodies.Given as goal

abbrev pub invariant-loop-slot : goal.invariant-loop-slot
invariant-loop-slot l = l.words.items ≡ first_words l.world (FIRST_RECORD_WORD + 5 * l.slot)
