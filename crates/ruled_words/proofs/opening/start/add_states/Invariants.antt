use Rattle.std.proofs.Common.{◌≡◌, ◌+◌}
use Rattle.core_steps.specs.declared.sizes.TheConstants.{FIRST_STATE_WORD}
use Rattle.ruled_words.specs.Starts.{first_words}
use Rattle.ruled_words.proofs.opening.start.add_states.Given as goal

abbrev pub invariant-loop-id : goal.invariant-loop-id
invariant-loop-id l = l.words.items ≡ first_words l.world (FIRST_STATE_WORD + l.id)
