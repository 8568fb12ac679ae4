-- What a seat does next, where the effect of its command is kept beside its view.
use Rattle.std.specs.Prelude.{Bool, if◌then◌else◌, Option, Some, None}
use Rattle.entity_recs.specs.declared.effect.Effect.{Effect}
use Rattle.entity_recs.specs.Commands.{Command}
use Rattle.core_steps.specs.Nodes.{Fixed}
use Rattle.core_steps.specs.Points.{Point, Idle, Owning, Taking, Checking, Entering, Entered, Loading, Leaving}
use Rattle.core_steps.specs.Points.{Sensing, Resolving, Claiming, Storing, Releasing, Returning, Yielding}
use Rattle.core_steps.specs.Reads.{View}
use Rattle.core_steps.specs.Nodes.{write_nodes}
use Rattle.core_steps.specs.Reads.{record_read}
use Rattle.core_steps.specs.Steps.{first_yield}
use Rattle.core_steps.specs.Machine.{Next, YieldCount, resolving, quitting, next_at}

-- what comes next after all is read: with the effect that is kept the first write node is taken, or the commit
abbrev pub next_resolved : Fixed → View → Option Effect → Option Next
next_resolved F view None = None
next_resolved F view (Some e) = Some (resolving e (write_nodes F (record_read view.cmd.slot view.again) e))

-- what comes next at this point, where this effect is kept: as in the core, but for the effect
abbrev pub next_point : Fixed → View → Option Command → Option Effect → Point → Option Next
next_point F view given effect Idle = next_at F view given Idle
next_point F view given effect Owning = next_at F view given Owning
next_point F view given effect (Taking got rest) = next_at F view given (Taking got rest)
next_point F view given effect Checking = next_at F view given Checking
next_point F view given effect (Entering node plan) = next_at F view given (Entering node plan)
next_point F view given effect (Entered node plan) = next_at F view given (Entered node plan)
next_point F view given effect (Loading node part players plan) = next_at F view given (Loading node part players plan)
next_point F view given effect (Leaving node plan) = next_at F view given (Leaving node plan)
next_point F view given effect (Sensing ids) = next_at F view given (Sensing ids)
next_point F view given effect Resolving = next_resolved F view effect
next_point F view given effect (Claiming got rest) = next_at F view given (Claiming got rest)
next_point F view given effect (Storing nodes stores) = next_at F view given (Storing nodes stores)
next_point F view given effect (Releasing nodes) = next_at F view given (Releasing nodes)
next_point F view given effect (Returning leaves) = next_at F view given (Returning leaves)
next_point F view given effect (Yielding nodes leaves) = next_at F view given (Yielding nodes leaves)

-- what comes next of a seat that was given this command, is asked to give up or not, and keeps this effect
abbrev pub next_with : Fixed → View → Option Command → Bool → Option Effect → Option Next
next_with F view given quits effect =
    if quits then Some (quitting (first_yield F view)) else next_point F view given effect view.point

-- the step that comes next
abbrev pub the_next : Option Next → Next
the_next None = YieldCount
the_next (Some next) = next
