use Rattle.std.proofs.Common.{refl}
use Rattle.arena_cli.proofs.Unserved.{not_served}
use Rattle.arena_cli.proofs.answer.answer.Goals as goal

pub returns-in-Ok-clause-served : goal.returns-in-Ok-clause-served
returns-in-Ok-clause-served g c = λ command asks.
    not_served g.S.Source g.K.Sink _ _ _ _ c.of_status_alone.result c.in-Err.ensures.unread c.in-Err.ensures.memory c.of_status_alone.ensures.status c.of_status_alone.ensures.place c.of_status_alone.ensures.last c.of_status_alone.ensures.order c.of_status_alone.ensures.all command

pub returns-clause-served : goal.returns-clause-served
returns-clause-served g c = λ command asks.
    not_served g.S.Source g.K.Sink _ _ _ _ c.of_status_alone-in-Err-NoMemory.result refl refl c.of_status_alone-in-Err-NoMemory.ensures.status c.of_status_alone-in-Err-NoMemory.ensures.place c.of_status_alone-in-Err-NoMemory.ensures.last c.of_status_alone-in-Err-NoMemory.ensures.order c.of_status_alone-in-Err-NoMemory.ensures.all command
