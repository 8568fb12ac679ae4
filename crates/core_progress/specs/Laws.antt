-- That all moves come to their end.
use Rattle.std.specs.Prelude.{ℕ, ◌≡◌, ◌≤◌, ◌+◌, ◌*◌, true, false, length, List, []}
use Rattle.areanode.specs.Trees.{IsTreeDepth}
use Rattle.entity_recs.specs.Worlds.{World}
use Rattle.entity_recs.specs.Histories.{Item, commands_of}
use Rattle.core_steps.specs.Nodes.{Fixed}
use Rattle.core_steps.specs.Stands.{IsLawful, IsStart}
use Rattle.core_steps.specs.Machine.{Machine, MachineStands}
use Rattle.core_steps.specs.Calls.{Call, start_machine, after_calls, MayAllBeCalled, has_command, kept_by}
use Rattle.core_progress.specs.Progress.{served_steps, commands_given, steps_of_all, StepsOrWaits, SomeSeatSteps, IsRound}
use Rattle.core_progress.specs.Progress.{AreRounds, after_rounds, turns, after_turns, commands_in, any_in_hand}
use Rattle.core_progress.specs.Progress.{busy_rounds, IsFair, EndsSometime}

-- whatever calls are made, the steps that are served, and those that are left after them, are at most those that were
-- left before, and for each command that is given 24,471 and two for each live id
abbrev pub ServedStepsAreBounded : Type 0
ServedStepsAreBounded =
    (F : Fixed) (m : Machine) (history : List Item) (now : World) (calls : List Call) → IsLawful F → IsStart F
    → IsTreeDepth F.tree.depth → MachineStands F m history now → MayAllBeCalled F m calls
    → served_steps F m calls + steps_of_all F (after_calls F m calls)
    ≤ steps_of_all F m + commands_given calls * (24471 + 2 * length F.start.ids)

-- whatever calls are made from the start on: of each command that is given at most 24,471 steps, and two for each live
-- id, are served or left
abbrev pub CommandsTakeFewSteps : Type 0
CommandsTakeFewSteps =
    (F : Fixed) (room : ℕ) (rooms : List ℕ) (calls : List Call) → IsLawful F → IsStart F → IsTreeDepth F.tree.depth
    → MayAllBeCalled F (start_machine F room rooms) calls
    → served_steps F (start_machine F room rooms) calls + steps_of_all F (after_calls F (start_machine F room rooms) calls)
    ≤ commands_given calls * (24471 + 2 * length F.start.ids)

-- a seat with a command in hand can step, or it waits for a node that another seat holds, and never both
abbrev pub SeatsStepOrWait : Type 0
SeatsStepOrWait =
    (F : Fixed) (m : Machine) (history : List Item) (now : World) (i : ℕ) → MachineStands F m history now
    → has_command m i ≡ true → StepsOrWaits F m i

-- where a seat has a command in hand, some seat with a command in hand can step
abbrev pub SomeSeatCanStep : Type 0
SomeSeatCanStep =
    (F : Fixed) (m : Machine) (history : List Item) (now : World) (i : ℕ) → MachineStands F m history now
    → has_command m i ≡ true → SomeSeatSteps F m

-- to let each seat go on once, in the order of their numbers, is a round
abbrev pub TurnsAreRounds : Type 0
TurnsAreRounds =
    (F : Fixed) (m : Machine) (history : List Item) (now : World) → MachineStands F m history now
    → IsRound F m (turns m)

-- whatever calls are made from the start on: no command is in hand after as many turns of all seats as 24,471 and two for
-- each live id for each command that was given
abbrev pub TurnsEndAllCommands : Type 0
TurnsEndAllCommands =
    (F : Fixed) (room : ℕ) (rooms : List ℕ) (calls : List Call) (n : ℕ) → IsLawful F → IsStart F
    → IsTreeDepth F.tree.depth → MayAllBeCalled F (start_machine F room rooms) calls
    → commands_given calls * (24471 + 2 * length F.start.ids) ≤ n
    → (i : ℕ) → has_command (after_turns F (after_calls F (start_machine F room rooms) calls) n) i ≡ false

-- a command in hand of any seat counts for a round
abbrev pub CommandsInHandAreSeen : Type 0
CommandsInHandAreSeen =
    (F : Fixed) (m : Machine) (history : List Item) (now : World) (i : ℕ) → MachineStands F m history now
    → has_command m i ≡ true → any_in_hand m ≡ true

-- of any rounds, at most as many begin with a command in hand as steps were left, and 24,471 and two for each live id for
-- each command that they give
abbrev pub BusyRoundsAreFew : Type 0
BusyRoundsAreFew =
    (F : Fixed) (m : Machine) (history : List Item) (now : World) (rounds : List (List Call)) → IsLawful F
    → IsStart F → IsTreeDepth F.tree.depth → MachineStands F m history now → AreRounds F m rounds
    → busy_rounds F m rounds ≤ steps_of_all F m + commands_in rounds * (24471 + 2 * length F.start.ids)

-- after as many rounds that give no command as there were steps left, no command is in hand
abbrev pub RoundsEndAllCommands : Type 0
RoundsEndAllCommands =
    (F : Fixed) (m : Machine) (history : List Item) (now : World) (rounds : List (List Call)) → IsLawful F
    → IsStart F → IsTreeDepth F.tree.depth → MachineStands F m history now → AreRounds F m rounds
    → commands_in rounds ≡ 0 → steps_of_all F m ≤ length rounds
    → (i : ℕ) → has_command (after_rounds F m rounds) i ≡ false

-- on a schedule without end that gives finitely many commands, and by which no seat that can step is left so for ever,
-- no command is in hand from some call on
abbrev pub FairSchedulesEndAllCommands : Type 0
FairSchedulesEndAllCommands =
    (F : Fixed) (m : Machine) (history : List Item) (now : World) (schedule : ℕ → Call) → IsLawful F → IsStart F
    → IsTreeDepth F.tree.depth → MachineStands F m history now → IsFair F m schedule → EndsSometime F m schedule

-- whatever calls are made from the start on: a seat that has no command in hand after them has, in its log, just the
-- commands that it was given and didn't give up, each once and in its order
abbrev pub EndedCommandsAreLogged : Type 0
EndedCommandsAreLogged =
    (F : Fixed) (room : ℕ) (rooms : List ℕ) (calls : List Call) (i : ℕ) → IsLawful F → IsStart F
    → MayAllBeCalled F (start_machine F room rooms) calls
    → has_command (after_calls F (start_machine F room rooms) calls) i ≡ false
    → commands_of ((after_calls F (start_machine F room rooms) calls).core.view i).log
    ≡ kept_by F (start_machine F room rooms) i calls []
