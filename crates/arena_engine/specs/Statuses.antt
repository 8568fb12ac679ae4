-- The statuses that the program ends with, in numbers.
use Rattle.std.specs.Prelude.{ℕ}
use Rattle.arena_engine.specs.declared.status.Status.{Status}
use Rattle.arena_engine.specs.declared.status.Status.TheVariants.{Done, RecordingRefused, WordsRefused, ReadFault, WriteFault, NoMemory, TranscriptRefused, NoWay}

-- the number of a status
abbrev pub number_of : Status → ℕ
number_of Done = 0
number_of RecordingRefused = 1
number_of WordsRefused = 2
number_of ReadFault = 3
number_of WriteFault = 4
number_of NoMemory = 5
number_of TranscriptRefused = 6
number_of NoWay = 7
