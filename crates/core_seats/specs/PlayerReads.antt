-- What was loaded of a player, as the definitions have it.
use Rattle.core_steps.specs.Reads as core_reads
use Rattle.core_seats.specs.declared.reads.PlayerRead.{PlayerRead}

-- the words of a player of the definitions
abbrev pub player_read_of : PlayerRead → core_reads.PlayerRead
player_read_of read = record { slot = read.slot; words = read.words }
