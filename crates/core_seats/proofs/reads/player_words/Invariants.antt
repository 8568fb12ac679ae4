use Rattle.std.proofs.Common.{◌≡◌, drop, map}
use Rattle.core_steps.specs.Reads.{player_at}
use Rattle.core_seats.specs.PlayerReads.{player_read_of}
use Rattle.core_seats.proofs.reads.player_words.Given as goal

abbrev pub invariant-loop-read : goal.invariant-loop-read
invariant-loop-read l = player_at (map player_read_of l.others) l.slot ≡ player_at (map player_read_of (drop l.read-index l.others)) l.slot
