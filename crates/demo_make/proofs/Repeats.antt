-- The packets that repeat commands are read as they were written.
use Rattle.std.proofs.Common.{◌≡◌, ℕ, ◌+◌, ◌-◌, ◌/◌, ◌%◌, ◌^◌, ◌≤◌, ◌<◌, eqb, length, All, arith, FitsSigned, Ok}
use Rattle.std.specs.List.{range_with_len}
use Rattle.std.specs.Int.{w16}
use Rattle.std.proofs.Math.Nat.{min-le_left, min-le_right, le-min}
use Rattle.std.proofs.lemmas.Int.{ints}
use Rattle.std.proofs.lemmas.List.Elements.{All-map}
use Rattle.std.proofs.lemmas.List.FromFn.{length-map-range_with_len}
use Rattle.packet_read.specs.declared.packet.Packet.TheVariants.{Moves}
use Rattle.packet_read.specs.Reading.{reading}
use Rattle.packet_read.specs.Spelling.{IsAllowedBlock, IsAllowedMoves, BlockFits, MovesFit}
use Rattle.packet_read.proofs.Again.{packet_again}
use Rattle.demo_make.specs.GeneratedFrames.{wish_of, command_of}
use Rattle.demo_make.specs.ResentFrames.{command_in, how_many_in, last_commands, repeat_from}
pub use Rattle.demo_make.specs.ResentFrames.{repeat_of}
use Rattle.demo_make.specs.Laws.{PacketsAreRead}
use Rattle.demo_make.proofs.FramesKept.{button-few, join-read, move-read}
use Rattle.demo_make.proofs.MapKept.{range-all}

-- ---- a command

wish-fits : (word : ℕ) → FitsSigned w16 (wish_of word)
wish-fits word = omega (arith, ints)

block-allowed : (word : ℕ) → IsAllowedBlock (command_of word)
block-allowed word = record {
  least = omega arith;
  most = omega arith;
  buttons = omega (arith, button-few (eqb (word / 2 ^ 32 % 16) 0));
}

block-fits : (word : ℕ) → BlockFits (command_of word)
block-fits word = record {
  ms = omega arith;
  wish_x = wish-fits word;
  wish_y = wish-fits (word / 2 ^ 16);
  buttons = omega (arith, button-few (eqb (word / 2 ^ 32 % 16) 0));
}

-- ---- how many commands

pub many-some : (frame : ℕ) → 1 ≤ how_many_in frame
many-some frame = le-min (omega arith) (omega arith)

pub many-few : (frame : ℕ) → how_many_in frame ≤ 3
many-few frame = min-le_left 3 (frame + 1)

pub many-there : (frame : ℕ) → how_many_in frame ≤ frame + 1
many-there frame = min-le_right 3 (frame + 1)

pub commands-length : (seed players frame port : ℕ) → length (last_commands seed players frame port) ≡ how_many_in frame
commands-length seed players frame port =
    length-map-range_with_len (command_in seed players port) (frame + 1 - how_many_in frame) (how_many_in frame)

-- ---- a packet

pub steps-allowed : (seed players frame port : ℕ) → IsAllowedMoves (repeat_of seed players frame port)
steps-allowed seed players frame port = record {
  some = omega (arith, commands-length seed players frame port, many-some frame);
  few = omega (arith, commands-length seed players frame port, many-few frame);
  numbers = omega (arith, commands-length seed players frame port, many-there frame);
  blocks = All-map IsAllowedBlock (command_in seed players port) (range_with_len (frame + 1 - how_many_in frame) (how_many_in frame))
      (range-all (λ n. IsAllowedBlock (command_in seed players port n)) (frame + 1 - how_many_in frame) (how_many_in frame)
      (λ n _ _. block-allowed _));
}

steps-fit : (seed players frame port : ℕ) → frame + 1 < 2 ^ 32 → MovesFit (repeat_of seed players frame port)
steps-fit seed players frame port few = record {
  seq = few;
  blocks = blocks-fit seed players frame port;
}
  where
    blocks-fit : (seed players frame port : ℕ) → All BlockFits (last_commands seed players frame port)
    blocks-fit seed players frame port =
        All-map BlockFits (command_in seed players port) (range_with_len (frame + 1 - how_many_in frame) (how_many_in frame))
        (range-all (λ n. BlockFits (command_in seed players port n)) (frame + 1 - how_many_in frame) (how_many_in frame)
        (λ n _ _. block-fits _))

-- a packet with commands is read as it was written
pub repeat-read : (seed players frame port : ℕ) → frame + 1 < 2 ^ 32
    → reading (repeat_from seed players frame port).bytes ≡ Ok (Moves (repeat_of seed players frame port))
repeat-read seed players frame port few =
    packet_again (Moves (repeat_of seed players frame port)) (steps-fit seed players frame port few) (steps-allowed seed players frame port)

pub packets_are_read : PacketsAreRead
packets_are_read = record { joins = join-read; moves = move-read; repeats = repeat-read }
