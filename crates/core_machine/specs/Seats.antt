-- A seat of the code as a view of the definitions.
use Rattle.std.specs.Prelude.{ℕ, ◌≡◌, true, false, [], map, Option, Some, None}
use Rattle.std.specs.Option.{option_map}
use Rattle.entity_recs.specs.declared.cmd.Cmd.{Cmd}
use Rattle.entity_recs.specs.Commands.{Command, command_of}
use Rattle.core_steps.specs.Reads as core_reads
use Rattle.core_steps.specs.Reads.{View, no_command, new_view}
use Rattle.core_machine.specs.declared.seat.ListRead.{ListRead}
use Rattle.core_machine.specs.declared.seat.Seat.{Seat}
use Rattle.core_machine.specs.Points.{point_of}
use Rattle.core_seats.specs.Refusals.{last_of}
use Rattle.core_seats.specs.PlayerReads.{player_read_of}

-- the list word of the definitions
abbrev pub list_read_of : ListRead → core_reads.ListRead
list_read_of read = record { node = read.node; word = read.word }

-- the command in hand
abbrev pub hand_of : Option Cmd → Command
hand_of None = no_command
hand_of (Some c) = command_of c

-- the view of a seat
abbrev pub view_of : Seat → View
view_of s = record {
  live = true;
  room = s.log.room;
  seen = s.seen;
  log = s.log.items;
  refusals = s.refusals.count;
  refused = last_of s.refusals;
  made = s.made;
  ended = [];
  cmd = hand_of s.cmd;
  point = point_of s.queues s.point;
  own = s.own.items;
  wanted = s.wanted.items;
  again = s.again.items;
  lists = map list_read_of s.lists.items;
  others = map player_read_of s.others.items;
  states = s.queues.things.states;
  effect = s.effect;
}

-- the command that was given and isn't begun
abbrev pub given_of : Seat → Option Command
given_of s = option_map command_of s.given

-- for the states of how many things a seat has room
abbrev pub things_room : Seat → ℕ
things_room s = s.queues.things.room

-- a seat without a command, with this room and room for the states of so many things, from which so many seats are made
pub record IsFresh (room made things : ℕ) (s : Seat) : Type 0 where
  pub view : view_of s ≡ record (new_view room) { made = made }
  pub given : s.given ≡ None
  pub quits : s.quits ≡ false
  pub room_of_things : things_room s ≡ things
