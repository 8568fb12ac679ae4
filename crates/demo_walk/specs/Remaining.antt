-- What a walk has still to give, from where it is.
use Rattle.std.specs.Prelude.{ℕ, ◌+◌, ◌-◌, Bool, List, map}
use Rattle.std.specs.List.{range_with_len}
use Rattle.demo_lines.specs.declared.event.Event.{Event}
use Rattle.demo_make.specs.GeneratedFrames.{join_from}
use Rattle.demo_make.specs.Remaining.{Left, events_left}
use Rattle.demo_walk.specs.declared.walk.Walk.{Walk}
use Rattle.demo_walk.specs.WalkedFrames.{move_in, walked_in}

-- what is left of the recording of this seed, of so many players on a map with so many places, where so many frames were
-- opened and so many are left, so many players have sent their joins by the open one, so many joins and moves of it are
-- left, and the end was given or wasn't
abbrev pub left_after : (seed players places opened frames joined joins moves : ℕ) → Bool → Left
left_after seed players places opened frames joined joins moves ended = record {
  joins = map join_from (range_with_len (joined - joins + 1) joins);
  packets = map (move_in seed players places (opened - 1)) (range_with_len (joined - moves + 1) moves);
  frames = map (walked_in seed players places) (range_with_len opened frames);
  ended = ended;
}

-- the events that a walk has still to give
abbrev pub remaining_events : Walk → List Event
remaining_events w =
    events_left (left_after w.seed w.players w.places w.opened w.frames_left w.joined w.joins_left w.moves_left w.ended)
