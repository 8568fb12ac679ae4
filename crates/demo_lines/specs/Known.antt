-- What is known of a recording from the lines that were read.
use Rattle.std.specs.Prelude.{ℕ, ◌+◌, Bool, true, false, Option, None}
use Rattle.arena_map.specs.declared.limits.TheConstants.{MOST_FRAMES}
use Rattle.arena_map.specs.Maps.{MapView}
use Rattle.demo_lines.specs.declared.stage.Stage.{Stage}
use Rattle.demo_lines.specs.declared.stage.Stage.TheVariants.{Start, Map, Playing, Ended, Refused}

-- how far the lines have come, the map, how many frames there may be, how many were opened, how many packets the open one
-- has, and how many lines were read
pub record Reading : Type 0 where
  pub stage : Stage
  pub map : Option MapView
  pub limit : ℕ
  pub frames : ℕ
  pub arrivals : ℕ
  pub lines : ℕ

-- before the first line of a recording that may have so many frames
abbrev pub start_within : ℕ → Reading
start_within limit = record { stage = Start; map = None; limit = limit; frames = 0; arrivals = 0; lines = 0 }

-- before the first line
abbrev pub start : Reading
start = start_within MOST_FRAMES

-- what is known without the map, as after it was given out
abbrev pub without_map : Reading → Reading
without_map r = record { stage = r.stage; map = None; limit = r.limit; frames = r.frames; arrivals = r.arrivals; lines = r.lines }

-- what is known with this map
abbrev pub having_map : Option MapView → Reading → Reading
having_map map r = record { stage = r.stage; map = map; limit = r.limit; frames = r.frames; arrivals = r.arrivals; lines = r.lines }

-- the map is whole: a frame was opened, or the recording is over
abbrev pub is_map_whole : Stage → Bool
is_map_whole Start = false
is_map_whole Map = false
is_map_whole Playing = true
is_map_whole Ended = true
is_map_whole (Refused why) = true

-- a line was refused
abbrev pub is_refused : Stage → Bool
is_refused Start = false
is_refused Map = false
is_refused Playing = false
is_refused Ended = false
is_refused (Refused why) = true

-- the recording has ended or a line was refused, so that the rest of the input is ignored
abbrev pub is_over : Stage → Bool
is_over Start = false
is_over Map = false
is_over Playing = false
is_over Ended = true
is_over (Refused why) = true

-- one more line, at this stage
abbrev pub at_stage : Stage → Reading → Reading
at_stage stage r = record { stage = stage; map = r.map; limit = r.limit; frames = r.frames; arrivals = r.arrivals; lines = r.lines + 1 }

-- one more line, which gives this map
abbrev pub with_map : Reading → Option MapView → Reading
with_map r map = record { stage = Map; map = map; limit = r.limit; frames = r.frames; arrivals = r.arrivals; lines = r.lines + 1 }

-- one more line, which opens a frame
abbrev pub with_frame : Reading → Reading
with_frame r = record { stage = Playing; map = r.map; limit = r.limit; frames = r.frames + 1; arrivals = 0; lines = r.lines + 1 }

-- one more line, which has a packet
abbrev pub with_arrival : Reading → Reading
with_arrival r = record {
  stage = Playing;
  map = r.map;
  limit = r.limit;
  frames = r.frames;
  arrivals = r.arrivals + 1;
  lines = r.lines + 1;
}
