-- What a seat has in view: the command in hand, what is left to do, what was read, what was logged.
use Rattle.std.specs.Prelude.{ℕ, ◌-◌, ◌==◌, nat_lt, nat_le, Bool, true, false, ◌&&◌, not}
use Rattle.std.specs.Prelude.{if◌then◌else◌, List, [], ◌∷◌, map, filter, Option, Some, None, pos}
use Rattle.std.specs.List.{range_with_len, filter_map}
use Rattle.arena_geo.specs.Bounds.{Bounds}
use Rattle.arena_geo.specs.Regions.{touches_region}
use Rattle.entity_recs.specs.declared.rec.Rec.{Rec}
use Rattle.entity_recs.specs.declared.effect.NewState.{NewState}
use Rattle.entity_recs.specs.declared.effect.Effect.{Effect}
use Rattle.entity_recs.specs.Records.{with_state}
use Rattle.entity_recs.specs.Bodies.{abs_of}
use Rattle.entity_recs.specs.Commands.{Command}
use Rattle.entity_recs.specs.Histories.{Item}
use Rattle.areanode.specs.Words.{has_bit}
use Rattle.core_steps.specs.Encoding.{nth_word, record_from}
use Rattle.core_steps.specs.Nodes.{Fixed}
use Rattle.core_steps.specs.Points.{Point, Idle}

-- the word of a node's list that was loaded
pub record ListRead : Type 0 where
  pub node : ℕ
  pub word : ℕ

-- the six words of a player's record that were loaded, the state word last
pub record PlayerRead : Type 0 where
  pub slot : ℕ
  pub words : List ℕ

-- the last refused take: its node, the word that was found, the own record as loaded, and the leaves wanted
pub record Refused : Type 0 where
  pub node : ℕ
  pub word : ℕ
  pub own : List ℕ
  pub wanted : List ℕ

-- the log of an ended seat, with its number and its room
pub record Ended : Type 0 where
  pub number : ℕ
  pub room : ℕ
  pub log : List Item

-- a seat's view; `made` and `ended` are kept by seat 0 alone
pub record View : Type 0 where
  pub live : Bool
  pub room : ℕ
  pub seen : ℕ
  pub log : List Item
  pub refusals : ℕ
  pub refused : Option Refused
  pub made : ℕ
  pub ended : List Ended
  pub cmd : Command
  pub point : Point
  pub own : List ℕ
  pub wanted : List ℕ
  pub again : List ℕ
  pub lists : List ListRead
  pub others : List PlayerRead
  pub states : List NewState
  pub effect : Option Effect

-- in place of a command where none is in hand
abbrev pub no_command : Command
no_command = record { slot = 0; seq = 0; frame = 0; ms = 0; wish_x = pos 0; wish_y = pos 0; buttons = 0 }

-- the view of a new seat with this room
abbrev pub new_view : ℕ → View
new_view room = record {
  live = true;
  room = room;
  seen = 0;
  log = [];
  refusals = 0;
  refused = None;
  made = 0;
  ended = [];
  cmd = no_command;
  point = Idle;
  own = [];
  wanted = [];
  again = [];
  lists = [];
  others = [];
  states = [];
  effect = None;
}

-- the view of a number that wasn't given out, or whose seat was ended
abbrev pub spent : View
spent = record (new_view 0) { live = false }

-- the view without its command and all that was read for it
abbrev pub without_command : View → View
without_command view = record view {
  cmd = no_command;
  point = Idle;
  own = [];
  wanted = [];
  again = [];
  lists = [];
  others = [];
  states = [];
  effect = None;
}

-- the list word last read at a node
abbrev pub list_at : List ListRead → ℕ → Option ℕ
list_at [] node = None
list_at (read ∷ lists) node = if read.node == node then Some read.word else list_at lists node

-- the words last loaded of a player
abbrev pub player_at : List PlayerRead → ℕ → Option (List ℕ)
player_at [] slot = None
player_at (read ∷ others) slot = if read.slot == slot then Some read.words else player_at others slot

-- what was loaded of the players but this one
abbrev pub without_player : ℕ → List PlayerRead → List PlayerRead
without_player slot others = filter (λ read. not (read.slot == slot)) others

-- the state loaded of a thing of the map
abbrev pub state_at : List NewState → ℕ → Option ℕ
state_at [] id = None
state_at (read ∷ states) id = if read.id == id then Some read.state else state_at states id

-- the record that six words make
abbrev pub record_read : ℕ → List ℕ → Rec
record_read slot words = record_from slot words (nth_word words 5)

-- the region of a command whose own record was loaded so
abbrev pub region_in : Fixed → Command → List ℕ → List Bounds
region_in F cmd own = F.region_of (record_read cmd.slot own) cmd

-- the things of the map whose absolute box touches a region, in rising id
abbrev pub things_in : Fixed → List Bounds → List ℕ
things_in F region = filter (λ id. nat_le 64 id && touches_region (abs_of (F.start.record_of id)) region) F.start.ids

-- the players of a list word but one, in rising slot
abbrev pub players_in : ℕ → ℕ → List ℕ
players_in word own = filter (λ slot. has_bit word slot && not (slot == own)) (range_with_len 0 64)

-- the record of these words of a player, where it was loaded
abbrev pub player_of : ℕ → Option (List ℕ) → Option Rec
player_of slot None = None
player_of slot (Some words) = Some (record_read slot words)

-- the record of a thing of the map with this state, where it was loaded
abbrev pub thing_of : Rec → Option ℕ → Option Rec
thing_of r None = None
thing_of r (Some state) = Some (with_state r state)

-- the live record that was loaded, where it was: a player's as it was loaded last, a thing's as at the start with the
-- state that was loaded
abbrev pub record_loaded : Fixed → List PlayerRead → List NewState → ℕ → Option Rec
record_loaded F others states id =
    if nat_lt id 64 then player_of id (player_at others id) else thing_of (F.start.record_of id) (state_at states id)

-- the records loaded that touch a region, but this player's, in rising id
abbrev pub near_loaded : Fixed → List Bounds → ℕ → List PlayerRead → List NewState → List Rec
near_loaded F region slot others states =
    filter (λ r. touches_region (abs_of r) region)
    (filter_map (record_loaded F others states) (filter (λ id. not (id == slot)) F.start.ids))

-- the records that a seat has loaded of what touches its region, but its player's
abbrev pub loaded_near : Fixed → View → List Rec
loaded_near F view = near_loaded F (region_in F view.cmd view.own) view.cmd.slot view.others view.states

-- the effect that the action gives on what was loaded
abbrev pub effect_loaded : Fixed → View → Effect
effect_loaded F view = F.effect_of (record_read view.cmd.slot view.again) (loaded_near F view) view.cmd
