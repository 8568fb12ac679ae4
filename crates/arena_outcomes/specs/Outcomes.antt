-- What a move does: the player's whole move over the solids of the map and the bodies of all other live solids, what the
-- player touches where it ends, and, where the map has shots, its shot.
use Rattle.std.specs.Prelude.{ℕ, nat_le, Bool, true, false, if◌then◌else◌, List}
use Rattle.arena_geo.specs.Vectors.{zero_vector}
use Rattle.entity_recs.specs.declared.rec.Rec.{Rec}
use Rattle.entity_recs.specs.declared.effect.Effect.{Effect}
use Rattle.entity_recs.specs.Records.{with_state}
use Rattle.entity_recs.specs.Commands.{Command}
use Rattle.entity_recs.specs.Histories.{Action}
use Rattle.player_move.specs.declared.moved.Moved.{Moved}
use Rattle.player_move.specs.Intents.{Intent}
use Rattle.player_move.specs.Moves.{move_of}
use Rattle.arena_map.specs.Maps.{MapView, solids_of}
use Rattle.trigger_rules.specs.Touching.{solids_among, Walk, first_walk, touched}
use Rattle.shot_rules.specs.declared.numbers.TheConstants.{DOWN}
use Rattle.shot_rules.specs.Shots.{is_down, after_shot}

-- what a command asks of a move
abbrev pub intent_of_command : Command → Intent
intent_of_command c = record { ms = c.ms; wish_x = c.wish_x; wish_y = c.wish_y; buttons = c.buttons }

-- the flags after a move: bit 0 says that it began on the ground
abbrev pub flags_of : Bool → ℕ
flags_of true = 1
flags_of false = 0

-- the player after a move, and after the command with this number
abbrev pub after_move : Rec → Moved → ℕ → Rec
after_move me moved seq = record me { origin = moved.origin; vel = moved.vel; flags = flags_of moved.ground; seq = seq }

-- the player after its move among the solids of the map and of these records, before it touches anything
unfoldable pub moved_among : MapView → Rec → List Rec → Command → Rec
moved_among map me near c = after_move me (move_of me (intent_of_command c) (solids_among map near)) c.seq

-- what a walk over what a player touches does, and the reply to the move
abbrev pub effect_of : Walk → Effect
effect_of w = record { me = w.me; states = w.states; reply = record { origin = w.me.origin; got = w.got } }

-- what a move does in an arena, among all other live records in rising id
unfoldable pub outcome_in : MapView → Action
outcome_in map me near c = effect_of (touched map c.frame (moved_among map me near c) near)

-- ---- with shots

-- who was down, and isn't any more, has no damage
abbrev pub player_after_rising : Rec → Rec
player_after_rising me = with_state me (if nat_le DOWN me.state then 0 else me.state)

-- who is down after the command with this number: it stays where it is, at rest, and drops what it carries
abbrev pub player_while_down : Rec → ℕ → Rec
player_while_down me seq = record me { vel = zero_vector; flags = 0; carry = 0; seq = seq }

-- what the move of a player does that isn't down, among all other live records in rising id: it moves, touches what it
-- has come to, and fires, if it does
abbrev pub shooting_in : MapView → Action
shooting_in map me near c =
    effect_of (after_shot (solids_of map) near c (touched map c.frame (moved_among map me near c) near))

-- what a move does in an arena where players shoot: one that is down does nothing
unfoldable pub shot_outcome : MapView → Action
shot_outcome map me near c =
    if is_down me c.frame then effect_of (first_walk (player_while_down me c.seq)) else shooting_in map (player_after_rising me) near c

-- ---- what a move does on a map

-- as the map decides
abbrev pub outcome_on : MapView → Action
outcome_on map = if map.shots then shot_outcome map else outcome_in map
