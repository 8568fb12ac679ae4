-- An action for tests: a player stays where it is, and its record gets the number of the command.
use Rattle.std.specs.Prelude.{nat_lt, nat_le, Bool, false, ◌&&◌, List, [], ◌∷◌}
use Rattle.arena_geo.specs.Vectors.{is_near, is_same_vector}
use Rattle.arena_geo.specs.Bounds.{Bounds}
use Rattle.entity_recs.specs.declared.bodies.TheConstants.{PLAYER_MINS, PLAYER_MAXS}
use Rattle.entity_recs.specs.declared.kind.Kind.{Kind}
use Rattle.entity_recs.specs.declared.kind.Kind.TheVariants.{Player}
use Rattle.entity_recs.specs.declared.rec.Rec.{Rec}
use Rattle.entity_recs.specs.declared.effect.Effect.{Effect}
use Rattle.entity_recs.specs.Bodies.{abs_of}
use Rattle.entity_recs.specs.Commands.{Command}
use Rattle.entity_recs.specs.Actions.{Meaning}

-- a player's numbers but that of its last command are within their bounds, and it has a player's shape
abbrev pub is_player : Rec → Bool
is_player r =
    nat_lt r.id 64 && is_near 1048576 r.origin && is_near 512000 r.vel && is_same_vector r.mins PLAYER_MINS
    && is_same_vector r.maxs PLAYER_MAXS && nat_le r.flags 3 && nat_le r.ammo 100 && nat_le r.carry 8
    && nat_lt r.score 4294967296

-- a record of this kind is taken: players alone are
abbrev pub is_taken : Kind → Rec → Bool
is_taken Player r = is_player r && nat_lt r.seq 4294967296
is_taken _ _ = false

-- which records are taken
abbrev pub takes : Rec → Bool
takes r = is_taken r.kind r

-- the absolute box of the player
abbrev pub region_of : Rec → Command → List Bounds
region_of me c = abs_of me ∷ []

-- the number of the command is kept, and nothing else changes
abbrev pub effect_of : Rec → List Rec → Command → Effect
effect_of me near c = record {
  me = record me { seq = c.seq };
  states = [];
  reply = record { origin = me.origin; got = [] };
}

-- what the action means
abbrev pub meaning : Meaning
meaning = record { takes = takes; region_of = region_of; effect_of = effect_of }
