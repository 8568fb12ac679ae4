-- The records of players that a map's action takes: those of players inside the arena.
use Rattle.std.proofs.Common.{◌≡◌, ◌<◌, ◌≤◌, true}
use Rattle.arena_geo.specs.Boxes.{contains}
use Rattle.entity_recs.specs.declared.kind.Kind.TheVariants.{Player}
use Rattle.entity_recs.specs.declared.rec.Rec.{Rec}
use Rattle.entity_recs.specs.Records.{IsRecord}
use Rattle.entity_recs.specs.Bodies.{body_of}
use Rattle.arena_actions.specs.declared.map_action.MapAction.{MapAction}
use Rattle.arena_actions.specs.declared.map_action.MapAction.TheVariants.{Plain, Shots}
use Rattle.arena_actions.specs.MapActions.{map_in, meaning_in}
use Rattle.arena_outcomes.proofs.Lawful.Taking.{player_is_taken}

-- a player inside the arena, whose numbers have 32 bits
pub player_taken : (action : MapAction) (r : Rec) → r.kind ≡ Player → IsRecord r → r.score ≤ 4294967295 → r.seq < 4294967296 → contains (map_in action).bounds (body_of r) ≡ true
    → (meaning_in action).takes r ≡ true
player_taken (Plain a) r kind is_record score seq inside =
    player_is_taken a.map r (record { kind = kind; is_record = is_record; score = score; inside = inside }) seq
player_taken (Shots a) r kind is_record score seq inside =
    player_is_taken a.arena.map r (record { kind = kind; is_record = is_record; score = score; inside = inside }) seq
