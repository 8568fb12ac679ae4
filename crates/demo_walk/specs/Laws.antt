-- What holds of all recordings of players that walk on a map.
use Rattle.std.specs.Prelude.{◌≡◌, ◌≢◌, ℕ, ◌+◌, ◌-◌, ◌*◌, ◌^◌, ◌≤◌, ◌<◌, ℤ, true, false, [], length, Some, Ok}
use Rattle.std.specs.Prelude.{All, AllPairs, Contains}
use Rattle.std.specs.List.{slice_get}
use Rattle.arena_geo.specs.declared.vec3.Vec3.{Vec3}
use Rattle.arena_geo.specs.Vectors.{vector}
use Rattle.arena_geo.specs.Boxes.{overlaps}
use Rattle.entity_recs.specs.Bodies.{body_of, box_at_origin, player_body}
use Rattle.entity_recs.specs.Kinds.{is_solid}
use Rattle.packet_read.specs.declared.packet.Packet.TheVariants.{Join, Move}
use Rattle.packet_read.specs.Reading.{reading}
use Rattle.arena_map.specs.Maps.{MapView, IsMap, is_ready, solids_of, entities_of}
use Rattle.demo_lines.specs.Laws.{IsTextOf}
use Rattle.bot_ways.specs.PlanTexts.{as_written}
use Rattle.demo_make.specs.Words.{word_at}
use Rattle.demo_make.specs.GeneratedFrames.{IsInRange, join_from, move_of, arrivals_in}
use Rattle.demo_walk.specs.Places.{share_a_column, places, places_of}
use Rattle.demo_walk.specs.WalkedFrames.{joined_by, joined_before, joins_in, words_before, move_in, moves_in, walked_in}
use Rattle.demo_walk.specs.WalkedFrames.{frames_on, walk_text}

-- each recording has no fault, and is read as the map that it was made of, but for a line that names the depth or the
-- number of blocks which a map has anyway, and these frames
abbrev pub WalksReadBack : Type 0
WalksReadBack =
    (m : MapView) (seed players frames : ℕ) → IsMap m → IsInRange players frames
    → IsTextOf (as_written m) (frames_on m seed players frames) (walk_text m seed players frames)

-- where the map has places for all players, the packets of each frame are those of the recording that `make` writes of
-- this seed
abbrev pub EnoughPlacesAreAsMade : Type 0
EnoughPlacesAreAsMade =
    (seed players places frame : ℕ) → players ≤ places
    → walked_in seed players places frame ≡ arrivals_in seed players frame

-- at the spawn with this number a player overlaps no wall, no block and no player at an earlier spawn, and no lift is at
-- it, above it or below it
pub record IsPlace (m : MapView) (i : ℕ) : Type 0 where
  pub at : Vec3
  pub spawn : slice_get m.spawns i ≡ Some at
  pub solids : All (λ solid. overlaps (player_body at) solid ≡ false) (solids_of m)
  pub lifts : All
      (λ thing. is_solid thing.kind ≡ true → share_a_column (player_body at) (body_of thing) ≡ false)
      (entities_of m)
  pub earlier : (j : ℕ) (other : Vec3) → j < i → slice_get m.spawns j ≡ Some other
      → overlaps (player_body at) (player_body other) ≡ false

-- the places are exactly the spawns of which that holds, each counted once: so no players at two of them overlap, and
-- none overlaps a lift, however high that is. There are no more places than spawns, and as many where each spawn is one
pub record PlacesAreKnown : Type 0 where
  pub each : (m : MapView) → All (IsPlace m) (places m)
  pub every : (m : MapView) (i : ℕ) → IsPlace m i → Contains (places m) i
  pub rising : (m : MapView) → AllPairs (λ i j. i < j) (places m)
  pub count : (m : MapView) → places_of m ≡ length (places m)
  pub apart : (m : MapView) (i j : ℕ) (one : IsPlace m i) (other : IsPlace m j) → i ≢ j
      → overlaps (player_body one.at) (player_body other.at) ≡ false
  pub clear : (m : MapView) (i : ℕ) (one : IsPlace m i) → All
      (λ thing. is_solid thing.kind ≡ true → (z : ℤ)
      → overlaps (player_body one.at) (box_at_origin (vector thing.origin.x thing.origin.y z) thing.mins thing.maxs)
      ≡ false)
      (entities_of m)
  pub few : (m : MapView) → places_of m ≤ length m.spawns
  pub all : (m : MapView) → ((i : ℕ) → i < length m.spawns → IsPlace m i) → places_of m ≡ length m.spawns

-- who joins when: in frame 0 as many players as there are places, by each later frame no fewer than before, and never
-- more than there are players; all of them where the frames are enough. By any frame it is the greatest number n of them
-- with 64 * n at most places * (frame + 64). Each joins once: a frame has the joins of the ports above those that joined
-- before, up to those that joined by it, and then one move of each that joined, in the order of ports. On a map with a
-- spawn there are so many frames, each by the places of the map; on one without a spawn there is none
pub record JoinsAreKnown : Type 0 where
  pub first : (places players : ℕ) → players ≤ places → joined_by places players 0 ≡ players
  pub first_few : (places players : ℕ) → places ≤ players → joined_by places players 0 ≡ places
  pub more : (places players frame : ℕ) → joined_before places players frame ≤ joined_by places players frame
  pub few : (places players frame : ℕ) → joined_by places players frame ≤ players
  pub all : (places players frame : ℕ) → 1 ≤ places → 64 * players ≤ places * (frame + 64)
      → joined_by places players frame ≡ players
  pub most : (places players frame : ℕ) → 64 * joined_by places players frame ≤ places * (frame + 64)
  pub least : (places players frame n : ℕ) → n ≤ players → 64 * n ≤ places * (frame + 64)
      → n ≤ joined_by places players frame
  pub joins : (players places frame : ℕ)
      → joined_before places players frame + length (joins_in players places frame) ≡ joined_by places players frame
  pub each : (players places frame port : ℕ) → joined_before places players frame < port
      → port ≤ joined_by places players frame → Contains (joins_in players places frame) (join_from port)
  pub moves : (seed players places frame : ℕ)
      → length (moves_in seed players places frame) ≡ joined_by places players frame
  pub in_turn : (seed players places frame i : ℕ) → i < joined_by places players frame
      → slice_get (moves_in seed players places frame) i ≡ Some (move_in seed players places frame (i + 1))
  pub frames : (m : MapView) (seed players frames : ℕ) → is_ready m ≡ true
      → length (frames_on m seed players frames) ≡ frames
  pub on_map : (m : MapView) (seed players frames frame : ℕ) → is_ready m ≡ true → frame < frames
      → slice_get (frames_on m seed players frames) frame ≡ Some (walked_in seed players (places_of m) frame)
  pub without_spawn : (m : MapView) (seed players frames : ℕ) → is_ready m ≡ false
      → frames_on m seed players frames ≡ []

-- the packets are read as joins, and as moves with the numbers that the words give
pub record PacketsAreRead : Type 0 where
  pub joins : (port : ℕ) → reading (join_from port).bytes ≡ Ok Join
  pub moves : (seed players places frame port : ℕ) → frame + 1 < 2 ^ 32
      → reading (move_in seed players places frame port).bytes
      ≡ Ok (Move (move_of (frame + 1) (word_at seed (words_before places players frame + (port - 1)))))
