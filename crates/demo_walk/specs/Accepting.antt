-- What a server makes of the frames of a walk.
use Rattle.std.specs.Prelude.{◌≡◌, ℕ, ◌+◌, ◌^◌, ◌≤◌, ◌<◌, length, None}
use Rattle.entity_recs.specs.declared.limits.TheConstants.{IDS}
use Rattle.arena_map.specs.Maps.{MapView}
use Rattle.arena_map.specs.Validity.{IsValidWorld}
use Rattle.world_tree.specs.Live.{record_at}
use Rattle.client_ports.specs.States.{State}
use Rattle.client_ports.specs.Receiving.{received}
use Rattle.demo_make.specs.Accepting.{ArePlaying, IsPlayed}
use Rattle.demo_walk.specs.Places.{places_of}
use Rattle.demo_walk.specs.WalkedFrames.{joined_by, walked_in}

-- in frame 0, in a valid world of the map where nobody is joined, every packet is accepted, wherever the lifts are; and
-- where the map has places for all players, so is every packet of each later frame, whatever the moves made of the
-- records
pub record NothingIsRefused : Type 0 where
  pub first : (m : MapView) (seed players : ℕ) (state : State) → players ≤ 64 → IsValidWorld m state.records
      → ((slot : ℕ) → slot < 64 → record_at state.records slot ≡ None) → ArePlaying 0 0 state.clients
      → length state.records ≡ IDS
      → IsPlayed (joined_by (places_of m) players 0) (joined_by (places_of m) players 0) 1
      (received m 0 state (walked_in seed players (places_of m) 0))
  pub later : (m : MapView) (seed players frame : ℕ) (state : State) → players ≤ 64 → players ≤ places_of m → 0 < frame
      → frame + 1 < 2 ^ 32 → ArePlaying players frame state.clients → length state.records ≡ IDS
      → IsPlayed players 0 (frame + 1) (received m frame state (walked_in seed players (places_of m) frame))
