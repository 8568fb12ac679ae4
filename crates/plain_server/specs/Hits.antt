-- What moves do to a player's state: who is hit, what a hit makes of it, and what a player's own move does.
use Rattle.std.specs.Prelude.{◌≡◌, ◌≢◌, ℕ, ◌+◌, ◌-◌, ◌*◌, ◌<◌, ◌≤◌, ◌==◌, nat_le, false, ◌&&◌, if◌then◌else◌, List, ◌∷◌}
use Rattle.std.specs.Prelude.{◌++◌, length, fold, Option, Some, None, IsSome, All, Contains}
use Rattle.std.specs.List.{list_any}
use Rattle.entity_recs.specs.declared.rec.Rec.{Rec}
use Rattle.entity_recs.specs.declared.effect.Entry.{Entry}
use Rattle.arena_map.specs.Maps.{MapView, IsMap}
use Rattle.shot_rules.specs.Shots.{is_down}
use Rattle.world_tree.specs.Live.{record_at}
use Rattle.packet_read.specs.declared.arrival.Arrival.{Arrival}
use Rattle.client_ports.specs.States.{State, IsServerState}
use Rattle.plain_server.specs.RecordsById.{opening}
use Rattle.plain_server.specs.Frames.{received_in, moved_by, state_played, IsRightAfter}
use Rattle.plain_server.specs.Ends.{HasNoEntryOf}
use Rattle.plain_server.specs.Laws.{received_next}

-- ---- one state after another

-- a hit in this frame makes this state of a player's: it has 25 more of damage, or, where that comes to 100, it is down
-- until 40 frames after this one
abbrev pub state_when_hit : ℕ → ℕ → ℕ
state_when_hit frame state = if nat_le 100 (state + 25) then 100 + (frame + 40) else state + 25

-- a player's own move in this frame makes this state of its state: one that was down, and isn't any more, has no damage
abbrev pub state_after_move : ℕ → ℕ → ℕ
state_after_move frame state = if nat_le 100 state && nat_le (state - 100) frame then 0 else state

-- ---- how long players are down

-- a player may have this state after so many frames: it stands with the damage of up to three hits, or it has fallen in one
-- of these frames, and is down until 40 frames after that one
pub data IsStateAfter (frames state : ℕ) : Type 0 where
  Stands : (hits : ℕ) → hits < 4 → state ≡ 25 * hits → IsStateAfter frames state
  HasFallen : (frame : ℕ) → frame < frames → state ≡ 100 + (frame + 40) → IsStateAfter frames state

-- each player among the records has such a state
abbrev pub HaveStatesAfter : ℕ → List (Option Rec) → Type 0
HaveStatesAfter frames records =
    (slot : ℕ) (r : Rec) → slot < 64 → record_at records slot ≡ Some r → IsStateAfter frames r.state

-- after any frames, with whatever journals, each player has such a state, which is below 140 and the number of these
-- frames. So it is after the moves of a frame, which is then one of them. Who has such a state is down for fewer than 40
-- frames more: at most in the 39 that follow
pub record NobodyIsDownForLong : Type 0 where
  pub between : (map : MapView) (frames : List (List Arrival)) (journals : List (List Entry)) → IsMap map
      → HaveStatesAfter (length frames) (state_played map 0 (opening map) frames journals).records
  pub shown : (map : MapView) (frames : List (List Arrival)) (journals : List (List Entry)) (arrivals : List Arrival)
      (journal : List Entry) → IsMap map
      → HaveStatesAfter (length frames + 1) (moved_by map (received_next map frames journals arrivals) journal).records
  pub most : (frames state : ℕ) → IsStateAfter frames state → state < 140 + frames
  pub up : (frames later : ℕ) (r : Rec) → IsStateAfter frames r.state → frames + 39 ≤ later → is_down r later ≡ false

-- ---- the begin of a frame

-- before the moves of a frame a player has the state with which the frame began, and one that has just joined has none
pub record FramesBeginWithStates : Type 0 where
  pub kept : (map : MapView) (frame : ℕ) (state : State) (arrivals : List Arrival) → IsMap map
      → IsServerState map state → (slot : ℕ) (old new : Rec) → slot < 64 → record_at state.records slot ≡ Some old
      → record_at (received_in map frame state arrivals).state.records slot ≡ Some new → new.state ≡ old.state
  pub joined : (map : MapView) (frame : ℕ) (state : State) (arrivals : List Arrival) → IsMap map
      → IsServerState map state → (slot : ℕ) (new : Rec) → record_at state.records slot ≡ None
      → record_at (received_in map frame state arrivals).state.records slot ≡ Some new → new.state ≡ 0

-- ---- who is hit

-- the slot isn't among the ids that the entry got
abbrev pub HasNotHit : ℕ → Entry → Type 0
HasNotHit slot e = All (λ (id : ℕ). id ≢ slot) e.reply.got

-- no entry of the journal hits the player of this slot
abbrev pub HasNoHitOn : ℕ → List Entry → Type 0
HasNoHitOn slot journal = All (HasNotHit slot) journal

-- in a right journal of a frame a player without an entry that nobody hits is as the receive pass left it
abbrev pub OnlyHitsHurt : Type 0
OnlyHitsHurt =
    (map : MapView) (frame : ℕ) (state : State) (arrivals : List Arrival) (journal : List Entry) → IsMap map
    → IsServerState map state
    → let r = received_in map frame state arrivals in
    IsRightAfter map r journal → (slot : ℕ) → HasNoEntryOf slot journal → HasNoHitOn slot journal
    → record_at (moved_by map r journal).records slot ≡ record_at r.state.records slot

-- the entry hits one player at most: of the ids that it got at most one is a slot, and it isn't its own
pub record HitsOneAtMost (e : Entry) : Type 0 where
  pub one : (id other : ℕ) → id < 64 → other < 64 → Contains e.reply.got id → Contains e.reply.got other → other ≡ id
  pub not_own : HasNotHit e.slot e

-- so does each entry of a right journal of a frame
abbrev pub EntriesHitOneAtMost : Type 0
EntriesHitOneAtMost =
    (map : MapView) (frame : ℕ) (state : State) (arrivals : List Arrival) (journal : List Entry) → IsMap map
    → IsServerState map state → IsRightAfter map (received_in map frame state arrivals) journal
    → All HitsOneAtMost journal

-- ---- a journal and a player's state

-- the state of the player of a slot after an entry of a journal of this frame: after its own move, or after one that hits
-- it, and else as before
abbrev pub state_after_entry : ℕ → ℕ → ℕ → Entry → ℕ
state_after_entry frame slot state e =
    if e.slot == slot then state_after_move frame state
    else if list_any (λ (id : ℕ). id == slot) e.reply.got then state_when_hit frame state
    else state

-- after these entries, one after another
abbrev pub state_after_entries : ℕ → ℕ → ℕ → List Entry → ℕ
state_after_entries frame slot state journal = fold (state_after_entry frame slot) state journal

-- a right journal of a frame decides each player's state: after its moves it is that after its entries. Whoever is hit is
-- there, and isn't down
pub record JournalsDecideStates : Type 0 where
  pub after : (map : MapView) (frame : ℕ) (state : State) (arrivals : List Arrival) (journal : List Entry) → IsMap map
      → IsServerState map state
      → let r = received_in map frame state arrivals in
      IsRightAfter map r journal → (slot : ℕ) (old new : Rec) → slot < 64
      → record_at r.state.records slot ≡ Some old → record_at (moved_by map r journal).records slot ≡ Some new
      → new.state ≡ state_after_entries frame slot old.state journal
  pub standing : (map : MapView) (frame : ℕ) (state : State) (arrivals : List Arrival) (journal : List Entry)
      → IsMap map → IsServerState map state
      → let r = received_in map frame state arrivals in
      IsRightAfter map r journal → (slot : ℕ) (old : Rec) → slot < 64 → record_at r.state.records slot ≡ Some old
      → (earlier later : List Entry) (e : Entry) → journal ≡ earlier ++ e ∷ later → Contains e.reply.got slot
      → state_after_entries frame slot old.state earlier < 100
  -- whoever is hit is there
  pub there : (map : MapView) (frame : ℕ) (state : State) (arrivals : List Arrival) (journal : List Entry)
      → IsMap map → IsServerState map state
      → let r = received_in map frame state arrivals in
      IsRightAfter map r journal → (e : Entry) → Contains journal e → (slot : ℕ) → slot < 64
      → Contains e.reply.got slot → IsSome (record_at r.state.records slot)
