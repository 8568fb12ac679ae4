-- The counts of a match: each player joins once and moves once in each frame, and nothing is refused.
use Rattle.std.proofs.Common.{◌≡◌, ℕ, zero, suc, ◌+◌, ◌*◌, ◌^◌, ◌<◌, ◌≤◌, List, [], ◌∷◌, length, map as map_list, replicate, Option, None, is_some, refl, sym, ap, ◌∙◌, subst, arith, lit<}
use Rattle.std.specs.Prelude.{sum_by}
use Rattle.std.specs.List.{range_with_len}
use Rattle.std.proofs.lemmas.List.{length-replicate}
use Rattle.std.proofs.lemmas.List.FromFn.{length-map-range_with_len}
use Rattle.std.proofs.lemmas.List.Sums.{sum_by-cons}
use Rattle.entity_recs.specs.declared.effect.Entry.{Entry}
use Rattle.entity_recs.proofs.Ids.{no_record}
use Rattle.packet_read.specs.declared.arrival.Arrival.{Arrival}
use Rattle.client_ports.specs.declared.client.Client.{Client}
use Rattle.client_ports.specs.Clients.{client_at, no_clients}
use Rattle.client_ports.specs.States.{State, IsServerState}
use Rattle.client_ports.specs.Receiving.{Receiving}
use Rattle.world_tree.specs.Live.{record_at}
use Rattle.plain_server.specs.RecordsById.{opening}
use Rattle.plain_server.specs.Frames.{state_after_tick, received_in, state_after, moved_by, IsRightAfter, AreRight}
use Rattle.plain_server.proofs.Frames.{received_is, state_after_is, moved_by_is, opening_is}
use Rattle.plain_server.proofs.Ticking.{server_ticked}
use Rattle.plain_server.proofs.Turns.{right_count}
use Rattle.demo_make.specs.GeneratedMap.{generated_map}
use Rattle.demo_make.specs.GeneratedFrames.{IsInRange, arrivals_in, generated_frames}
use Rattle.demo_make.specs.Accepting.{ArePlaying, AllAreAccepted, IsPlayed}
use Rattle.demo_make.proofs.Accepted.{all_is_accepted}
use Rattle.demo_make.proofs.Clear.{spawns_are_clear}
use Rattle.demo_make.proofs.MapKept.{generated_is_map}
use Rattle.match_play.specs.Totals.{receptions, joins_in, refused_in}
use Rattle.match_play.specs.Laws.{CountsAreKnown}
use Rattle.frame_phases.proofs.Frames.{entries_of_merge}

-- a right journal has an entry for each move
entries-right : (frame : ℕ) (state : State) (arrivals : List Arrival) (j : List Entry) → IsServerState generated_map state
    → IsRightAfter generated_map (received_in generated_map frame state arrivals) j → length j ≡ length (received_in generated_map frame state arrivals).lists.moves
entries-right frame state arrivals j is right =
    let pass = received_is generated_map frame state arrivals generated_is_map is in
    entries_of_merge j (received_in generated_map frame state arrivals).lists.moves pass.apart right.merge

-- the players play, in a server's state
record IsPlaying (players last : ℕ) (state : State) : Type 0 where
  playing : ArePlaying players last state.clients
  fits : IsServerState generated_map state

-- a frame whose packets are all accepted, with a right journal
record IsAccepted (players joins last : ℕ) (r : Receiving) (j : List Entry) : Type 0 where
  accepted : AllAreAccepted joins players r
  entries : length j ≡ players
  next : IsPlaying players last (state_after generated_map r j)

frame-accepted : (players joins last frame : ℕ) (state : State) (arrivals : List Arrival) (j : List Entry) → IsServerState generated_map state
    → IsPlayed players joins last (received_in generated_map frame state arrivals) → IsRightAfter generated_map (received_in generated_map frame state arrivals) j
    → IsAccepted players joins last (received_in generated_map frame state arrivals) j
frame-accepted players joins last frame state arrivals j is played right =
    let r = received_in generated_map frame state arrivals in
    let pass = received_is generated_map frame state arrivals generated_is_map is in
    let moved = moved_by_is generated_map r j generated_is_map pass in
    record {
      accepted = played.accepted;
      entries = entries-right frame state arrivals j is right ∙ played.accepted.moved;
      next = record {
        playing = played.plays_on (moved_by generated_map r j).records moved.places;
        fits = state_after_is generated_map r j generated_is_map pass;
      };
    }

-- the counts of some frames
record AreCounts (joins moves : ℕ) (rs : List Receiving) (js : List (List Entry)) : Type 0 where
  joins_are : sum_by joins_in rs ≡ joins
  moves_are : sum_by (λ (j : List Entry). length j) js ≡ moves
  refused_are : sum_by refused_in rs ≡ 0

counts-more : (players joins last first moves : ℕ) (r : Receiving) (j : List Entry) (rs : List Receiving) (js : List (List Entry)) → IsAccepted players first last r j
    → AreCounts joins moves rs js → AreCounts (first + joins) (players + moves) (r ∷ rs) (j ∷ js)
counts-more players joins last first moves r j rs js is counts =
    let count : List Entry → ℕ = λ (k : List Entry). length k in
    record {
      joins_are = omega (arith, sum_by-cons joins_in r rs, is.accepted.joined, counts.joins_are);
      moves_are = omega (arith, sum_by-cons count j js, is.entries, counts.moves_are);
      refused_are = omega (arith, sum_by-cons refused_in r rs, ap length is.accepted.refused, counts.refused_are);
    }

-- the frames after the first
later-counts : (seed players frame n : ℕ) (state : State) (js : List (List Entry)) → players ≤ 64 → 0 < frame → frame + n < 2 ^ 32 → IsPlaying players frame state
    → AreRight generated_map frame state (map_list (arrivals_in seed players) (range_with_len frame n)) js
    → AreCounts 0 (players * n) (receptions generated_map frame state (map_list (arrivals_in seed players) (range_with_len frame n)) js) js
later-counts seed players frame zero state [] few later early is right =
    record { joins_are = refl; moves_are = omega arith; refused_are = refl }
later-counts seed players frame zero state (j ∷ js) few later early is right = absurd right
later-counts seed players frame (suc n) state [] few later early is right = absurd right
later-counts seed players frame (suc n) state (j ∷ js) few later early is right =
    let a = arrivals_in seed players frame in
    let r = received_in generated_map frame state a in
    let ticked = server_ticked generated_map frame state generated_is_map is.fits in
    let played = all_is_accepted.later seed players frame (state_after_tick generated_map frame state) few later (omega arith) is.playing ticked.places in
    let here = frame-accepted players 0 (frame + 1) frame state a j is.fits played right.0 in
    let rest = later-counts seed players (frame + 1) n (state_after generated_map r j) js few (omega arith) (omega arith) here.next right.1 in
    let rs = receptions generated_map (frame + 1) (state_after generated_map r j) (map_list (arrivals_in seed players) (range_with_len (frame + 1) n)) js in
    let all = counts-more players 0 (frame + 1) 0 (players * n) r j rs js here rest in
    record { joins_are = omega (arith, all.joins_are); moves_are = omega (arith, all.moves_are); refused_are = all.refused_are }

-- ---- the first frame

none-at : (n slot : ℕ) → client_at (replicate n None) slot ≡ None
none-at zero slot = refl
none-at (suc n) zero = refl
none-at (suc n) (suc slot) = none-at n slot

opening-clients : (opening generated_map).clients ≡ no_clients
unfolding opening
opening-clients = refl

pub nobody_plays : ArePlaying 0 0 (opening generated_map).clients
nobody_plays =
    subst (ArePlaying 0 0) (sym opening-clients)
    (record {
      slots = length-replicate {A = Option Client} 64 None;
      joined = λ slot below. absurd (omega arith);
      free = λ slot above. none-at 64 slot;
    })

pub no_player : (slot : ℕ) → slot < 64 → record_at (state_after_tick generated_map 0 (opening generated_map)).records slot ≡ None
no_player slot below =
    let ticked = server_ticked generated_map 0 (opening generated_map) generated_is_map (opening_is generated_map generated_is_map) in
    no_record (record_at (state_after_tick generated_map 0 (opening generated_map)).records slot)
    (sym (ticked.fits.live.same slot below) ∙ ap is_some (nobody_plays.free slot (omega arith)))

first-played : (seed players : ℕ) → players ≤ 64 → IsPlayed players players 1 (received_in generated_map 0 (opening generated_map) (arrivals_in seed players 0))
first-played seed players few =
    let ticked = server_ticked generated_map 0 (opening generated_map) generated_is_map (opening_is generated_map generated_is_map) in
    let clear = spawns_are_clear (state_after_tick generated_map 0 (opening generated_map)).records ticked.fits.valid no_player in
    all_is_accepted.first seed players (state_after_tick generated_map 0 (opening generated_map)) few nobody_plays ticked.places clear

all-counts : (seed players n : ℕ) (js : List (List Entry)) → players ≤ 64 → n < 100000
    → AreRight generated_map 0 (opening generated_map) (generated_frames seed players (suc n)) js
    → AreCounts players (players * suc n) (receptions generated_map 0 (opening generated_map) (generated_frames seed players (suc n)) js) js
all-counts seed players n [] few early right = absurd right
all-counts seed players n (j ∷ js) few early right =
    let a = arrivals_in seed players 0 in
    let r = received_in generated_map 0 (opening generated_map) a in
    let here = frame-accepted players players 1 0 (opening generated_map) a j (opening_is generated_map generated_is_map) (first-played seed players few) right.0 in
    let big : 100001 < 2 ^ 32 = lit< tt in
    let rest = later-counts seed players 1 n (state_after generated_map r j) js few (omega arith) (omega (arith, big, early)) here.next right.1 in
    let rs = receptions generated_map 1 (state_after generated_map r j) (map_list (arrivals_in seed players) (range_with_len 1 n)) js in
    let all = counts-more players 0 1 players (players * n) r j rs js here rest in
    record { joins_are = omega (arith, all.joins_are); moves_are = omega (arith, all.moves_are); refused_are = all.refused_are }

some-counts : (seed players frames : ℕ) (js : List (List Entry)) → IsInRange players frames → AreRight generated_map 0 (opening generated_map) (generated_frames seed players frames) js
    → AreCounts players (players * frames) (receptions generated_map 0 (opening generated_map) (generated_frames seed players frames) js) js
some-counts seed players zero js range right = absurd (omega (arith, range.some_frames))
some-counts seed players (suc n) js range right = all-counts seed players n js range.few_players (omega (arith, range.few_frames)) right

pub counts_are_known : CountsAreKnown
counts_are_known = λ seed players frames js range right.
    let counts = some-counts seed players frames js range right in
    record {
      frames_are = right_count generated_map 0 (opening generated_map) (generated_frames seed players frames) js right ∙ length-map-range_with_len (arrivals_in seed players) 0 frames;
      joins = counts.joins_are;
      moves = counts.moves_are;
      refused = counts.refused_are;
    }
