-- The `frame` lines and the `did` lines of frames that are fed.
use Rattle.std.proofs.Common.{◌≡◌, ℕ, ◌+◌, false, List, [], ◌∷◌, ◌++◌, length, map as map_list, codes, refl, arith}
use Rattle.entity_recs.specs.declared.effect.Entry.{Entry}
use Rattle.arena_map.specs.Maps.{MapView, IsMap}
use Rattle.packet_read.specs.declared.arrival.Arrival.{Arrival}
use Rattle.client_ports.specs.States.{State, IsServerState}
use Rattle.plain_server.specs.RecordsById.{opening}
use Rattle.plain_server.specs.Frames.{received_in, moved_by, state_after, first_of, rest_of, AreRight}
use Rattle.plain_server.proofs.Frames.{opening_is, received_is, state_after_is}
use Rattle.out_text.specs.Feeds.{from_line, with_froms, fed_lines}
use Rattle.out_text.specs.FrameLines.{lines_with}
use Rattle.out_text.specs.OutLines.{OutLine, EndLine}
use Rattle.out_text.specs.Transcripts.{run_moves}
use Rattle.out_text.proofs.FedFronts.{fed_lines_of, fed_whole}
use Rattle.transcript_check.specs.Laws.{lines_beginning}
use Rattle.transcript_check.proofs.LineCounts.{begins, count_in, count-append, count-cons, count-none, count-text, dids-frame, frames-frame, journal-count}

-- the lines of packets don't count
count-fed : (word : List ℕ) (fed : List Arrival) (lines : List OutLine) → ((a : Arrival) → begins word (from_line a) ≡ false) → count_in word (with_froms fed lines) ≡ count_in word lines
count-fed word fed [] none = refl
count-fed word fed (l ∷ lines) none =
    let all = count-cons word l (map_list from_line fed ++ lines) in
    let both = count-append word (map_list from_line fed) lines in
    let froms = count-none word from_line fed none in
    let one = count-cons word l lines in
    omega (arith, all, both, froms, one)

frames-fed : (map : MapView) (frame : ℕ) (state : State) (feeds : List (List Arrival)) (js : List (List Entry)) → count_in (codes "frame ") (fed_lines map frame state feeds js) ≡ length feeds
frames-fed map frame state [] js = refl
frames-fed map frame state (fed ∷ feeds) js =
    let word = codes "frame " in
    let r = received_in map frame state fed in
    let j = first_of js in
    let next = state_after map r j in
    let here = lines_with map frame r j in
    let both = count-append word (with_froms fed here) (fed_lines map (frame + 1) next feeds (rest_of js)) in
    let same = count-fed word fed here (λ a. refl) in
    let one = frames-frame frame r.lists j (moved_by map r j).records in
    let rest = frames-fed map (frame + 1) next feeds (rest_of js) in
    omega (arith, both, same, one, rest)

dids-fed : (map : MapView) → IsMap map → (frame : ℕ) (state : State) (feeds : List (List Arrival)) (js : List (List Entry)) → IsServerState map state → AreRight map frame state feeds js
    → count_in (codes "did ") (fed_lines map frame state feeds js) ≡ run_moves map frame state feeds js
dids-fed map is_map frame state [] js is right = refl
dids-fed map is_map frame state (fed ∷ feeds) [] is right = absurd right
dids-fed map is_map frame state (fed ∷ feeds) (j ∷ js) is right =
    let word = codes "did " in
    let r = received_in map frame state fed in
    let pass = received_is map frame state fed is_map is in
    let next = state_after map r j in
    let here = lines_with map frame r j in
    let both = count-append word (with_froms fed here) (fed_lines map (frame + 1) next feeds js) in
    let same = count-fed word fed here (λ a. refl) in
    let some = dids-frame frame r.lists j (moved_by map r j).records in
    let entries = journal-count map r j pass right.0 in
    let rest = dids-fed map is_map (frame + 1) next feeds js (state_after_is map r j is_map pass) right.1 in
    omega (arith, both, same, some, entries, rest)

-- ---- with the last line

pub frames-whole : (map : MapView) (feeds : List (List Arrival)) (js : List (List Entry)) → lines_beginning (codes "frame ") (fed_whole map feeds js) ≡ length feeds
frames-whole map feeds js =
    let word = codes "frame " in
    let lines = fed_lines_of map feeds js in
    let end = EndLine (length feeds) ∷ [] in
    let whole = count-text word (lines ++ end) in
    let both = count-append word lines end in
    let last : count_in word end ≡ 0 = refl in
    let run = frames-fed map 0 (opening map) feeds js in
    omega (arith, whole, both, last, run)

pub dids-whole : (map : MapView) (feeds : List (List Arrival)) (js : List (List Entry)) → IsMap map → AreRight map 0 (opening map) feeds js
    → lines_beginning (codes "did ") (fed_whole map feeds js) ≡ run_moves map 0 (opening map) feeds js
dids-whole map feeds js is_map right =
    let word = codes "did " in
    let lines = fed_lines_of map feeds js in
    let end = EndLine (length feeds) ∷ [] in
    let whole = count-text word (lines ++ end) in
    let both = count-append word lines end in
    let last : count_in word end ≡ 0 = refl in
    let run = dids-fed map is_map 0 (opening map) feeds js (opening_is map is_map) right in
    omega (arith, whole, both, last, run)
