-- The output of a recording has at most 1,120,000 bytes a frame, and a last line of at most 16.
use Rattle.std.proofs.Common.{◌≡◌, ◌⊎◌, ℕ, zero, suc, ◌+◌, ◌*◌, ◌<◌, ◌≤◌, Bool, true, false, cond, All, List, [], ◌∷◌, ◌++◌, length, map, filter, take, drop, Option, Some, None, refl, sym, ap, ◌∙◌, subst, inl, inr, arith, take-append-drop}
use Rattle.std.specs.List.{AllByRecursion}
use Rattle.std.proofs.lemmas.List.{length-map, length-set}
use Rattle.std.proofs.lemmas.List.Elements.{All-head, All-tail}
use Rattle.std.proofs.lemmas.List.Sorted.{length_permutation}
use Rattle.edge_io.specs.declared.line_buf.TheConstants.{ROOM}
use Rattle.entity_recs.specs.declared.limits.TheConstants.{IDS}
use Rattle.entity_recs.specs.declared.rec.Rec.{Rec}
use Rattle.entity_recs.specs.declared.effect.Entry.{Entry}
use Rattle.entity_recs.specs.Histories.{Item}
use Rattle.move_journal.specs.Merges.{history_of}
use Rattle.move_journal.proofs.JournalLaws.{merges_have_whole_histories}
use Rattle.arena_map.specs.Maps.{MapView, IsMap}
use Rattle.arena_map.specs.Validity.{IsValidWorld}
use Rattle.world_tree.specs.Live.{record_at, live_in, AreEntries}
use Rattle.world_tree.proofs.Links.{id-below}
use Rattle.packet_read.specs.declared.arrival.Arrival.{Arrival}
use Rattle.client_ports.specs.Clients.{new_client}
use Rattle.client_ports.specs.Lists.{Lists, no_lists}
use Rattle.client_ports.specs.States.{State, IsServerState}
use Rattle.client_ports.specs.Receiving.{Receiving, receiving_of, after_arrival, after_arrivals, received}
use Rattle.client_ports.specs.Laws.{IsRefused, IsJoined, IsLeave, IsMove}
use Rattle.client_ports.proofs.Facts.{one_answer}
use Rattle.client_ports.proofs.Changes.{join-newcomer}
use Rattle.client_ports.proofs.Slots.{client_count}
use Rattle.client_ports.proofs.Short.{moves_are_few}
use Rattle.demo_lines.specs.Bytes.{map_of}
use Rattle.plain_server.specs.RecordsById.{opening}
use Rattle.plain_server.specs.Entries.{HasBytes, IsReception}
use Rattle.plain_server.specs.Frames.{state_after_tick, received_in, moved_by, state_after, IsRightAfter, AreRight}
use Rattle.plain_server.specs.Replies.{players_in}
use Rattle.plain_server.proofs.Small.{numbers_are_small}
use Rattle.plain_server.proofs.Reports.{right_is_reported}
use Rattle.plain_server.proofs.Frames.{opening_is, received_is, moved_by_is, state_after_is}
use Rattle.plain_server.proofs.Ticking.{server_ticked}
use Rattle.plain_server.proofs.SlotPlayers.{players_are_first, few_first}
use Rattle.out_text.specs.OutLines.{OutLine, FrameLine, EndLine, printed_line, text_of}
use Rattle.out_text.specs.FrameLines.{no_line, joined_line, did_line, to_lines, lines_with, run_lines}
use Rattle.out_text.specs.Collecting.{frames_of}
use Rattle.out_text.specs.Output.{lines_in, AreRightIn}
use Rattle.out_text.specs.Laws.{OutputsAreBounded}
use Rattle.out_text.proofs.Reporting.{HaveBytes}
use Rattle.out_text.proofs.Growing.{GoesOnWith, length-goes_on}
use Rattle.out_text.proofs.Fewness.{frames_are_few}
use Rattle.out_text.proofs.Arrivals.{frames_have_bytes, fore_have_bytes}
use Rattle.out_text.proofs.KeptRules.{map_keeps_rules}
use Rattle.out_text.proofs.SmallFrames.{HasPort, IsSmallFrame, AreSmallFrames, frames_are_small, fore_are_small}
use Rattle.out_text.proofs.Lengths.{length-lines, length-line, frame_line-long, end_line-long, no_line-long, joined_line-long, journal-long, to_lines-long}

-- ---- what was received

-- the lines of one thing more
push-long : {X : Type 0} (f : X → OutLine) (xs : List X) (x : X) → length (text_of (map f (xs ++ x ∷ []))) ≡ length (text_of (map f xs)) + length (printed_line (f x))
push-long f [] x = omega (arith, length-line (f x) [])
push-long f (y ∷ xs) x = omega (arith, length-line (f y) (map f (xs ++ x ∷ [])), length-line (f y) (map f xs), push-long f xs x)

-- the bytes of the lines of refusals and joins
lists_size : Lists → ℕ
lists_size l = length (text_of (map no_line l.refused)) + length (text_of (map joined_line l.joined))

-- after so many packets of a frame
record IsCounted (n : ℕ) (r : Receiving) : Type 0 where
  slots : length r.state.clients ≡ 64
  size : lists_size r.lists ≤ 17 * n

counted : (n : ℕ) (r : Receiving) (s : State) (l : Lists) → r.state ≡ s → r.lists ≡ l → length s.clients ≡ 64 → lists_size l ≤ 17 * n → IsCounted n r
counted n r s l state lists slots size = record {
  slots = ap (λ (t : State). length t.clients) state ∙ slots;
  size = subst (λ (k : ℕ). k ≤ 17 * n) (sym (ap lists_size lists)) size;
}

counted-step : (arena : MapView) (frame n : ℕ) (r : Receiving) (a : Arrival) → n < 512 → HasPort a → IsCounted n r → IsCounted (n + 1) (after_arrival arena frame r n a)
unfolding lists_size
counted-step arena frame n r a below port is = by (one_answer arena frame r n a)
  where
    next : Receiving
    next = after_arrival arena frame r n a

    by : (IsRefused r next n ⊎ IsJoined arena r next a) ⊎ (IsLeave r next a ⊎ IsMove frame r next a) → IsCounted (n + 1) next
    by (inl (inl f)) =
        counted (n + 1) next _ _ f.state f.lists is.slots (omega (arith, push-long no_line r.lists.refused (record { place = n; why = f.why }), no_line-long n f.why below, is.size))
    by (inl (inr j)) =
        let new = join-newcomer arena r.state a.port j.to j.answer in
        let inside : j.to.slot < 64 = omega (arith, new.inside, is.slots) in
        counted (n + 1) next _ _ j.state j.lists (length-set r.state.clients j.to.slot (Some (new_client a.port)) ∙ is.slots)
        (omega (arith, push-long joined_line r.lists.joined (record { port = a.port; slot = j.to.slot }), joined_line-long a.port j.to.slot port inside, is.size))
    by (inr (inl l)) = counted (n + 1) next _ _ l.state l.lists (length-set r.state.clients l.live.slot (Some l.live.client) ∙ is.slots) (omega (arith, is.size))
    by (inr (inr m)) =
        counted (n + 1) next _ _ m.state m.lists (length-set r.state.clients m.live.slot (Some m.live.client) ∙ is.slots)
        (omega (arith, is.size))

counted-through : (arena : MapView) (frame n : ℕ) (r : Receiving) (arrivals : List Arrival) → n + length arrivals ≤ 512 → All HasPort arrivals → IsCounted n r
    → lists_size (after_arrivals arena frame r n arrivals).lists ≤ 17 * (n + length arrivals)
counted-through arena frame n r [] few ports is = omega (arith, is.size)
counted-through arena frame n r (a ∷ more) few ports is =
    let next = counted-step arena frame n r a (omega (arith, few)) (All-head HasPort a more ports) is in
    omega (arith, counted-through arena frame (n + 1) (after_arrival arena frame r n a) more (omega (arith, few)) (All-tail HasPort a more ports) next)

received-long : (arena : MapView) (frame : ℕ) (state : State) (arrivals : List Arrival) → length state.clients ≡ 64 → IsSmallFrame arrivals
    → lists_size (received arena frame state arrivals).lists ≤ 17 * length arrivals
unfolding received lists_size
received-long arena frame state arrivals slots small =
    let none : IsCounted 0 (receiving_of state no_lists) = record { slots = slots; size = omega arith } in
    omega (arith, counted-through arena frame 0 (receiving_of state no_lists) arrivals (omega (arith, small.few)) small.ports none)

-- the text of its refusals is so long, and that of its joins
pub early-long : (arena : MapView) (frame : ℕ) (state : State) (arrivals : List Arrival) → length state.clients ≡ 64 → IsSmallFrame arrivals
    → (length (text_of (map no_line (received arena frame state arrivals).lists.refused)) ≤ 17 * length arrivals)
    × (length (text_of (map joined_line (received arena frame state arrivals).lists.joined)) ≤ 17 * length arrivals)
unfolding lists_size
early-long arena frame state arrivals slots small =
    let long = received-long arena frame state arrivals slots small in
    (omega (arith, long), omega (arith, long))

-- a right journal has as many entries as moves were received
journal-count : (arena : MapView) (r : Receiving) (journal : List Entry) → IsReception arena r → IsRightAfter arena r journal → length journal ≡ length r.lists.moves
journal-count arena r journal is right =
    let whole = merges_have_whole_histories r.lists.moves journal is.apart right.merge in
    let history = history_of r.lists.moves journal in
    omega (
      arith,
      ap length whole.entries,
      length-map history (λ (item : Item). item.entry),
      length-map history (λ (item : Item). item.command),
      length_permutation _ r.lists.moves whole.each_once,
    )

-- ---- the records after the moves

live-few : (records : List (Option Rec)) → length (live_in records) ≤ length records
live-few [] = omega arith
live-few (None ∷ records) = omega (arith, live-few records)
live-few (Some r ∷ records) = omega (arith, live-few records)

live-below : (records : List (Option Rec)) → ((id : ℕ) (r : Rec) → record_at records id ≡ Some r → r.id < IDS) → AllByRecursion (λ r. r.id < IDS) (live_in records)
live-below [] below = tt
live-below (None ∷ records) below = live-below records (λ id r at. below (suc id) r at)
live-below (Some r ∷ records) below = (below zero r refl, live-below records (λ id q at. below (suc id) q at))

kept-below : (p : Rec → Bool) (rs : List Rec) → AllByRecursion (λ r. r.id < IDS) rs → AllByRecursion (λ r. r.id < IDS) (filter p rs)
kept-below p [] below = tt
kept-below p (r ∷ rs) below = by (p r) (filter p rs) (kept-below p rs below.1)
  where
    by : (b : Bool) (l : List Rec) → AllByRecursion (λ q. q.id < IDS) l → AllByRecursion (λ q. q.id < IDS) (cond b (r ∷ l) l)
    by true l rest = (below.0, rest)
    by false l rest = rest

-- there are no more live records than ids, and each player has an id
pub live-within : (arena : MapView) (records : List (Option Rec)) → length records ≡ IDS → length (live_in records) ≤ IDS
live-within arena records places = omega (arith, live-few records, places)

pub players-below : (arena : MapView) (records : List (Option Rec)) → IsValidWorld arena records → AllByRecursion (λ r. r.id < IDS) (players_in records)
players-below arena records valid = kept-below _ (live_in records) (live-below records (λ id r at. id-below r (valid.each id r at).is_record))

-- the lines of the snapshots of at most 64 players
snapshots-long : (arena : MapView) (frame : ℕ) (records : List (Option Rec)) → length records ≡ IDS → IsValidWorld arena records → length (text_of (to_lines frame records)) ≤ ROOM * 64
snapshots-long arena frame records places valid =
    let entries : AreEntries records = λ id r at. record { is_record = (valid.each id r at).is_record; own_id = (valid.each id r at).own_id } in
    let below = players-below arena records valid in
    let few = live-within arena records places in
    let count : length (players_in records) ≤ 64 = omega (arith, ap length (players_are_first records entries), few_first records 64) in
    omega (arith, to_lines-long frame (live_in records) (players_in records) few below, count)

-- ---- frames

pub frame-long : (arena : MapView) (frame : ℕ) (state : State) (arrivals : List Arrival) (journal : List Entry) → IsMap arena → IsServerState arena state → frame < 100000 → All HasBytes arrivals → IsSmallFrame arrivals
    → IsRightAfter arena (received_in arena frame state arrivals) journal → length (text_of (lines_with arena frame (received_in arena frame state arrivals) journal)) ≤ 1120000
unfolding lists_size
frame-long arena frame state arrivals journal is_map is below bytes small right =
    let r = received_in arena frame state arrivals in
    let before = state_after_tick arena frame state in
    let ticked = server_ticked arena frame state is_map is in
    let pass = received_is arena frame state arrivals is_map is in
    let moved = moved_by_is arena r journal is_map pass in
    let refused = map no_line r.lists.refused in
    let joined = map joined_line r.lists.joined in
    let dids = map did_line journal in
    let tos = to_lines frame (moved_by arena r journal).records in
    let reported = right_is_reported arena r journal is_map pass (numbers_are_small arena frame before arrivals bytes) right in
    omega (
      arith,
      length-line (FrameLine frame) (refused ++ joined ++ dids ++ tos),
      length-lines (refused ++ joined ++ dids) tos,
      length-lines (refused ++ joined) dids,
      length-lines refused joined,
      frame_line-long frame below,
      received-long arena frame before arrivals (client_count before.clients ticked.clients.slots) small,
      journal-count arena r journal pass right,
      moves_are_few arena frame before arrivals ticked.clients,
      journal-long 0 journal reported,
      snapshots-long arena frame (moved_by arena r journal).records moved.places moved.fits.valid,
      small.few,
    )

run-long : (arena : MapView) (frame : ℕ) (state : State) (frames : List (List Arrival)) (js : List (List Entry)) → IsMap arena → IsServerState arena state → frame + length frames ≤ 100000 → HaveBytes frames
    → AreSmallFrames frames → AreRight arena frame state frames js → length (text_of (run_lines arena frame state frames js)) ≤ 1120000 * length frames
run-long arena frame state [] js is_map is few bytes small right = omega arith
run-long arena frame state (arrivals ∷ frames) [] is_map is few bytes small right = absurd right
run-long arena frame state (arrivals ∷ frames) (j ∷ js) is_map is few bytes small right =
    let r = received_in arena frame state arrivals in
    let next = state_after arena r j in
    let pass = received_is arena frame state arrivals is_map is in
    omega (
      arith,
      length-lines (lines_with arena frame r j) (run_lines arena (frame + 1) next frames js),
      frame-long arena frame state arrivals j is_map is (omega (arith, few)) bytes.0 small.0 right.0,
      run-long arena (frame + 1) next frames js is_map (state_after_is arena r j is_map pass) (omega (arith, few)) bytes.1 small.1 right.1,
    )

-- ---- the output of a recording

lines-long : (m : Option MapView) (frames : List (List Arrival)) (js : List (List Entry)) → ((arena : MapView) → m ≡ Some arena → IsMap arena) → length frames ≤ 100000 → HaveBytes frames
    → AreSmallFrames frames → AreRightIn m frames js → length (text_of (lines_in m frames js)) ≤ 1120000 * length frames
lines-long None frames js rules few bytes small right = omega arith
lines-long (Some arena) frames js rules few bytes small right =
    let is_map = rules arena refl in
    run-long arena 0 (opening arena) frames js is_map (opening_is arena is_map) (omega (arith, few)) bytes small right

first_go_on : (k : ℕ) (all : List (List Arrival)) → GoesOnWith (take k all) all
first_go_on k all = record { rest = drop k all; is = sym (take-append-drop k all) }

pub are_bounded : OutputsAreBounded
are_bounded = record {
  few = frames_are_few;
  front = λ bytes k js right.
      let all = frames_of bytes in
      let on = first_go_on k all in
      lines-long (map_of bytes) (take k all) js (map_keeps_rules bytes) (omega (arith, length-goes_on (take k all) all on, frames_are_few bytes))
      (fore_have_bytes (take k all) all on (frames_have_bytes bytes)) (fore_are_small (take k all) all on (frames_are_small bytes)) right;
  whole = λ bytes js right.
      let all = frames_of bytes in
      let lines = lines_in (map_of bytes) all js in
      let long = lines-long (map_of bytes) all js (map_keeps_rules bytes) (frames_are_few bytes) (frames_have_bytes bytes) (frames_are_small bytes) right in
      omega (arith, length-lines lines (EndLine (length all) ∷ []), length-line (EndLine (length all)) [], end_line-long (length all) (frames_are_few bytes), long);
}
