-- A frame has few lines.
use Rattle.std.proofs.Common.{◌≡◌, ℕ, ◌+◌, ◌*◌, ◌≤◌, List, [], ◌∷◌, ◌++◌, length, map, Option, sym, ap, ◌∙◌, subst, arith, length-append}
use Rattle.std.proofs.lemmas.List.{length-map}
use Rattle.std.proofs.lemmas.List.Sorted.{length_permutation}
use Rattle.entity_recs.specs.declared.rec.Rec.{Rec}
use Rattle.entity_recs.specs.declared.effect.Entry.{Entry}
use Rattle.entity_recs.specs.Commands.{Command}
use Rattle.entity_recs.specs.Histories.{Item}
use Rattle.move_journal.specs.Merges.{IsMerge, HasNumbersApart, history_of}
use Rattle.move_journal.proofs.JournalLaws.{merges_have_whole_histories}
use Rattle.arena_map.specs.Maps.{MapView, IsMap}
use Rattle.arena_map.specs.Validity.{IsValidWorld}
use Rattle.packet_read.specs.declared.arrival.Arrival.{Arrival}
use Rattle.packet_read.specs.declared.arrival.TheConstants.{MOST_ARRIVALS}
use Rattle.client_ports.specs.Lists.{no_lists}
use Rattle.client_ports.specs.States.{State}
use Rattle.client_ports.specs.Receiving.{Receiving, receiving_of, after_arrival, after_arrivals, received}
use Rattle.client_ports.proofs.Rooms.{HasRoomLeft, left_after}
use Rattle.world_tree.specs.Live.{live_in, AreEntries}
use Rattle.plain_server.specs.Entries.{IsReception}
use Rattle.plain_server.specs.Frames.{received_in, state_after_tick, moved_by, IsRightAfter}
use Rattle.plain_server.specs.Replies.{players_in}
use Rattle.plain_server.proofs.Frames.{moved_by_is}
use Rattle.plain_server.proofs.SlotPlayers.{players_are_first, few_first}
use Rattle.out_text.specs.FrameLines.{no_line, joined_line, did_line, to_line, to_lines, lines_with}

-- a merge of moves has an entry for each of them
pub entries_of_merge : (journal : List Entry) (moves : List Command) → HasNumbersApart moves → IsMerge journal moves → length journal ≡ length moves
entries_of_merge journal moves apart merge =
    let history = history_of moves journal in
    let whole = merges_have_whole_histories moves journal apart merge in
    let entry : Item → Entry = λ item. item.entry in
    let command : Item → Command = λ item. item.command in
    sym (ap length whole.entries) ∙ length-map history entry ∙ sym (length-map history command) ∙ sym (length_permutation (map command history) moves whole.each_once)

left-all : (n : ℕ) (map_view : MapView) (frame : ℕ) (r : Receiving) (place : ℕ) (arrivals : List Arrival) → HasRoomLeft n r.lists → HasRoomLeft (n + length arrivals) (after_arrivals map_view frame r place arrivals).lists
left-all n map_view frame r place [] has = subst (λ k. HasRoomLeft k r.lists) (let same : n ≡ n + 0 = omega arith in same) has
left-all n map_view frame r place (a ∷ more) has =
    let rest = left-all (n + 1) map_view frame (after_arrival map_view frame r place a) (place + 1) more (left_after n map_view frame r place a has) in
    subst (λ k. HasRoomLeft k (after_arrivals map_view frame r place (a ∷ more)).lists) (let same : n + 1 + length more ≡ n + length (a ∷ more) = omega arith in same) rest

lists-few : (map_view : MapView) (frame : ℕ) (state : State) (arrivals : List Arrival) → HasRoomLeft (0 + length arrivals) (received map_view frame state arrivals).lists
unfolding received
lists-few map_view frame state arrivals = left-all 0 map_view frame (receiving_of state no_lists) 0 arrivals (record { moves = omega arith; joined = omega arith; refused = omega arith })

-- each player gets one reply, and there are at most 64 players
replies-few : (map_view : MapView) (frame : ℕ) (records : List (Option Rec)) → IsValidWorld map_view records → length (to_lines frame records) ≤ 64
replies-few map_view frame records valid =
    let entries : AreEntries records = λ id r at. record { is_record = (valid.each id r at).is_record; own_id = (valid.each id r at).own_id } in
    let one = length-map (players_in records) (to_line frame (live_in records)) in
    omega (arith, one, ap length (players_are_first records entries), few_first records 64)

-- a frame has at most 2,000 lines
pub lines-few : (map_view : MapView) (frame : ℕ) (state : State) (arrivals : List Arrival) (journal : List Entry) → IsMap map_view → length arrivals ≤ MOST_ARRIVALS → IsReception map_view (received_in map_view frame state arrivals)
    → length (received_in map_view frame state arrivals).lists.moves ≤ 8 * 64 → IsRightAfter map_view (received_in map_view frame state arrivals) journal
    → length (lines_with map_view frame (received_in map_view frame state arrivals) journal) ≤ 2000
lines-few map_view frame state arrivals journal is_map few pass moves right =
    let r = received_in map_view frame state arrivals in
    let has = lists-few map_view frame (state_after_tick map_view frame state) arrivals in
    let refused = has.refused in
    let joined = has.joined in
    let count = entries_of_merge journal r.lists.moves pass.apart right.merge in
    let records = (moved_by map_view r journal).records in
    let shown = replies-few map_view frame records (moved_by_is map_view r journal is_map pass).fits.valid in
    let nos = length-map r.lists.refused no_line in
    let joins = length-map r.lists.joined joined_line in
    let dids = length-map journal did_line in
    let a = length-append (map no_line r.lists.refused) (map joined_line r.lists.joined) in
    let b = length-append (map no_line r.lists.refused ++ map joined_line r.lists.joined) (map did_line journal) in
    let c = length-append (map no_line r.lists.refused ++ map joined_line r.lists.joined ++ map did_line journal) (to_lines frame records) in
    omega (arith, few, refused, joined, count, moves, shown, nos, joins, dids, a, b, c)
