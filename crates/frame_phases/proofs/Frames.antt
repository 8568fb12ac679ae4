-- A frame of the server is one of the plain server.
use Rattle.std.proofs.Common.{◌≡◌, ℕ, ◌+◌, ◌*◌, ◌≤◌, List, length, map, Option, Result, Ok, Err, IfOk, refl, sym, ap, ◌∙◌, subst, arith}
use Rattle.std.specs.Prelude.{All}
use Rattle.std.proofs.lemmas.List.{length-map}
use Rattle.std.proofs.lemmas.List.Sorted.{length_permutation}
use Rattle.entity_recs.specs.declared.rec.Rec.{Rec}
use Rattle.entity_recs.specs.declared.cmd.Cmd.{Cmd}
use Rattle.entity_recs.specs.declared.effect.Entry as reports
use Rattle.entity_recs.specs.Commands.{Command, command_of}
use Rattle.entity_recs.specs.Histories.{Item, run}
use Rattle.move_journal.specs.Merges.{IsInOrder, IsRight, IsMerge, HasNumbersApart, history_of}
use Rattle.move_journal.proofs.JournalLaws.{merges_have_whole_histories}
use Rattle.arena_map.specs.Maps.{MapView, IsMap}
use Rattle.arena_actions.specs.MapActions.{map_in}
use Rattle.packet_read.specs.declared.arrival.Arrival.{Arrival}
use Rattle.client_ports.specs.States.{State, state_of, HaveSameLive, IsServerState}
use Rattle.client_ports.specs.Receiving.{Receiving}
use Rattle.client_ports.specs.Finishing.{finished}
use Rattle.frame_phases.specs.Servers.{ServerView, server_view, server_after, IsServer}
use Rattle.frame_phases.specs.Finishes.{IsReceived, IsBegun, IsFinished}
use Rattle.frame_phases.specs.Beginnings.{IsStartedFor}
use Rattle.move_phase.specs.Starting.{StartedView, AreStarted}
use Rattle.plain_server.specs.Replies.{slots_of, replies_of}
use Rattle.world_tree.specs.Worlds.{WorldView}
use Rattle.arena_actions.specs.declared.map_action.MapAction.{MapAction}
use Rattle.plain_server.specs.RecordsById.{world_of, records_in}
use Rattle.arena_outcomes.specs.Outcomes.{outcome_on}
use Rattle.plain_server.specs.Moving.{HasLivePlayer}
use Rattle.plain_server.specs.Frames.{state_after_tick, received_in, moved_by}
use Rattle.client_ports.proofs.Short.{moves_are_few}
use Rattle.plain_server.proofs.Frames.{received_is, moved_by_is, state_after_is}
use Rattle.plain_server.specs.Takers.{HasOneTaker, HasItemsAway, IsInState}
use Rattle.plain_server.proofs.Takers.{one_taker, returns_later}

pub is_received : (map : MapView) (frame : ℕ) (state : State) (arrivals : List Arrival) (r : Receiving) → IsMap map → IsServerState map state → r ≡ received_in map frame state arrivals
    → IsReceived map r
is_received map frame state arrivals r is_map is r_is =
    let P : Receiving → Type 0 = λ q. IsReceived map q in
    subst P (sym r_is) (record { pass = received_is map frame state arrivals is_map is; few = moves_are_few map frame (state_after_tick map frame state) arrivals is.clients })

-- what the code's calls ensure of it: it began from a copy of the state
pub received_from : (map shown : MapView) (frame : ℕ) (state copied : State) (arrivals : List Arrival) (r : Receiving) → shown ≡ map → copied ≡ state → r ≡ received_in shown frame copied arrivals
    → r ≡ received_in map frame state arrivals
received_from map shown frame state copied arrivals r shown_is copied_is r_is = r_is ∙ (λ i. received_in (shown_is i) frame (copied_is i) arrivals)

-- the moves that the code runs are those of live players
pub live_moves : (map_view : MapView) (r : Receiving) (moves : List Cmd) → map command_of moves ≡ r.lists.moves → IsReceived map_view r
    → All (HasLivePlayer r.state.records) (map command_of moves)
live_moves map_view r moves is got = subst (All (HasLivePlayer r.state.records)) (sym is) got.pass.live

-- and few
pub few_moves : (map_view : MapView) (r : Receiving) (moves : List Cmd) → map command_of moves ≡ r.lists.moves → IsReceived map_view r → length moves ≤ 8 * 64
few_moves map_view r moves is got = omega (arith, got.few, ap length is, length-map moves command_of)

-- the moves that the code runs have their numbers apart
pub apart_moves : (map_view : MapView) (r : Receiving) (moves : List Cmd) → map command_of moves ≡ r.lists.moves → IsReceived map_view r → HasNumbersApart (map command_of moves)
apart_moves map_view r moves is got = subst HasNumbersApart (sym is) got.pass.apart

-- ---- a frame that is begun

-- it is begun, where the memory for its moves was taken
pub begun_if_started : {E : Type 0} (r : Result StartedView E) (action : MapAction) (world : WorldView) (got : Receiving) (moves : List Cmd) → IsMap (map_in action) → IsReceived (map_in action) got
    → map command_of moves ≡ got.lists.moves → IfOk r (λ s. s.action ≡ action) → IfOk r (AreStarted world (map command_of moves)) → IfOk r (λ s. IsBegun s world got)
begun_if_started (Ok s) action world got moves is_map is moves_are same started = record {
  is_map = subst (λ (a : MapAction). IsMap (map_in a)) (sym same) is_map;
  got = subst (λ (a : MapAction). IsReceived (map_in a) got) (sym same) is;
  moves = subst (λ (cs : List Command). AreStarted world cs s) moves_are started;
}
begun_if_started (Err e) action world got moves is_map is moves_are same started = tt

-- its moves are started as was asked, where the memory was taken
pub started_for : {E : Type 0} (r : Result StartedView E) (action : MapAction) (workers : ℕ) → IfOk r (λ s. s.action ≡ action) → IfOk r (λ s. s.workers ≡ workers) → IfOk r (IsStartedFor action workers)
started_for (Ok s) action workers same as_many = record { action_is = same; workers_are = as_many }
started_for (Err e) action workers same as_many = tt

-- ---- a frame that is finished

-- what the code's moves come to: a right journal, in the order of arrival with one worker, and the records after it
pub record AreRun (map_view : MapView) (r : Receiving) (workers : ℕ) (moves : List Command) (new : List (Option Rec)) (journal : List reports.Entry) : Type 0 where
  pub right : IsRight (outcome_on map_view) (world_of r.state.records) moves journal
  pub order : workers ≡ 1 → IsInOrder journal moves
  pub moved : new ≡ records_in (run (outcome_on map_view) (world_of r.state.records) (history_of moves journal)) r.state.records

-- what a frame comes to: its journal is right, and in order with one worker, and the records and the state are those
-- after it
pub is_finished : (map_view : MapView) (r : Receiving) (frame workers : ℕ) (moves : List Cmd) (new : List (Option Rec)) (next : State) (journal : List reports.Entry) (slots : List ℕ) (replies : List (List ℕ))
    → IsMap map_view → IsReceived map_view r → map command_of moves ≡ r.lists.moves → AreRun map_view r workers (map command_of moves) new journal → next ≡ finished (state_of r.state.clients new)
    → slots ≡ slots_of new → replies ≡ replies_of frame new → IsFinished map_view frame workers r next journal slots replies
is_finished map_view r frame workers moves new next journal slots replies is_map got moves_are ran next_is slots_are replies_are =
    let have : AreRun map_view r workers r.lists.moves new journal = subst (λ (ms : List Command). AreRun map_view r workers ms new journal) moves_are ran in
    let shown : state_of r.state.clients new ≡ moved_by map_view r journal = ap (state_of r.state.clients) have.moved in
    let records : new ≡ (moved_by map_view r journal).records = ap (λ (s : State). s.records) shown in
    record {
      right = have.right;
      order = have.order;
      slots_are = slots_are ∙ ap slots_of records;
      replies_are = replies_are ∙ ap (replies_of frame) records;
      next_is = next_is ∙ ap finished shown;
    }

-- what a frame comes to, in the words of the server before it
pub record IsFrameOf (t : ServerView) (workers : ℕ) (arrivals : List Arrival) (next : State) (journal : List reports.Entry) (slots : List ℕ) (replies : List (List ℕ)) : Type 0 where
  pub finished : IsFinished t.map t.frames workers (received_in t.map t.frames t.state arrivals) next journal slots replies
  pub next_is : server_view t.map next (t.frames + 1) ≡ server_after t arrivals journal
  pub fits : IsServerState t.map next
  pub once : HasOneTaker t.map journal
  pub away : HasItemsAway t.map t.frames journal next.records
  pub few : length journal ≤ 512

-- a merge of moves has an entry for each of them
pub entries_of_merge : (journal : List reports.Entry) (moves : List Command) → HasNumbersApart moves → IsMerge journal moves → length journal ≡ length moves
entries_of_merge journal moves apart merge =
    let history = history_of moves journal in
    let whole = merges_have_whole_histories moves journal apart merge in
    let entry : Item → reports.Entry = λ item. item.entry in
    let command : Item → Command = λ item. item.command in
    sym (ap length whole.entries)
    ∙ length-map history entry
    ∙ sym (length-map history command)
    ∙ sym (length_permutation (map command history) moves whole.each_once)

frame_of : (t : ServerView) (workers : ℕ) (arrivals : List Arrival) (r : Receiving) (next : State) (journal : List reports.Entry) (slots : List ℕ) (replies : List (List ℕ)) → IsServer t.map t.state
    → r ≡ received_in t.map t.frames t.state arrivals → IsFinished t.map t.frames workers r next journal slots replies → IsFrameOf t workers arrivals next journal slots replies
frame_of t workers arrivals r next journal slots replies is r_is done =
    let q = received_in t.map t.frames t.state arrivals in
    let frame : IsFinished t.map t.frames workers q next journal slots replies = subst (λ (p : Receiving). IsFinished t.map t.frames workers p next journal slots replies) r_is done in
    let got = is_received t.map t.frames t.state arrivals q is.is_map is.fits refl in
    record {
      finished = frame;
      next_is = ap (λ (s : State). server_view t.map s (t.frames + 1)) frame.next_is;
      fits = subst (IsServerState t.map) (sym frame.next_is) (state_after_is t.map q journal is.is_map got.pass);
      once = one_taker t.map t.frames t.state arrivals journal is.is_map is.fits frame.right;
      away = λ place id delay has delay_is.
          subst (λ (s : State). IsInState s.records id (t.frames + delay)) (sym frame.next_is) (returns_later t.map t.frames t.state arrivals journal is.is_map is.fits frame.right place id delay has delay_is);
      few = omega (arith, got.few, entries_of_merge journal q.lists.moves got.pass.apart frame.right.merge);
    }

-- from what the two halves of a frame ensure
pub whole_frame : (server t : ServerView) (started : StartedView) (action : MapAction) (workers frames : ℕ) (arrivals : List Arrival) (r : Receiving) (next : State) (journal : List reports.Entry)
    (slots : List ℕ) (replies : List (List ℕ)) → t ≡ server → IsServer t.map t.state → r ≡ received_in t.map t.frames t.state arrivals → (map_in action) ≡ t.map → started.action ≡ action → started.workers ≡ workers
    → frames ≡ t.frames → IsFinished (map_in started.action) frames started.workers r next journal slots replies → IsFrameOf server workers arrivals next journal slots replies
whole_frame server t started action workers frames arrivals r next journal slots replies view is r_is map_is action_is workers_are frames_are done =
    subst (λ (u : ServerView). IsFrameOf u workers arrivals next journal slots replies) view
    (frame_of t workers arrivals r next journal slots replies is r_is
    (subst (λ (m : MapView). IsFinished m t.frames workers r next journal slots replies) (ap (λ (a : MapAction). map_in a) action_is ∙ map_is)
    (subst (λ (n : ℕ). IsFinished (map_in started.action) n workers r next journal slots replies) frames_are
    (subst (λ (n : ℕ). IsFinished (map_in started.action) frames n r next journal slots replies) workers_are done))))

-- the live slots are the live players still
pub live_after : (map_view : MapView) (workers : ℕ) (r : Receiving) (moves : List Cmd) (new : List (Option Rec)) (journal : List reports.Entry) → IsMap map_view → IsReceived map_view r
    → map command_of moves ≡ r.lists.moves → AreRun map_view r workers (map command_of moves) new journal → HaveSameLive r.state.clients new
live_after map_view workers r moves new journal is_map got moves_are ran =
    let have : AreRun map_view r workers r.lists.moves new journal = subst (λ (ms : List Command). AreRun map_view r workers ms new journal) moves_are ran in
    subst (HaveSameLive r.state.clients) (sym have.moved) (moved_by_is map_view r journal is_map got.pass).fits.live
