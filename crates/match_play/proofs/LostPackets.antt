-- No command of a recording in which commands are resent is lost.
use Rattle.std.proofs.Common.{◌≡◌, ℕ, zero, suc, ◌+◌, ◌^◌, ◌<◌, ◌≤◌, false, List, [], ◌∷◌, ◌++◌, length, map as map_list, flat_map, All, Option, Some, None, refl, sym, ap, ◌∙◌, subst, arith, lit<}
use Rattle.std.specs.List.{range_with_len}
use Rattle.std.proofs.lemmas.List.Elements.{All-nil, All-cons, All-map}
use Rattle.entity_recs.specs.declared.effect.Entry.{Entry}
use Rattle.entity_recs.specs.Commands.{Command}
use Rattle.move_journal.specs.Merges.{reported_numbers}
use Rattle.arena_map.specs.Maps.{MapView}
use Rattle.packet_read.specs.declared.move_packet.MovePacket.{MovePacket}
use Rattle.packet_read.specs.declared.arrival.Arrival.{Arrival}
use Rattle.client_ports.specs.declared.received.Refused.{Refused}
use Rattle.client_ports.specs.declared.refusal.Refusal.{Refusal}
use Rattle.client_ports.specs.NewMoves.{numbers_in}
use Rattle.client_ports.specs.States.{State, IsServerState}
use Rattle.client_ports.specs.Receiving.{Receiving, command_in}
use Rattle.plain_server.specs.RecordsById.{opening}
use Rattle.plain_server.specs.Frames.{state_after_tick, received_in, state_after, moved_by, IsRightAfter, AreRight}
use Rattle.plain_server.proofs.Frames.{received_is, state_after_is, moved_by_is, opening_is}
use Rattle.plain_server.proofs.Ticking.{server_ticked}
use Rattle.demo_lines.specs.Bytes.{map_of}
use Rattle.demo_make.specs.GeneratedMap.{generated_map}
use Rattle.demo_make.specs.GeneratedFrames.{IsInRange}
use Rattle.demo_make.specs.ResentFrames.{resent_in, resent_frames, resent_events, resent_text}
use Rattle.demo_make.specs.Accepting.{ArePlayingUpTo}
use Rattle.demo_make.specs.Repeating.{last_before, new_commands, OnlyNewAreAccepted}
use Rattle.demo_make.proofs.Clear.{spawns_are_clear}
use Rattle.demo_make.proofs.NewCommands.{numbers-once}
use Rattle.demo_make.proofs.MapKept.{generated_is_map}
use Rattle.demo_make.proofs.Repeated.{commands_arrive_once}
use Rattle.demo_make.proofs.ResentKept.{resent-back}
use Rattle.out_text.specs.Collecting.{frames_of}
use Rattle.out_text.specs.FrameLines.{lines_with, run_lines}
use Rattle.out_text.specs.Journals.{dids}
use Rattle.out_text.specs.OutLines.{OutLine, FrameLine, FromLine, NoLine, JoinedLine, DidLine, ToLine, EndLine, line_spelling, text_of}
use Rattle.out_text.specs.Output.{lines_in, AreRightIn, IsOutput}
use Rattle.out_text.specs.PacketLines.{refusals_in}
use Rattle.out_text.specs.Reading.{line_in}
use Rattle.out_text.proofs.LinesRead.{line-sound}
use Rattle.out_text.proofs.OneAnswer.{one_answer_each, refusals-append}
use Rattle.out_text.proofs.Quiet.{whole_lines-text}
use Rattle.match_play.specs.LostPackets.{numbers_over, HasEachCommandOnce, is_no_line, HasNoRefusal, LosesNoCommand, LostPacketsLoseNoCommand}
use Rattle.match_play.proofs.Counts.{nobody_plays, no_player}
use Rattle.match_play.proofs.Events.{closed_by, recording-closes}
use Rattle.match_play.proofs.Written.{frames_of-events}

-- ---- a frame

-- the players play, in a server's state, each with the number of its newest command that came before the frame
record IsUpTo (players frames frame : ℕ) (state : State) : Type 0 where
  playing : ArePlayingUpTo players (λ slot. last_before frames (slot + 1) frame) state.clients
  fits : IsServerState generated_map state

-- the numbers of a slot's commands that come in a frame
abbrev numbers_at : ℕ → ℕ → ℕ → ℕ → ℕ → List ℕ
numbers_at seed players frames slot frame = numbers_in (new_commands seed players frames frame (slot + 1))

-- a frame of which nothing is refused, with a right journal
record IsKept (seed players frames frame : ℕ) (r : Receiving) (j : List Entry) : Type 0 where
  refused : r.lists.refused ≡ []
  each : (slot : ℕ) → slot < players → reported_numbers slot j ≡ numbers_at seed players frames slot frame
  others : (slot : ℕ) → players ≤ slot → reported_numbers slot j ≡ []
  next : IsUpTo players frames (frame + 1) (state_after generated_map r j)

sent-are : (frame slot : ℕ) (ms : List MovePacket) → map_list (λ (c : Command). c.seq) (map_list (command_in frame slot) ms) ≡ numbers_in ms
sent-are frame slot [] = refl
sent-are frame slot (m ∷ ms) = ap (λ ns. m.seq ∷ ns) (sent-are frame slot ms)

frame-kept : (seed players frames frame : ℕ) (state : State) (arrivals : List Arrival) (j : List Entry) → IsServerState generated_map state
    → OnlyNewAreAccepted seed players frames frame (received_in generated_map frame state arrivals) → IsRightAfter generated_map (received_in generated_map frame state arrivals) j
    → IsKept seed players frames frame (received_in generated_map frame state arrivals) j
frame-kept seed players frames frame state arrivals j is come right =
    let r = received_in generated_map frame state arrivals in
    let pass = received_is generated_map frame state arrivals generated_is_map is in
    let moved = moved_by_is generated_map r j generated_is_map pass in
    let seqs : List Command → List ℕ = λ cs. map_list (λ (c : Command). c.seq) cs in
    record {
      refused = come.refused;
      each = λ slot below.
          right.merge.each slot ∙ ap seqs (come.moves slot below) ∙ sent-are frame slot (new_commands seed players frames frame (slot + 1));
      others = λ slot above. right.merge.each slot ∙ ap seqs (come.others slot above);
      next = record {
        playing = come.plays_on (moved_by generated_map r j).records moved.places;
        fits = state_after_is generated_map r j generated_is_map pass;
      };
    }

-- ---- frames

-- so many frames, from this one on, with right journals
record AreKept (seed players frames frame n : ℕ) (state : State) (arrivals : List (List Arrival)) (js : List (List Entry)) : Type 0 where
  refused : refusals_in (run_lines generated_map frame state arrivals js) ≡ []
  each : (slot : ℕ) → slot < players → numbers_over slot js ≡ flat_map (numbers_at seed players frames slot) (range_with_len frame n)
  others : (slot : ℕ) → players ≤ slot → numbers_over slot js ≡ []

kept-more : (seed players frames frame n : ℕ) (state : State) (a : List Arrival) (j : List Entry) (arrivals : List (List Arrival)) (js : List (List Entry))
    → IsKept seed players frames frame (received_in generated_map frame state a) j
    → AreKept seed players frames (frame + 1) n (state_after generated_map (received_in generated_map frame state a) j) arrivals js
    → AreKept seed players frames frame (suc n) state (a ∷ arrivals) (j ∷ js)
kept-more seed players frames frame n state a j arrivals js here rest =
    let r = received_in generated_map frame state a in
    let lines = lines_with generated_map frame r j in
    let later = run_lines generated_map (frame + 1) (state_after generated_map r j) arrivals js in
    let answer = one_answer_each generated_map frame state a j in
    record {
      refused = refusals-append lines later ∙ ap (λ ts. ts ++ refusals_in later) (answer.refusals ∙ here.refused) ∙ rest.refused;
      each = λ slot below.
          ap (λ ns. ns ++ numbers_over slot js) (here.each slot below)
          ∙ ap (λ ns. numbers_at seed players frames slot frame ++ ns) (rest.each slot below);
      others = λ slot above. ap (λ ns. ns ++ numbers_over slot js) (here.others slot above) ∙ rest.others slot above;
    }

-- the frames after the first
later-kept : (seed players frames frame n : ℕ) (state : State) (js : List (List Entry)) → players ≤ 64 → 0 < frame → frame + n < 2 ^ 32 → IsUpTo players frames frame state
    → AreRight generated_map frame state (map_list (resent_in seed players frames) (range_with_len frame n)) js
    → AreKept seed players frames frame n state (map_list (resent_in seed players frames) (range_with_len frame n)) js
later-kept seed players frames frame zero state [] few later early is right =
    record { refused = refl; each = λ slot below. refl; others = λ slot above. refl }
later-kept seed players frames frame zero state (j ∷ js) few later early is right = absurd right
later-kept seed players frames frame (suc n) state [] few later early is right = absurd right
later-kept seed players frames frame (suc n) state (j ∷ js) few later early is right =
    let a = resent_in seed players frames frame in
    let r = received_in generated_map frame state a in
    let ticked = server_ticked generated_map frame state generated_is_map is.fits in
    let come = commands_arrive_once.later seed players frames frame (state_after_tick generated_map frame state) few later (omega (arith, early)) is.playing ticked.places in
    let here = frame-kept seed players frames frame state a j is.fits come right.0 in
    let rest = later-kept seed players frames (frame + 1) n (state_after generated_map r j) js few (omega arith) (omega (arith, early)) here.next right.1 in
    kept-more seed players frames frame n state a j (map_list (resent_in seed players frames) (range_with_len (frame + 1) n)) js here rest

-- all of them
all-kept : (seed players frames n : ℕ) (js : List (List Entry)) → players ≤ 64 → n < 100000
    → AreRight generated_map 0 (opening generated_map) (map_list (resent_in seed players frames) (range_with_len 0 (suc n))) js
    → AreKept seed players frames 0 (suc n) (opening generated_map) (map_list (resent_in seed players frames) (range_with_len 0 (suc n))) js
all-kept seed players frames n [] few early right = absurd right
all-kept seed players frames n (j ∷ js) few early right =
    let start = opening generated_map in
    let a = resent_in seed players frames 0 in
    let r = received_in generated_map 0 start a in
    let fits = opening_is generated_map generated_is_map in
    let ticked = server_ticked generated_map 0 start generated_is_map fits in
    let clear = spawns_are_clear (state_after_tick generated_map 0 start).records ticked.fits.valid no_player in
    let come = commands_arrive_once.first seed players frames (state_after_tick generated_map 0 start) few nobody_plays ticked.places clear in
    let here = frame-kept seed players frames 0 start a j fits come right.0 in
    let big : 100001 < 2 ^ 32 = lit< tt in
    let rest = later-kept seed players frames 1 n (state_after generated_map r j) js few (omega arith) (omega (arith, big, early)) here.next right.1 in
    kept-more seed players frames 0 n start a j (map_list (resent_in seed players frames) (range_with_len 1 n)) js here rest

kept : (seed players frames : ℕ) (js : List (List Entry)) → IsInRange players frames → AreRight generated_map 0 (opening generated_map) (resent_frames seed players frames) js
    → AreKept seed players frames 0 frames (opening generated_map) (resent_frames seed players frames) js
kept seed players zero js range right = absurd (omega (arith, range.some_frames))
kept seed players (suc n) js range right = all-kept seed players (suc n) n js range.few_players (omega (arith, range.few_frames)) right

each-once : (seed players frames : ℕ) (js : List (List Entry)) → IsInRange players frames → AreRight generated_map 0 (opening generated_map) (resent_frames seed players frames) js
    → HasEachCommandOnce players frames js
each-once seed players frames js range right =
    let are = kept seed players frames js range right in
    record { each = λ slot below. are.each slot below ∙ numbers-once seed players frames (slot + 1) range.some_frames; others = are.others }

-- ---- the text

abbrev first-byte : List ℕ → ℕ
first-byte [] = 0
first-byte (b ∷ bytes) = b

-- a line that is no `no` line isn't read as one
unread : (line : OutLine) → refusals_in (line ∷ []) ≡ [] → is_no_line (line_in (line_spelling line)) ≡ false
unread line quiet = by (line_in (line_spelling line)) refl
  where
    differ : (place : ℕ) (why : Refusal) (l : OutLine) → refusals_in (l ∷ []) ≡ [] → line_spelling l ≡ line_spelling (NoLine place why) → ⊥
    differ place why (FrameLine frame) q e = let h : 102 ≡ 110 = ap first-byte e in omega (arith, h)
    differ place why (FromLine port bytes) q e = let h : 102 ≡ 110 = ap first-byte e in omega (arith, h)
    differ place why (NoLine other reason) q e = cc
    differ place why (JoinedLine port slot) q e = let h : 106 ≡ 110 = ap first-byte e in omega (arith, h)
    differ place why (DidLine did) q e = let h : 100 ≡ 110 = ap first-byte e in omega (arith, h)
    differ place why (ToLine slot bytes) q e = let h : 116 ≡ 110 = ap first-byte e in omega (arith, h)
    differ place why (EndLine frames) q e = let h : 101 ≡ 110 = ap first-byte e in omega (arith, h)

    by : (o : Option OutLine) → line_in (line_spelling line) ≡ o → is_no_line o ≡ false
    by None e = refl
    by (Some (FrameLine frame)) e = refl
    by (Some (FromLine port bytes)) e = refl
    by (Some (NoLine place why)) e = absurd (differ place why line quiet (line-sound (line_spelling line) (NoLine place why) e).spelled)
    by (Some (JoinedLine port slot)) e = refl
    by (Some (DidLine did)) e = refl
    by (Some (ToLine slot bytes)) e = refl
    by (Some (EndLine frames)) e = refl

refusals-tail : (line : OutLine) (lines : List OutLine) → refusals_in (line ∷ lines) ≡ [] → (refusals_in (line ∷ []) ≡ []) × (refusals_in lines ≡ [])
refusals-tail (FrameLine frame) lines none = (refl, none)
refusals-tail (FromLine port bytes) lines none = (refl, none)
refusals-tail (NoLine place why) lines none = cc
refusals-tail (JoinedLine port slot) lines none = (refl, none)
refusals-tail (DidLine did) lines none = (refl, none)
refusals-tail (ToLine slot bytes) lines none = (refl, none)
refusals-tail (EndLine frames) lines none = (refl, none)

-- the line isn't read as a `no` line
abbrev IsUnread : List ℕ → Type 0
IsUnread bytes = is_no_line (line_in bytes) ≡ false

all-unread : (lines : List OutLine) → refusals_in lines ≡ [] → All (λ line. IsUnread (line_spelling line)) lines
all-unread [] none = All-nil (λ line. IsUnread (line_spelling line))
all-unread (line ∷ lines) none =
    let parts = refusals-tail line lines none in
    All-cons (λ line. IsUnread (line_spelling line)) line lines (unread line parts.0) (all-unread lines parts.1)

no-refusal : (lines : List OutLine) → refusals_in lines ≡ [] → HasNoRefusal (text_of lines)
no-refusal lines none =
    subst (All IsUnread) (sym (whole_lines-text lines)) (All-map IsUnread line_spelling lines (all-unread lines none))

module _ (seed players frames : ℕ) (range : IsInRange players frames) where
  abbrev bytes : List ℕ
  bytes = resent_text seed players frames

  frames-are : frames_of bytes ≡ resent_frames seed players frames
  unfolding resent_events
  frames-are =
      let back = resent-back seed players frames range in
      frames_of-events bytes back.fault ∙ ap (closed_by None) back.events ∙ recording-closes (resent_frames seed players frames)

  map-is : map_of bytes ≡ Some generated_map
  map-is = (resent-back seed players frames range).map

  to-right : (js : List (List Entry)) → AreRightIn (map_of bytes) (frames_of bytes) js → AreRight generated_map 0 (opening generated_map) (resent_frames seed players frames) js
  to-right js right =
      subst (λ (fs : List (List Arrival)). AreRight generated_map 0 (opening generated_map) fs js) frames-are
      (subst (λ (m : Option MapView). AreRightIn m (frames_of bytes) js) map-is right)

  lines-are : (js : List (List Entry)) → lines_in (map_of bytes) (frames_of bytes) js ≡ run_lines generated_map 0 (opening generated_map) (resent_frames seed players frames) js
  lines-are js =
      ap (λ (m : Option MapView). lines_in m (frames_of bytes) js) map-is
      ∙ ap (λ (fs : List (List Arrival)). run_lines generated_map 0 (opening generated_map) fs js) frames-are

  loses-none : (workers : ℕ) (text : List ℕ) → IsOutput workers bytes text → LosesNoCommand players frames text
  loses-none workers text is =
      let js = dids text in
      let right = to-right js is.right in
      let are = kept seed players frames js range right in
      let lines = lines_in (map_of bytes) (frames_of bytes) js in
      let end = EndLine (length (frames_of bytes)) ∷ [] in
      let none : refusals_in (lines ++ end) ≡ [] =
      refusals-append lines end ∙ ap (λ (ts : List Refused). ts ++ []) (ap refusals_in (lines-are js) ∙ are.refused) in
      record {
        refused = subst HasNoRefusal (sym is.spelled) (no-refusal (lines ++ end) none);
        commands = each-once seed players frames js range right;
      }

pub lost_packets_lose_none : LostPacketsLoseNoCommand
lost_packets_lose_none = record {
  right = each-once;
  written = λ workers seed players frames text range is. loses-none seed players frames range workers text is;
}
