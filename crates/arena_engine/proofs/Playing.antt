-- One event of a recording that is played.
use Rattle.std.proofs.Common.{◌≡◌, ℕ, ◌+◌, ◌<◌, ◌≤◌, true, false, List, [], ◌∷◌, ◌++◌, length, take, Option, Some, None, option_map, IfSome, IsSomeAnd, ◌⊎◌, inl, inr, refl, sym, ap, ◌∙◌, subst, append_assoc, append-nil, arith, length-append}
use Rattle.std.specs.Io.KnownBytes.{Appends, Consumes}
use Rattle.std.proofs.KnownBytes.{Appends-nil, Appends-trans}
use Rattle.edge_io.specs.Lines.{ahead, HasNotReadAhead}
use Rattle.edge_io.specs.Writes.{AppendsPart}
use Rattle.entity_recs.specs.declared.effect.Entry.{Entry}
use Rattle.move_journal.specs.Merges.{IsInOrder}
use Rattle.arena_map.specs.Maps.{MapView, IsMap}
use Rattle.packet_read.specs.declared.arrival.Arrival.{Arrival}
use Rattle.plain_server.specs.RecordsById.{opening}
use Rattle.plain_server.specs.Frames.{received_in, state_played, IsRightAfter, journals_of}
use Rattle.plain_server.proofs.Frames.{right_in_order, order_in_order}
use Rattle.plain_server.proofs.Turns.{right_count}
use Rattle.frame_phases.specs.Servers.{ServerView, server_after}
use Rattle.demo_lines.specs.declared.stage.Stage.{Stage}
use Rattle.demo_lines.specs.declared.stage.Stage.TheVariants.{Playing, Ended}
use Rattle.demo_lines.specs.declared.event.Event.{Event}
use Rattle.demo_lines.specs.declared.event.Event.TheVariants.{Frame, From, End}
use Rattle.demo_lines.specs.Known.{Reading, start, is_map_whole, is_over}
use Rattle.demo_lines.specs.Recording.{after}
use Rattle.demo_lines.specs.Bytes.{last_part, lines_of as lines_in, refused_at, refused_where, fault}
use Rattle.demo_lines.specs.Reads.{Reads, IsTextOf, TakesCutEnd, stage_after}
use Rattle.demo_lines.proofs.Ends.{after-over, events_of-over}
use Rattle.demo_lines.proofs.Joins.{Reads-trans}
use Rattle.demo_lines.proofs.MapGiven.{after-kept}
use Rattle.demo_lines.proofs.Walks.{whole_after}
use Rattle.out_text.specs.OutLines.{OutLine, EndLine, text_of}
use Rattle.out_text.specs.FrameLines.{lines_with}
use Rattle.out_text.specs.Collecting.{Frames, closed_frames, collect, frames_of_events, no_frames, frames_of}
use Rattle.out_text.proofs.Growing.{GoesOnWith, collected-append}
use Rattle.out_text.proofs.Agreement.{Agrees, AgreesAt, NoneYet, OneOpen, AllClosed, agrees_lines}
use Rattle.out_text.proofs.Runs.{state_played-push, right-append, right-push, in_order-append, in_order-push, text_of-append}
use Rattle.out_text.proofs.Fronts.{AreRun, IsPlayed, none_are_run}
use Rattle.frame_phases.specs.FramesRun.{RunsFrame}
use Rattle.playback.specs.Playbacks.{MayClose, IsReady}
use Rattle.arena_engine.specs.declared.feeding.Feeding.{Feeding}
use Rattle.arena_engine.specs.Feedings.{Last, AreFed, IsLastOf, arranged, with_packets, fed_lines, fed_text}
use Rattle.arena_engine.specs.Games.{GameView, new_game, Closing, newest, ClosesFed, Advances, closing_lines, event_lines, is_end}
use Rattle.arena_engine.specs.Texts.{texts_of}
use Rattle.arena_engine.specs.Progress.{IsServerAt, Progress}
use Rattle.arena_engine.specs.Output.{Writes, ReadsToEnd}
use Rattle.arena_engine.proofs.Continuing.{Continues, continues, map_of-whole, frames_of-all, goes_on_frames, goes_on_events}
use Rattle.arena_engine.proofs.FedTexts.{HaveRun, fed-push, fed-rest, last-push, lines-push, length-fed, fed_text-longer, fed_text-none, none_are_fed, none_is_last, fed_whole_text, some_right, whole_right, frame_cut_right, end_cut_right, last_cut_right, whole_fits}
use Rattle.arena_engine.proofs.Exits.{Played}

pub collected-push : (es : List Event) (e : Event) → frames_of_events (es ++ e ∷ []) ≡ collect (frames_of_events es) e
collected-push es e = collected-append es (e ∷ [])

-- ---- a server that has run frames

-- what a frame more comes to: its journal is right, and the server is that of the frames with it
pub record OneMore (workers : ℕ) (arena : MapView) (closed : List (List Arrival)) (js : List (List Entry)) (arrivals : List Arrival) (new : ServerView) (j : List Entry) (lines : List OutLine) : Type 0 where
  pub run : AreRun workers arena (closed ++ arrivals ∷ []) (js ++ j ∷ [])
  pub at : IsServerAt arena (closed ++ arrivals ∷ []) (js ++ j ∷ []) new
  pub lines_are : lines ≡ lines_with arena (0 + length closed) (received_in arena (0 + length closed) (state_played arena 0 (opening arena) closed js) arrivals) j

-- the server from its parts
same_server : (arena : MapView) (closed : List (List Arrival)) (js : List (List Entry)) (server : ServerView) → IsServerAt arena closed js server
    → server ≡ record { map = arena; state = state_played arena 0 (opening arena) closed js; frames = 0 + length closed }
same_server arena closed js server at =
    let count : server.frames ≡ 0 + length closed = omega (arith, at.frames) in
    λ i. record { map = at.map i; state = at.state i; frames = count i }

pub one_more : (workers : ℕ) (arena : MapView) (closed : List (List Arrival)) (js : List (List Entry)) (arrivals : List Arrival) (old new : ServerView) (j : List Entry) → AreRun workers arena closed js
    → IsServerAt arena closed js old → RunsFrame workers old new arrivals j
    → OneMore workers arena closed js arrivals new j (lines_with old.map old.frames (received_in old.map old.frames old.state arrivals) j)
one_more workers arena closed js arrivals old new j run at runs =
    let same = same_server arena closed js old at in
    let s = state_played arena 0 (opening arena) closed js in
    let count = right_count arena 0 (opening arena) closed js run.right in
    let right = subst (λ (t : ServerView). IsRightAfter t.map (received_in t.map t.frames t.state arrivals) j) same runs.right in
    let order = λ (one : workers ≡ 1). subst (λ (t : ServerView). IsInOrder j (received_in t.map t.frames t.state arrivals).lists.moves) same (runs.order one) in
    let next = runs.next ∙ ap (λ (t : ServerView). server_after t arrivals j) same in
    let lines : lines_with old.map old.frames (received_in old.map old.frames old.state arrivals) j ≡ lines_with arena (0 + length closed) (received_in arena (0 + length closed) s arrivals) j =
    ap (λ (t : ServerView). lines_with t.map t.frames (received_in t.map t.frames t.state arrivals) j) same in
    record {
      run = record { right = right-push arena 0 (opening arena) closed arrivals js j run.right right; order = λ one. in_order-push arena 0 (opening arena) closed arrivals js j (run.order one) (order one) };
      at = record {
        map = ap (λ (t : ServerView). t.map) next;
        state = ap (λ (t : ServerView). t.state) next ∙ sym (state_played-push arena 0 (opening arena) closed arrivals js j count);
        frames = omega (arith, ap (λ (t : ServerView). t.frames) next, length-append closed (arrivals ∷ []));
      };
      lines_are = lines;
    }

-- what a frame that is closed, if one was open, comes to
pub record Closed (feeding : Feeding) (workers : ℕ) (arena : MapView) (closed feeds : List (List Arrival)) (js : List (List Entry)) (opened : Option (List Arrival)) (new : ServerView) (c : Option Closing) (lines : List OutLine) : Type 0 where
  pub others : List (List Arrival)
  pub more : List (List Entry)
  pub fed : AreFed feeding (closed ++ closed_frames opened) (feeds ++ others)
  pub run : AreRun workers arena (feeds ++ others) (js ++ more)
  pub at : IsServerAt arena (feeds ++ others) (js ++ more) new
  pub last_is : (before : Last) → IsLastOf feeding before closed feeds js → IsLastOf feeding (newest c before) (closed ++ closed_frames opened) (feeds ++ others) (js ++ more)
  pub whole : fed_lines feeding arena feeds js ++ lines ≡ fed_lines feeding arena (feeds ++ others) (js ++ more)

closed_by : (feeding : Feeding) (workers : ℕ) (arena : MapView) (closed feeds : List (List Arrival)) (js : List (List Entry)) (opened : Option (List Arrival)) (old new : ServerView) (c : Option Closing) → AreFed feeding closed feeds
    → AreRun workers arena feeds js → IsServerAt arena feeds js old → ClosesFed feeding workers old new opened c → Closed feeding workers arena closed feeds js opened new c (closing_lines old opened c)
closed_by feeding workers arena closed feeds js None old new None are run at is = record {
  others = [];
  more = [];
  fed = subst (λ (fs : List (List Arrival)). AreFed feeding fs (feeds ++ [])) (sym (append-nil closed)) (subst (AreFed feeding closed) (sym (append-nil feeds)) are);
  run = subst (λ (fs : List (List Arrival)). AreRun workers arena fs (js ++ [])) (sym (append-nil feeds)) (subst (AreRun workers arena feeds) (sym (append-nil js)) run);
  at = subst (λ (fs : List (List Arrival)). IsServerAt arena fs (js ++ []) new) (sym (append-nil feeds))
      (subst (λ (ks : List (List Entry)). IsServerAt arena feeds ks new) (sym (append-nil js)) (subst (IsServerAt arena feeds js) (sym is) at));
  last_is = λ before same.
      subst (λ (cs : List (List Arrival)). IsLastOf feeding before cs (feeds ++ []) (js ++ [])) (sym (append-nil closed))
      (subst (λ (fs : List (List Arrival)). IsLastOf feeding before closed fs (js ++ [])) (sym (append-nil feeds)) (subst (IsLastOf feeding before closed feeds) (sym (append-nil js)) same));
  whole = append-nil (fed_lines feeding arena feeds js) ∙ sym (λ i. fed_lines feeding arena (append-nil feeds i) (append-nil js i));
}
closed_by feeding workers arena closed feeds js None old new (Some c) are run at never = absurd never
closed_by feeding workers arena closed feeds js (Some arrivals) old new None are run at never = absurd never
closed_by feeding workers arena closed feeds js (Some arrivals) old new (Some c) are run at runs =
    let fed = arranged c.order arrivals in
    let more = one_more workers arena feeds js fed old new c.journal run at runs.runs in
    let count = right_count arena 0 (opening arena) feeds js run.right in
    record {
      others = fed ∷ [];
      more = c.journal ∷ [];
      fed = fed-push feeding closed feeds arrivals c.order are runs.order;
      run = more.run;
      at = more.at;
      last_is = λ before same. last-push feeding closed feeds js arrivals c.order c.journal runs.order;
      whole = ap (λ ls. fed_lines feeding arena feeds js ++ with_packets c.order fed ls) more.lines_are ∙ sym (lines-push feeding arena feeds js arrivals c.order c.journal runs.order count);
    }

-- ---- an event

-- the last line, which the end of the recording closes, after so many frames
abbrev pub last_lines : Event → ℕ → List OutLine
last_lines Frame frames = []
last_lines (From a) frames = []
last_lines End frames = EndLine frames ∷ []

-- what an event comes to: the order and the journals of the frames that it closes, the server after them, and the lines
pub record Advanced (feeding : Feeding) (workers : ℕ) (arena : MapView) (f : Frames) (feeds : List (List Arrival)) (js : List (List Entry)) (e : Event) (new : GameView) (lines : List OutLine) : Type 0 where
  pub others : List (List Arrival)
  pub more : List (List Entry)
  pub fed : AreFed feeding (collect f e).closed (feeds ++ others)
  pub run : AreRun workers arena (feeds ++ others) (js ++ more)
  pub at : IsServerAt arena (feeds ++ others) (js ++ more) new.course.server
  pub opened : new.course.opened ≡ (collect f e).opened
  pub last_is : IsLastOf feeding new.last (collect f e).closed (feeds ++ others) (js ++ more)
  pub whole : fed_lines feeding arena feeds js ++ lines ≡ fed_lines feeding arena (feeds ++ others) (js ++ more) ++ last_lines e (length (feeds ++ others))

module _ (feeding : Feeding) (workers : ℕ) (arena : MapView) (f : Frames) (feeds : List (List Arrival)) (js : List (List Entry)) (old new : GameView) (closed : Option Closing) (are : AreFed feeding f.closed feeds) (run : AreRun workers arena feeds js)
    (at : IsServerAt arena feeds js old.course.server) (same : old.course.opened ≡ f.opened) (last_is : IsLastOf feeding old.last f.closed feeds js) where
  closes : ClosesFed feeding workers old.course.server new.course.server old.course.opened closed → Closed feeding workers arena f.closed feeds js f.opened new.course.server closed (closing_lines old.course.server f.opened closed)
  closes is =
      closed_by feeding workers arena f.closed feeds js f.opened old.course.server new.course.server closed are run at
      (subst (λ (o : Option (List Arrival)). ClosesFed feeding workers old.course.server new.course.server o closed) same is)

  lines-same : closing_lines old.course.server old.course.opened closed ≡ closing_lines old.course.server f.opened closed
  lines-same = ap (λ o. closing_lines old.course.server o closed) same

  pub advanced : (e : Event) → Advances feeding workers old new e closed → Advanced feeding workers arena f feeds js e new (event_lines old.course new.course e closed)
  advanced Frame advances =
      let goes = advances.goes in
      let c = closes goes.closes in
      record {
        others = c.others;
        more = c.more;
        fed = c.fed;
        run = c.run;
        at = c.at;
        opened = goes.opened_is;
        last_is = subst (λ (l : Last). IsLastOf feeding l (f.closed ++ closed_frames f.opened) (feeds ++ c.others) (js ++ c.more)) (sym advances.last_is) (c.last_is old.last last_is);
        whole = ap (λ ls. fed_lines feeding arena feeds js ++ ls) lines-same ∙ c.whole ∙ sym (append-nil (fed_lines feeding arena (feeds ++ c.others) (js ++ c.more)));
      }
  advanced (From a) advances =
      let goes = advances.goes in
      let keeps : new.last ≡ old.last = advances.last_is ∙ ap (λ (c : Option Closing). newest c old.last) goes.none_closed in
      record {
        others = [];
        more = [];
        fed = subst (AreFed feeding f.closed) (sym (append-nil feeds)) are;
        run = subst (λ (fs : List (List Arrival)). AreRun workers arena fs (js ++ [])) (sym (append-nil feeds)) (subst (AreRun workers arena feeds) (sym (append-nil js)) run);
        at = subst (λ (fs : List (List Arrival)). IsServerAt arena fs (js ++ []) new.course.server) (sym (append-nil feeds))
            (subst (λ (ks : List (List Entry)). IsServerAt arena feeds ks new.course.server) (sym (append-nil js)) (subst (λ (s : ServerView). IsServerAt arena feeds js s) (sym goes.server) at));
        opened = goes.opened_is ∙ ap (option_map (λ arrivals. arrivals ++ a ∷ [])) same;
        last_is = subst (λ (l : Last). IsLastOf feeding l f.closed (feeds ++ []) (js ++ [])) (sym keeps)
            (subst (λ (fs : List (List Arrival)). IsLastOf feeding old.last f.closed fs (js ++ [])) (sym (append-nil feeds)) (subst (IsLastOf feeding old.last f.closed feeds) (sym (append-nil js)) last_is));
        whole = λ i. fed_lines feeding arena (sym (append-nil feeds) i) (sym (append-nil js) i) ++ [];
      }
  advanced End advances =
      let goes = advances.goes in
      let c = closes goes.closes in
      let here = fed_lines feeding arena feeds js in
      record {
        others = c.others;
        more = c.more;
        fed = c.fed;
        run = c.run;
        at = c.at;
        opened = goes.opened_is;
        last_is = subst (λ (l : Last). IsLastOf feeding l (f.closed ++ closed_frames f.opened) (feeds ++ c.others) (js ++ c.more)) (sym advances.last_is) (c.last_is old.last last_is);
        whole = ap (λ ls. here ++ (ls ++ EndLine new.course.server.frames ∷ [])) lines-same
            ∙ sym (append_assoc here (closing_lines old.course.server f.opened closed) (EndLine new.course.server.frames ∷ []))
            ∙ ap (λ ls. ls ++ EndLine new.course.server.frames ∷ []) c.whole
            ∙ ap (λ n. fed_lines feeding arena (feeds ++ c.others) (js ++ c.more) ++ EndLine n ∷ []) c.at.frames;
      }

  -- the text of an event, after that of the frames before it
  pub text-advanced : (e : Event) (advances : Advances feeding workers old new e closed)
      → fed_text feeding arena feeds js ++ text_of (event_lines old.course new.course e closed)
      ≡ text_of (fed_lines feeding arena (feeds ++ (advanced e advances).others) (js ++ (advanced e advances).more) ++ last_lines e (length (feeds ++ (advanced e advances).others)))
  text-advanced e advances = sym (text_of-append (fed_lines feeding arena feeds js) (event_lines old.course new.course e closed)) ∙ ap text_of (advanced e advances).whole

-- ---- a write that fails in the text of an event

module _ (feeding : Feeding) (workers : ℕ) (bytes : List ℕ) (arena : MapView) (played : IsPlayed bytes arena) where
  module _ (before last : Last) (closed feeds : List (List Arrival)) (js : List (List Entry)) (are : AreFed feeding closed feeds) (so_far : IsLastOf feeding before closed feeds js) where
    abbrev IsCutWith : Last → List ℕ → Type 0
    IsCutWith l text = (texts_of feeding workers).cut bytes l text

    cut_frame : (opened : Option (List Arrival)) (old new : ServerView) (c : Option Closing) (count : ℕ) → last ≡ newest c before → AreRun workers arena feeds js
        → IsServerAt arena feeds js old → ClosesFed feeding workers old new opened c → GoesOnWith (closed ++ closed_frames opened) (frames_of bytes)
        → count < length (text_of (closing_lines old opened c)) → IsCutWith last (fed_text feeding arena feeds js ++ take count (text_of (closing_lines old opened c)))
    cut_frame None old new c count is run at closes on short = absurd (omega arith)
    cut_frame (Some arrivals) old new None count is run at never on short = absurd never
    cut_frame (Some arrivals) old new (Some c) count is run at runs on short =
        let fed = arranged c.order arrivals in
        let more = one_more workers arena feeds js fed old new c.journal run at runs.runs in
        let ran : HaveRun feeding workers bytes arena (closed ++ arrivals ∷ []) (feeds ++ fed ∷ []) (js ++ c.journal ∷ []) = record { played = played; on = on; fed = fed-push feeding closed feeds arrivals c.order are runs.order; run = more.run } in
        let P : Last → Type 0 = λ l. IsCutWith l (fed_text feeding arena feeds js ++ take count (text_of (closing_lines old (Some arrivals) (Some c)))) in
        subst P (sym is)
        (frame_cut_right feeding workers bytes arena closed feeds js arrivals c.order c.journal (closing_lines old (Some arrivals) (Some c)) count runs.order are (right_count arena 0 (opening arena) feeds js run.right) ran
        (ap (with_packets c.order fed) more.lines_are) short)

    cut_end : (opened : Option (List Arrival)) (old new : ServerView) (c : Option Closing) (count : ℕ) → last ≡ newest c before → AreRun workers arena feeds js
        → IsServerAt arena feeds js old → ClosesFed feeding workers old new opened c → fault bytes ≡ None → frames_of bytes ≡ closed ++ closed_frames opened → GoesOnWith (closed ++ closed_frames opened) (frames_of bytes)
        → count < length (text_of (closing_lines old opened c ++ EndLine new.frames ∷ []))
        → IsCutWith last (fed_text feeding arena feeds js ++ take count (text_of (closing_lines old opened c ++ EndLine new.frames ∷ [])))
    cut_end None old new None count is run at same accepted all on short =
        let frames : new.frames ≡ length feeds = ap (λ (t : ServerView). t.frames) same ∙ at.frames in
        let P : ℕ → Type 0 = λ n. count < length (text_of (EndLine n ∷ [])) in
        let Q : ℕ → Type 0 = λ n. IsCutWith last (fed_text feeding arena feeds js ++ take count (text_of (EndLine n ∷ []))) in
        let G : List (List Arrival) → Type 0 = λ fs. GoesOnWith fs (frames_of bytes) in
        let L : Last → Type 0 = λ l. IsLastOf feeding l closed feeds js in
        let ran : HaveRun feeding workers bytes arena closed feeds js = record { played = played; on = subst G (append-nil closed) on; fed = are; run = run } in
        subst Q (sym frames) (end_cut_right feeding workers bytes arena closed feeds js last count ran (subst L (sym is) so_far) (all ∙ append-nil closed) accepted (subst P frames short))
    cut_end None old new (Some c) count is run at never accepted all on short = absurd never
    cut_end (Some arrivals) old new None count is run at never accepted all on short = absurd never
    cut_end (Some arrivals) old new (Some c) count is run at runs accepted all on short =
        let fed = arranged c.order arrivals in
        let more = one_more workers arena feeds js fed old new c.journal run at runs.runs in
        let ran : HaveRun feeding workers bytes arena (closed ++ arrivals ∷ []) (feeds ++ fed ∷ []) (js ++ c.journal ∷ []) = record { played = played; on = on; fed = fed-push feeding closed feeds arrivals c.order are runs.order; run = more.run } in
        let P : Last → Type 0 = λ l. IsCutWith l (fed_text feeding arena feeds js ++ take count (text_of (closing_lines old (Some arrivals) (Some c) ++ EndLine new.frames ∷ []))) in
        subst P (sym is)
        (last_cut_right feeding workers bytes arena closed feeds js arrivals c.order c.journal (closing_lines old (Some arrivals) (Some c) ++ EndLine new.frames ∷ []) count runs.order are (right_count arena 0 (opening arena) feeds js run.right) ran
        all accepted (λ i. with_packets c.order fed (more.lines_are i) ++ EndLine (more.at.frames i) ∷ []) short)

  -- ---- what fits

  -- the text of the first frames does, with whatever right journals: they can be those of all frames
  room_for_front : (closed feeds : List (List Arrival)) (js : List (List Entry)) (room : ℕ) → HaveRun feeding workers bytes arena closed feeds js → (texts_of feeding workers).has_room bytes room
      → length (fed_text feeding arena feeds js) ≤ room
  room_for_front closed feeds js room r roomy =
      let s = state_played arena 0 (opening arena) feeds js in
      let rest = r.on.rest in
      let ks = journals_of arena (0 + length feeds) s rest in
      let all_run : AreRun workers arena (feeds ++ rest) (js ++ ks) = record {
        right = right-append arena 0 (opening arena) feeds rest js ks r.run.right (right_in_order arena (0 + length feeds) s rest);
        order = λ one. in_order-append arena 0 (opening arena) feeds rest js ks (r.run.order one) (order_in_order arena (0 + length feeds) s rest);
      } in
      let all_on : GoesOnWith (closed ++ rest) (frames_of bytes) = record { rest = []; is = r.on.is ∙ sym (append-nil (closed ++ rest)) } in
      let ran : HaveRun feeding workers bytes arena (closed ++ rest) (feeds ++ rest) (js ++ ks) = record { played = played; on = all_on; fed = fed-rest feeding closed feeds rest r.fed; run = all_run } in
      let whole = whole_fits feeding workers bytes arena (closed ++ rest) (feeds ++ rest) (js ++ ks) room ran r.on.is roomy in
      let parts = ap length (text_of-append (fed_lines feeding arena (feeds ++ rest) (js ++ ks)) (EndLine (length (feeds ++ rest)) ∷ [])) in
      let longer = fed_text-longer feeding arena feeds rest js ks (right_count arena 0 (opening arena) feeds js r.run.right) in
      omega (
        arith,
        whole,
        parts,
        length-append (fed_text feeding arena (feeds ++ rest) (js ++ ks)) (text_of (EndLine (length (feeds ++ rest)) ∷ [])),
        longer,
      )

-- ---- where the recording is

pub fault-at_end : (r : Reading) (es : List Event) (bytes rest : List ℕ) → Continues r es bytes rest → r.stage ≡ Ended → fault bytes ≡ None
fault-at_end r es bytes rest so ended =
    so.fault_is ∙ ap (λ t. refused_where t (last_part rest)) (after-over r (lines_in rest) (ap is_over ended)) ∙ ap (λ stage. refused_at stage r (last_part rest)) ended

pub frames-at_end : (r : Reading) (es : List Event) (bytes rest : List ℕ) → Continues r (es ++ End ∷ []) bytes rest → r.stage ≡ Ended
    → frames_of bytes ≡ (frames_of_events es).closed ++ closed_frames (frames_of_events es).opened
frames-at_end r es bytes rest so ended =
    frames_of-all r (es ++ End ∷ []) bytes rest so (events_of-over r (lines_in rest) (ap is_over ended)) ∙ ap (λ (f : Frames). f.closed) (collected-push es End)

-- before the end the recording isn't over
pub not_over : (e : Event) → is_end e ≡ false → is_over (stage_after e) ≡ false
not_over Frame h = refl
not_over (From a) h = refl
not_over End h = cc

pub few_after : (r : Reading) (f : Frames) (stage : Stage) → r.arrivals ≤ 512 → AgreesAt stage r f → (stage ≡ Playing) ⊎ (stage ≡ Ended) → IfSome f.opened (λ arrivals. length arrivals ≤ 512)
few_after r f stage fits agrees (inl playing) = few_open r f fits (let P : Stage → Type 0 = λ s. AgreesAt s r f in subst P playing agrees)
  where
    few_open : (r : Reading) (f : Frames) → r.arrivals ≤ 512 → OneOpen r f → IfSome f.opened (λ arrivals. length arrivals ≤ 512)
    few_open r f fits one =
        let P : Option (List Arrival) → Type 0 = λ o. IfSome o (λ arrivals. length arrivals ≤ 512) in
        let short : length one.arrivals ≤ 512 = omega (arith, one.count) in subst P (sym one.opened) short
few_after r f stage fits agrees (inr ended) =
    let P : Stage → Type 0 = λ s. AgreesAt s r f in
    let closed : AllClosed r f = subst P ended agrees in
    let Q : Option (List Arrival) → Type 0 = λ o. IfSome o (λ arrivals. length arrivals ≤ 512) in subst Q (sym closed.opened) tt

pub agrees_from_start : (r : Reading) (a b : Option (List ℕ)) (es : List Event) → Reads start r a b es → Agrees r (frames_of_events es)
agrees_from_start r a b es reads =
    let none : NoneYet start no_frames = record { closed = refl; opened = refl; frames = refl } in
    let here = agrees_lines start reads.lines no_frames none in
    let P : List Event → Type 0 = λ xs. Agrees (after start reads.lines) (frames_of_events xs) in
    let Q : Reading → Type 0 = λ u. Agrees u (frames_of_events es) in
    subst Q (sym reads.reached) (subst P reads.events here)

room : (closed : List (List Arrival)) (o : Option (List Arrival)) (n : ℕ) → length (closed ++ closed_frames o) + n ≤ 100000 → 1 ≤ n ⊎ (n ≡ 0) → IfSome o (λ _. length closed < 100000)
room closed None n fits some = tt
room closed (Some arrivals) n fits some = omega (arith, length-append closed (arrivals ∷ []))

room_open : (closed : List (List Arrival)) (o : Option (List Arrival)) → length closed + 1 ≤ 100000 → IfSome o (λ _. length closed < 100000)
room_open closed None fits = tt
room_open closed (Some arrivals) fits = omega arith

pub room_before : (r : Reading) (f : Frames) (e : Event) → r.frames ≤ 100000 → r.stage ≡ stage_after e → Agrees r (collect f e) → IfSome f.opened (λ _. length f.closed < 100000)
room_before r f Frame fits stage agrees =
    let P : Stage → Type 0 = λ s. AgreesAt s r (collect f Frame) in
    let one : OneOpen r (collect f Frame) = subst P stage agrees in
    let enough : length (f.closed ++ closed_frames f.opened) + 1 ≤ 100000 = omega (arith, one.frames) in room f.closed f.opened 1 enough (inl (omega arith))
room_before r f (From a) fits stage agrees =
    let P : Stage → Type 0 = λ s. AgreesAt s r (collect f (From a)) in
    let one : OneOpen r (collect f (From a)) = subst P stage agrees in
    let enough : length f.closed + 1 ≤ 100000 = omega (arith, one.frames) in room_open f.closed f.opened enough
room_before r f End fits stage agrees =
    let P : Stage → Type 0 = λ s. AgreesAt s r (collect f End) in
    let all : AllClosed r (collect f End) = subst P stage agrees in
    let enough : length (f.closed ++ closed_frames f.opened) + 0 ≤ 100000 = omega (arith, all.frames) in room f.closed f.opened 0 enough (inr refl)

pub stage_of : (e : Event) → (stage_after e ≡ Playing) ⊎ (stage_after e ≡ Ended)
stage_of Frame = inl refl
stage_of (From a) = inl refl
stage_of End = inr refl

-- the first event comes
pub begins : (feeding : Feeding) (workers : ℕ) (arena : MapView) (r : Reading) (a b : Option (List ℕ)) (t : Option (List ℕ)) (g : GameView) (e : Event) → Reads start r a b (e ∷ []) → r.stage ≡ stage_after e → r.frames ≤ 100000
    → r.arrivals ≤ 512 → r.map ≡ Some arena → IsMap arena → g ≡ new_game arena → Progress feeding workers arena r a b t t g e
begins feeding workers arena r a b t g e reads stage frames arrivals has is_map is = record {
  events = [];
  reads = reads;
  stage = stage;
  frames = frames;
  arrivals = arrivals;
  map = has;
  is_map = is_map;
  few = tt;
  feeds = [];
  fed = none_are_fed feeding;
  journals = [];
  run = none_are_run workers arena;
  at = record { map = ap (λ (h : GameView). h.course.server.map) is; state = ap (λ (h : GameView). h.course.server.state) is; frames = ap (λ (h : GameView). h.course.server.frames) is };
  opened = ap (λ (h : GameView). h.course.opened) is;
  last_is = subst (λ (l : Last). IsLastOf feeding l [] [] []) (ap (λ (h : GameView). h.last) (sym is)) (none_is_last feeding);
  written = subst (Appends t t) (sym (fed_text-none feeding arena)) (Appends-nil t);
}

pub some_and : (a : Option (List ℕ)) (P : List ℕ → Type 0) (X : Type 0) → IsSomeAnd a P → IfSome a (λ bytes. P bytes → X) → X
some_and None P X has each = absurd has
some_and (Some bytes) P X has each = each has

module _ (feeding : Feeding) (workers : ℕ) (arena : MapView) (r : Reading) (a b : Option (List ℕ)) (t0 t1 : Option (List ℕ)) (g : GameView) (e : Event) (p : Progress feeding workers arena r a b t0 t1 g e) where
  abbrev f : Frames
  f = frames_of_events p.events

  whole : is_map_whole r.stage ≡ true
  whole = ap is_map_whole p.stage ∙ whole_after e

  agrees : Agrees r (collect f e)
  agrees = let P : Frames → Type 0 = λ h. Agrees r h in subst P (collected-push p.events e) (agrees_from_start r a b (p.events ++ e ∷ []) p.reads)

  -- a frame that is open may be closed
  may_close : MayClose g.course
  may_close =
      let P : Option (List Arrival) → Type 0 = λ o. IfSome o (λ arrivals. length arrivals ≤ 512) in
      let Q : Option (List Arrival) → ℕ → Type 0 = λ o n. IfSome o (λ _. n < 100000) in
      let frames : g.course.server.frames ≡ length f.closed = p.at.frames ∙ length-fed feeding f.closed p.feeds p.fed in
      record {
        few = subst P (sym p.opened) p.few;
        frames = subst (Q g.course.opened) (sym frames) (subst (λ (o : Option (List Arrival)). Q o (length f.closed)) (sym p.opened) (room_before r f e p.frames p.stage agrees));
      }

  -- the event may come
  pub is_ready : IsReady g.course e
  is_ready = ready e
    where
      ready : (x : Event) → IsReady g.course x
      ready Frame = may_close
      ready (From a) = tt
      ready End = may_close

  -- the recording has this arena
  is_played : (bytes rest : List ℕ) → Continues r (p.events ++ e ∷ []) bytes rest → IsPlayed bytes arena
  is_played bytes rest so = record { has = map_of-whole r (p.events ++ e ∷ []) bytes rest arena so whole p.map; is_map = p.is_map }

  -- the frames before this event were run
  have_run : (bytes rest : List ℕ) → Continues r (p.events ++ e ∷ []) bytes rest → HaveRun feeding workers bytes arena f.closed p.feeds p.journals
  have_run bytes rest so = record { played = is_played bytes rest so; on = goes_on_events r p.events (e ∷ []) bytes rest so; fed = p.fed; run = p.run }

  -- memory was refused at this event
  pub memory_on : IfSome a (λ bytes. Writes t0 t1 ((texts_of feeding workers).some_frames bytes g.last))
  memory_on =
      continues r a b (p.events ++ e ∷ []) (λ bytes. Writes t0 t1 ((texts_of feeding workers).some_frames bytes g.last)) p.reads (λ bytes rest is so. record {
        text = fed_text feeding arena p.feeds p.journals;
        written = p.written;
        holds = some_right feeding workers bytes arena f.closed p.feeds p.journals g.last (have_run bytes rest so) p.last_is;
      })

  -- ---- with the game after the event

  module _ (new : GameView) (closed : Option Closing) (goes : Advances feeding workers g new e closed) where
    abbrev pub next : Advanced feeding workers arena f p.feeds p.journals e new (event_lines g.course new.course e closed)
    next = advanced feeding workers arena f p.feeds p.journals g new closed p.fed p.run p.at p.opened p.last_is e goes

    -- the frames that are closed then are the first of all
    closed_go_on : (bytes rest : List ℕ) → Continues r (p.events ++ e ∷ []) bytes rest → GoesOnWith (collect f e).closed (frames_of bytes)
    closed_go_on bytes rest so =
        let P : Frames → Type 0 = λ h. GoesOnWith h.closed (frames_of bytes) in
        subst P (collected-push p.events e) (goes_on_frames r (p.events ++ e ∷ []) bytes rest so)

    -- the text of what was played
    abbrev pub text_so_far : List ℕ
    text_so_far = fed_text feeding arena p.feeds p.journals

    cut_at : (bytes rest : List ℕ) (count : ℕ) → Continues r (p.events ++ e ∷ []) bytes rest → count < length (text_of (event_lines g.course new.course e closed))
        → (texts_of feeding workers).cut bytes new.last (text_so_far ++ take count (text_of (event_lines g.course new.course e closed)))
    cut_at bytes rest count so = by e refl goes
      where
        played : IsPlayed bytes arena
        played = is_played bytes rest so

        by : (x : Event) → e ≡ x → Advances feeding workers g new x closed → count < length (text_of (event_lines g.course new.course x closed)) → (texts_of feeding workers).cut bytes new.last (text_so_far ++ take count (text_of (event_lines g.course new.course x closed)))
        by Frame is goes_on short =
            let on = subst (λ (x : Event). GoesOnWith (collect f x).closed (frames_of bytes)) is (closed_go_on bytes rest so) in
            let run = subst (λ (o : Option (List Arrival)). ClosesFed feeding workers g.course.server new.course.server o closed) p.opened goes_on.goes.closes in
            let P : Option (List Arrival) → Type 0 = λ o. count < length (text_of (closing_lines g.course.server o closed)) in
            let Q : Option (List Arrival) → Type 0 = λ o. (texts_of feeding workers).cut bytes new.last (text_so_far ++ take count (text_of (closing_lines g.course.server o closed))) in
            subst Q (sym p.opened) (cut_frame feeding workers bytes arena played g.last new.last f.closed p.feeds p.journals p.fed p.last_is f.opened g.course.server new.course.server closed count goes_on.last_is p.run p.at run on (subst P p.opened short))
        by (From x) is goes_on short = absurd (omega arith)
        by End is goes_on short =
            let ended : r.stage ≡ Ended = p.stage ∙ ap stage_after is in
            let so_end = subst (λ (x : Event). Continues r (p.events ++ x ∷ []) bytes rest) is so in
            let on = subst (λ (x : Event). GoesOnWith (collect f x).closed (frames_of bytes)) is (closed_go_on bytes rest so) in
            let run = subst (λ (o : Option (List Arrival)). ClosesFed feeding workers g.course.server new.course.server o closed) p.opened goes_on.goes.closes in
            let P : Option (List Arrival) → Type 0 = λ o. count < length (text_of (closing_lines g.course.server o closed ++ EndLine new.course.server.frames ∷ [])) in
            let Q : Option (List Arrival) → Type 0 = λ o. (texts_of feeding workers).cut bytes new.last (text_so_far ++ take count (text_of (closing_lines g.course.server o closed ++ EndLine new.course.server.frames ∷ []))) in
            subst Q (sym p.opened)
            (cut_end feeding workers bytes arena played g.last new.last f.closed p.feeds p.journals p.fed p.last_is f.opened g.course.server new.course.server closed count goes_on.last_is p.run p.at run (fault-at_end r (p.events ++ End ∷ []) bytes rest so_end ended)
            (frames-at_end r p.events bytes rest so_end ended) on (subst P p.opened short))

    -- a write failed at this event
    pub cut_on : (t2 : Option (List ℕ)) → AppendsPart t1 t2 (text_of (event_lines g.course new.course e closed)) → IfSome a (λ bytes. Writes t0 t2 ((texts_of feeding workers).cut bytes new.last))
    cut_on t2 part =
        let piece = text_of (event_lines g.course new.course e closed) in
        continues r a b (p.events ++ e ∷ []) (λ bytes. Writes t0 t2 ((texts_of feeding workers).cut bytes new.last)) p.reads (λ bytes rest is so. record {
          text = text_so_far ++ take part.count piece;
          written = Appends-trans t0 t1 t2 text_so_far (take part.count piece) p.written part.appended;
          holds = cut_at bytes rest part.count so part.part;
        })

    abbrev all_feeds : List (List Arrival)
    all_feeds = p.feeds ++ next.others

    abbrev all_journals : List (List Entry)
    all_journals = p.journals ++ next.more

    -- the frames were run that are closed then
    have_run_then : (bytes rest : List ℕ) → Continues r (p.events ++ e ∷ []) bytes rest → HaveRun feeding workers bytes arena (collect f e).closed all_feeds all_journals
    have_run_then bytes rest so = record { played = is_played bytes rest so; on = closed_go_on bytes rest so; fed = next.fed; run = next.run }

    written_then : (t2 : Option (List ℕ)) → Appends t1 t2 (text_of (event_lines g.course new.course e closed))
        → Appends t0 t2 (text_of (fed_lines feeding arena all_feeds all_journals ++ last_lines e (length all_feeds)))
    written_then t2 written =
        subst (Appends t0 t2) (text-advanced feeding workers arena f p.feeds p.journals g new closed p.fed p.run p.at p.opened p.last_is e goes)
        (Appends-trans t0 t1 t2 text_so_far (text_of (event_lines g.course new.course e closed)) p.written written)

    -- it was the end, and all was written
    pub done_on : (t2 : Option (List ℕ)) → e ≡ End → Appends t1 t2 (text_of (event_lines g.course new.course e closed)) → IfSome a (λ bytes. Writes t0 t2 ((texts_of feeding workers).whole bytes new.last))
    done_on t2 is written =
        let ended : r.stage ≡ Ended = p.stage ∙ ap stage_after is in
        continues r a b (p.events ++ e ∷ []) (λ bytes. Writes t0 t2 ((texts_of feeding workers).whole bytes new.last)) p.reads (λ bytes rest same so.
        let so_end = subst (λ (x : Event). Continues r (p.events ++ x ∷ []) bytes rest) is so in
        let all : frames_of bytes ≡ (collect f e).closed = frames-at_end r p.events bytes rest so_end ended ∙ sym (ap (λ (x : Event). (collect f x).closed) is) in
        let whole_is : text_of (fed_lines feeding arena all_feeds all_journals ++ last_lines e (length all_feeds)) ≡ fed_whole_text feeding arena all_feeds all_journals =
        ap (λ (x : Event). text_of (fed_lines feeding arena all_feeds all_journals ++ last_lines x (length all_feeds))) is in
        record {
          text = fed_whole_text feeding arena all_feeds all_journals;
          written = subst (Appends t0 t2) whole_is (written_then t2 written);
          holds = whole_right feeding workers bytes arena (collect f e).closed all_feeds all_journals new.last (have_run_then bytes rest so) next.last_is all (fault-at_end r (p.events ++ End ∷ []) bytes rest so_end ended);
        })

    -- what was written then, where it wasn't the end
    going_text : is_end e ≡ false → text_of (fed_lines feeding arena all_feeds all_journals ++ last_lines e (length all_feeds)) ≡ fed_text feeding arena all_feeds all_journals
    going_text going =
        ap (λ ls. text_of (fed_lines feeding arena all_feeds all_journals ++ ls)) (no_last_line e going)
        ∙ ap text_of (append-nil (fed_lines feeding arena all_feeds all_journals))
      where
        no_last_line : (x : Event) → is_end x ≡ false → last_lines x (length all_feeds) ≡ []
        no_last_line Frame h = refl
        no_last_line (From y) h = refl
        no_last_line End h = cc

    pushed : (frames_of_events (p.events ++ e ∷ [])) ≡ collect f e
    pushed = collected-push p.events e

    -- it wasn't the end, and was played
    pub played_on : (t2 : Option (List ℕ)) → is_end e ≡ false → Appends t1 t2 (text_of (event_lines g.course new.course e closed))
        → Played feeding workers arena r a b t0 t2 (p.events ++ e ∷ []) all_feeds all_journals new.last
    played_on t2 going written = record {
      reads = p.reads;
      whole = whole;
      map = p.map;
      is_map = p.is_map;
      fed = let P : Frames → Type 0 = λ h. AreFed feeding h.closed all_feeds in subst P (sym pushed) next.fed;
      run = next.run;
      last_is = let P : Frames → Type 0 = λ h. IsLastOf feeding new.last h.closed all_feeds all_journals in subst P (sym pushed) next.last_is;
      written = subst (Appends t0 t2) (going_text going) (written_then t2 written);
    }

    -- a sink with room for every right output has room for the text of this event
    pub fits_on : (room0 room1 : ℕ) → IsSomeAnd a (λ bytes. (texts_of feeding workers).has_room bytes room0) → room0 ≤ room1 + length text_so_far → length (text_of (event_lines g.course new.course e closed)) ≤ room1
    fits_on room0 room1 roomy left =
        let X = length (text_of (event_lines g.course new.course e closed)) ≤ room1 in
        let joined = ap length (text-advanced feeding workers arena f p.feeds p.journals g new closed p.fed p.run p.at p.opened p.last_is e goes) in
        let both = length-append text_so_far (text_of (event_lines g.course new.course e closed)) in
        let each = continues r a b (p.events ++ e ∷ []) (λ bytes. (texts_of feeding workers).has_room bytes room0 → X) p.reads (λ bytes rest is so roomy_one.
        let fits : length (text_of (fed_lines feeding arena all_feeds all_journals ++ last_lines e (length all_feeds))) ≤ room0 = last_fits bytes rest room0 so roomy_one in
        omega (arith, fits, joined, both, left)) in
        some_and a (λ bytes. (texts_of feeding workers).has_room bytes room0) X roomy each
      where
        last_fits : (bytes rest : List ℕ) (room : ℕ) → Continues r (p.events ++ e ∷ []) bytes rest → (texts_of feeding workers).has_room bytes room
            → length (text_of (fed_lines feeding arena all_feeds all_journals ++ last_lines e (length all_feeds))) ≤ room
        last_fits bytes rest room so roomy = by e refl
          where
            front : length (fed_text feeding arena all_feeds all_journals) ≤ room
            front = room_for_front feeding workers bytes arena (is_played bytes rest so) (collect f e).closed all_feeds all_journals room (have_run_then bytes rest so) roomy

            by : (x : Event) → e ≡ x → length (text_of (fed_lines feeding arena all_feeds all_journals ++ last_lines x (length all_feeds))) ≤ room
            by Frame is = omega (arith, front, ap (λ ls. length (text_of ls)) (append-nil (fed_lines feeding arena all_feeds all_journals)))
            by (From y) is = omega (arith, front, ap (λ ls. length (text_of ls)) (append-nil (fed_lines feeding arena all_feeds all_journals)))
            by End is =
                let so_end = subst (λ (x : Event). Continues r (p.events ++ x ∷ []) bytes rest) is so in
                let all : frames_of bytes ≡ (collect f e).closed = frames-at_end r p.events bytes rest so_end (p.stage ∙ ap stage_after is) ∙ sym (ap (λ (x : Event). (collect f x).closed) is) in
                whole_fits feeding workers bytes arena (collect f e).closed all_feeds all_journals room (have_run_then bytes rest so) all roomy

    -- how far the recording was played then, with the text of one event more
    pub record Next (r' : Reading) (b' t2 : Option (List ℕ)) (e' : Event) : Type 0 where
      pub progress : Progress feeding workers arena r' a b' t0 t2 new e'
      pub text : fed_text feeding arena progress.feeds progress.journals ≡ text_so_far ++ text_of (event_lines g.course new.course e closed)

    pub goes_on : (r' : Reading) (b' t2 : Option (List ℕ)) (e' : Event) → is_end e ≡ false → Appends t1 t2 (text_of (event_lines g.course new.course e closed)) → Reads r r' b b' (e' ∷ [])
        → r'.stage ≡ stage_after e' → r'.frames ≤ 100000 → r'.arrivals ≤ 512 → Next r' b' t2 e'
    goes_on r' b' t2 e' going written reads stage frames arrivals =
        let played = played_on t2 going written in
        let F : Frames → Type 0 = λ h. IfSome h.opened (λ arrivals. length arrivals ≤ 512) in
        record {
          progress = record {
            events = p.events ++ e ∷ [];
            reads = Reads-trans start r r' a b b' (p.events ++ e ∷ []) (e' ∷ []) p.reads (ap is_over p.stage ∙ not_over e going) reads;
            stage = stage;
            frames = frames;
            arrivals = arrivals;
            map = ap (λ (u : Reading). u.map) reads.reached ∙ after-kept r reads.lines whole ∙ p.map;
            is_map = p.is_map;
            few = subst F (sym pushed) (few_after r (collect f e) r.stage p.arrivals agrees (stage_here (stage_of e)));
            feeds = all_feeds;
            fed = played.fed;
            journals = all_journals;
            run = played.run;
            at = next.at;
            opened = next.opened ∙ ap (λ (h : Frames). h.opened) (sym pushed);
            last_is = played.last_is;
            written = played.written;
          };
          text = sym (text-advanced feeding workers arena f p.feeds p.journals g new closed p.fed p.run p.at p.opened p.last_is e goes ∙ going_text going);
        }
      where
        stage_here : (stage_after e ≡ Playing) ⊎ (stage_after e ≡ Ended) → (r.stage ≡ Playing) ⊎ (r.stage ≡ Ended)
        stage_here (inl is) = inl (p.stage ∙ is)
        stage_here (inr is) = inr (p.stage ∙ is)

  -- the recording was taken from the source up to its end
  pub whole_on : {S : Type 0} (old new : S) (last : ℕ) (same_end at_end : Type 0) (pending : List ℕ) (l : Option (List ℕ)) → e ≡ End → b ≡ ahead pending l
      → (HasNotReadAhead old new last [] pending × same_end) ⊎ (TakesCutEnd a b × at_end) → ReadsToEnd old new last same_end at_end a l
  whole_on old new last same_end at_end pending l is_last is needed =
      let P : Option (List ℕ) → Type 0 = λ o. Consumes a o p.reads.text in
      let Q : Option (List ℕ) → Type 0 = λ o. IsTextOf p.reads.lines p.reads.text o in
      let R : Option (List ℕ) → Type 0 = λ o. (HasNotReadAhead old new last [] pending × same_end) ⊎ (TakesCutEnd a o × at_end) in
      record {
        lines = p.reads.lines;
        text = p.reads.text;
        buffered = pending;
        each = p.reads.each;
        spelled = subst Q is p.reads.spelled;
        consumed = subst P is p.reads.consumed;
        ended = ap (λ (t : Reading). t.stage) (sym p.reads.reached) ∙ p.stage ∙ ap stage_after is_last;
        going = p.reads.going;
        needed = subst R is needed;
      }
