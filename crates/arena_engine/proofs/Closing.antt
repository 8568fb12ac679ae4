-- A frame that an event closed: what it gave out prints its lines.
use Rattle.std.proofs.Common.{◌≡◌, ℕ, Bool, List, [], ◌∷◌, ◌++◌, Option, Some, None, option_map, refl, sym, ap, ◌∙◌, subst, append-nil}
use Rattle.entity_recs.specs.declared.effect.Entry.{Entry}
use Rattle.packet_read.specs.declared.arrival.Arrival.{Arrival}
use Rattle.plain_server.specs.Frames.{received_in}
use Rattle.frame_phases.specs.declared.frame_out.FrameOut.{FrameOut}
use Rattle.frame_phases.specs.Servers.{ServerView}
use Rattle.demo_lines.specs.declared.event.EventKind.{EventKind}
use Rattle.demo_lines.specs.declared.event.EventKind.TheVariants as kinds
use Rattle.demo_lines.specs.Kinds.{event_of_kind}
use Rattle.out_text.specs.OutLines.{OutLine, EndLine}
use Rattle.out_text.specs.FrameLines.{given_lines, lines_with}
use Rattle.out_text.proofs.Players.{given-is}
use Rattle.frame_phases.specs.FramesRun.{IsGiven, shown_by}
use Rattle.playback.specs.Playbacks.{Course, PlaybackView, IsGivenIf, ArePacketsIf, Closes, GoesOn}
use Rattle.arena_engine.specs.declared.feeding.Feeding.{Feeding}
use Rattle.arena_engine.specs.Feedings.{Last, arranged, with_packets}
use Rattle.arena_engine.specs.Games.{GameView, Plays, closing_with, ClosesFed, PutsOpenInOrder, PutsInOrderFor, closed_lines, closing_lines, due_lines, is_end, newest, newest_journal, newest_order}

-- what a frame gave out are the parts of its lines
lines-are : (t : ServerView) (arrivals : List Arrival) (journal : List Entry) (out : FrameOut) → IsGiven t arrivals journal out
    → given_lines out.frame out.received.lists journal out.slots out.replies ≡ lines_with t.map t.frames (received_in t.map t.frames t.state arrivals) journal
lines-are t arrivals journal out given =
    (λ i. given_lines (given.frame_is i) (given.lists_are i) journal (given.slots_are i) (given.replies_are i))
    ∙ given-is t.frames (received_in t.map t.frames t.state arrivals).lists journal (shown_by t arrivals journal)

-- the frame that was open, if one was, was put in order and run, and what is printed are its lines
record ClosesInOrder (feeding : Feeding) (workers : ℕ) (server server' : ServerView) (opened : Option (List Arrival)) (packets : List Arrival) (order : Option (List ℕ)) (journal : Option (List Entry)) (out : FrameOut) : Type 0 where
  closes : ClosesFed feeding workers server server' opened (closing_with order journal)
  lines : closed_lines order journal packets out ≡ closing_lines server opened (closing_with order journal)

closed_in_order : (feeding : Feeding) (workers : ℕ) (opened : Option (List Arrival)) (old new : Course) (packets : List Arrival) (order : Option (List ℕ)) (server' : ServerView) (journal : Option (List Entry)) (out : FrameOut)
    → PutsOpenInOrder feeding opened old new order → old.opened ≡ opened → Closes workers new.server server' new.opened journal → IsGivenIf new.server new.opened journal out → ArePacketsIf new.opened journal packets
    → ClosesInOrder feeding workers old.server server' opened packets order journal out
closed_in_order feeding workers None old new packets order server' journal out same opened closes given kept =
    let P : Course → Type 0 = λ x. Closes workers x.server server' x.opened journal in
    let Q : Option (List Arrival) → Type 0 = λ o. Closes workers old.server server' o journal in
    go journal (subst Q opened (subst P same closes))
  where
    go : (j : Option (List Entry)) → Closes workers old.server server' None j → ClosesInOrder feeding workers old.server server' None packets order j out
    go None is = record { closes = is; lines = refl }
    go (Some j) never = absurd never
closed_in_order feeding workers (Some arrivals) old new packets order server' journal out puts opened closes given kept =
    let Q : Course → Type 0 = λ x. Closes workers x.server server' x.opened journal → IsGivenIf x.server x.opened journal out → ArePacketsIf x.opened journal packets
    → ClosesInOrder feeding workers old.server server' (Some arrivals) packets order journal out in
    subst Q (sym puts.course) (go journal) closes given kept
  where
    go : (j : Option (List Entry)) → Closes workers old.server server' (Some (arranged order arrivals)) j → IsGivenIf old.server (Some (arranged order arrivals)) j out → ArePacketsIf (Some (arranged order arrivals)) j packets
        → ClosesInOrder feeding workers old.server server' (Some arrivals) packets order j out
    go None never given kept = absurd never
    go (Some j) runs given kept = record {
      closes = record { order = puts.order_is; runs = runs };
      lines = ap (λ (ps : List Arrival). closed_lines order (Some j) ps out) kept ∙ ap (with_packets order (arranged order arrivals)) (lines-are old.server (arranged order arrivals) j out given);
    }

-- the last frame then, from its parts
last-is : (order : Option (List ℕ)) (journal : Option (List Entry)) (before last : Last) → last.order ≡ newest_order journal order before.order → last.journal ≡ newest_journal journal before.journal
    → last ≡ newest (closing_with order journal) before
last-is order None before last order_is journal_is = λ i. record { order = order_is i; journal = journal_is i }
last-is order (Some j) before last order_is journal_is = λ i. record { order = order_is i; journal = journal_is i }

-- the game went on, and P of the lines that were printed
pub plays : (feeding : Feeding) (workers : ℕ) (old : GameView) (course : Course) (new : PlaybackView) (last : Last) (kind : EventKind) (a : Arrival) (order : Option (List ℕ)) (journal : Option (List Entry)) (ends : Bool) (P : List OutLine → Type 0)
    → PutsInOrderFor feeding kind old.course course order → GoesOn workers course new.course (event_of_kind kind a) journal → IsGivenIf course.server course.opened journal new.out → ArePacketsIf course.opened journal new.closed
    → last.order ≡ newest_order journal order old.last.order → last.journal ≡ newest_journal journal old.last.journal → ends ≡ is_end (event_of_kind kind a) → P (due_lines ends order journal new)
    → Plays feeding workers old (record { course = new.course; last = last }) (event_of_kind kind a) P
plays feeding workers old course new last kinds.Frame a order journal ends P puts goes given kept order_is journal_is ends_is holds =
    let c = closed_in_order feeding workers old.course.opened old.course course new.closed order new.course.server journal new.out puts refl goes.closes given kept in
    let same : due_lines ends order journal new ≡ closing_lines old.course.server old.course.opened (closing_with order journal) =
    ap (λ (b : Bool). due_lines b order journal new) ends_is ∙ append-nil (closed_lines order journal new.closed new.out) ∙ c.lines in
    record {
      closed = closing_with order journal;
      advances = record { goes = record { closes = c.closes; opened_is = goes.opened_is }; last_is = last-is order journal old.last last order_is journal_is };
      lines = subst P same holds;
    }
plays feeding workers old course new last kinds.From a order journal ends P puts goes given kept order_is journal_is ends_is holds =
    let none = goes.none_closed in
    let same : due_lines ends order journal new ≡ [] = ap (λ (b : Bool). due_lines b order journal new) ends_is ∙ ap (λ (j : Option (List Entry)). closed_lines order j new.closed new.out ++ []) none in
    record {
      closed = closing_with order journal;
      advances = record {
        goes = record {
          none_closed = ap (closing_with order) none;
          server = goes.server ∙ ap (λ (x : Course). x.server) puts;
          opened_is = goes.opened_is ∙ ap (λ (x : Course). option_map (λ (arrivals : List Arrival). arrivals ++ a ∷ []) x.opened) puts;
        };
        last_is = last-is order journal old.last last order_is journal_is;
      };
      lines = subst P same holds;
    }
plays feeding workers old course new last kinds.End a order journal ends P puts goes given kept order_is journal_is ends_is holds =
    let c = closed_in_order feeding workers old.course.opened old.course course new.closed order new.course.server journal new.out puts refl goes.closes given kept in
    let same : due_lines ends order journal new ≡ closing_lines old.course.server old.course.opened (closing_with order journal) ++ EndLine new.course.server.frames ∷ [] =
    ap (λ (b : Bool). due_lines b order journal new) ends_is ∙ ap (λ (ls : List OutLine). ls ++ EndLine new.course.server.frames ∷ []) c.lines in
    record {
      closed = closing_with order journal;
      advances = record { goes = record { closes = c.closes; opened_is = goes.opened_is }; last_is = last-is order journal old.last last order_is journal_is };
      lines = subst P same holds;
    }
