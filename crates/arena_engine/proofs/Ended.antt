-- How the playing of a recording ends, and how it goes on, seen from any start.
use Rattle.std.proofs.Common.{◌≡◌, ℕ, ◌≤◌, true, false, List, [], length, Option, Some, None, Result, Ok, Err, refl, sym, ap, ◌∙◌, subst, arith}
use Rattle.edge_io.specs.declared.source.Source as sources
use Rattle.edge_io.specs.declared.sink.Sink as sinks
use Rattle.edge_io.specs.Counts.{HasRisen}
use Rattle.edge_io.specs.Lines.{ahead}
use Rattle.arena_map.specs.Maps.{MapView, IsMap}
use Rattle.demo_lines.specs.declared.event.Event.{Event}
use Rattle.demo_lines.specs.declared.event.Event.TheVariants.{Frame, From, End}
use Rattle.demo_lines.specs.declared.demo_stop.DemoStop.{DemoStop}
use Rattle.demo_lines.specs.declared.demo_stop.DemoStop.TheVariants as demo_stop
use Rattle.demo_lines.specs.Reads.{DemoReaderView, fresh_reader, map_taken, IsOpen}
use Rattle.demo_lines.specs.Outcomes.{GivesEvent, IsStoppedBy}
use Rattle.out_text.specs.OutLines.{OutLine, text_of}
use Rattle.out_text.specs.Printers.{Prints, FailsIn}
use Rattle.arena_engine.specs.declared.stop.Stop.{Stop}
use Rattle.arena_engine.specs.declared.stop.Stop.TheVariants.{Refused, ReadFault, WriteFault, NoMemory}
use Rattle.arena_engine.specs.StopOf.{stop_of}
use Rattle.arena_engine.specs.Stops.{OnWriteFault, OnMemory, IsGameStop}
use Rattle.packet_read.specs.declared.arrival.Arrival.{Arrival}
use Rattle.frame_phases.specs.Servers.{ServerView}
use Rattle.playback.specs.Playbacks.{Course, IsReady}
use Rattle.arena_engine.specs.Games.{GameView, Plays, Closing, ClosesFed, GoesOnFed, newest, new_game, is_end}
use Rattle.arena_engine.specs.declared.feeding.Feeding.{Feeding}
use Rattle.arena_engine.specs.declared.feeding.Feeding.TheVariants.{Recorded, Threaded}
use Rattle.arena_engine.specs.Feedings.{Last, no_last, MayHaveOrder}
use Rattle.arena_engine.specs.Texts.{Texts, texts_of}
use Rattle.arena_engine.specs.PlayEnds.{PlaysTo}
use Rattle.arena_engine.specs.Progress.{IsNext, MayGoOn}
use Rattle.arena_engine.proofs.FedTexts.{HoldAtFirst}
use Rattle.arena_engine.proofs.Exits.{memory_at_first}
use Rattle.arena_engine.proofs.Running as running

-- ---- before the first event

module _ {S K : Type 0} (s : sources.Ghosts S) (k : sinks.Ghosts K) (texts : Texts) (hold : HoldAtFirst texts) (source source' : S) (sink : K) (last : Last) (none : last ≡ no_last) where
  -- memory was refused
  pub no_memory_at_first : s.faults source' ≡ s.faults source → PlaysTo s k texts source source' sink sink last (Err NoMemory)
  no_memory_at_first same = record { output = memory_at_first texts hold (k.taken sink) last none (s.left source); reads = same; writes = refl }

  -- the reader stopped
  pub stopped_at_first : (old new : DemoReaderView) (d : DemoStop) → old ≡ fresh_reader → IsStoppedBy s old new source source' d → PlaysTo s k texts source source' sink sink last (Err (stop_of d))
  stopped_at_first old new (demo_stop.Refused line fault rule) fresh stops = record {
    output = running.first_refused texts hold old (demo_stop.Refused line fault rule) (s.left source) (k.taken sink) last none fresh stops.refused.refused;
    read = running.first_refusal s.last s.ended s.never_fails source source' old new.pending (demo_stop.Refused line fault rule) (s.left source) (s.left source') fresh stops.refused.taken;
    reads = stops.refused.uncounted;
    writes = refl;
  }
  stopped_at_first old new demo_stop.ReadFault fresh stops = record {
    output = running.first_fault texts hold old demo_stop.ReadFault (s.left source) (k.taken sink) last none fresh (s.left source') stops.read_fault.read_fault;
    front = memory_at_first texts hold (k.taken sink) last none (s.left source);
    same_end = stops.read_fault.no_end;
    fault = subst (λ (x : DemoReaderView). IsOpen x → HasRisen (s.faults source) (s.faults source')) fresh stops.read_fault.fault running.fresh_is_open;
    later = stops.later;
    fails = λ sure. subst (λ (x : DemoReaderView). IsOpen x → s.never_fails source → ⊥) fresh stops.read_fault.sure running.fresh_is_open sure;
    writes = refl;
  }
  stopped_at_first old new demo_stop.NoMemory fresh stops = record {
    output = memory_at_first texts hold (k.taken sink) last none (s.left source);
    reads = stops.memory.uncounted;
    writes = refl;
  }

-- the event that the reader gave first is the next one, once the map was given out
pub first_is_next : {S K : Type 0} (s : sources.Ghosts S) (k : sinks.Ghosts K) (feeding : Feeding) (workers : ℕ) (source source' : S) (sink : K) (old new taken : DemoReaderView) (arena : MapView) (g : GameView) (e : Event) → old ≡ fresh_reader
    → taken ≡ map_taken new → GivesEvent s old new source source' e → new.reading.map ≡ Some arena → IsMap arena → g ≡ new_game arena → IsNext s k feeding workers source source' sink sink taken g e
first_is_next s k feeding workers source source' sink old new taken arena g e fresh is gives has is_map begun =
    let b = ahead new.pending (s.left source') in
    let progress = running.first_event feeding workers old new.reading (s.left source) b (k.taken sink) e arena g fresh gives.event gives.stage gives.holds has is_map begun in
    let unread = running.needed_first s.last s.ended s.never_fails source source' old new (s.left source) b e fresh gives.needed gives.keeps in
    let both = running.runs_first s.last s.ended s.never_fails feeding workers new taken arena (s.left source) (s.left source') (k.taken sink) g e (s.faults source) (s.faults source') (k.faults sink) (k.room sink) source source' is progress gives.ok gives.uncounted unread in
    record { runs = both.0; needed = both.1 }

-- what is the same ended so too
pub ends_same : {S K : Type 0} (s : sources.Ghosts S) (k : sinks.Ghosts K) (texts : Texts) (source source' : S) (sink sink' : K) (last last' : Last) (ended ended' : Result Unit Stop) → last' ≡ last → ended' ≡ ended
    → PlaysTo s k texts source source' sink sink' last ended → PlaysTo s k texts source source' sink sink' last' ended'
ends_same s k texts source source' sink sink' last last' ended ended' same_last same_end plays =
    let P : Result Unit Stop → Type 0 = λ r. PlaysTo s k texts source source' sink sink' last' r in
    let Q : Last → Type 0 = λ l. PlaysTo s k texts source source' sink sink' l ended in
    subst P (sym same_end) (subst Q (sym same_last) plays)

-- ---- at an event

module _ {S K : Type 0} (s : sources.Ghosts S) (k : sinks.Ghosts K) (feeding : Feeding) (workers : ℕ) (source0 source : S) (sink0 sink : K) (demo : DemoReaderView) (g : GameView) (e : Event) (at : IsNext s k feeding workers source0 source sink0 sink demo g e) where
  abbrev before : Option (List ℕ)
  before = s.left source0

  abbrev left : Option (List ℕ)
  left = ahead demo.pending (s.left source)

  -- the game stopped
  pub game_stopped : (sink' : K) (g2 : GameView) (stop : Stop) → IsGameStop stop
      → OnWriteFault stop (Plays feeding workers g g2 e (λ lines. FailsIn k.taken k.faults sink sink' (text_of lines)))
      → OnWriteFault stop (Plays feeding workers g g2 e (λ lines. length (text_of lines) ≤ k.room sink → ⊥))
      → OnMemory stop (sink' ≡ sink) → OnMemory stop (g2.last ≡ g.last) → k.faults sink ≤ k.faults sink'
      → PlaysTo s k (texts_of feeding workers) source0 source sink0 sink' g2.last (Err stop)
  game_stopped sink' g2 (Refused why) never failed short same kept later = absurd never
  game_stopped sink' g2 ReadFault never failed short same kept later = absurd never
  game_stopped sink' g2 WriteFault stops failed short same kept later = record {
    output = running.write_failed feeding workers demo before left (k.taken sink0) (k.taken sink) g e (s.faults source0) (s.faults source) (k.faults sink0) (k.faults sink) (k.room sink0) (k.room sink) at.runs k.taken k.faults sink sink' WriteFault g2 g2.last refl refl failed;
    fault = running.write_counted feeding workers demo before left (k.taken sink0) (k.taken sink) g e (s.faults source0) (s.faults source) (k.faults sink0) (k.faults sink) (k.room sink0) (k.room sink) at.runs k.taken k.faults sink sink' WriteFault g2 refl failed;
    later = subst (λ (n : ℕ). n ≤ k.faults sink') at.runs.write_same later;
    no_room = running.not_cut feeding workers demo before left (k.taken sink0) (k.taken sink) g e (s.faults source0) (s.faults source) (k.faults sink0) (k.faults sink) (k.room sink0) (k.room sink) at.runs WriteFault g2 short;
    reads = at.runs.read_same;
  }
  game_stopped sink' g2 NoMemory stops failed short same kept later = record {
    output = running.memory_failed feeding workers demo before left (k.taken sink0) (k.taken sink) g e (s.faults source0) (s.faults source) (k.faults sink0) (k.faults sink) (k.room sink0) (k.room sink) at.runs NoMemory g2 (k.taken sink') g2.last refl kept (ap k.taken same);
    reads = at.runs.read_same;
    writes = ap k.faults same ∙ at.runs.write_same;
  }

  -- the event was played, and its lines were written
  module _ (sink' : K) (g2 : GameView) (plays : Plays feeding workers g g2 e (λ lines. Prints k.taken k.faults k.room sink sink' [] [] (text_of lines))) where
    -- it was the end
    pub all_played : is_end e ≡ true → PlaysTo s k (texts_of feeding workers) source0 source sink0 sink' g2.last (Ok tt)
    all_played is_last = record {
      output = running.all_done feeding workers demo before left (k.taken sink0) (k.taken sink) g e (s.faults source0) (s.faults source) (k.faults sink0) (k.faults sink) (k.room sink0) (k.room sink) at.runs g2 (k.taken sink') plays.closed plays.advances
          (running.appends_all k.taken k.faults k.room sink sink' _ plays.lines) g2.last refl is_last;
      read = running.all_read feeding workers demo before left (k.taken sink0) (k.taken sink) g e (s.faults source0) (s.faults source) (k.faults sink0) (k.faults sink) (k.room sink0) (k.room sink) at.runs s.last s.ended s.never_fails source0 source demo.pending (s.left source) is_last refl at.needed;
      reads = at.runs.read_same;
      writes = plays.lines.uncounted ∙ at.runs.write_same;
    }

    -- the reader stopped then
    pub reader_stopped : (demo' : DemoReaderView) (source' : S) (d : DemoStop) → is_end e ≡ false → IsStoppedBy s demo demo' source source' d
        → PlaysTo s k (texts_of feeding workers) source0 source' sink0 sink' g2.last (Err (stop_of d))
    reader_stopped demo' source' (demo_stop.Refused line fault rule) going stops = record {
      output = running.next_refused feeding workers demo before left (k.taken sink0) (k.taken sink) g e (s.faults source0) (s.faults source) (k.faults sink0) (k.faults sink) (k.room sink0) (k.room sink) at.runs g2 (k.taken sink') plays.closed plays.advances
          (running.appends_all k.taken k.faults k.room sink sink' _ plays.lines) g2.last refl (demo_stop.Refused line fault rule) going stops.refused.refused;
      read = running.next_refusal feeding workers demo before left (k.taken sink0) (k.taken sink) g e (s.faults source0) (s.faults source) (k.faults sink0) (k.faults sink) (k.room sink0) (k.room sink) at.runs s.last s.ended s.never_fails source0 source source' (demo_stop.Refused line fault rule) demo'.pending (s.left source') going at.needed stops.refused.taken;
      reads = stops.refused.uncounted ∙ at.runs.read_same;
      writes = plays.lines.uncounted ∙ at.runs.write_same;
    }
    reader_stopped demo' source' demo_stop.ReadFault going stops = record {
      output = running.next_fault feeding workers demo before left (k.taken sink0) (k.taken sink) g e (s.faults source0) (s.faults source) (k.faults sink0) (k.faults sink) (k.room sink0) (k.room sink) at.runs g2 (k.taken sink') plays.closed plays.advances
          (running.appends_all k.taken k.faults k.room sink sink' _ plays.lines) g2.last refl demo_stop.ReadFault (s.left source') going stops.read_fault.read_fault;
      front = running.next_front feeding workers demo before left (k.taken sink0) (k.taken sink) g e (s.faults source0) (s.faults source) (k.faults sink0) (k.faults sink) (k.room sink0) (k.room sink) at.runs g2 (k.taken sink') plays.closed plays.advances
          (running.appends_all k.taken k.faults k.room sink sink' _ plays.lines) g2.last refl demo_stop.ReadFault going;
      same_end = stops.read_fault.no_end ∙ (running.needed_going e _ _ _ going at.needed.needed).1;
      fault = running.next_cause feeding workers demo before left (k.taken sink0) (k.taken sink) g e (s.faults source0) (s.faults source) (k.faults sink0) (k.faults sink) (k.room sink0) (k.room sink) at.runs demo_stop.ReadFault (s.faults source') going stops.read_fault.fault;
      later = subst (λ (m : ℕ). m ≤ s.faults source') at.runs.read_same stops.later;
      fails = λ sure. stops.read_fault.sure (running.reader_is_open feeding workers demo before left (k.taken sink0) (k.taken sink) g e (s.faults source0) (s.faults source) (k.faults sink0) (k.faults sink) (k.room sink0) (k.room sink) at.runs going) (at.needed.keeps sure);
      writes = plays.lines.uncounted ∙ at.runs.write_same;
    }
    reader_stopped demo' source' demo_stop.NoMemory going stops = record {
      output = running.next_no_memory feeding workers demo before left (k.taken sink0) (k.taken sink) g e (s.faults source0) (s.faults source) (k.faults sink0) (k.faults sink) (k.room sink0) (k.room sink) at.runs g2 (k.taken sink') plays.closed plays.advances
          (running.appends_all k.taken k.faults k.room sink sink' _ plays.lines) g2.last refl demo_stop.NoMemory going;
      reads = stops.memory.uncounted ∙ at.runs.read_same;
      writes = plays.lines.uncounted ∙ at.runs.write_same;
    }

    -- or it gave the next one
    pub next_given : (demo' : DemoReaderView) (source' : S) (e' : Event) → is_end e ≡ false → GivesEvent s demo demo' source source' e' → IsNext s k feeding workers source0 source' sink0 sink' demo' g2 e'
    next_given demo' source' e' going gives = record {
      runs = running.runs_on feeding workers demo before left (k.taken sink0) (k.taken sink) g e (s.faults source0) (s.faults source) (k.faults sink0) (k.faults sink) (k.room sink0) (k.room sink) at.runs g2 (k.taken sink') plays.closed plays.advances
          (running.appends_all k.taken k.faults k.room sink sink' _ plays.lines) demo' (ahead demo'.pending (s.left source')) e' (s.faults source') (k.faults sink') (k.room sink') going gives.event gives.stage gives.holds gives.ok gives.uncounted plays.lines.uncounted
          (running.room_after k.taken k.faults k.room sink sink' _ plays.lines);
      needed = running.needed_on feeding workers demo before left (k.taken sink0) (k.taken sink) g e (s.faults source0) (s.faults source) (k.faults sink0) (k.faults sink) (k.room sink0) (k.room sink) at.runs s.last s.ended s.never_fails source0 source source' demo'.pending (ahead demo'.pending (s.left source')) e' going at.needed gives.needed gives.keeps;
    }

-- ---- the order of arrival

-- before the first frame there is none
pub none_has_order : (feeding : Feeding) (last : Last) → last ≡ no_last → MayHaveOrder feeding last.order
none_has_order Recorded last none = ap (λ (l : Last). l.order) none
none_has_order Threaded last none = tt

order_of_closed : (workers : ℕ) (old new : ServerView) (opened : Option (List Arrival)) (c : Closing) → ClosesFed Recorded workers old new opened (Some c) → c.order ≡ None
order_of_closed workers old new None c never = absurd never
order_of_closed workers old new (Some arrivals) c runs = runs.order

order_of_newest : (feeding : Feeding) (workers : ℕ) (old new : Course) (e : Event) (closed : Option Closing) (before : Last) → GoesOnFed feeding workers old new e closed → MayHaveOrder feeding before.order → MayHaveOrder feeding (newest closed before).order
order_of_newest Threaded workers old new e closed before goes is = tt
order_of_newest Recorded workers old new e None before goes is = is
order_of_newest Recorded workers old new Frame (Some c) before goes is = order_of_closed workers old.server new.server old.opened c goes.closes
order_of_newest Recorded workers old new (From a) (Some c) before goes is = let none = goes.none_closed in cc
order_of_newest Recorded workers old new End (Some c) before goes is = order_of_closed workers old.server new.server old.opened c goes.closes

-- only what client threads sent has one, when the game went on
pub order_of_next : (feeding : Feeding) (workers : ℕ) (g g' : GameView) (e : Event) (P : List OutLine → Type 0) → Plays feeding workers g g' e P → MayHaveOrder feeding g.last.order → MayHaveOrder feeding g'.last.order
order_of_next feeding workers g g' e P plays is =
    subst (λ (l : Last). MayHaveOrder feeding l.order) (sym plays.advances.last_is) (order_of_newest feeding workers g.course g'.course e plays.closed g.last plays.advances.goes is)

-- and when it stopped
pub order_when_stopped : (feeding : Feeding) (workers : ℕ) (g g' : GameView) (e : Event) (stop : Stop) (P : List OutLine → Type 0) → IsGameStop stop → OnWriteFault stop (Plays feeding workers g g' e P) → OnMemory stop (g'.last ≡ g.last)
    → MayHaveOrder feeding g.last.order → MayHaveOrder feeding g'.last.order
order_when_stopped feeding workers g g' e (Refused why) P never failed kept is = absurd never
order_when_stopped feeding workers g g' e ReadFault P never failed kept is = absurd never
order_when_stopped feeding workers g g' e WriteFault P stops failed kept is = order_of_next feeding workers g g' e P failed is
order_when_stopped feeding workers g g' e NoMemory P stops failed kept is = subst (λ (l : Last). MayHaveOrder feeding l.order) (sym kept) is

-- the event is to be played, and is the next one after each start after which the first was
pub record GoesFrom {S K : Type 0} (s : sources.Ghosts S) (k : sinks.Ghosts K) (feeding : Feeding) (workers : ℕ) (source source' : S) (sink sink' : K) (demo demo' : DemoReaderView) (g g' : GameView) (e e' : Event) : Type 0 where
  pub may : MayGoOn s k feeding workers source' sink' demo' g' e'
  pub each : (first_source : S) (first_sink : K) → IsNext s k feeding workers first_source source first_sink sink demo g e → IsNext s k feeding workers first_source source' first_sink sink' demo' g' e'
  pub orders : MayHaveOrder feeding g.last.order → MayHaveOrder feeding g'.last.order

-- one event more was played, and the reader gave the next
pub goes_further : {S K : Type 0} (s : sources.Ghosts S) (k : sinks.Ghosts K) (feeding : Feeding) (workers : ℕ) (source0 source source' : S) (sink0 sink sink' : K) (demo0 demo demo' : DemoReaderView) (g0 g g' : GameView) (e0 e e' : Event)
    → GoesFrom s k feeding workers source0 source sink0 sink demo0 demo g0 g e0 e → Plays feeding workers g g' e (λ lines. Prints k.taken k.faults k.room sink sink' [] [] (text_of lines)) → is_end e ≡ false
    → GivesEvent s demo demo' source source' e' → GoesFrom s k feeding workers source0 source' sink0 sink' demo0 demo' g0 g' e0 e'
goes_further s k feeding workers source0 source source' sink0 sink sink' demo0 demo demo' g0 g g' e0 e e' so_far plays going gives =
    let may = so_far.may in
    record {
      may = record {
        first_source = may.first_source;
        first_sink = may.first_sink;
        is_next = next_given s k feeding workers may.first_source source may.first_sink sink demo g e may.is_next sink' g' plays demo' source' e' going gives;
      };
      each = λ first_source first_sink begun. next_given s k feeding workers first_source source first_sink sink demo g e (so_far.each first_source first_sink begun) sink' g' plays demo' source' e' going gives;
      orders = λ before. order_of_next feeding workers g g' e _ plays (so_far.orders before);
    }

-- the event may come
pub ready_next : {S K : Type 0} (s : sources.Ghosts S) (k : sinks.Ghosts K) (feeding : Feeding) (workers : ℕ) (source : S) (sink : K) (demo : DemoReaderView) (g : GameView) (e : Event) → MayGoOn s k feeding workers source sink demo g e → IsReady g.course e
ready_next s k feeding workers source sink demo g e may =
    running.game_is_ready feeding workers demo _ _ _ _ g e _ _ _ _ _ _ may.is_next.runs

-- before the end the reader is open
pub open_reader : {S K : Type 0} (s : sources.Ghosts S) (k : sinks.Ghosts K) (feeding : Feeding) (workers : ℕ) (source : S) (sink : K) (demo : DemoReaderView) (g : GameView) (e : Event) → MayGoOn s k feeding workers source sink demo g e → is_end e ≡ false → IsOpen demo
open_reader s k feeding workers source sink demo g e may going =
    running.reader_is_open feeding workers demo _ _ _ _ g e _ _ _ _ _ _ may.is_next.runs going

-- memory was refused for the game
pub no_memory_at : {S K : Type 0} (s : sources.Ghosts S) (k : sinks.Ghosts K) (feeding : Feeding) (workers : ℕ) (source0 source : S) (sink0 sink : K) (demo : DemoReaderView) (arena : MapView) (e : Event)
    → IsNext s k feeding workers source0 source sink0 sink demo (new_game arena) e → (last : Last) → last ≡ no_last → PlaysTo s k (texts_of feeding workers) source0 source sink0 sink last (Err NoMemory)
no_memory_at s k feeding workers source0 source sink0 sink demo arena e at last none =
    let P : Last → Type 0 = λ l. PlaysTo s k (texts_of feeding workers) source0 source sink0 sink l (Err NoMemory) in
    subst P (sym none) (game_stopped s k feeding workers source0 source sink0 sink demo (new_game arena) e at sink (new_game arena) NoMemory tt tt tt refl refl (omega (arith)))
