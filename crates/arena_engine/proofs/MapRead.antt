-- Reading a recording to its end, for its map alone.
use Rattle.std.proofs.Common.{◌≡◌, ℕ, ◌≤◌, true, false, List, [], ◌∷◌, ◌++◌, ◌⊎◌, inl, inr, Some, None, IfSome, IsSome, refl, sym, ap, ◌∙◌, subst}
use Rattle.std.proofs.KnownBytes.{Consumes-nil, prepend_known-nil}
use Rattle.std.specs.Io.KnownBytes.{Consumes}
use Rattle.edge_io.specs.declared.source.Source as sources
use Rattle.edge_io.specs.Counts.{HasRisen}
use Rattle.edge_io.specs.Lines.{ahead, HasNotReadAhead}
use Rattle.edge_io.proofs.ReadingAhead.{HasNotReadAhead-same, HasNotReadAhead-trans}
use Rattle.arena_map.specs.Maps.{MapView}
use Rattle.demo_lines.specs.declared.stage.Stage.TheVariants.{Ended}
use Rattle.demo_lines.specs.declared.event.Event.{Event}
use Rattle.demo_lines.specs.declared.event.Event.TheVariants.{Frame, From, End}
use Rattle.demo_lines.specs.declared.demo_stop.DemoStop.{DemoStop}
use Rattle.demo_lines.specs.declared.demo_stop.DemoStop.TheVariants as demo_stop
use Rattle.demo_lines.specs.Known.{Reading, start, is_map_whole, is_over}
use Rattle.demo_lines.specs.declared.line_refusal.LineRefusal.{LineRefusal}
use Rattle.demo_lines.specs.Bytes.{last_part, lines_of, refused_at, refused_where, fault_in, fault, map_of}
use Rattle.demo_lines.specs.Reads.{DemoReaderView, fresh_reader, IsOpen, Reads, EndsAt, KeepsMap, TakesCutEnd, stage_after}
use Rattle.demo_lines.proofs.Ends.{after-over}
use Rattle.demo_lines.proofs.Joins.{Reads-trans}
use Rattle.transcript_check.proofs.Recording.{map-there}
use Rattle.arena_engine.specs.Games.{is_end}
use Rattle.arena_engine.specs.MapReads.{GivesMap, GivesStop}
use Rattle.arena_engine.proofs.Continuing.{continues, map_of-whole}
use Rattle.demo_lines.proofs.Consumed.{refusal_on, cut_end_after}
use Rattle.arena_engine.proofs.Running.{needed_going}
use Rattle.demo_lines.specs.Outcomes.{GivesEvent, IsStoppedBy}

-- ---- stages

going-stage : (e : Event) → is_end e ≡ false → is_over (stage_after e) ≡ false
going-stage Frame going = refl
going-stage (From a) going = refl
going-stage End going = cc

ended-stage : (e : Event) → is_end e ≡ true → stage_after e ≡ Ended
ended-stage Frame is = cc
ended-stage (From a) is = cc
ended-stage End is = refl

-- a reading that has ended has no fault
ended-faultless : (r : Reading) (bytes : List ℕ) → r.stage ≡ Ended → fault_in r bytes ≡ None
ended-faultless r bytes ended =
    let over : is_over r.stage ≡ true = ap is_over ended in
    ap (λ t. refused_where t (last_part bytes)) (after-over r (lines_of bytes) over) ∙ ap (λ stage. refused_at stage r (last_part bytes)) ended

-- ---- reading on

module _ {S : Type 0} (s : sources.Ghosts S) where
  -- what was read so far gave some events, and the recording goes on
  pub record ReadsOn (first now : S) (demo : DemoReaderView) : Type 0 where
    pub events : List Event
    pub reads : Reads start demo.reading (s.left first) (ahead demo.pending (s.left now)) events
    pub is_open : IsOpen demo
    pub same : s.faults now ≡ s.faults first
    pub needed : HasNotReadAhead first now (s.last now) [] demo.pending
    pub same_end : s.ended now ≡ s.ended first
    pub keeps : s.never_fails first → s.never_fails now
    pub map : is_map_whole demo.reading.stage ≡ true → IsSome demo.reading.map

  -- before the first event
  pub begun : (source : S) (demo : DemoReaderView) → demo ≡ fresh_reader → ReadsOn source source demo
  begun source demo fresh = subst (ReadsOn source source) (sym fresh) (record {
    events = [];
    reads = record {
      lines = [];
      text = [];
      each = tt;
      spelled = inl refl;
      consumed = subst (λ o. Consumes (s.left source) o []) (sym (prepend_known-nil (s.left source))) (Consumes-nil (s.left source));
      reached = refl;
      events = refl;
      going = refl;
    };
    is_open = record { no_stop = refl; not_over = refl };
    same = refl;
    needed = HasNotReadAhead-same s.last source [];
    same_end = refl;
    keeps = λ sure. sure;
    map = λ whole. cc;
  })

  module _ (first now : S) (demo : DemoReaderView) (on : ReadsOn first now demo) (next : S) (demo' : DemoReaderView) where
    -- an event was given, and it wasn't the end
    pub goes_on : (e : Event) → GivesEvent s demo demo' now next e → KeepsMap demo.reading demo'.reading → is_end e ≡ false → ReadsOn first next demo'
    goes_on e gives kept going =
        let so = needed_going e (HasNotReadAhead now next (s.last next) demo.pending demo'.pending × (s.ended next ≡ s.ended now))
        (TakesCutEnd (ahead demo.pending (s.left now)) (ahead demo'.pending (s.left next))) (s.ended next ≡ true) going (gives.needed on.is_open) in
        record {
          events = on.events ++ e ∷ [];
          reads = Reads-trans start demo.reading demo'.reading (s.left first) (ahead demo.pending (s.left now)) (ahead demo'.pending (s.left next)) on.events (e ∷ [])
              on.reads on.is_open.not_over (gives.event on.is_open);
          is_open = record { no_stop = gives.ok; not_over = ap is_over gives.stage ∙ going-stage e going };
          same = gives.uncounted ∙ on.same;
          needed = HasNotReadAhead-trans s.last first now next [] demo.pending demo'.pending on.needed so.0;
          same_end = so.1 ∙ on.same_end;
          keeps = λ sure. gives.keeps (on.keeps sure);
          map = λ whole. map-there demo.reading demo'.reading on.map kept;
        }

    -- and the recording was read to its end
    pub gives_map : (e : Event) (m : MapView) → GivesEvent s demo demo' now next e → is_end e ≡ true → demo'.reading.map ≡ Some m → GivesMap s first next m
    gives_map e m gives is_last has =
        let a = s.left first in
        let b = ahead demo.pending (s.left now) in
        let c = ahead demo'.pending (s.left next) in
        let all = Reads-trans start demo.reading demo'.reading a b c on.events (e ∷ []) on.reads on.is_open.not_over (gives.event on.is_open) in
        let ended : demo'.reading.stage ≡ Ended = gives.stage ∙ ended-stage e is_last in
        record {
          faultless = continues demo'.reading a c (on.events ++ e ∷ []) (λ bytes. fault bytes ≡ None) all
              (λ bytes rest is so. so.fault_is ∙ ended-faultless demo'.reading rest ended);
          map_is = continues demo'.reading a c (on.events ++ e ∷ []) (λ bytes. map_of bytes ≡ Some m) all
              (λ bytes rest is so. map_of-whole demo'.reading (on.events ++ e ∷ []) bytes rest m so (ap is_map_whole ended) has);
          read = record {
            lines = all.lines;
            text = all.text;
            buffered = demo'.pending;
            each = all.each;
            spelled = all.spelled;
            consumed = all.consumed;
            ended = ap (λ (t : Reading). t.stage) (sym all.reached) ∙ ended;
            going = all.going;
            needed = by_end (gives.needed on.is_open);
          };
          reads = gives.uncounted ∙ on.same;
        }
      where
        by_end : (HasNotReadAhead now next (s.last next) demo.pending demo'.pending × (s.ended next ≡ s.ended now))
            ⊎ ((e ≡ End) × TakesCutEnd (ahead demo.pending (s.left now)) (ahead demo'.pending (s.left next)) × (s.ended next ≡ true))
            → (HasNotReadAhead first next (s.last next) [] demo'.pending × (s.ended next ≡ s.ended first))
            ⊎ (TakesCutEnd (s.left first) (ahead demo'.pending (s.left next)) × (s.ended next ≡ true))
        by_end (inl (needed, same)) = inl (HasNotReadAhead-trans s.last first now next [] demo.pending demo'.pending on.needed needed, same ∙ on.same_end)
        by_end (inr (is, cut, at)) =
            inr (cut_end_after start demo.reading (s.left first) (ahead demo.pending (s.left now)) (ahead demo'.pending (s.left next)) on.events on.reads on.is_open.not_over cut, at)

    -- the reader stopped
    pub gives_stop : (d : DemoStop) → IsStoppedBy s demo demo' now next d → GivesStop s first next d
    gives_stop (demo_stop.Refused line rule_fault rule) stops =
        let why : LineRefusal = record { line = line; fault = rule_fault; rule = rule } in
        let b = ahead demo.pending (s.left now) in
        record {
          faulty = continues demo.reading (s.left first) b on.events (λ bytes. fault bytes ≡ Some why) on.reads
              (λ bytes rest is so. so.fault_is ∙ (subst (λ o. IfSome o (EndsAt demo.reading why)) is (stops.refused.refused on.is_open)).fault);
          read = refusal_on start s.last first now next demo.reading (s.left first) b (s.left next) on.events line demo.pending demo'.pending (s.ended next ≡ s.ended now)
              (s.ended next ≡ s.ended first) (s.ended next ≡ true) on.reads on.needed (λ same. same ∙ on.same_end) (stops.refused.taken on.is_open);
          reads = stops.refused.uncounted ∙ on.same;
        }
    gives_stop demo_stop.ReadFault stops = record {
      same_end = stops.read_fault.no_end ∙ on.same_end;
      fault = subst (λ (n : ℕ). HasRisen n (s.faults next)) on.same (stops.read_fault.fault on.is_open);
      later = subst (λ (n : ℕ). n ≤ s.faults next) on.same stops.later;
      fails = λ sure. stops.read_fault.sure on.is_open (on.keeps sure);
    }
    gives_stop demo_stop.NoMemory stops = record { reads = stops.memory.uncounted ∙ on.same }
