-- A recording that is read to its end, event after event.
use Rattle.std.proofs.Common.{◌≡◌, ℕ, ◌≤◌, ◌⊎◌, Bool, true, false, List, [], ◌∷◌, ◌++◌, inl, inr, Some, IfSome, IsSome, refl, sym, ap, ◌∙◌, subst}
use Rattle.std.proofs.KnownBytes.{Consumes-nil, prepend_known-nil}
use Rattle.std.specs.Io.KnownBytes.{Consumes, IsAtEnd}
use Rattle.edge_io.specs.declared.source.Source as sources
use Rattle.edge_io.specs.Counts.{HasRisen}
use Rattle.edge_io.specs.Lines.{ahead, HasNotReadAhead}
use Rattle.edge_io.proofs.ReadingAhead.{HasNotReadAhead-same, HasNotReadAhead-trans}
use Rattle.demo_lines.specs.declared.stage.Stage.TheVariants.{Ended}
use Rattle.demo_lines.specs.declared.event.Event.{Event}
use Rattle.demo_lines.specs.declared.event.Event.TheVariants.{Frame, From, End}
use Rattle.demo_lines.specs.declared.demo_stop.DemoStop.{DemoStop}
use Rattle.demo_lines.specs.declared.demo_stop.DemoStop.TheVariants as demo_stop
use Rattle.demo_lines.specs.Known.{Reading, start_within, is_map_whole, is_over}
use Rattle.demo_lines.specs.declared.line_refusal.LineRefusal.{LineRefusal}
use Rattle.demo_lines.specs.Bytes.{fault_within}
use Rattle.demo_lines.specs.Reads.{DemoReaderView, fresh_within, IsOpen, Reads, TakesCutEnd, EndsAt, KeepsMap, stage_after}
use Rattle.demo_lines.specs.Outcomes.{GivesEvent, IsStoppedBy}
use Rattle.demo_lines.proofs.Machines.{run_of-append}
use Rattle.demo_lines.proofs.Joins.{Reads-trans}
use Rattle.demo_lines.proofs.Consumed.{cut_end_after, refusal_on}
use Rattle.demo_lines.proofs.Continuing.{continues}
use Rattle.out_text.specs.Collecting.{Frames, collect, frames_of_events, no_frames}
use Rattle.transcript_check.specs.Recorded.{is_last, ReadsRecording}
use Rattle.transcript_check.specs.Verdicts.{StopsChecking}

-- ---- stages

going-stage : (e : Event) → is_last e ≡ false → is_over (stage_after e) ≡ false
going-stage Frame going = refl
going-stage (From a) going = refl
going-stage End going = cc

ended-stage : (e : Event) → is_last e ≡ true → stage_after e ≡ Ended
ended-stage Frame is = cc
ended-stage (From a) is = cc
ended-stage End is = refl

-- a map is there after an event
pub map-there : (old new : Reading) → (is_map_whole old.stage ≡ true → IsSome old.map) → KeepsMap old new → IsSome new.map
map-there old new has keeps = by (is_map_whole old.stage) refl
  where
    by : (whole : Bool) → is_map_whole old.stage ≡ whole → IsSome new.map
    by true e = subst IsSome (sym (keeps.kept e)) (has e)
    by false e = keeps.completed e

-- one event more
collected-push : (es : List Event) (e : Event) (before after : Frames) → before ≡ frames_of_events es → after ≡ collect before e → after ≡ frames_of_events (es ++ e ∷ [])
collected-push es e before after so_far is =
    is ∙ ap (λ (f : Frames). collect f e) so_far ∙ sym (run_of-append {E = Event} collect (λ _ _. []) no_frames es (e ∷ []))

-- the source hasn't told its end, or it has, with the recording's
abbrev TellsEnd : {S : Type 0} → sources.Ghosts S → (old new : DemoReaderView) → (source source' : S) → Event → Type 0
TellsEnd s old new source source' e =
    ((new.cut ≡ old.cut) × (s.ended source' ≡ s.ended source)) ⊎ ((e ≡ End) × (new.cut ≡ true) × IsAtEnd (ahead new.pending (s.left source')))

-- no more was read than the last read had to give, or the recording's end without its line feed was taken
abbrev IsAsNeeded : {S : Type 0} → sources.Ghosts S → (old new : DemoReaderView) → (source source' : S) → Event → Type 0
IsAsNeeded s old new source source' e =
    (HasNotReadAhead source source' (s.last source') old.pending new.pending × (s.ended source' ≡ s.ended source))
    ⊎ ((e ≡ End) × TakesCutEnd (ahead old.pending (s.left source)) (ahead new.pending (s.left source')) × (s.ended source' ≡ true))

module _ {S : Type 0} (s : sources.Ghosts S) (limit : ℕ) where
  -- what was read so far gave some events, which made these frames, and the recording goes on
  pub record ReadsOn (first now : S) (demo : DemoReaderView) (frames : Frames) : Type 0 where
    pub events : List Event
    pub reads : Reads (start_within limit) demo.reading (s.left first) (ahead demo.pending (s.left now)) events
    pub frames_are : frames ≡ frames_of_events events
    pub is_open : IsOpen demo
    pub not_cut : demo.cut ≡ false
    pub unread : HasNotReadAhead first now (s.last now) [] demo.pending
    pub before_end : s.ended now ≡ s.ended first
    pub uncounted : s.faults now ≡ s.faults first
    pub keeps : s.never_fails first → s.never_fails now
    pub map : is_map_whole demo.reading.stage ≡ true → IsSome demo.reading.map

  -- before the first event
  pub begun : (source : S) (demo : DemoReaderView) (frames : Frames) → demo ≡ fresh_within limit → frames ≡ no_frames → ReadsOn source source demo frames
  begun source demo frames fresh none = subst (λ (d : DemoReaderView). ReadsOn source source d frames) (sym fresh) (record {
    events = [];
    reads = record {
      lines = [];
      text = [];
      each = tt;
      spelled = inl refl;
      consumed = subst (λ o. Consumes (s.left source) o []) (sym (prepend_known-nil (s.left source))) (Consumes-nil (s.left source));
      reached = refl;
      events = refl;
      going = refl;
    };
    frames_are = none;
    is_open = record { no_stop = refl; not_over = refl };
    not_cut = refl;
    unread = HasNotReadAhead-same s.last source [];
    before_end = refl;
    uncounted = refl;
    keeps = λ sure. sure;
    map = λ whole. cc;
  })

  module _ (first now : S) (demo : DemoReaderView) (frames : Frames) (on : ReadsOn first now demo frames) (next : S) (demo' : DemoReaderView) where
    -- only with the recording's end the source tells its own
    untold : (e : Event) → is_last e ≡ false → TellsEnd s demo demo' now next e → (demo'.cut ≡ demo.cut) × (s.ended next ≡ s.ended now)
    untold e going tells = elim tells [
      | inl same ↦ same
      | inr told ↦ (let never : true ≡ false = sym (ap is_last told.0) ∙ going in cc)
    ]

    -- nor is more read than the last read had to give
    needed-going : (e : Event) → is_last e ≡ false → IsAsNeeded s demo demo' now next e → HasNotReadAhead now next (s.last next) demo.pending demo'.pending
    needed-going e going needed = elim needed [
      | inl same ↦ same.0
      | inr told ↦ (let never : true ≡ false = sym (ap is_last told.0) ∙ going in cc)
    ]

    -- an event was given, and it wasn't the end
    pub goes_on : (e : Event) (frames' : Frames) → GivesEvent s demo demo' now next e → frames' ≡ collect frames e → is_last e ≡ false → ReadsOn first next demo' frames'
    goes_on e frames' gives made going = record {
      events = on.events ++ e ∷ [];
      reads = Reads-trans (start_within limit) demo.reading demo'.reading (s.left first) (ahead demo.pending (s.left now)) (ahead demo'.pending (s.left next)) on.events (e ∷ [])
          on.reads on.is_open.not_over (gives.event on.is_open);
      frames_are = collected-push on.events e frames frames' on.frames_are made;
      is_open = record { no_stop = gives.ok; not_over = ap is_over gives.stage ∙ going-stage e going };
      not_cut = (untold e going (gives.cut on.is_open)).0 ∙ on.not_cut;
      unread = HasNotReadAhead-trans s.last first now next [] demo.pending demo'.pending on.unread (needed-going e going (gives.needed on.is_open));
      before_end = (untold e going (gives.cut on.is_open)).1 ∙ on.before_end;
      uncounted = gives.uncounted ∙ on.uncounted;
      keeps = λ sure. gives.keeps (on.keeps sure);
      map = λ whole. map-there demo.reading demo'.reading on.map gives.map;
    }

    -- the end was given
    pub ends : (e : Event) (frames' : Frames) → GivesEvent s demo demo' now next e → frames' ≡ collect frames e → is_last e ≡ true → ReadsRecording s limit first next demo' frames'
    ends e frames' gives made last = record {
      events = on.events ++ e ∷ [];
      reads = Reads-trans (start_within limit) demo.reading demo'.reading (s.left first) (ahead demo.pending (s.left now)) (ahead demo'.pending (s.left next)) on.events (e ∷ [])
          on.reads on.is_open.not_over (gives.event on.is_open);
      frames_are = collected-push on.events e frames frames' on.frames_are made;
      ended = gives.stage ∙ ended-stage e last;
      may = record {
        no_stop = gives.ok;
        at_end = λ is. elim (gives.cut on.is_open) [
          | inl same ↦ (let never : true ≡ false = sym is ∙ same.0 ∙ on.not_cut in cc)
          | inr told ↦ told.2
        ];
      };
      before_end = λ not_cut. elim (gives.cut on.is_open) [
        | inl same ↦ same.1 ∙ on.before_end
        | inr told ↦ (let never : true ≡ false = sym told.1 ∙ not_cut in cc)
      ];
      needed = by_end (gives.needed on.is_open);
      map = map-there demo.reading demo'.reading on.map gives.map;
      holds = gives.holds;
      uncounted = gives.uncounted ∙ on.uncounted;
      keeps = λ sure. gives.keeps (on.keeps sure);
    }
      where
        by_end : IsAsNeeded s demo demo' now next e
            → (HasNotReadAhead first next (s.last next) [] demo'.pending × (s.ended next ≡ s.ended first)) ⊎ (TakesCutEnd (s.left first) (ahead demo'.pending (s.left next)) × (s.ended next ≡ true))
        by_end (inl (needed, same)) = inl (HasNotReadAhead-trans s.last first now next [] demo.pending demo'.pending on.unread needed, same ∙ on.before_end)
        by_end (inr (is, cut, at)) =
            inr (cut_end_after (start_within limit) demo.reading (s.left first) (ahead demo.pending (s.left now)) (ahead demo'.pending (s.left next)) on.events on.reads on.is_open.not_over cut, at)

    -- the reader stopped
    pub stops : (d : DemoStop) → IsStoppedBy s demo demo' now next d → StopsChecking s limit first next d
    stops (demo_stop.Refused line rule_fault rule) given =
        let why : LineRefusal = record { line = line; fault = rule_fault; rule = rule } in
        record {
          faulty = continues (start_within limit) demo.reading (s.left first) (ahead demo.pending (s.left now)) on.events (λ bytes. fault_within limit bytes ≡ Some why) on.reads
              (λ bytes rest is so. so.fault_is ∙ (subst (λ o. IfSome o (EndsAt demo.reading why)) is (given.refused.refused on.is_open)).fault);
          read = refusal_on (start_within limit) s.last first now next demo.reading (s.left first) (ahead demo.pending (s.left now)) (s.left next) on.events line demo.pending demo'.pending (s.ended next ≡ s.ended now)
              (s.ended next ≡ s.ended first) (s.ended next ≡ true) on.reads on.unread (λ same. same ∙ on.before_end) (given.refused.taken on.is_open);
          reads = given.refused.uncounted ∙ on.uncounted;
        }
    stops demo_stop.ReadFault given = record {
      before_end = given.read_fault.no_end ∙ on.before_end;
      fault = subst (λ (n : ℕ). HasRisen n (s.faults next)) on.uncounted (given.read_fault.fault on.is_open);
      later = subst (λ (n : ℕ). n ≤ s.faults next) on.uncounted given.later;
      fails = λ sure. given.read_fault.sure on.is_open (on.keeps sure);
    }
    stops demo_stop.NoMemory given = record { reads = given.memory.uncounted ∙ on.uncounted }
