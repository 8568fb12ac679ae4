-- Reading a recording to its first event, for its map alone.
use Rattle.std.proofs.Common.{◌≡◌, true, false, List, [], ◌∷◌, ◌++◌, length, ◌⊎◌, inl, inr, Some, IfSome, IsSome, refl, sym, ap, ◌∙◌, subst}
use Rattle.std.proofs.KnownBytes.{prepend_known-nil}
use Rattle.edge_io.specs.declared.source.Source as sources
use Rattle.edge_io.specs.Lines.{ahead, HasNotReadAhead}
use Rattle.arena_map.specs.Maps.{MapView}
use Rattle.demo_lines.specs.declared.event.Event.{Event}
use Rattle.demo_lines.specs.declared.event.Event.TheVariants.{Frame, From, End}
use Rattle.demo_lines.specs.declared.demo_stop.DemoStop.{DemoStop}
use Rattle.demo_lines.specs.Known.{Reading, start, is_map_whole, is_refused}
use Rattle.demo_lines.specs.Recording.{events_of}
use Rattle.demo_lines.specs.Bytes.{events_in}
use Rattle.demo_lines.specs.Outcomes.{GivesEvent, IsStoppedBy, IsRefusedBy}
use Rattle.demo_lines.specs.Reads.{DemoReaderView, fresh_reader, IsOpen, Reads, EndsAt, TakesCutEnd, stage_after}
use Rattle.demo_lines.proofs.Walks.{on_refused, whole_after}
use Rattle.arena_engine.specs.Walked.{BeginsWithMap, GivesFirstMap, StopsBefore}
use Rattle.arena_engine.proofs.Continuing.{continues, map_of-whole}
use Rattle.arena_engine.proofs.FirstEvent.{none-before}
use Rattle.arena_engine.proofs.MapRead.{begun, gives_stop}

pub fine_after : (e : Event) → is_refused (stage_after e) ≡ false
fine_after Frame = refl
fine_after (From a) = refl
fine_after End = refl

fresh_is_open : IsOpen fresh_reader
fresh_is_open = record { no_stop = refl; not_over = refl }

-- a map that an event was read after is there
pub first_map_is_there : {S : Type 0} (s : sources.Ghosts S) (demo demo' : DemoReaderView) (source source' : S) (e : Event) → demo ≡ fresh_reader → GivesEvent s demo demo' source source' e → IsSome demo'.reading.map
first_map_is_there s demo demo' source source' e fresh gives = gives.map.completed (ap (λ (d : DemoReaderView). is_map_whole d.reading.stage) fresh)

module _ {S : Type 0} (s : sources.Ghosts S) (demo demo' : DemoReaderView) (source source' : S) (fresh : demo ≡ fresh_reader) where
  -- an event was given
  pub gives_first_map : (e : Event) (m : MapView) → GivesEvent s demo demo' source source' e → demo'.reading.map ≡ Some m → GivesFirstMap s source source' m
  gives_first_map e m was has =
      let gives : GivesEvent s fresh_reader demo' source source' e = subst (λ d. GivesEvent s d demo' source source' e) fresh was in
      let a = s.left source in
      let c = ahead demo'.pending (s.left source') in
      let all : Reads start demo'.reading a c (e ∷ []) = subst (λ o. Reads start demo'.reading o c (e ∷ [])) (prepend_known-nil a) (gives.event fresh_is_open) in
      let one : length (events_of start all.lines) ≡ 1 = ap (λ es. length es) all.events in
      let fine = ap (λ (t : Reading). is_refused t.stage) (sym all.reached) ∙ ap is_refused gives.stage ∙ fine_after e in
      record {
        begins = continues demo'.reading a c (e ∷ []) (λ bytes. BeginsWithMap bytes (λ map. map ≡ m)) all (λ bytes rest is so. record {
          map = m;
          map_is = map_of-whole demo'.reading (e ∷ []) bytes rest m so (ap is_map_whole gives.stage ∙ whole_after e) has;
          some_event = λ none. some e (events_in demo'.reading rest) (sym so.events_are ∙ none);
          holds = refl;
        });
        read = record {
          lines = all.lines;
          text = all.text;
          buffered = demo'.pending;
          each = all.each;
          spelled = all.spelled;
          consumed = all.consumed;
          one_event = one;
          going = all.going;
          none_before = none-before start all.lines all.going fine one;
          needed = by_end (gives.needed fresh_is_open);
        };
        reads = gives.uncounted;
      }
    where
      some : (e : Event) (es : List Event) → (e ∷ []) ++ es ≡ [] → ⊥
      some e es none = cc

      by_end : (HasNotReadAhead source source' (s.last source') [] demo'.pending × (s.ended source' ≡ s.ended source))
          ⊎ ((e ≡ End) × TakesCutEnd (ahead [] (s.left source)) (ahead demo'.pending (s.left source')) × (s.ended source' ≡ true))
          → (HasNotReadAhead source source' (s.last source') [] demo'.pending × (s.ended source' ≡ s.ended source))
          ⊎ (TakesCutEnd (s.left source) (ahead demo'.pending (s.left source')) × (s.ended source' ≡ true))
      by_end (inl needed) = inl needed
      by_end (inr (is, cut, at)) = inr (subst (λ o. TakesCutEnd o (ahead demo'.pending (s.left source'))) (prepend_known-nil (s.left source)) cut, at)

  -- the reader stopped
  pub stops_before : (d : DemoStop) → IsStoppedBy s demo demo' source source' d → StopsBefore s source source' d
  stops_before d was =
      let stops : IsStoppedBy s fresh_reader demo' source source' d = subst (λ r. IsStoppedBy s r demo' source source' d) fresh was in
      record {
        stops = gives_stop s source source demo (begun s source demo fresh) source' demo' d was;
        ends = on_refused d (IsRefusedBy s fresh_reader demo' source source') (λ why. IfSome (s.left source) (EndsAt start why))
            (λ why refused. subst (λ o. IfSome o (EndsAt start why)) (prepend_known-nil (s.left source)) (refused.refused fresh_is_open)) stops.refused;
      }
