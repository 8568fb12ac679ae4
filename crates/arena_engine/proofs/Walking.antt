-- What a report says of a recording of players that walk on a map that was read.
use Rattle.std.proofs.Common.{◌≡◌, ◌≢◌, ℕ, ◌≤◌, inl, inr, List, [], Option, Some, None, Result, Ok, Err, IfSome, length, refl, sym, subst, ap, arith}
use Rattle.std.specs.Prelude.{IsSomeAnd}
use Rattle.std.specs.Result.{OnOk}
use Rattle.std.specs.Io.KnownBytes.{Appends}
use Rattle.edge_io.specs.declared.source.Source as sources
use Rattle.edge_io.specs.declared.sink.Sink as sinks
use Rattle.edge_io.specs.Counts.{HasRisen}
use Rattle.edge_io.specs.Writes.{AppendsPart}
use Rattle.arena_map.specs.Maps.{MapView, IsMap}
use Rattle.demo_lines.specs.declared.line_refusal.LineRefusal.{LineRefusal}
use Rattle.demo_lines.specs.declared.demo_stop.DemoStop.{DemoStop}
use Rattle.demo_lines.specs.declared.demo_stop.DemoStop.TheVariants.{Refused, ReadFault, NoMemory}
use Rattle.demo_lines.specs.Bytes.{events, map_of}
use Rattle.demo_lines.specs.Known.{start}
use Rattle.demo_lines.specs.Reads.{EndsAt}
use Rattle.demo_make.specs.declared.make_stop.MakeStop.{MakeStop}
use Rattle.demo_make.specs.declared.make_stop.MakeStop.TheVariants as make_stop
use Rattle.demo_walk.specs.WalkedFrames.{walk_text}
use Rattle.arena_engine.specs.declared.report.Report.{Report}
use Rattle.arena_engine.specs.Endings.{Ends}
use Rattle.arena_engine.specs.Making as making
use Rattle.arena_engine.specs.Reports.{refusal_of, status_of, place_of}
use Rattle.arena_engine.specs.StopOf.{stop_of}
use Rattle.arena_engine.specs.Walked.{BeginsWithMap, GivesFirstMap, StopsBefore, IsWalked}
use Rattle.arena_engine.proofs.Reported.{ends_of, uncounted_in, counted_in}

-- ---- inputs that begin with a map

-- what holds of the map
begins_with : (a : Option (List ℕ)) (m : MapView) (P : MapView → Type 0) → IfSome a (λ bytes. BeginsWithMap bytes (λ map. map ≡ m)) → P m → IfSome a (λ bytes. BeginsWithMap bytes P)
begins_with None m P begins holds = tt
begins_with (Some bytes) m P begins holds = record {
  map = begins.map;
  map_is = begins.map_is;
  some_event = begins.some_event;
  holds = subst P (sym begins.holds) holds;
}

-- they give an event
begins_with_event : (a : Option (List ℕ)) (P : MapView → Type 0) → IfSome a (λ bytes. BeginsWithMap bytes P) → IsSomeAnd a (λ bytes. events bytes ≡ []) → ⊥
begins_with_event None P begins none = absurd none
begins_with_event (Some bytes) P begins none = begins.some_event none

-- what ends before any event gives none
ends_without_event : (a : Option (List ℕ)) (why : LineRefusal) → IfSome a (EndsAt start why) → IsSomeAnd a (λ bytes. events bytes ≡ [] → ⊥) → ⊥
ends_without_event None why ends some = absurd some
ends_without_event (Some bytes) why ends some = some ends.events

-- there is room for what is written of this map
room_for : (a : Option (List ℕ)) (m : MapView) (P : MapView → Type 0) → IfSome a (λ bytes. BeginsWithMap bytes (λ map. map ≡ m)) → IsSomeAnd a (λ bytes. IsSomeAnd (map_of bytes) P) → P m
room_for None m P begins room = absurd room
room_for (Some bytes) m P begins room = subst P begins.holds (subst (λ o. IsSomeAnd o P) begins.map_is room)

module _ {S K : Type 0} (s : sources.Ghosts S) (k : sinks.Ghosts K) (seed players frames : ℕ) (source source' : S) (sink sink' : K) (r : Report) where
  -- ---- the map was read, and the recording was written or wasn't

  module _ (m : MapView) (given : GivesFirstMap s source source' m) (bare : making.IsBare r) (all : r.all ≡ []) where
    abbrev text : List ℕ
    text = walk_text m seed players frames

    pub written_walked : (written : Result (Unit {0}) MakeStop) → r.status ≡ making.status_of written → OnOk written (Appends (k.taken sink) (k.taken sink') text)
        → (written ≡ Err make_stop.WriteFault → AppendsPart (k.taken sink) (k.taken sink') text) → (written ≡ Err make_stop.NoMemory → sink' ≡ sink) → OnOk written (IsMap m)
        → (written ≡ Err make_stop.WriteFault → HasRisen (k.faults sink) (k.faults sink')) → (length text ≤ k.room sink → written ≢ Err make_stop.WriteFault)
        → IsWalked s k seed players frames source source' sink sink' r
    written_walked (Ok done) status_is wrote part nothing rules risen sure =
        let status : r.status ≡ 0 = status_is in
        record {
          known = omega (arith, status);
          done = λ is. begins_with (s.left source) m _ given.begins (rules, wrote);
          read = λ is. given.read;
          refused = λ is. absurd (omega (arith, is, status));
          refused_read = λ is. absurd (omega (arith, is, status));
          cut = λ is. absurd (omega (arith, is, status));
          nothing = λ is. absurd (omega (arith, is, status));
          no_frame = bare.last;
          no_journals = all;
          sure_writes = λ room is. absurd (omega (arith, is, status));
          complete = λ some failed. inr status;
          complete_refusal = λ none failed. absurd (begins_with_event (s.left source) _ given.begins none);
        }
    written_walked (Err make_stop.WriteFault) status_is wrote part nothing rules risen sure =
        let status : r.status ≡ 4 = status_is in
        record {
          known = omega (arith, status);
          done = λ is. absurd (omega (arith, is, status));
          read = λ is. given.read;
          refused = λ is. absurd (omega (arith, is, status));
          refused_read = λ is. absurd (omega (arith, is, status));
          cut = λ is. begins_with (s.left source) m _ given.begins (part refl);
          nothing = λ is. absurd (omega (arith, is, status));
          no_frame = bare.last;
          no_journals = all;
          sure_writes = λ room is. sure (room_for (s.left source) m (λ map. length (walk_text map seed players frames) ≤ k.room sink) given.begins room) refl;
          complete = λ some failed. absurd (failed.writing (risen refl));
          complete_refusal = λ none failed. absurd (failed.writing (risen refl));
        }
    written_walked (Err make_stop.NoMemory) status_is wrote part nothing rules risen sure =
        let status : r.status ≡ 5 = status_is in
        record {
          known = omega (arith, status);
          done = λ is. absurd (omega (arith, is, status));
          read = λ is. absurd (omega (arith, is, status));
          refused = λ is. absurd (omega (arith, is, status));
          refused_read = λ is. absurd (omega (arith, is, status));
          cut = λ is. absurd (omega (arith, is, status));
          nothing = λ is. nothing refl;
          no_frame = bare.last;
          no_journals = all;
          sure_writes = λ room is. absurd (omega (arith, is, status));
          complete = λ some failed. inl status;
          complete_refusal = λ none failed. inl status;
        }

    pub written_ends : (written : Result (Unit {0}) MakeStop) → r.status ≡ making.status_of written → (written ≡ Err make_stop.NoMemory → sink' ≡ sink) → k.faults sink ≤ k.faults sink'
        → (written ≡ Err make_stop.WriteFault → HasRisen (k.faults sink) (k.faults sink')) → OnOk written (k.faults sink' ≡ k.faults sink) → Ends s k source source' sink sink' r
    written_ends (Ok done) status_is nothing later risen same =
        let status : r.status ≡ 0 = status_is in
        ends_of s k 1 source source' sink sink' r (omega (arith, status)) (λ is. omega (arith, is, status)) (λ no. (bare.line, bare.fault, bare.rule))
        (uncounted_in 3 _ _ r.status given.reads (λ is. omega (arith, is, status))) (uncounted_in 4 _ _ r.status same (λ is. omega (arith, is, status)))
        (λ is. absurd (omega (arith, is, status))) (λ never is. omega (arith, is, status))
    written_ends (Err make_stop.WriteFault) status_is nothing later risen same =
        let status : r.status ≡ 4 = status_is in
        ends_of s k 1 source source' sink sink' r (omega (arith, status)) (λ is. omega (arith, is, status)) (λ no. (bare.line, bare.fault, bare.rule))
        (uncounted_in 3 _ _ r.status given.reads (λ is. omega (arith, is, status))) (counted_in 4 _ _ r.status status later (risen refl))
        (λ is. absurd (omega (arith, is, status))) (λ never is. omega (arith, is, status))
    written_ends (Err make_stop.NoMemory) status_is nothing later risen same =
        let status : r.status ≡ 5 = status_is in
        ends_of s k 1 source source' sink sink' r (omega (arith, status)) (λ is. omega (arith, is, status)) (λ no. (bare.line, bare.fault, bare.rule))
        (uncounted_in 3 _ _ r.status given.reads (λ is. omega (arith, is, status))) (uncounted_in 4 _ _ r.status (ap k.faults (nothing refl)) (λ is. omega (arith, is, status)))
        (λ is. absurd (omega (arith, is, status))) (λ never is. omega (arith, is, status))

-- ---- the reader stopped before any event

module _ {S K : Type 0} (s : sources.Ghosts S) (k : sinks.Ghosts K) (seed players frames : ℕ) (source source' : S) (sink : K) (r : Report) (last : r.last ≡ None) (all : r.all ≡ []) where
  pub stop_walked : (d : DemoStop) → StopsBefore s source source' d → r.status ≡ status_of (Err (stop_of d)) → refusal_of r ≡ place_of (Err (stop_of d))
      → IsWalked s k seed players frames source source' sink sink r
  stop_walked (Refused line rule_fault rule) before status_is place =
      let status : r.status ≡ 1 = status_is in
      record {
        known = omega (arith, status);
        done = λ is. absurd (omega (arith, is, status));
        read = λ is. absurd (omega (arith, is, status));
        refused = λ is. subst (λ (why : LineRefusal). IfSome (s.left source) (EndsAt start why)) (sym place) before.ends;
        refused_read = λ is. before.stops.read;
        cut = λ is. absurd (omega (arith, is, status));
        nothing = λ is. refl;
        no_frame = last;
        no_journals = all;
        sure_writes = λ room is. omega (arith, is, status);
        complete = λ some failed. absurd (ends_without_event (s.left source) _ before.ends some);
        complete_refusal = λ none failed. inr status;
      }
  stop_walked ReadFault before status_is place =
      let status : r.status ≡ 3 = status_is in
      record {
        known = omega (arith, status);
        done = λ is. absurd (omega (arith, is, status));
        read = λ is. absurd (omega (arith, is, status));
        refused = λ is. absurd (omega (arith, is, status));
        refused_read = λ is. absurd (omega (arith, is, status));
        cut = λ is. absurd (omega (arith, is, status));
        nothing = λ is. refl;
        no_frame = last;
        no_journals = all;
        sure_writes = λ room is. omega (arith, is, status);
        complete = λ some failed. absurd (failed.reading before.stops.fault);
        complete_refusal = λ none failed. absurd (failed.reading before.stops.fault);
      }
  stop_walked NoMemory before status_is place =
      let status : r.status ≡ 5 = status_is in
      record {
        known = omega (arith, status);
        done = λ is. absurd (omega (arith, is, status));
        read = λ is. absurd (omega (arith, is, status));
        refused = λ is. absurd (omega (arith, is, status));
        refused_read = λ is. absurd (omega (arith, is, status));
        cut = λ is. absurd (omega (arith, is, status));
        nothing = λ is. refl;
        no_frame = last;
        no_journals = all;
        sure_writes = λ room is. omega (arith, is, status);
        complete = λ some failed. inl status;
        complete_refusal = λ none failed. inl status;
      }
