-- What a report says of a recording whose reader stopped.
use Rattle.std.proofs.Common.{◌≡◌, ℕ, ◌≤◌, List, [], Option, Some, None, Err, IfSome, inl, inr, refl, sym, subst, arith}
use Rattle.std.specs.Prelude.{IsSomeAnd}
use Rattle.edge_io.specs.declared.source.Source as sources
use Rattle.edge_io.specs.declared.sink.Sink as sinks
use Rattle.edge_io.specs.Counts.{HasRisen}
use Rattle.demo_lines.specs.declared.line_refusal.LineRefusal.{LineRefusal}
use Rattle.demo_lines.specs.Bytes.{fault}
use Rattle.demo_lines.specs.declared.demo_stop.DemoStop.{DemoStop}
use Rattle.demo_lines.specs.declared.demo_stop.DemoStop.TheVariants.{Refused, ReadFault, NoMemory}
use Rattle.arena_engine.specs.declared.report.Report.{Report}
use Rattle.arena_engine.specs.Endings.{Ends}
use Rattle.arena_engine.specs.MapReads.{GivesStop}
use Rattle.arena_engine.specs.Planned.{IsPlanned}
use Rattle.arena_engine.specs.Reports.{refusal_of, status_of, place_of}
use Rattle.arena_engine.specs.StopOf.{stop_of}
use Rattle.arena_engine.proofs.Reported.{ends_of, placeless, uncounted_in, counted_in}

-- what has a fault isn't without one
pub not-faultless : (o : Option (List ℕ)) (of : List ℕ → Option LineRefusal) (why : LineRefusal) → IfSome o (λ bytes. of bytes ≡ Some why) → IsSomeAnd o (λ bytes. of bytes ≡ None) → ⊥
not-faultless None of why faulty none = absurd none
not-faultless (Some bytes) of why faulty none = cc

module _ {S K : Type 0} (s : sources.Ghosts S) (k : sinks.Ghosts K) (source source' : S) (sink : K) (r : Report) where
  -- ---- what holds of every command

  pub refusal-ends : r.status ≡ 1 → s.faults source' ≡ s.faults source → Ends s k source source' sink sink r
  refusal-ends status same =
      ends_of s k 1 source source' sink sink r (omega (arith, status)) (λ is. omega (arith, is, status)) (λ no. absurd (no status))
      (uncounted_in 3 _ _ r.status same (λ is. omega (arith, is, status))) (uncounted_in 4 _ _ r.status refl (λ is. omega (arith, is, status)))
      (λ is. absurd (omega (arith, is, status))) (λ sure is. omega (arith, is, status))

  pub read-fault-ends : r.status ≡ 3 → refusal_of r ≡ record { line = 0; fault = 0; rule = 0 } → s.ended source' ≡ s.ended source → HasRisen (s.faults source) (s.faults source') → s.faults source ≤ s.faults source'
      → (s.never_fails source → ⊥) → Ends s k source source' sink sink r
  read-fault-ends status place before_end risen later fails =
      ends_of s k 1 source source' sink sink r (omega (arith, status)) (λ is. omega (arith, is, status)) (λ no. placeless r place)
      (counted_in 3 _ _ r.status status later risen) (uncounted_in 4 _ _ r.status refl (λ is. omega (arith, is, status)))
      (λ is. before_end) (λ sure is. fails sure)

  pub memory-ends : r.status ≡ 5 → refusal_of r ≡ record { line = 0; fault = 0; rule = 0 } → s.faults source' ≡ s.faults source → Ends s k source source' sink sink r
  memory-ends status place same =
      ends_of s k 1 source source' sink sink r (omega (arith, status)) (λ is. omega (arith, is, status)) (λ no. placeless r place)
      (uncounted_in 3 _ _ r.status same (λ is. omega (arith, is, status))) (uncounted_in 4 _ _ r.status refl (λ is. omega (arith, is, status)))
      (λ is. absurd (omega (arith, is, status))) (λ sure is. omega (arith, is, status))

  -- ---- a recording that is read for its map

  pub stop-ends : (d : DemoStop) → GivesStop s source source' d → r.status ≡ status_of (Err (stop_of d)) → refusal_of r ≡ place_of (Err (stop_of d)) → Ends s k source source' sink sink r
  stop-ends (Refused line rule_fault rule) gives status place = refusal-ends status gives.reads
  stop-ends ReadFault gives status place = read-fault-ends status place gives.same_end gives.fault gives.later gives.fails
  stop-ends NoMemory gives status place = memory-ends status place gives.reads

  module _ (target : ℕ) (last : r.last ≡ None) (all : r.all ≡ []) where
    pub stop-planned : (d : DemoStop) → GivesStop s source source' d → r.status ≡ status_of (Err (stop_of d)) → refusal_of r ≡ place_of (Err (stop_of d)) → IsPlanned s k target source source' sink sink r
    stop-planned (Refused line rule_fault rule) gives status_is place =
        let status : r.status ≡ 1 = status_is in
        record {
          known = λ is. omega (arith, is, status);
          done = λ is. absurd (omega (arith, is, status));
          no_spawn = λ is fault_is. absurd (omega (arith, is, status));
          no_walk = λ is fault_is. absurd (omega (arith, is, status));
          read = λ is. absurd (omega (arith, is, status));
          refused = λ is. subst (λ (why : LineRefusal). IfSome (s.left source) (λ bytes. fault bytes ≡ Some why)) (sym place) gives.faulty;
          refused_read = λ is. gives.read;
          cut = λ is. absurd (omega (arith, is, status));
          nothing = λ is. refl;
          no_frame = last;
          no_journals = all;
          sure_writes = λ room is. omega (arith, is, status);
          sure_longest = λ room is. omega (arith, is, status);
          complete = λ none nothing. absurd (not-faultless (s.left source) fault _ gives.faulty none);
          complete_refusal = λ some nothing. inr status;
        }
    stop-planned ReadFault gives status_is place =
        let status : r.status ≡ 3 = status_is in
        record {
          known = λ is. omega (arith, is, status);
          done = λ is. absurd (omega (arith, is, status));
          no_spawn = λ is fault_is. absurd (omega (arith, is, status));
          no_walk = λ is fault_is. absurd (omega (arith, is, status));
          read = λ is. absurd (omega (arith, is, status));
          refused = λ is. absurd (omega (arith, is, status));
          refused_read = λ is. absurd (omega (arith, is, status));
          cut = λ is. absurd (omega (arith, is, status));
          nothing = λ is. refl;
          no_frame = last;
          no_journals = all;
          sure_writes = λ room is. omega (arith, is, status);
          sure_longest = λ room is. omega (arith, is, status);
          complete = λ none nothing. absurd (nothing.reading gives.fault);
          complete_refusal = λ some nothing. absurd (nothing.reading gives.fault);
        }
    stop-planned NoMemory gives status_is place =
        let status : r.status ≡ 5 = status_is in
        record {
          known = λ is. omega (arith, is, status);
          done = λ is. absurd (omega (arith, is, status));
          no_spawn = λ is fault_is. absurd (omega (arith, is, status));
          no_walk = λ is fault_is. absurd (omega (arith, is, status));
          read = λ is. absurd (omega (arith, is, status));
          refused = λ is. absurd (omega (arith, is, status));
          refused_read = λ is. absurd (omega (arith, is, status));
          cut = λ is. absurd (omega (arith, is, status));
          nothing = λ is. refl;
          no_frame = last;
          no_journals = all;
          sure_writes = λ room is. omega (arith, is, status);
          sure_longest = λ room is. omega (arith, is, status);
          complete = λ none nothing. inl (inl status);
          complete_refusal = λ some nothing. inl status;
        }
