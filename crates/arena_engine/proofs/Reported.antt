-- What a report says of a recording that was played, by how that ended.
use Rattle.std.proofs.Common.{◌≡◌, ℕ, true, false, List, [], Option, Some, None, Result, Ok, Err, IfSome, IsSomeAnd, IsSome, ◌≤◌, inl, inr, sym, ap, subst, arith}
use Rattle.edge_io.specs.declared.source.Source as sources
use Rattle.edge_io.specs.declared.sink.Sink as sinks
use Rattle.edge_io.specs.Counts.{HasRisen}
use Rattle.demo_lines.specs.declared.line_refusal.LineRefusal.{LineRefusal}
use Rattle.demo_lines.specs.Bytes.{fault}
use Rattle.playback.specs.Playbacks.{entries_if}
use Rattle.arena_engine.specs.declared.stop.Stop.{Stop}
use Rattle.arena_engine.specs.declared.stop.Stop.TheVariants.{Refused, ReadFault, WriteFault, NoMemory}
use Rattle.arena_engine.specs.declared.played.Played.{Played}
use Rattle.arena_engine.specs.declared.report.Report.{Report}
use Rattle.arena_engine.specs.Endings.{Counts, Ends}
use Rattle.arena_engine.specs.Output.{Writes}
use Rattle.arena_engine.specs.Feedings.{Last}
use Rattle.arena_engine.specs.Texts.{Texts}
use Rattle.arena_engine.specs.Played.{IsPlayedWith}
use Rattle.arena_engine.specs.PlayEnds.{PlaysAll, StopsAtRefusal, StopsAtReadFault, StopsAtWriteFault, StopsAtMemory, PlaysTo}
use Rattle.arena_engine.specs.Reports.{refusal_of, last_in, last_of, status_of, place_of, IsReportOf}
use Rattle.arena_engine.proofs.Taken.{AreSound, taken_in_all, taken_in_some, taken_before_refusal}

module _ (texts : Texts) (sound : AreSound texts) (t0 t1 : Option (List ℕ)) (last : Last) where
  -- a recording that was refused isn't without a fault
  not_faultless : (a : Option (List ℕ)) (why : LineRefusal) → IfSome a (λ bytes. Writes t0 t1 (texts.refused bytes why last)) → IsSomeAnd a (λ bytes. fault bytes ≡ None) → ⊥
  not_faultless None why written none = absurd none
  not_faultless (Some bytes) why written none = let is = sound.faulty bytes why last written.text written.holds in cc

  -- one that was played to its end has none
  not_faulty : (a : Option (List ℕ)) → IfSome a (λ bytes. Writes t0 t1 (texts.whole bytes last)) → IsSomeAnd a (λ bytes. IsSome (fault bytes)) → ⊥
  not_faulty None written some = absurd some
  not_faulty (Some bytes) written some = let never : false ≡ true = subst IsSome (sound.accepted bytes last written.text written.holds) some in cc

-- the first of two facts, and the second
pub first_of : (a : Option (List ℕ)) (P Q : List ℕ → Type 0) → IsSomeAnd a (λ bytes. P bytes × Q bytes) → IsSomeAnd a P
first_of None P Q both = absurd both
first_of (Some bytes) P Q both = both.0

pub second_of : (a : Option (List ℕ)) (P Q : List ℕ → Type 0) → IsSomeAnd a (λ bytes. P bytes × Q bytes) → IsSomeAnd a Q
second_of None P Q both = absurd both
second_of (Some bytes) P Q both = both.1

module _ {S K : Type 0} (s : sources.Ghosts S) (k : sinks.Ghosts K) (texts : Texts) (sound : AreSound texts) (source source' : S) (sink sink' : K) (r : Report) (all : r.all ≡ []) where
  all_reported : r.status ≡ 0 → PlaysAll s k texts source source' sink sink' (last_in r) → IsPlayedWith s k texts source source' sink sink' r
  all_reported status played = record {
    known = omega (arith, status);
    done = λ is. played.output;
    read = λ is. played.read;
    refused = λ is. absurd (omega (arith, is, status));
    refused_read = λ is. absurd (omega (arith, is, status));
    read_fault = λ is. absurd (omega (arith, is, status));
    write_fault = λ is. absurd (omega (arith, is, status));
    memory = λ is. absurd (omega (arith, is, status));
    taken_once = λ is. taken_in_all texts sound (s.left source) (k.taken sink) (k.taken sink') (last_in r) played.output;
    no_journals = all;
    sure_writes = λ roomy is. absurd (omega (arith, is, status));
    complete = λ none nothing. inr status;
    complete_refusal = λ some nothing. absurd (not_faulty texts sound (k.taken sink) (k.taken sink') (last_in r) (s.left source) played.output some);
    surely_complete = λ sure roomy. inr status;
    surely_refused = λ sure both. absurd (not_faulty texts sound (k.taken sink) (k.taken sink') (last_in r) (s.left source) played.output (first_of (s.left source) (λ bytes. IsSome (fault bytes)) (λ bytes. texts.has_room bytes (k.room sink)) both));
  }

  refusal_reported : r.status ≡ 1 → StopsAtRefusal s k texts source source' sink sink' (last_in r) (refusal_of r) → IsPlayedWith s k texts source source' sink sink' r
  refusal_reported status stopped = record {
    known = omega (arith, status);
    done = λ is. absurd (omega (arith, is, status));
    read = λ is. absurd (omega (arith, is, status));
    refused = λ is. stopped.output;
    refused_read = λ is. stopped.read;
    read_fault = λ is. absurd (omega (arith, is, status));
    write_fault = λ is. absurd (omega (arith, is, status));
    memory = λ is. absurd (omega (arith, is, status));
    taken_once = λ is. taken_before_refusal texts sound (s.left source) (k.taken sink) (k.taken sink') (last_in r) (refusal_of r) stopped.output;
    no_journals = all;
    sure_writes = λ roomy is. absurd (omega (arith, is, status));
    complete = λ none nothing. absurd (not_faultless texts sound (k.taken sink) (k.taken sink') (last_in r) (s.left source) (refusal_of r) stopped.output none);
    complete_refusal = λ some nothing. inr status;
    surely_complete = λ sure both. absurd (not_faultless texts sound (k.taken sink) (k.taken sink') (last_in r) (s.left source) (refusal_of r) stopped.output (first_of (s.left source) (λ bytes. fault bytes ≡ None) (λ bytes. texts.has_room bytes (k.room sink)) both));
    surely_refused = λ sure both. inr status;
  }

  read_fault_reported : r.status ≡ 3 → StopsAtReadFault s k texts source source' sink sink' (last_in r) → IsPlayedWith s k texts source source' sink sink' r
  read_fault_reported status stopped = record {
    known = omega (arith, status);
    done = λ is. absurd (omega (arith, is, status));
    read = λ is. absurd (omega (arith, is, status));
    refused = λ is. absurd (omega (arith, is, status));
    refused_read = λ is. absurd (omega (arith, is, status));
    read_fault = λ is. stopped.output;
    write_fault = λ is. absurd (omega (arith, is, status));
    memory = λ is. absurd (omega (arith, is, status));
    taken_once = λ is. taken_in_some texts sound (s.left source) (k.taken sink) (k.taken sink') (last_in r) stopped.front;
    no_journals = all;
    sure_writes = λ roomy is. absurd (omega (arith, is, status));
    complete = λ none nothing. absurd (nothing.reading stopped.fault);
    complete_refusal = λ some nothing. absurd (nothing.reading stopped.fault);
    surely_complete = λ sure roomy. absurd (stopped.fails sure);
    surely_refused = λ sure roomy. absurd (stopped.fails sure);
  }

  write_fault_reported : r.status ≡ 4 → StopsAtWriteFault s k texts source source' sink sink' (last_in r) → IsPlayedWith s k texts source source' sink sink' r
  write_fault_reported status stopped = record {
    known = omega (arith, status);
    done = λ is. absurd (omega (arith, is, status));
    read = λ is. absurd (omega (arith, is, status));
    refused = λ is. absurd (omega (arith, is, status));
    refused_read = λ is. absurd (omega (arith, is, status));
    read_fault = λ is. absurd (omega (arith, is, status));
    write_fault = λ is. stopped.output;
    memory = λ is. absurd (omega (arith, is, status));
    taken_once = λ is. absurd (is status);
    no_journals = all;
    sure_writes = λ roomy is. stopped.no_room roomy;
    complete = λ none nothing. absurd (nothing.writing stopped.fault);
    complete_refusal = λ some nothing. absurd (nothing.writing stopped.fault);
    surely_complete = λ sure both. absurd (stopped.no_room (second_of (s.left source) (λ bytes. fault bytes ≡ None) (λ bytes. texts.has_room bytes (k.room sink)) both));
    surely_refused = λ sure both. absurd (stopped.no_room (second_of (s.left source) (λ bytes. IsSome (fault bytes)) (λ bytes. texts.has_room bytes (k.room sink)) both));
  }

  memory_reported : r.status ≡ 5 → StopsAtMemory s k texts source source' sink sink' (last_in r) → IsPlayedWith s k texts source source' sink sink' r
  memory_reported status stopped = record {
    known = omega (arith, status);
    done = λ is. absurd (omega (arith, is, status));
    read = λ is. absurd (omega (arith, is, status));
    refused = λ is. absurd (omega (arith, is, status));
    refused_read = λ is. absurd (omega (arith, is, status));
    read_fault = λ is. absurd (omega (arith, is, status));
    write_fault = λ is. absurd (omega (arith, is, status));
    memory = λ is. stopped.output;
    taken_once = λ is. taken_in_some texts sound (s.left source) (k.taken sink) (k.taken sink') (last_in r) stopped.output;
    no_journals = all;
    sure_writes = λ roomy is. absurd (omega (arith, is, status));
    complete = λ none nothing. inl status;
    complete_refusal = λ some nothing. inl status;
    surely_complete = λ sure roomy. inl status;
    surely_refused = λ sure roomy. inl status;
  }

  -- whichever way its playing ended
  reported_as : (ended : Result Unit Stop) → r.status ≡ status_of ended → refusal_of r ≡ place_of ended → PlaysTo s k texts source source' sink sink' (last_in r) ended → IsPlayedWith s k texts source source' sink sink' r
  reported_as (Ok done) status place plays = all_reported status plays
  reported_as (Err (Refused why)) status place plays =
      refusal_reported status (subst (λ (why : LineRefusal). StopsAtRefusal s k texts source source' sink sink' (last_in r) why) (sym place) plays)
  reported_as (Err ReadFault) status place plays = read_fault_reported status plays
  reported_as (Err WriteFault) status place plays = write_fault_reported status plays
  reported_as (Err NoMemory) status place plays = memory_reported status plays

-- ---- what holds of every command

-- a count that didn't change, where the status isn't that of its fault
pub uncounted_in : (of_fault before after status : ℕ) → after ≡ before → (status ≡ of_fault → ⊥) → Counts of_fault before after status
uncounted_in of_fault before after status same other = record { later = omega (arith, same); fault = λ is. absurd (other is); uncounted = λ no. same }

-- a count that rose, where it is
pub counted_in : (of_fault before after status : ℕ) → status ≡ of_fault → before ≤ after → HasRisen before after → Counts of_fault before after status
counted_in of_fault before after status is later risen = record { later = later; fault = λ same. risen; uncounted = λ no. absurd (no is) }

module _ {S K : Type 0} (s : sources.Ghosts S) (k : sinks.Ghosts K) (workers : ℕ) (source source' : S) (sink sink' : K) (r : Report) where
  abbrev pub IsPlaceless : Type 0
  IsPlaceless = (r.line ≡ 0) × (r.fault ≡ 0) × (r.rule ≡ 0)

  -- a call whose words were those of a command ended
  pub ends_of : r.status ≤ 5 → (r.status ≡ 2 → ⊥) → ((r.status ≡ 1 → ⊥) → IsPlaceless) → Counts 3 (s.faults source) (s.faults source') r.status → Counts 4 (k.faults sink) (k.faults sink') r.status
      → (r.status ≡ 3 → s.ended source' ≡ s.ended source) → (s.never_fails source → r.status ≡ 3 → ⊥) → Ends s k source source' sink sink' r
  ends_of known words place reads writes before_end sure = record {
    known = omega (arith, known);
    place = λ no right. (place no).0;
    rule = λ no. (place no).2;
    fault = λ no found. (place no).1;
    no_way = λ is. absurd (omega (arith, is, known));
    untouched = λ is. absurd (words is);
    no_frame = λ is. absurd (words is);
    no_journals = λ is. absurd (words is);
    reads = reads;
    writes = writes;
    sure_reads = sure;
    before_end = before_end;
  }

-- a report without a refused line names no place
pub placeless : (r : Report) → refusal_of r ≡ record { line = 0; fault = 0; rule = 0 } → (r.line ≡ 0) × (r.fault ≡ 0) × (r.rule ≡ 0)
placeless r none = (ap (λ (w : LineRefusal). w.line) none, ap (λ (w : LineRefusal). w.fault) none, ap (λ (w : LineRefusal). w.rule) none)

module _ {S K : Type 0} (s : sources.Ghosts S) (k : sinks.Ghosts K) (texts : Texts) (source source' : S) (sink sink' : K) (r : Report) where
  all_ends : r.status ≡ 0 → IsPlaceless s k 1 source source' sink sink' r → PlaysAll s k texts source source' sink sink' (last_in r) → Ends s k source source' sink sink' r
  all_ends status place played =
      ends_of s k 1 source source' sink sink' r (omega (arith, status)) (λ is. omega (arith, is, status)) (λ no. place)
      (uncounted_in 3 _ _ r.status played.reads (λ is. omega (arith, is, status))) (uncounted_in 4 _ _ r.status played.writes (λ is. omega (arith, is, status)))
      (λ is. absurd (omega (arith, is, status))) (λ sure is. omega (arith, is, status))

  refusal_ends : r.status ≡ 1 → StopsAtRefusal s k texts source source' sink sink' (last_in r) (refusal_of r) → Ends s k source source' sink sink' r
  refusal_ends status stopped =
      ends_of s k 1 source source' sink sink' r (omega (arith, status)) (λ is. omega (arith, is, status)) (λ no. absurd (no status))
      (uncounted_in 3 _ _ r.status stopped.reads (λ is. omega (arith, is, status))) (uncounted_in 4 _ _ r.status stopped.writes (λ is. omega (arith, is, status)))
      (λ is. absurd (omega (arith, is, status))) (λ sure is. omega (arith, is, status))

  read_fault_ends : r.status ≡ 3 → IsPlaceless s k 1 source source' sink sink' r → StopsAtReadFault s k texts source source' sink sink' (last_in r) → Ends s k source source' sink sink' r
  read_fault_ends status place stopped =
      ends_of s k 1 source source' sink sink' r (omega (arith, status)) (λ is. omega (arith, is, status)) (λ no. place)
      (counted_in 3 _ _ r.status status stopped.later stopped.fault) (uncounted_in 4 _ _ r.status stopped.writes (λ is. omega (arith, is, status)))
      (λ is. stopped.same_end) (λ sure is. stopped.fails sure)

  write_fault_ends : r.status ≡ 4 → IsPlaceless s k 1 source source' sink sink' r → StopsAtWriteFault s k texts source source' sink sink' (last_in r) → Ends s k source source' sink sink' r
  write_fault_ends status place stopped =
      ends_of s k 1 source source' sink sink' r (omega (arith, status)) (λ is. omega (arith, is, status)) (λ no. place)
      (uncounted_in 3 _ _ r.status stopped.reads (λ is. omega (arith, is, status))) (counted_in 4 _ _ r.status status stopped.later stopped.fault)
      (λ is. absurd (omega (arith, is, status))) (λ sure is. omega (arith, is, status))

  memory_ends : r.status ≡ 5 → IsPlaceless s k 1 source source' sink sink' r → StopsAtMemory s k texts source source' sink sink' (last_in r) → Ends s k source source' sink sink' r
  memory_ends status place stopped =
      ends_of s k 1 source source' sink sink' r (omega (arith, status)) (λ is. omega (arith, is, status)) (λ no. place)
      (uncounted_in 3 _ _ r.status stopped.reads (λ is. omega (arith, is, status))) (uncounted_in 4 _ _ r.status stopped.writes (λ is. omega (arith, is, status)))
      (λ is. absurd (omega (arith, is, status))) (λ sure is. omega (arith, is, status))

  -- whichever way its playing ended
  ends_as : (ended : Result Unit Stop) → r.status ≡ status_of ended → refusal_of r ≡ place_of ended → PlaysTo s k texts source source' sink sink' (last_in r) ended → Ends s k source source' sink sink' r
  ends_as (Ok done) status place plays = all_ends status (placeless r place) plays
  ends_as (Err (Refused why)) status place plays =
      refusal_ends status (subst (λ (why : LineRefusal). StopsAtRefusal s k texts source source' sink sink' (last_in r) why) (sym place) plays)
  ends_as (Err ReadFault) status place plays = read_fault_ends status (placeless r place) plays
  ends_as (Err WriteFault) status place plays = write_fault_ends status (placeless r place) plays
  ends_as (Err NoMemory) status place plays = memory_ends status (placeless r place) plays

-- ---- the report of a recording that was played

module _ {S K : Type 0} (s : sources.Ghosts S) (k : sinks.Ghosts K) (texts : Texts) (source source' : S) (sink sink' : K) (played : Played) (r : Report) (is : IsReportOf played r)
    (plays : PlaysTo s k texts source source' sink sink' (last_of played) played.ended) where
  plays_in_report : PlaysTo s k texts source source' sink sink' (last_in r) played.ended
  plays_in_report =
      let same : last_in r ≡ last_of played = λ i. record { order = is.order i; journal = entries_if (is.last i) } in
      subst (λ (last : Last). PlaysTo s k texts source source' sink sink' last played.ended) (sym same) plays

  pub played_reported : AreSound texts → IsPlayedWith s k texts source source' sink sink' r
  played_reported sound = reported_as s k texts sound source source' sink sink' r is.no_journals played.ended is.status is.place plays_in_report

  pub played_ends : Ends s k source source' sink sink' r
  played_ends = ends_as s k texts source source' sink sink' r played.ended is.status is.place plays_in_report
