-- What the report says of an input that was judged.
use Rattle.std.proofs.Common.{◌≡◌, ◌⊎◌, inl, inr, ℕ, List, Option, Some, None, Result, Ok, Err, IfSome, IsSome, refl, sym, subst, arith}
use Rattle.std.specs.Prelude.{IsSomeAnd, IfOk, IfErr}
use Rattle.edge_io.specs.declared.source.Source as sources
use Rattle.edge_io.specs.declared.sink.Sink as sinks
use Rattle.demo_lines.specs.declared.line_refusal.LineRefusal.{LineRefusal}
use Rattle.demo_lines.specs.Bytes.{fault_within}
use Rattle.demo_lines.specs.declared.demo_stop.DemoStop.{DemoStop}
use Rattle.demo_lines.specs.declared.demo_stop.DemoStop.TheVariants.{Refused, ReadFault, NoMemory}
use Rattle.transcript_check.specs.declared.verdict.Verdict.{Verdict}
use Rattle.transcript_check.specs.declared.verdict.Verdict.TheVariants.{Right, Wrong}
use Rattle.transcript_check.specs.Audits.{IsLogJudged, JudgesLog}
use Rattle.transcript_check.specs.Looked.{TakesOutput, TakesFront, ReadsTranscript}
use Rattle.transcript_check.specs.Verdicts.{IsJudged, Judges, StopsChecking}
use Rattle.arena_engine.specs.declared.commands.check.TheConstants.{MOST_CHECKED_FRAMES}
use Rattle.arena_engine.specs.declared.report.Report.{Report}
use Rattle.arena_engine.specs.Checked.{IsChecked, IsAudited, TakesWholeLog, TakesLogFront}
use Rattle.arena_engine.specs.Endings.{Ends}
use Rattle.arena_engine.specs.Judgments.{ReportsRight, ReportsWrong, ReportsStop, ReportsFound, IsJudgedBy}
use Rattle.arena_engine.proofs.Reported.{ends_of, uncounted_in}
use Rattle.arena_engine.proofs.Stopped.{not-faultless, refusal-ends, read-fault-ends, memory-ends}

-- what was judged has no fault
none-refused : (limit : ℕ) (P : List ℕ → Type 0) (o : Option (List ℕ)) → ((bytes : List ℕ) → P bytes → fault_within limit bytes ≡ None) → IfSome o P → IsSomeAnd o (λ bytes. IsSome (fault_within limit bytes)) → ⊥
none-refused limit P None accepted judged has = absurd has
none-refused limit P (Some bytes) accepted judged has = let never = rw (accepted bytes judged) at has in cc

-- what was read for a verdict
abbrev pub ReadsFor : Type 0 → Type 0 → Verdict → Type 0
ReadsFor right wrong (Right frames moves) = right
ReadsFor right wrong (Wrong line) = wrong

module _ {S K : Type 0} (s : sources.Ghosts S) (k : sinks.Ghosts K) (limit : ℕ) (Judged : Verdict → List ℕ → Type 0) (ReadsRight ReadsWrong : Type 0)
    (source source' : S) (sink : K) (r : Report) where
  -- the input has this verdict
  pub record Finds (v : Verdict) : Type 0 where
    pub judged : IfSome (s.left source) (Judged v)
    pub read : ReadsFor ReadsRight ReadsWrong v
    pub reads : s.faults source' ≡ s.faults source

  -- ---- what the command's record says

  module _ (accepted : (v : Verdict) (bytes : List ℕ) → Judged v bytes → fault_within limit bytes ≡ None) where
    right-judged : (sink' : K) (frames moves : ℕ) → Finds (Right frames moves) → ReportsRight k sink sink' r frames moves
        → IsJudgedBy s k limit Judged ReadsRight ReadsWrong source source' sink sink' r
    right-judged sink' frames moves found reported = by reported.status
      where
        by : (r.status ≡ 0) ⊎ (r.status ≡ 4) → IsJudgedBy s k limit Judged ReadsRight ReadsWrong source source' sink sink' r
        by (inl status) = record {
          known = omega (arith, status);
          done = λ st. record { frames = frames; moves = moves; judged = found.judged; line = reported.done status };
          read = λ st. found.read;
          wrong = λ st. absurd (omega (arith, status, st));
          wrong_read = λ st. absurd (omega (arith, status, st));
          refused = λ st. absurd (omega (arith, status, st));
          refused_read = λ st. absurd (omega (arith, status, st));
          cut = λ st. absurd (omega (arith, status, st));
          nothing = λ st. absurd (omega (arith, status, st));
          no_frame = reported.bare.last;
          no_journals = reported.all;
          sure_writes = reported.sure;
          complete = λ has failed. inl (inr status);
          complete_refusal = λ has failed. absurd (none-refused limit (Judged (Right frames moves)) (s.left source) (accepted (Right frames moves)) found.judged has);
        }
        by (inr status) = record {
          known = omega (arith, status);
          done = λ st. absurd (omega (arith, status, st));
          read = λ st. found.read;
          wrong = λ st. absurd (omega (arith, status, st));
          wrong_read = λ st. absurd (omega (arith, status, st));
          refused = λ st. absurd (omega (arith, status, st));
          refused_read = λ st. absurd (omega (arith, status, st));
          cut = λ st. record { frames = frames; moves = moves; judged = found.judged; line = reported.cut status };
          nothing = λ st. absurd (omega (arith, status, st));
          no_frame = reported.bare.last;
          no_journals = reported.all;
          sure_writes = reported.sure;
          complete = λ has failed. absurd (failed.writing (reported.counts.fault status));
          complete_refusal = λ has failed. absurd (failed.writing (reported.counts.fault status));
        }

    wrong-judged : (line : ℕ) → Finds (Wrong line) → ReportsWrong k sink sink r line → IsJudgedBy s k limit Judged ReadsRight ReadsWrong source source' sink sink r
    wrong-judged line found reported = record {
      known = omega (arith, reported.status);
      done = λ st. absurd (omega (arith, reported.status, st));
      read = λ st. absurd (omega (arith, reported.status, st));
      wrong = λ st. subst (λ (n : ℕ). IfSome (s.left source) (Judged (Wrong n))) (sym reported.line_is) found.judged;
      wrong_read = λ st. found.read;
      refused = λ st. absurd (omega (arith, reported.status, st));
      refused_read = λ st. absurd (omega (arith, reported.status, st));
      cut = λ st. absurd (omega (arith, reported.status, st));
      nothing = λ st. refl;
      no_frame = reported.last;
      no_journals = reported.all;
      sure_writes = λ room st. omega (arith, reported.status, st);
      complete = λ has failed. inr reported.status;
      complete_refusal = λ has failed. absurd (none-refused limit (Judged (Wrong line)) (s.left source) (accepted (Wrong line)) found.judged has);
    }

  -- the reader stopped
  stop-judged : (d : DemoStop) → StopsChecking s limit source source' d → ReportsStop k sink sink r d → IsJudgedBy s k limit Judged ReadsRight ReadsWrong source source' sink sink r
  stop-judged (Refused line rule_fault rule) stops reported =
      let status : r.status ≡ 1 = reported.status in
      record {
        known = omega (arith, status);
        done = λ st. absurd (omega (arith, status, st));
        read = λ st. absurd (omega (arith, status, st));
        wrong = λ st. absurd (omega (arith, status, st));
        wrong_read = λ st. absurd (omega (arith, status, st));
        refused = λ st. subst (λ (why : LineRefusal). IfSome (s.left source) (λ bytes. fault_within limit bytes ≡ Some why)) (sym reported.place) stops.faulty;
        refused_read = λ st. stops.read;
        cut = λ st. absurd (omega (arith, status, st));
        nothing = λ st. refl;
        no_frame = reported.last;
        no_journals = reported.all;
        sure_writes = λ room st. omega (arith, status, st);
        complete = λ none failed. absurd (not-faultless (s.left source) (fault_within limit) _ stops.faulty none);
        complete_refusal = λ some failed. inr status;
      }
  stop-judged ReadFault stops reported =
      let status : r.status ≡ 3 = reported.status in
      record {
        known = omega (arith, status);
        done = λ st. absurd (omega (arith, status, st));
        read = λ st. absurd (omega (arith, status, st));
        wrong = λ st. absurd (omega (arith, status, st));
        wrong_read = λ st. absurd (omega (arith, status, st));
        refused = λ st. absurd (omega (arith, status, st));
        refused_read = λ st. absurd (omega (arith, status, st));
        cut = λ st. absurd (omega (arith, status, st));
        nothing = λ st. refl;
        no_frame = reported.last;
        no_journals = reported.all;
        sure_writes = λ room st. omega (arith, status, st);
        complete = λ none failed. absurd (failed.reading stops.fault);
        complete_refusal = λ some failed. absurd (failed.reading stops.fault);
      }
  stop-judged NoMemory stops reported =
      let status : r.status ≡ 5 = reported.status in
      record {
        known = omega (arith, status);
        done = λ st. absurd (omega (arith, status, st));
        read = λ st. absurd (omega (arith, status, st));
        wrong = λ st. absurd (omega (arith, status, st));
        wrong_read = λ st. absurd (omega (arith, status, st));
        refused = λ st. absurd (omega (arith, status, st));
        refused_read = λ st. absurd (omega (arith, status, st));
        cut = λ st. absurd (omega (arith, status, st));
        nothing = λ st. refl;
        no_frame = reported.last;
        no_journals = reported.all;
        sure_writes = λ room st. omega (arith, status, st);
        complete = λ none failed. inl (inl status);
        complete_refusal = λ some failed. inl status;
      }

  pub found-judged : ((v : Verdict) (bytes : List ℕ) → Judged v bytes → fault_within limit bytes ≡ None) → (sink' : K) (found : Result Verdict DemoStop) → IfOk found Finds
      → IfErr found (StopsChecking s limit source source') → ReportsFound k sink sink' r found → IsJudgedBy s k limit Judged ReadsRight ReadsWrong source source' sink sink' r
  found-judged accepted sink' (Ok (Right frames moves)) finds stops reported = right-judged accepted sink' frames moves finds reported
  found-judged accepted sink' (Ok (Wrong line)) finds stops reported =
      let P : K → Type 0 = λ new. ReportsWrong k sink new r line → IsJudgedBy s k limit Judged ReadsRight ReadsWrong source source' sink new r in
      subst P (sym reported.same) (wrong-judged accepted line finds) reported
  found-judged accepted sink' (Err stop) finds stops reported =
      let P : K → Type 0 = λ new. ReportsStop k sink new r stop → IsJudgedBy s k limit Judged ReadsRight ReadsWrong source source' sink new r in
      subst P (sym reported.same) (stop-judged stop stops) reported

  -- ---- what holds of every command

  right-ends : (sink' : K) (frames moves : ℕ) → Finds (Right frames moves) → ReportsRight k sink sink' r frames moves → Ends s k source source' sink sink' r
  right-ends sink' frames moves found reported =
      let status = reported.status in
      ends_of s k 1 source source' sink sink' r (omega (arith, status)) (λ is. omega (arith, is, status)) (λ no. (reported.bare.line, reported.bare.fault, reported.bare.rule))
      (uncounted_in 3 _ _ r.status found.reads (λ is. omega (arith, is, status))) reported.counts
      (λ is. absurd (omega (arith, is, status))) (λ sure is. omega (arith, is, status))

  wrong-ends : (line : ℕ) → Finds (Wrong line) → ReportsWrong k sink sink r line → Ends s k source source' sink sink r
  wrong-ends line found reported =
      let status = reported.status in
      record {
        known = omega (arith, status);
        place = λ no right. absurd (right status);
        rule = λ no. reported.place.1;
        fault = λ no other. reported.place.0;
        no_way = λ is. absurd (omega (arith, is, status));
        untouched = λ is. absurd (omega (arith, is, status));
        no_frame = λ is. absurd (omega (arith, is, status));
        no_journals = λ is. absurd (omega (arith, is, status));
        reads = uncounted_in 3 _ _ r.status found.reads (λ is. omega (arith, is, status));
        writes = uncounted_in 4 _ _ r.status refl (λ is. omega (arith, is, status));
        sure_reads = λ sure is. omega (arith, is, status);
        before_end = λ is. absurd (omega (arith, is, status));
      }

  stop-ends : (d : DemoStop) → StopsChecking s limit source source' d → ReportsStop k sink sink r d → Ends s k source source' sink sink r
  stop-ends (Refused line rule_fault rule) stops reported = refusal-ends s k source source' sink r reported.status stops.reads
  stop-ends ReadFault stops reported = read-fault-ends s k source source' sink r reported.status reported.place stops.before_end stops.fault stops.later stops.fails
  stop-ends NoMemory stops reported = memory-ends s k source source' sink r reported.status reported.place stops.reads

  pub found-ends : (sink' : K) (found : Result Verdict DemoStop) → IfOk found Finds → IfErr found (StopsChecking s limit source source') → ReportsFound k sink sink' r found → Ends s k source source' sink sink' r
  found-ends sink' (Ok (Right frames moves)) finds stops reported = right-ends sink' frames moves finds reported
  found-ends sink' (Ok (Wrong line)) finds stops reported =
      let P : K → Type 0 = λ new. ReportsWrong k sink new r line → Ends s k source source' sink new r in
      subst P (sym reported.same) (wrong-ends line finds) reported
  found-ends sink' (Err stop) finds stops reported =
      let P : K → Type 0 = λ new. ReportsStop k sink new r stop → Ends s k source source' sink new r in
      subst P (sym reported.same) (stop-ends stop stops) reported

-- ---- the two commands

module _ {S K : Type 0} (s : sources.Ghosts S) (k : sinks.Ghosts K) (source source' : S) (sink sink' : K) (r : Report) (found : Result Verdict DemoStop) (reported : ReportsFound k sink sink' r found) where
  module _ (ok : IfOk found (Judges s MOST_CHECKED_FRAMES source source')) (err : IfErr found (StopsChecking s MOST_CHECKED_FRAMES source source')) where
    abbrev checked : Verdict → Type 0
    checked v = Finds s k MOST_CHECKED_FRAMES (IsJudged MOST_CHECKED_FRAMES) (ReadsTranscript s MOST_CHECKED_FRAMES source source' TakesOutput)
        (ReadsTranscript s MOST_CHECKED_FRAMES source source' TakesFront) source source' sink r v

    output-found : (f : Result Verdict DemoStop) → IfOk f (Judges s MOST_CHECKED_FRAMES source source') → IfOk f checked
    output-found (Ok (Right frames moves)) j = record { judged = j.judged; read = j.read; reads = j.reads }
    output-found (Ok (Wrong line)) j = record { judged = j.judged; read = j.read; reads = j.reads }
    output-found (Err stop) j = tt

    pub transcript-checked : IsChecked s k source source' sink sink' r
    transcript-checked = found-judged s k MOST_CHECKED_FRAMES (IsJudged MOST_CHECKED_FRAMES) _ _ source source' sink r (λ v bytes judged. judged.accepted) sink' found (output-found found ok) err reported

    pub check-ends : Ends s k source source' sink sink' r
    check-ends = found-ends s k MOST_CHECKED_FRAMES (IsJudged MOST_CHECKED_FRAMES) _ _ source source' sink r sink' found (output-found found ok) err reported

  module _ (ok : IfOk found (JudgesLog s source source')) (err : IfErr found (StopsChecking s 0 source source')) where
    abbrev audited : Verdict → Type 0
    audited v = Finds s k 0 IsLogJudged (ReadsTranscript s 0 source source' TakesWholeLog) (ReadsTranscript s 0 source source' TakesLogFront) source source' sink r v

    log-found : (f : Result Verdict DemoStop) → IfOk f (JudgesLog s source source') → IfOk f audited
    log-found (Ok (Right frames moves)) j = record { judged = j.judged; read = j.read; reads = j.reads }
    log-found (Ok (Wrong line)) j = record { judged = j.judged; read = j.read; reads = j.reads }
    log-found (Err stop) j = tt

    pub log-audited : IsAudited s k source source' sink sink' r
    log-audited = found-judged s k 0 IsLogJudged _ _ source source' sink r (λ v bytes judged. judged.accepted) sink' found (log-found found ok) err reported

    pub audit-ends : Ends s k source source' sink sink' r
    audit-ends = found-ends s k 0 IsLogJudged _ _ source source' sink r sink' found (log-found found ok) err reported
