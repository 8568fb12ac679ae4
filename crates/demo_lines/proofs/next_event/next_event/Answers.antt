use Rattle.std.proofs.Common.{◌≡◌, true, false, inl, inr, Err, option_to_list, refl, sym, ap, ◌∙◌, arith}
use Rattle.std.proofs.lemmas.Result.{err_from_is_err_and}
use Rattle.edge_io.proofs.ReadingAhead.{HasNotReadAhead-trans}
use Rattle.demo_lines.specs.Kinds.{event_of_kind, event_if}
use Rattle.demo_lines.specs.Known.{is_map_whole}
use Rattle.demo_lines.specs.Outcomes.{reader_without_stop, reader_after, IsRefusedBy, WantsMemory}
use Rattle.demo_lines.proofs.MapGiven.{so_far-line, keeps_map}
use Rattle.demo_lines.proofs.Consuming.{Refuses-long, refused_by_length, ReadsFront-drained}
use Rattle.demo_lines.proofs.Walks.{walk_event, walk_on, walk_refused_at, walk_taken_at, walk_quiet, walk_cut, walk_takes_cut, end_event, refused_last, taken_last}
use Rattle.demo_lines.proofs.Walks.{on_refused, on_read_fault, on_no_memory, never, whole_after, stage_after-line, goes_on-quiet}
use Rattle.demo_lines.proofs.next_event.next_event.Goals as goal

-- ---- a line

pub returns-in_err-kind-in-Ok-Whole-clause-stop : goal.returns-in_err-kind-in-Ok-Whole-clause-stop
returns-in_err-kind-in-Ok-Whole-clause-stop g c =
    let inv = c.loop-reading.invariant in
    let gives = rw c.in-Ok-Whole.field-0-is at c.in-Ok-Whole.ensures.whole in
    let line = rw (← c.as_slice.ensures.value) at gives in
    let needed = rw c.in-Ok-Whole.field-0-is at c.in-Ok-Whole.ensures.needed in
    let before_end = rw c.in-Ok-Whole.field-0-is at c.in-Ok-Whole.ensures.before_end in
    let same = c.in-Ok-Whole.ensures.faults.uncounted ∙ inv.uncounted in
    let stops = c.in_err-kind-in-Ok-Whole.ensures in
    let old = reader_without_stop c.args.lines.now c.args.reading.now c.args.is_cut.now in
    let new = reader_after c.next_line.new.self c.take_line.new.reading c.loop-reading.is_cut (Err c.in_err-kind-in-Ok-Whole.field-0.0) in
    let p = err_from_is_err_and c.from_residual.result c.from_residual.ensures.1 in
    rw (p.1, p.2)
    (record {
      refused = on_refused _ _ (IsRefusedBy g.S.Source old new c.args.source.now c.next_line.new.source)
          (λ why at. record {
            refused = λ open'. walk_refused_at _ _ _ _ _ _ c.as_slice.result.now why inv.walks line at;
            taken = λ open'. walk_taken_at _ _ _ _ _ _ c.as_slice.result.now why _ _ inv.walks line at
                (HasNotReadAhead-trans g.S.Source.last _ _ _ _ _ _ inv.needed needed, before_end ∙ inv.before_end);
            uncounted = same;
          })
          stops.refused;
      read_fault = on_read_fault _ _ stops.no_fault;
      memory = on_no_memory _ _ (WantsMemory g.S.Source old new c.args.source.now c.next_line.new.source)
          (λ quiet. record {
            memory = λ open'. walk_quiet _ _ _ _ _ c.as_slice.result.now inv.walks line quiet.1;
            no_end = before_end ∙ inv.before_end;
            uncounted = same;
          })
          stops.memory;
      later = omega (arith, same);
      keeps = λ sure. c.next_line.ensures.keeps (inv.keeps sure);
      err = refl;
      cut_kept = inv.cut;
      holds = c.take_line.ensures.holds;
    })

pub returns-in-Some-clause-event : goal.returns-in-Some-clause-event
returns-in-Some-clause-event g c =
    let inv = c.loop-reading.invariant in
    let gives = rw c.in-Ok-Whole.field-0-is at c.in-Ok-Whole.ensures.whole in
    let line = rw (← c.as_slice.ensures.value) at gives in
    let needed = rw c.in-Ok-Whole.field-0-is at c.in-Ok-Whole.ensures.needed in
    let before_end = rw c.in-Ok-Whole.field-0-is at c.in-Ok-Whole.ensures.before_end in
    let taken = c.in_ok-kind-in-Ok-Whole.ensures in
    let event = event_of_kind c.in-Some.kind c.take_line.new.arrival in
    let given = sym taken.event ∙ ap (λ kind. option_to_list (event_if kind c.take_line.new.arrival)) c.in-Some.is in
    let stage = stage_after-line c.loop-reading.reading c.take_line.new.reading c.as_slice.result.now event taken.next given in
    record {
      event = λ open'. walk_event _ c.loop-reading.reading _ _ _ _ c.as_slice.result.now event inv.walks line taken.next given;
      stage = stage;
      fewer = λ open'. omega (arith, taken.fewer, inv.walks.fewer);
      needed = λ open'. inl (HasNotReadAhead-trans g.S.Source.last _ _ _ _ _ _ inv.needed needed, before_end ∙ inv.before_end);
      cut = λ open'. inl (inv.cut, before_end ∙ inv.before_end);
      map = keeps_map _ c.take_line.new.reading
          (so_far-line _ c.loop-reading.reading c.take_line.new.reading c.as_slice.result.now inv.map inv.walks.holds taken.next taken.goes_on)
          (ap is_map_whole stage ∙ whole_after event);
      uncounted = c.in-Ok-Whole.ensures.faults.uncounted ∙ inv.uncounted;
      keeps = λ sure. c.next_line.ensures.keeps (inv.keeps sure);
      ok = refl;
      holds = c.take_line.ensures.holds;
    }

pub loop-reading-preserved : goal.loop-reading-preserved
loop-reading-preserved g c =
    let inv = c.loop-reading.invariant in
    let gives = rw c.in-Ok-Whole.field-0-is at c.in-Ok-Whole.ensures.whole in
    let line = rw (← c.as_slice.ensures.value) at gives in
    let needed = rw c.in-Ok-Whole.field-0-is at c.in-Ok-Whole.ensures.needed in
    let before_end = rw c.in-Ok-Whole.field-0-is at c.in-Ok-Whole.ensures.before_end in
    let given = sym c.in_ok-kind-in-Ok-Whole.ensures.event
    ∙ ap (λ kind. option_to_list (event_if kind c.take_line.new.arrival)) c.in_default.is in
    let going = goes_on-quiet c.loop-reading.reading c.take_line.new.reading c.as_slice.result.now inv.walks.going c.in_ok-kind-in-Ok-Whole.ensures.next given c.in_ok-kind-in-Ok-Whole.ensures.goes_on in
    record {
      map = so_far-line _ c.loop-reading.reading c.take_line.new.reading c.as_slice.result.now inv.map inv.walks.holds c.in_ok-kind-in-Ok-Whole.ensures.next
          c.in_ok-kind-in-Ok-Whole.ensures.goes_on;
      walks = walk_on _ c.loop-reading.reading _ _ _ _ c.as_slice.result.now inv.walks line c.in_ok-kind-in-Ok-Whole.ensures.next given c.take_line.ensures.holds going c.in_ok-kind-in-Ok-Whole.ensures.fewer;
      needed = HasNotReadAhead-trans g.S.Source.last _ _ _ _ _ _ inv.needed needed;
      before_end = before_end ∙ inv.before_end;
      cut = inv.cut;
      uncounted = c.in-Ok-Whole.ensures.faults.uncounted ∙ inv.uncounted;
      keeps = λ sure. c.next_line.ensures.keeps (inv.keeps sure);
    }

pub returns-in-Ok-Long-clause-stop : goal.returns-in-Ok-Long-clause-stop
returns-in-Ok-Long-clause-stop g c =
    let inv = c.loop-reading.invariant in
    let gives = rw c.in-Ok-Long.field-0-is at c.in-Ok-Long.ensures.long in
    let needed = rw c.in-Ok-Long.field-0-is at c.in-Ok-Long.ensures.needed in
    let before_end = rw c.in-Ok-Long.field-0-is at c.in-Ok-Long.ensures.before_end in
    let same = c.in-Ok-Long.ensures.faults.uncounted ∙ inv.uncounted in
    rw c.refused_after.ensures
    (record {
      refused = record {
        refused = λ open'. refused_by_length _ c.loop-reading.reading _ _ _ c.next_line.new.line inv.walks.reads gives inv.walks.going;
        taken = λ open'. Refuses-long _ c.loop-reading.reading _ _ _ c.next_line.new.line _ _ inv.walks.reads inv.walks.going gives
            (HasNotReadAhead-trans g.S.Source.last _ _ _ _ _ _ inv.needed needed, before_end ∙ inv.before_end);
        uncounted = same;
      };
      read_fault = tt;
      memory = tt;
      later = omega (arith, same);
      keeps = λ sure. c.next_line.ensures.keeps (inv.keeps sure);
      err = refl;
      cut_kept = inv.cut;
      holds = inv.walks.holds;
    })

-- ---- what the input ended with

pub returns-in-Ok-Ended-clause-event : goal.returns-in-Ok-Ended-clause-event
returns-in-Ok-Ended-clause-event g c =
    let inv = c.loop-reading.invariant in
    let gives = rw c.in-Ok-Ended.field-0-is at c.in-Ok-Ended.ensures.ended in
    let last = rw (← c.as_slice-in-Ok-Ended.ensures.value) at gives in
    let at_end = rw c.in-Ok-Ended.field-0-is at c.in-Ok-Ended.ensures.at_end in
    let line = c.as_slice-in-Ok-Ended.result.now in
    let event = event_of_kind c.in_ok-kind-in-Ok-Ended.kind c.take_last.new.arrival in
    let taken = c.in_ok-kind-in-Ok-Ended.ensures in
    let is_end = end_event c.loop-reading.reading line event taken.end taken.event in
    let stage = stage_after-line c.loop-reading.reading c.take_last.new.reading line event taken.next taken.event in
    record {
      event = λ open'. walk_cut _ c.loop-reading.reading _ _ _ _ line _ event inv.walks last taken.end taken.next taken.event;
      stage = stage;
      fewer = λ open'. omega (arith, taken.fewer, inv.walks.fewer);
      needed = λ open'. inr (is_end, walk_takes_cut _ c.loop-reading.reading _ _ _ line _ inv.walks last taken.end, at_end);
      cut = λ open'. inr (is_end, refl, gives.at_end);
      map = keeps_map _ c.take_last.new.reading
          (so_far-line _ c.loop-reading.reading c.take_last.new.reading line inv.map inv.walks.holds taken.next taken.goes_on)
          (ap is_map_whole stage ∙ whole_after event);
      uncounted = c.in-Ok-Ended.ensures.faults.uncounted ∙ inv.uncounted;
      keeps = λ sure. c.next_line.ensures.keeps (inv.keeps sure);
      ok = refl;
      holds = c.take_last.ensures.holds;
    }

pub returns-in_err-kind-in-Ok-Ended-clause-stop : goal.returns-in_err-kind-in-Ok-Ended-clause-stop
returns-in_err-kind-in-Ok-Ended-clause-stop g c =
    let inv = c.loop-reading.invariant in
    let gives = rw c.in-Ok-Ended.field-0-is at c.in-Ok-Ended.ensures.ended in
    let last = rw (← c.as_slice-in-Ok-Ended.ensures.value) at gives in
    let at_end = rw c.in-Ok-Ended.field-0-is at c.in-Ok-Ended.ensures.at_end in
    let line = c.as_slice-in-Ok-Ended.result.now in
    let same = c.in-Ok-Ended.ensures.faults.uncounted ∙ inv.uncounted in
    let stops = c.in_err-kind-in-Ok-Ended.ensures in
    let old = reader_without_stop c.args.lines.now c.args.reading.now c.args.is_cut.now in
    let new = reader_after c.next_line.new.self c.take_last.new.reading c.loop-reading.is_cut (Err c.in_err-kind-in-Ok-Ended.field-0.0) in
    let p = err_from_is_err_and c.from_residual-in_err-kind-in-Ok-Ended.result c.from_residual-in_err-kind-in-Ok-Ended.ensures.1 in
    rw (p.1, p.2)
    (record {
      refused = on_refused _ _ (IsRefusedBy g.S.Source old new c.args.source.now c.next_line.new.source)
          (λ why at. record {
            refused = λ open'. refused_last _ c.loop-reading.reading c.take_last.new.reading _ _ _ line _ why inv.walks last at;
            taken = λ open'. taken_last _ c.loop-reading.reading c.take_last.new.reading _ _ _ line _ why _ _ inv.walks last at at_end;
            uncounted = same;
          })
          stops.refused;
      read_fault = on_read_fault _ _ stops.no_fault;
      memory = never _ _ stops.no_memory;
      later = omega (arith, same);
      keeps = λ sure. c.next_line.ensures.keeps (inv.keeps sure);
      err = refl;
      cut_kept = inv.cut;
      holds = c.take_last.ensures.holds;
    })

-- ---- a read fault

pub returns-in-Err-clause-stop : goal.returns-in-Err-clause-stop
returns-in-Err-clause-stop g c =
    let inv = c.loop-reading.invariant in
    let fails = c.in-Err.ensures in
    record {
      refused = tt;
      read_fault = record {
        read_fault = λ open'. ReadsFront-drained _ c.loop-reading.reading _ _ (g.S.Source.left c.next_line.new.source) c.next_line.new.self c.next_line.new.line inv.walks.reads inv.walks.going fails.failed;
        no_end = fails.no_end ∙ inv.before_end;
        fault = λ open'. rw (← inv.uncounted) fails.faults.fault;
        sure = λ open' sure. (let none : false ≡ true = fails.sure (inv.keeps sure) in cc);
      };
      memory = tt;
      later = rw (← inv.uncounted) c.next_line.ensures.faults.later;
      keeps = λ sure. c.next_line.ensures.keeps (inv.keeps sure);
      err = refl;
      cut_kept = inv.cut;
      holds = inv.walks.holds;
    }
