use Rattle.edge_io.proofs.ReadingAhead.{HasNotReadAhead-trans}
use Rattle.demo_lines.proofs.RestLines.{part_taken, part_too_long, longer_front, no_line_feed, at_most}
use Rattle.demo_lines.proofs.rest.next_rest.Goals as goal

pub returns-then-not-put-clause-none : goal.returns-then-not-put-clause-none
returns-then-not-put-clause-none g c =
    let gives = c.in_ok-next.ensures in
    let part = part_taken c.in_ok-next.next _ _ _ _ gives.whole gives.long gives.ended in
    part_too_long _ _ c.parts.out c.next_line.new.line c.parts.invariant.front part (rw c.as_slice.ensures.value at c.if-not-put.ensures.full)

pub returns-in-Ended-clause-none : goal.returns-in-Ended-clause-none
returns-in-Ended-clause-none g c =
    let gives = rw c.in-Ended.is at c.in_ok-next.ensures.ended in
    let is = longer_front _ _ _ _ _ c.parts.invariant.front gives.front.consumed gives.front.one_line in
    no_line_feed _ _ _ is gives.at_end

pub returns-then-not-put-clause-taken : goal.returns-then-not-put-clause-taken
returns-then-not-put-clause-taken g c =
    let gives = c.in_ok-next.ensures in
    at_most g.S.Source.last g.S.Source.ended c.args.source.now c.parts.source c.next_line.new.source c.args.lines.now c.parts.lines c.next_line.new.self c.parts.invariant.needed c.parts.invariant.before_end
    c.in_ok-next.next _ _ _ c.parts.out c.next_line.new.line c.parts.invariant.front c.parts.invariant.fits gives.whole gives.long gives.ended gives.needed gives.before_end gives.at_end

pub returns-in-Ended-clause-taken : goal.returns-in-Ended-clause-taken
returns-in-Ended-clause-taken g c =
    let gives = c.in_ok-next.ensures in
    at_most g.S.Source.last g.S.Source.ended c.args.source.now c.parts.source c.next_line.new.source c.args.lines.now c.parts.lines c.next_line.new.self c.parts.invariant.needed c.parts.invariant.before_end
    c.in_ok-next.next _ _ _ c.parts.out c.next_line.new.line c.parts.invariant.front c.parts.invariant.fits gives.whole gives.long gives.ended gives.needed gives.before_end gives.at_end

pub returns-in-Whole-clause-needed : goal.returns-in-Whole-clause-needed
returns-in-Whole-clause-needed g c =
    HasNotReadAhead-trans g.S.Source.last _ _ _ _ _ _ c.parts.invariant.needed (rw c.in-Whole.is at c.in_ok-next.ensures.needed)
