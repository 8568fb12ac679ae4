use Rattle.std.proofs.Common.{[], ◌∷◌, ap, ◌∙◌, sym, arith}
use Rattle.arena_geo.specs.Bounds.{Bounds}
use Rattle.arena_geo.specs.Boxes.{overlaps}
use Rattle.box_trace.specs.Traces.{trace_of}
use Rattle.shot_rules.proofs.Nearest.{with_other, with_nearer, with_farther}
use Rattle.shot_rules.proofs.Swept.{with_unswept}
use Rattle.shot_rules.proofs.meeting.meeting_with.Goals as goal

pub returns-then-not-is_solid : goal.returns-then-not-is_solid
returns-then-not-is_solid c fixed near is =
    with_other c.args.body.now c.args.way fixed near c.args.r.now c.args.first is (sym c.is_solid.ensures ∙ c.if-not-is_solid.true)

pub returns-then-not-overlaps : goal.returns-then-not-overlaps
returns-then-not-overlaps c fixed near is =
    with_unswept c.args.body.now c.args.way fixed near c.args.r.now c.args.first is (sym c.is_solid.ensures ∙ c.if-not-is_solid.false)
    (sym (ap (overlaps c.args.first.swept) c.body_box-solid.ensures) ∙ sym c.overlaps.ensures ∙ c.if-not-overlaps.true)

pub returns-then-steps-first : goal.returns-then-steps-first
returns-then-steps-first c fixed near is =
    with_nearer c.args.body.now c.args.way fixed near c.args.r.now c.trace-steps.result.steps c.swept_in.result c.args.first is
    (sym c.is_solid.ensures ∙ c.if-not-is_solid.false)
    (ap (λ hit. hit.steps) c.trace-steps.ensures.value ∙ ap (λ (b : Bounds). (trace_of c.args.body.now c.args.way (b ∷ [])).steps) c.body_box-solid.ensures)
    c.if-steps-first.true c.swept_in.ensures

pub returns-else-steps-first : goal.returns-else-steps-first
returns-else-steps-first c fixed near is =
    with_farther c.args.body.now c.args.way fixed near c.args.r.now c.trace-steps.result.steps c.args.first is (sym c.is_solid.ensures ∙ c.if-not-is_solid.false)
    (ap (λ hit. hit.steps) c.trace-steps.ensures.value ∙ ap (λ (b : Bounds). (trace_of c.args.body.now c.args.way (b ∷ [])).steps) c.body_box-solid.ensures)
    (omega (arith, c.if-steps-first.false))
