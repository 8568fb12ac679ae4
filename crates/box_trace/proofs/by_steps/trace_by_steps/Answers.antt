use Rattle.std.proofs.Common.{◌++◌}
use Rattle.box_trace.proofs.Traces.{IsAnswer, answer_on_way}
use Rattle.box_trace.proofs.by_steps.trace_by_steps.Goals as goal

answer : (c : goal.After-hit) → IsAnswer c.args.body.now c.args.d (c.args.fixed.now ++ c.args.moving.now) c.hit.result
answer c =
    answer_on_way c.new-way.result.body _ c.new-way.result.d _ _ c.first_meeting.result c.hit.result c.new-way.ensures.body c.new-way.ensures.d c.hit.ensures c.first_meeting.ensures

pub returns-clause-is_trace : goal.returns-clause-is_trace
returns-clause-is_trace c = (answer c).is_trace

pub returns-clause-value : goal.returns-clause-value
returns-clause-value c = (answer c).value

pub returns-clause-axis : goal.returns-clause-axis
returns-clause-axis c = (answer c).axis
