use Rattle.std.proofs.Common.{ap, length}
use Rattle.core_seats.specs.Shown.{fixed_of}
use Rattle.ruled_words.specs.Passes.{fixed_in}
use Rattle.region_locks.proofs.Quitting.{pass_is_ready, step_found, some_found}
use Rattle.region_locks.proofs.table.NodeTable.next.Goals as goal

pub next_step-requires-after_bounds : goal.next_step-requires-after_bounds
next_step-requires-after_bounds g c κs within =
    let same = ap (fixed_of g.A.Action.meaning) c.rules.ensures in
    pass_is_ready (fixed_of g.A.Action.meaning c.rules.result.now) (fixed_in g.A.Action.meaning c.args.self.now)
    (length c.args.self.now.rooms) c.args.self.now.table _ c.args.pass.now same c.pass.view_is c.requires.own

pub returns-clause-step : goal.returns-clause-step
returns-clause-step g c =
    let same = ap (fixed_of g.A.Action.meaning) c.rules.ensures in
    step_found (fixed_of g.A.Action.meaning c.rules.result.now) (fixed_in g.A.Action.meaning c.args.self.now)
    _ c.args.pass.now c.number-number.result c.next_step.result same c.pass.view_is c.number-number.ensures c.next_step.ensures

pub returns-clause-some : goal.returns-clause-some
returns-clause-some g c =
    let same = ap (fixed_of g.A.Action.meaning) c.rules.ensures in
    some_found (fixed_of g.A.Action.meaning c.rules.result.now) (fixed_in g.A.Action.meaning c.args.self.now)
    (length c.args.self.now.rooms) c.args.self.now.table _ c.args.pass.now c.number-number.result c.next_step.result same c.pass.view_is c.number-number.ensures c.next_step.ensures c.requires.own
