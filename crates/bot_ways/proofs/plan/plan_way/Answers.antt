use Rattle.bot_ways.proofs.Certificates.{certified, unreached}
use Rattle.bot_ways.proofs.plan.plan_way.Goals as goal

pub returns-clause-least : goal.returns-clause-least
returns-clause-least c = certified c.args.map.now c.in_ok-least.least c.in_ok-least.ensures

pub returns-clause-no_way : goal.returns-clause-no_way
returns-clause-no_way c =
    let none = unreached c.args.map.now c.in_ok-least.least c.in_ok-least.ensures c.args.target in
    let empty = c.way_to-way.ensures.unreached in
    (λ e. none.0 (empty.0 e), λ never. empty.1 (none.1 never))
