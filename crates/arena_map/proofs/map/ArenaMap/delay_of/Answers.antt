use Rattle.std.proofs.Common.{rules, ◌≡◌, is_some, ap, ◌∙◌}
use Rattle.arena_map.specs.Maps.{delay_of}
use Rattle.arena_map.proofs.ThingData.{delay-some}
use Rattle.arena_map.proofs.map.ArenaMap.delay_of.Goals as goal

pub returns-in_err-thing_of-clause-some : goal.returns-in_err-thing_of-clause-some
returns-in_err-thing_of-clause-some c =
    let value : c.from_residual.result ≡ delay_of c.args.self.now c.args.id = search rules in
    ap is_some value ∙ delay-some c.args.self.now c.args.id c.in_err-thing_of.ensures.rules

pub returns-clause-some : goal.returns-clause-some
returns-clause-some c =
    let value : c.delay_in.result ≡ delay_of c.args.self.now c.args.id = search rules in
    ap is_some value ∙ delay-some c.args.self.now c.args.id c.in_ok-thing_of.ensures.rules
