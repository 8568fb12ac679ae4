use Rattle.std.proofs.Common.{rules, ◌≡◌, is_some, ap, ◌∙◌}
use Rattle.arena_map.specs.Maps.{dest_of}
use Rattle.arena_map.proofs.ThingData.{dest-some}
use Rattle.arena_map.proofs.map.ArenaMap.dest_of.Goals as goal

pub returns-in_err-thing_of-clause-some : goal.returns-in_err-thing_of-clause-some
returns-in_err-thing_of-clause-some c =
    let value : c.from_residual.result ≡ dest_of c.args.self.now c.args.id = search rules in
    ap is_some value ∙ dest-some c.args.self.now c.args.id c.in_err-thing_of.ensures.rules

pub returns-clause-some : goal.returns-clause-some
returns-clause-some c =
    let value : c.dest_in.result ≡ dest_of c.args.self.now c.args.id = search rules in
    ap is_some value ∙ dest-some c.args.self.now c.args.id c.in_ok-thing_of.ensures.rules
