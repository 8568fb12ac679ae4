use Rattle.std.proofs.Common.{◌≡◌, length, count_by, nat_lt, ap, ◌∙◌, sym, arith}
use Rattle.std.proofs.lemmas.Grind.{common_steps}
use Rattle.arena_map.specs.MapLines.{is_lift_line}
use Rattle.arena_map.specs.Maps.{MapView}
use Rattle.arena_map.specs.Rules.{keeps_count}
use Rattle.arena_map.proofs.Counting.{shafts-count}
use Rattle.arena_map.proofs.map.ArenaMap.keeps_count.Goals as goal

pub returns-in-Lift : goal.returns-in-Lift
returns-in-Lift c =
    let len : c.len-in-Lift.result ≡ length c.self.inside.shafts.items = grind (arith, common_steps) in
    let count = len ∙ ap length c.self.invariant.shafts_are ∙ shafts-count c.self.inside.things.items in
    ap (λ n. nat_lt n 16) count
    ∙ ap (λ (m : MapView). nat_lt (count_by is_lift_line m.things) 16) c.self.view_is
    ∙ ap (keeps_count c.args.self.now) (sym c.in-Lift.is)
