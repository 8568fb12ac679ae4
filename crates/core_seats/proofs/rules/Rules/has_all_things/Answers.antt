use Rattle.std.proofs.Common.{List, drop, sym, ◌∙◌, subst}
use Rattle.std.specs.Prelude.{All}
use Rattle.std.specs.Bool.{OnTrue}
use Rattle.entity_recs.specs.declared.rec.Rec.{Rec}
use Rattle.entity_recs.specs.Actions.{HasValidity}
use Rattle.entity_recs.specs.Records.{IsRecord}
use Rattle.std.proofs.lemmas.Bool.{OnTrue_from}
use Rattle.core_seats.specs.Shown.{RulesView, fixed_of}
use Rattle.core_seats.specs.ThingStrips.{TouchesAll}
use Rattle.core_seats.proofs.ThingsLoaded.{are_things, things_are_records, all_touched}
use Rattle.core_seats.proofs.rules.Rules.has_all_things.Goals as goal

pub returns : goal.returns
returns g c =
    let rules : RulesView _ = record { action = c.self.inside.action.now; tree = c.self.inside.tree; start = c.self.inside.start.items } in
    let F = fixed_of g.A.Action.meaning rules in
    let met = g.met.A.Action g.world.𝓛 g.world.𝓜 g.world.𝓡 ((λ s x. x), (λ x. x), (λ x. x), λ x. x) in
    let validity : HasValidity F.takes F.effect_of = met.validity c.self.inside.action.now in
    let things = drop c.self.inside.first_thing c.self.inside.start.items in
    let boxes = c.self.inside.boxes.items in
    let are = are_things g.A.Action.meaning rules c.self.inside.first_leaf c.self.inside.players c.self.inside.first_thing boxes c.self.inside.area c.self.inside.index validity c.self.invariant in
    let records : All IsRecord things = subst (λ (rs : List Rec). All IsRecord rs) (sym c.self.invariant.things) (things_are_records g.A.Action.meaning rules validity c.self.invariant.start) in
    let all : OnTrue c.is_inside.result (TouchesAll F c.args.region.now) =
    OnTrue_from c.is_inside.result (TouchesAll F c.args.region.now) (λ yes. all_touched F things boxes are c.self.invariant.boxed c.self.inside.area c.args.region.now c.self.invariant.around records (sym c.is_inside.ensures ∙ yes)) in
    rw (← c.self.view_is) all
