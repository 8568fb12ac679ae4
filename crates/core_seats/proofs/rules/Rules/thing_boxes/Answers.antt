use Rattle.std.proofs.Common.{List, drop, ◌∙◌}
use Rattle.entity_recs.specs.declared.rec.Rec.{Rec}
use Rattle.entity_recs.specs.Actions.{HasValidity}
use Rattle.core_seats.specs.Shown.{RulesView, fixed_of}
use Rattle.core_seats.specs.ThingStrips.{AreThingBoxes}
use Rattle.core_seats.proofs.ThingsLoaded.{are_things, things_boxed}
use Rattle.core_seats.proofs.rules.Rules.thing_boxes.Goals as goal

pub returns : goal.returns
returns g c =
    let rules : RulesView _ = record { action = c.self.inside.action.now; tree = c.self.inside.tree; start = c.self.inside.start.items } in
    let F = fixed_of g.A.Action.meaning rules in
    let met = g.met.A.Action g.world.𝓛 g.world.𝓜 g.world.𝓡 ((λ s x. x), (λ x. x), (λ x. x), λ x. x) in
    let validity : HasValidity F.takes F.effect_of = met.validity c.self.inside.action.now in
    let things = drop c.self.inside.first_thing c.self.inside.start.items in
    let boxes = c.self.inside.boxes.items in
    let are = are_things g.A.Action.meaning rules c.self.inside.first_leaf c.self.inside.players c.self.inside.first_thing boxes c.self.inside.area c.self.inside.index validity c.self.invariant in
    let boxed : AreThingBoxes F c.as_slice.result.now =
    (λ (others : List Rec) are_others. c.as_slice.ensures.value ∙ things_boxed F things boxes are c.self.invariant.boxed others are_others) in
    rw (← c.self.view_is) boxed
