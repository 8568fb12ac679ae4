use Rattle.std.proofs.Common.{drop, ap, sym, ◌∙◌, subst}
use Rattle.entity_recs.specs.Actions.{HasValidity}
use Rattle.core_seats.specs.NearKept.{AreThings}
use Rattle.core_seats.specs.Shown.{RulesView, fixed_of}
use Rattle.core_seats.proofs.ThingsLoaded.{are_things, whole_rest}
use Rattle.core_seats.proofs.rules.Rules.map_things.Goals as goal

pub returns-clause-things : goal.returns-clause-things
returns-clause-things g c =
    let rules : RulesView _ = record { action = c.self.inside.action.now; tree = c.self.inside.tree; start = c.self.inside.start.items } in
    let F = fixed_of g.A.Action.meaning rules in
    let met = g.met.A.Action g.world.𝓛 g.world.𝓜 g.world.𝓡 ((λ s x. x), (λ x. x), (λ x. x), λ x. x) in
    let validity : HasValidity F.takes F.effect_of = met.validity c.self.inside.action.now in
    rw (← c.self.view_is)
    (subst (AreThings F) (sym (whole_rest c.self.inside.first_thing c.as_slice.result.now ∙ ap (drop c.self.inside.first_thing) c.as_slice.ensures.value))
    (are_things g.A.Action.meaning rules c.self.inside.first_leaf c.self.inside.players c.self.inside.first_thing c.self.inside.boxes.items c.self.inside.area c.self.inside.index validity c.self.invariant))

pub returns-clause-rise : goal.returns-clause-rise
returns-clause-rise g c = rw (← c.self.view_is) c.self.invariant.start.rising
