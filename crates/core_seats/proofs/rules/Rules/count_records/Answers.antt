use Rattle.std.proofs.Common.{arith}
use Rattle.std.proofs.lemmas.List.{length-map}
use Rattle.entity_recs.specs.declared.rec.Rec.{Rec}
use Rattle.entity_recs.specs.Actions.{HasValidity}
use Rattle.core_seats.specs.Shown.{fixed_of}
use Rattle.core_seats.proofs.NearLists.{few_ids}
use Rattle.core_seats.proofs.rules.Rules.count_records.Goals as goal

pub returns-clause-few : goal.returns-clause-few
returns-clause-few g c =
    let F = fixed_of g.A.Action.meaning (record { action = c.self.inside.action.now; tree = c.self.inside.tree; start = c.self.inside.start.items }) in
    let met = g.met.A.Action g.world.𝓛 g.world.𝓜 g.world.𝓡 ((λ s x. x), (λ x. x), (λ x. x), λ x. x) in
    let validity : HasValidity F.takes F.effect_of = met.validity c.self.inside.action.now in
    let few = few_ids F validity c.self.invariant.start in
    let size = length-map c.self.inside.start.items (λ (r : Rec). r.id) in
    omega (arith, few, size, c.len.ensures)
