use Rattle.std.proofs.Common.{Bool, ◌&&◌, not, ◌==◌, ap, ◌∙◌}
use Rattle.areanode.specs.Words.{has_bit}
use Rattle.core_seats.specs.Shown.{RulesView, fixed_of}
use Rattle.core_seats.proofs.SlotLists.{kept_in_word, seen_live}
use Rattle.core_seats.proofs.rules.Rules.put_players.Goals as goal

pub returns-clause-players : goal.returns-clause-players
returns-clause-players g c =
    let rules : RulesView _ = record { action = c.self.inside.action.now; tree = c.self.inside.tree; start = c.self.inside.start.items } in
    let F = fixed_of g.A.Action.meaning rules in
    rw (← c.self.view_is)
    (c.put_slots.ensures.records
    ∙ kept_in_word F c.args.region.now c.args.slot c.args.seen c.without_bit.result c.args.by_slot.now c.self.invariant.start.rising
    (λ s less. c.without_bit.ensures.bits s less ∙ seen_live c.args.seen c.self.inside.players c.args.slot s
    ∙ ap (λ (b : Bool). has_bit c.args.seen s && (b && not (s == c.args.slot))) (c.self.invariant.slots s less)))
