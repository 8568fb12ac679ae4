use Rattle.std.proofs.Common.{ap, ◌∙◌, arith}
use Rattle.entity_slots.specs.Ports.{is_joined}
use Rattle.entity_slots.proofs.Changes.{with_port-are_slots}
use Rattle.entity_slots.proofs.slots.Slots.seat.Goals as goal

pub invariant_of-self : goal.invariant_of-self
invariant_of-self c =
    with_port-are_slots c.self.inside.ports c.from.result c.args.port c.self.invariant
    (omega (arith, c.from.ensures, c.requires.in_range))
    (ap (λ ports. is_joined ports c.args.port) c.self.view_is ∙ c.requires.not_joined)
