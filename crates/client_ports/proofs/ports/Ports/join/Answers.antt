use Rattle.std.proofs.Common.{List, Option, ℕ, Some, slice_set, sym, subst}
use Rattle.client_ports.specs.declared.client.Client.{Client}
use Rattle.client_ports.specs.Clients.{new_client, with_client, live_slot, ArePorts, IsSlotFor}
use Rattle.client_ports.proofs.Slots.{join-are_ports}
use Rattle.client_ports.proofs.ports.Ports.join.Goals as goal

pub invariant_of-self : goal.invariant_of-self
invariant_of-self c =
    let P : List (Option Client) → Type 0 = λ clients. IsSlotFor clients c.args.port c.args.slot in
    let to : IsSlotFor c.self.inside.clients c.args.port c.args.slot = subst P (sym c.self.view_is) c.requires in
    let Q : ℕ → Type 0 = λ slot. ArePorts c.seat.new.self (slice_set c.self.inside.clients slot (Some (new_client c.args.port))) in
    let R : List (Option ℕ) → Type 0 = λ ports. ArePorts ports (with_client c.self.inside.clients (live_slot c.args.slot (new_client c.args.port))) in
    subst Q (sym c.from.ensures) (subst R (sym c.seat.ensures) (join-are_ports c.self.inside.slots c.self.inside.clients c.args.port c.args.slot c.self.invariant to))
