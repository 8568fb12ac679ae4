use Rattle.std.proofs.Common.{◌≡◌, ◌↔◌, Option, Some, ℕ, IsSome, IfSome, true, sym, subst}
use Rattle.std.proofs.Common.{arith}
use Rattle.std.proofs.lemmas.Grind.{common_steps}
use Rattle.entity_slots.specs.Ports.{slot_of, is_joined, port_at}
use Rattle.entity_slots.proofs.Found.{slot_of-found, slot_of-own}
use Rattle.entity_slots.proofs.slots.Slots.slot_of.Goals as goal

pub returns-clause-joined : goal.returns-clause-joined
returns-clause-joined c =
    let value : c.number_of.result ≡ slot_of c.args.self.now c.args.port = grind (arith, common_steps) in
    let P : Option ℕ → Type 0 = λ o. IsSome o ↔ (is_joined c.args.self.now c.args.port ≡ true) in
    subst P (sym value) (slot_of-found c.args.self.now c.args.port)

pub returns-clause-own : goal.returns-clause-own
returns-clause-own c =
    let value : c.number_of.result ≡ slot_of c.args.self.now c.args.port = grind (arith, common_steps) in
    let P : Option ℕ → Type 0 = λ o. IfSome o (λ slot. port_at c.args.self.now slot ≡ Some c.args.port) in
    subst P (sym value) (slot_of-own c.args.self.now c.args.port)
