use Rattle.std.proofs.Common.{◌≡◌, ◌↔◌, Result, Err, ℕ, IfOk, true, false, sym, subst, arith}
use Rattle.std.proofs.lemmas.Grind.{common_steps}
use Rattle.entity_slots.specs.declared.join_fault.JoinFault.{JoinFault}
use Rattle.entity_slots.specs.declared.join_fault.JoinFault.TheVariants.{Full}
use Rattle.entity_slots.specs.Ports.{is_joined, is_full}
use Rattle.entity_slots.specs.FreeSlots.{slot_for, IsLeastFree}
use Rattle.entity_slots.proofs.Found.{slot_for-full, slot_for-least}
use Rattle.entity_slots.proofs.slots.Slots.slot_for.Goals as goal

pub returns-clause-full : goal.returns-clause-full
returns-clause-full c =
    let value : c.ok_or.result ≡ slot_for c.args.self.now c.args.port = grind (arith, common_steps) in
    let P : Result ℕ JoinFault → Type 0 = λ r. (r ≡ Err Full) ↔ ((is_joined c.args.self.now c.args.port ≡ false) × (is_full c.args.self.now ≡ true)) in
    subst P (sym value) (slot_for-full c.args.self.now c.args.port)

pub returns-clause-least : goal.returns-clause-least
returns-clause-least c =
    let value : c.ok_or.result ≡ slot_for c.args.self.now c.args.port = grind (arith, common_steps) in
    let P : Result ℕ JoinFault → Type 0 = λ r. IfOk r (IsLeastFree c.args.self.now) in
    subst P (sym value) (slot_for-least c.args.self.now c.args.port (grind (arith, c.self.view_is, c.self.invariant.count)))
