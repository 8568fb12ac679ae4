use Rattle.std.proofs.Common.{◌≡◌, List, Option, ℕ, None, slice_set, sym, ap, subst}
use Rattle.entity_recs.specs.declared.rec.Rec.{Rec}
use Rattle.arena_map.specs.Validity.{IsValidWorld}
use Rattle.client_ports.proofs.Valid.{valid-without}
use Rattle.client_ports.proofs.ports.Ports.finish_slot.Goals as goal

pub returns-in-Some-clause-valid : goal.returns-in-Some-clause-valid
returns-in-Some-clause-valid c = λ map valid.
    let P : List (Option Rec) → Type 0 = λ records. IsValidWorld map records in
    let Q : ℕ → Type 0 = λ slot. IsValidWorld map (slice_set c.args.world.now.records slot None) in
    let removed : c.remove.new.self.records ≡ slice_set c.args.world.now.records c.from.result None = ap (λ w. w.records) c.remove.ensures.world in
    subst P (sym removed) (subst Q (sym c.from.ensures) (valid-without map c.args.world.now.records c.args.slot c.requires.slot valid))
