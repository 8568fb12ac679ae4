use Rattle.std.proofs.Common.{◌≡◌, List, Option, Some, length, slice_set, sym, ap, ◌∙◌, subst}
use Rattle.std.proofs.lemmas.List.{length-set}
use Rattle.entity_recs.specs.declared.limits.TheConstants.{IDS}
use Rattle.entity_recs.specs.declared.rec.Rec.{Rec}
use Rattle.client_ports.specs.declared.client.Client.{Client}
use Rattle.client_ports.specs.Clients.{with_client, live_slot, new_client}
use Rattle.client_ports.specs.States.{newcomer, state_of, IsState}
use Rattle.client_ports.proofs.Valid.{state-joined}
use Rattle.client_ports.proofs.ports.Ports.receive_join.Goals as goal

pub returns-in-Ok-clause-state : goal.returns-in-Ok-clause-state
returns-in-Ok-clause-state c =
    let old = c.args.world.now.records in
    let slot = c.in-Ok.field-0.slot in
    let r = newcomer slot c.in-Ok.field-0.at in
    let records : c.add.new.self.records ≡ slice_set old slot (Some r) =
    ap (λ w. w.records) c.add.ensures.world ∙ ap (λ (n : Rec). slice_set old n.id (Some n)) c.newcomer.ensures in
    let many : length old ≡ IDS = sym (length-set old slot (Some r)) ∙ ap length (sym records) ∙ c.add.ensures.linked.places in
    let P : List (Option Client) → Type 0 = λ clients. IsState c.args.map.now (state_of clients c.add.new.self.records) in
    let Q : List (Option Rec) → Type 0 = λ rs. IsState c.args.map.now (state_of (with_client c.args.self.now (live_slot slot (new_client c.args.port))) rs) in
    subst P (sym c.join.ensures) (subst Q (sym records)
    (state-joined c.args.map.now c.args.self.now old c.args.port slot c.in-Ok.field-0.at c.in-Ok.ensures.count many c.in-Ok.ensures.place.in_range c.in-Ok.ensures.spawn c.requires.state))
