use Rattle.std.proofs.Common.{sym, ap, ◌∙◌}
use Rattle.entity_recs.specs.declared.rec.Rec.{Rec}
use Rattle.core_machine.proofs.StartRecords.{found_record, no_record}
use Rattle.core_machine.proofs.start.state_at_start.Goals as goal

pub returns-in-Some : goal.returns-in-Some
returns-in-Some g c = ap (λ (r : Rec). r.state) (sym (found_record c.args.rules.now.start c.args.id c.in-Some.r (sym c.record.ensures ∙ c.in-Some.is)))

pub returns-in-None : goal.returns-in-None
returns-in-None g c = ap (λ (r : Rec). r.state) (sym (no_record c.args.rules.now.start c.args.id (sym c.record.ensures ∙ c.in-None.is)))
