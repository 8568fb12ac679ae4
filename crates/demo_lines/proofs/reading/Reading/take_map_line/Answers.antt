use Rattle.std.proofs.Common.{◌≡◌, Err, Some, sym, ap, ◌∙◌, subst, option_map, rules}
use Rattle.demo_lines.specs.declared.line.Line.TheVariants.{OfMap}
use Rattle.demo_lines.specs.declared.line_fault.LineFault.TheVariants.{Rule}
use Rattle.demo_lines.specs.declared.stage.Stage.TheVariants.{Refused}
use Rattle.demo_lines.specs.Known.{Reading, with_map, at_stage}
use Rattle.demo_lines.specs.Faults.{broken_by_line}
use Rattle.demo_lines.specs.Recording.{with_map_line, after_test}
use Rattle.demo_lines.proofs.MapRules.{Names, none_where_ok, none_without_memory}
use Rattle.demo_lines.proofs.reading.Reading.take_map_line.Goals as goal

pub returns-in-Err-NoMemory-clause-quiet : goal.returns-in-Err-NoMemory-clause-quiet
returns-in-Err-NoMemory-clause-quiet c =
    let names = subst (λ m. Names c.add_to.result (broken_by_line m c.args.line.now)) (ap (λ (r : Reading). r.map) c.self.view_is) c.add_to.ensures.rule in
    none_without_memory c.add_to.result _ names (c.in-Err-NoMemory.is ∙ ap Err c.in-Err-NoMemory.field-0-is)

pub returns-in-Ok-clause-next : goal.returns-in-Ok-clause-next
returns-in-Ok-clause-next c =
    let after : c.go_to.new.self ≡ with_map c.args.self.now (with_map_line c.args.self.now.map c.args.line.now) = search rules in
    let names = subst (λ m. Names c.add_to.result (broken_by_line m c.args.line.now)) (ap (λ (r : Reading). r.map) c.self.view_is) c.add_to.ensures.rule in
    let none = none_where_ok c.add_to.result _ _ names c.in-Ok.is in
    after ∙ sym (ap (λ broken. after_test c.args.self.now (option_map Rule broken) (Some (OfMap c.args.line.now))) none)

pub returns-in-Err-Rule-clause-next : goal.returns-in-Err-Rule-clause-next
returns-in-Err-Rule-clause-next c =
    let after : c.go_to-in-Err-Rule.new.self ≡ at_stage (Refused (Rule c.in-Err-Rule.rule)) c.args.self.now = search rules in
    let names = subst (λ m. Names c.add_to.result (broken_by_line m c.args.line.now)) (ap (λ (r : Reading). r.map) c.self.view_is) c.add_to.ensures.rule in
    let some = (names c.in-Err-Rule.rule).0 (c.in-Err-Rule.is ∙ ap Err c.in-Err-Rule.field-0-is) in
    after ∙ sym (ap (λ broken. after_test c.args.self.now (option_map Rule broken) (Some (OfMap c.args.line.now))) some)
