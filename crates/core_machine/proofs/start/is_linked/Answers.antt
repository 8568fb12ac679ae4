use Rattle.std.proofs.Common.{sym, ap, ◌∙◌, subst}
use Rattle.entity_recs.specs.Records.{IsRecord}
use Rattle.core_steps.specs.Nodes.{home}
use Rattle.core_steps.proofs.Runs.{start_world}
use Rattle.core_seats.specs.Shown.{fixed_of}
use Rattle.core_seats.specs.Starts.{record_at}
use Rattle.core_machine.proofs.StartRecords.{found_record, record_lives, none_lives, linked_is, none_linked}
use Rattle.core_machine.proofs.start.is_linked.Goals as goal

pub home-requires-after_bounds : goal.home-requires-after_bounds
home-requires-after_bounds g c κs within =
    let F = fixed_of g.A.Action.meaning c.args.rules.now in
    let is = ap (record_at c.args.rules.now.start) (sym c.from.ensures) ∙ sym c.record.ensures ∙ c.in-Some.is in
    let same = found_record c.args.rules.now.start c.args.slot c.in-Some.r is in
    let lives = record_lives c.args.rules.now.start c.args.slot c.in-Some.r is in
    subst IsRecord same (c.is_lawful.ensures.validity.keepable (F.start.record_of c.args.slot) ((start_world F c.is_ruled.ensures.start).taken c.args.slot lives)).bounds

pub returns-in-Some : goal.returns-in-Some
returns-in-Some g c =
    let F = fixed_of g.A.Action.meaning c.args.rules.now in
    let is = ap (record_at c.args.rules.now.start) (sym c.from.ensures) ∙ sym c.record.ensures ∙ c.in-Some.is in
    let same = found_record c.args.rules.now.start c.args.slot c.in-Some.r is in
    linked_is F c.args.slot c.args.node c.home.result c.requires (record_lives c.args.rules.now.start c.args.slot c.in-Some.r is) (c.home.ensures.node ∙ ap (home F) (sym same))

pub returns-in-None : goal.returns-in-None
returns-in-None g c =
    let F = fixed_of g.A.Action.meaning c.args.rules.now in
    none_linked F c.args.slot c.args.node (none_lives c.args.rules.now.start c.args.slot (ap (record_at c.args.rules.now.start) (sym c.from.ensures) ∙ sym c.record.ensures ∙ c.in-None.is))
