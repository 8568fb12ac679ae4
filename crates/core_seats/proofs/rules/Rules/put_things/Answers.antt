use Rattle.std.proofs.Common.{map, ap, ◌∙◌}
use Rattle.std.specs.Prelude.{filter, List}
use Rattle.entity_recs.specs.declared.rec.Rec.{Rec}
use Rattle.core_seats.specs.NearRecords.{is_touched_thing}
use Rattle.core_seats.specs.Shown.{fixed_of}
use Rattle.core_seats.proofs.NearLists.{things_are, found_at_ids}
use Rattle.core_seats.proofs.rules.Rules.put_things.Goals as goal

pub returns-clause-ids : goal.returns-clause-ids
returns-clause-ids g c =
    let F = fixed_of g.A.Action.meaning (record { action = c.self.inside.action.now; tree = c.self.inside.tree; start = c.self.inside.start.items }) in
    rw (← c.self.view_is)
    (c.put_things.ensures.ids
    ∙ (ap (λ (rs : List Rec). map (λ (r : Rec). r.id) (filter (is_touched_thing c.args.region.now) rs)) c.as_slice.ensures.value
    ∙ things_are F.start.record_of c.args.region.now c.self.inside.start.items (found_at_ids c.self.inside.start.items c.self.invariant.start.rising)))
