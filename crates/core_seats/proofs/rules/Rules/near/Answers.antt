use Rattle.std.proofs.Common.{List, map, ap, ◌∙◌, arith}
use Rattle.std.specs.List.{filter_map}
use Rattle.std.proofs.lemmas.List.{length-map}
use Rattle.entity_recs.specs.declared.rec.Rec.{Rec}
use Rattle.core_seats.specs.PlayerReads.{player_read_of}
use Rattle.core_seats.specs.NearRecords.{near_one}
use Rattle.core_seats.specs.Shown.{fixed_of}
use Rattle.core_seats.proofs.NearLists.{near_are, found_at_ids}
use Rattle.core_seats.proofs.rules.Rules.near.Goals as goal

pub put_near-requires-clause-room : goal.put_near-requires-clause-room
put_near-requires-clause-room g c =
    let few = rw (← c.self.view_is) at c.requires.room in
    let size = length-map c.self.inside.start.items (λ (r : Rec). r.id) in
    rw c.as_slice.ensures.value (omega (arith, few, size))

pub returns-clause-records : goal.returns-clause-records
returns-clause-records g c =
    let F = fixed_of g.A.Action.meaning (record { action = c.self.inside.action.now; tree = c.self.inside.tree; start = c.self.inside.start.items }) in
    rw (← c.self.view_is)
    (c.put_near.ensures.records ∙ ap (λ (rs : List Rec). filter_map (near_one c.args.region.now c.args.slot (map player_read_of c.args.others.now) c.args.states.now) rs) c.as_slice.ensures.value
    ∙ near_are F c.args.region.now c.args.slot (map player_read_of c.args.others.now) c.args.states.now c.self.inside.start.items (found_at_ids c.self.inside.start.items c.self.invariant.start.rising))
