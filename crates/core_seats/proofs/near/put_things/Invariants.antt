use Rattle.std.proofs.Common.{◌≡◌, ◌≤◌, take, length, map}
use Rattle.std.specs.Prelude.{filter, vec_capacity}
use Rattle.entity_recs.specs.declared.rec.Rec.{Rec}
use Rattle.core_seats.specs.NearRecords.{is_touched_thing}
use Rattle.core_seats.proofs.near.put_things.Given as goal

abbrev pub invariant-loop-r : goal.invariant-loop-r
invariant-loop-r l = record {
  ids : l.ids.items ≡ map (λ (r : Rec). r.id) (filter (is_touched_thing l.region) (take l.r-index l.start));
  few : length l.ids.items ≤ l.r-index;
  room : vec_capacity l.ids ≡ vec_capacity l.initial.ids;
}
