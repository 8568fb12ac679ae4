use Rattle.std.proofs.Common.{length, List, All, drop, sym, ap, ◌∙◌, subst, arith}
use Rattle.std.specs.List.{IsDistinct}
use Rattle.std.specs.Prelude.{map as map_list, nat_eq}
use Rattle.entity_recs.specs.declared.rec.Rec.{Rec}
use Rattle.entity_recs.specs.Records.{IsRecord}
use Rattle.arena_map.specs.Maps.{map_of}
use Rattle.arena_map.proofs.Kept.{records-count, few_things}
use Rattle.arena_map.proofs.ThingRecords.{entities-are, entities-apart}
use Rattle.arena_map.proofs.map.ArenaMap.entities.Goals as goal

pub returns-clause-few : goal.returns-clause-few
returns-clause-few c =
    let map = map_of c.self.inside.bounds (drop 6 c.self.inside.solids.items) c.self.inside.spawns.items c.self.inside.things.items c.self.inside.settings in
    let count = ap length (c.as_slice.ensures.value ∙ c.self.invariant.entities_are) ∙ records-count 64 c.self.inside.things.items in
    omega (arith, count, few_things map c.self.invariant.is_map)

pub returns-clause-records : goal.returns-clause-records
returns-clause-records c =
    let map = map_of c.self.inside.bounds (drop 6 c.self.inside.solids.items) c.self.inside.spawns.items c.self.inside.things.items c.self.inside.settings in
    let Records : List Rec → Type 0 = λ records. All IsRecord records in
    subst Records (sym (c.as_slice.ensures.value ∙ c.self.invariant.entities_are)) (entities-are map c.self.invariant.is_map)

pub returns-clause-apart : goal.returns-clause-apart
returns-clause-apart c =
    let map = map_of c.self.inside.bounds (drop 6 c.self.inside.solids.items) c.self.inside.spawns.items c.self.inside.things.items c.self.inside.settings in
    let Apart : List Rec → Type 0 = λ records. IsDistinct nat_eq (map_list (λ (r : Rec). r.id) records) in
    subst Apart (sym (c.as_slice.ensures.value ∙ c.self.invariant.entities_are)) (entities-apart map c.self.invariant.is_map)
