-- What a player touches is what is in its reach.
use Rattle.std.specs.Prelude.{◌+◌, ◌<◌, List}
use Rattle.std.specs.Prelude.{map as map_list}
use Rattle.std.specs.List.Sorted.{IsStrictlyIncreasing}
use Rattle.std.proofs.Common.{arith}
use Rattle.std.proofs.lemmas.List.{length-map, get_or-map}
use Rattle.std.proofs.lemmas.List.Kept.{AllPairs-filter}
use Rattle.entity_recs.specs.declared.rec.Rec.{Rec}
use Rattle.entity_recs.specs.Worlds.{nobody}
use Rattle.entity_recs.specs.Bodies.{abs_of, is_touched}
use Rattle.entity_recs.proofs.Elements.{contains_kept, contains_before, kept_passes, HasRisingKeys, rising_keys}
use Rattle.entity_recs.proofs.Reach.{touches_are_known}
use Rattle.trigger_rules.specs.Touching.{touched_by}
use Rattle.trigger_rules.specs.Laws.{TouchedAreInReach}

-- the ids of records whose ids rise, as a list
ids_rise : (rs : List Rec) → HasRisingKeys (λ (r : Rec). r.id) rs → IsStrictlyIncreasing (map_list (λ (r : Rec). r.id) rs)
ids_rise rs rises k more =
    let long = length-map rs (λ (r : Rec). r.id) in
    let first = get_or-map (λ (r : Rec). r.id) rs k nobody 0 (omega (arith, long, more)) in
    let second = get_or-map (λ (r : Rec). r.id) rs (k + 1) nobody 0 (omega (arith, long, more)) in
    let less = rises k (k + 1) nobody (omega arith) (omega (arith, long, more)) in
    omega (arith, first, second, less)

kept_rise : (me : Rec) (near : List Rec) → IsStrictlyIncreasing (map_list (λ (r : Rec). r.id) near)
    → IsStrictlyIncreasing (map_list (λ (r : Rec). r.id) (touched_by me near))
kept_rise me near rises =
    ids_rise (touched_by me near)
    (AllPairs-filter (λ (a b : Rec). a.id < b.id) (is_touched (abs_of me)) near (rising_keys (λ (r : Rec). r.id) near rises))

pub touched_are_in_reach : TouchedAreInReach
touched_are_in_reach = record {
  each = λ me near r within is.
      let test = is_touched (abs_of me) in (
        λ has. (contains_before test near r has, (touches_are_known me r within is).0 (kept_passes test near r has)),
        λ there. contains_kept test near r there.0 ((touches_are_known me r within is).1 there.1),
      );
  rising = kept_rise;
}
