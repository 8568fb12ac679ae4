use Rattle.std.proofs.Common.{◌<◌, ◌||◌, false, length, sym, ap, ◌∙◌, rules}
use Rattle.std.specs.Option.{option_map_or}
use Rattle.std.specs.List.{slice_get}
use Rattle.entity_recs.specs.Worlds.{nobody}
use Rattle.arena_map.specs.Maps.{entities_of}
use Rattle.demo_walk.specs.Places.{is_by_lift}
use Rattle.demo_walk.proofs.PlaceParts.{any-more}
use Rattle.demo_walk.proofs.places.meets_lift.Goals as goal
use Rattle.demo_walk.proofs.places.meets_lift.Goals.{then-meets, else-meets}

pub loop-place-preserved : goal.loop-place-preserved
loop-place-preserved c =
    let things = entities_of c.args.map.now in
    let p = is_by_lift c.args.body.now in
    let k = c.loop-place.place in
    let within : k < length things = search rules in
    let more = any-more p things k nobody within ∙ ap (λ a. a || option_map_or p (slice_get things k) false) (sym c.loop-place.invariant) in
    elim c.if-meets.branch [
      | then-meets w ↦ w.meets-is ∙ w.if-meets.true ∙ sym (more ∙ ap (λ a. a || option_map_or p (slice_get things k) false) w.if-meets.true)
      | else-meets w ↦ w.meets-is ∙ w.is_by_thing-meets.ensures ∙ sym (more ∙ ap (λ a. a || option_map_or p (slice_get things k) false) w.if-meets.false)
    ]
