use Rattle.std.proofs.Common.{◌<◌, ◌||◌, false, length, sym, ap, ◌∙◌, rules}
use Rattle.std.specs.Option.{option_map_or}
use Rattle.std.specs.List.{slice_get}
use Rattle.arena_geo.specs.Vectors.{zero_vector}
use Rattle.demo_walk.specs.Places.{is_by_spawn}
use Rattle.demo_walk.proofs.PlaceParts.{any-more}
use Rattle.demo_walk.proofs.places.meets_spawn.Goals as goal
use Rattle.demo_walk.proofs.places.meets_spawn.Goals.{then-meets, else-meets}

pub loop-index-preserved : goal.loop-index-preserved
loop-index-preserved c =
    let spawns = c.args.map.now.spawns in
    let p = is_by_spawn c.args.body.now in
    let k = c.loop-index.index in
    let within : k < length spawns = search rules in
    let more = any-more p spawns k zero_vector within ∙ ap (λ a. a || option_map_or p (slice_get spawns k) false) (sym c.loop-index.invariant) in
    elim c.if-meets.branch [
      | then-meets w ↦ w.meets-is ∙ w.if-meets.true ∙ sym (more ∙ ap (λ a. a || option_map_or p (slice_get spawns k) false) w.if-meets.true)
      | else-meets w ↦ w.meets-is ∙ w.is_by_spawn-meets.ensures ∙ sym (more ∙ ap (λ a. a || option_map_or p (slice_get spawns k) false) w.if-meets.false)
    ]
