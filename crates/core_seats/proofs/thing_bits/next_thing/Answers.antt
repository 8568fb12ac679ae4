use Rattle.std.proofs.Common.{ℕ, ◌≤◌, ◌+◌, sym, ap, ◌∙◌, arith}
use Rattle.arena_geo.specs.Bounds.{Bounds}
use Rattle.arena_geo.specs.Regions.{touches_region}
use Rattle.core_seats.proofs.NextThings.{apart_past, any_else}
use Rattle.core_seats.proofs.thing_bits.next_thing.Goals as goal

pub loop-place-preserved : goal.loop-place-preserved
loop-place-preserved c =
    let region = c.args.region.now in
    let boxes = c.args.boxes.now in
    let place = c.in-Some.place in
    let next = c.in-Some.ensures in
    record {
      least = up c.args.from c.loop-place.at place c.loop-place.invariant.least next.least;
      apart = apart_past region boxes c.args.bits.now c.args.from c.loop-place.at c.requires c.loop-place.invariant.apart place next
          (λ d.
          ap (λ (b : Bounds). touches_region b region) (any_else boxes place d c.index-boxes-place.result next.within ∙ sym c.index-boxes-place.is)
          ∙ sym c.if-is_touched_by.ensures.value);
    }
  where
    up : (from at place : ℕ) → from ≤ at → at ≤ place → from ≤ place + 1
    up from at place least less = omega (arith, least, less)
