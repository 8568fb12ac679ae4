use Rattle.std.proofs.Common.{List, ◌∷◌, ap, ◌∙◌}
use Rattle.std.specs.Prelude.{filter_map}
use Rattle.arena_geo.specs.Bounds.{Bounds}
use Rattle.arena_map.specs.Maps.{entities_of}
use Rattle.arena_actions.specs.declared.leaps.Leap.{Leap}
use Rattle.arena_outcomes.specs.Regions.{first_box, landing_of, region_with}
use Rattle.arena_actions.specs.Leaps.{landing_by}
use Rattle.arena_actions.proofs.Leaping.{room_for_landing, landing_put, all_landings, landings_by}
use Rattle.arena_actions.proofs.region.region_of.Goals as goal

pub push_landing-requires : goal.push_landing-requires
push_landing-requires c some =
    room_for_landing (landing_by c.args.me.now c.reach_of-reach.result) c.as_slice-leap-items.result.now c.loop-leap.leap-index _ c.loop-leap.region c.as_slice-leap-items.ensures.few
    c.loop-leap-test.true c.loop-leap.invariant

pub loop-leap-preserved : goal.loop-leap-preserved
loop-leap-preserved c =
    let landing = landing_by c.args.me.now c.reach_of-reach.result in
    landing_put landing c.as_slice-leap-items.result.now c.loop-leap.leap-index c.leap-item.result _ c.loop-leap.region _ c.landing_of.result c.loop-leap-test.true
    (c.landing_of.ensures ∙ ap landing c.leap-item.is) c.loop-leap.invariant c.push_landing.ensures

pub returns : goal.returns
unfolding region_with
returns c map leaps_are =
    let me = c.args.me.now in
    let first = first_box c.args.room me c.args.cmd.now.ms in
    let landing = landing_by me c.reach_of-reach.result in
    all_landings landing c.as_slice-leap-items.result.now c.loop-leap.leap-index first c.loop-leap.region c.loop-leap-test.false c.loop-leap.invariant
    ∙ ap (λ (l : List Leap). first ∷ filter_map landing l) (c.as_slice-leap-items.ensures.value ∙ leaps_are)
    ∙ ap (λ (l : List Bounds). first ∷ l) (landings_by map me c.reach_of-reach.result (entities_of map))
    ∙ ap (λ (b : Bounds). first ∷ filter_map (landing_of map me b) (entities_of map)) c.reach_of-reach.ensures
