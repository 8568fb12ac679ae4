use Rattle.std.proofs.Common.{ℕ, ◌+◌, ◌≤◌, length, refl, List, ◌++◌, ◌∷◌, [], sym, ap, ◌∙◌, subst, arith}
use Rattle.arena_geo.specs.Bounds.{Bounds}
use Rattle.entity_recs.specs.declared.rec.Rec.{Rec}
use Rattle.world_tree.specs.Nears.{NearView}
use Rattle.core_steps.specs.Reads.{things_in}
use Rattle.core_steps.specs.Steps.{sensing}
use Rattle.core_seats.specs.ThingBits.{AreMarked}
use Rattle.ruled_words.specs.Passes.{fixed_in}
use Rattle.ruled_words.proofs.StateSteps.{put_last, AreSensed, sensed_none, sensed_at, sensed_room, sensed_one, sensed_until, sensed_view, sensed_near, within_things, next_by_boxes, none_by_boxes}
use Rattle.ruled_words.proofs.shared_words.SharedWords.load_touched.Goals as goal

pub next_thing-requires : goal.next_thing-requires
next_thing-requires g c =
    let things = c.map_things-things.result.now in
    let are = c.map_things-things.ensures.things in
    subst (λ (bs : List Bounds). AreMarked c.args.region.now bs c.thing_bits-bits.result) (sym (c.thing_boxes-boxes.ensures things are)) (c.thing_bits-bits.ensures things are)

pub bounds-things-place : goal.bounds-things-place
bounds-things-place g c =
    let things = c.map_things-things.result.now in
    within_things c.args.region.now c.thing_boxes-boxes.result.now things (c.thing_boxes-boxes.ensures things c.map_things-things.ensures.things) c.in-Some.place c.in-Some.ensures.within

pub offset_bounds-things-place : goal.offset_bounds-things-place
offset_bounds-things-place g c =
    let things = c.map_things-things.result.now in
    let here = within_things c.args.region.now c.thing_boxes-boxes.result.now things (c.thing_boxes-boxes.ensures things c.map_things-things.ensures.things) c.in-Some.place c.in-Some.ensures.within in
    let few = c.map_things-things.ensures.things.few in
    omega (arith, here, few)

pub load_thing-requires-clause-at : goal.load_thing-requires-clause-at
load_thing-requires-clause-at g c κs within =
    let F = fixed_in g.A.Action.meaning c.args.self.now in
    let things = c.map_things-things.result.now in
    let region = c.args.region.now in
    let start = c.args.hand.now in
    let before = c.args.near.now.items in
    let next = next_by_boxes c.args.region.now c.thing_boxes-boxes.result.now c.map_things-things.result.now (c.thing_boxes-boxes.ensures c.map_things-things.result.now c.map_things-things.ensures.things) c.loop-place.at c.in-Some.place c.in-Some.ensures in
    let is = sensed_until F things region c.map_things-things.ensures.things c.map_things-things.ensures.rise start before c.loop-place.hand c.loop-place.near.items c.loop-place.at c.in-Some.place next.least (omega (arith, next.within)) c.loop-place.invariant.sensed next.apart in
    sensed_at F things region c.map_things-things.ensures.things c.map_things-things.ensures.rise start before c.loop-place.hand c.loop-place.near.items c.in-Some.place _ next.within is (next.touches _)

pub loop-place-init : goal.loop-place-init
loop-place-init g c =
    let F = fixed_in g.A.Action.meaning c.args.self.now in
    record {
      own = c.requires.own;
      sensed = sensed_none F c.map_things-things.result.now c.args.region.now c.map_things-things.ensures.things c.map_things-things.ensures.rise c.args.hand.now c.args.near.now.items c.requires.own.plain
          (c.requires.at ∙ ap (λ (region : List Bounds). sensing (things_in F region)) (sym c.requires.region_is)) c.requires.few;
      room = refl;
      within = omega arith;
    }

pub loop-place-preserved : goal.loop-place-preserved
loop-place-preserved g c =
    let F = fixed_in g.A.Action.meaning c.args.self.now in
    let things = c.map_things-things.result.now in
    let region = c.args.region.now in
    let start = c.args.hand.now in
    let before = c.args.near.now.items in
    let place = c.in-Some.place in
    let next = next_by_boxes c.args.region.now c.thing_boxes-boxes.result.now c.map_things-things.result.now (c.thing_boxes-boxes.ensures c.map_things-things.result.now c.map_things-things.ensures.things) c.loop-place.at c.in-Some.place c.in-Some.ensures in
    let here = next.within in
    let is = sensed_until F things region c.map_things-things.ensures.things c.map_things-things.ensures.rise start before c.loop-place.hand c.loop-place.near.items c.loop-place.at place next.least (omega (arith, here)) c.loop-place.invariant.sensed next.apart in
    let loaded = c.load_thing.ensures in
    let one = sensed_one F things region c.map_things-things.ensures.things c.map_things-things.ensures.rise start before c.loop-place.hand c.loop-place.near.items place _ here is (next.touches _) c.load_thing.new.hand c.load_thing.result.state loaded.view in
    let room = sensed_room F things region c.map_things-things.ensures.things c.map_things-things.ensures.rise start before c.loop-place.hand c.loop-place.near.items place c.load_thing.result here is
    c.loop-place.near.room (subst (λ (n : ℕ). 64 + length F.start.ids ≤ n) (sym c.loop-place.invariant.room) c.requires.room) in
    let pushed = put_last c.push.result c.loop-place.near c.push.new.self c.load_thing.result c.push.ensures.room c.push.ensures.records room in
    let near_is = ap (λ (l : NearView). l.items) pushed ∙ ap (λ (r : Rec). c.loop-place.near.items ++ r ∷ []) loaded.thing in
    record {
      own = loaded.own;
      sensed = subst (λ (rs : List Rec). AreSensed region things start c.load_thing.new.hand before rs (place + 1)) (sym near_is) one;
      room = ap (λ (l : NearView). l.room) pushed ∙ c.loop-place.invariant.room;
      within = omega (arith, here);
    }

pub loop-place-smaller : goal.loop-place-smaller
loop-place-smaller g c =
    let next = next_by_boxes c.args.region.now c.thing_boxes-boxes.result.now c.map_things-things.result.now (c.thing_boxes-boxes.ensures c.map_things-things.result.now c.map_things-things.ensures.things) c.loop-place.at c.in-Some.place c.in-Some.ensures in
    let least = next.least in
    let here = next.within in
    omega (arith, least, here)

pub returns-clause-view : goal.returns-clause-view
returns-clause-view g c =
    let F = fixed_in g.A.Action.meaning c.args.self.now in
    let things = c.map_things-things.result.now in
    let is = sensed_until F things c.args.region.now c.map_things-things.ensures.things c.map_things-things.ensures.rise c.args.hand.now c.args.near.now.items c.loop-place.hand c.loop-place.near.items c.loop-place.at (length things) c.loop-place.invariant.within (omega arith) c.loop-place.invariant.sensed (none_by_boxes c.args.region.now c.thing_boxes-boxes.result.now things (c.thing_boxes-boxes.ensures things c.map_things-things.ensures.things) c.loop-place.at c.in_default.ensures) in
    sensed_view F things c.args.region.now c.map_things-things.ensures.things c.map_things-things.ensures.rise c.args.hand.now c.args.near.now.items c.loop-place.hand c.loop-place.near.items (length things) (omega arith) is

pub returns-clause-near : goal.returns-clause-near
returns-clause-near g c =
    let F = fixed_in g.A.Action.meaning c.args.self.now in
    let things = c.map_things-things.result.now in
    let is = sensed_until F things c.args.region.now c.map_things-things.ensures.things c.map_things-things.ensures.rise c.args.hand.now c.args.near.now.items c.loop-place.hand c.loop-place.near.items c.loop-place.at (length things) c.loop-place.invariant.within (omega arith) c.loop-place.invariant.sensed (none_by_boxes c.args.region.now c.thing_boxes-boxes.result.now things (c.thing_boxes-boxes.ensures things c.map_things-things.ensures.things) c.loop-place.at c.in_default.ensures) in
    sensed_near F things c.args.region.now c.map_things-things.ensures.things c.map_things-things.ensures.rise c.args.hand.now c.args.near.now.items c.loop-place.hand c.loop-place.near.items (length things) (omega arith) is
