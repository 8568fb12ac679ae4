-- What lies in the region of a move, and what touches it.
use Rattle.std.proofs.Common.{◌≡◌, ℕ, ◌+◌, ◌≤◌, ◌==◌, Bool, true, ◌||◌, not, if◌then◌else◌, List, Contains, All, ℤ, pos, ◌+ℤ◌, ◌-ℤ◌, ◌≤ℤ◌, Some, None, sym, ap, ◌∙◌, subst, arith}
use Rattle.std.specs.Prelude.{filter_map}
use Rattle.std.specs.List.{list_any}
use Rattle.std.specs.Option.{option_map}
use Rattle.std.proofs.lemmas.Int.{ints}
use Rattle.std.proofs.lemmas.List.Elements.{All-contains, All-filter, filter_passes}
use Rattle.std.proofs.lemmas.Bool.{or_right, and_parts}
use Rattle.arena_geo.specs.declared.vec3.Vec3.{Vec3}
use Rattle.arena_geo.specs.Vectors.{IsNotNegative}
use Rattle.arena_geo.specs.Bounds.{Bounds}
use Rattle.arena_geo.specs.Boxes.{touches, contains_on, contains, box_grown_by}
use Rattle.arena_geo.specs.Regions.{touches_region, is_inside}
use Rattle.arena_geo.proofs.Containment.{all_three}
use Rattle.entity_recs.specs.declared.bodies.TheConstants.{PLAYER_MINS, PLAYER_MAXS}
use Rattle.entity_recs.specs.declared.kind.Kind.{Kind}
use Rattle.entity_recs.specs.declared.kind.Kind.TheVariants.{Teleporter}
use Rattle.entity_recs.specs.declared.rec.Rec.{Rec}
use Rattle.entity_recs.specs.Records.{HasCorners}
use Rattle.entity_recs.specs.Kinds.{is_solid}
use Rattle.entity_recs.specs.Bodies.{box_at_origin, player_body, body_of, growth_of, abs_of, is_touched}
use Rattle.entity_recs.specs.Commands.{Command}
use Rattle.entity_recs.proofs.Standing.{growth_is_small, contains-grown, abs_contains_body}
use Rattle.player_move.specs.Moves.{move_of}
use Rattle.player_move.specs.Laws.{reach_on, looked_at}
use Rattle.player_move.proofs.WholeMoves.{move_reach}
use Rattle.arena_map.specs.Maps.{MapView, IsMap, entities_of, dest_of}
use Rattle.arena_map.specs.Validity.{IsSameThing}
use Rattle.trigger_rules.specs.Touching.{touched_by, solids_among}
use Rattle.arena_outcomes.specs.Outcomes.{intent_of_command, moved_among}
use Rattle.arena_outcomes.specs.Regions.{reach_of, first_box, room_of, elsewhere, landing_at, landing_of, region_with}
use Rattle.arena_outcomes.specs.declared.sizes.TheConstants.{ROOM}
use Rattle.arena_outcomes.specs.Takes.{thing_with, takes}
use Rattle.arena_outcomes.proofs.Lawful.Inside.{contains-through, touches-wider, contains-moved}
use Rattle.arena_outcomes.proofs.Lawful.Landings.{any_found}
use Rattle.arena_outcomes.proofs.Lawful.Taking.{taken_teleporter, thing_has_id}

-- ---- the first box

pub room_is_positive : (room : ℕ) → IsNotNegative (room_of room)
room_is_positive room = record { x = omega (arith, ints); y = omega (arith, ints); z = omega (arith, ints) }

-- the first box contains the reach
pub first_contains_reach : (room : ℕ) (me : Rec) (ms : ℕ) → contains (first_box room me ms) (reach_of me ms) ≡ true
first_contains_reach room me ms = contains-grown (reach_of me ms) (room_of room) (room_is_positive room)

-- and where the move looks
contains_on-looked : (lo hi g : ℤ) (m n k : ℕ) → pos 0 ≤ℤ g → k ≤ m + n
    → contains_on (((lo -ℤ g) -ℤ pos m) -ℤ pos n) (((hi +ℤ g) +ℤ pos m) +ℤ pos n) (lo -ℤ pos k) (hi +ℤ pos k) ≡ true
contains_on-looked lo hi g m n k positive less = grind (arith, ints)

pub first_contains_looked : (room : ℕ) (me : Rec) (ms : ℕ) → contains (first_box room me ms) (looked_at me ms) ≡ true
first_contains_looked room me ms =
    let b = body_of me in
    let g = growth_of me.kind in
    let positive = (growth_is_small me.kind).positive in
    let x = reach_on me.vel.x ms in
    let y = reach_on me.vel.y ms in
    let z = reach_on me.vel.z ms in
    all_three (contains_on-looked b.lo.x b.hi.x g.x (x
    + 256) room x positive.x (omega arith)) (contains_on-looked b.lo.y b.hi.y g.y (y
    + 256) room y positive.y (omega arith))
    (contains_on-looked b.lo.z b.hi.z g.z (z + 4864) room (z + 4609) positive.z (omega arith))

-- a player that has moved, and touched nothing yet, is within its reach
pub reach_contains_moved : (map : MapView) (me : Rec) (near : List Rec) (c : Command) → c.ms ≤ 50
    → contains (reach_of me c.ms) (abs_of (moved_among map me near c)) ≡ true
unfolding moved_among
reach_contains_moved map me near c short =
    let solids = solids_among map near in
    let to = (move_of me (intent_of_command c) solids).origin in
    let far = move_reach me (intent_of_command c) solids short in
    let x = reach_on me.vel.x c.ms in
    let y = reach_on me.vel.y c.ms in
    let z = reach_on me.vel.z c.ms in
    contains-moved me.origin to me.mins me.maxs (growth_of me.kind) x y (z + 4608) (x + 256) (y + 256) (z
    + 4864) far.x far.y far.z (omega arith) (omega arith) (omega arith)

-- what touches the first box touches the region
pub touches_first : (room : ℕ) (map : MapView) (me : Rec) (c : Command) (b : Bounds) → touches b (first_box room me c.ms) ≡ true
    → touches_region b (region_with room map me c) ≡ true
unfolding region_with
touches_first room map me c b h =
    ap (λ (t : Bool). t || list_any (touches b) (filter_map (landing_of map me (reach_of me c.ms)) (entities_of map))) h

-- what it contains lies in the region
pub inside_first : (room : ℕ) (map : MapView) (me : Rec) (c : Command) (b : Bounds) → contains (first_box room me c.ms) b ≡ true
    → is_inside b (region_with room map me c) ≡ true
unfolding region_with
inside_first room map me c b h =
    ap (λ (t : Bool). t || list_any (λ one. contains one b) (filter_map (landing_of map me (reach_of me c.ms)) (entities_of map))) h

-- ---- landings

-- a teleporter that a player touches after its move, with this destination
pub record IsWay (map : MapView) (moved : Rec) (near : List Rec) (r : Rec) (dest : Vec3) : Type 0 where
  pub touched : Contains (touched_by moved near) r
  pub kind : r.kind ≡ Teleporter
  pub from : dest_of map r.id ≡ Some dest

same_abs : (thing r : Rec) → IsSameThing thing r → abs_of r ≡ abs_of thing
same_abs thing r same =
    ap (λ (k : Kind). box_grown_by (body_of r) (growth_of k)) same.kind
    ∙ ap (λ (o : Vec3). box_grown_by (box_at_origin o r.mins r.maxs) (growth_of thing.kind)) same.origin
    ∙ ap (λ (m : Vec3). box_grown_by (box_at_origin thing.origin m r.maxs) (growth_of thing.kind)) same.mins
    ∙ ap (λ (m : Vec3). box_grown_by (box_at_origin thing.origin thing.mins m) (growth_of thing.kind)) same.maxs

-- its thing has a landing there
way_lands : (map : MapView) (me : Rec) (near : List Rec) (c : Command) (r : Rec) (dest : Vec3) → IsMap map → c.ms ≤ 50
    → All (λ s. takes map s ≡ true) near
    → IsWay map (moved_among map me near c) near r dest → (thing : Rec) → thing_with map r.id ≡ Some thing
    → IsSameThing thing r
    → landing_of map me (reach_of me c.ms) thing ≡ Some (landing_at me dest)
way_lands map me near c r dest is_map short taken way thing found same =
    let moved = moved_among map me near c in
    let test = is_touched (abs_of moved) in
    let passes = All-contains (λ s. test s ≡ true) (touched_by moved near) r (filter_passes test near) way.touched in
    let touch = (and_parts (not (is_solid r.kind)) (touches (abs_of r) (abs_of moved)) passes).1 in
    let reached =
    touches-wider (reach_of me c.ms) (abs_of moved) (abs_of r) (reach_contains_moved map me near c short) touch in
    let there : touches (abs_of thing) (reach_of me c.ms) ≡ true =
    ap (λ (b : Bounds). touches b (reach_of me c.ms)) (sym (same_abs thing r same)) ∙ reached in
    let from : dest_of map thing.id ≡ Some dest =
    ap (dest_of map) (thing_has_id map r.id thing is_map found) ∙ way.from in
    ap (λ (t : Bool). if t then option_map (landing_at me) (dest_of map thing.id) else None) there
    ∙ ap (option_map (landing_at me)) from

-- a test that its landing passes some box of the region passes
way_passes : (room : ℕ) (p : Bounds → Bool) (map : MapView) (me : Rec) (near : List Rec) (c : Command) (r : Rec) (dest : Vec3)
    → IsMap map → c.ms ≤ 50 → All (λ s. takes map s ≡ true) near
    → IsWay map (moved_among map me near c) near r dest → p (landing_at me dest) ≡ true
    → list_any p (region_with room map me c) ≡ true
unfolding region_with
way_passes room p map me near c r dest is_map short taken way passes =
    let moved = moved_among map me near c in
    let test = is_touched (abs_of moved) in
    let is_taken =
    All-contains (λ s. takes map s ≡ true) (touched_by moved near) r (All-filter test (λ s. takes map s
    ≡ true) near taken) way.touched in
    let is = taken_teleporter map r is_taken way.kind in
    let lands = way_lands map me near c r dest is_map short taken way is.thing is.found is.same in
    or_right (p (first_box room me c.ms)) (list_any p (filter_map (landing_of map me (reach_of me c.ms)) (entities_of map)))
    (any_found (landing_of map me (reach_of me c.ms)) p (λ t. t.id == r.id) (entities_of map) is.thing (landing_at me dest) is.found lands passes)

pub way_touches : (room : ℕ) (map : MapView) (me : Rec) (near : List Rec) (c : Command) (r : Rec) (dest : Vec3) (b : Bounds)
    → IsMap map → c.ms ≤ 50 → All (λ s. takes map s ≡ true) near
    → IsWay map (moved_among map me near c) near r dest → touches b (landing_at me dest) ≡ true
    → touches_region b (region_with room map me c) ≡ true
way_touches room map me near c r dest b = way_passes room (touches b) map me near c r dest

pub way_contains : (room : ℕ) (map : MapView) (me : Rec) (near : List Rec) (c : Command) (r : Rec) (dest : Vec3) (b : Bounds)
    → IsMap map → c.ms ≤ 50 → All (λ s. takes map s ≡ true) near
    → IsWay map (moved_among map me near c) near r dest → contains (landing_at me dest) b ≡ true
    → is_inside b (region_with room map me c) ≡ true
way_contains room map me near c r dest b = way_passes room (λ one. contains one b) map me near c r dest

-- a landing contains the player's absolute box there
pub landing_contains_abs : (me : Rec) (dest : Vec3) → contains (landing_at me dest) (abs_of (elsewhere me dest)) ≡ true
landing_contains_abs me dest = contains-grown (abs_of (elsewhere me dest)) (room_of ROOM) (room_is_positive ROOM)

-- and the body of a player there
pub landing_contains_body : (me : Rec) (dest : Vec3) → HasCorners PLAYER_MINS PLAYER_MAXS me.mins me.maxs
    → contains (landing_at me dest) (player_body dest) ≡ true
landing_contains_body me dest shape =
    let all =
    contains-through (landing_at me dest) (abs_of (elsewhere me dest)) (body_of (elsewhere me dest)) (landing_contains_abs me dest) (abs_contains_body (elsewhere me dest)) in
    subst (λ (m : Vec3). contains (landing_at me dest) (box_at_origin dest PLAYER_MINS m) ≡ true) shape.high_is
    (subst (λ (m : Vec3). contains (landing_at me dest) (box_at_origin dest m me.maxs) ≡ true) shape.low_is all)
