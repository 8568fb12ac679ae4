-- The boxes of a region are near its player.
use Rattle.std.proofs.Common.{◌≡◌, ℕ, ◌+◌, Bool, true, false, if◌then◌else◌, List, [], ◌∷◌, All, Contains, Option, Some, None, refl, subst, arith}
use Rattle.std.specs.Prelude.{filter_map}
use Rattle.std.specs.List.{cons_option, AllByRecursion}
use Rattle.std.specs.Option.{option_map}
use Rattle.std.proofs.lemmas.Option.{none-some, same_Some}
use Rattle.std.proofs.lemmas.List.Elements.{All-contains_itself, All-from_recursion, recursion_from_All}
use Rattle.arena_geo.specs.declared.vec3.Vec3.{Vec3}
use Rattle.arena_geo.specs.Bounds.{Bounds}
use Rattle.arena_geo.specs.Boxes.{touches}
use Rattle.entity_recs.specs.declared.rec.Rec.{Rec}
use Rattle.entity_recs.specs.Bodies.{abs_of}
use Rattle.entity_recs.specs.Commands.{Command}
use Rattle.arena_map.specs.Maps.{MapView, entities_of, dest_of}
use Rattle.arena_outcomes.specs.Regions.{reach_of, first_box, landing_at, landing_of, region_with}
use Rattle.arena_outcomes.specs.declared.sizes.TheConstants.{ROOM, SHOT_ROOM}
use Rattle.arena_outcomes.specs.Laws.{farthest_on, IsNearPlayer, IsAround, IsLanding, RegionsAreNear}
use Rattle.arena_outcomes.proofs.Lawful.Inside.{contains-larger, contains-twice}

first_is_near : (room : ℕ) (arena : MapView) (me : Rec) (ms : ℕ) → IsNearPlayer room arena me ms (first_box room me ms)
first_is_near room arena me ms =
    let x = farthest_on me.vel.x ms in
    let y = farthest_on me.vel.y ms in
    let z = farthest_on me.vel.z ms in
    IsAround (contains-twice (abs_of me) (x + 256) (y + 256) (z + 4864) room (x + (256 + room)) (y + (256 + room)) (z + (4864 + room)) (omega arith) (omega arith) (omega arith))

module _ (room : ℕ) (arena : MapView) (me : Rec) (ms : ℕ) where
  -- a landing, if it is there, is near
  landing_is_near : (thing : Rec) (box : Bounds) → Contains (entities_of arena) thing → landing_of arena me (reach_of me ms) thing ≡ Some box → IsNearPlayer room arena me ms box
  landing_is_near thing box there = by (touches (abs_of thing) (reach_of me ms)) (dest_of arena thing.id) refl refl
    where
      at : (dest : Vec3) → dest_of arena thing.id ≡ Some dest → touches (abs_of thing) (reach_of me ms) ≡ true → IsNearPlayer room arena me ms (landing_at me dest)
      at dest from touch = IsLanding thing dest there from touch (contains-larger (abs_of (record me { origin = dest })) 16384 16384 16384 16384 16384 16384 (omega arith) (omega arith) (omega arith))

      by : (t : Bool) (dest : Option Vec3) → touches (abs_of thing) (reach_of me ms) ≡ t → dest_of arena thing.id ≡ dest
          → (if t then option_map (landing_at me) dest else None) ≡ Some box → IsNearPlayer room arena me ms box
      by true (Some dest) touch from is = subst (IsNearPlayer room arena me ms) (same_Some (landing_at me dest) box is) (at dest from touch)
      by true None touch from is = absurd (none-some box is)
      by false dest touch from is = absurd (none-some box is)

  landings_are_near : (things : List Rec) → AllByRecursion (Contains (entities_of arena)) things → AllByRecursion (IsNearPlayer room arena me ms) (filter_map (landing_of arena me (reach_of me ms)) things)
  landings_are_near [] there = tt
  landings_are_near (thing ∷ things) there = by (landing_of arena me (reach_of me ms) thing) refl (landings_are_near things there.1)
    where
      by : (o : Option Bounds) → landing_of arena me (reach_of me ms) thing ≡ o → AllByRecursion (IsNearPlayer room arena me ms) (filter_map (landing_of arena me (reach_of me ms)) things)
          → AllByRecursion (IsNearPlayer room arena me ms) (cons_option o (filter_map (landing_of arena me (reach_of me ms)) things))
      by None is rest = rest
      by (Some box) is rest = (landing_is_near thing box there.0 is, rest)

near_with : (room : ℕ) (arena : MapView) (me : Rec) (c : Command) → All (IsNearPlayer room arena me c.ms) (region_with room arena me c)
unfolding region_with
near_with room arena me c =
    let things = entities_of arena in
    All-from_recursion (IsNearPlayer room arena me c.ms) (region_with room arena me c)
    (first_is_near room arena me c.ms, landings_are_near room arena me c.ms things (recursion_from_All (Contains things) things (All-contains_itself things)))

pub regions_are_near : RegionsAreNear
regions_are_near = record { plain = near_with ROOM; shots = near_with SHOT_ROOM }
