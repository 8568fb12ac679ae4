-- What a record that is taken is, and that players on the map are taken.
use Rattle.std.proofs.Common.{◌≡◌, ℕ, ◌<◌, ◌≤◌, ◌==◌, nat_lt, nat_le, Bool, true, ◌&&◌, if◌then◌else◌, ℤ, ◌+ℤ◌, ◌≤ℤ◌, int_le, unsigned_abs, Option, Some, None, refl, sym, ap, ◌∙◌, subst, arith}
use Rattle.std.specs.Ordering.{int_eq}
use Rattle.std.proofs.lemmas.Bool.{eqb-true, and_parts}
use Rattle.std.proofs.lemmas.Bool.Decides.{nat_tests, Decides-int_eq}
use Rattle.std.proofs.lemmas.Int.{ints}
use Rattle.arena_geo.specs.declared.vec3.Vec3.{Vec3}
use Rattle.arena_geo.specs.Vectors.{IsNear, is_near, is_same_vector}
use Rattle.arena_geo.specs.Boxes.{contains}
use Rattle.arena_geo.proofs.Vectors.{near_by_test, same_by_test}
use Rattle.entity_recs.specs.declared.bodies.TheConstants.{PLAYER_MINS, PLAYER_MAXS}
use Rattle.entity_recs.specs.declared.kind.Kind.{Kind}
use Rattle.entity_recs.specs.declared.kind.Kind.TheVariants.{Player, Ammo, Gem, Teleporter, Goal, Lift}
use Rattle.entity_recs.specs.declared.rec.Rec.{Rec}
use Rattle.entity_recs.specs.Kinds.{number_of}
use Rattle.entity_recs.specs.Records.{IsMapId, IsIdOf, IsShapeOf, IsRecord, with_state}
use Rattle.entity_recs.specs.Bodies.{body_of}
use Rattle.entity_recs.specs.Actions.{IsKeepable}
use Rattle.entity_recs.proofs.Ids.{player_shape}
use Rattle.arena_map.specs.declared.lift.Lift as lifts
use Rattle.arena_map.specs.Maps.{MapView, IsMap, lift_of}
use Rattle.arena_map.specs.Validity.{IsSameThing, IsSameLift}
use Rattle.arena_map.proofs.Kept.{few_things}
use Rattle.arena_map.proofs.Lifts.{lifts_stay_inside}
use Rattle.arena_map.proofs.Opening.{found-in}
use Rattle.arena_map.proofs.ThingRecords.{thing-is_record, own-id}
use Rattle.trigger_rules.specs.Laws.{IsPlayerOn}
use Rattle.arena_outcomes.specs.Takes.{has_numbers, has_shape_of, is_player, is_thing, is_lift, thing_with, is_one_of, takes}

-- ---- what the tests say

test_of_near : (far : ℕ) (v : Vec3) → IsNear far v → is_near far v ≡ true
test_of_near far v is = rw (passes v.x is.x, passes v.y is.y, passes v.z is.z) refl
  where
    passes : (n : ℤ) → unsigned_abs n ≤ far → nat_le (unsigned_abs n) far ≡ true
    passes n e = grind (arith, nat_tests)

itself : (n : ℤ) → int_eq n n ≡ true
itself n = (Decides-int_eq n n).1 refl

pub test_of_same : (v w : Vec3) → v ≡ w → is_same_vector v w ≡ true
test_of_same v w e = subst (λ (u : Vec3). is_same_vector v u ≡ true) e (rw (itself v.x, itself v.y, itself v.z) refl)

-- the kind with a number
kind_with : ℕ → Kind
kind_with n =
    if n == 0 then Player else if n == 1 then Ammo else if n == 2 then Gem else if n == 3 then Teleporter else if n == 4
    then Goal else Lift

numbered : (k : Kind) → kind_with (number_of k) ≡ k
unfolding kind_with
numbered Player = refl
numbered Ammo = refl
numbered Gem = refl
numbered Teleporter = refl
numbered Goal = refl
numbered Lift = refl

same_kind : (j k : Kind) → (number_of j == number_of k) ≡ true → j ≡ k
same_kind j k h = sym (numbered j) ∙ ap kind_with (eqb-true (number_of j) (number_of k) h) ∙ numbered k

-- a record whose numbers are within their bounds and of their types
pub record HasNumbers (r : Rec) : Type 0 where
  pub origin : IsNear 1048576 r.origin
  pub vel : IsNear 512000 r.vel
  pub flags : r.flags ≤ 3
  pub ammo : r.ammo ≤ 100
  pub carry : r.carry ≤ 8
  pub score : r.score < 4294967296
  pub seq : r.seq < 4294967296

numbers_of_test : (r : Rec) → has_numbers r ≡ true → HasNumbers r
numbers_of_test r h =
    let a = is_near 1048576 r.origin in
    let b = is_near 512000 r.vel in
    let c = nat_le r.flags 3 in
    let d = nat_le r.ammo 100 in
    let e = nat_le r.carry 8 in
    let f = nat_lt r.score 4294967296 in
    let g = nat_lt r.seq 4294967296 in
    let p = and_parts (a && b && c && d && e && f) g h in
    let q = and_parts (a && b && c && d && e) f p.0 in
    let s = and_parts (a && b && c && d) e q.0 in
    let t = and_parts (a && b && c) d s.0 in
    let u = and_parts (a && b) c t.0 in
    let v = and_parts a b u.0 in
    record {
      origin = near_by_test 1048576 r.origin v.0;
      vel = near_by_test 512000 r.vel v.1;
      flags = at_most r.flags 3 u.1;
      ammo = at_most r.ammo 100 t.1;
      carry = at_most r.carry 8 s.1;
      score = below r.score 4294967296 q.1;
      seq = below r.seq 4294967296 p.1;
    }
  where
    at_most : (m n : ℕ) → nat_le m n ≡ true → m ≤ n
    at_most m n k = grind (arith, nat_tests)

    below : (m n : ℕ) → nat_lt m n ≡ true → m < n
    below m n k = grind (arith, nat_tests)

pub test_of_numbers : (r : Rec) → HasNumbers r → has_numbers r ≡ true
test_of_numbers r is =
    rw (test_of_near 1048576 r.origin is.origin, test_of_near 512000 r.vel is.vel, at_most r.flags 3 is.flags, at_most r.ammo 100 is.ammo, at_most r.carry 8 is.carry, below r.score 4294967296 is.score, below r.seq 4294967296 is.seq)
    refl
  where
    at_most : (m n : ℕ) → m ≤ n → nat_le m n ≡ true
    at_most m n k = grind (arith, nat_tests)

    below : (m n : ℕ) → m < n → nat_lt m n ≡ true
    below m n k = grind (arith, nat_tests)

-- ---- things

-- the record has the kind and the shape of the thing
record HasShapeOf (thing r : Rec) : Type 0 where
  kind : r.kind ≡ thing.kind
  mins : r.mins ≡ thing.mins
  maxs : r.maxs ≡ thing.maxs

shape_of_test : (thing r : Rec) → has_shape_of thing r ≡ true → HasShapeOf thing r
shape_of_test thing r h =
    let p = and_parts ((number_of r.kind == number_of thing.kind)
    && is_same_vector r.mins thing.mins) (is_same_vector r.maxs thing.maxs) h in
    let q = and_parts (number_of r.kind == number_of thing.kind) (is_same_vector r.mins thing.mins) p.0 in
    record {
      kind = same_kind r.kind thing.kind q.0;
      mins = same_by_test r.mins thing.mins q.1;
      maxs = same_by_test r.maxs thing.maxs p.1;
    }

-- the record is that of a thing of the map
pub record IsThingsRecord (map : MapView) (r : Rec) : Type 0 where
  pub thing : Rec
  pub found : thing_with map r.id ≡ Some thing
  pub same : IsSameThing thing r

pub thing_of_test : (map : MapView) (r : Rec) (o : Option Rec) → thing_with map r.id ≡ o → is_thing o r ≡ true
    → IsThingsRecord map r
thing_of_test map r None found h = cc
thing_of_test map r (Some thing) found h =
    let p = and_parts (has_shape_of thing r) (is_same_vector r.origin thing.origin) h in
    let shape = shape_of_test thing r p.0 in
    record {
      thing = thing;
      found = found;
      same = record {
        kind = shape.kind;
        origin = same_by_test r.origin thing.origin p.1;
        mins = shape.mins;
        maxs = shape.maxs;
      };
    }

-- the record is that of a lift of the map
pub record IsLiftsRecord (map : MapView) (r : Rec) : Type 0 where
  pub lift : lifts.Lift
  pub thing : Rec
  pub data_are : lift_of map r.id ≡ Some lift
  pub found : thing_with map r.id ≡ Some thing
  pub same : IsSameLift lift thing r

pub lift_of_test : (map : MapView) (r : Rec) (l : Option lifts.Lift) (o : Option Rec) → lift_of map r.id ≡ l
    → thing_with map r.id ≡ o → is_lift l o r ≡ true → IsLiftsRecord map r
lift_of_test map r None o data_are found h = cc
lift_of_test map r (Some lift) None data_are found h = cc
lift_of_test map r (Some lift) (Some thing) data_are found h =
    let a = has_shape_of thing r in
    let b = int_eq r.origin.x thing.origin.x in
    let c = int_eq r.origin.y thing.origin.y in
    let d = int_le lift.low r.origin.z in
    let e = int_le r.origin.z (lift.low +ℤ lift.rise) in
    let p = and_parts (a && b && c && d) e h in
    let q = and_parts (a && b && c) d p.0 in
    let s = and_parts (a && b) c q.0 in
    let t = and_parts a b s.0 in
    let shape = shape_of_test thing r t.0 in
    record {
      lift = lift;
      thing = thing;
      data_are = data_are;
      found = found;
      same = record {
        kind = shape.kind;
        x = (Decides-int_eq r.origin.x thing.origin.x).0 t.1;
        y = (Decides-int_eq r.origin.y thing.origin.y).0 s.1;
        low = at_most lift.low r.origin.z q.1;
        high = at_most r.origin.z (lift.low +ℤ lift.rise) p.1;
        mins = shape.mins;
        maxs = shape.maxs;
      };
    }
  where
    at_most : (m n : ℤ) → int_le m n ≡ true → m ≤ℤ n
    at_most m n k = grind (arith, ints)

-- a thing of the map has its id, and is within its bounds
record IsKnown (id : ℕ) (thing : Rec) : Type 0 where
  own : thing.id ≡ id
  is : IsRecord thing

known : (map : MapView) (id : ℕ) (thing : Rec) → IsMap map → thing_with map id ≡ Some thing → IsKnown id thing
known map id thing is_map at =
    let f = found-in map id thing is_map at in
    let map_id : IsMapId id = record { least = f.low; most = omega (arith, f.high, few_things map is_map) } in
    record {
      own = ap (λ (t : Rec). t.id) f.is ∙ own-id id f.line f.inside.thing;
      is = subst IsRecord (sym f.is) (thing-is_record map.bounds id f.line map_id f.inside);
    }

-- a record of a thing's id and kind
id_of_kind : (thing r : Rec) → thing.id ≡ r.id → r.kind ≡ thing.kind → IsIdOf thing.kind thing.id → IsIdOf r.kind r.id
id_of_kind thing r own kind is =
    subst (λ (k : Kind). IsIdOf k r.id) (sym kind) (subst (λ (id : ℕ). IsIdOf thing.kind id) own is)

shape_at : (thing r : Rec) → IsSameThing thing r → IsShapeOf thing.kind thing.origin thing.mins thing.maxs
    → IsShapeOf r.kind r.origin r.mins r.maxs
shape_at thing r same shape =
    subst (λ (k : Kind). IsShapeOf k r.origin r.mins r.maxs) (sym same.kind)
    (subst (λ (o : Vec3). IsShapeOf thing.kind o r.mins r.maxs) (sym same.origin)
    (subst (λ (m : Vec3). IsShapeOf thing.kind thing.origin m r.maxs) (sym same.mins)
    (subst (λ (m : Vec3). IsShapeOf thing.kind thing.origin thing.mins m) (sym same.maxs) shape)))

thing_is_record : (map : MapView) (r : Rec) → IsMap map → HasNumbers r → IsThingsRecord map r → IsRecord r
thing_is_record map r is_map numbers is =
    let k = known map r.id is.thing is_map is.found in
    record {
      id = id_of_kind is.thing r k.own is.same.kind k.is.id;
      origin = numbers.origin;
      shape = shape_at is.thing r is.same k.is.shape;
      vel = numbers.vel;
      flags = numbers.flags;
      ammo = numbers.ammo;
      carry = numbers.carry;
    }

lift_is_record : (map : MapView) (r : Rec) → IsMap map → HasNumbers r → IsLiftsRecord map r → IsRecord r
lift_is_record map r is_map numbers is =
    let k = known map r.id is.thing is_map is.found in
    record {
      id = id_of_kind is.thing r k.own is.same.kind k.is.id;
      origin = numbers.origin;
      shape = (lifts_stay_inside map r.id is.lift is.thing r is_map is.data_are is.found is.same).shape;
      vel = numbers.vel;
      flags = numbers.flags;
      ammo = numbers.ammo;
      carry = numbers.carry;
    }

-- ---- players

record IsPlayersRecord (map : MapView) (r : Rec) : Type 0 where
  id : r.id < 64
  mins : r.mins ≡ PLAYER_MINS
  maxs : r.maxs ≡ PLAYER_MAXS
  inside : contains map.bounds (body_of r) ≡ true

player_of_test : (map : MapView) (r : Rec) → is_player map r ≡ true → IsPlayersRecord map r
player_of_test map r h =
    let a = nat_lt r.id 64 in
    let b = is_same_vector r.mins PLAYER_MINS in
    let c = is_same_vector r.maxs PLAYER_MAXS in
    let p = and_parts (a && b && c) (contains map.bounds (body_of r)) h in
    let q = and_parts (a && b) c p.0 in
    let s = and_parts a b q.0 in
    record {
      id = below s.0;
      mins = same_by_test r.mins PLAYER_MINS s.1;
      maxs = same_by_test r.maxs PLAYER_MAXS q.1;
      inside = p.1;
    }
  where
    below : nat_lt r.id 64 ≡ true → r.id < 64
    below e = grind (arith, nat_tests)

player_is_record : (map : MapView) (r : Rec) → HasNumbers r → r.kind ≡ Player → IsPlayersRecord map r → IsRecord r
player_is_record map r numbers kind is =
    let shape : IsShapeOf Player r.origin r.mins r.maxs = record { low_is = is.mins; high_is = is.maxs } in
    record {
      id = subst (λ (k : Kind). IsIdOf k r.id) (sym kind) is.id;
      origin = numbers.origin;
      shape = subst (λ (k : Kind). IsShapeOf k r.origin r.mins r.maxs) (sym kind) shape;
      vel = numbers.vel;
      flags = numbers.flags;
      ammo = numbers.ammo;
      carry = numbers.carry;
    }

-- ---- records that are taken

pub record IsTakenAs (map : MapView) (r : Rec) : Type 0 where
  pub numbers : HasNumbers r
  pub one : is_one_of r.kind map r ≡ true

pub taken_as : (map : MapView) (r : Rec) → takes map r ≡ true → IsTakenAs map r
unfolding takes
taken_as map r h =
    let p = and_parts (has_numbers r) (is_one_of r.kind map r) h in record { numbers = numbers_of_test r p.0; one = p.1 }

-- a record that is taken is within its bounds
pub taken_is_record : (map : MapView) (r : Rec) → IsMap map → takes map r ≡ true → IsRecord r
taken_is_record map r is_map h = by r.kind refl t.one
  where
    t : IsTakenAs map r
    t = taken_as map r h

    by : (k : Kind) → r.kind ≡ k → is_one_of k map r ≡ true → IsRecord r
    by Player kind one = player_is_record map r t.numbers kind (player_of_test map r one)
    by Ammo kind one = thing_is_record map r is_map t.numbers (thing_of_test map r (thing_with map r.id) refl one)
    by Gem kind one = thing_is_record map r is_map t.numbers (thing_of_test map r (thing_with map r.id) refl one)
    by Teleporter kind one = thing_is_record map r is_map t.numbers (thing_of_test map r (thing_with map r.id) refl one)
    by Goal kind one = thing_is_record map r is_map t.numbers (thing_of_test map r (thing_with map r.id) refl one)
    by Lift kind one =
        lift_is_record map r is_map t.numbers (lift_of_test map r (lift_of map r.id) (thing_with map r.id) refl refl one)

-- and can be kept
pub taken_is_keepable : (map : MapView) (r : Rec) → IsMap map → takes map r ≡ true → IsKeepable r
taken_is_keepable map r is_map h =
    let numbers = (taken_as map r h).numbers in
    record {
      bounds = taken_is_record map r is_map h;
      score = omega (arith, numbers.score);
      seq = omega (arith, numbers.seq);
    }

-- one of a player is that of a player on the map
pub taken_is_player : (map : MapView) (r : Rec) → IsMap map → takes map r ≡ true → r.kind ≡ Player → IsPlayerOn map r
taken_is_player map r is_map h kind =
    let t = taken_as map r h in
    let one : is_player map r ≡ true = subst (λ (k : Kind). is_one_of k map r ≡ true) kind t.one in
    record {
      kind = kind;
      is_record = taken_is_record map r is_map h;
      score = omega (arith, t.numbers.score);
      inside = (player_of_test map r one).inside;
    }

-- one of a teleporter is that of a thing of the map
pub taken_teleporter : (map : MapView) (r : Rec) → takes map r ≡ true → r.kind ≡ Teleporter → IsThingsRecord map r
taken_teleporter map r h kind =
    thing_of_test map r (thing_with map r.id) refl (subst (λ (k : Kind). is_one_of k map r
    ≡ true) kind (taken_as map r h).one)

-- the thing has the id by which it was found
pub thing_has_id : (map : MapView) (id : ℕ) (thing : Rec) → IsMap map → thing_with map id ≡ Some thing → thing.id ≡ id
thing_has_id map id thing is_map at = (known map id thing is_map at).own

-- a player on the map, with a number of 32 bits, is taken
pub player_is_taken : (map : MapView) (r : Rec) → IsPlayerOn map r → r.seq < 4294967296 → takes map r ≡ true
unfolding takes
player_is_taken map r is seq =
    let shape = player_shape r is.is_record is.kind in
    let numbers : HasNumbers r = record {
      origin = is.is_record.origin;
      vel = is.is_record.vel;
      flags = is.is_record.flags;
      ammo = is.is_record.ammo;
      carry = is.is_record.carry;
      score = omega (arith, is.score);
      seq = seq;
    } in
    let id : r.id < 64 = subst (λ (k : Kind). IsIdOf k r.id) is.kind is.is_record.id in
    let one : is_player map r ≡ true =
    rw (below id, test_of_same r.mins PLAYER_MINS shape.low_is, test_of_same r.maxs PLAYER_MAXS shape.high_is, is.inside) refl in
    rw (test_of_numbers r numbers) (subst (λ (k : Kind). is_one_of k map r ≡ true) (sym is.kind) one)
  where
    below : r.id < 64 → nat_lt r.id 64 ≡ true
    below e = grind (arith, nat_tests)

-- a record is taken in every state
pub taken_in_any_state : (map : MapView) (r : Rec) (state : ℕ) → takes map r ≡ true
    → takes map (with_state r state) ≡ true
unfolding takes
taken_in_any_state map r state h = ap (λ (b : Bool). has_numbers r && b) (by r.kind) ∙ h
  where
    thing : (o : Option Rec) → is_thing o (with_state r state) ≡ is_thing o r
    thing None = refl
    thing (Some t) = refl

    lift : (l : Option lifts.Lift) (o : Option Rec) → is_lift l o (with_state r state) ≡ is_lift l o r
    lift None o = refl
    lift (Some l) None = refl
    lift (Some l) (Some t) = refl

    by : (k : Kind) → is_one_of k map (with_state r state) ≡ is_one_of k map r
    by Player = refl
    by Ammo = thing (thing_with map r.id)
    by Gem = thing (thing_with map r.id)
    by Teleporter = thing (thing_with map r.id)
    by Goal = thing (thing_with map r.id)
    by Lift = lift (lift_of map r.id) (thing_with map r.id)
