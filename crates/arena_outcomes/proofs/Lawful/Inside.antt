-- Boxes in boxes, and what touches them.
use Rattle.std.proofs.Common.{◌≡◌, ℕ, ◌+◌, ◌≤◌, true, ℤ, pos, ◌+ℤ◌, ◌-ℤ◌, ◌≤ℤ◌, unsigned_abs, arith}
use Rattle.std.proofs.lemmas.Int.{ints}
use Rattle.arena_geo.specs.declared.vec3.Vec3.{Vec3}
use Rattle.arena_geo.specs.Bounds.{Bounds}
use Rattle.arena_geo.specs.Boxes.{overlaps_on, touches_on, contains_on, overlaps, touches, contains, box_grown_by}
use Rattle.arena_geo.proofs.Containment.{three_pass, all_three}
use Rattle.entity_recs.specs.Bodies.{box_at_origin}
use Rattle.arena_outcomes.proofs.Lawful.Growing.{amount}

-- ---- on one axis

contains_on-through : (lo hi l h low high : ℤ) → contains_on lo hi l h ≡ true → contains_on l h low high ≡ true
    → contains_on lo hi low high ≡ true
contains_on-through lo hi l h low high outer inner = grind (arith, ints)

touches_on-wider : (lo hi l h low high : ℤ) → contains_on lo hi l h ≡ true → touches_on low high l h ≡ true
    → touches_on low high lo hi ≡ true
touches_on-wider lo hi l h low high outer touch = grind (arith, ints)

-- intervals that overlap make wider ones touch
touches_on-around : (lo hi l h low high a b : ℤ) → contains_on lo hi l h ≡ true → contains_on a b low high ≡ true
    → overlaps_on l h low high ≡ true → touches_on a b lo hi ≡ true
touches_on-around lo hi l h low high a b one other overlap = grind (arith, ints)

-- one that is no longer than the growth, and touches, lies in the grown one
contains_on-touched : (lo hi l h : ℤ) (by : ℕ) → h ≤ℤ (l +ℤ pos by) → touches_on l h lo hi ≡ true
    → contains_on (lo -ℤ pos by) (hi +ℤ pos by) l h ≡ true
contains_on-touched lo hi l h by short touch = grind (arith, ints)

-- one that is moved no farther than the growth lies in the grown one
contains_on-moved : (from to low high g : ℤ) (far by : ℕ) → unsigned_abs (to -ℤ from) ≤ far → far ≤ by
    → contains_on (((from +ℤ low) -ℤ g) -ℤ pos by) (((from +ℤ high) +ℤ g) +ℤ pos by) ((to +ℤ low) -ℤ g) ((to +ℤ high) +ℤ g) ≡ true
contains_on-moved from to low high g far by near less = grind (arith, ints)

contains_on-larger : (lo hi : ℤ) (less more : ℕ) → less ≤ more
    → contains_on (lo -ℤ pos more) (hi +ℤ pos more) (lo -ℤ pos less) (hi +ℤ pos less) ≡ true
contains_on-larger lo hi less more le = grind (arith, ints)

-- ---- on all axes

pub contains-through : (a b c : Bounds) → contains a b ≡ true → contains b c ≡ true → contains a c ≡ true
contains-through a b c outer inner =
    let s = three_pass _ _ _ outer in
    let t = three_pass _ _ _ inner in
    all_three (contains_on-through a.lo.x a.hi.x b.lo.x b.hi.x c.lo.x c.hi.x s.x t.x) (contains_on-through a.lo.y a.hi.y b.lo.y b.hi.y c.lo.y c.hi.y s.y t.y)
    (contains_on-through a.lo.z a.hi.z b.lo.z b.hi.z c.lo.z c.hi.z s.z t.z)

-- what touches a box touches one that contains it
pub touches-wider : (a b r : Bounds) → contains a b ≡ true → touches r b ≡ true → touches r a ≡ true
touches-wider a b r outer touch =
    let s = three_pass _ _ _ outer in
    let t = three_pass _ _ _ touch in
    all_three (touches_on-wider a.lo.x a.hi.x b.lo.x b.hi.x r.lo.x r.hi.x s.x t.x) (touches_on-wider a.lo.y a.hi.y b.lo.y b.hi.y r.lo.y r.hi.y s.y t.y)
    (touches_on-wider a.lo.z a.hi.z b.lo.z b.hi.z r.lo.z r.hi.z s.z t.z)

-- boxes around boxes that overlap touch
pub touches-around : (a b c d : Bounds) → contains a b ≡ true → contains d c ≡ true → overlaps b c ≡ true
    → touches d a ≡ true
touches-around a b c d one other overlap =
    let s = three_pass _ _ _ one in
    let t = three_pass _ _ _ other in
    let u = three_pass _ _ _ overlap in
    all_three (touches_on-around a.lo.x a.hi.x b.lo.x b.hi.x c.lo.x c.hi.x d.lo.x d.hi.x s.x t.x u.x) (touches_on-around a.lo.y a.hi.y b.lo.y b.hi.y c.lo.y c.hi.y d.lo.y d.hi.y s.y t.y u.y)
    (touches_on-around a.lo.z a.hi.z b.lo.z b.hi.z c.lo.z c.hi.z d.lo.z d.hi.z s.z t.z u.z)

-- no longer than this on an axis
pub record IsShort (by : ℕ) (b : Bounds) : Type 0 where
  pub x : b.hi.x ≤ℤ (b.lo.x +ℤ pos by)
  pub y : b.hi.y ≤ℤ (b.lo.y +ℤ pos by)
  pub z : b.hi.z ≤ℤ (b.lo.z +ℤ pos by)

-- a short box that touches one lies in it with room around it
pub contains-touched : (a r : Bounds) (by : ℕ) → IsShort by r → touches r a ≡ true
    → contains (box_grown_by a (amount by by by)) r ≡ true
contains-touched a r by short touch =
    let t = three_pass _ _ _ touch in
    all_three (contains_on-touched a.lo.x a.hi.x r.lo.x r.hi.x by short.x t.x) (contains_on-touched a.lo.y a.hi.y r.lo.y r.hi.y by short.y t.y)
    (contains_on-touched a.lo.z a.hi.z r.lo.z r.hi.z by short.z t.z)

-- a body that is moved so far, with its growth, lies where it was, with room around it
pub contains-moved : (from to mins maxs g : Vec3) (far_x far_y far_z x y z : ℕ) → unsigned_abs (to.x -ℤ from.x) ≤ far_x
    → unsigned_abs (to.y -ℤ from.y) ≤ far_y → unsigned_abs (to.z -ℤ from.z) ≤ far_z
    → far_x ≤ x → far_y ≤ y → far_z ≤ z
    → contains (box_grown_by (box_grown_by (box_at_origin from mins maxs) g) (amount x y z)) (box_grown_by (box_at_origin to mins maxs) g) ≡ true
contains-moved from to mins maxs g far_x far_y far_z x y z near_x near_y near_z less_x less_y less_z =
    all_three (contains_on-moved from.x to.x mins.x maxs.x g.x far_x x near_x less_x) (contains_on-moved from.y to.y mins.y maxs.y g.y far_y y near_y less_y)
    (contains_on-moved from.z to.z mins.z maxs.z g.z far_z z near_z less_z)

-- a box that grows more contains one that grows less
pub contains-larger : (b : Bounds) (x y z x' y' z' : ℕ) → x ≤ x' → y ≤ y' → z ≤ z'
    → contains (box_grown_by b (amount x' y' z')) (box_grown_by b (amount x y z)) ≡ true
contains-larger b x y z x' y' z' less_x less_y less_z =
    all_three (contains_on-larger b.lo.x b.hi.x x x' less_x) (contains_on-larger b.lo.y b.hi.y y y' less_y) (contains_on-larger b.lo.z b.hi.z z z' less_z)

-- an interval that grows twice lies in one that grows by both at once
contains_on-twice : (lo hi : ℤ) (a b c : ℕ) → a + b ≤ c → contains_on (lo -ℤ pos c) (hi +ℤ pos c) ((lo -ℤ pos a) -ℤ pos b) ((hi +ℤ pos a) +ℤ pos b) ≡ true
contains_on-twice lo hi a b c less = grind (arith, ints)

-- and so a box
pub contains-twice : (box : Bounds) (x y z by far_x far_y far_z : ℕ) → x + by ≤ far_x → y + by ≤ far_y → z + by ≤ far_z
    → contains (box_grown_by box (amount far_x far_y far_z)) (box_grown_by (box_grown_by box (amount x y z)) (amount by by by)) ≡ true
contains-twice box x y z by far_x far_y far_z less_x less_y less_z =
    all_three (contains_on-twice box.lo.x box.hi.x x by far_x less_x) (contains_on-twice box.lo.y box.hi.y y by far_y less_y) (contains_on-twice box.lo.z box.hi.z z by far_z less_z)
