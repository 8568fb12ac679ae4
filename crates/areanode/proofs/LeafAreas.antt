-- A box has the leaves whose areas it touches.
use Rattle.std.proofs.Common.{◌≡◌, ℕ, zero, suc, ◌+◌, ◌*◌, ◌%◌, ◌^◌, ◌<◌, ◌≤◌, ◌==◌, ℤ, ◌≤ℤ◌, int_le, Bool, true, false, ◌&&◌, ◌||◌, ◌⊎◌, inl, inr, List, [], ◌∷◌, All, refl, ap, sym, ◌∙◌, arith}
use Rattle.std.specs.List.{list_any}
use Rattle.std.proofs.Math.Nat.{pow-suc}
use Rattle.std.proofs.lemmas.Nat.{pow_pos}
use Rattle.std.proofs.lemmas.Int.{ints}
use Rattle.std.proofs.lemmas.Bool.{eq-eqb, eqb-true, or_cases, or_left, or_right, and_from}
use Rattle.arena_geo.specs.Bounds.{Bounds, bounds, IsOrdered}
use Rattle.arena_geo.specs.Boxes.{touches_on}
use Rattle.areanode.specs.declared.cut.Axis.{Axis}
use Rattle.areanode.specs.declared.cut.Axis.TheVariants.{X, Y}
use Rattle.areanode.specs.Cuts.{low_on, high_on, cut_of, set_on, part_above, part_below}
use Rattle.areanode.specs.Trees.{child_above, child_below, leaf_node, reaches, has_leaf, region_has_leaf}
use Rattle.areanode.specs.Areas.{area_of}
use Rattle.areanode.specs.LeafAreas.{touches_flat, leaf_area, TouchesArena}
use Rattle.areanode.specs.Laws.{LeavesAreWhereTheBoxTouches, LeavesLieInTheArena, RegionHasTheLeavesThatItTouches}
use Rattle.areanode.proofs.Words.{word_has_its_bits}
use Rattle.areanode.proofs.Parts.{cut_is_between}
use Rattle.areanode.proofs.Nodes.{parent-child_above, parent-child_below}

-- ---- boxes seen from above
-- two boxes touch on x and on y, end by end
record Touching (a b : Bounds) : Type 0 where
  x_from : a.lo.x ≤ℤ b.hi.x
  x_to : b.lo.x ≤ℤ a.hi.x
  y_from : a.lo.y ≤ℤ b.hi.y
  y_to : b.lo.y ≤ℤ a.hi.y

-- the first box reaches as far as the second, on each side of x and of y
record Covers (a b : Bounds) : Type 0 where
  x_from : a.lo.x ≤ℤ b.lo.x
  x_to : b.hi.x ≤ℤ a.hi.x
  y_from : a.lo.y ≤ℤ b.lo.y
  y_to : b.hi.y ≤ℤ a.hi.y

-- both of two tests pass
pub record BothPass (p q : Bool) : Type 0 where
  pub first : p ≡ true
  pub second : q ≡ true

pub both_pass : (p q : Bool) → (p && q) ≡ true → BothPass p q
both_pass true true h = record { first = refl; second = refl }
both_pass true false h = cc
both_pass false q h = cc

pub begins_before : (lo hi l h : ℤ) → touches_on lo hi l h ≡ true → lo ≤ℤ h
begins_before lo hi l h touch = grind (arith, ints)

pub ends_after : (lo hi l h : ℤ) → touches_on lo hi l h ≡ true → l ≤ℤ hi
ends_after lo hi l h touch = grind (arith, ints)

touching : (a b : Bounds) → touches_flat a b ≡ true → Touching a b
touching a b touch =
    let both = both_pass _ _ touch in
    record {
      x_from = begins_before a.lo.x a.hi.x b.lo.x b.hi.x both.first;
      x_to = ends_after a.lo.x a.hi.x b.lo.x b.hi.x both.first;
      y_from = begins_before a.lo.y a.hi.y b.lo.y b.hi.y both.second;
      y_to = ends_after a.lo.y a.hi.y b.lo.y b.hi.y both.second;
    }

touches_from : (lo hi l h : ℤ) → lo ≤ℤ h → l ≤ℤ hi → touches_on lo hi l h ≡ true
touches_from lo hi l h from to = grind (arith, ints)

touching_passes : (a b : Bounds) → Touching a b → touches_flat a b ≡ true
touching_passes a b t =
    and_from _ _ (touches_from a.lo.x a.hi.x b.lo.x b.hi.x t.x_from t.x_to) (touches_from a.lo.y a.hi.y b.lo.y b.hi.y t.y_from t.y_to)

at_most : (a b c : ℤ) → a ≤ℤ b → b ≤ℤ c → a ≤ℤ c
at_most a b c h k = omega (arith, ints, h, k)

covers_itself : (a : Bounds) → Covers a a
covers_itself a = record { x_from = omega (arith, ints); x_to = omega (arith, ints); y_from = omega (arith, ints); y_to = omega (arith, ints) }

covers_more : (a b c : Bounds) → Covers a b → Covers b c → Covers a c
covers_more a b c h k = record {
  x_from = at_most _ _ _ h.x_from k.x_from;
  x_to = at_most _ _ _ k.x_to h.x_to;
  y_from = at_most _ _ _ h.y_from k.y_from;
  y_to = at_most _ _ _ k.y_to h.y_to;
}

-- what touches the second touches the first
touches_more : (a c b : Bounds) → Covers a c → Touching c b → Touching a b
touches_more a c b covers t = record {
  x_from = at_most _ _ _ covers.x_from t.x_from;
  x_to = at_most _ _ _ t.x_to covers.x_to;
  y_from = at_most _ _ _ covers.y_from t.y_from;
  y_to = at_most _ _ _ t.y_to covers.y_to;
}

-- ---- the parts of an area
touches_raised : (axis : Axis) (dist : ℤ) (area b : Bounds) → Touching area b → int_le dist (high_on axis b) ≡ true
    → Touching (bounds (set_on axis dist area.lo) area.hi) b
touches_raised X dist area b t h = record { x_from = grind (arith, ints); x_to = t.x_to; y_from = t.y_from; y_to = t.y_to }
touches_raised Y dist area b t h = record { x_from = t.x_from; x_to = t.x_to; y_from = grind (arith, ints); y_to = t.y_to }

touches_lowered : (axis : Axis) (dist : ℤ) (area b : Bounds) → Touching area b → int_le (low_on axis b) dist ≡ true
    → Touching (bounds area.lo (set_on axis dist area.hi)) b
touches_lowered X dist area b t h = record { x_from = t.x_from; x_to = grind (arith, ints); y_from = t.y_from; y_to = t.y_to }
touches_lowered Y dist area b t h = record { x_from = t.x_from; x_to = t.x_to; y_from = t.y_from; y_to = grind (arith, ints) }

covers_raised : (axis : Axis) (dist : ℤ) (area : Bounds) → low_on axis area ≤ℤ dist
    → Covers area (bounds (set_on axis dist area.lo) area.hi)
covers_raised X dist area low = let same = covers_itself area in record { x_from = low; x_to = same.x_to; y_from = same.y_from; y_to = same.y_to }
covers_raised Y dist area low = let same = covers_itself area in record { x_from = same.x_from; x_to = same.x_to; y_from = low; y_to = same.y_to }

covers_lowered : (axis : Axis) (dist : ℤ) (area : Bounds) → dist ≤ℤ high_on axis area
    → Covers area (bounds area.lo (set_on axis dist area.hi))
covers_lowered X dist area high = let same = covers_itself area in record { x_from = same.x_from; x_to = high; y_from = same.y_from; y_to = same.y_to }
covers_lowered Y dist area high = let same = covers_itself area in record { x_from = same.x_from; x_to = same.x_to; y_from = same.y_from; y_to = high }

raised_is_ordered : (axis : Axis) (dist : ℤ) (area : Bounds) → IsOrdered area → dist ≤ℤ high_on axis area
    → IsOrdered (bounds (set_on axis dist area.lo) area.hi)
raised_is_ordered X dist area ordered high = record { x = high; y = ordered.y; z = ordered.z }
raised_is_ordered Y dist area ordered high = record { x = ordered.x; y = high; z = ordered.z }

lowered_is_ordered : (axis : Axis) (dist : ℤ) (area : Bounds) → IsOrdered area → low_on axis area ≤ℤ dist
    → IsOrdered (bounds area.lo (set_on axis dist area.hi))
lowered_is_ordered X dist area ordered low = record { x = low; y = ordered.y; z = ordered.z }
lowered_is_ordered Y dist area ordered low = record { x = ordered.x; y = low; z = ordered.z }

-- what touches a box in the part above reaches that part
reaches_raised : (axis : Axis) (dist : ℤ) (area end b : Bounds) → Covers (bounds (set_on axis dist area.lo) area.hi) end
    → Touching end b → int_le dist (high_on axis b) ≡ true
reaches_raised X dist area end b covers t = let h = covers.x_from in let k = t.x_from in grind (arith, ints)
reaches_raised Y dist area end b covers t = let h = covers.y_from in let k = t.y_from in grind (arith, ints)

reaches_lowered : (axis : Axis) (dist : ℤ) (area end b : Bounds) → Covers (bounds area.lo (set_on axis dist area.hi)) end
    → Touching end b → int_le (low_on axis b) dist ≡ true
reaches_lowered X dist area end b covers t = let h = covers.x_to in let k = t.x_to in grind (arith, ints)
reaches_lowered Y dist area end b covers t = let h = covers.y_to in let k = t.y_to in grind (arith, ints)

-- ---- the areas on the way down
-- the area of a child is the part on its side
pub area_of-above : (steps : ℕ) (whole : Bounds) (node : ℕ)
    → area_of (suc steps) whole (child_above node) ≡ part_above (area_of steps whole node)
unfolding area_of
area_of-above steps whole node =
    let some : (child_above node == 0) ≡ false = grind arith in
    let odd : (child_above node % 2 == 1) ≡ true = grind arith in
    rw (some, odd, parent-child_above node) refl

pub area_of-below : (steps : ℕ) (whole : Bounds) (node : ℕ)
    → area_of (suc steps) whole (child_below node) ≡ part_below (area_of steps whole node)
unfolding area_of
area_of-below steps whole node =
    let some : (child_below node == 0) ≡ false = grind arith in
    let even : (child_below node % 2 == 1) ≡ false = grind arith in
    rw (some, even, parent-child_below node) refl

-- an end that a box reaches from an area that it touches has an area that it touches
reached_is_touched : (depth steps levels node : ℕ) (whole b : Bounds) (end : ℕ) → steps + levels ≡ depth
    → Touching (area_of steps whole node) b → reaches levels node (area_of steps whole node) b end ≡ true
    → Touching (area_of depth whole end) b
unfolding reaches
reached_is_touched depth steps zero node whole b end sum touch h =
    let same : node ≡ end = eqb-true node end h in
    let all : steps ≡ depth = omega (arith, sum) in
    rw (← same, ← all) touch
reached_is_touched depth steps (suc levels) node whole b end sum touch h =
    let area = area_of steps whole node in
    let next : suc steps + levels ≡ depth = omega (arith, sum) in
    elim (or_cases _ _ h) [
      | inl up ↦
          let both = both_pass _ _ up in
          let is = area_of-above steps whole node in
          let part = touches_raised (cut_of area).axis (cut_of area).dist area b touch both.first in
          reached_is_touched depth (suc steps) levels (child_above node) whole b end next (rw is part) (rw is both.second)
      | inr down ↦
          let both = both_pass _ _ down in
          let is = area_of-below steps whole node in
          let part = touches_lowered (cut_of area).axis (cut_of area).dist area b touch both.first in
          reached_is_touched depth (suc steps) levels (child_below node) whole b end next (rw is part) (rw is both.second)
    ]

-- ---- the ends under a node
pub record IsUnder (levels node end : ℕ) : Type 0 where
  pub least : (node + 1) * 2 ^ levels ≤ end + 1
  pub most : end + 2 ≤ (node + 2) * 2 ^ levels

under_one_half : (node end p : ℕ) → (node + 1) * (p * 2) ≤ end + 1 → end + 2 ≤ (node + 2) * (p * 2)
    → (end + 2 ≤ (child_above node + 2) * p) ⊎ ((child_below node + 1) * p ≤ end + 1)
under_one_half node end p least most = grind arith

pub under_child : (levels node end : ℕ) → IsUnder (suc levels) node end
    → IsUnder levels (child_above node) end ⊎ IsUnder levels (child_below node) end
under_child levels node end under =
    let p = 2 ^ levels in
    let least : (node + 1) * (p * 2) ≤ end + 1 = rw (pow-suc 2 levels) at under.least in
    let most : end + 2 ≤ (node + 2) * (p * 2) = rw (pow-suc 2 levels) at under.most in
    elim (under_one_half node end p least most) [
      | inl up ↦ inl (record { least = grind arith; most = up })
      | inr down ↦ inr (record { least = down; most = grind arith })
    ]

-- the area of an end lies in that of each node above it, and what touches it reaches it
record IsBelow (depth steps levels node : ℕ) (whole b : Bounds) (end : ℕ) : Type 0 where
  covers : Covers (area_of steps whole node) (area_of depth whole end)
  reached : Touching (area_of depth whole end) b → reaches levels node (area_of steps whole node) b end ≡ true

touched_is_reached : (depth steps levels node : ℕ) (whole b : Bounds) (end : ℕ) → steps + levels ≡ depth
    → IsOrdered (area_of steps whole node) → IsUnder levels node end → IsBelow depth steps levels node whole b end
unfolding reaches
touched_is_reached depth steps zero node whole b end sum ordered under =
    let same : node ≡ end = omega (arith, under.least, under.most) in
    let all : steps ≡ depth = omega (arith, sum) in
    record { covers = rw (same, all) (covers_itself (area_of depth whole end)); reached = λ _. eq-eqb node end same }
touched_is_reached depth steps (suc levels) node whole b end sum ordered under =
    let area = area_of steps whole node in
    let cut = cut_of area in
    let between = cut_is_between area ordered in
    let next : suc steps + levels ≡ depth = omega (arith, sum) in
    elim (under_child levels node end under) [
      | inl up ↦
          let is = area_of-above steps whole node in
          let part = raised_is_ordered cut.axis cut.dist area ordered between.high in
          let more = touched_is_reached depth (suc steps) levels (child_above node) whole b end next (rw is part) up in
          let covers : Covers (part_above area) (area_of depth whole end) = rw is at more.covers in
          record {
            covers = covers_more _ _ _ (covers_raised cut.axis cut.dist area between.low) covers;
            reached = λ touch. or_left _ _ (and_from _ _ (reaches_raised cut.axis cut.dist area _ b covers touch) (rw is at (more.reached touch)));
          }
      | inr down ↦
          let is = area_of-below steps whole node in
          let part = lowered_is_ordered cut.axis cut.dist area ordered between.low in
          let more = touched_is_reached depth (suc steps) levels (child_below node) whole b end next (rw is part) down in
          let covers : Covers (part_below area) (area_of depth whole end) = rw is at more.covers in
          record {
            covers = covers_more _ _ _ (covers_lowered cut.axis cut.dist area between.high) covers;
            reached = λ touch. or_right _ _ (and_from _ _ (reaches_lowered cut.axis cut.dist area _ b covers touch) (rw is at (more.reached touch)));
          }
    ]

-- ---- the laws
same_tests : (p q : Bool) → (p ≡ true → q ≡ true) → (q ≡ true → p ≡ true) → p ≡ q
same_tests true q to from = sym (to refl)
same_tests false true to from = from refl
same_tests false false to from = refl

pub leaf_is_under : (depth leaf : ℕ) → leaf < 2 ^ depth → IsUnder depth 0 (leaf_node depth leaf)
leaf_is_under depth leaf below = record { least = omega (arith, pow_pos depth); most = omega (arith, below, pow_pos depth) }

pub leaves_are_where_the_box_touches : LeavesAreWhereTheBoxTouches
unfolding area_of
leaves_are_where_the_box_touches tree b leaf ordered arena below =
    let end = leaf_node tree.depth leaf in
    let sum : 0 + tree.depth ≡ tree.depth = omega arith in
    let is_below = touched_is_reached tree.depth 0 tree.depth 0 tree.bounds b end sum ordered (leaf_is_under tree.depth leaf below) in
    same_tests (has_leaf tree b leaf) (touches_flat (leaf_area tree leaf) b)
    (λ has. touching_passes (leaf_area tree leaf) b (reached_is_touched tree.depth 0 tree.depth 0 tree.bounds b end sum (touching tree.bounds b arena) has))
    (λ touch. is_below.reached (touching (leaf_area tree leaf) b touch))

pub leaves_lie_in_the_arena : LeavesLieInTheArena
unfolding area_of
leaves_lie_in_the_arena tree b leaf ordered below touch =
    let end = leaf_node tree.depth leaf in
    let sum : 0 + tree.depth ≡ tree.depth = omega arith in
    let is_below = touched_is_reached tree.depth 0 tree.depth 0 tree.bounds b end sum ordered (leaf_is_under tree.depth leaf below) in
    touching_passes tree.bounds b (touches_more tree.bounds (leaf_area tree leaf) b is_below.covers (touching (leaf_area tree leaf) b touch))

-- tests that agree on a list's elements
some_alike : (p q : Bounds → Bool) (region : List Bounds) (holds : Bounds → Type 0) → All holds region
    → ((b : Bounds) → holds b → p b ≡ q b) → list_any p region ≡ list_any q region
some_alike p q [] holds all same = refl
some_alike p q (b ∷ rest) holds all same =
    ap (λ t. t || list_any p rest) (same b (all 0 b (omega arith)))
    ∙ ap (λ t. q b || t) (some_alike p q rest holds (λ k one below. all (suc k) one (omega (arith, below))) same)

pub region_has_the_leaves_that_it_touches : RegionHasTheLeavesThatItTouches
region_has_the_leaves_that_it_touches tree region leaf ordered all below =
    word_has_its_bits (2 ^ tree.depth) (region_has_leaf tree region) leaf below
    ∙ some_alike _ _ region (TouchesArena tree) all (λ b arena. leaves_are_where_the_box_touches tree b leaf ordered arena below)
