-- What the ways through the tree have to do with each other.
use Rattle.std.proofs.Common.{◌≡◌, ℕ, zero, suc, ◌+◌, ◌-◌, ◌*◌, ◌^◌, ◌<◌, ◌≤◌, ◌==◌, ℤ, ◌≤ℤ◌, int_le, Bool, true, false, ◌&&◌, ◌||◌, if◌then◌else◌, ◌⊎◌, inl, inr, List, All, length, slice_index_or, add-one, refl, ap, sym, ◌∙◌, arith}
use Rattle.std.proofs.Math.Nat.{pow-suc}
use Rattle.std.proofs.lemmas.Nat.{pow_pos}
use Rattle.std.proofs.lemmas.Int.{ints}
use Rattle.std.proofs.lemmas.Bool.{eq-eqb, eqb-true, or_left, or_right, and_from}
use Rattle.std.proofs.lemmas.List.Folds.{Any-from_list_any, list_any_at}
use Rattle.arena_geo.specs.Bounds.{Bounds, IsOrdered}
use Rattle.arena_geo.specs.Boxes.{touches_on, touches, contains_on, contains}
use Rattle.arena_geo.specs.Regions.{touches_region}
use Rattle.arena_geo.proofs.Containment.{three_pass, all_three}
use Rattle.areanode.specs.declared.cut.Axis.{Axis}
use Rattle.areanode.specs.declared.cut.Axis.TheVariants.{X, Y}
use Rattle.areanode.specs.declared.cut.Cut.{Cut}
use Rattle.areanode.specs.Cuts.{low_on, high_on, cut_of, part_above, part_below, is_above, is_below, reaches_above, reaches_below}
use Rattle.areanode.specs.Trees.{TreeView, child_above, child_below, parent, leaf_node, node_from, reaches, node_of, has_leaf, region_has_leaf, climb, is_over, leaves_of, is_visited}
use Rattle.areanode.specs.Laws.{SomeBelow, CommonLeaf, SharedLeaf, InsideAndTouchedShareALeaf, NodeIsOverLeaves, TouchingBoxesShareALeaf, TouchedNodeIsVisited, BoxHasALeaf, TouchedLeafIsListed, LeavesAreInRange, NodeIsInRange, LeafOverLeaf}
use Rattle.areanode.proofs.Words.{any_below_at, some_below, word_has_its_bits}

pub parent-child_above : (node : ℕ) → parent (child_above node) ≡ node
parent-child_above node = omega arith

pub parent-child_below : (node : ℕ) → parent (child_below node) ≡ node
parent-child_below node = omega arith

-- what follows from either way follows
either_way : {P : Type 0} (a b c d : Bool) → (b ≡ true → P) → (d ≡ true → P) → ((a && b) || (c && d)) ≡ true → P
either_way a true c d from_b from_d h = from_b refl
either_way a false c true from_b from_d h = from_d refl
either_way true false true false from_b from_d h = cc
either_way true false false false from_b from_d h = cc
either_way false false true false from_b from_d h = cc
either_way false false false false from_b from_d h = cc

-- the end is reached by way of the child above, or by way of the child below
abbrev reaches_up : ℕ → ℕ → Bounds → Bounds → ℕ → Bool
reaches_up levels node area b end = reaches levels (child_above node) (part_above area) b end

abbrev reaches_down : ℕ → ℕ → Bounds → Bounds → ℕ → Bool
reaches_down levels node area b end = reaches levels (child_below node) (part_below area) b end

-- as many steps up from a leaf as there are levels is the node from which it is reached
pub climb_back : (levels node : ℕ) (area b : Bounds) (end : ℕ) → reaches levels node area b end ≡ true
    → climb levels end ≡ node
unfolding climb reaches
climb_back zero node area b end h = sym (eqb-true node end h)
climb_back (suc levels) node area b end h =
    either_way (reaches_above b (cut_of area)) (reaches_up levels node area b end) (reaches_below b (cut_of area)) (reaches_down levels node area b end)
    (λ up. ap parent (climb_back levels (child_above node) (part_above area) b end up) ∙ parent-child_above node)
    (λ down. ap parent (climb_back levels (child_below node) (part_below area) b end down) ∙ parent-child_below node)
    h

above_is_not_below : (b : Bounds) (cut : Cut) → is_above b cut ≡ true → reaches_below b cut ≡ false
above_is_not_below b cut h = grind (arith, ints)

below_is_not_above : (b : Bounds) (cut : Cut) → is_below b cut ≡ true → reaches_above b cut ≡ false
below_is_not_above b cut h = grind (arith, ints)

one_more : (n : ℕ) (test : ℕ → Bool) → SomeBelow n test → SomeBelow (suc n) test
one_more n test some = record { number = some.number; below = omega (arith, some.below); passes = some.passes }

-- the other side isn't reached
pub left_alone : (a b c d : Bool) → c ≡ false → ((a && b) || (c && d)) ≡ true → b ≡ true
left_alone true true c d e h = refl
left_alone true false true d e h = cc
left_alone true false false d e h = cc
left_alone false b true d e h = cc
left_alone false b false d e h = cc

pub right_alone : (a b c d : Bool) → a ≡ false → ((a && b) || (c && d)) ≡ true → d ≡ true
right_alone true b c d e h = cc
right_alone false b true true e h = refl
right_alone false b true false e h = cc
right_alone false b false d e h = cc

-- one level more: what holds of the node from either child holds of the node from their parent
over_from_children : (n node up down end : ℕ) (above below ra ru rb rd : Bool) → (above ≡ true → rb ≡ false)
    → (below ≡ true → ra ≡ false) → (ru ≡ true → SomeBelow (suc n) (λ s. climb s end == up))
    → (rd ≡ true → SomeBelow (suc n) (λ s. climb s end == down)) → climb (suc n) end ≡ node
    → ((ra && ru) || (rb && rd)) ≡ true
    → SomeBelow (suc (suc n)) (λ s. climb s end == (if above then up else (if below then down else node)))
over_from_children n node up down end true below ra ru rb rd not_below not_above from_up from_down back h = one_more _ _ (from_up (left_alone ra ru rb rd (not_below refl) h))
over_from_children n node up down end false true ra ru rb rd not_below not_above from_up from_down back h = one_more _ _ (from_down (right_alone ra ru rb rd (not_above refl) h))
over_from_children n node up down end false false ra ru rb rd not_below not_above from_up from_down back h = record { number = suc n; below = omega arith; passes = eq-eqb _ _ back }

node_is_over : (levels node : ℕ) (area b : Bounds) (end : ℕ) → reaches levels node area b end ≡ true
    → SomeBelow (suc levels) (λ s. climb s end == node_from levels node area b)
unfolding climb reaches node_from
node_is_over zero node area b end h = record { number = 0; below = omega arith; passes = eq-eqb _ _ (sym (eqb-true node end h)) }
node_is_over (suc levels) node area b end h =
    over_from_children levels node _ _ end (is_above b (cut_of area)) (is_below b (cut_of area))
    (reaches_above b (cut_of area)) (reaches_up levels node area b end) (reaches_below b (cut_of area)) (reaches_down levels node area b end)
    (above_is_not_below b (cut_of area)) (below_is_not_above b (cut_of area))
    (node_is_over levels (child_above node) (part_above area) b end) (node_is_over levels (child_below node) (part_below area) b end)
    (climb_back (suc levels) node area b end h) h

pub node_is_over_leaves : NodeIsOverLeaves
node_is_over_leaves tree b leaf h =
    let some = node_is_over tree.depth 0 tree.bounds b (leaf_node tree.depth leaf) h in
    any_below_at (tree.depth + 1) (λ s. climb s (leaf_node tree.depth leaf) == node_of tree b) some.number (omega (arith, some.below)) some.passes

-- an end that two boxes reach
pub record CommonEnd (levels node : ℕ) (area a b : Bounds) : Type 0 where
  pub end : ℕ
  pub first : reaches levels node area a end ≡ true
  pub second : reaches levels node area b end ≡ true

-- both of two tests pass
record BothPass (p q : Bool) : Type 0 where
  first : p ≡ true
  second : q ≡ true

-- the smaller of two numbers decides on which side of a cut both intervals have a point
sides_on : (d lo hi other_lo other_hi : ℤ) (up other_up : Bool) → int_le d hi ≡ up → int_le d other_hi ≡ other_up
    → lo ≤ℤ hi → other_lo ≤ℤ other_hi → touches_on lo hi other_lo other_hi ≡ true
    → BothPass (int_le d hi) (int_le d other_hi) ⊎ BothPass (int_le lo d) (int_le other_lo d)
sides_on d lo hi other_lo other_hi true true e f ordered other_ordered touch = inl (record { first = e; second = f })
sides_on d lo hi other_lo other_hi true false e f ordered other_ordered touch = inr (record { first = grind (arith, ints); second = grind (arith, ints) })
sides_on d lo hi other_lo other_hi false other_up e f ordered other_ordered touch = inr (record { first = grind (arith, ints); second = grind (arith, ints) })

sides : (axis : Axis) (d : ℤ) (a b : Bounds) → IsOrdered a → IsOrdered b → touches a b ≡ true
    → BothPass (int_le d (high_on axis a)) (int_le d (high_on axis b)) ⊎ BothPass (int_le (low_on axis a) d) (int_le (low_on axis b) d)
sides X d a b ordered other touch = sides_on d a.lo.x a.hi.x b.lo.x b.hi.x _ _ refl refl ordered.x other.x (three_pass _ _ _ touch).x
sides Y d a b ordered other touch = sides_on d a.lo.y a.hi.y b.lo.y b.hi.y _ _ refl refl ordered.y other.y (three_pass _ _ _ touch).y

pub common_end : (levels node : ℕ) (area a b : Bounds) → IsOrdered a → IsOrdered b → touches a b ≡ true
    → CommonEnd levels node area a b
unfolding reaches
common_end zero node area a b ordered other touch = record { end = node; first = eq-eqb node node refl; second = eq-eqb node node refl }
common_end (suc levels) node area a b ordered other touch =
    elim (sides (cut_of area).axis (cut_of area).dist a b ordered other touch) [
      | inl up ↦
          let common = common_end levels (child_above node) (part_above area) a b ordered other touch in
          record { end = common.end; first = or_left _ _ (and_from _ _ up.first common.first); second = or_left _ _ (and_from _ _ up.second common.second) }
      | inr down ↦
          let common = common_end levels (child_below node) (part_below area) a b ordered other touch in
          record { end = common.end; first = or_right _ _ (and_from _ _ down.first common.first); second = or_right _ _ (and_from _ _ down.second common.second) }
    ]

-- an end is one of the leaves below the node
record IsUnder (levels node end : ℕ) : Type 0 where
  least : (node + 1) * 2 ^ levels ≤ end + 1
  most : end + 2 ≤ (node + 2) * 2 ^ levels

halves_up : (levels node end p : ℕ) → (child_above node + 1) * p ≤ end + 1 → end + 2 ≤ (child_above node + 2) * p
    → ((node + 1) * (p * 2) ≤ end + 1) × (end + 2 ≤ (node + 2) * (p * 2))
halves_up levels node end p least most = (grind arith, grind arith)

halves_down : (levels node end p : ℕ) → (child_below node + 1) * p ≤ end + 1 → end + 2 ≤ (child_below node + 2) * p
    → ((node + 1) * (p * 2) ≤ end + 1) × (end + 2 ≤ (node + 2) * (p * 2))
halves_down levels node end p least most = (grind arith, grind arith)

is_under : (levels node : ℕ) (area b : Bounds) (end : ℕ) → reaches levels node area b end ≡ true
    → IsUnder levels node end
unfolding reaches
is_under zero node area b end h =
    let same : node ≡ end = eqb-true node end h in
    record { least = omega (arith, same); most = omega (arith, same) }
is_under (suc levels) node area b end h =
    either_way (reaches_above b (cut_of area)) (reaches_up levels node area b end) (reaches_below b (cut_of area)) (reaches_down levels node area b end)
    (λ up.
    let under = is_under levels (child_above node) (part_above area) b end up in
    let both = halves_up levels node end (2 ^ levels) under.least under.most in
    record { least = rw (pow-suc 2 levels) both.0; most = rw (pow-suc 2 levels) both.1 })
    (λ down.
    let under = is_under levels (child_below node) (part_below area) b end down in
    let both = halves_down levels node end (2 ^ levels) under.least under.most in
    record { least = rw (pow-suc 2 levels) both.0; most = rw (pow-suc 2 levels) both.1 })
    h

within_itself : (node p : ℕ) → 0 < p → node + 2 ≤ (node + 2) * p
within_itself node p h = grind arith

within_up : (node other p : ℕ) → other + 2 ≤ (child_above node + 2) * p → other + 2 ≤ (node + 2) * (p * 2)
within_up node other p h = grind arith

within_down : (node other p : ℕ) → other + 2 ≤ (child_below node + 2) * p → other + 2 ≤ (node + 2) * (p * 2)
within_down node other p h = grind arith

within_choice : (levels node up down : ℕ) (above below : Bool) → up + 2 ≤ (child_above node + 2) * 2 ^ levels
    → down + 2 ≤ (child_below node + 2) * 2 ^ levels
    → (if above then up else (if below then down else node)) + 2 ≤ (node + 2) * 2 ^ suc levels
within_choice levels node up down true below u d = rw (pow-suc 2 levels) (within_up node up (2 ^ levels) u)
within_choice levels node up down false true u d = rw (pow-suc 2 levels) (within_down node down (2 ^ levels) d)
within_choice levels node up down false false u d = within_itself node (2 ^ suc levels) (pow_pos (suc levels))

pub node_from-within : (levels node : ℕ) (area b : Bounds) → node_from levels node area b + 2 ≤ (node + 2) * 2 ^ levels
unfolding node_from
node_from-within zero node area b = omega arith
node_from-within (suc levels) node area b =
    within_choice levels node _ _ (is_above b (cut_of area)) (is_below b (cut_of area))
    (node_from-within levels (child_above node) (part_above area) b) (node_from-within levels (child_below node) (part_below area) b)

pub node_is_in_range : NodeIsInRange
node_is_in_range tree b =
    let within = node_from-within tree.depth 0 tree.bounds b in
    let twice : 2 ^ (tree.depth + 1) ≡ 2 ^ tree.depth * 2 = ap (λ n. 2 ^ n) (add-one tree.depth) ∙ pow-suc 2 tree.depth in
    rw twice (omega (arith, within))

leaf_below : (p leaf : ℕ) → 0 < p → (p - 1 + leaf) + 2 ≤ (0 + 2) * p → leaf < p
leaf_below p leaf positive most = omega arith

pub leaves_are_in_range : LeavesAreInRange
leaves_are_in_range tree b leaf h =
    leaf_below (2 ^ tree.depth) leaf (pow_pos tree.depth) (is_under tree.depth 0 tree.bounds b (leaf_node tree.depth leaf) h).most

-- the leaf of an end
leaf_of_end : (p end : ℕ) → 0 < p → (0 + 1) * p ≤ end + 1 → p - 1 + (end + 1 - p) ≡ end
leaf_of_end p end positive least = omega arith

-- an end that a box reaches is a leaf
pub record LeafAt (depth end : ℕ) : Type 0 where
  pub leaf : ℕ
  pub at : leaf_node depth leaf ≡ end

pub leaf_at : (depth : ℕ) (area b : Bounds) (end : ℕ) → reaches depth 0 area b end ≡ true → LeafAt depth end
leaf_at depth area b end h =
    let under = is_under depth 0 area b end h in
    record { leaf = end + 1 - 2 ^ depth; at = leaf_of_end (2 ^ depth) end (pow_pos depth) under.least }

common_leaf : (tree : TreeView) (a b : Bounds) → CommonEnd tree.depth 0 tree.bounds a b → CommonLeaf tree a b
common_leaf tree a b common =
    let is = leaf_at tree.depth tree.bounds a common.end common.first in
    let first : has_leaf tree a is.leaf ≡ true = rw is.at common.first in
    record { leaf = is.leaf; below = leaves_are_in_range tree a is.leaf first; first = first; second = rw is.at common.second }

pub touching_boxes_share_a_leaf : TouchingBoxesShareALeaf
touching_boxes_share_a_leaf tree a b ordered other touch =
    common_leaf tree a b (common_end tree.depth 0 tree.bounds a b ordered other touch)

touches_itself_on : (lo hi : ℤ) → lo ≤ℤ hi → touches_on lo hi lo hi ≡ true
touches_itself_on lo hi h = grind (arith, ints)

pub touches_itself : (b : Bounds) → IsOrdered b → touches b b ≡ true
touches_itself b ordered = all_three (touches_itself_on _ _ ordered.x) (touches_itself_on _ _ ordered.y) (touches_itself_on _ _ ordered.z)

pub box_has_a_leaf : BoxHasALeaf
box_has_a_leaf tree b ordered =
    let common = touching_boxes_share_a_leaf tree b b ordered ordered (touches_itself b ordered) in
    record { number = common.leaf; below = common.below; passes = common.first }

-- a leaf that a box shares with a region
record RegionLeaf (tree : TreeView) (b : Bounds) (region : List Bounds) : Type 0 where
  leaf : ℕ
  below : leaf < 2 ^ tree.depth
  own : has_leaf tree b leaf ≡ true
  listed : region_has_leaf tree region leaf ≡ true

region_leaf_at : (tree : TreeView) (b : Bounds) (region : List Bounds) (k : ℕ) (one : Bounds) → k < length region
    → slice_index_or region k one ≡ one → CommonLeaf tree b one → RegionLeaf tree b region
region_leaf_at tree b region k one below at common = record {
  leaf = common.leaf;
  below = common.below;
  own = common.first;
  listed = list_any_at (λ c. has_leaf tree c common.leaf) region k one below (rw at common.second);
}

region_leaf : (tree : TreeView) (b : Bounds) (region : List Bounds) → IsOrdered b → All IsOrdered region
    → touches_region b region ≡ true → RegionLeaf tree b region
region_leaf tree b region ordered all touch =
    let (k, one, below, at, passes) = Any-from_list_any (touches b) region touch in
    let other : IsOrdered one = rw at at (all k one below) in
    region_leaf_at tree b region k one below at (touching_boxes_share_a_leaf tree b one ordered other passes)

node_is_visited : (tree : TreeView) (b : Bounds) (region : List Bounds) → RegionLeaf tree b region
    → is_visited tree.depth (leaves_of tree region) (node_of tree b) ≡ true
node_is_visited tree b region shared =
    any_below_at (2 ^ tree.depth) _ shared.leaf shared.below
    (and_from _ _ (word_has_its_bits (2 ^ tree.depth) (region_has_leaf tree region) shared.leaf shared.below ∙ shared.listed) (node_is_over_leaves tree b shared.leaf shared.own))

pub touched_node_is_visited : TouchedNodeIsVisited
touched_node_is_visited tree b region ordered all touch =
    let shared = region_leaf tree b region ordered all touch in
    let below : node_of tree b < 2 ^ (tree.depth + 1) - 1 = omega (arith, node_is_in_range tree b) in
    word_has_its_bits (2 ^ (tree.depth + 1) - 1) (is_visited tree.depth (leaves_of tree region)) (node_of tree b) below ∙ node_is_visited tree b region shared

climb_falls : (steps node : ℕ) → climb (suc steps) node ≤ parent node
unfolding climb
climb_falls zero node = omega arith
climb_falls (suc steps) node = omega (arith, climb_falls steps node)

leaf_over_leaf_at : (steps p leaf other : ℕ) → 0 < p → leaf < p → other < p → climb steps (p - 1 + other) ≡ p - 1 + leaf
    → leaf ≡ other
unfolding climb
leaf_over_leaf_at zero p leaf other positive below other_below same = omega arith
leaf_over_leaf_at (suc steps) p leaf other positive below other_below same = omega (arith, climb_falls steps (p - 1 + other))

pub leaf_over_leaf : LeafOverLeaf
leaf_over_leaf depth leaf other below other_below over =
    let some = some_below (depth + 1) (λ s. climb s (leaf_node depth other) == leaf_node depth leaf) over in
    leaf_over_leaf_at some.number (2 ^ depth) leaf other (pow_pos depth) below other_below (eqb-true _ _ some.passes)

pub touched_leaf_is_listed : TouchedLeafIsListed
touched_leaf_is_listed tree b region leaf ordered all touch below at =
    let shared = region_leaf tree b region ordered all touch in
    let over : is_over tree.depth (leaf_node tree.depth leaf) (leaf_node tree.depth shared.leaf) ≡ true = rw at at (node_is_over_leaves tree b shared.leaf shared.own) in
    rw (leaf_over_leaf tree.depth leaf shared.leaf below shared.below over) shared.listed

wider_touches_on : (lo hi l h other_lo other_hi : ℤ) → contains_on lo hi l h ≡ true
    → touches_on l h other_lo other_hi ≡ true → touches_on lo hi other_lo other_hi ≡ true
wider_touches_on lo hi l h other_lo other_hi inside touch = grind (arith, ints)

-- what contains a box touches what the box touches
wider_touches : (wide b other : Bounds) → contains wide b ≡ true → touches b other ≡ true → touches wide other ≡ true
wider_touches wide b other inside touch =
    let i = three_pass _ _ _ inside in
    let t = three_pass _ _ _ touch in
    all_three (wider_touches_on wide.lo.x wide.hi.x b.lo.x b.hi.x other.lo.x other.hi.x i.x t.x)
    (wider_touches_on wide.lo.y wide.hi.y b.lo.y b.hi.y other.lo.y other.hi.y i.y t.y) (wider_touches_on wide.lo.z wide.hi.z b.lo.z b.hi.z other.lo.z other.hi.z i.z t.z)

shared_leaf_at : (tree : TreeView) (region other : List Bounds) (i : ℕ) (one : Bounds) → i < length region
    → slice_index_or region i one ≡ one → RegionLeaf tree one other → SharedLeaf tree region other
shared_leaf_at tree region other i one below at shared = record {
  leaf = shared.leaf;
  below = shared.below;
  first = list_any_at (λ c. has_leaf tree c shared.leaf) region i one below (rw at shared.own);
  second = shared.listed;
}

shared_leaf_of : (tree : TreeView) (b : Bounds) (region other : List Bounds) (i j : ℕ) (one two : Bounds)
    → All IsOrdered region → All IsOrdered other → i < length region → slice_index_or region i one ≡ one
    → contains one b ≡ true → j < length other → slice_index_or other j two ≡ two → touches b two ≡ true
    → SharedLeaf tree region other
shared_leaf_of tree b region other i j one two all all_other i_below i_at inside j_below j_at touch =
    let ordered : IsOrdered one = rw i_at at (all i one i_below) in
    let ordered_two : IsOrdered two = rw j_at at (all_other j two j_below) in
    let common = touching_boxes_share_a_leaf tree one two ordered ordered_two (wider_touches one b two inside touch) in
    shared_leaf_at tree region other i one i_below i_at (region_leaf_at tree one other j two j_below j_at common)

pub inside_and_touched_share_a_leaf : InsideAndTouchedShareALeaf
inside_and_touched_share_a_leaf tree b region other all all_other inside touch =
    let (i, one, i_below, i_at, contained) = Any-from_list_any (λ one. contains one b) region inside in
    let (j, two, j_below, j_at, touched) = Any-from_list_any (touches b) other touch in
    shared_leaf_of tree b region other i j one two all all_other i_below i_at contained j_below j_at touched
