-- One step of a way down, over the areas of the nodes.
use Rattle.std.proofs.Common.{◌≡◌, ℕ, zero, suc, ◌+◌, ◌-◌, ◌*◌, ◌%◌, ◌^◌, ◌<◌, ◌≤◌, ◌==◌, Bool, true, false, ◌&&◌, ◌||◌, inl, inr, List, length, replicate, take, get_or, set, bit_or, refl, ap, sym, ◌∙◌, arith}
use Rattle.std.specs.List.{list_any}
use Rattle.std.proofs.Math.Nat.{pow-suc}
use Rattle.std.proofs.lemmas.Nat.{one_shl, pow_pos}
use Rattle.std.proofs.lemmas.List.{take_all, get_or_default, get_or-replicate, get_or-set_other, get_or-set_same, length-set}
use Rattle.std.proofs.lemmas.List.Folds.{list_any_more}
use Rattle.std.proofs.lemmas.Bool.{cases_eq}
use Rattle.arena_geo.specs.Bounds.{Bounds}
use Rattle.areanode.specs.declared.cut.Cut.{Cut}
use Rattle.areanode.specs.Words.{word_of}
use Rattle.areanode.specs.Cuts.{cut_of, part_above, part_below, is_above, is_below, reaches_above, reaches_below}
use Rattle.areanode.specs.declared.sizes.TheConstants.{MOST_NODES}
use Rattle.areanode.specs.Trees.{TreeView, IsTreeDepth, leaves_in, inner_in, child_above, child_below, node_from, reaches, node_of, has_leaf, leaves_of}
use Rattle.areanode.specs.Depths.{sizes_of_depth}
use Rattle.areanode.specs.Areas.{area_at, areas_of, HasParts, AreCut, IsAtLevel}
use Rattle.areanode.specs.Rebuilt.{areas_of-is}
use Rattle.areanode.proofs.Words.{word_of-same, word_of-or, word_of-one, word_of-none}

deeper_above : (leaves node p : ℕ) → leaves ≤ (node + 1) * (p * 2) → (node + 2) * (p * 2) ≤ 2 * leaves
    → (leaves ≤ (2 * node + 1 + 1) * p) × ((2 * node + 1 + 2) * p ≤ 2 * leaves)
deeper_above leaves node p least most = (grind arith, grind arith)

deeper_below : (leaves node p : ℕ) → leaves ≤ (node + 1) * (p * 2) → (node + 2) * (p * 2) ≤ 2 * leaves
    → (leaves ≤ (2 * node + 2 + 1) * p) × ((2 * node + 2 + 2) * p ≤ 2 * leaves)
deeper_below leaves node p least most = (grind arith, grind arith)

-- where the children of a node with levels below it are
pub level_above : (depth levels node : ℕ) → 0 < levels → IsAtLevel depth levels node
    → IsAtLevel depth (levels - 1) (2 * node + 1)
level_above depth zero node positive at = let none : ⊥ = omega arith in absurd none
level_above depth (suc n) node positive at =
    let less : suc n - 1 ≡ n = omega arith in
    let both = deeper_above (2 ^ depth) node (2 ^ n) (rw (pow-suc 2 n) at at.least) (rw (pow-suc 2 n) at at.most) in
    rw less (record { least = both.0; most = both.1 })

pub level_below : (depth levels node : ℕ) → 0 < levels → IsAtLevel depth levels node
    → IsAtLevel depth (levels - 1) (2 * node + 2)
level_below depth zero node positive at = let none : ⊥ = omega arith in absurd none
level_below depth (suc n) node positive at =
    let less : suc n - 1 ≡ n = omega arith in
    let both = deeper_below (2 ^ depth) node (2 ^ n) (rw (pow-suc 2 n) at at.least) (rw (pow-suc 2 n) at at.most) in
    rw less (record { least = both.0; most = both.1 })

inner_from : (leaves node p : ℕ) → 0 < p → (node + 2) * (p * 2) ≤ 2 * leaves → node < leaves - 1
inner_from leaves node p positive most = grind (arith)

-- a node with levels below it is an inner node
pub is_inner : (depth levels node : ℕ) → 0 < levels → IsAtLevel depth levels node → node < inner_in depth
is_inner depth zero node positive at = let none : ⊥ = omega arith in absurd none
is_inner depth (suc n) node positive at = inner_from (2 ^ depth) node (2 ^ n) (pow_pos n) (rw (pow-suc 2 n) at at.most)

-- the root has all levels below it
pub root_level : (tree : TreeView) (depth : ℕ) → depth ≡ tree.depth → IsAtLevel tree.depth depth 0
root_level tree depth is = rw is (record { least = omega arith; most = omega arith })

-- the areas of a tree that is kept as these areas
pub areas_are : (tree : TreeView) (depth : ℕ) (areas : List Bounds) → AreCut depth areas
    → record { depth = depth; bounds = area_at areas 0 } ≡ tree → areas_of tree ≡ areas
areas_are tree depth areas cut view = rw (← view) (areas_of-is depth areas cut)

pub areas_are_cut : (tree : TreeView) (depth : ℕ) (areas : List Bounds) → AreCut depth areas
    → record { depth = depth; bounds = area_at areas 0 } ≡ tree → AreCut tree.depth (areas_of tree)
areas_are_cut tree depth areas cut view = rw (areas_are tree depth areas cut view, ← view) cut

pub root_area : (tree : TreeView) (depth : ℕ) (areas : List Bounds) → AreCut depth areas
    → record { depth = depth; bounds = area_at areas 0 } ≡ tree → area_at (areas_of tree) 0 ≡ tree.bounds
root_area tree depth areas cut view =
    ap (λ list. area_at list 0) (areas_are tree depth areas cut view) ∙ ap (λ t. t.bounds) view

-- and has a place among the areas
pub node_fits : (depth levels node : ℕ) → IsTreeDepth depth → 0 < levels → IsAtLevel depth levels node → node < MOST_NODES
node_fits depth levels node is positive at =
    omega (arith, is_inner depth levels node positive at, (sizes_of_depth depth is).leaves)

-- a node with levels below it, in a tree that is kept as these areas
module _ (tree : TreeView) (depth : ℕ) (areas : List Bounds) (cut : AreCut depth areas)
    (view : record { depth = depth; bounds = area_at areas 0 } ≡ tree) (levels node : ℕ) (positive : 0 < levels)
    (level : IsAtLevel tree.depth levels node) where
  -- its area is cut in two
  pub parts_of_inner : HasParts (areas_of tree) node
  parts_of_inner = (areas_are_cut tree depth areas cut view).parts node (is_inner tree.depth levels node positive level)

  -- the cut of what was read is the cut of its area
  pub cut_of_inner : (x : Bounds) (at : Cut) → at ≡ cut_of (get_or areas node x) → at ≡ cut_of (area_at (areas_of tree) node)
  cut_of_inner x at is =
      let fits = node_fits tree.depth levels node (areas_are_cut tree depth areas cut view).is_depth positive level in
      let below : node < length areas = omega (arith, fits, cut.number) in
      is ∙ ap cut_of (get_or_default areas node x _ below)
      ∙ ap (λ list. cut_of (area_at list node)) (sym (areas_are tree depth areas cut view))

-- what a test said of a cut
pub test_at : (r value : Bool) (test : Cut → Bool) (cut at : Cut) → r ≡ value → r ≡ test cut → cut ≡ at
    → test at ≡ value
test_at r value test cut at e f g = rw (← g) (sym f ∙ e)

pub walk_end : (levels node : ℕ) (area b : Bounds) → levels ≡ 0 → node ≡ node_from levels node area b
unfolding node_from
walk_end levels node area b e = rw e refl

pub walk_above : (levels node : ℕ) (areas : List Bounds) (b : Bounds) (r : ℕ) → 0 < levels → HasParts areas node
    → is_above b (cut_of (area_at areas node)) ≡ true
    → r ≡ node_from (levels - 1) (child_above node) (area_at areas (child_above node)) b
    → r ≡ node_from levels node (area_at areas node) b
unfolding node_from
walk_above zero node areas b r positive parts test is = let none : ⊥ = omega arith in absurd none
walk_above (suc n) node areas b r positive parts test is =
    let less : suc n - 1 ≡ n = omega arith in
    is ∙ rw (test, parts.above, less) refl

pub walk_below : (levels node : ℕ) (areas : List Bounds) (b : Bounds) (r : ℕ) → 0 < levels → HasParts areas node
    → is_above b (cut_of (area_at areas node)) ≡ false → is_below b (cut_of (area_at areas node)) ≡ true
    → r ≡ node_from (levels - 1) (child_below node) (area_at areas (child_below node)) b
    → r ≡ node_from levels node (area_at areas node) b
unfolding node_from
walk_below zero node areas b r positive parts other test is = let none : ⊥ = omega arith in absurd none
walk_below (suc n) node areas b r positive parts other test is =
    let less : suc n - 1 ≡ n = omega arith in
    is ∙ rw (other, test, parts.below, less) refl

pub walk_stop : (levels node : ℕ) (area b : Bounds) → 0 < levels → is_above b (cut_of area) ≡ false
    → is_below b (cut_of area) ≡ false → node ≡ node_from levels node area b
unfolding node_from
walk_stop zero node area b positive above below = let none : ⊥ = omega arith in absurd none
walk_stop (suc n) node area b positive above below = rw (above, below) refl

leaf_number : (leaves node leaf : ℕ) → leaves ≤ node + 1 → ((node - (leaves - 1)) == leaf) ≡ (node == leaves - 1 + leaf)
leaf_number leaves node leaf least = grind arith

-- a node with no levels below it is one of the leaves
pub leaf_fits : (depth levels node first : ℕ) → IsTreeDepth depth → levels ≡ 0 → IsAtLevel depth levels node
    → first ≡ inner_in depth → node - first < 32
leaf_fits depth levels node first is e at same =
    let sizes = sizes_of_depth depth is in
    omega (arith, same, rw e at at.most, sizes.leaves, sizes.some)

-- at a leaf the one leaf is that leaf
pub leaves_end : (depth levels node first : ℕ) (area b : Bounds) → IsTreeDepth depth → levels ≡ 0
    → IsAtLevel depth levels node → first ≡ inner_in depth
    → 1 * 2 ^ (node - first) % 4294967296 ≡ word_of (leaves_in depth) (λ leaf. reaches levels node area b (inner_in depth + leaf))
unfolding reaches
leaves_end depth levels node first area b is e at same =
    let sizes = sizes_of_depth depth is in
    let least : 2 ^ depth ≤ node + 1 = omega (arith, rw e at at.least) in
    let most : node + 2 ≤ 2 * 2 ^ depth = omega (arith, rw e at at.most) in
    let within : node - inner_in depth < 2 ^ depth = omega (arith, most, sizes.some) in
    rw (e, same) (one_shl (node - inner_in depth) 32 (omega (arith, within, sizes.leaves)) ∙ word_of-one (2 ^ depth) (node - inner_in depth) within ∙ word_of-same (2 ^ depth) _ _ (λ leaf _. leaf_number (2 ^ depth) node leaf least))

reaches_step : (levels node : ℕ) (areas : List Bounds) (b : Bounds) (end : ℕ) → 0 < levels → HasParts areas node
    → ((reaches_above b (cut_of (area_at areas node)) && reaches (levels - 1) (child_above node) (area_at areas (child_above node)) b end) || (reaches_below b (cut_of (area_at areas node)) && reaches (levels - 1) (child_below node) (area_at areas (child_below node)) b end)) ≡ reaches levels node (area_at areas node) b end
unfolding reaches
reaches_step zero node areas b end positive parts = let none : ⊥ = omega arith in absurd none
reaches_step (suc n) node areas b end positive parts =
    let less : suc n - 1 ≡ n = omega arith in
    rw (parts.above, parts.below, less) refl

-- the leaves by way of one child, where the test lets the box pass
pub passed : (test : Bool) (n r value : ℕ) (p : ℕ → Bool) → test ≡ true → value ≡ r → r ≡ word_of n p
    → value ≡ word_of n (λ i. test && p i)
passed test n r value p is same word = same ∙ word ∙ rw is refl

pub not_passed : (test : Bool) (n value : ℕ) (p : ℕ → Bool) → test ≡ false → value ≡ 0
    → value ≡ word_of n (λ i. test && p i)
not_passed test n value p is same = same ∙ rw is (sym (word_of-none n))

pub leaves_step : (n first levels node : ℕ) (areas : List Bounds) (b : Bounds) (up down : ℕ) → 0 < levels → HasParts areas node
    → up ≡ word_of n (λ leaf. reaches_above b (cut_of (area_at areas node)) && reaches (levels - 1) (child_above node) (area_at areas (child_above node)) b (first + leaf))
    → down ≡ word_of n (λ leaf. reaches_below b (cut_of (area_at areas node)) && reaches (levels - 1) (child_below node) (area_at areas (child_below node)) b (first + leaf))
    → bit_or up down ≡ word_of n (λ leaf. reaches levels node (area_at areas node) b (first + leaf))
leaves_step n first levels node areas b up down positive parts e f =
    rw (e, f) (word_of-or n _ _ ∙ word_of-same n _ _ (λ leaf _. reaches_step levels node areas b (first + leaf) positive parts))

-- what was found from the root on is the tree's node, and its leaves
pub node_is : (tree : TreeView) (depth : ℕ) (areas : List Bounds) (b : Bounds) (node : ℕ) → AreCut depth areas
    → record { depth = depth; bounds = area_at areas 0 } ≡ tree
    → node ≡ node_from depth 0 (area_at (areas_of tree) 0) b → node ≡ node_of tree b
node_is tree depth areas b node cut view is =
    is ∙ ap (λ area. node_from depth 0 area b) (root_area tree depth areas cut view)
    ∙ ap (λ (t : TreeView). node_from t.depth 0 tree.bounds b) view

pub leaves_are : (tree : TreeView) (depth : ℕ) (areas : List Bounds) (b : Bounds) (leaves : ℕ) → AreCut depth areas
    → record { depth = depth; bounds = area_at areas 0 } ≡ tree
    → leaves ≡ word_of (leaves_in tree.depth) (λ leaf. reaches depth 0 (area_at (areas_of tree) 0) b (inner_in tree.depth + leaf))
    → leaves ≡ word_of (leaves_in tree.depth) (has_leaf tree b)
leaves_are tree depth areas b leaves cut view is =
    is
    ∙ ap (λ area. word_of (leaves_in tree.depth) (λ leaf. reaches depth 0 area b (inner_in tree.depth + leaf))) (root_area tree depth areas cut view)
    ∙ ap (λ (t : TreeView). word_of (leaves_in tree.depth) (λ leaf. reaches t.depth 0 tree.bounds b (inner_in tree.depth + leaf))) view

-- one box of a region more
pub region_start : (n : ℕ) (f : ℕ → Bounds → Bool) (region : List Bounds)
    → 0 ≡ word_of n (λ leaf. list_any (f leaf) (take 0 region))
region_start n f region = sym (word_of-none n)

pub region_step : (n : ℕ) (f : ℕ → Bounds → Bool) (region : List Bounds) (i : ℕ) (one : Bounds) (leaves more : ℕ)
    → i < length region → one ≡ get_or region i one → leaves ≡ word_of n (λ leaf. list_any (f leaf) (take i region))
    → more ≡ word_of n (λ leaf. f leaf one)
    → bit_or leaves more ≡ word_of n (λ leaf. list_any (f leaf) (take (i + 1) region))
region_step n f region i one leaves more below is e g =
    rw (e, g) (word_of-or n _ _ ∙ word_of-same n _ _ (λ leaf _. sym (list_any_more (f leaf) region i one below ∙ ap (λ b. list_any (f leaf) (take i region) || f leaf b) (sym is))))

pub region_end : (tree : TreeView) (region boxes : List Bounds) (i leaves : ℕ)
    → leaves ≡ word_of (leaves_in tree.depth) (λ leaf. list_any (λ one. has_leaf tree one leaf) (take i boxes))
    → length boxes ≤ i → boxes ≡ region → leaves ≡ leaves_of tree region
region_end tree region boxes i leaves is whole same = is ∙ rw (take_all i boxes whole, same) refl

-- at the beginning all places have the bounds
pub all_bounds : (bounds : Bounds) (k : ℕ) → k < MOST_NODES → area_at (replicate MOST_NODES bounds) k ≡ bounds
all_bounds bounds k below = get_or-replicate MOST_NODES k bounds _ below

-- the part of what was read is the part of the node's area
pub part_at : (part : Bounds → Bounds) (areas : List Bounds) (node : ℕ) (x r : Bounds) → node < length areas
    → r ≡ part (get_or areas node x) → r ≡ part (area_at areas node)
part_at part areas node x r below is = is ∙ ap part (get_or_default areas node x _ below)

-- what is before the children stays
area_before : (areas : List Bounds) (node k : ℕ) (above below : Bounds) → k < 2 * node + 1
    → area_at (set (set areas (2 * node + 1) above) (2 * node + 2) below) k ≡ area_at areas k
area_before areas node k above below before =
    get_or-set_other (set areas (2 * node + 1) above) (2 * node + 2) k below _ (omega arith) ∙ get_or-set_other areas (2 * node + 1) k above _ (omega arith)

area_above : (areas : List Bounds) (node : ℕ) (above below : Bounds) → 2 * node + 1 < length areas
    → area_at (set (set areas (2 * node + 1) above) (2 * node + 2) below) (2 * node + 1) ≡ above
area_above areas node above below within =
    get_or-set_other (set areas (2 * node + 1) above) (2 * node + 2) (2 * node + 1) below _ (omega arith) ∙ get_or-set_same areas (2 * node + 1) above _ within

area_below : (areas : List Bounds) (node : ℕ) (above below : Bounds) → 2 * node + 2 < length areas
    → area_at (set (set areas (2 * node + 1) above) (2 * node + 2) below) (2 * node + 2) ≡ below
area_below areas node above below within =
    get_or-set_same (set areas (2 * node + 1) above) (2 * node + 2) below _ (omega (arith, length-set areas (2 * node + 1) above))

new_parts : (areas : List Bounds) (node : ℕ) (above below : Bounds) → 2 * node + 2 < length areas
    → above ≡ part_above (area_at areas node) → below ≡ part_below (area_at areas node)
    → HasParts (set (set areas (2 * node + 1) above) (2 * node + 2) below) node
new_parts areas node above below within e f =
    let same = area_before areas node node above below (omega arith) in
    record {
      above = area_above areas node above below (omega arith) ∙ e ∙ ap part_above (sym same);
      below = area_below areas node above below (omega arith) ∙ f ∙ ap part_below (sym same);
    }

old_parts : (areas : List Bounds) (node : ℕ) (above below : Bounds) (k : ℕ) → k < node → HasParts areas k
    → HasParts (set (set areas (2 * node + 1) above) (2 * node + 2) below) k
old_parts areas node above below k before parts =
    let same = area_before areas node k above below (omega arith) in
    record {
      above = area_before areas node (2 * k + 1) above below (omega arith) ∙ parts.above ∙ ap part_above (sym same);
      below = area_before areas node (2 * k + 2) above below (omega arith) ∙ parts.below ∙ ap part_below (sym same);
    }

-- the areas after one node more was cut: the root's stays, and the node has its parts
pub root_stays : (areas : List Bounds) (node : ℕ) (above below bounds : Bounds) → area_at areas 0 ≡ bounds
    → area_at (set (set areas (2 * node + 1) above) (2 * node + 2) below) 0 ≡ bounds
root_stays areas node above below bounds is = area_before areas node 0 above below (omega arith) ∙ is

pub parts_more : (areas : List Bounds) (node : ℕ) (above below : Bounds) → 2 * node + 2 < length areas
    → ((k : ℕ) → k < node → HasParts areas k) → above ≡ part_above (area_at areas node)
    → below ≡ part_below (area_at areas node) → (k : ℕ) → k < node + 1
    → HasParts (set (set areas (2 * node + 1) above) (2 * node + 2) below) k
parts_more areas node above below within parts e f k before =
    elim (cases_eq k node) [
      | inl same ↦ rw same (new_parts areas node above below within e f)
      | inr other ↦ old_parts areas node above below k (omega (arith, before, other)) (parts k (omega (arith, before, other)))
    ]

-- and what is beyond its children stays
pub beyond_stays : (areas : List Bounds) (node : ℕ) (above below bounds : Bounds)
    → ((k : ℕ) → 2 * node + 1 ≤ k → k < MOST_NODES → area_at areas k ≡ bounds) → (k : ℕ) → 2 * (node + 1) + 1 ≤ k
    → k < MOST_NODES → area_at (set (set areas (2 * node + 1) above) (2 * node + 2) below) k ≡ bounds
beyond_stays areas node above below bounds same k past within =
    get_or-set_other (set areas (2 * node + 1) above) (2 * node + 2) k below _ (omega (arith, past))
    ∙ get_or-set_other areas (2 * node + 1) k above _ (omega (arith, past)) ∙ same k (omega (arith, past)) within
