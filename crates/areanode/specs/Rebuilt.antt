-- The areas of a tree are those that its depth and its bounds give.
use Rattle.std.specs.Prelude.{◌≡◌, ℕ, zero, suc, ◌+◌, ◌-◌, ◌*◌, ◌%◌, ◌^◌, ◌<◌, ◌≤◌, ◌==◌, nat_lt, false, List, length}
use Rattle.std.proofs.Common.{refl, sym, ap, ◌∙◌, inl, inr, arith}
use Rattle.std.proofs.lemmas.Bool.{cases_Bool, eqb-true, ltb-true, ltb-false}
use Rattle.std.proofs.lemmas.List.{ext_get_or}
use Rattle.std.proofs.lemmas.List.FromFn.{length-map-range_with_len, get_or-map-range_with_len}
use Rattle.std.proofs.Math.Nat.{pow-suc}
use Rattle.arena_geo.specs.Vectors.{zero_vector}
use Rattle.arena_geo.specs.Bounds.{Bounds, bounds}
use Rattle.areanode.specs.declared.sizes.TheConstants.{MOST_NODES}
use Rattle.areanode.specs.Cuts.{part_above, part_below}
use Rattle.areanode.specs.Trees.{TreeView, nodes_in, child_above, child_below, parent}
use Rattle.areanode.specs.Depths.{sizes_of_depth}
use Rattle.areanode.specs.Areas.{area_at, area_of, area_or_bounds, areas_of, AreCut}

-- where a node other than the root is under its parent, in a tree with this many leaves
record IsUnder (leaves node up p : ℕ) : Type 0 where
  inner : up < leaves - 1
  fits : up < 2 * leaves - 1
  near : up + 2 ≤ p

under_above : (leaves node up p : ℕ) → node ≡ child_above up → node < 2 * leaves - 1 → node + 2 ≤ p * 2
    → IsUnder leaves node up p
under_above leaves node up p is below near = record { inner = omega arith; fits = omega arith; near = omega arith }

under_below : (leaves node up p : ℕ) → node ≡ child_below up → node < 2 * leaves - 1 → node + 2 ≤ p * 2
    → IsUnder leaves node up p
under_below leaves node up p is below near = record { inner = omega arith; fits = omega arith; near = omega arith }

odd_child : (node : ℕ) → node % 2 ≡ 1 → node ≡ child_above (parent node)
odd_child node odd = grind arith

even_child : (node : ℕ) → (node == 0) ≡ false → (node % 2 == 1) ≡ false → node ≡ child_below (parent node)
even_child node some even = grind arith

-- each node's area is the one that the root's gives
area_at-is : (depth steps : ℕ) (areas : List Bounds) (node : ℕ) → AreCut depth areas → node < 2 * 2 ^ depth - 1
    → node + 2 ≤ 2 ^ steps * 2 → area_at areas node ≡ area_of steps (area_at areas 0) node
unfolding area_of
area_at-is depth zero areas node cut below near =
    let root : node ≡ 0 = omega arith in
    rw root refl
area_at-is depth (suc n) areas node cut below near =
    let twice : node + 2 ≤ 2 ^ n * 2 * 2 = rw (pow-suc 2 n) at near in
    elim (cases_Bool (node == 0)) [
      | inl root ↦ let is : node ≡ 0 = eqb-true node 0 root in rw is refl
      | inr some ↦ elim (cases_Bool (node % 2 == 1)) [
        | inl odd ↦
            let child = odd_child node (eqb-true (node % 2) 1 odd) in
            let under = under_above (2 ^ depth) node (parent node) (2 ^ n * 2) child below twice in
            let up = area_at-is depth n areas (parent node) cut under.fits under.near in
            ap (area_at areas) child
            ∙ (cut.parts (parent node) under.inner).above
            ∙ ap part_above up
            ∙ sym (rw (some, odd) refl)
        | inr even ↦
            let child = even_child node some even in
            let under = under_below (2 ^ depth) node (parent node) (2 ^ n * 2) child below twice in
            let up = area_at-is depth n areas (parent node) cut under.fits under.near in
            ap (area_at areas) child
            ∙ (cut.parts (parent node) under.inner).below
            ∙ ap part_below up
            ∙ sym (rw (some, even) refl)
      ]
    ]

-- and beyond the nodes there is the root's
area_or_root-is : (depth : ℕ) (areas : List Bounds) (node : ℕ) → AreCut depth areas → node < MOST_NODES
    → area_at areas node ≡ area_or_bounds depth (area_at areas 0) node
area_or_root-is depth areas node cut below =
    let sizes = sizes_of_depth depth cut.is_depth in
    elim (cases_Bool (nat_lt node (nodes_in depth))) [
      | inl own ↦
          let inside : node < 2 * 2 ^ depth - 1 = omega (arith, sizes.double, ltb-true node (nodes_in depth) own) in
          area_at-is depth depth areas node cut inside (omega (arith, inside)) ∙ sym (rw own refl)
      | inr other ↦
          let outside : nodes_in depth ≤ node = ltb-false node (nodes_in depth) other in
          cut.beyond node outside below ∙ sym (rw other refl)
    ]

-- the areas of a tree are those that its depth and the root's area give
pub areas_of-is : (depth : ℕ) (areas : List Bounds) → AreCut depth areas
    → areas_of (record { depth = depth; bounds = area_at areas 0 }) ≡ areas
unfolding areas_of
areas_of-is depth areas cut =
    let tree : TreeView = record { depth = depth; bounds = area_at areas 0 } in
    let number : length (areas_of tree) ≡ MOST_NODES =
    length-map-range_with_len (area_or_bounds depth (area_at areas 0)) 0 MOST_NODES
    in
    ext_get_or (bounds zero_vector zero_vector)
    (areas_of tree) areas (number ∙ sym cut.number)
    (λ i below.
    let inside : i < MOST_NODES = omega (arith, number, below) in
    let first : 0 + i ≡ i = omega arith in
    get_or-map-range_with_len (area_or_bounds depth (area_at areas 0)) 0 MOST_NODES i i _ inside first
    ∙ sym (area_or_root-is depth areas i cut inside))
