-- A box goes to its side of each cut, and so do its leaves.
use Rattle.std.proofs.Common.{◌≡◌, ℕ, zero, suc, ◌+◌, ◌≤◌, ◌==◌, ℤ, pos, ◌+ℤ◌, ◌-ℤ◌, ◌≤ℤ◌, int_lt, Bool, true, false, if◌then◌else◌, refl, ap, ◌∙◌, arith}
use Rattle.std.proofs.lemmas.Int.{ints}
use Rattle.std.proofs.lemmas.Bool.{eq-eqb, eqb-true, or_left, or_right, and_from}
use Rattle.arena_geo.specs.Bounds.{Bounds, IsOrdered}
use Rattle.areanode.specs.declared.cut.Axis.TheVariants.{X, Y}
use Rattle.areanode.specs.declared.cut.Cut.{Cut}
use Rattle.areanode.specs.Cuts.{low_on, high_on, length_on, axis_of, cut_of, part_above, part_below, is_above, is_below, reaches_above, reaches_below}
use Rattle.areanode.specs.Trees.{child_above, child_below, parent, leaf_node, node_from, reaches, climb, is_over}
use Rattle.areanode.specs.Sides.{IsAbove, IsBelow, MeetsCut, IsOnItsSide, HasLeafUnder, HasLeavesOnItsSide}
use Rattle.areanode.specs.Laws.{SomeBelow, AreasAreCutInHalf, BoxGoesToItsSide, NodeIsOnItsSide, LeavesAreOnItsSide}
use Rattle.areanode.proofs.Words.{any_below_at}
use Rattle.areanode.proofs.Parts.{IsHalf, half_is, ordered_on}
use Rattle.areanode.proofs.Nodes.{parent-child_above, parent-child_below, climb_back, left_alone, right_alone, leaf_at, common_end, touches_itself}

-- ---- the cut
-- the longer of two lengths, which is the first only where it is strictly longer
longer : (x y : ℤ) (t : Bool) → int_lt y x ≡ t → (x ≤ℤ (if t then x else y)) × (y ≤ℤ (if t then x else y))
longer x y true h = (omega (arith, ints), grind (arith, ints))
longer x y false h = (grind (arith, ints), omega (arith, ints))

length_on-choice : (area : Bounds) (t : Bool)
    → length_on (if t then X else Y) area ≡ (if t then length_on X area else length_on Y area)
length_on-choice area true = refl
length_on-choice area false = refl

-- where neither is longer, it is the second
equally_long : (x y : ℤ) → x ≡ y → (if int_lt y x then X else Y) ≡ Y
equally_long x y same = grind (arith, ints)

halves : (lo hi half : ℤ) → IsHalf (lo +ℤ hi) half
    → ((half -ℤ lo) ≤ℤ (hi -ℤ half)) × ((hi -ℤ half) ≤ℤ (half -ℤ lo +ℤ pos 1))
halves lo hi half is = (omega (arith, ints, is.low), omega (arith, ints, is.high))

pub areas_are_cut_in_half : AreasAreCutInHalf
areas_are_cut_in_half area =
    let test = int_lt (length_on Y area) (length_on X area) in
    let most = longer (length_on X area) (length_on Y area) test refl in
    let parts = halves (low_on (axis_of area) area) (high_on (axis_of area) area) _ (half_is (low_on (axis_of area) area +ℤ high_on (axis_of area) area)) in
    record {
      from_x = rw length_on-choice most.0;
      from_y = rw length_on-choice most.1;
      tie = equally_long (length_on X area) (length_on Y area);
      least = parts.0;
      most = parts.1;
    }

-- ---- the tests of a side
tests_above : (b : Bounds) (cut : Cut) → IsAbove b cut → is_above b cut ≡ true
tests_above b cut h = grind (arith, ints)

tests_below : (b : Bounds) (cut : Cut) → IsBelow b cut → is_below b cut ≡ true
tests_below b cut h = grind (arith, ints)

below_is_not_above : (b : Bounds) (cut : Cut) → low_on cut.axis b ≤ℤ high_on cut.axis b → IsBelow b cut
    → is_above b cut ≡ false
below_is_not_above b cut ordered h = grind (arith, ints)

meets_not_above : (b : Bounds) (cut : Cut) → MeetsCut b cut → is_above b cut ≡ false
meets_not_above b cut meets = let h = meets.from in grind (arith, ints)

meets_not_below : (b : Bounds) (cut : Cut) → MeetsCut b cut → is_below b cut ≡ false
meets_not_below b cut meets = let h = meets.to in grind (arith, ints)

reaches_none_below : (b : Bounds) (cut : Cut) → IsAbove b cut → reaches_below b cut ≡ false
reaches_none_below b cut h = grind (arith, ints)

reaches_none_above : (b : Bounds) (cut : Cut) → IsBelow b cut → reaches_above b cut ≡ false
reaches_none_above b cut h = grind (arith, ints)

reaches_both_above : (b : Bounds) (cut : Cut) → MeetsCut b cut → reaches_above b cut ≡ true
reaches_both_above b cut meets = let h = meets.to in grind (arith, ints)

reaches_both_below : (b : Bounds) (cut : Cut) → MeetsCut b cut → reaches_below b cut ≡ true
reaches_both_below b cut meets = let h = meets.from in grind (arith, ints)

-- ---- the node
pub box_goes_to_its_side : BoxGoesToItsSide
unfolding node_from
box_goes_to_its_side levels node area b ordered = record {
  above = λ h. rw (tests_above b (cut_of area) h) refl;
  below = λ h. rw (below_is_not_above b (cut_of area) (ordered_on (cut_of area).axis b ordered) h, tests_below b (cut_of area) h) refl;
  stays = λ h. rw (meets_not_above b (cut_of area) h, meets_not_below b (cut_of area) h) refl;
}

-- the walk from a node ends at it or under it
one_step_more : (n node child end : ℕ) → parent child ≡ node → SomeBelow (suc n) (λ s. climb s end == child)
    → SomeBelow (suc (suc n)) (λ s. climb s end == node)
unfolding climb
one_step_more n node child end up some = record {
  number = suc some.number;
  below = omega (arith, some.below);
  passes = eq-eqb _ _ (ap parent (eqb-true _ _ some.passes) ∙ up);
}

under_choice : (n node up down : ℕ) (above below : Bool) → SomeBelow (suc n) (λ s. climb s up == child_above node)
    → SomeBelow (suc n) (λ s. climb s down == child_below node)
    → SomeBelow (suc (suc n)) (λ s. climb s (if above then up else (if below then down else node)) == node)
unfolding climb
under_choice n node up down true below u d = one_step_more n node (child_above node) up (parent-child_above node) u
under_choice n node up down false true u d = one_step_more n node (child_below node) down (parent-child_below node) d
under_choice n node up down false false u d = record { number = 0; below = omega arith; passes = eq-eqb node node refl }

ends_under : (levels node : ℕ) (area b : Bounds)
    → SomeBelow (suc levels) (λ s. climb s (node_from levels node area b) == node)
unfolding node_from climb
ends_under zero node area b = record { number = 0; below = omega arith; passes = eq-eqb node node refl }
ends_under (suc levels) node area b =
    under_choice levels node _ _ (is_above b (cut_of area)) (is_below b (cut_of area))
    (ends_under levels (child_above node) (part_above area) b) (ends_under levels (child_below node) (part_below area) b)

-- an end under a node, as the test over all steps up
over_from_some : (levels node end : ℕ) → SomeBelow (suc levels) (λ s. climb s end == node)
    → is_over (suc levels) node end ≡ true
over_from_some levels node end some =
    any_below_at (suc levels + 1) (λ s. climb s end == node) some.number (omega (arith, some.below)) some.passes

node_on_its_side : (depth : ℕ) (area b : Bounds) → 1 ≤ depth → IsOrdered b
    → IsOnItsSide (record { depth = depth; bounds = area }) b
node_on_its_side zero area b deep ordered = absurd (omega arith)
node_on_its_side (suc n) area b deep ordered =
    let goes = box_goes_to_its_side n 0 area b ordered in
    record {
      above = λ h. rw (goes.above h) (over_from_some n 1 _ (ends_under n 1 (part_above area) b));
      below = λ h. rw (goes.below h) (over_from_some n 2 _ (ends_under n 2 (part_below area) b));
      stays = goes.stays;
    }

pub node_is_on_its_side : NodeIsOnItsSide
node_is_on_its_side tree b deep ordered = node_on_its_side tree.depth tree.bounds b deep ordered

-- ---- the leaves
reached_over : (n node : ℕ) (area b : Bounds) (end : ℕ) → reaches n node area b end ≡ true
    → is_over (suc n) node end ≡ true
reached_over n node area b end h =
    over_from_some n node end (record { number = n; below = omega arith; passes = eq-eqb _ _ (climb_back n node area b end h) })

leaf_under : (depth : ℕ) (area b : Bounds) (node end : ℕ) → reaches depth 0 area b end ≡ true
    → is_over depth node end ≡ true → HasLeafUnder (record { depth = depth; bounds = area }) b node
leaf_under depth area b node end reached over =
    let is = leaf_at depth area b end reached in
    record { leaf = is.leaf; own = rw is.at reached; under = rw is.at over }

leaves_on_its_side : (depth : ℕ) (area b : Bounds) → 1 ≤ depth → IsOrdered b
    → HasLeavesOnItsSide (record { depth = depth; bounds = area }) b
unfolding reaches
leaves_on_its_side zero area b deep ordered = absurd (omega arith)
leaves_on_its_side (suc n) area b deep ordered =
    let cut = cut_of area in
    let up : ℕ → Bool = λ end. reaches n 1 (part_above area) b end in
    let down : ℕ → Bool = λ end. reaches n 2 (part_below area) b end in
    let high = common_end n 1 (part_above area) b b ordered ordered (touches_itself b ordered) in
    let low = common_end n 2 (part_below area) b b ordered ordered (touches_itself b ordered) in
    record {
      above = λ h leaf own. reached_over n 1 (part_above area) b (leaf_node (suc n) leaf)
          (left_alone (reaches_above b cut) (up (leaf_node (suc n) leaf)) (reaches_below b cut) (down (leaf_node (suc n) leaf)) (reaches_none_below b cut h) own);
      below = λ h leaf own. reached_over n 2 (part_below area) b (leaf_node (suc n) leaf)
          (right_alone (reaches_above b cut) (up (leaf_node (suc n) leaf)) (reaches_below b cut) (down (leaf_node (suc n) leaf)) (reaches_none_above b cut h) own);
      meets_above = λ h. leaf_under (suc n) area b 1 high.end (or_left _ _ (and_from _ _ (reaches_both_above b cut h) high.first)) (reached_over n 1 (part_above area) b high.end high.first);
      meets_below = λ h. leaf_under (suc n) area b 2 low.end (or_right _ _ (and_from _ _ (reaches_both_below b cut h) low.first)) (reached_over n 2 (part_below area) b low.end low.first);
    }

pub leaves_are_on_its_side : LeavesAreOnItsSide
leaves_are_on_its_side tree b deep ordered = leaves_on_its_side tree.depth tree.bounds b deep ordered
