-- How much is planned, and the players that are loaded but one.
use Rattle.std.proofs.Common.{◌≡◌, ℕ, ◌+◌, ◌*◌, ◌^◌, ◌≤◌, Bool, false, not, List, [], ◌∷◌, length, refl, sym, ap, ◌∙◌, inl, inr, arith, add-one}
use Rattle.std.specs.Prelude.{◌==◌, filter}
use Rattle.std.proofs.lemmas.Bool.{cases_Bool, true≢false, eq-eqb, not-true, false_from_ne_true, cond-true, cond-false}
use Rattle.std.proofs.lemmas.List.{length-map, length-append}
use Rattle.std.proofs.lemmas.List.FromFn.{length-range_with_len}
use Rattle.std.proofs.Math.Nat.{pow-suc}
use Rattle.std.specs.List.{range_with_len}
use Rattle.arena_geo.specs.Bounds.{Bounds}
use Rattle.areanode.specs.Words.{has_bit}
use Rattle.areanode.specs.Trees.{leaf_node, leaves_of, visited_of}
use Rattle.core_steps.specs.Nodes.{has, Fixed, leaf_nodes, plan_of, nodes_of, inner_nodes, inner_visited}
use Rattle.core_steps.specs.Reads.{without_player, PlayerRead}
use Rattle.core_steps.specs.Machine.{slots_of}
use Rattle.core_steps.proofs.Lists.{has_filter}

pub filter_few : (test : ℕ → Bool) (xs : List ℕ) → length (filter test xs) ≤ length xs
filter_few test [] = omega arith
filter_few test (x ∷ xs) =
    let rest = filter_few test xs in
    elim (cases_Bool (test x)) [ inl e ↦ rw e (omega arith) | inr e ↦ rw e (omega arith) ]

-- a region has at most as many leaves as the tree
pub leaf_nodes_length : (F : Fixed) (region : List Bounds) → length (leaf_nodes F region) ≤ 2 ^ F.tree.depth
leaf_nodes_length F region =
    let leaves = filter (has_bit (leaves_of F.tree region)) (range_with_len 0 (2 ^ F.tree.depth)) in
    let few = filter_few (has_bit (leaves_of F.tree region)) (range_with_len 0 (2 ^ F.tree.depth)) in
    let all = length-range_with_len 0 (2 ^ F.tree.depth) in
    let same = length-map leaves (leaf_node F.tree.depth) in
    omega (arith, few, all, same)

-- a plan has at most as many nodes as the tree
pub plan_length : (F : Fixed) (region : List Bounds) → length (plan_of F region) ≤ nodes_of F
plan_length F region =
    let leaves = leaf_nodes_length F region in
    let few = filter_few (has_bit (visited_of F.tree.depth (leaves_of F.tree region))) (range_with_len 0 (inner_nodes F)) in
    let all = length-range_with_len 0 (inner_nodes F) in
    let both = length-append (leaf_nodes F region) (inner_visited F region) in
    let twice : 2 ^ (F.tree.depth + 1) ≡ 2 ^ F.tree.depth * 2 = rw add-one (pow-suc 2 F.tree.depth) in
    omega (arith, leaves, few, all, both, twice)

-- the slots of the players but one
pub slots_without : (slot : ℕ) (others : List PlayerRead) → slots_of (without_player slot others) ≡ filter (λ v. not (v == slot)) (slots_of others)
slots_without slot [] = refl
slots_without slot (read ∷ others) =
    let rest = slots_without slot others in
    elim (cases_Bool (not (read.slot == slot))) [
      | inl e ↦ ap slots_of (cond-true (not (read.slot == slot)) (read ∷ without_player slot others) (without_player slot others) e) ∙ ap (λ (ns : List ℕ). read.slot ∷ ns) rest
          ∙ sym (cond-true (not (read.slot == slot)) (read.slot ∷ filter (λ v. not (v == slot)) (slots_of others)) (filter (λ v. not (v == slot)) (slots_of others)) e)
      | inr e ↦ ap slots_of (cond-false (not (read.slot == slot)) (read ∷ without_player slot others) (without_player slot others) e) ∙ rest
          ∙ sym (cond-false (not (read.slot == slot)) (read.slot ∷ filter (λ v. not (v == slot)) (slots_of others)) (filter (λ v. not (v == slot)) (slots_of others)) e)
    ]

pub gone : (n : ℕ) (xs : List ℕ) → has (filter (λ v. not (v == n)) xs) n ≡ false
gone n xs = false_from_ne_true _ (λ there.
    let kept = has_filter (λ v. not (v == n)) xs n there in
    true≢false (sym (eq-eqb n n refl) ∙ not-true (n == n) kept.passes))
