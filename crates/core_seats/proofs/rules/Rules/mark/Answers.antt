use Rattle.std.proofs.Common.{ℕ, ◌+◌, ◌<◌, ◌-◌, map, sym, ap, ◌∙◌, subst, arith}
use Rattle.std.specs.Prelude.{All}
use Rattle.std.proofs.lemmas.Bool.{cond-true}
use Rattle.std.proofs.lemmas.List.Elements.{All-weaker}
use Rattle.areanode.specs.Depths.{sizes_of_depth}
use Rattle.areanode.specs.Trees.{nodes_in}
use Rattle.areanode.specs.declared.sizes.TheConstants.{MOST_LEAVES}
use Rattle.core_steps.specs.Nodes.{is_leaf}
use Rattle.core_steps.specs.Held.{bits_of_leaves, leaf_word}
use Rattle.core_seats.specs.Shown.{RulesView, fixed_of}
use Rattle.core_seats.proofs.rules.Rules.mark.Goals as goal

pub leaf_word-requires-clause-nodes : goal.leaf_word-requires-clause-nodes
leaf_word-requires-clause-nodes g c =
    let depth = c.self.inside.tree.depth in
    let leaf = c.self.inside.first_leaf in
    let sizes = sizes_of_depth depth c.self.invariant.depth in
    let some = sizes.some in
    let leaves = sizes.leaves in
    let double = sizes.double in
    let is = c.self.invariant.leaf_is in
    let all = subst (λ (r : RulesView _). All (λ (n : ℕ). n < nodes_in r.tree.depth) c.args.wanted.now) (sym c.self.view_is) c.requires.nodes in
    All-weaker (λ (n : ℕ). n < nodes_in depth) (λ (n : ℕ). n < leaf + MOST_LEAVES) (λ n less. omega (arith, less, is, some, leaves, double)) c.args.wanted.now all

pub returns-then-is_leaf-clause-mark : goal.returns-then-is_leaf-clause-mark
returns-then-is_leaf-clause-mark g c =
    c.leaf_word.ensures.word ∙ ap (λ (first : ℕ). bits_of_leaves (map (λ (n : ℕ). n - first) c.args.wanted.now)) c.self.invariant.leaf_is
    ∙ ap (λ (r : RulesView _). leaf_word (fixed_of g.A.Action.meaning r) c.args.wanted.now) c.self.view_is
    ∙ sym (cond-true (is_leaf (fixed_of g.A.Action.meaning c.args.self.now) c.args.node) _ _ (sym c.is_leaf.ensures ∙ c.if-is_leaf.true))
