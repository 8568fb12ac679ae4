use Rattle.std.proofs.Common.{◌≡◌, ℕ, ◌+◌, ◌*◌, ◌^◌, [], length, take, refl, sym, ap, ◌∙◌, subst, arith}
use Rattle.core_steps.specs.declared.sizes.TheConstants.{NODE_HOLDERS}
use Rattle.ruled_words.specs.Passes.{PassView, fixed_in}
use Rattle.ruled_words.specs.Straight.{AreHeldFor, IsTriedOn}
use Rattle.ruled_words.proofs.BitWalks.{lowest_first}
use Rattle.ruled_words.proofs.LeafWords.{leaves_few}
use Rattle.ruled_words.proofs.GivingUp.{given_up, given_up_before, refusals_given_up, none_refused_at_start, none_refused_yet}
use Rattle.ruled_words.proofs.RefusedTakes.{refused_taking, refused_inner, refused_leaves}
use Rattle.ruled_words.proofs.TriedTakes.{leaf_list, none_taken, wants_leaves, leaves_start, leaves_end, leaf_at, leaf_same, leaves_taken, one_more_taken, few_taken, leaf_comes, leaf_left, leaf_taken, left_until, not_tried, tried_again}
use Rattle.ruled_words.proofs.shared_words.SharedWords.take_leaves.Goals as goal

pub loop-rest-init : goal.loop-rest-init
loop-rest-init g c =
    let F = fixed_in g.A.Action.meaning c.args.self.now in
    let wants = wants_leaves F (length c.args.self.now.rooms) c.args.self.now.table c.args.hand.now c.args.held.now.leaves c.requires.own.pass c.requires.at c.requires.held.leaves_are in
    let same = c.from-rest.ensures in (
      c.requires.own,
      leaves_start F c.args.hand.now c.args.held.now.leaves c.requires.own.plain wants c.requires.at ∙ ap (λ (n : ℕ). left_until F c.args.hand.now n c.args.hand.now) (sym c.from-rest.ensures),
      not_tried c.args.hand.now.tally,
      λ is. is,
      omega (arith, same),
      λ at_once. none_refused_at_start c.args.hand.now,
      none_taken _ _ (ap (λ (n : ℕ). length (leaf_list F n)) c.from-rest.ensures),
    )

pub take_node-requires-clause-next : goal.take_node-requires-clause-next
take_node-requires-clause-next g c κs within =
    let F = fixed_in g.A.Action.meaning c.args.self.now in
    let wants = wants_leaves F (length c.args.self.now.rooms) c.args.self.now.table c.args.hand.now c.args.held.now.leaves c.requires.own.pass c.requires.at c.requires.held.leaves_are in
    let few = c.loop-rest.invariant.4 in
    let range = wants.small in
    let first = lowest_first (2 ^ F.tree.depth) c.loop-rest.rest c.without_bit-rest.result c.lowest_bit-leaf.result (leaves_few F wants.depth) (omega (arith, few, range)) c.lowest_bit-leaf.ensures.there c.lowest_bit-leaf.ensures.first c.without_bit-rest.ensures.bits in
    leaf_comes F c.args.hand.now c.args.held.now.leaves c.requires.own.plain wants c.loop-rest.rest c.without_bit-rest.result c.lowest_bit-leaf.result (c.first_leaf-first.result + c.lowest_bit-leaf.result) first (ap (λ (n : ℕ). n + c.lowest_bit-leaf.result) c.first_leaf-first.ensures.value) c.loop-rest.hand c.loop-rest.invariant.1

pub take_node-requires-clause-word : goal.take_node-requires-clause-word
take_node-requires-clause-word g c κs within found =
    let F = fixed_in g.A.Action.meaning c.args.self.now in
    let wants = wants_leaves F (length c.args.self.now.rooms) c.args.self.now.table c.args.hand.now c.args.held.now.leaves c.requires.own.pass c.requires.at c.requires.held.leaves_are in
    let few = c.loop-rest.invariant.4 in
    let range = wants.small in
    let first = lowest_first (2 ^ F.tree.depth) c.loop-rest.rest c.without_bit-rest.result c.lowest_bit-leaf.result (leaves_few F wants.depth) (omega (arith, few, range)) c.lowest_bit-leaf.ensures.there c.lowest_bit-leaf.ensures.first c.without_bit-rest.ensures.bits in
    let number : c.hand.inside.number ≡ c.args.hand.now.number = ap (λ (q : PassView). q.number) c.hand.view_is in
    let one = c.from.ensures in
    let two = c.from-2.ensures in
    leaf_left F c.args.hand.now c.args.held.now.leaves c.requires.own.plain wants c.loop-rest.rest c.without_bit-rest.result c.lowest_bit-leaf.result (c.first_leaf-first.result + c.lowest_bit-leaf.result) first (ap (λ (n : ℕ). n + c.lowest_bit-leaf.result) c.first_leaf-first.ensures.value) c.loop-rest.hand c.loop-rest.invariant.1
    (c.from.result + NODE_HOLDERS * c.from-2.result + 1) (omega (arith, number, one, two)) found

pub take_node-requires-clause-held : goal.take_node-requires-clause-held
take_node-requires-clause-held g c κs within = subst (λ (q : PassView). AreHeldFor (fixed_in g.A.Action.meaning c.args.self.now) c.args.held.now q.view) (sym c.loop-rest.invariant.1) c.requires.held

pub loop-rest-preserved : goal.loop-rest-preserved
loop-rest-preserved g c =
    let F = fixed_in g.A.Action.meaning c.args.self.now in
    let wants = wants_leaves F (length c.args.self.now.rooms) c.args.self.now.table c.args.hand.now c.args.held.now.leaves c.requires.own.pass c.requires.at c.requires.held.leaves_are in
    let few = c.loop-rest.invariant.4 in
    let range = wants.small in
    let first = lowest_first (2 ^ F.tree.depth) c.loop-rest.rest c.without_bit-rest.result c.lowest_bit-leaf.result (leaves_few F wants.depth) (omega (arith, few, range)) c.lowest_bit-leaf.ensures.there c.lowest_bit-leaf.ensures.first c.without_bit-rest.ensures.bits in
    let less = c.without_bit-rest.ensures.less c.lowest_bit-leaf.ensures.there in (
      c.take_node.ensures.own,
      leaf_taken F c.args.hand.now c.args.held.now.leaves c.requires.own.plain wants c.loop-rest.rest c.without_bit-rest.result c.lowest_bit-leaf.result (c.first_leaf-first.result + c.lowest_bit-leaf.result) first (ap (λ (n : ℕ). n + c.lowest_bit-leaf.result) c.first_leaf-first.ensures.value) c.loop-rest.hand c.loop-rest.invariant.1 c.take_node.new.hand (c.take_node.ensures.view c.if-not-take_node.false),
      tried_again _ _ _ c.loop-rest.invariant.2 c.take_node.ensures.tried,
      λ is. c.take_node.ensures.refusals (c.loop-rest.invariant.3 is),
      omega (arith, few, less),
      λ at_once. none_refused_yet _ _ _ (c.loop-rest.invariant.5 at_once) (c.take_node.ensures.served at_once c.if-not-take_node.false),
      one_more_taken F c.args.hand.now c.args.held.now.leaves c.requires.own.plain wants c.loop-rest.rest c.without_bit-rest.result c.lowest_bit-leaf.result (c.first_leaf-first.result + c.lowest_bit-leaf.result) first (ap (λ (n : ℕ). n + c.lowest_bit-leaf.result) c.first_leaf-first.ensures.value) c.loop-rest.hand c.loop-rest.invariant.1 (length c.args.self.now.rooms) c.args.self.now.table c.loop-rest.taken c.loop-rest.invariant.0.pass c.loop-rest.invariant.6,
    )

pub loop-rest-smaller : goal.loop-rest-smaller
loop-rest-smaller g c = c.without_bit-rest.ensures.less c.lowest_bit-leaf.ensures.there

pub overflow_add-taken : goal.overflow_add-taken
overflow_add-taken g c =
    let F = fixed_in g.A.Action.meaning c.args.self.now in
    let wants = wants_leaves F (length c.args.self.now.rooms) c.args.self.now.table c.args.hand.now c.args.held.now.leaves c.requires.own.pass c.requires.at c.requires.held.leaves_are in
    let few = c.loop-rest.invariant.4 in
    let range = wants.small in
    let first = lowest_first (2 ^ F.tree.depth) c.loop-rest.rest c.without_bit-rest.result c.lowest_bit-leaf.result (leaves_few F wants.depth) (omega (arith, few, range)) c.lowest_bit-leaf.ensures.there c.lowest_bit-leaf.ensures.first c.without_bit-rest.ensures.bits in
    let fits = few_taken F c.args.hand.now c.args.held.now.leaves c.requires.own.plain wants c.loop-rest.rest c.without_bit-rest.result c.lowest_bit-leaf.result (c.first_leaf-first.result + c.lowest_bit-leaf.result) first (ap (λ (n : ℕ). n + c.lowest_bit-leaf.result) c.first_leaf-first.ensures.value) c.loop-rest.hand c.loop-rest.invariant.1 (length c.args.self.now.rooms) c.args.self.now.table c.loop-rest.taken c.loop-rest.invariant.0.pass c.loop-rest.invariant.6 in
    omega (arith, fits)

pub give_up-requires-clause-at_take : goal.give_up-requires-clause-at_take
give_up-requires-clause-at_take g c κs within =
    let F = fixed_in g.A.Action.meaning c.args.self.now in
    let wants = wants_leaves F (length c.args.self.now.rooms) c.args.self.now.table c.args.hand.now c.args.held.now.leaves c.requires.own.pass c.requires.at c.requires.held.leaves_are in
    let few = c.loop-rest.invariant.4 in
    let range = wants.small in
    let first = lowest_first (2 ^ F.tree.depth) c.loop-rest.rest c.without_bit-rest.result c.lowest_bit-leaf.result (leaves_few F wants.depth) (omega (arith, few, range)) c.lowest_bit-leaf.ensures.there c.lowest_bit-leaf.ensures.first c.without_bit-rest.ensures.bits in
    refused_taking F (length c.args.self.now.rooms) (c.first_leaf-first.result + c.lowest_bit-leaf.result) c.loop-rest.hand c.take_node.new.hand (c.take_node.ensures.refused c.if-not-take_node.true) _ (leaf_at F c.args.hand.now c.args.held.now.leaves c.requires.own.plain wants c.loop-rest.rest c.without_bit-rest.result c.lowest_bit-leaf.result (c.first_leaf-first.result + c.lowest_bit-leaf.result) first (ap (λ (n : ℕ). n + c.lowest_bit-leaf.result) c.first_leaf-first.ensures.value) c.loop-rest.hand c.loop-rest.invariant.1 (length c.args.self.now.rooms) c.args.self.now.table c.loop-rest.taken c.loop-rest.invariant.0.pass c.loop-rest.invariant.6) refl

pub give_up-requires-clause-nodes : goal.give_up-requires-clause-nodes
give_up-requires-clause-nodes g c κs within =
    let F = fixed_in g.A.Action.meaning c.args.self.now in
    let wants = wants_leaves F (length c.args.self.now.rooms) c.args.self.now.table c.args.hand.now c.args.held.now.leaves c.requires.own.pass c.requires.at c.requires.held.leaves_are in
    let few = c.loop-rest.invariant.4 in
    let range = wants.small in
    let first = lowest_first (2 ^ F.tree.depth) c.loop-rest.rest c.without_bit-rest.result c.lowest_bit-leaf.result (leaves_few F wants.depth) (omega (arith, few, range)) c.lowest_bit-leaf.ensures.there c.lowest_bit-leaf.ensures.first c.without_bit-rest.ensures.bits in
    refused_inner F (length c.args.self.now.rooms) (c.first_leaf-first.result + c.lowest_bit-leaf.result) c.loop-rest.hand c.take_node.new.hand (c.take_node.ensures.refused c.if-not-take_node.true) _ (leaf_at F c.args.hand.now c.args.held.now.leaves c.requires.own.plain wants c.loop-rest.rest c.without_bit-rest.result c.lowest_bit-leaf.result (c.first_leaf-first.result + c.lowest_bit-leaf.result) first (ap (λ (n : ℕ). n + c.lowest_bit-leaf.result) c.first_leaf-first.ensures.value) c.loop-rest.hand c.loop-rest.invariant.1 (length c.args.self.now.rooms) c.args.self.now.table c.loop-rest.taken c.loop-rest.invariant.0.pass c.loop-rest.invariant.6) [] refl

pub give_up-requires-clause-leaves : goal.give_up-requires-clause-leaves
give_up-requires-clause-leaves g c κs within =
    let F = fixed_in g.A.Action.meaning c.args.self.now in
    let wants = wants_leaves F (length c.args.self.now.rooms) c.args.self.now.table c.args.hand.now c.args.held.now.leaves c.requires.own.pass c.requires.at c.requires.held.leaves_are in
    let few = c.loop-rest.invariant.4 in
    let range = wants.small in
    let first = lowest_first (2 ^ F.tree.depth) c.loop-rest.rest c.without_bit-rest.result c.lowest_bit-leaf.result (leaves_few F wants.depth) (omega (arith, few, range)) c.lowest_bit-leaf.ensures.there c.lowest_bit-leaf.ensures.first c.without_bit-rest.ensures.bits in
    refused_leaves F (length c.args.self.now.rooms) (c.first_leaf-first.result + c.lowest_bit-leaf.result) c.loop-rest.hand c.take_node.new.hand (c.take_node.ensures.refused c.if-not-take_node.true) _ (leaf_at F c.args.hand.now c.args.held.now.leaves c.requires.own.plain wants c.loop-rest.rest c.without_bit-rest.result c.lowest_bit-leaf.result (c.first_leaf-first.result + c.lowest_bit-leaf.result) first (ap (λ (n : ℕ). n + c.lowest_bit-leaf.result) c.first_leaf-first.ensures.value) c.loop-rest.hand c.loop-rest.invariant.1 (length c.args.self.now.rooms) c.args.self.now.table c.loop-rest.taken c.loop-rest.invariant.0.pass c.loop-rest.invariant.6) (take c.loop-rest.taken c.as_slice.result.now)
    (ap (take c.loop-rest.taken) (c.as_slice.ensures.value ∙ c.requires.held.wanted_is ∙ sym (ap (λ (q : PassView). q.view.wanted) c.loop-rest.invariant.1)) ∙ leaves_taken F c.args.hand.now c.args.held.now.leaves c.requires.own.plain wants c.loop-rest.rest c.without_bit-rest.result c.lowest_bit-leaf.result (c.first_leaf-first.result + c.lowest_bit-leaf.result) first (ap (λ (n : ℕ). n + c.lowest_bit-leaf.result) c.first_leaf-first.ensures.value) c.loop-rest.hand c.loop-rest.invariant.1 (length c.args.self.now.rooms) c.args.self.now.table c.loop-rest.taken c.loop-rest.invariant.0.pass c.loop-rest.invariant.6)

pub returns-then-not-take_node-clause-at_once : goal.returns-then-not-take_node-clause-at_once
returns-then-not-take_node-clause-at_once g c = c.take_node.ensures.at_once c.if-not-take_node.true

pub returns-then-not-take_node-clause-given_up : goal.returns-then-not-take_node-clause-given_up
returns-then-not-take_node-clause-given_up g c =
    let F = fixed_in g.A.Action.meaning c.args.self.now in
    let wants = wants_leaves F (length c.args.self.now.rooms) c.args.self.now.table c.args.hand.now c.args.held.now.leaves c.requires.own.pass c.requires.at c.requires.held.leaves_are in
    let few = c.loop-rest.invariant.4 in
    let range = wants.small in
    let first = lowest_first (2 ^ F.tree.depth) c.loop-rest.rest c.without_bit-rest.result c.lowest_bit-leaf.result (leaves_few F wants.depth) (omega (arith, few, range)) c.lowest_bit-leaf.ensures.there c.lowest_bit-leaf.ensures.first c.without_bit-rest.ensures.bits in
    given_up_before F (length c.args.self.now.rooms) c.args.hand.now c.loop-rest.hand c.give_up.new.hand
    (leaf_same F c.args.hand.now c.args.held.now.leaves c.requires.own.plain wants c.loop-rest.rest c.without_bit-rest.result c.lowest_bit-leaf.result (c.first_leaf-first.result + c.lowest_bit-leaf.result) first (ap (λ (n : ℕ). n + c.lowest_bit-leaf.result) c.first_leaf-first.ensures.value) c.loop-rest.hand c.loop-rest.invariant.1 (c.loop-rest.invariant.5 (c.take_node.ensures.at_once c.if-not-take_node.true)) c.loop-rest.invariant.2.begun)
    (given_up F (length c.args.self.now.rooms) c.loop-rest.hand c.take_node.new.hand c.give_up.new.hand (c.first_leaf-first.result + c.lowest_bit-leaf.result) wants.depth (c.take_node.ensures.refused c.if-not-take_node.true) c.give_up.ensures.view c.give_up.ensures.seen)

pub returns-then-not-take_node-clause-tried : goal.returns-then-not-take_node-clause-tried
returns-then-not-take_node-clause-tried g c =
    subst (IsTriedOn c.args.hand.now.tally) (sym (ap (λ (q : PassView). q.tally) c.give_up.ensures.view)) (tried_again _ _ _ c.loop-rest.invariant.2 c.take_node.ensures.tried)

pub returns-then-not-take_node-clause-refusals : goal.returns-then-not-take_node-clause-refusals
returns-then-not-take_node-clause-refusals g c is =
    let F = fixed_in g.A.Action.meaning c.args.self.now in
    let wants = wants_leaves F (length c.args.self.now.rooms) c.args.self.now.table c.args.hand.now c.args.held.now.leaves c.requires.own.pass c.requires.at c.requires.held.leaves_are in
    let few = c.loop-rest.invariant.4 in
    let range = wants.small in
    let first = lowest_first (2 ^ F.tree.depth) c.loop-rest.rest c.without_bit-rest.result c.lowest_bit-leaf.result (leaves_few F wants.depth) (omega (arith, few, range)) c.lowest_bit-leaf.ensures.there c.lowest_bit-leaf.ensures.first c.without_bit-rest.ensures.bits in
    refusals_given_up F (length c.args.self.now.rooms) c.loop-rest.hand c.take_node.new.hand c.give_up.new.hand (c.first_leaf-first.result + c.lowest_bit-leaf.result) wants.depth (c.take_node.ensures.refused c.if-not-take_node.true) c.give_up.ensures.view c.give_up.ensures.seen c.take_node.new.refusals (c.take_node.ensures.refusals (c.loop-rest.invariant.3 is))

pub returns-clause-view : goal.returns-clause-view
returns-clause-view g c =
    let F = fixed_in g.A.Action.meaning c.args.self.now in
    let wants = wants_leaves F (length c.args.self.now.rooms) c.args.self.now.table c.args.hand.now c.args.held.now.leaves c.requires.own.pass c.requires.at c.requires.held.leaves_are in
    leaves_end F c.args.hand.now c.args.held.now.leaves c.requires.own.plain wants c.loop-rest.hand (subst (λ (n : ℕ). c.loop-rest.hand ≡ left_until F c.args.hand.now n c.loop-rest.hand) c.loop-rest-test.false c.loop-rest.invariant.1)
