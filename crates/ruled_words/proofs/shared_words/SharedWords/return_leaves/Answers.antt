use Rattle.std.proofs.Common.{ℕ, ◌∙◌, ◌+◌, length, ap, subst, arith}
use Rattle.ruled_words.specs.Passes.{fixed_in}
use Rattle.ruled_words.proofs.GivenBack.{HasReturned, leaves_in, leaves_first, leaves_none, returned_none, return_next, returned_more, returned_all}
use Rattle.ruled_words.proofs.LeafWords.{leaves_small}
use Rattle.ruled_words.proofs.shared_words.SharedWords.return_leaves.Goals as goal

pub loop-rest-init : goal.loop-rest-init
loop-rest-init g c = (returned_none (fixed_in g.A.Action.meaning c.args.self.now) (length c.args.self.now.rooms) c.args.self.now.table c.args.hand.now c.requires.own.plain c.requires.at c.from-rest.result c.requires.own (c.from-rest.ensures ∙ c.requires.held.leaves_are), omega (arith, c.from-rest.ensures))

pub lowest_bit-leaf-requires : goal.lowest_bit-leaf-requires
lowest_bit-leaf-requires g c = omega (arith, c.loop-rest-test.true)

pub give_on-requires-clause-own : goal.give_on-requires-clause-own
give_on-requires-clause-own g c κs within = c.loop-rest.invariant.0.own

pub give_on-requires-clause-next : goal.give_on-requires-clause-next
give_on-requires-clause-next g c κs within =
    return_next (fixed_in g.A.Action.meaning c.args.self.now) (length c.args.self.now.rooms) c.args.self.now.table c.args.hand.now c.requires.own.plain c.requires.at c.loop-rest.hand (c.first_leaf-first.result + c.lowest_bit-leaf.result) (leaves_in (fixed_in g.A.Action.meaning c.args.self.now) c.without_bit-rest.result)
    (subst (HasReturned (fixed_in g.A.Action.meaning c.args.self.now) (length c.args.self.now.rooms) c.args.self.now.table c.args.hand.now c.loop-rest.hand) (leaves_first (fixed_in g.A.Action.meaning c.args.self.now) c.loop-rest.rest c.without_bit-rest.result c.lowest_bit-leaf.result (c.first_leaf-first.result + c.lowest_bit-leaf.result) c.requires.own.pass.sound_sight.sound.depth (ap (λ (n : ℕ). n + c.lowest_bit-leaf.result) c.first_leaf-first.ensures.value) (let most = c.loop-rest.invariant.1 in let fits = leaves_small (fixed_in g.A.Action.meaning c.args.self.now) _ c.args.held.now.leaves c.requires.held.leaves_are in omega (arith, most, fits)) c.lowest_bit-leaf.ensures.there c.lowest_bit-leaf.ensures.first c.without_bit-rest.ensures.bits) c.loop-rest.invariant.0)

pub loop-rest-smaller : goal.loop-rest-smaller
loop-rest-smaller g c = c.without_bit-rest.ensures.less c.lowest_bit-leaf.ensures.there

pub loop-rest-preserved : goal.loop-rest-preserved
loop-rest-preserved g c = (
  returned_more (fixed_in g.A.Action.meaning c.args.self.now) (length c.args.self.now.rooms) c.args.self.now.table c.args.hand.now c.requires.own.plain c.requires.at c.loop-rest.hand (c.first_leaf-first.result + c.lowest_bit-leaf.result) (leaves_in (fixed_in g.A.Action.meaning c.args.self.now) c.without_bit-rest.result)
      (subst (HasReturned (fixed_in g.A.Action.meaning c.args.self.now) (length c.args.self.now.rooms) c.args.self.now.table c.args.hand.now c.loop-rest.hand) (leaves_first (fixed_in g.A.Action.meaning c.args.self.now) c.loop-rest.rest c.without_bit-rest.result c.lowest_bit-leaf.result (c.first_leaf-first.result + c.lowest_bit-leaf.result) c.requires.own.pass.sound_sight.sound.depth (ap (λ (n : ℕ). n + c.lowest_bit-leaf.result) c.first_leaf-first.ensures.value) (let most = c.loop-rest.invariant.1 in let fits = leaves_small (fixed_in g.A.Action.meaning c.args.self.now) _ c.args.held.now.leaves c.requires.held.leaves_are in omega (arith, most, fits)) c.lowest_bit-leaf.ensures.there c.lowest_bit-leaf.ensures.first c.without_bit-rest.ensures.bits) c.loop-rest.invariant.0)
      c.give_on.new.hand c.give_on.ensures.own c.give_on.ensures.pass,
  (let less = c.without_bit-rest.ensures.less c.lowest_bit-leaf.ensures.there in let most = c.loop-rest.invariant.1 in omega (arith, less, most)),
)

pub returns-clause-own : goal.returns-clause-own
returns-clause-own g c = c.loop-rest.invariant.0.own

pub returns-clause-view : goal.returns-clause-view
returns-clause-view g c = returned_all (fixed_in g.A.Action.meaning c.args.self.now) (length c.args.self.now.rooms) c.args.self.now.table c.args.hand.now c.requires.own.plain c.requires.at c.loop-rest.hand c.requires.own.pass
    (subst (HasReturned (fixed_in g.A.Action.meaning c.args.self.now) (length c.args.self.now.rooms) c.args.self.now.table c.args.hand.now c.loop-rest.hand) (ap (leaves_in (fixed_in g.A.Action.meaning c.args.self.now)) c.loop-rest-test.false ∙ leaves_none (fixed_in g.A.Action.meaning c.args.self.now)) c.loop-rest.invariant.0)
