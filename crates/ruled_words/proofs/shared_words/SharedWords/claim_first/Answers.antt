use Rattle.std.proofs.Common.{◌∙◌, refl, length}
use Rattle.ruled_words.specs.Passes.{fixed_in}
use Rattle.ruled_words.proofs.GivingUp.{given_up, refusals_given_up}
use Rattle.ruled_words.proofs.RefusedTakes.{refused_taking, refused_inner, refused_leaves}
use Rattle.ruled_words.proofs.shared_words.SharedWords.claim_first.Goals as goal

pub returns-then-take_first-clause-tried : goal.returns-then-take_first-clause-tried
returns-then-take_first-clause-tried g c = c.take_first.ensures.tried c.if-take_first.true

pub returns-then-take_first-clause-served : goal.returns-then-take_first-clause-served
returns-then-take_first-clause-served g c at_once = c.take_first.ensures.served at_once c.if-take_first.true

pub give_up-requires-clause-at_take : goal.give_up-requires-clause-at_take
give_up-requires-clause-at_take g c κs within = refused_taking (fixed_in g.A.Action.meaning c.args.self.now) (length c.args.self.now.rooms) c.args.node c.args.hand.now c.take_first.new.hand (c.take_first.ensures.refused c.if-take_first.false) _ c.requires.at refl

pub give_up-requires-clause-nodes : goal.give_up-requires-clause-nodes
give_up-requires-clause-nodes g c κs within = refused_inner (fixed_in g.A.Action.meaning c.args.self.now) (length c.args.self.now.rooms) c.args.node c.args.hand.now c.take_first.new.hand (c.take_first.ensures.refused c.if-take_first.false) _ c.requires.at _ refl

pub give_up-requires-clause-leaves : goal.give_up-requires-clause-leaves
give_up-requires-clause-leaves g c κs within = refused_leaves (fixed_in g.A.Action.meaning c.args.self.now) (length c.args.self.now.rooms) c.args.node c.args.hand.now c.take_first.new.hand (c.take_first.ensures.refused c.if-take_first.false) _ c.requires.at _ (c.as_slice.ensures.value ∙ c.requires.held.wanted_is)

pub returns-clause-given_up : goal.returns-clause-given_up
returns-clause-given_up g c = given_up (fixed_in g.A.Action.meaning c.args.self.now) (length c.args.self.now.rooms) c.args.hand.now c.take_first.new.hand c.give_up.new.hand c.args.node c.requires.own.pass.sound_sight.sound.depth (c.take_first.ensures.refused c.if-take_first.false) c.give_up.ensures.view c.give_up.ensures.seen

pub returns-clause-at_once : goal.returns-clause-at_once
returns-clause-at_once g c = c.take_first.ensures.at_once c.if-take_first.false

pub returns-clause-refusals : goal.returns-clause-refusals
returns-clause-refusals g c here = refusals_given_up (fixed_in g.A.Action.meaning c.args.self.now) (length c.args.self.now.rooms) c.args.hand.now c.take_first.new.hand c.give_up.new.hand c.args.node c.requires.own.pass.sound_sight.sound.depth (c.take_first.ensures.refused c.if-take_first.false) c.give_up.ensures.view c.give_up.ensures.seen c.take_first.new.refusals (c.take_first.ensures.refusals here)
