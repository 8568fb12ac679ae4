use Rattle.std.proofs.Common.{◌∙◌, ◌+◌, ◌==◌, ℕ, if◌then◌else◌, suc, ap, sym, refl, length}
use Rattle.core_steps.specs.declared.sizes.TheConstants.{NODE_HOLDERS}
use Rattle.ruled_words.specs.Passes.{PassView, fixed_in}
use Rattle.ruled_words.proofs.GivingUp.{given_up, refusals_given_up}
use Rattle.ruled_words.proofs.RefusedTakes.{refused_taking, refused_inner, refused_leaves}
use Rattle.ruled_words.proofs.Claims.{further_is, further_left}
use Rattle.ruled_words.proofs.shared_words.SharedWords.claim_next.Goals as goal

pub take_node-requires-clause-next : goal.take_node-requires-clause-next
take_node-requires-clause-next g c κs within = further_is (fixed_in g.A.Action.meaning c.args.self.now) (length c.args.self.now.rooms) c.args.self.now.table c.args.hand.now c.args.nodes.now c.args.node c.requires.own.pass c.requires.own.plain c.requires.at

pub take_node-requires-clause-word : goal.take_node-requires-clause-word
take_node-requires-clause-word g c κs within found =
    further_left (fixed_in g.A.Action.meaning c.args.self.now) (length c.args.self.now.rooms) c.args.self.now.table c.args.hand.now c.args.nodes.now c.args.node c.requires.own.pass c.requires.own.plain c.requires.at found
    ∙ ap (λ (w : ℕ). if found == 0 then w else found) (ap (λ (q : PassView). suc (q.number + NODE_HOLDERS)) (sym c.hand.view_is) ∙ sym c.writing_word-new.ensures)

pub returns-then-take_node-clause-tried : goal.returns-then-take_node-clause-tried
returns-then-take_node-clause-tried g c = record { hand = c.take_node.ensures.view c.if-take_node.true; tally = c.take_node.ensures.tried }

pub returns-then-take_node-clause-served : goal.returns-then-take_node-clause-served
returns-then-take_node-clause-served g c at_once = c.take_node.ensures.served at_once c.if-take_node.true

pub give_up-requires-clause-at_take : goal.give_up-requires-clause-at_take
give_up-requires-clause-at_take g c κs within = refused_taking (fixed_in g.A.Action.meaning c.args.self.now) (length c.args.self.now.rooms) c.args.node c.args.hand.now c.take_node.new.hand (c.take_node.ensures.refused c.if-take_node.false) _ c.requires.at refl

pub give_up-requires-clause-nodes : goal.give_up-requires-clause-nodes
give_up-requires-clause-nodes g c κs within = refused_inner (fixed_in g.A.Action.meaning c.args.self.now) (length c.args.self.now.rooms) c.args.node c.args.hand.now c.take_node.new.hand (c.take_node.ensures.refused c.if-take_node.false) _ c.requires.at _ refl

pub give_up-requires-clause-leaves : goal.give_up-requires-clause-leaves
give_up-requires-clause-leaves g c κs within = refused_leaves (fixed_in g.A.Action.meaning c.args.self.now) (length c.args.self.now.rooms) c.args.node c.args.hand.now c.take_node.new.hand (c.take_node.ensures.refused c.if-take_node.false) _ c.requires.at _ (c.as_slice.ensures.value ∙ c.requires.held.wanted_is)

pub returns-clause-given_up : goal.returns-clause-given_up
returns-clause-given_up g c = given_up (fixed_in g.A.Action.meaning c.args.self.now) (length c.args.self.now.rooms) c.args.hand.now c.take_node.new.hand c.give_up.new.hand c.args.node c.requires.own.pass.sound_sight.sound.depth (c.take_node.ensures.refused c.if-take_node.false) c.give_up.ensures.view c.give_up.ensures.seen

pub returns-clause-at_once : goal.returns-clause-at_once
returns-clause-at_once g c = c.take_node.ensures.at_once c.if-take_node.false

pub returns-clause-refusals : goal.returns-clause-refusals
returns-clause-refusals g c here = refusals_given_up (fixed_in g.A.Action.meaning c.args.self.now) (length c.args.self.now.rooms) c.args.hand.now c.take_node.new.hand c.give_up.new.hand c.args.node c.requires.own.pass.sound_sight.sound.depth (c.take_node.ensures.refused c.if-take_node.false) c.give_up.ensures.view c.give_up.ensures.seen c.take_node.new.refusals (c.take_node.ensures.refusals here)
