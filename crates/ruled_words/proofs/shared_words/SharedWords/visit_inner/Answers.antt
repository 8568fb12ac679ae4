use Rattle.std.proofs.Common.{◌≡◌, List, length, refl, sym, ap, ◌∙◌, subst, arith, bit_or}
use Rattle.core_steps.specs.Reads.{PlayerRead}
use Rattle.ruled_words.specs.Passes.{PassView, fixed_in}
use Rattle.ruled_words.specs.Straight.{HasKept, IsTriedOn}
use Rattle.ruled_words.proofs.GivingUp.{given_up, tried_given_up, refusals_given_up}
use Rattle.ruled_words.proofs.RefusedTakes.{refused_taking, refused_inner, refused_leaves}
use Rattle.ruled_words.proofs.VisitedNodes.{enter_next, enter_word, inner_entered, entered_slot, entered_others, inner_leaving, inner_read, inner_others, inner_tally, inner_none_refused, inner_refusals}
use Rattle.ruled_words.proofs.shared_words.SharedWords.visit_inner.Goals as goal

pub take_node-requires-clause-next : goal.take_node-requires-clause-next
take_node-requires-clause-next g c κs within = enter_next (fixed_in g.A.Action.meaning c.args.self.now) c.args.hand.now c.args.node c.requires.inner c.requires.own.plain c.requires.at

pub take_node-requires-clause-word : goal.take_node-requires-clause-word
take_node-requires-clause-word g c κs within found =
    let number : c.hand.inside.number ≡ c.args.hand.now.number = ap (λ (q : PassView). q.number) c.hand.view_is in
    let one = c.from-new.ensures in
    enter_word (fixed_in g.A.Action.meaning c.args.self.now) c.args.hand.now c.args.node c.requires.inner c.requires.own.plain c.requires.at _ (omega (arith, number, one)) found

pub read_under-players-requires-clause-at : goal.read_under-players-requires-clause-at
read_under-players-requires-clause-at g c κs within =
    inner_entered (fixed_in g.A.Action.meaning c.args.self.now) c.args.hand.now c.args.node c.requires.inner c.requires.own.plain c.requires.at c.take_node.new.hand (c.take_node.ensures.view c.if-not-take_node.false)

pub read_under-players-requires-clause-slot : goal.read_under-players-requires-clause-slot
read_under-players-requires-clause-slot g c κs within =
    c.requires.held.slot_is ∙ sym (entered_slot (fixed_in g.A.Action.meaning c.args.self.now) c.args.hand.now c.args.node c.requires.inner c.requires.own.plain c.requires.at c.take_node.new.hand (c.take_node.ensures.view c.if-not-take_node.false))

pub leave-requires-clause-at : goal.leave-requires-clause-at
leave-requires-clause-at g c κs within =
    inner_leaving (fixed_in g.A.Action.meaning c.args.self.now) c.args.hand.now c.args.node c.requires.inner c.requires.own.plain c.requires.at c.take_node.new.hand (c.take_node.ensures.view c.if-not-take_node.false)
    c.read_under-players.new.hand c.read_under-players.ensures.view

pub returns-clause-view : goal.returns-clause-view
returns-clause-view g c =
    inner_read (fixed_in g.A.Action.meaning c.args.self.now) c.args.hand.now c.args.node c.requires.inner c.requires.own.plain c.requires.at c.take_node.new.hand (c.take_node.ensures.view c.if-not-take_node.false)
    c.read_under-players.new.hand c.read_under-players.ensures.view c.leave.new.hand c.leave.ensures.view

pub returns-clause-tried : goal.returns-clause-tried
returns-clause-tried g c =
    subst (IsTriedOn c.args.hand.now.tally)
    (sym (inner_tally (fixed_in g.A.Action.meaning c.args.self.now) c.args.hand.now c.args.node c.requires.inner c.requires.own.plain c.requires.at c.take_node.new.hand (c.take_node.ensures.view c.if-not-take_node.false)
    c.read_under-players.new.hand c.read_under-players.ensures.view c.leave.new.hand c.leave.ensures.view))
    c.take_node.ensures.tried

pub returns-clause-refusals : goal.returns-clause-refusals
returns-clause-refusals g c here =
    inner_refusals (fixed_in g.A.Action.meaning c.args.self.now) c.args.hand.now c.args.node c.requires.inner c.requires.own.plain c.requires.at c.take_node.new.hand (c.take_node.ensures.view c.if-not-take_node.false)
    c.read_under-players.new.hand c.read_under-players.ensures.view c.leave.new.hand c.leave.ensures.view c.take_node.new.refusals (c.take_node.ensures.refusals here)

pub returns-clause-kept : goal.returns-clause-kept
returns-clause-kept g c seen kept =
    subst (λ (os : List PlayerRead). HasKept (bit_or seen c.read_under-players.result) c.read_under-players.new.by_slot os)
    (sym (inner_others (fixed_in g.A.Action.meaning c.args.self.now) c.args.hand.now c.args.node c.requires.inner c.requires.own.plain c.requires.at c.take_node.new.hand (c.take_node.ensures.view c.if-not-take_node.false)
    c.read_under-players.new.hand c.read_under-players.ensures.view c.leave.new.hand c.leave.ensures.view))
    (c.read_under-players.ensures.kept seen
    (subst (λ (os : List PlayerRead). HasKept seen c.args.by_slot.now os)
    (sym (entered_others (fixed_in g.A.Action.meaning c.args.self.now) c.args.hand.now c.args.node c.requires.inner c.requires.own.plain c.requires.at c.take_node.new.hand (c.take_node.ensures.view c.if-not-take_node.false))) kept))

pub returns-clause-served : goal.returns-clause-served
returns-clause-served g c at_once = inner_none_refused (fixed_in g.A.Action.meaning c.args.self.now) c.args.hand.now c.args.node c.requires.inner c.requires.own.plain c.requires.at c.take_node.new.hand (c.take_node.ensures.view c.if-not-take_node.false)
    c.read_under-players.new.hand c.read_under-players.ensures.view c.leave.new.hand c.leave.ensures.view (c.take_node.ensures.served at_once c.if-not-take_node.false)

pub give_up-requires-clause-at_take : goal.give_up-requires-clause-at_take
give_up-requires-clause-at_take g c κs within = refused_taking (fixed_in g.A.Action.meaning c.args.self.now) (length c.args.self.now.rooms) c.args.node c.args.hand.now c.take_node.new.hand (c.take_node.ensures.refused c.if-not-take_node.true) _ c.requires.at refl

pub give_up-requires-clause-nodes : goal.give_up-requires-clause-nodes
give_up-requires-clause-nodes g c κs within = refused_inner (fixed_in g.A.Action.meaning c.args.self.now) (length c.args.self.now.rooms) c.args.node c.args.hand.now c.take_node.new.hand (c.take_node.ensures.refused c.if-not-take_node.true) _ c.requires.at _ refl

pub give_up-requires-clause-leaves : goal.give_up-requires-clause-leaves
give_up-requires-clause-leaves g c κs within = refused_leaves (fixed_in g.A.Action.meaning c.args.self.now) (length c.args.self.now.rooms) c.args.node c.args.hand.now c.take_node.new.hand (c.take_node.ensures.refused c.if-not-take_node.true) _ c.requires.at _ (c.as_slice.ensures.value ∙ c.requires.held.wanted_is)

pub returns-then-not-take_node-clause-given_up : goal.returns-then-not-take_node-clause-given_up
returns-then-not-take_node-clause-given_up g c = given_up (fixed_in g.A.Action.meaning c.args.self.now) (length c.args.self.now.rooms) c.args.hand.now c.take_node.new.hand c.give_up.new.hand c.args.node c.requires.own.pass.sound_sight.sound.depth (c.take_node.ensures.refused c.if-not-take_node.true) c.give_up.ensures.view c.give_up.ensures.seen

pub returns-then-not-take_node-clause-at_once : goal.returns-then-not-take_node-clause-at_once
returns-then-not-take_node-clause-at_once g c = c.take_node.ensures.at_once c.if-not-take_node.true

pub returns-then-not-take_node-clause-tried : goal.returns-then-not-take_node-clause-tried
returns-then-not-take_node-clause-tried g c = tried_given_up (fixed_in g.A.Action.meaning c.args.self.now) (length c.args.self.now.rooms) c.args.hand.now c.take_node.new.hand c.give_up.new.hand c.args.node c.requires.own.pass.sound_sight.sound.depth (c.take_node.ensures.refused c.if-not-take_node.true) c.give_up.ensures.view c.give_up.ensures.seen c.take_node.ensures.tried

pub returns-then-not-take_node-clause-refusals : goal.returns-then-not-take_node-clause-refusals
returns-then-not-take_node-clause-refusals g c here = refusals_given_up (fixed_in g.A.Action.meaning c.args.self.now) (length c.args.self.now.rooms) c.args.hand.now c.take_node.new.hand c.give_up.new.hand c.args.node c.requires.own.pass.sound_sight.sound.depth (c.take_node.ensures.refused c.if-not-take_node.true) c.give_up.ensures.view c.give_up.ensures.seen c.take_node.new.refusals (c.take_node.ensures.refusals here)
