use Rattle.std.proofs.Common.{length}
use Rattle.ruled_words.specs.Passes.{HasGone, fixed_in}
use Rattle.ruled_words.proofs.HandSteps.{plain_after, plain_own}
use Rattle.ruled_words.proofs.shared_words.SharedWords.step_hand.Goals as goal

pub returns-clause-pass : goal.returns-clause-pass
returns-clause-pass g c =
    let gone : HasGone (fixed_in g.A.Action.meaning c.args.self.now) (length c.args.self.now.rooms) c.args.hand.now c.step_on.result c.step_on.new.self =
    rw (← c.self.view_is) c.step_on.ensures.gone in
    plain_after (fixed_in g.A.Action.meaning c.args.self.now) (length c.args.self.now.rooms) c.args.self.now.table c.args.hand.now c.step_on.new.self c.step_on.result c.requires.own.pass c.requires.comes gone c.step_on.ensures.plain.1 c.step_on.ensures.plain.0.effect

pub returns-clause-own : goal.returns-clause-own
returns-clause-own g c =
    let gone : HasGone (fixed_in g.A.Action.meaning c.args.self.now) (length c.args.self.now.rooms) c.args.hand.now c.step_on.result c.step_on.new.self =
    rw (← c.self.view_is) c.step_on.ensures.gone in
    record { pass = plain_own (fixed_in g.A.Action.meaning c.args.self.now) (length c.args.self.now.rooms) c.args.self.now.table c.args.hand.now c.step_on.new.self c.step_on.result c.requires.own.pass c.requires.comes gone c.step_on.ensures.plain.1 c.step_on.ensures.plain.0.effect; plain = c.step_on.ensures.plain.1 }

pub returns-clause-taken : goal.returns-clause-taken
returns-clause-taken g c =
    let gone : HasGone (fixed_in g.A.Action.meaning c.args.self.now) (length c.args.self.now.rooms) c.args.hand.now c.step_on.result c.step_on.new.self =
    rw (← c.self.view_is) c.step_on.ensures.gone in
    gone.taken

pub returns-clause-node : goal.returns-clause-node
returns-clause-node g c =
    let gone : HasGone (fixed_in g.A.Action.meaning c.args.self.now) (length c.args.self.now.rooms) c.args.hand.now c.step_on.result c.step_on.new.self =
    rw (← c.self.view_is) c.step_on.ensures.gone in
    record { held = gone.held; reached = gone.reached }

pub returns-clause-seen : goal.returns-clause-seen
returns-clause-seen g c =
    let gone : HasGone (fixed_in g.A.Action.meaning c.args.self.now) (length c.args.self.now.rooms) c.args.hand.now c.step_on.result c.step_on.new.self =
    rw (← c.self.view_is) c.step_on.ensures.gone in
    gone.seen

pub returns-clause-small : goal.returns-clause-small
returns-clause-small g c =
    let gone : HasGone (fixed_in g.A.Action.meaning c.args.self.now) (length c.args.self.now.rooms) c.args.hand.now c.step_on.result c.step_on.new.self =
    rw (← c.self.view_is) c.step_on.ensures.gone in
    gone.small
