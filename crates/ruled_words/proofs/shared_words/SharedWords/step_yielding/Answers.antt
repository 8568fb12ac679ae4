use Rattle.std.proofs.Common.{length}
use Rattle.ruled_words.specs.Passes.{HasGone, fixed_in}
use Rattle.ruled_words.specs.GivingUp.{quitting_pass}
use Rattle.ruled_words.proofs.HandSteps.{plain_after, plain_own}
use Rattle.ruled_words.proofs.shared_words.SharedWords.step_yielding.Goals as goal

pub returns-clause-pass : goal.returns-clause-pass
returns-clause-pass g c =
    let gone : HasGone (fixed_in g.A.Action.meaning c.args.self.now) (length c.args.self.now.rooms) (quitting_pass c.args.hand.now c.args.begins) c.yield_on.result c.yield_on.new.self =
    rw (← c.self.view_is) c.yield_on.ensures.gone in
    plain_after (fixed_in g.A.Action.meaning c.args.self.now) (length c.args.self.now.rooms) c.args.self.now.table (quitting_pass c.args.hand.now c.args.begins) c.yield_on.new.self c.yield_on.result c.requires.own c.requires.comes gone c.yield_on.ensures.plain.1 c.yield_on.ensures.plain.0.effect

pub returns-clause-own : goal.returns-clause-own
returns-clause-own g c =
    let gone : HasGone (fixed_in g.A.Action.meaning c.args.self.now) (length c.args.self.now.rooms) (quitting_pass c.args.hand.now c.args.begins) c.yield_on.result c.yield_on.new.self =
    rw (← c.self.view_is) c.yield_on.ensures.gone in
    record { pass = plain_own (fixed_in g.A.Action.meaning c.args.self.now) (length c.args.self.now.rooms) c.args.self.now.table (quitting_pass c.args.hand.now c.args.begins) c.yield_on.new.self c.yield_on.result c.requires.own c.requires.comes gone c.yield_on.ensures.plain.1 c.yield_on.ensures.plain.0.effect; plain = c.yield_on.ensures.plain.1 }

pub returns-clause-counted : goal.returns-clause-counted
returns-clause-counted g c =
    let gone : HasGone (fixed_in g.A.Action.meaning c.args.self.now) (length c.args.self.now.rooms) (quitting_pass c.args.hand.now c.args.begins) c.yield_on.result c.yield_on.new.self =
    rw (← c.self.view_is) c.yield_on.ensures.gone in
    gone.counted
