use Rattle.std.proofs.Common.{length}
use Rattle.ruled_words.specs.Passes.{HasGone, fixed_in}
use Rattle.ruled_words.specs.Hands.{pass_keeping}
use Rattle.ruled_words.proofs.HandSteps.{kept_after, kept_own}
use Rattle.ruled_words.proofs.shared_words.SharedWords.step_resolved.Goals as goal

pub returns-clause-pass : goal.returns-clause-pass
returns-clause-pass g c =
    let gone : HasGone (fixed_in g.A.Action.meaning c.args.self.now) (length c.args.self.now.rooms) (pass_keeping c.args.hand.now c.args.effect.now) c.resolve_on.result c.resolve_on.new.self =
    rw (← c.self.view_is) c.resolve_on.ensures.gone in
    kept_after (fixed_in g.A.Action.meaning c.args.self.now) (length c.args.self.now.rooms) c.args.self.now.table (pass_keeping c.args.hand.now c.args.effect.now) c.resolve_on.new.self c.resolve_on.result c.requires.own c.requires.comes gone c.resolve_on.ensures.plain.1

pub returns-clause-own : goal.returns-clause-own
returns-clause-own g c =
    let gone : HasGone (fixed_in g.A.Action.meaning c.args.self.now) (length c.args.self.now.rooms) (pass_keeping c.args.hand.now c.args.effect.now) c.resolve_on.result c.resolve_on.new.self =
    rw (← c.self.view_is) c.resolve_on.ensures.gone in
    kept_own (fixed_in g.A.Action.meaning c.args.self.now) (length c.args.self.now.rooms) c.args.self.now.table (pass_keeping c.args.hand.now c.args.effect.now) c.resolve_on.new.self c.resolve_on.result c.requires.own c.requires.comes gone c.resolve_on.ensures.plain.1

pub returns-clause-node : goal.returns-clause-node
returns-clause-node g c =
    let gone : HasGone (fixed_in g.A.Action.meaning c.args.self.now) (length c.args.self.now.rooms) (pass_keeping c.args.hand.now c.args.effect.now) c.resolve_on.result c.resolve_on.new.self =
    rw (← c.self.view_is) c.resolve_on.ensures.gone in
    record { held = gone.held; reached = gone.reached }

pub returns-clause-seen : goal.returns-clause-seen
returns-clause-seen g c =
    let gone : HasGone (fixed_in g.A.Action.meaning c.args.self.now) (length c.args.self.now.rooms) (pass_keeping c.args.hand.now c.args.effect.now) c.resolve_on.result c.resolve_on.new.self =
    rw (← c.self.view_is) c.resolve_on.ensures.gone in
    gone.seen

pub returns-clause-small : goal.returns-clause-small
returns-clause-small g c =
    let gone : HasGone (fixed_in g.A.Action.meaning c.args.self.now) (length c.args.self.now.rooms) (pass_keeping c.args.hand.now c.args.effect.now) c.resolve_on.result c.resolve_on.new.self =
    rw (← c.self.view_is) c.resolve_on.ensures.gone in
    gone.small
