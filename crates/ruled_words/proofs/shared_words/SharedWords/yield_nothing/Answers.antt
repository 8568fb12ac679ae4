use Rattle.std.proofs.Common.{true, length, sym, ◌∙◌}
use Rattle.ruled_words.specs.Passes.{fixed_in}
use Rattle.ruled_words.proofs.GivingUp.{quits_own, count_index, count_left_as, count_next, count_seen, count_low}
use Rattle.ruled_words.proofs.shared_words.SharedWords.yield_nothing.Goals as goal

pub step_yielding-requires-clause-own : goal.step_yielding-requires-clause-own
step_yielding-requires-clause-own g c κs within = quits_own (fixed_in g.A.Action.meaning c.args.self.now) (length c.args.self.now.rooms) c.args.self.now.table c.args.hand.now true c.requires.own (λ e. c.requires.at_take)

pub step_yielding-requires-clause-index : goal.step_yielding-requires-clause-index
step_yielding-requires-clause-index g c κs within = c.from.ensures ∙ sym (count_index (fixed_in g.A.Action.meaning c.args.self.now) c.args.hand.now c.requires.none)

pub step_yielding-requires-clause-left : goal.step_yielding-requires-clause-left
step_yielding-requires-clause-left g c κs within = count_left_as (fixed_in g.A.Action.meaning c.args.self.now) c.args.hand.now c.requires.none

pub returns-clause-view : goal.returns-clause-view
returns-clause-view g c = count_seen (fixed_in g.A.Action.meaning c.args.self.now) c.args.hand.now c.requires.none c.requires.own.plain c.step_yielding.new.hand c.step_yielding.result c.step_yielding.ensures.pass

pub returns-clause-seen : goal.returns-clause-seen
returns-clause-seen g c =
    count_low (fixed_in g.A.Action.meaning c.args.self.now) c.args.hand.now c.requires.none c.requires.own.plain c.step_yielding.new.hand c.step_yielding.result c.step_yielding.ensures.pass
    (c.step_yielding.ensures.counted (count_next (fixed_in g.A.Action.meaning c.args.self.now) c.args.hand.now c.requires.none))
