use Rattle.std.proofs.Common.{ℕ, refl, sym, ap, ◌∙◌, length}
use Rattle.core_seats.specs.Nexts.{the_next}
use Rattle.ruled_words.specs.GivingUp.{quitting_pass}
use Rattle.ruled_words.specs.Passes.{fixed_in, next_of_pass, pass_after}
use Rattle.ruled_words.proofs.Gives.{gives_next, given_there}
use Rattle.ruled_words.proofs.shared_words.SharedWords.yield_node.Goals as goal

pub step_yielding-requires-clause-comes : goal.step_yielding-requires-clause-comes
step_yielding-requires-clause-comes g c κs within = given_there _ _ c.requires.next

pub step_yielding-requires-clause-index : goal.step_yielding-requires-clause-index
step_yielding-requires-clause-index g c κs within =
    c.from.ensures ∙ c.node_word.ensures ∙ sym (gives_next (fixed_in g.A.Action.meaning c.args.self.now) (length c.args.self.now.rooms) c.args.self.now.table (quitting_pass c.args.hand.now c.args.begins) c.args.node c.requires.quits c.requires.next).index

pub step_yielding-requires-clause-left : goal.step_yielding-requires-clause-left
step_yielding-requires-clause-left g c κs within = (gives_next (fixed_in g.A.Action.meaning c.args.self.now) (length c.args.self.now.rooms) c.args.self.now.table (quitting_pass c.args.hand.now c.args.begins) c.args.node c.requires.quits c.requires.next).left

pub step_yielding-requires-clause-may : goal.step_yielding-requires-clause-may
step_yielding-requires-clause-may g c κs within = (gives_next (fixed_in g.A.Action.meaning c.args.self.now) (length c.args.self.now.rooms) c.args.self.now.table (quitting_pass c.args.hand.now c.args.begins) c.args.node c.requires.quits c.requires.next).blind

pub returns-clause-pass : goal.returns-clause-pass
returns-clause-pass g c =
    c.step_yielding.ensures.pass
    ∙ ap (λ (n : ℕ). pass_after (fixed_in g.A.Action.meaning c.args.self.now) (the_next (next_of_pass (fixed_in g.A.Action.meaning c.args.self.now) (quitting_pass c.args.hand.now c.args.begins))) n (quitting_pass c.args.hand.now c.args.begins)) (c.step_yielding.ensures.stored 0 refl)
