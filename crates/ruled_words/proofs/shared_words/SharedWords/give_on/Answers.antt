use Rattle.std.proofs.Common.{ℕ, refl, sym, ap, ◌∙◌, length}
use Rattle.ruled_words.specs.Passes.{fixed_in, next_of_pass, pass_after}
use Rattle.core_seats.specs.Nexts.{the_next}
use Rattle.ruled_words.proofs.Gives.{gives_next, given_there}
use Rattle.ruled_words.proofs.shared_words.SharedWords.give_on.Goals as goal

pub step_hand-requires-clause-comes : goal.step_hand-requires-clause-comes
step_hand-requires-clause-comes g c κs within = given_there _ _ c.requires.next

pub step_hand-requires-clause-index : goal.step_hand-requires-clause-index
step_hand-requires-clause-index g c κs within =
    c.from.ensures ∙ c.node_word.ensures ∙ sym (gives_next (fixed_in g.A.Action.meaning c.args.self.now) (length c.args.self.now.rooms) c.args.self.now.table c.args.hand.now c.args.node c.requires.own.pass c.requires.next).index

pub step_hand-requires-clause-left : goal.step_hand-requires-clause-left
step_hand-requires-clause-left g c κs within = (gives_next (fixed_in g.A.Action.meaning c.args.self.now) (length c.args.self.now.rooms) c.args.self.now.table c.args.hand.now c.args.node c.requires.own.pass c.requires.next).left

pub step_hand-requires-clause-may : goal.step_hand-requires-clause-may
step_hand-requires-clause-may g c κs within = (gives_next (fixed_in g.A.Action.meaning c.args.self.now) (length c.args.self.now.rooms) c.args.self.now.table c.args.hand.now c.args.node c.requires.own.pass c.requires.next).blind

pub returns-clause-pass : goal.returns-clause-pass
returns-clause-pass g c =
    c.step_hand.ensures.pass
    ∙ ap (λ (n : ℕ). pass_after (fixed_in g.A.Action.meaning c.args.self.now) (the_next (next_of_pass (fixed_in g.A.Action.meaning c.args.self.now) c.args.hand.now)) n c.args.hand.now) (c.step_hand.ensures.stored 0 refl)
