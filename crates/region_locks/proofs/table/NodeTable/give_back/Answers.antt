use Rattle.std.proofs.Common.{ℕ, refl, sym, ap, ◌∙◌, length}
use Rattle.ruled_words.specs.Passes.{fixed_in, next_of_pass, pass_after}
use Rattle.core_seats.specs.Nexts.{the_next}
use Rattle.ruled_words.proofs.Gives.{gives_next, given_there}
use Rattle.region_locks.proofs.table.NodeTable.give_back.Goals as goal

pub step_word-requires-clause-comes : goal.step_word-requires-clause-comes
step_word-requires-clause-comes g c κs within = given_there _ _ c.requires.next

pub step_word-requires-clause-index : goal.step_word-requires-clause-index
step_word-requires-clause-index g c κs within =
    c.from.ensures ∙ c.node_word.ensures ∙ sym (gives_next (fixed_in g.A.Action.meaning c.args.self.now) (length c.args.self.now.rooms) c.args.self.now.table c.args.pass.now c.args.node c.requires.own c.requires.next).index

pub step_word-requires-clause-left : goal.step_word-requires-clause-left
step_word-requires-clause-left g c κs within = (gives_next (fixed_in g.A.Action.meaning c.args.self.now) (length c.args.self.now.rooms) c.args.self.now.table c.args.pass.now c.args.node c.requires.own c.requires.next).left

pub step_word-requires-clause-may : goal.step_word-requires-clause-may
step_word-requires-clause-may g c κs within = (gives_next (fixed_in g.A.Action.meaning c.args.self.now) (length c.args.self.now.rooms) c.args.self.now.table c.args.pass.now c.args.node c.requires.own c.requires.next).blind

pub returns-clause-pass : goal.returns-clause-pass
returns-clause-pass g c =
    c.step_word.ensures.pass
    ∙ ap (λ (n : ℕ). pass_after (fixed_in g.A.Action.meaning c.args.self.now) (the_next (next_of_pass (fixed_in g.A.Action.meaning c.args.self.now) c.args.pass.now)) n c.args.pass.now) (c.step_word.ensures.stored 0 refl)
