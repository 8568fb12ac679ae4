use Rattle.std.proofs.Common.{◌∙◌, arith}
use Rattle.core_steps.specs.Cells.{State}
use Rattle.core_steps.specs.Points.{Put}
use Rattle.ruled_words.specs.Passes.{fixed_in}
use Rattle.ruled_words.proofs.PlainHands.{comes_next, index_next}
use Rattle.ruled_words.proofs.StoresMade.{store_is, store_left, store_after, store_blind}
use Rattle.ruled_words.proofs.shared_words.SharedWords.store_state.Goals as goal

pub step_hand-requires-clause-comes : goal.step_hand-requires-clause-comes
step_hand-requires-clause-comes g c κs within =
    comes_next (fixed_in g.A.Action.meaning c.args.self.now) c.args.hand.now _ (store_is (fixed_in g.A.Action.meaning c.args.self.now) c.args.hand.now c.requires.own.plain (Put (State c.args.id) c.args.state) c.requires.next)

pub step_hand-requires-clause-index : goal.step_hand-requires-clause-index
step_hand-requires-clause-index g c κs within =
    omega (arith, c.from.ensures, c.from-2.ensures)
    ∙ index_next (fixed_in g.A.Action.meaning c.args.self.now) c.args.hand.now _ (store_is (fixed_in g.A.Action.meaning c.args.self.now) c.args.hand.now c.requires.own.plain (Put (State c.args.id) c.args.state) c.requires.next) c.args.hand.now.view

pub step_hand-requires-clause-left : goal.step_hand-requires-clause-left
step_hand-requires-clause-left g c κs within found =
    store_left (fixed_in g.A.Action.meaning c.args.self.now) c.args.hand.now c.requires.own.plain (Put (State c.args.id) c.args.state) c.requires.next found

pub step_hand-requires-clause-may : goal.step_hand-requires-clause-may
step_hand-requires-clause-may g c κs within found =
    store_blind (fixed_in g.A.Action.meaning c.args.self.now) c.args.hand.now c.requires.own.plain (Put (State c.args.id) c.args.state) c.requires.next found _

pub returns-clause-view : goal.returns-clause-view
returns-clause-view g c =
    store_after (fixed_in g.A.Action.meaning c.args.self.now) c.args.hand.now c.requires.own.plain (Put (State c.args.id) c.args.state) c.requires.next c.step_hand.new.hand c.step_hand.result c.step_hand.ensures.pass
