use Rattle.std.proofs.Common.{ℕ, ◌<◌, sym, ap, ◌∙◌, subst, length}
use Rattle.core_steps.specs.Cells.{with_bit}
use Rattle.core_steps.specs.Points.{Link}
use Rattle.ruled_words.specs.Passes.{fixed_in}
use Rattle.ruled_words.proofs.PlainHands.{comes_next, index_next}
use Rattle.ruled_words.proofs.StoresMade.{store_is, store_left, store_after, slot_small}
use Rattle.ruled_words.proofs.shared_words.SharedWords.set_bit.Goals as goal

pub step_hand-requires-clause-comes : goal.step_hand-requires-clause-comes
step_hand-requires-clause-comes g c κs within =
    comes_next (fixed_in g.A.Action.meaning c.args.self.now) c.args.hand.now _ (store_is (fixed_in g.A.Action.meaning c.args.self.now) c.args.hand.now c.requires.own.plain (Link c.args.node) c.requires.next)

pub step_hand-requires-clause-index : goal.step_hand-requires-clause-index
step_hand-requires-clause-index g c κs within =
    c.from.ensures ∙ c.list_word.ensures
    ∙ index_next (fixed_in g.A.Action.meaning c.args.self.now) c.args.hand.now _ (store_is (fixed_in g.A.Action.meaning c.args.self.now) c.args.hand.now c.requires.own.plain (Link c.args.node) c.requires.next) c.args.hand.now.view

pub step_hand-requires-clause-left : goal.step_hand-requires-clause-left
step_hand-requires-clause-left g c κs within found =
    store_left (fixed_in g.A.Action.meaning c.args.self.now) c.args.hand.now c.requires.own.plain (Link c.args.node) c.requires.next found ∙ ap (λ (n : ℕ). with_bit found n) (sym c.requires.slot)

pub step_hand-requires-clause-may : goal.step_hand-requires-clause-may
step_hand-requires-clause-may g c κs within =
    subst (λ (n : ℕ). n < 64) (sym c.requires.slot) (slot_small (fixed_in g.A.Action.meaning c.args.self.now) (length c.args.self.now.rooms) c.args.self.now.table c.args.hand.now _ _ _ c.requires.own.pass c.requires.next)

pub returns-clause-view : goal.returns-clause-view
returns-clause-view g c =
    store_after (fixed_in g.A.Action.meaning c.args.self.now) c.args.hand.now c.requires.own.plain (Link c.args.node) c.requires.next c.step_hand.new.hand c.step_hand.result c.step_hand.ensures.pass
