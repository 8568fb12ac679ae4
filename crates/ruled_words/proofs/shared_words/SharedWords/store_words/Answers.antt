use Rattle.std.proofs.Common.{ℕ, ◌∷◌, ◌∙◌, length, slice_index_or, ap, sym, arith}
use Rattle.core_steps.specs.Cells.{Body}
use Rattle.core_steps.specs.Points.{Put}
use Rattle.core_steps.specs.Steps.{storing}
use Rattle.ruled_words.specs.Passes.{fixed_in}
use Rattle.ruled_words.specs.Writing.{nodes_held, owed_beyond}
use Rattle.ruled_words.proofs.StoresMade.{stored_none, word_next, word_made, words_made}
use Rattle.ruled_words.proofs.shared_words.SharedWords.store_words.Goals as goal

pub loop-k-init : goal.loop-k-init
loop-k-init g c = stored_none _ _ _ _ _ c.requires.own c.requires.next

pub store_body-requires-clause-own : goal.store_body-requires-clause-own
store_body-requires-clause-own g c κs within = c.loop-k.invariant.own

pub store_body-requires-clause-next : goal.store_body-requires-clause-next
store_body-requires-clause-next g c κs within =
    word_next (fixed_in g.A.Action.meaning c.args.self.now) (length c.args.self.now.rooms) c.args.self.now.table c.args.hand.now (owed_beyond 5 c.args.hand.now.view.point) c.loop-k.hand c.args.slot c.loop-k.k c.args.words.now c.loop-k.invariant (omega (arith, c.told-words, c.loop-k-test.true))
    ∙ ap (λ (n : ℕ). storing (nodes_held c.loop-k.hand.view.point) (Put (Body c.args.slot c.loop-k.k) (slice_index_or c.args.words.now n 0) ∷ owed_beyond 1 c.loop-k.hand.view.point)) (sym c.from.ensures)

pub loop-k-preserved : goal.loop-k-preserved
loop-k-preserved g c =
    word_made (fixed_in g.A.Action.meaning c.args.self.now) (length c.args.self.now.rooms) c.args.self.now.table c.args.hand.now (owed_beyond 5 c.args.hand.now.view.point) c.loop-k.hand c.args.slot c.loop-k.k c.args.words.now c.loop-k.invariant (omega (arith, c.told-words, c.loop-k-test.true)) c.store_body.new.hand c.store_body.ensures.own c.store_body.ensures.view

pub returns-clause-own : goal.returns-clause-own
returns-clause-own g c = c.loop-k.invariant.own

pub returns-clause-view : goal.returns-clause-view
returns-clause-view g c =
    words_made (fixed_in g.A.Action.meaning c.args.self.now) (length c.args.self.now.rooms) c.args.self.now.table c.args.hand.now (owed_beyond 5 c.args.hand.now.view.point) c.loop-k.hand c.args.slot c.loop-k.k c.args.words.now c.loop-k.invariant (omega (arith, c.told-words, c.loop-k-test.false))
