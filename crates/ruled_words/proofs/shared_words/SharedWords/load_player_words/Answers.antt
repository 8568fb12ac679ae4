use Rattle.std.proofs.Common.{◌++◌, ◌∷◌, ℕ, [], length, take, refl, sym, ap, ◌∙◌, subst, arith}
use Rattle.std.proofs.lemmas.List.{length-set}
use Rattle.core_steps.specs.Cells.{cell_of, cell_index}
use Rattle.ruled_words.specs.Passes.{fixed_in, next_of_pass}
use Rattle.ruled_words.specs.Loads.{IsLoading, after_loads}
use Rattle.ruled_words.proofs.Loads.{load_next, loads_there, loading_none, loading_more}
use Rattle.ruled_words.proofs.LoadedWords.{part_size, part_more, part_whole}
use Rattle.ruled_words.proofs.shared_words.SharedWords.load_player_words.Goals as goal

pub step_hand-requires-clause-own : goal.step_hand-requires-clause-own
step_hand-requires-clause-own g c κs within = record { pass = c.loop-k.invariant.0.own; plain = c.loop-k.invariant.2 }

pub step_hand-requires-clause-comes : goal.step_hand-requires-clause-comes
step_hand-requires-clause-comes g c κs within =
    let is = c.loop-k.invariant in
    let part = part_size c.loop-k.words c.loop-k.k is.1 (omega (arith, c.loop-k-test.true)) in
    loads_there c.loop-k.hand.view (next_of_pass (fixed_in g.A.Action.meaning c.args.self.now) c.loop-k.hand) _ (is.0.next (omega (arith, part, c.loop-k-test.true)))

pub step_hand-requires-clause-index : goal.step_hand-requires-clause-index
step_hand-requires-clause-index g c κs within =
    let is = c.loop-k.invariant in
    let part = part_size c.loop-k.words c.loop-k.k is.1 (omega (arith, c.loop-k-test.true)) in
    c.index_of_word.ensures ∙ ap (λ (k : ℕ). cell_index (cell_of c.args.slot k)) (sym part)
    ∙ sym (load_next (fixed_in g.A.Action.meaning c.args.self.now) c.loop-k.hand _ (is.0.next (omega (arith, part, c.loop-k-test.true)))).index

pub step_hand-requires-clause-left : goal.step_hand-requires-clause-left
step_hand-requires-clause-left g c κs within =
    let is = c.loop-k.invariant in
    let part = part_size c.loop-k.words c.loop-k.k is.1 (omega (arith, c.loop-k-test.true)) in
    (load_next (fixed_in g.A.Action.meaning c.args.self.now) c.loop-k.hand _ (is.0.next (omega (arith, part, c.loop-k-test.true)))).left

pub loop-k-init : goal.loop-k-init
loop-k-init g c = (
  loading_none (fixed_in g.A.Action.meaning c.args.self.now) (length c.args.self.now.rooms) c.args.self.now.table c.args.hand.now c.args.slot c.requires.own.pass c.requires.next,
  refl,
  c.requires.own.plain,
)

pub loop-k-preserved : goal.loop-k-preserved
loop-k-preserved g c =
    let is = c.loop-k.invariant in
    let words = c.loop-k.words in
    let k = c.loop-k.k in
    let part = part_size words k is.1 (omega (arith, c.loop-k-test.true)) in
    let more : IsLoading (fixed_in g.A.Action.meaning c.args.self.now) (length c.args.self.now.rooms) c.args.self.now.table c.args.hand.now c.step_hand.new.hand c.args.slot (take k words ++ c.step_hand.result ∷ []) =
    loading_more _ _ _ _ c.loop-k.hand c.step_hand.new.hand c.args.slot (take k words) c.step_hand.result is.0 (omega (arith, part, c.loop-k-test.true)) c.step_hand.ensures.pass c.step_hand.ensures.own.pass c.step_hand.ensures.taken in (
      subst (IsLoading (fixed_in g.A.Action.meaning c.args.self.now) (length c.args.self.now.rooms) c.args.self.now.table c.args.hand.now c.step_hand.new.hand c.args.slot) (sym (part_more words k c.step_hand.result is.1 (omega (arith, c.loop-k-test.true)))) more,
      length-set words k c.step_hand.result ∙ is.1,
      c.step_hand.ensures.own.plain,
    )

pub returns-clause-own : goal.returns-clause-own
returns-clause-own g c = record { pass = c.loop-k.invariant.0.own; plain = c.loop-k.invariant.2 }

pub returns-clause-pass : goal.returns-clause-pass
returns-clause-pass g c =
    let is = c.loop-k.invariant in
    is.0.pass ∙ ap (after_loads (fixed_in g.A.Action.meaning c.args.self.now) c.args.hand.now) (part_whole c.loop-k.words c.loop-k.k is.1 (omega (arith, c.loop-k-test.false, c.loop-k.auto.k-end)))
