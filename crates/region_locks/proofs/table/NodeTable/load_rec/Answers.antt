use Rattle.std.proofs.Common.{◌≡◌, ◌+◌, ◌<◌, ◌++◌, ◌∷◌, ℕ, List, [], length, sym, ap, ◌∙◌, subst, arith}
use Rattle.core_steps.specs.Cells.{cell_of, cell_index}
use Rattle.core_steps.specs.Reads.{record_read}
use Rattle.core_steps.proofs.Owned.{longer}
use Rattle.ruled_words.specs.Passes.{fixed_in}
use Rattle.ruled_words.specs.Loads.{IsLoading}
use Rattle.ruled_words.proofs.Loads.{load_next, loading_none, loading_more, has_loaded}
use Rattle.region_locks.proofs.table.NodeTable.load_rec.Goals as goal

pub step_word-requires-clause-index : goal.step_word-requires-clause-index
step_word-requires-clause-index g c κs within =
    let is = c.loop-k.invariant in
    let below : length c.loop-k.words.items < 6 = omega (arith, is.1, c.loop-k-test.true) in
    c.index_of_word.ensures ∙ ap (λ (k : ℕ). cell_index (cell_of c.args.slot k)) (sym is.1) ∙ sym (load_next (fixed_in g.A.Action.meaning c.args.self.now) c.loop-k.pass _ (is.0.next below)).index

pub step_word-requires-clause-left : goal.step_word-requires-clause-left
step_word-requires-clause-left g c κs within =
    let is = c.loop-k.invariant in
    let below : length c.loop-k.words.items < 6 = omega (arith, is.1, c.loop-k-test.true) in
    (load_next (fixed_in g.A.Action.meaning c.args.self.now) c.loop-k.pass _ (is.0.next below)).left

pub loop-k-init : goal.loop-k-init
loop-k-init g c = (
  subst (IsLoading (fixed_in g.A.Action.meaning c.args.self.now) (length c.args.self.now.rooms) c.args.self.now.table c.args.pass.now c.args.pass.now c.args.slot) (sym c.new-words.ensures)
      (loading_none (fixed_in g.A.Action.meaning c.args.self.now) (length c.args.self.now.rooms) c.args.self.now.table c.args.pass.now c.args.slot c.requires.own c.requires.next),
  ap (λ (xs : List ℕ). length xs) c.new-words.ensures,
)

pub loop-k-preserved : goal.loop-k-preserved
loop-k-preserved g c =
    let is = c.loop-k.invariant in
    let words = c.loop-k.words.items in
    let below : length words < 6 = omega (arith, is.1, c.loop-k-test.true) in
    let more : IsLoading (fixed_in g.A.Action.meaning c.args.self.now) (length c.args.self.now.rooms) c.args.self.now.table c.args.pass.now c.step_word.new.pass c.args.slot (words ++ c.step_word.result ∷ []) =
    loading_more _ _ _ _ c.loop-k.pass c.step_word.new.pass c.args.slot words c.step_word.result is.0 below c.step_word.ensures.pass c.step_word.ensures.own c.step_word.ensures.taken in (
      subst (IsLoading (fixed_in g.A.Action.meaning c.args.self.now) (length c.args.self.now.rooms) c.args.self.now.table c.args.pass.now c.step_word.new.pass c.args.slot) (sym c.push.ensures.items) more,
      ap (λ (xs : List ℕ). length xs) c.push.ensures.items ∙ longer words c.step_word.result ∙ ap (λ (n : ℕ). n + 1) is.1,
    )

pub returns-clause-loaded : goal.returns-clause-loaded
returns-clause-loaded g c =
    let is = c.loop-k.invariant in
    let six : length c.loop-k.words.items ≡ 6 = omega (arith, is.1, c.loop-k-test.false, c.loop-k.auto.k-end) in
    has_loaded (fixed_in g.A.Action.meaning c.args.self.now) (length c.args.self.now.rooms) c.args.self.now.table c.args.pass.now c.loop-k.pass c.args.slot c.loop-k.words.items c.read_record.result is.0 six
    (c.read_record.ensures ∙ ap (λ (xs : List ℕ). record_read c.args.slot xs) c.as_slice.ensures.value)
