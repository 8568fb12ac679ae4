-- The words after a step are the words with another word at the step's index.
use mathlib.Core.Path.{fun_ext}
use Rattle.std.proofs.Common.{◌≡◌, ℕ, ◌+◌, ◌-◌, ◌/◌, ◌%◌, ◌<◌, Bool, true, false, if◌then◌else◌, refl, sym, ap, ◌∙◌, inl, inr, arith}
use Rattle.std.specs.Prelude.{◌==◌}
use Rattle.std.proofs.lemmas.Bool.{cases_Bool, cond-true, cond-false, lt-ltb, le-ltb, eqb-true}
use Rattle.core_steps.specs.declared.sizes.TheConstants.{TABLE_NODES}
use Rattle.core_steps.specs.Cells.{Words, Cell, Body, State, put, word_in, with_word, cell_index, cell_of, node_index, links_index, body_index, state_index}
use Rattle.core_steps.specs.Nodes.{Fixed}
use Rattle.core_steps.specs.Points.{Store, Clear, Put, Link}
use Rattle.core_steps.specs.Steps.{Core, words_after_store}
use Rattle.core_steps.specs.Machine.{Next, Begin, LoadOwn, LoadAgain, TakeNode, ClaimNode, ReadList, ReadPlayer, ReadState, CommitMove, StoreWord, GiveNode, YieldNode, YieldCount, core_after, index_of, index_of_store, word_of_next, word_of_store}
use Rattle.core_steps.proofs.TableWords.{CellIsIn, StoreIsIn, NextIsIn}
use Rattle.core_steps.proofs.Layouts.{not_first}
use Rattle.core_machine.specs.Tables.{with_word_at}
use Rattle.core_seats.specs.Going.{word_left, word_stored}

-- ---- a word put at its index

at_node : (words : Words) (node x : ℕ) → node < TABLE_NODES → with_word_at words (node_index node) x ≡ record words { node = put node x words.node }
at_node words node x below =
    cond-false _ _ _ (not_first (node_index node) (omega arith))
    ∙ cond-true _ _ _ (lt-ltb (node_index node) (links_index 0) (omega arith))
    ∙ ap (λ (n : ℕ). record words { node = put n x words.node }) (omega arith)

at_links : (words : Words) (node x : ℕ) → node < TABLE_NODES → with_word_at words (links_index node) x ≡ record words { links = put node x words.links }
at_links words node x below =
    cond-false _ _ _ (not_first (links_index node) (omega arith))
    ∙ cond-false _ _ _ (le-ltb (links_index node) (links_index 0) (omega arith))
    ∙ cond-true _ _ _ (lt-ltb (links_index node) (body_index 0) (omega arith))
    ∙ ap (λ (n : ℕ). record words { links = put n x words.links }) (omega arith)

at_body : (words : Words) (slot k x : ℕ) → slot < 64 → k < 5 → with_word_at words (body_index slot + k) x ≡ with_word words (Body slot k) x
at_body words slot k x below five =
    let index = body_index slot + k in
    let first : (index - body_index 0) / 5 ≡ slot = omega arith in
    let second : (index - body_index 0) % 5 ≡ k = omega arith in
    cond-false _ _ _ (not_first index (omega arith))
    ∙ cond-false _ _ _ (le-ltb index (links_index 0) (omega arith))
    ∙ cond-false _ _ _ (le-ltb index (body_index 0) (omega arith))
    ∙ cond-true _ _ _ (lt-ltb index (state_index 0) (omega arith))
    ∙ rw (first, second) refl

at_state : (words : Words) (id x : ℕ) → with_word_at words (state_index id) x ≡ with_word words (State id) x
at_state words id x =
    let index = state_index id in
    cond-false _ _ _ (not_first index (omega arith))
    ∙ cond-false _ _ _ (le-ltb index (links_index 0) (omega arith))
    ∙ cond-false _ _ _ (le-ltb index (body_index 0) (omega arith))
    ∙ cond-false _ _ _ (le-ltb index (state_index 0) (omega arith))
    ∙ ap (λ (n : ℕ). with_word words (State n) x) (omega arith)

at_cell : (words : Words) (cell : Cell) (x : ℕ) → CellIsIn cell → with_word_at words (cell_index cell) x ≡ with_word words cell x
at_cell words (Body slot k) x is = at_body words slot k x is.slot_below is.word_below
at_cell words (State id) x is = at_state words id x

-- ---- the word that is there, put there

put_self : {A : Type 0} (i : ℕ) (f : ℕ → A) → put i (f i) f ≡ f
put_self i f = fun_ext (λ j. elim (cases_Bool (j == i)) [
  | inl same ↦ cond-true (j == i) (f i) (f j) same ∙ ap f (sym (eqb-true j i same))
  | inr other ↦ cond-false (j == i) (f i) (f j) other
])

same_cell : (words : Words) (cell : Cell) → with_word words cell (word_in words cell) ≡ words
same_cell words (Body slot k) =
    ap (λ (row : ℕ → ℕ). record words { body = put slot row words.body }) (put_self k (words.body slot))
    ∙ ap (λ (body : ℕ → ℕ → ℕ). record words { body = body }) (put_self slot words.body)
same_cell words (State id) = ap (λ (state : ℕ → ℕ). record words { state = state }) (put_self id words.state)

cell_kept : (words : Words) (cell : Cell) → CellIsIn cell → words ≡ with_word_at words (cell_index cell) (word_in words cell)
cell_kept words cell is = sym (at_cell words cell (word_in words cell) is ∙ same_cell words cell)

links_kept : (words : Words) (node : ℕ) → node < TABLE_NODES → words ≡ with_word_at words (links_index node) (words.links node)
links_kept words node below = sym (at_links words node (words.links node) below ∙ ap (λ (links : ℕ → ℕ). record words { links = links }) (put_self node words.links))

node_kept : (words : Words) (node : ℕ) → node < TABLE_NODES → words ≡ with_word_at words (node_index node) (words.node node)
node_kept words node below = sym (at_node words node (words.node node) below ∙ ap (λ (nodes : ℕ → ℕ). record words { node = nodes }) (put_self node words.node))

-- ---- a step

store_made : (words : Words) (slot : ℕ) (store : Store) → StoreIsIn store
    → words_after_store slot store words ≡ with_word_at words (index_of_store store) (word_stored slot store (word_of_store words store))
store_made words slot (Clear node) is = sym (at_links words node _ is)
store_made words slot (Put cell x) is = sym (at_cell words cell x is)
store_made words slot (Link node) is = sym (at_links words node _ is)

-- a take, where the node is free and where it isn't
taken_word : (b : Bool) (words : Words) (node x : ℕ) (one two : Core) → node < TABLE_NODES → one.words ≡ record words { node = put node x words.node } → two.words ≡ words
    → (if b then one else two).words ≡ with_word_at words (node_index node) (if b then x else words.node node)
taken_word true words node x one two below a c = a ∙ sym (at_node words node x below)
taken_word false words node x one two below a c = c ∙ node_kept words node below

-- the words after what a seat does next
pub words_after : (F : Fixed) (core : Core) (i : ℕ) (next : Next) → NextIsIn (core.view i) next
    → (core_after F core i next).words ≡ with_word_at core.words (index_of (core.view i) next) (word_left F i (core.view i) next (word_of_next core.words (core.view i) next))
words_after F core i (Begin c) is = cell_kept core.words (cell_of c.slot 0) is
words_after F core i LoadOwn is = cell_kept core.words _ is
words_after F core i LoadAgain is = cell_kept core.words _ is
words_after F core i (TakeNode node) is = taken_word (core.words.node node == 0) core.words node _ _ _ is refl refl
words_after F core i (ClaimNode e node) is = taken_word (core.words.node node == 0) core.words node _ _ _ is refl refl
words_after F core i (ReadList node plan) is = links_kept core.words node is
words_after F core i (ReadPlayer node part slot players plan) is = cell_kept core.words _ is
words_after F core i (ReadState id ids) is = cell_kept core.words (State id) is
words_after F core i (CommitMove e nodes) is = refl
words_after F core i (StoreWord nodes store stores) is = store_made core.words (core.view i).cmd.slot store is
words_after F core i (GiveNode node) is = sym (at_node core.words node 0 is)
words_after F core i (YieldNode node) is = sym (at_node core.words node 0 is)
words_after F core i YieldCount is = refl
