-- A step changes no word but its own.
use Rattle.std.proofs.Common.{◌≡◌, ℕ, suc, ◌-◌, ◌/◌, ◌%◌, ◌≤◌, Bool, true, false, refl, sym, ap, ◌∙◌, subst, inl, inr, Some, None, arith}
use Rattle.std.specs.Prelude.{◌==◌, nat_lt, if◌then◌else◌}
use Rattle.std.proofs.lemmas.Bool.{cases_Bool, eqb-true, eqb-false, ne_eqb, ltb-false, cond-true, cond-false}
use Rattle.core_steps.specs.Cells.{Words, Cell, Body, State, put, with_word, with_bit, without_bit, count_index, node_index, links_index, body_index, state_index, cell_index, word_at}
use Rattle.core_steps.specs.Points.{Store, Clear, Put, Link, AtClaiming, stage_of}
use Rattle.core_steps.specs.Held.{held_word}
use Rattle.core_steps.specs.Steps.{Core, words_after_store, point_after_take, take_node, claim_node, refuse_node}
use Rattle.core_steps.specs.Machine.{Next, Begin, LoadOwn, LoadAgain, TakeNode, ClaimNode, ReadList, ReadPlayer, ReadState, CommitMove, StoreWord, GiveNode, YieldNode, YieldCount, index_of_store, index_of, core_after}
use Rattle.core_steps.specs.Calls.{node_taken}
use Rattle.core_steps.specs.MachineLaws.{StepsChangeOneWord, RefusedTakesChangeTheirRecord}
use Rattle.core_steps.proofs.Puts.{put_other}

-- two lists of words have the same word at an index, by the part of the table in which it lies
record IsSameAt (words other : Words) (index : ℕ) : Type 0 where
  count : index ≡ 0 → other.commits ≡ words.commits
  node : 1 ≤ index → other.node (index - 1) ≡ words.node (index - 1)
  links : links_index 0 ≤ index → other.links (index - links_index 0) ≡ words.links (index - links_index 0)
  body : body_index 0 ≤ index
      → other.body ((index - body_index 0) / 5) ((index - body_index 0) % 5) ≡ words.body ((index - body_index 0) / 5) ((index - body_index 0) % 5)
  state : state_index 0 ≤ index → other.state (index - state_index 0) ≡ words.state (index - state_index 0)

-- what is the same in each part is the same in the table
same_at : (words other : Words) (index : ℕ) → IsSameAt words other index → word_at other index ≡ word_at words index
same_at words other index is =
    elim (cases_Bool (index == 0)) [
      | inl zeroth ↦ rw zeroth (is.count (eqb-true index 0 zeroth))
      | inr later ↦ rw later (elim (cases_Bool (nat_lt index (links_index 0))) [
        | inl low ↦ rw low (is.node (above index (eqb-false index 0 later)))
        | inr more ↦ rw more (elim (cases_Bool (nat_lt index (body_index 0))) [
          | inl low ↦ rw low (is.links (ltb-false index (links_index 0) more))
          | inr most ↦ rw most (elim (cases_Bool (nat_lt index (state_index 0))) [
            | inl low ↦ rw low (is.body (ltb-false index (body_index 0) most))
            | inr last ↦ rw last (is.state (ltb-false index (state_index 0) last))
          ])
        ])
      ])
    ]
  where
    above : (n : ℕ) → (n ≡ 0 → ⊥) → 1 ≤ n
    above n other = omega (arith, other)

same_node : (words : Words) (node x index : ℕ) → (index == node_index node) ≡ false
    → word_at (record words { node = put node x words.node }) index ≡ word_at words index
same_node words node x index other = same_at words (record words { node = put node x words.node }) index (record {
  count = λ _. refl;
  node = λ least. put_other node (index - 1) x words.node (ne_eqb (index - 1) node (λ same. eqb-false index (node_index node) other (omega arith)));
  links = λ _. refl;
  body = λ _. refl;
  state = λ _. refl;
})

same_links : (words : Words) (node x index : ℕ) → (index == links_index node) ≡ false
    → word_at (record words { links = put node x words.links }) index ≡ word_at words index
same_links words node x index other = same_at words (record words { links = put node x words.links }) index (record {
  count = λ _. refl;
  node = λ _. refl;
  links = λ least. put_other node (index - links_index 0) x words.links
      (ne_eqb (index - links_index 0) node (λ same. eqb-false index (links_index node) other (omega arith)));
  body = λ _. refl;
  state = λ _. refl;
})

same_count : (words : Words) (x index : ℕ) → (index == count_index) ≡ false → word_at (record words { commits = x }) index ≡ word_at words index
same_count words x index other = same_at words (record words { commits = x }) index (record {
  count = λ zeroth. absurd (eqb-false index count_index other zeroth);
  node = λ _. refl;
  links = λ _. refl;
  body = λ _. refl;
  state = λ _. refl;
})

same_cell : (words : Words) (cell : Cell) (x index : ℕ) → (index == cell_index cell) ≡ false → word_at (with_word words cell x) index ≡ word_at words index
same_cell words (Body slot k) x index other = same_at words (with_word words (Body slot k) x) index (record {
  count = λ _. refl;
  node = λ _. refl;
  links = λ _. refl;
  body = λ least.
      let q = (index - body_index 0) / 5 in
      let r = (index - body_index 0) % 5 in
      elim (cases_Bool (q == slot)) [
        | inl same ↦
            let at = eqb-true q slot same in
            let away : (r == k) ≡ false = ne_eqb r k (λ equal. eqb-false index (cell_index (Body slot k)) other (omega arith)) in
            ap (λ (f : ℕ → ℕ). f r) (cond-true (q == slot) (put k x (words.body slot)) (words.body q) same) ∙ put_other k r x (words.body slot) away ∙ ap (λ (n : ℕ). words.body n r) (sym at)
        | inr away ↦ ap (λ (f : ℕ → ℕ). f r) (put_other slot q (put k x (words.body slot)) words.body away)
      ];
  state = λ _. refl;
})
same_cell words (State id) x index other = same_at words (with_word words (State id) x) index (record {
  count = λ _. refl;
  node = λ _. refl;
  links = λ _. refl;
  body = λ _. refl;
  state = λ least. put_other id (index - state_index 0) x words.state
      (ne_eqb (index - state_index 0) id (λ same. eqb-false index (cell_index (State id)) other (omega arith)));
})

same_stored : (words : Words) (slot : ℕ) (store : Store) (index : ℕ) → (index == index_of_store store) ≡ false
    → word_at (words_after_store slot store words) index ≡ word_at words index
same_stored words slot (Clear node) index other = same_links words node (without_bit (words.links node) slot) index other
same_stored words slot (Put cell x) index other = same_cell words cell x index other
same_stored words slot (Link node) index other = same_links words node (with_bit (words.links node) slot) index other

-- a core that is one of two has the word that both have
word_of_cores : (b : Bool) (one two : Core) (index word : ℕ) → word_at one.words index ≡ word → word_at two.words index ≡ word → word_at (if b then one else two).words index ≡ word
word_of_cores true one two index word a c = a
word_of_cores false one two index word a c = c

pub steps_change_one_word : StepsChangeOneWord
steps_change_one_word F core i index next = by_kind next
  where
    by_kind : (next : Next) → (index == index_of (core.view i) next) ≡ false → word_at (core_after F core i next).words index ≡ word_at core.words index
    by_kind (Begin c) other = refl
    by_kind LoadOwn other = refl
    by_kind LoadAgain other = refl
    by_kind (TakeNode node) other =
        word_of_cores (core.words.node node == 0) (take_node F core i node) (refuse_node core i node) index (word_at core.words index)
        (same_node core.words node (held_word F i (stage_of (point_after_take node (core.view i).point)) (core.view i).wanted node) index other) refl
    by_kind (ClaimNode e node) other =
        word_of_cores (core.words.node node == 0) (claim_node F core i e node) (refuse_node core i node) index (word_at core.words index)
        (same_node core.words node (held_word F i AtClaiming (core.view i).wanted node) index other) refl
    by_kind (ReadList node plan) other = refl
    by_kind (ReadPlayer node part slot players plan) other = refl
    by_kind (ReadState id ids) other = refl
    by_kind (CommitMove e nodes) other = same_count core.words (suc core.words.commits) index other
    by_kind (StoreWord nodes store stores) other = same_stored core.words (core.view i).cmd.slot store index other
    by_kind (GiveNode node) other = same_node core.words node 0 index other
    by_kind (YieldNode node) other = same_node core.words node 0 index other
    by_kind YieldCount other = refl

-- ---- a refused take

pub refused_takes_change_their_record : RefusedTakesChangeTheirRecord
refused_takes_change_their_record F m i node next taken held = by_kind next taken
  where
    same_node_taken : (a : ℕ) → Some a ≡ Some node → a ≡ node
    same_node_taken a e = cc

    no_node_taken : {R : Type 0} → None ≡ Some node → R
    no_node_taken e = cc

    by_kind : (next : Next) → node_taken next ≡ Some node → core_after F m.core i next ≡ refuse_node m.core i node
    by_kind (Begin c) e = no_node_taken e
    by_kind LoadOwn e = no_node_taken e
    by_kind LoadAgain e = no_node_taken e
    by_kind (TakeNode a) e = subst (λ (n : ℕ). core_after F m.core i (TakeNode n) ≡ refuse_node m.core i node) (sym (same_node_taken a e))
        (cond-false (m.core.words.node node == 0) (take_node F m.core i node) (refuse_node m.core i node) held)
    by_kind (ClaimNode f a) e = subst (λ (n : ℕ). core_after F m.core i (ClaimNode f n) ≡ refuse_node m.core i node) (sym (same_node_taken a e))
        (cond-false (m.core.words.node node == 0) (claim_node F m.core i f node) (refuse_node m.core i node) held)
    by_kind (ReadList n plan) e = no_node_taken e
    by_kind (ReadPlayer n part slot players plan) e = no_node_taken e
    by_kind (ReadState id ids) e = no_node_taken e
    by_kind (CommitMove f nodes) e = no_node_taken e
    by_kind (StoreWord nodes store stores) e = no_node_taken e
    by_kind (GiveNode n) e = no_node_taken e
    by_kind (YieldNode n) e = no_node_taken e
    by_kind YieldCount e = no_node_taken e
