-- A step follows its seat's view and its own word alone.
use Rattle.std.proofs.Common.{◌≡◌, ℕ, suc, true, false, [], ◌∷◌, ◌++◌, length, refl, sym, ap, ◌∙◌, inl, inr}
use Rattle.std.specs.Prelude.{◌==◌, if◌then◌else◌}
use Rattle.std.proofs.lemmas.Bool.{cases_Bool, cond-true, cond-false}
use Rattle.core_steps.specs.Cells.{Words, Cell, Body, State, put, word_in, with_word, cell_of, with_bit, without_bit}
use Rattle.core_steps.specs.Nodes.{Fixed}
use Rattle.core_steps.specs.Points.{Store, Clear, Put, Link, AtClaiming, stage_of}
use Rattle.core_steps.specs.Reads.{View, without_command}
use Rattle.core_steps.specs.Held.{held_word, leaves_held, inner_held}
use Rattle.core_steps.specs.Steps.{Core, words_after_store, point_after_take, view_after_take, take_node, view_after_claim, claim_node, view_after_refusal, refuse_node, view_after_give}
use Rattle.core_steps.specs.Steps.{yielded, view_after_list, view_after_begin, view_after_own, view_after_again, player_loaded, view_after_state, view_after_commit, storing}
use Rattle.core_steps.specs.Machine.{Next, Begin, LoadOwn, LoadAgain, TakeNode, ClaimNode, ReadList, ReadPlayer, ReadState, CommitMove, StoreWord, GiveNode, YieldNode, YieldCount, core_after, word_of_store, word_of_next}
use Rattle.core_steps.specs.MachineLaws.{FollowsItsWord, StepsFollowTheirWord}
use Rattle.core_steps.proofs.Puts.{put_same}

-- a view that a word and the old view give is the same where these are
same_view : (i : ℕ) (change : ℕ → View → View) (word word' : ℕ) (view view' : View) (views views' : ℕ → View) → word' ≡ word → view' ≡ view
    → put i (change word' view') views' i ≡ put i (change word view) views i
same_view i change word word' view view' views views' words_are views_are =
    put_same i (change word' view') views' ∙ ap (λ (w : ℕ). change w view') words_are ∙ ap (change word) views_are ∙ sym (put_same i (change word view) views)

-- a word that is put is the same where it is the same number
same_word : (n word word' : ℕ) (words words' : ℕ → ℕ) → word' ≡ word → put n word' words' n ≡ put n word words n
same_word n word word' words words' same = put_same n word' words' ∙ same ∙ sym (put_same n word words)

-- what two cores have in common with those after a step
follows_as : (F : Fixed) (core other one two : Core) (i : ℕ) (next : Next) → core_after F core i next ≡ one → core_after F other i next ≡ two → two.view i ≡ one.view i
    → word_of_next two.words (core.view i) next ≡ word_of_next one.words (core.view i) next → FollowsItsWord F core other i next
follows_as F core other one two i next one_is two_is view word = record {
  view = ap (λ (c : Core). c.view i) two_is ∙ view ∙ sym (ap (λ (c : Core). c.view i) one_is);
  word = ap (λ (c : Core). word_of_next c.words (core.view i) next) two_is ∙ word ∙ sym (ap (λ (c : Core). word_of_next c.words (core.view i) next) one_is);
}

-- the word in a cell that was stored
stored_in : (cell : Cell) (x : ℕ) (words : Words) → word_in (with_word words cell x) cell ≡ x
stored_in (Body slot k) x words = ap (λ (f : ℕ → ℕ). f k) (put_same slot (put k x (words.body slot)) words.body) ∙ put_same k x (words.body slot)
stored_in (State id) x words = put_same id x words.state

-- the word of a store after it
stored_word : (slot slot' : ℕ) (store : Store) (words words' : Words) → slot' ≡ slot → word_of_store words' store ≡ word_of_store words store
    → word_of_store (words_after_store slot' store words') store ≡ word_of_store (words_after_store slot store words) store
stored_word slot slot' (Clear node) words words' slots same =
    same_word node (without_bit (words.links node) slot) (without_bit (words'.links node) slot') words.links words'.links
    (ap (λ (w : ℕ). without_bit w slot') same ∙ ap (without_bit (words.links node)) slots)
stored_word slot slot' (Put cell x) words words' slots same = stored_in cell x words' ∙ sym (stored_in cell x words)
stored_word slot slot' (Link node) words words' slots same =
    same_word node (with_bit (words.links node) slot) (with_bit (words'.links node) slot') words.links words'.links
    (ap (λ (w : ℕ). with_bit w slot') same ∙ ap (with_bit (words.links node)) slots)

-- a take, of the word that the node then has and the view after it
follows_take : (F : Fixed) (core other taken other_taken : Core) (i node : ℕ) (next : Next) (held : View → ℕ) (change : View → View) → other.view i ≡ core.view i
    → other.words.node node ≡ core.words.node node
    → core_after F core i next ≡ (if core.words.node node == 0 then taken else refuse_node core i node)
    → core_after F other i next ≡ (if other.words.node node == 0 then other_taken else refuse_node other i node)
    → ((words : Words) → word_of_next words (core.view i) next ≡ words.node node)
    → taken.view ≡ put i (change (core.view i)) core.view → other_taken.view ≡ put i (change (other.view i)) other.view
    → taken.words.node ≡ put node (held (core.view i)) core.words.node → other_taken.words.node ≡ put node (held (other.view i)) other.words.node
    → FollowsItsWord F core other i next
follows_take F core other taken other_taken i node next held change views words after other_after own view other_view word other_word =
    elim (cases_Bool (core.words.node node == 0)) [
      | inl free ↦
          let other_free : (other.words.node node == 0) ≡ true = ap (λ (w : ℕ). w == 0) words ∙ free in
          follows_as F core other taken other_taken i next (after ∙ cond-true (core.words.node node == 0) taken (refuse_node core i node) free)
          (other_after ∙ cond-true (other.words.node node == 0) other_taken (refuse_node other i node) other_free)
          (ap (λ (f : ℕ → View). f i) other_view ∙ same_view i (λ _ v. change v) 0 0 (core.view i) (other.view i) core.view other.view refl views ∙ sym (ap (λ (f : ℕ → View). f i) view))
          (own other_taken.words ∙ ap (λ (f : ℕ → ℕ). f node) other_word
          ∙ same_word node (held (core.view i)) (held (other.view i)) core.words.node other.words.node (ap held views)
          ∙ sym (own taken.words ∙ ap (λ (f : ℕ → ℕ). f node) word))
      | inr busy ↦
          let other_busy : (other.words.node node == 0) ≡ false = ap (λ (w : ℕ). w == 0) words ∙ busy in
          follows_as F core other (refuse_node core i node) (refuse_node other i node) i next
          (after ∙ cond-false (core.words.node node == 0) taken (refuse_node core i node) busy)
          (other_after ∙ cond-false (other.words.node node == 0) other_taken (refuse_node other i node) other_busy)
          (same_view i (view_after_refusal node) (core.words.node node) (other.words.node node) (core.view i) (other.view i) core.view other.view words views)
          (own other.words ∙ words ∙ sym (own core.words))
    ]

pub steps_follow_their_word : StepsFollowTheirWord
steps_follow_their_word F core other i next views = by_kind next
  where
    old : View
    old = core.view i

    new : View
    new = other.view i

    by_kind : (next : Next) → word_of_next other.words (core.view i) next ≡ word_of_next core.words (core.view i) next → FollowsItsWord F core other i next
    by_kind (Begin c) same = record {
      view = same_view i (view_after_begin c) (word_in core.words (cell_of c.slot 0)) (word_in other.words (cell_of c.slot 0)) old new core.view other.view same views;
      word = same;
    }
    by_kind LoadOwn same = record {
      view = same_view i (view_after_own F) (word_in core.words (cell_of old.cmd.slot (length old.own))) (word_in other.words (cell_of new.cmd.slot (length new.own))) old new core.view other.view
          (ap (λ (v : View). word_in other.words (cell_of v.cmd.slot (length v.own))) views ∙ same) views;
      word = same;
    }
    by_kind LoadAgain same = record {
      view = same_view i (view_after_again F) (word_in core.words (cell_of old.cmd.slot (length old.again))) (word_in other.words (cell_of new.cmd.slot (length new.again))) old new core.view other.view
          (ap (λ (v : View). word_in other.words (cell_of v.cmd.slot (length v.again))) views ∙ same) views;
      word = same;
    }
    by_kind (TakeNode node) same = follows_take F core other (take_node F core i node) (take_node F other i node) i node (TakeNode node)
        (λ v. held_word F i (stage_of (point_after_take node v.point)) v.wanted node) (view_after_take node) views same refl refl (λ _. refl) refl refl refl refl
    by_kind (ClaimNode e node) same = follows_take F core other (claim_node F core i e node) (claim_node F other i e node) i node (ClaimNode e node)
        (λ v. held_word F i AtClaiming v.wanted node) (view_after_claim F e node) views same refl refl (λ _. refl) refl refl refl refl
    by_kind (ReadList node plan) same = record {
      view = same_view i (view_after_list F node plan) (core.words.links node) (other.words.links node) old new core.view other.view same views;
      word = same;
    }
    by_kind (ReadPlayer node part slot players plan) same = record {
      view = same_view i (λ w. player_loaded F node (part ++ w ∷ []) slot players plan) (word_in core.words (cell_of slot (length part))) (word_in other.words (cell_of slot (length part))) old new
          core.view other.view same views;
      word = same;
    }
    by_kind (ReadState id ids) same = record {
      view = same_view i (λ w. view_after_state id w ids) (core.words.state id) (other.words.state id) old new core.view other.view same views;
      word = same;
    }
    by_kind (CommitMove e nodes) same = record {
      view = same_view i (λ w. view_after_commit F w e nodes) core.words.commits other.words.commits old new core.view other.view same views;
      word = ap (λ (n : ℕ). suc n) same;
    }
    by_kind (StoreWord nodes store stores) same = record {
      view = same_view i (λ _ v. record v { point = storing nodes stores }) 0 0 old new core.view other.view refl views;
      word = stored_word old.cmd.slot new.cmd.slot store core.words other.words (ap (λ (v : View). v.cmd.slot) views) same;
    }
    by_kind (GiveNode node) same = record {
      view = same_view i (λ _ v. view_after_give F v v.point) 0 0 old new core.view other.view refl views;
      word = same_word node 0 0 core.words.node other.words.node refl;
    }
    by_kind (YieldNode node) same = record {
      view = same_view i (λ _ v. yielded v (inner_held F v.point) (leaves_held v.point v.wanted)) 0 0 old new core.view other.view refl views;
      word = same_word node 0 0 core.words.node other.words.node refl;
    }
    by_kind YieldCount same = record {
      view = same_view i (λ w v. record (without_command v) { seen = w }) core.words.commits other.words.commits old new core.view other.view same views;
      word = same;
    }
