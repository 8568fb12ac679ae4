-- What a step of the core changes: one seat's view, and one word.
use Rattle.std.proofs.Common.{◌≡◌, ℕ, refl, inl, inr}
use Rattle.std.specs.Prelude.{◌==◌}
use Rattle.std.proofs.lemmas.Bool.{cases_Bool}
use Rattle.core_steps.specs.Cells.{Words}
use Rattle.core_steps.specs.Nodes.{Fixed}
use Rattle.core_steps.specs.Points.{Store, Clear, Put, Link}
use Rattle.core_steps.specs.Steps.{Core, words_after_store}
use Rattle.core_steps.specs.Machine.{Next, Begin, LoadOwn, LoadAgain, TakeNode, ClaimNode, ReadList, ReadPlayer, ReadState, CommitMove, StoreWord, GiveNode, YieldNode, YieldCount, core_after, word_of_next, word_of_store}
use Rattle.core_steps.proofs.Puts.{put_same}
use Rattle.core_steps.proofs.Stores.{word_same}
use Rattle.core_seats.specs.Going.{view_found, word_stored, word_left}

-- the seat's own view after its step
pub view_here : (F : Fixed) (core : Core) (i : ℕ) (next : Next)
    → (core_after F core i next).view i ≡ view_found F (core.view i) next (word_of_next core.words (core.view i) next)
view_here F core i (Begin c) = put_same i _ core.view
view_here F core i LoadOwn = put_same i _ core.view
view_here F core i LoadAgain = put_same i _ core.view
view_here F core i (TakeNode node) =
    elim (cases_Bool (core.words.node node == 0)) [ inl e ↦ rw e (put_same i _ core.view) | inr e ↦ rw e (put_same i _ core.view) ]
view_here F core i (ClaimNode e node) =
    elim (cases_Bool (core.words.node node == 0)) [ inl e ↦ rw e (put_same i _ core.view) | inr e ↦ rw e (put_same i _ core.view) ]
view_here F core i (ReadList node plan) = put_same i _ core.view
view_here F core i (ReadPlayer node part slot players plan) = put_same i _ core.view
view_here F core i (ReadState id ids) = put_same i _ core.view
view_here F core i (CommitMove e nodes) = put_same i _ core.view
view_here F core i (StoreWord nodes store stores) = put_same i _ core.view
view_here F core i (GiveNode node) = put_same i _ core.view
view_here F core i (YieldNode node) = put_same i _ core.view
view_here F core i YieldCount = put_same i _ core.view

store_put : (words : Words) (slot : ℕ) (store : Store) → word_of_store (words_after_store slot store words) store ≡ word_stored slot store (word_of_store words store)
store_put words slot (Clear node) = put_same node _ words.links
store_put words slot (Put cell x) = word_same words cell x
store_put words slot (Link node) = put_same node _ words.links

-- the word after the step
pub word_here : (F : Fixed) (core : Core) (i : ℕ) (next : Next)
    → word_of_next (core_after F core i next).words (core.view i) next ≡ word_left F i (core.view i) next (word_of_next core.words (core.view i) next)
word_here F core i (Begin c) = refl
word_here F core i LoadOwn = refl
word_here F core i LoadAgain = refl
word_here F core i (TakeNode node) =
    elim (cases_Bool (core.words.node node == 0)) [ inl e ↦ rw e (put_same node _ core.words.node) | inr e ↦ rw e refl ]
word_here F core i (ClaimNode e node) =
    elim (cases_Bool (core.words.node node == 0)) [ inl e ↦ rw e (put_same node _ core.words.node) | inr e ↦ rw e refl ]
word_here F core i (ReadList node plan) = refl
word_here F core i (ReadPlayer node part slot players plan) = refl
word_here F core i (ReadState id ids) = refl
word_here F core i (CommitMove e nodes) = refl
word_here F core i (StoreWord nodes store stores) = store_put core.words (core.view i).cmd.slot store
word_here F core i (GiveNode node) = put_same node _ core.words.node
word_here F core i (YieldNode node) = put_same node _ core.words.node
word_here F core i YieldCount = refl
