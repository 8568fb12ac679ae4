-- A take that was tried: none was refused, or this one was.
use Rattle.std.proofs.Common.{◌≡◌, ◌≢◌, ℕ, Bool, true, false, if◌then◌else◌, List, ◌∷◌, refl, sym, ap, ◌∙◌, Some}
use Rattle.std.specs.Prelude.{◌==◌}
use Rattle.std.proofs.lemmas.Bool.{false≢true, eqb-true, eq-eqb, ne_eqb}
use Rattle.std.proofs.lemmas.Option.{same_Some}
use Rattle.core_steps.specs.Nodes.{Fixed}
use Rattle.core_steps.specs.Points.{Point}
use Rattle.core_steps.specs.Reads.{View}
use Rattle.core_steps.specs.Held.{inner_held, leaves_held}
use Rattle.core_steps.specs.Steps.{is_taking, view_after_refusal}
use Rattle.core_steps.specs.Machine.{Next, Begin, LoadOwn, LoadAgain, TakeNode, ClaimNode, ReadList, ReadPlayer, ReadState, CommitMove, StoreWord, GiveNode, YieldNode, YieldCount}
use Rattle.core_steps.specs.Calls.{node_taken}
use Rattle.core_seats.specs.Going.{view_found}
use Rattle.ruled_words.specs.Sights.{HeldWord, Tally, tally_after}
use Rattle.ruled_words.specs.Passes.{PassView}
use Rattle.ruled_words.specs.Holders.{IsFoundNode}
use Rattle.ruled_words.specs.Straight.{in_view_with}
use Rattle.ruled_words.specs.GivingUp.{NoTakeWasRefused, WasRefused, tally_refused}
use Rattle.ruled_words.proofs.TriedTakes.{refused_is}

-- the word was 0 or not
pub found_free : (b : Bool) (found : ℕ) → b ≡ (found == 0) → b ≡ true → found ≡ 0
found_free b found is served = eqb-true found 0 (sym is ∙ served)

pub found_busy : (b : Bool) (found : ℕ) → b ≡ (found == 0) → b ≡ false → found ≢ 0
found_busy b found is refused = λ zero. absurd (false≢true (sym refused ∙ is ∙ eq-eqb found 0 zero))

-- what a take that is served leaves
record KeepsRefusals (view after : View) (tally counted : Tally) : Type 0 where
  refusals : after.refusals ≡ view.refusals
  refused : after.refused ≡ view.refused
  listed : counted.refused ≡ tally.refused

served_leaves : (F : Fixed) (view : View) (next : Next) (node left : ℕ) (tally : Tally) → node_taken next ≡ Some node → KeepsRefusals view (view_found F view next 0) tally (tally_after next 0 left tally)
served_leaves F view (Begin c) node left tally e = cc
served_leaves F view LoadOwn node left tally e = cc
served_leaves F view LoadAgain node left tally e = cc
served_leaves F view (TakeNode n) node left tally e = record { refusals = refl; refused = refl; listed = refl }
served_leaves F view (ClaimNode f n) node left tally e = record { refusals = refl; refused = refl; listed = refl }
served_leaves F view (ReadList n plan) node left tally e = cc
served_leaves F view (ReadPlayer n part slot players plan) node left tally e = cc
served_leaves F view (ReadState id ids) node left tally e = cc
served_leaves F view (CommitMove f nodes) node left tally e = cc
served_leaves F view (StoreWord nodes store stores) node left tally e = cc
served_leaves F view (GiveNode n) node left tally e = cc
served_leaves F view (YieldNode n) node left tally e = cc
served_leaves F view YieldCount node left tally e = cc

-- the tally after a take that is refused
refused_by : (b : Bool) (t : Tally) (served : List HeldWord) (h : HeldWord) → b ≡ false
    → record (if b then record t { served = served } else record t { refused = h ∷ t.refused }) { begun = t.begun } ≡ record t { refused = h ∷ t.refused }
refused_by true t served h e = absurd (false≢true (sym e))
refused_by false t served h e = refl

refused_tally : (next : Next) (node found left : ℕ) (tally : Tally) → node_taken next ≡ Some node → found ≢ 0 → tally_after next found left tally ≡ tally_refused node found tally
refused_tally (Begin c) node found left tally e busy = cc
refused_tally LoadOwn node found left tally e busy = cc
refused_tally LoadAgain node found left tally e busy = cc
refused_tally (TakeNode n) node found left tally e busy = refused_by (found == 0) tally _ _ (ne_eqb found 0 busy) ∙ ap (λ (k : ℕ). tally_refused k found tally) (same_Some n node e)
refused_tally (ClaimNode f n) node found left tally e busy = refused_by (found == 0) tally _ _ (ne_eqb found 0 busy) ∙ ap (λ (k : ℕ). tally_refused k found tally) (same_Some n node e)
refused_tally (ReadList n plan) node found left tally e busy = cc
refused_tally (ReadPlayer n part slot players plan) node found left tally e busy = cc
refused_tally (ReadState id ids) node found left tally e busy = cc
refused_tally (CommitMove f nodes) node found left tally e busy = cc
refused_tally (StoreWord nodes store stores) node found left tally e busy = cc
refused_tally (GiveNode n) node found left tally e busy = cc
refused_tally (YieldNode n) node found left tally e busy = cc
refused_tally YieldCount node found left tally e busy = cc

module _ (F : Fixed) (passes : ℕ) (p new : PassView) (next : Next) (node found left : ℕ) (taken : node_taken next ≡ Some node)
    (made : new ≡ in_view_with p (view_found F p.view next found) (tally_after next found left p.tally)) where
  -- it was served
  pub served_without_refusal : found ≡ 0 → NoTakeWasRefused p new
  served_without_refusal free =
      let is : new ≡ in_view_with p (view_found F p.view next 0) (tally_after next 0 left p.tally) = made ∙ ap (λ (n : ℕ). in_view_with p (view_found F p.view next n) (tally_after next n left p.tally)) free in
      let leaves = served_leaves F p.view next node left p.tally taken in record {
        refusals = ap (λ (q : PassView). q.view.refusals) is ∙ leaves.refusals;
        refused = ap (λ (q : PassView). q.view.refused) is ∙ leaves.refused;
        listed = ap (λ (q : PassView). q.tally.refused) is ∙ leaves.listed;
      }

  -- it was refused
  pub was_refused : found ≢ 0 → IsFoundNode F passes p.number p.view next found → WasRefused F passes node p new
  was_refused busy there = record {
    word = found;
    busy = busy;
    held = there.held node taken busy;
    reached = there.reached node taken;
    hand =
        made ∙ ap (λ (v : View). in_view_with p v (tally_after next found left p.tally)) (refused_is F p.view next node found taken busy)
        ∙ ap (in_view_with p (view_after_refusal node found p.view)) (refused_tally next node found left p.tally taken busy);
  }

-- ---- what a refused take leaves as it was

module _ (F : Fixed) (passes node : ℕ) (p new : PassView) (was : WasRefused F passes node p new) (q : Point) (at : p.view.point ≡ q) where
  refused_at : new.view.point ≡ q
  refused_at = ap (λ (r : PassView). r.view.point) was.hand ∙ at

  pub refused_taking : is_taking q ≡ true → is_taking new.view.point ≡ true
  refused_taking takes = ap is_taking refused_at ∙ takes

  pub refused_inner : (nodes : List ℕ) → nodes ≡ inner_held F q → nodes ≡ inner_held F new.view.point
  refused_inner nodes are = are ∙ sym (ap (inner_held F) refused_at)

  pub refused_leaves : (leaves : List ℕ) → leaves ≡ leaves_held q p.view.wanted → leaves ≡ leaves_held new.view.point new.view.wanted
  refused_leaves leaves are = are ∙ sym (λ i. leaves_held (refused_at i) (ap (λ (r : PassView). r.view.wanted) was.hand i))

-- no take was refused in a stage whose refused takes are those of an earlier hand
pub none_refused_still : (p one two : PassView) → NoTakeWasRefused p one → two.view.refusals ≡ one.view.refusals → two.view.refused ≡ one.view.refused → two.tally ≡ one.tally → NoTakeWasRefused p two
none_refused_still p one two none count last tally = record { refusals = count ∙ none.refusals; refused = last ∙ none.refused; listed = ap (λ (t : Tally). t.refused) tally ∙ none.listed }
