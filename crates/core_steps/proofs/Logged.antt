-- The logs and the numbers of seats where one log has an item more.
use Rattle.std.proofs.Common.{◌≡◌, ℕ, ◌<◌, Bool, true, false, List, [], ◌∷◌, ◌++◌, refl, sym, ap, ◌∙◌, subst}
use Rattle.std.specs.Prelude.{◌==◌, ◌||◌}
use Rattle.std.specs.List.Sorted.{IsPermutation}
use Rattle.std.proofs.lemmas.Bool.{true≢false, cond-true}
use Rattle.std.proofs.lemmas.List.Sorted.{IsPermutation-trans, IsPermutation-append_left}
use Rattle.entity_recs.specs.Histories.{Item}
use Rattle.core_steps.specs.Cells.{put}
use Rattle.core_steps.specs.Reads.{Ended, View, spent}
use Rattle.core_steps.specs.Stands.{IsNumbered, is_ended, ended_log, log_of, items_below, items_of}
use Rattle.core_steps.proofs.Puts.{each_put, put_same, put_other, kept_put}
use Rattle.core_steps.proofs.Appending.{items_with}

-- the items of all logs where one log has an item more
pub logs_with : (view : ℕ → View) (i : ℕ) (new : View) (item : Item) (history : List Item) → (view i).live ≡ true → IsNumbered view → new.live ≡ (view i).live → new.made ≡ (view i).made
    → new.ended ≡ (view i).ended → new.log ≡ (view i).log ++ item ∷ [] → IsPermutation history (items_of view) → IsPermutation (history ++ item ∷ []) (items_of (put i new view))
logs_with view i new item history lives numbers live made ended log is =
    let views = put i new view in
    let same_ended : (views 0).ended ≡ (view 0).ended = kept_put (λ (v : View). v.ended) i new view ended 0 in
    let same_live = kept_put (λ (v : View). v.live) i new view live in
    let here : log_of views i ≡ log_of view i ++ item ∷ [] =
    cond-true (views i).live (views i).log (ended_log (views 0).ended i) (same_live i ∙ lives)
    ∙ ap (λ (v : View). v.log) (put_same i new view) ∙ log
    ∙ ap (λ (items : List Item). items ++ item ∷ []) (sym (cond-true (view i).live (view i).log (ended_log (view 0).ended i) lives)) in
    let others : (k : ℕ) → (k == i) ≡ false → log_of views k ≡ log_of view k =
    λ k other. let same_log = ap (λ (v : View). v.log) (put_other i k new view other) in rw (same_live k, same_log, same_ended) refl in
    let grown : IsPermutation (items_of view ++ item ∷ []) (items_below (view 0).made (log_of views)) =
    items_with (view 0).made i (log_of view) (log_of views) item (numbers.live i lives) here others in
    let all : IsPermutation (items_of view ++ item ∷ []) (items_of views) =
    subst (λ (n : ℕ). IsPermutation (items_of view ++ item ∷ []) (items_below n (log_of views))) (sym (kept_put (λ (v : View). v.made) i new view made 0)) grown in
    IsPermutation-trans (history ++ item ∷ []) (items_of view ++ item ∷ []) (items_of views) (IsPermutation-append_left (item ∷ []) history (items_of view) is) all

-- numbers don't speak of logs
pub numbered_with : (view : ℕ → View) (i : ℕ) (new : View) → (view i).live ≡ true → new.live ≡ (view i).live → new.made ≡ (view i).made → new.ended ≡ (view i).ended → IsNumbered view → IsNumbered (put i new view)
numbered_with view i new lives live made ended is =
    let same_live = kept_put (λ (v : View). v.live) i new view live in
    let same_made = kept_put (λ (v : View). v.made) i new view made 0 in
    let same_ended = kept_put (λ (v : View). v.ended) i new view ended 0 in
    record {
      first = same_live 0 ∙ is.first;
      live = λ n living. subst (λ (m : ℕ). n < m) (sym same_made) (is.live n (sym (same_live n) ∙ living));
      ended = λ n ends. subst (λ (m : ℕ). n < m) (sym same_made) (is.ended n (ap (λ (es : List Ended). is_ended es n) (sym same_ended) ∙ ends));
      differ = λ n living. ap (λ (es : List Ended). is_ended es n) same_ended ∙ is.differ n (sym (same_live n) ∙ living);
      once = rw same_ended is.once;
      all = λ n below. ap (λ (b : Bool). b || is_ended (put i new view 0).ended n) (same_live n)
          ∙ ap (λ (es : List Ended). (view n).live || is_ended es n) same_ended ∙ is.all n (subst (λ (m : ℕ). n < m) same_made below);
      others = each_put (λ (n : ℕ) (v : View). v.live ≡ false → v ≡ spent) i new view (λ dead. absurd (true≢false (sym lives ∙ sym live ∙ dead))) (λ n _. is.others n);
    }
