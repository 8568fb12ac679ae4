-- Records put in other states, one after another.
use Rattle.std.proofs.Common.{◌≡◌, ℕ, zero, suc, ◌+◌, ◌<◌, ◌==◌, true, false, List, [], ◌∷◌, length, drop, get_or, Option, Some, None, slice_set, refl, sym, ap, ◌∙◌, inl, inr, add-one, arith}
use Rattle.std.proofs.lemmas.Bool.{cases_Bool, ne_eqb, eq-eqb}
use Rattle.entity_recs.specs.declared.rec.Rec.{Rec}
use Rattle.entity_recs.specs.declared.effect.NewState.{NewState}
use Rattle.entity_recs.specs.Records.{with_state}
use Rattle.entity_recs.specs.Histories.{with_new_state}
use Rattle.world_tree.specs.Live.{record_at, AreEntries}
use Rattle.world_tree.specs.Worlds.{WorldView, with_record, without_id}
use Rattle.world_physics.proofs.Changes.{relinked}
use Rattle.plain_server.specs.Moving.{with_new_states}
use Rattle.plain_server.proofs.NewStates.{restated, same_id}

-- each record has the id of its place, the first of which is this one
abbrev Own : ℕ → List (Option Rec) → Type 0
Own n records = (i : ℕ) (x : Rec) → record_at records i ≡ Some x → x.id ≡ n + i

-- past its place nothing gets the state
untouched : (s : NewState) (n : ℕ) (records : List (Option Rec)) → Own n records → s.id < n → with_new_states (s ∷ []) records ≡ records
untouched s n [] own past = refl
untouched s n (None ∷ records) own past = ap (λ rs. None ∷ rs) (untouched s (n + 1) records (λ i x at. own (suc i) x at ∙ omega arith) (omega (arith, past)))
untouched s n (Some r ∷ records) own past =
    let here : r.id ≡ n + 0 = own zero r refl in
    let other : (s.id == r.id) ≡ false = ne_eqb s.id r.id (λ same. omega (arith, here, past, same)) in
    let rest = untouched s (n + 1) records (λ i x at. own (suc i) x at ∙ omega arith) (omega (arith, past)) in
    rw other (ap (λ rs. Some r ∷ rs) rest)

-- where the record is live it is the one at its place that gets the state
set-state : (s : NewState) (n k : ℕ) (records : List (Option Rec)) (r : Rec) → Own n records → s.id ≡ n + k → record_at records k ≡ Some r
    → slice_set records k (Some (with_state r s.state)) ≡ with_new_states (s ∷ []) records
set-state s n k [] r own is at = cc
set-state s n zero (None ∷ records) r own is at = cc
set-state s n zero (Some x ∷ records) r own is at =
    let same : x ≡ r = cc in
    let here : x.id ≡ n + 0 = own zero x refl in
    let mine : (s.id == x.id) ≡ true = eq-eqb s.id x.id (omega (arith, here, is)) in
    let rest = untouched s (n + 1) records (λ i y there. own (suc i) y there ∙ omega arith) (omega (arith, is)) in
    rw mine (ap (λ (y : Rec). Some (with_state y s.state) ∷ records) (sym same) ∙ ap (λ rs. Some (with_state x s.state) ∷ rs) (sym rest))
set-state s n (suc k) (None ∷ records) r own is at =
    ap (λ rs. None ∷ rs) (set-state s (n + 1) k records r (λ i x there. own (suc i) x there ∙ omega arith) (omega (arith, is)) at)
set-state s n (suc k) (Some x ∷ records) r own is at =
    let here : x.id ≡ n + 0 = own zero x refl in
    let other : (s.id == x.id) ≡ false = ne_eqb s.id x.id (λ same. omega (arith, here, is, same)) in
    let rest = set-state s (n + 1) k records r (λ i y there. own (suc i) y there ∙ omega arith) (omega (arith, is)) at in
    rw other (ap (λ rs. Some x ∷ rs) rest)

-- where it isn't, nothing gets it
no-state : (s : NewState) (n k : ℕ) (records : List (Option Rec)) → Own n records → s.id ≡ n + k → record_at records k ≡ None → with_new_states (s ∷ []) records ≡ records
no-state s n k [] own is at = refl
no-state s n zero (None ∷ records) own is at =
    ap (λ rs. None ∷ rs) (untouched s (n + 1) records (λ i y there. own (suc i) y there ∙ omega arith) (omega (arith, is)))
no-state s n zero (Some x ∷ records) own is at = cc
no-state s n (suc k) (None ∷ records) own is at = ap (λ rs. None ∷ rs) (no-state s (n + 1) k records (λ i x there. own (suc i) x there ∙ omega arith) (omega (arith, is)) at)
no-state s n (suc k) (Some x ∷ records) own is at =
    let here : x.id ≡ n + 0 = own zero x refl in
    let other : (s.id == x.id) ≡ false = ne_eqb s.id x.id (λ same. omega (arith, here, is, same)) in
    rw other (ap (λ rs. Some x ∷ rs) (no-state s (n + 1) k records (λ i y there. own (suc i) y there ∙ omega arith) (omega (arith, is)) at))

own-of : (records : List (Option Rec)) → AreEntries records → Own 0 records
own-of records entries i x at = (entries i x at).own_id ∙ omega arith

-- a record that is relinked in another state
pub state-put : (w new : WorldView) (s : NewState) (r next : Rec) → AreEntries w.records → record_at w.records s.id ≡ Some r → next ≡ with_state r s.state
    → new ≡ with_record (without_id w next.id) next → new.records ≡ with_new_states (s ∷ []) w.records
state-put w new s r next entries at is made =
    let own : next.id ≡ s.id = ap (λ (x : Rec). x.id) is ∙ (entries s.id r at).own_id in
    ap (λ (v : WorldView). v.records) made
    ∙ relinked w.records next.id next
    ∙ ap (λ (k : ℕ). slice_set w.records k (Some next)) own
    ∙ ap (λ (x : Rec). slice_set w.records s.id (Some x)) is
    ∙ set-state s 0 s.id w.records r (own-of w.records entries) (omega arith) at

pub state-nowhere : (records : List (Option Rec)) (s : NewState) → AreEntries records → record_at records s.id ≡ None → records ≡ with_new_states (s ∷ []) records
state-nowhere records s entries at = sym (no-state s 0 s.id records (own-of records entries) (omega arith) at)

-- one state after others, of which it hides those of its record
one-more : (s : NewState) (more : List NewState) (r : Rec) → with_new_state (s ∷ more) r.id r ≡ with_new_state (s ∷ []) (with_new_state more r.id r).id (with_new_state more r.id r)
one-more s more r =
    let x = with_new_state more r.id r in
    let own : x.id ≡ r.id = same_id more r.id r in
    let before = restated more r.id r in
    let hides : with_state x s.state ≡ with_state r s.state = ap (λ (y : Rec). with_state y s.state) before.is in
    elim (cases_Bool (s.id == r.id)) [
      | inl e ↦ let there : (s.id == x.id) ≡ true = ap (λ n. s.id == n) own ∙ e in rw (e, there) (sym hides)
      | inr e ↦ let there : (s.id == x.id) ≡ false = ap (λ n. s.id == n) own ∙ e in rw (e, there) refl
    ]

states-more : (s : NewState) (more : List NewState) (records : List (Option Rec)) → with_new_states (s ∷ more) records ≡ with_new_states (s ∷ []) (with_new_states more records)
states-more s more [] = refl
states-more s more (None ∷ records) = ap (λ rs. None ∷ rs) (states-more s more records)
states-more s more (Some r ∷ records) = (λ i. Some (one-more s more r i) ∷ states-more s more records i)

-- no state
pub states-none : (records : List (Option Rec)) → with_new_states [] records ≡ records
states-none [] = refl
states-none (None ∷ records) = ap (λ rs. None ∷ rs) (states-none records)
states-none (Some r ∷ records) = ap (λ rs. Some r ∷ rs) (states-none records)

drop-past : (k : ℕ) (states : List NewState) → k ≡ length states → drop k states ≡ []
drop-past zero [] is = refl
drop-past zero (s ∷ states) is = cc
drop-past (suc k) [] is = cc
drop-past (suc k) (s ∷ states) is = drop-past k states (let same : suc k ≡ suc (length states) = is in omega (arith, same))

pub states-first : (k : ℕ) (states : List NewState) (records : List (Option Rec)) → k ≡ length states → records ≡ with_new_states (drop k states) records
states-first k states records is = sym (ap (λ ss. with_new_states ss records) (drop-past k states is) ∙ states-none records)

drop-cons : (k : ℕ) (states : List NewState) (d : NewState) → k < length states → drop k states ≡ get_or states k d ∷ drop (suc k) states
drop-cons k [] d inside = absurd (omega (arith, inside))
drop-cons zero (s ∷ states) d inside = refl
drop-cons (suc k) (s ∷ states) d inside = drop-cons k states d (omega (arith, inside))

-- the states from one place on, after those from the next place on
pub states-next : (k j : ℕ) (states : List NewState) (s d : NewState) (start now new : List (Option Rec)) → j ≡ k + 1 → k < length states → s ≡ get_or states k d → now ≡ with_new_states (drop j states) start
    → new ≡ with_new_states (s ∷ []) now → new ≡ with_new_states (drop k states) start
states-next k j states s d start now new next inside is so_far put =
    let there : drop j states ≡ drop (suc k) states = ap (λ n. drop n states) (next ∙ add-one k) in
    put
    ∙ ap (with_new_states (s ∷ [])) so_far
    ∙ sym (states-more s (drop j states) start)
    ∙ ap (λ (x : NewState). with_new_states (x ∷ drop j states) start) is
    ∙ ap (λ ss. with_new_states (get_or states k d ∷ ss) start) there
    ∙ ap (λ ss. with_new_states ss start) (sym (drop-cons k states d inside))
