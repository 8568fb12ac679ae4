-- The records by id and the world that they make, when one of the records changes.
use Rattle.std.proofs.Common.{◌≡◌, ◌≢◌, ◌⊎◌, ℕ, zero, suc, ◌<◌, ◌==◌, List, [], ◌∷◌, length, map, Option, Some, None, slice_set, if◌then◌else◌, refl, sym, ap, ◌∙◌, inl, inr, get_or-set_same, get_or-set_other, arith}
use Rattle.std.specs.Prelude.{All}
use Rattle.std.specs.Option.{option_map}
use Rattle.std.proofs.lemmas.Option.{none-some}
use Rattle.std.proofs.lemmas.List.Elements.{All-weaker}
use Rattle.std.proofs.lemmas.Bool.{cases_eq, eq-eqb, ne_eqb, cond-true, cond-false}
use Rattle.entity_recs.specs.declared.rec.Rec.{Rec}
use Rattle.entity_recs.specs.declared.effect.Effect.{Effect}
use Rattle.entity_recs.specs.declared.effect.NewState.{NewState}
use Rattle.entity_recs.specs.Worlds.{World, nobody, record_or_nobody}
use Rattle.entity_recs.specs.Histories.{with_effect, with_new_state}
use Rattle.arena_map.specs.Maps.{MapView}
use Rattle.world_tree.specs.Live.{record_at}
use Rattle.world_tree.proofs.Kept.{ids-kept}
use Rattle.plain_server.specs.RecordsById.{world_of, records_in}
use Rattle.plain_server.specs.Moving.{with_new_states, records_with}
use Rattle.plain_server.proofs.NewStates.{IsOfLive, same_id, record_at-restated, still_at, ids-restated, count-restated, new_state-lacks}

-- and what any world gives for the live records
pub records_in-set : (w : World) (records : List (Option Rec)) (k : ℕ) (r me : Rec) → record_at records k ≡ Some r → me.id ≡ r.id
    → records_in w (slice_set records k (Some me)) ≡ records_in w records
records_in-set w [] k r me at same = refl
records_in-set w (None ∷ records) zero r me at same = cc
records_in-set w (Some x ∷ records) zero r me at same =
    let here : x ≡ r = cc in
    let id : me.id ≡ x.id = same ∙ sym (ap (λ (y : Rec). y.id) here) in
    ap (λ (i : ℕ). Some (w.record_of i) ∷ records_in w records) id
records_in-set w (None ∷ records) (suc k) r me at same = ap (λ (rs : List (Option Rec)). None ∷ rs) (records_in-set w records k r me at same)
records_in-set w (Some x ∷ records) (suc k) r me at same = ap (λ (rs : List (Option Rec)). Some (w.record_of x.id) ∷ rs) (records_in-set w records k r me at same)

-- a world that gives each record at its id gives the records
given_at_ids : (f : ℕ → Rec) (records : List (Option Rec)) → ((k : ℕ) (r : Rec) → record_at records k ≡ Some r → f r.id ≡ r)
    → map (option_map (λ (r : Rec). f r.id)) records ≡ records
given_at_ids f [] each = refl
given_at_ids f (None ∷ records) each = ap (λ (rs : List (Option Rec)). None ∷ rs) (given_at_ids f records (λ k r at. each (suc k) r at))
given_at_ids f (Some x ∷ records) each =
    let head : f x.id ≡ x = each 0 x refl in
    let tail = given_at_ids f records (λ k r at. each (suc k) r at) in
    λ i. Some (head i) ∷ tail i

-- the world of records at their ids gives these records
pub records_in-world_of : (records : List (Option Rec)) → ((id : ℕ) (r : Rec) → record_at records id ≡ Some r → r.id ≡ id)
    → records_in (world_of records) records ≡ records
records_in-world_of records own =
    given_at_ids (world_of records).record_of records
    (λ k r at. ap (λ (id : ℕ). record_or_nobody (record_at records id)) (own k r at) ∙ ap record_or_nobody at)

-- a record with no new state of its own
unlisted : (map : MapView) (records : List (Option Rec)) (states : List NewState) (id : ℕ) → record_at records id ≡ None → All (IsOfLive map records) states → with_new_state states id nobody ≡ nobody
unlisted map records states id none items = new_state-lacks states id nobody (All-weaker (IsOfLive map records) (λ (s : NewState). s.id ≢ id) other states items)
  where
    other : (s : NewState) → IsOfLive map records s → s.id ≢ id
    other s own same = none-some own.owner (sym none ∙ sym (ap (record_at records) same) ∙ own.at)

-- what a world of records with new states gives for an id
restated_or_nobody : (map : MapView) (records : List (Option Rec)) (states : List NewState) (id : ℕ) → ((k : ℕ) (r : Rec) → record_at records k ≡ Some r → r.id ≡ k) → All (IsOfLive map records) states
    → record_or_nobody (record_at (with_new_states states records) id) ≡ with_new_state states id (record_or_nobody (record_at records id))
restated_or_nobody map records states id own items = by (record_at records id) refl
  where
    by : (o : Option Rec) → record_at records id ≡ o → record_or_nobody (record_at (with_new_states states records) id) ≡ with_new_state states id (record_or_nobody (record_at records id))
    by None e =
        ap record_or_nobody (record_at-restated states records id ∙ ap (option_map (λ (x : Rec). with_new_state states x.id x)) e)
        ∙ sym (unlisted map records states id e items)
        ∙ sym (ap (λ (place : Option Rec). with_new_state states id (record_or_nobody place)) e)
    by (Some r) e =
        ap record_or_nobody (still_at states records id r e)
        ∙ ap (λ (k : ℕ). with_new_state states k r) (own id r e)
        ∙ sym (ap (λ (place : Option Rec). with_new_state states id (record_or_nobody place)) e)

-- the world of records after an effect is the world with that effect
pub world_of-with : (map : MapView) (records : List (Option Rec)) (slot : ℕ) (r : Rec) (e : Effect) → ((id : ℕ) (x : Rec) → record_at records id ≡ Some x → x.id ≡ id)
    → slot < length records → record_at records slot ≡ Some r → e.me.id ≡ r.id → All (IsOfLive map records) e.states
    → world_of (records_with records slot e) ≡ with_effect (world_of records) slot e
world_of-with map records slot r e own below at mine items =
    let was = still_at e.states records slot r at in
    let ids = ids-kept (with_new_states e.states records) slot (with_new_state e.states r.id r) e.me was (mine ∙ sym (same_id e.states r.id r)) ∙ ids-restated e.states records in
    λ i. record { ids = ids i; record_of = λ id. each id (cases_eq id slot) i }
  where
    new : List (Option Rec)
    new = with_new_states e.states records

    inside : slot < length new
    inside = omega (arith, below, count-restated e.states records)

    each : (id : ℕ) → (id ≡ slot) ⊎ (id ≢ slot)
        → record_or_nobody (record_at (slice_set (with_new_states e.states records) slot (Some e.me)) id)
        ≡ (if id == slot then e.me else with_new_state e.states id (record_or_nobody (record_at records id)))
    each id (inl here) =
        ap (λ (k : ℕ). record_or_nobody (record_at (slice_set new slot (Some e.me)) k)) here
        ∙ ap record_or_nobody (get_or-set_same new slot (Some e.me) None inside)
        ∙ sym (cond-true (id == slot) e.me (with_new_state e.states id (record_or_nobody (record_at records id))) (eq-eqb id slot here))
    each id (inr apart) =
        ap record_or_nobody (get_or-set_other new slot id (Some e.me) None apart)
        ∙ restated_or_nobody map records e.states id own items
        ∙ sym (cond-false (id == slot) e.me (with_new_state e.states id (record_or_nobody (record_at records id))) (ne_eqb id slot apart))
