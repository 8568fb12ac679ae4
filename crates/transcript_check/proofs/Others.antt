-- The other live records, live id after live id.
use Rattle.std.proofs.Common.{◌≡◌, ℕ, zero, suc, ◌+◌, ◌<◌, ◌≤◌, Bool, List, [], ◌∷◌, ◌++◌, length, filter, take, get_or, Option, Some, None, refl, sym, ap, ◌∙◌, subst, inl, inr, arith}
use Rattle.std.specs.List.{filter_map, cons_option}
use Rattle.std.specs.Option.{option_to_list}
use Rattle.std.proofs.lemmas.Bool.{cases_Bool}
use Rattle.std.proofs.lemmas.List.{take_all, take_more, length-map}
use Rattle.std.proofs.lemmas.List.Elements.{filter-append, filter_map-append}
use Rattle.entity_recs.specs.declared.rec.Rec.{Rec}
use Rattle.entity_recs.specs.declared.limits.TheConstants.{IDS}
use Rattle.entity_recs.specs.Worlds.{others_of}
use Rattle.world_tree.specs.Live.{live_in, ids_of}
use Rattle.world_tree.specs.Worlds.{WorldView, record_of, IsLinked}
use Rattle.world_tree.proofs.Rising.{live_records_by_id}
use Rattle.plain_server.specs.RecordsById.{world_of}
use Rattle.plain_server.proofs.Others.{others-are}
use Rattle.transcript_check.specs.Moves.{is_other}
use Rattle.plain_server.proofs.SlotPlayers.{few_first}

fewer : (test : Rec → Bool) (rs : List Rec) → length (filter test rs) ≤ length rs
fewer test [] = omega arith
fewer test (r ∷ rs) = let rest = fewer test rs in elim (cases_Bool (test r)) [ inl e ↦ rw e (omega (arith, rest)) | inr e ↦ rw e (omega (arith, rest)) ]

found_few : (w : WorldView) (k : ℕ) (ids : List ℕ) → length (filter_map (record_of w) (take k ids)) ≤ k
found_few w zero ids = omega arith
found_few w (suc k) [] = omega arith
found_few w (suc k) (id ∷ ids) = let rest = found_few w k ids in one_more (record_of w id) (filter_map (record_of w) (take k ids)) k rest
  where
    one_more : (o : Option Rec) (rs : List Rec) (n : ℕ) → length rs ≤ n → length (cons_option o rs) ≤ suc n
    one_more None rs n few = omega (arith, few)
    one_more (Some r) rs n few = omega (arith, few)

as_list : (o : Option Rec) → cons_option o [] ≡ option_to_list o
as_list None = refl
as_list (Some r) = refl

-- there are no more live ids than places
pub ids_few : (w : WorldView) → IsLinked w → length (ids_of w.records) ≤ IDS
ids_few w linked =
    let places = linked.places in
    let all = take_all IDS w.records (omega (arith, places)) in
    let few = few_first w.records IDS in
    let same = ap (λ (rs : List (Option Rec)). length (live_in rs)) all in
    let ids : length (ids_of w.records) ≡ length (live_in w.records) = length-map (live_in w.records) (λ (r : Rec). r.id) in
    omega (arith, few, same, ids)

module _ (w : WorldView) (slot : ℕ) where
  -- the others among the first so many live ids
  abbrev pub others_first : ℕ → List Rec
  others_first k = filter (is_other slot) (filter_map (record_of w) (take k (ids_of w.records)))

  -- one id more
  pub others-next : (ids : List ℕ) (k : ℕ) (was new : List Rec) → ids ≡ ids_of w.records → k < length ids → was ≡ others_first k
      → new ≡ was ++ filter (is_other slot) (option_to_list (record_of w (get_or ids k 0))) → new ≡ others_first (k + 1)
  others-next ids k was new are below so_far is =
      let P : List ℕ → Type 0 = λ l. filter_map (record_of w) (take (k + 1) l) ≡ filter_map (record_of w) (take k l) ++ option_to_list (record_of w (get_or ids k 0)) in
      let found : P ids = ap (filter_map (record_of w)) (take_more ids k 0 below) ∙ filter_map-append (record_of w) (take k ids) (get_or ids k 0 ∷ [])
      ∙ ap (λ (rs : List Rec). filter_map (record_of w) (take k ids) ++ rs) (as_list (record_of w (get_or ids k 0))) in
      is
      ∙ ap (λ (xs : List Rec). xs ++ filter (is_other slot) (option_to_list (record_of w (get_or ids k 0)))) so_far
      ∙ sym (filter-append (is_other slot) (filter_map (record_of w) (take k (ids_of w.records))) (option_to_list (record_of w (get_or ids k 0))))
      ∙ ap (filter (is_other slot)) (sym (subst P are found))

  pub others-few : (k : ℕ) (was : List Rec) → was ≡ others_first k → length was ≤ k
  others-few k was is =
      let found = found_few w k (ids_of w.records) in
      omega (arith, ap length is, fewer (is_other slot) (filter_map (record_of w) (take k (ids_of w.records))), found)

  pub others-all : (ids : List ℕ) (k : ℕ) (was : List Rec) → IsLinked w → ids ≡ ids_of w.records → length ids ≤ k → was ≡ others_first k → was ≡ others_of (world_of w.records) slot
  others-all ids k was linked are past is =
      let whole : take k (ids_of w.records) ≡ ids_of w.records = take_all k (ids_of w.records) (subst (λ (l : List ℕ). length l ≤ k) are past) in
      is
      ∙ ap (λ (l : List ℕ). filter (is_other slot) (filter_map (record_of w) l)) whole
      ∙ ap (filter (is_other slot)) (sym (live_records_by_id w linked))
      ∙ sym (others-are w.records slot (λ id r at. (linked.entries id r at).own_id))
