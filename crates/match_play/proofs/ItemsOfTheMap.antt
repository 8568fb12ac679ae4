-- The items that entries got, counted by the map.
use Rattle.std.proofs.Common.{◌≡◌, ℕ, suc, Bool, true, false, cond, nat_le, List, [], ◌∷◌, Some, is_some, refl, sym, ap, ◌∙◌, arith}
use Rattle.std.specs.Prelude.{Contains, slice_get, sum_by, count_by}
use Rattle.std.proofs.lemmas.Bool.Decides.{nat_tests}
use Rattle.std.proofs.lemmas.List.Elements.{Contains-append_left, Contains-append_right, Contains-push}
use Rattle.std.proofs.lemmas.List.Sums.{sum_by-cons}
use Rattle.entity_recs.specs.declared.effect.Entry.{Entry}
use Rattle.arena_map.specs.Maps.{MapView, delay_of}
use Rattle.plain_server.specs.RecordsById.{opening}
use Rattle.plain_server.specs.Laws.{IsGot, IsItem, IsHit}
use Rattle.plain_server.proofs.Frames.{opening_is}
use Rattle.plain_server.proofs.Takers.{only_got}
use Rattle.match_play.specs.Totals.{items_among, items_in}
use Rattle.match_play.specs.Laws.{items_of, ItemsAreOfTheMap}

-- ---- sums that are the same place by place

sum_by-same : {X : Type 0} (f g : X → ℕ) (xs : List X) → ((i : ℕ) (x : X) → slice_get xs i ≡ Some x → f x ≡ g x) → sum_by f xs ≡ sum_by g xs
sum_by-same f g [] same = refl
sum_by-same f g (x ∷ xs) same =
    let here = same 0 x refl in
    let rest = sum_by-same f g xs (λ i y at. same (suc i) y at) in
    let one = sum_by-cons f x xs in
    let other = sum_by-cons g x xs in
    omega (arith, here, rest, one, other)

abbrev weight : Bool → ℕ
weight b = cond b 1 0

count_by-same : (p q : ℕ → Bool) (ids : List ℕ) → ((id : ℕ) → Contains ids id → p id ≡ q id) → count_by p ids ≡ count_by q ids
count_by-same p q [] same = refl
count_by-same p q (id ∷ ids) same =
    let here : ◌≡◌ {A = ℕ} (cond (p id) 1 0) (cond (q id) 1 0) = ap (λ (b : Bool). weight b) (same id (Contains-append_left (id ∷ []) ids id (Contains-push [] id))) in
    let rest = count_by-same p q ids (λ x has. same x (Contains-append_right (id ∷ []) ids x has)) in
    let one = sum_by-cons (λ (x : ℕ). cond (p x) 1 0) id ids in
    let other = sum_by-cons (λ (x : ℕ). cond (q x) 1 0) id ids in
    omega (arith, here, rest, one, other)

-- ---- ids

-- an id that was got is that of an item exactly where it is 64 or above
item-is : (map : MapView) (id : ℕ) → IsGot map id → nat_le 64 id ≡ is_some (delay_of map id)
item-is map id (IsItem is) = by (nat_le 64 id) refl
  where
    by : (high : Bool) → nat_le 64 id ≡ high → nat_le 64 id ≡ is_some (delay_of map id)
    by true e = e ∙ sym is
    by false e = let never : false ≡ true = rw e at is in cc
item-is map id (IsHit shots low) =
    let below : nat_le 64 id ≡ false = grind (arith, nat_tests) in
    rw below refl

pub items_are_of_the_map : ItemsAreOfTheMap
items_are_of_the_map = λ map frames journals is_map right.
    let got = only_got map 0 (opening map) frames journals is_map (opening_is map is_map) right in
    sum_by-same items_in (λ j. sum_by (λ (e : Entry). items_of map e.reply.got) j) journals
    (λ frame j at.
    sum_by-same (λ (e : Entry). items_among e.reply.got) (λ (e : Entry). items_of map e.reply.got) j
    (λ place e there.
    count_by-same (λ id. nat_le 64 id) (λ id. is_some (delay_of map id)) e.reply.got
    (λ id has. item-is map id (got frame place id (record { journal = j; of_frame = at; taken = record { entry = e; in_place = there; got = has } })))))
