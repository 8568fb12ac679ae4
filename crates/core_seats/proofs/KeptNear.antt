-- The near list is that of the players whose words were kept by slot, and after them the things that were loaded.
use Rattle.std.proofs.Common.{◌≡◌, ℕ, suc, ◌+◌, ◌<◌, ◌≤◌, ◌==◌, Bool, true, false, ◌&&◌, List, [], ◌∷◌, ◌++◌, length, get_or, refl, ap, sym, ◌∙◌, subst, inl, inr, arith}
use Rattle.std.specs.Prelude.{filter, not, nat_lt, nat_le, Option, Some, None, if◌then◌else◌}
use Rattle.std.specs.List.{filter_map, cons_option}
use Rattle.std.specs.List.Sorted.{IsStrictlyIncreasing}
use Rattle.std.proofs.lemmas.Bool.{cases_Bool, ltb-true, ltb-false, ne_eqb}
use Rattle.std.proofs.lemmas.List.Kept.{AllPairs-from_increasing}
use Rattle.arena_geo.specs.Bounds.{Bounds}
use Rattle.arena_geo.specs.Regions.{touches_region}
use Rattle.entity_recs.specs.declared.rec.Rec.{Rec}
use Rattle.entity_recs.specs.declared.effect.NewState.{NewState}
use Rattle.entity_recs.specs.Bodies.{abs_of}
use Rattle.entity_recs.specs.Records.{with_state}
use Rattle.core_steps.specs.Nodes.{Fixed}
use Rattle.core_steps.specs.Reads.{PlayerRead, player_at, player_of, state_at, thing_of, record_loaded, near_loaded}
use Rattle.core_seats.specs.NearKept.{kept_at, players_kept, things_loaded}

-- the number is below all these
abbrev pub IsBelowAll : ℕ → List ℕ → Type 0
IsBelowAll n [] = Unit {0}
IsBelowAll n (x ∷ xs) = (n < x) × IsBelowAll n xs

-- each of the numbers is below all that come after it
abbrev pub AreRising : List ℕ → Type 0
AreRising [] = Unit {0}
AreRising (x ∷ xs) = IsBelowAll x xs × AreRising xs

below_all : (n : ℕ) (xs : List ℕ) → IsStrictlyIncreasing (n ∷ xs) → IsBelowAll n xs
below_all n xs rising = each xs (λ j d below. AllPairs-from_increasing (n ∷ xs) rising 0 (suc j) d (omega arith) (omega arith))
  where
    each : (ys : List ℕ) → ((j d : ℕ) → j < length ys → n < get_or ys j d) → IsBelowAll n ys
    each [] h = tt
    each (y ∷ ys) h = (h 0 0 (omega arith), each ys (λ j d below. h (suc j) d (omega arith)))

later : (x : ℕ) (xs : List ℕ) (k : ℕ) → get_or (x ∷ xs) (suc k) 0 < get_or (x ∷ xs) (suc k + 1) 0 → get_or xs k 0 < get_or xs (k + 1) 0
later x xs k less = let e : suc k + 1 ≡ suc (k + 1) = omega arith in subst (λ (n : ℕ). get_or xs k 0 < get_or (x ∷ xs) n 0) e less

pub are_rising : (xs : List ℕ) → IsStrictlyIncreasing xs → AreRising xs
are_rising [] rising = tt
are_rising (x ∷ xs) rising = (below_all x xs rising, are_rising xs (λ k below. later x xs k (rising (suc k) (omega arith))))

module _ (region : List Bounds) where
  abbrev near : List Rec → List Rec
  near = filter (λ r. touches_region (abs_of r) region)

  -- a player's record is before all those of the rest
  near_player : (o : Option Rec) (rest players things : List Rec) → near rest ≡ near players ++ things
      → near (cons_option o rest) ≡ near (cons_option o players) ++ things
  near_player None rest players things is = is
  near_player (Some r) rest players things is = by_test (touches_region (abs_of r) region)
    where
      by_test : (b : Bool) → (if b then r ∷ near rest else near rest) ≡ (if b then r ∷ near players else near players) ++ things
      by_test true = ap (λ (rs : List Rec). r ∷ rs) is
      by_test false = is

  -- a thing's box is that of its record at the start
  near_thing : (r : Rec) (o : Option ℕ) (rest things : List Rec) → near rest ≡ things
      → near (cons_option (thing_of r o) rest) ≡ (if touches_region (abs_of r) region then cons_option (thing_of r o) things else things)
  near_thing r None rest things is = is ∙ by_test (touches_region (abs_of r) region)
    where
      by_test : (b : Bool) → things ≡ (if b then things else things)
      by_test true = refl
      by_test false = refl
  near_thing r (Some state) rest things is = by_test (touches_region (abs_of r) region)
    where
      by_test : (b : Bool) → (if b then with_state r state ∷ near rest else near rest) ≡ (if b then with_state r state ∷ things else things)
      by_test true = ap (λ (rs : List Rec). with_state r state ∷ rs) is
      by_test false = is

filtered : (f : ℕ → Option Rec) (b : Bool) (id : ℕ) (ids : List ℕ)
    → filter_map f (if b then id ∷ ids else ids) ≡ (if b then cons_option (f id) (filter_map f ids) else filter_map f ids)
filtered f true id ids = refl
filtered f false id ids = refl

module _ (F : Fixed) (region : List Bounds) (slot seen : ℕ) (six : List (List ℕ)) (others : List PlayerRead) (states : List NewState) (below : slot < 64)
    (kept : (s : ℕ) → s < 64 → player_at others s ≡ kept_at seen six s) where
  abbrev one_kept : ℕ → Option Rec
  one_kept id = player_of id (kept_at seen six id)

  abbrev one_thing : ℕ → Option Rec
  one_thing id = thing_of (F.start.record_of id) (state_at states id)

  abbrev players : List ℕ → List ℕ
  players = filter (λ id. nat_lt id 64 && not (id == slot))

  abbrev things : List ℕ → List ℕ
  things = filter (λ id. nat_le 64 id && touches_region (abs_of (F.start.record_of id)) region)

  abbrev loaded : List ℕ → List Rec
  loaded ids = filter_map (record_loaded F others states) (filter (λ id. not (id == slot)) ids)

  no_players : (n : ℕ) (ids : List ℕ) → 64 ≤ n → IsBelowAll n ids → players ids ≡ []
  no_players n [] high above = refl
  no_players n (id ∷ ids) high above =
      let not_low : nat_lt id 64 ≡ false = grind arith in
      rw not_low (no_players n ids high above.1)

  split : (ids : List ℕ) → AreRising ids → near region (loaded ids) ≡ near region (filter_map one_kept (players ids)) ++ filter_map one_thing (things ids)
  split [] rising = refl
  split (id ∷ ids) rising = elim (cases_Bool (nat_lt id 64)) [
    | inl low ↦
        let less = ltb-true id 64 low in
        let not_high : nat_le 64 id ≡ false = grind arith in
        let player : record_loaded F others states id ≡ one_kept id = rw low (ap (player_of id) (kept id less)) in
        elim (cases_Bool (id == slot)) [
          | inl own ↦ rw (low, not_high, own) (split ids rising.1)
          | inr other ↦ rw (low, not_high, other) (rw player (near_player region (one_kept id) _ _ _ (split ids rising.1)))
        ]
    | inr high ↦
        let most = ltb-false id 64 high in
        let is_high : nat_le 64 id ≡ true = grind arith in
        let other : (id == slot) ≡ false = ne_eqb id slot (λ e. omega (arith, e)) in
        let none = no_players id ids (omega arith) rising.0 in
        let thing : record_loaded F others states id ≡ one_thing id = rw high refl in
        let rest : near region (loaded ids) ≡ filter_map one_thing (things ids) =
        split ids rising.1 ∙ ap (λ (ns : List ℕ). near region (filter_map one_kept ns) ++ filter_map one_thing (things ids)) none in
        rw (high, is_high, other, none)
        (rw thing (near_thing region (F.start.record_of id) (state_at states id) (loaded ids) (filter_map one_thing (things ids)) rest
        ∙ sym (filtered one_thing (touches_region (abs_of (F.start.record_of id)) region) id (things ids))))
  ]

  -- the near list in two parts
  pub near_in_parts : IsStrictlyIncreasing F.start.ids
      → near_loaded F region slot others states ≡ players_kept F region slot seen six ++ things_loaded F region states
  near_in_parts rising = split F.start.ids (are_rising F.start.ids rising)
