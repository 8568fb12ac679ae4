-- No place is left out, and each is there once.
use Rattle.std.proofs.Common.{◌≡◌, ◌≢◌, ℕ, zero, suc, ◌+◌, ◌≤◌, ◌<◌, Bool, true, false, ◌&&◌, cond, List, ◌∷◌, length, get_or, take, Some, refl, sym, ap, ◌∙◌, subst, inl, inr, arith}
use Rattle.std.specs.Prelude.{Contains, filter}
use Rattle.std.specs.List.{range_with_len}
use Rattle.std.proofs.lemmas.Bool.{cases_lt}
use Rattle.std.proofs.lemmas.List.{get_or-take, length-take-le}
use Rattle.std.proofs.lemmas.List.Folds.{list_any_none}
use Rattle.std.proofs.lemmas.List.Elements.{All-weaker, All-from_get_or}
use Rattle.std.proofs.lemmas.Option.{slice_get_within, slice_get-get_or}
use Rattle.arena_geo.specs.declared.vec3.Vec3.{Vec3}
use Rattle.arena_geo.specs.Vectors.{zero_vector}
use Rattle.arena_geo.specs.Vectors.{vector}
use Rattle.arena_geo.specs.Boxes.{overlaps, is_blocked}
use Rattle.arena_geo.proofs.Overlaps.{overlaps-flips}
use Rattle.entity_recs.specs.Bodies.{player_body, body_of, box_at_origin}
use Rattle.entity_recs.specs.Kinds.{is_solid}
use Rattle.arena_map.specs.Maps.{MapView, solids_of, entities_of}
use Rattle.demo_walk.specs.Places.{share_a_column, is_by_lift, is_by_spawn, is_place, places}
use Rattle.demo_walk.specs.Laws.{IsPlace, PlacesAreKnown}
use Rattle.demo_walk.proofs.PlaceParts.{spawn_of, body_at, none-passes, passing, passing-more, place-at, places-rising, places-pass}
use Rattle.demo_walk.proofs.Accepted.{apart-column}

-- ---- what a place is, both ways

place-of : (m : MapView) (i : ℕ) → is_place m i ≡ true → IsPlace m i
place-of m i is =
    let place = place-at m i is in
    record {
      at = spawn_of m i;
      spawn = slice_get-get_or m.spawns i zero_vector place.within;
      solids = λ k d less. none-passes (overlaps (body_at m i)) (solids_of m) k d place.open_ less;
      lifts = λ k d less solid. column (is_solid (get_or (entities_of m) k d).kind) (share_a_column (body_at m i) (body_of (get_or (entities_of m) k d))) solid
          (none-passes (is_by_lift (body_at m i)) (entities_of m) k d place.no_lift less);
      earlier = λ j other less e. subst (λ (v : Vec3). overlaps (body_at m i) (player_body v) ≡ false)
          (same (spawn_of m j) other (sym (slice_get-get_or m.spawns j zero_vector (slice_get_within m.spawns j other e)) ∙ e)) (place.first j less);
    }
  where
    same : (a b : Vec3) → Some a ≡ Some b → a ≡ b
    same a b h = cc

    column : (kind share : Bool) → kind ≡ true → (kind && share) ≡ false → share ≡ false
    column true share is h = h
    column false share is h = cc

place-back : (m : MapView) (i : ℕ) → IsPlace m i → is_place m i ≡ true
place-back m i is =
    let body = player_body is.at in
    let blocks : is_blocked body (solids_of m) ≡ false = list_any_none (overlaps body) (solids_of m) is.solids in
    let lifts = list_any_none (is_by_lift body) (entities_of m)
    (λ k d less. lift (is_solid (get_or (entities_of m) k d).kind) (share_a_column body (body_of (get_or (entities_of m) k d))) (is.lifts k d less)) in
    let spawns = list_any_none (is_by_spawn body) (take i m.spawns)
    (All-from_get_or (λ at. is_by_spawn body at ≡ false) (take i m.spawns) zero_vector earlier) in
    rw is.spawn (rw blocks (rw lifts (rw spawns refl)))
  where
    lift : (kind share : Bool) → (kind ≡ true → share ≡ false) → (kind && share) ≡ false
    lift true share h = h refl
    lift false share h = refl

    within : i < length m.spawns
    within = slice_get_within m.spawns i is.at is.spawn

    earlier : (j : ℕ) → j < length (take i m.spawns) → is_by_spawn (player_body is.at) (get_or (take i m.spawns) j zero_vector) ≡ false
    earlier j less =
        let below : j < i = omega (arith, less, length-take-le i m.spawns (omega (arith, within))) in
        ap (is_by_spawn (player_body is.at)) (get_or-take i m.spawns j zero_vector below)
        ∙ is.earlier j (spawn_of m j) below (slice_get-get_or m.spawns j zero_vector (omega (arith, below, within)))

-- ---- the list of places

later : {X : Type 0} (y : X) (xs : List X) (x : X) → Contains xs x → Contains (y ∷ xs) x
later y xs x is = (suc is.0, omega (arith, is.1), is.2)

passing-kept : (p : ℕ → Bool) (a n i : ℕ) → a ≤ i → i < a + n → p i ≡ true → Contains (filter p (range_with_len a n)) i
passing-kept p a zero i least most is = absurd (omega arith)
passing-kept p a (suc n) i least most is =
    elim (cases_lt a i) [
      | inl above ↦ next (p a) (passing-kept p (a + 1) n i (omega arith) (omega arith) is)
      | inr not_above ↦ let here : i ≡ a = omega arith in rw here (rw (ap p (sym here) ∙ is) (0, omega arith, refl))
    ]
  where
    next : (passes : Bool) → Contains (filter p (range_with_len (a + 1) n)) i
        → Contains (cond passes (a ∷ filter p (range_with_len (a + 1) n)) (filter p (range_with_len (a + 1) n))) i
    next true is = later a (filter p (range_with_len (a + 1) n)) i is
    next false is = is

passing-few : (p : ℕ → Bool) (n : ℕ) → passing p n ≤ n
passing-few p zero = omega arith
passing-few p (suc n) = by (p n) (passing-more p n) (passing-few p n)
  where
    by : (passes : Bool) → passing p (suc n) ≡ passing p n + cond passes 1 0 → passing p n ≤ n → passing p (suc n) ≤ suc n
    by true more so = omega (arith, more, so)
    by false more so = omega (arith, more, so)

passing-all : (p : ℕ → Bool) (n : ℕ) → ((i : ℕ) → i < n → p i ≡ true) → passing p n ≡ n
passing-all p zero each = refl
passing-all p (suc n) each =
    by (p n) (each n (omega arith)) (passing-more p n) (passing-all p n (λ i less. each i (omega arith)))
  where
    by : (passes : Bool) → passes ≡ true → passing p (suc n) ≡ passing p n + cond passes 1 0 → passing p n ≡ n → passing p (suc n) ≡ suc n
    by true is more so = omega (arith, more, so)
    by false is more so = cc

-- ---- the law

pub places_are_known : PlacesAreKnown
places_are_known = record {
  each = λ m. All-weaker (λ i. is_place m i ≡ true) (IsPlace m) (place-of m) (places m) (places-pass m);
  every = λ m i is.
      let within = slice_get_within m.spawns i is.at is.spawn in
      passing-kept (is_place m) 0 (length m.spawns) i (omega arith) (omega (arith, within)) (place-back m i is);
  rising = places-rising;
  count = λ m. refl;
  apart = apart;
  clear = λ m i one k d less solid z. apart-column (player_body one.at) (box_at_origin (vector (get_or (entities_of m) k d).origin.x (get_or (entities_of m) k d).origin.y z) (get_or (entities_of m) k d).mins (get_or (entities_of m) k d).maxs)
      (one.lifts k d less solid);
  few = λ m. passing-few (is_place m) (length m.spawns);
  all = λ m each. passing-all (is_place m) (length m.spawns) (λ i less. place-back m i (each i less));
}
  where
    apart : (m : MapView) (i j : ℕ) (one : IsPlace m i) (other : IsPlace m j) → i ≢ j → overlaps (player_body one.at) (player_body other.at) ≡ false
    apart m i j one other differ = elim (cases_lt i j) [
      | inl less ↦ overlaps-flips (player_body one.at) (player_body other.at) ∙ other.earlier i one.at less one.spawn
      | inr not_less ↦ elim (cases_lt j i) [
        | inl less ↦ one.earlier j other.at less other.spawn
        | inr neither ↦ absurd (differ (omega arith))
      ]
    ]
