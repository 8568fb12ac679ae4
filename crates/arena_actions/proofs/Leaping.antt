-- The leaps of a map, and the boxes of a region by them: there is room for each, and they are the landings.
use Rattle.std.proofs.Common.{◌≡◌, ℕ, suc, ◌+◌, ◌<◌, ◌≤◌, Bool, true, false, if◌then◌else◌, List, [], ◌∷◌, ◌++◌, length, take, drop, get_or, Option, Some, None, IsSome, refl, sym, ap, ◌∙◌, subst, arith}
use Rattle.std.specs.Prelude.{filter_map}
use Rattle.std.specs.List.{cons_option}
use Rattle.std.specs.Option.{option_map}
use Rattle.std.proofs.Math.Seq.{take-suc}
use Rattle.std.proofs.lemmas.List.{length-append, length-take-le, take-append-drop, take_all}
use Rattle.std.proofs.lemmas.List.Elements.{filter_map-append}
use Rattle.arena_geo.specs.declared.vec3.Vec3.{Vec3}
use Rattle.arena_geo.specs.Bounds.{Bounds}
use Rattle.arena_geo.specs.Boxes.{touches}
use Rattle.entity_recs.specs.declared.rec.Rec.{Rec}
use Rattle.entity_recs.specs.Bodies.{abs_of}
use Rattle.arena_map.specs.Maps.{MapView, IsMap, entities_of, dest_of}
use Rattle.arena_outcomes.specs.Regions.{landing_at, landing_of}
use Rattle.arena_outcomes.proofs.Lawful.Landings.{cons-length, at-most-one, few_given}
use Rattle.arena_actions.specs.declared.leaps.Leap.{Leap}
use Rattle.arena_actions.specs.Leaps.{leap_of, landing_by}

-- ---- one thing more

module _ {X Y : Type 0} (h : X → Option Y) where
  -- what h gives of the items up to a place, and of one more
  pub filter_map-more : (xs : List X) (i : ℕ) (x : X) → i < length xs
      → filter_map h (take (i + 1) xs) ≡ filter_map h (take i xs) ++ cons_option (h (get_or xs i x)) []
  filter_map-more xs i x below =
      let next : i + 1 ≡ suc i = omega arith in
      ap (λ (k : ℕ). filter_map h (take k xs)) next ∙ ap (filter_map h) (take-suc xs i x below)
      ∙ filter_map-append h (take i xs) (get_or xs i x ∷ [])

  -- of the items up to a place it gives no more than of all
  pub no_more : (xs : List X) (i : ℕ) → length (filter_map h (take i xs)) ≤ length (filter_map h xs)
  no_more xs i =
      let all : filter_map h (take i xs) ++ filter_map h (drop i xs) ≡ filter_map h xs =
      sym (filter_map-append h (take i xs) (drop i xs)) ∙ ap (filter_map h) (take-append-drop i xs) in
      let long =
      sym (length-append (filter_map h (take i xs)) (filter_map h (drop i xs)))
      ∙ ap (λ (l : List Y). length l) all in
      omega (arith, long)

-- ---- the leaps

-- a map has at most 16 leaps, so there is room for one more while its things are gone through
pub room_for_leap : (map : MapView) (things : List Rec) (i : ℕ) (thing : Rec) (leap : Option Leap) (leaps : List Leap) → IsMap map → things ≡ entities_of map → i < length things
    → leap ≡ leap_of map (get_or things i thing) → leaps ≡ filter_map (leap_of map) (take i things) → IsSome leap → length leaps < 16
room_for_leap map things i thing leap leaps is things_are below leap_is leaps_are some =
    let h = leap_of map in
    let few : length (filter_map h things) ≤ 16 =
    subst (λ (l : List Rec). length (filter_map h l) ≤ 16) (sym things_are) (few_given map h (λ t e. ap (option_map (λ (dest : Vec3). record { from = abs_of t; to = dest })) e) is) in
    let more = ap (λ (l : List Leap). length l) (filter_map-more h things i thing below) in
    let sum = length-append (filter_map h (take i things)) (cons_option (h (get_or things i thing)) []) in
    let long : length leaps ≡ length (filter_map h (take i things)) = ap (λ (l : List Leap). length l) leaps_are in
    omega (arith, few, no_more h things (i + 1), more, sum, by leap some leap_is, long)
  where
    by : (o : Option Leap) → IsSome o → o ≡ leap_of map (get_or things i thing)
        → length (cons_option (leap_of map (get_or things i thing)) []) ≡ 1
    by None s e = cc
    by (Some b) s e = ap (λ (o : Option Leap). length (cons_option o [])) (sym e)

-- of the items up to a place no more are given than there are
few_of : {X Y : Type 0} (h : X → Option Y) (xs : List X) → length (filter_map h xs) ≤ length xs
few_of h [] = omega arith
few_of h (x ∷ xs) = omega (arith, few_of h xs, cons-length (h x) (filter_map h xs), at-most-one (h x))

-- so in the region of a move there is room for one landing more
pub room_for_landing : {X Y : Type 0} (h : X → Option Y) (xs : List X) (i : ℕ) (first : Y) (region : List Y) → length xs ≤ 16 → i < length xs
    → region ≡ first ∷ filter_map h (take i xs) → length region < 17
room_for_landing {X} {Y} h xs i first region few below region_is =
    let long : length region ≡ suc (length (filter_map h (take i xs))) = ap (λ (l : List Y). length l) region_is in
    omega (arith, long, few_of h (take i xs), length-take-le i xs (omega (arith, below)), few, below)

-- the landings by the leaps of things are the landings of the things
pub landings_by : (map : MapView) (me : Rec) (reach : Bounds) (things : List Rec)
    → filter_map (landing_by me reach) (filter_map (leap_of map) things) ≡ filter_map (landing_of map me reach) things
landings_by map me reach [] = refl
landings_by map me reach (thing ∷ things) = by (dest_of map thing.id) (touches (abs_of thing) reach) refl refl (landings_by map me reach things)
  where
    by : (dest : Option Vec3) (touching : Bool) → dest_of map thing.id ≡ dest → touches (abs_of thing) reach ≡ touching
        → filter_map (landing_by me reach) (filter_map (leap_of map) things) ≡ filter_map (landing_of map me reach) things
        → filter_map (landing_by me reach) (cons_option (option_map (λ (d : Vec3). record { from = abs_of thing; to = d }) dest) (filter_map (leap_of map) things))
        ≡ cons_option (if touches (abs_of thing) reach then option_map (landing_at me) dest else None) (filter_map (landing_of map me reach) things)
    by None true d t rest = rest ∙ ap (λ (b : Bool). cons_option (if b then None else None) (filter_map (landing_of map me reach) things)) (sym t)
    by None false d t rest = rest ∙ ap (λ (b : Bool). cons_option (if b then None else None) (filter_map (landing_of map me reach) things)) (sym t)
    by (Some dest) touching d t rest = ap (cons_option (if touches (abs_of thing) reach then Some (landing_at me dest) else None)) rest

-- what is put last for a thing is what h gives of it
pub landing_put : {X Y : Type 0} (h : X
    → Option Y) (xs : List X) (i : ℕ) (d : X) (first : Y) (before after : List Y) (landing : Option Y) → i < length xs
    → landing ≡ h (get_or xs i d)
    → before ≡ first ∷ filter_map h (take i xs) → after ≡ before ++ cons_option landing []
    → after ≡ first ∷ filter_map h (take (i + 1) xs)
landing_put {X} {Y} h xs i d first before after landing below landing_is before_is after_is =
    after_is
    ∙ ap (λ (l : List Y). l ++ cons_option landing []) before_is
    ∙ ap (λ (o : Option Y). first ∷ (filter_map h (take i xs) ++ cons_option o [])) landing_is
    ∙ ap (λ (l : List Y). first ∷ l) (sym (filter_map-more h xs i d below))

-- and so it is where nothing comes first
pub leap_put : {X Y : Type 0} (h : X
    → Option Y) (xs : List X) (i : ℕ) (d : X) (before after : List Y) (leap : Option Y) → i < length xs
    → leap ≡ h (get_or xs i d)
    → before ≡ filter_map h (take i xs) → after ≡ before ++ cons_option leap []
    → after ≡ filter_map h (take (i + 1) xs)
leap_put {X} {Y} h xs i d before after leap below leap_is before_is after_is =
    after_is
    ∙ ap (λ (l : List Y). l ++ cons_option leap []) before_is
    ∙ ap (λ (o : Option Y). filter_map h (take i xs) ++ cons_option o []) leap_is
    ∙ sym (filter_map-more h xs i d below)

-- all of them, in the region of a move
pub all_landings : {X Y : Type 0} (h : X → Option Y) (xs : List X) (i : ℕ) (first : Y) (before : List Y) → length xs ≤ i
    → before ≡ first ∷ filter_map h (take i xs) → before ≡ first ∷ filter_map h xs
all_landings {X} {Y} h xs i first before last before_is =
    before_is ∙ ap (λ (l : List X). first ∷ filter_map h l) (take_all i xs last)
