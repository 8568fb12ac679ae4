-- Which live solid stops a box where it is now.
use Rattle.std.proofs.Common.{◌≡◌, Bool, true, false, cond, ◌&&◌, ◌||◌, List, [], ◌∷◌, ◌++◌, map, filter, Option, Some, None, is_some, refl, sym, ap, ◌∙◌}
use Rattle.std.specs.Prelude.{find}
use Rattle.std.proofs.lemmas.List.Folds.{list_any-append}
use Rattle.std.proofs.lemmas.Bool.{or_parts}
use Rattle.arena_geo.specs.Bounds.{Bounds}
use Rattle.arena_geo.specs.Boxes.{overlaps, is_blocked}
use Rattle.entity_recs.specs.declared.rec.Rec.{Rec}
use Rattle.entity_recs.specs.Kinds.{is_solid}
use Rattle.entity_recs.specs.Bodies.{body_of}
use Rattle.entity_recs.proofs.Ids.{no_record}
use Rattle.trigger_rules.specs.Touching.{bodies_of_solids}
use Rattle.shot_rules.specs.Targets.{is_in_way, stopper_at}

-- ---- one record more

-- the bodies of solids, with a record that is one
pub bodies_with_solid : (near : List Rec) (r : Rec) → is_solid r.kind ≡ true → bodies_of_solids (near ++ r ∷ []) ≡ bodies_of_solids near ++ body_of r ∷ []
bodies_with_solid [] r solid = ap (λ (t : Bool). map body_of (cond t (r ∷ []) [])) solid
bodies_with_solid (x ∷ near) r solid = by (is_solid x.kind) (bodies_with_solid near r solid)
  where
    by : (t : Bool) → bodies_of_solids (near ++ r ∷ []) ≡ bodies_of_solids near ++ body_of r ∷ []
        → map body_of (cond t (x ∷ filter (λ q. is_solid q.kind) (near ++ r ∷ [])) (filter (λ q. is_solid q.kind) (near ++ r ∷ [])))
        ≡ map body_of (cond t (x ∷ filter (λ q. is_solid q.kind) near) (filter (λ q. is_solid q.kind) near)) ++ body_of r ∷ []
    by true rest = ap (λ (l : List Bounds). body_of x ∷ l) rest
    by false rest = rest

-- and with one that isn't
pub bodies_with_other : (near : List Rec) (r : Rec) → is_solid r.kind ≡ false → bodies_of_solids (near ++ r ∷ []) ≡ bodies_of_solids near
bodies_with_other [] r other = ap (λ (t : Bool). map body_of (cond t (r ∷ []) [])) other
bodies_with_other (x ∷ near) r other = by (is_solid x.kind) (bodies_with_other near r other)
  where
    by : (t : Bool) → bodies_of_solids (near ++ r ∷ []) ≡ bodies_of_solids near
        → map body_of (cond t (x ∷ filter (λ q. is_solid q.kind) (near ++ r ∷ [])) (filter (λ q. is_solid q.kind) (near ++ r ∷ [])))
        ≡ map body_of (cond t (x ∷ filter (λ q. is_solid q.kind) near) (filter (λ q. is_solid q.kind) near))
    by true rest = ap (λ (l : List Bounds). body_of x ∷ l) rest
    by false rest = rest

module _ {X : Type 0} (p : X → Bool) where
  -- the first that passes stays the first
  pub first_stays : (xs : List X) (x y : X) → find p xs ≡ Some x → find p (xs ++ y ∷ []) ≡ Some x
  first_stays [] x y found = cc
  first_stays (z ∷ xs) x y found = by (p z) found (first_stays xs x y)
    where
      by : (t : Bool) → cond t (Some z) (find p xs) ≡ Some x → (find p xs ≡ Some x → find p (xs ++ y ∷ []) ≡ Some x)
          → cond t (Some z) (find p (xs ++ y ∷ [])) ≡ Some x
      by true found rest = found
      by false found rest = rest found

  -- where none passes, one more is the first or none is
  pub last_is_first : (xs : List X) (y : X) → find p xs ≡ None → find p (xs ++ y ∷ []) ≡ cond (p y) (Some y) None
  last_is_first [] y none = refl
  last_is_first (z ∷ xs) y none = by (p z) none (last_is_first xs y)
    where
      by : (t : Bool) → cond t (Some z) (find p xs) ≡ None → (find p xs ≡ None → find p (xs ++ y ∷ []) ≡ cond (p y) (Some y) None)
          → cond t (Some z) (find p (xs ++ y ∷ [])) ≡ cond (p y) (Some y) None
      by true none rest = cc
      by false none rest = rest none

  -- one that doesn't pass changes nothing
  pub other_is_none : (xs : List X) (y : X) → p y ≡ false → find p (xs ++ y ∷ []) ≡ find p xs
  other_is_none [] y fails = ap (λ (t : Bool). cond t (Some y) None) fails
  other_is_none (z ∷ xs) y fails = ap (cond (p z) (Some z)) (other_is_none xs y fails)

-- ---- blocked by a body

or_is_some : (t x : Bool) (r : Rec) (o : Option Rec) → x ≡ is_some o → (t || x) ≡ is_some (cond t (Some r) o)
or_is_some true x r o same = refl
or_is_some false x r o same = same

-- a box is blocked by the bodies of solids among records exactly where one of these is in its way
pub blocked_by_bodies : (b : Bounds) (near : List Rec) → is_blocked b (bodies_of_solids near) ≡ is_some (find (is_in_way b) near)
blocked_by_bodies b [] = refl
blocked_by_bodies b (r ∷ near) = by (is_solid r.kind) (blocked_by_bodies b near)
  where
    by : (t : Bool) → is_blocked b (bodies_of_solids near) ≡ is_some (find (is_in_way b) near)
        → is_blocked b (map body_of (cond t (r ∷ filter (λ q. is_solid q.kind) near) (filter (λ q. is_solid q.kind) near)))
        ≡ is_some (cond (t && overlaps b (body_of r)) (Some r) (find (is_in_way b) near))
    by true rest = or_is_some (overlaps b (body_of r)) (is_blocked b (bodies_of_solids near)) r (find (is_in_way b) near) rest
    by false rest = rest

-- by a wall, a block, or such a body
pub blocked_by_all : (b : Bounds) (fixed : List Bounds) (near : List Rec)
    → is_blocked b (fixed ++ bodies_of_solids near) ≡ (is_blocked b fixed || is_some (find (is_in_way b) near))
blocked_by_all b fixed near =
    list_any-append (overlaps b) fixed (bodies_of_solids near) ∙ ap (λ (t : Bool). is_blocked b fixed || t) (blocked_by_bodies b near)

-- a box that nothing blocks is in nobody's way
pub record IsClear (b : Bounds) (fixed : List Bounds) (near : List Rec) : Type 0 where
  pub fixed_are : is_blocked b fixed ≡ false
  pub none : find (is_in_way b) near ≡ None

pub clear_where_free : (b : Bounds) (fixed : List Bounds) (near : List Rec) → is_blocked b (fixed ++ bodies_of_solids near) ≡ false → IsClear b fixed near
clear_where_free b fixed near free =
    let t = or_parts (is_blocked b fixed) (is_some (find (is_in_way b) near)) (sym (blocked_by_all b fixed near) ∙ free) in
    record { fixed_are = t.0; none = no_record (find (is_in_way b) near) t.1 }

-- ---- what stops a box, with one record more

-- where something stops it already, it is that
pub stopper_stays : (b : Bounds) (fixed : List Bounds) (near : List Rec) (r : Rec) → is_blocked b (fixed ++ bodies_of_solids near) ≡ true
    → stopper_at b fixed (near ++ r ∷ []) ≡ stopper_at b fixed near
stopper_stays b fixed near r blocked = by (is_blocked b fixed) (find (is_in_way b) near) refl (sym (blocked_by_all b fixed near) ∙ blocked)
  where
    by : (t : Bool) (o : Option Rec) → find (is_in_way b) near ≡ o → (t || is_some (find (is_in_way b) near)) ≡ true
        → cond t None (find (is_in_way b) (near ++ r ∷ [])) ≡ cond t None (find (is_in_way b) near)
    by true o found stops = refl
    by false (Some x) found stops = first_stays (is_in_way b) near x r found ∙ sym found
    by false None found stops = absurd (none_stops (ap is_some found) stops)
      where
        none_stops : is_some (find (is_in_way b) near) ≡ false → is_some (find (is_in_way b) near) ≡ true → ⊥
        none_stops none some = cc

-- where nothing did, and this one does, it is this one
pub stopper_is_last : (b : Bounds) (fixed : List Bounds) (near : List Rec) (r : Rec) → IsClear b fixed near → is_in_way b r ≡ true
    → stopper_at b fixed (near ++ r ∷ []) ≡ Some r
stopper_is_last b fixed near r clear in_way =
    ap (λ (t : Bool). cond t None (find (is_in_way b) (near ++ r ∷ []))) clear.fixed_are
    ∙ last_is_first (is_in_way b) near r clear.none
    ∙ ap (λ (t : Bool). cond t (Some r) None) in_way

-- where it isn't in the way, it changes nothing
pub stopper_without : (b : Bounds) (fixed : List Bounds) (near : List Rec) (r : Rec) → is_in_way b r ≡ false
    → stopper_at b fixed (near ++ r ∷ []) ≡ stopper_at b fixed near
stopper_without b fixed near r apart = ap (cond (is_blocked b fixed) None) (other_is_none (is_in_way b) near r apart)
