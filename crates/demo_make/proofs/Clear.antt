-- No thing of the map is at a spawn, wherever its lift is.
use Rattle.std.proofs.Common.{◌≡◌, ℕ, Bool, true, false, not, ◌&&◌, ◌||◌, List, [], ◌∷◌, Option, Some, None, refl, sym, ap, ◌∙◌, subst, inl, inr}
use Rattle.std.specs.Prelude.{◌==◌, if◌then◌else◌}
use Rattle.std.specs.List.{range_with_len, list_all, find}
use Rattle.std.proofs.lemmas.Bool.{cases_lt}
use Rattle.arena_geo.specs.Boxes.{overlaps_on}
use Rattle.entity_recs.specs.declared.rec.Rec.{Rec}
use Rattle.entity_recs.specs.Bodies.{body_of, player_body}
use Rattle.entity_recs.specs.Kinds.{is_solid}
use Rattle.arena_map.specs.declared.lift.Lift.{Lift}
use Rattle.arena_map.specs.Maps.{entities_of, lift_of}
use Rattle.arena_map.specs.Validity.{IsAsItsLine, IsThing}
use Rattle.demo_make.specs.GeneratedMap.{generated_map, spawn_at}
use Rattle.demo_make.specs.Accepting.{IsClearOfSpawns, SpawnsAreClear}
use Rattle.demo_make.proofs.MapKept.{pass-at}

-- along x the thing is beside every player at a spawn
abbrev meets_on_x : Rec → ℕ → Bool
meets_on_x r i =
    overlaps_on (player_body (spawn_at i)).lo.x (player_body (spawn_at i)).hi.x (body_of r).lo.x (body_of r).hi.x

abbrev is_beside : Rec → Bool
is_beside thing = not (is_solid thing.kind) || list_all (λ i. not (meets_on_x thing i)) (range_with_len 0 64)

all-beside : list_all is_beside (entities_of generated_map) ≡ true
all-beside = refl

found-passes : {X : Type 0} (p q : X → Bool) (xs : List X) (x : X) → list_all q xs ≡ true → find p xs ≡ Some x → q x ≡ true
found-passes p q [] x all e = absurd (none_some e)
  where
    none_some : {X : Type 0} {x : X} → None ≡ Some x → ⊥
    none_some e = cc
found-passes {X} p q (y ∷ ys) x all e = by (p y) (q y) refl e all (λ more h. found-passes p q ys x more h)
  where
    same : (a b : X) → Some a ≡ Some b → a ≡ b
    same a b h = cc

    by : (found passes : Bool) → q y ≡ passes → (if found then Some y else find p ys) ≡ Some x → (passes && list_all q ys) ≡ true
        → (list_all q ys ≡ true → find p ys ≡ Some x → q x ≡ true) → q x ≡ true
    by true true own h more rest = sym (ap q (same y x h)) ∙ own
    by false true own h more rest = rest more h
    by found false own h more rest = cc

-- what is the same of a thing and its record, wherever it is along z
record IsAlike (thing r : Rec) : Type 0 where
  kind : r.kind ≡ thing.kind
  x : r.origin.x ≡ thing.origin.x
  mins : r.mins ≡ thing.mins
  maxs : r.maxs ≡ thing.maxs

alike : (lift : Option Lift) (thing r : Rec) → IsAsItsLine lift thing r → IsAlike thing r
alike None thing r is = record { kind = is.kind; x = ap (λ o. o.x) is.origin; mins = is.mins; maxs = is.maxs }
alike (Some lift) thing r is = record { kind = is.kind; x = is.x; mins = is.mins; maxs = is.maxs }

meets-alike : (thing r : Rec) (i : ℕ) → IsAlike thing r → meets_on_x r i ≡ meets_on_x thing i
meets-alike thing r i like = rw like.x (rw like.mins (rw like.maxs refl))

beside-clear : (thing r : Rec) → IsAlike thing r → is_beside thing ≡ true → is_solid r.kind ≡ true → IsClearOfSpawns r
beside-clear thing r like beside solid i below =
    let kind : is_solid thing.kind ≡ true = sym (ap is_solid like.kind) ∙ solid in
    let each = split (is_solid thing.kind) (list_all (λ k. not (meets_on_x thing k)) (range_with_len 0 64)) kind beside in
    let apart = pass-at (λ k. not (meets_on_x thing k)) 64 i each below in
    let none : meets_on_x r i ≡ false = meets-alike thing r i like ∙ not-true (meets_on_x thing i) apart in
    rw none refl
  where
    split : (a b : Bool) → a ≡ true → (not a || b) ≡ true → b ≡ true
    split true b e h = h
    split false b e h = cc

    not-true : (b : Bool) → not b ≡ true → b ≡ false
    not-true false h = refl
    not-true true h = cc

pub spawns_are_clear : SpawnsAreClear
spawns_are_clear records valid nobody id r e solid = elim (cases_lt id 64) [
  | inl below ↦ absurd (none_some r (sym (nobody id below) ∙ e))
  | inr above ↦ at (find (λ thing. thing.id == id) (entities_of generated_map)) refl (subst (IsThing generated_map (find (λ thing. thing.id == id) (entities_of generated_map))) e (valid.things id above))
]
  where
    none_some : (r : Rec) → None ≡ Some r → ⊥
    none_some r h = cc

    at : (thing : Option Rec) → find (λ thing. thing.id == id) (entities_of generated_map) ≡ thing → IsThing generated_map thing (Some r) → IsClearOfSpawns r
    at None f is = absurd is
    at (Some thing) f is =
        beside-clear thing r (alike (lift_of generated_map thing.id) thing r is)
        (found-passes (λ t. t.id == id) is_beside (entities_of generated_map) thing all-beside f) solid
