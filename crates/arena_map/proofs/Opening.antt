-- The opening world of a map is valid, and its lifts stay inside the arena.
use Rattle.std.proofs.Common.{◌≡◌, ℕ, suc, ◌+◌, ◌-◌, ◌<◌, ◌≤◌, ◌==◌, Bool, true, false, cond, nat_le, List, [], ◌∷◌, length, Option, Some, None, option_and_then, slice_get, refl, sym, ap, ◌∙◌, subst, arith}
use Rattle.std.specs.List.{find, AllByRecursion}
use Rattle.std.proofs.lemmas.Bool.Decides.{nat_tests}
use Rattle.std.proofs.lemmas.Int.{ints}
use Rattle.std.proofs.lemmas.Option.{none-some, same_Some}
use Rattle.std.proofs.lemmas.Bool.{eqb-true}
use Rattle.arena_geo.specs.Bounds.{Bounds}
use Rattle.entity_recs.specs.declared.kind.Kind.{Kind}
use Rattle.entity_recs.specs.declared.kind.Kind.TheVariants as kinds
use Rattle.entity_recs.specs.declared.rec.Rec.{Rec}
use Rattle.entity_recs.specs.Records.{IsMapId}
use Rattle.entity_recs.specs.Kinds.{is_item}
use Rattle.arena_map.specs.declared.lift.Lift as lifts
use Rattle.arena_map.specs.declared.map_line.MapLine.{MapLine}
use Rattle.arena_map.specs.declared.map_line.MapLine.TheVariants.{Arena, Block, Spawn, Item, Teleport, Goal, Lift, Depth, Shots, Blocks}
use Rattle.arena_map.specs.Things.{record_of, records_from, lift_data}
use Rattle.arena_map.specs.Maps.{MapView, entities_of, lift_of, IsThingInside, IsMap}
use Rattle.arena_map.specs.Validity.{IsAsItsLine, IsThing, IsPlayerState, IsPlayerStateOn, IsStateOn, IsValidRecord}
use Rattle.arena_map.specs.Laws.{OpeningWorldIsValid}
use Rattle.arena_map.proofs.Kept.{each-of, few_things}
use Rattle.arena_map.proofs.ThingRecords.{own-id, thing-is_record}

-- ---- the thing with an id

-- the thing that was found by its id: its line, the place of it, and its record
pub record IsFound (arena : Bounds) (first : ℕ) (things : List MapLine) (id : ℕ) (thing : Rec) : Type 0 where
  pub line : MapLine
  pub inside : IsThingInside arena line
  pub low : first ≤ id
  pub high : id < first + length things
  pub at : slice_get things (id - first) ≡ Some line
  pub is : thing ≡ record_of id line

found-here : (arena : Bounds) (first : ℕ) (line : MapLine) (things : List MapLine) (id : ℕ) (thing : Rec) → IsThingInside arena line → first ≡ id
    → record_of first line ≡ thing → IsFound arena first (line ∷ things) id thing
found-here arena first line things id thing inside here is =
    let place : 0 ≡ id - first = omega (arith, here) in
    record {
      line = line;
      inside = inside;
      low = omega (arith, here);
      high = omega (arith, here);
      at = ap (slice_get (line ∷ things)) (sym place);
      is = sym is ∙ ap (λ n. record_of n line) here;
    }

found-later : (arena : Bounds) (first : ℕ) (line : MapLine) (things : List MapLine) (id : ℕ) (thing : Rec) → IsFound arena (first + 1) things id thing
    → IsFound arena first (line ∷ things) id thing
found-later arena first line things id thing found =
    let place : suc (id - (first + 1)) ≡ id - first = omega (arith, found.low) in
    record {
      line = found.line;
      inside = found.inside;
      low = omega (arith, found.low);
      high = omega (arith, found.high);
      at = ap (slice_get (line ∷ things)) (sym place) ∙ found.at;
      is = found.is;
    }

pub found : (arena : Bounds) (first : ℕ) (things : List MapLine) (id : ℕ) (thing : Rec) → AllByRecursion (IsThingInside arena) things
    → find (λ t. t.id == id) (records_from first things) ≡ Some thing → IsFound arena first things id thing
found arena first [] id thing each h = absurd (none-some thing h)
found arena first (line ∷ things) id thing each h =
    by ((record_of first line).id == id) refl h (found arena (first + 1) things id thing each.1)
  where
    by : (b : Bool) → ((record_of first line).id == id) ≡ b → cond b (Some (record_of first line)) (find (λ t. t.id == id) (records_from (first + 1) things)) ≡ Some thing
        → (find (λ t. t.id == id) (records_from (first + 1) things) ≡ Some thing → IsFound arena (first + 1) things id thing) → IsFound arena first (line ∷ things) id thing
    by true e g later =
        found-here arena first line things id thing each.0 (sym (own-id first line each.0.thing) ∙ eqb-true _ _ e) (same_Some (record_of first line) thing g)
    by false e g later = found-later arena first line things id thing (later g)

-- the thing of a map
pub found-in : (map : MapView) (id : ℕ) (thing : Rec) → IsMap map → find (λ t. t.id == id) (entities_of map) ≡ Some thing → IsFound map.bounds 64 map.things id thing
found-in map id thing is h =
    found map.bounds 64 map.things id thing (each-of (IsThingInside map.bounds) (IsThingInside map.bounds) map.things (λ line inside. inside) is.things) h

-- its data are those of its line
pub lift-of-line : (map : MapView) (id : ℕ) (line : MapLine) → 64 ≤ id → slice_get map.things (id - 64) ≡ Some line → lift_of map id ≡ lift_data line
lift-of-line map id line low at =
    let least : nat_le 64 id ≡ true = grind (arith, nat_tests) in
    ap (λ b. option_and_then lift_data (cond b (slice_get map.things (id - 64)) None)) least ∙ ap (option_and_then lift_data) at

-- ---- the opening world

-- a thing at the start is as its line says
at-start : (arena : Bounds) (id : ℕ) (line : MapLine) → IsThingInside arena line → IsAsItsLine (lift_data line) (record_of id line) (record_of id line)
at-start arena id (Lift lo hi rise speed) inside =
    let least = inside.limits.2 in
    record { kind = refl; x = refl; y = refl; low = omega (arith, ints); high = omega (arith, ints, least); mins = refl; maxs = refl }
at-start arena id (Item at kind delay) inside = record { kind = refl; origin = refl; mins = refl; maxs = refl }
at-start arena id (Teleport lo hi dest) inside = record { kind = refl; origin = refl; mins = refl; maxs = refl }
at-start arena id (Goal lo hi) inside = record { kind = refl; origin = refl; mins = refl; maxs = refl }
at-start arena id (Arena lo hi) inside = let no = inside.thing in cc
at-start arena id (Block lo hi) inside = let no = inside.thing in cc
at-start arena id (Spawn at) inside = let no = inside.thing in cc
at-start arena id (Depth depth) inside = let no = inside.thing in cc
at-start arena id Shots inside = let no = inside.thing in cc
at-start arena id (Blocks most) inside = let no = inside.thing in cc

item-state : (map : MapView) (kind : Kind) → is_item kind ≡ true → IsStateOn map kind 0
item-state map kinds.Ammo h = tt
item-state map kinds.Gem h = tt
item-state map kind h = cc

state-at-start : (map : MapView) (id : ℕ) (line : MapLine) → IsThingInside map.bounds line → IsStateOn map (record_of id line).kind (record_of id line).state
state-at-start map id (Item at kind delay) inside = item-state map kind inside.limits.1
state-at-start map id (Teleport lo hi dest) inside = refl
state-at-start map id (Goal lo hi) inside = refl
state-at-start map id (Lift lo hi rise speed) inside = omega arith
state-at-start map id (Arena lo hi) inside = let no = inside.thing in cc
state-at-start map id (Block lo hi) inside = let no = inside.thing in cc
state-at-start map id (Spawn at) inside = let no = inside.thing in cc
state-at-start map id (Depth depth) inside = let no = inside.thing in cc
state-at-start map id Shots inside = let no = inside.thing in cc
state-at-start map id (Blocks most) inside = let no = inside.thing in cc

no-player : (kind : Kind) → is_item kind ≡ true → kind ≡ kinds.Player → ⊥
no-player kind h e = let P : Kind → Type 0 = λ k. is_item k ≡ true in let no : is_item kinds.Player ≡ true = subst P e h in cc

player-at-start : (arena : Bounds) (id : ℕ) (line : MapLine) → IsThingInside arena line → (record_of id line).kind ≡ kinds.Player → ⊥
player-at-start arena id (Item at kind delay) inside e = no-player kind inside.limits.1 e
player-at-start arena id (Teleport lo hi dest) inside e = cc
player-at-start arena id (Goal lo hi) inside e = cc
player-at-start arena id (Lift lo hi rise speed) inside e = cc
player-at-start arena id (Arena lo hi) inside e = let no = inside.thing in cc
player-at-start arena id (Block lo hi) inside e = let no = inside.thing in cc
player-at-start arena id (Spawn at) inside e = let no = inside.thing in cc
player-at-start arena id (Depth depth) inside e = let no = inside.thing in cc
player-at-start arena id Shots inside e = let no = inside.thing in cc
player-at-start arena id (Blocks most) inside e = let no = inside.thing in cc

valid-at-start : (map : MapView) (id : ℕ) (thing : Rec) → IsMap map → IsFound map.bounds 64 map.things id thing → IsValidRecord map id thing
valid-at-start map id thing is found =
    let few = few_things map is in
    let own : IsMapId id = record { least = found.low; most = omega (arith, found.high, few) } in
    let P : Rec → Type 0 = IsValidRecord map id in
    subst P (sym found.is) (record {
      is_record = thing-is_record map.bounds id found.line own found.inside;
      own_id = own-id id found.line found.inside.thing;
      state = state-at-start map id found.line found.inside;
      inside = λ e. absurd (player-at-start map.bounds id found.line found.inside e);
    })

thing-at-start : (map : MapView) (id : ℕ) (thing : Rec) → IsFound map.bounds 64 map.things id thing → IsAsItsLine (lift_of map thing.id) thing thing
thing-at-start map id thing found =
    let P : Rec → Type 0 = λ t. IsAsItsLine (lift_of map t.id) t t in
    let Q : Option lifts.Lift → Type 0 = λ l. IsAsItsLine l (record_of id found.line) (record_of id found.line) in
    let lift = ap (lift_of map) (own-id id found.line found.inside.thing) ∙ lift-of-line map id found.line found.low found.at in
    subst P (sym found.is) (subst Q (sym lift) (at-start map.bounds id found.line found.inside))

things-at-start : (map : MapView) (id : ℕ) (o : Option Rec) → IsMap map → find (λ t. t.id == id) (entities_of map) ≡ o → IsThing map o o
things-at-start map id None is h = tt
things-at-start map id (Some thing) is h = thing-at-start map id thing (found-in map id thing is h)

-- the world in which only the things are live, as at the start, is valid
pub opening-is_valid : OpeningWorldIsValid
opening-is_valid map records is opening = record {
  each = λ id r e. valid-at-start map id r is (found-in map id r is (sym (opening id) ∙ e));
  things = λ id low.
      let P : Option Rec → Type 0 = IsThing map (find (λ t. t.id == id) (entities_of map)) in
      subst P (sym (opening id)) (things-at-start map id (find (λ t. t.id == id) (entities_of map)) is refl);
}

-- no slot of a player is the id of a thing
pub no-thing-below : (map : MapView) (slot : ℕ) → IsMap map → slot < 64 → find (λ t. t.id == slot) (entities_of map) ≡ None
no-thing-below map slot is below = by (find (λ t. t.id == slot) (entities_of map)) refl
  where
    by : (o : Option Rec) → find (λ t. t.id == slot) (entities_of map) ≡ o → o ≡ None
    by None h = refl
    by (Some thing) h = let found = found-in map slot thing is h in absurd (omega (arith, below, found.low))

-- 0 is a player's state on each map
pub begins_unhurt : (map : MapView) → IsPlayerStateOn map 0
begins_unhurt map = by map.shots
  where
    by : (shots : Bool) → IsPlayerState shots 0
    by false = refl
    by true = tt
