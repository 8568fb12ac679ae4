-- What a snapshot of a world shows.
use Rattle.std.proofs.Common.{◌≡◌, ℕ, zero, suc, ◌+◌, ◌^◌, ◌<◌, ◌≤◌, ◌==◌, Bool, true, false, ◌&&◌, ◌||◌, not, cond, ◌⊎◌, inl, inr, List, [], ◌∷◌, ◌++◌, length, map, filter, flat_map, Option, Some, None, refl, ap, sym, ◌∙◌, subst, arith}
use Rattle.std.specs.Prelude.{nat_lt, slice_index_or, Contains, if◌then◌else◌, Ok, IfSome}
use Rattle.std.specs.Int.{w16, w32, to_le_bytes}
use Rattle.std.specs.List.{list_any}
use Rattle.std.proofs.lemmas.Bool.{eqb-true, eqb-false}
use Rattle.std.proofs.lemmas.Bool.Decides.{nat_tests}
use Rattle.std.proofs.lemmas.List.{length-map}
use Rattle.std.proofs.lemmas.Int.{fits_signed_from_abs}
use Rattle.std.proofs.Math.Bool.{or-true}
use Rattle.arena_geo.specs.declared.vec3.Vec3.{Vec3}
use Rattle.arena_geo.specs.Vectors.{IsNear, Fits}
use Rattle.arena_geo.specs.Boxes.{touches}
use Rattle.entity_recs.specs.declared.kind.Kind.{Kind}
use Rattle.entity_recs.specs.declared.kind.Kind.TheVariants.{Player, Ammo, Gem, Teleporter, Goal, Lift}
use Rattle.entity_recs.specs.declared.rec.Rec.{Rec}
use Rattle.entity_recs.specs.declared.bodies.TheConstants.{PLAYER_MINS, PLAYER_MAXS}
use Rattle.entity_recs.specs.Kinds.{is_item}
use Rattle.entity_recs.specs.Records.{IsIdOf, IsShapeOf, HasCorners, IsRecord, with_state}
use Rattle.entity_recs.specs.Bodies.{abs_of}
use Rattle.world_tree.specs.Live.{record_at, live_in, IsEntry, AreEntries}
use Rattle.entity_recs.specs.declared.limits.TheConstants.{IDS}
use Rattle.entity_recs.proofs.Ids.{id_in}
use Rattle.snapshot_write.specs.declared.seen.Seen.{Seen}
use Rattle.snapshot_write.specs.declared.snapshot.Snapshot.{Snapshot}
use Rattle.snapshot_write.specs.Snapshots.{view_of, is_seen, seen_by, status_at, entity_bytes, own_bytes, snapshot}
use Rattle.snapshot_write.specs.Reading.{reading}
use Rattle.snapshot_write.specs.Spelling.{status_of, block_of, spelling, IsOwn, IsSeen, AreSeen, ids_of, is_rising, IsSnapshot}
use Rattle.snapshot_write.specs.Shown.{is_here, shown_as, snapshot_shown_to, IsInSight, IsShownTo}
use Rattle.snapshot_write.specs.Laws.{HasCounts}
use Rattle.snapshot_write.proofs.InView.{few_are_seen}
use Rattle.snapshot_write.proofs.Again.{snapshot_again}

-- ---- the bytes of a world's snapshot are the spelling of what it shows

status_is : (kind : Kind) (state : ℕ) → status_at kind state ≡ status_of (is_here kind state)
status_is Player state = refl
status_is Ammo state = by_test (state == 0)
  where
    by_test : (b : Bool) → (if b then 1 else 0) ≡ status_of b
    by_test true = refl
    by_test false = refl
status_is Gem state = by_test (state == 0)
  where
    by_test : (b : Bool) → (if b then 1 else 0) ≡ status_of b
    by_test true = refl
    by_test false = refl
status_is Teleporter state = refl
status_is Goal state = refl
status_is Lift state = refl

entity_is : (r : Rec) → entity_bytes r ≡ block_of (shown_as r)
entity_is r = rw (status_is r.kind r.state) refl

entities_are : (rs : List Rec) → flat_map entity_bytes rs ≡ flat_map block_of (map shown_as rs)
entities_are [] = refl
entities_are (r ∷ rs) =
    ap (λ l. l ++ flat_map entity_bytes rs) (entity_is r) ∙ ap (λ l. block_of (shown_as r) ++ l) (entities_are rs)

pub snapshot_spelled : (frame : ℕ) (me : Rec) (records : List Rec) → snapshot frame me records ≡ spelling (snapshot_shown_to frame me records)
snapshot_spelled frame me records =
    let seen = seen_by me records in
    ap (λ l. own_bytes frame me ++ (to_le_bytes w16 (length seen) ++ l)) (entities_are seen)
    ∙ ap (λ n. own_bytes frame me ++ (to_le_bytes w16 n ++ flat_map block_of (map shown_as seen))) (sym (length-map seen shown_as))

-- ---- and it is in range

-- each place from this one on has a record of its own id
abbrev AreFrom : ℕ → List (Option Rec) → Type 0
AreFrom first places = (i : ℕ) (r : Rec) → record_at places i ≡ Some r → IsEntry (first + i) r

moved_on : (first : ℕ) (place : Option Rec) (places : List (Option Rec)) → AreFrom first (place ∷ places) → AreFrom (suc first) places
moved_on first place places from i r at =
    let same : first + suc i ≡ suc first + i = omega arith in
    subst (λ id. IsEntry id r) same (from (suc i) r at)

from_start : (records : List (Option Rec)) → AreEntries records → AreFrom 0 records
from_start records entries i r at =
    let same : i ≡ 0 + i = omega arith in
    subst (λ id. IsEntry id r) same (entries i r at)

first_id : (first : ℕ) (r : Rec) (places : List (Option Rec)) → AreFrom first (Some r ∷ places) → r.id ≡ first
first_id first r places from = let own = (from 0 r refl).own_id in omega (arith, own)

-- each id is at least this
abbrev AreAbove : ℕ → List Seen → Type 0
AreAbove least [] = Unit {0}
AreAbove least (s ∷ seen) = (least ≤ s.id) × AreAbove least seen

lower : (least : ℕ) (seen : List Seen) → AreAbove (suc least) seen → AreAbove least seen
lower least [] above = tt
lower least (s ∷ seen) above = (omega (arith, above.0), lower least seen above.1)

-- an id below all that come after it
rising_on : (s : Seen) (seen : List Seen) → AreAbove (suc s.id) seen → is_rising (ids_of seen) ≡ true → is_rising (ids_of (s ∷ seen)) ≡ true
rising_on s [] above rising = refl
rising_on s (t ∷ seen) above rising =
    let less : nat_lt s.id t.id ≡ true = grind (arith, nat_tests, above.0) in
    rw (less, rising) refl

item_is : (kind : Kind) (state : ℕ) → (is_here kind state || is_item kind) ≡ true
item_is Player state = refl
item_is Ammo state = or-true (state == 0)
item_is Gem state = or-true (state == 0)
item_is Teleporter state = refl
item_is Goal state = refl
item_is Lift state = refl

near_fits : (far : ℕ) (v : Vec3) → far ≤ 1048576 → IsNear far v → Fits v
near_fits far v le near = record {
  x = fits_signed_from_abs w32 v.x (omega (arith, near.x, le));
  y = fits_signed_from_abs w32 v.y (omega (arith, near.y, le));
  z = fits_signed_from_abs w32 v.z (omega (arith, near.z, le));
}

record_seen : (r : Rec) → IsRecord r → IsSeen (shown_as r)
record_seen r is = record { id = id_in r.kind r.id is.id; origin = near_fits 1048576 r.origin (omega arith) is.origin; here = item_is r.kind r.state }

-- what is shown of places is in order and in range
record IsOrderly (first : ℕ) (seen : List Seen) : Type 0 where
  above : AreAbove first seen
  rising : is_rising (ids_of seen) ≡ true
  right : AreSeen seen

passed_on : (first : ℕ) (r : Rec) (seen : List Seen) (b : Bool) → r.id ≡ first → IsRecord r → IsOrderly (suc first) seen
    → IsOrderly first (cond b (shown_as r ∷ seen) seen)
passed_on first r seen true own is rest = record {
  above = (omega (arith, own), lower first seen rest.above);
  rising = rising_on (shown_as r) seen (subst (λ n. AreAbove (suc n) seen) (sym own) rest.above) rest.rising;
  right = (record_seen r is, rest.right);
}
passed_on first r seen false own is rest = record { above = lower first seen rest.above; rising = rest.rising; right = rest.right }

orderly : (p : Rec → Bool) (first : ℕ) (places : List (Option Rec)) → AreFrom first places
    → IsOrderly first (map shown_as (filter p (live_in places)))
orderly p first [] from = record { above = tt; rising = refl; right = tt }
orderly p first (None ∷ places) from =
    let rest = orderly p (suc first) places (moved_on first None places from) in
    record { above = lower first _ rest.above; rising = rest.rising; right = rest.right }
orderly p first (Some r ∷ places) from =
    by_test (p r) (passed_on first r (map shown_as (filter p (live_in places))) (p r) (first_id first r places from) (from 0 r refl).is_record
    (orderly p (suc first) places (moved_on first (Some r) places from)))
  where
    by_test : (b : Bool) → IsOrderly first (cond b (shown_as r ∷ map shown_as (filter p (live_in places))) (map shown_as (filter p (live_in places))))
        → IsOrderly first (map shown_as (cond b (r ∷ filter p (live_in places)) (filter p (live_in places))))
    by_test true is = is
    by_test false is = is

-- the player isn't among them
without_me : (me : Rec) (rs : List Rec) → list_any (λ id. id == me.id) (ids_of (map shown_as (filter (is_seen me) rs))) ≡ false
without_me me [] = refl
without_me me (r ∷ rs) = by_test (touches (abs_of r) (view_of me.origin)) (r.id == me.id) (without_me me rs) refl
  where
    rest : List Rec
    rest = filter (is_seen me) rs

    by_test : (t same : Bool) → list_any (λ id. id == me.id) (ids_of (map shown_as rest)) ≡ false → (r.id == me.id) ≡ same
        → list_any (λ id. id == me.id) (ids_of (map shown_as (cond (t && not same) (r ∷ rest) rest))) ≡ false
    by_test true true none is = none
    by_test true false none is = rw (is, none) refl
    by_test false true none is = none
    by_test false false none is = none

-- a slot is a player's
record IsPlayers (kind : Kind) (mins maxs : Vec3) : Type 0 where
  kind_is : kind ≡ Player
  body : HasCorners PLAYER_MINS PLAYER_MAXS mins maxs

players : (kind : Kind) (id : ℕ) (origin mins maxs : Vec3) → id < 64 → IsIdOf kind id → IsShapeOf kind origin mins maxs
    → IsPlayers kind mins maxs
players Player id origin mins maxs slot is shape = record { kind_is = refl; body = shape }
players Ammo id origin mins maxs slot is shape = absurd (omega (arith, slot, is.least))
players Gem id origin mins maxs slot is shape = absurd (omega (arith, slot, is.least))
players Teleporter id origin mins maxs slot is shape = absurd (omega (arith, slot, is.least))
players Goal id origin mins maxs slot is shape = absurd (omega (arith, slot, is.least))
players Lift id origin mins maxs slot is shape = absurd (omega (arith, slot, is.least))

own_shown : (me : Rec) → me.id < 64 → IsRecord me → HasCounts me → IsOwn (with_state me 0)
own_shown me slot is counts =
    let player = players me.kind me.id me.origin me.mins me.maxs slot is.id is.shape in
    record {
      slot = omega (arith, slot);
      kind = player.kind_is;
      origin = near_fits 1048576 me.origin (omega arith) is.origin;
      body = player.body;
      vel = near_fits 512000 me.vel (omega arith) is.vel;
      flags = is.flags;
      ammo = is.ammo;
      carry = is.carry;
      score = counts.score;
      seq = counts.seq;
      state = refl;
    }

shown_in_range : (records : List (Option Rec)) (frame slot : ℕ) (me : Rec) → length records ≡ IDS → AreEntries records → frame < 2 ^ 32
    → slot < 64 → record_at records slot ≡ Some me → HasCounts me → IsSnapshot (snapshot_shown_to frame me (live_in records))
shown_in_range records frame slot me places entries fits small at counts =
    let entry = entries slot me at in
    let own_id = entry.own_id in
    let orderly = orderly (is_seen me) 0 records (from_start records entries) in
    let few = few_are_seen me records slot places at in
    record {
      frame = fits;
      own = own_shown me (omega (arith, own_id, small)) entry.is_record counts;
      count = rw (length-map (seen_by me (live_in records)) shown_as) few;
      seen = orderly.right;
      rising = orderly.rising;
      others = without_me me (live_in records);
    }

-- the snapshot of a player of a world is read as what it shows
pub written_read : (records : List (Option Rec)) (frame slot : ℕ) (me : Rec) → length records ≡ IDS → AreEntries records → frame < 2 ^ 32
    → slot < 64 → record_at records slot ≡ Some me → HasCounts me
    → reading (snapshot frame me (live_in records)) ≡ Ok (snapshot_shown_to frame me (live_in records))
written_read records frame slot me places entries fits small at counts =
    ap reading (snapshot_spelled frame me (live_in records))
    ∙ snapshot_again (snapshot_shown_to frame me (live_in records)) (shown_in_range records frame slot me places entries fits small at counts)

-- ---- it shows who is in sight

-- the entity is one of the list
abbrev Has : List Seen → Seen → Type 0
Has [] s = ⊥
Has (t ∷ seen) s = (t ≡ s) ⊎ Has seen s

has_at : (seen : List Seen) (s : Seen) (k : ℕ) → k < length seen → slice_index_or seen k s ≡ s → Has seen s
has_at [] s k inside is = absurd (omega (arith, inside))
has_at (t ∷ seen) s zero inside is = inl is
has_at (t ∷ seen) s (suc k) inside is = inr (has_at seen s k (omega (arith, inside)) is)

has : (seen : List Seen) (s : Seen) → Contains seen s → Has seen s
has seen s (k, inside, is) = has_at seen s k inside is

contained : (seen : List Seen) (s : Seen) → Has seen s → Contains seen s
contained [] s h = absurd h
contained (t ∷ seen) s (inl e) = (0, omega arith, e)
contained (t ∷ seen) s (inr h) = one_on (contained seen s h)
  where
    one_on : Contains seen s → Contains (t ∷ seen) s
    one_on (k, inside, is) = (suc k, omega (arith, inside), is)

-- a record at a place that passes a test, as it is shown
record IsPassed (p : Rec → Bool) (places : List (Option Rec)) (s : Seen) : Type 0 where
  place : ℕ
  it : Rec
  at : record_at places place ≡ Some it
  passes : p it ≡ true
  is : s ≡ shown_as it

passed : (p : Rec → Bool) (places : List (Option Rec)) (s : Seen) → Has (map shown_as (filter p (live_in places))) s → IsPassed p places s
passed p [] s h = absurd h
passed p (None ∷ places) s h =
    let rest = passed p places s h in
    record { place = suc rest.place; it = rest.it; at = rest.at; passes = rest.passes; is = rest.is }
passed p (Some r ∷ places) s h = by_test (λ rest. passed p places s rest) (p r) refl h
  where
    one_on : IsPassed p places s → IsPassed p (Some r ∷ places) s
    one_on rest = record { place = suc rest.place; it = rest.it; at = rest.at; passes = rest.passes; is = rest.is }

    by_test : (Has (map shown_as (filter p (live_in places))) s → IsPassed p places s) → (b : Bool) → p r ≡ b
        → Has (map shown_as (cond b (r ∷ filter p (live_in places)) (filter p (live_in places)))) s
        → IsPassed p (Some r ∷ places) s
    by_test after true e (inl here) = record { place = 0; it = r; at = refl; passes = e; is = sym here }
    by_test after true e (inr rest) = one_on (after rest)
    by_test after false e rest = one_on (after rest)

passes_in : (p : Rec → Bool) (places : List (Option Rec)) (i : ℕ) (r : Rec) → record_at places i ≡ Some r → p r ≡ true
    → Has (map shown_as (filter p (live_in places))) (shown_as r)
passes_in p [] i r at e = absurd cc
passes_in p (None ∷ places) zero r at e = absurd cc
passes_in p (None ∷ places) (suc i) r at e = passes_in p places i r at e
passes_in p (Some t ∷ places) zero r at e =
    let same : t ≡ r = cc in
    let e' : p t ≡ true = ap p same ∙ e in
    rw e' (inl (ap shown_as same))
passes_in p (Some t ∷ places) (suc i) r at e = by_test (p t) (passes_in p places i r at e)
  where
    by_test : (b : Bool) → Has (map shown_as (filter p (live_in places))) (shown_as r)
        → Has (map shown_as (cond b (t ∷ filter p (live_in places)) (filter p (live_in places)))) (shown_as r)
    by_test true h = inr h
    by_test false h = h

-- in the view, and another's
touched_parts : (t same : Bool) → (t && not same) ≡ true → (t ≡ true) × (same ≡ false)
touched_parts true true e = absurd cc
touched_parts true false e = (refl, refl)
touched_parts false same e = absurd cc

pub in_sight : (records : List (Option Rec)) (me : Rec) → AreEntries records → (s : Seen)
    → Contains (map shown_as (seen_by me (live_in records))) s → IsInSight records me s
in_sight records me entries s shows =
    let found = passed (is_seen me) records s (has _ s shows) in
    let own_id = (entries found.place found.it found.at).own_id in
    let same : s.id ≡ found.place = ap (λ (t : Seen). t.id) found.is ∙ own_id in
    let parts = touched_parts (touches (abs_of found.it) (view_of me.origin)) (found.it.id == me.id) found.passes in
    record {
      it = found.it;
      live = ap (record_at records) same ∙ found.at;
      other = λ e. eqb-false found.it.id me.id parts.1 (sym (ap (λ (t : Seen). t.id) found.is) ∙ e);
      touched = parts.0;
      is = found.is;
    }

other_is : (a b : ℕ) → (a ≡ b → ⊥) → (a == b) ≡ false
other_is a b apart = by_test (a == b) refl
  where
    by_test : (same : Bool) → (a == b) ≡ same → same ≡ false
    by_test true e = absurd (apart (eqb-true a b e))
    by_test false e = refl

pub sight_in : (records : List (Option Rec)) (me : Rec) → (s : Seen) → IsInSight records me s
    → Contains (map shown_as (seen_by me (live_in records))) s
sight_in records me s sight =
    let same : sight.it.id ≡ s.id = sym (ap (λ (t : Seen). t.id) sight.is) in
    let other : (sight.it.id == me.id) ≡ false = other_is sight.it.id me.id (λ e. sight.other (sym same ∙ e)) in
    let passes : is_seen me sight.it ≡ true = rw (sight.touched, other) refl in
    contained _ s (rw sight.is (passes_in (is_seen me) records s.id sight.it sight.live passes))

-- ---- and two snapshots of a world agree

-- one record is at one place
one_at_place : (place : Option Rec) (a b : Rec) → place ≡ Some a → place ≡ Some b → a ≡ b
one_at_place place a b e f = cc

sight_of : (records : List (Option Rec)) → AreEntries records → (slot : ℕ) (s : Snapshot) (to : IsShownTo records slot s) (p : Seen)
    → Contains s.seen p → IsInSight records to.me p
sight_of records entries slot s to p shows =
    in_sight records to.me entries p (subst (λ (t : Snapshot). Contains t.seen p) to.is shows)

pub third_agrees : (records : List (Option Rec)) → AreEntries records → (a b : ℕ) (s t : Snapshot) → IsShownTo records a s → IsShownTo records b t
    → (p q : Seen) → Contains s.seen p → Contains t.seen q → p.id ≡ q.id → p ≡ q
third_agrees records entries a b s t to other p q shows also same =
    let first = sight_of records entries a s to p shows in
    let second = sight_of records entries b t other q also in
    let it = one_at_place (record_at records q.id) first.it second.it (ap (record_at records) (sym same) ∙ first.live) second.live in
    first.is ∙ ap shown_as it ∙ sym second.is

pub other_agrees : (records : List (Option Rec)) → AreEntries records → (a b : ℕ) (s t : Snapshot) → IsShownTo records a s → IsShownTo records b t
    → (p : Seen) → Contains s.seen p → p.id ≡ t.own.id → p.origin ≡ t.own.origin
other_agrees records entries a b s t to other p shows same =
    let sight = sight_of records entries a s to p shows in
    let own : t.own ≡ with_state other.me 0 = ap (λ (u : Snapshot). u.own) other.is in
    let id : p.id ≡ b = same ∙ ap (λ (r : Rec). r.id) own ∙ (entries b other.me other.live).own_id in
    let it = one_at_place (record_at records b) sight.it other.me (ap (record_at records) (sym id) ∙ sight.live) other.live in
    ap (λ (u : Seen). u.origin) sight.is ∙ ap (λ (r : Rec). r.origin) it ∙ sym (ap (λ (r : Rec). r.origin) own)

-- ---- what is written is read again

pub written_out : (records : List (Option Rec)) (frame slot : ℕ) (me : Rec) (out : List ℕ) → record_at records slot ≡ Some me
    → IfSome (record_at records slot) (λ r. out ≡ snapshot frame r (live_in records))
    → length records ≡ IDS → AreEntries records → frame < 2 ^ 32 → slot < 64 → HasCounts me
    → IfSome (record_at records slot) (λ r. reading out ≡ Ok (snapshot_shown_to frame r (live_in records)))
written_out records frame slot me out at written places entries fits small counts =
    let here = subst (λ (place : Option Rec). IfSome place (λ r. out ≡ snapshot frame r (live_in records))) at written in
    subst (λ (place : Option Rec). IfSome place (λ r. reading out ≡ Ok (snapshot_shown_to frame r (live_in records)))) (sym at)
    (ap reading here ∙ written_read records frame slot me places entries fits small at counts)
