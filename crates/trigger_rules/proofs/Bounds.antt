-- That a player on a map stays one, and that new states are apart.
use Rattle.std.proofs.Common.{◌≡◌, ℕ, zero, suc, ◌+◌, ◌-◌, ◌<◌, ◌≤◌, ◌==◌, nat_le, nat_lt, slice_index, bit_or, Bool, true, false, if◌then◌else◌, List, [], ◌∷◌, length, All, Option, Some, None, option_and_then, slice_get, refl, sym, ap, ◌∙◌, subst, inl, inr, arith}
use Rattle.std.specs.List.{AllByRecursion, IsDistinct}
use Rattle.std.specs.List.Sorted.{IsStrictlyIncreasing}
use Rattle.std.proofs.lemmas.Bool.{ne_eqb, and_parts}
use Rattle.std.proofs.lemmas.Bool.Decides.{nat_tests}
use Rattle.std.proofs.lemmas.List.Elements.{All-head, All-tail}
use Rattle.std.proofs.lemmas.List.Kept.{AllPairs-from_increasing}
use Rattle.std.proofs.lemmas.Option.{none-some, same_Some}
use Rattle.arena_geo.specs.declared.vec3.Vec3.{Vec3}
use Rattle.arena_geo.specs.Bounds.{Bounds}
use Rattle.arena_geo.specs.Boxes.{contains}
use Rattle.entity_recs.specs.declared.effect.NewState.{NewState}
use Rattle.entity_recs.specs.declared.kind.Kind.{Kind}
use Rattle.entity_recs.specs.declared.kind.Kind.TheVariants.{Player, Ammo, Gem, Teleporter, Goal, Lift}
use Rattle.entity_recs.specs.declared.bodies.TheConstants.{PLAYER_MINS}
use Rattle.entity_recs.specs.declared.rec.Rec.{Rec}
use Rattle.entity_recs.specs.Records.{IsShapeOf, IsRecord}
use Rattle.entity_recs.specs.Bodies.{box_at_origin, body_of}
use Rattle.arena_map.specs.declared.map_line.MapLine.{MapLine}
use Rattle.arena_map.specs.declared.map_line.MapLine.TheVariants as lines
use Rattle.arena_map.specs.Things.{dest_in}
use Rattle.arena_map.specs.Maps.{MapView, IsMap, IsSpawn, IsThingInside, dest_of}
use Rattle.item_rules.specs.Items.{has_room_for, may_take, with_item, after_item}
use Rattle.trigger_rules.specs.Touching.{touched_by, solids_among, Walk, first_walk, player_after_goal, leapt, after_trigger, touched}
use Rattle.trigger_rules.specs.Laws.{ids_of, is_same_record, IsPlayerOn, PlayersStayOn, StatesAreApart}
use Rattle.trigger_rules.proofs.Steps.{Step, step, walk-keeps}
use Rattle.trigger_rules.proofs.Taken.{were_there, ids_rise}

-- ---- destinations

at-place : {X : Type 0} (P : X → Type 0) (xs : List X) (k : ℕ) (x : X) → All P xs → slice_get xs k ≡ Some x → P x
at-place P [] k x all e = absurd (none-some x e)
at-place P (y ∷ xs) zero x all e = subst P (same_Some y x e) (All-head P y xs all)
at-place P (y ∷ xs) (suc k) x all e = at-place P xs k x (All-tail P y xs all) e

-- a player at the destination on a line is inside the arena
line-stands : (arena : Bounds) (line : MapLine) (dest : Vec3) → IsThingInside arena line → dest_in line ≡ Some dest → IsSpawn arena dest
line-stands arena (lines.Arena lo hi) dest inside e = absurd (none-some dest e)
line-stands arena (lines.Block lo hi) dest inside e = absurd (none-some dest e)
line-stands arena (lines.Depth depth) dest inside e = absurd (none-some dest e)
line-stands arena lines.Shots dest inside e = absurd (none-some dest e)
line-stands arena (lines.Blocks most) dest inside e = absurd (none-some dest e)
line-stands arena (lines.Spawn at) dest inside e = absurd (none-some dest e)
line-stands arena (lines.Item at kind delay) dest inside e = absurd (none-some dest e)
line-stands arena (lines.Teleport lo hi to) dest inside e = subst (IsSpawn arena) (same_Some to dest e) (record { near = inside.limits.2; inside = inside.stand })
line-stands arena (lines.Goal lo hi) dest inside e = absurd (none-some dest e)
line-stands arena (lines.Lift lo hi rise speed) dest inside e = absurd (none-some dest e)

pub dest-stands : (map : MapView) (id : ℕ) (dest : Vec3) → IsMap map → dest_of map id ≡ Some dest → IsSpawn map.bounds dest
dest-stands map id dest rules e = by (nat_le 64 id) e
  where
    found : (line : Option MapLine) → slice_get map.things (id - 64) ≡ line → option_and_then dest_in line ≡ Some dest → IsSpawn map.bounds dest
    found None f h = absurd (none-some dest h)
    found (Some line) f h = line-stands map.bounds line dest (at-place (IsThingInside map.bounds) map.things (id - 64) line rules.things f) h

    by : (b : Bool) → option_and_then dest_in (if b then slice_get map.things (id - 64) else None) ≡ Some dest → IsSpawn map.bounds dest
    by true h = found (slice_get map.things (id - 64)) refl h
    by false h = absurd (none-some dest h)

-- ---- a player on a map

or-two : (n : ℕ) → n ≤ 3 → bit_or n 2 ≤ 3
or-two zero h = omega arith
or-two (suc zero) h = omega arith
or-two (suc (suc zero)) h = omega arith
or-two (suc (suc (suc zero))) h = omega arith
or-two (suc (suc (suc (suc n)))) h = absurd (omega (arith, h))

on-leap : (map : MapView) (me : Rec) (dest : Vec3) → IsSpawn map.bounds dest → IsPlayerOn map me → IsPlayerOn map (leapt me dest)
on-leap map me dest spawn is = record {
  kind = is.kind;
  is_record = record {
    id = is.is_record.id;
    origin = spawn.near;
    shape = subst (λ (k : Kind). IsShapeOf k dest me.mins me.maxs) (sym is.kind) shape;
    vel = record { x = omega arith; y = omega arith; z = omega arith };
    flags = or-two me.flags is.is_record.flags;
    ammo = is.is_record.ammo;
    carry = is.is_record.carry;
  };
  score = is.score;
  inside = ap (λ (m : Vec3). contains map.bounds (box_at_origin dest m me.maxs)) shape.low_is ∙ ap (λ (m : Vec3). contains map.bounds (box_at_origin dest PLAYER_MINS m)) shape.high_is ∙ spawn.inside;
}
  where
    shape : IsShapeOf Player me.origin me.mins me.maxs
    shape = subst (λ (k : Kind). IsShapeOf k me.origin me.mins me.maxs) is.kind is.is_record.shape

on-goal : (map : MapView) (me : Rec) → IsPlayerOn map me → IsPlayerOn map (player_after_goal me)
on-goal map me is = record {
  kind = is.kind;
  is_record = record {
    id = is.is_record.id;
    origin = is.is_record.origin;
    shape = is.is_record.shape;
    vel = is.is_record.vel;
    flags = is.is_record.flags;
    ammo = is.is_record.ammo;
    carry = omega arith;
  };
  score = omega arith;
  inside = is.inside;
}

on-item : (map : MapView) (me item : Rec) → may_take me item ≡ true → IsPlayerOn map me → IsPlayerOn map (after_item me item)
on-item map me item may is = subst (λ (b : Bool). IsPlayerOn map (if b then with_item me item.kind else me)) (sym may) (by item.kind (and_parts (item.state == 0) (has_room_for me item.kind) may).1)
  where
    gems : nat_lt me.carry 8 ≡ true → me.carry + 1 ≤ 8
    gems room = grind (arith, nat_tests)

    with : (after : Rec) → after.kind ≡ me.kind → IsRecord after → after.score ≡ me.score → body_of after ≡ body_of me → IsPlayerOn map after
    with after kind is_record score body = record {
      kind = kind ∙ is.kind;
      is_record = is_record;
      score = omega (arith, score, is.score);
      inside = ap (contains map.bounds) body ∙ is.inside;
    }

    by : (k : Kind) → has_room_for me k ≡ true → IsPlayerOn map (with_item me k)
    by Player room = is
    by Ammo room = with (with_item me Ammo) refl (record {
      id = is.is_record.id;
      origin = is.is_record.origin;
      shape = is.is_record.shape;
      vel = is.is_record.vel;
      flags = is.is_record.flags;
      ammo = omega arith;
      carry = is.is_record.carry;
    }) refl refl
    by Gem room = with (with_item me Gem) refl (record {
      id = is.is_record.id;
      origin = is.is_record.origin;
      shape = is.is_record.shape;
      vel = is.is_record.vel;
      flags = is.is_record.flags;
      ammo = is.is_record.ammo;
      carry = gems room;
    }) refl refl
    by Teleporter room = is
    by Goal room = is
    by Lift room = is

on-step : (map : MapView) (solids : List Bounds) (frame : ℕ) (w next : Walk) (r : Rec) → IsMap map → Step map solids frame w r next → IsPlayerOn map w.me → IsPlayerOn map next.me
on-step map solids frame w next r rules (inl same) is = subst (λ (v : Walk). IsPlayerOn map v.me) (sym same) is
on-step map solids frame w next r rules (inr (inl t)) is = subst (λ (v : Walk). IsPlayerOn map v.me) (sym t.is) (on-item map w.me r t.may is)
on-step map solids frame w next r rules (inr (inr (inl goal))) is = subst (λ (v : Walk). IsPlayerOn map v.me) (sym goal.is) (on-goal map w.me is)
on-step map solids frame w next r rules (inr (inr (inr l))) is =
    subst (λ (v : Walk). IsPlayerOn map v.me) (sym l.is) (on-leap map w.me l.dest (dest-stands map r.id l.dest rules l.from) is)

pub stay_on : PlayersStayOn
unfolding touched
stay_on map frame me near rules is =
    let solids = solids_among map near in
    walk-keeps (after_trigger map solids frame) (λ w. IsPlayerOn map w.me) (first_walk me) (touched_by me near)
    (λ v r. on-step map solids frame v (after_trigger map solids frame v r) r rules (step map solids frame v r)) is

-- ---- new states

-- where ids rise, no two are the same
apart-where_rising : (states : List NewState) → IsStrictlyIncreasing (ids_of states) → IsDistinct is_same_record states
unfolding IsDistinct
apart-where_rising [] rise = tt
apart-where_rising (s ∷ states) rise = (others states (λ k d inside. AllPairs-from_increasing (ids_of (s ∷ states)) rise 0 (suc k) d (omega arith) (omega (arith, inside))), apart-where_rising states tail)
  where
    others : (more : List NewState) → All (λ id. s.id < id) (ids_of more) → AllByRecursion (λ t. is_same_record s t ≡ false) more
    others [] all = tt
    others (t ∷ more) all =
        let less : s.id < t.id = All-head (λ id. s.id < id) t.id (ids_of more) all in
        (ne_eqb s.id t.id (λ e. omega (arith, less, e)), others more (All-tail (λ id. s.id < id) t.id (ids_of more) all))

    tail : IsStrictlyIncreasing (ids_of states)
    tail = λ k below.
        let e : suc k + 1 ≡ suc (k + 1) = omega arith in
        let more : suc k + 1 < length (s.id ∷ ids_of states) = omega (arith, below) in
        subst (λ (j : ℕ). slice_index (s.id ∷ ids_of states) (suc k) < slice_index (s.id ∷ ids_of states) j) e (rise (suc k) more)

pub states_apart : StatesAreApart
states_apart map frame me near rise =
    let w = touched map frame me near in
    apart-where_rising w.states (subst IsStrictlyIncreasing (were_there map frame me near).got_are (ids_rise map frame me near rise))
