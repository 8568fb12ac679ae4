-- The action of an arena with shots is lawful.
use Rattle.std.proofs.Common.{◌≡◌, ℕ, ◌<◌, ◌≤◌, ◌==◌, nat_le, max, Bool, true, false, cond, ◌&&◌, List, [], ◌∷◌, ◌++◌, filter, All, Contains, Option, Some, ℤ, pos, ◌+ℤ◌, ◌-ℤ◌, ◌≤ℤ◌, refl, sym, ap, ◌∙◌, subst, arith}
use Rattle.std.specs.Prelude.{find, bit_or}
use Rattle.std.specs.Int.{bit_at}
use Rattle.std.specs.List.{IsDistinct, AllByRecursion}
use Rattle.std.proofs.lemmas.Bool.{eq-eqb, ne_eqb, and_parts}
use Rattle.std.proofs.lemmas.Int.{ints}
use Rattle.std.proofs.lemmas.Nat.Bits.{bit_at_or, bit_at-lt}
use Rattle.std.proofs.lemmas.List.Elements.{All-contains, All-nil, All-from_recursion, All-weaker, recursion_from_All}
use Rattle.arena_geo.specs.declared.vec3.Vec3.{Vec3}
use Rattle.arena_geo.specs.Vectors.{vector}
use Rattle.arena_geo.specs.Bounds.{Bounds, bounds}
use Rattle.arena_geo.specs.Boxes.{overlaps, contains_on, touches, contains, box_grown_by}
use Rattle.arena_geo.specs.Regions.{touches_region, is_inside}
use Rattle.arena_geo.proofs.Containment.{three_pass, all_three}
use Rattle.entity_recs.specs.declared.bodies.TheConstants.{PLAYER_MINS, PLAYER_MAXS}
use Rattle.entity_recs.specs.declared.effect.NewState.{NewState}
use Rattle.entity_recs.specs.declared.kind.Kind.{Kind}
use Rattle.entity_recs.specs.declared.kind.Kind.TheVariants.{Player, Ammo, Gem, Teleporter, Goal, Lift}
use Rattle.entity_recs.specs.declared.rec.Rec.{Rec}
use Rattle.entity_recs.specs.Kinds.{is_solid, is_item}
use Rattle.entity_recs.specs.Records.{IsIdOf, IsRecord, with_state}
use Rattle.entity_recs.specs.Bodies.{box_at_origin, growth_of, body_of, abs_of}
use Rattle.entity_recs.specs.Commands.{Command}
use Rattle.entity_recs.specs.Actions.{IsCall, HasValidity, HasLocality, HasFootprint, StaysWithin, is_of_one_inside, records_touching}
use Rattle.entity_recs.proofs.Standing.{abs_contains_body}
use Rattle.entity_recs.proofs.Ids.{player_shape}
use Rattle.box_trace.specs.Steps.{step_count, body_at}
use Rattle.arena_map.specs.Maps.{MapView, IsMap, solids_of}
use Rattle.trigger_rules.specs.Touching.{Walk, first_walk, touched, new_state}
use Rattle.trigger_rules.specs.Laws.{IsTaken, IsPlayerOn}
use Rattle.trigger_rules.proofs.Taken.{only_leaps}
use Rattle.trigger_rules.proofs.Leaping.{leaps_from_teleporters}
use Rattle.shot_rules.specs.Targets.{is_set, shot_box, way_along, is_in_way}
use Rattle.shot_rules.specs.Shots.{is_down, is_fired, walk_after_shot, state_after_hit, after_meeting, after_shot}
use Rattle.shot_rules.specs.Laws.{IsShooterAfter, IsHit, IsShot, Misses, Hits}
use Rattle.shot_rules.proofs.Ways.{stays_near}
use Rattle.shot_rules.proofs.Hits.{unfired_is, fired_is, firing, stay_shooters, are_in_the_way, only_way_matters}
use Rattle.arena_outcomes.specs.declared.sizes.TheConstants.{SHOT_ROOM}
use Rattle.arena_outcomes.specs.Outcomes.{moved_among, effect_of, outcome_in, player_after_rising, player_while_down, shooting_in, shot_outcome}
use Rattle.arena_outcomes.specs.Regions.{reach_of, first_box, room_of, region_with, shot_region}
use Rattle.arena_outcomes.specs.Takes.{takes}
use Rattle.arena_outcomes.proofs.Lawful.Growing.{amount}
use Rattle.arena_outcomes.proofs.Lawful.Inside.{contains-through, touches-around, IsShort, contains-touched, contains-larger, contains-twice}
use Rattle.arena_outcomes.proofs.Lawful.Players.{moved_stays_on}
use Rattle.arena_outcomes.proofs.Lawful.Moves.{stay_on_maps, keep_who_moves, take_what_is_there}
use Rattle.arena_outcomes.proofs.Lawful.Taking.{taken_is_record, taken_is_keepable, taken_in_any_state, player_is_taken}
use Rattle.arena_outcomes.proofs.Lawful.Reached.{reach_contains_moved, touches_first, inside_first}
use Rattle.arena_outcomes.proofs.Lawful.Valid.{has_player_on}
use Rattle.arena_outcomes.proofs.Lawful.Local.{local_walk}
use Rattle.arena_outcomes.proofs.Lawful.Footprint.{contains-is-any, within, is_region, any_state}

-- ---- who moves

-- a player in another state is on the map as before
pub on_in_state : (map : MapView) (me : Rec) (state : ℕ) → IsPlayerOn map me → IsPlayerOn map (with_state me state)
on_in_state map me state is = record {
  kind = is.kind;
  is_record = record {
    id = is.is_record.id;
    origin = is.is_record.origin;
    shape = is.is_record.shape;
    vel = is.is_record.vel;
    flags = is.is_record.flags;
    ammo = is.is_record.ammo;
    carry = is.is_record.carry;
  };
  score = is.score;
  inside = is.inside;
}

-- and so is one that is down after a command
pub lying_on : (map : MapView) (me : Rec) (seq : ℕ) → IsPlayerOn map me → IsPlayerOn map (player_while_down me seq)
lying_on map me seq is = record {
  kind = is.kind;
  is_record = record {
    id = is.is_record.id;
    origin = is.is_record.origin;
    shape = is.is_record.shape;
    vel = record { x = omega arith; y = omega arith; z = omega arith };
    flags = omega arith;
    ammo = is.is_record.ammo;
    carry = omega arith;
  };
  score = is.score;
  inside = is.inside;
}

-- and one that has fired
pub shooter_on : (map : MapView) (before after : Rec) → IsShooterAfter before after → IsPlayerOn map before → IsPlayerOn map after
shooter_on map before after kept is =
    subst (IsPlayerOn map) (sym kept.same) (record {
      kind = is.kind;
      is_record = record {
        id = is.is_record.id;
        origin = is.is_record.origin;
        shape = is.is_record.shape;
        vel = is.is_record.vel;
        flags = is.is_record.flags;
        ammo = omega (arith, kept.ammo, is.is_record.ammo);
        carry = is.is_record.carry;
      };
      score = kept.most is.score;
      inside = is.inside;
    })

-- a call by a player in another state is one
pub call_in_state : (map : MapView) (me : Rec) (state : ℕ) (near : List Rec) (c : Command) → IsCall (takes map) me near c → IsCall (takes map) (with_state me state) near c
call_in_state map me state near c call = record {
  player = record { command = call.player.command; own = call.player.own; taken = taken_in_any_state map me state call.player.taken };
  others = call.others;
  rising = call.rising;
  none_is_me = call.none_is_me;
}

-- ---- where a shot is

-- a walk that a teleporter has ended leaves bit 1 of the flags set
bit_of_leap : (flags : ℕ) → is_set (bit_or flags 2) 1 ≡ true
bit_of_leap flags =
    let both_are = bit_at_or flags 2 1 in
    let low = bit_at-lt flags 1 in
    eq-eqb (bit_at (bit_or flags 2) 1) 1 (both_are ∙ greater (bit_at flags 1) low)
  where
    greater : (n : ℕ) → n < 2 → max n 1 ≡ 1
    greater n below = omega (arith, below)

true_false : (t : Bool) → t ≡ true → t ≡ false → ⊥
true_false t h e = cc

-- so who fires is where it moved
module _ (map : MapView) (frame : ℕ) (me : Rec) (near : List Rec) where
  hasnt_leapt : is_set (touched map frame me near).me.flags 1 ≡ false → (touched map frame me near).ended ≡ false
  hasnt_leapt stayed = by (touched map frame me near).ended refl
    where
      by : (t : Bool) → (touched map frame me near).ended ≡ t → t ≡ false
      by true e =
          absurd (true_false (is_set (touched map frame me near).me.flags 1)
          (ap (λ (n : ℕ). is_set n 1) (leaps_from_teleporters map frame me near e).flags ∙ bit_of_leap me.flags) stayed)
      by false e = refl

  pub stays_in_place : is_set (touched map frame me near).me.flags 1 ≡ false → (touched map frame me near).me.origin ≡ me.origin
  stays_in_place stayed = (only_leaps map frame me near (hasnt_leapt stayed)).origin

-- how far beyond the reach a shot may go, and room for whom it hits
abbrev far : ℕ
far = 65536

shot_on : (lo hi o a b : ℤ) → contains_on lo hi a b ≡ true → a ≤ℤ (o -ℤ pos 256) → (o +ℤ pos 256) ≤ℤ b
    → contains_on (lo -ℤ pos 65536) (hi +ℤ pos 65536) (o -ℤ pos 65792) (o +ℤ pos 65792) ≡ true
shot_on lo hi o a b inside low high = grind (arith, ints)

shot_on_z : (lo hi o a b : ℤ) → contains_on lo hi a b ≡ true → a ≤ℤ (o -ℤ pos 256) → (o +ℤ pos 256) ≤ℤ b
    → contains_on (lo -ℤ pos 65536) (hi +ℤ pos 65536) (o -ℤ pos 256) (o +ℤ pos 256) ≡ true
shot_on_z lo hi o a b inside low high = grind (arith, ints)

-- where a player's absolute box is within the reach, all that its shot may come to is within 65,536 of the reach
around_player : (reach : Bounds) (o : Vec3) → contains reach (box_grown_by (box_at_origin o PLAYER_MINS PLAYER_MAXS) (growth_of Player)) ≡ true
    → contains (box_grown_by reach (room_of far)) (box_grown_by (bounds o o) (vector (pos 65792) (pos 65792) (pos 256))) ≡ true
around_player reach o inside =
    let t = three_pass _ _ _ inside in
    all_three (shot_on reach.lo.x reach.hi.x o.x _ _ t.x (omega (arith, ints)) (omega (arith, ints)))
    (shot_on reach.lo.y reach.hi.y o.y _ _ t.y (omega (arith, ints)) (omega (arith, ints)))
    (shot_on_z reach.lo.z reach.hi.z o.z _ _ t.z (omega (arith, ints)) (omega (arith, ints)))

-- the absolute box of a player is that of its origin
abs_of_player : (r : Rec) → r.kind ≡ Player → r.mins ≡ PLAYER_MINS → r.maxs ≡ PLAYER_MAXS
    → abs_of r ≡ box_grown_by (box_at_origin r.origin PLAYER_MINS PLAYER_MAXS) (growth_of Player)
abs_of_player r kind mins maxs =
    ap (λ (k : Kind). box_grown_by (body_of r) (growth_of k)) kind
    ∙ ap (λ (m : Vec3). box_grown_by (box_at_origin r.origin m r.maxs) (growth_of Player)) mins
    ∙ ap (λ (m : Vec3). box_grown_by (box_at_origin r.origin PLAYER_MINS m) (growth_of Player)) maxs

-- no player's absolute box is longer than the room
short_at : (o : Vec3) → IsShort 16384 (box_grown_by (box_at_origin o PLAYER_MINS PLAYER_MAXS) (growth_of Player))
short_at o = record { x = omega (arith, ints); y = omega (arith, ints); z = omega (arith, ints) }

player_is_short : (r : Rec) → IsRecord r → r.kind ≡ Player → IsShort 16384 (abs_of r)
player_is_short r is kind =
    let shape = player_shape r is kind in
    subst (IsShort 16384) (sym (abs_of_player r kind shape.low_is shape.high_is)) (short_at r.origin)

-- ---- a move that may shoot, of a player that isn't down

find_kept : (p q : Rec → Bool) → ((r : Rec) → p r ≡ true → q r ≡ true) → (near : List Rec) → find p near ≡ find p (filter q near)
find_kept p q kept [] = refl
find_kept p q kept (r ∷ near) = by (p r) (q r) refl refl (find_kept p q kept near)
  where
    by : (s t : Bool) → p r ≡ s → q r ≡ t → find p near ≡ find p (filter q near)
        → cond s (Some r) (find p near) ≡ find p (cond t (r ∷ filter q near) (filter q near))
    by true true passes keeps rest = sym (ap (λ (b : Bool). cond b (Some r) (find p (filter q near))) passes)
    by true false passes keeps rest = absurd (true_false (q r) (kept r passes) keeps)
    by false true passes keeps rest = rest ∙ sym (ap (λ (b : Bool). cond b (Some r) (find p (filter q near))) passes)
    by false false passes keeps rest = rest

-- a list with one more
pub all_and_one : {X : Type 0} (P : X → Type 0) (xs : List X) (x : X) → AllByRecursion P xs → P x → AllByRecursion P (xs ++ x ∷ [])
all_and_one P [] x all one = (one, tt)
all_and_one P (y ∷ xs) x all one = (all.0, all_and_one P xs x all.1 one)

apart_and_one : (xs : List NewState) (x : NewState) → IsDistinct (λ (a b : NewState). a.id == b.id) xs → AllByRecursion (λ (y : NewState). (y.id == x.id) ≡ false) xs
    → IsDistinct (λ (a b : NewState). a.id == b.id) (xs ++ x ∷ [])
unfolding IsDistinct
apart_and_one [] x apart other = (tt, tt)
apart_and_one (y ∷ xs) x apart other = (all_and_one (λ (z : NewState). (y.id == z.id) ≡ false) xs x apart.0 other.0, apart_and_one xs x apart.1 other.1)

module _ (arena : MapView) (me : Rec) (near : List Rec) (c : Command) (is_map : IsMap arena) (call : IsCall (takes arena) me near c) where
  abbrev moved : Rec
  moved = moved_among arena me near c

  abbrev walk : Walk
  walk = touched arena c.frame moved near

  abbrev way : Vec3
  way = way_along c.wish_x c.wish_y

  abbrev beyond : Bounds
  beyond = box_grown_by (reach_of me c.ms) (room_of far)

  short : c.ms ≤ 50
  short = call.player.command.most_ms

  -- the box of the shot is within 65,536 of the reach
  shot_is_near : is_fired c walk ≡ true → (k : ℕ) → k ≤ step_count way → contains beyond (body_at (shot_box walk.me.origin) way k) ≡ true
  shot_is_near fired k within =
      let f = firing c walk fired in
      let on = moved_stays_on arena me near c is_map (has_player_on arena me c is_map call.player) in
      let shape = player_shape moved on.is_record on.kind in
      let inside : contains (reach_of me c.ms) (box_grown_by (box_at_origin moved.origin PLAYER_MINS PLAYER_MAXS) (growth_of Player)) ≡ true =
      subst (λ (b : Bounds). contains (reach_of me c.ms) b ≡ true) (abs_of_player moved on.kind shape.low_is shape.high_is) (reach_contains_moved arena me near c short) in
      let there : contains beyond (body_at (shot_box moved.origin) way k) ≡ true =
      contains-through beyond (box_grown_by (bounds moved.origin moved.origin) (vector (pos 65792) (pos 65792) (pos 256))) (body_at (shot_box moved.origin) way k)
      (around_player (reach_of me c.ms) moved.origin inside) (stays_near moved.origin c.wish_x c.wish_y k f.aim within) in
      subst (λ (o : Vec3). contains beyond (body_at (shot_box o) way k) ≡ true) (sym (stays_in_place arena c.frame moved near f.stayed)) there

  -- who is in its way touches what is within 65,536 of the reach
  in_way_touches : is_fired c walk ≡ true → (k : ℕ) → k ≤ step_count way → (r : Rec)
      → overlaps (body_at (shot_box walk.me.origin) way k) (body_of r) ≡ true → touches (abs_of r) beyond ≡ true
  in_way_touches fired k within r overlap =
      touches-around beyond (body_at (shot_box walk.me.origin) way k) (body_of r) (abs_of r) (shot_is_near fired k within) (abs_contains_body r) overlap

  keep : Rec → Bool
  keep r = touches_region (abs_of r) (region_with SHOT_ROOM arena me c)

  -- and so the region
  in_way_is_kept : is_fired c walk ≡ true → (k : ℕ) → k ≤ step_count way → (r : Rec)
      → is_in_way (body_at (shot_box walk.me.origin) way k) r ≡ true → keep r ≡ true
  unfolding keep
  in_way_is_kept fired k within r in_way =
      let overlap = (and_parts (is_solid r.kind) (overlaps (body_at (shot_box walk.me.origin) way k) (body_of r)) in_way).1 in
      touches_first SHOT_ROOM arena me c (abs_of r)
      (touches-around (first_box SHOT_ROOM me c.ms) (body_at (shot_box walk.me.origin) way k) (body_of r) (abs_of r)
      (contains-through (first_box SHOT_ROOM me c.ms) beyond (body_at (shot_box walk.me.origin) way k)
      (contains-larger (reach_of me c.ms) far far far 81920 81920 81920 (omega arith) (omega arith) (omega arith)) (shot_is_near fired k within))
      (abs_contains_body r) overlap)

  -- the shot does among what touches the region what it does among all
  kept_shot : after_shot (solids_of arena) near c walk ≡ after_shot (solids_of arena) (filter keep near) c walk
  kept_shot = by (is_fired c walk) refl
    where
      by : (t : Bool) → is_fired c walk ≡ t → after_shot (solids_of arena) near c walk ≡ after_shot (solids_of arena) (filter keep near) c walk
      by true fired =
          let fixed = solids_of arena in
          fired_is fixed near c walk fired
          ∙ ap (λ (o : Option Rec). after_meeting_of o)
          (only_way_matters (shot_box walk.me.origin) way fixed fixed near (filter keep near) (record {
            fixed_are = λ k from within. refl;
            near_are = λ k from within. find_kept (is_in_way (body_at (shot_box walk.me.origin) way k)) keep (in_way_is_kept fired k within) near;
          }))
          ∙ sym (fired_is fixed (filter keep near) c walk fired)
        where
          after_meeting_of : Option Rec → Walk
          after_meeting_of o = after_meeting c.frame (walk_after_shot walk) o
      by false unfired = unfired_is (solids_of arena) near c walk unfired ∙ sym (unfired_is (solids_of arena) (filter keep near) c walk unfired)

  pub local_shooting : shooting_in arena me near c ≡ shooting_in arena me (records_touching (region_with SHOT_ROOM arena me c) near) c
  unfolding keep
  local_shooting =
      ap effect_of kept_shot
      ∙ ap (λ (w : Walk). effect_of (after_shot (solids_of arena) (filter keep near) c w)) (local_walk SHOT_ROOM arena me near c is_map call)

  -- ---- what it changes

  -- who is hit lies in the region
  hit_is_inside : is_fired c walk ≡ true → (r : Rec) → IsHit (solids_of arena) near c walk r → is_inside (abs_of r) (region_with SHOT_ROOM arena me c) ≡ true
  hit_is_inside fired r hit =
      let is = taken_is_record arena r is_map (All-contains (λ r. takes arena r ≡ true) near r call.others hit.listed) in
      let touch = in_way_touches fired hit.step hit.within r hit.reached in
      inside_first SHOT_ROOM arena me c (abs_of r)
      (contains-through (first_box SHOT_ROOM me c.ms) (box_grown_by beyond (amount 16384 16384 16384)) (abs_of r)
      (contains-twice (reach_of me c.ms) far far far 16384 81920 81920 81920 (omega arith) (omega arith) (omega arith))
      (contains-touched beyond (abs_of r) 16384 (player_is_short r is hit.player) touch))

  -- an item's new state is that of another id than a player's
  item_id : (s : NewState) → IsTaken arena c.frame moved near s → 64 ≤ s.id
  item_id s is =
      let item = is.item in
      let r = taken_is_record arena item is_map (All-contains (λ r. takes arena r ≡ true) near item call.others is.listed) in
      let low = by item.kind is.kind r.id in
      omega (arith, low, is.own)
    where
      by : (k : Kind) → is_item k ≡ true → IsIdOf k is.item.id → 64 ≤ is.item.id
      by Player item id = cc
      by Ammo item id = id.least
      by Gem item id = id.least
      by Teleporter item id = cc
      by Goal item id = cc
      by Lift item id = cc

  player_id : (r : Rec) → Contains near r → r.kind ≡ Player → r.id < 64
  player_id r listed kind =
      let is = taken_is_record arena r is_map (All-contains (λ r. takes arena r ≡ true) near r call.others listed) in
      subst (λ (k : Kind). IsIdOf k r.id) kind is.id

  -- the plain move stays within the region
  plain : StaysWithin (region_with SHOT_ROOM arena me c) me near (effect_of walk)
  unfolding outcome_in
  plain = within SHOT_ROOM (omega arith) arena me near c is_map call

  -- and what follows it does, where it lists states that are inside, each once
  stays : (after : Walk) → IsShooterAfter walk.me after.me
      → All (λ s. is_of_one_inside (region_with SHOT_ROOM arena me c) near s ≡ true) after.states
      → IsDistinct (λ (a b : NewState). a.id == b.id) after.states → StaysWithin (region_with SHOT_ROOM arena me c) me near (effect_of after)
  stays after kept listed apart = record {
    before = plain.before;
    after = ap (λ (r : Rec). is_inside (abs_of r) (region_with SHOT_ROOM arena me c)) kept.same ∙ plain.after;
    id = ap (λ (r : Rec). r.id) kept.same ∙ plain.id;
    kind = ap (λ (r : Rec). r.kind) kept.same ∙ plain.kind;
    mins = ap (λ (r : Rec). r.mins) kept.same ∙ plain.mins;
    maxs = ap (λ (r : Rec). r.maxs) kept.same ∙ plain.maxs;
    listed = listed;
    apart = apart;
  }

  -- no item that was taken has the id of a player
  items_are_others : (r : Rec) → r.id < 64 → AllByRecursion (λ (y : NewState). (y.id == r.id) ≡ false) walk.states
  unfolding outcome_in
  items_are_others r low =
      recursion_from_All (λ (y : NewState). (y.id == r.id) ≡ false) walk.states
      (All-weaker (IsTaken arena c.frame moved near) (λ (y : NewState). (y.id == r.id) ≡ false)
      (λ s is. ne_eqb s.id r.id (λ same. omega (arith, item_id s is, low, same))) walk.states (take_what_is_there arena me near c).each)

  after_a_shot : is_fired c walk ≡ true → (after : Walk) → IsShooterAfter walk.me after.me → IsShot (solids_of arena) near c walk after
      → StaysWithin (region_with SHOT_ROOM arena me c) me near (effect_of after)
  after_a_shot fired after kept (Misses is) =
      let states : after.states ≡ walk.states = ap (λ (v : Walk). v.states) is in
      let region = region_with SHOT_ROOM arena me c in
      stays after kept (subst (All (λ s. is_of_one_inside region near s ≡ true)) (sym states) plain.listed) (subst (IsDistinct (λ (a b : NewState). a.id == b.id)) (sym states) plain.apart)
  after_a_shot fired after kept (Hits r hit is) =
      let region = region_with SHOT_ROOM arena me c in
      let new = new_state r.id (state_after_hit r.state c.frame) in
      let states : after.states ≡ walk.states ++ new ∷ [] = ap (λ (v : Walk). v.states) is in
      let P : NewState → Type 0 = λ s. is_of_one_inside region near s ≡ true in
      let one : P new =
      contains-is-any (λ (q : Rec). (q.id == r.id) && is_inside (abs_of q) region) near r hit.listed (rw (eq-eqb r.id r.id refl, hit_is_inside fired r hit) refl) in
      let listed = All-from_recursion P (walk.states ++ new ∷ []) (all_and_one P walk.states new (recursion_from_All P walk.states plain.listed) one) in
      let apart = apart_and_one walk.states new plain.apart (items_are_others r (player_id r hit.listed hit.player)) in
      stays after kept (subst (All P) (sym states) listed) (subst (IsDistinct (λ (a b : NewState). a.id == b.id)) (sym states) apart)

  pub within_shooting : StaysWithin (region_with SHOT_ROOM arena me c) me near (shooting_in arena me near c)
  within_shooting = by (is_fired c walk) refl
    where
      by : (t : Bool) → is_fired c walk ≡ t → StaysWithin (region_with SHOT_ROOM arena me c) me near (shooting_in arena me near c)
      by true fired =
          after_a_shot fired (after_shot (solids_of arena) near c walk) (stay_shooters (solids_of arena) near c walk) (are_in_the_way (solids_of arena) near c walk fired)
      by false unfired =
          subst (λ (v : Walk). StaysWithin (region_with SHOT_ROOM arena me c) me near (effect_of v)) (sym (unfired_is (solids_of arena) near c walk unfired)) plain

  -- ---- whom it leaves

  pub shooting_is_taken : takes arena (shooting_in arena me near c).me ≡ true
  unfolding outcome_in
  shooting_is_taken =
      let kept = stay_shooters (solids_of arena) near c walk in
      let on = stay_on_maps arena me near c is_map (has_player_on arena me c is_map call.player) in
      let seq : (shooting_in arena me near c).me.seq ≡ c.seq = ap (λ (r : Rec). r.seq) kept.same ∙ (keep_who_moves arena me near c).seq in
      player_is_taken arena (shooting_in arena me near c).me (shooter_on arena walk.me (shooting_in arena me near c).me kept on) (omega (arith, seq, call.player.command.seq))

-- ---- the three laws

-- the state with which a player begins its move
abbrev state_risen : Rec → ℕ
state_risen me = cond (nat_le 100 me.state) 0 me.state

pub shots_valid : (map : MapView) → IsMap map → HasValidity (takes map) (shot_outcome map)
unfolding shot_outcome
shots_valid map is_map = record {
  keepable = λ r h. taken_is_keepable map r is_map h;
  any_state = λ r state h. taken_in_any_state map r state h;
  me = λ me near c call. by me near c call (is_down me c.frame);
}
  where
    by : (me : Rec) (near : List Rec) (c : Command) → IsCall (takes map) me near c → (t : Bool)
        → takes map (cond t (effect_of (first_walk (player_while_down me c.seq))) (shooting_in map (player_after_rising me) near c)).me ≡ true
    by me near c call true =
        player_is_taken map (player_while_down me c.seq) (lying_on map me c.seq (has_player_on map me c is_map call.player)) (omega (arith, call.player.command.seq))
    by me near c call false = shooting_is_taken map (player_after_rising me) near c is_map (call_in_state map me (state_risen me) near c call)

pub shots_local : (map : MapView) → IsMap map → HasLocality (takes map) (shot_region map) (shot_outcome map)
unfolding shot_outcome
shots_local map is_map = record { near = λ me near c call. by me near c call (is_down me c.frame) }
  where
    by : (me : Rec) (near : List Rec) (c : Command) → IsCall (takes map) me near c → (t : Bool)
        → cond t (effect_of (first_walk (player_while_down me c.seq))) (shooting_in map (player_after_rising me) near c)
        ≡ cond t (effect_of (first_walk (player_while_down me c.seq))) (shooting_in map (player_after_rising me) (records_touching (shot_region map me c) near) c)
    by me near c call true = refl
    by me near c call false =
        local_shooting map (player_after_rising me) near c is_map (call_in_state map me (state_risen me) near c call)
        ∙ ap (λ (region : List Bounds). shooting_in map (player_after_rising me) (records_touching region near) c) (any_state SHOT_ROOM map me (state_risen me) c)

pub shots_footprint : (map : MapView) → IsMap map → HasFootprint (takes map) (shot_region map) (shot_outcome map)
unfolding shot_outcome outcome_in IsDistinct
shots_footprint map is_map = record {
  boxes = λ me c has. is_region SHOT_ROOM map me c (omega arith) is_map (has_player_on map me c is_map has) has.command.most_ms;
  any_state = any_state SHOT_ROOM map;
  within = λ me near c call. by me near c call (is_down me c.frame);
}
  where
    by : (me : Rec) (near : List Rec) (c : Command) → IsCall (takes map) me near c → (t : Bool)
        → StaysWithin (shot_region map me c) me near (cond t (effect_of (first_walk (player_while_down me c.seq))) (shooting_in map (player_after_rising me) near c))
    by me near c call true =
        let here = (within SHOT_ROOM (omega arith) map me near c is_map call).before in
        record {
          before = here;
          after = here;
          id = refl;
          kind = refl;
          mins = refl;
          maxs = refl;
          listed = All-nil (λ (s : NewState). is_of_one_inside (shot_region map me c) near s ≡ true);
          apart = tt;
        }
    by me near c call false =
        let stays =
        subst (λ (region : List Bounds). StaysWithin region (player_after_rising me) near (shooting_in map (player_after_rising me) near c)) (any_state SHOT_ROOM map me (state_risen me) c)
        (within_shooting map (player_after_rising me) near c is_map (call_in_state map me (state_risen me) near c call)) in
        record {
          before = stays.before;
          after = stays.after;
          id = stays.id;
          kind = stays.kind;
          mins = stays.mins;
          maxs = stays.maxs;
          listed = stays.listed;
          apart = stays.apart;
        }
