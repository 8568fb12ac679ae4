-- What the tests of records say: records that are taken can be kept, and a player that is moved is taken.
use Rattle.std.proofs.Common.{◌≡◌, ℕ, ◌^◌, ◌<◌, ◌≤◌, nat_lt, nat_le, Bool, true, false, refl, arith}
use Rattle.std.specs.Prelude.{◌==◌}
use Rattle.std.proofs.lemmas.Bool.{and_from, eqb-true, false≢true, and_parts, lt-ltb, leb-true, ltb-true}
use Rattle.arena_geo.specs.Vectors.{IsNear, zero_vector, is_near, is_same_vector}
use Rattle.arena_geo.proofs.Vectors.{near_by_test, same_by_test}
use Rattle.entity_recs.specs.declared.bodies.TheConstants.{PLAYER_MINS, PLAYER_MAXS, ITEM_MINS, ITEM_MAXS}
use Rattle.entity_recs.specs.declared.kind.Kind.{Kind}
use Rattle.entity_recs.specs.declared.kind.Kind.TheVariants.{Player, Ammo, Gem, Teleporter, Goal, Lift}
use Rattle.entity_recs.specs.declared.rec.Rec.{Rec}
use Rattle.entity_recs.specs.Bodies.{abs_of}
use Rattle.entity_recs.specs.Commands.{Command}
use Rattle.entity_recs.specs.Actions.{HasPlayer, IsKeepable}
use Rattle.trial_outcomes.specs.Staying.{is_player}
use Rattle.trial_outcomes.specs.declared.places.TheConstants.{ARRIVAL, ITEM}
use Rattle.trial_outcomes.specs.Errand.{is_placed, is_the_item, is_taken, takes, player_at_arrival, moved_where}
use Rattle.trial_outcomes.proofs.StayingLaws as staying

-- ---- the item

-- what the test for the item says
record IsItem (r : Rec) : Type 0 where
  id : r.id ≡ 64
  origin : r.origin ≡ ITEM.origin
  mins : r.mins ≡ ITEM_MINS
  maxs : r.maxs ≡ ITEM_MAXS
  vel : IsNear 512000 r.vel
  flags : r.flags ≤ 3
  ammo : r.ammo ≤ 100
  carry : r.carry ≤ 8
  score : r.score < 2 ^ 32

item_is : (r : Rec) → is_the_item r ≡ true → IsItem r
item_is r h =
    let score = and_parts _ (nat_lt r.score 4294967296) h in
    let carry = and_parts _ (nat_le r.carry 8) score.0 in
    let ammo = and_parts _ (nat_le r.ammo 100) carry.0 in
    let flags = and_parts _ (nat_le r.flags 3) ammo.0 in
    let vel = and_parts (is_placed r) (is_near 512000 r.vel) flags.0 in
    let maxs = and_parts _ (is_same_vector r.maxs ITEM_MAXS) vel.0 in
    let mins = and_parts _ (is_same_vector r.mins ITEM_MINS) maxs.0 in
    let place = and_parts (r.id == 64) (is_same_vector r.origin ITEM.origin) mins.0 in
    record {
      id = eqb-true r.id 64 place.0;
      origin = same_by_test r.origin ITEM.origin place.1;
      mins = same_by_test r.mins ITEM_MINS mins.1;
      maxs = same_by_test r.maxs ITEM_MAXS maxs.1;
      vel = near_by_test 512000 r.vel vel.1;
      flags = leb-true r.flags 3 flags.1;
      ammo = leb-true r.ammo 100 ammo.1;
      carry = leb-true r.carry 8 carry.1;
      score = ltb-true r.score 4294967296 score.1;
    }

item_is_near : IsNear 1048576 ITEM.origin
item_is_near = record { x = omega arith; y = omega arith; z = omega arith }

item_is_keepable : (r : Rec) → r.kind ≡ Gem → is_taken Gem r ≡ true → IsKeepable r
item_is_keepable r kind h =
    let seq = and_parts (is_the_item r) (nat_lt r.seq 4294967296) h in
    let is = item_is r seq.0 in
    record {
      bounds = record {
        id = rw kind (record { least = omega (arith, is.id); most = omega (arith, is.id) });
        origin = rw is.origin item_is_near;
        shape = rw kind (record { low_is = is.mins; high_is = is.maxs });
        vel = is.vel;
        flags = is.flags;
        ammo = is.ammo;
        carry = is.carry;
      };
      score = is.score;
      seq = ltb-true r.seq 4294967296 seq.1;
    }

pub keepable : (r : Rec) (kind : Kind) → r.kind ≡ kind → is_taken kind r ≡ true → IsKeepable r
keepable r Player e h = staying.keepable r Player e h
keepable r Gem e h = item_is_keepable r e h
keepable _ _ _ h = absurd (false≢true h)

player_id : (r : Rec) → r.kind ≡ Player → is_taken Player r ≡ true → r.id < 64
player_id r e h = rw e at (staying.keepable r Player e h).bounds.id

not_64 : (n : ℕ) → n < 64 → n ≡ 64 → ⊥
not_64 n less e = omega (arith, less, e)

-- a record with the item's id that is taken has the item's box
pub item_box : (r : Rec) (kind : Kind) → r.kind ≡ kind → is_taken kind r ≡ true → r.id ≡ 64 → abs_of r ≡ abs_of ITEM
item_box r Player e h id = absurd (not_64 r.id (player_id r e h) id)
item_box r Gem e h id =
    let is = item_is r (and_parts (is_the_item r) (nat_lt r.seq 4294967296) h).0 in
    rw (e, is.origin, is.mins, is.maxs) refl
item_box _ _ _ h _ = absurd (false≢true h)

-- ---- validity

-- a player that is taken is taken with another number
numbered : (r : Rec) (seq : ℕ) → seq < 2 ^ 32 → is_taken Player r ≡ true
    → is_taken Player (record r { seq = seq }) ≡ true
numbered r seq small h =
    and_from (is_player r) (nat_lt seq 4294967296) (and_parts (is_player r) (nat_lt r.seq 4294967296) h).0
    (lt-ltb seq 4294967296 small)

-- and at the place of arrival
arrived_is_player : (r : Rec) → is_player r ≡ true → is_player (player_at_arrival r) ≡ true
arrived_is_player r h =
    let score = and_parts _ (nat_lt r.score 4294967296) h in
    let carry = and_parts _ (nat_le r.carry 8) score.0 in
    let ammo = and_parts _ (nat_le r.ammo 100) carry.0 in
    let flags = and_parts _ (nat_le r.flags 3) ammo.0 in
    let maxs = and_parts _ (is_same_vector r.maxs PLAYER_MAXS) flags.0 in
    let mins = and_parts _ (is_same_vector r.mins PLAYER_MINS) maxs.0 in
    let vel = and_parts _ (is_near 512000 r.vel) mins.0 in
    let place = and_parts (nat_lt r.id 64) (is_near 1048576 r.origin) vel.0 in
    let there = and_from (nat_lt r.id 64) (is_near 1048576 ARRIVAL) place.0 refl in
    let at_rest = and_from _ (is_near 512000 zero_vector) there refl in
    let low = and_from _ (is_same_vector r.mins PLAYER_MINS) at_rest mins.1 in
    let high = and_from _ (is_same_vector r.maxs PLAYER_MAXS) low maxs.1 in
    let flagged = and_from _ (nat_le r.flags 3) high flags.1 in
    let armed = and_from _ (nat_le r.ammo 100) flagged ammo.1 in
    let carrying = and_from _ (nat_le r.carry 8) armed carry.1 in
    and_from _ (nat_lt r.score 4294967296) carrying score.1

pub arrived_is_taken : (r : Rec) → is_taken Player r ≡ true → is_taken Player (player_at_arrival r) ≡ true
arrived_is_taken r h =
    let seq = and_parts (is_player r) (nat_lt r.seq 4294967296) h in
    and_from (is_player (player_at_arrival r)) (nat_lt r.seq 4294967296) (arrived_is_player r seq.0) seq.1

-- what is taken and has a slot for its id is a player
pub slot_is_player : (r : Rec) (kind : Kind) → r.kind ≡ kind → is_taken kind r ≡ true → r.id < 64 → kind ≡ Player
slot_is_player r Player e h small = refl
slot_is_player r Gem e h small =
    absurd (not_64 r.id small (item_is r (and_parts (is_the_item r) (nat_lt r.seq 4294967296) h).0).id)
slot_is_player _ _ _ h _ = absurd (false≢true h)

-- the player of a command
pub record IsMover (me : Rec) : Type 0 where
  pub kind : me.kind ≡ Player
  pub taken : is_taken Player me ≡ true

pub mover : (me : Rec) (c : Command) → HasPlayer takes me c → IsMover me
mover me c player =
    let kind = slot_is_player me me.kind refl player.taken (rw player.own player.command.slot) in
    record { kind = kind; taken = rw kind at player.taken }

pub moved_is_taken : (away : Bool) (me : Rec) (seq : ℕ) → IsMover me → seq < 2 ^ 32
    → takes (moved_where away me seq) ≡ true
moved_is_taken true me seq is small = rw is.kind (numbered (player_at_arrival me) seq small (arrived_is_taken me is.taken))
moved_is_taken false me seq is small = rw is.kind (numbered me seq small is.taken)

pub stated : (kind : Kind) (r : Rec) (state : ℕ) → is_taken kind r ≡ true
    → is_taken kind (record r { state = state }) ≡ true
stated Player r state h = h
stated Ammo r state h = h
stated Gem r state h = h
stated Teleporter r state h = h
stated Goal r state h = h
stated Lift r state h = h
