-- The action by which a player stays where it is, is lawful.
use Rattle.std.proofs.Common.{◌≡◌, ℕ, ◌^◌, ◌<◌, nat_lt, nat_le, true, false, ℤ, int_le, []}
use Rattle.std.proofs.Common.{◌∷◌, refl, arith}
use Rattle.std.specs.Prelude.{◌==◌}
use Rattle.std.specs.List.{IsDistinct}
use Rattle.std.proofs.lemmas.Bool.{and_from, false≢true, and_parts, lt-ltb, leb-true, ltb-true}
use Rattle.std.proofs.lemmas.Int.{ints}
use Rattle.std.proofs.lemmas.List.Elements.{All-cons, All-nil}
use Rattle.arena_geo.specs.Vectors.{is_near, is_same_vector}
use Rattle.arena_geo.specs.Bounds.{Bounds, IsBox}
use Rattle.arena_geo.specs.Regions.{is_inside}
use Rattle.arena_geo.proofs.Vectors.{near_by_test, same_by_test}
use Rattle.entity_recs.specs.declared.bodies.TheConstants.{PLAYER_MINS, PLAYER_MAXS}
use Rattle.entity_recs.specs.declared.kind.Kind.{Kind}
use Rattle.entity_recs.specs.declared.kind.Kind.TheVariants.{Player, Ammo, Gem, Teleporter, Goal, Lift}
use Rattle.entity_recs.specs.declared.rec.Rec.{Rec}
use Rattle.entity_recs.specs.declared.effect.NewState.{NewState}
use Rattle.entity_recs.specs.Bodies.{abs_of}
use Rattle.entity_recs.specs.Actions.{IsKeepable, HasValidity, HasLocality, HasFootprint}
use Rattle.entity_recs.proofs.Standing.{records_have_boxes}
use Rattle.trial_outcomes.specs.Staying.{is_player, is_taken, takes, region_of, effect_of}

-- a player that is taken can be kept
player_is_keepable : (r : Rec) → r.kind ≡ Player → is_taken Player r ≡ true → IsKeepable r
player_is_keepable r kind h =
    let seq = and_parts (is_player r) (nat_lt r.seq 4294967296) h in
    let score = and_parts _ (nat_lt r.score 4294967296) seq.0 in
    let carry = and_parts _ (nat_le r.carry 8) score.0 in
    let ammo = and_parts _ (nat_le r.ammo 100) carry.0 in
    let flags = and_parts _ (nat_le r.flags 3) ammo.0 in
    let maxs = and_parts _ (is_same_vector r.maxs PLAYER_MAXS) flags.0 in
    let mins = and_parts _ (is_same_vector r.mins PLAYER_MINS) maxs.0 in
    let vel = and_parts _ (is_near 512000 r.vel) mins.0 in
    let place = and_parts (nat_lt r.id 64) (is_near 1048576 r.origin) vel.0 in
    record {
      bounds = record {
        id = rw kind (ltb-true r.id 64 place.0);
        origin = near_by_test 1048576 r.origin place.1;
        shape = rw kind (record { low_is = same_by_test r.mins PLAYER_MINS mins.1; high_is = same_by_test r.maxs PLAYER_MAXS maxs.1 });
        vel = near_by_test 512000 r.vel vel.1;
        flags = leb-true r.flags 3 flags.1;
        ammo = leb-true r.ammo 100 ammo.1;
        carry = leb-true r.carry 8 carry.1;
      };
      score = ltb-true r.score 4294967296 score.1;
      seq = ltb-true r.seq 4294967296 seq.1;
    }

pub keepable : (r : Rec) (kind : Kind) → r.kind ≡ kind → is_taken kind r ≡ true → IsKeepable r
keepable r Player e h = player_is_keepable r e h
keepable _ _ _ h = absurd (false≢true h)

numbered : (kind : Kind) (r : Rec) (seq : ℕ) → seq < 2 ^ 32 → is_taken kind r ≡ true
    → is_taken kind (record r { seq = seq }) ≡ true
numbered Player r seq small h = and_from (is_player r) (nat_lt seq 4294967296)
    (and_parts (is_player r) (nat_lt r.seq 4294967296) h).0 (lt-ltb seq 4294967296 small)
numbered Ammo r seq small h = h
numbered Gem r seq small h = h
numbered Teleporter r seq small h = h
numbered Goal r seq small h = h
numbered Lift r seq small h = h

stated : (kind : Kind) (r : Rec) (state : ℕ) → is_taken kind r ≡ true → is_taken kind (record r { state = state })
    ≡ true
stated Player r state h = h
stated Ammo r state h = h
stated Gem r state h = h
stated Teleporter r state h = h
stated Goal r state h = h
stated Lift r state h = h

-- a player that stays is a record that is taken
pub staying_is_valid : HasValidity takes effect_of
staying_is_valid = record {
  keepable = λ r h. keepable r r.kind refl h;
  any_state = λ r state h. stated r.kind r state h;
  me = λ me near c call. numbered me.kind me c.seq call.player.command.seq call.player.taken;
}

-- it doesn't look at others
pub staying_is_local : HasLocality takes region_of effect_of
staying_is_local = record { near = λ me near c call. refl }

pub least_itself : (n : ℤ) → int_le n n ≡ true
least_itself n = grind (arith, ints)

contains_itself : (b : Bounds) → is_inside b (b ∷ []) ≡ true
contains_itself b = rw (
  least_itself b.lo.x,
  least_itself b.hi.x,
  least_itself b.lo.y,
  least_itself b.hi.y,
  least_itself
      b.lo.z,
  least_itself b.hi.z,
) refl

none_apart : IsDistinct (λ (a b : NewState). a.id == b.id) []
unfolding IsDistinct
none_apart = tt

-- it stays inside its region
pub staying_stays_within : HasFootprint takes region_of effect_of
staying_stays_within = record {
  boxes = λ me c player. record {
    least = omega arith;
    most = omega arith;
    boxes = All-cons IsBox (abs_of me) [] (records_have_boxes me (keepable me me.kind refl player.taken).bounds).abs
        (All-nil IsBox);
  };
  any_state = λ me state c. refl;
  within = λ me near c call. record {
    before = contains_itself (abs_of me);
    after = contains_itself (abs_of me);
    id = refl;
    kind = refl;
    mins = refl;
    maxs = refl;
    listed = All-nil _;
    apart = none_apart;
  };
}
