-- A player's record after a command is as valid as before, and its body is as free.
use Rattle.std.proofs.Common.{◌≡◌, ℕ, Bool, true, false, List, refl, sym, ap, ◌∙◌, subst, arith}
use Rattle.arena_geo.specs.Bounds.{Bounds}
use Rattle.arena_geo.specs.Boxes.{contains, is_blocked}
use Rattle.entity_recs.specs.declared.effect.Effect.{Effect}
use Rattle.entity_recs.specs.declared.rec.Rec.{Rec}
use Rattle.entity_recs.specs.declared.kind.Kind.{Kind}
use Rattle.entity_recs.specs.declared.kind.Kind.TheVariants.{Player}
use Rattle.entity_recs.specs.Records.{IsRecord, with_state}
use Rattle.entity_recs.specs.Bodies.{body_of}
use Rattle.entity_recs.specs.Commands.{Command}
use Rattle.player_move.specs.Velocities.{velocity_after}
use Rattle.player_move.specs.Moves.{move_of}
use Rattle.arena_map.specs.Maps.{MapView, IsMap, solids_of}
use Rattle.arena_map.specs.Validity.{IsPlayerState, IsStateOn, IsValidRecord}
use Rattle.trigger_rules.specs.Touching.{solids_among, touched}
use Rattle.trigger_rules.specs.Laws.{IsPlayerOn}
use Rattle.shot_rules.specs.Laws.{IsShooterAfter}
use Rattle.shot_rules.proofs.Hits.{stay_shooters}
use Rattle.arena_outcomes.specs.Outcomes.{moved_among, outcome_in, player_after_rising, player_while_down, shooting_in, outcome_on}
use Rattle.arena_outcomes.proofs.OnMaps.{IsMove, IsPlain, Lies, Shoots, is_move, body_after_shooting}
use Rattle.arena_outcomes.proofs.Lawful.Moves.{stay_on_maps, keep_who_moves, stay_free}
use Rattle.plain_server.proofs.Scores.{without_score, touched-without_score}

-- a move doesn't look at the score
moved-without_score : (map : MapView) (me : Rec) (near : List Rec) (c : Command) → moved_among map (without_score me) near c ≡ without_score (moved_among map me near c)
unfolding moved_among move_of velocity_after
moved-without_score map me near c = refl

-- but for its score, a player is after a command as it would be with no score before
outcome-without_score : (map : MapView) (me : Rec) (near : List Rec) (c : Command)
    → without_score (outcome_in map (without_score me) near c).me ≡ without_score (outcome_in map me near c).me
unfolding outcome_in
outcome-without_score map me near c =
    ap (λ (r : Rec). without_score (touched map c.frame r near).me) (moved-without_score map me near c)
    ∙ touched-without_score map c.frame (moved_among map me near c) near

-- the bounds of a record don't look at its score
within_any_score : (r : Rec) → IsRecord r → IsRecord (without_score r)
within_any_score r is = record {
  id = is.id;
  origin = is.origin;
  shape = is.shape;
  vel = is.vel;
  flags = is.flags;
  ammo = is.ammo;
  carry = is.carry;
}

within_own_score : (r : Rec) → IsRecord (without_score r) → IsRecord r
within_own_score r is = record {
  id = is.id;
  origin = is.origin;
  shape = is.shape;
  vel = is.vel;
  flags = is.flags;
  ammo = is.ammo;
  carry = is.carry;
}

-- with no score, a player of a valid world is a player on the map
player_on : (map : MapView) (id : ℕ) (r : Rec) → r.kind ≡ Player → IsValidRecord map id r → IsPlayerOn map (without_score r)
player_on map id r kind valid = record { kind = kind; is_record = within_any_score r valid.is_record; score = omega arith; inside = valid.inside kind }

-- a player's record is as valid after a move without a shot
valid_after_plain : (map : MapView) (id : ℕ) (r : Rec) (near : List Rec) (c : Command) → IsMap map → r.kind ≡ Player → IsValidRecord map id r
    → IsValidRecord map id (outcome_in map r near c).me
valid_after_plain map id r near c is_map kind valid =
    let on = stay_on_maps map (without_score r) near c is_map (player_on map id r kind valid) in
    let same = outcome-without_score map r near c in
    let after = outcome_in map r near c in
    let own = keep_who_moves map r near c in
    record {
      is_record = within_own_score after.me (subst IsRecord same (within_any_score (outcome_in map (without_score r) near c).me on.is_record));
      own_id = own.id ∙ valid.own_id;
      state = subst (IsStateOn map after.me.kind) (sym own.state) (subst (λ (k : Kind). IsStateOn map k r.state) (sym own.kind) valid.state);
      inside = λ _. sym (ap (λ (x : Rec). contains map.bounds (body_of x)) same) ∙ on.inside;
    }

-- and a body that was free of all solids as free
free_after_plain : (map : MapView) (id : ℕ) (r : Rec) (near : List Rec) (c : Command) → r.kind ≡ Player → IsValidRecord map id r
    → is_blocked (body_of r) (solids_among map near) ≡ false → is_blocked (body_of (outcome_in map r near c).me) (solids_among map near) ≡ false
free_after_plain map id r near c kind valid free =
    sym (ap (λ (x : Rec). is_blocked (body_of x) (solids_among map near)) (outcome-without_score map r near c))
    ∙ stay_free map (without_score r) near c (player_on map id r kind valid) free

-- where players shoot each state is a player's
any_state : (map : MapView) (kind : Kind) (state : ℕ) → map.shots ≡ true → kind ≡ Player → IsStateOn map kind state
any_state map kind state some player =
    let any : IsPlayerState map.shots state = subst (λ (b : Bool). IsPlayerState b state) (sym some) tt in
    subst (λ (k : Kind). IsStateOn map k state) (sym player) any

-- a player that rises, or lies, or has fired, is as valid
valid_risen : (map : MapView) (id : ℕ) (r : Rec) (state : ℕ) → map.shots ≡ true → r.kind ≡ Player → IsValidRecord map id r → IsValidRecord map id (with_state r state)
valid_risen map id r state some kind valid = record {
  is_record = record {
    id = valid.is_record.id;
    origin = valid.is_record.origin;
    shape = valid.is_record.shape;
    vel = valid.is_record.vel;
    flags = valid.is_record.flags;
    ammo = valid.is_record.ammo;
    carry = valid.is_record.carry;
  };
  own_id = valid.own_id;
  state = any_state map r.kind state some kind;
  inside = valid.inside;
}

valid_lying : (map : MapView) (id : ℕ) (r : Rec) (seq : ℕ) → IsValidRecord map id r → IsValidRecord map id (player_while_down r seq)
valid_lying map id r seq valid = record {
  is_record = record {
    id = valid.is_record.id;
    origin = valid.is_record.origin;
    shape = valid.is_record.shape;
    vel = record { x = omega arith; y = omega arith; z = omega arith };
    flags = omega arith;
    ammo = valid.is_record.ammo;
    carry = omega arith;
  };
  own_id = valid.own_id;
  state = valid.state;
  inside = valid.inside;
}

valid_shooter : (map : MapView) (id : ℕ) (before after : Rec) → IsShooterAfter before after → IsValidRecord map id before → IsValidRecord map id after
valid_shooter map id before after kept valid =
    subst (IsValidRecord map id) (sym kept.same) (record {
      is_record = record {
        id = valid.is_record.id;
        origin = valid.is_record.origin;
        shape = valid.is_record.shape;
        vel = valid.is_record.vel;
        flags = valid.is_record.flags;
        ammo = omega (arith, kept.ammo, valid.is_record.ammo);
        carry = valid.is_record.carry;
      };
      own_id = valid.own_id;
      state = valid.state;
      inside = valid.inside;
    })

valid_after_shooting : (map : MapView) (id : ℕ) (r : Rec) (near : List Rec) (c : Command) → IsMap map → r.kind ≡ Player → IsValidRecord map id r
    → IsValidRecord map id (shooting_in map r near c).me
unfolding outcome_in
valid_after_shooting map id r near c is_map kind valid =
    let w = touched map c.frame (moved_among map r near c) near in
    valid_shooter map id w.me (shooting_in map r near c).me (stay_shooters (solids_of map) near c w) (valid_after_plain map id r near c is_map kind valid)

-- the state of a player that isn't down when it moves
abbrev state_risen : Rec → ℕ
state_risen r = (player_after_rising r).state

-- a player's record is as valid after a command
pub valid_after_command : (map : MapView) (id : ℕ) (r : Rec) (near : List Rec) (c : Command) → IsMap map → r.kind ≡ Player → IsValidRecord map id r
    → IsValidRecord map id (outcome_on map r near c).me
valid_after_command map id r near c is_map kind valid = by (outcome_on map r near c) (is_move map r near c)
  where
    by : (e : Effect) → IsMove map r near c e → IsValidRecord map id e.me
    by e (IsPlain none is) = subst (λ (x : Effect). IsValidRecord map id x.me) (sym is) (valid_after_plain map id r near c is_map kind valid)
    by e (Lies some is) = subst (λ (x : Effect). IsValidRecord map id x.me) (sym is) (valid_lying map id r c.seq valid)
    by e (Shoots some is) =
        subst (λ (x : Effect). IsValidRecord map id x.me) (sym is)
        (valid_after_shooting map id (player_after_rising r) near c is_map kind (valid_risen map id r (state_risen r) some kind valid))

-- a command leaves a body that was free of all solids free of them
pub free_after_command : (map : MapView) (id : ℕ) (r : Rec) (near : List Rec) (c : Command) → r.kind ≡ Player → IsValidRecord map id r
    → is_blocked (body_of r) (solids_among map near) ≡ false → is_blocked (body_of (outcome_on map r near c).me) (solids_among map near) ≡ false
free_after_command map id r near c kind valid free = by (outcome_on map r near c) (is_move map r near c)
  where
    by : (e : Effect) → IsMove map r near c e → is_blocked (body_of e.me) (solids_among map near) ≡ false
    by e (IsPlain none is) = ap (λ (x : Effect). is_blocked (body_of x.me) (solids_among map near)) is ∙ free_after_plain map id r near c kind valid free
    by e (Lies some is) = ap (λ (x : Effect). is_blocked (body_of x.me) (solids_among map near)) is ∙ free
    by e (Shoots some is) =
        ap (λ (x : Effect). is_blocked (body_of x.me) (solids_among map near)) is
        ∙ ap (λ (b : Bounds). is_blocked b (solids_among map near)) (body_after_shooting map (player_after_rising r) near c)
        ∙ free_after_plain map id (player_after_rising r) near c kind (valid_risen map id r (state_risen r) some kind valid) free
