-- Moves on a map with shots, and on any map.
use Rattle.std.proofs.Common.{◌≡◌, ℕ, zero, suc, ◌+◌, ◌-◌, ◌<◌, ◌≤◌, ◌==◌, nat_le, nat_lt, Bool, true, false, cond, ◌&&◌, List, [], ◌∷◌, ◌++◌, length, slice_index, Contains, All, refl, sym, ap, ◌∙◌, subst, arith}
use Rattle.std.specs.Prelude.{map as map_list}
use Rattle.std.specs.List.{IsDistinct, AllByRecursion}
use Rattle.std.specs.List.Sorted.{IsStrictlyIncreasing}
use Rattle.std.proofs.lemmas.Bool.{ne_eqb}
use Rattle.std.proofs.lemmas.Bool.Decides.{nat_tests}
use Rattle.std.proofs.lemmas.List.Elements.{All-contains, All-get_or, All-map, All-weaker, recursion_from_All}
use Rattle.arena_geo.specs.Bounds.{Bounds}
use Rattle.arena_geo.specs.Boxes.{is_blocked, contains}
use Rattle.entity_recs.specs.declared.effect.Effect.{Effect}
use Rattle.entity_recs.specs.declared.effect.NewState.{NewState}
use Rattle.entity_recs.specs.declared.kind.Kind.{Kind}
use Rattle.entity_recs.specs.declared.kind.Kind.TheVariants.{Player}
use Rattle.entity_recs.specs.declared.rec.Rec.{Rec}
use Rattle.entity_recs.specs.Records.{IsIdOf, IsRecord, with_state}
use Rattle.entity_recs.specs.Bodies.{body_of}
use Rattle.entity_recs.specs.Commands.{Command}
use Rattle.entity_recs.proofs.Ids.{thing_id}
use Rattle.arena_map.specs.Maps.{MapView, solids_of}
use Rattle.trigger_rules.specs.Touching.{Walk, first_walk, solids_among, touched}
use Rattle.trigger_rules.specs.Laws.{IsTaken, AreTaken, IsPlayerOn, is_same_record}
use Rattle.shot_rules.specs.Shots.{is_down, is_fired, after_shot}
use Rattle.shot_rules.specs.Laws.{IsShot, Misses, Hits}
use Rattle.shot_rules.proofs.Hits.{firing, stay_shooters, are_in_the_way, unfired_is}
use Rattle.arena_outcomes.specs.Outcomes.{moved_among, effect_of, outcome_in, player_after_rising, player_while_down, shooting_in, shot_outcome, outcome_on}
use Rattle.arena_outcomes.specs.Regions.{region_in, shot_region}
use Rattle.arena_outcomes.specs.ShotLaws.{IsLying, DownPlayersLie, DownPlayersRise, ShotsFollowMoves, MapsDecide, IsMoverAfter, MoversStayThemselves, MoversStayOnMaps, MoversStayFree, HasFewInOrder, RepliesAreShort}
use Rattle.arena_outcomes.proofs.Lawful.Moves.{stay_on_maps, keep_who_moves, stay_free, take_what_is_there, new_states_apart, replied_rise}
use Rattle.arena_outcomes.proofs.Lawful.Shots.{on_in_state, lying_on, shooter_on, all_and_one}
use Rattle.arena_outcomes.proofs.LyingOrMoving.{down_is, moves_is}

-- ---- who is down

down_at : (state frame now : ℕ) → state ≡ 100 + frame → now < frame → (nat_le 100 state && nat_lt now (state - 100)) ≡ true
down_at state frame now is before = grind (arith, nat_tests)

up_at : (state frame now : ℕ) → state ≡ 100 + frame → frame ≤ now → (nat_le 100 state && nat_lt now (state - 100)) ≡ false
up_at state frame now is since = grind (arith, nat_tests)

up_below : (state now : ℕ) → state < 100 → (nat_le 100 state && nat_lt now (state - 100)) ≡ false
up_below state now few = grind (arith, nat_tests)

pub down_lie : DownPlayersLie
down_lie arena me near c frame is before =
    let same = down_is arena me near c (down_at me.state frame c.frame is before) in
    subst (λ (e : Effect). IsLying me c.seq e) same (record {
      origin = refl;
      at_rest = refl;
      flags = refl;
      carry = refl;
      ammo = refl;
      score = refl;
      state = refl;
      seq = refl;
      states = refl;
      got = refl;
    })

-- who rises has no damage
risen_is : (me : Rec) (frame : ℕ) → me.state ≡ 100 + frame → player_after_rising me ≡ with_state me 0
risen_is me frame is = ap (λ (t : Bool). with_state me (cond t 0 me.state)) (above me.state frame is)
  where
    above : (state frame : ℕ) → state ≡ 100 + frame → nat_le 100 state ≡ true
    above state frame e = grind (arith, nat_tests)

-- and who has little keeps it
stands_is : (me : Rec) → me.state < 100 → player_after_rising me ≡ me
stands_is me few = ap (λ (t : Bool). with_state me (cond t 0 me.state)) (below me.state few)
  where
    below : (state : ℕ) → state < 100 → nat_le 100 state ≡ false
    below state e = grind (arith, nat_tests)

-- a move with its shot leaves the state
kept_state : (arena : MapView) (me : Rec) (near : List Rec) (c : Command) → (shooting_in arena me near c).me.state ≡ me.state
unfolding outcome_in
kept_state arena me near c =
    ap (λ (r : Rec). r.state) (stay_shooters (solids_of arena) near c (touched arena c.frame (moved_among arena me near c) near)).same
    ∙ (keep_who_moves arena me near c).state

pub down_rise : DownPlayersRise
down_rise arena me near c frame is since =
    let up = sym (moves_is arena me near c (up_at me.state frame c.frame is since)) in
    let new = moves_is arena (with_state me 0) near c (up_below 0 c.frame (omega arith)) in
    let same : shot_outcome arena me near c ≡ shooting_in arena (with_state me 0) near c =
    up ∙ ap (λ (r : Rec). shooting_in arena r near c) (risen_is me frame is) in
    record {
      as_new = same ∙ ap (λ (r : Rec). shooting_in arena r near c) (sym (stands_is (with_state me 0) (omega arith))) ∙ new;
      state = ap (λ (e : Effect). e.me.state) same ∙ kept_state arena (with_state me 0) near c;
    }

-- ---- who isn't

pub follow_moves : ShotsFollowMoves
unfolding outcome_in
follow_moves arena me near c few =
    let w = touched arena c.frame (moved_among arena me near c) near in
    let same : shot_outcome arena me near c ≡ shooting_in arena me near c =
    sym (moves_is arena me near c (up_below me.state c.frame few)) ∙ ap (λ (r : Rec). shooting_in arena r near c) (stands_is me few) in
    record {
      effect = same;
      no_shot = λ none. same ∙ ap effect_of (unfired_is (solids_of arena) near c w none);
      state = ap (λ (e : Effect). e.me.state) same ∙ kept_state arena me near c;
    }

-- ---- on a map

pub decide : MapsDecide
decide = record {
  plain_outcome = λ arena none. ap (λ (t : Bool). cond t (shot_outcome arena) (outcome_in arena)) none;
  shot_outcome = λ arena some. ap (λ (t : Bool). cond t (shot_outcome arena) (outcome_in arena)) some;
  plain_region = λ arena none. ap (λ (t : Bool). cond t (shot_region arena) (region_in arena)) none;
  shot_region = λ arena some. ap (λ (t : Bool). cond t (shot_region arena) (region_in arena)) some;
}

-- a move on a map is a plain one; or on a map with shots its player is down; or it moves and may shoot
pub data IsMove (arena : MapView) (me : Rec) (near : List Rec) (c : Command) (e : Effect) : Type 0 where
  IsPlain : arena.shots ≡ false → e ≡ outcome_in arena me near c → IsMove arena me near c e
  Lies : arena.shots ≡ true → e ≡ effect_of (first_walk (player_while_down me c.seq)) → IsMove arena me near c e
  Shoots : arena.shots ≡ true → e ≡ shooting_in arena (player_after_rising me) near c → IsMove arena me near c e

pub is_move : (arena : MapView) (me : Rec) (near : List Rec) (c : Command) → IsMove arena me near c (outcome_on arena me near c)
unfolding shot_outcome
is_move arena me near c = by arena.shots refl (is_down me c.frame) refl
  where
    by : (s : Bool) → arena.shots ≡ s → (t : Bool) → is_down me c.frame ≡ t → IsMove arena me near c (cond s (shot_outcome arena) (outcome_in arena) me near c)
    by false none t down = IsPlain none refl
    by true some true down = Lies some (sym (down_is arena me near c down))
    by true some false up = Shoots some (sym (moves_is arena me near c up))

-- the player after its move and its shot
after_shooting : (arena : MapView) (me : Rec) (near : List Rec) (c : Command) → IsMoverAfter me c.seq (shooting_in arena me near c)
unfolding outcome_in
after_shooting arena me near c =
    let kept = stay_shooters (solids_of arena) near c (touched arena c.frame (moved_among arena me near c) near) in
    let who = keep_who_moves arena me near c in
    record {
      id = ap (λ (r : Rec). r.id) kept.same ∙ who.id;
      kind = ap (λ (r : Rec). r.kind) kept.same ∙ who.kind;
      mins = ap (λ (r : Rec). r.mins) kept.same ∙ who.mins;
      maxs = ap (λ (r : Rec). r.maxs) kept.same ∙ who.maxs;
      seq = ap (λ (r : Rec). r.seq) kept.same ∙ who.seq;
      origin = refl;
    }

after_plain : (arena : MapView) (me : Rec) (near : List Rec) (c : Command) → IsMoverAfter me c.seq (outcome_in arena me near c)
unfolding outcome_in
after_plain arena me near c =
    let who = keep_who_moves arena me near c in
    record { id = who.id; kind = who.kind; mins = who.mins; maxs = who.maxs; seq = who.seq; origin = refl }

pub stay_movers : MoversStayThemselves
stay_movers arena me near c = by (outcome_on arena me near c) (is_move arena me near c)
  where
    by : (e : Effect) → IsMove arena me near c e → IsMoverAfter me c.seq e
    by e (IsPlain none is) = subst (IsMoverAfter me c.seq) (sym is) (after_plain arena me near c)
    by e (Lies some is) = subst (IsMoverAfter me c.seq) (sym is) (record { id = refl; kind = refl; mins = refl; maxs = refl; seq = refl; origin = refl })
    by e (Shoots some is) =
        let after = after_shooting arena (player_after_rising me) near c in
        subst (IsMoverAfter me c.seq) (sym is) (record {
          id = after.id;
          kind = after.kind;
          mins = after.mins;
          maxs = after.maxs;
          seq = after.seq;
          origin = after.origin;
        })

-- the body after the shot is that before it
pub body_after_shooting : (arena : MapView) (me : Rec) (near : List Rec) (c : Command) → body_of (shooting_in arena me near c).me ≡ body_of (outcome_in arena me near c).me
unfolding outcome_in
body_after_shooting arena me near c = ap body_of (stay_shooters (solids_of arena) near c (touched arena c.frame (moved_among arena me near c) near)).same

pub free_movers : MoversStayFree
free_movers arena me near c on free = by (outcome_on arena me near c) (is_move arena me near c)
  where
    by : (e : Effect) → IsMove arena me near c e → is_blocked (body_of e.me) (solids_among arena near) ≡ false
    by e (IsPlain none is) = ap (λ (x : Effect). is_blocked (body_of x.me) (solids_among arena near)) is ∙ stay_free arena me near c on free
    by e (Lies some is) = ap (λ (x : Effect). is_blocked (body_of x.me) (solids_among arena near)) is ∙ free
    by e (Shoots some is) =
        ap (λ (x : Effect). is_blocked (body_of x.me) (solids_among arena near)) is
        ∙ ap (λ (b : Bounds). is_blocked b (solids_among arena near)) (body_after_shooting arena (player_after_rising me) near c)
        ∙ stay_free arena (player_after_rising me) near c (on_in_state arena me (cond (nat_le 100 me.state) 0 me.state) on) free

pub movers_stay_on : MoversStayOnMaps
unfolding outcome_in
movers_stay_on arena me near c is_map on = by (outcome_on arena me near c) (is_move arena me near c)
  where
    by : (e : Effect) → IsMove arena me near c e → IsPlayerOn arena e.me
    by e (IsPlain none is) = subst (λ (x : Effect). IsPlayerOn arena x.me) (sym is) (stay_on_maps arena me near c is_map on)
    by e (Lies some is) = subst (λ (x : Effect). IsPlayerOn arena x.me) (sym is) (lying_on arena me c.seq on)
    by e (Shoots some is) =
        let w = touched arena c.frame (moved_among arena (player_after_rising me) near c) near in
        subst (λ (x : Effect). IsPlayerOn arena x.me) (sym is)
        (shooter_on arena w.me (shooting_in arena (player_after_rising me) near c).me (stay_shooters (solids_of arena) near c w)
        (stay_on_maps arena (player_after_rising me) near c is_map (on_in_state arena me (cond (nat_le 100 me.state) 0 me.state) on)))

-- ---- replies

-- a number below those of a list that rises, and the list
rise_first : (x : ℕ) (xs : List ℕ) → All (λ y. x < y) xs → IsStrictlyIncreasing xs → IsStrictlyIncreasing (x ∷ xs)
rise_first x xs all rise zero below = All-get_or (λ (y : ℕ). x < y) xs 0 0 (omega (arith, below)) all
rise_first x xs all rise (suc k) below =
    let e : suc k + 1 ≡ suc (k + 1) = omega arith in
    subst (λ (j : ℕ). slice_index (x ∷ xs) (suc k) < slice_index (x ∷ xs) j) (sym e) (rise k (omega (arith, below)))

apart_and_one : (xs : List NewState) (x : NewState) → IsDistinct is_same_record xs → AllByRecursion (λ (y : NewState). is_same_record y x ≡ false) xs
    → IsDistinct is_same_record (xs ++ x ∷ [])
unfolding IsDistinct
apart_and_one [] x apart other = (tt, tt)
apart_and_one (y ∷ xs) x apart other = (all_and_one (λ (z : NewState). is_same_record y z ≡ false) xs x apart.0 other.0, apart_and_one xs x apart.1 other.1)

module _ (arena : MapView) (me : Rec) (near : List Rec) (c : Command) (records : All IsRecord near) (rise : IsStrictlyIncreasing (map_list (λ r. r.id) near)) where
  abbrev walk : Walk
  walk = touched arena c.frame (moved_among arena me near c) near

  there : AreTaken arena c.frame (moved_among arena me near c) near walk.states walk.got
  unfolding outcome_in
  there = take_what_is_there arena me near c

  plain_reply : HasFewInOrder (effect_of walk)
  unfolding outcome_in
  plain_reply = record { few = there.few; rising = replied_rise arena me near c rise; apart = new_states_apart arena me near c rise }

  -- what was taken has the id of a thing
  things : All (λ (s : NewState). 64 ≤ s.id) walk.states
  things = All-weaker (IsTaken arena c.frame (moved_among arena me near c) near) (λ (s : NewState). 64 ≤ s.id) one walk.states there.each
    where
      one : (s : NewState) → IsTaken arena c.frame (moved_among arena me near c) near s → 64 ≤ s.id
      one s is =
          let r = All-contains IsRecord near is.item records is.listed in
          omega (arith, thing_id is.item.kind is.item.id is.kind r.id, is.own)

  player_id : (r : Rec) → Contains near r → r.kind ≡ Player → r.id < 64
  player_id r listed kind =
      let is = All-contains IsRecord near r records listed in
      subst (λ (k : Kind). IsIdOf k r.id) kind is.id

  shot_reply : (after : Walk) → is_fired c walk ≡ true → IsShot (solids_of arena) near c walk after → HasFewInOrder (effect_of after)
  shot_reply after fired (Misses is) = record {
    few = subst (λ (ids : List ℕ). length ids ≤ 8) (sym (ap (λ (v : Walk). v.got) is)) plain_reply.few;
    rising = subst IsStrictlyIncreasing (sym (ap (λ (v : Walk). v.got) is)) plain_reply.rising;
    apart = subst (IsDistinct is_same_record) (sym (ap (λ (v : Walk). v.states) is)) plain_reply.apart;
  }
  shot_reply after fired (Hits r hit is) =
      let low = player_id r hit.listed hit.player in
      let got : after.got ≡ r.id ∷ walk.got = ap (λ (v : Walk). v.got) is in
      let few = (firing c walk fired).few in
      let above : All (λ (id : ℕ). r.id < id) walk.got =
      subst (All (λ (id : ℕ). r.id < id)) (sym there.got_are)
      (All-map (λ (id : ℕ). r.id < id) (λ (s : NewState). s.id) walk.states (All-weaker (λ (s : NewState). 64 ≤ s.id) (λ (s : NewState). r.id < s.id) (λ s from. omega (arith, from, low)) walk.states things)) in
      record {
        few = subst (λ (ids : List ℕ). length ids ≤ 8) (sym got) (omega (arith, few));
        rising = subst IsStrictlyIncreasing (sym got) (rise_first r.id walk.got above plain_reply.rising);
        apart = subst (IsDistinct is_same_record) (sym (ap (λ (v : Walk). v.states) is))
            (apart_and_one walk.states _ plain_reply.apart
            (recursion_from_All _ walk.states
            (All-weaker (λ (s : NewState). 64 ≤ s.id) (λ (s : NewState). (s.id == r.id) ≡ false) (λ s from. ne_eqb s.id r.id (λ same. omega (arith, from, low, same))) walk.states things)));
      }

  pub shooting_reply : HasFewInOrder (shooting_in arena me near c)
  shooting_reply = by (is_fired c walk) refl
    where
      by : (t : Bool) → is_fired c walk ≡ t → HasFewInOrder (shooting_in arena me near c)
      by true fired = shot_reply (after_shot (solids_of arena) near c walk) fired (are_in_the_way (solids_of arena) near c walk fired)
      by false none = subst (λ (v : Walk). HasFewInOrder (effect_of v)) (sym (unfired_is (solids_of arena) near c walk none)) plain_reply

  pub plain_is_short : HasFewInOrder (outcome_in arena me near c)
  unfolding outcome_in
  plain_is_short = plain_reply

pub short_replies : RepliesAreShort
unfolding IsDistinct
short_replies arena me near c records rise = by (outcome_on arena me near c) (is_move arena me near c)
  where
    by : (e : Effect) → IsMove arena me near c e → HasFewInOrder e
    by e (IsPlain none is) = subst HasFewInOrder (sym is) (plain_is_short arena me near c records rise)
    by e (Lies some is) = subst HasFewInOrder (sym is) (record { few = omega arith; rising = λ k below. absurd (omega (arith, below)); apart = tt })
    by e (Shoots some is) = subst HasFewInOrder (sym is) (shooting_reply arena (player_after_rising me) near c records rise)

-- ---- tests

-- what was tested is the player's body in the arena
pub inside_by_test : (map asked : MapView) (bounds body : Bounds) (me : Rec) (inside : Bool) → asked ≡ map → bounds ≡ asked.bounds → body ≡ body_of me → inside ≡ contains bounds body → inside ≡ true
    → contains map.bounds (body_of me) ≡ true
inside_by_test map asked bounds body me inside asked_is bounds_are body_is inside_is is =
    ap (λ (m : MapView). contains m.bounds (body_of me)) (sym asked_is)
    ∙ ap (λ (b : Bounds). contains b (body_of me)) (sym bounds_are)
    ∙ ap (contains bounds) (sym body_is)
    ∙ sym inside_is
    ∙ is
