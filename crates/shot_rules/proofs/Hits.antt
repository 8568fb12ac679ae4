-- Who is hit by a shot, and what a hit does.
use Rattle.std.proofs.Common.{◌≡◌, ℕ, ◌+◌, ◌-◌, ◌≤◌, ◌<◌, ◌==◌, nat_lt, nat_le, Bool, true, false, cond, ◌&&◌, ◌||◌, not, List, [], ◌∷◌, ◌++◌, length, Contains, Option, Some, None, is_some, refl, sym, ap, ◌∙◌, subst, arith}
use Rattle.std.specs.Prelude.{find}
use Rattle.std.proofs.lemmas.Bool.{ne_eqb, and_parts}
use Rattle.std.proofs.lemmas.Bool.Decides.{nat_tests}
use Rattle.std.proofs.lemmas.Option.{none-some, same_Some}
use Rattle.std.proofs.lemmas.List.{append-nil}
use Rattle.std.proofs.lemmas.List.Elements.{Contains-append_right}
use Rattle.arena_geo.specs.declared.vec3.Vec3.{Vec3}
use Rattle.arena_geo.specs.Bounds.{Bounds}
use Rattle.arena_geo.specs.Boxes.{overlaps, is_blocked}
use Rattle.entity_recs.specs.declared.kind.Kind.{Kind}
use Rattle.entity_recs.specs.declared.kind.Kind.TheVariants.{Player, Ammo, Gem, Teleporter, Goal, Lift}
use Rattle.entity_recs.specs.declared.rec.Rec.{Rec}
use Rattle.entity_recs.specs.Kinds.{is_solid, is_player}
use Rattle.entity_recs.specs.Bodies.{body_of}
use Rattle.entity_recs.specs.Commands.{Command}
use Rattle.box_trace.specs.Steps.{step_count, body_at}
use Rattle.box_trace.specs.Traces.{trace_of}
use Rattle.box_trace.proofs.Traces.{IsTrace-trace_of}
use Rattle.box_trace.proofs.Stops.{next_of_way}
use Rattle.trigger_rules.specs.Touching.{Walk, bodies_of_solids, new_state}
use Rattle.shot_rules.specs.Targets.{is_set, shot_box, has_aim, way_along, is_in_way, stopper_at, target_of}
use Rattle.shot_rules.specs.Shots.{with_shot_spent, may_fire, is_fired, stands, fells, state_after_hit, with_point, after_hit, after_meeting, walk_after_shot, shot, after_shot}
use Rattle.shot_rules.specs.Laws.{ShotsTakeAmmunition, IsShooterAfter, ShootersStayThemselves, IsHit, IsShot, Misses, Hits, HitsAreInTheWay, HasOneMore, AtMostOneIsHit, WhoIsFirstIsMet, DamageGrows, IsSameWay, OnlyTheWayMatters}
use Rattle.shot_rules.proofs.Stoppers.{blocked_by_all}
use Rattle.shot_rules.proofs.Nearest.{met_after, target_is}

-- ---- a shot that is fired, and one that isn't

pub fired_is : (fixed : List Bounds) (near : List Rec) (c : Command) (w : Walk) → is_fired c w ≡ true → after_shot fixed near c w ≡ shot fixed near c w
fired_is fixed near c w fired = ap (λ (t : Bool). cond t (shot fixed near c w) w) fired

pub unfired_is : (fixed : List Bounds) (near : List Rec) (c : Command) (w : Walk) → is_fired c w ≡ false → after_shot fixed near c w ≡ w
unfired_is fixed near c w unfired = ap (λ (t : Bool). cond t (shot fixed near c w) w) unfired

-- ---- ammunition

-- what a shot meets takes no ammunition
same_ammo : (frame : ℕ) (w : Walk) (met : Option Rec) → (after_meeting frame w met).me.ammo ≡ w.me.ammo
same_ammo frame w None = refl
same_ammo frame w (Some r) = by (stands r) (fells r.state)
  where
    by_point : (t : Bool) → (cond t (with_point w.me) w.me).ammo ≡ w.me.ammo
    by_point true = refl
    by_point false = refl

    by : (s t : Bool) → (cond s (after_hit frame w r) w).me.ammo ≡ w.me.ammo
    by true t = by_point (fells r.state)
    by false t = refl

-- what is known where a shot is fired
pub record IsFired (c : Command) (w : Walk) : Type 0 where
  pub pressed : is_set c.buttons 1 ≡ true
  pub some : 0 < w.me.ammo
  pub stayed : is_set w.me.flags 1 ≡ false
  pub few : length w.got < 8
  pub aim : has_aim c.wish_x c.wish_y ≡ true

pub firing : (c : Command) (w : Walk) → is_fired c w ≡ true → IsFired c w
firing c w fired =
    let a = is_set c.buttons 1 in
    let b = nat_lt 0 w.me.ammo in
    let d = not (is_set w.me.flags 1) in
    let e = nat_lt (length w.got) 8 in
    let may = and_parts (may_fire c w.me w.got) (has_aim c.wish_x c.wish_y) fired in
    let p = and_parts (a && b && d) e may.0 in
    let q = and_parts (a && b) d p.0 in
    record {
      pressed = (and_parts a b q.0).0;
      some = below 0 w.me.ammo (and_parts a b q.0).1;
      stayed = not_true (is_set w.me.flags 1) q.1;
      few = below (length w.got) 8 p.1;
      aim = may.1;
    }
  where
    below : (m n : ℕ) → nat_lt m n ≡ true → m < n
    below m n h = grind (arith, nat_tests)

    not_true : (t : Bool) → not t ≡ true → t ≡ false
    not_true true h = cc
    not_true false h = refl

pub take_ammunition : ShotsTakeAmmunition
take_ammunition = record {
  fired = λ fixed near c w fired.
      let some = (firing c w fired).some in
      let met = target_of (shot_box w.me.origin) (way_along c.wish_x c.wish_y) fixed near in
      let left : (after_shot fixed near c w).me.ammo ≡ w.me.ammo - 1 =
      ap (λ (v : Walk). v.me.ammo) (fired_is fixed near c w fired) ∙ same_ammo c.frame (walk_after_shot w) met in
      record { some = some; one = ap (λ (n : ℕ). n + 1) left ∙ less_one w.me.ammo some };
  unfired = unfired_is;
}
  where
    less_one : (n : ℕ) → 0 < n → n - 1 + 1 ≡ n
    less_one n some = omega (arith, some)

-- ---- who fires

-- with a point more or not
point_after : (me : Rec) (t : Bool) → IsShooterAfter me (cond t (with_point me) me)
point_after me true = record { same = refl; ammo = omega arith; no_less = λ h. omega (arith, h); one_more = omega arith; most = λ h. omega arith }
point_after me false = record { same = refl; ammo = omega arith; no_less = λ h. omega arith; one_more = omega arith; most = λ h. h }

met_after_shot : (frame : ℕ) (w : Walk) (met : Option Rec) → IsShooterAfter w.me (after_meeting frame w met).me
met_after_shot frame w None = point_after w.me false
met_after_shot frame w (Some r) = by (stands r)
  where
    by : (t : Bool) → IsShooterAfter w.me (cond t (after_hit frame w r) w).me
    by true = point_after w.me (fells r.state)
    by false = point_after w.me false

-- with one of the ammunition spent too
spent_and_met : (me after : Rec) → IsShooterAfter (with_shot_spent me) after → IsShooterAfter me after
spent_and_met me after is = record {
  same = is.same;
  ammo = omega (arith, is.ammo);
  no_less = is.no_less;
  one_more = is.one_more;
  most = is.most;
}

pub stay_shooters : ShootersStayThemselves
stay_shooters fixed near c w = by (is_fired c w)
  where
    by : (t : Bool) → IsShooterAfter w.me (cond t (shot fixed near c w) w).me
    by true = spent_and_met w.me (shot fixed near c w).me (met_after_shot c.frame (walk_after_shot w) (target_of (shot_box w.me.origin) (way_along c.wish_x c.wish_y) fixed near))
    by false = point_after w.me false

-- ---- who is met

-- the record that was found is among those that were looked at, and passes
pub record IsFound {X : Type 0} (p : X → Bool) (xs : List X) (x : X) : Type 0 where
  pub listed : Contains xs x
  pub passes : p x ≡ true

found_later : {X : Type 0} (p : X → Bool) (y : X) (xs : List X) (x : X) → IsFound p xs x → IsFound p (y ∷ xs) x
found_later p y xs x is = record { listed = Contains-append_right (y ∷ []) xs x is.listed; passes = is.passes }

pub found : {X : Type 0} (p : X → Bool) (xs : List X) (x : X) → find p xs ≡ Some x → IsFound p xs x
found p [] x is = absurd (none-some x is)
found {X} p (y ∷ xs) x is = by (p y) refl is (found p xs x)
  where
    at_first : p y ≡ true → y ≡ x → IsFound p (y ∷ xs) x
    at_first passes same = record { listed = (0, omega arith, same); passes = ap p (sym same) ∙ passes }

    by : (t : Bool) → p y ≡ t → cond t (Some y) (find p xs) ≡ Some x → (find p xs ≡ Some x → IsFound p xs x) → IsFound p (y ∷ xs) x
    by true e is later = at_first e (same_Some y x is)
    by false e is later = found_later p y xs x (later is)

-- what a box meets first on its way
pub record IsMet (body : Bounds) (way : Vec3) (fixed : List Bounds) (near : List Rec) (r : Rec) : Type 0 where
  pub step : ℕ
  pub from : 1 ≤ step
  pub within : step ≤ step_count way
  pub free : (k : ℕ) → 1 ≤ k → k < step → is_blocked (body_at body way k) (fixed ++ bodies_of_solids near) ≡ false
  pub clear : is_blocked (body_at body way step) fixed ≡ false
  pub first : find (is_in_way (body_at body way step)) near ≡ Some r
  pub found : IsFound (is_in_way (body_at body way step)) near r

pub met_is : (body : Bounds) (way : Vec3) (fixed : List Bounds) (near : List Rec) (r : Rec) → target_of body way fixed near ≡ Some r → IsMet body way fixed near r
met_is body way fixed near r met = by (came == step_count way) refl (sym (target_is body way fixed near) ∙ met)
  where
    came : ℕ
    came = (trace_of body way (fixed ++ bodies_of_solids near)).steps

    stopped : (came + 1 ≤ step_count way) → (t : Bool) → is_blocked (body_at body way (came + 1)) fixed ≡ t
        → cond t None (find (is_in_way (body_at body way (came + 1))) near) ≡ Some r → IsMet body way fixed near r
    stopped next true e is = absurd (none-some r is)
    stopped next false e is = record {
      step = came + 1;
      from = omega arith;
      within = next;
      free = λ k from below. (IsTrace-trace_of body way (fixed ++ bodies_of_solids near)).free.free k from (omega (arith, below));
      clear = e;
      first = is;
      found = found (is_in_way (body_at body way (came + 1))) near r is;
    }

    by : (whole : Bool) → (came == step_count way) ≡ whole → cond whole None (stopper_at (body_at body way (came + 1)) fixed near) ≡ Some r → IsMet body way fixed near r
    by true e is = absurd (none-some r is)
    by false e is =
        stopped (next_of_way came (step_count way) e (IsTrace-trace_of body way (fixed ++ bodies_of_solids near)).within)
        (is_blocked (body_at body way (came + 1)) fixed) refl is

-- ---- who is hit

player_is : (k : Kind) → is_player k ≡ true → k ≡ Player
player_is Player h = refl
player_is Ammo h = cc
player_is Gem h = cc
player_is Teleporter h = cc
player_is Goal h = cc
player_is Lift h = cc

-- who may be hurt is a player with a state below 100
pub record IsStanding (r : Rec) : Type 0 where
  pub player : r.kind ≡ Player
  pub few : r.state < 100

pub standing : (r : Rec) → stands r ≡ true → IsStanding r
standing r h =
    let t = and_parts (is_player r.kind) (nat_lt r.state 100) h in
    record { player = player_is r.kind t.0; few = below r.state t.1 }
  where
    below : (n : ℕ) → nat_lt n 100 ≡ true → n < 100
    below n e = grind (arith, nat_tests)

hit_is : (fixed : List Bounds) (near : List Rec) (c : Command) (w : Walk) (r : Rec) → stands r ≡ true
    → target_of (shot_box w.me.origin) (way_along c.wish_x c.wish_y) fixed near ≡ Some r → IsHit fixed near c w r
hit_is fixed near c w r standing_is met =
    let body = shot_box w.me.origin in
    let way = way_along c.wish_x c.wish_y in
    let m = met_is body way fixed near r met in
    let s = standing r standing_is in
    record {
      listed = m.found.listed;
      player = s.player;
      standing = s.few;
      step = m.step;
      from = m.from;
      within = m.within;
      reached = (and_parts (is_solid r.kind) (overlaps (body_at body way m.step) (body_of r)) m.found.passes).1;
      free = m.free;
      clear = m.clear;
      first = m.first;
    }

shot_is : (fixed : List Bounds) (near : List Rec) (c : Command) (w : Walk) (met : Option Rec)
    → target_of (shot_box w.me.origin) (way_along c.wish_x c.wish_y) fixed near ≡ met → IsShot fixed near c w (after_meeting c.frame (walk_after_shot w) met)
shot_is fixed near c w None met = Misses refl
shot_is fixed near c w (Some r) met = by (stands r) refl
  where
    by : (t : Bool) → stands r ≡ t → IsShot fixed near c w (cond t (after_hit c.frame (walk_after_shot w) r) (walk_after_shot w))
    by true e = Hits r (hit_is fixed near c w r e met) refl
    by false e = Misses refl

pub are_in_the_way : HitsAreInTheWay
are_in_the_way fixed near c w fired =
    subst (λ (v : Walk). IsShot fixed near c w v) (sym (fired_is fixed near c w fired))
    (shot_is fixed near c w (target_of (shot_box w.me.origin) (way_along c.wish_x c.wish_y) fixed near) refl)

-- ---- at most one

one_of_shot : (fixed : List Bounds) (near : List Rec) (c : Command) (w after : Walk) → IsShot fixed near c w after → HasOneMore w after
one_of_shot fixed near c w after (Misses is) = record {
  new = [];
  few = omega arith;
  states = ap (λ (v : Walk). v.states) is ∙ sym (append-nil w.states);
  got = ap (λ (v : Walk). v.got) is;
}
one_of_shot fixed near c w after (Hits r hit is) = record {
  new = new_state r.id (state_after_hit r.state c.frame) ∷ [];
  few = omega arith;
  states = ap (λ (v : Walk). v.states) is;
  got = ap (λ (v : Walk). v.got) is;
}

pub one_is_hit : AtMostOneIsHit
one_is_hit fixed near c w = by (is_fired c w) refl
  where
    by : (t : Bool) → is_fired c w ≡ t → HasOneMore w (after_shot fixed near c w)
    by true e = one_of_shot fixed near c w (after_shot fixed near c w) (are_in_the_way fixed near c w e)
    by false e = record {
      new = [];
      few = omega arith;
      states = ap (λ (v : Walk). v.states) (unfired_is fixed near c w e) ∙ sym (append-nil w.states);
      got = ap (λ (v : Walk). v.got) (unfired_is fixed near c w e);
    }

-- ---- who is first is met

pub first_is_met : WhoIsFirstIsMet
first_is_met fixed near body way r first =
    target_is body way fixed near ∙ ap (met_after body way fixed near) came ∙ ap (λ (w : Bool). cond w None (stopper_at (body_at body way (first.step - 1 + 1)) fixed near)) part
    ∙ ap (λ (k : ℕ). stopper_at (body_at body way k) fixed near) next
    ∙ ap (λ (t : Bool). cond t None (find (is_in_way (body_at body way first.step)) near)) first.clear ∙ first.first
  where
    solids : List Bounds
    solids = fixed ++ bodies_of_solids near

    next : first.step - 1 + 1 ≡ first.step
    next = omega (arith, first.from)

    part : (first.step - 1 == step_count way) ≡ false
    part = ne_eqb (first.step - 1) (step_count way) (λ e. omega (arith, e, first.within, first.from))

    -- at this step something is in the way
    blocked : is_blocked (body_at body way first.step) (fixed ++ bodies_of_solids near) ≡ true
    blocked =
        blocked_by_all (body_at body way first.step) fixed near
        ∙ ap (λ (t : Bool). t || is_some (find (is_in_way (body_at body way first.step)) near)) first.clear
        ∙ ap is_some first.first

    true_false : (t : Bool) → t ≡ true → t ≡ false → ⊥
    true_false t h e = cc

    least : first.step - 1 ≤ (trace_of body way (fixed ++ bodies_of_solids near)).steps
    least =
        (IsTrace-trace_of body way (fixed ++ bodies_of_solids near)).most (first.step - 1) (omega (arith, first.within))
        (record { free = λ k from within. first.free k from (omega (arith, within, first.from)) })

    most : (trace_of body way (fixed ++ bodies_of_solids near)).steps < first.step
    most = by (nat_lt (trace_of body way (fixed ++ bodies_of_solids near)).steps first.step) refl
      where
        below : (m n : ℕ) → nat_lt m n ≡ true → m < n
        below m n e = grind (arith, nat_tests)

        above : (m n : ℕ) → nat_lt m n ≡ false → n ≤ m
        above m n e = grind (arith, nat_tests)

        by : (t : Bool) → nat_lt (trace_of body way (fixed ++ bodies_of_solids near)).steps first.step ≡ t → (trace_of body way (fixed ++ bodies_of_solids near)).steps < first.step
        by true e = below (trace_of body way (fixed ++ bodies_of_solids near)).steps first.step e
        by false e =
            absurd (true_false (is_blocked (body_at body way first.step) (fixed ++ bodies_of_solids near)) blocked
            ((IsTrace-trace_of body way (fixed ++ bodies_of_solids near)).free.free first.step first.from (above (trace_of body way (fixed ++ bodies_of_solids near)).steps first.step e)))

    came : (trace_of body way (fixed ++ bodies_of_solids near)).steps ≡ first.step - 1
    came = omega (arith, least, most)

-- ---- damage

pub grows : DamageGrows
grows r frame few = record { more = by_more (fells r.state) refl; wounded = wounded_is; fallen = fallen_is }
  where
    fells_at : (s : ℕ) → 100 ≤ s + 25 → nat_le 100 (s + 25) ≡ true
    fells_at s h = grind (arith, nat_tests)

    fells_not : (s : ℕ) → s + 25 < 100 → nat_le 100 (s + 25) ≡ false
    fells_not s h = grind (arith, nat_tests)

    by_more : (t : Bool) → fells r.state ≡ t → r.state < cond t (100 + frame + 40) (r.state + 25)
    by_more true e = omega (arith, few)
    by_more false e = omega arith

    wounded_is : r.state + 25 < 100 → state_after_hit r.state frame ≡ r.state + 25
    wounded_is h = ap (λ (t : Bool). cond t (100 + frame + 40) (r.state + 25)) (fells_not r.state h)

    down_at : (state later : ℕ) → state ≡ 100 + frame + 40 → (nat_le 100 state && nat_lt later (state - 100)) ≡ nat_lt later (frame + 40)
    down_at state later is = grind (arith, nat_tests)

    fallen_is : 100 ≤ r.state + 25 → (later : ℕ) → (nat_le 100 (state_after_hit r.state frame) && nat_lt later (state_after_hit r.state frame - 100)) ≡ nat_lt later (frame + 40)
    fallen_is h later =
        down_at (state_after_hit r.state frame) later (ap (λ (t : Bool). cond t (100 + frame + 40) (r.state + 25)) (fells_at r.state h))

-- ---- what doesn't matter

module _ (body : Bounds) (way : Vec3) (fixed others : List Bounds) (near some : List Rec) (same : IsSameWay body way fixed others near some) where
  same_blocked : (k : ℕ) → 1 ≤ k → k ≤ step_count way
      → is_blocked (body_at body way k) (fixed ++ bodies_of_solids near) ≡ is_blocked (body_at body way k) (others ++ bodies_of_solids some)
  same_blocked k from within =
      blocked_by_all (body_at body way k) fixed near
      ∙ ap (λ (t : Bool). t || is_some (find (is_in_way (body_at body way k)) near)) (same.fixed_are k from within)
      ∙ ap (λ (o : Option Rec). is_blocked (body_at body way k) others || is_some o) (same.near_are k from within)
      ∙ sym (blocked_by_all (body_at body way k) others some)

  abbrev came : ℕ
  came = (trace_of body way (fixed ++ bodies_of_solids near)).steps

  abbrev other : ℕ
  other = (trace_of body way (others ++ bodies_of_solids some)).steps

  same_steps : came ≡ other
  same_steps =
      let a = IsTrace-trace_of body way (fixed ++ bodies_of_solids near) in
      let b = IsTrace-trace_of body way (others ++ bodies_of_solids some) in
      let there = b.most came a.within (record { free = λ k from below. sym (same_blocked k from (omega (arith, below, a.within))) ∙ a.free.free k from below }) in
      let back = a.most other b.within (record { free = λ k from below. same_blocked k from (omega (arith, below, b.within)) ∙ b.free.free k from below }) in
      omega (arith, there, back)

  same_met : (whole : Bool) → (came == step_count way) ≡ whole
      → cond whole None (stopper_at (body_at body way (came + 1)) fixed near) ≡ cond whole None (stopper_at (body_at body way (came + 1)) others some)
  same_met true e = refl
  same_met false e =
      let next = next_of_way came (step_count way) e (IsTrace-trace_of body way (fixed ++ bodies_of_solids near)).within in
      ap (λ (t : Bool). cond t None (find (is_in_way (body_at body way (came + 1))) near)) (same.fixed_are (came + 1) (omega arith) next)
      ∙ ap (cond (is_blocked (body_at body way (came + 1)) others) None) (same.near_are (came + 1) (omega arith) next)

  same_target : target_of body way fixed near ≡ target_of body way others some
  same_target =
      target_is body way fixed near
      ∙ same_met (came == step_count way) refl
      ∙ ap (met_after body way others some) same_steps
      ∙ sym (target_is body way others some)

pub only_way_matters : OnlyTheWayMatters
only_way_matters = same_target
