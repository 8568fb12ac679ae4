-- Edges without their tests.
use Rattle.std.proofs.Common.{◌≡◌, ◌≢◌, ℕ, ◌<◌, ◌≤◌, max, Bool, true, false, not, ◌&&◌, cond, nat_lt, nat_le, List, Some, None, ℤ, ◌-ℤ◌, unsigned_abs, refl, sym, ◌∙◌, ap, arith}
use Rattle.std.specs.Ordering.{int_eq}
use Rattle.std.proofs.lemmas.Bool.{leb-true, ltb-true}
use Rattle.std.proofs.lemmas.Bool.Decides.{Decides-int_eq, Decides-eqb, nat_tests}
use Rattle.std.proofs.lemmas.Int.{ints}
use Rattle.std.proofs.lemmas.Option.{none-some, same_Some}
use Rattle.arena_geo.specs.declared.vec3.Vec3.{Vec3}
use Rattle.arena_geo.specs.Vectors.{minus}
use Rattle.arena_geo.specs.Bounds.{Bounds}
use Rattle.arena_geo.specs.Boxes.{is_blocked}
use Rattle.arena_geo.proofs.Vectors.{same_parts}
use Rattle.box_trace.specs.Steps.{step_count}
use Rattle.box_trace.specs.Traces.{IsFreeWay, trace_of}
use Rattle.box_trace.proofs.Stops.{steps_are_free, free_way_is_gone}
use Rattle.box_trace.proofs.Traces.{IsTrace-trace_of}
use Rattle.entity_recs.specs.Bodies.{player_body}
use Rattle.arena_map.specs.Maps.{MapView, solids_of}
use Rattle.bot_ways.specs.Edges.{distance, is_free, edge_between, edge}
use Rattle.bot_ways.specs.Laws.{IsEdge, EdgesAreKnown}
use Rattle.bot_ways.proofs.EdgeParts.{ends_of, edge_at}

-- the tests that an edge passes
record Passes (level apart short free : Bool) (d n : ℕ) : Type 0 where
  is_level : level ≡ true
  is_apart : apart ≡ true
  is_short : short ≡ true
  is_free : free ≡ true
  length : n ≡ d

passed : (level apart short free : Bool) (d n : ℕ) → cond (level && apart && short && free) (Some d) None ≡ Some n
    → Passes level apart short free d n
passed false apart short free d n h = absurd (none-some n h)
passed true false short free d n h = absurd (none-some n h)
passed true true false free d n h = absurd (none-some n h)
passed true true true false d n h = absurd (none-some n h)
passed true true true true d n h =
    record { is_level = refl; is_apart = refl; is_short = refl; is_free = refl; length = sym (same_Some d n h) }

both : (blocked whole : Bool) → (not blocked && whole) ≡ true → (blocked ≡ false) × (whole ≡ true)
both true whole h = cc
both false whole h = (refl, h)

-- a whole trace is a free way
whole_is_free : (body : Bounds) (d : Vec3) (solids : List Bounds) → (trace_of body d solids).whole ≡ true → IsFreeWay body d solids
whole_is_free body d solids whole = λ k from within.
    let trace = IsTrace-trace_of body d solids in
    let all = (Decides-eqb (trace_of body d solids).steps (step_count d)).0 (sym trace.whole ∙ whole) in
    steps_are_free body d solids k from (omega arith)

apart_where_far : (a b : Vec3) → 0 < distance a b → a ≢ b
apart_where_far a b far same =
    let x : a.x ≡ b.x = ap (λ (v : Vec3). v.x) same in
    let y : a.y ≡ b.y = ap (λ (v : Vec3). v.y) same in
    none_apart a.x b.x a.y b.y x y far
  where
    none_apart : (ax bx ay by : ℤ) → ax ≡ bx → ay ≡ by → 0 < max (unsigned_abs (bx -ℤ ax)) (unsigned_abs (by -ℤ ay)) → ⊥
    none_apart ax bx ay by x y far = grind (arith, ints)

same_axis : (a b : ℤ) → unsigned_abs (b -ℤ a) ≤ 0 → a ≡ b
same_axis a b h = grind (arith, ints)

far_where_apart : (a b : Vec3) → a.z ≡ b.z → a ≢ b → (t : Bool) → nat_lt 0 (distance a b) ≡ t → t ≡ true
far_where_apart a b level apart true e = refl
far_where_apart a b level apart false e =
    let none : distance a b ≤ 0 = grind (arith, nat_tests) in
    absurd (apart (same_parts (same_axis a.x b.x (omega arith)) (same_axis a.y b.y (omega arith)) level))

known : (map : MapView) (u v n : ℕ) → edge map u v ≡ Some n → IsEdge map u v n
known map u v n h =
    let ends = ends_of map u v n h in
    let a = ends.from in
    let b = ends.to in
    let p = passed (int_eq a.z b.z) (nat_lt 0 (distance a b)) (nat_le (distance a b) 65536) (is_free (solids_of map) a b)
    (distance a b) n ends.between in
    let free = both (is_blocked (player_body a) (solids_of map)) (trace_of (player_body a) (minus b a) (solids_of map)).whole p.is_free in
    let short = leb-true (distance a b) 65536 p.is_short in
    record {
      from = a;
      to = b;
      begins = ends.from_is;
      ends = ends.to_is;
      level = (Decides-int_eq a.z b.z).0 p.is_level;
      apart = apart_where_far a b (ltb-true 0 (distance a b) p.is_apart);
      x = omega arith;
      y = omega arith;
      start = free.0;
      free = whole_is_free (player_body a) (minus b a) (solids_of map) free.1;
      length = p.length;
    }

short_test : (d : ℕ) → d ≤ 65536 → nat_le d 65536 ≡ true
short_test d h = grind (arith, nat_tests)

found : (map : MapView) (u v n : ℕ) → IsEdge map u v n → edge map u v ≡ Some n
found map u v n e =
    let a = e.from in
    let b = e.to in
    let x = e.x in
    let y = e.y in
    let level = (Decides-int_eq a.z b.z).1 e.level in
    let apart = far_where_apart a b e.level e.apart (nat_lt 0 (distance a b)) refl in
    let short = short_test (distance a b) (omega arith) in
    let whole = (free_way_is_gone (player_body a) (minus b a) (solids_of map) e.free).whole in
    let between : edge_between (solids_of map) a b ≡ Some (distance a b) = rw (level, apart, short, e.start, whole) refl in
    edge_at map u v a b e.begins e.ends ∙ between ∙ ap (λ (k : ℕ). Some k) (sym e.length)

pub edges_are_known : EdgesAreKnown
edges_are_known map u v n = (known map u v n, found map u v n)
