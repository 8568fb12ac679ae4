-- A walk from a waypoint on.
use Rattle.std.proofs.Common.{◌≡◌, ℕ, ◌+◌, ◌-◌, ◌*◌, ◌<◌, ◌≤◌, List, [], ◌∷◌, ◌++◌, length, drop, get_or, Some, slice_get, unwrap_or, refl, sym, ap, ◌∙◌, subst, arith, append_assoc, append-nil, length-drop}
use Rattle.std.proofs.lemmas.Option.{unwrap_or-slice_get}
use Rattle.std.proofs.lemmas.List.{drop_more, drop_all}
use Rattle.std.proofs.lemmas.Grind.{flat_map-append}
use Rattle.arena_geo.specs.declared.vec3.Vec3.{Vec3}
use Rattle.arena_geo.specs.Vectors.{zero_vector, IsNear}
use Rattle.arena_map.specs.Maps.{MapView, solids_of}
use Rattle.bot_ways.specs.Edges.{distance, edge}
use Rattle.bot_ways.specs.Walks.{IsWalk, alone, longer}
use Rattle.bot_ways.specs.Moves.{waypoint_point, waypoint_points, length_through, moves_between, frames_between, frames_through}
use Rattle.bot_ways.specs.PlanTexts.{frame_text, frames_text}
use Rattle.bot_ways.specs.Walking.{IsStride, IsSomeWalk}
use Rattle.bot_ways.proofs.EdgeParts.{ends_of, edge_at, step_between, from_within, to_within}

-- a walk begins at the first waypoint of its list
begins : (m : MapView) (u v to far : ℕ) (more : List ℕ) → IsWalk m u to (v ∷ more) far → u ≡ v
begins m _ _ _ _ _ (alone u within) = refl
begins m _ _ _ _ _ (longer u w to step n walk e is) = refl

-- a walk over two waypoints or more has an edge between the first two, and goes on from the second
pub record HasStep (m : MapView) (u v : ℕ) (more : List ℕ) (far : ℕ) : Type 0 where
  pub step : ℕ
  pub edge_is : edge m u v ≡ Some step
  pub rest : IsSomeWalk m (v ∷ more)
  pub sum : far ≡ step + rest.far

step_of : (m : MapView) (from u v to far : ℕ) (more : List ℕ) → IsWalk m from to (u ∷ v ∷ more) far → HasStep m u v more far
step_of m _ _ v _ _ more (longer u w to step n walk e is) =
    let same = begins m w v to n more is in
    record {
      step = step;
      edge_is = subst (λ x. edge m u x ≡ Some step) same e;
      rest = record { from = w; to = to; far = n; is = is };
      sum = refl;
    }

pub first_step : (m : MapView) (u v : ℕ) (more : List ℕ) (walk : IsSomeWalk m (u ∷ v ∷ more)) → HasStep m u v more walk.far
first_step m u v more walk = step_of m walk.from u v walk.to walk.far more walk.is

-- no walk is empty
pub some_walk : (m : MapView) (way : List ℕ) → IsSomeWalk m way → 1 ≤ length way
some_walk m way walk = some m walk.from walk.to walk.far way walk.is
  where
    some : (m : MapView) (from to far : ℕ) (way : List ℕ) → IsWalk m from to way far → 1 ≤ length way
    some m _ _ _ _ (alone u within) = omega arith
    some m _ _ _ _ (longer u v to step n walk e is) = omega arith

-- ---- the places of an edge

place-is : (m : MapView) (u : ℕ) (p : Vec3) → slice_get m.spawns u ≡ Some p → waypoint_point m u ≡ p
place-is m u p at = sym (unwrap_or-slice_get m.spawns u zero_vector) ∙ ap (λ o. unwrap_or o zero_vector) at

-- the places that an edge leads between
pub stride : (m : MapView) (u v step : ℕ) (p q : Vec3) → edge m u v ≡ Some step → slice_get m.spawns u ≡ Some p → slice_get m.spawns v ≡ Some q
    → IsNear 1048576 p → IsNear 1048576 q → IsStride p q
stride m u v step p q e at there near near_to =
    let is = step_between (solids_of m) p q step (sym (edge_at m u v p q at there) ∙ e) in
    let same = is.same in
    let least = is.least in
    let most = is.most in
    record { near = near; near_to = near_to; apart = omega arith; few = omega arith }

pub edge-far : (m : MapView) (u v step : ℕ) → edge m u v ≡ Some step → distance (waypoint_point m u) (waypoint_point m v) ≡ step
edge-far m u v step e =
    let ends = ends_of m u v step e in
    let is = step_between (solids_of m) ends.from ends.to step ends.between in
    (λ i. distance (place-is m u ends.from ends.from_is i) (place-is m v ends.to ends.to_is i)) ∙ is.same

-- ---- the length of a walk

alone-far : (m : MapView) (from u to far : ℕ) → IsWalk m from to (u ∷ []) far → far ≡ 0
alone-far m _ _ _ _ (alone u within) = refl
alone-far m _ _ _ _ (longer u v to step n walk e is) = absurd (omega (arith, some_walk m [] (record { from = v; to = to; far = n; is = is })))

-- it is the sum of the distances
pub walk-far : (m : MapView) (way : List ℕ) (walk : IsSomeWalk m way) → length_through (waypoint_points m way) ≡ walk.far
walk-far m [] walk = absurd (omega (arith, some_walk m [] walk))
walk-far m (u ∷ []) walk = sym (alone-far m walk.from u walk.to walk.far walk.is)
walk-far m (u ∷ v ∷ more) walk =
    let s = first_step m u v more walk in
    (λ i. edge-far m u v s.step s.edge_is i + walk-far m (v ∷ more) s.rest i) ∙ sym s.sum

-- a map with a walk has a waypoint
pub walk-ready : (m : MapView) (u v n : ℕ) (way : List ℕ) → IsWalk m u v way n → 0 < length m.spawns
walk-ready m _ _ _ _ (alone u within) = omega (arith, within)
walk-ready m _ _ _ _ (longer u w v step k walk e is) = omega (arith, from_within m u w step e)

-- ---- the rest of a way

-- at two places or more, the frames and the length are those of the first edge and those of the rest
pub record IsCutFirst (m : MapView) (seq : ℕ) (way : List ℕ) (p q : Vec3) (rest : List ℕ) : Type 0 where
  pub text : frames_text (frames_through seq (waypoint_points m way))
      ≡ frames_text (frames_between seq p q) ++ frames_text (frames_through (seq + moves_between p q) (waypoint_points m rest))
  pub far : length_through (waypoint_points m way) ≡ distance p q + length_through (waypoint_points m rest)
  pub rest_is : IsSomeWalk m rest

pub cut_first : (m : MapView) (seq u v : ℕ) (more : List ℕ) (p q : Vec3) → IsSomeWalk m (u ∷ v ∷ more) → slice_get m.spawns u ≡ Some p
    → slice_get m.spawns v ≡ Some q → IsCutFirst m seq (u ∷ v ∷ more) p q (v ∷ more)
cut_first m seq u v more p q walk at there =
    let Through : Vec3 → Vec3 → Type 0 = λ a b.
    (frames_text (frames_through seq (a ∷ b ∷ waypoint_points m more)) ≡ frames_text (frames_between seq p q) ++ frames_text (frames_through (seq + moves_between p q) (b ∷ waypoint_points m more)))
    × (length_through (a ∷ b ∷ waypoint_points m more) ≡ distance p q + length_through (b ∷ waypoint_points m more)) in
    let here : Through p q = (flat_map-append frame_text (frames_between seq p q) (frames_through (seq + moves_between p q) (q ∷ waypoint_points m more)), refl) in
    let both : Through (waypoint_point m u) (waypoint_point m v) =
    subst (λ a. Through a (waypoint_point m v)) (sym (place-is m u p at)) (subst (λ b. Through p b) (sym (place-is m v q there)) here) in
    record { text = both.0; far = both.1; rest_is = (first_step m u v more walk).rest }

-- the rest of a way from the waypoint before this one
pub from_before : (way : List ℕ) (i : ℕ) → 1 ≤ i → i < length way → drop (i - 1) way ≡ get_or way (i - 1) 0 ∷ get_or way i 0 ∷ drop (i + 1) way
from_before way i first within =
    let here : i - 1 + 1 ≡ i = omega arith in
    drop_more way (i - 1) 0 (omega arith) ∙ ap (λ n. get_or way (i - 1) 0 ∷ drop n way) here ∙ ap (λ xs. get_or way (i - 1) 0 ∷ xs) (drop_more way i 0 within)

-- ---- the loop over a way

-- there is an edge from the waypoint before this one
pub record IsAtEdge (m : MapView) (u v : ℕ) : Type 0 where
  pub step : ℕ
  pub edge_is : edge m u v ≡ Some step
  pub from_in : u < length m.spawns
  pub to_in : v < length m.spawns

pub at_edge : (m : MapView) (way : List ℕ) (i : ℕ) → 1 ≤ i → i < length way → IsSomeWalk m (drop (i - 1) way) → IsAtEdge m (get_or way (i - 1) 0) (get_or way i 0)
at_edge m way i first within walk =
    let u = get_or way (i - 1) 0 in
    let v = get_or way i 0 in
    let s = first_step m u v (drop (i + 1) way) (subst (IsSomeWalk m) (from_before way i first within) walk) in
    record { step = s.step; edge_is = s.edge_is; from_in = from_within m u v s.step s.edge_is; to_in = to_within m u v s.step s.edge_is }

-- the text has the frames up to the waypoint before this one, and the rest of the way is a walk
pub record WalksOn (m : MapView) (way : List ℕ) (i seq far : ℕ) (text begun : List ℕ) : Type 0 where
  pub text_is : text ++ frames_text (frames_through seq (waypoint_points m (drop (i - 1) way))) ≡ begun ++ frames_text (frames_through 1 (waypoint_points m way))
  pub far_is : far + length_through (waypoint_points m (drop (i - 1) way)) ≡ length_through (waypoint_points m way)
  pub walk : IsSomeWalk m (drop (i - 1) way)
  pub few_moves : seq ≤ 16 * i
  pub short : far ≤ 65536 * i

pub walks-next : (m : MapView) (way : List ℕ) (i seq far : ℕ) (text begun next : List ℕ) (p q : Vec3) → WalksOn m way i seq far text begun → 1 ≤ i → i < length way
    → slice_get m.spawns (get_or way (i - 1) 0) ≡ Some p → slice_get m.spawns (get_or way i 0) ≡ Some q → next ≡ text ++ frames_text (frames_between seq p q)
    → moves_between p q ≤ 16 → distance p q ≤ 65536 → WalksOn m way (i + 1) (seq + moves_between p q) (far + distance p q) next begun
walks-next m way i seq far text begun next p q on first within at there is few short =
    let u = get_or way (i - 1) 0 in
    let v = get_or way i 0 in
    let more = drop (i + 1) way in
    let cut : drop (i - 1) way ≡ u ∷ v ∷ more = from_before way i first within in
    let here : i + 1 - 1 ≡ i = omega arith in
    let rest : drop (i + 1 - 1) way ≡ v ∷ more = ap (λ n. drop n way) here ∙ drop_more way i 0 within in
    let parts = cut_first m seq u v more p q (subst (IsSomeWalk m) cut on.walk) at there in
    let later = frames_text (frames_through (seq + moves_between p q) (waypoint_points m (v ∷ more))) in
    record {
      text_is = ap (λ ws. next ++ frames_text (frames_through (seq + moves_between p q) (waypoint_points m ws))) rest
          ∙ ap (λ t. t ++ later) is
          ∙ append_assoc text (frames_text (frames_between seq p q)) later
          ∙ ap (λ t. text ++ t) (sym parts.text)
          ∙ ap (λ ws. text ++ frames_text (frames_through seq (waypoint_points m ws))) (sym cut)
          ∙ on.text_is;
      far_is = omega (
        arith,
        ap (λ ws. length_through (waypoint_points m ws)) rest,
        ap (λ ws. length_through (waypoint_points m ws)) cut,
        parts.far,
        on.far_is,
      );
      walk = subst (IsSomeWalk m) (sym rest) parts.rest_is;
      few_moves = omega (arith, on.few_moves, few);
      short = omega (arith, on.short, short);
    }

-- the whole way was walked
pub record WalkedAll (m : MapView) (way : List ℕ) (far : ℕ) (text begun : List ℕ) : Type 0 where
  pub text_is : text ≡ begun ++ frames_text (frames_through 1 (waypoint_points m way))
  pub far_is : far ≡ length_through (waypoint_points m way)

pub walks-end : (m : MapView) (way : List ℕ) (i seq far : ℕ) (text begun : List ℕ) → WalksOn m way i seq far text begun → 1 ≤ i → length way ≤ i → WalkedAll m way far text begun
walks-end m way i seq far text begun on first past =
    let some = some_walk m (drop (i - 1) way) on.walk in
    let last : i - 1 < length way = omega (arith, some, length-drop (i - 1) way) in
    let after : i - 1 + 1 ≡ i = omega (arith, first) in
    let one : drop (i - 1) way ≡ get_or way (i - 1) 0 ∷ [] =
    drop_more way (i - 1) 0 last ∙ ap (λ n. get_or way (i - 1) 0 ∷ drop n way) after ∙ ap (λ ws. get_or way (i - 1) 0 ∷ ws) (drop_all i way past) in
    record {
      text_is = sym (append-nil text) ∙ ap (λ ws. text ++ frames_text (frames_through seq (waypoint_points m ws))) (sym one) ∙ on.text_is;
      far_is = omega (arith, ap (λ ws. length_through (waypoint_points m ws)) one, on.far_is);
    }

-- what the code finds at two numbers that are those of the waypoint before this one and of this one
pub stride-at : (m : MapView) (way : List ℕ) (i u v : ℕ) (p q : Vec3) → 1 ≤ i → i < length way → IsSomeWalk m (drop (i - 1) way) → u ≡ get_or way (i - 1) 0 → v ≡ get_or way i 0
    → slice_get m.spawns u ≡ Some p → slice_get m.spawns v ≡ Some q → IsNear 1048576 p → IsNear 1048576 q → IsStride p q
stride-at m way i u v p q first within walk from to at there near near_to =
    let e = at_edge m way i first within walk in
    stride m (get_or way (i - 1) 0) (get_or way i 0) e.step p q e.edge_is (ap (slice_get m.spawns) (sym from) ∙ at) (ap (slice_get m.spawns) (sym to) ∙ there) near near_to
