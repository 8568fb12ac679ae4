-- Locality: a move sees only what touches its region.
use Rattle.std.proofs.Common.{◌≡◌, ℕ, ◌≤◌, Bool, true, false, not, ◌||◌, cond, List, [], ◌∷◌, ◌++◌, map, filter, refl, sym, ap, ◌∙◌}
use Rattle.std.specs.List.{list_any}
use Rattle.std.proofs.lemmas.List.Elements.{filter-append}
use Rattle.std.proofs.lemmas.List.Folds.{list_any-append}
use Rattle.std.proofs.lemmas.Bool.{and_parts}
use Rattle.arena_geo.specs.declared.vec3.Vec3.{Vec3}
use Rattle.arena_geo.specs.Bounds.{Bounds}
use Rattle.arena_geo.specs.Boxes.{overlaps, touches, is_blocked}
use Rattle.arena_geo.specs.Regions.{touches_region}
use Rattle.entity_recs.specs.declared.rec.Rec.{Rec}
use Rattle.entity_recs.specs.Kinds.{is_solid}
use Rattle.entity_recs.specs.Bodies.{player_body, body_of, abs_of, is_touched}
use Rattle.entity_recs.specs.Commands.{Command}
use Rattle.entity_recs.specs.Actions.{IsCall, HasLocality, records_touching}
use Rattle.entity_recs.proofs.Standing.{abs_contains_body}
use Rattle.entity_recs.proofs.Ids.{player_shape}
use Rattle.player_move.specs.declared.moved.Moved.{Moved}
use Rattle.player_move.specs.Laws.{looked_at}
use Rattle.player_move.proofs.Looking.{move_looks_within}
use Rattle.arena_map.specs.Maps.{MapView, IsMap, solids_of}
use Rattle.trigger_rules.specs.Touching.{bodies_of_solids, solids_among, touched}
use Rattle.trigger_rules.specs.Laws.{HaveSameWays}
use Rattle.trigger_rules.proofs.Taken.{only_touched}
use Rattle.arena_outcomes.specs.Outcomes.{intent_of_command, after_move, moved_among, effect_of, outcome_in}
use Rattle.arena_outcomes.specs.Regions.{reach_of, first_box, landing_at, region_with}
use Rattle.arena_outcomes.specs.Takes.{takes}
use Rattle.arena_outcomes.proofs.Lawful.Inside.{contains-through, touches-wider, touches-around}
use Rattle.arena_outcomes.proofs.Lawful.Reached.{first_contains_reach, first_contains_looked, reach_contains_moved, touches_first, IsWay, way_touches, landing_contains_body}
use Rattle.arena_outcomes.proofs.Lawful.Valid.{has_player_on}

-- ---- filters that agree

-- what passes a test stays where another keeps all that passes it
filter_kept : (test keep : Rec → Bool) (near : List Rec) → ((r : Rec) → test r ≡ true → keep r ≡ true)
    → filter test (filter keep near) ≡ filter test near
filter_kept test keep [] kept = refl
filter_kept test keep (r ∷ near) kept = by (test r) (keep r) refl refl (filter_kept test keep near kept)
  where
    by : (t k : Bool) → test r ≡ t → keep r ≡ k → filter test (filter keep near) ≡ filter test near
        → filter test (cond k (r ∷ filter keep near) (filter keep near))
        ≡ cond t (r ∷ filter test near) (filter test near)
    by true true e f rest =
        ap (λ (b : Bool). cond b (r ∷ filter test (filter keep near)) (filter test (filter keep near))) e
        ∙ ap (λ (l : List Rec). r ∷ l) rest
    by true false e f rest = absurd (true_false (sym (kept r e) ∙ f))
      where
        true_false : true ≡ false → ⊥
        true_false h = cc
    by false true e f rest =
        ap (λ (b : Bool). cond b (r ∷ filter test (filter keep near)) (filter test (filter keep near))) e ∙ rest
    by false false e f rest = rest

-- so it is with the bodies of solids
bodies_kept : (test : Bounds → Bool) (keep : Rec → Bool) (near : List Rec)
    → ((r : Rec) → test (body_of r) ≡ true → keep r ≡ true)
    → filter test (bodies_of_solids (filter keep near)) ≡ filter test (bodies_of_solids near)
bodies_kept test keep [] kept = refl
bodies_kept test keep (r ∷ near) kept =
    by (is_solid r.kind) (test (body_of r)) (keep r) refl refl refl (bodies_kept test keep near kept)
  where
    true_false : true ≡ false → ⊥
    true_false h = cc

    by : (s t k : Bool) → is_solid r.kind ≡ s → test (body_of r) ≡ t → keep r ≡ k
        → filter test (bodies_of_solids (filter keep near)) ≡ filter test (bodies_of_solids near)
        → filter test (bodies_of_solids (cond k (r ∷ filter keep near) (filter keep near)))
        ≡ filter test (map body_of (cond s (r
        ∷ filter (λ q. is_solid q.kind) near) (filter (λ q. is_solid q.kind) near)))
    by false t true e f g rest =
        ap (λ (b : Bool). filter test (map body_of (cond b (r
        ∷ filter (λ q. is_solid q.kind) (filter keep near)) (filter (λ q. is_solid q.kind) (filter keep near))))) e
        ∙ rest
    by false t false e f g rest = rest
    by true t true e f g rest =
        ap (λ (b : Bool). filter test (map body_of (cond b (r
        ∷ filter (λ q. is_solid q.kind) (filter keep near)) (filter (λ q. is_solid q.kind) (filter keep near))))) e
        ∙ ap (λ (l : List Bounds). cond (test (body_of r)) (body_of r ∷ l) l) rest
    by true true false e f g rest = absurd (true_false (sym (kept r f) ∙ g))
    by true false false e f g rest =
        rest ∙ sym (ap (λ (b : Bool). cond b (body_of r
        ∷ filter test (bodies_of_solids near)) (filter test (bodies_of_solids near))) f)

-- a test passes where it keeps something
has_some : {X : Type 0} → List X → Bool
has_some [] = false
has_some (x ∷ xs) = true

any_by_filter : {X : Type 0} (test : X → Bool) (xs : List X) → list_any test xs ≡ has_some (filter test xs)
unfolding has_some
any_by_filter test [] = refl
any_by_filter {X} test (x ∷ xs) = by (test x) (any_by_filter test xs)
  where
    by : (b : Bool) → list_any test xs ≡ has_some (filter test xs)
        → (b || list_any test xs) ≡ has_some (cond b (x ∷ filter test xs) (filter test xs))
    by true rest = refl
    by false rest = rest

-- what blocks a body stays too
blocked_kept : (map : MapView) (body : Bounds) (keep : Rec → Bool) (near : List Rec)
    → ((r : Rec) → overlaps body (body_of r) ≡ true → keep r ≡ true)
    → is_blocked body (solids_among map near) ≡ is_blocked body (solids_among map (filter keep near))
unfolding solids_among
blocked_kept map body keep near kept =
    let test = overlaps body in
    list_any-append test (solids_of map) (bodies_of_solids near)
    ∙ ap (λ (b : Bool). is_blocked body (solids_of map) || b)
    (any_by_filter test (bodies_of_solids near) ∙ ap has_some (sym (bodies_kept test keep near kept))
    ∙ sym (any_by_filter test (bodies_of_solids (filter keep near))))
    ∙ sym (list_any-append test (solids_of map) (bodies_of_solids (filter keep near)))

-- and a move among all that it looks at
moved_kept : (map : MapView) (me : Rec) (c : Command) (keep : Rec → Bool) (near : List Rec) → c.ms ≤ 50
    → ((r : Rec) → overlaps (looked_at me c.ms) (body_of r) ≡ true → keep r ≡ true)
    → moved_among map me near c ≡ moved_among map me (filter keep near) c
unfolding moved_among solids_among
moved_kept map me c keep near short kept =
    let test = overlaps (looked_at me c.ms) in
    let all = solids_of map ++ bodies_of_solids near in
    let some = solids_of map ++ bodies_of_solids (filter keep near) in
    let same : filter test all ≡ filter test some =
    filter-append test (solids_of map) (bodies_of_solids near)
    ∙ ap (λ (l : List Bounds). filter test (solids_of map) ++ l) (sym (bodies_kept test keep near kept))
    ∙ sym (filter-append test (solids_of map) (bodies_of_solids (filter keep near))) in
    ap (λ (m : Moved). after_move me m c.seq) (move_looks_within me (intent_of_command c) all some short same)

-- ---- a move

module _ (room : ℕ) (arena : MapView) (me : Rec) (near : List Rec) (c : Command) (is_map : IsMap arena) (call : IsCall (takes arena) me near c) where
  abbrev pub keep : Rec → Bool
  keep r = touches_region (abs_of r) (region_with room arena me c)

  abbrev moved : Rec
  moved = moved_among arena me near c

  short : c.ms ≤ 50
  short = call.player.command.most_ms

  -- a record whose body is where the move looks touches the region
  looked_touches : (r : Rec) → overlaps (looked_at me c.ms) (body_of r) ≡ true → keep r ≡ true
  looked_touches r h =
      touches_first room arena me c (abs_of r) (touches-around (first_box room me c.ms) (looked_at me c.ms) (body_of r) (abs_of r) (first_contains_looked room me c.ms) (abs_contains_body r) h)

  -- so does a trigger that the player touches where it has moved to
  touched_touches : (r : Rec) → is_touched (abs_of moved) r ≡ true → keep r ≡ true
  touched_touches r h =
      let touch = (and_parts (not (is_solid r.kind)) (touches (abs_of r) (abs_of moved)) h).1 in
      let first =
      contains-through (first_box room me c.ms) (reach_of me c.ms) (abs_of moved) (first_contains_reach room me c.ms) (reach_contains_moved arena me near c short) in
      touches_first room arena me c (abs_of r) (touches-wider (first_box room me c.ms) (abs_of moved) (abs_of r) first touch)

  -- and what is in the way at the destination of a teleporter that it touches
  way_is_kept : (r : Rec) (dest : Vec3) → IsWay arena moved near r dest → (s : Rec)
      → overlaps (player_body dest) (body_of s) ≡ true → keep s ≡ true
  way_is_kept r dest way s h =
      let player = has_player_on arena me c is_map call.player in
      let shape = player_shape me player.is_record player.kind in
      way_touches room arena me near c r dest (abs_of s) is_map short call.others way
      (touches-around (landing_at me dest) (player_body dest) (body_of s) (abs_of s) (landing_contains_body me dest (record { low_is = shape.low_is; high_is = shape.high_is })) (abs_contains_body s) h)

  same_ways : HaveSameWays arena moved near (filter keep near)
  same_ways r dest touched kind from =
      blocked_kept arena (player_body dest) keep near (way_is_kept r dest (record {
        touched = touched;
        kind = kind;
        from = from;
      }))

  -- the walk over what the player touches after its move
  pub local_walk : touched arena c.frame moved near
      ≡ touched arena c.frame (moved_among arena me (filter keep near) c) (filter keep near)
  local_walk =
      only_touched arena c.frame moved near (filter keep near) (sym (filter_kept (is_touched (abs_of moved)) keep near touched_touches)) same_ways
      ∙ ap (λ (r : Rec). touched arena c.frame r (filter keep near)) (moved_kept arena me c keep near short looked_touches)

  pub local : outcome_in arena me near c ≡ outcome_in arena me (records_touching (region_with room arena me c) near) c
  unfolding outcome_in
  local = ap effect_of local_walk

pub is_local : (room : ℕ) (arena : MapView) → IsMap arena → HasLocality (takes arena) (region_with room arena) (outcome_in arena)
is_local room arena is_map = record { near = λ me near c call. local room arena me near c is_map call }
