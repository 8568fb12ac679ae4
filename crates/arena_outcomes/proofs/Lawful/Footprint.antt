-- Footprint: a move changes only what lies in its region.
use Rattle.std.proofs.Common.{◌≡◌, ℕ, ◌+◌, ◌≤◌, ◌==◌, Bool, true, false, not, ◌&&◌, if◌then◌else◌, List, [], ◌∷◌, Contains, Option, Some, None, refl, sym, ap, ◌∙◌, subst, inl, inr, arith}
use Rattle.std.specs.Prelude.{filter_map}
use Rattle.std.specs.List.{list_any, cons_option, AllByRecursion}
use Rattle.std.specs.Option.{option_map}
use Rattle.std.proofs.lemmas.Bool.{eq-eqb, and_parts}
use Rattle.std.proofs.lemmas.Int.{ints}
use Rattle.std.proofs.lemmas.Option.{none-some, same_Some}
use Rattle.std.proofs.lemmas.List.Elements.{All-contains, All-contains_itself, All-from_recursion, All-weaker, recursion_from_All}
use Rattle.std.proofs.lemmas.List.Folds.{list_any_at}
use Rattle.arena_geo.specs.declared.vec3.Vec3.{Vec3}
use Rattle.arena_geo.specs.Vectors.{IsNotNegative}
use Rattle.arena_geo.specs.Bounds.{Bounds, IsBox}
use Rattle.arena_geo.specs.Boxes.{touches, contains, box_grown_by}
use Rattle.arena_geo.specs.Regions.{is_inside, IsRegion}
use Rattle.entity_recs.specs.declared.bodies.TheConstants.{ITEM_MINS, ITEM_MAXS}
use Rattle.entity_recs.specs.declared.effect.NewState.{NewState}
use Rattle.entity_recs.specs.declared.kind.Kind.{Kind}
use Rattle.entity_recs.specs.declared.kind.Kind.TheVariants.{Player, Ammo, Gem, Teleporter, Goal, Lift}
use Rattle.entity_recs.specs.declared.rec.Rec.{Rec}
use Rattle.entity_recs.specs.Kinds.{is_solid, is_item}
use Rattle.entity_recs.specs.Records.{IsShapeOf, IsRecord, with_state}
use Rattle.entity_recs.specs.Bodies.{box_at_origin, growth_of, body_of, abs_of}
use Rattle.entity_recs.specs.Commands.{Command}
use Rattle.entity_recs.specs.Actions.{IsCall, HasFootprint, StaysWithin, is_of_one_inside}
use Rattle.entity_recs.proofs.Standing.{contains-grown}
use Rattle.arena_map.specs.Maps.{MapView, IsMap, entities_of, dest_of}
use Rattle.trigger_rules.specs.Touching.{touched_by, solids_among, Walk, first_walk, after_trigger, touched}
use Rattle.trigger_rules.specs.Laws.{IsTaken, IsPlayerOn}
use Rattle.trigger_rules.proofs.Bounds.{dest-stands}
use Rattle.trigger_rules.proofs.Steps.{Step, step, item-change, walk-keeps-in}
use Rattle.trigger_rules.proofs.Taken.{stay_themselves, only_leaps}
use Rattle.arena_outcomes.specs.Outcomes.{moved_among, outcome_in}
use Rattle.arena_outcomes.specs.Regions.{reach_growth, reach_of, first_box, elsewhere, landing_at, landing_of, region_with}
use Rattle.arena_outcomes.specs.Takes.{takes}
use Rattle.arena_outcomes.proofs.Lawful.Growing.{box_within, within-grown_by, abs_within, reach_within}
use Rattle.arena_outcomes.proofs.Lawful.Inside.{contains-through, touches-wider, IsShort, contains-touched}
use Rattle.arena_outcomes.proofs.Lawful.Players.{elsewhere_is_record}
use Rattle.arena_outcomes.proofs.Lawful.Moves.{keep_who_moves, take_what_is_there, new_states_apart}
use Rattle.arena_outcomes.proofs.Lawful.Landings.{few_landings}
use Rattle.arena_outcomes.proofs.Lawful.Taking.{taken_is_record}
use Rattle.arena_outcomes.proofs.Lawful.Reached.{first_contains_reach, reach_contains_moved, inside_first, IsWay, way_contains, landing_contains_abs}
use Rattle.arena_outcomes.proofs.Lawful.Valid.{has_player_on}

-- ---- the boxes of a region

module _ (arena : MapView) (me : Rec) (ms : ℕ) (is_map : IsMap arena) (player : IsPlayerOn arena me) (short : ms ≤ 50) where
  landing_is_box : (dest : Vec3) (id : ℕ) → dest_of arena id ≡ Some dest → IsBox (landing_at me dest)
  landing_is_box dest id from =
      let near = (dest-stands arena id dest is_map from).near in
      box_within 1083136 (landing_at me dest) (omega arith)
      (within-grown_by 1066752 16384 1083136 (abs_of (elsewhere me dest)) 16384 16384 16384 (omega arith) (omega arith) (omega arith) (omega arith)
      (abs_within (elsewhere me dest) (elsewhere_is_record me dest player.is_record player.kind near)))

  first_is_box : (room : ℕ) → room ≤ 100000 → IsBox (first_box room me ms)
  first_is_box room small =
      box_within (1097216 + room) (first_box room me ms) (omega (arith, small))
      (within-grown_by 1097216 room (1097216 + room) (reach_of me ms) room room room (omega arith) (omega arith) (omega arith) (omega arith) (reach_within me ms player.is_record short))

  -- a landing, if it is there, is a box
  one_is_box : (thing : Rec) (o : Option Bounds) → landing_of arena me (reach_of me ms) thing ≡ o
      → AllByRecursion IsBox (cons_option o [])
  one_is_box thing None e = tt
  one_is_box thing (Some b) e = (by (touches (abs_of thing) (reach_of me ms)) (dest_of arena thing.id) refl e, tt)
    where
      by : (t : Bool) (dest : Option Vec3) → dest_of arena thing.id ≡ dest
          → (if t then option_map (landing_at me) dest else None) ≡ Some b → IsBox b
      by true (Some dest) from is =
          subst IsBox (same_Some (landing_at me dest) b is) (landing_is_box dest thing.id from)
      by true None from is = absurd (none-some b is)
      by false dest from is = absurd (none-some b is)

  all_are_boxes : (things : List Rec) → AllByRecursion IsBox (filter_map (landing_of arena me (reach_of me ms)) things)
  all_are_boxes [] = tt
  all_are_boxes (thing ∷ things) =
      by (landing_of arena me (reach_of me ms) thing) (one_is_box thing (landing_of arena me (reach_of me ms) thing) refl) (all_are_boxes things)
    where
      by : (o : Option Bounds) → AllByRecursion IsBox (cons_option o [])
          → AllByRecursion IsBox (filter_map (landing_of arena me (reach_of me ms)) things)
          → AllByRecursion IsBox (cons_option o (filter_map (landing_of arena me (reach_of me ms)) things))
      by None here rest = rest
      by (Some b) here rest = (here.0, rest)

pub is_region : (room : ℕ) (arena : MapView) (me : Rec) (c : Command) → room ≤ 100000 → IsMap arena → IsPlayerOn arena me → c.ms ≤ 50
    → IsRegion (region_with room arena me c)
unfolding region_with
is_region room arena me c small is_map player short =
    let few = few_landings arena me (reach_of me c.ms) is_map in
    record {
      least = omega arith;
      most = omega (arith, few);
      boxes = All-from_recursion IsBox (region_with room arena me c) (first_is_box arena me c.ms is_map player short room small, all_are_boxes arena me c.ms is_map player short (entities_of arena));
    }

-- ---- where a leap ends

-- a walk that has ended is that of a player at the destination of a teleporter that it touched
record HasLanded (arena : MapView) (moved : Rec) (near : List Rec) (w : Walk) : Type 0 where
  r : Rec
  dest : Vec3
  way : IsWay arena moved near r dest
  at : w.me.origin ≡ dest

Lands : MapView → Rec → List Rec → Walk → Type 0
Lands arena moved near w = w.ended ≡ true → HasLanded arena moved near w

lands-step : (arena : MapView) (moved : Rec) (near : List Rec) (solids : List Bounds) (frame : ℕ) (w next : Walk) (r : Rec) → Contains (touched_by moved near) r → Step arena solids frame w r next
    → Lands arena moved near w → Lands arena moved near next
unfolding Lands
lands-step arena moved near solids frame w next r listed (inl same) is =
    subst (λ (v : Walk). Lands arena moved near v) (sym same) is
lands-step arena moved near solids frame w next r listed (inr (inl t)) is =
    subst (λ (v : Walk). Lands arena moved near v) (sym t.is)
    (λ ended. let l = is ended in record {
      r = l.r;
      dest = l.dest;
      way = l.way;
      at = (item-change w.me r).place.origin ∙ l.at;
    })
lands-step arena moved near solids frame w next r listed (inr (inr (inl goal))) is =
    subst (λ (v : Walk). Lands arena moved near v) (sym goal.is) (λ ended. let l = is ended
    in record { r = l.r; dest = l.dest; way = l.way; at = l.at })
lands-step arena moved near solids frame w next r listed (inr (inr (inr l))) is =
    subst (λ (v : Walk). Lands arena moved near v) (sym l.is) (λ ended. record {
      r = r;
      dest = l.dest;
      way = record { touched = listed; kind = l.kind; from = l.from };
      at = refl;
    })

lands : (arena : MapView) (frame : ℕ) (moved : Rec) (near : List Rec) → (touched arena frame moved near).ended ≡ true
    → HasLanded arena moved near (touched arena frame moved near)
unfolding touched Lands
lands arena frame moved near ended =
    let solids = solids_among arena near in
    let all = touched_by moved near in
    walk-keeps-in (after_trigger arena solids frame) (Lands arena moved near) (Contains all) (first_walk moved) all
    (λ v r listed. lands-step arena moved near solids frame v (after_trigger arena solids frame v r) r listed (step arena solids frame v r))
    (recursion_from_All (Contains all) all (All-contains_itself all)) (λ h. absurd (false_true h)) ended
  where
    false_true : false ≡ true → ⊥
    false_true h = cc

-- ---- the items that are taken

-- what is no longer than this is no longer than more
pub shorter : (less more : ℕ) (b : Bounds) → less ≤ more → IsShort less b → IsShort more b
shorter less more b le short = record { x = omega (arith, ints, short.x, le); y = omega (arith, ints, short.y, le); z = omega (arith, ints, short.z, le) }

-- an item's absolute box is short
item_is_short : (r : Rec) → IsRecord r → is_item r.kind ≡ true → IsShort 16384 (abs_of r)
item_is_short r is kind = by r.kind kind is.shape
  where
    at : (origin : Vec3) → IsShort 16384 (box_grown_by (box_at_origin origin ITEM_MINS ITEM_MAXS) (growth_of Ammo))
    at origin = record { x = omega (arith, ints); y = omega (arith, ints); z = omega (arith, ints) }

    by : (k : Kind) → is_item k ≡ true → IsShapeOf k r.origin r.mins r.maxs
        → IsShort 16384 (box_grown_by (body_of r) (growth_of k))
    by Player item shape = cc
    by Ammo item shape = rw (shape.low_is, shape.high_is) (at r.origin)
    by Gem item shape = rw (shape.low_is, shape.high_is) (at r.origin)
    by Teleporter item shape = cc
    by Goal item shape = cc
    by Lift item shape = cc

pub contains-is-any : {X : Type 0} (p : X → Bool) (xs : List X) (x : X) → Contains xs x → p x ≡ true → list_any p xs ≡ true
contains-is-any p xs x has passes = list_any_at p xs has.0 x has.1 (ap p has.2 ∙ passes)

-- ---- a move

module _ (room : ℕ) (enough : 16384 ≤ room) (arena : MapView) (me : Rec) (near : List Rec) (c : Command) (is_map : IsMap arena) (call : IsCall (takes arena) me near c) where
  abbrev moved : Rec
  moved = moved_among arena me near c

  abbrev region : List Bounds
  region = region_with room arena me c

  short : c.ms ≤ 50
  short = call.player.command.most_ms

  -- what lies in the reach lies in the region
  reached_is_inside : (b : Bounds) → contains (reach_of me c.ms) b ≡ true → is_inside b region ≡ true
  reached_is_inside b h =
      inside_first room arena me c b (contains-through (first_box room me c.ms) (reach_of me c.ms) b (first_contains_reach room me c.ms) h)

  before : is_inside (abs_of me) region ≡ true
  before = reached_is_inside (abs_of me) (contains-grown (abs_of me) (reach_growth me c.ms) positive)
    where
      positive : IsNotNegative (reach_growth me c.ms)
      positive = record { x = omega (arith, ints); y = omega (arith, ints); z = omega (arith, ints) }

  -- the absolute box of a player with another's shape and kind
  same_abs_of : (a b : Rec) → a.origin ≡ b.origin → a.kind ≡ b.kind → a.mins ≡ b.mins → a.maxs ≡ b.maxs
      → abs_of a ≡ abs_of b
  same_abs_of a b origin kind mins maxs =
      ap (λ (k : Kind). box_grown_by (body_of a) (growth_of k)) kind
      ∙ ap (λ (o : Vec3). box_grown_by (box_at_origin o a.mins a.maxs) (growth_of b.kind)) origin
      ∙ ap (λ (m : Vec3). box_grown_by (box_at_origin b.origin m a.maxs) (growth_of b.kind)) mins
      ∙ ap (λ (m : Vec3). box_grown_by (box_at_origin b.origin b.mins m) (growth_of b.kind)) maxs

  walk_is_inside : (ended : Bool) → (touched arena c.frame moved near).ended ≡ ended
      → is_inside (abs_of (touched arena c.frame moved near).me) region ≡ true
  unfolding outcome_in
  walk_is_inside true e =
      let l = lands arena c.frame moved near e in
      let w = touched arena c.frame moved near in
      let who = keep_who_moves arena me near c in
      let there : abs_of w.me ≡ abs_of (elsewhere me l.dest) =
      same_abs_of w.me (elsewhere me l.dest) l.at who.kind who.mins who.maxs in
      ap (λ (b : Bounds). is_inside b region) there
      ∙ way_contains room arena me near c l.r l.dest (abs_of (elsewhere me l.dest)) is_map short call.others l.way (landing_contains_abs me l.dest)
  walk_is_inside false e =
      let w = touched arena c.frame moved near in
      let self = stay_themselves arena c.frame moved near in
      let place = only_leaps arena c.frame moved near e in
      ap (λ (b : Bounds). is_inside b region) (same_abs_of w.me moved place.origin self.kind self.mins self.maxs)
      ∙ reached_is_inside (abs_of moved) (reach_contains_moved arena me near c short)

  after : is_inside (abs_of (outcome_in arena me near c).me) region ≡ true
  unfolding outcome_in
  after = walk_is_inside (touched arena c.frame moved near).ended refl

  taken_is_inside : (s : NewState) → IsTaken arena c.frame moved near s → is_of_one_inside region near s ≡ true
  taken_is_inside s is =
      let item = is.item in
      let is_record =
      taken_is_record arena item is_map (All-contains (λ r. takes arena r
      ≡ true) near item call.others is.listed) in
      let touch = (and_parts (not (is_solid item.kind)) (touches (abs_of item) (abs_of moved)) is.is_near).1 in
      let reached =
      touches-wider (reach_of me c.ms) (abs_of moved) (abs_of item) (reach_contains_moved arena me near c short) touch in
      let inside =
      inside_first room arena me c (abs_of item) (contains-touched (reach_of me c.ms) (abs_of item) room (shorter 16384 room (abs_of item) enough (item_is_short item is_record is.kind)) reached) in
      contains-is-any (λ (r : Rec). (r.id == s.id)
      && is_inside (abs_of r) region) near item is.listed (rw (eq-eqb item.id s.id is.own, inside) refl)

  pub within : StaysWithin region me near (outcome_in arena me near c)
  within =
      let who = keep_who_moves arena me near c in
      record {
        before = before;
        after = after;
        id = who.id;
        kind = who.kind;
        mins = who.mins;
        maxs = who.maxs;
        listed = All-weaker (IsTaken arena c.frame moved near) (λ s. is_of_one_inside region near s
            ≡ true) taken_is_inside (outcome_in arena me near c).states (take_what_is_there arena me near c).each;
        apart = new_states_apart arena me near c call.rising;
      }

-- the region doesn't look at the player's state
pub any_state : (room : ℕ) (arena : MapView) (me : Rec) (state : ℕ) (c : Command)
    → region_with room arena (with_state me state) c ≡ region_with room arena me c
unfolding region_with
any_state room arena me state c = refl

pub has_footprint : (room : ℕ) → 16384 ≤ room → room ≤ 100000 → (arena : MapView) → IsMap arena → HasFootprint (takes arena) (region_with room arena) (outcome_in arena)
has_footprint room enough small arena is_map = record {
  boxes = λ me c has. is_region room arena me c small is_map (has_player_on arena me c is_map has) has.command.most_ms;
  any_state = any_state room arena;
  within = λ me near c call. within room enough arena me near c is_map call;
}
