-- That lines which break no rule give maps that keep the rules.
use Rattle.std.proofs.Common.{◌≡◌, ℕ, ◌+◌, ◌<◌, ◌≤◌, ◌==◌, Bool, true, false, not, ◌||◌, ◌&&◌, length, cond, if◌then◌else◌, List, [], ◌∷◌, ◌++◌, Option, Some, None, All, AllPairs, count_by, filter_map, get_or, refl, sym, ap, ◌∙◌, subst, arith, length-append, append-nil}
use Rattle.std.specs.List.{list_any}
use Rattle.std.proofs.lemmas.Bool.Decides.{nat_tests}
use Rattle.std.proofs.lemmas.List.Elements.{All-append, All-from_recursion, filter_map-append}
use Rattle.std.proofs.lemmas.List.Folds.{list_any-append, list_any_at}
use Rattle.std.proofs.lemmas.List.Quantifiers.{all_pairs_push}
use Rattle.std.proofs.lemmas.List.Sums.{sum_by-append, sum_by-cons}
use Rattle.std.proofs.lemmas.Bool.{and_parts, ltb-true, not-true}
use Rattle.arena_geo.specs.declared.vec3.Vec3.{Vec3}
use Rattle.arena_geo.specs.Vectors.{IsNear}
use Rattle.arena_geo.specs.Bounds.{Bounds, bounds}
use Rattle.arena_geo.specs.Boxes.{contains, overlaps, is_blocked}
use Rattle.areanode.specs.Trees.{IsTreeDepth}
use Rattle.arena_map.specs.declared.limits.TheConstants.{MOST_BOXES, MOST_ITEMS}
use Rattle.arena_map.specs.declared.map_fault.MapFault.{MapFault}
use Rattle.arena_map.specs.declared.map_fault.MapFault.TheVariants as fault
use Rattle.arena_map.specs.declared.map_line.MapLine.{MapLine}
use Rattle.arena_map.specs.declared.map_line.MapLine.TheVariants.{Arena, Block, Spawn, Item, Teleport, Goal, Lift, Depth, Shots, Blocks}
use Rattle.arena_map.specs.MapLines.{IsWithinLimits, IsBlockLimit, is_thing_line, is_item_line, is_teleport_line, is_goal_line, is_lift_line}
use Rattle.arena_map.specs.Positions.{is_wide, is_thick, shaft, shaft_of, has_thick_lift, keeps_box, keeps_stand, keeps_item, keeps_travel}
use Rattle.arena_map.specs.Maps.{MapView, shafts_of, IsSpawn, IsBlock, IsThingInside, IsMap}
use Rattle.arena_map.specs.Rules.{broken_by_arena, bare_map, keeps_count, meets_shaft, keeps_shafts, broken_rule, with_block, with_spawn, with_thing, with_depth, with_shots, with_limit, with_line}
use Rattle.arena_map.proofs.Boxes.{near_box, wide_ordered, thick_box}

-- ---- lists

-- one more element of which it holds
pub all-push : {X : Type 0} (P : X → Type 0) (xs : List X) (x : X) → All P xs → P x → All P (xs ++ x ∷ [])
all-push P xs x each here = All-append P xs (x ∷ []) each (All-from_recursion P (x ∷ []) (here, tt))

-- a test that none passes
none_passes : {X : Type 0} (p : X → Bool) (xs : List X) → list_any p xs ≡ false → All (λ x. p x ≡ false) xs
none_passes p xs none i d within = by (p (get_or xs i d)) refl
  where
    by : (b : Bool) → p (get_or xs i d) ≡ b → p (get_or xs i d) ≡ false
    by true e = let some = list_any_at p xs i d within e in cc
    by false e = e

or-false : (a b : Bool) → a ≡ false → b ≡ false → (a || (b || false)) ≡ false
or-false true b h k = cc
or-false false true h k = cc
or-false false false h k = refl

-- ---- what breaks no rule keeps each

-- the rules that a line keeps, where it breaks none
pub record KeepsAll (map : MapView) (line : MapLine) : Type 0 where
  pub inside : keeps_box map.bounds line ≡ true
  pub count : keeps_count map line ≡ true
  pub stand : keeps_stand map.bounds line ≡ true
  pub item : keeps_item map.bounds line ≡ true
  pub travel : keeps_travel map.bounds line ≡ true
  pub shafts : keeps_shafts map line ≡ true

-- the answer of the six tests, one after another
abbrev pub first_broken : Bool → Bool → Bool → Bool → Bool → Bool → Option MapFault
first_broken inside count stand item travel shafts =
    if not inside then Some fault.Box
    else if not count then Some fault.Count
    else if not stand then Some fault.Stand
    else if not item then Some fault.Item
    else if not travel then Some fault.Travel
    else if not shafts then Some fault.Shaft
    else None

pub keeps_all : (map : MapView) (line : MapLine) → broken_rule map line ≡ None → KeepsAll map line
keeps_all map line none =
    by (keeps_box map.bounds line) (keeps_count map line) (keeps_stand map.bounds line) (keeps_item map.bounds line) (keeps_travel map.bounds line) (keeps_shafts map line)
    refl refl refl refl refl refl none
  where
    by : (a b c d e f : Bool) → keeps_box map.bounds line ≡ a → keeps_count map line ≡ b → keeps_stand map.bounds line ≡ c
        → keeps_item map.bounds line ≡ d → keeps_travel map.bounds line ≡ e → keeps_shafts map line ≡ f
        → first_broken a b c d e f ≡ None → KeepsAll map line
    by true true true true true true p q r s t u h = record { inside = p; count = q; stand = r; item = s; travel = t; shafts = u }
    by true true true true true false p q r s t u h = cc
    by true true true true false f p q r s t u h = cc
    by true true true false e f p q r s t u h = cc
    by true true false d e f p q r s t u h = cc
    by true false c d e f p q r s t u h = cc
    by false b c d e f p q r s t u h = cc

-- ---- the arena

-- the map that a wide arena begins keeps the rules
pub bare_map-is_map : (lo hi : Vec3) → IsNear 1048576 lo → IsNear 1048576 hi → is_wide lo hi ≡ true → IsMap (bare_map lo hi)
bare_map-is_map lo hi low high wide = record {
  is_box = near_box lo hi low high (wide_ordered lo hi wide);
  lo = low;
  hi = high;
  wide = wide;
  blocks = All-from_recursion (IsBlock (bounds lo hi)) [] tt;
  few_blocks = omega arith;
  spawns = All-from_recursion (IsSpawn (bounds lo hi)) [] tt;
  few_spawns = omega arith;
  things = All-from_recursion (IsThingInside (bounds lo hi)) [] tt;
  few_items = omega arith;
  few_teleporters = omega arith;
  few_goals = omega arith;
  few_lifts = omega arith;
  clear_shafts = All-from_recursion (λ shaft. is_blocked shaft [] ≡ false) [] tt;
  shafts_apart = λ i j d lt within. absurd (omega (arith, within));
  depth = record { least = omega arith; most = omega arith };
  few_depth_lines = omega arith;
  default_depth = λ none. refl;
  shots_line = refl;
  limit = record {
    range = record { least = omega arith; most = omega arith };
    few_lines = omega arith;
    default = λ none. refl;
    first = refl;
  };
}

-- the map that an arena begins without breaking a rule
pub begun-is_map : (lo hi : Vec3) → IsNear 1048576 lo → IsNear 1048576 hi → broken_by_arena lo hi ≡ None → IsMap (bare_map lo hi)
begun-is_map lo hi low high none = by (is_wide lo hi) refl none
  where
    by : (wide : Bool) → is_wide lo hi ≡ wide → (if wide then None else Some fault.Arena) ≡ None → IsMap (bare_map lo hi)
    by true e h = bare_map-is_map lo hi low high e
    by false e h = cc

-- ---- lifts

-- a lift that keeps the rule on boxes has an inside
pub thick-lift : (arena : Bounds) (line : MapLine) → keeps_box arena line ≡ true → has_thick_lift line ≡ true
thick-lift arena (Lift lo hi rise speed) keeps = (and_parts (is_thick lo hi) (contains arena (bounds lo hi)) keeps).0
thick-lift arena line keeps = refl

-- ---- blocks and spawns

-- a block that breaks no rule is one
pub block-is_block : (arena : Bounds) (lo hi : Vec3) → IsNear 1048576 lo → IsNear 1048576 hi → keeps_box arena (Block lo hi) ≡ true → IsBlock arena (bounds lo hi)
block-is_block arena lo hi low high h =
    let parts = and_parts (is_thick lo hi) (contains arena (bounds lo hi)) h in
    record { is_box = thick_box lo hi low high parts.0; thick = parts.0; inside = parts.1 }

-- shafts that a block doesn't meet either
pub clear-more : (shafts blocks : List Bounds) (block : Bounds) → All (λ shaft. is_blocked shaft blocks ≡ false) shafts → meets_shaft shafts block ≡ false
    → All (λ shaft. is_blocked shaft (blocks ++ block ∷ []) ≡ false) shafts
clear-more shafts blocks block clear none i d within =
    let own = get_or shafts i d in
    let apart : overlaps own block ≡ false = none_passes (λ shaft. overlaps shaft block) shafts none i d within in
    list_any-append (overlaps own) blocks (block ∷ []) ∙ or-false (is_blocked own blocks) (overlaps own block) (clear i d within) apart

pub with_block-is_map : (map : MapView) (lo hi : Vec3) → IsMap map → IsWithinLimits (Block lo hi) → KeepsAll map (Block lo hi) → IsMap (with_block map (bounds lo hi))
with_block-is_map map lo hi is near keeps = record {
  is_box = is.is_box;
  lo = is.lo;
  hi = is.hi;
  wide = is.wide;
  blocks = all-push (IsBlock map.bounds) map.blocks (bounds lo hi) is.blocks (block-is_block map.bounds lo hi near.0 near.1 keeps.inside);
  few_blocks = omega (arith, ltb-true _ _ keeps.count, length-append map.blocks (bounds lo hi ∷ []));
  spawns = is.spawns;
  few_spawns = is.few_spawns;
  things = is.things;
  few_items = is.few_items;
  few_teleporters = is.few_teleporters;
  few_goals = is.few_goals;
  few_lifts = is.few_lifts;
  clear_shafts = clear-more (shafts_of map) map.blocks (bounds lo hi) is.clear_shafts (not-true _ keeps.shafts);
  shafts_apart = is.shafts_apart;
  depth = is.depth;
  few_depth_lines = is.few_depth_lines;
  default_depth = is.default_depth;
  shots_line = is.shots_line;
  limit = is.limit;
}

pub with_spawn-is_map : (map : MapView) (at : Vec3) → IsMap map → IsWithinLimits (Spawn at) → KeepsAll map (Spawn at) → IsMap (with_spawn map at)
with_spawn-is_map map at is near keeps = record {
  is_box = is.is_box;
  lo = is.lo;
  hi = is.hi;
  wide = is.wide;
  blocks = is.blocks;
  few_blocks = is.few_blocks;
  spawns = all-push (IsSpawn map.bounds) map.spawns at is.spawns (record { near = near; inside = keeps.stand });
  few_spawns = omega (arith, ltb-true _ _ keeps.count, length-append map.spawns (at ∷ []));
  things = is.things;
  few_items = is.few_items;
  few_teleporters = is.few_teleporters;
  few_goals = is.few_goals;
  few_lifts = is.few_lifts;
  clear_shafts = is.clear_shafts;
  shafts_apart = is.shafts_apart;
  depth = is.depth;
  few_depth_lines = is.few_depth_lines;
  default_depth = is.default_depth;
  shots_line = is.shots_line;
  limit = is.limit;
}

-- ---- things

-- how many pass with one more line
pub count-push : (p : MapLine → Bool) (lines : List MapLine) (line : MapLine) → count_by p (lines ++ line ∷ []) ≡ count_by p lines + cond (p line) 1 0
count-push p lines line =
    let one = sum_by-cons (λ l. cond (p l) 1 0) line [] in
    omega (arith, sum_by-append (λ l. cond (p l) 1 0) lines (line ∷ []), one)

-- there are still few, where there was room for one more of those that pass
pub few-more : (p : MapLine → Bool) (most : ℕ) (lines : List MapLine) (line : MapLine) → count_by p lines ≤ most → (p line ≡ true → count_by p lines < most)
    → count_by p (lines ++ line ∷ []) ≤ most
few-more p most lines line few room = by (p line) refl (count-push p lines line)
  where
    by : (b : Bool) → p line ≡ b → count_by p (lines ++ line ∷ []) ≡ count_by p lines + cond b 1 0 → count_by p (lines ++ line ∷ []) ≤ most
    by true e count = let less = room e in omega (arith, count, less)
    by false e count = omega (arith, count, few)

pub item-room : (map : MapView) (line : MapLine) → keeps_count map line ≡ true → is_item_line line ≡ true → count_by is_item_line map.things < MOST_ITEMS
item-room map (Item at kind delay) room is = ltb-true _ _ room
item-room map line room is = cc

pub teleporter-room : (map : MapView) (line : MapLine) → keeps_count map line ≡ true → is_teleport_line line ≡ true → count_by is_teleport_line map.things < MOST_BOXES
teleporter-room map (Teleport lo hi dest) room is = ltb-true _ _ room
teleporter-room map line room is = cc

pub goal-room : (map : MapView) (line : MapLine) → keeps_count map line ≡ true → is_goal_line line ≡ true → count_by is_goal_line map.things < MOST_BOXES
goal-room map (Goal lo hi) room is = ltb-true _ _ room
goal-room map line room is = cc

pub lift-room : (map : MapView) (line : MapLine) → keeps_count map line ≡ true → is_lift_line line ≡ true → count_by is_lift_line map.things < MOST_BOXES
lift-room map (Lift lo hi rise speed) room is = ltb-true _ _ room
lift-room map line room is = cc

-- the shafts of a map
pub record HasShafts (blocks shafts : List Bounds) : Type 0 where
  pub clear : All (λ shaft. is_blocked shaft blocks ≡ false) shafts
  pub apart : AllPairs (λ one other. overlaps one other ≡ false) shafts

-- with one more shaft that meets none and no block
shafts-push : (blocks shafts : List Bounds) (own : Bounds) → HasShafts blocks shafts → is_blocked own blocks ≡ false → meets_shaft shafts own ≡ false
    → HasShafts blocks (shafts ++ own ∷ [])
shafts-push blocks shafts own has clear none = record {
  clear = all-push (λ shaft. is_blocked shaft blocks ≡ false) shafts own has.clear clear;
  apart = all_pairs_push (λ one other. overlaps one other ≡ false) shafts own has.apart (none_passes (λ shaft. overlaps shaft own) shafts none);
}

shafts-same : (blocks shafts : List Bounds) → HasShafts blocks shafts → HasShafts blocks (shafts ++ [])
shafts-same blocks shafts has = subst (HasShafts blocks) (sym (append-nil shafts)) has

pub shafts-more : (map : MapView) (line : MapLine) → HasShafts map.blocks (shafts_of map) → keeps_shafts map line ≡ true
    → HasShafts map.blocks (shafts_of map ++ filter_map shaft_of (line ∷ []))
shafts-more map (Lift lo hi rise speed) has keeps =
    let parts = and_parts (not (is_blocked (shaft lo hi rise) map.blocks)) (not (meets_shaft (shafts_of map) (shaft lo hi rise))) keeps in
    shafts-push map.blocks (shafts_of map) (shaft lo hi rise) has (not-true _ parts.0) (not-true _ parts.1)
shafts-more map (Arena lo hi) has keeps = shafts-same map.blocks (shafts_of map) has
shafts-more map (Block lo hi) has keeps = shafts-same map.blocks (shafts_of map) has
shafts-more map (Spawn at) has keeps = shafts-same map.blocks (shafts_of map) has
shafts-more map (Item at kind delay) has keeps = shafts-same map.blocks (shafts_of map) has
shafts-more map (Teleport lo hi dest) has keeps = shafts-same map.blocks (shafts_of map) has
shafts-more map (Goal lo hi) has keeps = shafts-same map.blocks (shafts_of map) has
shafts-more map (Depth depth) has keeps = shafts-same map.blocks (shafts_of map) has
shafts-more map Shots has keeps = shafts-same map.blocks (shafts_of map) has
shafts-more map (Blocks most) has keeps = shafts-same map.blocks (shafts_of map) has

pub with_thing-is_map : (map : MapView) (line : MapLine) → IsMap map → is_thing_line line ≡ true → IsWithinLimits line → KeepsAll map line → IsMap (with_thing map line)
with_thing-is_map map line is thing limits keeps =
    let more = shafts-more map line (record { clear = is.clear_shafts; apart = is.shafts_apart }) keeps.shafts in
    let has = subst (HasShafts map.blocks) (sym (filter_map-append shaft_of map.things (line ∷ []))) more in
    record {
      is_box = is.is_box;
      lo = is.lo;
      hi = is.hi;
      wide = is.wide;
      blocks = is.blocks;
      few_blocks = is.few_blocks;
      spawns = is.spawns;
      few_spawns = is.few_spawns;
      things = all-push (IsThingInside map.bounds) map.things line is.things (record {
        thing = thing;
        limits = limits;
        inside = keeps.inside;
        stand = keeps.stand;
        item = keeps.item;
        travel = keeps.travel;
      });
      few_items = few-more is_item_line MOST_ITEMS map.things line is.few_items (item-room map line keeps.count);
      few_teleporters = few-more is_teleport_line MOST_BOXES map.things line is.few_teleporters (teleporter-room map line keeps.count);
      few_goals = few-more is_goal_line MOST_BOXES map.things line is.few_goals (goal-room map line keeps.count);
      few_lifts = few-more is_lift_line MOST_BOXES map.things line is.few_lifts (lift-room map line keeps.count);
      clear_shafts = has.clear;
      shafts_apart = has.apart;
      depth = is.depth;
      few_depth_lines = is.few_depth_lines;
      default_depth = is.default_depth;
      shots_line = is.shots_line;
      limit = is.limit;
    }

-- ---- settings

-- where it is no more than 0 it is 0
pub none_yet : (n : ℕ) → (n == 0) ≡ true → n ≡ 0
none_yet n h = grind (arith, nat_tests)

pub first-line : (n : ℕ) → (n == 0) ≡ true → n + 1 ≤ 1
first-line n h = let none = none_yet n h in omega (arith, none)

pub with_depth-is_map : (map : MapView) (depth : ℕ) → IsMap map → IsTreeDepth depth → KeepsAll map (Depth depth) → IsMap (with_depth map depth)
with_depth-is_map map depth is range keeps = record {
  is_box = is.is_box;
  lo = is.lo;
  hi = is.hi;
  wide = is.wide;
  blocks = is.blocks;
  few_blocks = is.few_blocks;
  spawns = is.spawns;
  few_spawns = is.few_spawns;
  things = is.things;
  few_items = is.few_items;
  few_teleporters = is.few_teleporters;
  few_goals = is.few_goals;
  few_lifts = is.few_lifts;
  clear_shafts = is.clear_shafts;
  shafts_apart = is.shafts_apart;
  depth = range;
  few_depth_lines = first-line map.depth_lines keeps.count;
  default_depth = λ none. absurd (omega (arith, none));
  shots_line = is.shots_line;
  limit = is.limit;
}

pub with_shots-is_map : (map : MapView) → IsMap map → KeepsAll map Shots → IsMap (with_shots map)
with_shots-is_map map is keeps = record {
  is_box = is.is_box;
  lo = is.lo;
  hi = is.hi;
  wide = is.wide;
  blocks = is.blocks;
  few_blocks = is.few_blocks;
  spawns = is.spawns;
  few_spawns = is.few_spawns;
  things = is.things;
  few_items = is.few_items;
  few_teleporters = is.few_teleporters;
  few_goals = is.few_goals;
  few_lifts = is.few_lifts;
  clear_shafts = is.clear_shafts;
  shafts_apart = is.shafts_apart;
  depth = is.depth;
  few_depth_lines = is.few_depth_lines;
  default_depth = is.default_depth;
  shots_line = ap (λ n. n + 1) (none_yet map.shots_lines keeps.count);
  limit = is.limit;
}

-- a line that says how many blocks there may be is the first of its kind, and comes before all blocks
pub record IsFirstLimit (map : MapView) : Type 0 where
  pub no_line : map.limit_lines ≡ 0
  pub no_block : length map.blocks ≡ 0

pub first-limit : (map : MapView) → (map.limit_lines == 0 && length map.blocks == 0) ≡ true → IsFirstLimit map
first-limit map h =
    let parts = and_parts (map.limit_lines == 0) (length map.blocks == 0) h in
    record { no_line = none_yet map.limit_lines parts.0; no_block = none_yet (length map.blocks) parts.1 }

pub with_limit-is_map : (map : MapView) (most : ℕ) → IsMap map → IsBlockLimit most → KeepsAll map (Blocks most) → IsMap (with_limit map most)
with_limit-is_map map most is range keeps =
    let first = first-limit map keeps.count in
    record {
      is_box = is.is_box;
      lo = is.lo;
      hi = is.hi;
      wide = is.wide;
      blocks = is.blocks;
      few_blocks = omega (arith, first.no_block);
      spawns = is.spawns;
      few_spawns = is.few_spawns;
      things = is.things;
      few_items = is.few_items;
      few_teleporters = is.few_teleporters;
      few_goals = is.few_goals;
      few_lifts = is.few_lifts;
      clear_shafts = is.clear_shafts;
      shafts_apart = is.shafts_apart;
      depth = is.depth;
      few_depth_lines = is.few_depth_lines;
      default_depth = is.default_depth;
      shots_line = is.shots_line;
      limit = record {
        range = range;
        few_lines = omega (arith, first.no_line);
        default = λ none. absurd (omega (arith, none));
        first = omega (arith, first.no_block, is.limit.first);
      };
    }

-- ---- any line

-- a line that breaks no rule leaves a map that keeps them
pub with_line-is_map : (map : MapView) (line : MapLine) → IsMap map → IsWithinLimits line → broken_rule map line ≡ None → IsMap (with_line map line)
with_line-is_map map (Arena lo hi) is near none = is
with_line-is_map map (Block lo hi) is near none = with_block-is_map map lo hi is near (keeps_all map (Block lo hi) none)
with_line-is_map map (Spawn at) is near none = with_spawn-is_map map at is near (keeps_all map (Spawn at) none)
with_line-is_map map (Item at kind delay) is near none = with_thing-is_map map (Item at kind delay) is refl near (keeps_all map (Item at kind delay) none)
with_line-is_map map (Teleport lo hi dest) is near none = with_thing-is_map map (Teleport lo hi dest) is refl near (keeps_all map (Teleport lo hi dest) none)
with_line-is_map map (Goal lo hi) is near none = with_thing-is_map map (Goal lo hi) is refl near (keeps_all map (Goal lo hi) none)
with_line-is_map map (Lift lo hi rise speed) is near none = with_thing-is_map map (Lift lo hi rise speed) is refl near (keeps_all map (Lift lo hi rise speed) none)
with_line-is_map map (Depth depth) is near none = with_depth-is_map map depth is near (keeps_all map (Depth depth) none)
with_line-is_map map Shots is near none = with_shots-is_map map is (keeps_all map Shots none)
with_line-is_map map (Blocks most) is near none = with_limit-is_map map most is near (keeps_all map (Blocks most) none)
