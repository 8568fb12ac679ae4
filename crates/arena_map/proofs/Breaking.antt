-- That a line passes the test of each rule that the map with it keeps.
use Rattle.std.proofs.Common.{◌≡◌, ℕ, ◌+◌, ◌<◌, ◌≤◌, ◌==◌, Bool, true, false, not, cond, ◌||◌, ◌&&◌, nat_lt, List, [], ◌∷◌, ◌++◌, length, Some, None, All, AllPairs, count_by, get_or, refl, sym, ap, ◌∙◌, subst, arith, length-append}
use Rattle.std.specs.List.{list_any}
use Rattle.std.proofs.lemmas.Bool.Decides.{nat_tests}
use Rattle.std.proofs.lemmas.List.Elements.{filter_map-append}
use Rattle.std.proofs.lemmas.List.Folds.{list_any-append, list_any_none}
use Rattle.std.proofs.Math.ListN.{get_or-append}
use Rattle.std.proofs.Math.Seq.{get_or-append_seam}
use Rattle.std.specs.Cmp.Derive.{both_true}
use Rattle.arena_geo.specs.declared.vec3.Vec3.{Vec3}
use Rattle.arena_geo.specs.Bounds.{Bounds, bounds}
use Rattle.arena_geo.specs.Boxes.{overlaps, is_blocked}
use Rattle.arena_map.specs.declared.limits.TheConstants.{MOST_BOXES, MOST_ITEMS, MOST_SPAWNS}
use Rattle.arena_map.specs.declared.map_fault.MapFault.{MapFault}
use Rattle.arena_map.specs.declared.map_fault.MapFault.TheVariants as fault
use Rattle.arena_map.specs.declared.map_line.MapLine.{MapLine}
use Rattle.arena_map.specs.declared.map_line.MapLine.TheVariants.{Arena, Block, Spawn, Item, Teleport, Goal, Lift, Depth, Shots, Blocks}
use Rattle.arena_map.specs.MapLines.{is_thing_line, is_item_line, is_teleport_line, is_goal_line, is_lift_line}
use Rattle.arena_map.specs.Positions.{is_box_inside, is_player_inside, shaft, shaft_of, keeps_box, keeps_stand, keeps_item, keeps_travel}
use Rattle.arena_map.specs.Maps.{MapView, shafts_of, IsMap}
use Rattle.arena_map.specs.Rules.{broken_by_arena, bare_map, keeps_count, meets_shaft, keeps_shafts, broken_rule, with_block, with_spawn, with_thing, with_depth, with_shots, with_limit, with_line}
use Rattle.arena_map.specs.KeptRules.{HasFew, HasClearShafts, KeepsRule}
use Rattle.arena_map.proofs.Keeping.{first_broken, count-push}

-- ---- lists

-- what holds of each element holds of the last one
all-last : {X : Type 0} (P : X → Type 0) (xs : List X) (x : X) → All P (xs ++ x ∷ []) → P x
all-last P xs x each =
    let more = length-append xs (x ∷ []) in
    subst P (get_or-append_seam xs x [] x) (each (length xs) x (omega (arith, more)))

-- where no element passes a test, the last one doesn't
none-last : {X : Type 0} (p : X → Bool) (xs : List X) (x : X) → list_any p (xs ++ x ∷ []) ≡ false → p x ≡ false
none-last p xs x none = (neither (list_any p xs) (p x) (sym (list_any-append p xs (x ∷ []) ∙ ap (λ b. list_any p xs || b) (or-nothing (p x))) ∙ none)).1
  where
    or-nothing : (b : Bool) → (b || false) ≡ b
    or-nothing true = refl
    or-nothing false = refl

    neither : (a b : Bool) → (a || b) ≡ false → (a ≡ false) × (b ≡ false)
    neither false b h = (refl, h)
    neither true b h = cc

-- and what holds of each element and each later one, of each and the last one
pairs-last : (shafts : List Bounds) (own : Bounds) → AllPairs (λ one other. overlaps one other ≡ false) (shafts ++ own ∷ []) → meets_shaft shafts own ≡ false
pairs-last shafts own apart =
    list_any_none (λ shaft. overlaps shaft own) shafts (λ i d within.
    let more = length-append shafts (own ∷ []) in
    let first = get_or-append shafts (own ∷ []) d i within in
    let last = get_or-append_seam shafts own [] d in
    ap (λ one. overlaps one own) (sym first)
    ∙ ap (overlaps (get_or (shafts ++ own ∷ []) i d)) (sym last)
    ∙ apart i (length shafts) d within (omega (arith, more)))

-- there was room for one more of those that pass, where there are still few
room-before : (p : MapLine → Bool) (most : ℕ) (lines : List MapLine) (line : MapLine) → p line ≡ true → count_by p (lines ++ line ∷ []) ≤ most
    → nat_lt (count_by p lines) most ≡ true
room-before p most lines line passes few =
    let count : count_by p (lines ++ line ∷ []) ≡ count_by p lines + 1 = count-push p lines line ∙ ap (λ b. count_by p lines + cond b 1 0) passes in
    below (count_by p lines) most (omega (arith, count, few))
  where
    below : (m n : ℕ) → m < n → nat_lt m n ≡ true
    below m n h = grind (arith, nat_tests)

room-of : {X : Type 0} (xs : List X) (x : X) (most : ℕ) → length (xs ++ x ∷ []) ≤ most → nat_lt (length xs) most ≡ true
room-of xs x most few = let more = length-append xs (x ∷ []) in below (length xs) most (omega (arith, more, few))
  where
    below : (m n : ℕ) → m < n → nat_lt m n ≡ true
    below m n h = grind (arith, nat_tests)

-- ---- what the map with a line keeps the line keeps

-- the line passes the test of this rule
abbrev pub passes : MapView → MapLine → MapFault → Bool
passes map line fault.Arena = true
passes map line fault.Box = keeps_box map.bounds line
passes map line fault.Count = keeps_count map line
passes map line fault.Stand = keeps_stand map.bounds line
passes map line fault.Item = keeps_item map.bounds line
passes map line fault.Travel = keeps_travel map.bounds line
passes map line fault.NoSpawn = true
passes map line fault.Shaft = keeps_shafts map line

arena-passes : (map : MapView) (lo hi : Vec3) (rule : MapFault) → passes map (Arena lo hi) rule ≡ true
arena-passes map lo hi fault.Arena = refl
arena-passes map lo hi fault.Box = refl
arena-passes map lo hi fault.Count = refl
arena-passes map lo hi fault.Stand = refl
arena-passes map lo hi fault.Item = refl
arena-passes map lo hi fault.Travel = refl
arena-passes map lo hi fault.NoSpawn = refl
arena-passes map lo hi fault.Shaft = refl

block-passes : (map : MapView) (lo hi : Vec3) (rule : MapFault) → KeepsRule (with_block map (bounds lo hi)) rule → passes map (Block lo hi) rule ≡ true
block-passes map lo hi fault.Arena keeps = refl
block-passes map lo hi fault.Box keeps = all-last (λ block. is_box_inside map.bounds block.lo block.hi ≡ true) map.blocks (bounds lo hi) keeps.0
block-passes map lo hi fault.Count keeps = room-of map.blocks (bounds lo hi) map.most_blocks keeps.blocks
block-passes map lo hi fault.Stand keeps = refl
block-passes map lo hi fault.Item keeps = refl
block-passes map lo hi fault.Travel keeps = refl
block-passes map lo hi fault.NoSpawn keeps = refl
block-passes map lo hi fault.Shaft keeps =
    ap not (list_any_none (λ shaft. overlaps shaft (bounds lo hi)) (shafts_of map) (λ i d within. last_clear (get_or (shafts_of map) i d) (keeps.clear i d within)))
  where
    last_clear : (own : Bounds) → is_blocked own (map.blocks ++ bounds lo hi ∷ []) ≡ false → overlaps own (bounds lo hi) ≡ false
    last_clear own clear = none-last (overlaps own) map.blocks (bounds lo hi) clear

spawn-passes : (map : MapView) (at : Vec3) (rule : MapFault) → KeepsRule (with_spawn map at) rule → passes map (Spawn at) rule ≡ true
spawn-passes map at fault.Arena keeps = refl
spawn-passes map at fault.Box keeps = refl
spawn-passes map at fault.Count keeps = room-of map.spawns at MOST_SPAWNS keeps.spawns
spawn-passes map at fault.Stand keeps = all-last (λ at. is_player_inside map.bounds at ≡ true) map.spawns at keeps.0
spawn-passes map at fault.Item keeps = refl
spawn-passes map at fault.Travel keeps = refl
spawn-passes map at fault.NoSpawn keeps = refl
spawn-passes map at fault.Shaft keeps = refl

thing-room : (map : MapView) (line : MapLine) → is_thing_line line ≡ true → HasFew (with_thing map line) → keeps_count map line ≡ true
thing-room map (Arena lo hi) is few = refl
thing-room map (Block lo hi) is few = cc
thing-room map (Spawn at) is few = cc
thing-room map (Item at kind delay) is few = room-before is_item_line MOST_ITEMS map.things (Item at kind delay) refl few.items
thing-room map (Teleport lo hi dest) is few = room-before is_teleport_line MOST_BOXES map.things (Teleport lo hi dest) refl few.teleporters
thing-room map (Goal lo hi) is few = room-before is_goal_line MOST_BOXES map.things (Goal lo hi) refl few.goals
thing-room map (Depth depth) is few = cc
thing-room map Shots is few = cc
thing-room map (Blocks most) is few = cc
thing-room map (Lift lo hi rise speed) is few = room-before is_lift_line MOST_BOXES map.things (Lift lo hi rise speed) refl few.lifts

-- a lift's shaft meets no block and no earlier shaft
lift-clear : (map : MapView) (lo hi : Vec3) (rise speed : _) → HasClearShafts (with_thing map (Lift lo hi rise speed)) → keeps_shafts map (Lift lo hi rise speed) ≡ true
lift-clear map lo hi rise speed has =
    let own = shaft lo hi rise in
    let shafts-are = filter_map-append shaft_of map.things (Lift lo hi rise speed ∷ []) in
    let Clear : List Bounds → Type 0 = All (λ shaft. is_blocked shaft map.blocks ≡ false) in
    let Apart : List Bounds → Type 0 = AllPairs (λ one other. overlaps one other ≡ false) in
    both_true (ap not (all-last (λ shaft. is_blocked shaft map.blocks ≡ false) (shafts_of map) own (subst Clear shafts-are has.clear)))
    (ap not (pairs-last (shafts_of map) own (subst Apart shafts-are has.apart)))

thing-clear : (map : MapView) (line : MapLine) → is_thing_line line ≡ true → HasClearShafts (with_thing map line) → keeps_shafts map line ≡ true
thing-clear map (Arena lo hi) is has = refl
thing-clear map (Block lo hi) is has = cc
thing-clear map (Spawn at) is has = refl
thing-clear map (Item at kind delay) is has = refl
thing-clear map (Teleport lo hi dest) is has = refl
thing-clear map (Goal lo hi) is has = refl
thing-clear map (Depth depth) is has = refl
thing-clear map Shots is has = refl
thing-clear map (Blocks most) is has = refl
thing-clear map (Lift lo hi rise speed) is has = lift-clear map lo hi rise speed has

thing-passes : (map : MapView) (line : MapLine) → is_thing_line line ≡ true → (rule : MapFault) → KeepsRule (with_thing map line) rule → passes map line rule ≡ true
thing-passes map line is fault.Arena keeps = refl
thing-passes map line is fault.Box keeps = all-last (λ l. keeps_box map.bounds l ≡ true) map.things line keeps.1
thing-passes map line is fault.Count keeps = thing-room map line is keeps
thing-passes map line is fault.Stand keeps = all-last (λ l. keeps_stand map.bounds l ≡ true) map.things line keeps.1
thing-passes map line is fault.Item keeps = all-last (λ l. keeps_item map.bounds l ≡ true) map.things line keeps
thing-passes map line is fault.Travel keeps = all-last (λ l. keeps_travel map.bounds l ≡ true) map.things line keeps
thing-passes map line is fault.NoSpawn keeps = refl
thing-passes map line is fault.Shaft keeps = thing-clear map line is keeps

-- there was no line of a setting, where there is at most one with this one
none-before : (n : ℕ) → n + 1 ≤ 1 → (n == 0) ≡ true
none-before n few = grind (arith, nat_tests)

depth-passes : (map : MapView) (depth : ℕ) (rule : MapFault) → KeepsRule (with_depth map depth) rule → passes map (Depth depth) rule ≡ true
depth-passes map depth fault.Arena keeps = refl
depth-passes map depth fault.Box keeps = refl
depth-passes map depth fault.Count keeps = none-before map.depth_lines keeps.depth_lines
depth-passes map depth fault.Stand keeps = refl
depth-passes map depth fault.Item keeps = refl
depth-passes map depth fault.Travel keeps = refl
depth-passes map depth fault.NoSpawn keeps = refl
depth-passes map depth fault.Shaft keeps = refl

shots-passes : (map : MapView) (rule : MapFault) → KeepsRule (with_shots map) rule → passes map Shots rule ≡ true
shots-passes map fault.Arena keeps = refl
shots-passes map fault.Box keeps = refl
shots-passes map fault.Count keeps = none-before map.shots_lines keeps.shots_lines
shots-passes map fault.Stand keeps = refl
shots-passes map fault.Item keeps = refl
shots-passes map fault.Travel keeps = refl
shots-passes map fault.NoSpawn keeps = refl
shots-passes map fault.Shaft keeps = refl

limit-first : (map : MapView) (most : ℕ) → HasFew (with_limit map most) → (map.limit_lines == 0 && length map.blocks == 0) ≡ true
limit-first map most few =
    let early = few.early_blocks in
    both_true (none-before map.limit_lines few.limit_lines) (none-before (length map.blocks) (omega (arith, early)))

limit-passes : (map : MapView) (most : ℕ) (rule : MapFault) → KeepsRule (with_limit map most) rule → passes map (Blocks most) rule ≡ true
limit-passes map most fault.Arena keeps = refl
limit-passes map most fault.Box keeps = refl
limit-passes map most fault.Count keeps = limit-first map most keeps
limit-passes map most fault.Stand keeps = refl
limit-passes map most fault.Item keeps = refl
limit-passes map most fault.Travel keeps = refl
limit-passes map most fault.NoSpawn keeps = refl
limit-passes map most fault.Shaft keeps = refl

-- a line passes the test of each rule that the map with it keeps
pub line-passes : (map : MapView) (line : MapLine) (rule : MapFault) → KeepsRule (with_line map line) rule → passes map line rule ≡ true
line-passes map (Arena lo hi) rule keeps = arena-passes map lo hi rule
line-passes map (Block lo hi) rule keeps = block-passes map lo hi rule keeps
line-passes map (Spawn at) rule keeps = spawn-passes map at rule keeps
line-passes map (Item at kind delay) rule keeps = thing-passes map (Item at kind delay) refl rule keeps
line-passes map (Teleport lo hi dest) rule keeps = thing-passes map (Teleport lo hi dest) refl rule keeps
line-passes map (Goal lo hi) rule keeps = thing-passes map (Goal lo hi) refl rule keeps
line-passes map (Lift lo hi rise speed) rule keeps = thing-passes map (Lift lo hi rise speed) refl rule keeps
line-passes map (Depth depth) rule keeps = depth-passes map depth rule keeps
line-passes map Shots rule keeps = shots-passes map rule keeps
line-passes map (Blocks most) rule keeps = limit-passes map most rule keeps

-- ---- maps that keep the rules

-- at most one line says that players can shoot
few-shots : (shots : Bool) (n : ℕ) → n ≡ cond shots 1 0 → n ≤ 1
few-shots true n is = omega (arith, is)
few-shots false n is = omega (arith, is)

-- such a map keeps each of them
pub map-keeps : (map : MapView) → IsMap map → (rule : MapFault) → KeepsRule map rule
map-keeps map is fault.Arena = is.wide
map-keeps map is fault.Box =
    (λ i d within. let block = is.blocks i d within in both_true block.thick block.inside, λ i d within. (is.things i d within).inside)
map-keeps map is fault.Count = record {
  blocks = is.few_blocks;
  spawns = is.few_spawns;
  items = is.few_items;
  teleporters = is.few_teleporters;
  goals = is.few_goals;
  lifts = is.few_lifts;
  depth_lines = is.few_depth_lines;
  shots_lines = few-shots map.shots map.shots_lines is.shots_line;
  limit_lines = is.limit.few_lines;
  early_blocks = is.limit.first;
}
map-keeps map is fault.Stand = (λ i d within. (is.spawns i d within).inside, λ i d within. (is.things i d within).stand)
map-keeps map is fault.Item = λ i d within. (is.things i d within).item
map-keeps map is fault.Travel = λ i d within. (is.things i d within).travel
map-keeps map is fault.NoSpawn = tt
map-keeps map is fault.Shaft = record { clear = is.clear_shafts; apart = is.shafts_apart }

-- an arena that begins a map which keeps the rules breaks none
pub begins-unbroken : (lo hi : Vec3) → IsMap (bare_map lo hi) → broken_by_arena lo hi ≡ None
begins-unbroken lo hi is = ap (λ (wide : Bool). cond wide None (Some fault.Arena)) is.wide

-- nor does a line that leaves such a map
pub leaves-unbroken : (map : MapView) (line : MapLine) → IsMap (with_line map line) → broken_rule map line ≡ None
leaves-unbroken map line is =
    let each : (rule : MapFault) → passes map line rule ≡ true = λ rule. line-passes map line rule (map-keeps (with_line map line) is rule) in
    λ i. first_broken (each fault.Box i) (each fault.Count i) (each fault.Stand i) (each fault.Item i) (each fault.Travel i) (each fault.Shaft i)
