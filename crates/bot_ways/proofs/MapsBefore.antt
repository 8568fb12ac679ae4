-- A map that keeps the rules takes its lines in the order of settings, blocks, spawns and things, each after those before it.
use Rattle.std.proofs.Common.{◌≡◌, ℕ, ◌≤◌, ◌==◌, Bool, true, false, cond, List, [], ◌∷◌, ◌++◌, length, fold, map, filter_map, count_by, get_or, All, AllPairs, refl, sym, ap, ◌∙◌, subst, arith, append_assoc, append-nil, length-append}
use Rattle.std.specs.List.{AllByRecursion, list_any}
use Rattle.std.proofs.Math.ListN.{get_or-append}
use Rattle.std.proofs.lemmas.List.Folds.{list_any-append}
use Rattle.std.proofs.lemmas.List.Elements.{recursion_from_All, filter_map-append}
use Rattle.std.proofs.lemmas.Bool.{eqb-true, or_parts}
use Rattle.arena_geo.specs.declared.vec3.Vec3.{Vec3}
use Rattle.arena_geo.specs.Bounds.{Bounds}
use Rattle.arena_geo.specs.Boxes.{overlaps, is_blocked}
use Rattle.arena_map.specs.declared.limits.TheConstants.{DEFAULT_BLOCKS, DEFAULT_DEPTH, MOST_BOXES, MOST_ITEMS, MOST_SPAWNS}
use Rattle.arena_map.specs.declared.map_line.MapLine.{MapLine}
use Rattle.arena_map.specs.declared.map_line.MapLine.TheVariants.{Arena, Block, Spawn, Item, Teleport, Goal, Lift, Depth, Shots, Blocks}
use Rattle.arena_map.specs.Positions.{shaft_of}
use Rattle.arena_map.specs.MapLines.{IsWithinLimits, is_added, is_thing_line, is_item_line, is_teleport_line, is_goal_line, is_lift_line}
use Rattle.arena_map.specs.Maps.{MapView, plain_map, IsMap, IsBlock, IsSpawn, IsThingInside, shafts_of}
use Rattle.arena_map.specs.Rules.{with_line, with_block, with_spawn, with_thing}
use Rattle.arena_map.proofs.Keeping.{count-push}
use Rattle.arena_map.proofs.Breaking.{leaves-unbroken}
use Rattle.demo_lines.specs.Spelling.{shots_lines_of}
use Rattle.demo_lines.specs.InTurn.{AreAccepted, map_in_turn}
use Rattle.demo_lines.proofs.RecordingsRead.{block_near, set, filled}
use Rattle.bot_ways.specs.PlanTexts.{block_of, depth_lines_of, limit_lines_of, setting_lines_of, added_lines, as_written}

-- ---- fronts of lists

all-front : {X : Type 0} (P : X → Type 0) (xs : List X) (x : X) → All P (xs ++ x ∷ []) → All P xs
all-front P xs x each k d within =
    let more = length-append xs (x ∷ []) in
    subst P (get_or-append xs (x ∷ []) d k within) (each k d (omega (arith, more)))

pairs-front : {X : Type 0} (R : X → X → Type 0) (xs ys : List X) → AllPairs R (xs ++ ys) → AllPairs R xs
pairs-front R xs ys each i j d first within =
    let more = length-append xs ys in
    subst (R (get_or xs i d)) (get_or-append xs ys d j within)
    (subst (λ x. R x (get_or (xs ++ ys) j d)) (get_or-append xs ys d i (omega arith)) (each i j d first (omega (arith, more))))

all-start : {X : Type 0} (P : X → Type 0) (xs ys : List X) → All P (xs ++ ys) → All P xs
all-start P xs ys each k d within =
    let more = length-append xs ys in
    subst P (get_or-append xs ys d k within) (each k d (omega (arith, more)))

few-front : {X : Type 0} (xs : List X) (x : X) (most : ℕ) → length (xs ++ x ∷ []) ≤ most → length xs ≤ most
few-front xs x most few = let more = length-append xs (x ∷ []) in omega (arith, more, few)

count-front : (p : MapLine → Bool) (xs : List MapLine) (x : MapLine) (most : ℕ) → count_by p (xs ++ x ∷ []) ≤ most → count_by p xs ≤ most
count-front p xs x most few = let more = count-push p xs x in omega (arith, more, few)

clear-front : (own : Bounds) (blocks : List Bounds) (b : Bounds) → is_blocked own (blocks ++ b ∷ []) ≡ false → is_blocked own blocks ≡ false
clear-front own blocks b clear =
    (or_parts (list_any (overlaps own) blocks) (list_any (overlaps own) (b ∷ [])) (sym (list_any-append (overlaps own) blocks (b ∷ [])) ∙ clear)).0

-- ---- the map before a line

before_block : (m : MapView) (b : Bounds) → IsMap (with_block m b) → IsMap m
before_block m b is = record {
  is_box = is.is_box;
  lo = is.lo;
  hi = is.hi;
  wide = is.wide;
  blocks = all-front (IsBlock m.bounds) m.blocks b is.blocks;
  few_blocks = few-front m.blocks b m.most_blocks is.few_blocks;
  spawns = is.spawns;
  few_spawns = is.few_spawns;
  things = is.things;
  few_items = is.few_items;
  few_teleporters = is.few_teleporters;
  few_goals = is.few_goals;
  few_lifts = is.few_lifts;
  clear_shafts = λ k d within. clear-front (get_or (shafts_of m) k d) m.blocks b (is.clear_shafts k d within);
  shafts_apart = is.shafts_apart;
  depth = is.depth;
  few_depth_lines = is.few_depth_lines;
  default_depth = is.default_depth;
  shots_line = is.shots_line;
  limit = is.limit;
}

before_spawn : (m : MapView) (at : Vec3) → IsMap (with_spawn m at) → IsMap m
before_spawn m at is = record {
  is_box = is.is_box;
  lo = is.lo;
  hi = is.hi;
  wide = is.wide;
  blocks = is.blocks;
  few_blocks = is.few_blocks;
  spawns = all-front (IsSpawn m.bounds) m.spawns at is.spawns;
  few_spawns = few-front m.spawns at MOST_SPAWNS is.few_spawns;
  things = is.things;
  few_items = is.few_items;
  few_teleporters = is.few_teleporters;
  few_goals = is.few_goals;
  few_lifts = is.few_lifts;
  clear_shafts = is.clear_shafts;
  shafts_apart = is.shafts_apart;
  depth = is.depth;
  few_depth_lines = is.few_depth_lines;
  default_depth = is.default_depth;
  shots_line = is.shots_line;
  limit = is.limit;
}

before_thing : (m : MapView) (line : MapLine) → IsMap (with_thing m line) → IsMap m
before_thing m line is =
    let Clear : List Bounds → Type 0 = All (λ own. is_blocked own m.blocks ≡ false) in
    let Apart : List Bounds → Type 0 = AllPairs (λ one other. overlaps one other ≡ false) in
    let split = filter_map-append shaft_of m.things (line ∷ []) in
    record {
      is_box = is.is_box;
      lo = is.lo;
      hi = is.hi;
      wide = is.wide;
      blocks = is.blocks;
      few_blocks = is.few_blocks;
      spawns = is.spawns;
      few_spawns = is.few_spawns;
      things = all-front (IsThingInside m.bounds) m.things line is.things;
      few_items = count-front is_item_line m.things line MOST_ITEMS is.few_items;
      few_teleporters = count-front is_teleport_line m.things line MOST_BOXES is.few_teleporters;
      few_goals = count-front is_goal_line m.things line MOST_BOXES is.few_goals;
      few_lifts = count-front is_lift_line m.things line MOST_BOXES is.few_lifts;
      clear_shafts = all-start (λ own. is_blocked own m.blocks ≡ false) (shafts_of m) (filter_map shaft_of (line ∷ [])) (subst Clear split is.clear_shafts);
      shafts_apart = pairs-front (λ one other. overlaps one other ≡ false) (shafts_of m) (filter_map shaft_of (line ∷ [])) (subst Apart split is.shafts_apart);
      depth = is.depth;
      few_depth_lines = is.few_depth_lines;
      default_depth = is.default_depth;
      shots_line = is.shots_line;
      limit = is.limit;
    }

-- the line is one of the settings, which replace what was there
abbrev is_setting : MapLine → Bool
is_setting (Depth depth) = true
is_setting Shots = true
is_setting (Blocks most) = true
is_setting _ = false

before_line : (m : MapView) (line : MapLine) → is_setting line ≡ false → IsMap (with_line m line) → IsMap m
before_line m (Arena lo hi) added is = is
before_line m (Block lo hi) added is = before_block m _ is
before_line m (Spawn at) added is = before_spawn m at is
before_line m (Item at kind delay) added is = before_thing m (Item at kind delay) is
before_line m (Teleport lo hi dest) added is = before_thing m (Teleport lo hi dest) is
before_line m (Goal lo hi) added is = before_thing m (Goal lo hi) is
before_line m (Lift lo hi rise speed) added is = before_thing m (Lift lo hi rise speed) is
before_line m (Depth depth) added is = cc
before_line m Shots added is = cc
before_line m (Blocks most) added is = cc

-- ---- lines that are accepted

-- the numbers of a line are within their limits, and it is neither that of an arena nor one of the settings
pub record MayBeAdded (line : MapLine) : Type 0 where
  pub limits : IsWithinLimits line
  pub added : is_added line ≡ true
  pub no_setting : is_setting line ≡ false

-- the map before these lines
before_lines : (m : MapView) (lines : List MapLine) → AllByRecursion MayBeAdded lines → IsMap (fold with_line m lines) → IsMap m
before_lines m [] each is = is
before_lines m (line ∷ lines) each is = before_line m line each.0.no_setting (before_lines (with_line m line) lines each.1 is)

accepted : (m : MapView) (lines : List MapLine) → AllByRecursion MayBeAdded lines → IsMap (fold with_line m lines) → AreAccepted m lines
accepted m [] each is = tt
accepted m (line ∷ lines) each is = (
  record { limits = each.0.limits; added = each.0.added; rules = leaves-unbroken m line (before_lines (with_line m line) lines each.1 is) },
  accepted (with_line m line) lines each.1 is,
)

each-of : {X : Type 0} (P : X → Type 0) (f : X → MapLine) (xs : List X) → ((x : X) → P x → MayBeAdded (f x)) → AllByRecursion P xs → AllByRecursion MayBeAdded (map f xs)
each-of P f [] may each = tt
each-of P f (x ∷ xs) may each = (may x each.0, each-of P f xs may each.1)

each-both : (xs ys : List MapLine) → AllByRecursion MayBeAdded xs → AllByRecursion MayBeAdded ys → AllByRecursion MayBeAdded (xs ++ ys)
each-both [] ys one other = other
each-both (x ∷ xs) ys one other = (one.0, each-both xs ys one.1 other)

thing-added : (line : MapLine) → is_thing_line line ≡ true → (is_added line ≡ true) × (is_setting line ≡ false)
thing-added (Arena lo hi) thing = cc
thing-added (Block lo hi) thing = cc
thing-added (Spawn at) thing = cc
thing-added (Item at kind delay) thing = (refl, refl)
thing-added (Teleport lo hi dest) thing = (refl, refl)
thing-added (Goal lo hi) thing = (refl, refl)
thing-added (Lift lo hi rise speed) thing = (refl, refl)
thing-added (Depth depth) thing = cc
thing-added Shots thing = cc
thing-added (Blocks most) thing = cc

things-each : (arena : Bounds) (lines : List MapLine) → AllByRecursion (IsThingInside arena) lines → AllByRecursion MayBeAdded lines
things-each arena [] each = tt
things-each arena (line ∷ lines) each =
    let is = thing-added line each.0.thing in
    (record { limits = each.0.limits; added = is.0; no_setting = is.1 }, things-each arena lines each.1)

-- ---- the lines of a map

blocks-added : (m : MapView) (done blocks : List Bounds) → fold with_line (filled m done [] []) (map block_of blocks) ≡ filled m (done ++ blocks) [] []
blocks-added m done [] = ap (λ bs. filled m bs [] []) (sym (append-nil done))
blocks-added m done (b ∷ blocks) =
    blocks-added m (done ++ b ∷ []) blocks ∙ ap (λ bs. filled m bs [] []) (append_assoc done (b ∷ []) blocks)

spawns-added : (m : MapView) (blocks : List Bounds) (done spawns : List Vec3) → fold with_line (filled m blocks done []) (map Spawn spawns) ≡ filled m blocks (done ++ spawns) []
spawns-added m blocks done [] = ap (λ ss. filled m blocks ss []) (sym (append-nil done))
spawns-added m blocks done (at ∷ spawns) =
    spawns-added m blocks (done ++ at ∷ []) spawns ∙ ap (λ ss. filled m blocks ss []) (append_assoc done (at ∷ []) spawns)

added-thing : (m : MapView) (line : MapLine) → is_thing_line line ≡ true → with_line m line ≡ with_thing m line
added-thing m (Arena lo hi) thing = cc
added-thing m (Block lo hi) thing = cc
added-thing m (Spawn at) thing = cc
added-thing m (Item at kind delay) thing = refl
added-thing m (Teleport lo hi dest) thing = refl
added-thing m (Goal lo hi) thing = refl
added-thing m (Lift lo hi rise speed) thing = refl
added-thing m (Depth depth) thing = cc
added-thing m Shots thing = cc
added-thing m (Blocks most) thing = cc

things-added : (m : MapView) (blocks : List Bounds) (spawns : List Vec3) (done things : List MapLine) → AllByRecursion (IsThingInside m.bounds) things
    → fold with_line (filled m blocks spawns done) things ≡ filled m blocks spawns (done ++ things)
things-added m blocks spawns done [] each = ap (λ ts. filled m blocks spawns ts) (sym (append-nil done))
things-added m blocks spawns done (line ∷ things) each =
    ap (λ n. fold with_line n things) (added-thing (filled m blocks spawns done) line each.0.thing)
    ∙ things-added m blocks spawns (done ++ line ∷ []) things each.1
    ∙ ap (λ ts. filled m blocks spawns ts) (append_assoc done (line ∷ []) things)

fold-both : (m : MapView) (xs ys : List MapLine) → fold with_line m (xs ++ ys) ≡ fold with_line (fold with_line m xs) ys
fold-both m [] ys = refl
fold-both m (x ∷ xs) ys = fold-both (with_line m x) xs ys

accepted-both : (m : MapView) (xs ys : List MapLine) → AreAccepted m xs → AreAccepted (fold with_line m xs) ys → AreAccepted m (xs ++ ys)
accepted-both m [] ys one other = other
accepted-both m (x ∷ xs) ys one other = (one.0, accepted-both (with_line m x) xs ys one.1 other)

-- ---- the settings

-- with the depth alone, as it is written
abbrev deep : MapView → MapView
deep m = set m.bounds m.depth (as_written m).depth_lines false 0 DEFAULT_BLOCKS 0

-- with the depth, and with shots where players can shoot
abbrev armed : MapView → MapView
armed m = set m.bounds m.depth (as_written m).depth_lines m.shots m.shots_lines DEFAULT_BLOCKS 0

-- with so many lines that say how many blocks there may be
abbrev limited : MapView → ℕ → MapView
limited m lines = set m.bounds m.depth (as_written m).depth_lines m.shots m.shots_lines m.most_blocks lines

-- these lines are accepted there, and lead to this map
record LeadsTo (from : MapView) (lines : List MapLine) (to : MapView) : Type 0 where
  accepted : AreAccepted from lines
  reached : fold with_line from lines ≡ to

leads-then : (a b c : MapView) (xs ys : List MapLine) → LeadsTo a xs b → LeadsTo b ys c → LeadsTo a (xs ++ ys) c
leads-then a b c xs ys one then = record {
  accepted = accepted-both a xs ys one.accepted (subst (λ m. AreAccepted m ys) (sym one.reached) then.accepted);
  reached = fold-both a xs ys ∙ ap (λ m. fold with_line m ys) one.reached ∙ then.reached;
}

depth-leads : (m : MapView) → IsMap m → LeadsTo (plain_map m.bounds [] [] []) (depth_lines_of m) (deep m)
depth-leads m is = by (m.depth == DEFAULT_DEPTH) refl
  where
    by : (default : Bool) → (m.depth == DEFAULT_DEPTH) ≡ default
        → LeadsTo (plain_map m.bounds [] [] []) (cond default [] (Depth m.depth ∷ [])) (set m.bounds m.depth (cond default 0 1) false 0 DEFAULT_BLOCKS 0)
    by true h = record { accepted = tt; reached = ap (λ d. set m.bounds d 0 false 0 DEFAULT_BLOCKS 0) (sym (eqb-true m.depth DEFAULT_DEPTH h)) }
    by false h = record { accepted = (record { limits = is.depth; added = refl; rules = refl }, tt); reached = refl }

shots-lead : (m : MapView) → IsMap m → LeadsTo (deep m) (shots_lines_of m) (armed m)
shots-lead m is = by m.shots refl
  where
    settings_are : (shots : Bool) → m.shots ≡ shots
        → set m.bounds m.depth (as_written m).depth_lines shots (cond shots 1 0) DEFAULT_BLOCKS 0 ≡ armed m
    settings_are shots h =
        ap (λ b. set m.bounds m.depth (as_written m).depth_lines b (cond b 1 0) DEFAULT_BLOCKS 0) (sym h)
        ∙ ap (λ l. set m.bounds m.depth (as_written m).depth_lines m.shots l DEFAULT_BLOCKS 0) (sym is.shots_line)

    by : (shots : Bool) → m.shots ≡ shots → LeadsTo (deep m) (cond shots (Shots ∷ []) []) (armed m)
    by true h = record { accepted = (record { limits = tt; added = refl; rules = refl }, tt); reached = settings_are true h }
    by false h = record { accepted = tt; reached = settings_are false h }

limit-leads : (m : MapView) → IsMap m → LeadsTo (armed m) (limit_lines_of m) (filled (as_written m) [] [] [])
limit-leads m is = by (m.most_blocks == DEFAULT_BLOCKS) refl
  where
    -- no block comes before the line
    early : (lines : ℕ) → limited m lines ≡ record (limited m lines) { early_blocks = m.early_blocks }
    early lines = ap (λ e. record (limited m lines) { early_blocks = e }) (sym is.limit.first)

    by : (default : Bool) → (m.most_blocks == DEFAULT_BLOCKS) ≡ default
        → LeadsTo (armed m) (cond default [] (Blocks m.most_blocks ∷ [])) (record (limited m (cond default 0 1)) { early_blocks = m.early_blocks })
    by true h = record {
      accepted = tt;
      reached = ap (λ b. set m.bounds m.depth (as_written m).depth_lines m.shots m.shots_lines b 0) (sym (eqb-true m.most_blocks DEFAULT_BLOCKS h)) ∙ early 0;
    }
    by false h = record { accepted = (record { limits = is.limit.range; added = refl; rules = refl }, tt); reached = early 1 }

settings-lead : (m : MapView) → IsMap m → LeadsTo (plain_map m.bounds [] [] []) (setting_lines_of m) (filled (as_written m) [] [] [])
settings-lead m is =
    let written = filled (as_written m) [] [] [] in
    leads-then (plain_map m.bounds [] [] []) (deep m) written (depth_lines_of m) (shots_lines_of m ++ limit_lines_of m) (depth-leads m is)
    (leads-then (deep m) (armed m) written (shots_lines_of m) (limit_lines_of m) (shots-lead m is) (limit-leads m is))

-- the map as it is written keeps the rules
written-is_map : (m : MapView) → IsMap m → IsMap (as_written m)
written-is_map m is = record {
  is_box = is.is_box;
  lo = is.lo;
  hi = is.hi;
  wide = is.wide;
  blocks = is.blocks;
  few_blocks = is.few_blocks;
  spawns = is.spawns;
  few_spawns = is.few_spawns;
  things = is.things;
  few_items = is.few_items;
  few_teleporters = is.few_teleporters;
  few_goals = is.few_goals;
  few_lifts = is.few_lifts;
  clear_shafts = is.clear_shafts;
  shafts_apart = is.shafts_apart;
  depth = is.depth;
  few_depth_lines = few (m.depth == DEFAULT_DEPTH);
  default_depth = λ none. default DEFAULT_DEPTH m.depth (m.depth == DEFAULT_DEPTH) refl none;
  shots_line = is.shots_line;
  limit = record {
    range = is.limit.range;
    few_lines = few (m.most_blocks == DEFAULT_BLOCKS);
    default = λ none. default DEFAULT_BLOCKS m.most_blocks (m.most_blocks == DEFAULT_BLOCKS) refl none;
    first = is.limit.first;
  };
}
  where
    -- how many lines name it
    named : Bool → ℕ
    named b = cond b 0 1

    few : (default : Bool) → named default ≤ 1
    few true = omega arith
    few false = omega arith

    default : (usual n : ℕ) (b : Bool) → (n == usual) ≡ b → named b ≡ 0 → n ≡ usual
    default usual n true h none = eqb-true n usual h
    default usual n false h none = absurd (omega (arith, none))

-- ---- all lines

-- the lines after the settings
abbrev part_lines : MapView → List MapLine
part_lines m = map block_of m.blocks ++ (map Spawn m.spawns ++ m.things)

-- they give the map again
parts-again : (m : MapView) → IsMap m → fold with_line (filled m [] [] []) (part_lines m) ≡ m
parts-again m is =
    let things = recursion_from_All (IsThingInside m.bounds) m.things is.things in
    fold-both (filled m [] [] []) (map block_of m.blocks) (map Spawn m.spawns ++ m.things)
    ∙ ap (λ n. fold with_line n (map Spawn m.spawns ++ m.things)) (blocks-added m [] m.blocks)
    ∙ fold-both (filled m m.blocks [] []) (map Spawn m.spawns) m.things
    ∙ ap (λ n. fold with_line n m.things) (spawns-added m m.blocks [] m.spawns)
    ∙ things-added m m.blocks m.spawns [] m.things things

-- and each is accepted after those before it
parts-lead : (m : MapView) → IsMap m → LeadsTo (filled m [] [] []) (part_lines m) m
parts-lead m is =
    let blocks = each-of (IsBlock m.bounds) block_of m.blocks (λ b inside. record { limits = block_near m.bounds b is.lo is.hi inside; added = refl; no_setting = refl })
    (recursion_from_All (IsBlock m.bounds) m.blocks is.blocks) in
    let spawns = each-of (IsSpawn m.bounds) Spawn m.spawns (λ at inside. record { limits = inside.near; added = refl; no_setting = refl })
    (recursion_from_All (IsSpawn m.bounds) m.spawns is.spawns) in
    let things = things-each m.bounds m.things (recursion_from_All (IsThingInside m.bounds) m.things is.things) in
    record {
      accepted = accepted (filled m [] [] []) (part_lines m)
          (each-both (map block_of m.blocks) (map Spawn m.spawns ++ m.things) blocks (each-both (map Spawn m.spawns) m.things spawns things))
          (subst IsMap (sym (parts-again m is)) is);
      reached = parts-again m is;
    }

lines-lead : (m : MapView) → IsMap m → LeadsTo (plain_map m.bounds [] [] []) (added_lines m) (as_written m)
lines-lead m is =
    let bare = plain_map m.bounds [] [] [] in
    let written = as_written m in
    leads-then bare (filled written [] [] []) written (setting_lines_of m) (part_lines m) (settings-lead m is) (parts-lead written (written-is_map m is))

-- the lines give the map again
pub map-again : (m : MapView) → IsMap m → map_in_turn m.bounds (added_lines m) ≡ as_written m
map-again m is = (lines-lead m is).reached

-- and each is accepted after those before it
pub lines-accepted : (m : MapView) → IsMap m → AreAccepted (plain_map m.bounds [] [] []) (added_lines m)
lines-accepted m is = (lines-lead m is).accepted
