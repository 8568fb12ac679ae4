-- A recording that has as many lines as a recording may have.
use Rattle.std.proofs.Common.{◌≡◌, ℕ, zero, suc, ◌+◌, ◌*◌, ◌<◌, Bool, true, false, ◌&&◌, ◌||◌, List, [], ◌∷◌, ◌++◌, length, map, flat_map, filter_map, count_by, nat_lt, Option, Some, None, cond, refl, sym, ap, ◌∙◌, subst, arith, pos, negsuc, ◌+ℤ◌, int_lt, int_le, length-append, All}
use Rattle.std.specs.List.{AllByRecursion, AllPairs}
use Rattle.std.proofs.lemmas.Bool.Decides.{nat_tests}
use Rattle.std.proofs.lemmas.Int.{ints}
use Rattle.std.proofs.lemmas.List.{length-map}
use Rattle.std.proofs.lemmas.List.Kept.{AllPairs-cons}
use Rattle.std.proofs.lemmas.List.Sums.{sum_by-append}
use Rattle.std.proofs.lemmas.List.Elements.{All-from_recursion, filter_map-append}
use Rattle.std.proofs.lemmas.Bool.{and_from}
use Rattle.edge_io.proofs.Feeds.{each_of_both}
use Rattle.arena_geo.specs.declared.vec3.Vec3.{Vec3}
use Rattle.arena_geo.specs.Bounds.{Bounds}
use Rattle.arena_geo.specs.Boxes.{overlaps, overlaps_on, is_blocked}
use Rattle.entity_recs.specs.declared.kind.Kind.TheVariants.{Gem}
use Rattle.arena_map.specs.declared.limits.TheConstants.{DEFAULT_DEPTH, MOST_BLOCKS, MOST_ITEMS, MOST_THINGS}
use Rattle.arena_map.specs.declared.map_line.MapLine.{MapLine}
use Rattle.arena_map.specs.declared.map_line.MapLine.TheVariants.{Item, Teleport, Goal, Lift}
use Rattle.arena_map.specs.MapLines.{is_item_line, is_teleport_line, is_goal_line, is_lift_line}
use Rattle.arena_map.specs.Positions.{shaft, shaft_of}
use Rattle.arena_map.specs.Maps.{MapView, IsSpawn, IsBlock, IsThingInside, IsMap, map_of}
use Rattle.arena_map.proofs.Counting.{count-cons}
use Rattle.packet_read.specs.declared.arrival.Arrival.{Arrival}
use Rattle.demo_lines.specs.declared.line.Line.TheVariants.{OfMap, From, End}
use Rattle.demo_lines.specs.Spelling.{IsArrival, IsFrame, IsRecording, frame_lines, map_lines, recording_lines, setting_lines, block_line, spawn_line, small_map}
use Rattle.demo_lines.specs.Recording.{most_lines}
use Rattle.demo_lines.specs.Laws.{LinesAreBounded}
use Rattle.demo_lines.proofs.SmallRecording.{small_is_map, small_spawn, small_spawn_is, small_block, small_block_is, small_arrival, small_arrival_is}
use Rattle.demo_lines.proofs.LinesBounded.{lines_bounded}

-- n times x
copies : {X : Type 0} → ℕ → X → List X
copies zero x = []
copies (suc n) x = x ∷ copies n x

length-copies : {X : Type 0} (n : ℕ) (x : X) → length (copies n x) ≡ n
unfolding copies
length-copies zero x = refl
length-copies (suc n) x = omega (arith, length-copies n x)

all-copies : {X : Type 0} (P : X → Type 0) (n : ℕ) (x : X) → P x → AllByRecursion P (copies n x)
unfolding copies
all-copies P zero x is = tt
all-copies P (suc n) x is = (is, all-copies P n x is)

length-flat_map-copies : {X Y : Type 0} (f : X → List Y) (n : ℕ) (x : X) → length (flat_map f (copies n x)) ≡ n * length (f x)
unfolding copies
length-flat_map-copies f zero x = omega arith
length-flat_map-copies f (suc n) x = omega (arith, length-append (f x) (flat_map f (copies n x)), length-flat_map-copies f n x)

count-both : (p : MapLine → Bool) (xs ys : List MapLine) → count_by p (xs ++ ys) ≡ count_by p xs + count_by p ys
count-both p xs ys = sum_by-append (λ l. cond (p l) 1 0) xs ys

count-copies : (p : MapLine → Bool) (n : ℕ) (x : MapLine) (one : ℕ) → cond (p x) 1 0 ≡ one → count_by p (copies n x) ≡ n * one
unfolding copies
count-copies p zero x one is = omega arith
count-copies p (suc n) x one is = let rest = count-copies p n x one is in let step = count-cons p x (copies n x) in omega (arith, rest, step, is)

no_shafts : (n : ℕ) (x : MapLine) → shaft_of x ≡ None → filter_map shaft_of (copies n x) ≡ []
unfolding copies
no_shafts zero x none = refl
no_shafts (suc n) x none = ap (λ o. shafts_then o (filter_map shaft_of (copies n x))) none ∙ no_shafts n x none
  where
    shafts_then : Option Bounds → List Bounds → List Bounds
    shafts_then None xs = xs
    shafts_then (Some s) xs = s ∷ xs

free-copies : (n : ℕ) (s b : Bounds) → overlaps s b ≡ false → is_blocked s (copies n b) ≡ false
unfolding copies
free-copies zero s b free = refl
free-copies (suc n) s b free = ap (λ x. x || is_blocked s (copies n b)) free ∙ free-copies n s b free

-- ---- lifts beside each other

abbrev corner : ℕ → ℕ → Vec3
corner x y = record { x = pos x; y = pos y; z = pos y }

abbrev lift_at : ℕ → MapLine
lift_at n = Lift (corner n 0) (corner (suc n) 1) (pos 1) (pos 1)

abbrev shaft_at : ℕ → Bounds
shaft_at n = shaft (corner n 0) (corner (suc n) 1) (pos 1)

lifts : ℕ → List MapLine
lifts zero = []
lifts (suc n) = lift_at n ∷ lifts n

shafts : ℕ → List Bounds
shafts zero = []
shafts (suc n) = shaft_at n ∷ shafts n

length-lifts : (n : ℕ) → length (lifts n) ≡ n
unfolding lifts
length-lifts zero = refl
length-lifts (suc n) = omega (arith, length-lifts n)

count-lifts : (p : MapLine → Bool) (n one : ℕ) → ((k : ℕ) → cond (p (lift_at k)) 1 0 ≡ one) → count_by p (lifts n) ≡ n * one
unfolding lifts
count-lifts p zero one is = omega arith
count-lifts p (suc n) one is = let rest = count-lifts p n one is in let step = count-cons p (lift_at n) (lifts n) in let here = is n in omega (arith, rest, step, here)

shafts-are : (n : ℕ) → filter_map shaft_of (lifts n) ≡ shafts n
unfolding lifts shafts
shafts-are zero = refl
shafts-are (suc n) = ap (λ xs. shaft_at n ∷ xs) (shafts-are n)

all-lifts : (P : MapLine → Type 0) (n : ℕ) → ((k : ℕ) → k < n → P (lift_at k)) → AllByRecursion P (lifts n)
unfolding lifts
all-lifts P zero each = tt
all-lifts P (suc n) each = (each n (omega arith), all-lifts P n (λ k below. each k (omega arith)))

all-shafts : (P : Bounds → Type 0) (n : ℕ) → ((k : ℕ) → k < n → P (shaft_at k)) → AllByRecursion P (shafts n)
unfolding shafts
all-shafts P zero each = tt
all-shafts P (suc n) each = (each n (omega arith), all-shafts P n (λ k below. each k (omega arith)))

apart : (n k : ℕ) → k < n → overlaps (shaft_at n) (shaft_at k) ≡ false
apart n k below =
    let far : int_lt (pos n) (pos (suc k) +ℤ pos 0) ≡ false = grind (arith, ints, nat_tests) in
    let rest = int_lt (pos k) (pos (suc n) +ℤ pos 0) in
    let y = overlaps_on (pos 0) (pos 1 +ℤ pos 0) (pos 0) (pos 1 +ℤ pos 0) in
    let z = overlaps_on (pos 0) (pos 1 +ℤ pos 1) (pos 0) (pos 1 +ℤ pos 1) in
    ap (λ b. ((b && rest) && y) && z) far

shafts_apart : (n : ℕ) → AllPairs (λ one other. overlaps one other ≡ false) (shafts n)
unfolding shafts
shafts_apart zero = λ i j d before within. absurd (omega arith)
shafts_apart (suc n) =
    AllPairs-cons (λ one other. overlaps one other ≡ false) (shaft_at n) (shafts n)
    (All-from_recursion (λ other. overlaps (shaft_at n) other ≡ false) (shafts n) (all-shafts (λ other. overlaps (shaft_at n) other ≡ false) n (λ k below. apart n k below)))
    (shafts_apart n)

middle : (x z : Bool) → ((x && false) && z) ≡ false
middle true z = refl
middle false z = refl

free_of_block : (n : ℕ) → overlaps (shaft_at n) small_block ≡ false
free_of_block n =
    middle (overlaps_on (pos n) (pos (suc n) +ℤ pos 0) (pos 1) (pos 4000)) (overlaps_on (pos 0) (pos 1 +ℤ pos 1) (pos 300) (pos 32768))

lift_inside : (n : ℕ) → n < 16 → IsThingInside small_map.bounds (lift_at n)
lift_inside n below =
    let thick : int_lt (pos n) (pos (suc n)) ≡ true = grind (arith, ints, nat_tests) in
    let low : int_le (negsuc 16383) (pos n) ≡ true = grind (arith, ints, nat_tests) in
    let high : int_le (pos (suc n)) (pos 16384) ≡ true = grind (arith, ints, nat_tests) in
    let low_up : int_le (negsuc 16383) (pos n +ℤ pos 0) ≡ true = grind (arith, ints, nat_tests) in
    let high_up : int_le (pos (suc n) +ℤ pos 0) (pos 16384) ≡ true = grind (arith, ints, nat_tests) in
    record {
      thing = refl;
      limits = (
        record { x = omega (arith, below); y = omega arith; z = omega arith },
        record { x = omega (arith, below); y = omega arith; z = omega arith },
        omega (arith, ints),
        omega (arith, ints),
        omega (arith, ints),
        omega (arith, ints),
      );
      inside = and_from _ _ (ap (λ b. (b && true) && true) thick) (ap (λ b. (b && true) && true) (and_from _ _ low high));
      stand = refl;
      item = refl;
      travel = ap (λ b. (b && true) && true) (and_from _ _ low_up high_up);
    }

-- ---- the other things

abbrev some_item : MapLine
some_item = Item (record { x = pos 0; y = pos 16384; z = pos 16384 }) Gem 1

abbrev some_teleport : MapLine
some_teleport = Teleport (corner 0 0) (corner 1 1) small_spawn

abbrev some_goal : MapLine
some_goal = Goal (corner 0 0) (corner 1 1)

item_inside : IsThingInside small_map.bounds some_item
item_inside = record {
  thing = refl;
  limits = (record { x = omega arith; y = omega arith; z = omega arith }, refl, omega arith, omega arith);
  inside = refl;
  stand = refl;
  item = refl;
  travel = refl;
}

teleport_inside : IsThingInside small_map.bounds some_teleport
teleport_inside = record {
  thing = refl;
  limits = (
    record { x = omega arith; y = omega arith; z = omega arith },
    record { x = omega arith; y = omega arith; z = omega arith },
    record { x = omega arith; y = omega arith; z = omega arith },
  );
  inside = refl;
  stand = refl;
  item = refl;
  travel = refl;
}

goal_inside : IsThingInside small_map.bounds some_goal
goal_inside = record {
  thing = refl;
  limits = (record { x = omega arith; y = omega arith; z = omega arith }, record { x = omega arith; y = omega arith; z = omega arith });
  inside = refl;
  stand = refl;
  item = refl;
  travel = refl;
}

-- ---- all of them

abbrev boxes : List MapLine
boxes = copies 16 some_teleport ++ (copies 16 some_goal ++ lifts 16)

abbrev most_things : List MapLine
most_things = copies MOST_ITEMS some_item ++ boxes

things-inside : AllByRecursion (IsThingInside small_map.bounds) most_things
things-inside =
    let P : MapLine → Type 0 = IsThingInside small_map.bounds in
    each_of_both P (copies MOST_ITEMS some_item) boxes (all-copies P MOST_ITEMS some_item item_inside)
    (each_of_both P (copies 16 some_teleport) (copies 16 some_goal ++ lifts 16) (all-copies P 16 some_teleport teleport_inside)
    (each_of_both P (copies 16 some_goal) (lifts 16) (all-copies P 16 some_goal goal_inside) (all-lifts P 16 lift_inside)))

-- how many of a kind there are, where so many of each part are
count-things : (p : MapLine → Bool) (i t g l : ℕ) → cond (p some_item) 1 0 ≡ i → cond (p some_teleport) 1 0 ≡ t → cond (p some_goal) 1 0 ≡ g
    → ((k : ℕ) → cond (p (lift_at k)) 1 0 ≡ l) → count_by p most_things ≡ MOST_ITEMS * i + (16 * t + (16 * g + 16 * l))
count-things p i t g l items teleports goals each =
    omega (
      arith,
      count-both p (copies MOST_ITEMS some_item) boxes,
      count-both p (copies 16 some_teleport) (copies 16 some_goal ++ lifts 16),
      count-both p (copies 16 some_goal) (lifts 16),
      count-copies p MOST_ITEMS some_item i items,
      count-copies p 16 some_teleport t teleports,
      count-copies p 16 some_goal g goals,
      count-lifts p 16 l each,
    )

length-things : length most_things ≡ MOST_THINGS
length-things =
    omega (
      arith,
      length-append (copies MOST_ITEMS some_item) boxes,
      length-append (copies 16 some_teleport) (copies 16 some_goal ++ lifts 16),
      length-append (copies 16 some_goal) (lifts 16),
      length-copies MOST_ITEMS some_item,
      length-copies 16 some_teleport,
      length-copies 16 some_goal,
      length-lifts 16,
    )

shafts-of-things : filter_map shaft_of most_things ≡ shafts 16
shafts-of-things =
    filter_map-append shaft_of (copies MOST_ITEMS some_item) boxes
    ∙ ap (λ xs. xs ++ filter_map shaft_of boxes) (no_shafts MOST_ITEMS some_item refl)
    ∙ filter_map-append shaft_of (copies 16 some_teleport) (copies 16 some_goal ++ lifts 16)
    ∙ ap (λ xs. xs ++ filter_map shaft_of (copies 16 some_goal ++ lifts 16)) (no_shafts 16 some_teleport refl)
    ∙ filter_map-append shaft_of (copies 16 some_goal) (lifts 16)
    ∙ ap (λ xs. xs ++ filter_map shaft_of (lifts 16)) (no_shafts 16 some_goal refl)
    ∙ shafts-are 16

-- the least arena, as many blocks, spawns and things as there may be, a line that names the depth, one that lets players
-- shoot and one that says how many blocks there may be
longest_map : MapView
longest_map =
    map_of small_map.bounds (copies 4096 small_block) (copies 64 small_spawn) most_things (record { depth = DEFAULT_DEPTH; names_depth = true; shots = true; most_blocks = MOST_BLOCKS; names_blocks = true })

-- as many frames as there may be, each with as many packets as it may have, all of them the same
longest_frames : List (List Arrival)
longest_frames = copies 100000 (copies 512 small_arrival)

longest_is_map : IsMap longest_map
unfolding longest_map
longest_is_map = record {
  is_box = small_is_map.is_box;
  lo = small_is_map.lo;
  hi = small_is_map.hi;
  wide = small_is_map.wide;
  blocks = All-from_recursion (IsBlock small_map.bounds) (copies 4096 small_block) (all-copies (IsBlock small_map.bounds) 4096 small_block small_block_is);
  few_blocks = omega (arith, length-copies 4096 small_block);
  spawns = All-from_recursion (IsSpawn small_map.bounds) (copies 64 small_spawn) (all-copies (IsSpawn small_map.bounds) 64 small_spawn small_spawn_is);
  few_spawns = omega (arith, length-copies 64 small_spawn);
  things = All-from_recursion (IsThingInside small_map.bounds) most_things things-inside;
  few_items = omega (arith, count-things is_item_line 1 0 0 0 refl refl refl (λ k. refl));
  few_teleporters = omega (arith, count-things is_teleport_line 0 1 0 0 refl refl refl (λ k. refl));
  few_goals = omega (arith, count-things is_goal_line 0 0 1 0 refl refl refl (λ k. refl));
  few_lifts = omega (arith, count-things is_lift_line 0 0 0 1 refl refl refl (λ k. refl));
  clear_shafts = subst (All (λ s. is_blocked s (copies 4096 small_block) ≡ false)) (sym shafts-of-things)
      (All-from_recursion (λ s. is_blocked s (copies 4096 small_block) ≡ false) (shafts 16)
      (all-shafts (λ s. is_blocked s (copies 4096 small_block) ≡ false) 16 (λ k below. free-copies 4096 (shaft_at k) small_block (free_of_block k))));
  shafts_apart = subst (AllPairs (λ one other. overlaps one other ≡ false)) (sym shafts-of-things) (shafts_apart 16);
  depth = record { least = omega arith; most = omega arith };
  few_depth_lines = omega arith;
  default_depth = λ none. refl;
  shots_line = refl;
  limit = record {
    range = record { least = omega arith; most = omega arith };
    few_lines = omega arith;
    default = λ none. absurd (omega (arith, none));
    first = refl;
  };
}

frame_is : IsFrame (copies 512 small_arrival)
frame_is = record { few = omega (arith, length-copies 512 small_arrival); each = all-copies IsArrival 512 small_arrival small_arrival_is }

ready : nat_lt 0 (length (copies 64 small_spawn)) ≡ true
ready = let many = length-copies 64 small_spawn in grind (arith, nat_tests)

longest_is : IsRecording longest_map longest_frames
unfolding longest_map longest_frames
longest_is = record {
  is_map = longest_is_map;
  few = omega (arith, length-copies 100000 (copies 512 small_arrival));
  each = all-copies IsFrame 100000 (copies 512 small_arrival) frame_is;
  spawn = λ h. ready;
}

longest_lines : length (recording_lines longest_map longest_frames) ≡ most_lines
unfolding longest_map longest_frames
longest_lines =
    let frames = flat_map frame_lines longest_frames in
    let spawns = map spawn_line (copies 64 small_spawn) in
    let blocks = map block_line (copies 4096 small_block) in
    let things = map OfMap most_things in
    omega (
      arith,
      length-append (map_lines longest_map) (frames ++ End ∷ []),
      length-append frames (End ∷ []),
      length-flat_map-copies frame_lines 100000 (copies 512 small_arrival),
      length-map (copies 512 small_arrival) From,
      length-copies 512 small_arrival,
      length-append (setting_lines longest_map) (spawns ++ (blocks ++ things)),
      length-append spawns (blocks ++ things),
      length-append blocks things,
      length-map (copies 64 small_spawn) spawn_line,
      length-copies 64 small_spawn,
      length-map (copies 4096 small_block) block_line,
      length-copies 4096 small_block,
      length-map most_things OfMap,
      length-things,
    )

pub lines_are_bounded : LinesAreBounded
lines_are_bounded = record {
  bound = lines_bounded;
  longest = record { map = longest_map; frames = longest_frames; is = longest_is; lines = longest_lines };
}
