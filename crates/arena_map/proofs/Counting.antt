-- How many things of each kind a map has.
use Rattle.std.proofs.Common.{◌≡◌, ◌+◌, true, List, [], ◌∷◌, length, filter_map, count_by, Bool, cond, refl, arith}
use Rattle.std.specs.List.{AllByRecursion}
use Rattle.std.proofs.lemmas.List.Sums.{sum_by-cons}
use Rattle.arena_map.specs.declared.map_line.MapLine.{MapLine}
use Rattle.arena_map.specs.declared.map_line.MapLine.TheVariants.{Arena, Block, Spawn, Item, Teleport, Goal, Lift, Depth, Shots, Blocks}
use Rattle.arena_map.specs.MapLines.{is_thing_line, is_item_line, is_teleport_line, is_goal_line, is_lift_line}
use Rattle.arena_map.specs.Positions.{shaft_of}

-- one element more is counted where it passes
pub count-cons : (p : MapLine → Bool) (line : MapLine) (lines : List MapLine) → count_by p (line ∷ lines) ≡ cond (p line) 1 0 + count_by p lines
count-cons p line lines = sum_by-cons (λ l. cond (p l) 1 0) line lines

-- there are as many shafts as lifts
pub shafts-count : (things : List MapLine) → length (filter_map shaft_of things) ≡ count_by is_lift_line things
shafts-count [] = refl
shafts-count (Arena lo hi ∷ things) = shafts-count things
shafts-count (Block lo hi ∷ things) = shafts-count things
shafts-count (Spawn at ∷ things) = shafts-count things
shafts-count (Item at kind delay ∷ things) = shafts-count things
shafts-count (Teleport lo hi dest ∷ things) = shafts-count things
shafts-count (Goal lo hi ∷ things) = shafts-count things
shafts-count (Depth depth ∷ things) = shafts-count things
shafts-count (Shots ∷ things) = shafts-count things
shafts-count (Blocks most ∷ things) = shafts-count things
shafts-count (Lift lo hi rise speed ∷ things) = let more = shafts-count things in omega (arith, more, count-cons is_lift_line (Lift lo hi rise speed) things)

-- each thing is an item, a teleporter, a goal or a lift
pub all-counted : (things : List MapLine) → AllByRecursion (λ line. is_thing_line line ≡ true) things
    → length things ≡ count_by is_item_line things + count_by is_teleport_line things + count_by is_goal_line things + count_by is_lift_line things
all-counted [] each = refl
all-counted (Arena lo hi ∷ things) each = cc
all-counted (Block lo hi ∷ things) each = cc
all-counted (Spawn at ∷ things) each = cc
all-counted (Depth depth ∷ things) each = cc
all-counted (Shots ∷ things) each = cc
all-counted (Blocks most ∷ things) each = cc
all-counted (Item at kind delay ∷ things) each = let more = all-counted things each.1 in omega (arith, more, count-cons is_item_line (Item at kind delay) things)
all-counted (Teleport lo hi dest ∷ things) each = let more = all-counted things each.1 in omega (arith, more, count-cons is_teleport_line (Teleport lo hi dest) things)
all-counted (Goal lo hi ∷ things) each = let more = all-counted things each.1 in omega (arith, more, count-cons is_goal_line (Goal lo hi) things)
all-counted (Lift lo hi rise speed ∷ things) each = let more = all-counted things each.1 in omega (arith, more, count-cons is_lift_line (Lift lo hi rise speed) things)
