-- That the rule that a line breaks is the first one that the map with it breaks.
use Rattle.std.proofs.Common.{◌≡◌, ℕ, ◌+◌, ◌-◌, ◌<◌, ◌≤◌, ◌==◌, Bool, true, false, if◌then◌else◌, ◌∷◌, Option, Some, None, All, get_or, refl, sym, ap, ◌∙◌, subst, arith, length-append, []}
use Rattle.std.proofs.lemmas.Bool.{eqb-true, ltb-true, not-true}
use Rattle.std.proofs.lemmas.Bool.Decides.{nat_tests}
use Rattle.std.proofs.lemmas.List.Elements.{All-from_recursion, filter_map-append}
use Rattle.arena_geo.specs.declared.vec3.Vec3.{Vec3}
use Rattle.arena_geo.specs.Bounds.{bounds}
use Rattle.arena_geo.specs.Boxes.{is_blocked}
use Rattle.arena_map.specs.declared.limits.TheConstants.{MOST_BOXES, MOST_ITEMS}
use Rattle.arena_map.specs.declared.map_fault.MapFault.{MapFault}
use Rattle.arena_map.specs.declared.map_fault.MapFault.TheVariants as fault
use Rattle.arena_map.specs.declared.map_line.MapLine.{MapLine}
use Rattle.arena_map.specs.declared.map_line.MapLine.TheVariants.{Arena, Block, Spawn, Item, Teleport, Goal, Lift, Depth, Shots, Blocks}
use Rattle.arena_map.specs.Faults.{number_of}
use Rattle.arena_map.specs.MapLines.{is_item_line, is_teleport_line, is_goal_line, is_lift_line}
use Rattle.arena_map.specs.Positions.{is_wide, is_box_inside, is_player_inside, shaft_of, keeps_box, keeps_stand, keeps_item, keeps_travel}
use Rattle.arena_map.specs.Maps.{MapView, shafts_of, IsMap}
use Rattle.arena_map.specs.Rules.{broken_by_arena, bare_map, broken_rule, with_block, with_spawn, with_thing, with_depth, with_shots, with_limit, with_line}
use Rattle.arena_map.specs.KeptRules.{KeepsRule, IsFirstBroken}
use Rattle.arena_map.proofs.Keeping.{all-push, first_broken, clear-more, few-more, item-room, teleporter-room, goal-room, lift-room, HasShafts, shafts-more, first-line, first-limit}
use Rattle.arena_map.proofs.Breaking.{passes, line-passes, map-keeps}

true-false : true ≡ false → ⊥
true-false h = cc

-- ---- what a line keeps the map with it keeps

-- the map keeps each rule
KeepsEach : MapView → Type 0
KeepsEach map = (rule : MapFault) → KeepsRule map rule

block-keeps : (map : MapView) (lo hi : Vec3) → KeepsEach map → (rule : MapFault) → passes map (Block lo hi) rule ≡ true → KeepsRule (with_block map (bounds lo hi)) rule
unfolding KeepsEach
block-keeps map lo hi is fault.Arena pass = is fault.Arena
block-keeps map lo hi is fault.Box pass =
    let kept = is fault.Box in
    (all-push (λ block. is_box_inside map.bounds block.lo block.hi ≡ true) map.blocks (bounds lo hi) kept.0 pass, kept.1)
block-keeps map lo hi is fault.Count pass =
    let kept = is fault.Count in
    record {
      blocks = omega (arith, ltb-true _ _ pass, length-append map.blocks (bounds lo hi ∷ []));
      spawns = kept.spawns;
      items = kept.items;
      teleporters = kept.teleporters;
      goals = kept.goals;
      lifts = kept.lifts;
      depth_lines = kept.depth_lines;
      shots_lines = kept.shots_lines;
      limit_lines = kept.limit_lines;
      early_blocks = kept.early_blocks;
    }
block-keeps map lo hi is fault.Stand pass = is fault.Stand
block-keeps map lo hi is fault.Item pass = is fault.Item
block-keeps map lo hi is fault.Travel pass = is fault.Travel
block-keeps map lo hi is fault.NoSpawn pass = tt
block-keeps map lo hi is fault.Shaft pass =
    let kept = is fault.Shaft in
    record { clear = clear-more (shafts_of map) map.blocks (bounds lo hi) kept.clear (not-true _ pass); apart = kept.apart }

spawn-keeps : (map : MapView) (at : Vec3) → KeepsEach map → (rule : MapFault) → passes map (Spawn at) rule ≡ true → KeepsRule (with_spawn map at) rule
unfolding KeepsEach
spawn-keeps map at is fault.Arena pass = is fault.Arena
spawn-keeps map at is fault.Box pass = is fault.Box
spawn-keeps map at is fault.Count pass =
    let kept = is fault.Count in
    record {
      blocks = kept.blocks;
      spawns = omega (arith, ltb-true _ _ pass, length-append map.spawns (at ∷ []));
      items = kept.items;
      teleporters = kept.teleporters;
      goals = kept.goals;
      lifts = kept.lifts;
      depth_lines = kept.depth_lines;
      shots_lines = kept.shots_lines;
      limit_lines = kept.limit_lines;
      early_blocks = kept.early_blocks;
    }
spawn-keeps map at is fault.Stand pass = let kept = is fault.Stand in (all-push (λ at. is_player_inside map.bounds at ≡ true) map.spawns at kept.0 pass, kept.1)
spawn-keeps map at is fault.Item pass = is fault.Item
spawn-keeps map at is fault.Travel pass = is fault.Travel
spawn-keeps map at is fault.NoSpawn pass = tt
spawn-keeps map at is fault.Shaft pass = let kept = is fault.Shaft in record { clear = kept.clear; apart = kept.apart }

thing-keeps : (map : MapView) (line : MapLine) → KeepsEach map → (rule : MapFault) → passes map line rule ≡ true → KeepsRule (with_thing map line) rule
unfolding KeepsEach
thing-keeps map line is fault.Arena pass = is fault.Arena
thing-keeps map line is fault.Box pass = let kept = is fault.Box in (kept.0, all-push (λ l. keeps_box map.bounds l ≡ true) map.things line kept.1 pass)
thing-keeps map line is fault.Count pass =
    let kept = is fault.Count in
    record {
      blocks = kept.blocks;
      spawns = kept.spawns;
      items = few-more is_item_line MOST_ITEMS map.things line kept.items (item-room map line pass);
      teleporters = few-more is_teleport_line MOST_BOXES map.things line kept.teleporters (teleporter-room map line pass);
      goals = few-more is_goal_line MOST_BOXES map.things line kept.goals (goal-room map line pass);
      lifts = few-more is_lift_line MOST_BOXES map.things line kept.lifts (lift-room map line pass);
      depth_lines = kept.depth_lines;
      shots_lines = kept.shots_lines;
      limit_lines = kept.limit_lines;
      early_blocks = kept.early_blocks;
    }
thing-keeps map line is fault.Stand pass = let kept = is fault.Stand in (kept.0, all-push (λ l. keeps_stand map.bounds l ≡ true) map.things line kept.1 pass)
thing-keeps map line is fault.Item pass = all-push (λ l. keeps_item map.bounds l ≡ true) map.things line (is fault.Item) pass
thing-keeps map line is fault.Travel pass = all-push (λ l. keeps_travel map.bounds l ≡ true) map.things line (is fault.Travel) pass
thing-keeps map line is fault.NoSpawn pass = tt
thing-keeps map line is fault.Shaft pass =
    let kept = is fault.Shaft in
    let more = shafts-more map line (record { clear = kept.clear; apart = kept.apart }) pass in
    let has = subst (HasShafts map.blocks) (sym (filter_map-append shaft_of map.things (line ∷ []))) more in
    record { clear = has.clear; apart = has.apart }

depth-keeps : (map : MapView) (depth : ℕ) → KeepsEach map → (rule : MapFault) → passes map (Depth depth) rule ≡ true → KeepsRule (with_depth map depth) rule
unfolding KeepsEach
depth-keeps map depth is fault.Arena pass = is fault.Arena
depth-keeps map depth is fault.Box pass = is fault.Box
depth-keeps map depth is fault.Count pass =
    let kept = is fault.Count in
    record {
      blocks = kept.blocks;
      spawns = kept.spawns;
      items = kept.items;
      teleporters = kept.teleporters;
      goals = kept.goals;
      lifts = kept.lifts;
      depth_lines = first-line map.depth_lines pass;
      shots_lines = kept.shots_lines;
      limit_lines = kept.limit_lines;
      early_blocks = kept.early_blocks;
    }
depth-keeps map depth is fault.Stand pass = is fault.Stand
depth-keeps map depth is fault.Item pass = is fault.Item
depth-keeps map depth is fault.Travel pass = is fault.Travel
depth-keeps map depth is fault.NoSpawn pass = tt
depth-keeps map depth is fault.Shaft pass = let kept = is fault.Shaft in record { clear = kept.clear; apart = kept.apart }

shots-keeps : (map : MapView) → KeepsEach map → (rule : MapFault) → passes map Shots rule ≡ true → KeepsRule (with_shots map) rule
unfolding KeepsEach
shots-keeps map is fault.Arena pass = is fault.Arena
shots-keeps map is fault.Box pass = is fault.Box
shots-keeps map is fault.Count pass =
    let kept = is fault.Count in
    record {
      blocks = kept.blocks;
      spawns = kept.spawns;
      items = kept.items;
      teleporters = kept.teleporters;
      goals = kept.goals;
      lifts = kept.lifts;
      depth_lines = kept.depth_lines;
      shots_lines = first-line map.shots_lines pass;
      limit_lines = kept.limit_lines;
      early_blocks = kept.early_blocks;
    }
shots-keeps map is fault.Stand pass = is fault.Stand
shots-keeps map is fault.Item pass = is fault.Item
shots-keeps map is fault.Travel pass = is fault.Travel
shots-keeps map is fault.NoSpawn pass = tt
shots-keeps map is fault.Shaft pass = let kept = is fault.Shaft in record { clear = kept.clear; apart = kept.apart }

limit-keeps : (map : MapView) (most : ℕ) → KeepsEach map → (rule : MapFault) → passes map (Blocks most) rule ≡ true → KeepsRule (with_limit map most) rule
unfolding KeepsEach
limit-keeps map most is fault.Arena pass = is fault.Arena
limit-keeps map most is fault.Box pass = is fault.Box
limit-keeps map most is fault.Count pass =
    let kept = is fault.Count in
    let first = first-limit map pass in
    record {
      blocks = omega (arith, first.no_block);
      spawns = kept.spawns;
      items = kept.items;
      teleporters = kept.teleporters;
      goals = kept.goals;
      lifts = kept.lifts;
      depth_lines = kept.depth_lines;
      shots_lines = kept.shots_lines;
      limit_lines = omega (arith, first.no_line);
      early_blocks = omega (arith, first.no_block, kept.early_blocks);
    }
limit-keeps map most is fault.Stand pass = is fault.Stand
limit-keeps map most is fault.Item pass = is fault.Item
limit-keeps map most is fault.Travel pass = is fault.Travel
limit-keeps map most is fault.NoSpawn pass = tt
limit-keeps map most is fault.Shaft pass = let kept = is fault.Shaft in record { clear = kept.clear; apart = kept.apart }

-- the map with a line keeps each rule whose test the line passes, where the map keeps all
line-keeps : (map : MapView) (line : MapLine) → KeepsEach map → (rule : MapFault) → passes map line rule ≡ true → KeepsRule (with_line map line) rule
unfolding KeepsEach
line-keeps map (Arena lo hi) is rule pass = is rule
line-keeps map (Block lo hi) is rule pass = block-keeps map lo hi is rule pass
line-keeps map (Spawn at) is rule pass = spawn-keeps map at is rule pass
line-keeps map (Item at kind delay) is rule pass = thing-keeps map (Item at kind delay) is rule pass
line-keeps map (Teleport lo hi dest) is rule pass = thing-keeps map (Teleport lo hi dest) is rule pass
line-keeps map (Goal lo hi) is rule pass = thing-keeps map (Goal lo hi) is rule pass
line-keeps map (Lift lo hi rise speed) is rule pass = thing-keeps map (Lift lo hi rise speed) is rule pass
line-keeps map (Depth depth) is rule pass = depth-keeps map depth is rule pass
line-keeps map Shots is rule pass = shots-keeps map is rule pass
line-keeps map (Blocks most) is rule pass = limit-keeps map most is rule pass

-- ---- the rules in their order

number-least : (rule : MapFault) → 1 ≤ number_of rule
number-least fault.Arena = omega arith
number-least fault.Box = omega arith
number-least fault.Count = omega arith
number-least fault.Stand = omega arith
number-least fault.Item = omega arith
number-least fault.Travel = omega arith
number-least fault.NoSpawn = omega arith
number-least fault.Shaft = omega arith

-- the rule with this number
rule_at : ℕ → MapFault
rule_at n = get_or (fault.Arena ∷ fault.Box ∷ fault.Count ∷ fault.Stand ∷ fault.Item ∷ fault.Travel ∷ fault.NoSpawn ∷ fault.Shaft ∷ []) (n - 1) fault.Arena

rule-back : (rule : MapFault) → rule_at (number_of rule) ≡ rule
unfolding rule_at
rule-back fault.Arena = refl
rule-back fault.Box = refl
rule-back fault.Count = refl
rule-back fault.Stand = refl
rule-back fault.Item = refl
rule-back fault.Travel = refl
rule-back fault.NoSpawn = refl
rule-back fault.Shaft = refl

same-rule : (one other : MapFault) → number_of one ≡ number_of other → one ≡ other
same-rule one other e = sym (rule-back one) ∙ ap rule_at e ∙ rule-back other

-- the answer of a row of tests, one for each rule
module _ (test : MapFault → Bool) (arena : test fault.Arena ≡ true) (no_spawn : test fault.NoSpawn ≡ true) where
  pub answer : Option MapFault
  answer = first_broken (test fault.Box) (test fault.Count) (test fault.Stand) (test fault.Item) (test fault.Travel) (test fault.Shaft)

  -- each test of a rule with a lower number is passed
  pub PassesBelow : ℕ → Type 0
  PassesBelow n = (other : MapFault) → number_of other < n → test other ≡ true

  -- the first test that isn't passed is that of this rule
  pub record IsFirst (rule : MapFault) : Type 0 where
    pub fails : test rule ≡ false
    pub below : PassesBelow (number_of rule)

  below-more : (rule : MapFault) → PassesBelow (number_of rule) → test rule ≡ true → PassesBelow (number_of rule + 1)
  unfolding PassesBelow
  below-more rule below pass other less = by (number_of other == number_of rule) refl
    where
      by : (same : Bool) → (number_of other == number_of rule) ≡ same → test other ≡ true
      by true e = subst (λ r. test r ≡ true) (same-rule rule other (sym (eqb-true (number_of other) (number_of rule) e))) pass
      by false e = below other (grind (arith, nat_tests))

  some-is : (one other : MapFault) → Some one ≡ Some other → one ≡ other
  some-is one other e = cc

  pub answer-first : (rule : MapFault) → answer ≡ Some rule → IsFirst rule
  unfolding answer PassesBelow
  answer-first rule is =
      by (test fault.Box) (test fault.Count) (test fault.Stand) (test fault.Item) (test fault.Travel) (test fault.Shaft) refl refl refl refl refl refl is
    where
      first : (one : MapFault) → Some one ≡ Some rule → test one ≡ false → PassesBelow (number_of one) → IsFirst rule
      first one e fails below = subst IsFirst (some-is one rule e) (record { fails = fails; below = below })

      box : PassesBelow (number_of fault.Box)
      box = below-more fault.Arena (λ other less. absurd (omega (arith, less, number-least other))) arena

      count : test fault.Box ≡ true → PassesBelow (number_of fault.Count)
      count p = below-more fault.Box box p

      stand : test fault.Box ≡ true → test fault.Count ≡ true → PassesBelow (number_of fault.Stand)
      stand p q = below-more fault.Count (count p) q

      item : test fault.Box ≡ true → test fault.Count ≡ true → test fault.Stand ≡ true → PassesBelow (number_of fault.Item)
      item p q r = below-more fault.Stand (stand p q) r

      travel : test fault.Box ≡ true → test fault.Count ≡ true → test fault.Stand ≡ true → test fault.Item ≡ true → PassesBelow (number_of fault.Travel)
      travel p q r s = below-more fault.Item (item p q r) s

      shaft : test fault.Box ≡ true → test fault.Count ≡ true → test fault.Stand ≡ true → test fault.Item ≡ true → test fault.Travel ≡ true → PassesBelow (number_of fault.Shaft)
      shaft p q r s t = below-more fault.NoSpawn (below-more fault.Travel (travel p q r s) t) no_spawn

      by : (a b c d e f : Bool) → test fault.Box ≡ a → test fault.Count ≡ b → test fault.Stand ≡ c → test fault.Item ≡ d → test fault.Travel ≡ e → test fault.Shaft ≡ f
          → first_broken a b c d e f ≡ Some rule → IsFirst rule
      by false b c d e f p q r s t u h = first fault.Box h p box
      by true false c d e f p q r s t u h = first fault.Count h q (count p)
      by true true false d e f p q r s t u h = first fault.Stand h r (stand p q)
      by true true true false e f p q r s t u h = first fault.Item h s (item p q r)
      by true true true true false f p q r s t u h = first fault.Travel h t (travel p q r s)
      by true true true true true false p q r s t u h = first fault.Shaft h u (shaft p q r s t)
      by true true true true true true p q r s t u h = cc

  pub first-answer : (rule : MapFault) → IsFirst rule → answer ≡ Some rule
  unfolding answer PassesBelow
  first-answer fault.Arena is = absurd (true-false (sym arena ∙ is.fails))
  first-answer fault.Box is = λ i. first_broken (is.fails i) (test fault.Count) (test fault.Stand) (test fault.Item) (test fault.Travel) (test fault.Shaft)
  first-answer fault.Count is = λ i. first_broken (is.below fault.Box (omega arith) i) (is.fails i) (test fault.Stand) (test fault.Item) (test fault.Travel) (test fault.Shaft)
  first-answer fault.Stand is =
      λ i. first_broken (is.below fault.Box (omega arith) i) (is.below fault.Count (omega arith) i) (is.fails i) (test fault.Item) (test fault.Travel) (test fault.Shaft)
  first-answer fault.Item is =
      λ i. first_broken (is.below fault.Box (omega arith) i) (is.below fault.Count (omega arith) i) (is.below fault.Stand (omega arith) i) (is.fails i) (test fault.Travel) (test fault.Shaft)
  first-answer fault.Travel is =
      λ i. first_broken (is.below fault.Box (omega arith) i) (is.below fault.Count (omega arith) i) (is.below fault.Stand (omega arith) i) (is.below fault.Item (omega arith) i) (is.fails i) (test fault.Shaft)
  first-answer fault.NoSpawn is = absurd (true-false (sym no_spawn ∙ is.fails))
  first-answer fault.Shaft is =
      λ i. first_broken (is.below fault.Box (omega arith) i) (is.below fault.Count (omega arith) i) (is.below fault.Stand (omega arith) i) (is.below fault.Item (omega arith) i) (is.below fault.Travel (omega arith) i) (is.fails i)

-- ---- lines that are added

fails-where : (P : Type 0) (b : Bool) → (b ≡ true → P) → (P → ⊥) → b ≡ false
fails-where P true holds none = absurd (none (holds refl))
fails-where P false holds none = refl

pub added-first : (map : MapView) (line : MapLine) (rule : MapFault) → IsMap map → broken_rule map line ≡ Some rule → IsFirstBroken (with_line map line) rule
unfolding answer PassesBelow KeepsEach
added-first map line rule is broken =
    let first = answer-first (passes map line) refl refl rule broken in
    record {
      broken = λ keeps. true-false (sym (line-passes map line rule keeps) ∙ first.fails);
      earlier = λ other less. line-keeps map line (map-keeps map is) other (first.below other less);
    }

pub first-added : (map : MapView) (line : MapLine) (rule : MapFault) → IsMap map → IsFirstBroken (with_line map line) rule → broken_rule map line ≡ Some rule
unfolding answer PassesBelow KeepsEach
first-added map line rule is first =
    first-answer (passes map line) refl refl rule (record {
      fails = fails-where (KeepsRule (with_line map line) rule) (passes map line rule) (line-keeps map line (map-keeps map is) rule) first.broken;
      below = λ other less. line-passes map line other (first.earlier other less);
    })

-- ---- the arena

pub begun-first : (lo hi : Vec3) (rule : MapFault) → broken_by_arena lo hi ≡ Some rule → IsFirstBroken (bare_map lo hi) rule
begun-first lo hi rule broken = by (is_wide lo hi) refl broken
  where
    arena : is_wide lo hi ≡ false → IsFirstBroken (bare_map lo hi) fault.Arena
    arena e = record {
      broken = λ wide. true-false (sym wide ∙ e);
      earlier = λ other less. absurd (omega (arith, less, number-least other));
    }

    same : Some fault.Arena ≡ Some rule → fault.Arena ≡ rule
    same e = cc

    by : (wide : Bool) → is_wide lo hi ≡ wide → (if wide then None else Some fault.Arena) ≡ Some rule → IsFirstBroken (bare_map lo hi) rule
    by true e h = cc
    by false e h = subst (IsFirstBroken (bare_map lo hi)) (same h) (arena e)

-- a map with nothing in it keeps each rule on what is in it
none-in : {X : Type 0} (P : X → Type 0) → All P []
none-in P = All-from_recursion P [] tt

pub first-begun : (lo hi : Vec3) (rule : MapFault) → IsFirstBroken (bare_map lo hi) rule → broken_by_arena lo hi ≡ Some rule
first-begun lo hi fault.Arena first = ap (λ (wide : Bool). if wide then None else Some fault.Arena) (fails-where (is_wide lo hi ≡ true) (is_wide lo hi) (λ e. e) first.broken)
first-begun lo hi fault.Box first = absurd (first.broken (none-in (λ block. is_box_inside (bounds lo hi) block.lo block.hi ≡ true), none-in (λ line. keeps_box (bounds lo hi) line ≡ true)))
first-begun lo hi fault.Count first =
    absurd (first.broken (record { blocks = omega arith; spawns = omega arith; items = omega arith; teleporters = omega arith; goals = omega arith; lifts = omega arith; depth_lines = omega arith; shots_lines = omega arith; limit_lines = omega arith; early_blocks = refl }))
first-begun lo hi fault.Stand first = absurd (first.broken (none-in (λ at. is_player_inside (bounds lo hi) at ≡ true), none-in (λ line. keeps_stand (bounds lo hi) line ≡ true)))
first-begun lo hi fault.Item first = absurd (first.broken (none-in (λ line. keeps_item (bounds lo hi) line ≡ true)))
first-begun lo hi fault.Travel first = absurd (first.broken (none-in (λ line. keeps_travel (bounds lo hi) line ≡ true)))
first-begun lo hi fault.NoSpawn first = absurd (first.broken tt)
first-begun lo hi fault.Shaft first =
    absurd (first.broken (record { clear = none-in (λ shaft. is_blocked shaft [] ≡ false); apart = λ i j d lt within. absurd (omega (arith, within)) }))
