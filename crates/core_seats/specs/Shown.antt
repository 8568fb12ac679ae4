-- What doesn't change in the core of the code, as the definitions have it.
use Rattle.std.specs.Prelude.{◌≡◌, ◌<◌, ◌≤◌, ℕ, true, All, nat_le, List, length, drop, filter, map}
use Rattle.areanode.specs.Words.{has_bit}
use Rattle.areanode.specs.Trees.{TreeView, IsTreeDepth}
use Rattle.areanode.specs.declared.sizes.TheConstants.{MOST_LEAVES}
use Rattle.entity_recs.specs.declared.rec.Rec.{Rec}
use Rattle.entity_recs.specs.Worlds.{world_of}
use Rattle.entity_recs.specs.Actions.{Meaning}
use Rattle.core_steps.specs.Nodes.{Fixed, has, inner_nodes}
use Rattle.core_steps.specs.Stands.{IsStart}
use Rattle.arena_geo.specs.Bounds.{Bounds}
use Rattle.arena_geo.specs.Boxes.{contains}
use Rattle.box_strips.specs.Strips.{StripsView, IsIndexOf}
use Rattle.entity_recs.specs.Bodies.{abs_of}

-- an action, the tree, and the records of the world at the start
pub record RulesView (A : Type 0) : Type 0 where
  pub action : A
  pub tree : TreeView
  pub start : List Rec

-- what doesn't change, of an action with this meaning
abbrev pub fixed_of : {A : Type 0} → (A → Meaning) → RulesView A → Fixed
fixed_of meaning rules = record {
  takes = (meaning rules.action).takes;
  region_of = (meaning rules.action).region_of;
  effect_of = (meaning rules.action).effect_of;
  tree = rules.tree;
  start = world_of rules.start;
}

-- the tree has a depth that it may have, and the action takes the records of the start, whose ids rise
pub record IsRuled (F : Fixed) : Type 0 where
  pub depth : IsTreeDepth F.tree.depth
  pub start : IsStart F

-- the same, with the first leaf's node, the slots of the live players as the bits of a word, and the things of the map
-- from a place on, with their absolute boxes, a box in which these lie, and an index of them
pub record IsRuledWith (F : Fixed) (records : List Rec) (leaf bits first : ℕ) (boxes : List Bounds) (area : Bounds) (index : StripsView) :
    Type 0 where
  pub depth : IsTreeDepth F.tree.depth
  pub start : IsStart F
  pub leaf_is : leaf ≡ inner_nodes F
  pub leaf_few : leaf < MOST_LEAVES
  pub slots : (slot : ℕ) → slot < 64 → has_bit bits slot ≡ has F.start.ids slot
  pub fits : first ≤ length records
  pub things : drop first records ≡ filter (λ (r : Rec). nat_le 64 r.id) records
  pub boxed : boxes ≡ map abs_of (drop first records)
  pub around : All (λ b. contains area b ≡ true) boxes
  pub placed : IsIndexOf index boxes
