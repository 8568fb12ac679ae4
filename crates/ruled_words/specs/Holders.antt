-- Who holds a node that a seat was to take.
use Rattle.std.specs.Prelude.{◌≡◌, ◌≢◌, ℕ, ◌-◌, ◌%◌, ◌<◌, true, false, Some}
use Rattle.core_steps.specs.declared.sizes.TheConstants.{MOST_SEATS}
use Rattle.areanode.specs.Words.{has_bit}
use Rattle.areanode.specs.Trees.{leaves_of}
use Rattle.core_steps.specs.Nodes.{Fixed, inner_nodes, is_leaf, leaf_nodes}
use Rattle.core_steps.specs.Points.{stage_of}
use Rattle.core_steps.specs.Reads.{View, region_in}
use Rattle.core_steps.specs.Held.{holds, held_word}
use Rattle.core_steps.specs.Nodes.{inner_visited, has}
use Rattle.core_steps.specs.Stands.{IsGiven}
use Rattle.core_steps.specs.Machine.{Next}
use Rattle.core_steps.specs.Calls.{node_taken}

-- another seat than that with this number holds the node, and the word is that of the node while it does: the seat's
-- number, its view, its command, of a slot that it serves, and the leaves that it wants, one of which the node is if it
-- is a leaf
pub record IsHeldByOther (F : Fixed) (passes number node word : ℕ) : Type 0 where
  pub holder : ℕ
  pub other : holder ≢ number
  pub below : holder < passes
  pub small : holder < MOST_SEATS
  pub view : View
  pub given : IsGiven F view.cmd
  pub serves : view.cmd.slot % passes ≡ holder
  pub held : holds F view.point view.wanted node ≡ true
  pub wanted : view.wanted ≡ leaf_nodes F (region_in F view.cmd view.own)
  pub has_leaf : is_leaf F node ≡ true
      → has_bit (leaves_of F.tree (region_in F view.cmd view.own)) (node - inner_nodes F) ≡ true
  pub is_word : word ≡ held_word F holder (stage_of view.point) view.wanted node

-- where the step takes a node, and this word was found, which isn't 0, another seat holds that node
abbrev pub IsFoundHeld : Fixed → ℕ → ℕ → Next → ℕ → Type 0
IsFoundHeld F passes number next found = (node : ℕ) → node_taken next ≡ Some node → found ≢ 0
    → IsHeldByOther F passes number node found

-- another pass than that with the number `own` has this number, and a view in which it holds the node, and the word is
-- that of the node while it does: its command is of a slot that it serves, and for a leaf the leaves are those of the
-- command, by what was loaded of its own record, with this leaf
pub record IsOtherHolder (F : Fixed) (passes own node word number leaves : ℕ) : Type 0 where
  pub other : number ≢ own
  pub below : number < passes
  pub view : View
  pub given : IsGiven F view.cmd
  pub serves : view.cmd.slot % passes ≡ number
  pub held : holds F view.point view.wanted node ≡ true
  pub wanted : view.wanted ≡ leaf_nodes F (region_in F view.cmd view.own)
  pub is_word : word ≡ held_word F number (stage_of view.point) view.wanted node
  pub are_leaves : is_leaf F node ≡ true → leaves ≡ leaves_of F.tree (region_in F view.cmd view.own)
  pub has_leaf : is_leaf F node ≡ true → has_bit leaves (node - inner_nodes F) ≡ true

-- the node that this seat takes next is one of the leaves that it wants, or an inner node that they visit
pub record IsReached (F : Fixed) (view : View) (node : ℕ) : Type 0 where
  pub wanted : view.wanted ≡ leaf_nodes F (region_in F view.cmd view.own)
  pub is_wanted : is_leaf F node ≡ true → has view.wanted node ≡ true
  pub is_visited : is_leaf F node ≡ false → has (inner_visited F (region_in F view.cmd view.own)) node ≡ true

-- the same of the node that a step takes, if it takes one
abbrev pub AreReached : Fixed → View → Next → Type 0
AreReached F view next = (node : ℕ) → node_taken next ≡ Some node → IsReached F view node

-- what a step finds of the node that it takes, if it takes one: where the word isn't 0 another seat holds the node, and
-- the node is one that the seat's command reaches
pub record IsFoundNode (F : Fixed) (passes number : ℕ) (view : View) (next : Next) (found : ℕ) : Type 0 where
  pub held : IsFoundHeld F passes number next found
  pub reached : AreReached F view next
