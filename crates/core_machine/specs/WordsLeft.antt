-- The word that a seat's next step leaves, by the kind of the step.
use Rattle.std.specs.Prelude.{ℕ, suc, ◌≡◌, ◌≤◌, ◌<◌, ◌+◌, ◌-◌, ◌*◌, ◌^◌, ◌==◌, Bool, true, false, if◌then◌else◌}
use Rattle.std.specs.Prelude.{List, [], ◌∷◌, length, All}
use Rattle.entity_recs.specs.Actions.{IsCommand}
use Rattle.areanode.specs.declared.sizes.TheConstants.{MOST_NODES}
use Rattle.core_steps.specs.declared.sizes.TheConstants.{TABLE_NODES, NODE_HOLDERS}
use Rattle.core_steps.specs.declared.step.StepKind.{StepKind}
use Rattle.core_steps.specs.declared.step.StepKind.TheVariants.{Take, GiveBack, Commit, Bit, Store}
use Rattle.core_steps.specs.Points as core_points
use Rattle.core_steps.specs.Nodes.{Fixed}
use Rattle.core_steps.specs.Points.{Point, Resolving, Claiming, stage_of, is_storing, stores_owed}
use Rattle.core_steps.specs.Reads.{View}
use Rattle.core_steps.specs.Nodes.{is_leaf, nodes_of}
use Rattle.core_steps.specs.Held.{leaf_word}
use Rattle.core_seats.specs.Going.{word_stored}

-- the word of the table is that of a node
pub record IsNodeWord (index : ℕ) : Type 0 where
  pub first : 1 ≤ index
  pub last : index ≤ TABLE_NODES

-- a node that is taken at this point is taken to write: all is read, or write nodes are being taken
abbrev pub takes_to_write : Point → Bool
takes_to_write Resolving = true
takes_to_write (Claiming got rest) = true
takes_to_write _ = false

-- the word at this index, of a node, once the seat with this number has taken the node
abbrev pub word_taken : Fixed → ℕ → View → ℕ → ℕ
word_taken F i view index =
    suc (i + NODE_HOLDERS * (if is_leaf F (index - 1) then leaf_word F view.wanted
    else (if takes_to_write view.point then 1 else 0)))

-- the word after the first of these stores by the player of this slot, where this word was found
abbrev pub first_stored : ℕ → List core_points.Store → ℕ → ℕ
first_stored slot [] found = found
first_stored slot (store ∷ stores) found = word_stored slot store found

-- the word that a step of this kind leaves at this index, by the seat with this number, where this word was found
abbrev pub word_by_kind : Fixed → ℕ → View → StepKind → ℕ → ℕ → ℕ
word_by_kind F i view Take index found = if found == 0 then word_taken F i view index else found
word_by_kind F i view GiveBack index found = 0
word_by_kind F i view Commit index found = found + 1
word_by_kind F i view Bit index found = first_stored view.cmd.slot (stores_owed view.point) found
word_by_kind F i view Store index found = first_stored view.cmd.slot (stores_owed view.point) found
word_by_kind F i view _ index found = found

-- a take may be made at this index: it is a node's, and the leaves that are wanted are nodes of the tree
pub record MayTake (F : Fixed) (view : View) (index : ℕ) : Type 0 where
  pub node : IsNodeWord index
  pub wanted : All (λ n. n < nodes_of F) view.wanted
  pub few : length view.wanted ≤ MOST_NODES

-- a step of this kind may be made at this index, where this word was found: the count doesn't reach its end, and stores
-- are of a command in hand
pub record MayLeave (F : Fixed) (view : View) (kind : StepKind) (index found : ℕ) : Type 0 where
  pub take : kind ≡ Take → MayTake F view index
  pub count : kind ≡ Commit → found + 1 < 2 ^ 64
  pub hand : is_storing (stage_of view.point) ≡ true → IsCommand view.cmd
