-- What a seat holds: its leaves, its inner nodes, and the words that say so.
use Rattle.std.specs.Prelude.{ℕ, suc, ◌+◌, ◌-◌, ◌*◌, ◌^◌, Bool, ◌||◌}
use Rattle.std.specs.Prelude.{if◌then◌else◌, List, [], ◌∷◌, map}
use Rattle.core_steps.specs.declared.sizes.TheConstants.{NODE_HOLDERS}
use Rattle.core_steps.specs.Nodes.{Fixed, has, inner_nodes, is_leaf}
use Rattle.core_steps.specs.Points.{Point, Idle, Owning, Taking, Checking, Entering, Entered, Loading, Leaving, Sensing}
use Rattle.core_steps.specs.Points.{Resolving, Claiming, Storing, Releasing, Returning, Yielding, Stage, is_writing}

-- the leaves that are held, of those wanted
abbrev pub leaves_held : Point → List ℕ → List ℕ
leaves_held Idle wanted = []
leaves_held Owning wanted = []
leaves_held (Taking got rest) wanted = got
leaves_held (Returning leaves) wanted = leaves
leaves_held (Yielding nodes leaves) wanted = leaves
leaves_held _ wanted = wanted

-- the inner node of the present visit, where it is one
abbrev pub visited_node : Fixed → ℕ → List ℕ
visited_node F node = if is_leaf F node then [] else node ∷ []

-- the inner nodes that are held
abbrev pub inner_held : Fixed → Point → List ℕ
inner_held F Idle = []
inner_held F Owning = []
inner_held F (Taking got rest) = []
inner_held F Checking = []
inner_held F (Entering node plan) = []
inner_held F (Entered node plan) = visited_node F node
inner_held F (Loading node part players plan) = visited_node F node
inner_held F (Leaving node plan) = visited_node F node
inner_held F (Sensing ids) = []
inner_held F Resolving = []
inner_held F (Claiming got rest) = got
inner_held F (Storing nodes stores) = nodes
inner_held F (Releasing nodes) = nodes
inner_held F (Returning leaves) = []
inner_held F (Yielding nodes leaves) = nodes

-- the node is held at this point, where these leaves are wanted
abbrev pub holds : Fixed → Point → List ℕ → ℕ → Bool
holds F point wanted node = has (inner_held F point) node || has (leaves_held point wanted) node

-- the sum of the bits of these leaves
abbrev pub bits_of_leaves : List ℕ → ℕ
bits_of_leaves [] = 0
bits_of_leaves (leaf ∷ leaves) = 2 ^ leaf + bits_of_leaves leaves

-- the leaves of these nodes, bit i for leaf i
abbrev pub leaf_word : Fixed → List ℕ → ℕ
leaf_word F wanted = bits_of_leaves (map (λ node. node - inner_nodes F) wanted)

-- the word of a node that is held by this seat: its number plus 1, and above it the leaves of its command for a leaf,
-- or 1 for an inner node that is held to write
abbrev pub held_word : Fixed → ℕ → Stage → List ℕ → ℕ → ℕ
held_word F i stage wanted node =
    suc (i + NODE_HOLDERS * (if is_leaf F node then leaf_word F wanted else (if is_writing stage then 1 else 0)))
