-- The shared words, by what they hold, and the flat table in which they lie.
use Rattle.std.specs.Prelude.{ℕ, ◌+◌, ◌-◌, ◌*◌, ◌/◌, ◌%◌, ◌==◌, nat_lt, Bool, false, ◌&&◌, not, ◌||◌, if◌then◌else◌}
use Rattle.areanode.specs.Words.{has_bit, word_of}
use Rattle.core_steps.specs.declared.sizes.TheConstants.{TABLE_NODES}

-- the count of commits, each node's word, each node's list word, each player's five words, and each entity's state word
pub record Words : Type 0 where
  pub commits : ℕ
  pub node : ℕ → ℕ
  pub links : ℕ → ℕ
  pub body : ℕ → ℕ → ℕ
  pub state : ℕ → ℕ

-- the function with another value at one number
abbrev pub put : {A : Type 0} → ℕ → A → (ℕ → A) → ℕ → A
put i a f = λ j. if j == i then a else f j

-- the word of a record that is loaded and stored: one of a player's five words, or a state word
pub data Cell : Type 0 where
  Body : ℕ → ℕ → Cell
  State : ℕ → Cell

-- the word of a cell
abbrev pub word_in : Words → Cell → ℕ
word_in words (Body slot k) = words.body slot k
word_in words (State id) = words.state id

-- the words with another word in a cell
abbrev pub with_word : Words → Cell → ℕ → Words
with_word words (Body slot k) x = record words { body = put slot (put k x (words.body slot)) words.body }
with_word words (State id) x = record words { state = put id x words.state }

-- two cells are one
abbrev pub is_cell : Cell → Cell → Bool
is_cell (Body slot k) (Body slot' k') = (slot == slot') && (k == k')
is_cell (Body slot k) (State id) = false
is_cell (State id) (Body slot k) = false
is_cell (State id) (State id') = id == id'

-- the cells of a player's record in the order in which they are loaded: its five words, then its state word
abbrev pub cell_of : ℕ → ℕ → Cell
cell_of slot k = if nat_lt k 5 then Body slot k else State slot

-- a list word with a player's bit set
abbrev pub with_bit : ℕ → ℕ → ℕ
with_bit word slot = word_of 64 (λ other. (other == slot) || has_bit word other)

-- a list word with a player's bit cleared
abbrev pub without_bit : ℕ → ℕ → ℕ
without_bit word slot = word_of 64 (λ other. not (other == slot) && has_bit word other)

-- ---- the flat table, whose layout is one whatever the tree and the arena

-- the index of the count of commits
abbrev pub count_index : ℕ
count_index = 0

-- the index of a node's word
abbrev pub node_index : ℕ → ℕ
node_index node = 1 + node

-- the index of a node's list word
abbrev pub links_index : ℕ → ℕ
links_index node = 1 + TABLE_NODES + node

-- the index of the first of a player's five words
abbrev pub body_index : ℕ → ℕ
body_index slot = 1 + 2 * TABLE_NODES + 5 * slot

-- the index of an entity's state word
abbrev pub state_index : ℕ → ℕ
state_index id = 1 + 2 * TABLE_NODES + 5 * 64 + id

-- the index of a cell
abbrev pub cell_index : Cell → ℕ
cell_index (Body slot k) = body_index slot + k
cell_index (State id) = state_index id

-- the word at an index of the flat table
abbrev pub word_at : Words → ℕ → ℕ
word_at words index =
    if index == 0 then words.commits
    else (if nat_lt index (links_index 0) then words.node (index - 1)
    else (if nat_lt index (body_index 0) then words.links (index - links_index 0)
    else (if nat_lt index (state_index 0) then
    words.body ((index - body_index 0) / 5) ((index - body_index 0) % 5)
    else words.state (index - state_index 0))))
