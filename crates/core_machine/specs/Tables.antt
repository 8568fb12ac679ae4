-- The words in the arrays of the code, as the shared words of the definitions.
use Rattle.std.specs.Prelude.{ℕ, ◌-◌, ◌/◌, ◌%◌, ◌<◌, ◌==◌, nat_lt, ◌&&◌, if◌then◌else◌, List, [], slice_index_or}
use Rattle.core_steps.specs.declared.sizes.TheConstants.{TABLE_NODES, TABLE_STATES}
use Rattle.core_steps.specs.Cells as cells
use Rattle.core_machine.specs.declared.words.Words.{Words}
use Rattle.core_machine.specs.declared.point.Cell.{Cell}
use Rattle.core_machine.specs.declared.point.Cell.TheVariants.{Body, State}
use Rattle.core_machine.specs.declared.point.Store.{Store}
use Rattle.core_machine.specs.declared.point.Store.TheVariants.{Clear, Put, Link}

-- the first n numbers from a list, and the others from a function
abbrev pub within : ℕ → List ℕ → (ℕ → ℕ) → ℕ → ℕ
within n list beyond = λ i. if nat_lt i n then slice_index_or list i 0 else beyond i

-- the words of players from a list of rows of five, and the others from a function
abbrev pub rows : List (List ℕ) → (ℕ → ℕ → ℕ) → ℕ → ℕ → ℕ
rows body beyond = λ slot k.
    if nat_lt slot 64 && nat_lt k 5 then slice_index_or (slice_index_or body slot []) k 0 else beyond slot k

-- the words of the arrays; beyond them, where no step reads or writes, those of other words
abbrev pub words_in : Words → cells.Words → cells.Words
words_in words beyond = record {
  commits = words.commits;
  node = within TABLE_NODES words.node beyond.node;
  links = within TABLE_NODES words.links beyond.links;
  body = rows words.body beyond.body;
  state = within TABLE_STATES words.state beyond.state;
}

-- the cell is one of the arrays'
pub record IsBodyCell (slot k : ℕ) : Type 0 where
  pub slot_below : slot < 64
  pub word_below : k < 5

-- the cell is one of the arrays'
abbrev pub IsCellOf : Cell → Type 0
IsCellOf (Body slot k) = IsBodyCell slot k
IsCellOf (State id) = id < TABLE_STATES

-- the store is one in the arrays
abbrev pub IsStoreOf : Store → Type 0
IsStoreOf (Clear node) = node < TABLE_NODES
IsStoreOf (Put cell x) = IsCellOf cell
IsStoreOf (Link node) = node < TABLE_NODES

-- the words with another word at an index of the table
abbrev pub with_word_at : cells.Words → ℕ → ℕ → cells.Words
with_word_at words index x =
    if index == 0 then record words { commits = x }
    else (if nat_lt index (cells.links_index 0) then record words { node = cells.put (index - 1) x words.node }
    else (if nat_lt index (cells.body_index 0) then record words
    { links = cells.put (index - cells.links_index 0) x words.links }
    else (if nat_lt index (cells.state_index 0) then cells.with_word words
    (cells.Body ((index - cells.body_index 0) / 5) ((index - cells.body_index 0) % 5)) x
    else cells.with_word words (cells.State (index - cells.state_index 0)) x)))
