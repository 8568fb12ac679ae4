-- What a call asks of what comes next of a pass.
use Rattle.std.specs.Prelude.{ℕ, Bool, true, false, List, [], ◌∷◌, Option, Some, None}
use Rattle.core_steps.specs.Cells.{cell_index}
use Rattle.core_steps.specs.Points.{Store, Clear, Put, Link}
use Rattle.core_steps.specs.Machine.{Next, CommitMove, StoreWord}

-- the step commits
abbrev pub is_commit : Next → Bool
is_commit (CommitMove e nodes) = true
is_commit _ = false

-- the same of what comes next, if anything does
abbrev pub is_commit_next : Option Next → Bool
is_commit_next None = false
is_commit_next (Some next) = is_commit next

-- the node at which the own bit is cleared or set by the first of these stores, and 0 where it is none of the bit
abbrev pub bit_owed : List Store → ℕ
bit_owed [] = 0
bit_owed (Clear node ∷ stores) = node
bit_owed (Put cell x ∷ stores) = 0
bit_owed (Link node ∷ stores) = node

-- the index of the word that the first of these stores puts, and 0 where it puts none
abbrev pub index_owed : List Store → ℕ
index_owed (Put cell x ∷ stores) = cell_index cell
index_owed _ = 0

-- the word that the first of these stores puts, and 0 where it puts none
abbrev pub word_owed : List Store → ℕ
word_owed (Put cell x ∷ stores) = x
word_owed _ = 0

-- the first of these stores clears the own bit
abbrev pub clears_first : List Store → Bool
clears_first (Clear node ∷ stores) = true
clears_first _ = false

-- the store that a step makes
abbrev pub store_made : Next → Option Store
store_made (StoreWord nodes store stores) = Some store
store_made _ = None

-- the same of what comes next, if anything does
abbrev pub store_made_next : Option Next → Option Store
store_made_next None = None
store_made_next (Some next) = store_made next

-- the store clears the own bit
abbrev pub is_clear : Option Store → Bool
is_clear (Some (Clear node)) = true
is_clear _ = false

-- the store puts a word of a record
abbrev pub is_put : Option Store → Bool
is_put (Some (Put cell x)) = true
is_put _ = false

-- the store sets the own bit
abbrev pub is_set : Option Store → Bool
is_set (Some (Link node)) = true
is_set _ = false

-- what comes next clears the own bit at the old node
abbrev pub is_unlink_next : Option Next → Bool
is_unlink_next next = is_clear (store_made_next next)

-- what comes next stores a word of a record
abbrev pub is_store_next : Option Next → Bool
is_store_next next = is_put (store_made_next next)

-- what comes next sets the own bit at the new node
abbrev pub is_link_next : Option Next → Bool
is_link_next next = is_set (store_made_next next)
