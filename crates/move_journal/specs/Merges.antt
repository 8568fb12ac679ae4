-- A journal against the moves that were received.
use Rattle.std.specs.Prelude.{◌≡◌, ℕ, ◌==◌, Bool, ◌&&◌, true, List, [], ◌∷◌, map, filter, find, All, Option, Some, None}
use Rattle.std.specs.List.{IsDistinct}
use Rattle.std.specs.List.Sorted.{IsPermutation}
use Rattle.entity_recs.specs.Commands.{Command, is_same_move}
use Rattle.entity_recs.specs.declared.effect.Entry.{Entry}
use Rattle.entity_recs.specs.Worlds.{World}
use Rattle.entity_recs.specs.Histories.{Action, Item, IsLegal, entries_in_order}

-- the numbers of a player's moves in a journal, in its order
abbrev pub reported_numbers : ℕ → List Entry → List ℕ
reported_numbers slot journal = map (λ e. e.seq) (filter (λ e. e.slot == slot) journal)

-- the numbers of a player's moves, in the order in which they were sent
abbrev pub sent_numbers : ℕ → List Command → List ℕ
sent_numbers slot moves = map (λ c. c.seq) (filter (λ c. c.slot == slot) moves)

-- a merge of the players' moves: of each player the journal has the moves that were received, each once and in the
-- order sent, and no others
pub record IsMerge (journal : List Entry) (moves : List Command) : Type 0 where
  pub each : (slot : ℕ) → reported_numbers slot journal ≡ sent_numbers slot moves

-- the entry is that of this command
abbrev pub is_entry_of : Entry → Command → Bool
is_entry_of e c = (c.slot == e.slot) && (c.seq == e.seq)

-- an entry with its command, where there is one, before more items
abbrev pub with_command : Option Command → Entry → List Item → List Item
with_command None e items = items
with_command (Some c) e items = record { command = c; entry = e } ∷ items

-- the history of a journal: each entry with its move; of a merge of moves with their numbers apart it is whole
abbrev pub history_of : List Command → List Entry → List Item
history_of moves [] = []
history_of moves (e ∷ journal) = with_command (find (is_entry_of e) moves) e (history_of moves journal)

-- the history of a whole journal of these moves: its entries are the journal's, each that of its command, and its
-- commands are the moves, each once and each player's in the order sent
pub record IsWholeHistory (journal : List Entry) (moves : List Command) (history : List Item) : Type 0 where
  pub entries : map (λ item. item.entry) history ≡ journal
  pub matched : All (λ item. is_entry_of item.entry item.command ≡ true) history
  pub sent : (slot : ℕ) → filter (λ c. c.slot == slot) (map (λ item. item.command) history)
      ≡ filter (λ c. c.slot == slot) moves
  pub each_once : IsPermutation (map (λ item. item.command) history) moves

-- a right journal of moves in a world: it is a merge of the players' moves, and legal
pub record IsRight (act : Action) (w : World) (moves : List Command) (journal : List Entry) : Type 0 where
  pub merge : IsMerge journal moves
  pub legal : IsLegal act w (history_of moves journal)

-- whose move it is, and its number
pub record Number : Type 0 where
  pub slot : ℕ
  pub seq : ℕ

-- the journal has the moves in the order of arrival
abbrev pub IsInOrder : List Entry → List Command → Type 0
IsInOrder journal moves = map (λ e. number e.slot e.seq) journal ≡ map (λ c. number c.slot c.seq) moves
  where
    number : ℕ → ℕ → Number
    number slot seq = record { slot = slot; seq = seq }

-- no player sent one number twice
abbrev pub HasNumbersApart : List Command → Type 0
HasNumbersApart moves = IsDistinct is_same_move moves

-- the journal of moves that are run in the order of arrival
abbrev pub journal_in_order : Action → World → List Command → List Entry
journal_in_order act w moves = entries_in_order act w 0 moves
