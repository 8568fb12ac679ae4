-- The entries of a journal, with the room for them. A log is the journal of one worker.
use Rattle.std.specs.Prelude.{ℕ, ◌<◌, List, ◌∷◌, [], ◌++◌, length}
use Rattle.entity_recs.specs.declared.effect.Entry.{Entry}

-- the entries of a journal, and for how many it has room in all
pub record JournalView : Type 0 where
  pub entries : List Entry
  pub room : ℕ

-- the journal with these entries and this room
abbrev pub journal_view : List Entry → ℕ → JournalView
journal_view entries room = record { entries = entries; room = room }

-- the journal has room for one entry more
abbrev pub JournalHasRoom : JournalView → Type 0
JournalHasRoom journal = length journal.entries < journal.room

-- the journal with one entry more
abbrev pub journal_with : JournalView → Entry → JournalView
journal_with journal e = journal_view (journal.entries ++ e ∷ []) journal.room
