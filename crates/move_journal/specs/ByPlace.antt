-- The entries of several logs, by place.
use Rattle.std.specs.Prelude.{◌≡◌, ℕ, List, length, map}
use Rattle.std.specs.List.{flat_map, range_with_len}
use Rattle.std.specs.List.Sorted.{IsPermutation}
use Rattle.entity_recs.specs.declared.effect.Entry.{Entry}
use Rattle.move_journal.specs.Logs.{JournalView}

-- the places of entries
abbrev pub places_of : List Entry → List ℕ
places_of entries = map (λ e. e.place) entries

-- the entries of all logs, one log after another
abbrev pub entries_in : List JournalView → List Entry
entries_in logs = flat_map (λ (log : JournalView). log.entries) logs

-- the places over all logs are the numbers from 0 up, each once
abbrev pub HaveNumberedPlaces : List JournalView → Type 0
HaveNumberedPlaces logs = IsPermutation (places_of (entries_in logs)) (range_with_len 0 (length (entries_in logs)))

-- the journal has all entries of the logs, by place
pub record IsByPlace (journal : List Entry) (logs : List JournalView) : Type 0 where
  pub all : IsPermutation (entries_in logs) journal
  pub places : places_of journal ≡ range_with_len 0 (length journal)
