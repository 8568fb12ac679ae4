-- What holds of all journals.
use Rattle.std.specs.Prelude.{◌≡◌, Bool, List, All}
use Rattle.entity_recs.specs.declared.rec.Rec.{Rec}
use Rattle.entity_recs.specs.Records.{IsRecord}
use Rattle.entity_recs.specs.Commands.{Command}
use Rattle.entity_recs.specs.declared.effect.Entry.{Entry}
use Rattle.entity_recs.specs.Worlds.{World, world_of, HasRecordsInBounds}
use Rattle.entity_recs.specs.Histories.{Action, world_after}
use Rattle.move_journal.specs.Validity.{HasRecordsThatPass, KeepsRecords, KeepsRecordsThatPass}
use Rattle.move_journal.specs.Lists.{AreNumbered}
use Rattle.move_journal.specs.Merges.{IsMerge, IsWholeHistory, IsRight, IsInOrder, HasNumbersApart, history_of}
use Rattle.move_journal.specs.Merges.{journal_in_order}

-- the history of a journal that is a merge of the moves loses no entry and no move
abbrev pub MergesHaveWholeHistories : Type 0
MergesHaveWholeHistories =
    (moves : List Command) (journal : List Entry) → HasNumbersApart moves → IsMerge journal moves
    → IsWholeHistory journal moves (history_of moves journal)

-- a right journal that has the moves in the order of arrival
pub record IsRightInOrder (act : Action) (w : World) (moves : List Command) (journal : List Entry) : Type 0 where
  pub right : IsRight act w moves journal
  pub order : IsInOrder journal moves

-- moves that run in the order of arrival have a right journal, and it has them in that order
abbrev pub MovesInOrderAreRight : Type 0
MovesInOrderAreRight =
    (act : Action) (w : World) (moves : List Command) → HasNumbersApart moves
    → IsRightInOrder act w moves (journal_in_order act w moves)

-- a right journal that has the moves in that order is that one
abbrev pub OrderLeavesOneJournal : Type 0
OrderLeavesOneJournal =
    (act : Action) (w : World) (moves : List Command) (journal : List Entry) → HasNumbersApart moves
    → IsRightInOrder act w moves journal
    → journal ≡ journal_in_order act w moves

-- commands whose action keeps records that pass the test leave a valid world of such records valid, with the same live
-- ids
abbrev pub MovesKeepRecordsInBounds : Type 0
MovesKeepRecordsInBounds =
    (act : Action) (takes : Rec → Bool) (w : World) (commands : List Command) → KeepsRecords act takes w.ids commands
    → HasRecordsThatPass takes w
    → KeepsRecordsThatPass takes w (world_after act w commands)

-- a world of records within their bounds whose ids are their places
abbrev pub NumberedRecordsAreInBounds : Type 0
NumberedRecordsAreInBounds = (rs : List Rec) → AreNumbered 0 rs → All IsRecord rs → HasRecordsInBounds (world_of rs)
