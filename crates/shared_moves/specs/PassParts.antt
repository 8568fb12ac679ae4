-- What a pass keeps beside its hand.
use Rattle.std.specs.Prelude.{◌≡◌, ℕ, ◌≤◌, ◌+◌, List, [], ◌∷◌, None}
use Rattle.move_journal.specs.Logs.{JournalView, journal_view}
use Rattle.world_tree.specs.Nears.{NearView}
use Rattle.core_seats.specs.declared.refusals.Refusals.{Refusals}
use Rattle.core_seats.specs.Logs.{entries_of}
use Rattle.core_seats.specs.Refusals.{AreRefusals}
use Rattle.ruled_words.specs.Passes.{PassView}

-- the log has the entries that the hand has in view, with its room; the refused takes are those in view; and the near
-- list has room for all records that may be near: those of 64 players, and all that live at the start
pub record IsKeptBeside (hand : PassView) (log : JournalView) (refusals : Refusals) (near : NearView) : Type 0 where
  pub log_is : log ≡ journal_view (entries_of hand.view.log) hand.view.room
  pub refusals_are : AreRefusals refusals hand.view
  pub near_fits : 64 + hand.setting.records ≤ near.room

-- the hand's seat is new, with this room: nothing is committed, and no take was refused; a near list with this room has
-- room for all records that may be near
pub record IsFresh (near_room room : ℕ) (hand : PassView) : Type 0 where
  pub no_item : hand.view.log ≡ []
  pub room_is : hand.view.room ≡ room
  pub none_refused : hand.view.refusals ≡ 0
  pub last_refused : hand.view.refused ≡ None
  pub near_fits : 64 + hand.setting.records ≤ near_room

-- each of the hands has a new seat with the room in its place, and there are as many as rooms
abbrev pub AreFresh : ℕ → List ℕ → List PassView → Type 0
AreFresh near_room [] [] = Unit {0}
AreFresh near_room [] (hand ∷ hands) = ⊥
AreFresh near_room (room ∷ rooms) [] = ⊥
AreFresh near_room (room ∷ rooms) (hand ∷ hands) = IsFresh near_room room hand × AreFresh near_room rooms hands
