-- A frame that was run: its journal, what it gave out beside it, and the items that were taken in it.
use Rattle.std.specs.Prelude.{◌≡◌, ℕ, ◌≤◌, List, length, Option}
use Rattle.entity_recs.specs.declared.rec.Rec.{Rec}
use Rattle.entity_recs.specs.declared.effect.Entry.{Entry}
use Rattle.move_journal.specs.Merges.{IsInOrder}
use Rattle.packet_read.specs.declared.arrival.Arrival.{Arrival}
use Rattle.plain_server.specs.Frames.{received_in, moved_by, IsRightAfter}
use Rattle.plain_server.specs.Replies.{slots_of, replies_of}
use Rattle.plain_server.specs.Takers.{HasOneTaker, HasItemsAway}
use Rattle.frame_phases.specs.declared.frame_out.FrameOut.{FrameOut}
use Rattle.frame_phases.specs.Servers.{ServerView, server_after}

-- a frame with these packets was run: its journal is right, has at most 512 entries, and with one worker has the
-- moves in the order of arrival
-- That there are at most 512 entries follows from the slots, not from the packets, and needs the server's invariant,
-- which callers don't see.
pub record RunsFrame (workers : ℕ) (old new : ServerView) (arrivals : List Arrival) (journal : List Entry) : Type 0
  where
    pub right : IsRightAfter old.map (received_in old.map old.frames old.state arrivals) journal
    pub order : workers ≡ 1 → IsInOrder journal (received_in old.map old.frames old.state arrivals).lists.moves
    pub few : length journal ≤ 512
    pub next : new ≡ server_after old arrivals journal

-- the records that the replies to a frame with this journal show
abbrev pub shown_by : ServerView → List Arrival → List Entry → List (Option Rec)
shown_by t arrivals journal = (moved_by t.map (received_in t.map t.frames t.state arrivals) journal).records

-- this is what a frame with these packets and this journal gave out beside the journal
pub record IsGiven (t : ServerView) (arrivals : List Arrival) (journal : List Entry) (out : FrameOut) : Type 0 where
  pub frame_is : out.frame ≡ t.frames
  pub lists_are : out.received.lists ≡ (received_in t.map t.frames t.state arrivals).lists
  pub slots_are : out.slots ≡ slots_of (shown_by t arrivals journal)
  pub replies_are : out.replies ≡ replies_of t.frames (shown_by t arrivals journal)

-- no two entries of the journal took one item, and each item that was taken is away after the frame until its delay is
-- over
pub record HasItemsTaken (old new : ServerView) (journal : List Entry) : Type 0 where
  pub one_taker : HasOneTaker old.map journal
  pub away : HasItemsAway old.map old.frames journal new.state.records
