-- How the packets of frames reach the server: in the order of the recording, or as client threads send them.
use Rattle.std.specs.Prelude.{◌≡◌, ℕ, ◌≤◌, List, length, Option, Some, None, ⊤}
use Rattle.entity_recs.specs.declared.effect.Entry.{Entry}
use Rattle.arena_map.specs.Maps.{MapView}
use Rattle.packet_read.specs.declared.arrival.Arrival.{Arrival}
use Rattle.packet_read.specs.Orders.{in_order, AreEachOnce}
use Rattle.out_text.specs.OutLines.{OutLine, text_of}
use Rattle.out_text.specs.Output.{last_of}
use Rattle.out_text.specs.Feeds.{IsFeedOf, AreFeedsOf, RiseByParity, IsLastOrder, with_froms}
use Rattle.out_text.proofs.Fronts.{lines_of}
use Rattle.out_text.proofs.FedFronts.{fed_lines_of}
use Rattle.arena_engine.specs.declared.feeding.Feeding.{Feeding}
use Rattle.arena_engine.specs.declared.feeding.Feeding.TheVariants.{Recorded, Threaded}

-- ---- the packets of a frame

-- the packets in this order of arrival; where there is none they are as the recording has them
abbrev pub arranged : Option (List ℕ) → List Arrival → List Arrival
arranged None sent = sent
arranged (Some order) sent = in_order order sent

-- client threads can send the packets in this order: each once, those of even ports and those of odd ports as the recording
-- has them, and so those of each port
pub record AreSent (sent : List Arrival) (order : List ℕ) : Type 0 where
  pub places : AreEachOnce (length sent) order
  pub rising : RiseByParity sent order
  pub feed : IsFeedOf sent (in_order order sent)
  pub few : length (in_order order sent) ≤ length sent

-- this may be the order of arrival of a frame's packets
abbrev pub IsOrderOf : Feeding → List Arrival → Option (List ℕ) → Type 0
IsOrderOf Recorded sent order = order ≡ None
IsOrderOf Threaded sent None = ⊥
IsOrderOf Threaded sent (Some order) = AreSent sent order

-- only what client threads send has an order of arrival
abbrev pub MayHaveOrder : Feeding → Option (List ℕ) → Type 0
MayHaveOrder Recorded order = order ≡ None
MayHaveOrder Threaded order = ⊤

-- the lines of a frame, with those of its packets where these have an order of arrival
abbrev pub with_packets : Option (List ℕ) → List Arrival → List OutLine → List OutLine
with_packets None packets lines = lines
with_packets (Some order) packets lines = with_froms packets lines

-- ---- frames

-- the order of arrival and the journal of the last frame that was run, None before the first one
pub record Last : Type 0 where
  pub order : Option (List ℕ)
  pub journal : Option (List Entry)

abbrev pub no_last : Last
no_last = record { order = None; journal = None }

-- the packets of these frames may have arrived so
abbrev pub AreFed : Feeding → (closed feeds : List (List Arrival)) → Type 0
AreFed Recorded closed feeds = feeds ≡ closed
AreFed Threaded closed feeds = AreFeedsOf closed feeds

-- this is the order of arrival of the last of them
abbrev pub IsLastOrderOf : Feeding → Option (List ℕ) → (closed feeds : List (List Arrival)) → Type 0
IsLastOrderOf Recorded order closed feeds = order ≡ None
IsLastOrderOf Threaded order closed feeds = IsLastOrder order closed feeds

-- the order of arrival and the journal are those of the last frame
pub record IsLastOf (feeding : Feeding) (last : Last) (closed feeds : List (List Arrival)) (js : List (List Entry)) : Type 0
  where
    pub order : IsLastOrderOf feeding last.order closed feeds
    pub journal : last.journal ≡ last_of js

-- the lines of frames in an arena whose packets arrived so, with these journals
abbrev pub fed_lines : Feeding → MapView → List (List Arrival) → List (List Entry) → List OutLine
fed_lines Recorded arena feeds js = lines_of arena feeds js
fed_lines Threaded arena feeds js = fed_lines_of arena feeds js

-- their text
abbrev pub fed_text : Feeding → MapView → List (List Arrival) → List (List Entry) → List ℕ
fed_text feeding arena feeds js = text_of (fed_lines feeding arena feeds js)
