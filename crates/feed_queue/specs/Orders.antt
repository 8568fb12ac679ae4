-- The order in which the packets of a frame arrive from two feeders.
use Rattle.std.specs.Prelude.{◌≡◌, ℕ, ◌%◌, ◌≤◌, ◌==◌, Bool, List, length, map, slice_index}
use Rattle.std.specs.List.{filter, range_with_len}
use Rattle.packet_read.specs.declared.arrival.TheConstants.{MOST_ARRIVALS}
use Rattle.packet_read.specs.declared.arrival.Arrival.{Arrival}

-- the ports of packets, in their order
abbrev pub ports_of : List Arrival → List ℕ
ports_of arrivals = map (λ (a : Arrival). a.port) arrivals

-- the packet at this place is sent by this feeder: its port leaves the feeder's number when it is divided by 2
abbrev pub is_of : List ℕ → ℕ → ℕ → Bool
is_of ports feeder place = slice_index ports place % 2 == feeder

-- the places of a feeder below a number, as they rise
abbrev pub places_below : List ℕ → ℕ → ℕ → List ℕ
places_below ports feeder n = filter (is_of ports feeder) (range_with_len 0 n)

-- these are the ports of a frame's packets, of which there are at most 512, and a queue has room for all of them
pub record Fit (ports : List ℕ) (capacity : ℕ) (arrivals : List Arrival) : Type 0 where
  pub ports_are : ports ≡ ports_of arrivals
  pub room : length ports ≤ capacity
  pub few : length arrivals ≤ MOST_ARRIVALS

-- this order has the places of each feeder rising, each once, and no other place
-- By what rises in it, so no merge of two lists is in the definition, whose witness each step would carry.
pub record IsOrder (ports order : List ℕ) : Type 0 where
  pub evens : filter (is_of ports 0) order ≡ places_below ports 0 (length ports)
  pub odds : filter (is_of ports 1) order ≡ places_below ports 1 (length ports)
