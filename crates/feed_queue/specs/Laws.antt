-- What holds of each order of arrival from two feeders.
use Rattle.std.specs.Prelude.{◌≡◌, ℕ, List, length}
use Rattle.std.specs.List.{filter}
use Rattle.std.specs.List.Sorted.{IsStrictlyIncreasing}
use Rattle.packet_read.specs.declared.arrival.Arrival.{Arrival}
use Rattle.packet_read.specs.Orders.{is_from, in_order, AreEachOnce}
use Rattle.feed_queue.specs.Orders.{ports_of, is_of, IsOrder}

-- an order has the place of each packet once and no other number; the places of even ports rise, and those of odd ports do
pub record HasEachPlaceOnce (ports order : List ℕ) : Type 0 where
  pub count : length order ≡ length ports
  pub places : AreEachOnce (length ports) order
  pub evens : IsStrictlyIncreasing (filter (is_of ports 0) order)
  pub odds : IsStrictlyIncreasing (filter (is_of ports 1) order)

abbrev pub OrdersHaveEachPlaceOnce : Type 0
OrdersHaveEachPlaceOnce = (ports order : List ℕ) → IsOrder ports order → HasEachPlaceOnce ports order

-- in an order the packets of each port are in the order that they had before
abbrev pub OrdersKeepEachPort : Type 0
OrdersKeepEachPort = (arrivals : List Arrival) (order : List ℕ) (port : ℕ) → IsOrder (ports_of arrivals) order
    → filter (is_from port) (in_order order arrivals) ≡ filter (is_from port) arrivals
