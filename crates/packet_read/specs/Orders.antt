-- The order in which the packets of a frame arrive, as places among the packets that were sent.
use Rattle.std.specs.Prelude.{◌≡◌, ℕ, ◌<◌, ◌≤◌, ◌==◌, Bool, List, [], ◌∷◌, filter_map, slice_get}
use Rattle.std.specs.List.{filter}
use Rattle.packet_read.specs.declared.arrival.Arrival.{Arrival}

-- the packet comes from this port
abbrev pub is_from : ℕ → Arrival → Bool
is_from port a = a.port == port

-- the packets in this order
abbrev pub in_order : List ℕ → List Arrival → List Arrival
in_order order arrivals = filter_map (λ place. slice_get arrivals place) order

-- these places are the numbers below n, each once
pub record AreEachOnce (n : ℕ) (places : List ℕ) : Type 0 where
  pub once : (place : ℕ) → place < n → filter (λ k. k == place) places ≡ place ∷ []
  pub no_other : (k : ℕ) → n ≤ k → filter (λ j. j == k) places ≡ []
