-- The rule on the queue.
use Rattle.std.specs.Prelude.{◌≡◌, ℕ, ◌<◌, ◌≤◌, List, ◌++◌, length, Option, Some}
use Rattle.std.specs.List.{filter}
use mathlib.Core.Option.{some}
use lib.ListN.{get_elem?}
use Rattle.feed_queue.specs.declared.hand.Hand.{Hand}
use Rattle.feed_queue.specs.Orders.{is_of, places_below}

-- one pass alone may do this, and it has done just that
abbrev pub IsDoneBy : (Hand → Option (List ℕ)) → ℕ → List ℕ → List Hand → Type 0
IsDoneBy part at done views = (pass : ℕ) (v : Hand) (mine : List ℕ) → get_elem? views pass ≡ some v → part v ≡ Some mine
    → (pass ≡ at) × (mine ≡ done)

-- of all that was pushed, which is what was popped and what the queue holds, each feeder has pushed its own places; they
-- are no more than the frame has of them
pub record IsKept (ports items : List ℕ) (views : List Hand) : Type 0 where
  pub got : List ℕ
  pub evens_at : ℕ
  pub odds_at : ℕ
  pub got_at : ℕ
  pub evens : IsDoneBy (λ v. v.evens) evens_at (filter (is_of ports 0) (got ++ items)) views
  pub odds : IsDoneBy (λ v. v.odds) odds_at (filter (is_of ports 1) (got ++ items)) views
  pub reads : IsDoneBy (λ v. v.got) got_at got views
  pub few_evens : length (filter (is_of ports 0) (got ++ items)) ≤ length (places_below ports 0 (length ports))
  pub few_odds : length (filter (is_of ports 1) (got ++ items)) ≤ length (places_below ports 1 (length ports))

-- there is room for a place more in a queue for all of them
abbrev pub HasRoomFor : List ℕ → Hand → List ℕ → Type 0
HasRoomFor ports v items = length items < length ports

-- what the one pass that may do all has pushed is what it has popped and what the queue holds
pub record Holds (ports : List ℕ) (v : Hand) (items : List ℕ) : Type 0 where
  pub got : List ℕ
  pub got_is : v.got ≡ Some got
  pub evens : v.evens ≡ Some (filter (is_of ports 0) (got ++ items))
  pub odds : v.odds ≡ Some (filter (is_of ports 1) (got ++ items))
