-- The count of commits is at most the sum of the rooms.
use Rattle.std.proofs.Common.{◌≡◌, ℕ, zero, suc, ◌+◌, ◌≤◌, Bool, true, false, List, [], ◌∷◌, length, subst, arith, length-append, map}
use Rattle.std.specs.Prelude.{◌==◌, if◌then◌else◌, All}
use Rattle.std.specs.List.{range_with_len, sum_by}
use Rattle.std.proofs.lemmas.List.Elements.{All-head, All-tail}
use Rattle.std.proofs.lemmas.List.FromFn.{sum_by-map-range_with_len_more}
use Rattle.std.proofs.lemmas.List.Sorted.{length_permutation}
use Rattle.entity_recs.specs.Histories.{Item}
use Rattle.core_steps.specs.Reads.{Ended}
use Rattle.core_steps.specs.Stands.{IsLogWithin, ended_log, log_of, items_below, items_of}
use Rattle.core_steps.specs.MachineLaws.{ended_room, room_of, CountIsWithinTheRooms}

-- a log that is one of two fits the room that is chosen likewise
fits_of_two : (b : Bool) (one two : List Item) (room other : ℕ) → length one ≤ room → length two ≤ other → length (if b then one else two) ≤ (if b then room else other)
fits_of_two true one two room other a c = a
fits_of_two false one two room other a c = c

-- the log of an ended seat fits its room
ended_fits : (count : ℕ) (ended : List Ended) (n : ℕ) → All (λ (e : Ended). IsLogWithin count e.room e.log) ended → length (ended_log ended n) ≤ ended_room ended n
ended_fits count [] n is = omega arith
ended_fits count (e ∷ ended) n is =
    let here = All-head (λ (e : Ended). IsLogWithin count e.room e.log) e ended is in
    fits_of_two (e.number == n) e.log (ended_log ended n) e.room (ended_room ended n) here.fits
    (ended_fits count ended n (All-tail (λ (e : Ended). IsLogWithin count e.room e.log) e ended is))

-- logs that each fit their room fit the sum of the rooms
logs_fit : (n : ℕ) (logs : ℕ → List Item) (rooms : ℕ → ℕ) → ((k : ℕ) → length (logs k) ≤ rooms k) → length (items_below n logs) ≤ sum_by (λ (room : ℕ). room) (map rooms (range_with_len 0 n))
unfolding items_below
logs_fit zero logs rooms each = omega arith
logs_fit (suc n) logs rooms each =
    let before = logs_fit n logs rooms each in
    let at : n + 1 ≡ suc n = omega arith in
    let sum = subst (λ (m : ℕ). sum_by (λ (room : ℕ). room) (map rooms (range_with_len 0 m)) ≡ sum_by (λ (room : ℕ). room) (map rooms (range_with_len 0 n)) + rooms n) at
    (sum_by-map-range_with_len_more (λ (room : ℕ). room) rooms 0 n n (omega arith)) in
    let one = each n in
    let both : length (items_below (suc n) logs) ≡ length (items_below n logs) + length (logs n) = length-append (items_below n logs) (logs n) in
    omega (arith, before, sum, one, both)

pub count_is_within_the_rooms : CountIsWithinTheRooms
count_is_within_the_rooms F core history now is =
    let same = length_permutation history (items_of core.view) is.items in
    let fit = logs_fit (core.view 0).made (log_of core.view) (room_of core.view) (λ n.
    fits_of_two (core.view n).live (core.view n).log (ended_log (core.view 0).ended n) (core.view n).room (ended_room (core.view 0).ended n)
    (is.seats n).counted.within.fits (ended_fits core.words.commits (core.view 0).ended n is.ended)) in
    let count = is.count in
    omega (arith, same, fit, count)
