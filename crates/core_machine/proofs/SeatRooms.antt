-- Seats keep their rooms, and so the count of commits is small.
use Rattle.std.proofs.Common.{◌≡◌, ℕ, ◌+◌, ◌^◌, ◌<◌, ◌≤◌, List, [], length, sym, ap, ◌∙◌, subst, inl, inr, arith}
use Rattle.core_steps.specs.declared.sizes.TheConstants.{MOST_SEATS}
use Rattle.std.proofs.lemmas.Bool.{cases_Bool}
use Rattle.std.proofs.lemmas.List.Sorted.{length_permutation}
use Rattle.entity_recs.specs.Histories.{Item}
use Rattle.entity_recs.specs.Worlds.{World}
use Rattle.core_steps.specs.Nodes.{Fixed}
use Rattle.core_steps.specs.Reads.{Ended}
use Rattle.core_steps.specs.Steps.{Core}
use Rattle.core_steps.specs.Stands.{ended_log, log_of, items_of, Stands}
use Rattle.core_steps.specs.Machine.{Next, core_after}
use Rattle.core_steps.proofs.SameSeats.{SeatPart, same_seats}
use Rattle.core_steps.proofs.Appending.{below_small}
use Rattle.core_machine.specs.Cores.{HasRooms}

-- the seats have their rooms after a step
pub rooms_after : (F : Fixed) (core : Core) (i : ℕ) (next : Next) → HasRooms core.view → HasRooms (core_after F core i next).view
rooms_after F core i next rooms =
    let same = same_seats F core i next in
    record {
      made = subst (λ (part : SeatPart). part.made ≤ MOST_SEATS) (sym (same 0)) rooms.made;
      ended = ap (λ (part : SeatPart). part.ended) (same 0) ∙ rooms.ended;
      room = λ j. subst (λ (part : SeatPart). part.room < 2 ^ 32) (sym (same j)) (rooms.room j);
    }

-- ---- the count of commits

none_long : (ended : List Ended) (n : ℕ) → ended ≡ [] → length (ended_log ended n) < 2 ^ 32
none_long ended n none = rw none (omega arith)

-- the count of commits doesn't reach its end
pub count_is_small : (F : Fixed) (core : Core) (history : List Item) (now : World) → Stands F core history now → HasRooms core.view → core.words.commits + 1 < 2 ^ 64
count_is_small F core history now stands rooms =
    let small : (k : ℕ) → length (log_of core.view k) < 2 ^ 32 =
    λ k. elim (cases_Bool (core.view k).live) [
      | inl lives ↦ rw lives (let fits = (stands.seats k).counted.within.fits in let room = rooms.room k in omega (arith, fits, room))
      | inr spent ↦ rw spent (none_long (core.view 0).ended k rooms.ended)
    ] in
    let all = below_small (core.view 0).made (log_of core.view) small in
    let made = rooms.made in
    let same = length_permutation history (items_of core.view) stands.items in
    let commits = stands.count in
    omega (arith, all, made, same, commits)
