-- The room in the lists of a core's seats, after one of them is changed.
use Rattle.std.proofs.Common.{◌≡◌, ℕ, ◌<◌, ◌≤◌, List, length, get_or, set, All, sym, subst, arith}
use Rattle.std.proofs.lemmas.List.Elements.{All-get_or, All-set}
use Rattle.entity_recs.specs.declared.limits.TheConstants.{IDS}
use Rattle.core_steps.specs.Nodes.{Fixed}
use Rattle.core_machine.specs.declared.seat.Seat.{Seat}
use Rattle.core_machine.specs.Seats.{things_room}
use Rattle.core_seats.proofs.NearLists.{few_ids}
use Rattle.core_machine.specs.Cores.{CoreView, IsCore}
use Rattle.core_machine.specs.ListRooms.{HasThingsRoom}

-- there are at most as many records as there may be
pub few_records : {A : Type 0} (F : Fixed) (c : CoreView A) → IsCore F c → length F.start.ids ≤ IDS
few_records F c is = few_ids F is.lawful.validity is.ruled.start

-- a seat has room for the states of all things
pub room_here : (seats : List Seat) (i : ℕ) (s : Seat) → i < length seats → s ≡ get_or seats i s → All HasThingsRoom seats → HasThingsRoom s
room_here seats i s below is all = subst HasThingsRoom (sym is) (All-get_or HasThingsRoom seats i s below all)

pub room_for : (F : Fixed) (seats : List Seat) (i : ℕ) (s : Seat) → i < length seats → s ≡ get_or seats i s → All HasThingsRoom seats → length F.start.ids ≤ IDS
    → length F.start.ids ≤ things_room s
room_for F seats i s below is all few = let fits = room_here seats i s below is all in omega (arith, fits, few)

-- a seat that keeps its room is put in its place
pub rooms_set : (seats : List Seat) (i : ℕ) (s new : Seat) → i < length seats → s ≡ get_or seats i s → All HasThingsRoom seats → things_room new ≡ things_room s
    → All HasThingsRoom (set seats i new)
rooms_set seats i s new below is all same =
    All-set HasThingsRoom seats i new (subst (λ (n : ℕ). IDS ≤ n) (sym same) (room_here seats i s below is all)) all
