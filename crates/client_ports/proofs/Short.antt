-- A frame has at most 8 accepted moves for each of 64 slots.
use Rattle.std.proofs.Common.{◌≡◌, ℕ, zero, suc, ◌+◌, ◌*◌, ◌<◌, ◌≤◌, ◌==◌, Bool, true, false, cond, List, [], ◌∷◌, length, filter, All, Option, IsSome, refl, arith}
use Rattle.std.specs.Prelude.{nat_lt}
use Rattle.std.proofs.lemmas.Bool.Decides.{nat_tests}
use Rattle.std.proofs.lemmas.List.{length-map}
use Rattle.std.proofs.lemmas.List.Elements.{All-head, All-tail, All-weaker}
use Rattle.entity_recs.specs.Commands.{Command}
use Rattle.arena_map.specs.Maps.{MapView}
use Rattle.packet_read.specs.declared.arrival.Arrival.{Arrival}
use Rattle.client_ports.specs.declared.client.Client.{Client}
use Rattle.client_ports.specs.Clients.{client_at, AreClients}
use Rattle.client_ports.specs.States.{State}
use Rattle.client_ports.specs.Receiving.{received}
use Rattle.client_ports.specs.Frames.{numbers_of}
use Rattle.client_ports.proofs.Advances.{few_moves, movers_live}
use Rattle.client_ports.proofs.Slots.{client_count}
use Rattle.client_ports.proofs.Staying.{clients_received}

-- ---- the moves of the slots below one

-- the move is that of a slot below this one
abbrev is_below : ℕ → Command → Bool
is_below n c = nat_lt c.slot n

-- the move is that of this slot
abbrev is_own : ℕ → Command → Bool
is_own n c = c.slot == n

-- one move more, where the test holds
length-kept : (b : Bool) (c : Command) (moves : List Command) → length (cond b (c ∷ moves) moves) ≡ cond b 1 0 + length moves
length-kept true c moves = omega arith
length-kept false c moves = omega arith

-- a slot below the next one is below this one, or this one
test-next : (slot n : ℕ) → cond (nat_lt slot (suc n)) 1 0 ≡ cond (nat_lt slot n) 1 0 + cond (slot == n) 1 0
test-next slot n = grind (arith, nat_tests)

none-below : (moves : List Command) → length (filter (is_below 0) moves) ≡ 0
none-below [] = refl
none-below (c ∷ moves) =
    let rest = none-below moves in
    let kept = length-kept (nat_lt c.slot 0) c (filter (is_below 0) moves) in
    let none : ◌≡◌ {A = ℕ} (cond (nat_lt c.slot 0) 1 0) 0 = grind (arith, nat_tests) in
    omega (arith, kept, none, rest)

-- the moves of the slots below the next one are those below this one, and its own
more-below : (n : ℕ) (moves : List Command) → length (filter (is_below (suc n)) moves) ≡ length (filter (is_below n) moves) + length (filter (is_own n) moves)
more-below n [] = refl
more-below n (c ∷ moves) =
    let rest = more-below n moves in
    let next = length-kept (nat_lt c.slot (suc n)) c (filter (is_below (suc n)) moves) in
    let below = length-kept (nat_lt c.slot n) c (filter (is_below n) moves) in
    let own = length-kept (c.slot == n) c (filter (is_own n) moves) in
    omega (arith, next, below, own, rest, test-next c.slot n)

-- all of them, where each slot is below
all-below : (n : ℕ) (moves : List Command) → All (λ c. c.slot < n) moves → length (filter (is_below n) moves) ≡ length moves
all-below n [] below = refl
all-below n (c ∷ moves) below =
    let rest = all-below n moves (All-tail (λ (d : Command). d.slot < n) c moves below) in
    let here : c.slot < n = All-head (λ (d : Command). d.slot < n) c moves below in
    let kept = length-kept (nat_lt c.slot n) c (filter (is_below n) moves) in
    let one : ◌≡◌ {A = ℕ} (cond (nat_lt c.slot n) 1 0) 1 = grind (arith, nat_tests) in
    omega (arith, kept, one, rest)

-- where each slot has at most 8 moves, so many slots have 8 times as many at most
few-below : (n : ℕ) (moves : List Command) → ((slot : ℕ) → length (numbers_of slot moves) ≤ 8) → length (filter (is_below n) moves) ≤ 8 * n
few-below zero moves few = let none = none-below moves in omega (arith, none)
few-below (suc n) moves few =
    let rest = few-below n moves few in
    let more = more-below n moves in
    let own = few n in
    let count = length-map (filter (is_own n) moves) (λ (c : Command). c.seq) in
    omega (arith, rest, more, own, count)

-- ---- the moves of a frame

-- the slot of a live client is one of the slots
pub within : (clients : List (Option Client)) (slot : ℕ) → IsSome (client_at clients slot) → slot < length clients
within [] slot some = cc
within (x ∷ clients) zero some = omega arith
within (x ∷ clients) (suc slot) some = let rest = within clients slot some in omega (arith, rest)

-- a frame has at most 8 accepted moves for each of 64 slots, where no client has more than 8 after it
pub few_if_clients : (map : MapView) (frame : ℕ) (state : State) (arrivals : List Arrival) → AreClients (received map frame state arrivals).state.clients
    → length (received map frame state arrivals).lists.moves ≤ 8 * 64
few_if_clients map frame state arrivals after =
    let next = received map frame state arrivals in
    let clients = next.state.clients in
    let below : All (λ (c : Command). c.slot < 64) next.lists.moves =
    All-weaker (λ (c : Command). IsSome (client_at clients c.slot)) (λ (c : Command). c.slot < 64)
    (λ c live. omega (arith, within clients c.slot live, client_count clients after.slots)) next.lists.moves (movers_live map frame state arrivals) in
    let few = few-below 64 next.lists.moves (λ slot. few_moves map frame state arrivals slot after) in
    let all = all-below 64 next.lists.moves below in
    omega (arith, few, all)

-- and so where none has more before it
pub moves_are_few : (map : MapView) (frame : ℕ) (state : State) (arrivals : List Arrival) → AreClients state.clients
    → length (received map frame state arrivals).lists.moves ≤ 8 * 64
moves_are_few map frame state arrivals are = few_if_clients map frame state arrivals (clients_received map frame state arrivals are)
