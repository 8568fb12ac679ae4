-- The sequence numbers of a slot's moves rise from frame to frame, as long as its client stays.
use Rattle.std.specs.Prelude.{Contains, slice_get}
use Rattle.std.proofs.Common.{◌≡◌, ℕ, zero, suc, ◌+◌, ◌<◌, ◌≤◌, List, [], ◌∷◌, take, Some, refl, sym, ap, ◌∙◌, subst, arith}
use Rattle.std.proofs.lemmas.List.Elements.{All-head, All-tail, All-contains}
use Rattle.std.proofs.lemmas.Option.{none-some, same_Some}
use Rattle.entity_recs.specs.declared.effect.Entry.{Entry}
use Rattle.arena_map.specs.Maps.{MapView, IsMap}
use Rattle.packet_read.specs.declared.arrival.Arrival.{Arrival}
use Rattle.client_ports.specs.Clients.{client_at}
use Rattle.client_ports.specs.Frames.{last_of, numbers_of}
use Rattle.client_ports.specs.States.{State, IsServerState}
use Rattle.client_ports.specs.Receiving.{Receiving}
use Rattle.client_ports.proofs.Advances.{numbers_above, numbers_most}
use Rattle.client_ports.proofs.Leavers.{who_stays}
use Rattle.client_ports.proofs.Slots.{client_count}
use Rattle.plain_server.specs.Entries.{IsReception}
use Rattle.plain_server.specs.Frames.{state_after_tick, received_in, moved_by, state_after, state_played, first_of, rest_of}
use Rattle.plain_server.specs.Numbers.{HasClientThatStays, NumbersRiseAcrossFrames}
use Rattle.plain_server.specs.RecordsById.{opening}
use Rattle.plain_server.proofs.Frames.{opening_is, received_is, moved_by_is, state_after_is}
use Rattle.plain_server.proofs.Turns.{received_from}

-- a client that stays begins the next frame with the last number that it had
last_kept : (map : MapView) (r : Receiving) (journal : List Entry) (slot : ℕ) → IsMap map → IsReception map r → HasClientThatStays slot r
    → last_of (client_at (state_after map r journal).clients slot) ≡ last_of (client_at r.state.clients slot)
last_kept map r journal slot is_map pass has =
    let moved = moved_by map r journal in
    let is : IsServerState map moved = moved_by_is map r journal is_map pass in
    let kept = who_stays moved slot has.client (client_count moved.clients is.clients.slots) is.places has.in_slot has.stays in
    ap last_of kept.in_slot ∙ kept.last ∙ sym (ap last_of has.in_slot)

-- ---- frames by their places, after the first one

first-taken : (k : ℕ) (journals : List (List Entry)) → first_of (take (suc k) journals) ≡ first_of journals
first-taken k [] = refl
first-taken k (j ∷ js) = refl

none-taken : (k : ℕ) → let none : List (List Entry) = [] in take k none ≡ []
none-taken zero = refl
none-taken (suc k) = refl

rest-taken : (k : ℕ) (journals : List (List Entry)) → rest_of (take (suc k) journals) ≡ take k (rest_of journals)
rest-taken k [] = sym (none-taken k)
rest-taken k (j ∷ js) = refl

-- a frame after the first one is one of those that begin in the state after it
shift : (map : MapView) (frame : ℕ) (state : State) (a : List Arrival) (frames : List (List Arrival)) (journals : List (List Entry)) (k : ℕ) (arrivals : List Arrival)
    → received_from map frame state (a ∷ frames) journals (suc k) arrivals
    ≡ received_from map (frame + 1) (state_after map (received_in map frame state a) (first_of journals)) frames (rest_of journals) k arrivals
shift map frame state a frames journals k arrivals =
    let number : frame + suc k ≡ frame + 1 + k = omega arith in
    let first = first-taken k journals in
    let rest = rest-taken k journals in
    λ i. received_in map (number i) (state_played map (frame + 1) (state_after map (received_in map frame state a) (first i)) (take k frames) (rest i)) arrivals

-- and the first one is that in the state before it
at-first : (map : MapView) (frame : ℕ) (state : State) (frames : List (List Arrival)) (journals : List (List Entry)) (arrivals : List Arrival)
    → received_from map frame state frames journals 0 arrivals ≡ received_in map frame state arrivals
at-first map frame state frames journals arrivals = ap (λ (n : ℕ). received_in map n state arrivals) (omega arith)

-- ---- from a state on

-- the slot has a client that stays in each of these frames
abbrev StaysFrom : MapView → ℕ → State → List (List Arrival) → List (List Entry) → ℕ → ℕ → ℕ → Type 0
StaysFrom map frame state frames journals slot first later =
    (k : ℕ) (arrivals : List Arrival) → first ≤ k → k < later → slice_get frames k ≡ Some arrivals → HasClientThatStays slot (received_from map frame state frames journals k arrivals)

-- the move of the slot with this number is accepted in the frame at this place
abbrev IsAcceptedFrom : MapView → ℕ → State → List (List Arrival) → List (List Entry) → ℕ → ℕ → List Arrival → ℕ → Type 0
IsAcceptedFrom map frame state frames journals slot k arrivals seq = Contains (numbers_of slot (received_from map frame state frames journals k arrivals).lists.moves) seq

-- what holds of the frames after the first one, as of frames that begin in the state after it
stays_rest : (map : MapView) (frame : ℕ) (state : State) (a : List Arrival) (frames : List (List Arrival)) (journals : List (List Entry)) (slot first later : ℕ)
    → ((k : ℕ) (arrivals : List Arrival) → suc first ≤ suc k → suc k < suc later → slice_get frames k ≡ Some arrivals → HasClientThatStays slot (received_from map frame state (a ∷ frames) journals (suc k) arrivals))
    → StaysFrom map (frame + 1) (state_after map (received_in map frame state a) (first_of journals)) frames (rest_of journals) slot first later
stays_rest map frame state a frames journals slot first later stay k arrivals low high at =
    subst (HasClientThatStays slot) (shift map frame state a frames journals k arrivals) (stay k arrivals (omega (arith, low)) (omega (arith, high)) at)

-- the numbers of a frame up to which the client stays are above what was at most the last one before
above_all : (map : MapView) (frame : ℕ) (state : State) (frames : List (List Arrival)) (journals : List (List Entry)) (slot most later : ℕ) (arrivals : List Arrival) (seq : ℕ) → IsMap map
    → IsServerState map state → most ≤ last_of (client_at state.clients slot) → StaysFrom map frame state frames journals slot 0 later → slice_get frames later ≡ Some arrivals
    → IsAcceptedFrom map frame state frames journals slot later arrivals seq → most < seq
above_all map frame state [] journals slot most later arrivals seq is_map is low stay at among = absurd (none-some arrivals at)
above_all map frame state (a ∷ frames) journals slot most zero arrivals seq is_map is low stay at among =
    let last = last_of (client_at state.clients slot) in
    let numbers = numbers_of slot (received_in map frame state arrivals).lists.moves in
    let here : Contains numbers seq = subst (λ (r : Receiving). Contains (numbers_of slot r.lists.moves) seq) (at-first map frame state (a ∷ frames) journals arrivals) among in
    let above : last < seq = All-contains (λ (n : ℕ). last < n) numbers seq (numbers_above map frame (state_after_tick map frame state) arrivals slot) here in
    omega (arith, low, above)
above_all map frame state (a ∷ frames) journals slot most (suc later) arrivals seq is_map is low stay at among =
    let r = received_in map frame state a in
    let pass = received_is map frame state a is_map is in
    let next = state_after map r (first_of journals) in
    let here = subst (HasClientThatStays slot) (at-first map frame state (a ∷ frames) journals a) (stay 0 a (omega arith) (omega arith) refl) in
    let kept = last_kept map r (first_of journals) slot is_map pass here in
    let last = last_of (client_at r.state.clients slot) in
    let numbers = numbers_of slot r.lists.moves in
    let grown : last_of (client_at state.clients slot) ≤ last =
    All-head (λ (n : ℕ). n ≤ last) (last_of (client_at state.clients slot)) numbers (numbers_most map frame (state_after_tick map frame state) a slot) in
    above_all map (frame + 1) next frames (rest_of journals) slot most later arrivals seq is_map (state_after_is map r (first_of journals) is_map pass) (omega (arith, low, grown, kept))
    (stays_rest map frame state a frames journals slot 0 later (λ k b lo hi found. stay (suc k) b (omega arith) hi found)) at
    (subst (λ (q : Receiving). Contains (numbers_of slot q.lists.moves) seq) (shift map frame state a frames journals later arrivals) among)

-- the numbers of a later frame are above those of an earlier one
rise_from : (map : MapView) (frame : ℕ) (state : State) (frames : List (List Arrival)) (journals : List (List Entry)) (slot first later : ℕ) (arrivals others : List Arrival) (seq above : ℕ) → IsMap map
    → IsServerState map state → first < later → StaysFrom map frame state frames journals slot first later → slice_get frames first ≡ Some arrivals → slice_get frames later ≡ Some others
    → IsAcceptedFrom map frame state frames journals slot first arrivals seq → IsAcceptedFrom map frame state frames journals slot later others above → seq < above
rise_from map frame state [] journals slot first later arrivals others seq above is_map is less stay at at_later among among_later = absurd (none-some arrivals at)
rise_from map frame state (a ∷ frames) journals slot first zero arrivals others seq above is_map is less stay at at_later among among_later = absurd (omega (arith, less))
rise_from map frame state (a ∷ frames) journals slot zero (suc later) arrivals others seq above is_map is less stay at at_later among among_later =
    let r = received_in map frame state a in
    let pass = received_is map frame state a is_map is in
    let here = subst (HasClientThatStays slot) (at-first map frame state (a ∷ frames) journals a) (stay 0 a (omega arith) (omega arith) refl) in
    let kept = last_kept map r (first_of journals) slot is_map pass here in
    let last = last_of (client_at r.state.clients slot) in
    let numbers = numbers_of slot r.lists.moves in
    let own : Contains (numbers_of slot (received_in map frame state arrivals).lists.moves) seq =
    subst (λ (q : Receiving). Contains (numbers_of slot q.lists.moves) seq) (at-first map frame state (a ∷ frames) journals arrivals) among in
    let one : Contains numbers seq = subst (λ (b : List Arrival). Contains (numbers_of slot (received_in map frame state b).lists.moves) seq) (sym (same_Some a arrivals at)) own in
    let low : seq ≤ last =
    All-contains (λ (n : ℕ). n ≤ last) numbers seq (All-tail (λ (n : ℕ). n ≤ last) (last_of (client_at state.clients slot)) numbers (numbers_most map frame (state_after_tick map frame state) a slot)) one in
    above_all map (frame + 1) (state_after map r (first_of journals)) frames (rest_of journals) slot seq later others above is_map (state_after_is map r (first_of journals) is_map pass) (omega (arith, low, kept))
    (stays_rest map frame state a frames journals slot 0 later (λ k b lo hi found. stay (suc k) b (omega arith) hi found)) at_later
    (subst (λ (q : Receiving). Contains (numbers_of slot q.lists.moves) above) (shift map frame state a frames journals later others) among_later)
rise_from map frame state (a ∷ frames) journals slot (suc first) (suc later) arrivals others seq above is_map is less stay at at_later among among_later =
    let r = received_in map frame state a in
    let pass = received_is map frame state a is_map is in
    rise_from map (frame + 1) (state_after map r (first_of journals)) frames (rest_of journals) slot first later arrivals others seq above is_map (state_after_is map r (first_of journals) is_map pass)
    (omega (arith, less)) (stays_rest map frame state a frames journals slot first later (λ k b lo hi found. stay (suc k) b lo hi found)) at at_later
    (subst (λ (q : Receiving). Contains (numbers_of slot q.lists.moves) seq) (shift map frame state a frames journals first arrivals) among)
    (subst (λ (q : Receiving). Contains (numbers_of slot q.lists.moves) above) (shift map frame state a frames journals later others) among_later)

-- ---- from the opening on

pub numbers_rise_on : NumbersRiseAcrossFrames
numbers_rise_on map frames journals slot first later seq above is_map less stay one other =
    let there : (k : ℕ) (arrivals : List Arrival) → received_from map 0 (opening map) frames journals k arrivals
    ≡ received_in map k (state_played map 0 (opening map) (take k frames) (take k journals)) arrivals =
    λ k arrivals. ap (λ (n : ℕ). received_in map n (state_played map 0 (opening map) (take k frames) (take k journals)) arrivals) (omega arith) in
    rise_from map 0 (opening map) frames journals slot first later one.arrivals other.arrivals seq above is_map (opening_is map is_map) less
    (λ k arrivals low high at. subst (HasClientThatStays slot) (sym (there k arrivals)) (stay k arrivals low high at)) one.of_frame other.of_frame
    (subst (λ (q : Receiving). Contains (numbers_of slot q.lists.moves) seq) (sym (there first one.arrivals)) one.accepted)
    (subst (λ (q : Receiving). Contains (numbers_of slot q.lists.moves) above) (sym (there later other.arrivals)) other.accepted)
