-- Frames are taken in turn: each is received in the state that those before it leave, and its journal belongs to what is received there.
use Rattle.std.specs.Prelude.{slice_get}
use Rattle.std.proofs.Common.{◌≡◌, ℕ, zero, suc, ◌+◌, List, [], ◌∷◌, ◌++◌, length, take, Some, refl, ap, ◌∙◌, subst, arith}
use Rattle.std.proofs.lemmas.Option.{none-some, same_Some}
use Rattle.entity_recs.specs.declared.effect.Entry.{Entry}
use Rattle.move_journal.specs.Merges.{IsInOrder}
use Rattle.arena_map.specs.Maps.{MapView}
use Rattle.packet_read.specs.declared.arrival.Arrival.{Arrival}
use Rattle.client_ports.specs.States.{State}
use Rattle.client_ports.specs.Receiving.{Receiving}
use Rattle.plain_server.specs.RecordsById.{opening}
use Rattle.plain_server.specs.Frames.{received_in, state_after, state_played, IsRightAfter, AreRight, AreInOrder}
use Rattle.plain_server.specs.Laws.{received_at, FramesAreInTurn}

-- one frame more begins in the state that the others leave
one_more : (map : MapView) (frame : ℕ) (state : State) (frames : List (List Arrival)) (journals : List (List Entry)) (arrivals : List Arrival) (journal : List Entry) → length journals ≡ length frames
    → state_played map frame state (frames ++ arrivals ∷ []) (journals ++ journal ∷ [])
    ≡ state_after map (received_in map (frame + length frames) (state_played map frame state frames journals) arrivals) journal
one_more map frame state [] [] arrivals journal same = ap (λ k. state_after map (received_in map k state arrivals) journal) (omega arith)
one_more map frame state [] (j ∷ js) arrivals journal same = absurd (omega (arith, same))
one_more map frame state (a ∷ frames) [] arrivals journal same = absurd (omega (arith, same))
one_more map frame state (a ∷ frames) (j ∷ js) arrivals journal same =
    let next = state_after map (received_in map frame state a) j in
    let there : frame + 1 + length frames ≡ frame + length (a ∷ frames) = omega arith in
    one_more map (frame + 1) next frames js arrivals journal (omega (arith, same))
    ∙ ap (λ k. state_after map (received_in map k (state_played map (frame + 1) next frames js) arrivals) journal) there

-- ---- what holds of each frame, where this holds of frames from a state on

-- what is received in the frame with this place, where the first one has this number
abbrev pub received_from : MapView → ℕ → State → List (List Arrival) → List (List Entry) → ℕ → List Arrival → Receiving
received_from map frame state frames journals k arrivals = received_in map (frame + k) (state_played map frame state (take k frames) (take k journals)) arrivals

-- it holds of what is received in each frame and of its journal
abbrev HoldsOfEach : (Receiving → List Entry → Type 0) → MapView → ℕ → State → List (List Arrival) → List (List Entry) → Type 0
HoldsOfEach P map frame state frames journals =
    (k : ℕ) (arrivals : List Arrival) (journal : List Entry) → slice_get frames k ≡ Some arrivals → slice_get journals k ≡ Some journal
    → P (received_from map frame state frames journals k arrivals) journal

module _ (P : Receiving → List Entry → Type 0) (map : MapView) (frame : ℕ) (state : State) (a : List Arrival) (frames : List (List Arrival)) (j : List Entry) (js : List (List Entry)) where
  abbrev first : Receiving
  first = received_in map frame state a

  abbrev next : State
  next = state_after map first j

  -- of the first and of the rest, and so of each
  each_of : P first j → HoldsOfEach P map (frame + 1) next frames js → HoldsOfEach P map frame state (a ∷ frames) (j ∷ js)
  each_of here rest zero arrivals journal at at_j =
      let there : frame ≡ frame + 0 = omega arith in
      let one = subst (λ k. P (received_in map k state a) j) there here in
      let two = subst (λ (x : List Arrival). P (received_in map (frame + 0) state x) j) (same_Some a arrivals at) one in
      subst (P (received_in map (frame + 0) state arrivals)) (same_Some j journal at_j) two
  each_of here rest (suc k) arrivals journal at at_j =
      let there : frame + 1 + k ≡ frame + suc k = omega arith in
      subst (λ n. P (received_in map n (state_played map (frame + 1) next (take k frames) (take k js)) arrivals) journal) there (rest k arrivals journal at at_j)

  -- and the other way round
  of_first : HoldsOfEach P map frame state (a ∷ frames) (j ∷ js) → P first j
  of_first each =
      let there : frame + 0 ≡ frame = omega arith in
      subst (λ k. P (received_in map k state a) j) there (each 0 a j refl refl)

  of_rest : HoldsOfEach P map frame state (a ∷ frames) (j ∷ js) → HoldsOfEach P map (frame + 1) next frames js
  of_rest each k arrivals journal at at_j =
      let there : frame + suc k ≡ frame + 1 + k = omega arith in
      subst (λ n. P (received_in map n (state_played map (frame + 1) next (take k frames) (take k js)) arrivals) journal) there (each (suc k) arrivals journal at at_j)

none_each : (P : Receiving → List Entry → Type 0) (map : MapView) (frame : ℕ) (state : State) → HoldsOfEach P map frame state [] []
none_each P map frame state k arrivals journal at at_j = absurd (none-some arrivals at)

-- ---- right journals, and those in the order of arrival

abbrev IsOrderedAfter : Receiving → List Entry → Type 0
IsOrderedAfter r journal = IsInOrder journal r.lists.moves

right_each : (map : MapView) (frame : ℕ) (state : State) (frames : List (List Arrival)) (journals : List (List Entry)) → AreRight map frame state frames journals
    → HoldsOfEach (IsRightAfter map) map frame state frames journals
right_each map frame state [] [] right = none_each (IsRightAfter map) map frame state
right_each map frame state [] (j ∷ js) right = absurd right
right_each map frame state (a ∷ frames) [] right = absurd right
right_each map frame state (a ∷ frames) (j ∷ js) right =
    each_of (IsRightAfter map) map frame state a frames j js right.0 (right_each map (frame + 1) (state_after map (received_in map frame state a) j) frames js right.1)

pub right_count : (map : MapView) (frame : ℕ) (state : State) (frames : List (List Arrival)) (journals : List (List Entry)) → AreRight map frame state frames journals → length journals ≡ length frames
right_count map frame state [] [] right = refl
right_count map frame state [] (j ∷ js) right = absurd right
right_count map frame state (a ∷ frames) [] right = absurd right
right_count map frame state (a ∷ frames) (j ∷ js) right =
    let rest = right_count map (frame + 1) (state_after map (received_in map frame state a) j) frames js right.1 in omega (arith, rest)

each_right : (map : MapView) (frame : ℕ) (state : State) (frames : List (List Arrival)) (journals : List (List Entry)) → length journals ≡ length frames
    → HoldsOfEach (IsRightAfter map) map frame state frames journals → AreRight map frame state frames journals
each_right map frame state [] [] same each = tt
each_right map frame state [] (j ∷ js) same each = absurd (omega (arith, same))
each_right map frame state (a ∷ frames) [] same each = absurd (omega (arith, same))
each_right map frame state (a ∷ frames) (j ∷ js) same each = (
  of_first (IsRightAfter map) map frame state a frames j js each,
  each_right map (frame + 1) (state_after map (received_in map frame state a) j) frames js (omega (arith, same)) (of_rest (IsRightAfter map) map frame state a frames j js each),
)

order_each : (map : MapView) (frame : ℕ) (state : State) (frames : List (List Arrival)) (journals : List (List Entry)) → AreInOrder map frame state frames journals
    → HoldsOfEach IsOrderedAfter map frame state frames journals
order_each map frame state [] [] order = none_each IsOrderedAfter map frame state
order_each map frame state [] (j ∷ js) order = absurd order
order_each map frame state (a ∷ frames) [] order = absurd order
order_each map frame state (a ∷ frames) (j ∷ js) order =
    each_of IsOrderedAfter map frame state a frames j js order.0 (order_each map (frame + 1) (state_after map (received_in map frame state a) j) frames js order.1)

order_count : (map : MapView) (frame : ℕ) (state : State) (frames : List (List Arrival)) (journals : List (List Entry)) → AreInOrder map frame state frames journals → length journals ≡ length frames
order_count map frame state [] [] order = refl
order_count map frame state [] (j ∷ js) order = absurd order
order_count map frame state (a ∷ frames) [] order = absurd order
order_count map frame state (a ∷ frames) (j ∷ js) order =
    let rest = order_count map (frame + 1) (state_after map (received_in map frame state a) j) frames js order.1 in omega (arith, rest)

each_order : (map : MapView) (frame : ℕ) (state : State) (frames : List (List Arrival)) (journals : List (List Entry)) → length journals ≡ length frames
    → HoldsOfEach IsOrderedAfter map frame state frames journals → AreInOrder map frame state frames journals
each_order map frame state [] [] same each = tt
each_order map frame state [] (j ∷ js) same each = absurd (omega (arith, same))
each_order map frame state (a ∷ frames) [] same each = absurd (omega (arith, same))
each_order map frame state (a ∷ frames) (j ∷ js) same each = (
  of_first IsOrderedAfter map frame state a frames j js each,
  each_order map (frame + 1) (state_after map (received_in map frame state a) j) frames js (omega (arith, same)) (of_rest IsOrderedAfter map frame state a frames j js each),
)

-- ---- from the opening on

-- what holds from frame 0 on holds of each frame by its number
abbrev by_number : (P : Receiving → List Entry → Type 0) (map : MapView) (frames : List (List Arrival)) (journals : List (List Entry)) → HoldsOfEach P map 0 (opening map) frames journals
    → (k : ℕ) (arrivals : List Arrival) (journal : List Entry) → slice_get frames k ≡ Some arrivals → slice_get journals k ≡ Some journal → P (received_at map frames journals k arrivals) journal
by_number P map frames journals each k arrivals journal at at_j =
    let there : 0 + k ≡ k = omega arith in
    subst (λ n. P (received_in map n (state_played map 0 (opening map) (take k frames) (take k journals)) arrivals) journal) there (each k arrivals journal at at_j)

from_number : (P : Receiving → List Entry → Type 0) (map : MapView) (frames : List (List Arrival)) (journals : List (List Entry))
    → ((k : ℕ) (arrivals : List Arrival) (journal : List Entry) → slice_get frames k ≡ Some arrivals → slice_get journals k ≡ Some journal → P (received_at map frames journals k arrivals) journal)
    → HoldsOfEach P map 0 (opening map) frames journals
from_number P map frames journals each k arrivals journal at at_j =
    let there : k ≡ 0 + k = omega arith in
    subst (λ n. P (received_in map n (state_played map 0 (opening map) (take k frames) (take k journals)) arrivals) journal) there (each k arrivals journal at at_j)

pub frames_in_turn : FramesAreInTurn
frames_in_turn = record {
  none = λ map. refl;
  one_more = λ map frames journals arrivals journal same.
      one_more map 0 (opening map) frames journals arrivals journal same
      ∙ ap (λ k. state_after map (received_in map k (state_played map 0 (opening map) frames journals) arrivals) journal) (omega arith);
  right = λ map frames journals. (
    λ right. record {
      one_each = right_count map 0 (opening map) frames journals right;
      each = by_number (IsRightAfter map) map frames journals (right_each map 0 (opening map) frames journals right);
    },
    λ are. each_right map 0 (opening map) frames journals are.one_each (from_number (IsRightAfter map) map frames journals are.each),
  );
  order = λ map frames journals. (
    λ order. record {
      one_each = order_count map 0 (opening map) frames journals order;
      each = by_number IsOrderedAfter map frames journals (order_each map 0 (opening map) frames journals order);
    },
    λ are. each_order map 0 (opening map) frames journals are.one_each (from_number IsOrderedAfter map frames journals are.each),
  );
}
