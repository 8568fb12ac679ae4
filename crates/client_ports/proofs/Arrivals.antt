-- The loops of the receive pass and of the end of a frame.
use Rattle.std.proofs.Common.{◌≡◌, ℕ, zero, suc, ◌+◌, ◌<◌, ◌≤◌, List, [], ◌∷◌, length, drop, sym, refl, ap, ◌∙◌, arith, drop-cons, get_or}
use Rattle.arena_map.specs.Maps.{MapView}
use Rattle.packet_read.specs.declared.arrival.Arrival.{Arrival}
use Rattle.client_ports.specs.Receiving.{Receiving, after_arrival, after_arrivals}

-- one arrival more
pub arrivals-next : (map : MapView) (frame : ℕ) (r next all : Receiving) (place i : ℕ) (a : Arrival) (arrivals : List Arrival)
    → i < length arrivals → a ≡ get_or arrivals i a → next ≡ after_arrival map frame r place a
    → after_arrivals map frame r place (drop i arrivals) ≡ all
    → after_arrivals map frame next (place + 1) (drop (i + 1) arrivals) ≡ all
arrivals-next map frame r next all place i a arrivals below is e h =
    let one : i + 1 ≡ suc i = omega arith in
    let here : drop i arrivals ≡ a ∷ drop (i + 1) arrivals = drop-cons arrivals i a below ∙ ap (λ x. x ∷ drop (suc i) arrivals) (sym is) ∙ ap (λ k. a ∷ drop k arrivals) (sym one) in
    ap (λ n. after_arrivals map frame n (place + 1) (drop (i + 1) arrivals)) e ∙ ap (after_arrivals map frame r place) (sym here) ∙ h

-- no arrival is left
pub arrivals-end : (map : MapView) (frame : ℕ) (r all : Receiving) (place i : ℕ) (arrivals : List Arrival) → length arrivals ≤ i
    → after_arrivals map frame r place (drop i arrivals) ≡ all → r ≡ all
arrivals-end map frame r all place i arrivals past h =
    let none : drop i arrivals ≡ [] = drop_past i arrivals past in
    ap (after_arrivals map frame r place) (sym none) ∙ h
  where
    drop_past : (n : ℕ) (xs : List Arrival) → length xs ≤ n → drop n xs ≡ []
    drop_past zero [] p = refl
    drop_past (suc n) [] p = refl
    drop_past zero (x ∷ xs) p = absurd (omega (arith, p))
    drop_past (suc n) (x ∷ xs) p = drop_past n xs (omega (arith, p))
