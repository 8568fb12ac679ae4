-- The packets of a frame are taken in order, each at its own place, and so the refusals have the places of their packets.
use Rattle.std.specs.Prelude.{slice_get, All}
use Rattle.std.proofs.Common.{◌≡◌, ◌⊎◌, ◌↔◌, ℕ, zero, suc, ◌+◌, ◌<◌, List, [], ◌∷◌, ◌++◌, length, take, Some, sym, refl, ap, ◌∙◌, subst, inl, inr, arith}
use Rattle.std.specs.List.{Contains}
use Rattle.std.specs.List.Sorted.{IsStrictlyIncreasing}
use Rattle.std.proofs.lemmas.List.{map-append}
use Rattle.std.proofs.lemmas.List.Elements.{All-nil, All-push, All-weaker, Contains-append_left, Contains-push, Contains-push_cases}
use Rattle.std.proofs.lemmas.Option.{none-some, same_Some}
use Rattle.packet_read.specs.Reading.{reading}
use Rattle.arena_map.specs.Maps.{MapView, IsMap}
use Rattle.packet_read.specs.declared.arrival.Arrival.{Arrival}
use Rattle.entity_recs.proofs.Ids.{rising_with}
use Rattle.client_ports.specs.declared.received.Refused.{Refused}
use Rattle.client_ports.specs.declared.refusal.Refusal.{Refusal}
use Rattle.client_ports.specs.States.{State, IsServerState}
use Rattle.client_ports.specs.Lists.{Lists, no_lists, with_refusal}
use Rattle.client_ports.specs.Receiving.{Receiving, receiving_of, after_refusal, after_arrival, after_arrivals, received}
use Rattle.client_ports.specs.Refusals.{RefusalHolds}
use Rattle.client_ports.specs.Laws.{IsRefused, IsJoined, IsLeave, IsMove}
use Rattle.client_ports.specs.Frames.{PacketsAreTakenInTurn, IsRefusedIn, places_of, RefusalsHaveTheirPlaces}
use Rattle.client_ports.proofs.Facts.{one_answer}
use Rattle.client_ports.proofs.Refusals.{refused_where_it_holds}
use Rattle.client_ports.proofs.Staying.{server_next}

-- ---- in turn

-- one arrival more has the place after those before it
one_more : (map : MapView) (frame : ℕ) (r : Receiving) (place : ℕ) (arrivals : List Arrival) (a : Arrival)
    → after_arrivals map frame r place (arrivals ++ a ∷ []) ≡ after_arrival map frame (after_arrivals map frame r place arrivals) (place + length arrivals) a
one_more map frame r place [] a = ap (λ k. after_arrival map frame r k a) (omega arith)
one_more map frame r place (b ∷ arrivals) a =
    let next = after_arrival map frame r place b in
    let rest = after_arrivals map frame next (place + 1) arrivals in
    let there : place + 1 + length arrivals ≡ place + length (b ∷ arrivals) = omega arith in
    one_more map frame next (place + 1) arrivals a ∙ ap (λ k. after_arrival map frame rest k a) there

pub taken_in_turn : PacketsAreTakenInTurn
unfolding received
taken_in_turn = record {
  none = λ map frame state. refl;
  one_more = λ map frame state arrivals a.
      one_more map frame (receiving_of state no_lists) 0 arrivals a
      ∙ ap (λ k. after_arrival map frame (after_arrivals map frame (receiving_of state no_lists) 0 arrivals) k a) (omega arith);
}

-- ---- the places of refusals

-- a refusal is that of an arrival, the first of which has this place
record IsRefusedFrom (map : MapView) (frame : ℕ) (r : Receiving) (place : ℕ) (arrivals : List Arrival) (t : Refused) : Type 0 where
  number : ℕ
  there : t.place ≡ place + number
  a : Arrival
  at : slice_get arrivals number ≡ Some a
  holds : RefusalHolds map (after_arrivals map frame r place (take number arrivals)).state (reading a.bytes) a.port t.why

-- what one arrival adds to the refusals
record IsRefusedNow (map : MapView) (r : Receiving) (place : ℕ) (a : Arrival) (t : Refused) : Type 0 where
  there : t.place ≡ place
  holds : RefusalHolds map r.state (reading a.bytes) a.port t.why

refusal_now : (map : MapView) (frame : ℕ) (r : Receiving) (place : ℕ) (a : Arrival) (t : Refused) → IsServerState map r.state
    → Contains (after_arrival map frame r place a).lists.refused t → Contains r.lists.refused t ⊎ IsRefusedNow map r place a t
refusal_now map frame r place a t is has = by (one_answer map frame r place a)
  where
    next : Receiving
    next = after_arrival map frame r place a

    same : (l : Lists) → next.lists ≡ l → Contains l.refused t
    same l e = subst (λ (m : Lists). Contains m.refused t) e has

    by : (IsRefused r next place ⊎ IsJoined map r next a) ⊎ (IsLeave r next a ⊎ IsMove frame r next a) → Contains r.lists.refused t ⊎ IsRefusedNow map r place a t
    by (inl (inl f)) =
        let this : Refused = record { place = place; why = f.why } in
        let is_next : next ≡ after_refusal r place f.why = λ i. record { state = f.state i; lists = f.lists i } in
        let holds = (refused_where_it_holds map frame r place a f.why is.clients is.fits).0 is_next in
        elim (Contains-push_cases r.lists.refused this t (same (with_refusal r.lists place f.why) f.lists)) [
          | inl before ↦ inl before
          | inr now ↦ inr (record {
            there = ap (λ (u : Refused). u.place) (sym now);
            holds = subst (λ (u : Refused). RefusalHolds map r.state (reading a.bytes) a.port u.why) now holds;
          })
        ]
    by (inl (inr j)) = inl (same _ j.lists)
    by (inr (inl l)) = inl (same _ l.lists)
    by (inr (inr m)) = inl (same _ m.lists)

kept_refusal : (map : MapView) (frame : ℕ) (r : Receiving) (place : ℕ) (a : Arrival) (t : Refused)
    → Contains r.lists.refused t → Contains (after_arrival map frame r place a).lists.refused t
kept_refusal map frame r place a t has = by (one_answer map frame r place a)
  where
    next : Receiving
    next = after_arrival map frame r place a

    same : (l : Lists) → next.lists ≡ l → Contains l.refused t → Contains next.lists.refused t
    same l e h = subst (λ (m : Lists). Contains m.refused t) (sym e) h

    by : (IsRefused r next place ⊎ IsJoined map r next a) ⊎ (IsLeave r next a ⊎ IsMove frame r next a) → Contains next.lists.refused t
    by (inl (inl f)) = same _ f.lists (Contains-append_left r.lists.refused (record { place = place; why = f.why } ∷ []) t has)
    by (inl (inr j)) = same _ j.lists has
    by (inr (inl l)) = same _ l.lists has
    by (inr (inr m)) = same _ m.lists has

kept_through : (map : MapView) (frame : ℕ) (r : Receiving) (place : ℕ) (arrivals : List Arrival) (t : Refused)
    → Contains r.lists.refused t → Contains (after_arrivals map frame r place arrivals).lists.refused t
kept_through map frame r place [] t has = has
kept_through map frame r place (a ∷ more) t has = kept_through map frame (after_arrival map frame r place a) (place + 1) more t (kept_refusal map frame r place a t has)

-- each refusal that is added is that of its arrival
refused_at : (map : MapView) (frame : ℕ) (r : Receiving) (place : ℕ) (arrivals : List Arrival) (t : Refused) → IsMap map → IsServerState map r.state
    → Contains (after_arrivals map frame r place arrivals).lists.refused t → Contains r.lists.refused t ⊎ IsRefusedFrom map frame r place arrivals t
refused_at map frame r place [] t rules is has = inl has
refused_at map frame r place (a ∷ more) t rules is has =
    let next = after_arrival map frame r place a in
    elim (refused_at map frame next (place + 1) more t rules (server_next map frame r place a rules is) has) [
      | inl h ↦ elim (refusal_now map frame r place a t is h) [
        | inl before ↦ inl before
        | inr now ↦ inr (record { number = zero; there = omega (arith, now.there); a = a; at = refl; holds = now.holds })
      ]
      | inr later ↦ inr (record { number = suc later.number; there = omega (arith, later.there); a = later.a; at = later.at; holds = later.holds })
    ]

-- and each arrival with a reason has its refusal
refused_there : (map : MapView) (frame : ℕ) (r : Receiving) (place number : ℕ) (arrivals : List Arrival) (a : Arrival) (t : Refused) → IsMap map → IsServerState map r.state
    → t.place ≡ place + number → slice_get arrivals number ≡ Some a
    → RefusalHolds map (after_arrivals map frame r place (take number arrivals)).state (reading a.bytes) a.port t.why
    → Contains (after_arrivals map frame r place arrivals).lists.refused t
refused_there map frame r place number [] a t rules is there at holds = absurd (none-some a at)
refused_there map frame r place zero (b ∷ more) a t rules is there at holds =
    let e : b ≡ a = same_Some b a at in
    let why = subst (λ (x : Arrival). RefusalHolds map r.state (reading x.bytes) x.port t.why) (sym e) holds in
    let next = (refused_where_it_holds map frame r place b t.why is.clients is.fits).1 why in
    let this : Refused = record { place = place; why = t.why } in
    let here : place ≡ t.place = omega (arith, there) in
    let same : this ≡ t = λ i. record { place = here i; why = t.why } in
    let added : Contains (after_refusal r place t.why).lists.refused t = subst (Contains (after_refusal r place t.why).lists.refused) same (Contains-push r.lists.refused this) in
    kept_through map frame (after_arrival map frame r place b) (place + 1) more t (subst (λ (n : Receiving). Contains n.lists.refused t) (sym next) added)
refused_there map frame r place (suc number) (b ∷ more) a t rules is there at holds =
    refused_there map frame (after_arrival map frame r place b) (place + 1) number more a t rules (server_next map frame r place b rules is) (omega (arith, there)) at holds

-- both ways
refusals_placed : (map : MapView) (frame : ℕ) (state : State) (arrivals : List Arrival) (t : Refused) → IsMap map → IsServerState map state
    → Contains (received map frame state arrivals).lists.refused t ↔ IsRefusedIn map frame state arrivals t
unfolding received
refusals_placed map frame state arrivals t rules is = (one, other)
  where
    start : Receiving
    start = receiving_of state no_lists

    one : Contains (after_arrivals map frame start 0 arrivals).lists.refused t → IsRefusedIn map frame state arrivals t
    one has = elim (refused_at map frame start 0 arrivals t rules is has) [
      | inl none ↦ absurd (omega (arith, none.1))
      | inr f ↦
          let same : f.number ≡ t.place = omega (arith, f.there) in
          record {
            a = f.a;
            at = ap (slice_get arrivals) (sym same) ∙ f.at;
            holds = subst (λ k. RefusalHolds map (after_arrivals map frame start 0 (take k arrivals)).state (reading f.a.bytes) f.a.port t.why) same f.holds;
          }
    ]

    other : IsRefusedIn map frame state arrivals t → Contains (after_arrivals map frame start 0 arrivals).lists.refused t
    other f = refused_there map frame start 0 t.place arrivals f.a t rules is (omega arith) f.at f.holds

-- ---- the places rise

-- the places rise, and are below this one
record RiseBelow (place : ℕ) (refused : List Refused) : Type 0 where
  rise : IsStrictlyIncreasing (places_of refused)
  below : All (λ k. k < place) (places_of refused)

rise_later : (place : ℕ) (refused : List Refused) → RiseBelow place refused → RiseBelow (place + 1) refused
rise_later place refused is = record { rise = is.rise; below = All-weaker (λ k. k < place) (λ k. k < place + 1) (λ k h. omega (arith, h)) (places_of refused) is.below }

rise_refusal : (place : ℕ) (l : Lists) (why : Refusal) → RiseBelow place l.refused → RiseBelow (place + 1) (with_refusal l place why).refused
rise_refusal place l why is =
    let later = rise_later place l.refused is in
    let parts : places_of l.refused ++ place ∷ [] ≡ places_of (with_refusal l place why).refused = sym (map-append (λ (t : Refused). t.place) l.refused (record { place = place; why = why } ∷ [])) in
    record {
      rise = subst IsStrictlyIncreasing parts (rising_with (places_of l.refused) place is.rise is.below);
      below = subst (All (λ k. k < place + 1)) parts (All-push (λ k. k < place + 1) (places_of l.refused) place later.below (omega arith));
    }

rise_next : (map : MapView) (frame : ℕ) (r : Receiving) (place : ℕ) (a : Arrival) → RiseBelow place r.lists.refused → RiseBelow (place + 1) (after_arrival map frame r place a).lists.refused
rise_next map frame r place a is = by (one_answer map frame r place a)
  where
    next : Receiving
    next = after_arrival map frame r place a

    same : (l : Lists) → next.lists ≡ l → RiseBelow (place + 1) l.refused → RiseBelow (place + 1) next.lists.refused
    same l e h = subst (λ (m : Lists). RiseBelow (place + 1) m.refused) (sym e) h

    by : (IsRefused r next place ⊎ IsJoined map r next a) ⊎ (IsLeave r next a ⊎ IsMove frame r next a) → RiseBelow (place + 1) next.lists.refused
    by (inl (inl f)) = same _ f.lists (rise_refusal place r.lists f.why is)
    by (inl (inr j)) = same _ j.lists (rise_later place r.lists.refused is)
    by (inr (inl l)) = same _ l.lists (rise_later place r.lists.refused is)
    by (inr (inr m)) = same _ m.lists (rise_later place r.lists.refused is)

rise_through : (map : MapView) (frame : ℕ) (r : Receiving) (place : ℕ) (arrivals : List Arrival) → RiseBelow place r.lists.refused
    → IsStrictlyIncreasing (places_of (after_arrivals map frame r place arrivals).lists.refused)
rise_through map frame r place [] is = is.rise
rise_through map frame r place (a ∷ more) is = rise_through map frame (after_arrival map frame r place a) (place + 1) more (rise_next map frame r place a is)

places_rise : (map : MapView) (frame : ℕ) (state : State) (arrivals : List Arrival) → IsStrictlyIncreasing (places_of (received map frame state arrivals).lists.refused)
unfolding received
places_rise map frame state arrivals =
    rise_through map frame (receiving_of state no_lists) 0 arrivals (record { rise = λ k below. absurd (omega (arith, below)); below = All-nil (λ k. k < 0) })

pub refusals_have_places : RefusalsHaveTheirPlaces
refusals_have_places = record { each = refusals_placed; rising = places_rise }
