-- Each accepted move of a frame is a command of one of its packets, from the port of the client in its slot.
use Rattle.std.proofs.Common.{◌≡◌, ◌⊎◌, ℕ, ◌+◌, List, [], ◌∷◌, ◌++◌, length, All, Option, Some, None, Ok, sym, refl, ap, ◌∙◌, subst, inl, inr}
use Rattle.std.specs.Prelude.{nat_lt, slice_get}
use Rattle.std.specs.List.{Contains}
use Rattle.std.proofs.lemmas.List.{append_assoc}
use Rattle.std.proofs.lemmas.List.Elements.{All-append, All-cons, All-contains_itself, All-filter, All-head, All-nil, All-same, All-tail, All-weaker}
use Rattle.std.proofs.lemmas.Option.{none-some}
use Rattle.entity_recs.specs.Commands.{Command}
use Rattle.packet_read.specs.declared.move_packet.MovePacket.{MovePacket}
use Rattle.packet_read.specs.declared.packet.Packet.{Packet}
use Rattle.packet_read.specs.Commands.{commands_of}
use Rattle.packet_read.specs.Reading.{reading}
use Rattle.arena_map.specs.Maps.{MapView}
use Rattle.packet_read.specs.declared.arrival.Arrival.{Arrival}
use Rattle.client_ports.specs.declared.client.Client.{Client}
use Rattle.client_ports.specs.declared.client.LiveSlot.{LiveSlot}
use Rattle.client_ports.specs.NewMoves.{new_among}
use Rattle.client_ports.specs.Clients.{client_at, port_of, live_slot, new_client, with_client}
use Rattle.client_ports.specs.States.{State}
use Rattle.client_ports.specs.Lists.{Lists, no_lists}
use Rattle.client_ports.specs.Receiving.{Receiving, receiving_of, after_arrival, after_arrivals, received}
use Rattle.client_ports.specs.Laws.{IsRefused, IsJoined, IsLeave, IsCommandOf, AreCommandsOf, IsMove}
use Rattle.client_ports.specs.Frames.{IsOfAPacket, MovesAreOfPackets}
use Rattle.client_ports.proofs.Changes.{join-newcomer}
use Rattle.client_ports.proofs.Facts.{one_answer}
use Rattle.client_ports.proofs.Slots.{read-set}

-- ---- ports of live slots stay

-- where another client of the same port is put in a slot
swapped : (clients : List (Option Client)) (live : LiveSlot) (was : Client) (k port : ℕ) → client_at clients live.slot ≡ Some was → live.client.port ≡ was.port
    → port_of (client_at clients k) ≡ Some port → port_of (client_at (with_client clients live) k) ≡ Some port
swapped clients live was k port in_slot same has = elim (read-set clients live.slot k (Some live.client)) [
  | inl at ↦ ap port_of at.2 ∙ ap Some same ∙ sym (ap port_of (ap (client_at clients) at.0 ∙ in_slot)) ∙ has
  | inr kept ↦ ap port_of kept ∙ has
]

-- where a port joins in a free slot
joined : (clients : List (Option Client)) (new slot k port : ℕ) → client_at clients slot ≡ None
    → port_of (client_at clients k) ≡ Some port → port_of (client_at (with_client clients (live_slot slot (new_client new))) k) ≡ Some port
joined clients new slot k port free has = elim (read-set clients slot k (Some (new_client new))) [
  | inl at ↦ absurd (none-some port (sym (ap port_of (ap (client_at clients) at.0 ∙ free)) ∙ has))
  | inr kept ↦ ap port_of kept ∙ has
]

-- a live slot keeps its port through a packet
port-kept : (map : MapView) (frame : ℕ) (r : Receiving) (place : ℕ) (a : Arrival) (k port : ℕ) → port_of (client_at r.state.clients k) ≡ Some port
    → port_of (client_at (after_arrival map frame r place a).state.clients k) ≡ Some port
port-kept map frame r place a k port has = by (one_answer map frame r place a)
  where
    next : Receiving
    next = after_arrival map frame r place a

    kept-in : (s : State) → next.state ≡ s → port_of (client_at s.clients k) ≡ Some port → port_of (client_at next.state.clients k) ≡ Some port
    kept-in s e h = ap (λ (t : State). port_of (client_at t.clients k)) e ∙ h

    by : (IsRefused r next place ⊎ IsJoined map r next a) ⊎ (IsLeave r next a ⊎ IsMove frame r next a) → port_of (client_at next.state.clients k) ≡ Some port
    by (inl (inl f)) = kept-in _ f.state has
    by (inl (inr j)) = kept-in _ j.state (joined r.state.clients a.port j.to.slot k port (join-newcomer map r.state a.port j.to j.answer).free has)
    by (inr (inl l)) = kept-in _ l.state (swapped r.state.clients l.live l.accepted.was k port l.accepted.in_slot (ap (λ (c : Client). c.port) l.accepted.is) has)
    by (inr (inr m)) = kept-in _ m.state (swapped r.state.clients m.live m.accepted.was k port m.accepted.in_slot (ap (λ (c : Client). c.port) m.accepted.is) has)

-- ---- one packet more

-- the new commands of a packet are some of its commands
new-said : (last : ℕ) (steps : List MovePacket) → All (Contains steps) (new_among last steps)
new-said last steps = All-filter (λ (m : MovePacket). nat_lt last m.seq) (Contains steps) steps (All-contains_itself steps)

module _ (map : MapView) (frame : ℕ) (all : List Arrival) where
  -- each move so far is of one of the packets
  abbrev AreOf : Receiving → Type 0
  AreOf r = All (IsOfAPacket frame r.state.clients all) r.lists.moves

  -- commands of moves that a packet has are of that packet
  commands-of : (clients : List (Option Client)) (number slot : ℕ) (a : Arrival) (packet : Packet) (steps : List MovePacket) (commands : List Command)
      → slice_get all number ≡ Some a → reading a.bytes ≡ Ok packet → All (Contains (commands_of packet)) steps → AreCommandsOf frame slot steps commands
      → port_of (client_at clients slot) ≡ Some a.port → All (IsOfAPacket frame clients all) commands
  commands-of clients number slot a packet [] [] at read said are own = All-nil (IsOfAPacket frame clients all)
  commands-of clients number slot a packet [] (c ∷ commands) at read said are own = absurd are
  commands-of clients number slot a packet (m ∷ steps) [] at read said are own = absurd are
  commands-of clients number slot a packet (m ∷ steps) (c ∷ commands) at read said are own =
      let same : c.slot ≡ slot = are.0.in_slot in
      All-cons (IsOfAPacket frame clients all) c commands
      (record {
        number = number;
        a = a;
        packet = packet;
        step = m;
        at = at;
        read = read;
        said = All-head (Contains (commands_of packet)) m steps said;
        fields = subst (λ (k : ℕ). IsCommandOf frame k m c) (sym same) are.0;
        own_port = ap (λ (k : ℕ). port_of (client_at clients k)) same ∙ own;
      })
      (commands-of clients number slot a packet steps commands at read (All-tail (Contains (commands_of packet)) m steps said) are.1 own)

  of-step : (r : Receiving) (place number : ℕ) (a : Arrival) → slice_get all number ≡ Some a → AreOf r → AreOf (after_arrival map frame r place a)
  of-step r place number a at so_far = by (one_answer map frame r place a)
    where
      next : Receiving
      next = after_arrival map frame r place a

      kept : All (IsOfAPacket frame next.state.clients all) r.lists.moves
      kept = All-weaker (IsOfAPacket frame r.state.clients all) (IsOfAPacket frame next.state.clients all)
          (λ c h. record {
            number = h.number;
            a = h.a;
            packet = h.packet;
            step = h.step;
            at = h.at;
            read = h.read;
            said = h.said;
            fields = h.fields;
            own_port = port-kept map frame r place a c.slot h.a.port h.own_port;
          }) r.lists.moves so_far

      same : (l : Lists) → next.lists ≡ l → l.moves ≡ r.lists.moves → AreOf next
      same l e moves = All-same (IsOfAPacket frame next.state.clients all) next.lists.moves r.lists.moves (ap (λ (m : Lists). m.moves) e ∙ moves) kept

      by : (IsRefused r next place ⊎ IsJoined map r next a) ⊎ (IsLeave r next a ⊎ IsMove frame r next a) → AreOf next
      by (inl (inl f)) = same _ f.lists refl
      by (inl (inr j)) = same _ j.lists refl
      by (inr (inl l)) = same _ l.lists refl
      by (inr (inr m)) =
          let was = m.accepted.was in
          let port : m.live.client.port ≡ was.port = ap (λ (c : Client). c.port) m.accepted.is in
          let there = swapped r.state.clients m.live was m.live.slot was.port m.accepted.in_slot port (ap port_of m.accepted.in_slot) in
          let own : port_of (client_at next.state.clients m.live.slot) ≡ Some a.port =
          ap (λ (s : State). port_of (client_at s.clients m.live.slot)) m.state ∙ there ∙ ap Some (sym port ∙ m.own_port) in
          let said : All (Contains (commands_of m.packet)) m.new = subst (All (Contains (commands_of m.packet))) (sym m.accepted.are_new) (new-said was.last (commands_of m.packet)) in
          All-same (IsOfAPacket frame next.state.clients all) next.lists.moves (r.lists.moves ++ m.commands) (ap (λ (l : Lists). l.moves) m.lists)
          (All-append (IsOfAPacket frame next.state.clients all) r.lists.moves m.commands kept
          (commands-of next.state.clients number m.live.slot a m.packet m.new m.commands at m.read said m.of_packet own))

  -- the packet after some is at the place of how many they are
  at-end : (before : List Arrival) (a : Arrival) (more : List Arrival) → slice_get (before ++ a ∷ more) (length before) ≡ Some a
  at-end [] a more = refl
  at-end (b ∷ before) a more = at-end before a more

  of-through : (r : Receiving) (place : ℕ) (before arrivals : List Arrival) → all ≡ before ++ arrivals → AreOf r → AreOf (after_arrivals map frame r place arrivals)
  of-through r place before [] e so_far = so_far
  of-through r place before (a ∷ more) e so_far =
      of-through (after_arrival map frame r place a) (place + 1) (before ++ a ∷ []) more (e ∙ sym (append_assoc before (a ∷ []) more))
      (of-step r place (length before) a (ap (λ (xs : List Arrival). slice_get xs (length before)) e ∙ at-end before a more) so_far)

-- each accepted move of a frame is a command of one of its packets
pub moves_of_packets : MovesAreOfPackets
unfolding received
moves_of_packets map frame state arrivals =
    of-through map frame arrivals (receiving_of state no_lists) 0 [] arrivals refl (All-nil (IsOfAPacket frame state.clients arrivals))
