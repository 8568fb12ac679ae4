-- That the slots stay those of the clients.
use Rattle.std.proofs.Common.{◌≡◌, ◌⊎◌, ℕ, zero, suc, ◌<◌, ◌≤◌, List, [], ◌∷◌, length, Option, Some, None, is_some, slice_index_or, slice_set, sym, refl, ap, ◌∙◌, subst, inl, inr, arith, get_or-set_same, get_or-set_other}
use Rattle.std.proofs.lemmas.Bool.{cases_eq, cases_lt}
use Rattle.std.proofs.lemmas.List.{get_or_past, get_or-replicate, length-map, length-replicate, length-set, map-set, set-get_or}
use Rattle.std.proofs.lemmas.Option.{none-some, same_Some}
use Rattle.entity_slots.specs.Ports.{no_ports, port_at, AreSlots, with_port, without_slot}
use Rattle.entity_slots.proofs.Changes.{no_ports-are_slots, with_port-are_slots, without_slot-are_slots}
use Rattle.client_ports.specs.declared.client.Client.{Client}
use Rattle.client_ports.specs.declared.client.LiveSlot.{LiveSlot}
use Rattle.client_ports.specs.Clients.{no_clients, client_at, port_of, ports_of, live_slot, new_client, with_client, ArePorts, IsUpdate, IsSlotFor}

-- there are as many slots as clients
pub client_count : (clients : List (Option Client)) → AreSlots (ports_of clients) → length clients ≡ 64
client_count clients are = sym (length-map clients port_of) ∙ are.count

-- the port of a slot is that of its client
pub port_at-client : (clients : List (Option Client)) (slot : ℕ) → port_at (ports_of clients) slot ≡ port_of (client_at clients slot)
port_at-client [] slot = refl
port_at-client (c ∷ clients) zero = refl
port_at-client (c ∷ clients) (suc slot) = port_at-client clients slot

-- what is read at a place after it was written, or not
pub read-set : {X : Type 0} (xs : List (Option X)) (i j : ℕ) (place : Option X)
    → ((j ≡ i) × (i < length xs) × (slice_index_or (slice_set xs i place) j None ≡ place)) ⊎ (slice_index_or (slice_set xs i place) j None ≡ slice_index_or xs j None)
read-set {X} xs i j place = elim (cases_eq j i) [
  | inl same ↦ elim (cases_lt i (length xs)) [
    | inl below ↦ inl (same, below, ap (λ k. slice_index_or (slice_set xs i place) k None) same ∙ get_or-set_same xs i place None below)
    | inr past ↦ inr (get_or_past (slice_set xs i place) j None (omega (arith, past, same, length-set xs i place)) ∙ sym (get_or_past xs j None (omega (arith, past, same))))
  ]
  | inr apart ↦ inr (get_or-set_other xs i j place None apart)
]

-- each client still has few moves
few-set : (clients : List (Option Client)) (slot : ℕ) (place : Option Client)
    → ((k : ℕ) (c : Client) → client_at clients k ≡ Some c → c.moves ≤ 8) → ((c : Client) → place ≡ Some c → c.moves ≤ 8)
    → (k : ℕ) (c : Client) → client_at (slice_set clients slot place) k ≡ Some c → c.moves ≤ 8
few-set clients slot place few here k c e = elim (read-set clients slot k place) [
  | inl at ↦ here c (sym at.2 ∙ e)
  | inr kept ↦ few k c (sym kept ∙ e)
]

-- nobody is joined in free slots
pub no_clients-are_ports : ArePorts no_ports no_clients
no_clients-are_ports = record {
  ports_are = refl;
  clients_are = record {
    slots = no_ports-are_slots;
    few_moves = λ slot c e. absurd (none-some c (sym (none-at slot) ∙ e));
  };
}
  where
    none-at : (slot : ℕ) → client_at no_clients slot ≡ None
    none-at slot = elim (cases_lt slot 64) [
      | inl below ↦ get_or-replicate 64 slot None None below
      | inr past ↦ get_or_past no_clients slot None (omega (arith, past, length-replicate {A = Option Client} 64 None))
    ]

-- the slots stay those of the clients where a port joins in a free slot
pub join-are_ports : (ports : List (Option ℕ)) (clients : List (Option Client)) (port slot : ℕ) → ArePorts ports clients → IsSlotFor clients port slot
    → ArePorts (with_port ports slot port) (with_client clients (live_slot slot (new_client port)))
join-are_ports ports clients port slot are to =
    let written = map-set port_of clients slot (Some (new_client port)) in
    record {
      ports_are = ap (λ p. with_port p slot port) are.ports_are ∙ sym written;
      clients_are = record {
        slots = subst AreSlots (sym written) (with_port-are_slots (ports_of clients) slot port are.clients_are.slots to.in_range to.not_joined);
        few_moves = few-set clients slot (Some (new_client port)) are.clients_are.few_moves (λ c e. new c (same_Some (new_client port) c e));
      };
    }
  where
    new : (c : Client) → new_client port ≡ c → c.moves ≤ 8
    new c e = let none : c.moves ≡ 0 = sym (ap (λ d. d.moves) e) in omega (arith, none)

-- where another client of the same port is put in a slot
pub update-are_ports : (ports : List (Option ℕ)) (clients : List (Option Client)) (live : LiveSlot) → ArePorts ports clients → IsUpdate clients live
    → ArePorts ports (with_client clients live)
update-are_ports ports clients live are is =
    let written = map-set port_of clients live.slot (Some live.client) in
    let read = port_at-client clients live.slot ∙ is.same_port in
    let kept : ports_of (with_client clients live) ≡ ports_of clients = written ∙ ap (slice_set (ports_of clients) live.slot) (sym read) ∙ set-get_or (ports_of clients) live.slot None in
    record {
      ports_are = are.ports_are ∙ sym kept;
      clients_are = record {
        slots = subst AreSlots (sym kept) are.clients_are.slots;
        few_moves = few-set clients live.slot (Some live.client) are.clients_are.few_moves (λ c e. few c (same_Some live.client c e));
      };
    }
  where
    few : (c : Client) → live.client ≡ c → c.moves ≤ 8
    few c e = let n : c.moves ≡ live.client.moves = sym (ap (λ d. d.moves) e) in omega (arith, n, is.few_moves)

-- and where a slot is freed
pub free-are_ports : (ports : List (Option ℕ)) (clients : List (Option Client)) (slot : ℕ) → ArePorts ports clients
    → ArePorts (without_slot ports slot) (slice_set clients slot None)
free-are_ports ports clients slot are =
    let written = map-set port_of clients slot None in
    record {
      ports_are = ap (λ p. without_slot p slot) are.ports_are ∙ sym written;
      clients_are = record {
        slots = subst AreSlots (sym written) (without_slot-are_slots (ports_of clients) slot are.clients_are.slots);
        few_moves = few-set clients slot None are.clients_are.few_moves (λ c e. absurd (none-some c e));
      };
    }

-- a slot is live exactly where its port is there
pub port_of-some : (place : Option Client) → is_some (port_of place) ≡ is_some place
port_of-some None = refl
port_of-some (Some c) = refl

pub port_of-none : (place : Option Client) → port_of place ≡ None → place ≡ None
port_of-none None e = refl
port_of-none (Some c) e = absurd (none-some c.port (sym e))
