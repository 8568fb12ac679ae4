-- What an answer changes in each slot.
use Rattle.std.proofs.Common.{◌≡◌, ℕ, ◌<◌, Bool, true, false, if◌then◌else◌, List, length, Option, Some, None, is_none, Ok, Err, ok_or, sym, refl, ◌∙◌, subst, inl, inr, arith}
use Rattle.std.proofs.lemmas.Bool.{cases_lt}
use Rattle.std.proofs.lemmas.List.{get_or_past, length-map}
use Rattle.std.proofs.lemmas.List.Quantifiers.{position-Some}
use Rattle.std.proofs.lemmas.Option.{none-some}
use Rattle.entity_slots.specs.declared.join_fault.JoinFault.TheVariants as fault
use Rattle.entity_slots.specs.Ports as slots
use Rattle.entity_slots.specs.Ports.{port_at}
use Rattle.entity_slots.specs.FreeSlots.{free_slot, slot_for}
use Rattle.arena_map.specs.Maps.{MapView}
use Rattle.client_ports.specs.declared.client.Client.{Client}
use Rattle.client_ports.specs.declared.spawns.JoinPoint.{JoinPoint}
use Rattle.client_ports.specs.Clients.{client_at, port_of, ports_of}
use Rattle.client_ports.specs.States.{State}
use Rattle.client_ports.specs.FirstRefusals.{join_answer}
use Rattle.client_ports.proofs.Facts.{same_Ok, got}
use Rattle.client_ports.proofs.Slots.{port_at-client, port_of-none}

-- a live slot is one of the list's
pub live-inside : (clients : List (Option Client)) (slot : ℕ) (c : Client) → client_at clients slot ≡ Some c → slot < length clients
live-inside clients slot c e = elim (cases_lt slot (length clients)) [
  | inl below ↦ below
  | inr past ↦ absurd (none-some c (sym (get_or_past clients slot None past) ∙ e))
]

-- the port may join: its slot is free, and the port isn't joined
pub record IsNewcomer (clients : List (Option Client)) (port slot : ℕ) : Type 0 where
  pub inside : slot < length clients
  pub free : client_at clients slot ≡ None
  pub not_joined : slots.is_joined (ports_of clients) port ≡ false

-- which is so where a join gets a slot
pub join-newcomer : (map : MapView) (state : State) (port : ℕ) (to : JoinPoint) → join_answer map state port ≡ Ok to → IsNewcomer state.clients port to.slot
join-newcomer map state port to e = by (slots.is_joined ports port) (free_slot ports) refl refl (got map state.records (slot_for ports port) to e).slot
  where
    ports : List (Option ℕ)
    ports = ports_of state.clients

    none-is : (o : Option ℕ) → is_none o ≡ true → o ≡ None
    none-is None h = refl
    none-is (Some p) h = cc

    by : (joined : Bool) (o : Option ℕ) → slots.is_joined ports port ≡ joined → free_slot ports ≡ o
        → (if joined then Err fault.Already else ok_or o fault.Full) ≡ Ok to.slot → IsNewcomer state.clients port to.slot
    by true o j f h = cc
    by false None j f h = cc
    by false (Some slot) j f h =
        let same = same_Ok slot to.slot h in
        let first = position-Some is_none ports slot None f in
        let free = port_of-none (client_at state.clients slot) (sym (port_at-client state.clients slot) ∙ none-is (port_at ports slot) first.1) in
        let P : ℕ → Type 0 = λ s. IsNewcomer state.clients port s in
        subst P same (record { inside = omega (arith, first.0, length-map state.clients port_of); free = free; not_joined = j })
