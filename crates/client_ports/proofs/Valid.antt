-- That a valid world stays valid.
use Rattle.std.proofs.Common.{◌≡◌, ◌≢◌, ℕ, ◌<◌, ◌≤◌, ◌==◌, List, length, is_some, Option, Some, None, slice_set, sym, refl, ap, ◌∙◌, subst, inl, inr, arith, get_or-set_other}
use Rattle.std.specs.List.{find}
use Rattle.std.proofs.lemmas.Option.{none-some, same_Some}
use Rattle.arena_geo.specs.declared.vec3.Vec3.{Vec3}
use Rattle.entity_recs.specs.declared.limits.TheConstants.{IDS}
use Rattle.entity_recs.specs.declared.rec.Rec.{Rec}
use Rattle.entity_recs.specs.Records.{IsRecord}
use Rattle.arena_map.specs.Maps.{MapView, IsSpawn, IsMap, entities_of}
use Rattle.arena_map.specs.Validity.{IsThing, IsValidRecord, IsOpeningWorld, IsValidWorld}
use Rattle.arena_map.proofs.Opening.{no-thing-below, opening-is_valid, begins_unhurt}
use Rattle.world_tree.specs.Live.{record_at}
use Rattle.client_ports.specs.declared.client.Client.{Client}
use Rattle.std.proofs.lemmas.List.{get_or-replicate}
use Rattle.client_ports.specs.Clients.{no_clients, new_client}
use Rattle.client_ports.specs.States.{newcomer, state_of, with_newcomer, IsState, IsServerState}
use Rattle.client_ports.proofs.Live.{live-written}
use Rattle.client_ports.proofs.Slots.{no_clients-are_ports, read-set}

-- what is written in a slot changes no thing of the map
things-kept : (map : MapView) (records : List (Option Rec)) (slot : ℕ) (place : Option Rec) → slot < 64 → IsValidWorld map records
    → (id : ℕ) → 64 ≤ id → IsThing map (find (λ thing. thing.id == id) (entities_of map)) (record_at (slice_set records slot place) id)
things-kept map records slot place below valid id thing =
    let P : Option Rec → Type 0 = λ r. IsThing map (find (λ thing. thing.id == id) (entities_of map)) r in
    subst P (sym (get_or-set_other records slot id place None (apart id thing))) (valid.things id thing)
  where
    apart : (id : ℕ) → 64 ≤ id → id ≢ slot
    apart id thing e = omega (arith, thing, e, below)

-- a valid record is put in a slot
pub valid-with : (map : MapView) (records : List (Option Rec)) (slot : ℕ) (r : Rec) → slot < 64 → IsValidRecord map slot r → IsValidWorld map records
    → IsValidWorld map (slice_set records slot (Some r))
valid-with map records slot r below here valid = record { each = each; things = things-kept map records slot (Some r) below valid }
  where
    each : (id : ℕ) (s : Rec) → record_at (slice_set records slot (Some r)) id ≡ Some s → IsValidRecord map id s
    each id s e = elim (read-set records slot id (Some r)) [
      | inl at ↦
          let P : ℕ → Type 0 = λ k. IsValidRecord map k s in
          let Q : Rec → Type 0 = λ t. IsValidRecord map slot t in
          subst P (sym at.0) (subst Q (same_Some r s (sym at.2 ∙ e)) here)
      | inr kept ↦ valid.each id s (sym kept ∙ e)
    ]

-- a player's record is taken out
pub valid-without : (map : MapView) (records : List (Option Rec)) (slot : ℕ) → slot < 64 → IsValidWorld map records
    → IsValidWorld map (slice_set records slot None)
valid-without map records slot below valid = record { each = each; things = things-kept map records slot None below valid }
  where
    each : (id : ℕ) (s : Rec) → record_at (slice_set records slot None) id ≡ Some s → IsValidRecord map id s
    each id s e = elim (read-set records slot id None) [
      | inl at ↦ absurd (none-some s (sym at.2 ∙ e))
      | inr kept ↦ valid.each id s (sym kept ∙ e)
    ]

-- a player that has just joined at a spawn has a record within its bounds
pub newcomer-is_record : (map : MapView) (slot : ℕ) (at : Vec3) → slot < 64 → IsSpawn map.bounds at → IsRecord (newcomer slot at)
newcomer-is_record map slot at below spawn = record {
  id = below;
  origin = spawn.near;
  shape = record { low_is = refl; high_is = refl };
  vel = record { x = omega arith; y = omega arith; z = omega arith };
  flags = omega arith;
  ammo = omega arith;
  carry = omega arith;
}

-- which is valid for the map
pub newcomer-is_valid : (map : MapView) (slot : ℕ) (at : Vec3) → slot < 64 → IsSpawn map.bounds at → IsValidRecord map slot (newcomer slot at)
newcomer-is_valid map slot at below spawn = record {
  is_record = newcomer-is_record map slot at below spawn;
  own_id = refl;
  state = begins_unhurt map;
  inside = λ _. spawn.inside;
}

-- a player that joins at a spawn, in a free slot, leaves a state that fits the map
pub state-joined : (map : MapView) (clients : List (Option Client)) (records : List (Option Rec)) (port slot : ℕ) (at : Vec3)
    → length clients ≡ 64 → length records ≡ IDS → slot < 64 → IsSpawn map.bounds at → IsState map (state_of clients records)
    → IsState map (with_newcomer (state_of clients records) port slot at)
state-joined map clients records port slot at few many below spawn is = record {
  live = live-written clients records slot (Some (new_client port)) (Some (newcomer slot at)) (omega (arith, below, few)) (omega (arith, below, many)) refl is.live;
  valid = valid-with map records slot (newcomer slot at) below (newcomer-is_valid map slot at below spawn) is.valid;
}

-- the opening state fits the map: nobody is joined, and only the things of the map are live
pub opening-fits : (map : MapView) (records : List (Option Rec)) → IsMap map → IsOpeningWorld map records → IsState map (state_of no_clients records)
opening-fits map records is opening = record {
  live = record { same = λ slot below. ap is_some (get_or-replicate 64 slot None None below) ∙ sym (ap is_some (opening slot ∙ no-thing-below map slot is below)) };
  valid = opening-is_valid map records is opening;
}

-- and is a server's
pub opening-is_server : (map : MapView) (records : List (Option Rec)) → IsMap map → length records ≡ IDS → IsOpeningWorld map records → IsServerState map (state_of no_clients records)
opening-is_server map records is places opening = record { clients = no_clients-are_ports.clients_are; places = places; fits = opening-fits map records is opening }
