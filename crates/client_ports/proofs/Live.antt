-- That the live slots stay the live players.
use Rattle.std.proofs.Common.{◌≡◌, ◌≢◌, ◌⊎◌, ℕ, ◌<◌, true, false, List, length, Option, Some, None, is_some, slice_set, sym, refl, ap, ◌∙◌, inl, inr, arith, get_or-set_same, get_or-set_other}
use Rattle.std.proofs.lemmas.Bool.{cases_eq}
use Rattle.entity_recs.specs.declared.rec.Rec.{Rec}
use Rattle.world_tree.specs.Live.{record_at}
use Rattle.client_ports.specs.declared.client.Client.{Client}
use Rattle.client_ports.specs.declared.client.LiveSlot.{LiveSlot}
use Rattle.client_ports.specs.Clients.{client_at, with_client, IsUpdate}
use Rattle.client_ports.specs.States.{HaveSameLive}
use Rattle.client_ports.proofs.Slots.{port_of-some}

-- both are written at one slot, and the slot is live in both or in neither
pub live-written : (clients : List (Option Client)) (records : List (Option Rec)) (slot : ℕ) (place : Option Client) (r : Option Rec)
    → slot < length clients → slot < length records → is_some place ≡ is_some r → HaveSameLive clients records
    → HaveSameLive (slice_set clients slot place) (slice_set records slot r)
live-written clients records slot place r few many same live = record { same = λ k below. at k below (cases_eq k slot) }
  where
    at : (k : ℕ) → k < 64 → (k ≡ slot) ⊎ (k ≢ slot) → is_some (client_at (slice_set clients slot place) k) ≡ is_some (record_at (slice_set records slot r) k)
    at k below (inl here) =
        ap is_some (ap (client_at (slice_set clients slot place)) here ∙ get_or-set_same clients slot place None few)
        ∙ same
        ∙ sym (ap is_some (ap (record_at (slice_set records slot r)) here ∙ get_or-set_same records slot r None many))
    at k below (inr apart) =
        ap is_some (get_or-set_other clients slot k place None apart)
        ∙ live.same k below
        ∙ sym (ap is_some (get_or-set_other records slot k r None apart))

-- another client is put in a live slot
pub live-updated : (clients : List (Option Client)) (records : List (Option Rec)) (live : LiveSlot)
    → length clients ≡ 64 → IsUpdate clients live → HaveSameLive clients records → HaveSameLive (with_client clients live) records
live-updated clients records live count is same = record { same = λ k below. at k below (cases_eq k live.slot) }
  where
    was : is_some (client_at clients live.slot) ≡ true
    was = sym (port_of-some (client_at clients live.slot)) ∙ ap is_some is.same_port

    at : (k : ℕ) → k < 64 → (k ≡ live.slot) ⊎ (k ≢ live.slot) → is_some (client_at (with_client clients live) k) ≡ is_some (record_at records k)
    at k below (inl here) =
        ap is_some (ap (client_at (with_client clients live)) here ∙ get_or-set_same clients live.slot (Some live.client) None (omega (arith, is.in_range, count)))
        ∙ sym was ∙ sym (ap (λ j. is_some (client_at clients j)) here) ∙ same.same k below
    at k below (inr apart) = ap is_some (get_or-set_other clients live.slot k (Some live.client) None apart) ∙ same.same k below

-- a slot that is free has no record
pub free-record : (clients : List (Option Client)) (records : List (Option Rec)) (slot : ℕ) → slot < 64 → HaveSameLive clients records
    → client_at clients slot ≡ None → record_at records slot ≡ None
free-record clients records slot below live e = none (record_at records slot) (sym (live.same slot below) ∙ ap is_some e)
  where
    none : (o : Option Rec) → is_some o ≡ false → o ≡ None
    none None h = refl
    none (Some r) h = cc
