-- The end of a frame, slot by slot.
use Rattle.std.proofs.Common.{◌≡◌, ◌≢◌, ℕ, zero, suc, ◌<◌, ◌≤◌, Bool, true, false, if◌then◌else◌, List, length, Option, Some, None, slice_set, sym, refl, ap, ◌∙◌, subst, inl, inr, arith, get_or-set_same, get_or-set_other}
use Rattle.std.proofs.lemmas.Bool.{cases_eq, cases_lt}
use Rattle.std.proofs.lemmas.List.{get_or_past, length-set}
use Rattle.entity_recs.specs.declared.limits.TheConstants.{IDS}
use Rattle.entity_recs.specs.declared.rec.Rec.{Rec}
use Rattle.world_tree.specs.Live.{record_at}
use Rattle.client_ports.specs.declared.client.Client.{Client}
use Rattle.client_ports.specs.Clients.{client, client_at}
use Rattle.client_ports.specs.States.{State}
use Rattle.client_ports.specs.Finishing.{is_leaver, finished_client, records_after, finished_at, finished_up_to, finished}
use Rattle.client_ports.specs.Laws.{IsStillThere, FinishKeepsWhoStays}

-- the record of an id after the frame
abbrev record_after : Option Client → Option Rec → Option Rec
record_after place r = if is_leaver place then None else r

-- the slots below some are finished, and the others are as they were
record IsUpTo (old new : State) (n : ℕ) : Type 0 where
  clients_count : length new.clients ≡ 64
  records_count : length new.records ≡ IDS
  below : (id : ℕ) → id < n → (client_at new.clients id ≡ finished_client (client_at old.clients id)) × (record_at new.records id ≡ record_after (client_at old.clients id) (record_at old.records id))
  above : (id : ℕ) → n ≤ id → (client_at new.clients id ≡ client_at old.clients id) × (record_at new.records id ≡ record_at old.records id)

length-after : (place : Option Client) (records : List (Option Rec)) (slot : ℕ) → length (records_after place records slot) ≡ length records
length-after place records slot = by (is_leaver place)
  where
    by : (b : Bool) → length (if b then slice_set records slot None else records) ≡ length records
    by true = length-set records slot None
    by false = refl

read-after-same : (place : Option Client) (records : List (Option Rec)) (slot : ℕ) → slot < length records → record_at (records_after place records slot) slot ≡ record_after place (record_at records slot)
read-after-same place records slot below = by (is_leaver place)
  where
    by : (b : Bool) → record_at (if b then slice_set records slot None else records) slot ≡ (if b then None else record_at records slot)
    by true = get_or-set_same records slot None None below
    by false = refl

read-after-other : (place : Option Client) (records : List (Option Rec)) (slot id : ℕ) → id ≢ slot → record_at (records_after place records slot) id ≡ record_at records id
read-after-other place records slot id apart = by (is_leaver place)
  where
    by : (b : Bool) → record_at (if b then slice_set records slot None else records) id ≡ record_at records id
    by true = get_or-set_other records slot id None None apart
    by false = refl

up_to-next : (old new : State) (n : ℕ) → n < 64 → IsUpTo old new n → IsUpTo old (finished_at new n) (suc n)
up_to-next old new n few is = record {
  clients_count = length-set new.clients n (finished_client (client_at new.clients n)) ∙ is.clients_count;
  records_count = length-after (client_at new.clients n) new.records n ∙ is.records_count;
  below = λ id less. elim (cases_eq id n) [
    | inl same ↦ here id same
    | inr apart ↦ let kept = is.below id (omega (arith, less, apart)) in ((other id apart).0 ∙ kept.0, (other id apart).1 ∙ kept.1)
  ];
  above = λ id more.
      let apart : id ≢ n = λ same. omega (arith, more, same) in
      let kept = is.above id (omega (arith, more)) in
      ((other id apart).0 ∙ kept.0, (other id apart).1 ∙ kept.1);
}
  where
    place : Option Client
    place = client_at new.clients n

    other : (id : ℕ) → id ≢ n → (client_at (finished_at new n).clients id ≡ client_at new.clients id) × (record_at (finished_at new n).records id ≡ record_at new.records id)
    other id apart = (get_or-set_other new.clients n id (finished_client place) None apart, read-after-other place new.records n id apart)

    was : (client_at new.clients n ≡ client_at old.clients n) × (record_at new.records n ≡ record_at old.records n)
    was = is.above n (omega arith)

    at : (client_at (finished_at new n).clients n ≡ finished_client (client_at old.clients n)) × (record_at (finished_at new n).records n ≡ record_after (client_at old.clients n) (record_at old.records n))
    at = (
      get_or-set_same new.clients n (finished_client place) None (omega (arith, few, is.clients_count)) ∙ ap finished_client was.0,
      read-after-same place new.records n (omega (arith, few, is.records_count)) ∙ ap (λ (c : Option Client). record_after c (record_at new.records n)) was.0 ∙ ap (record_after (client_at old.clients n)) was.1,
    )

    here : (id : ℕ) → id ≡ n → (client_at (finished_at new n).clients id ≡ finished_client (client_at old.clients id)) × (record_at (finished_at new n).records id ≡ record_after (client_at old.clients id) (record_at old.records id))
    here id same = subst (λ (k : ℕ). (client_at (finished_at new n).clients k ≡ finished_client (client_at old.clients k)) × (record_at (finished_at new n).records k ≡ record_after (client_at old.clients k) (record_at old.records k))) (sym same) at

up_to : (state : State) → length state.clients ≡ 64 → length state.records ≡ IDS → (n : ℕ) → n ≤ 64 → IsUpTo state (finished_up_to state n) n
unfolding finished_up_to
up_to state few many zero most = record {
  clients_count = few;
  records_count = many;
  below = λ id less. absurd (omega (arith, less));
  above = λ id more. (refl, refl);
}
up_to state few many (suc n) most = up_to-next state (finished_up_to state n) n (omega (arith, most)) (up_to state few many n (omega (arith, most)))

-- the end of a frame takes out the clients that leave, with their players, and no other
pub leavers_out : (state : State) → length state.clients ≡ 64 → length state.records ≡ IDS → (id : ℕ)
    → (client_at (finished state).clients id ≡ finished_client (client_at state.clients id))
    × (record_at (finished state).records id ≡ (if is_leaver (client_at state.clients id) then None else record_at state.records id))
unfolding finished
leavers_out state few many id = elim (cases_lt id 64) [
  | inl less ↦ (up_to state few many 64 (omega arith)).below id less
  | inr more ↦ past more
]
  where
    past : 64 ≤ id → (client_at (finished_up_to state 64).clients id ≡ finished_client (client_at state.clients id))
        × (record_at (finished_up_to state 64).records id ≡ (if is_leaver (client_at state.clients id) then None else record_at state.records id))
    past more =
        let kept = (up_to state few many 64 (omega arith)).above id more in
        let none : client_at state.clients id ≡ None = get_or_past state.clients id None (omega (arith, more, few)) in
        (kept.0 ∙ none ∙ sym (ap finished_client none), kept.1 ∙ sym (ap (λ (c : Option Client). record_after c (record_at state.records id)) none))

-- a client that doesn't leave is there after the frame, with its port and its last number
still-there : (before : Client) (after : Option Client) → before.leaves ≡ false → after ≡ finished_client (Some before) → IsStillThere before after
still-there before after stays is = record {
  now = client before.port before.last before.leaves 0;
  in_slot = is ∙ ap (λ (b : Bool). if b then None else Some (client before.port before.last before.leaves 0)) stays;
  port = refl;
  last = refl;
  leaves = stays;
  moves = refl;
}

pub who_stays : FinishKeepsWhoStays
who_stays state slot before few many at stays =
    still-there before (client_at (finished state).clients slot) stays ((leavers_out state few many slot).0 ∙ ap finished_client at)
