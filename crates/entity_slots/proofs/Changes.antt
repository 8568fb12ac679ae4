-- That the slots stay apart where a port is put in and where a slot is freed.
use Rattle.std.proofs.Common.{◌≡◌, ◌≢◌, ◌⊎◌, ℕ, ◌<◌, false, List, length, Option, Some, None, sym, ap, ◌∙◌, inl, inr, arith, get_or-set_same, get_or-set_other}
use Rattle.std.proofs.lemmas.Bool.{cases_eq, cases_lt}
use Rattle.std.proofs.lemmas.List.{get_or_past, get_or-replicate, length-replicate, length-set}
use Rattle.std.proofs.lemmas.Option.{none-some, same_Some}
use Rattle.entity_slots.specs.Ports.{no_ports, port_at, AreSlots, is_joined, with_port, without_slot}
use Rattle.entity_slots.proofs.Found.{joined-in}

-- no slot of the first ones is live
pub no_ports-at : (slot : ℕ) → port_at no_ports slot ≡ None
no_ports-at slot = elim (cases_lt slot 64) [
  | inl below ↦ get_or-replicate 64 slot None None below
  | inr past ↦ get_or_past no_ports slot None (omega (arith, past, length-replicate {A = Option ℕ} 64 None))
]

-- they are slots
pub no_ports-are_slots : AreSlots no_ports
no_ports-are_slots = record {
  count = length-replicate {A = Option ℕ} 64 None;
  apart = λ i j port p q. absurd (none-some port (sym (no_ports-at i) ∙ p));
}

-- the slots stay apart where a port that isn't joined is put in
pub with_port-are_slots : (ports : List (Option ℕ)) (slot port : ℕ) → AreSlots ports → slot < 64 → is_joined ports port ≡ false → AreSlots (with_port ports slot port)
with_port-are_slots ports slot port are below new = record {
  count = length-set ports slot (Some port) ∙ are.count;
  apart = λ i j p at_i at_j. apart i j p at_i at_j (cases_eq i slot) (cases_eq j slot);
}
  where
    set : List (Option ℕ)
    set = with_port ports slot port

    here : (i p : ℕ) → i ≡ slot → port_at set i ≡ Some p → port ≡ p
    here i p same e = same_Some port p (sym (ap (port_at set) same ∙ get_or-set_same ports slot (Some port) None (omega (arith, below, are.count))) ∙ e)

    there : (i p : ℕ) → i ≢ slot → port_at set i ≡ Some p → port_at ports i ≡ Some p
    there i p apart e = sym (get_or-set_other ports slot i (Some port) None apart) ∙ e

    clash : (i p : ℕ) → port ≡ p → port_at ports i ≡ Some p → ⊥
    clash i p same e = let joined = joined-in ports i port (e ∙ ap Some (sym same)) in cc

    apart : (i j p : ℕ) → port_at set i ≡ Some p → port_at set j ≡ Some p → (i ≡ slot) ⊎ (i ≢ slot) → (j ≡ slot) ⊎ (j ≢ slot) → i ≡ j
    apart i j p at_i at_j (inl a) (inl b) = a ∙ sym b
    apart i j p at_i at_j (inl a) (inr b) = absurd (clash j p (here i p a at_i) (there j p b at_j))
    apart i j p at_i at_j (inr a) (inl b) = absurd (clash i p (here j p b at_j) (there i p a at_i))
    apart i j p at_i at_j (inr a) (inr b) = are.apart i j p (there i p a at_i) (there j p b at_j)

-- and where one is freed
pub without_slot-are_slots : (ports : List (Option ℕ)) (slot : ℕ) → AreSlots ports → AreSlots (without_slot ports slot)
without_slot-are_slots ports slot are = record {
  count = length-set ports slot None ∙ are.count;
  apart = λ i j p at_i at_j. are.apart i j p (kept i p at_i) (kept j p at_j);
}
  where
    kept : (i p : ℕ) → port_at (without_slot ports slot) i ≡ Some p → port_at ports i ≡ Some p
    kept i p e = elim (cases_eq i slot) [
      | inl same ↦ elim (cases_lt slot (length ports)) [
        | inl below ↦ absurd (none-some p (sym (ap (port_at (without_slot ports slot)) same ∙ get_or-set_same ports slot None None below) ∙ e))
        | inr past ↦ absurd (none-some p (sym (get_or_past (without_slot ports slot) i None (omega (arith, past, same, length-set ports slot None))) ∙ e))
      ]
      | inr apart ↦ sym (get_or-set_other ports slot i None None apart) ∙ e
    ]
