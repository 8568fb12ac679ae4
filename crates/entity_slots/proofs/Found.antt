-- What is found in the slots: the slot of a port, and the least free one.
use Rattle.std.proofs.Common.{◌≡◌, ◌↔◌, IfSome, IfOk, ℕ, ◌<◌, Bool, true, false, not, if◌then◌else◌, nat_lt, List, [], ◌∷◌, length, Option, Some, None, is_some, is_none, IsSome, Err, ok_or, sym, refl, ap, ◌∙◌, inl, inr, arith}
use Rattle.std.specs.List.{list_any, position, position_or_len}
use Rattle.std.proofs.lemmas.Bool.{cases_lt, eq-eqb, eqb-true}
use Rattle.std.proofs.lemmas.Grind.{common_steps}
use Rattle.std.proofs.lemmas.List.{get_or_past}
use Rattle.std.proofs.lemmas.List.Folds.{list_any_at}
use Rattle.std.proofs.lemmas.List.Quantifiers.{position-Some}
use Rattle.std.proofs.lemmas.Option.{none-some}
use Rattle.entity_slots.specs.declared.join_fault.JoinFault.TheVariants.{Already, Full}
use Rattle.entity_slots.specs.Ports.{port_at, AreSlots, has_port, is_joined, slot_of, is_full}
use Rattle.entity_slots.specs.FreeSlots.{free_slot, slot_for, IsLeastFree}

module _ {X : Type 0} (p : X → Bool) where
  -- some element passes where the first that passes is inside
  pub list_any-first : (xs : List X) → list_any p xs ≡ nat_lt (position_or_len p xs) (length xs)
  list_any-first [] = refl
  list_any-first (x ∷ xs) = grind (arith, common_steps, list_any-first xs)

  found : (b : Bool) (n : ℕ) → is_some (if b then Some n else None) ≡ b
  found true n = refl
  found false n = refl

  -- some element passes exactly where there is a first that passes
  pub list_any-position : (xs : List X) → list_any p xs ≡ is_some (position p xs)
  list_any-position xs = list_any-first xs ∙ sym (found (nat_lt (position_or_len p xs) (length xs)) (position_or_len p xs))

-- all slots are live exactly where none is free
pub is_full-free : (ports : List (Option ℕ)) → is_full ports ≡ not (list_any is_none ports)
is_full-free [] = refl
is_full-free (None ∷ ports) = refl
is_full-free (Some p ∷ ports) = is_full-free ports

-- a port that is found is joined in that slot
pub slot_of-joined : (ports : List (Option ℕ)) (slot port : ℕ) → slot_of ports port ≡ Some slot → (slot < length ports) × (port_at ports slot ≡ Some port)
slot_of-joined ports slot port e =
    let first = position-Some (has_port port) ports slot None e in
    (first.0, has_port-is port (port_at ports slot) first.1)
  where
    has_port-is : (port : ℕ) (place : Option ℕ) → has_port port place ≡ true → place ≡ Some port
    has_port-is port None h = cc
    has_port-is port (Some p) h = ap Some (eqb-true p port h)

-- the slot in which a port is joined is inside
pub joined-inside : (ports : List (Option ℕ)) (slot port : ℕ) → port_at ports slot ≡ Some port → slot < length ports
joined-inside ports slot port e = elim (cases_lt slot (length ports)) [
  | inl below ↦ below
  | inr past ↦ absurd (none-some port (sym (get_or_past ports slot None past) ∙ e))
]

-- a port that is joined in a slot is joined
pub joined-in : (ports : List (Option ℕ)) (slot port : ℕ) → port_at ports slot ≡ Some port → is_joined ports port ≡ true
joined-in ports slot port e =
    list_any_at (has_port port) ports slot None (joined-inside ports slot port e) (rw e (eq-eqb port port refl))

-- a slot is found for a port exactly where it is joined
pub slot_of-found : (ports : List (Option ℕ)) (port : ℕ) → IsSome (slot_of ports port) ↔ (is_joined ports port ≡ true)
slot_of-found ports port =
    let e = list_any-position (has_port port) ports in
    (λ h. e ∙ h, λ h. sym e ∙ h)

-- the slot that is found has the port
pub slot_of-own : (ports : List (Option ℕ)) (port : ℕ) → IfSome (slot_of ports port) (λ slot. port_at ports slot ≡ Some port)
slot_of-own ports port = at (slot_of ports port) refl
  where
    at : (o : Option ℕ) → slot_of ports port ≡ o → IfSome o (λ slot. port_at ports slot ≡ Some port)
    at None e = tt
    at (Some slot) e = (slot_of-joined ports slot port e).1

-- the free slot that is found is the least one
pub free_slot-least : (ports : List (Option ℕ)) → length ports ≡ 64 → (slot : ℕ) → free_slot ports ≡ Some slot → IsLeastFree ports slot
free_slot-least ports count slot e =
    let first = position-Some is_none ports slot None e in
    record {
      in_range = omega (arith, first.0, count);
      free = none-is (port_at ports slot) first.1;
      live_below = λ k below. some-is (port_at ports k) (first.2 k below);
    }
  where
    none-is : (o : Option ℕ) → is_none o ≡ true → o ≡ None
    none-is None h = refl
    none-is (Some p) h = cc

    some-is : (o : Option ℕ) → is_none o ≡ false → IsSome o
    some-is None h = cc
    some-is (Some p) h = refl

-- a join gets no slot for want of one exactly where the port isn't joined and all slots are live
pub slot_for-full : (ports : List (Option ℕ)) (port : ℕ) → (slot_for ports port ≡ Err Full) ↔ ((is_joined ports port ≡ false) × (is_full ports ≡ true))
slot_for-full ports port = by (is_joined ports port) (free_slot ports) refl
  where
    full-where : (b : Bool) → is_full ports ≡ not b → b ≡ false → is_full ports ≡ true
    full-where b e h = e ∙ ap not h

    none-where : (o : Option ℕ) → list_any is_none ports ≡ is_some o → is_full ports ≡ true → is_some o ≡ false
    none-where o e h = not-true (is_some o) (sym (is_full-free ports ∙ ap not e) ∙ h)
      where
        not-true : (b : Bool) → not b ≡ true → b ≡ false
        not-true true g = cc
        not-true false g = refl

    by : (joined : Bool) (o : Option ℕ) → free_slot ports ≡ o → ((if joined then Err Already else ok_or o Full) ≡ Err Full) ↔ ((joined ≡ false) × (is_full ports ≡ true))
    by true o e = (λ h. cc, λ h. cc)
    by false None e =
        let any = list_any-position is_none ports ∙ ap is_some e in
        (λ h. (refl, full-where (list_any is_none ports) (is_full-free ports) any), λ h. refl)
    by false (Some slot) e =
        let any = list_any-position is_none ports ∙ ap is_some e in
        (λ h. cc, λ h. let no = none-where (Some slot) any h.1 in cc)

-- the slot of a join is the least free one
pub slot_for-least : (ports : List (Option ℕ)) (port : ℕ) → length ports ≡ 64 → IfOk (slot_for ports port) (IsLeastFree ports)
slot_for-least ports port count = by (is_joined ports port) (free_slot ports) refl
  where
    by : (joined : Bool) (o : Option ℕ) → free_slot ports ≡ o → IfOk (if joined then Err Already else ok_or o Full) (IsLeastFree ports)
    by true o e = tt
    by false None e = tt
    by false (Some slot) e = free_slot-least ports count slot e

-- the slot in which a port is joined is the one that is found for it
pub found-only : (ports : List (Option ℕ)) → AreSlots ports → (slot port : ℕ) → port_at ports slot ≡ Some port → slot_of ports port ≡ Some slot
found-only ports are slot port e = at (slot_of ports port) refl
  where
    at : (o : Option ℕ) → slot_of ports port ≡ o → o ≡ Some slot
    at None f = let joined = joined-in ports slot port e in let found = (slot_of-found ports port).1 joined in absurd (true-false (sym found ∙ ap is_some f))
      where
        true-false : true ≡ false → ⊥
        true-false h = cc
    at (Some other) f = ap Some (are.apart other slot port (slot_of-joined ports other port f).1 e)
