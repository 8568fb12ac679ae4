-- Which rule of the map the answer to a line names.
use Rattle.std.proofs.Common.{◌≡◌, ◌↔◌, Option, Some, None, Result, Ok, Err, refl, sym, ap, ◌∙◌, subst}
use Rattle.arena_map.specs.declared.map_line.MapLine.{MapLine}
use Rattle.arena_map.specs.declared.map_fault.MapFault.{MapFault}
use Rattle.arena_map.specs.declared.map_fault.MapRefusal.{MapRefusal}
use Rattle.arena_map.specs.declared.map_fault.MapRefusal.TheVariants as refusal
use Rattle.arena_map.specs.Maps.{MapView}
use Rattle.arena_map.specs.Rules.{broken_at_first, broken_rule}
use Rattle.demo_lines.specs.Faults.{broken_by_line}

-- an answer names the broken rule, and no other
abbrev pub Names : {T : Type 0} → Result T MapRefusal → Option MapFault → Type 0
Names r broken = (fault : MapFault) → (r ≡ Err (refusal.Rule fault)) ↔ (broken ≡ Some fault)

pub none_where_ok : {T : Type 0} (r : Result T MapRefusal) (broken : Option MapFault) (x : T) → Names r broken → r ≡ Ok x → broken ≡ None
none_where_ok r None x names is = refl
none_where_ok r (Some fault) x names is = let no = (names fault).1 refl in cc

pub none_without_memory : {T : Type 0} (r : Result T MapRefusal) (broken : Option MapFault) → Names r broken → r ≡ Err refusal.NoMemory → broken ≡ None
none_without_memory r None names is = refl
none_without_memory r (Some fault) names is = let no = (names fault).1 refl in cc

same_error : {T : Type 0} (r : Result T MapRefusal) (e f : MapRefusal) → r ≡ Err e → r ≡ Err f → e ≡ f
same_error r e f p q = let both : Err e ≡ Err f = sym p ∙ q in cc

pub names-err : {T : Type 0} (r : Result T MapRefusal) (o : Option MapView) (line : MapLine) (e : MapRefusal) → o ≡ None → Names r (broken_at_first line) → r ≡ Err e
    → Names {T = Unit {0}} (Err e) (broken_by_line o line)
names-err r o line e is names err fault = (
  λ h. let same : e ≡ refusal.Rule fault = cc in ap (λ m. broken_by_line m line) is ∙ (names fault).0 (err ∙ ap Err same),
  λ h. let broken = sym (ap (λ m. broken_by_line m line) is) ∙ h in ap Err (same_error r e (refusal.Rule fault) err ((names fault).1 broken)),
)

pub names-some : {T : Type 0} (r : Result T MapRefusal) (o : Option MapView) (map : MapView) (line : MapLine) → o ≡ Some map → Names r (broken_rule map line)
    → Names r (broken_by_line o line)
names-some r o map line is names = subst (λ m. Names r (broken_by_line m line)) (sym is) names
