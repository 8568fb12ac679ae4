-- The map that its lines build, one after another.
use Rattle.std.proofs.Common.{◌≡◌, ℕ, suc, ◌+◌, ◌-◌, ◌≤◌, ◌<◌, Bool, true, false, ◌&&◌, ◌++◌, List, [], ◌∷◌, take, drop, Option, Some, None, Result, Err, refl, sym, ap, ◌∙◌, subst, arith}
use Rattle.std.specs.List.{slice_get, range_with_len, list_all}
use Rattle.std.specs.Option.{is_none, option_map_or}
use Rattle.std.specs.Prelude.{◌↔◌}
use Rattle.std.specs.Result.{ForErr}
use Rattle.arena_map.specs.declared.map_fault.MapFault.{MapFault}
use Rattle.arena_map.specs.declared.map_fault.MapRefusal.{MapRefusal}
use Rattle.arena_map.specs.declared.map_fault.MapRefusal.TheVariants.{Rule, NoMemory}
use Rattle.arena_map.specs.declared.map_line.MapLine.{MapLine}
use Rattle.arena_map.specs.declared.map_line.MapLine.TheVariants.{Arena}
use Rattle.arena_map.specs.MapLines.{is_added}
use Rattle.arena_map.specs.Maps.{MapView}
use Rattle.arena_map.specs.Rules.{bare_map, broken_at_first, broken_rule, with_line}
use Rattle.demo_make.specs.GeneratedMap.{arena, generated_lines}
use Rattle.demo_make.proofs.MapKept.{pass-at}
use Rattle.demo_make.proofs.Lines.{take-next}

-- the map with these lines, one after another
abbrev pub with_lines : MapView → List MapLine → MapView
with_lines map [] = map
with_lines map (line ∷ lines) = with_lines (with_line map line) lines

-- the map that so many lines give; the first is the arena's
abbrev pub map_after : ℕ → MapView
map_after count = with_lines (bare_map arena.lo arena.hi) (take (count - 1) (drop 1 generated_lines))

-- a line after the arena's is added, and breaks no rule
abbrev adds : ℕ → Bool
adds index = option_map_or (λ line. is_added line && is_none (broken_rule (map_after index) line)) (slice_get generated_lines index) false

all-add : list_all (λ k. adds (k + 1)) (range_with_len 0 100) ≡ true
all-add = refl

-- ---- a line by its number

passes-there : (q : MapLine → Bool) (line : Option MapLine) (l : MapLine) → option_map_or q line false ≡ true → line ≡ Some l → q l ≡ true
passes-there q None l h e = cc
passes-there q (Some m) l h e = subst (λ x. q x ≡ true) (same m l e) h
  where
    same : (a b : MapLine) → Some a ≡ Some b → a ≡ b
    same a b h = cc

-- what is known of each line after the arena's
pub record IsAddedNext (index : ℕ) (line : MapLine) : Type 0 where
  pub added : is_added line ≡ true
  pub unbroken : broken_rule (map_after index) line ≡ None

pub added-next : (index : ℕ) (line : MapLine) → 1 ≤ index → index < 101 → slice_get generated_lines index ≡ Some line → IsAddedNext index line
added-next index line some few e =
    let k_is : index - 1 + 1 ≡ index = omega arith in
    let passed = subst (λ j. adds j ≡ true) k_is (pass-at (λ k. adds (k + 1)) 100 (index - 1) all-add (omega arith)) in
    let both = passes-there (λ l. is_added l && is_none (broken_rule (map_after index) l)) (slice_get generated_lines index) line passed e in
    parts (is_added line) (broken_rule (map_after index) line) refl refl both
  where
    parts : (added : Bool) (broken : Option MapFault) → is_added line ≡ added → broken_rule (map_after index) line ≡ broken
        → (added && is_none broken) ≡ true → IsAddedNext index line
    parts true None a b h = record { added = a; unbroken = b }
    parts true (Some f) a b h = cc
    parts false b a e h = cc

-- no rule is broken, so the only refusal is for lack of memory
pub no-rule : {T : Type 0} (answer : Result T MapRefusal) (broken : Option MapFault)
    → ((fault : MapFault) → (answer ≡ Err (Rule fault)) ↔ (broken ≡ Some fault)) → broken ≡ None → ForErr answer (λ refusal. refusal ≡ NoMemory)
no-rule answer broken each none (Rule fault) is = absurd (none-some fault (sym none ∙ (each fault).0 is))
  where
    none-some : (fault : MapFault) → None ≡ Some fault → ⊥
    none-some fault h = cc
no-rule answer broken each none NoMemory is = refl

-- ---- one line more

with_lines-push : (map : MapView) (lines : List MapLine) (line : MapLine) → with_lines map (lines ++ line ∷ []) ≡ with_line (with_lines map lines) line
with_lines-push map [] line = refl
with_lines-push map (l ∷ lines) line = with_lines-push (with_line map l) lines line

pub map-next : (index : ℕ) (line : MapLine) → 1 ≤ index → slice_get generated_lines index ≡ Some line
    → map_after (index + 1) ≡ with_line (map_after index) line
map-next index line some e =
    let lines = drop 1 generated_lines in
    let is : index ≡ suc (index - 1) = omega arith in
    let there : slice_get lines (index - 1) ≡ Some line = subst (λ j. slice_get generated_lines j ≡ Some line) is e in
    let count : index + 1 - 1 ≡ index - 1 + 1 = omega arith in
    ap (λ n. with_lines (bare_map arena.lo arena.hi) (take n lines)) count
    ∙ ap (with_lines (bare_map arena.lo arena.hi)) (take-next lines (index - 1) line there)
    ∙ with_lines-push (bare_map arena.lo arena.hi) (take (index - 1) lines) line

-- the arena's line breaks no rule
pub first-unbroken : (line : MapLine) → slice_get generated_lines 0 ≡ Some line → broken_at_first line ≡ None
first-unbroken line e = subst (λ l. broken_at_first l ≡ None) (same (Arena arena.lo arena.hi) line e) refl
  where
    same : (a b : MapLine) → Some a ≡ Some b → a ≡ b
    same a b h = cc
