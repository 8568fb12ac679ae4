-- The map of a recording keeps the rules of maps, and a recording without a fault has one.
use Rattle.std.proofs.Common.{◌≡◌, ℕ, Bool, true, false, not, cond, List, [], ◌∷◌, ◌++◌, Option, Some, None, IfSome, IsSome, refl, sym, ap, ◌∙◌, subst}
use Rattle.std.specs.Bool.{⊤}
use Rattle.edge_io.specs.WholeLines.{whole_lines}
use Rattle.arena_map.specs.declared.limits.TheConstants.{MOST_FRAMES}
use Rattle.arena_map.specs.declared.map_line.MapLine.{MapLine}
use Rattle.arena_map.specs.declared.map_line.MapLine.TheVariants as of_map
use Rattle.arena_map.specs.Maps.{MapView, IsMap}
use Rattle.arena_map.specs.MapLines.{IsWithinLimits, is_arena}
use Rattle.arena_map.proofs.Keeping.{begun-is_map, with_line-is_map}
use Rattle.demo_lines.specs.declared.stage.Stage.{Stage}
use Rattle.demo_lines.specs.declared.stage.Stage.TheVariants.{Start, Map, Playing, Ended, Refused}
use Rattle.demo_lines.specs.declared.line.Line.{Line}
use Rattle.demo_lines.specs.declared.line.Line.TheVariants.{OfMap, Frame, From, End}
use Rattle.demo_lines.specs.declared.line_fault.LineFault.{LineFault}
use Rattle.demo_lines.specs.declared.line_fault.LineFault.TheVariants as faults
use Rattle.demo_lines.specs.Known.{Reading, start_within, start, is_over}
use Rattle.demo_lines.specs.Lines.{text_of, first_word, rest_of, is_end}
use Rattle.demo_lines.specs.Faults.{is_long, has_strange_byte, fault_of_words, fault_of, broken_by_line}
use Rattle.demo_lines.specs.Recording.{next, after_line, after, with_map_line}
use Rattle.demo_lines.specs.Bytes.{last_part, lines_of, refused_at, fault, map_within, map_of}
use Rattle.demo_lines.proofs.Prefixes.{after_last, no_refusal}
use Rattle.demo_lines.proofs.Taking.{IsTaken, no_rule}
use Rattle.out_text.specs.Laws.{RecordingsHaveMaps}
use Rattle.out_text.proofs.EachLine.{IsTakenBy, of_each_line}

-- the map, where there is one, keeps the rules
abbrev HasKeptRules : Option MapView → Type 0
HasKeptRules m = IfSome m IsMap

-- a line of the map within its limits that breaks no rule
map_line_keeps : (m : Option MapView) (line : MapLine) → IsWithinLimits line → broken_by_line m line ≡ None → HasKeptRules m → HasKeptRules (with_map_line m line)
map_line_keeps None (of_map.Arena lo hi) near none kept = begun-is_map lo hi near.0 near.1 none
map_line_keeps None (of_map.Block lo hi) near none kept = tt
map_line_keeps None (of_map.Spawn at) near none kept = tt
map_line_keeps None (of_map.Item at kind delay) near none kept = tt
map_line_keeps None (of_map.Teleport lo hi dest) near none kept = tt
map_line_keeps None (of_map.Goal lo hi) near none kept = tt
map_line_keeps None (of_map.Lift lo hi rise speed) near none kept = tt
map_line_keeps None (of_map.Depth depth) near none kept = tt
map_line_keeps None of_map.Shots near none kept = tt
map_line_keeps None (of_map.Blocks most) near none kept = tt
map_line_keeps (Some map) line near none kept = with_line-is_map map line kept near none

taken_keeps : (r : Reading) (line : Line) → IsTakenBy r line → HasKeptRules r.map → HasKeptRules (after_line r (Some line)).map
taken_keeps r (OfMap line) is kept = map_line_keeps r.map line is.sound (no_rule (broken_by_line r.map line) is.faultless) kept
taken_keeps r Frame is kept = kept
taken_keeps r (From a) is kept = kept
taken_keeps r End is kept = kept

line_keeps : (r : Reading) (raw : List ℕ) → HasKeptRules r.map → HasKeptRules (next r raw).map
line_keeps = of_each_line (λ r s es. HasKeptRules r.map → HasKeptRules s.map) (λ r kept. kept) (λ r why kept. kept) taken_keeps

lines_keep : (r : Reading) (ls : List (List ℕ)) → HasKeptRules r.map → HasKeptRules (after r ls).map
lines_keep r [] kept = kept
lines_keep r (l ∷ ls) kept = lines_keep (next r l) ls (line_keeps r l kept)

-- the map of a recording that may have so many frames keeps the rules
pub map_within_keeps_rules : (limit : ℕ) (bytes : List ℕ) (arena : MapView) → map_within limit bytes ≡ Some arena → IsMap arena
map_within_keeps_rules limit bytes arena has = subst HasKeptRules has (lines_keep (start_within limit) (lines_of bytes) tt)

-- and that of one that may have as many as any
pub map_keeps_rules : (bytes : List ℕ) (arena : MapView) → map_of bytes ≡ Some arena → IsMap arena
map_keeps_rules bytes arena has = map_within_keeps_rules MOST_FRAMES bytes arena has

-- ---- a recording without a fault has a map

-- from the line of the arena on there is a map, unless a line was refused
abbrev HasMapAt : Stage → Reading → Type 0
HasMapAt Start r = ⊤
HasMapAt Map r = IsSome r.map
HasMapAt Playing r = IsSome r.map
HasMapAt Ended r = IsSome r.map
HasMapAt (Refused why) r = ⊤

abbrev HasMapNow : Reading → Type 0
HasMapNow r = HasMapAt r.stage r

begins : (m : Option MapView) (line : MapLine) → is_arena line ≡ true → IsSome (with_map_line m line)
begins None (of_map.Arena lo hi) is = refl
begins None (of_map.Block lo hi) is = cc
begins None (of_map.Spawn at) is = cc
begins None (of_map.Item at kind delay) is = cc
begins None (of_map.Teleport lo hi dest) is = cc
begins None (of_map.Goal lo hi) is = cc
begins None (of_map.Lift lo hi rise speed) is = cc
begins None (of_map.Depth depth) is = cc
begins None of_map.Shots is = cc
begins None (of_map.Blocks most) is = cc
begins (Some map) line is = refl

goes_on : (m : Option MapView) (line : MapLine) → IsSome m → IsSome (with_map_line m line)
goes_on None line has = cc
goes_on (Some map) line has = refl

taken_has : (stage : Stage) (r : Reading) (line : Line) → is_over stage ≡ false → IsTaken stage line → HasMapAt stage r → HasMapNow (after_line r (Some line))
taken_has Start r (OfMap line) going is has = begins r.map line is
taken_has Start r Frame going is has = cc
taken_has Start r (From a) going is has = cc
taken_has Start r End going is has = cc
taken_has Map r (OfMap line) going is has = goes_on r.map line has
taken_has Map r Frame going is has = has
taken_has Map r (From a) going is has = cc
taken_has Map r End going is has = has
taken_has Playing r (OfMap line) going is has = absurd is
taken_has Playing r Frame going is has = has
taken_has Playing r (From a) going is has = has
taken_has Playing r End going is has = has
taken_has Ended r line going is has = cc
taken_has (Refused why) r line going is has = cc

line_has : (r : Reading) (raw : List ℕ) → HasMapNow r → HasMapNow (next r raw)
line_has =
    of_each_line (λ r s es. HasMapNow r → HasMapNow s) (λ r has. has) (λ r why has. tt) (λ r line is has. taken_has r.stage r line is.going is.taken has)

lines_have : (r : Reading) (ls : List (List ℕ)) → HasMapNow r → HasMapNow (after r ls)
lines_have r [] has = has
lines_have r (l ∷ ls) has = lines_have (next r l) ls (line_has r l has)

-- what no line feed ends and isn't the end has a fault where the input ends with it
cut_has_fault : (long : Bool) (rest : Option LineFault) (A : Type 0) → cond long (Some faults.Long) (cond true (Some faults.NoEnd) rest) ≡ None → A
cut_has_fault true rest A h = cc
cut_has_fault false rest A h = cc

part_has_fault : (r : Reading) (part : List ℕ) (A : Type 0) → is_end part ≡ false → fault_of r true part ≡ None → A
part_has_fault r part A no_end none =
    let rest = cond (has_strange_byte part) (Some faults.Byte) (fault_of_words r (first_word (text_of part)) (rest_of (text_of part))) in
    let cut = ap (λ b. cond (is_long part) (Some faults.Long) (cond (not b) (Some faults.NoEnd) rest)) (sym no_end) in
    cut_has_fault (is_long part) rest A (cut ∙ none)

-- before the first line
open_has : (r : Reading) (part : List ℕ) (end : Bool) → is_end part ≡ end → (is_end part ≡ true → false ≡ true) → fault_of r true part ≡ None → IsSome r.map
open_has r part true is over none = let no = over is in cc
open_has r part false is over none = part_has_fault r part (IsSome r.map) is none

ended_has : (stage : Stage) (r : Reading) (part : List ℕ) → HasMapAt stage r → (is_end part ≡ true → is_over stage ≡ true) → refused_at stage r part ≡ None → IsSome r.map
ended_has Start r part has over none = open_has r part (is_end part) refl over (no_refusal (fault_of r true part) _ none)
ended_has Map r part has over none = has
ended_has Playing r part has over none = has
ended_has Ended r part has over none = has
ended_has (Refused why) r part has over none = cc

with_end : (bytes : List ℕ) → is_end (last_part bytes) ≡ true → lines_of bytes ≡ whole_lines bytes ++ last_part bytes ∷ []
with_end bytes end = ap (λ b. whole_lines bytes ++ cond b (last_part bytes ∷ []) []) end

-- a recording without a fault has a map
pub faultless_has_map : (bytes : List ℕ) → fault bytes ≡ None → IsSome (map_of bytes)
faultless_has_map bytes none =
    let r = after start (lines_of bytes) in
    let part = last_part bytes in
    ended_has r.stage r part (lines_have start (lines_of bytes) tt) (λ end. ap (λ ls. is_over (after start ls).stage) (with_end bytes end) ∙ after_last start (whole_lines bytes) part end) none

pub have_maps : RecordingsHaveMaps
have_maps = record { kept = map_keeps_rules; there = faultless_has_map }
