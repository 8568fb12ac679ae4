-- A line of the map is of its word's kind, and what reading it in the order of the faults gives.
use Rattle.std.proofs.Common.{◌≡◌, ℕ, Bool, true, false, not, List, [], ◌∷◌, Option, Some, None, Result, Ok, Err, cond, IfOk, pos, refl, sym, ap, ◌∙◌}
use Rattle.std.specs.Option.{ok_or}
use Rattle.edge_io.specs.Fields.{◌>>=◌}
use Rattle.arena_map.specs.declared.map_line.MapLine.{MapLine}
use Rattle.arena_map.specs.declared.map_line.MapLine.TheVariants.{Arena, Block, Spawn, Item, Teleport, Goal, Lift, Depth, Shots, Blocks}
use Rattle.arena_map.specs.declared.map_word.MapWord.{MapWord}
use Rattle.arena_map.specs.declared.map_word.MapWord.TheVariants as map_words
use Rattle.arena_map.specs.MapLines.{IsWithinLimits, is_arena}
use Rattle.arena_map.specs.Words.{fields_of}
use Rattle.arena_map.specs.Reading.{line_at_end, corners_at, point_at, kind_at, count_at, has_fields, line_within, line_of_first}
use Rattle.demo_lines.specs.declared.stage.Stage.{Stage}
use Rattle.demo_lines.specs.declared.stage.Stage.TheVariants.{Start, Map, Playing, Ended, Refused}
use Rattle.demo_lines.specs.declared.word.Word.TheVariants as words
use Rattle.demo_lines.specs.declared.line_fault.LineFault.{LineFault}
use Rattle.demo_lines.specs.declared.line_fault.LineFault.TheVariants as faults
use Rattle.demo_lines.specs.Words.{is_arena_word, is_allowed}
use Rattle.demo_lines.specs.Said.{in_order, map_line_said}
use Rattle.demo_lines.specs.Readings.{IsOfMap}
use Rattle.arena_map.proofs.LinesSound.{within-read}

-- ---- a line's kind is its word's

-- if there is a line, it is the arena's or not, as P says
abbrev pub IsKind : Bool → Option MapLine → Type 0
IsKind b None = Unit {0}
IsKind b (Some line) = is_arena line ≡ b

alone-kind : (line : MapLine) (rest : List ℕ) (b : Bool) → is_arena line ≡ b → IsKind b (line_at_end line rest)
alone-kind line [] b is = is
alone-kind line (c ∷ rest) b is = tt

then-kind : {A : Type 0} (o : Option A) (f : A → Option MapLine) (b : Bool) → ((a : A) → IsKind b (f a)) → IsKind b (o >>= f)
then-kind None f b each = tt
then-kind (Some a) f b each = each a

pub within-kind : (word : MapWord) (rest : List ℕ) → IsKind (is_arena_word word) (line_within word rest)
within-kind map_words.Arena rest =
    then-kind (corners_at rest) (λ c. line_at_end (Arena c.0 c.1) c.2) true (λ c. alone-kind (Arena c.0 c.1) c.2 true refl)
within-kind map_words.Block rest =
    then-kind (corners_at rest) (λ c. line_at_end (Block c.0 c.1) c.2) false (λ c. alone-kind (Block c.0 c.1) c.2 false refl)
within-kind map_words.Spawn rest =
    then-kind (point_at rest) (λ at. line_at_end (Spawn at.0) at.1) false (λ at. alone-kind (Spawn at.0) at.1 false refl)
within-kind map_words.Item rest =
    then-kind (point_at rest) (λ at. kind_at at.1 >>= (λ kind. count_at 65535 kind.1 >>= (λ delay. line_at_end (Item at.0 kind.0 delay.0) delay.1))) false
    (λ at. then-kind (kind_at at.1) (λ kind. count_at 65535 kind.1 >>= (λ delay. line_at_end (Item at.0 kind.0 delay.0) delay.1)) false
    (λ kind. then-kind (count_at 65535 kind.1) (λ delay. line_at_end (Item at.0 kind.0 delay.0) delay.1) false
    (λ delay. alone-kind (Item at.0 kind.0 delay.0) delay.1 false refl)))
within-kind map_words.Teleport rest =
    then-kind (corners_at rest) (λ c. point_at c.2 >>= (λ dest. line_at_end (Teleport c.0 c.1 dest.0) dest.1)) false
    (λ c. then-kind (point_at c.2) (λ dest. line_at_end (Teleport c.0 c.1 dest.0) dest.1) false (λ dest. alone-kind (Teleport c.0 c.1 dest.0) dest.1 false refl))
within-kind map_words.Goal rest =
    then-kind (corners_at rest) (λ c. line_at_end (Goal c.0 c.1) c.2) false (λ c. alone-kind (Goal c.0 c.1) c.2 false refl)
within-kind map_words.Lift rest =
    then-kind (corners_at rest) (λ c. count_at 1048576 c.2 >>= (λ rise. count_at 2560 rise.1 >>= (λ speed. line_at_end (Lift c.0 c.1 (pos rise.0) (pos speed.0)) speed.1))) false
    (λ c. then-kind (count_at 1048576 c.2) (λ rise. count_at 2560 rise.1 >>= (λ speed. line_at_end (Lift c.0 c.1 (pos rise.0) (pos speed.0)) speed.1)) false
    (λ rise. then-kind (count_at 2560 rise.1) (λ speed. line_at_end (Lift c.0 c.1 (pos rise.0) (pos speed.0)) speed.1) false
    (λ speed. alone-kind (Lift c.0 c.1 (pos rise.0) (pos speed.0)) speed.1 false refl)))
within-kind map_words.Depth rest =
    then-kind _ (λ (d : ℕ × List ℕ). line_at_end (Depth d.0) d.1) false (λ d. alone-kind (Depth d.0) d.1 false refl)
within-kind map_words.Shots rest = alone-kind Shots rest false refl
within-kind map_words.Blocks rest =
    then-kind _ (λ (m : ℕ × List ℕ). line_at_end (Blocks m.0) m.1) false (λ m. alone-kind (Blocks m.0) m.1 false refl)

arena-here : (stage : Stage) (word : MapWord) (line : MapLine) → is_allowed stage (words.OfMap word) ≡ true → is_arena line ≡ is_arena_word word → IsOfMap stage line
arena-here Start word line here kind = kind ∙ here
arena-here Map word line here kind = ap not kind ∙ here
arena-here Playing word line here kind = cc
arena-here Ended word line here kind = cc
arena-here (Refused why) word line here kind = cc

said-parts : (stage : Stage) (word : MapWord) (form here : Bool) (within : Option MapLine) (line : MapLine) → is_allowed stage (words.OfMap word) ≡ here
    → IsKind (is_arena_word word) within → cond form (cond here (ok_or within faults.Limit) (Err faults.NotAllowed)) (Err faults.Form) ≡ Ok line → IsOfMap stage line
said-parts stage word false here within line is kind h = cc
said-parts stage word true false within line is kind h = cc
said-parts stage word true true None line is kind h = cc
said-parts stage word true true (Some l) line is kind h =
    let P : Result MapLine LineFault → MapLine = λ r. get r l in
    arena-here stage word line is (ap is_arena (sym (ap P h)) ∙ kind)
  where
    get : Result MapLine LineFault → MapLine → MapLine
    get (Ok x) d = x
    get (Err why) d = d

-- a line that is read at a stage may be taken there
pub map_line-here : (stage : Stage) (word : MapWord) (rest : List ℕ) (line : MapLine) → map_line_said stage word rest ≡ Ok line → IsOfMap stage line
map_line-here stage word rest line h =
    said-parts stage word (has_fields (fields_of word) rest) (is_allowed stage (words.OfMap word)) (line_within word rest) line refl (within-kind word rest) h

-- and its numbers are within their limits
said-within : (form here : Bool) (within : Option MapLine) (line : MapLine)
    → cond form (cond here (ok_or within faults.Limit) (Err faults.NotAllowed)) (Err faults.Form) ≡ Ok line → within ≡ Some line
said-within false here within line h = cc
said-within true false within line h = cc
said-within true true None line h = cc
said-within true true (Some l) line h = cc

map_line-within : (stage : Stage) (word : MapWord) (rest : List ℕ) (line : MapLine) → map_line_said stage word rest ≡ Ok line → IsWithinLimits line
map_line-within stage word rest line h =
    (within-read word rest line (said-within (has_fields (fields_of word) rest) (is_allowed stage (words.OfMap word)) (line_within word rest) line h)).limits

-- ---- the answer of reading a map line, in the order of the faults

ordered : (form here : Bool) (within : Option MapLine)
    → in_order here (cond form (ok_or within 6) (Err 4)) ≡ cond form (cond here (ok_or within faults.Limit) (Err faults.NotAllowed)) (Err faults.Form)
ordered false here within = refl
ordered true true None = refl
ordered true false None = refl
ordered true true (Some line) = refl
ordered true false (Some line) = refl

pub map_line-in_order : (stage : Stage) (word : MapWord) (first : Option MapWord) (rest : List ℕ) → first ≡ Some word
    → in_order (is_allowed stage (words.OfMap word)) (line_of_first first rest) ≡ map_line_said stage word rest
map_line-in_order stage word first rest is =
    ap (λ o. in_order (is_allowed stage (words.OfMap word)) (line_of_first o rest)) is
    ∙ ordered (has_fields (fields_of word) rest) (is_allowed stage (words.OfMap word)) (line_within word rest)

pub if_ok-here : (stage : Stage) (word : MapWord) (rest : List ℕ) (read : Result MapLine LineFault) → read ≡ map_line_said stage word rest → IfOk read (IsOfMap stage)
if_ok-here stage word rest (Ok line) is = map_line-here stage word rest line (sym is)
if_ok-here stage word rest (Err why) is = tt

pub if_ok-placed : (stage : Stage) (word : MapWord) (rest : List ℕ) (read : Result MapLine LineFault) → read ≡ map_line_said stage word rest
    → IfOk read (λ line. IsWithinLimits line × IsOfMap stage line)
if_ok-placed stage word rest (Ok line) is = (map_line-within stage word rest line (sym is), map_line-here stage word rest line (sym is))
if_ok-placed stage word rest (Err why) is = tt
