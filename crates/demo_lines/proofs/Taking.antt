-- What is known after a line holds again, and fewer lines can follow.
use Rattle.std.proofs.Common.{◌≡◌, ℕ, ◌+◌, ◌≤◌, ◌<◌, Bool, true, false, not, ◌∷◌, length, count_by, Option, Some, None, Result, Ok, Err, IfOk, OnOk, OnErr, IfSome, IsSome, option_map, cond, refl, sym, ap, ◌∙◌, subst, arith, length-append, []}
use Rattle.std.specs.Option.{option_or}
use Rattle.std.proofs.lemmas.Bool.{leb-false, ltb-true}
use Rattle.arena_geo.specs.Bounds.{bounds}
use Rattle.arena_map.specs.declared.limits.TheConstants.{MOST_BLOCKS, MOST_BOXES, MOST_ITEMS, MOST_SPAWNS}
use Rattle.arena_map.specs.declared.map_line.MapLine.{MapLine}
use Rattle.arena_map.specs.declared.map_line.MapLine.TheVariants.{Arena, Block, Spawn, Item, Teleport, Goal, Lift, Depth, Shots, Blocks}
use Rattle.arena_map.specs.declared.map_fault.MapFault.{MapFault}
use Rattle.arena_map.specs.declared.map_fault.MapFault.TheVariants as rules
use Rattle.arena_map.specs.Maps.{MapView, is_ready}
use Rattle.arena_map.specs.MapLines.{IsWithinLimits, is_arena, is_added, is_item_line, is_teleport_line, is_goal_line, is_lift_line}
use Rattle.arena_map.specs.Positions.{keeps_box}
use Rattle.arena_map.specs.Rules.{begun_map, with_line, keeps_count}
use Rattle.arena_map.proofs.Keeping.{count-push, none_yet, first-limit}
use Rattle.demo_lines.specs.declared.stage.Stage.{Stage}
use Rattle.demo_lines.specs.declared.stage.Stage.TheVariants.{Start, Map, Playing, Ended, Refused}
use Rattle.demo_lines.specs.declared.word.Word.TheVariants as words
use Rattle.demo_lines.specs.declared.line.Line.{Line}
use Rattle.demo_lines.specs.declared.line.Line.TheVariants.{OfMap, Frame, From, End}
use Rattle.demo_lines.specs.declared.line_fault.LineFault.{LineFault}
use Rattle.demo_lines.specs.declared.line_fault.LineFault.TheVariants as faults
use Rattle.demo_lines.specs.Known.{Reading, is_over, is_map_whole, at_stage, with_map}
use Rattle.demo_lines.specs.Words.{is_allowed}
use Rattle.demo_lines.specs.Faults.{broken_by_line, broken_by_frame, has_spawn}
use Rattle.demo_lines.specs.Recording.{after_line, after_test, with_map_line, map_lines_left, left_at, lines_left, most_lines}
use Rattle.demo_lines.specs.Said.{stage_fault, after_said}
use Rattle.demo_lines.specs.Readings.{HasFewBlocks, IsReading, IsOfMap, IsAllowedAt, HasMap}

-- the line may be taken at this stage, whatever its numbers are
abbrev pub IsTaken : Stage → Line → Type 0
IsTaken stage (OfMap line) = IsOfMap stage line
IsTaken stage Frame = is_allowed stage words.Frame ≡ true
IsTaken stage (From a) = is_allowed stage words.From ≡ true
IsTaken stage End = is_allowed stage words.End ≡ true

taken-placed : (stage : Stage) (line : Line) → IsAllowedAt stage line → IsTaken stage line
taken-placed stage (OfMap line) is = is.1
taken-placed stage Frame is = is
taken-placed stage (From a) is = is
taken-placed stage End is = is

pub if_ok-taken : (stage : Stage) (said : Result Line LineFault) → IfOk said (IsAllowedAt stage) → IfOk said (IsTaken stage)
if_ok-taken stage (Ok line) placed = taken-placed stage line placed
if_ok-taken stage (Err why) placed = tt

-- what is known holds, and fewer than n lines can follow
pub record GoesOn (n : ℕ) (r : Reading) : Type 0 where
  pub holds : IsReading r
  pub fewer : lines_left r < n

-- ---- a line of the map

kept-count : (box count : Bool) (rest : Option MapFault) → cond (not box) (Some rules.Box) (cond (not count) (Some rules.Count) rest) ≡ None → count ≡ true
kept-count true true rest h = refl
kept-count true false rest h = cc
kept-count false count rest h = cc

added-fewer : (map : MapView) (line : MapLine) → map.most_blocks ≤ MOST_BLOCKS → is_added line ≡ true → keeps_count map line ≡ true → map_lines_left (Some (with_line map line)) < map_lines_left (Some map)
added-fewer map (Arena lo hi) few added count = cc
added-fewer map (Block lo hi) few added count = omega (arith, few, ltb-true (length map.blocks) map.most_blocks count, length-append map.blocks (bounds lo hi ∷ []))
added-fewer map (Spawn at) few added count = omega (arith, ltb-true (length map.spawns) MOST_SPAWNS count, length-append map.spawns (at ∷ []))
added-fewer map (Item at kind delay) few added count =
    let line = Item at kind delay in
    omega (
      arith,
      ltb-true (count_by is_item_line map.things) MOST_ITEMS count,
      count-push is_item_line map.things line,
      count-push is_teleport_line map.things line,
      count-push is_goal_line map.things line,
      count-push is_lift_line map.things line,
    )
added-fewer map (Teleport lo hi dest) few added count =
    let line = Teleport lo hi dest in
    omega (
      arith,
      ltb-true (count_by is_teleport_line map.things) MOST_BOXES count,
      count-push is_item_line map.things line,
      count-push is_teleport_line map.things line,
      count-push is_goal_line map.things line,
      count-push is_lift_line map.things line,
    )
added-fewer map (Goal lo hi) few added count =
    let line = Goal lo hi in
    omega (
      arith,
      ltb-true (count_by is_goal_line map.things) MOST_BOXES count,
      count-push is_item_line map.things line,
      count-push is_teleport_line map.things line,
      count-push is_goal_line map.things line,
      count-push is_lift_line map.things line,
    )
added-fewer map (Lift lo hi rise speed) few added count =
    let line = Lift lo hi rise speed in
    omega (
      arith,
      ltb-true (count_by is_lift_line map.things) MOST_BOXES count,
      count-push is_item_line map.things line,
      count-push is_teleport_line map.things line,
      count-push is_goal_line map.things line,
      count-push is_lift_line map.things line,
    )
added-fewer map (Depth depth) few added count = omega (arith, none_yet map.depth_lines count)
added-fewer map Shots few added count = omega (arith, none_yet map.shots_lines count)
added-fewer map (Blocks most) few added count = omega (arith, (first-limit map count).no_line)

-- no line makes the limit of blocks greater than any map may have
added-few : (map : MapView) (line : MapLine) → IsWithinLimits line → map.most_blocks ≤ MOST_BLOCKS → (with_line map line).most_blocks ≤ MOST_BLOCKS
added-few map (Arena lo hi) limits few = few
added-few map (Block lo hi) limits few = few
added-few map (Spawn at) limits few = few
added-few map (Item at kind delay) limits few = few
added-few map (Teleport lo hi dest) limits few = few
added-few map (Goal lo hi) limits few = few
added-few map (Lift lo hi rise speed) limits few = few
added-few map (Depth depth) limits few = few
added-few map Shots limits few = few
added-few map (Blocks most) limits few = limits.most

begun-goes_on : (r : Reading) (line : MapLine) → r.limit ≤ 100000 → r.frames ≡ 0 → r.arrivals ≡ 0 → r.lines + left_at Start r ≤ most_lines → is_arena line ≡ true
    → GoesOn (left_at Start r) (with_map r (begun_map line))
begun-goes_on r (Arena lo hi) limit frames arrivals lines arena = record {
  holds = record { map = (refl, frames, arrivals, omega arith); limit = limit; frames = omega arith; arrivals = omega arith; lines = omega arith };
  fewer = omega arith;
}
begun-goes_on r (Block lo hi) limit frames arrivals lines arena = cc
begun-goes_on r (Spawn at) limit frames arrivals lines arena = cc
begun-goes_on r (Item at kind delay) limit frames arrivals lines arena = cc
begun-goes_on r (Teleport lo hi dest) limit frames arrivals lines arena = cc
begun-goes_on r (Goal lo hi) limit frames arrivals lines arena = cc
begun-goes_on r (Lift lo hi rise speed) limit frames arrivals lines arena = cc
begun-goes_on r (Depth depth) limit frames arrivals lines arena = cc
begun-goes_on r Shots limit frames arrivals lines arena = cc
begun-goes_on r (Blocks most) limit frames arrivals lines arena = cc

added-goes_on : (r : Reading) (map : Option MapView) (line : MapLine) → r.map ≡ map → IsSome map → IfSome map HasFewBlocks → IsWithinLimits line → r.limit ≤ 100000 → r.frames ≡ 0 → r.arrivals ≡ 0 → r.lines + left_at Map r ≤ most_lines
    → is_added line ≡ true → broken_by_line map line ≡ None → GoesOn (left_at Map r) (with_map r (with_map_line map line))
added-goes_on r None line is there few limits limit frames arrivals lines added none = cc
added-goes_on r (Some map) line is there few limits limit frames arrivals lines added none =
    let fewer = added-fewer map line few added (kept-count (keeps_box map.bounds line) (keeps_count map line) _ none) in
    let left : map_lines_left r.map ≡ map_lines_left (Some map) = ap map_lines_left is in
    let less : left_at Map (with_map r (Some (with_line map line))) < left_at Map r = omega (arith, fewer, left) in
    record {
      holds = record { map = (refl, frames, arrivals, added-few map line limits few); limit = limit; frames = omega arith; arrivals = omega arith; lines = omega (arith, less) };
      fewer = less;
    }

-- ---- the other lines

pub no_rule : (o : Option MapFault) → option_map faults.Rule o ≡ None → o ≡ None
no_rule None h = refl
no_rule (Some rule) h = cc

first-none : (o p : Option LineFault) → option_or o p ≡ None → o ≡ None
first-none None p h = refl
first-none (Some why) p h = cc

second-none : (o p : Option LineFault) → option_or o p ≡ None → p ≡ None
second-none None p h = h
second-none (Some why) p h = cc

no_count : (b : Bool) → cond b (Some faults.Count) None ≡ None → b ≡ false
no_count true h = cc
no_count false h = refl

spawn-there : (b : Bool) → cond b None (Some rules.NoSpawn) ≡ None → b ≡ true
spawn-there true h = refl
spawn-there false h = cc

ready : (map : Option MapView) → has_spawn map ≡ true → IfSome map (λ m. is_ready m ≡ true)
ready None h = tt
ready (Some map) h = h

first_frame : (r : Reading) → r.stage ≡ Map → broken_by_frame r ≡ None → has_spawn r.map ≡ true
first_frame r here none =
    let at : cond (has_spawn r.map) None (Some rules.NoSpawn) ≡ None =
    sym (ap (λ s. cond (is_map_whole s) None (cond (has_spawn r.map) None (Some rules.NoSpawn))) here) ∙ none in
    spawn-there (has_spawn r.map) at

-- ---- one line

refused-goes_on : (n : ℕ) (r : Reading) (why : LineFault) → IsReading r → r.lines + n ≤ most_lines → 0 < n → GoesOn n (at_stage (Refused why) r)
refused-goes_on n r why holds lines some = record {
  holds = record { map = tt; limit = holds.limit; frames = holds.frames; arrivals = holds.arrivals; lines = omega arith };
  fewer = some;
}

test-goes_on : (n : ℕ) (r : Reading) (fault : Option LineFault) (line : Line) → IsReading r → r.lines + n ≤ most_lines → 0 < n
    → (fault ≡ None → GoesOn n (after_line r (Some line))) → GoesOn n (after_test r fault (Some line))
test-goes_on n r None line holds lines some taken = taken refl
test-goes_on n r (Some why) line holds lines some taken = refused-goes_on n r why holds lines some

some_left : (stage : Stage) (r : Reading) → is_over stage ≡ false → 0 < left_at stage r
some_left Start r going = omega arith
some_left Map r going = omega arith
some_left Playing r going = omega arith
some_left Ended r going = cc
some_left (Refused why) r going = cc

ended-goes_on : (n : ℕ) (r : Reading) → IsReading r → r.lines + n ≤ most_lines → 0 < n → GoesOn n (at_stage Ended r)
ended-goes_on n r holds lines some = record {
  holds = record { map = tt; limit = holds.limit; frames = holds.frames; arrivals = holds.arrivals; lines = omega arith };
  fewer = some;
}

-- after a line without a fault at its place
taken-goes_on : (stage : Stage) (r : Reading) (line : Line) → r.stage ≡ stage → IsReading r → HasMap stage r → r.lines + left_at stage r ≤ most_lines
    → is_over stage ≡ false → IsAllowedAt stage line → stage_fault r line ≡ None → GoesOn (left_at stage r) (after_line r (Some line))
taken-goes_on Start r (OfMap line) here holds has lines going taken none =
    subst (λ m. GoesOn (left_at Start r) (with_map r (with_map_line m line))) (sym has.0) (begun-goes_on r line holds.limit has.1 has.2 lines taken.1)
taken-goes_on Start r Frame here holds has lines going taken none = cc
taken-goes_on Start r (From a) here holds has lines going taken none = cc
taken-goes_on Start r End here holds has lines going taken none = cc
taken-goes_on Map r (OfMap line) here holds has lines going taken none =
    added-goes_on r r.map line refl has.0 has.3 taken.0 holds.limit has.1 has.2 lines taken.1 (no_rule (broken_by_line r.map line) none)
taken-goes_on Map r Frame here holds has lines going taken none =
    let rule = no_rule (broken_by_frame r) (first-none (option_map faults.Rule (broken_by_frame r)) _ none) in
    let few = leb-false r.limit r.frames (no_count _ (second-none (option_map faults.Rule (broken_by_frame r)) _ none)) in
    record {
      holds = record {
        map = ready r.map (first_frame r here rule);
        limit = holds.limit;
        frames = omega (arith, few);
        arrivals = omega arith;
        lines = omega (arith, has.1);
      };
      fewer = omega (arith, has.1);
    }
taken-goes_on Map r (From a) here holds has lines going taken none = cc
taken-goes_on Map r End here holds has lines going taken none = ended-goes_on (left_at Map r) r holds lines (omega arith)
taken-goes_on Playing r (OfMap line) here holds has lines going taken none = absurd taken.1
taken-goes_on Playing r Frame here holds has lines going taken none =
    let few = leb-false r.limit r.frames (no_count _ (second-none (option_map faults.Rule (broken_by_frame r)) _ none)) in
    record {
      holds = record {
        map = has;
        limit = holds.limit;
        frames = omega (arith, few);
        arrivals = omega arith;
        lines = omega (arith, few, holds.limit);
      };
      fewer = omega (arith, few, holds.limit);
    }
taken-goes_on Playing r (From a) here holds has lines going taken none =
    let few = leb-false 512 r.arrivals (no_count _ none) in
    record {
      holds = record { map = has; limit = holds.limit; frames = holds.frames; arrivals = omega (arith, few); lines = omega (arith, few) };
      fewer = omega (arith, few);
    }
taken-goes_on Playing r End here holds has lines going taken none = ended-goes_on (left_at Playing r) r holds lines (omega arith)
taken-goes_on Ended r line here holds has lines going taken none = cc
taken-goes_on (Refused why) r line here holds has lines going taken none = cc

-- after what a line says, or its fault
pub said-goes_on : (r : Reading) (said : Result Line LineFault) → IsReading r → is_over r.stage ≡ false → IfOk said (IsAllowedAt r.stage) → GoesOn (lines_left r) (after_said r said)
said-goes_on r (Ok line) holds going taken =
    test-goes_on (lines_left r) r (stage_fault r line) line holds holds.lines (some_left r.stage r going)
    (taken-goes_on r.stage r line refl holds holds.map holds.lines going taken)
said-goes_on r (Err why) holds going taken = refused-goes_on (lines_left r) r why holds holds.lines (some_left r.stage r going)

pub refusing-goes_on : (r : Reading) (why : LineFault) → IsReading r → is_over r.stage ≡ false → GoesOn (lines_left r) (at_stage (Refused why) r)
refusing-goes_on r why holds going = refused-goes_on (lines_left r) r why holds holds.lines (some_left r.stage r going)

pub some_lines_left : (r : Reading) → is_over r.stage ≡ false → 0 < lines_left r
some_lines_left r going = some_left r.stage r going

-- ---- where memory may be refused

pub holds_either : {T E : Type 0} (result : Result T E) (old new then : Reading) → OnOk result (new ≡ then) → OnErr result (new ≡ old) → IsReading old → IsReading then → IsReading new
holds_either (Ok x) old new then ok err here there = subst IsReading (sym ok) there
holds_either (Err e) old new then ok err here there = subst IsReading (sym err) here

pub fewer_either : {T E : Type 0} (result : Result T E) (n : ℕ) (new then : Reading) → OnOk result (new ≡ then) → lines_left then < n → OnOk result (lines_left new < n)
fewer_either (Ok x) n new then ok fewer = subst (λ r. lines_left r < n) (sym ok) fewer
fewer_either (Err e) n new then ok fewer = tt
