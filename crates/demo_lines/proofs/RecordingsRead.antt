-- A recording that was written is read as what was written.
use Rattle.std.proofs.Common.{◌≡◌, ℕ, ◌+◌, ◌≤◌, ◌<◌, ◌≤ℤ◌, ◌==◌, Bool, true, false, not, ◌&&◌, nat_le, List, [], ◌∷◌, ◌++◌, length, fold, map, flat_map, filter_map, count_by, Some, None, option_map, cond, refl, sym, ap, ◌∙◌, subst, arith, ℤ, unsigned_abs, append_assoc, append-nil, length-append, All}
use Rattle.std.specs.Option.{option_or}
use Rattle.std.specs.Result.{result_ok}
use Rattle.std.specs.List.{AllByRecursion, AllPairs}
use Rattle.std.proofs.lemmas.Bool.Decides.{nat_tests}
use Rattle.std.proofs.lemmas.Int.{ints}
use Rattle.std.proofs.lemmas.List.{map-append}
use Rattle.std.proofs.lemmas.List.Sums.{sum_by-append, sum_by-cons}
use Rattle.std.proofs.lemmas.List.Folds.{list_any_none}
use Rattle.std.proofs.lemmas.List.Elements.{recursion_from_All, filter_map-append}
use Rattle.std.proofs.Math.ListN.{get_or-append}
use Rattle.std.proofs.Math.Seq.{get_or-append_seam}
use Rattle.std.proofs.lemmas.Bool.{and_from, lt-ltb}
use Rattle.edge_io.specs.Lines.{HasNoLineFeed}
use Rattle.edge_io.specs.WholeLines.{unlines}
use Rattle.edge_io.proofs.Feeds.{each_of_both}
use Rattle.arena_geo.specs.declared.vec3.Vec3.{Vec3}
use Rattle.arena_geo.specs.Vectors.{IsNear}
use Rattle.arena_geo.specs.Bounds.{Bounds}
use Rattle.arena_geo.specs.Boxes.{contains, contains_on, overlaps, is_blocked}
use Rattle.arena_geo.proofs.Containment.{three_pass}
use Rattle.arena_map.specs.declared.limits.TheConstants.{DEFAULT_BLOCKS, MOST_BOXES, MOST_ITEMS, MOST_SPAWNS}
use Rattle.arena_map.specs.declared.map_line.MapLine.{MapLine}
use Rattle.arena_map.specs.declared.map_line.MapLine.TheVariants.{Arena, Block, Spawn, Item, Teleport, Goal, Lift, Depth, Shots, Blocks}
use Rattle.arena_map.specs.declared.map_fault.MapFault.TheVariants as fault
use Rattle.arena_map.specs.Positions.{is_thick, shaft, shaft_of, keeps_box, keeps_stand, keeps_item, keeps_travel}
use Rattle.arena_map.specs.MapLines.{is_thing_line, is_arena, is_item_line, is_teleport_line, is_goal_line, is_lift_line}
use Rattle.arena_map.specs.Maps.{MapView, plain_map, IsMap, IsBlock, IsSpawn, IsThingInside, is_ready}
use Rattle.arena_map.specs.Rules.{with_line, broken_rule, keeps_count, keeps_shafts, meets_shaft}
use Rattle.arena_map.proofs.Keeping.{KeepsAll, none_yet}
use Rattle.packet_read.specs.declared.arrival.Arrival.{Arrival}
use Rattle.demo_lines.specs.declared.stage.Stage.TheVariants.{Map, Playing, Ended}
use Rattle.demo_lines.specs.declared.line.Line.{Line}
use Rattle.demo_lines.specs.declared.line.Line.TheVariants.{OfMap, Frame, From, End}
use Rattle.demo_lines.specs.declared.line_fault.LineFault.TheVariants as faults
use Rattle.demo_lines.specs.declared.event.Event.{Event}
use Rattle.demo_lines.specs.declared.event.Event.TheVariants as events
use Rattle.demo_lines.specs.Known.{Reading, start, is_over, is_refused, with_frame}
use Rattle.demo_lines.specs.Recording.{next, after_line, after_test, event_of, events_of_line, after, events_of}
use Rattle.demo_lines.specs.Said.{stage_fault, after_said}
use Rattle.demo_lines.specs.Bytes.{last_part, lines_of, refused_where}
use Rattle.demo_lines.specs.Spelling.{line_text, IsArrival, IsLine, arena_line, block_line, spawn_line, depth_lines_of, shots_lines_of, limit_lines_of, setting_lines, map_lines, frame_lines, recording_lines, recording_text, frame_events, recording_events, IsFrame, IsRecording}
use Rattle.demo_lines.specs.InTurn.{AreAccepted, map_in_turn, lines_in_turn, text_in_turn, IsBuilt}
use Rattle.demo_lines.specs.Laws.{IsTextOf}
use Rattle.demo_lines.proofs.Machines.{run_of-append, outputs_of-append}
use Rattle.demo_lines.proofs.OnePass.{next-short, events-short}
use Rattle.demo_lines.proofs.Parts.{lines_of-unlines}
use Rattle.demo_lines.proofs.Ink.{one_line}
use Rattle.demo_lines.proofs.Taking.{IsTaken}
use Rattle.demo_lines.proofs.Written.{line_reads, line_said-back}

-- written lines lead from a reading to one of some readings, and give these events
record Goes {I : Type 0} (r : Reading) (lines : List Line) (s : I → Reading) (es : List Event) : Type 0 where
  at : I
  each : AllByRecursion HasNoLineFeed (map line_text lines)
  reached : after r (map line_text lines) ≡ s at
  events : events_of r (map line_text lines) ≡ es

goes-then : {I J : Type 0} (r : Reading) (ls ms : List Line) (s : I → Reading) (t : J → Reading) (es fs : List Event) → Goes r ls s es
    → ((i : I) → Goes (s i) ms t fs) → Goes r (ls ++ ms) t (es ++ fs)
goes-then r ls ms s t es fs one then =
    let more = then one.at in
    let both = map-append line_text ls ms in
    let front = map line_text ls in
    let back = map line_text ms in
    record {
      at = more.at;
      each = subst (AllByRecursion HasNoLineFeed) (sym both) (each_of_both HasNoLineFeed front back one.each more.each);
      reached = ap (after r) both ∙ run_of-append next events_of_line r front back ∙ ap (λ u. after u back) one.reached ∙ more.reached;
      events = ap (events_of r) both ∙ outputs_of-append next events_of_line r front back ∙ ap (λ gs. gs ++ events_of (after r front) back) one.events
          ∙ ap (λ u. es ++ events_of u back) one.reached ∙ ap (λ gs. es ++ gs) more.events;
    }

fine-after : (r : Reading) (line : Line) → is_refused (after_line r (Some line)).stage ≡ false
fine-after r (OfMap line) = refl
fine-after r Frame = refl
fine-after r (From a) = refl
fine-after r End = refl

-- one line that has no fault at its place
goes-line : {I : Type 0} (r : Reading) (line : Line) (s : I → Reading) (i : I) → IsLine line → is_over r.stage ≡ false → IsTaken r.stage line
    → stage_fault r line ≡ None → after_line r (Some line) ≡ s i → Goes r (line ∷ []) s (event_of (Some line))
goes-line r line s i is going taken none step =
    let raw = line_text line in
    let reads = line_reads line is in
    let said = line_said-back r.stage line is taken in
    let there : next r raw ≡ after_line r (Some line) = next-short r raw going reads.fits ∙ ap (after_said r) said ∙ ap (λ f. after_test r f (Some line)) none in
    let fine : is_refused (next r raw).stage ≡ false = ap (λ (t : Reading). is_refused t.stage) there ∙ fine-after r line in
    record {
      at = i;
      each = (one_line raw reads.ink, tt);
      reached = there ∙ step;
      events = append-nil (events_of_line r raw) ∙ events-short r raw going reads.fits fine ∙ ap (λ x. event_of (result_ok x)) said;
    }

-- ---- the readings on the way

-- there is a map, and this many lines were read
abbrev mapping : MapView → ℕ → Reading
mapping m lines = record { stage = Map; map = Some m; limit = 100000; frames = 0; arrivals = 0; lines = lines }

-- in this frame, with its packets so far and the lines that were read
abbrev playing : MapView → ℕ → ℕ × ℕ → Reading
playing m frames at = record { stage = Playing; map = Some m; limit = 100000; frames = frames; arrivals = at.0; lines = at.1 }

-- after the end
abbrev ended : MapView → ℕ × ℕ × ℕ → Reading
ended m at = record { stage = Ended; map = Some m; limit = 100000; frames = at.0; arrivals = at.1; lines = at.2 }

-- the map with these parts alone, and with its settings
abbrev pub filled : MapView → List Bounds → List Vec3 → List MapLine → MapView
filled full blocks spawns things = record full { blocks = blocks; spawns = spawns; things = things }

-- ---- the map

pub near_on : (lo hi l h : ℤ) → unsigned_abs lo ≤ 1048576 → unsigned_abs hi ≤ 1048576 → l ≤ℤ h → contains_on lo hi l h ≡ true
    → (unsigned_abs l ≤ 1048576) × (unsigned_abs h ≤ 1048576)
near_on lo hi l h near_lo near_hi ordered inside =
    let low : lo ≤ℤ l = grind (arith, ints) in
    let high : h ≤ℤ hi = grind (arith, ints) in
    (omega (arith, ints), omega (arith, ints))

-- a block inside an arena that is near is near
pub block_near : (arena b : Bounds) → IsNear 1048576 arena.lo → IsNear 1048576 arena.hi → IsBlock arena b → IsNear 1048576 b.lo × IsNear 1048576 b.hi
block_near arena b lo hi is =
    let t = three_pass _ _ _ is.inside in
    let x = near_on arena.lo.x arena.hi.x b.lo.x b.hi.x lo.x hi.x is.is_box.ordered.x t.x in
    let y = near_on arena.lo.y arena.hi.y b.lo.y b.hi.y lo.y hi.y is.is_box.ordered.y t.y in
    let z = near_on arena.lo.z arena.hi.z b.lo.z b.hi.z lo.z hi.z is.is_box.ordered.z t.z in
    (record { x = x.0; y = y.0; z = z.0 }, record { x = x.1; y = y.1; z = z.1 })

-- ---- which rules are kept

none-by : (a b c d e f : Bool) → a ≡ true → b ≡ true → c ≡ true → d ≡ true → e ≡ true → f ≡ true
    → cond (not a) (Some fault.Box) (cond (not b) (Some fault.Count) (cond (not c) (Some fault.Stand) (cond (not d) (Some fault.Item)
    (cond (not e) (Some fault.Travel) (cond (not f) (Some fault.Shaft) None))))) ≡ None
none-by true true true true true true p q r s t u = refl
none-by true true true true true false p q r s t u = cc
none-by true true true true false f p q r s t u = cc
none-by true true true false e f p q r s t u = cc
none-by true true false d e f p q r s t u = cc
none-by true false c d e f p q r s t u = cc
none-by false b c d e f p q r s t u = cc

-- a line that keeps all rules has no fault at its place
kept-fault : (map : MapView) (line : MapLine) → KeepsAll map line → option_map faults.Rule (broken_rule map line) ≡ None
kept-fault map line keeps =
    ap (option_map faults.Rule)
    (none-by (keeps_box map.bounds line) (keeps_count map line) (keeps_stand map.bounds line) (keeps_item map.bounds line) (keeps_travel map.bounds line) (keeps_shafts map line)
    keeps.inside keeps.count keeps.stand keeps.item keeps.travel keeps.shafts)

-- the line of an arena that is wide enough breaks no rule
arena_passes : (b : Bool) → b ≡ true → option_map faults.Rule (cond b None (Some fault.Arena)) ≡ None
arena_passes true h = refl
arena_passes false h = cc

count-split : (p : MapLine → Bool) (done rest : List MapLine) (line : MapLine) → count_by p (done ++ line ∷ rest) ≡ count_by p done + (cond (p line) 1 0 + count_by p rest)
count-split p done rest line =
    let whole = sum_by-append (λ l. cond (p l) 1 0) done (line ∷ rest) in
    let one = sum_by-cons (λ l. cond (p l) 1 0) line rest in
    omega (arith, whole, one)

pairs-before : {X : Type 0} (R : X → X → Type 0) (xs : List X) (s : X) (ys : List X) → AllPairs R (xs ++ s ∷ ys) → All (λ x. R x s) xs
pairs-before R xs s ys pairs k d within =
    let longer : length xs < length (xs ++ s ∷ ys) = omega (arith, length-append xs (s ∷ ys)) in
    let pair = pairs k (length xs) d within longer in
    let one = rw (get_or-append xs (s ∷ ys) d k within) at pair in
    rw (get_or-append_seam xs s ys d) at one

all-at : {X : Type 0} (P : X → Type 0) (xs : List X) (s : X) (ys : List X) → All P (xs ++ s ∷ ys) → P s
all-at P xs s ys all =
    let longer : length xs < length (xs ++ s ∷ ys) = omega (arith, length-append xs (s ∷ ys)) in
    rw (get_or-append_seam xs s ys s) at (all (length xs) s longer)

module _ (full : MapView) (lo : IsNear 1048576 full.bounds.lo) (hi : IsNear 1048576 full.bounds.hi) where
  goes_block : (spawns : List Vec3) (done : List Bounds) (b : Bounds) (n : ℕ) → IsBlock full.bounds b → length done < full.most_blocks
      → Goes (mapping (filled full done spawns []) n) (block_line b ∷ []) (mapping (filled full (done ++ b ∷ []) spawns [])) []
  goes_block spawns done b n is few =
      let m = filled full done spawns [] in
      let keeps : KeepsAll m (Block b.lo b.hi) = record {
        inside = and_from (is_thick b.lo b.hi) (contains full.bounds b) is.thick is.inside;
        count = lt-ltb (length done) full.most_blocks few;
        stand = refl;
        item = refl;
        travel = refl;
        shafts = refl;
      } in
      goes-line (mapping m n) (block_line b) (mapping (filled full (done ++ b ∷ []) spawns [])) (n + 1) (block_near full.bounds b lo hi is) refl refl
      (kept-fault m (Block b.lo b.hi) keeps) refl

  goes_blocks : (spawns : List Vec3) (done blocks : List Bounds) (n : ℕ) → AllByRecursion (IsBlock full.bounds) blocks → length done + length blocks ≤ full.most_blocks
      → Goes (mapping (filled full done spawns []) n) (map block_line blocks) (mapping (filled full (done ++ blocks) spawns [])) []
  goes_blocks spawns done [] n each few =
      let P : List Bounds → Type 0 = λ bs. Goes (mapping (filled full done spawns []) n) [] (mapping (filled full bs spawns [])) [] in
      subst P (sym (append-nil done)) (record { at = n; each = tt; reached = refl; events = refl })
  goes_blocks spawns done (b ∷ blocks) n each few =
      let r = mapping (filled full done spawns []) n in
      let P : List Bounds → Type 0 = λ bs. Goes r (map block_line (b ∷ blocks)) (mapping (filled full bs spawns [])) [] in
      let fewer : length (done ++ b ∷ []) + length blocks ≤ full.most_blocks = grind (arith, length-append) in
      subst P (append_assoc done (b ∷ []) blocks)
      (goes-then r (block_line b ∷ []) (map block_line blocks) (mapping (filled full (done ++ b ∷ []) spawns [])) (mapping (filled full (done ++ b ∷ [] ++ blocks) spawns [])) [] []
      (goes_block spawns done b n each.0 (omega arith)) (λ k. goes_blocks spawns (done ++ b ∷ []) blocks k each.1 fewer))

  goes_spawn : (done : List Vec3) (at : Vec3) (n : ℕ) → IsSpawn full.bounds at → length done < MOST_SPAWNS
      → Goes (mapping (filled full [] done []) n) (spawn_line at ∷ []) (mapping (filled full [] (done ++ at ∷ []) [])) []
  goes_spawn done at n is few =
      let m = filled full [] done [] in
      let keeps : KeepsAll m (Spawn at) = record { inside = refl; count = lt-ltb (length done) MOST_SPAWNS few; stand = is.inside; item = refl; travel = refl; shafts = refl } in
      goes-line (mapping m n) (spawn_line at) (mapping (filled full [] (done ++ at ∷ []) [])) (n + 1) is.near refl refl (kept-fault m (Spawn at) keeps) refl

  goes_spawns : (done spawns : List Vec3) (n : ℕ) → AllByRecursion (IsSpawn full.bounds) spawns → length done + length spawns ≤ MOST_SPAWNS
      → Goes (mapping (filled full [] done []) n) (map spawn_line spawns) (mapping (filled full [] (done ++ spawns) [])) []
  goes_spawns done [] n each few =
      let P : List Vec3 → Type 0 = λ ss. Goes (mapping (filled full [] done []) n) [] (mapping (filled full [] ss [])) [] in
      subst P (sym (append-nil done)) (record { at = n; each = tt; reached = refl; events = refl })
  goes_spawns done (at ∷ spawns) n each few =
      let r = mapping (filled full [] done []) n in
      let P : List Vec3 → Type 0 = λ ss. Goes r (map spawn_line (at ∷ spawns)) (mapping (filled full [] ss [])) [] in
      let fewer : length (done ++ at ∷ []) + length spawns ≤ MOST_SPAWNS = grind (arith, length-append) in
      subst P (append_assoc done (at ∷ []) spawns)
      (goes-then r (spawn_line at ∷ []) (map spawn_line spawns) (mapping (filled full [] (done ++ at ∷ []) [])) (mapping (filled full [] (done ++ at ∷ [] ++ spawns) [])) [] []
      (goes_spawn done at n each.0 (omega arith)) (λ k. goes_spawns (done ++ at ∷ []) spawns k each.1 fewer))

-- ---- the settings

-- the map of an arena with these settings and nothing in it
abbrev pub set : Bounds → ℕ → ℕ → Bool → ℕ → ℕ → ℕ → MapView
set arena depth depth_lines shots shots_lines most_blocks limit_lines =
    record (plain_map arena [] [] []) {
      depth = depth;
      depth_lines = depth_lines;
      shots = shots;
      shots_lines = shots_lines;
      most_blocks = most_blocks;
      limit_lines = limit_lines;
    }

-- with the depth alone
abbrev deep : MapView → MapView
deep full = set full.bounds full.depth full.depth_lines false 0 DEFAULT_BLOCKS 0

-- with the depth, and with shots where players can shoot
abbrev armed : MapView → MapView
armed full = set full.bounds full.depth full.depth_lines full.shots full.shots_lines DEFAULT_BLOCKS 0

one-line : (n : ℕ) → n ≤ 1 → (n == 0) ≡ false → 1 ≡ n
one-line n few h = grind (arith, nat_tests)

goes_depth : (full : MapView) (n : ℕ) → IsMap full
    → Goes (mapping (plain_map full.bounds [] [] []) n) (map OfMap (depth_lines_of full)) (mapping (deep full)) []
goes_depth full n is = by (full.depth_lines == 0) refl
  where
    by : (none : Bool) → (full.depth_lines == 0) ≡ none
        → Goes (mapping (plain_map full.bounds [] [] []) n) (map OfMap (cond none [] (Depth full.depth ∷ []))) (mapping (deep full)) []
    by true h =
        let none = none_yet full.depth_lines h in
        let P : MapView → Type 0 = λ m. Goes (mapping (plain_map full.bounds [] [] []) n) [] (mapping m) [] in
        let same : plain_map full.bounds [] [] [] ≡ deep full =
        ap (λ d. set full.bounds d 0 false 0 DEFAULT_BLOCKS 0) (sym (is.default_depth none))
        ∙ ap (λ l. set full.bounds full.depth l false 0 DEFAULT_BLOCKS 0) (sym none) in
        subst P same (record { at = n; each = tt; reached = refl; events = refl })
    by false h =
        let bare = plain_map full.bounds [] [] [] in
        let line = Depth full.depth in
        let keeps : KeepsAll bare line = record { inside = refl; count = refl; stand = refl; item = refl; travel = refl; shafts = refl } in
        goes-line (mapping bare n) (OfMap line) (mapping (deep full)) (n + 1) is.depth refl refl (kept-fault bare line keeps)
        (ap (λ l. mapping (set full.bounds full.depth l false 0 DEFAULT_BLOCKS 0) (n + 1)) (one-line full.depth_lines is.few_depth_lines h))

goes_shots : (full : MapView) (n : ℕ) → IsMap full
    → Goes (mapping (deep full) n) (map OfMap (shots_lines_of full)) (mapping (armed full)) []
goes_shots full n is = by full.shots refl
  where
    settings_are : (shots : Bool) → full.shots ≡ shots
        → set full.bounds full.depth full.depth_lines shots (cond shots 1 0) DEFAULT_BLOCKS 0 ≡ armed full
    settings_are shots h =
        ap (λ b. set full.bounds full.depth full.depth_lines b (cond b 1 0) DEFAULT_BLOCKS 0) (sym h)
        ∙ ap (λ l. set full.bounds full.depth full.depth_lines full.shots l DEFAULT_BLOCKS 0) (sym is.shots_line)

    by : (shots : Bool) → full.shots ≡ shots
        → Goes (mapping (deep full) n) (map OfMap (cond shots (Shots ∷ []) [])) (mapping (armed full)) []
    by true h =
        let keeps : KeepsAll (deep full) Shots = record { inside = refl; count = refl; stand = refl; item = refl; travel = refl; shafts = refl } in
        goes-line (mapping (deep full) n) (OfMap Shots) (mapping (armed full)) (n + 1) tt refl refl (kept-fault (deep full) Shots keeps)
        (ap (λ m. mapping m (n + 1)) (settings_are true h))
    by false h =
        let P : MapView → Type 0 = λ m. Goes (mapping (deep full) n) [] (mapping m) [] in
        subst P (settings_are false h) (record { at = n; each = tt; reached = refl; events = refl })

goes_limit : (full : MapView) (n : ℕ) → IsMap full
    → Goes (mapping (armed full) n) (map OfMap (limit_lines_of full)) (mapping (filled full [] [] [])) []
goes_limit full n is = by (full.limit_lines == 0) refl
  where
    -- no block comes before the line
    early : (most lines : ℕ) → most ≡ full.most_blocks → lines ≡ full.limit_lines
        → set full.bounds full.depth full.depth_lines full.shots full.shots_lines most lines ≡ filled full [] [] []
    early most lines same named =
        ap (λ m. set full.bounds full.depth full.depth_lines full.shots full.shots_lines m lines) same
        ∙ ap (λ l. set full.bounds full.depth full.depth_lines full.shots full.shots_lines full.most_blocks l) named
        ∙ ap (λ e. record (filled full [] [] []) { early_blocks = e }) (sym is.limit.first)

    by : (none : Bool) → (full.limit_lines == 0) ≡ none
        → Goes (mapping (armed full) n) (map OfMap (cond none [] (Blocks full.most_blocks ∷ []))) (mapping (filled full [] [] [])) []
    by true h =
        let none = none_yet full.limit_lines h in
        let P : MapView → Type 0 = λ m. Goes (mapping (armed full) n) [] (mapping m) [] in
        subst P (early DEFAULT_BLOCKS 0 (sym (is.limit.default none)) (sym none)) (record { at = n; each = tt; reached = refl; events = refl })
    by false h =
        let line = Blocks full.most_blocks in
        let keeps : KeepsAll (armed full) line = record { inside = refl; count = refl; stand = refl; item = refl; travel = refl; shafts = refl } in
        goes-line (mapping (armed full) n) (OfMap line) (mapping (filled full [] [] [])) (n + 1) is.limit.range refl refl (kept-fault (armed full) line keeps)
        (ap (λ m. mapping m (n + 1)) (early full.most_blocks 1 refl (one-line full.limit_lines is.limit.few_lines h)))

goes_settings : (full : MapView) (n : ℕ) → IsMap full
    → Goes (mapping (plain_map full.bounds [] [] []) n) (setting_lines full) (mapping (filled full [] [] [])) []
goes_settings full n is =
    let depth = map OfMap (depth_lines_of full) in
    let shots = map OfMap (shots_lines_of full) in
    let limit = map OfMap (limit_lines_of full) in
    goes-then (mapping (plain_map full.bounds [] [] []) n) depth (shots ++ limit) (mapping (deep full)) (mapping (filled full [] [] [])) [] []
    (goes_depth full n is)
    (λ k. goes-then (mapping (deep full) k) shots limit (mapping (armed full)) (mapping (filled full [] [] [])) [] [] (goes_shots full k is)
    (λ j. goes_limit full j is))

-- ---- the things

added-thing : (full : MapView) (done : List MapLine) (line : MapLine) → is_thing_line line ≡ true
    → with_line (filled full full.blocks full.spawns done) line ≡ filled full full.blocks full.spawns (done ++ line ∷ [])
added-thing full done (Arena lo hi) thing = cc
added-thing full done (Block lo hi) thing = cc
added-thing full done (Spawn at) thing = cc
added-thing full done (Item at kind delay) thing = refl
added-thing full done (Teleport lo hi dest) thing = refl
added-thing full done (Goal lo hi) thing = refl
added-thing full done (Lift lo hi rise speed) thing = refl
added-thing full done (Depth depth) thing = cc
added-thing full done Shots thing = cc
added-thing full done (Blocks most) thing = cc

thing-added : (line : MapLine) → is_thing_line line ≡ true → not (is_arena line) ≡ true
thing-added (Arena lo hi) thing = cc
thing-added (Block lo hi) thing = cc
thing-added (Spawn at) thing = cc
thing-added (Item at kind delay) thing = refl
thing-added (Teleport lo hi dest) thing = refl
thing-added (Goal lo hi) thing = refl
thing-added (Lift lo hi rise speed) thing = refl
thing-added (Depth depth) thing = cc
thing-added Shots thing = cc
thing-added (Blocks most) thing = cc

module _ (full : MapView) (is : IsMap full) where
  thing-count : (done rest : List MapLine) (line : MapLine) → done ++ line ∷ rest ≡ full.things → is_thing_line line ≡ true → keeps_count (filled full full.blocks full.spawns done) line ≡ true
  thing-count done rest (Arena lo hi) whole thing = cc
  thing-count done rest (Block lo hi) whole thing = cc
  thing-count done rest (Spawn at) whole thing = cc
  thing-count done rest (Depth depth) whole thing = cc
  thing-count done rest Shots whole thing = cc
  thing-count done rest (Blocks most) whole thing = cc
  thing-count done rest (Item at kind delay) whole thing =
      lt-ltb (count_by is_item_line done) MOST_ITEMS (omega (arith, count-split is_item_line done rest (Item at kind delay), ap (count_by is_item_line) whole, is.few_items))
  thing-count done rest (Teleport lo hi dest) whole thing =
      lt-ltb (count_by is_teleport_line done) MOST_BOXES (omega (arith, count-split is_teleport_line done rest (Teleport lo hi dest), ap (count_by is_teleport_line) whole, is.few_teleporters))
  thing-count done rest (Goal lo hi) whole thing =
      lt-ltb (count_by is_goal_line done) MOST_BOXES (omega (arith, count-split is_goal_line done rest (Goal lo hi), ap (count_by is_goal_line) whole, is.few_goals))
  thing-count done rest (Lift lo hi rise speed) whole thing =
      lt-ltb (count_by is_lift_line done) MOST_BOXES (omega (arith, count-split is_lift_line done rest (Lift lo hi rise speed), ap (count_by is_lift_line) whole, is.few_lifts))

  lift-shafts : (done rest : List MapLine) (s : Bounds) → filter_map shaft_of full.things ≡ filter_map shaft_of done ++ s ∷ filter_map shaft_of rest
      → (not (is_blocked s full.blocks) && not (meets_shaft (filter_map shaft_of done) s)) ≡ true
  lift-shafts done rest s split =
      let clear = all-at (λ own. is_blocked own full.blocks ≡ false) (filter_map shaft_of done) s (filter_map shaft_of rest)
      (subst (All (λ own. is_blocked own full.blocks ≡ false)) split is.clear_shafts) in
      let apart = pairs-before (λ one other. overlaps one other ≡ false) (filter_map shaft_of done) s (filter_map shaft_of rest)
      (subst (AllPairs (λ one other. overlaps one other ≡ false)) split is.shafts_apart) in
      and_from _ _ (ap not clear) (ap not (list_any_none (λ own. overlaps own s) (filter_map shaft_of done) apart))

  thing-shafts : (done rest : List MapLine) (line : MapLine) → done ++ line ∷ rest ≡ full.things → is_thing_line line ≡ true → keeps_shafts (filled full full.blocks full.spawns done) line ≡ true
  thing-shafts done rest (Arena lo hi) whole thing = cc
  thing-shafts done rest (Block lo hi) whole thing = cc
  thing-shafts done rest (Spawn at) whole thing = cc
  thing-shafts done rest (Depth depth) whole thing = cc
  thing-shafts done rest Shots whole thing = cc
  thing-shafts done rest (Blocks most) whole thing = cc
  thing-shafts done rest (Item at kind delay) whole thing = refl
  thing-shafts done rest (Teleport lo hi dest) whole thing = refl
  thing-shafts done rest (Goal lo hi) whole thing = refl
  thing-shafts done rest (Lift lo hi rise speed) whole thing =
      lift-shafts done rest (shaft lo hi rise) (ap (filter_map shaft_of) (sym whole) ∙ filter_map-append shaft_of done (Lift lo hi rise speed ∷ rest))

  goes_thing : (done rest : List MapLine) (line : MapLine) (n : ℕ) → done ++ line ∷ rest ≡ full.things → IsThingInside full.bounds line
      → Goes (mapping (filled full full.blocks full.spawns done) n) (OfMap line ∷ []) (mapping (filled full full.blocks full.spawns (done ++ line ∷ []))) []
  goes_thing done rest line n whole inside =
      let m = filled full full.blocks full.spawns done in
      let keeps : KeepsAll m line = record {
        inside = inside.inside;
        count = thing-count done rest line whole inside.thing;
        stand = inside.stand;
        item = inside.item;
        travel = inside.travel;
        shafts = thing-shafts done rest line whole inside.thing;
      } in
      goes-line (mapping m n) (OfMap line) (mapping (filled full full.blocks full.spawns (done ++ line ∷ []))) (n + 1) inside.limits refl (thing-added line inside.thing)
      (kept-fault m line keeps) (ap (λ (x : MapView). mapping x (n + 1)) (added-thing full done line inside.thing))

  goes_things : (done things : List MapLine) (n : ℕ) → done ++ things ≡ full.things → AllByRecursion (IsThingInside full.bounds) things
      → Goes (mapping (filled full full.blocks full.spawns done) n) (map OfMap things) (mapping (filled full full.blocks full.spawns full.things)) []
  goes_things done [] n whole each =
      let P : List MapLine → Type 0 = λ ts. Goes (mapping (filled full full.blocks full.spawns done) n) [] (mapping (filled full full.blocks full.spawns ts)) [] in
      subst P (sym (append-nil done) ∙ whole) (record { at = n; each = tt; reached = refl; events = refl })
  goes_things done (line ∷ things) n whole each =
      goes-then (mapping (filled full full.blocks full.spawns done) n) (OfMap line ∷ []) (map OfMap things) (mapping (filled full full.blocks full.spawns (done ++ line ∷ [])))
      (mapping (filled full full.blocks full.spawns full.things)) [] [] (goes_thing done things line n whole each.0)
      (λ k. goes_things (done ++ line ∷ []) things k (append_assoc done (line ∷ []) things ∙ whole) each.1)

goes_arena : (m : MapView) → IsMap m → Goes start (arena_line m.bounds ∷ []) (mapping (plain_map m.bounds [] [] [])) []
goes_arena m is =
    goes-line start (arena_line m.bounds) (mapping (plain_map m.bounds [] [] [])) 1 (is.lo, is.hi) refl refl (arena_passes _ is.wide) refl

-- ---- the frames

no_count : (limit n : ℕ) → n < limit → cond (nat_le limit n) (Some faults.Count) None ≡ None
no_count limit n few = let under : nat_le limit n ≡ false = grind (arith, nat_tests) in ap (λ b. cond b (Some faults.Count) None) under

goes_packets : (m : MapView) (frames : ℕ) (arrivals : List Arrival) (a n : ℕ) → AllByRecursion IsArrival arrivals → a + length arrivals ≤ 512
    → Goes (playing m frames (a, n)) (map From arrivals) (playing m frames) (map events.From arrivals)
goes_packets m frames [] a n each few = record { at = (a, n); each = tt; reached = refl; events = refl }
goes_packets m frames (x ∷ xs) a n each few =
    let r = playing m frames (a, n) in
    let Next : Unit {0} → Reading = λ u. playing m frames (a + 1, n + 1) in
    goes-then r (From x ∷ []) (map From xs) Next (playing m frames) (events.From x ∷ []) (map events.From xs)
    (goes-line r (From x) Next tt each.0 refl refl (no_count 512 a (omega arith)) refl)
    (λ u. goes_packets m frames xs (a + 1) (n + 1) each.1 (omega arith))

-- the line of a frame, which has no fault here, and its packets
goes_frame : (r : Reading) (m : MapView) (frames n : ℕ) (arrivals : List Arrival) → IsFrame arrivals → is_over r.stage ≡ false → IsTaken r.stage Frame
    → stage_fault r Frame ≡ None → with_frame r ≡ playing m frames (0, n) → Goes r (frame_lines arrivals) (playing m frames) (frame_events arrivals)
goes_frame r m frames n arrivals is going taken none opens =
    let Next : Unit {0} → Reading = λ u. playing m frames (0, n) in
    goes-then r (Frame ∷ []) (map From arrivals) Next (playing m frames) (events.Frame ∷ []) (map events.From arrivals)
    (goes-line r Frame Next tt tt going taken none opens) (λ u. goes_packets m frames arrivals 0 n is.each (omega (arith, is.few)))

-- the lines of frames and the end
abbrev tail_lines : List (List Arrival) → List Line
tail_lines frames = flat_map frame_lines frames ++ End ∷ []

goes_on : (r : Reading) (m : MapView) (frames n : ℕ) (x : List Arrival) (xs : List (List Arrival)) → IsFrame x → is_over r.stage ≡ false → IsTaken r.stage Frame
    → stage_fault r Frame ≡ None → with_frame r ≡ playing m frames (0, n)
    → ((at : ℕ × ℕ) → Goes (playing m frames at) (tail_lines xs) (ended m) (recording_events xs)) → Goes r (tail_lines (x ∷ xs)) (ended m) (recording_events (x ∷ xs))
goes_on r m frames n x xs is going taken none opens rest =
    let P : List Line → Type 0 = λ ls. Goes r ls (ended m) (recording_events (x ∷ xs)) in
    let Q : List Event → Type 0 = λ es. Goes r (frame_lines x ++ tail_lines xs) (ended m) es in
    subst P (sym (append_assoc (frame_lines x) (flat_map frame_lines xs) (End ∷ [])))
    (subst Q (sym (append_assoc (frame_events x) (flat_map frame_events xs) (events.End ∷ [])))
    (goes-then r (frame_lines x) (tail_lines xs) (playing m frames) (ended m) (frame_events x) (recording_events xs) (goes_frame r m frames n x is going taken none opens) rest))

goes_frames : (m : MapView) (frames : ℕ) (xs : List (List Arrival)) (at : ℕ × ℕ) → AllByRecursion IsFrame xs → frames + length xs ≤ 100000
    → Goes (playing m frames at) (tail_lines xs) (ended m) (recording_events xs)
goes_frames m frames [] at each few = goes-line (playing m frames at) End (ended m) (frames, at.0, at.1 + 1) tt refl refl refl refl
goes_frames m frames (x ∷ xs) at each few =
    let r = playing m frames at in
    goes_on r m (frames + 1) (at.1 + 1) x xs each.0 refl refl (no_count 100000 frames (omega arith)) refl
    (λ k. goes_frames m (frames + 1) xs k each.1 (omega arith))

first-frame : (b : Bool) → b ≡ true → option_or (option_map faults.Rule (cond b None (Some fault.NoSpawn))) None ≡ None
first-frame true h = refl
first-frame false h = cc

goes_tail : (m : MapView) (xs : List (List Arrival)) (n : ℕ) → AllByRecursion IsFrame xs → length xs ≤ 100000 → (0 < length xs → is_ready m ≡ true)
    → Goes (mapping m n) (tail_lines xs) (ended m) (recording_events xs)
goes_tail m [] n each few spawn = goes-line (mapping m n) End (ended m) (0, 0, n + 1) tt refl refl refl refl
goes_tail m (x ∷ xs) n each few spawn =
    let r = mapping m n in
    goes_on r m 1 (n + 1) x xs each.0 refl refl (first-frame (is_ready m) (spawn (omega arith))) refl
    (λ k. goes_frames m 1 xs k each.1 (omega arith))

-- ---- the whole

goes_map : (m : MapView) → IsMap m → Goes start (map_lines m) (mapping m) []
goes_map m is =
    let arena = m.bounds in
    let spawns = map spawn_line m.spawns in
    let blocks = map block_line m.blocks in
    let things = map OfMap m.things in
    goes-then start (arena_line arena ∷ []) (setting_lines m ++ (spawns ++ (blocks ++ things))) (mapping (plain_map arena [] [] [])) (mapping m) [] [] (goes_arena m is)
    (λ n. goes-then (mapping (plain_map arena [] [] []) n) (setting_lines m) (spawns ++ (blocks ++ things)) (mapping (filled m [] [] [])) (mapping m) [] []
    (goes_settings m n is)
    (λ i. goes-then (mapping (filled m [] [] []) i) spawns (blocks ++ things) (mapping (filled m [] m.spawns [])) (mapping m) [] []
    (goes_spawns m is.lo is.hi [] m.spawns i (recursion_from_All (IsSpawn arena) m.spawns is.spawns) (omega (arith, is.few_spawns)))
    (λ k. goes-then (mapping (filled m [] m.spawns []) k) blocks things (mapping (filled m m.blocks m.spawns [])) (mapping m) [] []
    (goes_blocks m is.lo is.hi m.spawns [] m.blocks k (recursion_from_All (IsBlock arena) m.blocks is.blocks) (omega (arith, is.few_blocks)))
    (λ j. goes_things m is [] m.things j refl (recursion_from_All (IsThingInside arena) m.things is.things)))))

goes_recording : (m : MapView) (frames : List (List Arrival)) → IsRecording m frames → Goes start (recording_lines m frames) (ended m) (recording_events frames)
goes_recording m frames is =
    goes-then start (map_lines m) (tail_lines frames) (mapping m) (ended m) [] (recording_events frames) (goes_map m is.is_map) (λ n. goes_tail m frames n is.each is.few is.spawn)

-- what is read of the text of written lines that lead to an end
read-text : (lines : List Line) (m : MapView) (frames : List (List Arrival)) → Goes start lines (ended m) (recording_events frames) → IsTextOf m frames (unlines (map line_text lines))
read-text lines m frames goes =
    let text = unlines (map line_text lines) in
    let whole : lines_of text ≡ map line_text lines =
    ap lines_of (sym (append-nil text)) ∙ lines_of-unlines (map line_text lines) [] goes.each ∙ append-nil (map line_text lines) in
    record {
      fault = ap (λ ls. refused_where (after start ls) (last_part text)) whole ∙ ap (λ r. refused_where r (last_part text)) goes.reached;
      map = ap (λ ls. (after start ls).map) whole ∙ ap (λ (r : Reading). r.map) goes.reached;
      events = ap (events_of start) whole ∙ goes.events;
    }

pub recordings_read_back : (m : MapView) (frames : List (List Arrival)) → IsRecording m frames → IsTextOf m frames (recording_text m frames)
recordings_read_back m frames is = read-text (recording_lines m frames) m frames (goes_recording m frames is)

-- ---- map lines in any order

-- lines that are accepted in turn lead to the map with them
goes_accepted : (m : MapView) (lines : List MapLine) (n : ℕ) → AreAccepted m lines → Goes (mapping m n) (map OfMap lines) (mapping (fold with_line m lines)) []
goes_accepted m [] n accepted = record { at = n; each = tt; reached = refl; events = refl }
goes_accepted m (line ∷ more) n accepted =
    let is = accepted.0 in
    goes-then (mapping m n) (OfMap line ∷ []) (map OfMap more) (mapping (with_line m line)) (mapping (fold with_line m (line ∷ more))) [] []
    (goes-line (mapping m n) (OfMap line) (mapping (with_line m line)) (n + 1) is.limits refl is.added (ap (option_map faults.Rule) is.rules) refl)
    (λ k. goes_accepted (with_line m line) more k accepted.1)

goes_in_turn : (arena : Bounds) (added : List MapLine) (frames : List (List Arrival)) → IsBuilt arena added frames
    → Goes start (lines_in_turn arena added frames) (ended (map_in_turn arena added)) (recording_events frames)
goes_in_turn arena added frames is =
    let bare = plain_map arena [] [] [] in
    let m = map_in_turn arena added in
    goes-then start (arena_line arena ∷ []) (map OfMap added ++ tail_lines frames) (mapping bare) (ended m) [] (recording_events frames)
    (goes-line start (arena_line arena) (mapping bare) 1 is.near refl refl (arena_passes _ is.wide) refl)
    (λ n. goes-then (mapping bare n) (map OfMap added) (tail_lines frames) (mapping m) (ended m) [] (recording_events frames) (goes_accepted bare added n is.accepted)
    (λ k. goes_tail m frames k is.each is.few is.spawn))

pub read_in_turn : (arena : Bounds) (added : List MapLine) (frames : List (List Arrival)) → IsBuilt arena added frames
    → IsTextOf (map_in_turn arena added) frames (text_in_turn arena added frames)
read_in_turn arena added frames is = read-text (lines_in_turn arena added frames) (map_in_turn arena added) frames (goes_in_turn arena added frames is)
