-- What is written of a plan is read as a recording of the map.
use Rattle.std.proofs.Common.{◌≡◌, ℕ, ◌+◌, ◌*◌, ◌^◌, ◌<◌, ◌≤◌, Bool, true, false, List, [], ◌∷◌, ◌++◌, length, map, ◌-ℤ◌, Some, None, codes, refl, sym, ap, ◌∙◌, subst, arith, length-append, append_assoc, append-nil}
use Rattle.std.specs.List.{range_with_len, slice_split, onto_first, AllByRecursion}
use Rattle.std.proofs.lemmas.List.Splits.{slice_split_at, slice_split-cons_no}
use Rattle.std.proofs.lemmas.Bool.Decides.{nat_tests}
use Rattle.std.proofs.lemmas.List.Elements.{All-cons, All-nil}
use Rattle.std.proofs.lemmas.List.FromFn.{length-map-range_with_len}
use Rattle.edge_io.specs.WholeLines.{is_line_feed, whole_lines}
use Rattle.arena_geo.specs.declared.vec3.Vec3.{Vec3}
use Rattle.arena_map.specs.Maps.{MapView, IsMap, is_ready}
use Rattle.packet_read.specs.declared.packet.Packet.TheVariants.{Join, Move}
use Rattle.packet_read.specs.Spelling.{MoveFits}
use Rattle.packet_read.proofs.Again.{packet_again}
use Rattle.packet_read.specs.declared.arrival.Arrival.{Arrival}
use Rattle.packet_read.proofs.Fields.{move-bytes}
use Rattle.demo_lines.specs.Spelling.{IsArrival, IsFrame}
use Rattle.demo_lines.specs.declared.stage.Stage.{Stage}
use Rattle.demo_lines.specs.declared.stage.Stage.TheVariants.{Start, Map, Playing, Ended, Refused}
use Rattle.demo_lines.specs.Known.{Reading, start}
use Rattle.demo_lines.specs.Recording.{after}
use Rattle.demo_lines.specs.Bytes.{last_of, last_part, cut_end, lines_of, refused_at, refused_where, fault}
use Rattle.demo_lines.specs.InTurn.{IsBuilt}
use Rattle.demo_lines.specs.Laws.{IsTextOf}
use Rattle.demo_lines.proofs.Prefixes.{nothing_after_the_end}
use Rattle.demo_lines.proofs.Written.{packets_have_room}
use Rattle.demo_lines.proofs.RecordingsRead.{read_in_turn}
use Rattle.bot_ways.specs.declared.plan.Plan.{Plan}
use Rattle.bot_ways.specs.Edges.{distance, edge}
use Rattle.bot_ways.specs.Moves.{waypoint_point, waypoint_points, move_towards, moves_between, bot_arrival, move_frame, frames_between, frames_through, bot_frames}
use Rattle.bot_ways.specs.PlanTexts.{IsPlan, frames_text, added_lines, as_written, map_text, walk_text, certificate_text, plan_text}
use Rattle.bot_ways.specs.Walking.{IsSomeWalk}
use Rattle.bot_ways.specs.Laws.{PlansAreRecordings, LengthsAreWritten, MovesAreKnown}
use Rattle.bot_ways.proofs.MapsBefore.{map-again, lines-accepted}
use Rattle.bot_ways.proofs.EdgeParts.{edge_most}
use Rattle.bot_ways.proofs.Gathering.{walk-parts}
use Rattle.bot_ways.proofs.WalkSteps.{first_step, some_walk, edge-far, walk-far, walk-ready}
use Rattle.bot_ways.proofs.Wishes.{wish_at_most, wish_fits, part_x, part_y}

-- ---- packets

join-arrival : IsArrival (bot_arrival Join)
join-arrival = record {
  port = omega arith;
  bytes = All-cons (λ b. b < 256) 1 (1 ∷ []) (omega arith) (All-cons (λ b. b < 256) 1 [] (omega arith) (All-nil (λ b. b < 256)));
  fits = packets_have_room.lowest (bot_arrival Join) (omega arith) (omega arith);
}

move-arrival : (a b : Vec3) (seq : ℕ) → IsArrival (bot_arrival (Move (move_towards seq a b)))
move-arrival a b seq = record {
  port = omega arith;
  bytes = move-bytes (move_towards seq a b) (omega arith) (omega arith);
  fits = packets_have_room.lowest (bot_arrival (Move (move_towards seq a b))) (omega arith) (omega arith);
}

-- ---- frames

alone-frame : (x : Arrival) → IsArrival x → IsFrame (x ∷ [])
alone-frame x is = record { few = omega arith; each = (is, tt) }

each-both : (xs ys : List (List Arrival)) → AllByRecursion IsFrame xs → AllByRecursion IsFrame ys → AllByRecursion IsFrame (xs ++ ys)
each-both [] ys one other = other
each-both (x ∷ xs) ys one other = (one.0, each-both xs ys one.1 other)

each-move : (a b : Vec3) (numbers : List ℕ) → AllByRecursion IsFrame (map (move_frame a b) numbers)
each-move a b [] = tt
each-move a b (n ∷ numbers) = (alone-frame (bot_arrival (Move (move_towards n a b))) (move-arrival a b n), each-move a b numbers)

each-frame : (seq : ℕ) (places : List Vec3) → AllByRecursion IsFrame (frames_through seq places)
each-frame seq [] = tt
each-frame seq (a ∷ []) = tt
each-frame seq (a ∷ b ∷ more) =
    each-both (frames_between seq a b) (frames_through (seq + moves_between a b) (b ∷ more)) (each-move a b (range_with_len seq (moves_between a b)))
    (each-frame (seq + moves_between a b) (b ∷ more))

-- an edge takes at most 16 moves
pub edge-moves : (m : MapView) (u v step : ℕ) → edge m u v ≡ Some step → moves_between (waypoint_point m u) (waypoint_point m v) ≤ 16
edge-moves m u v step is =
    few (waypoint_point m u) (waypoint_point m v) (omega (arith, edge-far m u v step is, edge_most m u v step is))
  where
    few : (a b : Vec3) → distance a b ≤ 65536 → moves_between a b ≤ 16
    few a b far = omega arith

-- so a way has at most 16 for each waypoint but the first
pub few_moves_on : (m : MapView) (seq : ℕ) (way : List ℕ) → IsSomeWalk m way → length (frames_through seq (waypoint_points m way)) + 16 ≤ 16 * length way
few_moves_on m seq [] walk = absurd (omega (arith, some_walk m [] walk))
few_moves_on m seq (u ∷ []) walk = omega arith
few_moves_on m seq (u ∷ v ∷ more) walk =
    let s = first_step m u v more walk in
    let a = waypoint_point m u in
    let b = waypoint_point m v in
    let later = few_moves_on m (seq + moves_between a b) (v ∷ more) s.rest in
    omega (
      arith,
      length-append (frames_between seq a b) (frames_through (seq + moves_between a b) (waypoint_points m (v ∷ more))),
      length-map-range_with_len (move_frame a b) seq (moves_between a b),
      edge-moves m u v s.step s.edge_is,
      later,
    )

-- ---- the recording

is-built : (m : MapView) (plan : Plan) → IsMap m → IsPlan m plan → IsBuilt m.bounds (added_lines m) (bot_frames m plan.way)
is-built m plan is planned =
    let to = planned.is in
    let walk : IsSomeWalk m plan.way = record { from = 0; to = planned.target; far = planned.far; is = to.walk } in
    let spawns = walk-ready m 0 planned.target planned.far plan.way to.walk in
    let ready : is_ready m ≡ true = grind (arith, nat_tests) in
    record {
      near = (is.lo, is.hi);
      wide = is.wide;
      accepted = lines-accepted m is;
      few = omega (arith, few_moves_on m 1 plan.way walk, to.few);
      each = (alone-frame (bot_arrival Join) join-arrival, each-frame 1 (waypoint_points m plan.way));
      spawn = λ _. ap is_ready (map-again m is) ∙ ready;
    }

walk-read : (m : MapView) (plan : Plan) → IsMap m → IsPlan m plan → IsTextOf (as_written m) (bot_frames m plan.way) (walk_text m plan.way)
walk-read m plan is planned =
    let frames = bot_frames m plan.way in
    let P : MapView → Type 0 = λ n. IsTextOf n frames (walk_text m plan.way) in
    subst P (map-again m is) (read_in_turn m.bounds (added_lines m) frames (is-built m plan is planned))

-- ---- what follows the end

-- there are two parts or more, and the last is empty
record EndsEmpty (parts : List (List ℕ)) : Type 0 where
  first : List ℕ
  second : List ℕ
  rest : List (List ℕ)
  is : parts ≡ first ∷ second ∷ rest
  last : last_of (second ∷ rest) ≡ []

ends-empty : (bytes : List ℕ) → EndsEmpty (slice_split is_line_feed (bytes ++ 10 ∷ []))
ends-empty [] = record { first = []; second = []; rest = []; is = slice_split_at is_line_feed [] 10 [] (All-nil (λ b. is_line_feed b ≡ false)) refl; last = refl }
ends-empty (b ∷ bytes) = by (is_line_feed b) refl (ends-empty bytes)
  where
    by : (feed : Bool) → is_line_feed b ≡ feed → EndsEmpty (slice_split is_line_feed (bytes ++ 10 ∷ [])) → EndsEmpty (slice_split is_line_feed (b ∷ bytes ++ 10 ∷ []))
    by true e more = record {
      first = [];
      second = more.first;
      rest = more.second ∷ more.rest;
      is = slice_split_at is_line_feed [] b (bytes ++ 10 ∷ []) (All-nil (λ b. is_line_feed b ≡ false)) e ∙ ap (λ parts. [] ∷ parts) more.is;
      last = more.last;
    }
    by false e more = record {
      first = b ∷ more.first;
      second = more.second;
      rest = more.rest;
      is = slice_split-cons_no is_line_feed b (bytes ++ 10 ∷ []) e ∙ ap (onto_first b) more.is;
      last = more.last;
    }

no-part : (bytes : List ℕ) → last_part (bytes ++ 10 ∷ []) ≡ []
no-part bytes = let ends = ends-empty bytes in ap last_of ends.is ∙ ends.last

-- where the bytes end after a line feed without a fault, the recording has ended
stage-ended : (stage : Stage) (r : Reading) → refused_at stage r [] ≡ None → stage ≡ Ended
stage-ended Start r h = cc
stage-ended Map r h = cc
stage-ended Playing r h = cc
stage-ended Ended r h = refl
stage-ended (Refused why) r h = cc

has-ended : (bytes : List ℕ) → last_part bytes ≡ [] → fault bytes ≡ None → (after start (whole_lines bytes)).stage ≡ Ended
has-ended bytes none faultless =
    let lines : lines_of bytes ≡ whole_lines bytes = ap (λ part. whole_lines bytes ++ cut_end part) none ∙ append-nil (whole_lines bytes) in
    stage-ended (after start (whole_lines bytes)).stage (after start (whole_lines bytes))
    ((λ i. refused_where (after start (sym lines i)) (sym none i)) ∙ faultless)

-- the text of the walk ends with a line feed
ends-with-feed : (m : MapView) (way : List ℕ) → last_part (walk_text m way) ≡ []
ends-with-feed m way =
    let front = map_text m ++ (frames_text (bot_frames m way) ++ codes "end") in
    ap last_part (walk-parts m way
    ∙ ap (λ t. map_text m ++ t) (sym (append_assoc (frames_text (bot_frames m way)) (codes "end") (10 ∷ [])))
    ∙ sym (append_assoc (map_text m) (frames_text (bot_frames m way) ++ codes "end") (10 ∷ [])))
    ∙ no-part front

pub plans_are_recordings : PlansAreRecordings
unfolding plan_text
plans_are_recordings m plan is planned =
    let text = walk_text m plan.way in
    let read = walk-read m plan is planned in
    let more = nothing_after_the_end.whole text (certificate_text m plan) (has-ended text (ends-with-feed m plan.way) read.fault) in
    record { fault = more.fault ∙ read.fault; map = more.map ∙ read.map; events = more.events ∙ read.events }

-- ---- lengths and moves

pub lengths_are_written : LengthsAreWritten
lengths_are_written m u v n way walk = walk-far m way (record { from = u; to = v; far = n; is = walk })

move-fits : (seq : ℕ) (a b : Vec3) → seq < 2 ^ 32 → 1 ≤ distance a b → MoveFits (move_towards seq a b)
move-fits seq a b few apart = record {
  seq = few;
  ms = omega arith;
  wish_x = wish_fits (b.x -ℤ a.x) (distance a b) apart (part_x a b);
  wish_y = wish_fits (b.y -ℤ a.y) (distance a b) apart (part_y a b);
  buttons = omega arith;
}

pub moves_are_known : MovesAreKnown
moves_are_known = record {
  enough = λ a b. omega arith;
  fewest = λ a b n covers. omega (arith, covers);
  join = packet_again Join tt tt;
  moves = λ seq a b few apart. packet_again (Move (move_towards seq a b)) (move-fits seq a b few apart) (record { least = omega arith; most = omega arith; buttons = omega arith });
  wishes = wish_at_most;
}
