-- The text of a plan has at most so many bytes.
use Rattle.std.proofs.Common.{◌≡◌, ℕ, zero, suc, ◌+◌, ◌*◌, ◌<◌, ◌≤◌, List, [], ◌∷◌, ◌++◌, length, map, flat_map, codes, decimal, Option, Some, None, refl, ap, arith, length-append}
use Rattle.std.specs.List.{range_with_len, AllByRecursion}
use Rattle.std.proofs.lemmas.Fmt.{length-decimal-le}
use Rattle.std.proofs.lemmas.Grind.{flat_map-append}
use Rattle.std.proofs.lemmas.List.FromFn.{length-range_with_len, length-map-range_with_len}
use Rattle.hex.specs.Hex.{encode_lower, lower_digits}
use Rattle.hex.proofs.HexLemmas.{length-encode_with}
use Rattle.edge_io.specs.Fields.{field_text}
use Rattle.arena_geo.specs.declared.vec3.Vec3.{Vec3}
use Rattle.arena_map.specs.Maps.{MapView, IsMap}
use Rattle.packet_read.specs.declared.packet.Packet.{Packet}
use Rattle.packet_read.specs.declared.packet.Packet.TheVariants.{Join, Move}
use Rattle.packet_read.specs.Spelling.{spelling}
use Rattle.bot_ways.specs.declared.plan.Plan.{Plan}
use Rattle.bot_ways.specs.Walks.{IsWalk, alone, longer, length_to}
use Rattle.bot_ways.specs.Ways.{IsCertificate}
use Rattle.bot_ways.specs.Moves.{waypoint_points, length_through, move_towards, moves_between, frame_of, move_frame, frames_between, frames_through, bot_frames}
use Rattle.bot_ways.specs.PlanTexts.{IsPlan, frame_text, frames_text, map_text, walk_text, way_line, length_line, least_field, least_line, plan_text, certificate_text}
use Rattle.bot_ways.specs.Rooms.{moves_on, room_of_walk, room_of_least, room_of_plan}
use Rattle.bot_ways.specs.Walking.{IsSomeWalk}
use Rattle.bot_ways.specs.Laws.{PlanTextsAreBounded}
use Rattle.bot_ways.proofs.EdgeParts.{from_within}
use Rattle.bot_ways.proofs.FarLengths.{far_at_most}
use Rattle.bot_ways.proofs.Gathering.{frame_text-is, walk-parts}
use Rattle.bot_ways.proofs.LineRooms.{map-long}
use Rattle.bot_ways.proofs.PlansRead.{edge-moves, few_moves_on}
use Rattle.bot_ways.proofs.WalkSteps.{walk-far}

-- ---- frames

frame-long : (packet : Packet) → length (frame_text (frame_of packet)) ≡ 14 + 2 * length (spelling packet)
frame-long packet =
    let digits = encode_lower (spelling packet) in
    omega (
      arith,
      ap (λ (t : List ℕ). length t) (frame_text-is packet),
      length-append (codes "frame\nfrom 1 ") (digits ++ 10 ∷ []),
      length-append digits (10 ∷ []),
      length-encode_with lower_digits (spelling packet),
    )

join-long : length (frame_text (frame_of Join)) ≡ 18
join-long = frame-long Join

move-long : (a b : Vec3) (seq : ℕ) → length (frame_text (move_frame a b seq)) ≡ 38
move-long a b seq = frame-long (Move (move_towards seq a b))

between-long : (a b : Vec3) (numbers : List ℕ) → length (frames_text (map (move_frame a b) numbers)) ≡ 38 * length numbers
between-long a b [] = refl
between-long a b (seq ∷ numbers) =
    omega (
      arith,
      length-append (frame_text (move_frame a b seq)) (frames_text (map (move_frame a b) numbers)),
      move-long a b seq,
      between-long a b numbers,
    )

through-long : (seq : ℕ) (places : List Vec3) → length (frames_text (frames_through seq places)) ≡ 38 * length (frames_through seq places)
through-long seq [] = refl
through-long seq (a ∷ []) = refl
through-long seq (a ∷ b ∷ more) =
    let here = frames_between seq a b in
    let rest = frames_through (seq + moves_between a b) (b ∷ more) in
    let text : length (frames_text (frames_through seq (a ∷ b ∷ more))) ≡ length (frames_text here ++ frames_text rest) =
    ap (λ (t : List ℕ). length t) (flat_map-append frame_text here rest) in
    let count : length (frames_through seq (a ∷ b ∷ more)) ≡ length here + length rest = length-append here rest in
    omega (
      arith,
      text,
      count,
      length-append (frames_text here) (frames_text rest),
      between-long a b (range_with_len seq (moves_between a b)),
      length-map-range_with_len (move_frame a b) seq (moves_between a b),
      length-range_with_len seq (moves_between a b),
      through-long (seq + moves_between a b) (b ∷ more),
    )

walk-long : (m : MapView) (way : List ℕ) → IsMap m → length (walk_text m way) ≤ room_of_walk m way
walk-long m way is =
    let frames = frames_text (bot_frames m way) in
    let walks = frames_through 1 (waypoint_points m way) in
    omega (
      arith,
      ap (λ (t : List ℕ). length t) (walk-parts m way),
      length-append (map_text m) (frames ++ codes "end\n"),
      length-append frames (codes "end\n"),
      length-append (frame_text (frame_of Join)) (frames_text walks),
      join-long,
      through-long 1 (waypoint_points m way),
      map-long m is,
    )

-- ---- the certificate

-- each waypoint of a walk is one of the map
waypoints-within : (m : MapView) (u to n : ℕ) (walk : List ℕ) → IsWalk m u to walk n → AllByRecursion (λ w. w < length m.spawns) walk
waypoints-within m _ _ _ _ (alone u there) = (there, tt)
waypoints-within m _ _ _ _ (longer u v to step n walk e rest) = (from_within m u v step e, waypoints-within m v to n walk rest)

waypoints-long : (count : ℕ) (way : List ℕ) → count ≤ 64 → AllByRecursion (λ w. w < count) way → length (flat_map field_text (map decimal way)) ≤ 3 * length way
waypoints-long count [] few each = omega arith
waypoints-long count (w ∷ way) few each =
    omega (
      arith,
      length-append (field_text (decimal w)) (flat_map field_text (map decimal way)),
      length-decimal-le 2 w (omega arith) (omega (arith, few, each.0)) (omega (arith, few, each.0)),
      waypoints-long count way few each.1,
    )

-- a line: its word, its fields and its line feed
line-length : (word fields : List ℕ) → length (word ++ fields ++ 10 ∷ []) ≡ length word + length fields + 1
line-length word fields = omega (arith, length-append (word ++ fields) (10 ∷ []), length-append word fields)

length-long : (n : ℕ) → n ≤ 4128768 → length (length_line n) ≤ 15
length-long n few =
    let digits = field_text (decimal n) in
    omega (
      arith,
      line-length (codes "length") (digits ++ []),
      length-append digits [],
      length-decimal-le 7 n (omega arith) (omega (arith, few)) (omega (arith, few)),
    )

field-long : (o : Option ℕ) → ((n : ℕ) → o ≡ Some n → n ≤ 4128768) → length (least_field o) ≤ 7
field-long None few = omega arith
field-long (Some n) few = length-decimal-le 7 n (omega arith) (omega (arith, few n refl)) (omega (arith, few n refl))

lengths-long : (least : List (Option ℕ)) → ((v n : ℕ) → length_to least v ≡ Some n → n ≤ 4128768) → length (flat_map field_text (map least_field least)) ≤ 8 * length least
lengths-long [] few = omega arith
lengths-long (o ∷ least) few =
    omega (
      arith,
      length-append (field_text (least_field o)) (flat_map field_text (map least_field least)),
      field-long o (few zero),
      lengths-long least (λ v. few (suc v)),
    )

least-long : (m : MapView) (least : List (Option ℕ)) → IsMap m → IsCertificate m least → length (least_line least) ≤ room_of_least m
least-long m least is cert =
    let fields = flat_map field_text (map least_field least) in
    omega (arith, line-length (codes "least") fields, lengths-long least (far_at_most m least cert is), cert.count)

way-long : (m : MapView) (plan : Plan) → IsMap m → IsPlan m plan → length (way_line plan.way) ≤ 4 + 3 * length plan.way
way-long m plan is planned =
    let within = waypoints-within m 0 planned.target planned.far plan.way planned.is.walk in
    omega (
      arith,
      line-length (codes "way") (flat_map field_text (map decimal plan.way)),
      waypoints-long (length m.spawns) plan.way is.few_spawns within,
    )

-- the length of a way is that of its end
written-long : (m : MapView) (plan : Plan) → IsMap m → IsPlan m plan → length_through (waypoint_points m plan.way) ≤ 4128768
written-long m plan is planned =
    let to = planned.is in
    let walk : IsSomeWalk m plan.way = record { from = 0; to = planned.target; far = planned.far; is = to.walk } in
    omega (arith, walk-far m plan.way walk, far_at_most m plan.least to.certificate is planned.target planned.far to.reached)

-- ---- the whole

plan-long : (m : MapView) (plan : Plan) → IsMap m → IsPlan m plan → length (plan_text m plan) ≤ room_of_plan m plan
unfolding plan_text
plan-long m plan is planned =
    let far = length_line (length_through (waypoint_points m plan.way)) in
    let least = least_line plan.least in
    omega (
      arith,
      length-append (walk_text m plan.way) (certificate_text m plan),
      length-append (way_line plan.way) (far ++ least),
      length-append far least,
      walk-long m plan.way is,
      way-long m plan is planned,
      length-long (length_through (waypoint_points m plan.way)) (written-long m plan is planned),
      least-long m plan.least is planned.is.certificate,
    )

moves-few : (m : MapView) (plan : Plan) → IsPlan m plan → moves_on m plan.way + 16 ≤ 16 * length plan.way
moves-few m plan planned =
    few_moves_on m 1 plan.way (record { from = 0; to = planned.target; far = planned.far; is = planned.is.walk })

pub plan_texts_are_bounded : PlanTextsAreBounded
plan_texts_are_bounded = record {
  texts = plan-long;
  each = edge-moves;
  moves = moves-few;
  least = least-long;
  limit = refl;
  longest = λ m plan is planned.
      omega (
        arith,
        plan-long m plan is planned,
        moves-few m plan planned,
        planned.is.few,
        is.few_blocks,
        is.limit.range.most,
        is.few_spawns,
        is.few_items,
        is.few_teleporters,
        is.few_goals,
        is.few_lifts,
      );
}
