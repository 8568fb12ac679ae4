-- Texts that are put together piece by piece.
use Rattle.std.proofs.Common.{◌≡◌, ℕ, zero, suc, ◌+◌, ◌-◌, ◌<◌, ◌≤◌, List, [], ◌∷◌, ◌++◌, length, map, flat_map, take, get_or, codes, Some, slice_get, unwrap_or, Result, Ok, Err, OnOk, refl, sym, ap, ◌∙◌, arith, append_assoc, append-nil}
use Rattle.std.specs.List.{range_with_len}
use Rattle.std.specs.Fmt.{digits}
use Rattle.std.proofs.lemmas.List.{take_more, take_all, map-append}
use Rattle.std.proofs.lemmas.Option.{slice_get_within, unwrap_or-slice_get}
use Rattle.std.proofs.lemmas.Grind.{flat_map-append}
use Rattle.hex.specs.Hex.{encode_lower}
use Rattle.edge_io.specs.WholeLines.{unlines}
use Rattle.arena_geo.specs.declared.vec3.Vec3.{Vec3}
use Rattle.arena_map.specs.declared.map_line.MapLine.{MapLine}
use Rattle.arena_map.specs.declared.map_line.MapLine.TheVariants.{Spawn}
use Rattle.arena_map.specs.Maps.{MapView}
use Rattle.arena_map.specs.Spelling.{map_line_text}
use Rattle.packet_read.specs.declared.packet.Packet.{Packet}
use Rattle.packet_read.specs.declared.packet.Packet.TheVariants.{Join, Move, Leave, Moves}
use Rattle.packet_read.specs.Spelling.{spelling}
use Rattle.packet_read.specs.declared.arrival.Arrival.{Arrival}
use Rattle.demo_lines.specs.declared.line.Line.{Line}
use Rattle.demo_lines.specs.declared.line.Line.TheVariants.{OfMap, End}
use Rattle.demo_lines.specs.Spelling.{packet_text, line_text, arena_line, frame_lines, shots_lines_of}
use Rattle.bot_ways.specs.declared.plan.Plan.{Plan}
use Rattle.bot_ways.specs.Moves.{waypoint_points, length_through, frame_of, move_frame, frames_through, bot_frames}
use Rattle.bot_ways.specs.PlanTexts.{frame_text, frames_text, lines_text, block_of, depth_lines_of, limit_lines_of, setting_lines_of, depth_text, settings_text, blocks_text, spawns_text, things_text, added_lines, map_text, walk_text, way_line, length_line, least_line, plan_text}

-- ---- pieces of a list

pieces-push : {X Y : Type 0} (f : Y → List ℕ) (g : X → Y) (xs : List X) (x : X) → flat_map f (map g (xs ++ x ∷ [])) ≡ flat_map f (map g xs) ++ f (g x)
pieces-push f g [] x = append-nil (f (g x))
pieces-push f g (y ∷ xs) x =
    ap (λ t. f (g y) ++ t) (pieces-push f g xs x) ∙ sym (append_assoc (f (g y)) (flat_map f (map g xs)) (f (g x)))

-- the pieces of one element more
pub pieces-more : {X Y : Type 0} (f : Y → List ℕ) (g : X → Y) (xs : List X) (i : ℕ) (d : X) → i < length xs
    → flat_map f (map g (take (i + 1) xs)) ≡ flat_map f (map g (take i xs)) ++ f (g (get_or xs i d))
pieces-more f g xs i d within = ap (λ ys. flat_map f (map g ys)) (take_more xs i d within) ∙ pieces-push f g (take i xs) (get_or xs i d)

-- the map lines that elements give, each with its line feed
abbrev pub lines_with : {X : Type 0} → (X → MapLine) → List X → List ℕ
lines_with g xs = lines_text (map g xs)

-- ---- frames

spelled : (packet : Packet) → packet_text (spelling packet) ≡ encode_lower (spelling packet)
spelled Join = refl
spelled (Move m) = refl
spelled Leave = refl
spelled (Moves s) = refl

-- the two lines of a frame
pub frame_text-is : (packet : Packet) → frame_text (frame_of packet) ≡ codes "frame\nfrom 1 " ++ (encode_lower (spelling packet) ++ 10 ∷ [])
unfolding digits
frame_text-is packet =
    ap (λ t. codes "frame\nfrom 1 " ++ t) (append-nil (packet_text (spelling packet) ++ 10 ∷ []) ∙ ap (λ t. t ++ 10 ∷ []) (spelled packet))

-- the text of so many frames of moves, where the first has this number
abbrev pub moves_text : Vec3 → Vec3 → ℕ → ℕ → List ℕ
moves_text a b seq count = frames_text (map (move_frame a b) (range_with_len seq count))

moves-suc : (a b : Vec3) (seq count : ℕ) → moves_text a b seq (suc count) ≡ moves_text a b seq count ++ frame_text (move_frame a b (seq + count))
moves-suc a b seq zero =
    append-nil (frame_text (move_frame a b seq)) ∙ ap (λ n. frame_text (move_frame a b n)) (omega arith)
moves-suc a b seq (suc count) =
    let here = frame_text (move_frame a b seq) in
    ap (λ t. here ++ t) (moves-suc a b (seq + 1) count)
    ∙ sym (append_assoc here (moves_text a b (seq + 1) count) (frame_text (move_frame a b (seq + 1 + count))))
    ∙ ap (λ n. (here ++ moves_text a b (seq + 1) count) ++ frame_text (move_frame a b n)) (omega arith)

-- one frame more
pub moves-more : (a b : Vec3) (seq at next : ℕ) → seq ≤ at → next ≡ at + 1
    → moves_text a b seq (next - seq) ≡ moves_text a b seq (at - seq) ++ frame_text (move_frame a b at)
moves-more a b seq at next from is =
    let count : next - seq ≡ suc (at - seq) = omega arith in
    let here : seq + (at - seq) ≡ at = omega arith in
    ap (moves_text a b seq) count ∙ moves-suc a b seq (at - seq) ∙ ap (λ n. moves_text a b seq (at - seq) ++ frame_text (move_frame a b n)) here

-- ---- the whole recording

pub lines-both : (ls ms : List Line) → unlines (map line_text (ls ++ ms)) ≡ unlines (map line_text ls) ++ unlines (map line_text ms)
lines-both ls ms =
    ap unlines (map-append line_text ls ms) ∙ flat_map-append (λ line. line ++ 10 ∷ []) (map line_text ls) (map line_text ms)

of_map : (lines : List MapLine) → map line_text (map OfMap lines) ≡ map map_line_text lines
of_map [] = refl
of_map (line ∷ lines) = ap (λ ls. map_line_text line ∷ ls) (of_map lines)

frames-are : (frames : List (List Arrival)) → unlines (map line_text (flat_map frame_lines frames)) ≡ frames_text frames
frames-are [] = refl
frames-are (f ∷ frames) = lines-both (frame_lines f) (flat_map frame_lines frames) ∙ ap (λ t. frame_text f ++ t) (frames-are frames)

pub text-both : (ls ms : List MapLine) → lines_text (ls ++ ms) ≡ lines_text ls ++ lines_text ms
text-both ls ms =
    ap unlines (map-append map_line_text ls ms) ∙ flat_map-append (λ line. line ++ 10 ∷ []) (map map_line_text ls) (map map_line_text ms)

-- the text of the lines of the settings
pub settings-parts : (m : MapView) → lines_text (setting_lines_of m) ≡ settings_text m
settings-parts m =
    text-both (depth_lines_of m) (shots_lines_of m ++ limit_lines_of m)
    ∙ ap (λ t. depth_text m ++ t) (text-both (shots_lines_of m) (limit_lines_of m))

-- the text of the lines of a map
pub map-parts : (m : MapView) → unlines (map line_text (arena_line m.bounds ∷ map OfMap (added_lines m))) ≡ map_text m
map-parts m =
    ap (λ ls. unlines (line_text (arena_line m.bounds) ∷ ls)) (of_map (added_lines m))
    ∙ ap (λ t. (line_text (arena_line m.bounds) ++ 10 ∷ []) ++ t)
    (text-both (setting_lines_of m) (map block_of m.blocks ++ (map Spawn m.spawns ++ m.things))
    ∙ ap (λ t. t ++ lines_text (map block_of m.blocks ++ (map Spawn m.spawns ++ m.things))) (settings-parts m)
    ∙ ap (λ t. settings_text m ++ t)
    (text-both (map block_of m.blocks) (map Spawn m.spawns ++ m.things)
    ∙ ap (λ t. blocks_text m ++ t) (text-both (map Spawn m.spawns) m.things)))
    ∙ ap (λ t. t ++ (settings_text m ++ (blocks_text m ++ (spawns_text m ++ things_text m)))) (sym (append-nil (line_text (arena_line m.bounds) ++ 10 ∷ [])))

-- the text of a recording is that of its map, that of its frames, and the end
pub walk-parts : (m : MapView) (way : List ℕ) → walk_text m way ≡ map_text m ++ (frames_text (bot_frames m way) ++ codes "end\n")
walk-parts m way =
    let frames = flat_map frame_lines (bot_frames m way) in
    lines-both (arena_line m.bounds ∷ map OfMap (added_lines m)) (frames ++ End ∷ [])
    ∙ ap (λ t. t ++ unlines (map line_text (frames ++ End ∷ []))) (map-parts m)
    ∙ ap (λ t. map_text m ++ t) (lines-both frames (End ∷ []) ∙ ap (λ t. t ++ codes "end\n") (frames-are (bot_frames m way)))

-- the whole text, as it is put together
pub plan-parts : (m : MapView) (plan : Plan)
    → (((((map_text m ++ frame_text (frame_of Join)) ++ frames_text (frames_through 1 (waypoint_points m plan.way))) ++ codes "end\n")
    ++ way_line plan.way) ++ length_line (length_through (waypoint_points m plan.way))) ++ least_line plan.least
    ≡ plan_text m plan
unfolding plan_text
plan-parts m plan =
    let joins = frame_text (frame_of Join) in
    let walks = frames_text (frames_through 1 (waypoint_points m plan.way)) in
    let ends = codes "end\n" in
    let way = way_line plan.way in
    let far = length_line (length_through (waypoint_points m plan.way)) in
    let least = least_line plan.least in
    let recorded : ((map_text m ++ joins) ++ walks) ++ ends ≡ walk_text m plan.way =
    ap (λ t. t ++ ends) (append_assoc (map_text m) joins walks) ∙ append_assoc (map_text m) (joins ++ walks) ends ∙ sym (walk-parts m plan.way) in
    ap (λ t. ((t ++ way) ++ far) ++ least) recorded
    ∙ append_assoc (walk_text m plan.way ++ way) far least
    ∙ append_assoc (walk_text m plan.way) way (far ++ least)

-- ---- the things

-- the lines of one thing more
pub things-more : (things : List MapLine) (i : ℕ) (line : MapLine) → slice_get things i ≡ Some line
    → lines_text (take (i + 1) things) ≡ lines_text (take i things) ++ (map_line_text line ++ 10 ∷ [])
things-more things i line at =
    let within = slice_get_within things i line at in
    let is : get_or things i line ≡ line = sym (unwrap_or-slice_get things i line) ∙ ap (λ o. unwrap_or o line) at in
    pieces-more (λ l. l ++ 10 ∷ []) map_line_text things i line within ∙ ap (λ l. lines_text (take i things) ++ (map_line_text l ++ 10 ∷ [])) is

-- the lines of all
pub things-whole : (things : List MapLine) (i : ℕ) → length things ≤ i → lines_text (take i things) ≡ lines_text things
things-whole things i past = ap lines_text (take_all i things past)

-- ---- answers

pub on_ok : {T E : Type 0} (P Q : Type 0) (r : Result T E) → (P → Q) → OnOk r P → OnOk r Q
on_ok P Q (Ok x) f h = f h
on_ok P Q (Err e) f h = tt
