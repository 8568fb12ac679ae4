-- The text of a recording is that of its map and then that of its events.
use Rattle.std.proofs.Common.{◌≡◌, ℕ, List, [], ◌∷◌, ◌++◌, map, flat_map, refl, sym, ap, ◌∙◌}
use Rattle.std.proofs.lemmas.List.{map-append}
use Rattle.std.proofs.lemmas.List.Concat.{flat_map-append}
use Rattle.edge_io.specs.WholeLines.{unlines}
use Rattle.arena_map.specs.Spelling.{map_line_text}
use Rattle.packet_read.specs.declared.arrival.Arrival.{Arrival}
use Rattle.demo_lines.specs.declared.line.Line.TheVariants as lines
use Rattle.demo_lines.specs.declared.event.Event.{Event}
use Rattle.demo_lines.specs.declared.event.Event.TheVariants as events
use Rattle.demo_lines.specs.Spelling.{line_text, map_lines, frame_lines, frame_events, recording_text, recording_events}
use Rattle.demo_make.specs.GeneratedMap.{generated_map, generated_lines}
use Rattle.demo_make.specs.GeneratedFrames.{generated_frames, generated_events, generated_text}
use Rattle.demo_make.specs.ResentFrames.{resent_frames, resent_events, resent_text}
use Rattle.demo_make.specs.Remaining.{line_of, event_text, events_text, text_with}

events_text-lines : (es : List Event) → events_text es ≡ unlines (map line_text (map line_of es))
events_text-lines [] = refl
events_text-lines (e ∷ es) = ap (λ t. event_text e ++ t) (events_text-lines es)

arrivals-lines : (arrivals : List Arrival) → map line_of (map events.From arrivals) ≡ map lines.From arrivals
arrivals-lines [] = refl
arrivals-lines (a ∷ arrivals) = ap (λ ls. lines.From a ∷ ls) (arrivals-lines arrivals)

frames-lines : (frames : List (List Arrival)) → map line_of (flat_map frame_events frames) ≡ flat_map frame_lines frames
frames-lines [] = refl
frames-lines (f ∷ frames) =
    map-append line_of (frame_events f) (flat_map frame_events frames)
    ∙ ap (λ ls. (lines.Frame ∷ ls) ++ map line_of (flat_map frame_events frames)) (arrivals-lines f)
    ∙ ap (λ ls. frame_lines f ++ ls) (frames-lines frames)

pub recording-events_text : (frames : List (List Arrival))
    → unlines (map line_text (flat_map frame_lines frames ++ lines.End ∷ [])) ≡ events_text (recording_events frames)
recording-events_text frames =
    sym (events_text-lines (recording_events frames)
    ∙ ap (λ ls. unlines (map line_text ls))
    (map-append line_of (flat_map frame_events frames) (events.End ∷ [])
    ∙ ap (λ ls. ls ++ lines.End ∷ []) (frames-lines frames)))

map_lines-text : map line_text (map_lines generated_map) ≡ map map_line_text generated_lines
map_lines-text = refl

recording_text-map : (frames : List (List Arrival)) → recording_text generated_map frames ≡ text_with (recording_events frames)
recording_text-map frames =
    let more = flat_map frame_lines frames ++ lines.End ∷ [] in
    ap unlines (map-append line_text (map_lines generated_map) more)
    ∙ flat_map-append (λ line. line ++ 10 ∷ []) (map line_text (map_lines generated_map)) (map line_text more)
    ∙ ap (λ ls. unlines ls ++ unlines (map line_text more)) map_lines-text
    ∙ ap (λ t. unlines (map map_line_text generated_lines) ++ t) (recording-events_text frames)

pub generated_text-parts : (seed players frames : ℕ) → text_with (generated_events seed players frames) ≡ generated_text seed players frames
unfolding generated_text generated_events
generated_text-parts seed players frames = sym (recording_text-map (generated_frames seed players frames))

pub resent_text-parts : (seed players frames : ℕ) → text_with (resent_events seed players frames) ≡ resent_text seed players frames
unfolding resent_text resent_events
resent_text-parts seed players frames = sym (recording_text-map (resent_frames seed players frames))
