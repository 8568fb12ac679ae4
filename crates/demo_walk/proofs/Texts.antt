-- The text of a recording is that of the lines of its map and then that of its events.
use Rattle.std.proofs.Common.{◌≡◌, ℕ, [], ◌∷◌, ◌++◌, map, flat_map, sym, ap, ◌∙◌}
use Rattle.edge_io.specs.WholeLines.{unlines}
use Rattle.arena_map.specs.Maps.{MapView}
use Rattle.demo_lines.specs.declared.line.Line.TheVariants.{OfMap, End}
use Rattle.demo_lines.specs.Spelling.{line_text, arena_line, frame_lines, recording_events}
use Rattle.bot_ways.specs.PlanTexts.{added_lines, map_text}
use Rattle.bot_ways.proofs.Gathering.{lines-both, map-parts}
use Rattle.demo_make.specs.Remaining.{events_text}
use Rattle.demo_make.proofs.Texts.{recording-events_text}
use Rattle.demo_walk.specs.WalkedFrames.{frames_on, walk_text}

pub walk_text-parts : (m : MapView) (seed players frames : ℕ)
    → map_text m ++ events_text (recording_events (frames_on m seed players frames)) ≡ walk_text m seed players frames
unfolding walk_text
walk_text-parts m seed players frames =
    let packets = frames_on m seed players frames in
    let more = flat_map frame_lines packets ++ End ∷ [] in
    sym (lines-both (arena_line m.bounds ∷ map OfMap (added_lines m)) more
    ∙ ap (λ t. t ++ unlines (map line_text more)) (map-parts m)
    ∙ ap (λ t. map_text m ++ t) (recording-events_text packets))
