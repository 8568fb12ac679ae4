use Rattle.std.proofs.Common.{◌≡◌, ◌++◌, codes, ap, ◌∙◌}
use Rattle.packet_read.specs.declared.packet.Packet.TheVariants.{Join}
use Rattle.bot_ways.specs.Moves.{frame_of, frames_through, waypoint_points, length_through}
use Rattle.bot_ways.specs.PlanTexts.{frame_text, frames_text, map_text, way_line, length_line, least_line}
use Rattle.bot_ways.proofs.Gathering.{plan-parts}
use Rattle.bot_ways.proofs.writing.plan_text.Goals as goal

pub returns : goal.returns
returns c =
    let m = c.args.map.now in
    let plan = c.args.plan.now in
    let way_is = c.as_slice.ensures.value in
    let way_again = c.as_slice-2.ensures.value in
    let one : c.push_map.new.text ≡ map_text m = c.in_ok-push_map.ensures ∙ ap (λ t. t ++ map_text m) c.in_ok-text.ensures in
    let two : c.push_frame.new.self ≡ map_text m ++ frame_text (frame_of Join) = c.in_ok-push_frame.ensures ∙ ap (λ t. t ++ frame_text (frame_of Join)) one in
    let three : c.push_walk.new.text ≡ (map_text m ++ frame_text (frame_of Join)) ++ frames_text (frames_through 1 (waypoint_points m plan.way)) =
    c.in_ok-length.ensures.text ∙ (λ i. two i ++ frames_text (frames_through 1 (waypoint_points m (way_is i)))) in
    let far : c.in_ok-length.length ≡ length_through (waypoint_points m plan.way) = c.in_ok-length.ensures.length ∙ ap (λ w. length_through (waypoint_points m w)) way_is in
    let four : c.push.new.self ≡ ((map_text m ++ frame_text (frame_of Join)) ++ frames_text (frames_through 1 (waypoint_points m plan.way))) ++ codes "end\n" =
    c.in_ok-push.ensures ∙ ap (λ t. t ++ codes "end\n") three in
    c.in_ok-push_least.ensures
    ∙ ap (λ t. t ++ least_line plan.least)
    (c.in_ok-push_length.ensures ∙ (λ i. (c.in_ok-push_way.ensures ∙ (λ j. four j ++ way_line (way_again j))) i ++ length_line (far i)))
    ∙ plan-parts m plan
