use Rattle.std.proofs.Common.{◌-◌, ◌+◌, ◌++◌, sym, ap, ◌∙◌, refl, append_assoc}
use Rattle.packet_read.specs.declared.packet.Packet.TheVariants.{Move}
use Rattle.bot_ways.specs.Moves.{frame_of, move_frame}
use Rattle.bot_ways.specs.PlanTexts.{frame_text}
use Rattle.bot_ways.proofs.Gathering.{moves_text, moves-more}
use Rattle.bot_ways.proofs.walk_text.push_frames.Goals as goal

pub loop-number-preserved : goal.loop-number-preserved
loop-number-preserved c =
    let old = c.args.text.now in
    let a = c.args.from in
    let b = c.args.to in
    let seq = c.args.seq in
    let n = c.loop-number.number in
    let so_far = moves_text a b seq (n - seq) in
    c.in_ok-push_frame.ensures
    ∙ (λ i. c.loop-number.invariant i ++ frame_text (frame_of (Move (c.move_towards.ensures i))))
    ∙ append_assoc old so_far (frame_text (move_frame a b n))
    ∙ ap (λ t. old ++ t) (sym (moves-more a b seq n (n + 1) c.loop-number.auto.number refl))
