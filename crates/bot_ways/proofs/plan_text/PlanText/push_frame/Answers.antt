use Rattle.std.proofs.Common.{◌≡◌, [], ◌∷◌, ◌++◌, ap, ◌∙◌, sym, codes, append_assoc}
use Rattle.hex.specs.Hex.{encode_lower}
use Rattle.packet_read.specs.Spelling.{spelling}
use Rattle.bot_ways.specs.Moves.{frame_of}
use Rattle.bot_ways.specs.PlanTexts.{frame_text}
use Rattle.bot_ways.proofs.Gathering.{frame_text-is, on_ok}
use Rattle.bot_ways.proofs.plan_text.PlanText.push_frame.Goals as goal

pub returns : goal.returns
returns c =
    let old = c.args.self.now in
    let p = c.args.packet.now in
    let head = codes "frame\nfrom 1 " in
    let hexes = encode_lower (spelling p) in
    let one : c.push.new.self ≡ old ++ head = c.in_ok-push.ensures in
    let bytes = c.as_slice.ensures.value ∙ c.write_packet.ensures.spelled in
    let two : c.push_digits.new.self ≡ (old ++ head) ++ hexes = c.in_ok-push_digits.ensures ∙ (λ i. one i ++ encode_lower (bytes i)) in
    on_ok (c.push-2.new.self ≡ c.push_digits.new.self ++ 10 ∷ []) (c.push-2.new.self ≡ old ++ frame_text (frame_of p)) c.push-2.result
    (λ last. last ∙ ap (λ t. t ++ 10 ∷ []) two ∙ append_assoc (old ++ head) hexes (10 ∷ []) ∙ append_assoc old head (hexes ++ 10 ∷ [])
    ∙ ap (λ t. old ++ t) (sym (frame_text-is p)))
    c.push-2.ensures
