use Rattle.std.proofs.Common.{◌≡◌, ◌++◌, ap, ◌∙◌, append_assoc}
use Rattle.bot_ways.specs.PlanTexts.{depth_text, shots_text, limit_text, settings_text}
use Rattle.bot_ways.proofs.Gathering.{on_ok}
use Rattle.bot_ways.proofs.map_text.push_settings.Goals as goal

pub returns : goal.returns
returns c =
    let m = c.args.map.now in
    let old = c.args.text.now in
    let d = depth_text m in
    let s = shots_text m in
    let l = limit_text m in
    let one : c.push_depth.new.text ≡ old ++ d = c.in_ok-push_depth.ensures in
    let two : c.push_shots.new.text ≡ (old ++ d) ++ s = c.in_ok-push_shots.ensures ∙ ap (λ x. x ++ s) one in
    on_ok (c.push_limit.new.text ≡ c.push_shots.new.text ++ l) (c.push_limit.new.text ≡ old ++ settings_text m) c.push_limit.result
    (λ last. last ∙ ap (λ x. x ++ l) two ∙ append_assoc (old ++ d) s l ∙ append_assoc old d (s ++ l))
    c.push_limit.ensures
