use Rattle.std.proofs.Common.{◌≡◌, ◌++◌, ap, ◌∙◌, append_assoc}
use Rattle.bot_ways.specs.PlanTexts.{arena_text, settings_text, blocks_text, spawns_text, things_text, map_text}
use Rattle.bot_ways.proofs.Gathering.{on_ok}
use Rattle.bot_ways.proofs.map_text.push_map.Goals as goal

pub returns : goal.returns
returns c =
    let m = c.args.map.now in
    let old = c.args.text.now in
    let a = arena_text m in
    let s = settings_text m in
    let b = blocks_text m in
    let p = spawns_text m in
    let t = things_text m in
    let one : c.push_arena.new.text ≡ old ++ a = c.in_ok-push_arena.ensures in
    let two : c.push_settings.new.text ≡ (old ++ a) ++ s = c.in_ok-push_settings.ensures ∙ ap (λ x. x ++ s) one in
    let three : c.push_blocks.new.text ≡ ((old ++ a) ++ s) ++ b = c.in_ok-push_blocks.ensures ∙ ap (λ x. x ++ b) two in
    let four : c.push_spawns.new.text ≡ (((old ++ a) ++ s) ++ b) ++ p = c.in_ok-push_spawns.ensures ∙ ap (λ x. x ++ p) three in
    on_ok (c.push_things.new.text ≡ c.push_spawns.new.text ++ t) (c.push_things.new.text ≡ old ++ map_text m) c.push_things.result
    (λ last. last ∙ ap (λ x. x ++ t) four
    ∙ append_assoc (((old ++ a) ++ s) ++ b) p t
    ∙ append_assoc ((old ++ a) ++ s) b (p ++ t)
    ∙ append_assoc (old ++ a) s (b ++ (p ++ t))
    ∙ append_assoc old a (s ++ (b ++ (p ++ t))))
    c.push_things.ensures
