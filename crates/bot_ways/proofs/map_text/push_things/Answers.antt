use Rattle.std.proofs.Common.{[], ◌∷◌, ◌++◌, length, List, take, sym, ap, ◌∙◌, arith, append_assoc}
use Rattle.entity_recs.specs.declared.rec.Rec.{Rec}
use Rattle.arena_map.specs.Spelling.{map_line_text}
use Rattle.bot_ways.specs.PlanTexts.{lines_text}
use Rattle.bot_ways.proofs.ThingLines.{things-count}
use Rattle.bot_ways.proofs.Gathering.{things-more, things-whole}
use Rattle.bot_ways.proofs.map_text.push_things.Goals as goal

pub line_at-requires : goal.line_at-requires
line_at-requires c =
    omega (arith, c.loop-place-test.true, things-count c.args.map.now, ap (λ (rs : List Rec). length rs) c.entities-place-end.ensures.value)

pub loop-place-preserved : goal.loop-place-preserved
loop-place-preserved c =
    let things = c.args.map.now.things in
    let line = c.line_at.result in
    let i = c.loop-place.place in
    c.in_ok-push_line.ensures
    ∙ ap (λ t. t ++ (map_line_text line ++ 10 ∷ [])) c.loop-place.invariant
    ∙ append_assoc c.args.text.now (lines_text (take i things)) (map_line_text line ++ 10 ∷ [])
    ∙ ap (λ t. c.args.text.now ++ t) (sym (things-more things i line c.line_at.ensures.value))

pub returns : goal.returns
returns c =
    let count = ap (λ (rs : List Rec). length rs) c.entities-place-end.ensures.value in
    c.loop-place.invariant
    ∙ ap (λ t. c.args.text.now ++ t)
    (things-whole c.args.map.now.things c.loop-place.place (omega (arith, c.loop-place-test.false, things-count c.args.map.now, count)))
