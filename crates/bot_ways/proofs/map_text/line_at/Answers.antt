use Rattle.std.proofs.Common.{◌≡◌, get_or, List, Some, slice_get, sym, ap, ◌∙◌, subst, arith}
use Rattle.std.proofs.lemmas.Option.{slice_get-get_or}
use Rattle.arena_geo.specs.Vectors.{zero_vector}
use Rattle.entity_recs.specs.declared.rec.Rec.{Rec}
use Rattle.entity_recs.specs.Worlds.{nobody}
use Rattle.arena_map.specs.declared.map_line.MapLine.TheVariants.{Spawn}
use Rattle.arena_map.specs.MapLines.{IsWithinLimits}
use Rattle.bot_ways.proofs.ThingLines.{record-within, thing-at, limits-at}
use Rattle.bot_ways.proofs.map_text.line_at.Goals as goal

pub offset_bounds-things-place : goal.offset_bounds-things-place
offset_bounds-things-place c =
    let within = record-within c.args.map.now c.entities-things.result.now c.args.place c.entities-things.ensures.value c.requires in
    record { fits = omega (arith, within, c.entities-things.ensures.few) }

pub bounds-things-place : goal.bounds-things-place
bounds-things-place c = record-within c.args.map.now c.entities-things.result.now c.args.place c.entities-things.ensures.value c.requires

pub thing_line-requires : goal.thing_line-requires
thing_line-requires c =
    let within = record-within c.args.map.now c.entities-things.result.now c.args.place c.entities-things.ensures.value c.requires in
    c.entities-things.ensures.records c.args.place _ within

pub returns-clause-value : goal.returns-clause-value
returns-clause-value c =
    let m = c.args.map.now in
    let place = c.args.place in
    let records = c.entities-things.result.now in
    let within = record-within m records place c.entities-things.ensures.value c.requires in
    let there = subst (λ (rs : List Rec). slice_get rs place ≡ Some (get_or records place nobody)) c.entities-things.ensures.value (slice_get-get_or records place nobody within) in
    slice_get-get_or m.things place (Spawn zero_vector) c.requires
    ∙ ap Some (sym (c.thing_line.ensures ∙ thing-at m place (get_or records place nobody) (Spawn zero_vector) c.entities-things.ensures.rules c.requires there))

pub returns-clause-limits : goal.returns-clause-limits
returns-clause-limits c =
    let m = c.args.map.now in
    let place = c.args.place in
    let records = c.entities-things.result.now in
    let within = record-within m records place c.entities-things.ensures.value c.requires in
    let there = subst (λ (rs : List Rec). slice_get rs place ≡ Some (get_or records place nobody)) c.entities-things.ensures.value (slice_get-get_or records place nobody within) in
    subst IsWithinLimits (sym (c.thing_line.ensures ∙ thing-at m place (get_or records place nobody) (Spawn zero_vector) c.entities-things.ensures.rules c.requires there))
    (limits-at m place (Spawn zero_vector) c.entities-things.ensures.rules c.requires)
