use Rattle.std.proofs.Common.{slice_get, ap, ◌∙◌}
use Rattle.arena_map.specs.Maps.{MapView}
use Rattle.arena_map.proofs.ThingsFound.{copied-get, thing-found}
use Rattle.arena_map.proofs.map.ArenaMap.thing_of.Goals as goal

pub returns-clause-value : goal.returns-clause-value
returns-clause-value c =
    let things = c.as_slice-things.ensures.value ∙ ap (λ (m : MapView). m.things) c.self.view_is in
    let got = copied-get c.get.result c.as_slice-things.result.now c.from.result c.get.ensures.lookup.0 c.get.ensures.lookup.1 in
    thing-found c.args.self.now c.args.id c.from.result c.copied.result c.in_ok-place.ensures.0 (c.from.ensures ∙ c.in_ok-place.ensures.1)
    (c.copied.ensures ∙ got ∙ ap (λ t. slice_get t c.from.result) things)
