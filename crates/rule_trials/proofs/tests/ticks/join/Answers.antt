use Rattle.std.proofs.Common.{◌≡◌, ◌∙◌, ap, sym, None, rules}
use Rattle.arena_geo.specs.Bounds.{Bounds}
use Rattle.arena_geo.specs.Boxes.{contains}
use Rattle.world_tree.specs.Live.{record_at}
use Rattle.rule_trials.proofs.StartWorlds.{made_is_record, still_free, joined}
use Rattle.rule_trials.proofs.tests.ticks.join.Goals as goal

pub add-requires-clause-record : goal.add-requires-clause-record
add-requires-clause-record c = made_is_record c.args.slot c.args.origin c.player.result c.requires.slot c.requires.near c.player.ensures

pub add-requires-clause-not_live : goal.add-requires-clause-not_live
add-requires-clause-not_live c =
    let nobody : record_at c.args.world.now.records c.args.slot ≡ None = search rules in
    still_free c.args.world.now.records c.args.slot c.args.origin c.player.result nobody c.player.ensures

pub returns-then-contains : goal.returns-then-contains
returns-then-contains c =
    joined c.args.map.now c.args.world.now c.add.new.self c.args.slot c.args.origin c.player.result c.requires.valid c.requires.slot c.requires.near
    (sym (ap (λ (b : Bounds). contains b c.player_box.result) c.bounds.ensures.value ∙ ap (contains c.args.map.now.bounds) c.player_box.ensures) ∙ sym c.contains.ensures ∙ c.if-contains.true)
    c.player.ensures c.add.ensures.world
