use Rattle.std.proofs.Common.{◌∙◌, sym}
use Rattle.rule_trials.proofs.StartWorlds.{taken, taken_is_record, taken_is_live}
use Rattle.rule_trials.proofs.tests.ticks.take.Goals as goal

pub relink-requires-clause-record : goal.relink-requires-clause-record
relink-requires-clause-record c =
    taken_is_record c.args.map.now c.args.world.now.records c.args.id c.args.frame c.in-Some.r c.in_state.result c.requires (sym c.get.ensures.record ∙ c.in-Some.is) c.in_state.ensures

pub relink-requires-clause-live : goal.relink-requires-clause-live
relink-requires-clause-live c =
    taken_is_live c.args.map.now c.args.world.now.records c.args.id c.args.frame c.in-Some.r c.in_state.result c.requires (sym c.get.ensures.record ∙ c.in-Some.is) c.in_state.ensures

pub returns-then-is_item : goal.returns-then-is_item
returns-then-is_item c =
    taken c.args.map.now c.args.world.now c.relink.new.self c.args.id c.args.frame c.in-Some.r c.in_state.result c.requires (sym c.get.ensures.record ∙ c.in-Some.is)
    (sym c.is_item.ensures ∙ c.if-is_item.true) c.in_state.ensures c.relink.ensures.world
