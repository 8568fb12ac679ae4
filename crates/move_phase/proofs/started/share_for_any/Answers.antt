use Rattle.std.proofs.Common.{map}
use Rattle.entity_recs.specs.Commands.{command_of}
use Rattle.arena_actions.specs.MapActions.{map_in}
use Rattle.arena_actions.proofs.OfItsMap.{keeps_rules}
use Rattle.move_phase.proofs.ArenaMoves.{all_taken_by, all_listed}
use Rattle.move_phase.proofs.started.share_for_any.Goals as goal

pub share-requires-clause-taken : goal.share-requires-clause-taken
share-requires-clause-taken c κs =
    all_taken_by c.args.action.now c.args.world.now.records c.requires.of_its_map (keeps_rules c.args.action.now) c.requires.valid

pub share-requires-clause-live : goal.share-requires-clause-live
share-requires-clause-live c κs =
    all_listed (map_in c.args.action.now) c.args.world.now.records (map command_of c.args.moves.now) c.requires.valid c.requires.live
