use Rattle.entity_recs.specs.Commands.{command_of}
use Rattle.arena_outcomes.proofs.Lawful.Valid.{has_player_on}
use Rattle.arena_actions.proofs.lawful.ShotActionAction.region.Goals as goal

pub region_of-requires-clause-player : goal.region_of-requires-clause-player
region_of-requires-clause-player c = (has_player_on c.args.self.now.arena.map c.args.me.now (command_of c.args.cmd.now) c.args.self.now.arena.is_map c.requires).kind

pub region_of-requires-clause-record : goal.region_of-requires-clause-record
region_of-requires-clause-record c = (has_player_on c.args.self.now.arena.map c.args.me.now (command_of c.args.cmd.now) c.args.self.now.arena.is_map c.requires).is_record
