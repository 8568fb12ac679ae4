use Rattle.std.proofs.Common.{◌≡◌, true}
use Rattle.std.proofs.lemmas.List.Elements.{All-weaker}
use Rattle.entity_recs.specs.declared.rec.Rec.{Rec}
use Rattle.entity_recs.specs.Records.{IsRecord}
use Rattle.entity_recs.specs.Commands.{command_of}
use Rattle.arena_outcomes.specs.Takes.{takes}
use Rattle.arena_outcomes.proofs.Lawful.Taking.{taken_is_record}
use Rattle.arena_outcomes.proofs.Lawful.Valid.{has_player_on}
use Rattle.arena_actions.proofs.lawful.ShotActionAction.act.Goals as goal

pub act-requires-clause-player : goal.act-requires-clause-player
act-requires-clause-player c = has_player_on c.args.self.now.arena.map c.args.me.now (command_of c.args.cmd.now) c.args.self.now.arena.is_map c.requires.player

pub act-requires-clause-records : goal.act-requires-clause-records
act-requires-clause-records c =
    All-weaker (λ (r : Rec). takes c.args.self.now.arena.map r ≡ true) IsRecord (λ r h. taken_is_record c.args.self.now.arena.map r c.args.self.now.arena.is_map h) c.args.near.now c.requires.others
