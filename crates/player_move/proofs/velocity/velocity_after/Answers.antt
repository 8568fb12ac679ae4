use Rattle.player_move.specs.Intents.{intent_of}
use Rattle.player_move.proofs.WholeMoves.{velocity_by_steps}
use Rattle.player_move.proofs.velocity.velocity_after.Goals as goal

pub returns-clause-value : goal.returns-clause-value
returns-clause-value c = velocity_by_steps c.args.ground c.args.me.now (intent_of c.args.cmd.now) _ _ c.velocity_before_clamp.ensures c.clamp.ensures.value
