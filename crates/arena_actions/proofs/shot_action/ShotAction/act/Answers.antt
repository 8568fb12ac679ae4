use Rattle.std.proofs.Common.{◌∙◌, sym, ap}
use Rattle.entity_recs.specs.declared.rec.Rec.{Rec}
use Rattle.entity_recs.specs.Commands.{command_of}
use Rattle.trigger_rules.specs.Touching.{first_walk}
use Rattle.arena_outcomes.specs.Outcomes.{effect_of, shooting_in}
use Rattle.arena_outcomes.proofs.LyingOrMoving.{down_is, moves_is}
use Rattle.arena_actions.proofs.shot_action.ShotAction.act.Goals as goal

pub returns-then-is_down : goal.returns-then-is_down
returns-then-is_down c =
    c.effect_on_self.ensures
    ∙ ap (λ (r : Rec). effect_of (first_walk r)) c.player_while_down.ensures
    ∙ down_is c.args.self.now.arena.map c.args.me.now c.args.near.now (command_of c.args.cmd.now) (sym c.is_down.ensures ∙ c.if-is_down.true)

pub returns : goal.returns
returns c =
    c.shoot.ensures
    ∙ ap (λ (r : Rec). shooting_in c.args.self.now.arena.map r c.args.near.now (command_of c.args.cmd.now)) c.player_after_rising.ensures
    ∙ moves_is c.args.self.now.arena.map c.args.me.now c.args.near.now (command_of c.args.cmd.now) (sym c.is_down.ensures ∙ c.if-is_down.false)
