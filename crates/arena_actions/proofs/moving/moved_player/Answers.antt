use Rattle.std.proofs.Common.{ap, ◌∙◌}
use Rattle.player_move.specs.declared.moved.Moved.{Moved}
use Rattle.arena_outcomes.specs.Outcomes.{after_move, moved_among}
use Rattle.arena_actions.proofs.Rising.{few_records}
use Rattle.arena_actions.proofs.moving.moved_player.Goals as goal

pub move_among-requires-clause-few : goal.move_among-requires-clause-few
move_among-requires-clause-few c = few_records _ c.requires.records c.requires.rising

pub returns : goal.returns
unfolding moved_among
returns c = c.after_move.ensures ∙ ap (λ (m : Moved). after_move c.args.me.now m c.args.cmd.now.seq) c.move_among.ensures
