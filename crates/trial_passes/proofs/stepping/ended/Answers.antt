use Rattle.std.proofs.Common.{length, sym, ◌∙◌}
use Rattle.ruled_words.specs.Passes.{fixed_in}
use Rattle.trial_passes.proofs.Trials.{rests_now}
use Rattle.trial_passes.proofs.stepping.ended.Goals as goal

pub returns : goal.returns
returns g c =
    rests_now (fixed_in g.A.Action.meaning c.args.table.now) (length c.args.table.now.rooms) c.args.table.now.table 0 c.args.pass.now c.requires.own (sym c.number.ensures ∙ c.if-number-ne0.false) (sym c.has_command.ensures ∙ c.if-has_command.false)
