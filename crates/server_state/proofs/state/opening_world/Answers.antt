use Rattle.std.proofs.Common.{◌∙◌}
use Rattle.std.proofs.lemmas.Result.{IfOk-weaker}
use Rattle.server_state.proofs.Openings.{made_so, opened}
use Rattle.server_state.proofs.state.opening_world.Goals as goal

pub returns-clause-made : goal.returns-clause-made
returns-clause-made c = IfOk-weaker c.new.result _ _ (λ w is. is ∙ made_so c.args.map.now c.bounds.result.now c.depth.result c.entities.result.now c.bounds.ensures.value c.depth.ensures.value c.entities.ensures.value) c.new.ensures.made

pub returns-clause-records : goal.returns-clause-records
returns-clause-records c =
    IfOk-weaker c.new.result _ _ (λ w is. opened c.args.map.now w (is ∙ made_so c.args.map.now c.bounds.result.now c.depth.result c.entities.result.now c.bounds.ensures.value c.depth.ensures.value c.entities.ensures.value)) c.new.ensures.made
