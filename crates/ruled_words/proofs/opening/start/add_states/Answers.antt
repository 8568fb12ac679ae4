use Rattle.std.proofs.Common.{◌∙◌, arith}
use Rattle.ruled_words.proofs.FirstWords.{state_next, states_last}
use Rattle.ruled_words.proofs.opening.start.add_states.Goals as goal

pub loop-id-preserved : goal.loop-id-preserved
loop-id-preserved c =
    c.in_ok-push.ensures.items
    ∙ state_next c.args.world.now c.loop-id.id c.state_at_start.result c.loop-id.words.items c.loop-id.invariant c.state_at_start.ensures

pub returns : goal.returns
returns c = states_last c.args.world.now c.loop-id.id c.loop-id.words.items c.loop-id.invariant (omega (arith, c.loop-id.auto.id-end, c.loop-id-test.false))
