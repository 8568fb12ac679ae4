use Rattle.demo_make.specs.ResentFrames.{resent_events}
use Rattle.demo_make.proofs.generator.Generator.with_resends.Goals as goal

pub returns : goal.returns
unfolding resent_events
returns c = c.at_start.ensures
