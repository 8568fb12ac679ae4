use Rattle.demo_make.specs.GeneratedFrames.{generated_events}
use Rattle.demo_make.proofs.generator.Generator.new.Goals as goal

pub returns : goal.returns
unfolding generated_events
returns c = c.at_start.ensures
