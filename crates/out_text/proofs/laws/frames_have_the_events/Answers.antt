use Rattle.out_text.proofs.FrameEvents.{frames_have_the_events}
use Rattle.out_text.proofs.laws.frames_have_the_events.Goals as goal

pub returns : goal.returns
returns c = frames_have_the_events
