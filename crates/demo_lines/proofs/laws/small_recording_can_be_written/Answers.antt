use Rattle.demo_lines.proofs.SmallRecording.{small_recording}
use Rattle.demo_lines.proofs.laws.small_recording_can_be_written.Goals as goal

pub returns : goal.returns
returns c = small_recording
