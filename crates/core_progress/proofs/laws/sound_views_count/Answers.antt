use Rattle.core_progress.proofs.SoundCounts.{sound_views_count}
use Rattle.core_progress.proofs.laws.sound_views_count.Goals as goal

pub returns : goal.returns
returns c = sound_views_count
