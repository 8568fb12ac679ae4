use Rattle.core_seats.proofs.Sounding.{sound_here}
use Rattle.core_seats.proofs.laws.standing_views_are_sound.Goals as goal

pub returns : goal.returns
returns c = sound_here
