use Rattle.slide_move.proofs.Hits.{free_slide_goes_all}
use Rattle.slide_move.proofs.laws.free_slides_go_by_their_velocity.Goals as goal

pub returns : goal.returns
returns c = free_slide_goes_all
