use Rattle.core_steps.proofs.Places.{each_place_is_logged_once}
use Rattle.core_steps.proofs.machine_laws.each_place_is_logged_once.Goals as goal

pub returns : goal.returns
returns c = each_place_is_logged_once
