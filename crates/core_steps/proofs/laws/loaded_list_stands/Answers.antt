use Rattle.core_steps.proofs.Listing.{loaded_list_stands}
use Rattle.core_steps.proofs.laws.loaded_list_stands.Goals as goal

pub returns : goal.returns
returns c = loaded_list_stands
