use Rattle.core_steps.proofs.TreeNodes.{each_tree_fits}
use Rattle.core_steps.proofs.laws.each_tree_fits.Goals as goal

pub returns : goal.returns
returns c = each_tree_fits
