-- The worked rows hold, by computation.
use Rattle.std.proofs.Common.{refl}
use Rattle.areanode.specs.Trees.{node_from, reaches, climb}
use Rattle.areanode.specs.Words.{word_of, any_below}
use Rattle.core_steps.specs.Rows.{FirstView, NearRow}

pub first_view : FirstView
unfolding node_from reaches climb word_of any_below
first_view = record { step = refl; view = refl }

pub near_row : NearRow
unfolding node_from reaches climb word_of any_below
near_row = record { held = refl; next = refl; step = refl; refused = refl; count = refl; still = refl }
