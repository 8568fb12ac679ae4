-- A take that may be refused, in a move as straight code.
use Rattle.std.specs.Prelude.{◌≡◌, ℕ, ◌==◌, Bool}
use Rattle.core_steps.specs.Nodes.{Fixed}
use Rattle.core_steps.specs.Points.{Point}
use Rattle.core_seats.specs.Nexts.{the_next}
use Rattle.ruled_words.specs.Passes.{PassView, next_of_pass, pass_after}
use Rattle.ruled_words.specs.Straight.{in_view_with, at_point}

-- the node that comes next was tried: it is taken where the word that was found is 0
pub record IsTried (F : Fixed) (old new : PassView) (taken : Bool) : Type 0 where
  pub found : ℕ
  pub pass : new ≡ pass_after F (the_next (next_of_pass F old)) found old
  pub where_free : taken ≡ (found == 0)

-- the first pass at this point, where other takes may have been refused, as this one has it
abbrev pub tried_until : PassView → Point → PassView → PassView
tried_until old point new = in_view_with old (at_point old.view point new.view) new.tally
