-- A move as straight code: the states of the things that its region touches are loaded.
use Rattle.std.specs.Prelude.{ℕ, List, []}
use Rattle.entity_recs.specs.declared.effect.NewState.{NewState}
use Rattle.core_steps.specs.Points.{Point, Sensing}
use Rattle.core_steps.specs.Steps.{rest_of, sensing}
use Rattle.ruled_words.specs.Passes.{PassView}
use Rattle.ruled_words.specs.Straight.{in_view}

-- the things that come after the next one
abbrev pub after_thing : Point → List ℕ
after_thing (Sensing ids) = rest_of ids
after_thing _ = []

-- the pass with these states in view, where those of these things are left
abbrev pub sensed_to : PassView → List NewState → List ℕ → PassView
sensed_to p states left = in_view p (record p.view { states = states; point = sensing left })
