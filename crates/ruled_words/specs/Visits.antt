-- How the nodes of a region are read, in a move as straight code.
use Rattle.std.specs.Prelude.{ℕ, List, []}
use Rattle.core_steps.specs.Nodes.{Fixed}
use Rattle.core_steps.specs.Points.{Point, Entering, Entered, Leaving}
use Rattle.core_steps.specs.Steps.{loading}
use Rattle.ruled_words.specs.Passes.{PassView}
use Rattle.ruled_words.specs.Straight.{in_view, in_view_with}

-- the nodes that are visited after the present one
abbrev pub plan_left : Point → List ℕ
plan_left (Entering node plan) = plan
plan_left (Entered node plan) = plan
plan_left (Leaving node plan) = plan
plan_left _ = []

-- the first pass at this point, with the lists and the players that this one has loaded
abbrev pub read_until : PassView → Point → PassView → PassView
read_until old point new = in_view old (record old.view { point = point; lists = new.view.lists; others = new.view.others })

-- the same where takes may have been refused, as this one has it
abbrev pub visited_until : PassView → Point → PassView → PassView
visited_until old point new = in_view_with old (record old.view {
  point = point;
  lists = new.view.lists;
  others = new.view.others;
  refusals = new.view.refusals;
  refused = new.view.refused;
}) new.tally

-- the first pass with these players left to be loaded under the node that it has entered, as this one has it
abbrev pub under_until : Fixed → PassView → ℕ → List ℕ → PassView → PassView
under_until F old node players new = read_until old (loading F old.view node players (plan_left old.view.point)) new
