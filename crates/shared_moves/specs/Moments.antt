-- What a pass holds, and which move it runs, at the moments at which the move calls the gate.
use Rattle.std.specs.Prelude.{◌≡◌, Bool, true, ◌&&◌, is_some, List, [], ◌∷◌, ◌++◌}
use Rattle.entity_recs.specs.declared.effect.Entry.{Entry}
use Rattle.entity_recs.specs.Commands.{Command}
use Rattle.entity_recs.specs.Histories.{Item}
use Rattle.core_steps.specs.Points.{stage_of, is_committed}
use Rattle.core_seats.specs.Ready.{is_resolving}
use Rattle.ruled_words.specs.Passes.{PassView}
use Rattle.shared_moves.specs.InHand.{item_of, is_checking, HoldsLeavesAlone}
use Rattle.shared_moves.specs.declared.gate_point.GatePoint.{GatePoint}
use Rattle.shared_moves.specs.declared.gate_point.GatePoint.TheVariants.{Leaves, Computed, Committed}

-- the move is as far as the point says
abbrev pub has_come : PassView → GatePoint → Bool
has_come p Leaves = is_checking p.view.point
has_come p Computed = is_resolving p.view.point && is_some p.effect
has_come p Committed = is_committed (stage_of p.view.point)

-- the pass is at the point: it holds all leaves of its command and no inner node, and owes no store
pub record IsAtPoint (p : PassView) (point : GatePoint) : Type 0 where
  pub come : has_come p point ≡ true
  pub alone : HoldsLeavesAlone p

-- the pass has committed the command with this entry, which has its slot and its number: they are the log's last item
pub record HasLogged (p : PassView) (c : Command) (e : Entry) : Type 0 where
  pub earlier : List Item
  pub log : p.view.log ≡ earlier ++ item_of c e ∷ []
  pub slot : e.slot ≡ c.slot
  pub seq : e.seq ≡ c.seq
