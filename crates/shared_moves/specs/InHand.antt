-- The command that a pass has in hand, what it holds for it, and who refused it a node.
use Rattle.std.specs.Prelude.{◌≡◌, ℕ, ◌+◌, ◌<◌, Bool, true, false, if◌then◌else◌, List, [], length, None, is_some}
use Rattle.entity_recs.specs.declared.effect.Entry.{Entry}
use Rattle.entity_recs.specs.Commands.{Command}
use Rattle.entity_recs.specs.Histories.{Item}
use Rattle.core_steps.specs.Nodes.{Fixed}
use Rattle.core_steps.specs.Points.{Point, Idle, Checking, stores_owed, stage_of, is_busy}
use Rattle.core_steps.specs.Held.{inner_held, leaves_held}
use Rattle.core_steps.specs.Calls.{pursued_of}
use Rattle.ruled_words.specs.Passes.{PassView}

-- the command that the pass has in hand, where it isn't committed and isn't to be given up
abbrev pub command_pursued : PassView → List Command
command_pursued p = pursued_of p.given p.quits p.view

-- how many commands the pass was given: those that it began, and the one that isn't begun
abbrev pub commands_given : PassView → ℕ
commands_given p = p.tally.begun + (if is_some p.given then 1 else 0)

-- the item of a command and its entry
abbrev pub item_of : Command → Entry → Item
item_of c e = record { command = c; entry = e }

-- the pass has no command in hand, and room for one
pub record MayBegin (p : PassView) : Type 0 where
  pub none : p.given ≡ None
  pub idle : p.view.point ≡ Idle
  pub room : length p.view.log < p.view.room

-- all leaves are held, and the own record isn't loaded again whole
abbrev pub is_checking : Point → Bool
is_checking Checking = true
is_checking _ = false

-- the pass holds all leaves that its command wants and no inner node, whatever the tree is, and owes no store
pub record HoldsLeavesAlone (p : PassView) : Type 0 where
  pub busy : is_busy (stage_of p.view.point) ≡ true
  pub leaves : leaves_held p.view.point p.view.wanted ≡ p.view.wanted
  pub inner : (F : Fixed) → inner_held F p.view.point ≡ []
  pub stores : stores_owed p.view.point ≡ []
