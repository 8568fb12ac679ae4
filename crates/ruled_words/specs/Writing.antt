-- A move's write nodes, its commit, its stores and what is given back, as its hand has them in view.
use Rattle.std.specs.Prelude.{◌≡◌, ℕ, suc, ◌+◌, ◌^◌, ◌<◌, ◌≤◌, List, [], ◌∷◌, ◌++◌, drop, Option, Some, None}
use Rattle.entity_recs.specs.declared.effect.Effect.{Effect}
use Rattle.entity_recs.specs.declared.effect.NewState.{NewState}
use Rattle.core_steps.specs.Cells.{State}
use Rattle.core_steps.specs.Nodes.{Fixed}
use Rattle.core_steps.specs.Points.{Point, Resolving, Claiming, Storing, Releasing, Store, Put}
use Rattle.core_steps.specs.Reads.{View}
use Rattle.core_steps.specs.Nodes.{write_nodes}
use Rattle.core_steps.specs.Points.{stores_owed}
use Rattle.core_steps.specs.Reads.{record_read, without_command}
use Rattle.core_steps.specs.Steps.{rest_of, item_at, view_after_commit}
use Rattle.ruled_words.specs.Passes.{PassView}
use Rattle.ruled_words.specs.Straight.{in_view_with, IsTriedOn}

-- ---- takes that are tried again

-- the view, with the refused takes of this one
abbrev pub as_tried : View → View → View
as_tried view tried = record view { refusals = tried.refusals; refused = tried.refused }

-- the hand has come to this view by takes, some of which may have been refused
pub record HasTried (old : PassView) (view : View) (new : PassView) : Type 0 where
  pub hand : new ≡ in_view_with old (as_tried view new.view) new.tally
  pub tally : IsTriedOn old.tally new.tally

-- ---- the write nodes

-- the write nodes of the effect on the own record as it was loaded again
abbrev pub nodes_written : Fixed → View → Effect → List ℕ
nodes_written F view e = write_nodes F (record_read view.cmd.slot view.again) e

-- the write nodes that are held
abbrev pub nodes_held : Point → List ℕ
nodes_held (Claiming got rest) = got
nodes_held (Storing nodes stores) = nodes
nodes_held (Releasing nodes) = nodes
nodes_held _ = []

-- the write nodes that come after the next one
abbrev pub claims_left : Point → List ℕ
claims_left (Claiming got rest) = rest_of rest
claims_left _ = []

-- the point where these write nodes are held and the commit comes next: where there are none, all is read
abbrev pub claimed_point : List ℕ → Point
claimed_point [] = Resolving
claimed_point (node ∷ nodes) = Claiming (node ∷ nodes) []

-- the effect in view there: it enters the view with the first write node, if there is one
abbrev pub claimed_effect : Effect → List ℕ → Option Effect
claimed_effect e [] = None
claimed_effect e (node ∷ nodes) = Some e

-- the view where the write nodes of the effect are held
abbrev pub view_with_claims : Fixed → Effect → View → View
view_with_claims F e view = record view {
  effect = claimed_effect e (nodes_written F view e);
  point = claimed_point (nodes_written F view e);
}

-- the write nodes of the effect are held, and the commit comes next
pub record IsClaimed (F : Fixed) (e : Effect) (view : View) : Type 0 where
  pub at : view.point ≡ claimed_point (nodes_written F view e)
  pub effect : view.effect ≡ claimed_effect e (nodes_written F view e)

-- the view after the commit of the effect at this place and all its stores, where these write nodes are still held
abbrev pub view_after_stores : Fixed → ℕ → Effect → List ℕ → View → View
view_after_stores F place e nodes view = record (view_after_commit F place e nodes view) { point = Releasing nodes }

-- the view where the command is done, which was committed with this effect at this place
abbrev pub done : ℕ → Effect → View → View
done place e view = record (without_command view) { log = view.log ++ item_at place view e ∷ []; seen = suc place }

-- ---- the stores

-- the stores that are owed but for so many
abbrev pub owed_beyond : ℕ → Point → List Store
owed_beyond n point = drop n (stores_owed point)

-- the store of a new state
abbrev pub state_store : NewState → Store
state_store s = Put (State s.id) s.state

-- ---- all of it

-- the view after the command is committed with this effect at this place and all is written
abbrev pub all_written : Effect → ℕ → View → View → View
all_written e place view new = record view {
  point = Releasing [];
  effect = Some e;
  seen = suc place;
  log = view.log ++ item_at place view e ∷ [];
  refusals = new.refusals;
  refused = new.refused;
}

-- the hand has committed and written the effect
pub record HasWritten (e : Effect) (place : ℕ) (old new : PassView) : Type 0 where
  pub hand : new ≡ in_view_with old (all_written e place old.view new.view) new.tally
  pub tried : IsTriedOn old.tally new.tally
  pub place_is : old.view.seen ≤ place
  pub small : place + 1 < 2 ^ 64
