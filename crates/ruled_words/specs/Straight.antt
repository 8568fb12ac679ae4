-- A move as straight code: what its hand has in view between its steps, and what is kept of it in plain values.
use Rattle.std.specs.Prelude.{◌≡◌, ℕ, ◌%◌, ◌^◌, ◌<◌, Bool, true, false, if◌then◌else◌, List, [], ◌++◌, length, Some, None, get_or}
use Rattle.areanode.specs.Words.{has_bit}
use Rattle.areanode.specs.Trees.{leaves_of, visited_of}
use Rattle.entity_recs.specs.Commands.{Command}
use Rattle.core_steps.specs.Nodes.{Fixed, inner_nodes, leaf_nodes}
use Rattle.core_steps.specs.Points.{Point, Taking}
use Rattle.core_steps.specs.Reads.{View, PlayerRead, player_at, region_in, things_in}
use Rattle.core_steps.specs.Steps.{sensing}
use Rattle.ruled_words.specs.Sights.{HeldWord, Tally}
use Rattle.ruled_words.specs.Passes.{PassView}
use Rattle.ruled_words.specs.declared.held.Held.{Held}

-- the pass with this view, to which nothing was given, that isn't to give up and keeps no effect
abbrev pub in_view : PassView → View → PassView
in_view p view = record p { given = None; quits = false; effect = None; view = view }

-- the same, with this tally
abbrev pub in_view_with : PassView → View → Tally → PassView
in_view_with p view tally = record (in_view p view) { tally = tally }

-- the second list is the first with more in front
pub record HasMoreInFront (old new : List HeldWord) : Type 0 where
  pub more : List HeldWord
  pub whole : new ≡ more ++ old

-- no command was begun, and more takes may have been refused, which are listed in front of the others
pub record IsTriedOn (old new : Tally) : Type 0 where
  pub begun : new.begun ≡ old.begun
  pub listed : HasMoreInFront old.refused new.refused

-- the words kept by slot are those that were loaded last, of the players whose bit is set in `seen`
abbrev pub HasKept : ℕ → List (List ℕ) → List PlayerRead → Type 0
HasKept seen by_slot others =
    (slot : ℕ) → slot < 64 → player_at others slot ≡ (if has_bit seen slot then Some (get_or by_slot slot []) else None)

-- leaves are to be taken
abbrev pub is_taking_leaves : Point → Bool
is_taking_leaves (Taking got rest) = true
is_taking_leaves _ = false

-- the view of a command whose own record was loaded so, and whose leaves are to be taken
abbrev pub taking_leaves : Fixed → Command → List ℕ → View → View
taking_leaves F c words view = record view {
  cmd = c;
  own = words;
  wanted = leaf_nodes F (region_in F c words);
  point = Taking [] (leaf_nodes F (region_in F c words));
}

-- the view at this point, where other takes may have been refused
abbrev pub at_point : View → Point → View → View
at_point view point tried = record view { point = point; refusals = tried.refusals; refused = tried.refused }

-- the view after all nodes of the region were read, as this one has it
abbrev pub nodes_read : Fixed → View → View → View
nodes_read F view new = record view {
  point = sensing (things_in F (region_in F view.cmd view.own));
  lists = new.lists;
  others = new.others;
  refusals = new.refusals;
  refused = new.refused;
}

-- these are the slot, the own record, and the leaves and inner nodes of the region of this command, by these words of the
-- own record, and these are its wanted nodes
pub record AreOfCommand (F : Fixed) (held : Held) (c : Command) (own wanted : List ℕ) : Type 0 where
  pub slot_is : held.slot ≡ c.slot
  pub own_is : held.own ≡ own
  pub six : length held.own ≡ 6
  pub leaves_are : held.leaves ≡ leaves_of F.tree (region_in F c own)
  pub inner_are : held.inner ≡ visited_of F.tree.depth held.leaves % 2 ^ inner_nodes F
  pub wanted_is : held.wanted.items ≡ wanted

-- the same of the command in this view
abbrev pub AreHeldFor : Fixed → Held → View → Type 0
AreHeldFor F held view = AreOfCommand F held view.cmd view.own view.wanted

-- the nodes that are taken, and those that come after the next one
abbrev pub got_at : Point → List ℕ
got_at (Taking got rest) = got
got_at _ = []
