-- How many steps a seat has left at most, where no take is refused.
use Rattle.std.specs.Prelude.{ℕ, ◌+◌, ◌*◌, ◌-◌, ◌<◌, ◌≡◌, ◌==◌, Bool, true, false, List, length, Option, Some, None}
use Rattle.std.specs.Prelude.{is_some}
use Rattle.areanode.specs.Trees.{IsTreeDepth}
use Rattle.areanode.specs.declared.sizes.TheConstants.{MOST_LEAVES, MOST_NODES}
use Rattle.entity_recs.specs.declared.effect.Effect.{Effect}
use Rattle.core_steps.specs.Nodes.{Fixed}
use Rattle.core_steps.specs.Points.{Point, Idle, Owning, Taking, Checking, Entering, Entered, Loading, Leaving}
use Rattle.core_steps.specs.Points.{Sensing, Resolving, Claiming, Storing, Releasing, Returning, Yielding}
use Rattle.core_steps.specs.Reads.{View}
use Rattle.core_steps.specs.Machine.{Next, TakeNode, ClaimNode}
use Rattle.core_seats.specs.Going.{view_found}
use Rattle.core_seats.specs.Sound.{IsSound}
use Rattle.core_seats.specs.Nexts.{next_with, the_next}

-- the most steps of one visit of a node: a take, its list word, six words of each of 64 players, and a give-back
abbrev pub VISIT : ℕ
VISIT = 387

-- the most states that an effect lists
abbrev pub MOST_STATES : ℕ
MOST_STATES = 8

-- how many states an effect lists, or the most where it isn't known yet
abbrev pub states_listed : Option Effect → ℕ
states_listed None = MOST_STATES
states_listed (Some e) = length e.states

-- the steps after all is read, where so many leaves are wanted: two write nodes are taken, the command is committed,
-- the stores are made, and the nodes and leaves are given back
abbrev pub after_reading : Option Effect → ℕ → ℕ
after_reading effect wanted = 13 + states_listed effect + wanted

-- the steps after the visits: the states of things are loaded
abbrev pub after_visits : Fixed → Option Effect → ℕ → ℕ
after_visits F effect wanted = length F.start.ids + 1 + after_reading effect wanted

-- the steps after the leaves are taken: the own record is loaded again, and all nodes are visited
abbrev pub after_leaves : Fixed → Option Effect → ℕ → ℕ
after_leaves F effect wanted = 6 + MOST_NODES * VISIT + after_visits F effect wanted

-- the steps that are left at this point, where so many words of the own record are loaded and loaded again
abbrev pub left_at : Fixed → Option Effect → (own again wanted : ℕ) → Point → ℕ
left_at F effect own again wanted Idle = 0
left_at F effect own again wanted Owning = (6 - own) + MOST_LEAVES + after_leaves F effect MOST_LEAVES
left_at F effect own again wanted (Taking got rest) = length rest + after_leaves F effect wanted
left_at F effect own again wanted Checking = (6 - again) + MOST_NODES * VISIT + after_visits F effect wanted
left_at F effect own again wanted (Entering node plan) = VISIT + VISIT * length plan + after_visits F effect wanted
left_at F effect own again wanted (Entered node plan) = 386 + VISIT * length plan + after_visits F effect wanted
left_at F effect own again wanted (Loading node part players plan) =
    (6 * length players - length part) + 1 + VISIT * length plan + after_visits F effect wanted
left_at F effect own again wanted (Leaving node plan) = 1 + VISIT * length plan + after_visits F effect wanted
left_at F effect own again wanted (Sensing ids) = length ids + 1 + after_reading effect wanted
left_at F effect own again wanted Resolving = 1 + after_reading effect wanted
left_at F effect own again wanted (Claiming got rest) =
    2 * length rest + length got + 9 + states_listed effect + wanted
left_at F effect own again wanted (Storing nodes stores) = length stores + length nodes + wanted
left_at F effect own again wanted (Releasing nodes) = length nodes + wanted
left_at F effect own again wanted (Returning leaves) = length leaves
left_at F effect own again wanted (Yielding nodes leaves) = length nodes + length leaves

-- the steps that are left of a view, where this effect is kept
-- Each step but a refused take lowers it, so a loop over a move's steps ends by it.
abbrev pub steps_left : Fixed → Option Effect → View → ℕ
steps_left F effect view = left_at F effect (length view.own) (length view.again) (length view.wanted) view.point

-- the step, where this word was found, is no refused take
abbrev pub is_served : Next → ℕ → Bool
is_served (TakeNode node) found = found == 0
is_served (ClaimNode e node) found = found == 0
is_served _ _ = true

-- what a view says for its steps to lower how many are left: the loads are in part, leaves are wanted, and the effect
-- in view is the one that is kept
pub record IsCounting (F : Fixed) (effect : Option Effect) (view : View) : Type 0 where
  pub depth : IsTreeDepth F.tree.depth
  pub own : view.point ≡ Owning → length view.own < 6
  pub again : view.point ≡ Checking → length view.again < 6
  pub part : (node : ℕ) (part players plan : List ℕ) → view.point ≡ Loading node part players plan → length part < 6
  pub wanted : (nodes : List ℕ) → view.point ≡ Releasing nodes → 0 < length view.wanted
  pub kept : (e : Effect) → view.effect ≡ Some e → effect ≡ Some e

-- a step of a seat that isn't to give up and has its command in view, and that is no refused take, leaves fewer steps
abbrev pub ServedStepsLeaveFewer : Type 0
ServedStepsLeaveFewer =
    (F : Fixed) (effect : Option Effect) (view : View) (found : ℕ) → IsCounting F effect view
    → is_some (next_with F view None false effect) ≡ true
    → is_served (the_next (next_with F view None false effect)) found ≡ true
    → steps_left F effect (view_found F view (the_next (next_with F view None false effect)) found)
    < steps_left F effect view

-- a sound view, in which no other effect than the one that is kept is in view, has what its steps need to lower how many
-- are left
abbrev pub SoundViewsCount : Type 0
SoundViewsCount =
    (F : Fixed) (effect : Option Effect) (view : View) → IsSound F view
    → ((e : Effect) → view.effect ≡ Some e → effect ≡ Some e) → IsCounting F effect view
