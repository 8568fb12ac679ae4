-- A pass as contracts see it, and the table that it belongs to.
use Rattle.std.specs.Prelude.{◌≤◌, ◌≡◌, ◌≢◌, ℕ, ◌+◌, ◌-◌, ◌/◌, ◌%◌, ◌^◌, ◌<◌, min, Bool, true, false, if◌then◌else◌}
use Rattle.std.specs.Prelude.{List, [], ◌∷◌, ◌++◌}
use Rattle.std.specs.Prelude.{length, Option, Some, None, is_some}
use Rattle.core_steps.specs.declared.sizes.TheConstants.{TABLE_LEAVES, NODE_HOLDERS}
use Rattle.atomic_table.specs.Seated.{TableId}
use Rattle.entity_recs.specs.Actions.{Meaning}
use Rattle.entity_recs.specs.declared.effect.Effect.{Effect}
use Rattle.entity_recs.specs.Commands.{Command}
use Rattle.world_tree.specs.Worlds.{WorldView}
use Rattle.core_steps.specs.Nodes.{Fixed, is_leaf}
use Rattle.core_steps.specs.Reads.{Refused, View, record_read, effect_loaded}
use Rattle.core_steps.specs.Steps.{is_taking}
use Rattle.core_steps.specs.Machine.{Next, ReadList, ReadPlayer}
use Rattle.core_steps.specs.Machine.{ReadState, GiveNode, YieldNode, YieldCount, index_of}
use Rattle.core_steps.specs.Machine.{kind_of, IsPending}
use Rattle.core_steps.specs.declared.step.StepKind.TheVariants.{Commit}
use Rattle.ruled_words.specs.Sights.{HeldWord, IsOneOf, SightView, Tally, tally_after}
use Rattle.ruled_words.specs.Starts.{fixed_by}
use Rattle.core_steps.specs.Calls.{node_taken}
use Rattle.core_seats.specs.Going.{view_found, word_left}
use Rattle.core_seats.specs.Nexts.{next_with, the_next}
use Rattle.core_seats.specs.Ready.{is_resolving}
use Rattle.ruled_words.specs.Holders.{IsFoundHeld, AreReached}
use Rattle.ruled_words.specs.Plays.{IsSoundSight}
use Rattle.ruled_words.specs.declared.setting.Setting.{Setting}

-- which table it is, what its passes know of it, the pass's number, the command that is given and not begun, whether the pass is to give up, the
-- effect that it keeps, its view in the core, and what it did
pub record PassView : Type 0 where
  pub table : TableId
  pub setting : Setting
  pub number : ℕ
  pub given : Option Command
  pub quits : Bool
  pub effect : Option Effect
  pub view : View
  pub tally : Tally

-- which table it is, the action, the world at the start, and the room of each pass
pub record TableView (A : Type 0) : Type 0 where
  pub table : TableId
  pub action : A
  pub world : WorldView
  pub rooms : List ℕ

-- what the passes of a table know of it
abbrev pub setting_of : Fixed → Setting
setting_of F = record { depth = F.tree.depth; records = length F.start.ids }

-- what comes next of a pass
abbrev pub next_of_pass : Fixed → PassView → Option Next
next_of_pass F p = next_with F p.view p.given p.quits p.effect

-- the effect that is kept after a step to this view: it is kept where all is read and no write node is taken
abbrev pub effect_kept : View → Option Effect → Option Effect
effect_kept view effect = if is_resolving view.point then effect else None

-- the pass after what comes next, where this word was found
abbrev pub pass_after : Fixed → Next → ℕ → PassView → PassView
pass_after F next found p = record p {
  given = None;
  quits = false;
  effect = effect_kept (view_found F p.view next found) p.effect;
  view = view_found F p.view next found;
  tally = tally_after next found (word_left F p.number p.view next found) p.tally;
}

-- the first of two effects that is there
abbrev pub first_effect : Option Effect → Option Effect → Option Effect
first_effect None other = other
first_effect (Some e) other = Some e

-- the effect of the command in hand: the one that is kept, or the one in view
abbrev pub effect_in_hand : PassView → Option Effect
effect_in_hand p = first_effect p.effect p.view.effect

-- the sight of the pass's seat
abbrev pub sight_of : PassView → SightView
sight_of p = record { number = p.number; view = p.view; tally = p.tally }

-- the last refused take is one of these
abbrev pub RefusalIsListed : Option Refused → List HeldWord → Type 0
RefusalIsListed None refused = Unit {0}
RefusalIsListed (Some r) refused = IsOneOf (record { node = r.node; word = r.word }) refused

-- the count of refused takes is how many are listed, as far as a word of 64 bits can say it
abbrev pub AreCounted : ℕ → List HeldWord → Type 0
AreCounted refusals refused = refusals ≡ min (length refused) (2 ^ 64 - 1)

-- the pass belongs to the table, and what it keeps beside its view is what the view says
pub record IsPassOf (F : Fixed) (passes : ℕ) (table : TableId) (p : PassView) : Type 0 where
  pub at_table : p.table ≡ table
  pub at_setting : p.setting ≡ setting_of F
  pub lives : p.view.live ≡ true
  pub sound_sight : IsSoundSight F passes (sight_of p)
  pub pending : (c : Command) → p.given ≡ Some c → IsPending F p.view c
  pub serves : (c : Command) → p.given ≡ Some c → c.slot % passes ≡ p.number
  pub may_quit : p.quits ≡ true → is_taking p.view.point ≡ true
  pub has_effect : is_resolving p.view.point ≡ true → (e : Effect) → p.effect ≡ Some e → e ≡ effect_loaded F p.view
  pub only_resolving : is_resolving p.view.point ≡ false → p.effect ≡ None
  pub refusal : RefusalIsListed p.view.refused p.tally.refused
  pub counted : AreCounted p.view.refusals p.tally.refused

-- what doesn't change of a table, by its action
abbrev pub fixed_in : {A : Type 0} → (A → Meaning) → TableView A → Fixed
fixed_in meaning t = fixed_by meaning t.action t.world

-- the pass belongs to this table
abbrev pub IsOwn : {A : Type 0} → (A → Meaning) → TableView A → PassView → Type 0
IsOwn meaning t p = IsPassOf (fixed_in meaning t) (length t.rooms) t.table p

-- what comes next of a pass of this table
abbrev pub next_in : {A : Type 0} → (A → Meaning) → TableView A → PassView → Option Next
next_in meaning t p = next_of_pass (fixed_in meaning t) p

-- a pass of this table after what comes next, where this word was found
abbrev pub after_in : {A : Type 0} → (A → Meaning) → TableView A → ℕ → PassView → PassView
after_in meaning t found p = pass_after (fixed_in meaning t) (the_next (next_in meaning t p)) found p

-- the node that is taken next
abbrev pub node_taken_next : Option Next → Option ℕ
node_taken_next None = None
node_taken_next (Some next) = node_taken next

-- the words of who holds a node: its number and, for a leaf, its leaves
pub record IsHolderIn (F : Fixed) (word node number leaves : ℕ) : Type 0 where
  pub is_held : word ≢ 0
  pub is_number : number ≡ (word - 1) % NODE_HOLDERS
  pub are_leaves : leaves ≡ (if is_leaf F node then word / NODE_HOLDERS % 2 ^ TABLE_LEAVES else 0)

-- the hand is that of the pass, which belongs to the table and has a next step, and the word is that of the step
pub record IsReady (F : Fixed) (passes : ℕ) (table : TableId) (p hand : PassView) (word : ℕ) : Type 0 where
  pub own : IsPassOf F passes table p
  pub same_table : hand.table ≡ p.table
  pub same_setting : hand.setting ≡ p.setting
  pub same_number : hand.number ≡ p.number
  pub same_view : hand.view ≡ p.view
  pub same_tally : hand.tally ≡ p.tally
  pub comes : is_some (next_of_pass F p) ≡ true
  pub index : word ≡ index_of p.view (the_next (next_of_pass F p))

-- the word after what comes next of a pass
abbrev pub word_after : Fixed → PassView → ℕ → ℕ
word_after F p found = word_left F p.number p.view (the_next (next_of_pass F p)) found

-- the hand is at its table, and its view is the one after what comes next of the pass
pub record HasGone (F : Fixed) (passes : ℕ) (p : PassView) (found : ℕ) (hand : PassView) : Type 0 where
  pub same_table : hand.table ≡ p.table
  pub same_setting : hand.setting ≡ p.setting
  pub same_number : hand.number ≡ p.number
  pub went : hand.view ≡ view_found F p.view (the_next (next_of_pass F p)) found
  pub tally : hand.tally ≡ (pass_after F (the_next (next_of_pass F p)) found p).tally
  pub small : kind_of (the_next (next_of_pass F p)) ≡ Commit → found + 1 < 2 ^ 64
  pub taken : (node slot : ℕ) (part players plan : List ℕ)
      → the_next (next_of_pass F p) ≡ ReadPlayer node part slot players plan → length part ≡ 5
      → F.takes (record_read slot (part ++ found ∷ [])) ≡ true
  pub counted : the_next (next_of_pass F p) ≡ YieldCount → p.view.seen ≤ found
  pub held : IsFoundHeld F passes p.number (the_next (next_of_pass F p)) found
  pub reached : AreReached F p.view (the_next (next_of_pass F p))
  pub seen : kind_of (the_next (next_of_pass F p)) ≡ Commit → p.view.seen ≤ found
  pub sound_sight : IsSoundSight F passes (sight_of (pass_after F (the_next (next_of_pass F p)) found p))

-- the node that a step gives back
abbrev pub node_given : Next → Option ℕ
node_given (GiveNode node) = Some node
node_given (YieldNode node) = Some node
node_given _ = None

-- the same of what comes next, if anything does
abbrev pub node_given_next : Option Next → Option ℕ
node_given_next None = None
node_given_next (Some next) = node_given next

-- the node whose list word a step loads
abbrev pub list_read : Next → Option ℕ
list_read (ReadList node plan) = Some node
list_read _ = None

-- the same of what comes next, if anything does
abbrev pub list_read_next : Option Next → Option ℕ
list_read_next None = None
list_read_next (Some next) = list_read next

-- the id whose state a step loads
abbrev pub state_read : Next → Option ℕ
state_read (ReadState id ids) = Some id
state_read _ = None

-- the same of what comes next, if anything does
abbrev pub state_read_next : Option Next → Option ℕ
state_read_next None = None
state_read_next (Some next) = state_read next
