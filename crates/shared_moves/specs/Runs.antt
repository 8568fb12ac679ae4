-- A whole move as straight code: what its hand has in view after each part.
use Rattle.std.specs.Prelude.{◌≡◌, ℕ, suc, ◌+◌, ◌^◌, ◌<◌, ◌≤◌, List, [], ◌∷◌, ◌++◌}
use Rattle.entity_recs.specs.declared.effect.Effect.{Effect}
use Rattle.entity_recs.specs.declared.effect.Entry.{Entry}
use Rattle.entity_recs.specs.Commands.{Command}
use Rattle.core_steps.specs.Nodes.{Fixed, leaf_nodes}
use Rattle.core_steps.specs.Points.{Checking, Resolving}
use Rattle.core_steps.specs.Reads.{Refused, View, effect_loaded, region_in, without_command}
use Rattle.ruled_words.specs.GivingUp.{IsRefusedBy, view_after_giving_up}
use Rattle.ruled_words.specs.Passes.{PassView}
use Rattle.ruled_words.specs.Straight.{in_view_with, taking_leaves, at_point, AreOfCommand, HasMoreInFront, IsTriedOn}
use Rattle.ruled_words.specs.declared.held.Held.{Held}
use Rattle.shared_moves.specs.InHand.{item_of}

-- this is what the command holds, by its own record as it was loaded
abbrev pub AreHeldBy : Fixed → Held → Command → List ℕ → Type 0
AreHeldBy F held c own = AreOfCommand F held c own (leaf_nodes F (region_in F c own))

-- the hand began the command, by its own record as it was loaded, and holds its leaves
pub record HoldsLeavesOf (F : Fixed) (c : Command) (own : List ℕ) (old new : PassView) : Type 0 where
  pub hand : new ≡ in_view_with old (at_point (taking_leaves F c own old.view) Checking new.view) new.tally
  pub begun : new.tally.begun ≡ suc old.tally.begun
  pub listed : HasMoreInFront old.tally.refused new.tally.refused

-- the view after all was read, as this one has it
abbrev pub all_read : View → View → View
all_read view new = record view {
  point = Resolving;
  lists = new.lists;
  others = new.others;
  states = new.states;
  refusals = new.refusals;
  refused = new.refused;
}

-- the hand has read all of its region, and this is the effect
pub record HasReadAll (F : Fixed) (e : Effect) (old new : PassView) : Type 0 where
  pub hand : new ≡ in_view_with old (all_read old.view new.view) new.tally
  pub tried : IsTriedOn old.tally new.tally
  pub effect : e ≡ effect_loaded F new.view

-- the view after the command is done with this entry, as this one has it
abbrev pub done_with : Command → Entry → View → View → View
done_with c e view new = record (without_command view) {
  seen = suc e.place;
  log = view.log ++ item_of c e ∷ [];
  refusals = new.refusals;
  refused = new.refused;
}

-- the hand ran the command with this entry, which has its slot and its number, and has none in hand
pub record HasMoved (c : Command) (e : Entry) (old new : PassView) : Type 0 where
  pub hand : new ≡ in_view_with old (done_with c e old.view new.view) new.tally
  pub begun : new.tally.begun ≡ suc old.tally.begun
  pub listed : HasMoreInFront old.tally.refused new.tally.refused
  pub slot : e.slot ≡ c.slot
  pub seq : e.seq ≡ c.seq
  pub place : old.view.seen ≤ e.place
  pub small : e.place + 1 < 2 ^ 64

-- the hand began the command and gave it up, since this take was refused by the pass with this number, which has these
-- leaves: it is the last refused one and is listed, one more is counted, and no smaller count was seen
pub record HasLeft (F : Fixed) (passes : ℕ) (c : Command) (old new : PassView) : Type 0 where
  pub r : Refused
  pub holder : ℕ
  pub leaves : ℕ
  pub fault : IsRefusedBy F passes old.number c r holder leaves
  pub seen : old.view.seen ≤ new.view.seen
  pub hand : new ≡ in_view_with old (view_after_giving_up r new.view.seen old.view) new.tally
  pub begun : new.tally.begun ≡ suc old.tally.begun
  pub listed : new.tally.refused ≡ record { node = r.node; word = r.word } ∷ old.tally.refused

-- the hand began the command and has it in hand: nothing is logged, and no take was refused
pub record HasInHand (c : Command) (old now : PassView) : Type 0 where
  pub hand : now ≡ in_view_with old now.view now.tally
  pub rest : without_command now.view ≡ without_command old.view
  pub cmd : now.view.cmd ≡ c
  pub begun : now.tally.begun ≡ suc old.tally.begun
  pub listed : now.tally.refused ≡ old.tally.refused
