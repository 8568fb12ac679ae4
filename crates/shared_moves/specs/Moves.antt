-- What a move leaves of its pass, and why it wasn't run.
use Rattle.std.specs.Prelude.{◌≡◌, ℕ, ◌+◌, ◌-◌, ◌^◌, ◌<◌, ◌≤◌, min, true, [], ◌∷◌, ◌++◌, length, Some}
use Rattle.atomic_table.specs.Seated.{TableId}
use Rattle.entity_recs.specs.declared.effect.Entry.{Entry}
use Rattle.entity_recs.specs.Commands.{Command}
use Rattle.areanode.specs.Words.{has_bit}
use Rattle.areanode.specs.Trees.{leaf_node}
use Rattle.core_steps.specs.Nodes.{Fixed, has, inner_nodes, leaf_nodes, inner_visited}
use Rattle.core_steps.specs.Reads.{Refused, region_in}
use Rattle.ruled_words.specs.Passes.{PassView, IsPassOf, IsHolderIn}
use Rattle.ruled_words.specs.Holders.{IsOtherHolder}
use Rattle.ruled_words.specs.Straight.{HasMoreInFront}
use Rattle.shared_moves.specs.Closing.{HasNoCommand}
use Rattle.shared_moves.specs.InHand.{commands_given, item_of}
use Rattle.shared_moves.specs.declared.again.Again.{Again}
use Rattle.shared_moves.specs.declared.again.Again.TheVariants.{Held, Busy}

-- the command was run with this entry, which has its slot and its number: the pass's log is the old one and the command
-- with its entry; the entry's place isn't below the count that the pass had seen, and it has now seen the place plus 1; it
-- was given one command and has none in hand; the refused takes that were listed before are listed still, with more in
-- front of them, and the pass's count, which stays at the most that 64 bits say, has risen by as many as these are
pub record HasRun (F : Fixed) (passes : ℕ) (table : TableId) (old new : PassView) (c : Command) (e : Entry) : Type 0
  where
    pub own : IsPassOf F passes table new
    pub rests : HasNoCommand new
    pub number : new.number ≡ old.number
    pub room : new.view.room ≡ old.view.room
    pub log : new.view.log ≡ old.view.log ++ item_of c e ∷ []
    pub slot : e.slot ≡ c.slot
    pub seq : e.seq ≡ c.seq
    pub place : old.view.seen ≤ e.place
    pub seen : new.view.seen ≡ e.place + 1
    pub given : commands_given new ≡ commands_given old + 1
    pub listed : HasMoreInFront old.tally.refused new.tally.refused
    pub counted : new.view.refusals ≡ min (old.view.refusals + length listed.more) (2 ^ 64 - 1)

-- the command was run so with some entry, which the log of the pass ends with
pub record HasRunIntoLog (F : Fixed) (passes : ℕ) (table : TableId) (old new : PassView) (c : Command) : Type 0 where
  pub entry : Entry
  pub run : HasRun F passes table old new c entry

-- the refused take was of a leaf that the command wants, by the own record as loaded, and its word names the holder,
-- which isn't this pass, with its leaves, which have that leaf
pub record IsLeafHeld (F : Fixed) (passes own : ℕ) (c : Command) (r : Refused) (leaf holder leaves : ℕ) : Type 0 where
  pub node : r.node ≡ leaf_node F.tree.depth leaf
  pub leaves_wanted : r.wanted ≡ leaf_nodes F (region_in F c r.own)
  pub wanted : has r.wanted r.node ≡ true
  pub named : IsHolderIn F r.word r.node holder leaves
  pub other : IsOtherHolder F passes own r.node r.word holder leaves
  pub has_leaf : has_bit leaves leaf ≡ true

-- the refused take was of an inner node that the command's leaves visit, by the own record as loaded, and its word
-- names the holder, which isn't this pass
pub record IsNodeBusy (F : Fixed) (passes own : ℕ) (c : Command) (r : Refused) (node holder : ℕ) : Type 0 where
  pub is_node : r.node ≡ node
  pub below : node < inner_nodes F
  pub leaves_wanted : r.wanted ≡ leaf_nodes F (region_in F c r.own)
  pub visited : has (inner_visited F (region_in F c r.own)) node ≡ true
  pub named : IsHolderIn F r.word node holder 0
  pub other : IsOtherHolder F passes own node r.word holder 0

-- the refused take is the cause of the answer
abbrev pub IsCause : Fixed → ℕ → ℕ → Command → Refused → Again → Type 0
IsCause F passes own c r (Held leaf holder leaves) = IsLeafHeld F passes own c r leaf holder leaves
IsCause F passes own c r (Busy node holder) = IsNodeBusy F passes own c r node holder

-- the command wasn't run, for this cause, which the pass keeps as its last refused take: nothing is committed, the pass
-- holds no node, was given one command and has none in hand, and it hasn't seen a smaller count than before; one take was
-- refused, and it is listed
pub record WasNotRun (F : Fixed) (passes : ℕ) (table : TableId) (old new : PassView) (c : Command) (a : Again) : Type 0
  where
    pub own : IsPassOf F passes table new
    pub rests : HasNoCommand new
    pub number : new.number ≡ old.number
    pub room : new.view.room ≡ old.view.room
    pub log : new.view.log ≡ old.view.log
    pub seen : old.view.seen ≤ new.view.seen
    pub given : commands_given new ≡ commands_given old + 1
    pub counted : new.view.refusals ≡ min (old.view.refusals + 1) (2 ^ 64 - 1)
    pub r : Refused
    pub kept : new.view.refused ≡ Some r
    pub listed : new.tally.refused ≡ record { node = r.node; word = r.word } ∷ old.tally.refused
    pub fault : IsCause F passes new.number c r a
