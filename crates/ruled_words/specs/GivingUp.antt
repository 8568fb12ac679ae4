-- A take that was refused, and a command that is given up for it.
use Rattle.std.specs.Prelude.{◌≡◌, ◌≢◌, ◌≤◌, ℕ, ◌+◌, ◌-◌, ◌^◌, min, Bool, true, false, ◌∷◌, Some}
use Rattle.entity_recs.specs.Commands.{Command}
use Rattle.core_steps.specs.Nodes.{Fixed, has, is_leaf, leaf_nodes, inner_visited}
use Rattle.core_steps.specs.Reads.{Refused, View, region_in, without_command}
use Rattle.core_steps.specs.Steps.{view_after_refusal}
use Rattle.ruled_words.specs.Sights.{Tally}
use Rattle.ruled_words.specs.Passes.{PassView, IsHolderIn}
use Rattle.ruled_words.specs.Holders.{IsHeldByOther, IsOtherHolder, IsReached}
use Rattle.ruled_words.specs.Straight.{in_view_with}

-- no take was refused: neither the pass's count of refused takes nor its last one has changed, and none is listed more
pub record NoTakeWasRefused (old new : PassView) : Type 0 where
  pub refusals : new.view.refusals ≡ old.view.refusals
  pub refused : new.view.refused ≡ old.view.refused
  pub listed : new.tally.refused ≡ old.tally.refused

-- the tally with one more refused take, of this node, where this word was found
abbrev pub tally_refused : ℕ → ℕ → Tally → Tally
tally_refused node word tally = record tally { refused = record { node = node; word = word } ∷ tally.refused }

-- the take of this node was refused: another pass holds the node, which is one that the command reaches; the refused
-- take is the last one, one more is counted, and it is listed
pub record WasRefused (F : Fixed) (passes node : ℕ) (old new : PassView) : Type 0 where
  pub word : ℕ
  pub busy : word ≢ 0
  pub held : IsHeldByOther F passes old.number node word
  pub reached : IsReached F old.view node
  pub hand : new ≡ in_view_with old (view_after_refusal node word old.view) (tally_refused node word old.tally)

-- the refused take, by a pass with this number: another pass with that number held the node, by the word that was
-- found; the leaves wanted are those of the command by the own record as loaded, and the node is one of them or an
-- inner node that they visit
pub record IsRefusedBy (F : Fixed) (passes own : ℕ) (c : Command) (r : Refused) (number leaves : ℕ) : Type 0 where
  pub held : IsHolderIn F r.word r.node number leaves
  pub other : IsOtherHolder F passes own r.node r.word number leaves
  pub wanted : r.wanted ≡ leaf_nodes F (region_in F c r.own)
  pub is_wanted : is_leaf F r.node ≡ true → has r.wanted r.node ≡ true
  pub is_visited : is_leaf F r.node ≡ false → has (inner_visited F (region_in F c r.own)) r.node ≡ true

-- ---- giving up

-- the pass, where giving up begins with its next step or doesn't
abbrev pub quitting_pass : PassView → Bool → PassView
quitting_pass p quits = record p { quits = quits }

-- the view without its command, where this count was seen
abbrev pub view_given_up : ℕ → View → View
view_given_up seen view = record (without_command view) { seen = seen }

-- the same, where this was the last refused take, and one more is counted
abbrev pub view_after_giving_up : Refused → ℕ → View → View
view_after_giving_up r seen view = record (view_given_up seen view) {
  refusals = min (view.refusals + 1) (2 ^ 64 - 1);
  refused = Some r;
}

-- the command is no longer in hand, and no node is held, since this take was refused by the pass with this number, which
-- has these leaves: it is the last one and is listed, one more is counted, and the count seen isn't below the old one
pub record HasGivenUp (F : Fixed) (passes : ℕ) (old new : PassView) : Type 0 where
  pub r : Refused
  pub own : r.own ≡ old.view.own
  pub wanted : r.wanted ≡ old.view.wanted
  pub holder : ℕ
  pub leaves : ℕ
  pub fault : IsRefusedBy F passes old.number old.view.cmd r holder leaves
  pub seen : old.view.seen ≤ new.view.seen
  pub hand : new ≡ in_view_with old (view_after_giving_up r new.view.seen old.view) new.tally
  pub begun : new.tally.begun ≡ old.tally.begun
  pub listed : new.tally.refused ≡ record { node = r.node; word = r.word } ∷ old.tally.refused

-- the pass has come from that one with the same command, own record and wanted leaves: nothing is logged, no take was
-- refused, and no command was begun
pub record IsSameCommand (old now : PassView) : Type 0 where
  pub hand : now ≡ in_view_with old now.view now.tally
  pub rest : without_command now.view ≡ without_command old.view
  pub cmd : now.view.cmd ≡ old.view.cmd
  pub own : now.view.own ≡ old.view.own
  pub wanted : now.view.wanted ≡ old.view.wanted
  pub begun : now.tally.begun ≡ old.tally.begun
  pub listed : now.tally.refused ≡ old.tally.refused
