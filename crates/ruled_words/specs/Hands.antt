-- How a pass is held: its seat at the table, its hand.
use Rattle.std.specs.Prelude.{◌≡◌, ℕ, suc, Bool, false, [], length, Option, Some, None}
use Rattle.areanode.specs.Trees.{IsTreeDepth}
use Rattle.atomic_table.specs.Seated.{TableId}
use Rattle.atomic_table.specs.declared.shared.Seat as places
use Rattle.entity_recs.specs.Actions.{Meaning}
use Rattle.entity_recs.specs.declared.effect.Effect.{Effect}
use Rattle.entity_recs.specs.Commands.{Command}
use Rattle.core_steps.specs.Nodes.{Fixed}
use Rattle.core_steps.specs.Steps.{view_after_begin}
use Rattle.ruled_words.specs.Sights.{SightView}
use Rattle.ruled_words.specs.declared.setting.Setting.{Setting}
use Rattle.ruled_words.specs.Passes.{PassView, TableView, IsPassOf, effect_kept, fixed_in}

-- the pass of this place at the table, of which its passes know this, with this number, that was given nothing, isn't to
-- give up and keeps no effect
abbrev pub hand_view : places.Seat (Unit {0}) SightView → Setting → ℕ → PassView
hand_view place setting number = record {
  table = place.table_id;
  setting = setting;
  number = number;
  given = None;
  quits = false;
  effect = None;
  view = place.me.0.view;
  tally = place.me.0.tally;
}

-- the place has the pass's number and carries nothing, and a tree may have the depth
pub record IsAtPlace (place : places.Seat (Unit {0}) SightView) (setting : Setting) (number : ℕ) : Type 0 where
  pub may_have : IsTreeDepth setting.depth
  pub has_number : place.me.0.number ≡ number
  pub carries : place.me.1 ≡ []

-- the pass was given nothing, isn't to give up and keeps no effect
pub record IsPlain (p : PassView) : Type 0 where
  pub given : p.given ≡ None
  pub quits : p.quits ≡ false
  pub effect : p.effect ≡ None

-- the hand is that of a pass that belongs to the table, and is plain
pub record IsHandOf (F : Fixed) (passes : ℕ) (table : TableId) (hand : PassView) : Type 0 where
  pub pass : IsPassOf F passes table hand
  pub plain : IsPlain hand

-- the same of this table
abbrev pub IsOwnHand : {A : Type 0} → (A → Meaning) → TableView A → PassView → Type 0
IsOwnHand meaning t hand = IsHandOf (fixed_in meaning t) (length t.rooms) t.table hand

-- the pass of this hand, with nothing given
abbrev pub plain_pass : PassView → PassView
plain_pass hand = record hand { given = None; quits = false; effect = None }

-- the pass with this command, which isn't begun
abbrev pub given_to : PassView → Command → PassView
given_to p c = record p { given = Some c }

-- the pass with this effect, which it keeps
abbrev pub pass_keeping : PassView → Effect → PassView
pass_keeping p e = record p { effect = Some e }

-- the same where all is still read and no write node is taken
abbrev pub still_keeping : PassView → Effect → PassView
still_keeping p e = record p { effect = effect_kept p.view (Some e) }

-- the pass after it began this command, where this was the first word of the own record
abbrev pub begun_with : Command → ℕ → PassView → PassView
begun_with c word p = record p {
  view = view_after_begin c word p.view;
  tally = record p.tally { begun = suc p.tally.begun };
}

-- the pass of this hand, where this command was given and isn't begun, it is to give up or not, and this effect is kept
abbrev pub pass_beside : PassView → Option Command → Bool → Option Effect → PassView
pass_beside hand given quits effect = record hand { given = given; quits = quits; effect = effect }
