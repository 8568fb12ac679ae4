-- What holds of one view alone in each core that stands.
use Rattle.std.specs.Prelude.{◌≡◌, ◌<◌, true, length, List, ◌∷◌, Some}
use Rattle.entity_recs.specs.declared.effect.Effect.{Effect}
use Rattle.entity_recs.specs.Actions.{HasPlayer, IsCall}
use Rattle.areanode.specs.Trees.{IsTreeDepth}
use Rattle.core_steps.specs.declared.sizes.TheConstants.{TABLE_WORDS}
use Rattle.core_steps.specs.Nodes.{Fixed}
use Rattle.core_steps.specs.Points.{Store, Resolving, stage_of, is_busy, is_open, is_owning, is_whole}
use Rattle.core_steps.specs.Points.{is_settled, is_read_again, stores_owed}
use Rattle.core_steps.specs.Reads.{View}
use Rattle.core_steps.specs.Nodes.{leaf_nodes}
use Rattle.core_steps.specs.Reads.{record_read, region_in, loaded_near}
use Rattle.core_steps.specs.Held.{leaves_held, inner_held}
use Rattle.core_steps.specs.Stands.{IsGiven, IsHolding, IsUnread, IsAt}
use Rattle.core_steps.specs.Machine.{HasNext, ViewFits, index_of_store}

-- what a core that stands says of one view alone
pub record IsSound (F : Fixed) (view : View) : Type 0 where
  pub depth : IsTreeDepth F.tree.depth
  pub own_part : is_owning (stage_of view.point) ≡ true → length view.own < 6
  pub own_whole : is_whole (stage_of view.point) ≡ true → length view.own ≡ 6
  pub again_whole : is_read_again (stage_of view.point) ≡ true → length view.again ≡ 6
  pub room : is_open (stage_of view.point) ≡ true → length view.log < view.room
  pub hand : is_busy (stage_of view.point) ≡ true → IsGiven F view.cmd
  pub whole : is_whole (stage_of view.point) ≡ true → view.wanted ≡ leaf_nodes F (region_in F view.cmd view.own)
  pub holding : IsHolding F view.wanted (leaves_held view.point view.wanted) (inner_held F view.point)
  pub unread : IsUnread (stage_of view.point) view.own view.again view.lists view.others view.states view.effect
  pub at : IsAt F view.cmd view.own view.wanted view.again view.lists view.others view.states view.effect view.point
  pub next : HasNext view.point view.wanted
  pub fits : ViewFits F view
  pub owed : (store : Store) (stores : List Store) → stores_owed view.point ≡ store ∷ stores
      → index_of_store store < TABLE_WORDS
  pub region : is_open (stage_of view.point) ≡ true → is_whole (stage_of view.point) ≡ true
      → HasPlayer F.takes (record_read view.cmd.slot view.own) view.cmd
  pub effect : view.point ≡ Resolving
      → IsCall F.takes (record_read view.cmd.slot view.again) (loaded_near F view) view.cmd
  pub taken_again : is_settled (stage_of view.point) ≡ true → is_read_again (stage_of view.point) ≡ true
      → HasPlayer F.takes (record_read view.cmd.slot view.again) view.cmd
  pub taken_after : is_settled (stage_of view.point) ≡ true → (e : Effect) → view.effect ≡ Some e
      → F.takes e.me ≡ true
