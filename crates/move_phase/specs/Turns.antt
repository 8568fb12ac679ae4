-- The turns of a crew that runs the moves of a frame: each has a pass, which serves its share of them.
use Rattle.std.specs.Prelude.{◌≡◌, ℕ, ◌-◌, ◌<◌, List, length, map, slice_index_or, IfSome, IsSome, IsSomeAnd}
use Rattle.std.specs.Arc.{arc_value}
use Rattle.entity_recs.specs.Commands.{Command, command_of}
use Rattle.arena_actions.specs.declared.map_action.MapAction.{MapAction}
use Rattle.ruled_words.specs.Passes.{PassView, TableView}
use Rattle.move_phase.specs.Serving.{served_by}
use Rattle.move_phase.specs.Running.{AreOfLive, MayServe, HasServed}
use Rattle.move_phase.specs.Starting.{fixed_of_arena}
use Rattle.move_phase.specs.declared.frame_moves.FrameMoves.{FrameMoves}
use Rattle.move_phase.specs.declared.turn.Work.{Work}
use Rattle.move_phase.specs.declared.turn.Turn.{Turn}

-- the second list has an item for each of the first one, which is related to it, in the other order
pub record AreReversed {A B : Type 0} (related : A → B → Type 0) (xs : List A) (ys : List B) : Type 0 where
  pub count : length ys ≡ length xs
  pub each : (i : ℕ) (d : A) (e : B) → i < length xs
      → related (slice_index_or xs (length xs - 1 - i) d) (slice_index_or ys i e)

-- the commands of a frame
abbrev pub commands_in : FrameMoves → List Command
commands_in frame = map command_of frame.moves.items

-- the pass may serve its share of the commands on this table, which has so many passes
pub record MayServeOn (workers : ℕ) (commands : List Command) (table : TableView MapAction) (p : PassView) : Type 0 where
  pub workers_are : workers ≡ length table.rooms
  pub some : 0 < workers
  pub may : MayServe (fixed_of_arena table.action table.world) (length table.rooms) table.table commands p
  pub live : AreOfLive (fixed_of_arena table.action table.world) commands

-- the pass has served its share of the commands on this table
abbrev pub HasServedOn : List Command → TableView MapAction → PassView → PassView → Type 0
HasServedOn commands table old new =
    HasServed (fixed_of_arena table.action table.world) (length table.rooms) table.table old new
    (served_by (length table.rooms) old.number commands)

-- a pass may serve its share of a frame that is there
abbrev pub MayWork : Work → Type 0
MayWork work =
    IsSomeAnd (arc_value work.frame).shared
    (λ table. MayServeOn (arc_value work.frame).workers (commands_in (arc_value work.frame)) table work.pass)

-- a pass has served its share of the frame
abbrev pub HasWorked : Work → Work → Type 0
HasWorked old new =
    IfSome (arc_value old.frame).shared
    (λ table. HasServedOn (commands_in (arc_value old.frame)) table old.pass new.pass)

module _ {G : Type 0} where
  -- what may be run, and what it comes to
  abbrev pub MayRun : Turn G → Type 0
  MayRun turn = IfSome turn.work MayWork

  abbrev pub HasRun : Turn G → Turn G → Type 0
  HasRun old new = IfSome old.work (λ work. IsSomeAnd new.work (HasWorked work))

  -- the turn has this pass
  abbrev pub HasPass : Turn G → PassView → Type 0
  HasPass turn p = IsSomeAnd turn.work (λ work. work.pass ≡ p)

  -- the turn has a pass
  abbrev pub HasSomePass : Turn G → Type 0
  HasSomePass turn = IsSome turn.work

  -- the turn has this pass, of this frame
  abbrev pub IsTurnOf : FrameMoves → PassView → Turn G → Type 0
  IsTurnOf frame p turn = IsSomeAnd turn.work (λ work. (arc_value work.frame ≡ frame) × (work.pass ≡ p))
