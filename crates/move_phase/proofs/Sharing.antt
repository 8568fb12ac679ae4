-- What new passes may serve, and what all have done once they have served their shares.
use Rattle.std.proofs.Common.{◌≡◌, ℕ, ◌+◌, ◌<◌, List, [], ◌∷◌, ◌++◌, length, map, slice_index_or, take, Vec, Global, Result, Ok, Err, IfOk, refl, sym, ap, ◌∙◌, subst, arith}
use Rattle.std.specs.Prelude.{All}
use Rattle.std.specs.List.{range_with_len}
use Rattle.std.proofs.lemmas.List.{length-map, get_or-map, ext_get_or}
use Rattle.std.proofs.lemmas.List.FromFn.{length-range_with_len, get_or-range_with_len}
use Rattle.atomic_table.specs.Seated.{TableId}
use Rattle.entity_recs.specs.Actions.{Meaning}
use Rattle.entity_recs.specs.Commands.{Command}
use Rattle.entity_recs.specs.Histories.{Item, commands_of}
use Rattle.move_journal.specs.Logs.{JournalView}
use Rattle.world_tree.specs.Worlds.{WorldView}
use Rattle.core_steps.specs.Nodes.{Fixed}
use Rattle.ruled_words.specs.Starts.{fixed_by}
use Rattle.ruled_words.specs.Passes.{PassView, TableView, IsPassOf, fixed_in, setting_of}
use Rattle.ruled_words.specs.NewPasses.{new_passes, first_pass}
use Rattle.shared_moves.specs.Closing.{HasNoCommand, IsClosed, log_from}
use Rattle.move_phase.specs.Serving.{served_by, entries_from}
use Rattle.move_phase.specs.Running.{AreOfLive, HasServed, HaveRoom, HaveRun}
use Rattle.move_phase.specs.Sharing.{IsReadyFor}
use Rattle.move_phase.specs.Starting.{fixed_of_arena}
use Rattle.move_phase.specs.Turns.{MayServeOn, HasServedOn}
use Rattle.crew.specs.Rounds.{ChangesEach}
use Rattle.arena_actions.specs.declared.map_action.MapAction.{MapAction}
use Rattle.move_phase.proofs.NewPasses.{IsNew, new_at, new_count, rooms_are, may_serve}

-- what doesn't change of a table is what its action and its world give
pub fixed_is : {A : Type 0} (meaning : A → Meaning)
    (t : TableView A) (action : A) (world : WorldView) → t.action ≡ action → t.world ≡ world
    → fixed_in meaning t ≡ fixed_by meaning action world
fixed_is meaning t action world of_action of_world = λ i. fixed_by meaning (of_action i) (of_world i)

-- the entries of the logs are those of the passes' items
entries_same : (passes : List PassView) → map (λ (view : JournalView). view.entries) (map log_from passes) ≡ map entries_from (map (λ (p : PassView). p.view.log) passes)
entries_same [] = refl
entries_same (p ∷ passes) = ap (λ (es : List (List _)). entries_from p.view.log ∷ es) (entries_same passes)

-- passes of a new table, and what each has served since
pub record AreServed (F : Fixed) (table : TableId) (commands : List Command) (rooms : List ℕ) (old new : List PassView) : Type 0 where
  pub begun : old ≡ new_passes table (setting_of F) rooms
  pub some : 0 < length rooms
  pub count : length new ≡ length old
  pub each : (i : ℕ) (d : PassView) → i < length old
      → HasServed F (length rooms) table (slice_index_or old i d) (slice_index_or new i d) (served_by (length rooms) (slice_index_or old i d).number commands)

from_zero : (i : ℕ) → 0 + i ≡ i
from_zero i = omega arith

module _ (F : Fixed) (table : TableId) (commands : List Command) (rooms : List ℕ) (old new : List PassView) (are : AreServed F table commands rooms old new) where
  pub as_many : length new ≡ length rooms
  as_many = are.count ∙ ap length are.begun ∙ new_count table (setting_of F) rooms are.some

  inside_old : (i : ℕ) → i < length rooms → i < length old
  inside_old i within = omega (arith, within, as_many, are.count)

  was_new : (i : ℕ) (d : PassView) → i < length rooms → IsNew rooms i (slice_index_or old i d)
  was_new i d within = subst (λ (ps : List PassView). IsNew rooms i (slice_index_or ps i d)) (sym are.begun) (new_at table (setting_of F) rooms i d within)

  inside : (i : ℕ) → i < length new → i < length rooms
  inside i within = omega (arith, within, as_many)

  -- each has its number
  number_at : (i : ℕ) (d : PassView) → i < length rooms → (slice_index_or new i d).number ≡ i
  number_at i d within = (are.each i d (inside_old i within)).number ∙ (was_new i d within).number

  pub numbers_rise : map (λ (p : PassView). p.number) new ≡ range_with_len 0 (length rooms)
  numbers_rise =
      ext_get_or 0 (map (λ (p : PassView). p.number) new) (range_with_len 0 (length rooms))
      (length-map new (λ (p : PassView). p.number) ∙ as_many ∙ sym (length-range_with_len 0 (length rooms)))
      (λ i within.
      let first = first_pass table (setting_of F) rooms in
      let within_new : i < length new = omega (arith, within, length-map new (λ (p : PassView). p.number)) in
      get_or-map (λ (p : PassView). p.number) new i first 0 within_new
      ∙ number_at i first (inside i within_new)
      ∙ sym (get_or-range_with_len 0 (length rooms) i 0 (inside i within_new) ∙ from_zero i))

  -- all belong to the table still, and have no command in hand
  pub all_own : All (IsPassOf F (length rooms) table) new
  all_own i d within = let c = are.count in (are.each i d (omega (arith, c, within))).own

  pub all_rest : All HasNoCommand new
  all_rest i d within = let c = are.count in (are.each i d (omega (arith, c, within))).rests

  -- each log has the commands of its pass
  log_at : (i : ℕ) (d : PassView) → i < length rooms → commands_of (slice_index_or new i d).view.log ≡ served_by (length rooms) i commands
  log_at i d within =
      let was = was_new i d within in
      (are.each i d (inside_old i within)).log
      ∙ ap (λ (items : List Item). commands_of items ++ served_by (length rooms) (slice_index_or old i d).number commands) was.empty
      ∙ ap (λ (k : ℕ). served_by (length rooms) k commands) was.number

  -- so the commands were run, once the table is closed
  pub have_run : (world : WorldView) → IsClosed F (map (λ (p : PassView). p.view.log) new) world → HaveRun F (length rooms) commands (map log_from new) world
  have_run world closed = record {
    logs = map (λ (p : PassView). p.view.log) new;
    views_are = entries_same new;
    count = length-map new (λ (p : PassView). p.view.log) ∙ as_many;
    served = λ i d within.
        let first = first_pass table (setting_of F) rooms in
        let within_new : i < length new = omega (arith, within, as_many) in
        ap commands_of (get_or-map (λ (p : PassView). p.view.log) new i first d within_new) ∙ log_at i first within;
    closed = closed;
  }

-- the passes of a new table may serve their shares
pub all_may_serve : (table : TableView MapAction) (workers : ℕ) (commands : List Command) (passes : List PassView) → 0 < workers
    → IsReadyFor (fixed_of_arena table.action table.world) workers commands table.table table.rooms passes → All (MayServeOn workers commands table) passes
all_may_serve table workers commands passes some ready i d within =
    let c = ready.count in
    record {
      workers_are = sym ready.count;
      some = some;
      may = may_serve (fixed_of_arena table.action table.world) table.table commands table.rooms passes ready.begun (omega (arith, c, some)) ready.own ready.room i d within;
      live = ready.live;
    }

-- there are as many as workers
pub ready_count : (F : Fixed) (table : TableId) (workers : ℕ) (commands : List Command) (rooms : List ℕ) (passes : List PassView) → 0 < workers
    → IsReadyFor F workers commands table rooms passes → length passes ≡ workers
ready_count F table workers commands rooms passes some ready =
    let c = ready.count in
    ap length ready.begun ∙ new_count table (setting_of F) rooms (omega (arith, c, some)) ∙ ready.count

-- they have served them
pub are_served : (table : TableView MapAction) (workers : ℕ) (commands : List Command) (old new : List PassView) → 0 < workers
    → IsReadyFor (fixed_of_arena table.action table.world) workers commands table.table table.rooms old → ChangesEach (HasServedOn commands table) old new
    → AreServed (fixed_of_arena table.action table.world) table.table commands table.rooms old new
are_served table workers commands old new some ready served =
    let c = ready.count in
    record { begun = ready.begun; some = omega (arith, c, some); count = served.count; each = served.each }

-- what a new table and its passes are ready for
pub ready_for : (F : Fixed) (table : TableId) (workers k : ℕ) (commands : List Command) (all rooms : List ℕ) (passes : List PassView) → k ≡ workers → HaveRoom workers commands all → rooms ≡ take k all
    → passes ≡ new_passes table (setting_of F) (take k all) → All (IsPassOf F (length rooms) table) passes → AreOfLive F commands → IsReadyFor F workers commands table rooms passes
ready_for F table workers k commands all rooms passes k_is room rooms_is begun own live =
    let are = rooms_are workers k commands all rooms k_is room rooms_is in
    record { count = are.count; room = are.room; begun = begun ∙ ap (new_passes table (setting_of F)) (sym rooms_is); own = own; live = live }

-- so they are, where the memory for them was taken
pub ready_if_taken : {A E : Type 0} (meaning : A → Meaning) (action : A) (world : WorldView)
    (workers k : ℕ) (commands : List Command) (all : List ℕ) (r : Result (TableView A × Vec PassView Global) E) → k ≡ workers → HaveRoom workers commands all
    → AreOfLive (fixed_by meaning action world) commands
    → IfOk r (λ s. (s.0.action ≡ action) × (s.0.world ≡ world) × (s.0.rooms ≡ take k all))
    → IfOk r (λ s. s.1.items ≡ new_passes s.0.table (setting_of (fixed_in meaning s.0)) (take k all))
    → IfOk r (λ s. All (IsPassOf (fixed_in meaning s.0) (length s.0.rooms) s.0.table) s.1.items)
    → IfOk r (λ s. IsReadyFor (fixed_in meaning s.0) workers commands s.0.table s.0.rooms s.1.items)
ready_if_taken meaning action world workers k commands all (Ok s) k_is room live shared begun own =
    let same = fixed_is meaning s.0 action world shared.0 shared.1 in
    ready_for (fixed_in meaning s.0) s.0.table workers k commands all s.0.rooms s.1.items k_is room shared.2 begun own
    (subst (λ (F : Fixed). AreOfLive F commands) (sym same) live)
ready_if_taken meaning action world workers k commands all (Err e) k_is room live shared begun own = tt
