-- The moves of an arena on workers, against the plain server's worlds.
use Rattle.std.proofs.Common.{◌≡◌, ℕ, ◌<◌, true, List, [], Option, Some, Vec, Global, sym, ap, ◌∙◌, subst}
use Rattle.std.specs.Prelude.{All}
use Rattle.std.proofs.lemmas.List.Elements.{All-from_recursion, All-weaker}
use Rattle.entity_recs.specs.declared.rec.Rec.{Rec}
use Rattle.entity_recs.specs.declared.effect.Entry.{Entry}
use Rattle.entity_recs.specs.Commands.{Command}
use Rattle.entity_recs.specs.Worlds.{World}
use Rattle.entity_recs.specs.Histories.{Action, Item, run}
use Rattle.move_journal.specs.Logs.{JournalView}
use Rattle.move_journal.specs.ByPlace.{IsByPlace}
use Rattle.move_journal.specs.Merges.{IsRight, HasNumbersApart, history_of}
use Rattle.arena_map.specs.Maps.{MapView, IsMap}
use Rattle.arena_map.specs.Validity.{IsValidWorld}
use Rattle.entity_recs.specs.Actions.{Meaning}
use Rattle.arena_actions.specs.declared.map_action.MapAction.{MapAction}
use Rattle.arena_actions.specs.MapActions.{map_in, meaning_in, IsOfItsMap}
use Rattle.arena_actions.proofs.OfItsMap.{means_its_map}
use Rattle.arena_outcomes.specs.Outcomes.{outcome_on}
use Rattle.arena_outcomes.specs.Takes.{takes}
use Rattle.arena_outcomes.proofs.Lawful.Worlds.{valid_is_taken}
use Rattle.world_tree.specs.Live.{live_in, ids_of}
use Rattle.world_tree.specs.Worlds.{WorldView, IsLinked}
use Rattle.core_steps.specs.Nodes.{has}
use Rattle.plain_server.specs.RecordsById.{world_of, records_in}
use Rattle.plain_server.specs.Moving.{HasLivePlayer}
use Rattle.plain_server.proofs.ById.{records_in-world_of}
use Rattle.plain_server.proofs.Others.{each_live}
use Rattle.plain_server.proofs.Players.{live_record}
use Rattle.move_phase.specs.Running.{HaveRun}
use Rattle.ruled_words.specs.Numbers.{HasSmallNumbers}
use Rattle.ruled_words.specs.Passes.{PassView, TableView}
use Rattle.move_phase.specs.Starting.{StartedView, fixed_of_arena, IsSharedFor, IsSharedForAny, AreStarted}
use Rattle.move_phase.proofs.StartWorlds.{start_world_is, live_is_listed, records_are}
use Rattle.move_phase.proofs.Journals.{history_is_run, journal_right}

-- ---- what is asked

-- the live records of a valid world are taken, where their numbers are small
pub all_taken : (arena : MapView) (records : List (Option Rec)) → IsMap arena → IsValidWorld arena records
    → All (λ (r : Rec). HasSmallNumbers r → takes arena r ≡ true) (live_in records)
all_taken arena records is_map valid =
    let P : Rec → Type 0 = λ r. HasSmallNumbers r → takes arena r ≡ true in
    All-from_recursion P (live_in records) (each_live P records (λ id r at small. valid_is_taken arena records id r is_map valid at small.score small.seq))

-- live players are listed
pub all_listed : (arena : MapView) (records : List (Option Rec)) (commands : List Command) → IsValidWorld arena records → All (HasLivePlayer records) commands
    → All (λ (c : Command). has (ids_of records) c.slot ≡ true) commands
all_listed arena records commands valid live =
    All-weaker (HasLivePlayer records) (λ (c : Command). has (ids_of records) c.slot ≡ true) (λ c player. listed c player) commands live
  where
    listed : (c : Command) → HasLivePlayer records c → has (ids_of records) c.slot ≡ true
    listed c player =
        let found = live_record records c.slot player.live in
        subst (λ (id : ℕ). has (ids_of records) id ≡ true) (valid.each c.slot found.r found.at).own_id
        (live_is_listed records c.slot found.r found.at)

-- ---- where there are no moves

pub none_moved : (arena : MapView) (records : List (Option Rec)) (commands : List Command) (journal : List Entry) → IsValidWorld arena records
    → journal ≡ [] → records ≡ records_in (run (outcome_on arena) (world_of records) (history_of commands journal)) records
none_moved arena records commands journal valid no_entries =
    sym (records_in-world_of records (λ id r at. (valid.each id r at).own_id))
    ∙ ap (λ (es : List Entry). records_in (run (outcome_on arena) (world_of records) (history_of commands es)) records) (sym no_entries)

-- ---- where there are some

-- what the shared world of started moves is, where there is one
pub shared_of : (world : WorldView) (commands : List Command) (s : StartedView) (table : TableView MapAction) (passes : Vec PassView Global) → s.shared ≡ Some (table, passes) → AreStarted world commands s
    → IsSharedFor s.action s.workers world commands table passes.items
shared_of world commands s table passes is started = subst (IsSharedForAny s.action s.workers world commands) is started.shared_for

-- what was run on it was run in the world and by the workers that the moves were started for
pub ran_as_started : (world new : WorldView) (commands : List Command) (s : StartedView) (table : TableView MapAction) (passes : List PassView) (workers : ℕ) (logs lent : List JournalView)
    → IsSharedFor s.action s.workers world commands table passes → workers ≡ s.workers → lent ≡ logs
    → HaveRun (fixed_of_arena table.action table.world) workers commands logs new → HaveRun (fixed_of_arena s.action world) s.workers commands lent new
ran_as_started world new commands s table passes workers logs lent shared workers_are lent_is ran =
    subst (λ (views : List JournalView). HaveRun (fixed_of_arena s.action world) s.workers commands views new) (sym lent_is)
    (subst (λ (n : ℕ). HaveRun (fixed_of_arena s.action world) n commands logs new) workers_are
    (subst (λ (w : WorldView). HaveRun (fixed_of_arena s.action w) workers commands logs new) shared.world_is
    (subst (λ (a : MapAction). HaveRun (fixed_of_arena a table.world) workers commands logs new) shared.action_is ran)))

-- the live records of a valid world are those that the action of its map takes, where their numbers are small
pub all_taken_by : (action : MapAction) (records : List (Option Rec)) → IsOfItsMap action → IsMap (map_in action) → IsValidWorld (map_in action) records
    → All (λ (r : Rec). HasSmallNumbers r → (meaning_in action).takes r ≡ true) (live_in records)
all_taken_by action records of_its_map is_map valid =
    subst (λ (m : Meaning). All (λ (r : Rec). HasSmallNumbers r → m.takes r ≡ true) (live_in records)) (sym (means_its_map action of_its_map)) (all_taken (map_in action) records is_map valid)

module _ (action : MapAction) (of_its_map : IsOfItsMap action) (old new : WorldView) (workers : ℕ) (commands : List Command) (logs : List JournalView)
    (ran : HaveRun (fixed_of_arena action old) workers commands logs new) (some : 0 < workers) (apart : HasNumbersApart commands)
    (linked_old : IsLinked old) (linked_new : IsLinked new) (journal : List Entry) (by_place : IsByPlace journal logs) where
  abbrev act : Action
  act = (meaning_in action).effect_of

  right_by_it : IsRight act (world_of old.records) commands journal
  right_by_it =
      subst (λ (w : World). IsRight act w commands journal) (start_world_is old.records linked_old.entries)
      (journal_right (fixed_of_arena action old) workers commands logs new ran some apart journal by_place)

  pub arena_right : IsRight (outcome_on (map_in action)) (world_of old.records) commands journal
  arena_right = subst (λ (m : Meaning). IsRight m.effect_of (world_of old.records) commands journal) (means_its_map action of_its_map) right_by_it

  moved_by_it : new.records ≡ records_in (run act (world_of old.records) (history_of commands journal)) old.records
  moved_by_it =
      let start = start_world_is old.records linked_old.entries in
      let history = history_is_run (fixed_of_arena action old) workers commands logs new ran some apart journal by_place in
      records_are act (fixed_of_arena action old).start ran.closed.history old.records new.records linked_old.entries
      linked_new.entries (linked_new.places ∙ sym linked_old.places) start ran.closed.run_is
      ∙ ap (λ (w : World). records_in (run act w ran.closed.history) old.records) start
      ∙ ap (λ (items : List Item). records_in (run act (world_of old.records) items) old.records) (sym history)

  pub arena_moved : new.records ≡ records_in (run (outcome_on (map_in action)) (world_of old.records) (history_of commands journal)) old.records
  arena_moved =
      subst (λ (m : Meaning). new.records ≡ records_in (run m.effect_of (world_of old.records) (history_of commands journal)) old.records) (means_its_map action of_its_map) moved_by_it
