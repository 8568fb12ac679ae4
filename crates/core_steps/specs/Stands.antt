-- What holds of the core between any two steps.
use Rattle.std.specs.Prelude.{ℕ, zero, suc, ◌≡◌, ◌<◌, ◌≤◌, ◌==◌, nat_lt, Bool, true, false, ◌&&◌, ◌||◌, if◌then◌else◌}
use Rattle.std.specs.Prelude.{List, [], ◌∷◌, ◌++◌, length, map, All, Option, Some, None, is_some}
use Rattle.std.specs.List.{list_any, IsDistinct}
use Rattle.std.specs.List.Sorted.{IsStrictlyIncreasing, IsPermutation}
use Rattle.arena_geo.specs.Bounds.{Bounds}
use Rattle.arena_geo.specs.Regions.{touches_region}
use Rattle.entity_recs.specs.declared.rec.Rec.{Rec}
use Rattle.entity_recs.specs.declared.effect.NewState.{NewState}
use Rattle.entity_recs.specs.declared.effect.Effect.{Effect}
use Rattle.entity_recs.specs.Bodies.{abs_of}
use Rattle.entity_recs.specs.Commands.{Command}
use Rattle.entity_recs.specs.Worlds.{World}
use Rattle.entity_recs.specs.Histories.{Item, outcome, run, IsLegal}
use Rattle.entity_recs.specs.Actions.{IsCommand, HasValidity, HasLocality, HasFootprint}
use Rattle.areanode.specs.Words.{has_bit, word_of}
use Rattle.core_steps.specs.Cells.{Words, Cell, Body, State, is_cell, word_in, cell_of}
use Rattle.core_steps.specs.Encoding.{words_of, nth_word}
use Rattle.core_steps.specs.Nodes.{Fixed}
use Rattle.core_steps.specs.Points.{Store, Clear, Put, Link, Point, Idle, Owning, Taking, Checking, Entering}
use Rattle.core_steps.specs.Points.{Entered, Loading, Leaving, Sensing, Resolving, Claiming, Storing, Releasing}
use Rattle.core_steps.specs.Points.{Returning, Yielding, Stage, AtClaiming, stage_of, is_busy, is_open, is_settled}
use Rattle.core_steps.specs.Points.{is_committed}
use Rattle.core_steps.specs.Points.{is_before_leaves, is_whole, is_owning, is_read_again, is_without_effect, is_storing}
use Rattle.core_steps.specs.Nodes.{has}
use Rattle.core_steps.specs.Reads.{ListRead, PlayerRead, Ended, View, new_view, spent, list_at, player_at}
use Rattle.core_steps.specs.Nodes.{nodes_of, is_leaf, leaf_nodes, plan_of, home}
use Rattle.core_steps.specs.Reads.{state_at, record_read, region_in, things_in}
use Rattle.core_steps.specs.Nodes.{write_nodes}
use Rattle.core_steps.specs.Points.{stores_of, stores_owed}
use Rattle.core_steps.specs.Held.{leaves_held, inner_held, holds, held_word}
use Rattle.core_steps.specs.Steps.{Core}

-- ---- the world

-- the slot is that of a live player
abbrev pub is_player : Fixed → ℕ → Bool
is_player F slot = nat_lt slot 64 && has F.start.ids slot

-- the word that a world gives a cell
abbrev pub value_in : World → Cell → ℕ
value_in world (Body slot k) = nth_word (words_of (world.record_of slot)) k
value_in world (State id) = (world.record_of id).state

-- the cell is one of a live player's words, or the state word of a live id
abbrev pub is_live_cell : Fixed → Cell → Bool
is_live_cell F (Body slot k) = is_player F slot && nat_lt k 5
is_live_cell F (State id) = has F.start.ids id

-- the word that these stores put into a cell
abbrev pub owed_at : List Store → Cell → Option ℕ
owed_at [] cell = None
owed_at (Clear node ∷ stores) cell = owed_at stores cell
owed_at (Put c x ∷ stores) cell = if is_cell c cell then Some x else owed_at stores cell
owed_at (Link node ∷ stores) cell = owed_at stores cell

-- each word that these stores put is the world's
abbrev pub OwesRight : World → List Store → Type 0
OwesRight now [] = Unit {0}
OwesRight now (Clear node ∷ stores) = OwesRight now stores
OwesRight now (Put cell x ∷ stores) = (x ≡ value_in now cell) × OwesRight now stores
OwesRight now (Link node ∷ stores) = OwesRight now stores

-- the own bit is set at this node, while these stores are owed
abbrev pub is_linked_at : List Store → ℕ → Bool
is_linked_at [] node = false
is_linked_at (Clear old ∷ stores) node = node == old
is_linked_at (Put c x ∷ stores) node = false
is_linked_at (Link new ∷ stores) node = false

-- the record's absolute box touches the region
abbrev pub touches_own : List Bounds → Rec → Bool
touches_own region r = touches_region (abs_of r) region

-- an action under its three laws
pub record IsLawful (F : Fixed) : Type 0 where
  pub validity : HasValidity F.takes F.effect_of
  pub locality : HasLocality F.takes F.region_of F.effect_of
  pub footprint : HasFootprint F.takes F.region_of F.effect_of

-- the world at the start: the ids rise, each record has the id at which it stands, and the action takes it
pub record IsStart (F : Fixed) : Type 0 where
  pub rising : IsStrictlyIncreasing F.start.ids
  pub own : All (λ id. (F.start.record_of id).id ≡ id) F.start.ids
  pub taken : All (λ r. F.takes r ≡ true) (map F.start.record_of F.start.ids)

-- ---- logs and numbers

-- the places of a log rise and are below a count, and the log fits its room
pub record IsLogWithin (count room : ℕ) (log : List Item) : Type 0 where
  pub rising : IsStrictlyIncreasing (map (λ (item : Item). item.entry.place) log)
  pub below : All (λ (item : Item). item.entry.place < count) log
  pub fits : length log ≤ room

-- a seat's log is below the count that it saw, that count is at most the count of commits, and there is room for a
-- command that isn't committed yet
pub record IsCounted (commits seen room : ℕ) (log : List Item) (stage : Stage) : Type 0 where
  pub within : IsLogWithin seen room log
  pub known : seen ≤ commits
  pub has_room : is_open stage ≡ true → length log < room

-- the log of an ended seat with this number
abbrev pub ended_log : List Ended → ℕ → List Item
ended_log [] n = []
ended_log (e ∷ ended) n = if e.number == n then e.log else ended_log ended n

-- a seat with this number was ended
abbrev pub is_ended : List Ended → ℕ → Bool
is_ended ended n = list_any (λ e. e.number == n) ended

-- the log under a number: a seat's, or that of an ended seat
abbrev pub log_of : (ℕ → View) → ℕ → List Item
log_of view n = if (view n).live then (view n).log else ended_log (view 0).ended n

-- the items of the first n of these logs
unfoldable pub items_below : ℕ → (ℕ → List Item) → List Item
items_below zero logs = []
items_below (suc n) logs = items_below n logs ++ logs n

-- the items of all logs
abbrev pub items_of : (ℕ → View) → List Item
items_of view = items_below (view 0).made (log_of view)

-- the numbers of the seats and of the ended seats all differ, and are the numbers below the count of numbers that were
-- given out
pub record IsNumbered (view : ℕ → View) : Type 0 where
  pub first : (view 0).live ≡ true
  pub live : (n : ℕ) → (view n).live ≡ true → n < (view 0).made
  pub ended : (n : ℕ) → is_ended (view 0).ended n ≡ true → n < (view 0).made
  pub differ : (n : ℕ) → (view n).live ≡ true → is_ended (view 0).ended n ≡ false
  pub once : IsDistinct (λ (a b : Ended). a.number == b.number) (view 0).ended
  pub all : (n : ℕ) → n < (view 0).made → ((view n).live || is_ended (view 0).ended n) ≡ true
  pub others : (n : ℕ) → (view n).live ≡ false → view n ≡ spent

-- a command that was given: its numbers are in range, and its player is live
pub record IsGiven (F : Fixed) (c : Command) : Type 0 where
  pub command : IsCommand c
  pub live : has F.start.ids c.slot ≡ true

-- ---- what a seat loaded of its own record

-- what was loaded of the own record is, its state aside, as in the run, and the leaves follow from it
pub record HasOwn (F : Fixed) (now : World) (cmd : Command) (stage : Stage) (own wanted : List ℕ) : Type 0 where
  pub matches : is_open stage ≡ true → (k : ℕ) → k < length own → k < 5
      → nth_word own k ≡ value_in now (Body cmd.slot k)
  pub part : is_owning stage ≡ true → length own < 6
  pub whole : is_whole stage ≡ true → length own ≡ 6
  pub leaves : is_whole stage ≡ true → wanted ≡ leaf_nodes F (region_in F cmd own)
  pub none : is_whole stage ≡ false → wanted ≡ []

-- no number is in the list twice
abbrev pub AreDistinct : List ℕ → Type 0
AreDistinct [] = Unit {0}
AreDistinct (n ∷ ns) = (has ns n ≡ false) × AreDistinct ns

-- the nodes wanted and the leaves held are leaves, the inner nodes held are none, and none is held twice
pub record IsHolding (F : Fixed) (wanted leaves inner : List ℕ) : Type 0 where
  pub wanted_once : AreDistinct wanted
  pub wanted_are_leaves : (node : ℕ) → has wanted node ≡ true → is_leaf F node ≡ true
  pub leaves_once : AreDistinct leaves
  pub leaves_are_leaves : (node : ℕ) → has leaves node ≡ true → is_leaf F node ≡ true
  pub inner_once : AreDistinct inner
  pub inner_are_inner : (node : ℕ) → has inner node ≡ true → is_leaf F node ≡ false

-- nothing is read before all own leaves are held, and no effect is in view before the first take of a write node
pub record IsUnread (stage : Stage) (own again : List ℕ) (lists : List ListRead) (others : List PlayerRead)
    (states : List NewState) (effect : Option Effect) : Type 0 where
  pub no_own : is_busy stage ≡ false → own ≡ []
  pub no_again : is_before_leaves stage ≡ true → again ≡ []
  pub no_lists : is_before_leaves stage ≡ true → lists ≡ []
  pub no_others : is_before_leaves stage ≡ true → others ≡ []
  pub no_states : is_before_leaves stage ≡ true → states ≡ []
  pub no_effect : is_without_effect stage ≡ true → effect ≡ None

-- ---- how far a seat has come

-- some leaves are taken, in the order in which they are wanted, and some are left
pub record IsTaking (got rest wanted : List ℕ) : Type 0 where
  pub all : got ++ rest ≡ wanted
  pub left : 0 < length rest

-- the own record is loaded again in part, and nothing else is read
pub record IsChecking (again : List ℕ) (lists : List ListRead) (others : List PlayerRead) (states : List NewState) :
    Type 0 where
  pub part : length again < 6
  pub no_lists : lists ≡ []
  pub no_others : others ≡ []
  pub no_states : states ≡ []

-- the nodes ahead are planned, the others that are planned were read, and each player of a word that was read is loaded
-- or left
pub record HasRead (F : Fixed) (region : List Bounds) (slot : ℕ) (lists : List ListRead) (others : List PlayerRead)
    (ahead left : List ℕ) : Type 0 where
  pub planned : (node : ℕ) → has ahead node ≡ true → has (plan_of F region) node ≡ true
  pub read : (node : ℕ) → has (plan_of F region) node ≡ true → has ahead node ≡ false
      → is_some (list_at lists node) ≡ true
  pub loaded : (node word p : ℕ) → list_at lists node ≡ Some word → p < 64 → has_bit word p ≡ true
      → (p == slot) ≡ false → has left p ≡ false → is_some (player_at others p) ≡ true
  pub whole : (p : ℕ) (words : List ℕ) → player_at others p ≡ Some words → length words ≡ 6

-- the player may be loaded under the node: it isn't the own one, and its bit is in the word that was read there
pub record IsLoadable (node slot p : ℕ) (lists : List ListRead) : Type 0 where
  pub player : p < 64
  pub other : (p == slot) ≡ false
  pub word : ℕ
  pub read : list_at lists node ≡ Some word
  pub bit : has_bit word p ≡ true

-- players are left to be loaded under the planned node, the first of them in part
pub record IsLoading (F : Fixed) (region : List Bounds) (slot node : ℕ) (part players : List ℕ)
    (lists : List ListRead) : Type 0 where
  pub partly : length part < 6
  pub left : 0 < length players
  pub planned : has (plan_of F region) node ≡ true
  pub each : (p : ℕ) → has players p ≡ true → IsLoadable node slot p lists

-- the states of the things of the region are loaded but for these
pub record HasSensed (F : Fixed) (region : List Bounds) (states : List NewState) (left : List ℕ) : Type 0 where
  pub things : (id : ℕ) → has left id ≡ true → has (things_in F region) id ≡ true
  pub loaded : (id : ℕ) → has (things_in F region) id ≡ true → has left id ≡ false → is_some (state_at states id) ≡ true

-- the effect is in view, and of its write nodes these are taken and those are left
pub record IsClaiming (F : Fixed) (before : Rec) (effect : Option Effect) (got rest : List ℕ) : Type 0 where
  pub e : Effect
  pub is : effect ≡ Some e
  pub nodes : got ++ rest ≡ write_nodes F before e

-- the effect is in view, its write nodes are held, and of its stores these are owed
pub record IsStoring (F : Fixed) (slot : ℕ) (before : Rec) (effect : Option Effect) (nodes : List ℕ)
    (stores : List Store) : Type 0 where
  pub e : Effect
  pub is : effect ≡ Some e
  pub held : nodes ≡ write_nodes F before e
  pub made : List Store
  pub owed : made ++ stores ≡ stores_of F slot (home F before) e
  pub left : 0 < length stores

-- an inner node at which the list was read, or is to be read
pub record IsAtInner (F : Fixed) (region : List Bounds) (slot node : ℕ) (lists : List ListRead)
    (others : List PlayerRead) (ahead : List ℕ) : Type 0 where
  pub read : HasRead F region slot lists others ahead []
  pub planned : has (plan_of F region) node ≡ true
  pub inner : is_leaf F node ≡ false

-- under a node with players to be loaded
pub record IsUnder (F : Fixed) (region : List Bounds) (slot node : ℕ) (part players plan : List ℕ)
    (lists : List ListRead) (others : List PlayerRead) : Type 0 where
  pub read : HasRead F region slot lists others plan players
  pub load : IsLoading F region slot node part players lists

-- all lists are read, and the states of these things are left
pub record IsSensing (F : Fixed) (region : List Bounds) (slot : ℕ) (lists : List ListRead) (others : List PlayerRead)
    (states : List NewState) (left : List ℕ) : Type 0 where
  pub read : HasRead F region slot lists others [] []
  pub sensed : HasSensed F region states left

-- all is read, and write nodes are taken
pub record IsClaimingAfter (F : Fixed) (region : List Bounds) (slot : ℕ) (before : Rec) (lists : List ListRead)
    (others : List PlayerRead) (states : List NewState) (effect : Option Effect) (got rest : List ℕ) : Type 0 where
  pub sensing : IsSensing F region slot lists others states []
  pub claim : IsClaiming F before effect got rest

-- what a point says of the rest of the view
abbrev pub IsAt : Fixed → Command → List ℕ → List ℕ → List ℕ → List ListRead → List PlayerRead → List NewState
    → Option Effect → Point → Type 0
IsAt F cmd own wanted again lists others states effect Idle = Unit {0}
IsAt F cmd own wanted again lists others states effect Owning = Unit {0}
IsAt F cmd own wanted again lists others states effect (Taking got rest) = IsTaking got rest wanted
IsAt F cmd own wanted again lists others states effect Checking = IsChecking again lists others states
IsAt F cmd own wanted again lists others states effect (Entering node plan) = IsAtInner F (region_in F cmd own)
    cmd.slot node lists others (node ∷ plan)
IsAt F cmd own wanted again lists others states effect (Entered node plan) = HasRead F (region_in F cmd own) cmd.slot
    lists others (node ∷ plan) []
IsAt F cmd own wanted again lists others states effect (Loading node part players plan) = IsUnder F
    (region_in F cmd own) cmd.slot node part players plan lists others
IsAt F cmd own wanted again lists others states effect (Leaving node plan) = IsAtInner F (region_in F cmd own)
    cmd.slot node lists others plan
IsAt F cmd own wanted again lists others states effect (Sensing ids) = IsSensing F (region_in F cmd own) cmd.slot
    lists others states ids
IsAt F cmd own wanted again lists others states effect Resolving = IsSensing F (region_in F cmd own) cmd.slot lists
    others states []
IsAt F cmd own wanted again lists others states effect (Claiming got rest) =
    IsClaimingAfter F (region_in F cmd own) cmd.slot (record_read cmd.slot again) lists others states effect got rest
IsAt F cmd own wanted again lists others states effect (Storing nodes stores) = IsStoring F cmd.slot
    (record_read cmd.slot again) effect nodes stores
IsAt F cmd own wanted again lists others states effect (Releasing nodes) = Unit {0}
IsAt F cmd own wanted again lists others states effect (Returning leaves) = Unit {0}
IsAt F cmd own wanted again lists others states effect (Yielding nodes leaves) = Unit {0}

-- ---- what a seat read

-- the node of the present visit, once its list is read
abbrev pub is_present : Point → ℕ → Bool
is_present (Loading n part players plan) node = n == node
is_present (Leaving n plan) node = n == node
is_present _ _ = false

-- the words that were loaded of this player under the present node
abbrev pub part_of : Point → ℕ → List ℕ
part_of Idle p = []
part_of Owning p = []
part_of (Taking got rest) p = []
part_of Checking p = []
part_of (Entering n plan) p = []
part_of (Entered n plan) p = []
part_of (Loading n part [] plan) p = []
part_of (Loading n part (slot ∷ players) plan) p = if slot == p then part else []
part_of (Leaving n plan) p = []
part_of (Sensing ids) p = []
part_of Resolving p = []
part_of (Claiming got rest) p = []
part_of (Storing nodes stores) p = []
part_of (Releasing nodes) p = []
part_of (Returning leaves) p = []
part_of (Yielding nodes leaves) p = []

-- a list word that was read is still the word where the node is held since; the words of the player under load are the
-- player's words
pub record IsCurrent (links : ℕ → ℕ) (body : ℕ → ℕ
    → ℕ) (point : Point) (wanted : List ℕ) (lists : List ListRead) : Type 0 where
  pub same_list : is_settled (stage_of point) ≡ true → (node word : ℕ) → list_at lists node ≡ Some word
      → (has wanted node || is_present point node) ≡ true → links node ≡ word
  pub same_part : (p k : ℕ) → k < length (part_of point p) → k < 5 → body p k ≡ nth_word (part_of point p) k

-- of a seat that holds all its leaves and hasn't committed: what it read and needs is as in the run
pub record IsReadRight (F : Fixed) (now : World) (cmd : Command) (stage : Stage) (own again : List ℕ)
    (lists : List ListRead) (others : List PlayerRead) (states : List NewState) : Type 0 where
  pub same_again : is_settled stage ≡ true → (k : ℕ) → k < length again → k < 6
      → nth_word again k ≡ value_in now (cell_of cmd.slot k)
  pub whole : is_read_again stage ≡ true → length again ≡ 6
  pub same_player : is_settled stage ≡ true → (p : ℕ) (words : List ℕ) → is_player F p ≡ true
      → player_at others p ≡ Some words
      → (touches_own (region_in F cmd own) (record_read p words)
      || touches_own (region_in F cmd own) (now.record_of p)) ≡ true → record_read p words ≡ now.record_of p
  pub same_state : is_settled stage ≡ true → (id state : ℕ) → 64 ≤ id → has F.start.ids id ≡ true
      → state_at states id ≡ Some state
      → touches_own (region_in F cmd own) (now.record_of id) ≡ true → state ≡ (now.record_of id).state
  pub has_its_bit : is_settled stage ≡ true → (p word : ℕ) → is_player F p ≡ true → (p == cmd.slot) ≡ false
      → touches_own (region_in F cmd own) (now.record_of p) ≡ true
      → list_at lists (home F (now.record_of p)) ≡ Some word → has_bit word p ≡ true

-- the effect in the view of a seat that hasn't committed yet is the outcome in the run
pub record IsResolved (F : Fixed) (now : World) (cmd : Command) (stage : Stage) (effect : Option Effect) : Type 0 where
  pub is_outcome : is_settled stage ≡ true → (e : Effect) → effect ≡ Some e → e ≡ outcome F.effect_of now cmd

-- ---- a seat that gives up

-- what a seat has read and needs, and its effect, are as in the run, and the words that were read at its leaves are
-- still their words
pub record IsReadStill (F : Fixed) (links : ℕ → ℕ) (now : World) (cmd : Command) (stage : Stage)
    (own wanted again : List ℕ) (lists : List ListRead) (others : List PlayerRead) (states : List NewState)
    (effect : Option Effect) : Type 0 where
  pub right : IsReadRight F now cmd stage own again lists others states
  pub resolved : IsResolved F now cmd stage effect
  pub same_list : (node word : ℕ) → list_at lists node ≡ Some word → has wanted node ≡ true → links node ≡ word

-- a seat that gives up has no more leaves left than it wanted; while it holds them all, what it has read and needs and
-- its effect are right still, as at the takes of write nodes
pub record IsGivingUp (F : Fixed) (links : ℕ → ℕ) (now : World) (cmd : Command) (point : Point)
    (own wanted again : List ℕ) (lists : List ListRead) (others : List PlayerRead) (states : List NewState)
    (effect : Option Effect) : Type 0 where
  pub few : (nodes leaves : List ℕ) → point ≡ Yielding nodes leaves → length leaves ≤ length wanted
  pub still : (nodes : List ℕ) → point ≡ Yielding nodes wanted
      → IsReadStill F links now cmd AtClaiming own wanted again lists others states effect

-- ---- what a seat committed

-- an item leaves the records of an effect of this player alone: it is not of its slot, and of no player that the effect
-- lists
pub record LeavesAlone (slot : ℕ) (states : List NewState) (item : Item) : Type 0 where
  pub own : (item.command.slot == slot) ≡ false
  pub listed : is_some (state_at states item.command.slot) ≡ false

-- the item that the seat committed last: its effect is the outcome in the run before it, the own record as loaded again
-- is the actor's before it, and no item after it writes what it wrote
pub record IsLastItem (F : Fixed) (history : List Item) (cmd : Command) (own again : List ℕ) (effect : Option Effect)
    (log : List Item) : Type 0 where
  pub before : List Item
  pub item : Item
  pub after : List Item
  pub place : history ≡ before ++ item ∷ after
  pub command : item.command ≡ cmd
  pub earlier : List Item
  pub last : log ≡ earlier ++ item ∷ []
  pub actor : record_read cmd.slot again ≡ (run F.effect_of F.start before).record_of cmd.slot
  pub is : effect ≡ Some (outcome F.effect_of (run F.effect_of F.start before) cmd)
  pub region : region_in F cmd own ≡ F.region_of ((run F.effect_of F.start before).record_of cmd.slot) cmd
  pub alone : All (LeavesAlone cmd.slot (outcome F.effect_of (run F.effect_of F.start before) cmd).states) after

-- between its commit and the first leaf that it gives back: the seat's last item is in the history, what it owes is the
-- run's value, and its bit is set as long as it isn't cleared
pub record IsCommitted (F : Fixed) (links : ℕ
    → ℕ) (history : List Item) (now : World) (cmd : Command) (point : Point) (own again : List ℕ)
    (effect : Option Effect) (log : List Item) : Type 0 where
  pub item : is_committed (stage_of point) ≡ true → IsLastItem F history cmd own again effect log
  pub owed : OwesRight now (stores_owed point)
  pub linked : is_storing (stage_of point) ≡ true → (node : ℕ)
      → has_bit (links node) cmd.slot ≡ is_linked_at (stores_owed point) node

-- ---- all of it

-- what holds of one seat
pub record SeatStands (F : Fixed) (words : Words) (history : List Item) (now : World) (i : ℕ) (view : View) : Type 0
  where
    pub named : (node : ℕ) → holds F view.point view.wanted node ≡ true
        → words.node node ≡ held_word F i (stage_of view.point) view.wanted node
    pub holding : IsHolding F view.wanted (leaves_held view.point view.wanted) (inner_held F view.point)
    pub counted : IsCounted words.commits view.seen view.room view.log (stage_of view.point)
    pub hand : is_busy (stage_of view.point) ≡ true → IsGiven F view.cmd
    pub own : HasOwn F now view.cmd (stage_of view.point) view.own view.wanted
    pub unread : IsUnread (stage_of view.point) view.own view.again view.lists view.others view.states view.effect
    pub at : IsAt F view.cmd view.own view.wanted view.again view.lists view.others view.states view.effect view.point
    pub current : IsCurrent words.links words.body view.point view.wanted view.lists
    pub right : IsReadRight F now view.cmd (stage_of view.point) view.own view.again view.lists view.others view.states
    pub resolved : IsResolved F now view.cmd (stage_of view.point) view.effect
    pub giving_up : IsGivingUp F words.links now view.cmd view.point view.own view.wanted view.again view.lists
        view.others view.states view.effect
    pub committed : IsCommitted F words.links history now view.cmd view.point view.own view.again view.effect view.log

-- two seats hold no node in common, have commands of different slots, and owe no word in common
pub record AreApart (F : Fixed) (point other : Point) (wanted other_wanted : List ℕ) (cmd other_cmd : Command) : Type
    0 where
  pub nodes : (node : ℕ) → holds F point wanted node ≡ true → holds F other other_wanted node ≡ false
  pub slots : is_busy (stage_of point) ≡ true → is_busy (stage_of other) ≡ true → (cmd.slot == other_cmd.slot) ≡ false
  pub cells : (cell : Cell) (x : ℕ) → owed_at (stores_owed point) cell ≡ Some x
      → owed_at (stores_owed other) cell ≡ None

-- two seats are apart
abbrev pub SeatsApart : Fixed → View → View → Type 0
SeatsApart F a b = AreApart F a.point b.point a.wanted b.wanted a.cmd b.cmd

-- the seat stores the own bit and words of this player
abbrev pub is_storing_for : View → ℕ → Bool
is_storing_for view p = is_storing (stage_of view.point) && (view.cmd.slot == p)

-- the words of nodes that the tree hasn't, of players that aren't live and of ids that aren't live are 0
pub record AreUnusedZero (F : Fixed) (node links : ℕ → ℕ) (body : ℕ → ℕ → ℕ) (state : ℕ → ℕ) : Type 0 where
  pub no_node : (v : ℕ) → nodes_of F ≤ v → node v ≡ 0
  pub no_links : (v : ℕ) → nodes_of F ≤ v → links v ≡ 0
  pub no_body : (slot k : ℕ) → is_player F slot ≡ false → body slot k ≡ 0
  pub no_state : (id : ℕ) → has F.start.ids id ≡ false → state id ≡ 0

-- what holds of the core, its history and the run of it
pub record Stands (F : Fixed) (core : Core) (history : List Item) (now : World) : Type 0 where
  pub tied : now ≡ run F.effect_of F.start history
  pub legal : IsLegal F.effect_of F.start history
  pub given : All (λ (item : Item). IsGiven F item.command) history
  pub count : core.words.commits ≡ length history
  pub items : IsPermutation history (items_of core.view)
  pub numbers : IsNumbered core.view
  pub ended : All (λ (e : Ended). IsLogWithin core.words.commits e.room e.log) (core.view 0).ended
  pub seats : (i : ℕ) → SeatStands F core.words history now i (core.view i)
  pub apart : (i j : ℕ) → (i == j) ≡ false → SeatsApart F (core.view i) (core.view j)
  pub free : (node : ℕ) → ((i : ℕ) → holds F (core.view i).point (core.view i).wanted node ≡ false)
      → core.words.node node ≡ 0
  pub unowed : (cell : Cell) → is_live_cell F cell ≡ true
      → ((i : ℕ) → owed_at (stores_owed (core.view i).point) cell ≡ None) → word_in core.words cell ≡ value_in now cell
  pub linked : (p node : ℕ) → is_player F p ≡ true → ((i : ℕ) → is_storing_for (core.view i) p ≡ false)
      → has_bit (core.words.links node) p ≡ (node == home F (now.record_of p))
  pub unlinked : (p node : ℕ) → p < 64 → has F.start.ids p ≡ false → has_bit (core.words.links node) p ≡ false
  pub unused : AreUnusedZero F core.words.node core.words.links core.words.body core.words.state

-- the words at the start: no node is held, each live player is linked at its node, and the records are those of the
-- world
-- Words of players and ids that aren't live are 0 by this definition, so no world is asked for a record of zeros
-- there.
abbrev pub start_words : Fixed → Words
start_words F = record {
  commits = 0;
  node = λ node. 0;
  links = λ node. word_of 64 (λ p. is_player F p && (node == home F (F.start.record_of p)));
  body = λ slot k. if is_player F slot then nth_word (words_of (F.start.record_of slot)) k else 0;
  state = λ id. if has F.start.ids id then (F.start.record_of id).state else 0;
}

-- the core at the start: seat 0 with this room, and no other seat
abbrev pub start_core : Fixed → ℕ → Core
start_core F room = record {
  words = start_words F;
  view = λ i. if i == 0 then record (new_view room) { made = 1 }
      else spent;
}
