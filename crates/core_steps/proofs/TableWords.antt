-- Each step is one on a word of the table.
use Rattle.std.proofs.Common.{◌≡◌, ℕ, suc, ◌+◌, ◌<◌, ◌≤◌, true, List, [], ◌∷◌, ◌++◌, length, map, refl, sym, ap, ◌∙◌, subst, inl, inr, Option, Some, None, arith}
use Rattle.std.specs.Prelude.{◌||◌, ◌&&◌, nat_lt, nat_le, is_some}
use Rattle.std.specs.List.{range_with_len, AllByRecursion}
use Rattle.std.proofs.lemmas.Bool.{cases_Bool, false≢true, true≢false, lt-ltb, and_from, and_parts, and_right, eq-eqb, or_cases, or_left, or_right, ltb-true, cond-true, cond-false}
use Rattle.arena_geo.specs.Bounds.{Bounds}
use Rattle.arena_geo.specs.Regions.{touches_region}
use Rattle.entity_recs.specs.declared.effect.NewState.{NewState}
use Rattle.entity_recs.specs.declared.effect.Effect.{Effect}
use Rattle.entity_recs.specs.Bodies.{abs_of}
use Rattle.entity_recs.specs.Commands.{Command}
use Rattle.entity_recs.specs.Worlds.{World}
use Rattle.entity_recs.specs.Histories.{Item}
use Rattle.areanode.specs.Words.{has_bit}
use Rattle.areanode.specs.Trees.{visited_of, leaves_of}
use Rattle.entity_recs.specs.declared.limits.TheConstants.{IDS}
use Rattle.entity_recs.proofs.Ids.{id_in}
use Rattle.core_steps.specs.declared.sizes.TheConstants.{TABLE_NODES, TABLE_STATES, TABLE_WORDS}
use Rattle.core_steps.specs.Cells.{Words, Cell, Body, State, word_in, cell_of, node_index, links_index, cell_index, word_at}
use Rattle.core_steps.specs.Encoding.{words_of}
use Rattle.core_steps.specs.Nodes.{Fixed, has, inner_nodes, nodes_of, FitsTable, leaf_nodes, inner_visited, plan_of}
use Rattle.core_steps.specs.Nodes.{home, write_nodes}
use Rattle.core_steps.specs.Points.{Store, Clear, Put, Link, Point, Idle, Owning, Taking, Checking, Entering, Entered}
use Rattle.core_steps.specs.Points.{Loading, Leaving, Sensing, Resolving, Claiming, Storing, Releasing, Returning}
use Rattle.core_steps.specs.Points.{Yielding, stage_of, is_busy, is_whole, is_storing, is_owning, body_stores}
use Rattle.core_steps.specs.Points.{stores_of}
use Rattle.core_steps.specs.Reads.{View, region_in, record_read, effect_loaded, state_at}
use Rattle.core_steps.specs.Held.{inner_held, leaves_held}
use Rattle.core_steps.specs.Steps.{Core, first, first_of_two, first_yield, next_give}
use Rattle.core_steps.specs.Stands.{IsStart, IsLawful, IsGiven, is_player, is_live_cell, Stands}
use Rattle.core_steps.specs.Laws.{UnusedWordsAreZero}
use Rattle.core_steps.specs.Machine.{Machine, Next, Begin, LoadOwn, LoadAgain, TakeNode, ClaimNode, ReadList, ReadPlayer, ReadState, CommitMove, StoreWord, GiveNode, YieldNode, YieldCount, next_at, next_of, quitting, resolving, beginning, committing, giving, index_of, index_of_store, word_of_store, word_of_next, core_after, IsStoreInUse, IsInUse, SomeIsLeft, MachineStands}
use Rattle.core_steps.specs.MachineLaws.{StepsHaveTheirWord}
use Rattle.core_steps.proofs.Lists.{has_append, has_filter, has_range, has_front}
use Rattle.core_steps.proofs.Layouts.{layout_is_right}
use Rattle.core_steps.proofs.Giving.{seat_at}
use Rattle.core_steps.proofs.Takes.{two_inner}
use Rattle.core_steps.proofs.Runs.{start_world}
use Rattle.core_steps.proofs.Quiet.{has_written}
use Rattle.core_steps.proofs.Changes.{each_listed}
use Rattle.core_steps.proofs.TreeNodes.{nodes_sum, inner_in, home_in, leaf_below, wanted_in}
use Rattle.core_steps.proofs.Waiting.{first_there}
use Rattle.core_steps.proofs.Machines.{IsAmong}

-- ---- words whose numbers are in range

pub record IsBodyIn (slot k : ℕ) : Type 0 where
  pub slot_below : slot < 64
  pub word_below : k < 5

-- the cell is one of the table's
abbrev pub CellIsIn : Cell → Type 0
CellIsIn (Body slot k) = IsBodyIn slot k
CellIsIn (State id) = id < TABLE_STATES

abbrev pub StoreIsIn : Store → Type 0
StoreIsIn (Clear node) = node < TABLE_NODES
StoreIsIn (Put cell x) = CellIsIn cell
StoreIsIn (Link node) = node < TABLE_NODES

-- the word of what comes next is one of the table's
abbrev pub NextIsIn : View → Next → Type 0
NextIsIn view (Begin c) = CellIsIn (cell_of c.slot 0)
NextIsIn view LoadOwn = CellIsIn (cell_of view.cmd.slot (length view.own))
NextIsIn view LoadAgain = CellIsIn (cell_of view.cmd.slot (length view.again))
NextIsIn view (TakeNode node) = node < TABLE_NODES
NextIsIn view (ClaimNode e node) = node < TABLE_NODES
NextIsIn view (ReadList node plan) = node < TABLE_NODES
NextIsIn view (ReadPlayer node part slot players plan) = CellIsIn (cell_of slot (length part))
NextIsIn view (ReadState id ids) = id < TABLE_STATES
NextIsIn view (CommitMove e held) = Unit {0}
NextIsIn view (StoreWord held store stores) = StoreIsIn store
NextIsIn view (GiveNode node) = node < TABLE_NODES
NextIsIn view (YieldNode node) = node < TABLE_NODES
NextIsIn view YieldCount = Unit {0}

-- what is found in the table at an index that lies in it
record IsFound (words : Words) (index word : ℕ) : Type 0 where
  in_table : index < TABLE_WORDS
  found : word_at words index ≡ word

cell_found : (words : Words) (cell : Cell) → CellIsIn cell → IsFound words (cell_index cell) (word_in words cell)
cell_found words (Body slot k) is = record { in_table = omega (arith, is.slot_below, is.word_below); found = (layout_is_right words).body slot k is.slot_below is.word_below }
cell_found words (State id) is = record { in_table = omega arith; found = (layout_is_right words).state id }

node_found : (words : Words) (node : ℕ) → node < TABLE_NODES → IsFound words (node_index node) (words.node node)
node_found words node is = record { in_table = omega arith; found = (layout_is_right words).node node is }

links_found : (words : Words) (node : ℕ) → node < TABLE_NODES → IsFound words (links_index node) (words.links node)
links_found words node is = record { in_table = omega arith; found = (layout_is_right words).links node is }

count_found : (words : Words) → IsFound words 0 words.commits
count_found words = record { in_table = omega arith; found = refl }

store_found : (words : Words) (store : Store) → StoreIsIn store → IsFound words (index_of_store store) (word_of_store words store)
store_found words (Clear node) is = links_found words node is
store_found words (Put cell x) is = cell_found words cell is
store_found words (Link node) is = links_found words node is

next_found : (words : Words) (view : View) (next : Next) → NextIsIn view next → IsFound words (index_of view next) (word_of_next words view next)
next_found words view (Begin c) is = cell_found words (cell_of c.slot 0) is
next_found words view LoadOwn is = cell_found words (cell_of view.cmd.slot (length view.own)) is
next_found words view LoadAgain is = cell_found words (cell_of view.cmd.slot (length view.again)) is
next_found words view (TakeNode node) is = node_found words node is
next_found words view (ClaimNode e node) is = node_found words node is
next_found words view (ReadList node plan) is = links_found words node is
next_found words view (ReadPlayer node part slot players plan) is = cell_found words (cell_of slot (length part)) is
next_found words view (ReadState id ids) is = cell_found words (State id) is
next_found words view (CommitMove e held) is = count_found words
next_found words view (StoreWord held store stores) is = store_found words store is
next_found words view (GiveNode node) is = node_found words node is
next_found words view (YieldNode node) is = node_found words node is
next_found words view YieldCount is = count_found words

-- ---- words that are in use

pub slot_cell : (F : Fixed) (slot k : ℕ) → slot < 64 → has F.start.ids slot ≡ true → k < 6 → is_live_cell F (cell_of slot k) ≡ true
slot_cell F slot k below live six =
    elim (cases_Bool (nat_lt k 5)) [
      | inl low ↦ ap (is_live_cell F) (cond-true (nat_lt k 5) (Body slot k) (State slot) low)
          ∙ and_from (is_player F slot) (nat_lt k 5) (and_from (nat_lt slot 64) (has F.start.ids slot) (lt-ltb slot 64 below) live) low
      | inr high ↦ ap (is_live_cell F) (cond-false (nat_lt k 5) (Body slot k) (State slot) high) ∙ live
    ]

pub planned_in : (F : Fixed) (region : List Bounds) (node : ℕ) → has (plan_of F region) node ≡ true → node < nodes_of F
planned_in F region node planned =
    let sum = nodes_sum F in
    elim (or_cases (has (leaf_nodes F region) node) (has (inner_visited F region) node) (sym (has_append (leaf_nodes F region) (inner_visited F region) node) ∙ planned)) [
      | inl leaf ↦ let below = leaf_below F region node leaf in omega arith
      | inr inner ↦
          let kept = has_filter (has_bit (visited_of F.tree.depth (leaves_of F.tree region))) (range_with_len 0 (inner_nodes F)) node inner in
          let range = has_range 0 (inner_nodes F) node kept.listed in
          omega (arith, range.most)
    ]

pub live_in : (F : Fixed) (id : ℕ) → IsLawful F → IsStart F → has F.start.ids id ≡ true → id < IDS
live_in F id lawful start live =
    let world = start_world F start in
    let r = F.start.record_of id in
    let keep = lawful.validity.keepable r (world.taken id live) in
    subst (λ (n : ℕ). n < IDS) (world.own id live) (id_in r.kind r.id keep.bounds.id)

-- a word in use lies in the table
cell_used : (F : Fixed) (cell : Cell) → IsLawful F → IsStart F → is_live_cell F cell ≡ true → CellIsIn cell
cell_used F (Body slot k) lawful start live =
    let parts = and_parts (is_player F slot) (nat_lt k 5) live in
    let player = and_parts (nat_lt slot 64) (has F.start.ids slot) parts.0 in
    record { slot_below = ltb-true slot 64 player.0; word_below = ltb-true k 5 parts.1 }
cell_used F (State id) lawful start live = let below = live_in F id lawful start live in omega arith

node_used : (F : Fixed) (node : ℕ) → FitsTable F → node < nodes_of F → node < TABLE_NODES
node_used F node fits below = let most = fits.nodes in omega arith

store_used : (F : Fixed) (store : Store) → IsLawful F → IsStart F → FitsTable F → IsStoreInUse F store → StoreIsIn store
store_used F (Clear node) lawful start fits is = node_used F node fits is
store_used F (Put cell x) lawful start fits is = cell_used F cell lawful start is
store_used F (Link node) lawful start fits is = node_used F node fits is

pub next_used : (F : Fixed) (view : View) (next : Next) → IsLawful F → IsStart F → FitsTable F → IsInUse F view next → NextIsIn view next
next_used F view (Begin c) lawful start fits is = cell_used F (cell_of c.slot 0) lawful start is
next_used F view LoadOwn lawful start fits is = cell_used F (cell_of view.cmd.slot (length view.own)) lawful start is
next_used F view LoadAgain lawful start fits is = cell_used F (cell_of view.cmd.slot (length view.again)) lawful start is
next_used F view (TakeNode node) lawful start fits is = node_used F node fits is
next_used F view (ClaimNode e node) lawful start fits is = node_used F node fits is
next_used F view (ReadList node plan) lawful start fits is = node_used F node fits is
next_used F view (ReadPlayer node part slot players plan) lawful start fits is = cell_used F (cell_of slot (length part)) lawful start is
next_used F view (ReadState id ids) lawful start fits is = let below = live_in F id lawful start is in omega arith
next_used F view (CommitMove e held) lawful start fits is = tt
next_used F view (StoreWord held store stores) lawful start fits is = store_used F store lawful start fits is
next_used F view (GiveNode node) lawful start fits is = node_used F node fits is
next_used F view (YieldNode node) lawful start fits is = node_used F node fits is
next_used F view YieldCount lawful start fits is = tt

-- ---- stores

abbrev StoresAreUsed : Fixed → List Store → Type 0
StoresAreUsed F [] = Unit {0}
StoresAreUsed F (store ∷ stores) = IsStoreInUse F store × StoresAreUsed F stores

stores_append : (F : Fixed) (xs ys : List Store) → StoresAreUsed F xs → StoresAreUsed F ys → StoresAreUsed F (xs ++ ys)
stores_append F [] ys a b = b
stores_append F (x ∷ xs) ys a b = (a.0, stores_append F xs ys a.1 b)

stores_end : (F : Fixed) (xs ys : List Store) → StoresAreUsed F (xs ++ ys) → StoresAreUsed F ys
stores_end F [] ys a = a
stores_end F (x ∷ xs) ys a = stores_end F xs ys a.1

body_stores_used : (F : Fixed) (slot k : ℕ) (words : List ℕ) → is_player F slot ≡ true → k + length words ≤ 5 → StoresAreUsed F (body_stores slot k words)
body_stores_used F slot k [] player most = tt
body_stores_used F slot k (word ∷ words) player most = (
  and_from (is_player F slot) (nat_lt k 5) player (lt-ltb k 5 (omega arith)),
  body_stores_used F slot (suc k) words player (omega arith),
)

states_used : (F : Fixed) (states : List NewState) → AllByRecursion (λ (s : NewState). has F.start.ids s.id ≡ true) states → StoresAreUsed F (map (λ (s : NewState). Put (State s.id) s.state) states)
states_used F [] all = tt
states_used F (s ∷ states) all = (all.0, states_used F states all.1)

-- the stores of an effect that a seat owes
owed_used : (F : Fixed) (slot old : ℕ) (e : Effect) → is_player F slot ≡ true → old < nodes_of F → ((id : ℕ) → is_some (state_at e.states id) ≡ true → has F.start.ids id ≡ true) → StoresAreUsed F (stores_of F slot old e)
owed_used F slot old e player node listed = (
  node,
  stores_append F (body_stores slot 0 (words_of e.me)) (Put (State slot) e.me.state ∷ (map (λ (s : NewState). Put (State s.id) s.state) e.states ++ (Link (home F e.me) ∷ [])))
      (body_stores_used F slot 0 (words_of e.me) player (omega arith)) (
        (and_parts (nat_lt slot 64) (has F.start.ids slot) player).1,
        stores_append F (map (λ (s : NewState). Put (State s.id) s.state) e.states) (Link (home F e.me) ∷ [])
            (states_used F e.states (each_listed (λ (s : NewState). has F.start.ids s.id ≡ true) e.states e.states (λ t there. there) (λ s there. listed s.id there))) (home_in F e.me, tt),
      ),
)

-- a player that is under load is live: its bit is set at the present node
loaded_is_live : (F : Fixed) (core : Core) (history : List Item) (now : World) (i node p : ℕ) (part players plan : List ℕ) → Stands F core history now
    → (core.view i).point ≡ Loading node part (p ∷ players) plan → has F.start.ids p ≡ true
loaded_is_live F core history now i node p part players plan is e =
    let here = seat_at F core history now i (Loading node part (p ∷ players) plan) is e in
    let load = here.at.load.each p (or_left _ _ (eq-eqb p p refl)) in
    let word = here.current.same_list refl node load.word load.read (or_right _ _ (eq-eqb node node refl)) in
    let bit : has_bit (core.words.links node) p ≡ true = ap (λ (w : ℕ). has_bit w p) word ∙ load.bit in
    elim (cases_Bool (has F.start.ids p)) [
      | inl live ↦ live
      | inr dead ↦ absurd (true≢false (sym bit ∙ is.unlinked p node load.player dead))
    ]

module _ (F : Fixed) (m : Machine) (history : List Item) (now : World) (i : ℕ) (lawful : IsLawful F) (start : IsStart F) (is : MachineStands F m history now) where
  abbrev view : View
  view = m.core.view i

  -- ---- nodes that are held

  -- the leaves held are among those wanted
  leaves_among : (point : Point) → view.point ≡ point → IsAmong (leaves_held point view.wanted) view.wanted
  leaves_among Idle e v there = absurd (false≢true there)
  leaves_among Owning e v there = absurd (false≢true there)
  leaves_among (Taking got rest) e v there =
      let at = (seat_at F m.core history now i (Taking got rest) is.core e).at in
      subst (λ (ns : List ℕ). has ns v ≡ true) at.all (has_front got rest v there)
  leaves_among Checking e v there = there
  leaves_among (Entering n plan) e v there = there
  leaves_among (Entered n plan) e v there = there
  leaves_among (Loading n part players plan) e v there = there
  leaves_among (Leaving n plan) e v there = there
  leaves_among (Sensing ids) e v there = there
  leaves_among Resolving e v there = there
  leaves_among (Claiming got rest) e v there = there
  leaves_among (Storing nodes stores) e v there = there
  leaves_among (Releasing nodes) e v there = there
  leaves_among (Returning leaves) e v there = (subst (λ (p : Point). SomeIsLeft p view.wanted) e (is.next i).left).among v there
  leaves_among (Yielding nodes leaves) e v there = (subst (λ (p : Point). SomeIsLeft p view.wanted) e (is.next i).left).among v there

  in_tree : (v : ℕ) → has view.wanted v ≡ true → v < nodes_of F
  in_tree v there = elim (cases_Bool (is_whole (stage_of view.point))) [
    | inl whole ↦ wanted_in F m.core history now i is.core whole v there
    | inr part ↦
        let none = (is.core.seats i).own.none part in
        absurd (false≢true (ap (λ (ns : List ℕ). has ns v) (sym none) ∙ there))
  ]

  held_in : (point : Point) → view.point ≡ point → (v : ℕ) → (has (inner_held F point) v || has (leaves_held point view.wanted) v) ≡ true → v < nodes_of F
  held_in point e v held = elim (or_cases (has (inner_held F point) v) (has (leaves_held point view.wanted) v) held) [
    | inl inner ↦ inner_in F v ((seat_at F m.core history now i point is.core e).holding.inner_are_inner v inner)
    | inr leaf ↦ in_tree v (leaves_among point e v leaf)
  ]

  two_in : (inner leaves : List ℕ) (node : ℕ) → first_of_two inner leaves ≡ Some node → (has inner node || has leaves node) ≡ true
  two_in [] leaves node e = first_there leaves node e
  two_in (n ∷ inner) leaves node e = let same : n ≡ node = cc in or_left _ _ (or_left _ _ (eq-eqb n node same))

  -- ---- what comes next

  as_in : (a next : Next) → Some a ≡ Some next → IsInUse F view a → IsInUse F view next
  as_in a next same inside = let equal : a ≡ next = cc in subst (IsInUse F view) equal inside

  begun_in : (given : Option Command) (next : Next) → m.given i ≡ given → beginning given ≡ Some next → IsInUse F view next
  begun_in None next e comes = cc
  begun_in (Some c) next e comes = as_in (Begin c) next comes (slot_cell F c.slot 0 (is.pending i c e).command.command.slot (is.pending i c e).command.live (omega arith))

  committed_in : (effect : Option Effect) (nodes : List ℕ) (next : Next) → committing effect nodes ≡ Some next → IsInUse F view next
  committed_in None nodes next comes = cc
  committed_in (Some effect) nodes next comes = as_in (CommitMove effect nodes) next comes tt

  given_in : (given : Option ℕ) (next : Next) → ((node : ℕ) → given ≡ Some node → node < nodes_of F) → giving given ≡ Some next → IsInUse F view next
  given_in None next each comes = cc
  given_in (Some node) next each comes = as_in (GiveNode node) next comes (each node refl)

  resolved_in : (nodes : List ℕ) → write_nodes F (record_read view.cmd.slot view.again) (effect_loaded F view) ≡ nodes → IsInUse F view (resolving (effect_loaded F view) nodes)
  resolved_in [] writes = tt
  resolved_in (node ∷ nodes) writes =
      let before = record_read view.cmd.slot view.again in
      inner_in F node (two_inner F (home F before) (home F (effect_loaded F view).me) node (first_there (write_nodes F before (effect_loaded F view)) node (ap first writes)))

  own_given : is_busy (stage_of view.point) ≡ true → IsGiven F view.cmd
  own_given busy = (is.core.seats i).hand busy

  stored_in : (nodes : List ℕ) (store : Store) (stores : List Store) → view.point ≡ Storing nodes (store ∷ stores) → IsStoreInUse F store
  stored_in nodes store stores e =
      let slot = view.cmd.slot in
      let at = (seat_at F m.core history now i (Storing nodes (store ∷ stores)) is.core e).at in
      let before = record_read slot view.again in
      let wrote = has_written F m.core history now i lawful start is.core (ap (λ (p : Point). is_storing (stage_of p)) e) in
      let same : wrote.e ≡ at.e = let both = sym wrote.is ∙ at.is in cc in
      let given = own_given (ap (λ (p : Point). is_busy (stage_of p)) e) in
      let player = and_from (nat_lt slot 64) (has F.start.ids slot) (lt-ltb slot 64 given.command.slot) given.live in
      let all = owed_used F slot (home F before) at.e player (home_in F before)
      (λ id listed. wrote.live id (ap (λ (f : Effect). is_some (state_at f.states id)) same ∙ listed)) in
      let rest : StoresAreUsed F (store ∷ stores) = stores_end F at.made (store ∷ stores) (subst (StoresAreUsed F) (sym at.owed) all) in
      rest.0

  point_in : (point : Point) (next : Next) → view.point ≡ point → next_at F view (m.given i) point ≡ Some next → IsInUse F view next
  point_in Idle next e comes = begun_in (m.given i) next refl comes
  point_in Owning next e comes =
      let seat = is.core.seats i in
      let given = own_given (ap (λ (p : Point). is_busy (stage_of p)) e) in
      as_in LoadOwn next comes (slot_cell F view.cmd.slot (length view.own) given.command.slot given.live (seat.own.part (ap (λ (p : Point). is_owning (stage_of p)) e)))
  point_in (Taking got []) next e comes = cc
  point_in (Taking got (leaf ∷ rest)) next e comes =
      let at = (seat_at F m.core history now i (Taking got (leaf ∷ rest)) is.core e).at in
      as_in (TakeNode leaf) next comes (in_tree leaf
      (subst (λ (ns : List ℕ). has ns leaf ≡ true) at.all (has_append got (leaf ∷ rest) leaf ∙ or_right _ _ (or_left _ _ (eq-eqb leaf leaf refl)))))
  point_in Checking next e comes =
      let at = (seat_at F m.core history now i Checking is.core e).at in
      let given = own_given (ap (λ (p : Point). is_busy (stage_of p)) e) in
      as_in LoadAgain next comes (slot_cell F view.cmd.slot (length view.again) given.command.slot given.live at.part)
  point_in (Entering node plan) next e comes =
      let at = (seat_at F m.core history now i (Entering node plan) is.core e).at in
      as_in (TakeNode node) next comes (inner_in F node at.inner)
  point_in (Entered node plan) next e comes =
      let at = (seat_at F m.core history now i (Entered node plan) is.core e).at in
      as_in (ReadList node plan) next comes (planned_in F (region_in F view.cmd view.own) node (at.planned node (or_left _ _ (eq-eqb node node refl))))
  point_in (Loading node part [] plan) next e comes = cc
  point_in (Loading node part (slot ∷ players) plan) next e comes =
      let at = (seat_at F m.core history now i (Loading node part (slot ∷ players) plan) is.core e).at in
      as_in (ReadPlayer node part slot players plan) next comes (slot_cell F slot (length part) (at.load.each slot (or_left _ _ (eq-eqb slot slot refl))).player
      (loaded_is_live F m.core history now i node slot part players plan is.core e) at.load.partly)
  point_in (Leaving node plan) next e comes =
      let at = (seat_at F m.core history now i (Leaving node plan) is.core e).at in
      as_in (GiveNode node) next comes (inner_in F node at.inner)
  point_in (Sensing []) next e comes = cc
  point_in (Sensing (id ∷ ids)) next e comes =
      let at = (seat_at F m.core history now i (Sensing (id ∷ ids)) is.core e).at in
      let thing = at.sensed.things id (or_left _ _ (eq-eqb id id refl)) in
      as_in (ReadState id ids) next comes
      (has_filter (λ other. nat_le 64 other && touches_region (abs_of (F.start.record_of other)) (region_in F view.cmd view.own)) F.start.ids id thing).listed
  point_in Resolving next e comes =
      let writes = write_nodes F (record_read view.cmd.slot view.again) (effect_loaded F view) in
      as_in (resolving (effect_loaded F view) writes) next comes (resolved_in writes refl)
  point_in (Claiming got []) next e comes = committed_in view.effect got next comes
  point_in (Claiming got (n ∷ rest)) next e comes =
      let at = (seat_at F m.core history now i (Claiming got (n ∷ rest)) is.core e).at in
      let before = record_read view.cmd.slot view.again in
      as_in (TakeNode n) next comes (inner_in F n (two_inner F (home F before) (home F at.claim.e.me) n
      (subst (λ (ns : List ℕ). has ns n ≡ true) at.claim.nodes (has_append got (n ∷ rest) n ∙ or_right _ _ (or_left _ _ (eq-eqb n n refl))))))
  point_in (Storing nodes []) next e comes = cc
  point_in (Storing nodes (store ∷ stores)) next e comes = as_in (StoreWord nodes store stores) next comes (stored_in nodes store stores e)
  point_in (Releasing nodes) next e comes =
      given_in (next_give (Releasing nodes) view.wanted) next (λ node gives. held_in (Releasing nodes) e node (two_in nodes view.wanted node gives)) comes
  point_in (Returning leaves) next e comes =
      given_in (next_give (Returning leaves) view.wanted) next (λ node gives. held_in (Returning leaves) e node (two_in [] leaves node gives)) comes
  point_in (Yielding nodes leaves) next e comes =
      given_in (next_give (Yielding nodes leaves) view.wanted) next (λ node gives. held_in (Yielding nodes leaves) e node (two_in nodes leaves node gives)) comes

  quitting_in : (yields : Option ℕ) → first_yield F view ≡ yields → IsInUse F view (quitting yields)
  quitting_in None e = tt
  quitting_in (Some node) e = held_in view.point refl node (two_in (inner_held F view.point) (leaves_held view.point view.wanted) node e)

pub next_in_use : (F : Fixed) (m : Machine) (history : List Item) (now : World) (i : ℕ) (next : Next) → IsLawful F → IsStart F
    → next_of F m i ≡ Some next → MachineStands F m history now → IsInUse F (m.core.view i) next
next_in_use F m history now i next lawful start comes is =
    let view = m.core.view i in
    elim (cases_Bool (m.quits i)) [
      | inl quits ↦
          as_in F m history now i lawful start is (quitting (first_yield F view)) next
          (sym (cond-true (m.quits i) (Some (quitting (first_yield F view))) (next_at F view (m.given i) view.point) quits) ∙ comes)
          (quitting_in F m history now i lawful start is (first_yield F view) refl)
      | inr goes ↦
          point_in F m history now i lawful start is view.point next refl
          (sym (cond-false (m.quits i) (Some (quitting (first_yield F view))) (next_at F view (m.given i) view.point) goes) ∙ comes)
    ]

pub next_is_in : (F : Fixed) (m : Machine) (history : List Item) (now : World) (i : ℕ) (next : Next) → IsLawful F → IsStart F → FitsTable F
    → next_of F m i ≡ Some next → MachineStands F m history now → NextIsIn (m.core.view i) next
next_is_in F m history now i next lawful start fits comes is =
    next_used F (m.core.view i) next lawful start fits (next_in_use F m history now i next lawful start comes is)

pub steps_have_their_word : StepsHaveTheirWord
steps_have_their_word F m history now i next lawful start fits comes is =
    let view = m.core.view i in
    let inside = next_is_in F m history now i next lawful start fits comes is in
    let old = next_found m.core.words view next inside in
    let new = next_found (core_after F m.core i next).words view next inside in
    record { in_use = next_in_use F m history now i next lawful start comes is; in_table = old.in_table; before = old.found; after = new.found }

-- ---- words that aren't in use

pub unused_words_are_zero : UnusedWordsAreZero
unused_words_are_zero F core history now is =
    let at = layout_is_right core.words in
    let zero = is.unused in
    record {
      node = λ v below beyond. at.node v below ∙ zero.no_node v beyond;
      links = λ v below beyond. at.links v below ∙ zero.no_links v beyond;
      body = λ slot k below five dead. at.body slot k below five ∙ zero.no_body slot k (and_right (nat_lt slot 64) (has F.start.ids slot) dead);
      state = λ id dead. at.state id ∙ zero.no_state id dead;
    }
