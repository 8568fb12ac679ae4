-- The steps of a seat, kind by kind: which step comes next, and the core after it.
use Rattle.std.specs.Prelude.{ℕ, suc, ◌+◌, ◌-◌, ◌^◌, ◌==◌, min, ◌≡◌, Bool, true, false, if◌then◌else◌, List, [], ◌∷◌}
use Rattle.std.specs.Prelude.{◌++◌, length, Option, Some, None}
use Rattle.entity_recs.specs.declared.effect.Effect.{Effect}
use Rattle.entity_recs.specs.Commands.{Command}
use Rattle.entity_recs.specs.Histories.{Item, entry_of}
use Rattle.core_steps.specs.Cells.{Words, put, word_in, with_word, cell_of, with_bit, without_bit}
use Rattle.core_steps.specs.Nodes.{Fixed}
use Rattle.core_steps.specs.Points.{Store, Clear, Put, Link, Point, Idle, Owning, Taking, Checking, Entering}
use Rattle.core_steps.specs.Points.{Entered, Loading, Leaving, Sensing, Resolving, Claiming, Storing, Releasing}
use Rattle.core_steps.specs.Points.{Returning, Yielding, AtClaiming, stage_of, is_busy}
use Rattle.core_steps.specs.Reads.{effect_loaded, View}
use Rattle.core_steps.specs.Held.{holds}
use Rattle.core_steps.specs.Nodes.{leaf_nodes, plan_of, is_leaf}
use Rattle.core_steps.specs.Reads.{new_view, spent, without_command, region_in}
use Rattle.core_steps.specs.Nodes.{home, write_nodes}
use Rattle.core_steps.specs.Points.{stores_of}
use Rattle.core_steps.specs.Reads.{things_in, players_in, record_read}
use Rattle.core_steps.specs.Held.{inner_held}
use Rattle.core_steps.specs.Reads.{without_player}
use Rattle.core_steps.specs.Held.{leaves_held, held_word}

-- the words, and each seat's view by its number
pub record Core : Type 0 where
  pub words : Words
  pub view : ℕ → View

-- the core with another view of one seat
abbrev pub with_view : Core → ℕ → View → Core
with_view core i view = record core { view = put i view core.view }

-- the core with another word of one node, and another view of one seat
abbrev pub with_node : Core → ℕ → ℕ → ℕ → View → Core
with_node core node word i view = record
    { words = record core.words { node = put node word core.words.node }; view = put i view core.view }

-- ---- where a point goes on

-- the states of these things are to be loaded, if any
abbrev pub sensing : List ℕ → Point
sensing [] = Resolving
sensing (id ∷ ids) = Sensing (id ∷ ids)

-- the next node of the plan is visited, if any
abbrev pub visiting : Fixed → View → List ℕ → Point
visiting F view [] = sensing (things_in F (region_in F view.cmd view.own))
visiting F view (node ∷ plan) = if is_leaf F node then Entered node plan else Entering node plan

-- these players are loaded under the node, if any
abbrev pub loading : Fixed → View → ℕ → List ℕ → List ℕ → Point
loading F view node [] plan = if is_leaf F node then visiting F view plan else Leaving node plan
loading F view node (slot ∷ players) plan = Loading node [] (slot ∷ players) plan

-- these leaves are to be taken after those, if any
abbrev pub taking : List ℕ → List ℕ → Point
taking got [] = Checking
taking got (leaf ∷ rest) = Taking got (leaf ∷ rest)

-- these stores are owed, if any
abbrev pub storing : List ℕ → List Store → Point
storing nodes [] = Releasing nodes
storing nodes (store ∷ stores) = Storing nodes (store ∷ stores)

-- these leaves are to be given back, or the command is done
abbrev pub returning : View → List ℕ → View
returning view [] = without_command view
returning view (leaf ∷ leaves) = record view { point = Returning (leaf ∷ leaves) }

-- these nodes are to be given back, or the command is given up
abbrev pub yielding : View → List ℕ → List ℕ → View
yielding view [] [] = without_command view
yielding view [] (leaf ∷ leaves) = record view { point = Yielding [] (leaf ∷ leaves) }
yielding view (node ∷ nodes) leaves = record view { point = Yielding (node ∷ nodes) leaves }

-- ---- a node is taken

-- the first of a list
abbrev pub first : List ℕ → Option ℕ
first [] = None
first (n ∷ ns) = Some n

-- all but the first of a list
abbrev pub rest_of : List ℕ → List ℕ
rest_of [] = []
rest_of (n ∷ ns) = ns

-- the node that is taken next, where no effect enters the view
abbrev pub next_take : Point → Option ℕ
next_take (Taking got rest) = first rest
next_take (Entering node plan) = Some node
next_take (Claiming got rest) = first rest
next_take _ = None

-- the point after that node is taken
abbrev pub point_after_take : ℕ → Point → Point
point_after_take taken Idle = Idle
point_after_take taken Owning = Owning
point_after_take taken (Taking got rest) = taking (got ++ taken ∷ []) (rest_of rest)
point_after_take taken Checking = Checking
point_after_take taken (Entering node plan) = Entered node plan
point_after_take taken (Entered node plan) = Entered node plan
point_after_take taken (Loading node part players plan) = Loading node part players plan
point_after_take taken (Leaving node plan) = Leaving node plan
point_after_take taken (Sensing ids) = Sensing ids
point_after_take taken Resolving = Resolving
point_after_take taken (Claiming got rest) = Claiming (got ++ taken ∷ []) (rest_of rest)
point_after_take taken (Storing nodes stores) = Storing nodes stores
point_after_take taken (Releasing nodes) = Releasing nodes
point_after_take taken (Returning leaves) = Returning leaves
point_after_take taken (Yielding nodes leaves) = Yielding nodes leaves

-- the view after that node is taken
abbrev pub view_after_take : ℕ → View → View
view_after_take node view = record view { point = point_after_take node view.point }

-- the core after the seat's next node, which was free, is taken
abbrev pub take_node : Fixed → Core → ℕ → ℕ → Core
take_node F core i node = with_node core node
    (held_word F i (stage_of (point_after_take node (core.view i).point)) (core.view i).wanted node) i
    (view_after_take node (core.view i))

-- the view after the first write node is taken, with which the effect enters it
abbrev pub view_after_claim : Fixed → Effect → ℕ → View → View
view_after_claim F e node view = record view {
  effect = Some e;
  point = Claiming (node
      ∷ []) (rest_of (write_nodes F (record_read view.cmd.slot view.again) e));
}

-- the core after the seat's first write node, which was free, is taken
abbrev pub claim_node : Fixed → Core → ℕ → Effect → ℕ → Core
claim_node F core i e node = with_node core node (held_word F i AtClaiming (core.view i).wanted node) i
    (view_after_claim F e node (core.view i))

-- the view after a take of this node was refused, where this word was found
abbrev pub view_after_refusal : ℕ → ℕ → View → View
view_after_refusal node word view = record view {
  refusals = min (view.refusals + 1) (2 ^ 64 - 1);
  refused = Some (record { node = node; word = word; own = view.own; wanted = view.wanted });
}

-- the core after the seat's take of this node was refused
abbrev pub refuse_node : Core → ℕ → ℕ → Core
refuse_node core i node = with_view core i (view_after_refusal node (core.words.node node) (core.view i))

-- ---- a node is given back

-- the first node that is given back of these inner nodes and then of these leaves
abbrev pub first_of_two : List ℕ → List ℕ → Option ℕ
first_of_two [] leaves = first leaves
first_of_two (node ∷ nodes) leaves = Some node

-- the node that is given back next
abbrev pub next_give : Point → List ℕ → Option ℕ
next_give (Leaving node plan) wanted = Some node
next_give (Releasing nodes) wanted = first_of_two nodes wanted
next_give (Returning leaves) wanted = first leaves
next_give (Yielding nodes leaves) wanted = first_of_two nodes leaves
next_give _ _ = None

-- the view with the rest of these inner nodes and then of the leaves to be given back, after the commit
abbrev pub released : View → List ℕ → View
released view [] = returning view (rest_of view.wanted)
released view (node ∷ nodes) = record view { point = Releasing nodes }

-- the view with the rest of these inner nodes and then of these leaves to be given back, where the command is given up
abbrev pub yielded : View → List ℕ → List ℕ → View
yielded view [] leaves = yielding view [] (rest_of leaves)
yielded view (node ∷ nodes) leaves = yielding view nodes leaves

-- the view after that node is given back, at this point
abbrev pub view_after_give : Fixed → View → Point → View
view_after_give F view Idle = view
view_after_give F view Owning = view
view_after_give F view (Taking got rest) = view
view_after_give F view Checking = view
view_after_give F view (Entering node plan) = view
view_after_give F view (Entered node plan) = view
view_after_give F view (Loading node part players plan) = view
view_after_give F view (Leaving node plan) = record view { point = visiting F view plan }
view_after_give F view (Sensing ids) = view
view_after_give F view Resolving = view
view_after_give F view (Claiming got rest) = view
view_after_give F view (Storing nodes stores) = view
view_after_give F view (Releasing nodes) = released view nodes
view_after_give F view (Returning leaves) = returning view (rest_of leaves)
view_after_give F view (Yielding nodes leaves) = yielded view nodes leaves

-- the core after the seat's next node is given back
abbrev pub give_node : Fixed → Core → ℕ → ℕ → Core
give_node F core i node = with_node core node 0 i (view_after_give F (core.view i) (core.view i).point)

-- ---- giving up

-- the command may be given up here: a node is to be taken next, or no write node is left to be taken and the commit
-- comes next
abbrev pub is_taking : Point → Bool
is_taking (Taking got rest) = true
is_taking (Entering node plan) = true
is_taking Resolving = true
is_taking (Claiming got rest) = true
is_taking _ = false

-- the node that is given back first where the command is given up
abbrev pub first_yield : Fixed → View → Option ℕ
first_yield F view = first_of_two (inner_held F view.point) (leaves_held view.point view.wanted)

-- the core after the first node is given back with which the command is given up
abbrev pub yield_node : Fixed → Core → ℕ → ℕ → Core
yield_node F core i node =
    with_node core node 0 i
    (yielded (core.view i) (inner_held F (core.view i).point)
    (leaves_held (core.view i).point (core.view i).wanted))

-- the core after the command is given up where nothing is held, which loads the count
abbrev pub yield_nothing : Core → ℕ → Core
yield_nothing core i = with_view core i (record (without_command (core.view i)) { seen = core.words.commits })

-- ---- a list word is loaded

-- the view after that list word is loaded, at the node with the rest of the plan
abbrev pub view_after_list : Fixed → ℕ → List ℕ → ℕ → View → View
view_after_list F node plan word view = record view {
  lists = record { node = node; word = word } ∷ view.lists;
  point = loading F view node (players_in word view.cmd.slot) plan;
}

-- the core after the list word of the entered node is loaded
abbrev pub load_list : Fixed → Core → ℕ → ℕ → List ℕ → Core
load_list F core i node plan = with_view core i (view_after_list F node plan (core.words.links node) (core.view i))

-- ---- a word of a record is loaded

-- the view after the command entered it with the first word of the own record
abbrev pub view_after_begin : Command → ℕ → View → View
view_after_begin c word view = record view { cmd = c; own = word ∷ []; point = Owning }

-- the core after the seat's first load for a command
abbrev pub begin_move : Core → ℕ → Command → Core
begin_move core i c = with_view core i (view_after_begin c (word_in core.words (cell_of c.slot 0)) (core.view i))

-- the view whose own record is whole wants its leaves
abbrev pub owned : Fixed → View → View
owned F view = if length view.own == 6 then record view {
  wanted = leaf_nodes F (region_in F view.cmd view.own);
  point = Taking []
      (leaf_nodes F (region_in F view.cmd view.own));
} else view

-- the view after one more word of the own record is loaded
abbrev pub view_after_own : Fixed → ℕ → View → View
view_after_own F word view = owned F (record view { own = view.own ++ word ∷ [] })

-- the core after one more word of the own record is loaded
abbrev pub load_own : Fixed → Core → ℕ → Core
load_own F core i = with_view core i
    (view_after_own F (word_in core.words (cell_of (core.view i).cmd.slot (length (core.view i).own))) (core.view i))

-- the view whose own record is loaded again whole begins to read
abbrev pub checked : Fixed → View → View
checked F view = if length view.again == 6 then record view
    { point = visiting F view (plan_of F (region_in F view.cmd view.own)) } else view

-- the view after one more word of the own record is loaded again
abbrev pub view_after_again : Fixed → ℕ → View → View
view_after_again F word view = checked F (record view { again = view.again ++ word ∷ [] })

-- the core after one more word of the own record is loaded again
abbrev pub load_again : Fixed → Core → ℕ → Core
load_again F core i = with_view core i
    (view_after_again F (word_in core.words (cell_of (core.view i).cmd.slot (length (core.view i).again)))
    (core.view i))

-- the view with these words of the player that is loaded under the node, before the other players; once they are whole,
-- what was loaded of it earlier is dropped
abbrev pub player_loaded : Fixed → ℕ → List ℕ → ℕ → List ℕ → List ℕ → View → View
player_loaded F node part slot players plan view =
    if length part == 6 then record view {
      others = record { slot = slot; words = part } ∷ without_player slot view.others;
      point = loading F view node players plan;
    }
    else record view { point = Loading node part (slot ∷ players) plan }

-- the core after one more word of the player is loaded
abbrev pub load_player : Fixed → Core → ℕ → ℕ → List ℕ → ℕ → List ℕ → List ℕ → Core
load_player F core i node part slot players plan =
    with_view core i (player_loaded F node (part ++ word_in core.words (cell_of slot (length part))
    ∷ []) slot players plan (core.view i))

-- the view after the state of a thing of the map is loaded
abbrev pub view_after_state : ℕ → ℕ → List ℕ → View → View
view_after_state id word ids view = record view {
  states = record { id = id; state = word }
      ∷ view.states;
  point = sensing ids;
}

-- the core after the state of the first of these things is loaded
abbrev pub load_state : Core → ℕ → ℕ → List ℕ → Core
load_state core i id ids = with_view core i (view_after_state id (core.words.state id) ids (core.view i))

-- ---- the commit

-- the item that a commit appends
abbrev pub item_at : ℕ → View → Effect → Item
item_at place view e = record { command = view.cmd; entry = entry_of place view.cmd e }

-- the view after the commit of this effect, where these write nodes are held
abbrev pub view_after_commit : Fixed → ℕ → Effect → List ℕ → View → View
view_after_commit F place e nodes view = record view {
  effect = Some e;
  log = view.log ++ item_at place view e ∷ [];
  seen = suc place;
  point = Storing nodes (stores_of F view.cmd.slot (home F (record_read view.cmd.slot view.again)) e);
}

-- the core after the seat's commit
abbrev pub commit : Fixed → Core → ℕ → Effect → List ℕ → Core
commit F core i e nodes = record {
  words = record core.words { commits = suc core.words.commits };
  view = put i (view_after_commit F core.words.commits e nodes (core.view i)) core.view;
}

-- ---- a store that is owed

-- the words after a store by the player of this slot
abbrev pub words_after_store : ℕ → Store → Words → Words
words_after_store slot (Clear node) words = record words
    { links = put node (without_bit (words.links node) slot) words.links }
words_after_store slot (Put cell x) words = with_word words cell x
words_after_store slot (Link node) words = record words
    { links = put node (with_bit (words.links node) slot) words.links }

-- the core after the first of the stores is made
abbrev pub store_next : Core → ℕ → List ℕ → Store → List Store → Core
store_next core i nodes store stores = record {
  words = words_after_store (core.view i).cmd.slot store core.words;
  view = put i (record (core.view i) { point = storing nodes stores }) core.view;
}

-- ---- seats are made and ended, and the count is loaded

-- the core after a seat with this room is made from seat 0
abbrev pub make_seat : Core → ℕ → Core
make_seat core room = record core {
  view = put (core.view 0).made (new_view room)
      (put 0 (record (core.view 0) { made = suc (core.view 0).made }) core.view);
}

-- the view of seat 0 after this seat is ended into it
abbrev pub with_ended : ℕ → View → View → View
with_ended i ended view = record view { ended = record { number = i; room = ended.room; log = ended.log } ∷ view.ended }

-- the core after a seat is ended into seat 0
abbrev pub end_seat : Core → ℕ → Core
end_seat core i = record core { view = put i spent (put 0 (with_ended i (core.view i) (core.view 0)) core.view) }

-- the core after the seat has loaded the count
abbrev pub load_count : Core → ℕ → Core
load_count core i = with_view core i (record (core.view i) { seen = core.words.commits })

-- ---- waiting

-- the node that is taken next, also where the effect enters the view with it
abbrev pub next_node_at : Fixed → View → Point → Option ℕ
next_node_at F view Idle = None
next_node_at F view Owning = None
next_node_at F view (Taking got rest) = first rest
next_node_at F view Checking = None
next_node_at F view (Entering node plan) = Some node
next_node_at F view (Entered node plan) = None
next_node_at F view (Loading node part players plan) = None
next_node_at F view (Leaving node plan) = None
next_node_at F view (Sensing ids) = None
next_node_at F view Resolving = first (write_nodes F (record_read view.cmd.slot view.again) (effect_loaded F view))
next_node_at F view (Claiming got rest) = first rest
next_node_at F view (Storing nodes stores) = None
next_node_at F view (Releasing nodes) = None
next_node_at F view (Returning leaves) = None
next_node_at F view (Yielding nodes leaves) = None

-- the node that the seat takes next, where its next step is a take
abbrev pub next_node : Fixed → View → Option ℕ
next_node F view = next_node_at F view view.point

-- the seat waits: its next step is a take of a node that another seat holds
pub record Waits (F : Fixed) (core : Core) (i : ℕ) : Type 0 where
  pub node : ℕ
  pub next : next_node F (core.view i) ≡ Some node
  pub holder : ℕ
  pub other : (holder == i) ≡ false
  pub held : holds F (core.view holder).point (core.view holder).wanted node ≡ true

-- some seat with a command in hand doesn't wait
pub record SomeSeatGoesOn (F : Fixed) (core : Core) : Type 0 where
  pub seat : ℕ
  pub busy : is_busy (stage_of (core.view seat).point) ≡ true
  pub goes_on : Waits F core seat → ⊥
