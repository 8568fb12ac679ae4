-- What no step changes of a view.
use Rattle.std.proofs.Common.{◌≡◌, ℕ, Bool, true, false, List, [], ◌∷◌, ◌++◌, length, refl}
use Rattle.std.specs.Prelude.{◌==◌, if◌then◌else◌}
use Rattle.core_steps.specs.Cells.{word_in, cell_of}
use Rattle.core_steps.specs.Nodes.{Fixed, leaf_nodes, plan_of}
use Rattle.core_steps.specs.Points.{Point, Idle, Owning, Taking, Checking, Entering, Entered, Loading, Leaving, Sensing}
use Rattle.core_steps.specs.Points.{Resolving, Claiming, Storing, Releasing, Returning, Yielding}
use Rattle.core_steps.specs.Reads.{Ended, View, without_command, region_in, without_player}
use Rattle.core_steps.specs.Held.{leaves_held, inner_held}
use Rattle.core_steps.specs.Steps.{Core, rest_of, returning, released, yielding, yielded, visiting, loading, storing, owned, checked, player_loaded, take_node, claim_node, refuse_node, view_after_begin, view_after_take, view_after_claim, view_after_refusal, view_after_list, view_after_state, view_after_commit, view_after_give}
use Rattle.core_steps.specs.Machine.{Next, Begin, LoadOwn, LoadAgain, TakeNode, ClaimNode, ReadList, ReadPlayer, ReadState, CommitMove, StoreWord, GiveNode, YieldNode, YieldCount, core_after}
use Rattle.core_steps.proofs.Puts.{kept_put}

-- whether a seat is there, its room, and the seats that it made and ended
pub record SeatPart : Type 0 where
  pub live : Bool
  pub room : ℕ
  pub made : ℕ
  pub ended : List Ended

-- that part of a view
abbrev pub seat_part : View → SeatPart
seat_part view = record { live = view.live; room = view.room; made = view.made; ended = view.ended }

same_returning : (view : View) (leaves : List ℕ) → seat_part (returning view leaves) ≡ seat_part view
same_returning view [] = refl
same_returning view (leaf ∷ leaves) = refl

same_released : (view : View) (nodes : List ℕ) → seat_part (released view nodes) ≡ seat_part view
same_released view [] = same_returning view (rest_of view.wanted)
same_released view (node ∷ nodes) = refl

same_yielding : (view : View) (nodes leaves : List ℕ) → seat_part (yielding view nodes leaves) ≡ seat_part view
same_yielding view [] [] = refl
same_yielding view [] (leaf ∷ leaves) = refl
same_yielding view (node ∷ nodes) leaves = refl

same_yielded : (view : View) (nodes leaves : List ℕ) → seat_part (yielded view nodes leaves) ≡ seat_part view
same_yielded view [] leaves = same_yielding view [] (rest_of leaves)
same_yielded view (node ∷ nodes) leaves = same_yielding view nodes leaves

same_given : (F : Fixed) (view : View) (point : Point) → seat_part (view_after_give F view point) ≡ seat_part view
same_given F view Idle = refl
same_given F view Owning = refl
same_given F view (Taking got rest) = refl
same_given F view Checking = refl
same_given F view (Entering node plan) = refl
same_given F view (Entered node plan) = refl
same_given F view (Loading node part players plan) = refl
same_given F view (Leaving node plan) = refl
same_given F view (Sensing ids) = refl
same_given F view Resolving = refl
same_given F view (Claiming got rest) = refl
same_given F view (Storing nodes stores) = refl
same_given F view (Releasing nodes) = same_released view nodes
same_given F view (Returning leaves) = same_returning view (rest_of leaves)
same_given F view (Yielding nodes leaves) = same_yielded view nodes leaves

-- a view that is one of two has the part that both have
same_of_two : (b : Bool) (one two : View) (part : SeatPart) → seat_part one ≡ part → seat_part two ≡ part → seat_part (if b then one else two) ≡ part
same_of_two true one two part a c = a
same_of_two false one two part a c = c

-- and so has that of a core that is one of two
same_of_cores : (b : Bool) (one two : Core) (j : ℕ) (part : SeatPart) → seat_part (one.view j) ≡ part → seat_part (two.view j) ≡ part → seat_part ((if b then one else two).view j) ≡ part
same_of_cores true one two j part a c = a
same_of_cores false one two j part a c = c

-- a step changes it in no view
pub same_seats : (F : Fixed) (core : Core) (i : ℕ) (next : Next) (j : ℕ) → seat_part ((core_after F core i next).view j) ≡ seat_part (core.view j)
same_seats F core i next j = by_kind next
  where
    by_kind : (next : Next) → seat_part ((core_after F core i next).view j) ≡ seat_part (core.view j)
    by_kind (Begin c) = kept_put seat_part i (view_after_begin c (word_in core.words (cell_of c.slot 0)) (core.view i)) core.view refl j
    by_kind LoadOwn =
        let more = record (core.view i) { own = (core.view i).own ++ word_in core.words (cell_of (core.view i).cmd.slot (length (core.view i).own)) ∷ [] } in
        let leaves = leaf_nodes F (region_in F more.cmd more.own) in
        kept_put seat_part i (owned F more) core.view
        (same_of_two (length more.own == 6) (record more { wanted = leaves; point = Taking [] leaves }) more (seat_part (core.view i)) refl refl) j
    by_kind LoadAgain =
        let more = record (core.view i) { again = (core.view i).again ++ word_in core.words (cell_of (core.view i).cmd.slot (length (core.view i).again)) ∷ [] } in
        kept_put seat_part i (checked F more) core.view
        (same_of_two (length more.again == 6) (record more { point = visiting F more (plan_of F (region_in F more.cmd more.own)) }) more (seat_part (core.view i)) refl refl) j
    by_kind (TakeNode node) =
        same_of_cores (core.words.node node == 0) (take_node F core i node) (refuse_node core i node) j (seat_part (core.view j))
        (kept_put seat_part i (view_after_take node (core.view i)) core.view refl j)
        (kept_put seat_part i (view_after_refusal node (core.words.node node) (core.view i)) core.view refl j)
    by_kind (ClaimNode e node) =
        same_of_cores (core.words.node node == 0) (claim_node F core i e node) (refuse_node core i node) j (seat_part (core.view j))
        (kept_put seat_part i (view_after_claim F e node (core.view i)) core.view refl j)
        (kept_put seat_part i (view_after_refusal node (core.words.node node) (core.view i)) core.view refl j)
    by_kind (ReadList node plan) = kept_put seat_part i (view_after_list F node plan (core.words.links node) (core.view i)) core.view refl j
    by_kind (ReadPlayer node part slot players plan) =
        let words = part ++ word_in core.words (cell_of slot (length part)) ∷ [] in
        kept_put seat_part i (player_loaded F node words slot players plan (core.view i)) core.view
        (same_of_two (length words == 6)
        (record (core.view i) { others = record { slot = slot; words = words } ∷ without_player slot (core.view i).others; point = loading F (core.view i) node players plan })
        (record (core.view i) { point = Loading node words (slot ∷ players) plan }) (seat_part (core.view i)) refl refl) j
    by_kind (ReadState id ids) = kept_put seat_part i (view_after_state id (core.words.state id) ids (core.view i)) core.view refl j
    by_kind (CommitMove e nodes) = kept_put seat_part i (view_after_commit F core.words.commits e nodes (core.view i)) core.view refl j
    by_kind (StoreWord nodes store stores) = kept_put seat_part i (record (core.view i) { point = storing nodes stores }) core.view refl j
    by_kind (GiveNode node) = kept_put seat_part i (view_after_give F (core.view i) (core.view i).point) core.view (same_given F (core.view i) (core.view i).point) j
    by_kind (YieldNode node) =
        kept_put seat_part i (yielded (core.view i) (inner_held F (core.view i).point) (leaves_held (core.view i).point (core.view i).wanted)) core.view
        (same_yielded (core.view i) (inner_held F (core.view i).point) (leaves_held (core.view i).point (core.view i).wanted)) j
    by_kind YieldCount = kept_put seat_part i (record (without_command (core.view i)) { seen = core.words.commits }) core.view refl j
