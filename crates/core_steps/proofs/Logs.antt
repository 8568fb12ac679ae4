-- A commit appends its item to the log of its seat, and no other step changes a log.
use Rattle.std.proofs.Common.{◌≡◌, ℕ, Bool, true, false, List, [], ◌∷◌, ◌++◌, length, refl, sym, ap, ◌∙◌, inl, inr, append-nil}
use Rattle.std.specs.Prelude.{◌==◌, if◌then◌else◌}
use Rattle.std.proofs.lemmas.Bool.{cases_Bool, cond-true, cond-false}
use Rattle.entity_recs.specs.Histories.{Item}
use Rattle.core_steps.specs.Cells.{put, word_in, cell_of}
use Rattle.core_steps.specs.Nodes.{Fixed, leaf_nodes, plan_of}
use Rattle.core_steps.specs.Points.{Point, Idle, Owning, Taking, Checking, Entering, Entered, Loading, Leaving, Sensing}
use Rattle.core_steps.specs.Points.{Resolving, Claiming, Storing, Releasing, Returning, Yielding}
use Rattle.core_steps.specs.Reads.{View, without_command, region_in, without_player}
use Rattle.core_steps.specs.Held.{leaves_held, inner_held}
use Rattle.core_steps.specs.Steps.{Core, rest_of, returning, released, yielding, yielded, visiting, loading, storing, owned, checked, player_loaded, item_at, take_node, claim_node, refuse_node, view_after_begin, view_after_take, view_after_claim, view_after_refusal, view_after_list, view_after_state, view_after_commit, view_after_give}
use Rattle.core_steps.specs.Machine.{Next, Begin, LoadOwn, LoadAgain, TakeNode, ClaimNode, ReadList, ReadPlayer, ReadState, CommitMove, StoreWord, GiveNode, YieldNode, YieldCount, core_after, items_after}
use Rattle.core_steps.specs.MachineLaws.{LogsGrowByCommits}

same_log : (view : ℕ → View) (i j : ℕ) (new : View) (items : List Item) → new.log ≡ (view i).log ++ items → (put i new view j).log ≡ (if j == i then (view i).log ++ items else (view j).log)
same_log view i j new items e =
    elim (cases_Bool (j == i)) [
      | inl same ↦ ap (λ (v : View). v.log) (cond-true (j == i) new (view j) same) ∙ e ∙ sym (cond-true (j == i) ((view i).log ++ items) (view j).log same)
      | inr other ↦ ap (λ (v : View). v.log) (cond-false (j == i) new (view j) other) ∙ sym (cond-false (j == i) ((view i).log ++ items) (view j).log other)
    ]

log_returning : (view : View) (leaves : List ℕ) → (returning view leaves).log ≡ view.log
log_returning view [] = refl
log_returning view (leaf ∷ leaves) = refl

log_released : (view : View) (nodes : List ℕ) → (released view nodes).log ≡ view.log
log_released view [] = log_returning view (rest_of view.wanted)
log_released view (node ∷ nodes) = refl

log_yielding : (view : View) (nodes leaves : List ℕ) → (yielding view nodes leaves).log ≡ view.log
log_yielding view [] [] = refl
log_yielding view [] (leaf ∷ leaves) = refl
log_yielding view (node ∷ nodes) leaves = refl

log_yielded : (view : View) (nodes leaves : List ℕ) → (yielded view nodes leaves).log ≡ view.log
log_yielded view [] leaves = log_yielding view [] (rest_of leaves)
log_yielded view (node ∷ nodes) leaves = log_yielding view nodes leaves

log_given : (F : Fixed) (view : View) (point : Point) → (view_after_give F view point).log ≡ view.log
log_given F view Idle = refl
log_given F view Owning = refl
log_given F view (Taking got rest) = refl
log_given F view Checking = refl
log_given F view (Entering node plan) = refl
log_given F view (Entered node plan) = refl
log_given F view (Loading node part players plan) = refl
log_given F view (Leaving node plan) = refl
log_given F view (Sensing ids) = refl
log_given F view Resolving = refl
log_given F view (Claiming got rest) = refl
log_given F view (Storing nodes stores) = refl
log_given F view (Releasing nodes) = log_released view nodes
log_given F view (Returning leaves) = log_returning view (rest_of leaves)
log_given F view (Yielding nodes leaves) = log_yielded view nodes leaves

-- a view that is one of two has the log that both have
log_of_two : (b : Bool) (one two : View) (log : List Item) → one.log ≡ log → two.log ≡ log → (if b then one else two).log ≡ log
log_of_two true one two log a c = a
log_of_two false one two log a c = c

-- a core that is one of two has the log that both have
log_of_cores : (b : Bool) (one two : Core) (j : ℕ) (log : List Item) → (one.view j).log ≡ log → (two.view j).log ≡ log → ((if b then one else two).view j).log ≡ log
log_of_cores true one two j log a c = a
log_of_cores false one two j log a c = c

logs_after : (F : Fixed) (core : Core) (i j : ℕ) (next : Next)
    → ((core_after F core i next).view j).log ≡ (if j == i then (core.view i).log ++ items_after core i next else (core.view j).log)
logs_after F core i j next = by_kind next
  where
    kept : (new : View) → new.log ≡ (core.view i).log → (put i new core.view j).log ≡ (if j == i then (core.view i).log ++ [] else (core.view j).log)
    kept new e = same_log core.view i j new [] (e ∙ sym (append-nil (core.view i).log))

    by_kind : (next : Next) → ((core_after F core i next).view j).log ≡ (if j == i then (core.view i).log ++ items_after core i next else (core.view j).log)
    by_kind (Begin c) = kept (view_after_begin c (word_in core.words (cell_of c.slot 0)) (core.view i)) refl
    by_kind LoadOwn =
        let more = record (core.view i) { own = (core.view i).own ++ word_in core.words (cell_of (core.view i).cmd.slot (length (core.view i).own)) ∷ [] } in
        let leaves = leaf_nodes F (region_in F more.cmd more.own) in
        kept (owned F more) (log_of_two (length more.own == 6) (record more { wanted = leaves; point = Taking [] leaves }) more (core.view i).log refl refl)
    by_kind LoadAgain =
        let more = record (core.view i) { again = (core.view i).again ++ word_in core.words (cell_of (core.view i).cmd.slot (length (core.view i).again)) ∷ [] } in
        kept (checked F more) (log_of_two (length more.again == 6) (record more { point = visiting F more (plan_of F (region_in F more.cmd more.own)) }) more (core.view i).log refl refl)
    by_kind (TakeNode node) =
        log_of_cores (core.words.node node == 0) (take_node F core i node) (refuse_node core i node) j (if j == i then (core.view i).log ++ [] else (core.view j).log)
        (kept (view_after_take node (core.view i)) refl) (kept (view_after_refusal node (core.words.node node) (core.view i)) refl)
    by_kind (ClaimNode e node) =
        log_of_cores (core.words.node node == 0) (claim_node F core i e node) (refuse_node core i node) j (if j == i then (core.view i).log ++ [] else (core.view j).log)
        (kept (view_after_claim F e node (core.view i)) refl) (kept (view_after_refusal node (core.words.node node) (core.view i)) refl)
    by_kind (ReadList node plan) = kept (view_after_list F node plan (core.words.links node) (core.view i)) refl
    by_kind (ReadPlayer node part slot players plan) =
        let view = core.view i in
        let words = part ++ word_in core.words (cell_of slot (length part)) ∷ [] in
        kept (player_loaded F node words slot players plan view) (log_of_two (length words == 6)
        (record view { others = record { slot = slot; words = words } ∷ without_player slot view.others; point = loading F view node players plan }) (record view { point = Loading node words (slot ∷ players) plan }) view.log refl refl)
    by_kind (ReadState id ids) = kept (view_after_state id (core.words.state id) ids (core.view i)) refl
    by_kind (CommitMove e nodes) = same_log core.view i j (view_after_commit F core.words.commits e nodes (core.view i)) (item_at core.words.commits (core.view i) e ∷ []) refl
    by_kind (StoreWord nodes store stores) = kept (record (core.view i) { point = storing nodes stores }) refl
    by_kind (GiveNode node) = kept (view_after_give F (core.view i) (core.view i).point) (log_given F (core.view i) (core.view i).point)
    by_kind (YieldNode node) =
        kept (yielded (core.view i) (inner_held F (core.view i).point) (leaves_held (core.view i).point (core.view i).wanted))
        (log_yielded (core.view i) (inner_held F (core.view i).point) (leaves_held (core.view i).point (core.view i).wanted))
    by_kind YieldCount = kept (record (without_command (core.view i)) { seen = core.words.commits }) refl

pub logs_grow_by_commits : LogsGrowByCommits
logs_grow_by_commits F m i j next = logs_after F m.core i j next
