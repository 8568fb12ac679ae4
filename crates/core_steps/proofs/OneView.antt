-- A step changes no view but its seat's.
use Rattle.std.proofs.Common.{◌≡◌, ℕ, suc, ◌∙◌, Bool, true, false, [], ◌∷◌, ◌++◌, length, refl}
use Rattle.std.specs.Prelude.{◌==◌, if◌then◌else◌}
use Rattle.core_steps.specs.Cells.{put, word_in, cell_of}
use Rattle.core_steps.specs.Nodes.{Fixed}
use Rattle.core_steps.specs.Reads.{View, new_view, spent, without_command}
use Rattle.core_steps.specs.Held.{leaves_held, inner_held}
use Rattle.core_steps.specs.Steps.{Core, with_ended, yielded, storing, player_loaded, take_node, claim_node, refuse_node, view_after_begin, view_after_own, view_after_again, view_after_take, view_after_claim, view_after_refusal, view_after_list, view_after_state, view_after_commit, view_after_give}
use Rattle.core_steps.specs.Machine.{Next, Begin, LoadOwn, LoadAgain, TakeNode, ClaimNode, ReadList, ReadPlayer, ReadState, CommitMove, StoreWord, GiveNode, YieldNode, YieldCount, core_after}
use Rattle.core_steps.specs.MachineLaws.{StepsChangeOneView}
use Rattle.core_steps.proofs.Puts.{put_other}

-- a core that is one of two has the view that both have
view_of_cores : (b : Bool) (one two : Core) (j : ℕ) (view : View) → one.view j ≡ view → two.view j ≡ view → (if b then one else two).view j ≡ view
view_of_cores true one two j view a c = a
view_of_cores false one two j view a c = c

other_view : (F : Fixed) (core : Core) (i : ℕ) (next : Next) (j : ℕ) → (j == i) ≡ false → (core_after F core i next).view j ≡ core.view j
other_view F core i next j other = by_kind next
  where
    kept : (new : View) → (if j == i then new else core.view j) ≡ core.view j
    kept new = put_other i j new core.view other

    by_kind : (next : Next) → (core_after F core i next).view j ≡ core.view j
    by_kind (Begin c) = kept (view_after_begin c (word_in core.words (cell_of c.slot 0)) (core.view i))
    by_kind LoadOwn = kept (view_after_own F (word_in core.words (cell_of (core.view i).cmd.slot (length (core.view i).own))) (core.view i))
    by_kind LoadAgain = kept (view_after_again F (word_in core.words (cell_of (core.view i).cmd.slot (length (core.view i).again))) (core.view i))
    by_kind (TakeNode node) =
        view_of_cores (core.words.node node == 0) (take_node F core i node) (refuse_node core i node) j (core.view j)
        (kept (view_after_take node (core.view i))) (kept (view_after_refusal node (core.words.node node) (core.view i)))
    by_kind (ClaimNode e node) =
        view_of_cores (core.words.node node == 0) (claim_node F core i e node) (refuse_node core i node) j (core.view j)
        (kept (view_after_claim F e node (core.view i))) (kept (view_after_refusal node (core.words.node node) (core.view i)))
    by_kind (ReadList node plan) = kept (view_after_list F node plan (core.words.links node) (core.view i))
    by_kind (ReadPlayer node part slot players plan) =
        kept (player_loaded F node (part ++ word_in core.words (cell_of slot (length part)) ∷ []) slot players plan (core.view i))
    by_kind (ReadState id ids) = kept (view_after_state id (core.words.state id) ids (core.view i))
    by_kind (CommitMove e nodes) = kept (view_after_commit F core.words.commits e nodes (core.view i))
    by_kind (StoreWord nodes store stores) = kept (record (core.view i) { point = storing nodes stores })
    by_kind (GiveNode node) = kept (view_after_give F (core.view i) (core.view i).point)
    by_kind (YieldNode node) = kept (yielded (core.view i) (inner_held F (core.view i).point) (leaves_held (core.view i).point (core.view i).wanted))
    by_kind YieldCount = kept (record (without_command (core.view i)) { seen = core.words.commits })

pub steps_change_one_view : StepsChangeOneView
steps_change_one_view F m i =
    let view = m.core.view in
    let more = record (view 0) { made = suc (view 0).made } in
    let after = with_ended i (view i) (view 0) in
    record {
      step = λ next j other. other_view F m.core i next j other;
      count = λ j other. put_other i j (record (view i) { seen = m.core.words.commits }) view other;
      given = λ c. refl;
      quitting = refl;
      made = λ room j other not_first. put_other (view 0).made j (new_view room) (put 0 more view) other ∙ put_other 0 j more view not_first;
      ended = λ j other not_first. put_other i j spent (put 0 after view) other ∙ put_other 0 j after view not_first;
    }
