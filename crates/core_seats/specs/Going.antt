-- What one step does: the view after it, and the word that it leaves.
use Rattle.std.specs.Prelude.{ℕ, suc, ◌==◌, if◌then◌else◌, [], ◌∷◌, ◌++◌}
use Rattle.core_steps.specs.Cells.{with_bit, without_bit}
use Rattle.core_steps.specs.Nodes.{Fixed}
use Rattle.core_steps.specs.Points.{Store, Clear, Put, Link, AtClaiming, stage_of}
use Rattle.core_steps.specs.Reads.{View, without_command}
use Rattle.core_steps.specs.Held.{inner_held, leaves_held, held_word}
use Rattle.core_steps.specs.Steps.{view_after_take, view_after_claim, view_after_refusal, point_after_take}
use Rattle.core_steps.specs.Steps.{view_after_give, yielded, view_after_list, view_after_begin, view_after_own}
use Rattle.core_steps.specs.Steps.{view_after_again, player_loaded, view_after_state, view_after_commit, storing}
use Rattle.core_steps.specs.Machine.{Next, Begin, LoadOwn, LoadAgain, TakeNode, ClaimNode, ReadList, ReadPlayer}
use Rattle.core_steps.specs.Machine.{ReadState, CommitMove, StoreWord, GiveNode, YieldNode, YieldCount}

-- the view of the seat after its step, where this word was found
abbrev pub view_found : Fixed → View → Next → ℕ → View
view_found F view (Begin c) found = view_after_begin c found view
view_found F view LoadOwn found = view_after_own F found view
view_found F view LoadAgain found = view_after_again F found view
view_found F view (TakeNode node) found = if found == 0 then view_after_take node view
    else view_after_refusal node found view
view_found F view (ClaimNode e node) found = if found == 0 then view_after_claim F e node view
    else view_after_refusal node found view
view_found F view (ReadList node plan) found = view_after_list F node plan found view
view_found F view (ReadPlayer node part slot players plan) found =
    player_loaded F node (part ++ found ∷ []) slot players plan view
view_found F view (ReadState id ids) found = view_after_state id found ids view
view_found F view (CommitMove e nodes) found = view_after_commit F found e nodes view
view_found F view (StoreWord nodes store stores) found = record view { point = storing nodes stores }
view_found F view (GiveNode node) found = view_after_give F view view.point
view_found F view (YieldNode node) found =
    yielded view (inner_held F view.point) (leaves_held view.point view.wanted)
view_found F view YieldCount found = record (without_command view) { seen = found }

-- the word after a store that is owed, by the player of this slot, where this word was found
abbrev pub word_stored : ℕ → Store → ℕ → ℕ
word_stored slot (Clear node) found = without_bit found slot
word_stored slot (Put cell x) found = x
word_stored slot (Link node) found = with_bit found slot

-- the word after the step of the seat with this number, where this word was found
abbrev pub word_left : Fixed → ℕ → View → Next → ℕ → ℕ
word_left F i view (Begin c) found = found
word_left F i view LoadOwn found = found
word_left F i view LoadAgain found = found
word_left F i view (TakeNode node) found = if found == 0
    then held_word F i (stage_of (point_after_take node view.point)) view.wanted node else found
word_left F i view (ClaimNode e node) found = if found == 0 then held_word F i AtClaiming view.wanted node else found
word_left F i view (ReadList node plan) found = found
word_left F i view (ReadPlayer node part slot players plan) found = found
word_left F i view (ReadState id ids) found = found
word_left F i view (CommitMove e nodes) found = suc found
word_left F i view (StoreWord nodes store stores) found = word_stored view.cmd.slot store found
word_left F i view (GiveNode node) found = 0
word_left F i view (YieldNode node) found = 0
word_left F i view YieldCount found = found
