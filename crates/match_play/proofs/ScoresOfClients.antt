-- The score of frames, slot by slot.
use Rattle.std.proofs.Common.{◌≡◌, ℕ, zero, suc, ◌+◌, ◌≤◌, Bool, true, false, cond, [], Option, Some, None, is_some, add-one, refl, sym, ap, ◌∙◌, arith}
use Rattle.std.specs.Prelude.{sum_by}
use Rattle.std.specs.List.{range_with_len}
use Rattle.std.proofs.lemmas.List.Sums.{sum_by-cons}
use Rattle.entity_recs.specs.declared.rec.Rec.{Rec}
use Rattle.world_tree.specs.Live.{record_at}
use Rattle.client_ports.specs.Clients.{client_at}
use Rattle.client_ports.specs.States.{State, HaveSameLive}
use Rattle.plain_server.specs.RecordsById.{opening}
use Rattle.plain_server.specs.Frames.{state_played}
use Rattle.plain_server.proofs.Frames.{played_is, opening_is}
use Rattle.frame_phases.specs.Scores.{score_at}
use Rattle.frame_phases.proofs.Scoring.{score_first, score-next, score-all}
use Rattle.match_play.specs.TotalsOfLines.{score_of_slot}
use Rattle.match_play.specs.Laws.{ScoresAreOfTheClients}

-- one number more in a range
sum-more : (f : ℕ → ℕ) (a n : ℕ) → sum_by f (range_with_len a (suc n)) ≡ sum_by f (range_with_len a n) + f (a + n)
sum-more f a zero = omega (arith, sum_by-cons f a [], ap f (add_nothing a))
  where
    add_nothing : (b : ℕ) → b + 0 ≡ b
    add_nothing b = omega arith
sum-more f a (suc n) =
    let same : a + 1 + n ≡ a + suc n = omega arith in
    omega (arith, sum_by-cons f a (range_with_len (a + 1) (suc n)), sum_by-cons f a (range_with_len (a + 1) n), sum-more f (a + 1) n, ap f same)

-- a slot has a score only where it has a client
slot_score : (live : Bool) (place : Option Rec) → live ≡ is_some place → cond live (score_at place) 0 ≡ score_at place
slot_score true place same = refl
slot_score false None same = refl
slot_score false (Some r) same = cc

-- the scores of the first slots
first_scores : (state : State) → HaveSameLive state.clients state.records → (n : ℕ) → n ≤ 64
    → sum_by (score_of_slot state) (range_with_len 0 n) ≡ score_first n state.records
first_scores state live zero few = refl
first_scores state live (suc n) few =
    let place = record_at state.records n in
    let rest = first_scores state live n (omega (arith, few)) in
    let here = slot_score (is_some (client_at state.clients n)) place (live.same n (omega (arith, few))) in
    let number : 0 + n ≡ n = omega arith in
    sum-more (score_of_slot state) 0 n ∙ ap (λ (k : ℕ). sum_by (score_of_slot state) (range_with_len 0 n) + score_of_slot state k) number
    ∙ score-next state.records n (sum_by (score_of_slot state) (range_with_len 0 n)) (score_of_slot state n) rest here
    ∙ ap (λ (k : ℕ). score_first k state.records) (add-one n)

pub scores_are_of_the_clients : ScoresAreOfTheClients
scores_are_of_the_clients = λ map frames js is.
    let state = state_played map 0 (opening map) frames js in
    let fits = (played_is map 0 (opening map) frames js is (opening_is map is)).fits in
    let all = first_scores state fits.live 64 (omega arith) in
    sym (score-all state.records 64 (sum_by (score_of_slot state) (range_with_len 0 64))
    (λ id r at. record { is_record = (fits.valid.each id r at).is_record; own_id = (fits.valid.each id r at).own_id }) refl all)
