-- Verdicts speak of the outputs of `play`, which takes recordings with more frames.
use Rattle.std.proofs.Common.{◌≡◌, ℕ, ◌≤◌, List, length, None, refl, sym, ap, ◌∙◌, subst}
use Rattle.arena_map.specs.declared.limits.TheConstants.{MOST_FRAMES}
use Rattle.packet_read.specs.declared.arrival.Arrival.{Arrival}
use Rattle.demo_lines.specs.declared.event.Event.{Event}
use Rattle.demo_lines.specs.Bytes.{fault_within}
use Rattle.demo_lines.proofs.Limited.{limits_cut_nothing}
use Rattle.plain_server.specs.RecordsById.{opening}
use Rattle.out_text.specs.Collecting.{frames_of_events, frames_within, frames_of}
use Rattle.out_text.specs.Transcripts.{IsTranscript, run_moves}
use Rattle.transcript_check.specs.declared.verdict.Verdict.TheVariants.{Right, Wrong}
use Rattle.transcript_check.specs.Verdicts.{IsJudged}
use Rattle.transcript_check.specs.Laws.{BeginsWithOutput, VerdictsAreOnOutputs}
use Rattle.transcript_check.proofs.OutputsChecked.{exclude, outputs_right, right_outputs}

-- the frames are the same with the limit
pub same_frames : (limit : ℕ) (bytes : List ℕ) → limit ≤ MOST_FRAMES → fault_within limit bytes ≡ None → frames_of bytes ≡ frames_within limit bytes
same_frames limit bytes low none = ap (λ (es : List Event). (frames_of_events es).closed) (limits_cut_nothing.same limit bytes low none).events

right_verdict : (workers limit count moves : ℕ) (bytes : List ℕ) (is : IsJudged limit (Right count moves) bytes) → (workers ≡ 1 → ⊥) → limit ≤ MOST_FRAMES → BeginsWithOutput workers bytes is.rest
right_verdict workers limit count moves bytes is many low =
    let same = limits_cut_nothing.same limit bytes low is.accepted in
    let frames = same_frames limit bytes low is.accepted in
    right_outputs workers bytes is.map is.rest many same.accepted (same.map ∙ is.map_is)
    (subst (λ (fs : List (List Arrival)). IsTranscript is.map fs is.rest) (sym frames) is.is.transcript)

wrong_verdict : (workers limit line : ℕ) (bytes : List ℕ) (is : IsJudged limit (Wrong line) bytes) → limit ≤ MOST_FRAMES → BeginsWithOutput workers bytes is.rest → ⊥
wrong_verdict workers limit line bytes is low begins =
    let same = limits_cut_nothing.same limit bytes low is.accepted in
    let frames = frames_within limit bytes in
    let right : IsTranscript is.map frames is.rest = subst (λ (fs : List (List Arrival)). IsTranscript is.map fs is.rest) (same_frames limit bytes low is.accepted)
    (outputs_right workers bytes is.map is.rest (same.map ∙ is.map_is) begins) in
    exclude is.map frames is.rest (length frames) (run_moves is.map 0 (opening is.map) frames right.journals) is.end_line line
    (record { transcript = right; count_is = refl; moves_are = refl }) is.is

pub verdicts_are_on_outputs : VerdictsAreOnOutputs
verdicts_are_on_outputs = record { right = right_verdict; wrong = wrong_verdict }
