-- Two verdicts on one input are equal.
use Rattle.std.proofs.Common.{◌≡◌, ℕ, ◌+◌, ◌≤◌, List, length, take, sym, ap, ◌∙◌, subst, inl, inr, arith, take-take}
use Rattle.std.proofs.lemmas.Bool.{cases_order}
use Rattle.std.proofs.lemmas.Option.{same_Some}
use Rattle.entity_recs.specs.declared.effect.Entry.{Entry}
use Rattle.arena_map.specs.Maps.{MapView, IsMap}
use Rattle.packet_read.specs.declared.arrival.Arrival.{Arrival}
use Rattle.plain_server.specs.RecordsById.{opening}
use Rattle.plain_server.specs.Frames.{AreRight}
use Rattle.plain_server.proofs.Frames.{opening_is}
use Rattle.out_text.specs.Collecting.{frames_within}
use Rattle.out_text.specs.FrameLines.{run_lines}
use Rattle.out_text.specs.OutLines.{text_of}
use Rattle.out_text.specs.Transcripts.{BeginsWith, run_moves, IsTranscript, HasRightPieces, IsWrongAfter}
use Rattle.out_text.proofs.Arrivals.{frames_within_have_bytes}
use Rattle.out_text.proofs.KeptRules.{map_within_keeps_rules}
use Rattle.out_text.proofs.Reporting.{HaveBytes}
use Rattle.out_text.proofs.Runs.{right-take}
use Rattle.transcript_check.specs.declared.verdict.Verdict.{Verdict}
use Rattle.transcript_check.specs.declared.verdict.Verdict.TheVariants.{Right, Wrong}
use Rattle.transcript_check.specs.Verdicts.{IsVerdict}
use Rattle.transcript_check.specs.Laws.{VerdictsAreOne}
use Rattle.transcript_check.proofs.FramesRead.{front-begins, frames-begin}
use Rattle.transcript_check.proofs.OneEnd.{end_once}
use Rattle.transcript_check.proofs.OneJournal.{same-journals, first_have_bytes}
use Rattle.transcript_check.proofs.OutputsChecked.{exclude}

module _ (map : MapView) (is_map : IsMap map) (frames : List (List Arrival)) (have : HaveBytes frames) (rest : List ℕ) where
  -- ---- right transcripts

  one-transcript : (one two : IsTranscript map frames rest) → one.journals ≡ two.journals
  one-transcript one two =
      same-journals map is_map 0 (opening map) frames one.journals two.journals rest (opening_is map is_map) have one.right two.right (frames-begin map frames rest one) (frames-begin map frames rest two)

  -- ---- right pieces

  -- right pieces of more frames
  fewer-pieces : (k n : ℕ) → k ≤ n → HasRightPieces map frames rest n → HasRightPieces map frames rest k
  fewer-pieces k n fewer p =
      let taken : take k (take n frames) ≡ take k frames = take-take k n frames fewer in
      record {
        few = (let few = p.few in omega (arith, few, fewer));
        journals = take k p.journals;
        right = subst (λ (fs : List (List Arrival)). AreRight map 0 (opening map) fs (take k p.journals)) taken (right-take map 0 (opening map) k (take n frames) p.journals p.right);
        begins = subst (λ (fs : List (List Arrival)). BeginsWith rest (text_of (run_lines map 0 (opening map) fs (take k p.journals)))) taken
            (front-begins map (take n frames) p.journals rest k p.right p.begins);
      }

  -- as many right pieces have as many lines
  one-length : (k n : ℕ) → k ≡ n → (js ks : List (List Entry)) → AreRight map 0 (opening map) (take k frames) js → AreRight map 0 (opening map) (take n frames) ks
      → BeginsWith rest (text_of (run_lines map 0 (opening map) (take k frames) js)) → BeginsWith rest (text_of (run_lines map 0 (opening map) (take n frames) ks))
      → length (run_lines map 0 (opening map) (take k frames) js) ≡ length (run_lines map 0 (opening map) (take n frames) ks)
  one-length k n same js ks right other one two =
      let there : AreRight map 0 (opening map) (take k frames) ks = subst (λ (m : ℕ). AreRight map 0 (opening map) (take m frames) ks) (sym same) other in
      let begun : BeginsWith rest (text_of (run_lines map 0 (opening map) (take k frames) ks)) =
      subst (λ (m : ℕ). BeginsWith rest (text_of (run_lines map 0 (opening map) (take m frames) ks))) (sym same) two in
      let journals = same-journals map is_map 0 (opening map) (take k frames) js ks rest (opening_is map is_map) (first_have_bytes k frames have) right there one begun in
      ap (λ (ls : List (List Entry)). length (run_lines map 0 (opening map) (take k frames) ls)) journals ∙ ap (λ (m : ℕ). length (run_lines map 0 (opening map) (take m frames) ks)) same

  -- the first wrong piece is one
  one-wrong_piece : (a b : ℕ) (one : IsWrongAfter map frames rest a) (two : IsWrongAfter map frames rest b) → one.k ≡ two.k
  one-wrong_piece a b one two =
      elim (cases_order one.k two.k) [
        | inl same ↦ same
        | inr (inl less) ↦ absurd (one.no_more (fewer-pieces (one.k + 1) two.k (omega (arith, less)) two.pieces))
        | inr (inr more) ↦ absurd (two.no_more (fewer-pieces (two.k + 1) one.k (omega (arith, more)) one.pieces))
      ]

  one-wrong : (a b : ℕ) → IsWrongAfter map frames rest a → IsWrongAfter map frames rest b → a ≡ b
  one-wrong a b one two =
      one.lines_are
      ∙ one-length one.k two.k (one-wrong_piece a b one two) one.pieces.journals two.pieces.journals one.pieces.right two.pieces.right one.pieces.begins two.pieces.begins
      ∙ sym two.lines_are

  -- ---- verdicts

  one-verdict : (before : ℕ) (one two : Verdict) → IsVerdict map frames rest before one → IsVerdict map frames rest before two → one ≡ two
  one-verdict before (Right count moves) (Right other more) a b =
      let counts : count ≡ other = a.count_is ∙ sym b.count_is in
      let moved : moves ≡ more = a.moves_are ∙ ap (run_moves map 0 (opening map) frames) (one-transcript a.transcript b.transcript) ∙ sym b.moves_are in
      λ i. Right (counts i) (moved i)
  one-verdict before (Right count moves) (Wrong line) a b = absurd (exclude map frames rest count moves before line a b)
  one-verdict before (Wrong line) (Right count moves) a b = absurd (exclude map frames rest count moves before line b a)
  one-verdict before (Wrong line) (Wrong other) a b =
      ap Wrong (a.line_is ∙ ap (λ (n : ℕ). before + n + 1) (one-wrong a.lines b.lines a.wrong b.wrong) ∙ sym b.line_is)

pub one_verdict : VerdictsAreOne
one_verdict limit bytes one two a b =
    let ends = end_once limit bytes a.end_line b.end_line a.rest b.rest a.parts b.parts in
    let maps : a.map ≡ b.map = same_Some a.map b.map (sym a.map_is ∙ b.map_is) in
    let frames = frames_within limit bytes in
    let here : IsVerdict a.map frames a.rest a.end_line two =
    subst (λ (n : ℕ). IsVerdict a.map frames a.rest n two) (sym ends.line_is)
    (subst (λ (r : List ℕ). IsVerdict a.map frames r b.end_line two) (sym ends.rest_is) (subst (λ (m : MapView). IsVerdict m frames b.rest b.end_line two) (sym maps) b.is)) in
    one-verdict a.map (map_within_keeps_rules limit bytes a.map a.map_is) frames (frames_within_have_bytes limit bytes) a.rest a.end_line one two a.is here
