-- Two verdicts on one log are equal.
use Rattle.std.proofs.Common.{◌≡◌, ℕ, zero, suc, ◌+◌, ◌≤◌, List, [], ◌∷◌, ◌++◌, length, take, drop, refl, sym, ap, ◌∙◌, subst, inl, inr, arith, append-nil, append_assoc, length-append, take-append-drop}
use Rattle.std.proofs.lemmas.Bool.{cases_order}
use Rattle.std.proofs.lemmas.Option.{same_Some}
use Rattle.std.specs.List.{AllByRecursion}
use Rattle.entity_recs.specs.declared.effect.Entry.{Entry}
use Rattle.arena_map.specs.Maps.{MapView, IsMap}
use Rattle.packet_read.specs.declared.arrival.Arrival.{Arrival}
use Rattle.plain_server.specs.RecordsById.{opening}
use Rattle.plain_server.specs.Frames.{state_played, AreRight}
use Rattle.plain_server.proofs.Frames.{opening_is}
use Rattle.plain_server.proofs.Turns.{right_count}
use Rattle.demo_lines.specs.Spelling.{IsFrame, IsRecording}
use Rattle.out_text.specs.Feeds.{fed_lines}
use Rattle.out_text.specs.MatchLogs.{may_have_more, BeginsWithFrames, IsLog, HasRightFrames, IsWrongLogAfter}
use Rattle.out_text.specs.OutLines.{FrameLine, EndLine, line_spelling, text_of}
use Rattle.out_text.specs.Transcripts.{run_moves}
use Rattle.out_text.proofs.FedRuns.{fed_lines-append}
use Rattle.out_text.proofs.KeptRules.{map_within_keeps_rules}
use Rattle.out_text.proofs.Runs.{text_of-append, right-take}
use Rattle.transcript_check.specs.declared.verdict.Verdict.{Verdict}
use Rattle.transcript_check.specs.declared.verdict.Verdict.TheVariants.{Right, Wrong}
use Rattle.transcript_check.specs.Audits.{IsLogVerdict}
use Rattle.transcript_check.specs.LogLaws.{LogVerdictsAreOne}
use Rattle.transcript_check.proofs.LogsThere.{line-first, end-is-no-frame, last_of_log, log-there}
use Rattle.transcript_check.proofs.OneEnd.{end_once}
use Rattle.transcript_check.proofs.OneFeed.{AreThere, rest-ends, GoesOnWith, goes-on-with}
use Rattle.transcript_check.proofs.OneJournal.{text-next}
use Rattle.transcript_check.proofs.Texts.{one_line, same_line}

-- the packets and the journals are the same
record IsSameRun (xs ys : List (List Arrival)) (js ks : List (List Entry)) : Type 0 where
  feeds_are : xs ≡ ys
  journals_are : js ≡ ks

-- ---- the first of some frames

frames-take : (k : ℕ) (feeds : List (List Arrival)) → AllByRecursion IsFrame feeds → AllByRecursion IsFrame (take k feeds)
frames-take zero feeds each = tt
frames-take (suc k) [] each = tt
frames-take (suc k) (f ∷ feeds) each = (each.0, frames-take k feeds each.1)

taken : (k : ℕ) (feeds : List (List Arrival)) → k ≤ length feeds → length (take k feeds) ≡ k
taken zero feeds few = refl
taken (suc k) [] few = absurd (omega (arith, few))
taken (suc k) (f ∷ feeds) few = ap suc (taken k feeds (omega (arith, few)))

recorded-take : (map : MapView) (k : ℕ) (feeds : List (List Arrival)) → k ≤ length feeds → IsRecording map feeds → IsRecording map (take k feeds)
recorded-take map k feeds few recorded = record {
  is_map = recorded.is_map;
  few = (let all = recorded.few in let same = taken k feeds few in omega (arith, all, same, few));
  each = frames-take k feeds recorded.each;
  spawn = λ some. recorded.spawn (let same = taken k feeds few in omega (arith, same, few, some));
}

module _ (map : MapView) (is_map : IsMap map) (log : List ℕ) where
  -- ---- right logs

  -- of two right logs the one with no more frames is the other
  no-longer : (a b : IsLog map log) → length a.feeds ≤ length b.feeds → IsSameRun a.feeds b.feeds a.journals b.journals
  no-longer a b fewer = by on.more on.later on.feeds_are on.journals_are on.there
    where
      on : GoesOnWith map is_map 0 (opening map) a.feeds b.feeds a.journals b.journals (last_of_log map log a) (last_of_log map log b)
      on = goes-on-with map is_map 0 (opening map) a.feeds b.feeds a.journals b.journals log (last_of_log map log a) (last_of_log map log b) (opening_is map is_map)
          (let few = b.recorded.few in omega (arith, few)) fewer (log-there map log a) (log-there map log b)

      by : (rest : List (List Arrival)) (later : List (List Entry)) → b.feeds ≡ a.feeds ++ rest → b.journals ≡ a.journals ++ later
          → AreThere map (0 + length a.feeds) (state_played map 0 (opening map) a.feeds a.journals) rest later (last_of_log map log a) (last_of_log map log b)
          → IsSameRun a.feeds b.feeds a.journals b.journals
      by [] [] feeds journals next = record { feeds_are = sym (feeds ∙ append-nil a.feeds); journals_are = sym (journals ∙ append-nil a.journals) }
      by [] (j ∷ later) feeds journals next = absurd next.right
      by (f ∷ rest) [] feeds journals next = absurd next.right
      by (f ∷ rest) (j ∷ later) feeds journals next =
          let last = EndLine (length a.feeds) in
          let first = FrameLine (0 + length a.feeds) in
          let same = same_line (line_spelling last) (line_spelling first) a.begins.after _ (one_line last) (one_line first)
          (sym (line-first last a.begins.after) ∙ next.is ∙ text-next first _ (last_of_log map log b)) in
          absurd (end-is-no-frame (length a.feeds) (0 + length a.feeds) same.line_is)

  one-log : (a b : IsLog map log) → IsSameRun a.feeds b.feeds a.journals b.journals
  one-log a b =
      elim (cases_order (length a.feeds) (length b.feeds)) [
        | inl same ↦ no-longer a b (omega (arith, same))
        | inr (inl less) ↦ no-longer a b (omega (arith, less))
        | inr (inr more) ↦ (let back = no-longer b a (omega (arith, more)) in record { feeds_are = sym back.feeds_are; journals_are = sym back.journals_are })
      ]

  -- ---- right frames

  frames-there : (p : BeginsWithFrames map log) → AreThere map 0 (opening map) p.feeds p.journals log p.begins.after
  frames-there p = record { each = p.recorded.each; right = p.right; is = p.begins.is; whole = p.whole }

  -- as many right frames are the same
  same-frames : (a b : BeginsWithFrames map log) → length a.feeds ≡ length b.feeds → IsSameRun a.feeds b.feeds a.journals b.journals
  same-frames a b as_many = by on.more on.later on.feeds_are on.journals_are on.there.right
    where
      on : GoesOnWith map is_map 0 (opening map) a.feeds b.feeds a.journals b.journals a.begins.after b.begins.after
      on = goes-on-with map is_map 0 (opening map) a.feeds b.feeds a.journals b.journals log a.begins.after b.begins.after (opening_is map is_map)
          (let few = b.recorded.few in omega (arith, few)) (omega (arith, as_many)) (frames-there a) (frames-there b)

      by : (rest : List (List Arrival)) (later : List (List Entry)) → b.feeds ≡ a.feeds ++ rest → b.journals ≡ a.journals ++ later
          → AreRight map (0 + length a.feeds) (state_played map 0 (opening map) a.feeds a.journals) rest later → IsSameRun a.feeds b.feeds a.journals b.journals
      by [] [] feeds journals right = record { feeds_are = sym (feeds ∙ append-nil a.feeds); journals_are = sym (journals ∙ append-nil a.journals) }
      by [] (j ∷ later) feeds journals right = absurd right
      by (f ∷ rest) later feeds journals right = let long = ap length feeds ∙ length-append a.feeds (f ∷ rest) in absurd (omega (arith, long, as_many))

  -- the first of right frames are right
  fewer-frames : (k n : ℕ) → k ≤ n → HasRightFrames map log n → HasRightFrames map log k
  fewer-frames k n fewer p =
      let b = p.frames in
      let s = opening map in
      let few : k ≤ length b.feeds = (let count = p.count in omega (arith, count, fewer)) in
      let xs = take k b.feeds in
      let ys = drop k b.feeds in
      let js = take k b.journals in
      let ks = drop k b.journals in
      let right = right-take map 0 s k b.feeds b.journals b.right in
      let here = fed_lines map 0 s xs js in
      let next = state_played map 0 s xs js in
      let later = fed_lines map (0 + length xs) next ys ks in
      let parted : fed_lines map 0 s b.feeds b.journals ≡ here ++ later =
      ap (λ fs. fed_lines map 0 s fs b.journals) (sym (take-append-drop k b.feeds)) ∙ ap (λ ls. fed_lines map 0 s (xs ++ ys) ls) (sym (take-append-drop k b.journals))
      ∙ fed_lines-append map 0 s xs ys js ks (right_count map 0 s xs js right) in
      let both : length b.feeds ≡ length xs + length ys = ap length (sym (take-append-drop k b.feeds)) ∙ length-append xs ys in
      record {
        frames = record {
          feeds = xs;
          recorded = recorded-take map k b.feeds few b.recorded;
          journals = js;
          right = right;
          begins = record {
            after = text_of later ++ b.begins.after;
            is = b.begins.is ∙ ap (λ ls. text_of ls ++ b.begins.after) parted ∙ ap (λ t. t ++ b.begins.after) (text_of-append here later)
                ∙ append_assoc (text_of here) (text_of later) b.begins.after;
          };
          whole = rest-ends map is_map (0 + length xs) next here ys ks b.begins.after (let all = b.recorded.few in omega (arith, all, both))
              (λ more. b.whole (ap may_have_more parted ∙ more));
        };
        count = taken k b.feeds few;
      }

  -- ---- wrong logs

  -- the first wrong piece is one
  one-wrong_piece : (a b : ℕ) (one : IsWrongLogAfter map log a) (two : IsWrongLogAfter map log b) → one.k ≡ two.k
  one-wrong_piece a b one two =
      elim (cases_order one.k two.k) [
        | inl same ↦ same
        | inr (inl less) ↦ absurd (one.no_more (fewer-frames (one.k + 1) two.k (omega (arith, less)) two.pieces))
        | inr (inr more) ↦ absurd (two.no_more (fewer-frames (two.k + 1) one.k (omega (arith, more)) one.pieces))
      ]

  one-wrong : (a b : ℕ) → IsWrongLogAfter map log a → IsWrongLogAfter map log b → a ≡ b
  one-wrong a b one two =
      let same = same-frames one.pieces.frames two.pieces.frames (one.pieces.count ∙ one-wrong_piece a b one two ∙ sym two.pieces.count) in
      let lengths : length (fed_lines map 0 (opening map) one.pieces.frames.feeds one.pieces.frames.journals)
      ≡ length (fed_lines map 0 (opening map) two.pieces.frames.feeds two.pieces.frames.journals) = λ i. length (fed_lines map 0 (opening map) (same.feeds_are i) (same.journals_are i)) in
      one.lines_are ∙ lengths ∙ sym two.lines_are

  -- ---- verdicts

  one-verdict : (before : ℕ) (one two : Verdict) → IsLogVerdict map log before one → IsLogVerdict map log before two → one ≡ two
  one-verdict before (Right count moves) (Right other more) a b =
      let same = one-log a.is b.is in
      let counts : count ≡ other = a.count_is ∙ ap length same.feeds_are ∙ sym b.count_is in
      let run : run_moves map 0 (opening map) a.is.feeds a.is.journals ≡ run_moves map 0 (opening map) b.is.feeds b.is.journals =
      λ i. run_moves map 0 (opening map) (same.feeds_are i) (same.journals_are i) in
      let moved : moves ≡ more = a.moves_are ∙ run ∙ sym b.moves_are in
      λ i. Right (counts i) (moved i)
  one-verdict before (Right count moves) (Wrong line) a b = absurd (b.wrong.not_all a.is)
  one-verdict before (Wrong line) (Right count moves) a b = absurd (a.wrong.not_all b.is)
  one-verdict before (Wrong line) (Wrong other) a b =
      ap Wrong (a.line_is ∙ ap (λ (n : ℕ). before + n + 1) (one-wrong a.lines b.lines a.wrong b.wrong) ∙ sym b.line_is)

pub one_log_verdict : LogVerdictsAreOne
one_log_verdict bytes one two a b =
    let ends = end_once 0 bytes a.end_line b.end_line a.log b.log a.parts b.parts in
    let maps : a.map ≡ b.map = same_Some a.map b.map (sym a.map_is ∙ b.map_is) in
    let here : IsLogVerdict a.map a.log a.end_line two =
    subst (λ (n : ℕ). IsLogVerdict a.map a.log n two) (sym ends.line_is)
    (subst (λ (r : List ℕ). IsLogVerdict a.map r b.end_line two) (sym ends.rest_is) (subst (λ (m : MapView). IsLogVerdict m b.log b.end_line two) (sym maps) b.is)) in
    one-verdict a.map (map_within_keeps_rules 0 bytes a.map a.map_is) a.log a.end_line one two a.is here
