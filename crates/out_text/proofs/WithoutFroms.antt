-- The text of frames that are fed, without its `from` lines, is the text of frames with their packets in this order.
use Rattle.std.proofs.Common.{◌≡◌, ℕ, ◌+◌, Bool, true, false, not, cond, List, [], ◌∷◌, ◌++◌, map, filter, refl, sym, ap, ◌∙◌, append_assoc, append-nil}
use Rattle.std.specs.List.{AllByRecursion}
use Rattle.edge_io.specs.WholeLines.{unlines}
use Rattle.entity_recs.specs.declared.effect.Entry.{Entry}
use Rattle.arena_map.specs.Maps.{MapView}
use Rattle.packet_read.specs.declared.arrival.Arrival.{Arrival}
use Rattle.client_ports.specs.States.{State}
use Rattle.client_ports.specs.Receiving.{Receiving}
use Rattle.plain_server.specs.Frames.{received_in, state_after, first_of, rest_of}
use Rattle.out_text.specs.OutLines.{OutLine, FrameLine, FromLine, NoLine, JoinedLine, DidLine, ToLine, EndLine, printed_line, line_spelling, text_of}
use Rattle.out_text.specs.FrameLines.{lines_with, run_lines}
use Rattle.out_text.specs.Feeds.{from_line, with_froms, fed_lines, is_from_line, without_froms}
use Rattle.out_text.proofs.Quiet.{whole_lines-text}
use Rattle.out_text.proofs.FedReadBack.{IsOther, rest_lines, rest_are_others}

-- whether a line stays
abbrev stays : OutLine → Bool
stays line = not (is_from_line (line_spelling line))

-- the lines that stay
abbrev kept : List OutLine → List OutLine
kept lines = filter stays lines

other_stays : (line : OutLine) → IsOther line → stays line ≡ true
other_stays (FrameLine frame) other = absurd other
other_stays (FromLine port bytes) other = absurd other
other_stays (NoLine place why) other = refl
other_stays (JoinedLine port slot) other = refl
other_stays (DidLine did) other = refl
other_stays (ToLine slot bytes) other = refl
other_stays (EndLine frames) other = refl

kept-others : (lines more : List OutLine) → AllByRecursion IsOther lines → kept (lines ++ more) ≡ lines ++ kept more
kept-others [] more others = refl
kept-others (line ∷ lines) more others =
    ap (λ b. cond b (line ∷ kept (lines ++ more)) (kept (lines ++ more))) (other_stays line others.0) ∙ ap (λ ls. line ∷ ls) (kept-others lines more others.1)

kept-froms : (fed : List Arrival) (more : List OutLine) → kept (map from_line fed ++ more) ≡ kept more
kept-froms [] more = refl
kept-froms (a ∷ fed) more = kept-froms fed more

-- of a frame's lines those without its packets stay
kept-frame : (arena : MapView) (frame : ℕ) (r : Receiving) (journal : List Entry) (fed : List Arrival) (more : List OutLine)
    → kept (with_froms fed (lines_with arena frame r journal) ++ more) ≡ lines_with arena frame r journal ++ kept more
kept-frame arena frame r journal fed more =
    let rest = rest_lines arena frame r journal in
    ap (λ ls. FrameLine frame ∷ ls)
    (ap kept (append_assoc (map from_line fed) rest more) ∙ kept-froms fed (rest ++ more) ∙ kept-others rest more (rest_are_others arena frame r journal))

-- and so with frames
kept-run : (arena : MapView) (frame : ℕ) (s : State) (feeds : List (List Arrival)) (js : List (List Entry)) (more : List OutLine)
    → kept (fed_lines arena frame s feeds js ++ more) ≡ run_lines arena frame s feeds js ++ kept more
kept-run arena frame s [] js more = refl
kept-run arena frame s (fed ∷ feeds) js more =
    let r = received_in arena frame s fed in
    let here = lines_with arena frame r (first_of js) in
    let rest = fed_lines arena (frame + 1) (state_after arena r (first_of js)) feeds (rest_of js) in
    let played = run_lines arena (frame + 1) (state_after arena r (first_of js)) feeds (rest_of js) in
    ap kept (append_assoc (with_froms fed here) rest more) ∙ kept-frame arena frame r (first_of js) fed (rest ++ more)
    ∙ ap (λ ls. here ++ ls) (kept-run arena (frame + 1) (state_after arena r (first_of js)) feeds (rest_of js) more) ∙ sym (append_assoc here played (kept more))

-- the text of lines without the `from` lines is that of those that stay
without-text : (lines : List OutLine) → without_froms (text_of lines) ≡ text_of (kept lines)
without-text lines = ap (λ ls. unlines (filter (λ line. not (is_from_line line)) ls)) (whole_lines-text lines) ∙ each lines
  where
    by : (line : OutLine) (b : Bool) (texts : List (List ℕ)) (ls : List OutLine) → unlines texts ≡ text_of ls → unlines (cond b (line_spelling line ∷ texts) texts) ≡ text_of (cond b (line ∷ ls) ls)
    by line true texts ls same = ap (λ t. printed_line line ++ t) same
    by line false texts ls same = same

    each : (ls : List OutLine) → unlines (filter (λ line. not (is_from_line line)) (map line_spelling ls)) ≡ text_of (kept ls)
    each [] = refl
    each (line ∷ ls) = by line (stays line) (filter (λ text. not (is_from_line text)) (map line_spelling ls)) (kept ls) (each ls)

-- the text of frames
pub without-run : (arena : MapView) (frame : ℕ) (s : State) (feeds : List (List Arrival)) (js : List (List Entry))
    → without_froms (text_of (fed_lines arena frame s feeds js)) ≡ text_of (run_lines arena frame s feeds js)
without-run arena frame s feeds js =
    let lines = fed_lines arena frame s feeds js in
    without-text lines ∙ ap (λ ls. text_of (kept ls)) (sym (append-nil lines))
    ∙ ap text_of (kept-run arena frame s feeds js [] ∙ append-nil (run_lines arena frame s feeds js))

-- and that with the last line after it
pub without-whole : (arena : MapView) (frame : ℕ) (s : State) (feeds : List (List Arrival)) (js : List (List Entry)) (count : ℕ)
    → without_froms (text_of (fed_lines arena frame s feeds js ++ EndLine count ∷ [])) ≡ text_of (run_lines arena frame s feeds js ++ EndLine count ∷ [])
without-whole arena frame s feeds js count =
    without-text (fed_lines arena frame s feeds js ++ EndLine count ∷ []) ∙ ap text_of (kept-run arena frame s feeds js (EndLine count ∷ []))
