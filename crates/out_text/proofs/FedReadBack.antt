-- The order of arrival and the journals that are read off the text of frames that are fed are those of the frames.
use Rattle.std.proofs.Common.{◌≡◌, ℕ, ◌+◌, ◌^◌, ◌<◌, ◌≤◌, List, [], ◌∷◌, ◌++◌, length, map, Option, Some, None, refl, sym, ap, ◌∙◌, append_assoc, append-nil, arith}
use Rattle.std.specs.Bool.{⊤}
use Rattle.std.specs.List.{AllByRecursion}
use Rattle.entity_recs.specs.declared.effect.Entry.{Entry}
use Rattle.arena_map.specs.Maps.{MapView}
use Rattle.world_tree.specs.Live.{live_in}
use Rattle.packet_read.specs.declared.arrival.Arrival.{Arrival}
use Rattle.client_ports.specs.States.{State}
use Rattle.client_ports.specs.Receiving.{Receiving}
use Rattle.plain_server.specs.Entries.{AreReported}
use Rattle.plain_server.specs.Frames.{received_in, moved_by, state_after}
use Rattle.plain_server.specs.Replies.{players_in}
use Rattle.out_text.specs.Dids.{Did, did_of}
use Rattle.out_text.specs.OutLines.{OutLine, FrameLine, FromLine, NoLine, JoinedLine, DidLine, ToLine, EndLine, line_spelling, text_of}
use Rattle.out_text.specs.FrameLines.{no_line, joined_line, did_line, to_line, lines_with}
use Rattle.out_text.specs.Reading.{line_in}
use Rattle.out_text.specs.Journals.{dids}
use Rattle.out_text.specs.Feeds.{from_line, with_froms, fed_lines, Mark, Opens, Arrives, Other, mark_of_line, Split, onto, split_at_frames, froms}
use Rattle.out_text.proofs.Quiet.{IsSilent, split_of, split-silent, silent_both, silent_each, dids-text, whole_lines-text}
use Rattle.out_text.proofs.Spellings.{split-lines}
use Rattle.out_text.proofs.ReadBack.{AreAllReported, each_reads_back, all_from-reported}
use Rattle.out_text.proofs.LinesRead.{line-back, line-sound}
use Rattle.out_text.proofs.SmallFrames.{HasPort}
use Rattle.out_text.proofs.Fitting.{IsShort}

-- ---- packets that can be read back

-- the packet has bytes, at most 252, and a port of 16 bits
pub record IsRead (a : Arrival) : Type 0 where
  pub port : HasPort a
  pub short : IsShort a
  pub bytes : AllByRecursion (λ b. b < 2 ^ 8) a.bytes

abbrev pub AreRead : List (List Arrival) → Type 0
AreRead feeds = AllByRecursion (λ fed. AllByRecursion IsRead fed) feeds

-- ---- what a line is to the order of arrival

-- the mark of a line, once it is spelled
abbrev mark : OutLine → Mark
mark line = mark_of_line (line_in (line_spelling line))

abbrev pub marked : List OutLine → Split
marked lines = split_at_frames (map mark lines)

mark-frame : (frame : ℕ) → frame ≤ 4294967295 → mark (FrameLine frame) ≡ Opens
mark-frame frame small = ap mark_of_line (line-back (FrameLine frame) (omega (arith, small)))

mark-from : (a : Arrival) → IsRead a → mark (from_line a) ≡ Arrives a
mark-from a is =
    let port = is.port in
    ap mark_of_line (line-back (from_line a) (record { port_fits = omega (arith, port); most = is.short; are_bytes = is.bytes }))

-- the line opens no frame and is no packet
abbrev pub IsOther : OutLine → Type 0
IsOther (FrameLine frame) = ⊥
IsOther (FromLine port bytes) = ⊥
IsOther (NoLine place why) = ⊤
IsOther (JoinedLine port slot) = ⊤
IsOther (DidLine did) = ⊤
IsOther (ToLine slot bytes) = ⊤
IsOther (EndLine frames) = ⊤

abbrev first_byte : List ℕ → ℕ
first_byte [] = 0
first_byte (b ∷ bytes) = b

-- no such line begins with an f
no_f : (line : OutLine) → IsOther line → first_byte (line_spelling line) ≡ 102 → ⊥
no_f (FrameLine frame) other e = other
no_f (FromLine port bytes) other e = other
no_f (NoLine place why) other e = let h : 110 ≡ 102 = e in omega (arith, h)
no_f (JoinedLine port slot) other e = let h : 106 ≡ 102 = e in omega (arith, h)
no_f (DidLine did) other e = let h : 100 ≡ 102 = e in omega (arith, h)
no_f (ToLine slot bytes) other e = let h : 116 ≡ 102 = e in omega (arith, h)
no_f (EndLine frames) other e = let h : 101 ≡ 102 = e in omega (arith, h)

mark-other : (line : OutLine) → IsOther line → mark line ≡ Other
mark-other line other = by (line_in (line_spelling line)) refl
  where
    by : (o : Option OutLine) → line_in (line_spelling line) ≡ o → mark_of_line o ≡ Other
    by None e = refl
    by (Some (FrameLine frame)) e = absurd (no_f line other (ap first_byte (line-sound (line_spelling line) (FrameLine frame) e).spelled))
    by (Some (FromLine port bytes)) e = absurd (no_f line other (ap first_byte (line-sound (line_spelling line) (FromLine port bytes) e).spelled))
    by (Some (NoLine place why)) e = refl
    by (Some (JoinedLine port slot)) e = refl
    by (Some (DidLine did)) e = refl
    by (Some (ToLine slot bytes)) e = refl
    by (Some (EndLine frames)) e = refl

-- ---- lines

marked-others : (lines more : List OutLine) → AllByRecursion IsOther lines → marked (lines ++ more) ≡ marked more
marked-others [] more others = refl
marked-others (line ∷ lines) more others =
    ap (λ m. onto m (marked (lines ++ more))) (mark-other line others.0) ∙ marked-others lines more others.1

others_both : (lines more : List OutLine) → AllByRecursion IsOther lines → AllByRecursion IsOther more → AllByRecursion IsOther (lines ++ more)
others_both [] more p q = q
others_both (line ∷ lines) more p q = (p.0, others_both lines more p.1 q)

others_each : {X : Type 0} (f : X → OutLine) (xs : List X) → ((x : X) → IsOther (f x)) → AllByRecursion IsOther (map f xs)
others_each f [] other = tt
others_each f (x ∷ xs) other = (other x, others_each f xs other)

marked-froms : (fed : List Arrival) (more : List OutLine) (feeds : List (List Arrival)) → AllByRecursion IsRead fed → marked more ≡ record { before = []; frames = feeds }
    → marked (map from_line fed ++ more) ≡ record { before = fed; frames = feeds }
marked-froms [] more feeds are is = is
marked-froms (a ∷ fed) more feeds are is =
    ap (λ m. onto m (marked (map from_line fed ++ more))) (mark-from a are.0) ∙ ap (onto (Arrives a)) (marked-froms fed more feeds are.1 is)

-- the lines of a frame after the first
abbrev pub rest_lines : MapView → ℕ → Receiving → List Entry → List OutLine
rest_lines arena frame r journal =
    map no_line r.lists.refused ++ map joined_line r.lists.joined ++ map did_line journal
    ++ map (to_line frame (live_in (moved_by arena r journal).records)) (players_in (moved_by arena r journal).records)

pub rest_are_others : (arena : MapView) (frame : ℕ) (r : Receiving) (journal : List Entry) → AllByRecursion IsOther (rest_lines arena frame r journal)
rest_are_others arena frame r journal =
    let records = (moved_by arena r journal).records in
    let refused = map no_line r.lists.refused in
    let joined = map joined_line r.lists.joined in
    let moves = map did_line journal in
    let tos = map (to_line frame (live_in records)) (players_in records) in
    others_both (refused ++ joined ++ moves) tos
    (others_both (refused ++ joined) moves
    (others_both refused joined (others_each no_line r.lists.refused (λ t. tt)) (others_each joined_line r.lists.joined (λ j. tt)))
    (others_each did_line journal (λ e. tt)))
    (others_each (to_line frame (live_in records)) (players_in records) (λ me. tt))

marked-frame : (arena : MapView) (frame : ℕ) → frame ≤ 4294967295 → (r : Receiving) (journal : List Entry) (fed : List Arrival) (more : List OutLine) (feeds : List (List Arrival)) → AllByRecursion IsRead fed
    → marked more ≡ record { before = []; frames = feeds } → marked (with_froms fed (lines_with arena frame r journal) ++ more) ≡ record { before = []; frames = fed ∷ feeds }
marked-frame arena frame small r journal fed more feeds are is =
    let rest = rest_lines arena frame r journal in
    ap (λ m. onto m (marked ((map from_line fed ++ rest) ++ more))) (mark-frame frame small)
    ∙ ap (onto Opens) (ap marked (append_assoc (map from_line fed) rest more)
    ∙ marked-froms fed (rest ++ more) feeds are (marked-others rest more (rest_are_others arena frame r journal) ∙ is))

marked-run : (arena : MapView) (frame : ℕ) (s : State) (feeds : List (List Arrival)) (js : List (List Entry)) (more : List OutLine) → frame + length feeds ≤ 4294967295 → length js ≡ length feeds
    → AreRead feeds → AllByRecursion IsOther more → marked (fed_lines arena frame s feeds js ++ more) ≡ record { before = []; frames = feeds }
marked-run arena frame s [] [] more small same are others = ap marked (sym (append-nil more)) ∙ marked-others more [] others
marked-run arena frame s [] (j ∷ js) more small same are others = cc
marked-run arena frame s (fed ∷ feeds) [] more small same are others = cc
marked-run arena frame s (fed ∷ feeds) (j ∷ js) more small same are others =
    let r = received_in arena frame s fed in
    let rest = fed_lines arena (frame + 1) (state_after arena r j) feeds js in
    let same_rest : length js ≡ length feeds = cc in
    ap marked (append_assoc (with_froms fed (lines_with arena frame r j)) rest more)
    ∙ marked-frame arena frame (omega arith) r j fed (rest ++ more) feeds are.0
    (marked-run arena (frame + 1) (state_after arena r j) feeds js more (omega arith) same_rest are.1 others)

-- the order of arrival of a text is that of its lines
froms-text : (lines : List OutLine) (feeds : List (List Arrival)) → marked lines ≡ record { before = []; frames = feeds } → froms (text_of lines) ≡ feeds
froms-text lines feeds is =
    ap (λ ls. (split_at_frames (map (λ line. mark_of_line (line_in line)) ls)).frames) (whole_lines-text lines)
    ∙ ap (λ ms. (split_at_frames ms).frames) (each_mark lines) ∙ ap (λ (s : Split). s.frames) is
  where
    each_mark : (ls : List OutLine) → map (λ line. mark_of_line (line_in line)) (map line_spelling ls) ≡ map mark ls
    each_mark [] = refl
    each_mark (l ∷ ls) = ap (λ ms. mark l ∷ ms) (each_mark ls)

-- the order of arrival that is read off the text of frames
pub froms-run : (arena : MapView) (frame : ℕ) (s : State) (feeds : List (List Arrival)) (js : List (List Entry)) → frame + length feeds ≤ 4294967295 → length js ≡ length feeds
    → AreRead feeds → froms (text_of (fed_lines arena frame s feeds js)) ≡ feeds
froms-run arena frame s feeds js small same are =
    let lines = fed_lines arena frame s feeds js in
    froms-text lines feeds (ap marked (sym (append-nil lines)) ∙ marked-run arena frame s feeds js [] small same are tt)

-- and that with the last line after it
pub froms-whole : (arena : MapView) (frame : ℕ) (s : State) (feeds : List (List Arrival)) (js : List (List Entry)) (count : ℕ) → frame + length feeds ≤ 4294967295 → length js ≡ length feeds
    → AreRead feeds → froms (text_of (fed_lines arena frame s feeds js ++ EndLine count ∷ [])) ≡ feeds
froms-whole arena frame s feeds js count small same are =
    froms-text (fed_lines arena frame s feeds js ++ EndLine count ∷ []) feeds (marked-run arena frame s feeds js (EndLine count ∷ []) small same are (tt, tt))

-- no frame
pub froms-none : froms (text_of []) ≡ []
froms-none = froms-text [] [] refl

-- ---- the journals

lines_with_froms : (f a b d t : List OutLine) → f ++ (a ++ b ++ d ++ t) ≡ (f ++ (a ++ b)) ++ d ++ t
lines_with_froms f a b d t = simp append_assoc

split-fed : (arena : MapView) (frame : ℕ) → frame ≤ 4294967295 → (r : Receiving) (journal : List Entry) (fed : List Arrival) (more : List OutLine) (reports : List (List Did)) → AreReported 0 journal
    → split_of more ≡ record { before = []; frames = reports } → split_of (with_froms fed (lines_with arena frame r journal) ++ more) ≡ record { before = []; frames = map did_of journal ∷ reports }
split-fed arena frame small r journal fed more reports are is =
    let records = (moved_by arena r journal).records in
    let refused = map no_line r.lists.refused in
    let joined = map joined_line r.lists.joined in
    let arrived = map from_line fed in
    let tos = map (to_line frame (live_in records)) (players_in records) in
    ap (λ ls. split_of (FrameLine frame ∷ (ls ++ more))) (lines_with_froms arrived refused joined (map did_line journal) tos)
    ∙ split-lines frame small (arrived ++ (refused ++ joined)) journal tos more reports
    (silent_both arrived (refused ++ joined) (silent_each from_line fed (λ a. tt))
    (silent_both refused joined (silent_each no_line r.lists.refused (λ t. tt)) (silent_each joined_line r.lists.joined (λ j. tt))))
    (each_reads_back 0 journal are) (silent_each (to_line frame (live_in records)) (players_in records) (λ me. tt)) is

split-run : (arena : MapView) (frame : ℕ) (s : State) (feeds : List (List Arrival)) (js : List (List Entry)) (more : List OutLine) → frame + length feeds ≤ 4294967295 → length js ≡ length feeds
    → AreAllReported js → AllByRecursion IsSilent more → split_of (fed_lines arena frame s feeds js ++ more) ≡ record { before = []; frames = map (map did_of) js }
split-run arena frame s [] [] more small same are silent = ap split_of (sym (append-nil more)) ∙ split-silent more [] silent
split-run arena frame s [] (j ∷ js) more small same are silent = cc
split-run arena frame s (fed ∷ feeds) [] more small same are silent = cc
split-run arena frame s (fed ∷ feeds) (j ∷ js) more small same are silent =
    let r = received_in arena frame s fed in
    let rest = fed_lines arena (frame + 1) (state_after arena r j) feeds js in
    let same_rest : length js ≡ length feeds = cc in
    ap split_of (append_assoc (with_froms fed (lines_with arena frame r j)) rest more)
    ∙ split-fed arena frame (omega arith) r j fed (rest ++ more) (map (map did_of) js) are.0
    (split-run arena (frame + 1) (state_after arena r j) feeds js more (omega arith) same_rest are.1 silent)

-- the journals that are read off the text of frames
pub fed_dids-run : (arena : MapView) (frame : ℕ) (s : State) (feeds : List (List Arrival)) (js : List (List Entry)) → frame + length feeds ≤ 4294967295 → length js ≡ length feeds
    → AreAllReported js → dids (text_of (fed_lines arena frame s feeds js)) ≡ js
fed_dids-run arena frame s feeds js small same are =
    let lines = fed_lines arena frame s feeds js in
    dids-text lines (map (map did_of) js) (ap split_of (sym (append-nil lines)) ∙ split-run arena frame s feeds js [] small same are tt) ∙ all_from-reported js are

-- and those that are read off it with the last line after it
pub fed_dids-whole : (arena : MapView) (frame : ℕ) (s : State) (feeds : List (List Arrival)) (js : List (List Entry)) (count : ℕ) → frame + length feeds ≤ 4294967295 → length js ≡ length feeds
    → AreAllReported js → dids (text_of (fed_lines arena frame s feeds js ++ EndLine count ∷ [])) ≡ js
fed_dids-whole arena frame s feeds js count small same are =
    let lines = fed_lines arena frame s feeds js in
    dids-text (lines ++ EndLine count ∷ []) (map (map did_of) js) (split-run arena frame s feeds js (EndLine count ∷ []) small same are (tt, tt)) ∙ all_from-reported js are
