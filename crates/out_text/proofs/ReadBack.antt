-- The journals that are read off the text of frames are the journals of the frames.
use Rattle.std.proofs.Common.{◌≡◌, ℕ, suc, ◌+◌, ◌^◌, ◌<◌, ◌≤◌, true, nat_lt, nat_le, ℤ, pos, negsuc, unsigned_abs, List, [], ◌∷◌, ◌++◌, length, map, refl, sym, ap, ◌∙◌, append_assoc, append-nil, arith}
use Rattle.std.proofs.lemmas.Bool.{and_from, le-leb}
use Rattle.std.proofs.lemmas.Bool.Decides.{nat_tests}
use Rattle.std.specs.List.{list_all, AllByRecursion}
use Rattle.entity_recs.specs.declared.effect.Entry.{Entry}
use Rattle.arena_map.specs.Maps.{MapView}
use Rattle.world_tree.specs.Live.{live_in}
use Rattle.packet_read.specs.declared.arrival.Arrival.{Arrival}
use Rattle.client_ports.specs.States.{State}
use Rattle.client_ports.specs.Receiving.{Receiving}
use Rattle.plain_server.specs.Entries.{IsReported, AreReported}
use Rattle.plain_server.specs.Frames.{received_in, moved_by, state_after}
use Rattle.out_text.specs.Dids.{Did, did_of, journal_from}
use Rattle.out_text.specs.OutLines.{OutLine, EndLine, text_of}
use Rattle.plain_server.specs.Replies.{players_in}
use Rattle.out_text.specs.FrameLines.{no_line, joined_line, to_line, lines_with, run_lines}
use Rattle.out_text.specs.Journals.{is_coordinate, is_reportable, dids}
use Rattle.out_text.proofs.Quiet.{IsSilent, split_of, split-silent, silent_both, silent_each, dids-text}
use Rattle.out_text.proofs.Spellings.{CanBeRead, split-lines}

-- the entries of each journal have their places and are in range
abbrev pub AreAllReported : List (List Entry) → Type 0
AreAllReported journals = AllByRecursion (AreReported 0) journals

is_coordinate-near : (z : ℤ) → unsigned_abs z ≤ 1048576 → is_coordinate z ≡ true
is_coordinate-near (pos n) near =
    let below : nat_lt n 2147483648 ≡ true = grind (arith, nat_tests) in
    let small : nat_le n 2147483648 ≡ true = grind (arith, nat_tests) in
    rw (below, small) refl
is_coordinate-near (negsuc n) near = let small : nat_le (suc n) 2147483648 ≡ true = grind (arith, nat_tests) in small

-- ids of 16 bits pass the test
all_small : (ids : List ℕ) → AllByRecursion (λ id. id < 2 ^ 16) ids → list_all (λ id. nat_le id 65535) ids ≡ true
all_small [] are = refl
all_small (id ∷ ids) are =
    let small : id < 2 ^ 16 = are.0 in
    and_from _ _ (le-leb id 65535 (omega arith)) (all_small ids are.1)

-- and are read back
all_read : (ids : List ℕ) → AllByRecursion (λ id. id < 2 ^ 16) ids → AllByRecursion (λ id. id ≤ 65535) ids
all_read [] are = tt
all_read (id ∷ ids) are = let small : id < 2 ^ 16 = are.0 in (omega arith, all_read ids are.1)

-- such an entry can be reported
is_reportable-entry : (place : ℕ) (e : Entry) → IsReported place e → is_reportable (did_of e) ≡ true
is_reportable-entry place e is =
    let low : e.slot < 64 = is.slot in
    let small : e.seq < 2 ^ 32 = is.seq in
    let slot = le-leb e.slot 255 (omega arith) in
    let seq = le-leb e.seq 4294967295 (omega arith) in
    let x = is_coordinate-near e.reply.origin.x is.origin.x in
    let y = is_coordinate-near e.reply.origin.y is.origin.y in
    let z = is_coordinate-near e.reply.origin.z is.origin.z in
    let few = le-leb (length e.reply.got) 8 is.got.few in
    let ids = and_from _ _ few (all_small e.reply.got is.got.small) in
    and_from _ _ (and_from _ _ slot seq) (and_from _ _ (and_from _ _ x (and_from _ _ y z)) ids)

-- and is read back from its line
reads_back : (place : ℕ) (e : Entry) → IsReported place e → CanBeRead (did_of e)
reads_back place e is =
    let low : e.slot < 64 = is.slot in
    let small : e.seq < 2 ^ 32 = is.seq in
    let x : unsigned_abs e.reply.origin.x ≤ 1048576 = is.origin.x in
    let y : unsigned_abs e.reply.origin.y ≤ 1048576 = is.origin.y in
    let z : unsigned_abs e.reply.origin.z ≤ 1048576 = is.origin.z in
    record {
      is = record { slot = omega arith; seq = omega arith; x = omega arith; y = omega arith; z = omega arith; got = all_read e.reply.got is.got.small };
      fits = is_reportable-entry place e is;
    }

pub each_reads_back : (place : ℕ) (es : List Entry) → AreReported place es → AllByRecursion (λ e. CanBeRead (did_of e)) es
each_reads_back place [] are = tt
each_reads_back place (e ∷ es) are = (reads_back place e are.0, each_reads_back (place + 1) es are.1)

-- the journal that is read off its reports
journal_from-reported : (place : ℕ) (es : List Entry) → AreReported place es → journal_from place (map did_of es) ≡ es
journal_from-reported place [] are = refl
journal_from-reported place (e ∷ es) are =
    let same : e.place ≡ place = are.0.place_is in
    ap (λ n. record { place = n; slot = e.slot; seq = e.seq; reply = e.reply } ∷ journal_from (place + 1) (map did_of es)) (sym same)
    ∙ ap (λ js. e ∷ js) (journal_from-reported (place + 1) es are.1)

pub all_from-reported : (js : List (List Entry)) → AreAllReported js → map (journal_from 0) (map (map did_of) js) ≡ js
all_from-reported [] are = refl
all_from-reported (j ∷ js) are =
    ap (λ x. x ∷ map (journal_from 0) (map (map did_of) js)) (journal_from-reported 0 j are.0) ∙ ap (λ xs. j ∷ xs) (all_from-reported js are.1)

-- a frame's lines put the reports of its journal before those of the frames after it
split-frame : (arena : MapView) (frame : ℕ) → frame ≤ 4294967295 → (r : Receiving) (journal : List Entry) (more : List OutLine) (reports : List (List Did)) → AreReported 0 journal
    → split_of more ≡ record { before = []; frames = reports } → split_of (lines_with arena frame r journal ++ more) ≡ record { before = []; frames = map did_of journal ∷ reports }
split-frame arena frame small r journal more reports are is =
    let records = (moved_by arena r journal).records in
    let refused = map no_line r.lists.refused in
    let joined = map joined_line r.lists.joined in
    split-lines frame small (refused ++ joined) journal (map (to_line frame (live_in records)) (players_in records)) more reports
    (silent_both refused joined (silent_each no_line r.lists.refused (λ t. tt)) (silent_each joined_line r.lists.joined (λ j. tt)))
    (each_reads_back 0 journal are) (silent_each (to_line frame (live_in records)) (players_in records) (λ me. tt)) is

-- the lines of frames report their journals, one a frame
split-run : (arena : MapView) (frame : ℕ) (s : State) (frames : List (List Arrival)) (js : List (List Entry)) (more : List OutLine) → frame + length frames ≤ 4294967295 → length js ≡ length frames
    → AreAllReported js → AllByRecursion IsSilent more → split_of (run_lines arena frame s frames js ++ more) ≡ record { before = []; frames = map (map did_of) js }
split-run arena frame s [] [] more small same are silent = ap split_of (sym (append-nil more)) ∙ split-silent more [] silent
split-run arena frame s [] (j ∷ js) more small same are silent = cc
split-run arena frame s (x ∷ frames) [] more small same are silent = cc
split-run arena frame s (x ∷ frames) (j ∷ js) more small same are silent =
    let r = received_in arena frame s x in
    let rest = run_lines arena (frame + 1) (state_after arena r j) frames js in
    let same_rest : length js ≡ length frames = cc in
    ap split_of (append_assoc (lines_with arena frame r j) rest more)
    ∙ split-frame arena frame (omega arith) r j (rest ++ more) (map (map did_of) js) are.0
    (split-run arena (frame + 1) (state_after arena r j) frames js more (omega arith) same_rest are.1 silent)

-- the journals that are read off the text of frames
pub dids-run : (arena : MapView) (frame : ℕ) (s : State) (frames : List (List Arrival)) (js : List (List Entry)) → frame + length frames ≤ 4294967295 → length js ≡ length frames
    → AreAllReported js → dids (text_of (run_lines arena frame s frames js)) ≡ js
dids-run arena frame s frames js small same are =
    let lines = run_lines arena frame s frames js in
    dids-text lines (map (map did_of) js) (ap split_of (sym (append-nil lines)) ∙ split-run arena frame s frames js [] small same are tt) ∙ all_from-reported js are

-- and those that are read off it with the last line after it
pub dids-whole : (arena : MapView) (frame : ℕ) (s : State) (frames : List (List Arrival)) (js : List (List Entry)) (count : ℕ) → frame + length frames ≤ 4294967295 → length js ≡ length frames
    → AreAllReported js → dids (text_of (run_lines arena frame s frames js ++ EndLine count ∷ [])) ≡ js
dids-whole arena frame s frames js count small same are =
    let lines = run_lines arena frame s frames js in
    dids-text (lines ++ EndLine count ∷ []) (map (map did_of) js) (split-run arena frame s frames js (EndLine count ∷ []) small same are (tt, tt)) ∙ all_from-reported js are
