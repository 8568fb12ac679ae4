-- The numbers of a right transcript, counted over its lines.
use Rattle.std.proofs.Common.{◌≡◌, ℕ, ◌+◌, Bool, true, false, cond, List, [], ◌∷◌, ◌++◌, length, map as map_list, codes, Option, refl, sym, ap, ◌∙◌, subst, arith}
use Rattle.std.specs.Prelude.{count_by, nat_eq}
use Rattle.std.specs.List.{starts_with}
use Rattle.std.proofs.lemmas.List.{length-map}
use Rattle.std.proofs.lemmas.List.Sums.{sum_by-append, sum_by-cons}
use Rattle.std.proofs.lemmas.List.Sorted.{length_permutation}
use Rattle.entity_recs.specs.declared.effect.Entry.{Entry}
use Rattle.entity_recs.specs.declared.rec.Rec.{Rec}
use Rattle.entity_recs.specs.Histories.{Item}
use Rattle.move_journal.specs.Merges.{history_of}
use Rattle.move_journal.proofs.JournalLaws.{merges_have_whole_histories}
use Rattle.arena_map.specs.Maps.{MapView, IsMap}
use Rattle.packet_read.specs.declared.arrival.Arrival.{Arrival}
use Rattle.client_ports.specs.Lists.{Lists}
use Rattle.client_ports.specs.Receiving.{Receiving}
use Rattle.client_ports.specs.States.{State, IsServerState}
use Rattle.world_tree.specs.Live.{live_in}
use Rattle.plain_server.specs.Entries.{IsReception}
use Rattle.plain_server.specs.RecordsById.{opening}
use Rattle.plain_server.specs.Replies.{players_in}
use Rattle.plain_server.specs.Frames.{received_in, moved_by, state_after, first_of, rest_of, IsRightAfter, AreRight}
use Rattle.plain_server.proofs.Frames.{opening_is, received_is, state_after_is}
use Rattle.demo_lines.proofs.Limited.{limits_cut_nothing}
use Rattle.out_text.specs.Collecting.{frames_of}
use Rattle.out_text.specs.FrameLines.{no_line, joined_line, did_line, to_line, to_lines, frame_lines, lines_with, run_lines}
use Rattle.out_text.specs.OutLines.{OutLine, EndLine, FrameLine, line_spelling, text_of}
use Rattle.out_text.specs.Transcripts.{run_moves}
use Rattle.out_text.proofs.Fronts.{whole_text, is_output}
use Rattle.out_text.proofs.KeptRules.{map_keeps_rules}
use Rattle.out_text.proofs.Quiet.{whole_lines-text}
use Rattle.transcript_check.specs.Verdicts.{IsRight}
use Rattle.transcript_check.specs.Laws.{lines_beginning, RightOnesCountTheirLines}
use Rattle.transcript_check.proofs.VerdictsOnOutputs.{same_frames}

abbrev weight : Bool → ℕ
weight b = cond b 1 0

module _ (word : List ℕ) where
  -- the line begins with the word
  abbrev pub begins : OutLine → Bool
  begins l = starts_with nat_eq (line_spelling l) word

  -- how many of these lines do
  abbrev pub count_in : List OutLine → ℕ
  count_in lines = count_by begins lines

  pub count-append : (xs ys : List OutLine) → count_in (xs ++ ys) ≡ count_in xs + count_in ys
  count-append xs ys = sum_by-append (λ (l : OutLine). cond (begins l) 1 0) xs ys

  pub count-cons : (l : OutLine) (ls : List OutLine) → count_in (l ∷ ls) ≡ cond (begins l) 1 0 + count_in ls
  count-cons l ls = sum_by-cons (λ (k : OutLine). cond (begins k) 1 0) l ls

  count-spelled : (lines : List OutLine) → count_by (λ line. starts_with nat_eq line word) (map_list line_spelling lines) ≡ count_in lines
  count-spelled [] = refl
  count-spelled (l ∷ lines) =
      let more = sum_by-cons (λ (line : List ℕ). cond (starts_with nat_eq line word) 1 0) (line_spelling l) (map_list line_spelling lines) in
      more ∙ ap (λ n. cond (begins l) 1 0 + n) (count-spelled lines) ∙ sym (count-cons l lines)

  -- of the lines of a text as many do
  pub count-text : (lines : List OutLine) → lines_beginning word (text_of lines) ≡ count_in lines
  count-text lines = ap (count_by (λ (line : List ℕ). starts_with nat_eq line word)) (whole_lines-text lines) ∙ count-spelled lines

  pub count-none : {X : Type 0} (f : X → OutLine) (xs : List X) → ((x : X) → begins (f x) ≡ false) → count_in (map_list f xs) ≡ 0
  count-none f [] none = refl
  count-none f (x ∷ xs) none =
      let here : ◌≡◌ {A = ℕ} (cond (begins (f x)) 1 0) 0 = ap (λ (b : Bool). weight b) (none x) in
      let more = count-cons (f x) (map_list f xs) in
      let rest = count-none f xs none in
      omega (arith, here, more, rest)

  count-each : {X : Type 0} (f : X → OutLine) (xs : List X) → ((x : X) → begins (f x) ≡ true) → count_in (map_list f xs) ≡ length xs
  count-each f [] each = refl
  count-each f (x ∷ xs) each =
      let here : ◌≡◌ {A = ℕ} (cond (begins (f x)) 1 0) 1 = ap (λ (b : Bool). weight b) (each x) in
      let more = count-cons (f x) (map_list f xs) in
      let rest = count-each f xs each in
      omega (arith, here, more, rest)

  -- the lines of a frame, part by part
  count-frame : (frame : ℕ) (lists : Lists) (journal : List Entry) (records : List (Option Rec)) → count_in (frame_lines frame lists journal records)
      ≡ cond (begins (FrameLine frame)) 1 0
      + (((count_in (map_list no_line lists.refused) + count_in (map_list joined_line lists.joined)) + count_in (map_list did_line journal)) + count_in (to_lines frame records))
  count-frame frame lists journal records =
      let a = map_list no_line lists.refused in
      let b = map_list joined_line lists.joined in
      let c = map_list did_line journal in
      let d = to_lines frame records in
      let first = count-cons (FrameLine frame) (((a ++ b) ++ c) ++ d) in
      let three = count-append ((a ++ b) ++ c) d in
      let two = count-append (a ++ b) c in
      let one = count-append a b in
      omega (arith, first, three, two, one)

pub dids-frame : (frame : ℕ) (lists : Lists) (journal : List Entry) (records : List (Option Rec)) → count_in (codes "did ") (frame_lines frame lists journal records) ≡ length journal
dids-frame frame lists journal records =
    let word = codes "did " in
    let parts = count-frame word frame lists journal records in
    let head : ◌≡◌ {A = ℕ} (cond (begins word (FrameLine frame)) 1 0) 0 = refl in
    let refused = count-none word no_line lists.refused (λ t. refl) in
    let joined = count-none word joined_line lists.joined (λ j. refl) in
    let done = count-each word did_line journal (λ e. refl) in
    let shown = count-none word (to_line frame (live_in records)) (players_in records) (λ r. refl) in
    omega (arith, parts, head, refused, joined, done, shown)

pub frames-frame : (frame : ℕ) (lists : Lists) (journal : List Entry) (records : List (Option Rec)) → count_in (codes "frame ") (frame_lines frame lists journal records) ≡ 1
frames-frame frame lists journal records =
    let word = codes "frame " in
    let parts = count-frame word frame lists journal records in
    let head : ◌≡◌ {A = ℕ} (cond (begins word (FrameLine frame)) 1 0) 1 = refl in
    let refused = count-none word no_line lists.refused (λ t. refl) in
    let joined = count-none word joined_line lists.joined (λ j. refl) in
    let done = count-none word did_line journal (λ e. refl) in
    let shown = count-none word (to_line frame (live_in records)) (players_in records) (λ r. refl) in
    omega (arith, parts, head, refused, joined, done, shown)

-- a right journal has as many entries as moves were received
pub journal-count : (map : MapView) (r : Receiving) (journal : List Entry) → IsReception map r → IsRightAfter map r journal → length journal ≡ length r.lists.moves
journal-count map r journal is right =
    let whole = merges_have_whole_histories r.lists.moves journal is.apart right.merge in
    let history = history_of r.lists.moves journal in
    omega (
      arith,
      ap length whole.entries,
      length-map history (λ (item : Item). item.entry),
      length-map history (λ (item : Item). item.command),
      length_permutation _ r.lists.moves whole.each_once,
    )

-- ---- frames after frames

frames-run : (map : MapView) (frame : ℕ) (state : State) (frames : List (List Arrival)) (js : List (List Entry)) → count_in (codes "frame ") (run_lines map frame state frames js) ≡ length frames
frames-run map frame state [] js = refl
frames-run map frame state (arrivals ∷ frames) js =
    let r = received_in map frame state arrivals in
    let j = first_of js in
    let next = state_after map r j in
    let here = lines_with map frame r j in
    let both = count-append (codes "frame ") here (run_lines map (frame + 1) next frames (rest_of js)) in
    let one = frames-frame frame r.lists j (moved_by map r j).records in
    let rest = frames-run map (frame + 1) next frames (rest_of js) in
    omega (arith, both, one, rest)

dids-run : (map : MapView) → IsMap map → (frame : ℕ) (state : State) (frames : List (List Arrival)) (js : List (List Entry)) → IsServerState map state → AreRight map frame state frames js
    → count_in (codes "did ") (run_lines map frame state frames js) ≡ run_moves map frame state frames js
dids-run map is_map frame state [] js is right = refl
dids-run map is_map frame state (arrivals ∷ frames) [] is right = absurd right
dids-run map is_map frame state (arrivals ∷ frames) (j ∷ js) is right =
    let r = received_in map frame state arrivals in
    let pass = received_is map frame state arrivals is_map is in
    let next = state_after map r j in
    let here = lines_with map frame r j in
    let both = count-append (codes "did ") here (run_lines map (frame + 1) next frames js) in
    let some = dids-frame frame r.lists j (moved_by map r j).records in
    let entries = journal-count map r j pass right.0 in
    let rest = dids-run map is_map (frame + 1) next frames js (state_after_is map r j is_map pass) right.1 in
    omega (arith, both, some, entries, rest)

-- ---- the law

pub right_ones_count : RightOnesCountTheirLines
right_ones_count = λ workers limit count moves bytes is many low.
    let same = limits_cut_nothing.same limit bytes low is.accepted in
    let map = is.map in
    let has = same.map ∙ is.map_is in
    let is_map = map_keeps_rules bytes map has in
    let frames = frames_of bytes in
    let right : IsRight map frames is.rest count moves = subst (λ (fs : List (List Arrival)). IsRight map fs is.rest count moves) (sym (same_frames limit bytes low is.accepted)) is.is in
    let js = right.transcript.journals in
    let lines = run_lines map 0 (opening map) frames js in
    let end = EndLine (length frames) ∷ [] in
    let all_frames : lines_beginning (codes "frame ") (text_of (lines ++ end)) ≡ length frames =
    (let whole = count-text (codes "frame ") (lines ++ end) in
    let both = count-append (codes "frame ") lines end in
    let last : count_in (codes "frame ") end ≡ 0 = refl in
    let run = frames-run map 0 (opening map) frames js in
    omega (arith, whole, both, last, run)) in
    let all_moves : lines_beginning (codes "did ") (text_of (lines ++ end)) ≡ run_moves map 0 (opening map) frames js =
    (let whole = count-text (codes "did ") (lines ++ end) in
    let both = count-append (codes "did ") lines end in
    let last : count_in (codes "did ") end ≡ 0 = refl in
    let run = dids-run map is_map 0 (opening map) frames js (opening_is map is_map) right.transcript.right in
    omega (arith, whole, both, last, run)) in
    record {
      begins = record {
        text = whole_text map frames js;
        output = is_output workers bytes map (record { has = has; is_map = is_map }) frames js same.accepted refl (record { right = right.transcript.right; order = λ one. absurd (many one) });
        begins = right.transcript.begins;
      };
      frames_are = right.count_is ∙ sym all_frames;
      moves_are = right.moves_are ∙ sym all_moves;
    }
