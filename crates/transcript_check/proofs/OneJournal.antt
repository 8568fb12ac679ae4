-- A text spells the journals with which it was made: where the lines of right journals are there, they are the same.
use Rattle.std.proofs.Common.{◌≡◌, ℕ, ◌+◌, List, [], ◌∷◌, ◌++◌, length, map, take, zero, suc, refl, sym, ap, ◌∙◌, subst, append_assoc, arith}
use Rattle.entity_recs.specs.declared.effect.Entry.{Entry}
use Rattle.move_journal.specs.Merges.{HasNumbersApart}
use Rattle.arena_map.specs.Maps.{MapView, IsMap}
use Rattle.packet_read.specs.declared.arrival.Arrival.{Arrival}
use Rattle.client_ports.specs.States.{State, IsServerState}
use Rattle.client_ports.specs.Lists.{Lists}
use Rattle.client_ports.specs.Receiving.{Receiving}
use Rattle.plain_server.specs.Entries.{IsReported, AreReported}
use Rattle.plain_server.specs.Frames.{received_in, moved_by, state_after, IsRightAfter, AreRight}
use Rattle.plain_server.proofs.Frames.{received_is, state_after_is}
use Rattle.out_text.specs.Dids.{Did, did_of, entry_at}
use Rattle.out_text.specs.FrameLines.{did_line, to_lines, lines_with, run_lines}
use Rattle.out_text.specs.OutLines.{OutLine, FrameLine, line_spelling, printed_line, text_of}
use Rattle.out_text.specs.Ranges.{IsInRange}
use Rattle.out_text.specs.Transcripts.{BeginsWith}
use Rattle.out_text.proofs.LinesRead as lines_read
use Rattle.out_text.proofs.Reporting.{HaveBytes, right_are_reported}
use Rattle.out_text.proofs.Runs.{text_of-append}
use Rattle.transcript_check.specs.Pieces.{early_lines}
use Rattle.transcript_check.proofs.Fewness.{entries_of_merge}
use Rattle.transcript_check.proofs.InRange.{near_fits}
use Rattle.transcript_check.proofs.Texts.{one_line, same_line, begins-after, begins-front}

-- ---- the moves of a frame

did-in_range : (place : ℕ) (e : Entry) → IsReported place e → IsInRange (did_line e)
did-in_range place e is = record {
  slot = (let low = is.slot in omega (arith, low));
  seq = is.seq;
  origin = near_fits e.reply.origin is.origin;
  few = is.got.few;
  got = is.got.small;
}

-- an entry is the one at its place that is reported so
entry-is : (place : ℕ) (e : Entry) → IsReported place e → entry_at place (did_of e) ≡ e
entry-is place e is = ap (λ (n : ℕ). record { place = n; slot = e.slot; seq = e.seq; reply = e.reply }) (sym is.place_is)

same-entry : (place : ℕ) (e d : Entry) → IsReported place e → IsReported place d → did_line e ≡ did_line d → e ≡ d
same-entry place e d is also same =
    let dids : ◌≡◌ {A = Did} (did_of e) (did_of d) = cc in
    sym (entry-is place e is) ∙ ap (entry_at place) dids ∙ entry-is place d also

pub text-next : (l : OutLine) (more : List OutLine) (after : List ℕ) → text_of (l ∷ more) ++ after ≡ line_spelling l ++ 10 ∷ (text_of more ++ after)
text-next l more after = append_assoc (printed_line l) (text_of more) after ∙ append_assoc (line_spelling l) (10 ∷ []) (text_of more ++ after)

-- two journals of as many entries, the lines of which are there
same-journal : (place : ℕ) (es ds : List Entry) (bytes : List ℕ) → AreReported place es → AreReported place ds → length es ≡ length ds
    → BeginsWith bytes (text_of (map did_line es)) → BeginsWith bytes (text_of (map did_line ds)) → es ≡ ds
same-journal place [] [] bytes are also same one two = refl
same-journal place [] (d ∷ ds) bytes are also same one two = cc
same-journal place (e ∷ es) [] bytes are also same one two = cc
same-journal place (e ∷ es) (d ∷ ds) bytes are also same one two =
    let l = did_line e in
    let k = did_line d in
    let later = text_of (map did_line es) ++ one.after in
    let follows = text_of (map did_line ds) ++ two.after in
    let both : line_spelling l ++ 10 ∷ later ≡ line_spelling k ++ 10 ∷ follows =
    sym (text-next l (map did_line es) one.after) ∙ sym one.is ∙ two.is ∙ text-next k (map did_line ds) two.after in
    let first = same_line (line_spelling l) (line_spelling k) later follows (one_line l) (one_line k) both in
    let entry = same-entry place e d are.0 also.0 (lines_read.one_line l k (did-in_range place e are.0) (did-in_range place d also.0) first.line_is) in
    let long : length es ≡ length ds = cc in
    let rest = same-journal (place + 1) es ds later are.1 also.1 long (record { after = one.after; is = refl }) (record { after = two.after; is = first.rest_is }) in
    λ i. entry i ∷ rest i

-- ---- frames

-- the lines of a frame before its moves
abbrev head_lines : ℕ → Lists → List OutLine
head_lines frame lists = FrameLine frame ∷ early_lines lists

module _ (map_view : MapView) (is_map : IsMap map_view) where
  -- the text of a frame is that of its first lines, of its moves and of its snapshots
  text-parts : (frame : ℕ) (r : Receiving) (journal : List Entry)
      → text_of (lines_with map_view frame r journal)
      ≡ text_of (head_lines frame r.lists) ++ (text_of (map did_line journal) ++ text_of (to_lines frame (moved_by map_view r journal).records))
  text-parts frame r journal =
      let head = head_lines frame r.lists in
      let dids = map did_line journal in
      let shown = to_lines frame (moved_by map_view r journal).records in
      ap text_of (append_assoc head dids shown) ∙ text_of-append head (dids ++ shown) ∙ ap (λ t. text_of head ++ t) (text_of-append dids shown)

  pub same-frame : (frame : ℕ) (r : Receiving) (j k : List Entry) (bytes : List ℕ) → HasNumbersApart r.lists.moves → AreReported 0 j → AreReported 0 k → IsRightAfter map_view r j → IsRightAfter map_view r k
      → BeginsWith bytes (text_of (lines_with map_view frame r j)) → BeginsWith bytes (text_of (lines_with map_view frame r k)) → j ≡ k
  same-frame frame r j k bytes apart are also right other one two =
      let head = text_of (head_lines frame r.lists) in
      let parted = subst (BeginsWith bytes) (text-parts frame r j) one in
      let dids = λ (journal : List Entry). (text_of (map did_line journal) ++ text_of (to_lines frame (moved_by map_view r journal).records)) in
      let left = dids j ++ parted.after in
      let begun : bytes ≡ head ++ left = parted.is ∙ append_assoc head (dids j) parted.after in
      let long : length j ≡ length k = entries_of_merge j r.lists.moves apart right.merge ∙ sym (entries_of_merge k r.lists.moves apart other.merge) in
      same-journal 0 j k left are also long
      (begins-front left (text_of (map did_line j)) _ (record { after = parted.after; is = refl }))
      (begins-front left (text_of (map did_line k)) _ (begins-after bytes left head (dids k) begun (subst (BeginsWith bytes) (text-parts frame r k) two)))

  -- right journals of frames whose lines are there are the same
  pub same-journals : (frame : ℕ) (s : State) (frames : List (List Arrival)) (js ks : List (List Entry)) (bytes : List ℕ) → IsServerState map_view s → HaveBytes frames
      → AreRight map_view frame s frames js → AreRight map_view frame s frames ks → BeginsWith bytes (text_of (run_lines map_view frame s frames js))
      → BeginsWith bytes (text_of (run_lines map_view frame s frames ks)) → js ≡ ks
  same-journals frame s [] [] [] bytes is have right other one two = refl
  same-journals frame s [] [] (k ∷ ks) bytes is have right other one two = absurd other
  same-journals frame s [] (j ∷ js) ks bytes is have right other one two = absurd right
  same-journals frame s (x ∷ frames) [] ks bytes is have right other one two = absurd right
  same-journals frame s (x ∷ frames) (j ∷ js) [] bytes is have right other one two = absurd other
  same-journals frame s (x ∷ frames) (j ∷ js) (k ∷ ks) bytes is have right other one two =
      let r = received_in map_view frame s x in
      let pass = received_is map_view frame s x is_map is in
      let here = λ (l : List Entry). text_of (lines_with map_view frame r l) in
      let later = λ (l : List Entry) (ls : List (List Entry)). text_of (run_lines map_view (frame + 1) (state_after map_view r l) frames ls) in
      let cut = text_of-append (lines_with map_view frame r j) (run_lines map_view (frame + 1) (state_after map_view r j) frames js) in
      let also = text_of-append (lines_with map_view frame r k) (run_lines map_view (frame + 1) (state_after map_view r k) frames ks) in
      let begins : BeginsWith bytes (here j ++ later j js) = subst (BeginsWith bytes) cut one in
      let begun : BeginsWith bytes (here k ++ later k ks) = subst (BeginsWith bytes) also two in
      let reported = right_are_reported map_view frame s (x ∷ frames) (j ∷ js) is_map is have right in
      let reported_other = right_are_reported map_view frame s (x ∷ frames) (k ∷ ks) is_map is have other in
      let first = same-frame frame r j k bytes pass.apart reported.0 reported_other.0 right.0 other.0 (begins-front bytes (here j) (later j js) begins) (begins-front bytes (here k) (later k ks) begun) in
      let left = later j js ++ begins.after in
      let is_left : bytes ≡ here j ++ left = begins.is ∙ append_assoc (here j) (later j js) begins.after in
      let right_there : AreRight map_view (frame + 1) (state_after map_view r j) frames ks =
      subst (λ (l : List Entry). AreRight map_view (frame + 1) (state_after map_view r l) frames ks) (sym first) other.1 in
      let begun_there : BeginsWith bytes (here j ++ later j ks) = subst (λ (l : List Entry). BeginsWith bytes (here l ++ later l ks)) (sym first) begun in
      let rest = same-journals (frame + 1) (state_after map_view r j) frames js ks left (state_after_is map_view r j is_map pass) have.1 right.1 right_there
      (record { after = begins.after; is = refl }) (begins-after bytes left (here j) (later j ks) is_left begun_there) in
      λ i. first i ∷ rest i

-- the packets of the first of some frames have bytes
pub first_have_bytes : (k : ℕ) (frames : List (List Arrival)) → HaveBytes frames → HaveBytes (take k frames)
first_have_bytes zero frames have = tt
first_have_bytes (suc k) [] have = tt
first_have_bytes (suc k) (x ∷ frames) have = (have.0, first_have_bytes k frames have.1)
