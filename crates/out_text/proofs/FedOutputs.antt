-- Without its `from` lines a fed output is the output of a recording whose packets stand in the order of their arrival; and
-- a recording without a fault has one in each order, with one worker no other.
use Rattle.std.proofs.Common.{◌≡◌, ℕ, List, length, take, drop, Option, Some, None, IsSome, refl, sym, ap, ◌∙◌, subst, take-append-drop}
use Rattle.entity_recs.specs.declared.effect.Entry.{Entry}
use Rattle.arena_map.specs.Maps.{MapView}
use Rattle.packet_read.specs.declared.arrival.Arrival.{Arrival}
use Rattle.plain_server.specs.RecordsById.{opening}
use Rattle.plain_server.specs.Frames.{journals_of}
use Rattle.demo_lines.specs.Bytes.{fault, map_of}
use Rattle.demo_lines.specs.Laws.{IsTextOf}
use Rattle.demo_lines.specs.Spelling.{recording_text}
use Rattle.demo_lines.proofs.RecordingsRead.{recordings_read_back}
use Rattle.out_text.specs.Journals.{dids}
use Rattle.out_text.specs.Collecting.{frames_of}
use Rattle.out_text.specs.Output.{AreRightIn, AreInOrderIn, IsOutput, IsAllFrames}
use Rattle.out_text.specs.Feeds.{AreFeedsOf, froms, without_froms, fed_output, IsFedOutput, IsFedFront}
use Rattle.out_text.specs.FedLaws.{IsOfRecording, HasFedOutput, HasFedOutputOf, FedOutputsAreOutputs, FaultlessRecordingsHaveFedOutputs, OneWorkerHasOneFedOutput}
use Rattle.out_text.proofs.Growing.{GoesOnWith, goes_on_all}
use Rattle.out_text.proofs.KeptRules.{map_keeps_rules, faultless_has_map}
use Rattle.out_text.proofs.Fronts.{AreRun, IsPlayed, whole_text, out_text-is, is_output, is_all_frames}
use Rattle.out_text.proofs.Outputs.{run_in_order, one_list_in}
use Rattle.out_text.proofs.FedRuns.{feeds-own}
use Rattle.out_text.proofs.FedFronts.{fed_text_with, fed_whole, fed_text-is, fed_output-is, fed_froms-out, is_fed_output}
use Rattle.out_text.proofs.WithoutFroms.{without-run, without-whole}
use Rattle.out_text.proofs.FedRecordings.{frames_of-read, fed_recording}

-- the map of a recording keeps the rules
played_on : (bytes : List ℕ) (arena : MapView) → map_of bytes ≡ Some arena → IsPlayed bytes arena
played_on bytes arena has = record { has = has; is_map = map_keeps_rules bytes arena has }

-- right journals, by the map that a recording has
run_in : (workers : ℕ) (m : Option MapView) (arena : MapView) (frames : List (List Arrival)) (js : List (List Entry)) → m ≡ Some arena → AreRightIn m frames js
    → (workers ≡ 1 → AreInOrderIn m frames js) → AreRun workers arena frames js
run_in workers m arena frames js is right order =
    let P : Option MapView → Type 0 = λ n. AreRightIn n frames js in
    let Q : Option MapView → Type 0 = λ n. AreInOrderIn n frames js in
    record { right = subst P is right; order = λ one. subst Q is (order one) }

module _ (workers : ℕ) (bytes : List ℕ) (arena : MapView) (has : map_of bytes ≡ Some arena) where
  module _ (closed feeds : List (List Arrival)) (js : List (List Entry)) (on : GoesOnWith closed (frames_of bytes)) (fed : AreFeedsOf closed feeds) (run : AreRun workers arena feeds js) where
    -- the recording with the packets in the order of arrival
    abbrev other : List ℕ
    other = recording_text arena feeds

    read : IsTextOf arena feeds other
    read = recordings_read_back arena feeds (fed_recording bytes arena (played_on bytes arena has) closed feeds on fed)

    same_frames : frames_of other ≡ feeds
    same_frames = frames_of-read arena feeds other read

    output_as_fed : IsOfRecording arena feeds (IsOutput workers) (without_froms (fed_whole arena feeds js))
    output_as_fed = record {
      read = read;
      frames_are = same_frames;
      holds = subst (IsOutput workers other) (sym (without-whole arena 0 (opening arena) feeds js (length feeds)))
          (is_output workers other arena (played_on other arena read.map) feeds js read.fault same_frames run);
    }

    frames_as_fed : IsOfRecording arena feeds (IsAllFrames workers) (without_froms (fed_text_with arena feeds js))
    frames_as_fed = record {
      read = read;
      frames_are = same_frames;
      holds = subst (IsAllFrames workers other) (sym (without-run arena 0 (opening arena) feeds js))
          (is_all_frames workers other arena (played_on other arena read.map) feeds js same_frames run);
    }

  -- a fed output
  output_without : (text : List ℕ) → IsFedOutput workers bytes text → IsOfRecording arena (froms text) (IsOutput workers) (without_froms text)
  output_without text is =
      let closed = frames_of bytes in
      let feeds = froms text in
      let js = dids text in
      let on = goes_on_all closed closed refl in
      let run = run_in workers (map_of bytes) arena feeds js has is.right is.order in
      let whole : text ≡ fed_whole arena feeds js = is.spelled ∙ fed_output-is workers bytes arena (played_on bytes arena has) closed feeds js on is.feeds run in
      subst (λ (t : List ℕ). IsOfRecording arena feeds (IsOutput workers) (without_froms t)) (sym whole) (output_as_fed closed feeds js on is.feeds run)

  -- the text of the first frames
  front_without : (k : ℕ) (text : List ℕ) → IsFedFront workers bytes k text → IsOfRecording arena (froms text) (IsAllFrames workers) (without_froms text)
  front_without k text is =
      let closed = take k (frames_of bytes) in
      let feeds = froms text in
      let js = dids text in
      let on : GoesOnWith closed (frames_of bytes) = record { rest = drop k (frames_of bytes); is = sym (take-append-drop k (frames_of bytes)) } in
      let run = run_in workers (map_of bytes) arena feeds js has is.right is.order in
      let whole : text ≡ fed_text_with arena feeds js = is.spelled ∙ fed_text-is workers bytes arena (played_on bytes arena has) closed feeds js on is.feeds run in
      subst (λ (t : List ℕ). IsOfRecording arena feeds (IsAllFrames workers) (without_froms t)) (sym whole) (frames_as_fed closed feeds js on is.feeds run)

  -- ---- the other way round

  -- right journals of frames that are fed make a fed output
  pub fed_output_in : (feeds : List (List Arrival)) (js : List (List Entry)) → fault bytes ≡ None → AreFeedsOf (frames_of bytes) feeds → AreRun workers arena feeds js
      → HasFedOutput workers bytes feeds
  fed_output_in feeds js accepted fed run =
      let closed = frames_of bytes in
      let on = goes_on_all closed closed refl in
      let played = played_on bytes arena has in
      record {
        text = fed_whole arena feeds js;
        is_output = is_fed_output workers bytes arena played closed feeds js on fed run refl accepted;
        order_is = fed_froms-out workers bytes arena played closed feeds js on fed run;
      }

  output_with : (feeds : List (List Arrival)) (text : List ℕ) → fault bytes ≡ None → AreFeedsOf (frames_of bytes) feeds → IsOutput workers (recording_text arena feeds) text
      → HasFedOutputOf workers bytes feeds text
  unfolding fed_output_in
  output_with feeds text accepted fed is =
      let closed = frames_of bytes in
      let js = dids text in
      let on = goes_on_all closed closed refl in
      let written = recording_text arena feeds in
      let back = recordings_read_back arena feeds (fed_recording bytes arena (played_on bytes arena has) closed feeds on fed) in
      let frames = frames_of-read arena feeds written back in
      let P : List (List Arrival) → Type 0 = λ fs. AreRightIn (map_of written) fs js in
      let Q : List (List Arrival) → Type 0 = λ fs. AreInOrderIn (map_of written) fs js in
      let run = run_in workers (map_of written) arena feeds js back.map (subst P frames is.right) (λ one. subst Q frames (is.order one)) in
      let whole : text ≡ whole_text arena feeds js = is.spelled ∙ out_text-is workers written arena (played_on written arena back.map) feeds js frames in
      record {
        fed = fed_output_in feeds js accepted fed run;
        without = without-whole arena 0 (opening arena) feeds js (length feeds) ∙ sym whole;
      }

pub fed_are_outputs : FedOutputsAreOutputs
fed_are_outputs = record {
  whole = λ workers bytes text arena has is. output_without workers bytes arena has text is;
  front = λ workers bytes k text arena has is. front_without workers bytes arena has k text is;
  back = λ workers bytes arena feeds text accepted has fed is. output_with workers bytes arena has feeds text accepted fed is;
}

-- ---- which fed outputs there are

-- a recording without a fault has one: its frames, run with the moves in the order of arrival
ordered_in : (workers : ℕ) (bytes : List ℕ) (m : Option MapView) (feeds : List (List Arrival)) → fault bytes ≡ None → map_of bytes ≡ m → IsSome m → AreFeedsOf (frames_of bytes) feeds
    → HasFedOutput workers bytes feeds
ordered_in workers bytes None feeds accepted has some fed = cc
ordered_in workers bytes (Some arena) feeds accepted has some fed =
    fed_output_in workers bytes arena has feeds (journals_of arena 0 (opening arena) feeds) accepted fed (run_in_order workers arena feeds)

faultless_in_order : (workers : ℕ) (bytes : List ℕ) (feeds : List (List Arrival)) → fault bytes ≡ None → AreFeedsOf (frames_of bytes) feeds → HasFedOutput workers bytes feeds
faultless_in_order workers bytes feeds accepted fed = ordered_in workers bytes (map_of bytes) feeds accepted refl (faultless_has_map bytes accepted) fed

pub faultless_fed_outputs : FaultlessRecordingsHaveFedOutputs
faultless_fed_outputs = record {
  each_order = faultless_in_order;
  as_sent = λ workers bytes accepted. faultless_in_order workers bytes (frames_of bytes) accepted (feeds-own (frames_of bytes));
}

pub one_fed_output : OneWorkerHasOneFedOutput
one_fed_output bytes text other is is' same =
    let P : List (List Arrival) → Type 0 = λ fs. AreRightIn (map_of bytes) fs (dids other) in
    let Q : List (List Arrival) → Type 0 = λ fs. AreInOrderIn (map_of bytes) fs (dids other) in
    let one = one_list_in (map_of bytes) (froms text) (dids text) (dids other) is.right (is.order refl) (subst P (sym same) is'.right) (subst Q (sym same) (is'.order refl)) in
    is.spelled ∙ ap (fed_output bytes (froms text)) one ∙ ap (λ (fs : List (List Arrival)). fed_output bytes fs (dids other)) same ∙ sym is'.spelled
