-- A match plays what its recording would, written out.
use Rattle.std.proofs.Common.{◌≡◌, ℕ, List, length, Option, Some, None, sym, ap, ◌∙◌, subst}
use Rattle.std.proofs.lemmas.List.FromFn.{length-map-range_with_len}
use Rattle.entity_recs.specs.declared.effect.Entry.{Entry}
use Rattle.packet_read.specs.declared.arrival.Arrival.{Arrival}
use Rattle.arena_map.specs.Maps.{MapView}
use Rattle.plain_server.specs.RecordsById.{opening}
use Rattle.plain_server.specs.Frames.{AreRight, AreInOrder}
use Rattle.plain_server.proofs.Turns.{right_count}
use Rattle.demo_lines.specs.Bytes.{map_of, events, fault}
use Rattle.out_text.specs.Collecting.{frames_of}
use Rattle.out_text.specs.Journals.{dids}
use Rattle.out_text.specs.Output.{AreRightIn, AreInOrderIn, out_text, IsOutput}
use Rattle.out_text.proofs.FrameEvents.{frames_have_the_events}
use Rattle.out_text.proofs.Outputs.{outputs_spell}
use Rattle.demo_make.specs.GeneratedMap.{generated_map}
use Rattle.demo_make.specs.GeneratedFrames.{IsInRange, arrivals_in, generated_frames, generated_text}
use Rattle.demo_make.proofs.FramesKept.{generated_recordings_read_back}
use Rattle.match_play.specs.Laws.{AreOfMatch, MatchesArePlayedAsWritten}
use Rattle.match_play.proofs.Events.{closed_by, recording-closes, generated-closes}

-- the frames of a recording without a fault are those that its events close
pub frames_of-events : (bytes : List ℕ) → fault bytes ≡ None → frames_of bytes ≡ closed_by None (events bytes)
frames_of-events bytes none = sym (recording-closes (frames_of bytes)) ∙ ap (closed_by None) (sym (frames_have_the_events.whole bytes none))

generated-frames : (seed players frames : ℕ) → IsInRange players frames → frames_of (generated_text seed players frames) ≡ generated_frames seed players frames
generated-frames seed players frames range =
    let back = generated_recordings_read_back seed players frames range in
    frames_of-events (generated_text seed players frames) back.fault ∙ ap (closed_by None) back.events ∙ generated-closes seed players frames

module _ (seed players frames : ℕ) (bytes : List ℕ) (accepted : fault bytes ≡ None) (map_is : map_of bytes ≡ Some generated_map)
    (frames_are : frames_of bytes ≡ generated_frames seed players frames) where
  -- right journals of the recording are those of its frames on its map
  from_right : (js : List (List Entry)) → AreRight generated_map 0 (opening generated_map) (generated_frames seed players frames) js → AreRightIn (map_of bytes) (frames_of bytes) js
  from_right js right =
      subst (λ (m : Option MapView). AreRightIn m (frames_of bytes) js) (sym map_is)
      (subst (λ (fs : List (List Arrival)). AreRight generated_map 0 (opening generated_map) fs js) (sym frames_are) right)

  to_right : (js : List (List Entry)) → AreRightIn (map_of bytes) (frames_of bytes) js → AreRight generated_map 0 (opening generated_map) (generated_frames seed players frames) js
  to_right js right =
      subst (λ (fs : List (List Arrival)). AreRight generated_map 0 (opening generated_map) fs js) frames_are
      (subst (λ (m : Option MapView). AreRightIn m (frames_of bytes) js) map_is right)

  -- and so are those in the order of arrival
  from_order : (js : List (List Entry)) → AreInOrder generated_map 0 (opening generated_map) (generated_frames seed players frames) js → AreInOrderIn (map_of bytes) (frames_of bytes) js
  from_order js order =
      subst (λ (m : Option MapView). AreInOrderIn m (frames_of bytes) js) (sym map_is)
      (subst (λ (fs : List (List Arrival)). AreInOrder generated_map 0 (opening generated_map) fs js) (sym frames_are) order)

  to_order : (js : List (List Entry)) → AreInOrderIn (map_of bytes) (frames_of bytes) js → AreInOrder generated_map 0 (opening generated_map) (generated_frames seed players frames) js
  to_order js order =
      subst (λ (fs : List (List Arrival)). AreInOrder generated_map 0 (opening generated_map) fs js) frames_are
      (subst (λ (m : Option MapView). AreInOrderIn m (frames_of bytes) js) map_is order)

  -- journals of a match make an output
  match_output : (workers : ℕ) (js : List (List Entry)) → AreOfMatch seed players frames workers js → IsOutput workers bytes (out_text bytes js)
  match_output workers js are =
      let right = from_right js (subst (λ n. AreRight generated_map 0 (opening generated_map) (generated_frames seed players n) js) are.count are.right) in
      let back : js ≡ dids (out_text bytes js) = sym (outputs_spell.whole bytes js right) in
      record {
        accepted = accepted;
        spelled = ap (out_text bytes) back;
        right = subst (AreRightIn (map_of bytes) (frames_of bytes)) back right;
        order = λ one.
            subst (AreInOrderIn (map_of bytes) (frames_of bytes)) back
            (from_order js (subst (λ n. AreInOrder generated_map 0 (opening generated_map) (generated_frames seed players n) js) are.count (are.order one)));
      }

  -- those that an output spells are of a match
  output_match : (workers : ℕ) (text : List ℕ) → IsOutput workers bytes text → AreOfMatch seed players frames workers (dids text)
  output_match workers text is =
      let right = to_right (dids text) is.right in
      let count : length (dids text) ≡ frames =
      right_count generated_map 0 (opening generated_map) (generated_frames seed players frames) (dids text) right ∙ length-map-range_with_len (arrivals_in seed players) 0 frames in
      record {
        count = count;
        right = subst (λ n. AreRight generated_map 0 (opening generated_map) (generated_frames seed players n) (dids text)) (sym count) right;
        order = λ one.
            subst (λ n. AreInOrder generated_map 0 (opening generated_map) (generated_frames seed players n) (dids text)) (sym count) (to_order (dids text) (is.order one));
      }

pub matches_are_played_as_written : MatchesArePlayedAsWritten
matches_are_played_as_written seed players frames range =
    let back = generated_recordings_read_back seed players frames range in
    let bytes = generated_text seed players frames in
    let frames_are = generated-frames seed players frames range in
    record {
      map_is = back.map;
      frames_are = frames_are;
      outputs = match_output seed players frames bytes back.fault back.map frames_are;
      journals = output_match seed players frames bytes back.fault back.map frames_are;
    }
