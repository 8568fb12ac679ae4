-- A recording without a fault has an output, with one worker no other, and an output spells its journals.
use Rattle.std.proofs.Common.{◌≡◌, ℕ, List, [], ◌∷◌, ◌++◌, length, take, drop, Option, Some, None, IsSome, refl, sym, ap, ◌∙◌, arith, take-append-drop}
use Rattle.entity_recs.specs.declared.effect.Entry.{Entry}
use Rattle.arena_map.specs.Maps.{MapView}
use Rattle.packet_read.specs.declared.arrival.Arrival.{Arrival}
use Rattle.plain_server.specs.RecordsById.{opening}
use Rattle.plain_server.specs.Frames.{AreRight, journals_of}
use Rattle.plain_server.proofs.Frames as frames
use Rattle.demo_lines.specs.Bytes.{fault, map_of}
use Rattle.demo_lines.specs.Spelling.{recording_text}
use Rattle.demo_lines.proofs.RecordingsRead.{recordings_read_back}
use Rattle.out_text.specs.OutLines.{EndLine, text_of}
use Rattle.out_text.specs.Journals.{dids}
use Rattle.out_text.specs.Collecting.{frames_of}
use Rattle.out_text.specs.Output.{lines_in, AreRightIn, AreInOrderIn, out_text}
use Rattle.out_text.specs.Laws.{HasOutput, FaultlessRecordingsHaveOutputs, WrittenRecordingsHaveOutputs, OneWorkerHasOneOutput, OutputsSpellTheirJournals}
use Rattle.out_text.proofs.Quiet.{split-silent, dids-text}
use Rattle.out_text.proofs.KeptRules.{map_keeps_rules, faultless_has_map}
use Rattle.out_text.proofs.Fronts.{AreRun, whole_text, dids-front, dids-out, is_output}

-- frames are run with the moves in the order of arrival
pub run_in_order : (workers : ℕ) (arena : MapView) (closed : List (List Arrival)) → AreRun workers arena closed (journals_of arena 0 (opening arena) closed)
run_in_order workers arena closed = record {
  right = frames.right_in_order arena 0 (opening arena) closed;
  order = λ one. frames.order_in_order arena 0 (opening arena) closed;
}

-- a recording without a fault has an output: its frames, run with the moves in the order of arrival
output_in : (workers : ℕ) (bytes : List ℕ) (m : Option MapView) → fault bytes ≡ None → map_of bytes ≡ m → IsSome m → HasOutput workers bytes
output_in workers bytes None accepted has some = cc
output_in workers bytes (Some arena) accepted has some =
    let closed = frames_of bytes in
    let js = journals_of arena 0 (opening arena) closed in
    record {
      text = whole_text arena closed js;
      is_output = is_output workers bytes arena (record { has = has; is_map = map_keeps_rules bytes arena has }) closed js accepted refl (run_in_order workers arena closed);
    }

pub faultless_output : FaultlessRecordingsHaveOutputs
faultless_output workers bytes accepted = output_in workers bytes (map_of bytes) accepted refl (faultless_has_map bytes accepted)

-- a recording that can be written is without a fault
pub some_output : WrittenRecordingsHaveOutputs
some_output workers arena fs is = faultless_output workers (recording_text arena fs) (recordings_read_back arena fs is).fault

-- of frames there is one list of right journals in the order of arrival
pub one_list_in : (m : Option MapView) (fs : List (List Arrival)) (js ks : List (List Entry)) → AreRightIn m fs js → AreInOrderIn m fs js → AreRightIn m fs ks → AreInOrderIn m fs ks → js ≡ ks
one_list_in None fs js ks right order right' order' = right.1 ∙ sym right'.1
one_list_in (Some arena) fs js ks right order right' order' =
    frames.one_journal_each arena 0 (opening arena) fs js right order
    ∙ sym (frames.one_journal_each arena 0 (opening arena) fs ks right' order')

pub one_output : OneWorkerHasOneOutput
one_output bytes text other is is' =
    is.spelled ∙ ap (out_text bytes) (one_list_in (map_of bytes) (frames_of bytes) (dids text) (dids other) is.right (is.order refl) is'.right (is'.order refl)) ∙ sym is'.spelled

-- ---- the journals of an output

-- no frame, and no journal
none_reported : (count : ℕ) → dids (text_of (EndLine count ∷ [])) ≡ []
none_reported count = dids-text (EndLine count ∷ []) [] (split-silent (EndLine count ∷ []) [] (tt, tt))

pub nothing_reported : dids (text_of []) ≡ []
nothing_reported = dids-text [] [] refl

-- right journals, with no worker whose order counts
right_run : (arena : MapView) (fs : List (List Arrival)) (js : List (List Entry)) → AreRight arena 0 (opening arena) fs js → AreRun 0 arena fs js
right_run arena fs js right = record { right = right; order = λ one. absurd (omega (arith, one)) }

whole_spells : (bytes : List ℕ) (m : Option MapView) (js : List (List Entry)) → map_of bytes ≡ m → AreRightIn m (frames_of bytes) js
    → dids (text_of (lines_in m (frames_of bytes) js ++ EndLine (length (frames_of bytes)) ∷ [])) ≡ js
whole_spells bytes None js has right = none_reported (length (frames_of bytes)) ∙ sym right.1
whole_spells bytes (Some arena) js has right =
    dids-out 0 bytes arena (record { has = has; is_map = map_keeps_rules bytes arena has }) (frames_of bytes) js refl (right_run arena (frames_of bytes) js right)

front_spells : (bytes : List ℕ) (k : ℕ) (m : Option MapView) (js : List (List Entry)) → map_of bytes ≡ m → AreRightIn m (take k (frames_of bytes)) js
    → dids (text_of (lines_in m (take k (frames_of bytes)) js)) ≡ js
front_spells bytes k None js has right = nothing_reported ∙ sym right.1
front_spells bytes k (Some arena) js has right =
    let all = frames_of bytes in
    dids-front 0 bytes arena (record { has = has; is_map = map_keeps_rules bytes arena has }) (take k all) js
    (record { rest = drop k all; is = sym (take-append-drop k all) }) (right_run arena (take k all) js right)

pub outputs_spell : OutputsSpellTheirJournals
outputs_spell = record {
  whole = λ bytes js right. whole_spells bytes (map_of bytes) js refl right;
  front = λ bytes k js right. front_spells bytes k (map_of bytes) js refl right;
}
