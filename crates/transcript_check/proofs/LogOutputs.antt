-- Right logs are the outputs of `feed`, and their numbers are counted over the lines.
use Rattle.std.proofs.Common.{◌≡◌, List, [], ◌∷◌, ◌++◌, length, Option, codes, refl, sym, ap, ◌∙◌, subst}
use Rattle.arena_map.specs.Maps.{MapView}
use Rattle.packet_read.specs.declared.arrival.Arrival.{Arrival}
use Rattle.plain_server.specs.RecordsById.{opening}
use Rattle.demo_lines.specs.Laws.{IsTextOf}
use Rattle.demo_lines.specs.Spelling.{recording_text}
use Rattle.demo_lines.proofs.RecordingsRead.{recordings_read_back}
use Rattle.out_text.specs.Collecting.{frames_of}
use Rattle.out_text.specs.Feeds.{AreFeedsOf, fed_lines_in, froms}
use Rattle.out_text.specs.Journals.{dids}
use Rattle.out_text.specs.OutLines.{EndLine, text_of}
use Rattle.out_text.specs.Output.{AreRightIn, IsOutput}
use Rattle.out_text.specs.Transcripts.{BeginsWith}
use Rattle.out_text.proofs.FedFronts.{fed_whole, fed_froms-out, is_fed_output}
use Rattle.out_text.proofs.FedRecordings.{frames_of-read, fed_recording}
use Rattle.out_text.proofs.FedRuns.{length-feeds, feeds-own}
use Rattle.out_text.proofs.Fronts.{AreRun, IsPlayed, is_output}
use Rattle.out_text.proofs.Growing.{goes_on_all}
use Rattle.out_text.proofs.KeptRules.{map_keeps_rules}
use Rattle.out_text.proofs.WithoutFroms.{without-whole}
use Rattle.transcript_check.specs.Laws.{lines_beginning}
use Rattle.transcript_check.specs.LogLaws.{RightLogsAreOutputs, OutputsAreRightLogs, RightLogsCountTheirLines}
use Rattle.transcript_check.proofs.FedCounts.{frames-whole, dids-whole}

pub right_logs : RightLogsAreOutputs
right_logs workers map log count moves right several =
    let t = right.is in
    let recording = recording_text map t.feeds in
    let read : IsTextOf map t.feeds recording = recordings_read_back map t.feeds t.recorded in
    let frames : frames_of recording ≡ t.feeds = frames_of-read map t.feeds recording read in
    let played : IsPlayed recording map = record { has = read.map; is_map = t.recorded.is_map } in
    let run : AreRun workers map t.feeds t.journals = record { right = t.right; order = λ one. absurd (several one) } in
    let closed = frames_of recording in
    let on = goes_on_all closed closed refl in
    let fed : AreFeedsOf closed t.feeds = subst (λ (fs : List (List Arrival)). AreFeedsOf fs t.feeds) (sym frames) (feeds-own t.feeds) in
    record {
      text = fed_whole map t.feeds t.journals;
      fed = record {
        read = read;
        frames_are = frames;
        holds = is_fed_output workers recording map played closed t.feeds t.journals on fed run refl read.fault;
      };
      order = fed_froms-out workers recording map played closed t.feeds t.journals on fed run;
      played = subst (IsOutput workers recording) (sym (without-whole map 0 (opening map) t.feeds t.journals (length t.feeds)))
          (is_output workers recording map played t.feeds t.journals read.fault frames run);
      begins = t.begins;
    }

pub right_logs_count : RightLogsCountTheirLines
unfolding right_logs
right_logs_count = λ workers map log count moves right several.
    let t = right.is in
    record {
      begins = right_logs workers map log count moves right several;
      frames_are = right.count_is ∙ sym (frames-whole map t.feeds t.journals);
      moves_are = right.moves_are ∙ sym (dids-whole map t.feeds t.journals t.recorded.is_map t.right);
    }

pub outputs_right_logs : OutputsAreRightLogs
outputs_right_logs workers recording map text log has is begun =
    let feeds = froms text in
    let js = dids text in
    let closed = frames_of recording in
    let on = goes_on_all closed closed refl in
    let is_map = map_keeps_rules recording map has in
    let right = subst (λ (m : Option MapView). AreRightIn m feeds js) has is.right in
    let whole : text ≡ fed_whole map feeds js = is.spelled ∙ ap (λ (m : Option MapView). text_of (fed_lines_in m feeds js ++ EndLine (length feeds) ∷ [])) has in
    record {
      is = record {
        feeds = feeds;
        recorded = fed_recording recording map (record { has = has; is_map = is_map }) closed feeds on is.feeds;
        journals = js;
        right = right;
        begins = subst (BeginsWith log) whole begun;
      };
      count_is = sym (length-feeds closed feeds is.feeds);
      moves_are = ap (lines_beginning (codes "did ")) whole ∙ dids-whole map feeds js is_map right;
    }
