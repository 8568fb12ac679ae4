-- A recording that is fed can be written with its packets in the order of their arrival, and is read as what was written.
use Rattle.std.proofs.Common.{◌≡◌, ℕ, All, List, [], ◌∷◌, ◌++◌, map, flat_map, Option, Some, None, sym, ap, ◌∙◌, append_assoc, append-nil, arith}
use Rattle.std.specs.List.{AllByRecursion}
use Rattle.arena_map.specs.Maps.{MapView}
use Rattle.packet_read.specs.declared.arrival.Arrival.{Arrival}
use Rattle.plain_server.specs.Entries.{HasBytes}
use Rattle.demo_lines.specs.declared.event.Event.{Event}
use Rattle.demo_lines.specs.declared.event.Event.TheVariants as events
use Rattle.demo_lines.specs.Machines.{run_of}
use Rattle.demo_lines.specs.Spelling.{frame_events, recording_events, IsArrival, IsFrame, IsRecording}
use Rattle.demo_lines.specs.Laws.{IsTextOf}
use Rattle.out_text.specs.Collecting.{Frames, collect, closed_frames, frames_of_events, frames_of}
use Rattle.out_text.specs.Feeds.{AreFeedsOf}
use Rattle.out_text.proofs.Reporting.{HaveBytes}
use Rattle.out_text.proofs.Growing.{GoesOnWith, length-goes_on}
use Rattle.out_text.proofs.Fewness.{frames_are_few}
use Rattle.out_text.proofs.Arrivals.{frames_have_bytes, fore_have_bytes}
use Rattle.out_text.proofs.SmallFrames.{HasPort, IsSmallFrame, AreSmallFrames, frames_are_small, fore_are_small}
use Rattle.out_text.proofs.Fitting.{HasLine}
use Rattle.out_text.proofs.Fronts.{IsPlayed}
use Rattle.out_text.proofs.ReadyMaps.{frames_have_spawn}
use Rattle.out_text.proofs.FedRuns.{by_recursion, length-feeds, feeds_have_bytes}
use Rattle.out_text.proofs.FedCounts.{feeds_are_small}

-- ---- the frames of the events of frames

-- the packets of an open frame
collects_packets : (closed : List (List Arrival)) (opened arrivals : List Arrival) (more : List Event)
    → run_of collect (record { closed = closed; opened = Some opened }) (map events.From arrivals ++ more) ≡ run_of collect (record { closed = closed; opened = Some (opened ++ arrivals) }) more
collects_packets closed opened [] more = ap (λ (l : List Arrival). run_of collect (record { closed = closed; opened = Some l }) more) (sym (append-nil opened))
collects_packets closed opened (a ∷ arrivals) more =
    collects_packets closed (opened ++ a ∷ []) arrivals more
    ∙ ap (λ (l : List Arrival). run_of collect (record { closed = closed; opened = Some l }) more) (append_assoc opened (a ∷ []) arrivals)

collects_frames : (closed : List (List Arrival)) (opened : Option (List Arrival)) (frames : List (List Arrival))
    → (run_of collect (record { closed = closed; opened = opened }) (recording_events frames)).closed ≡ (closed ++ closed_frames opened) ++ frames
collects_frames closed opened [] = sym (append-nil (closed ++ closed_frames opened))
collects_frames closed opened (arrivals ∷ frames) =
    let before = closed ++ closed_frames opened in
    let packets = map events.From arrivals in
    ap (λ (es : List Event). (run_of collect (record { closed = before; opened = Some [] }) es).closed) (append_assoc packets (flat_map frame_events frames) (events.End ∷ []))
    ∙ ap (λ (f : Frames). f.closed) (collects_packets before [] arrivals (recording_events frames))
    ∙ collects_frames before (Some arrivals) frames
    ∙ append_assoc before (arrivals ∷ []) frames

-- a text with the events of frames has these frames
pub frames_of-read : (arena : MapView) (frames : List (List Arrival)) (text : List ℕ) → IsTextOf arena frames text → frames_of text ≡ frames
frames_of-read arena frames text read = ap (λ (es : List Event). (frames_of_events es).closed) read.events ∙ collects_frames [] None frames

-- ---- frames that can be written

arrivals_are : (xs : List Arrival) → AllByRecursion HasPort xs → AllByRecursion HasLine xs → AllByRecursion HasBytes xs → AllByRecursion IsArrival xs
arrivals_are [] ports lines bytes = tt
arrivals_are (x ∷ xs) ports lines bytes =
    (record { port = ports.0; bytes = bytes.0; fits = lines.0 }, arrivals_are xs ports.1 lines.1 bytes.1)

frame_is : (arrivals : List Arrival) → IsSmallFrame arrivals → All HasBytes arrivals → IsFrame arrivals
frame_is arrivals small bytes = record {
  few = small.few;
  each = arrivals_are arrivals (by_recursion HasPort arrivals small.ports) (by_recursion HasLine arrivals small.room) (by_recursion HasBytes arrivals bytes);
}

frames_are : (frames : List (List Arrival)) → AreSmallFrames frames → HaveBytes frames → AllByRecursion IsFrame frames
frames_are [] small bytes = tt
frames_are (arrivals ∷ frames) small bytes = (frame_is arrivals small.0 bytes.0, frames_are frames small.1 bytes.1)

-- the first frames of a recording that is fed are those of one that can be written
pub fed_recording : (bytes : List ℕ) (arena : MapView) → IsPlayed bytes arena → (closed feeds : List (List Arrival)) → GoesOnWith closed (frames_of bytes) → AreFeedsOf closed feeds
    → IsRecording arena feeds
fed_recording bytes arena played closed feeds on fed =
    let all = frames_of bytes in
    let same = length-feeds closed feeds fed in
    let longer = length-goes_on closed all on in
    record {
      is_map = played.is_map;
      few = omega (arith, same, longer, frames_are_few bytes);
      each = frames_are feeds (feeds_are_small closed feeds fed (fore_are_small closed all on (frames_are_small bytes)))
          (feeds_have_bytes closed feeds fed (fore_have_bytes closed all on (frames_have_bytes bytes)));
      spawn = λ some. frames_have_spawn bytes arena played.has (omega (arith, same, longer, some));
    }
