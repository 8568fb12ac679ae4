-- The fed output of a recording has at most 1,382,656 bytes a frame, and a last line of at most 16.
use Rattle.std.proofs.Common.{◌≡◌, ℕ, ◌+◌, ◌*◌, ◌<◌, ◌≤◌, All, List, [], ◌∷◌, ◌++◌, length, map, take, drop, codes, decimal, Option, Some, None, refl, sym, ap, arith, length-append, take-append-drop}
use Rattle.std.specs.List.{AllByRecursion}
use Rattle.edge_io.specs.Fields.{field_text}
use Rattle.entity_recs.specs.declared.effect.Entry.{Entry}
use Rattle.arena_map.specs.Maps.{MapView, IsMap}
use Rattle.packet_read.specs.declared.arrival.Arrival.{Arrival}
use Rattle.client_ports.specs.States.{State, IsServerState}
use Rattle.plain_server.specs.RecordsById.{opening}
use Rattle.plain_server.specs.Entries.{HasBytes}
use Rattle.plain_server.specs.Frames.{received_in, state_after, IsRightAfter, AreRight}
use Rattle.plain_server.proofs.Frames.{opening_is, received_is, state_after_is}
use Rattle.demo_lines.specs.Bytes.{map_of}
use Rattle.demo_lines.specs.Spelling.{packet_text}
use Rattle.out_text.specs.OutLines.{FrameLine, EndLine, printed_line, text_of}
use Rattle.out_text.specs.FrameLines.{lines_with}
use Rattle.out_text.specs.Journals.{dids}
use Rattle.out_text.specs.Collecting.{frames_of}
use Rattle.out_text.specs.Output.{AreRightIn}
use Rattle.out_text.specs.Feeds.{AreFeedsOf, from_line, with_froms, fed_lines, fed_lines_in, fed_text, fed_output, froms}
use Rattle.out_text.specs.FedLaws.{FedOutputsAreBounded}
use Rattle.out_text.proofs.Reporting.{HaveBytes}
use Rattle.out_text.proofs.Growing.{GoesOnWith, goes_on_all, length-goes_on}
use Rattle.out_text.proofs.Fewness.{frames_are_few}
use Rattle.out_text.proofs.Arrivals.{frames_have_bytes, fore_have_bytes}
use Rattle.out_text.proofs.KeptRules.{map_keeps_rules}
use Rattle.out_text.proofs.Fitting.{HasLine}
use Rattle.out_text.proofs.SmallFrames.{IsSmallFrame, AreSmallFrames, frames_are_small, fore_are_small}
use Rattle.out_text.proofs.Lengths.{length-lines, length-line, end_line-long}
use Rattle.out_text.proofs.Bounded.{frame-long}
use Rattle.out_text.proofs.FedReadBack.{rest_lines}
use Rattle.out_text.proofs.FedRuns.{by_recursion, length-feeds, feeds_have_bytes}
use Rattle.out_text.proofs.FedCounts.{feeds_are_small}

-- the line of a packet is as long as that of the recording, which has at most 512 bytes, and its line feed
from_line-long : (a : Arrival) → HasLine a → length (printed_line (from_line a)) ≤ 513
from_line-long a fits =
    let port = codes "from " ++ decimal a.port in
    let packet = packet_text a.bytes in
    let word = codes "from" ++ field_text (decimal a.port) in
    omega (
      arith,
      fits,
      length-append (port ++ codes " " ++ packet) (10 ∷ []),
      length-append (port ++ codes " ") packet,
      length-append port (codes " "),
      length-append (codes "from ") (decimal a.port),
      length-append word (field_text packet),
      length-append (codes "from") (field_text (decimal a.port)),
      length-append (codes " ") (decimal a.port),
      length-append (codes " ") packet,
    )

from_lines-long : (fed : List Arrival) → AllByRecursion HasLine fed → length (text_of (map from_line fed)) ≤ 513 * length fed
from_lines-long [] fit = omega arith
from_lines-long (a ∷ fed) fit = omega (arith, length-line (from_line a) (map from_line fed), from_line-long a fit.0, from_lines-long fed fit.1)

fed_frame-long : (arena : MapView) (frame : ℕ) (state : State) (fed : List Arrival) (journal : List Entry) → IsMap arena → IsServerState arena state → frame < 100000 → All HasBytes fed → IsSmallFrame fed
    → IsRightAfter arena (received_in arena frame state fed) journal → length (text_of (with_froms fed (lines_with arena frame (received_in arena frame state fed) journal))) ≤ 1382656
fed_frame-long arena frame state fed journal is_map is below bytes small right =
    let r = received_in arena frame state fed in
    let rest = rest_lines arena frame r journal in
    omega (
      arith,
      length-line (FrameLine frame) (map from_line fed ++ rest),
      length-lines (map from_line fed) rest,
      length-line (FrameLine frame) rest,
      frame-long arena frame state fed journal is_map is below bytes small right,
      from_lines-long fed (by_recursion HasLine fed small.room),
      small.few,
    )

fed_run-long : (arena : MapView) (frame : ℕ) (state : State) (feeds : List (List Arrival)) (js : List (List Entry)) → IsMap arena → IsServerState arena state → frame + length feeds ≤ 100000 → HaveBytes feeds
    → AreSmallFrames feeds → AreRight arena frame state feeds js → length (text_of (fed_lines arena frame state feeds js)) ≤ 1382656 * length feeds
fed_run-long arena frame state [] js is_map is few bytes small right = omega arith
fed_run-long arena frame state (fed ∷ feeds) [] is_map is few bytes small right = absurd right
fed_run-long arena frame state (fed ∷ feeds) (j ∷ js) is_map is few bytes small right =
    let r = received_in arena frame state fed in
    let next = state_after arena r j in
    let pass = received_is arena frame state fed is_map is in
    omega (
      arith,
      length-lines (with_froms fed (lines_with arena frame r j)) (fed_lines arena (frame + 1) next feeds js),
      fed_frame-long arena frame state fed j is_map is (omega (arith, few)) bytes.0 small.0 right.0,
      fed_run-long arena (frame + 1) next feeds js is_map (state_after_is arena r j is_map pass) (omega (arith, few)) bytes.1 small.1 right.1,
    )

-- ---- the output of a recording

fed_lines-long : (m : Option MapView) (feeds : List (List Arrival)) (js : List (List Entry)) → ((arena : MapView) → m ≡ Some arena → IsMap arena) → length feeds ≤ 100000 → HaveBytes feeds
    → AreSmallFrames feeds → AreRightIn m feeds js → length (text_of (fed_lines_in m feeds js)) ≤ 1382656 * length feeds
fed_lines-long None feeds js rules few bytes small right = omega arith
fed_lines-long (Some arena) feeds js rules few bytes small right =
    let is_map = rules arena refl in
    fed_run-long arena 0 (opening arena) feeds js is_map (opening_is arena is_map) (omega (arith, few)) bytes small right

-- of the first frames of a recording
first_fed-long : (bytes : List ℕ) (closed feeds : List (List Arrival)) (js : List (List Entry)) → GoesOnWith closed (frames_of bytes) → AreFeedsOf closed feeds → AreRightIn (map_of bytes) feeds js
    → length (fed_text bytes feeds js) ≤ 1382656 * length closed
first_fed-long bytes closed feeds js on fed right =
    let all = frames_of bytes in
    let same = length-feeds closed feeds fed in
    let long = fed_lines-long (map_of bytes) feeds js (map_keeps_rules bytes) (omega (arith, same, length-goes_on closed all on, frames_are_few bytes))
    (feeds_have_bytes closed feeds fed (fore_have_bytes closed all on (frames_have_bytes bytes)))
    (feeds_are_small closed feeds fed (fore_are_small closed all on (frames_are_small bytes))) right in
    omega (arith, long, same)

all_fed-long : (bytes : List ℕ) (feeds : List (List Arrival)) (js : List (List Entry)) → AreFeedsOf (frames_of bytes) feeds → AreRightIn (map_of bytes) feeds js
    → length (fed_output bytes feeds js) ≤ 1382656 * length (frames_of bytes) + 16
all_fed-long bytes feeds js fed right =
    let all = frames_of bytes in
    let lines = fed_lines_in (map_of bytes) feeds js in
    let same = length-feeds all feeds fed in
    let few = frames_are_few bytes in
    omega (
      arith,
      length-lines lines (EndLine (length feeds) ∷ []),
      length-line (EndLine (length feeds)) [],
      end_line-long (length feeds) (omega (arith, same, few)),
      first_fed-long bytes all feeds js (goes_on_all all all refl) fed right,
    )

pub fed_are_bounded : FedOutputsAreBounded
fed_are_bounded = record {
  front = λ bytes k feeds js fed right.
      let all = frames_of bytes in
      first_fed-long bytes (take k all) feeds js (record { rest = drop k all; is = sym (take-append-drop k all) }) fed right;
  whole = all_fed-long;
  text = λ workers bytes text is. omega (arith, ap length is.spelled, all_fed-long bytes (froms text) (dids text) is.feeds is.right);
}
