-- Each answer of a frame is a line that isn't too long.
use Rattle.std.proofs.Common.{ℕ, ◌+◌, ◌<◌, ◌≤◌, All, List, [], ◌∷◌, ◌++◌, length, map, arith, length-append}
use Rattle.std.specs.List.{AllByRecursion}
use Rattle.edge_io.specs.declared.line_buf.TheConstants.{ROOM}
use Rattle.entity_recs.specs.declared.limits.TheConstants.{IDS}
use Rattle.entity_recs.specs.declared.rec.Rec.{Rec}
use Rattle.entity_recs.specs.declared.effect.Entry.{Entry}
use Rattle.arena_map.specs.Maps.{MapView, IsMap}
use Rattle.world_tree.specs.Live.{live_in}
use Rattle.packet_read.specs.declared.arrival.Arrival.{Arrival}
use Rattle.client_ports.specs.States.{State, IsServerState}
use Rattle.client_ports.proofs.Slots.{client_count}
use Rattle.plain_server.specs.Entries.{HasBytes, AreReported}
use Rattle.plain_server.specs.Frames.{state_after_tick, received_in, moved_by, IsRightAfter}
use Rattle.plain_server.specs.Replies.{players_in}
use Rattle.plain_server.proofs.Small.{numbers_are_small}
use Rattle.plain_server.proofs.Reports.{right_is_reported}
use Rattle.plain_server.proofs.Frames.{received_is, moved_by_is}
use Rattle.plain_server.proofs.Ticking.{server_ticked}
use Rattle.out_text.specs.OutLines.{OutLine, line_spelling, text_of}
use Rattle.out_text.specs.FrameLines.{no_line, joined_line, did_line, to_line}
use Rattle.out_text.proofs.Bounded.{early-long, players-below, live-within}
use Rattle.out_text.proofs.FedReadBack.{rest_lines}
use Rattle.out_text.proofs.Lengths.{length-line, journal-long, to_lines-long}
use Rattle.out_text.proofs.SmallFrames.{IsSmallFrame}

-- the line has its room
abbrev pub IsShortLine : OutLine → Type 0
IsShortLine l = length (line_spelling l) ≤ ROOM

-- each line of a short text has
each-short : (n : ℕ) (ls : List OutLine) → n ≤ ROOM → length (text_of ls) ≤ n → AllByRecursion IsShortLine ls
each-short n [] room long = tt
each-short n (l ∷ ls) room long =
    let whole = length-line l ls in
    let own = length-append (line_spelling l) (10 ∷ []) in
    (omega (arith, whole, own, long, room), each-short n ls room (omega (arith, whole, long)))

dids-short : (place : ℕ) (es : List Entry) → AreReported place es → AllByRecursion IsShortLine (map did_line es)
dids-short place [] are = tt
dids-short place (e ∷ es) are =
    ((each-short 96 (did_line e ∷ []) (omega arith) (journal-long place (e ∷ []) (are.0, tt))).0, dids-short (place + 1) es are.1)

tos-short : (frame : ℕ) (live players : List Rec) → length live ≤ IDS → AllByRecursion (λ r. r.id < IDS) players → AllByRecursion IsShortLine (map (to_line frame live) players)
tos-short frame live [] few below = tt
tos-short frame live (me ∷ players) few below =
    ((each-short ROOM (to_line frame live me ∷ []) (omega arith) (let long = to_lines-long frame live (me ∷ []) few (below.0, tt) in omega (arith, long))).0, tos-short frame live players few below.1)

both-short : (ls more : List OutLine) → AllByRecursion IsShortLine ls → AllByRecursion IsShortLine more → AllByRecursion IsShortLine (ls ++ more)
both-short [] more p q = q
both-short (l ∷ ls) more p q = (p.0, both-short ls more p.1 q)

pub answers_are_short : (arena : MapView) (frame : ℕ) (state : State) (arrivals : List Arrival) (journal : List Entry) → IsMap arena → IsServerState arena state → All HasBytes arrivals → IsSmallFrame arrivals
    → IsRightAfter arena (received_in arena frame state arrivals) journal → AllByRecursion IsShortLine (rest_lines arena frame (received_in arena frame state arrivals) journal)
answers_are_short arena frame state arrivals journal is_map is bytes small right =
    let r = received_in arena frame state arrivals in
    let before = state_after_tick arena frame state in
    let ticked = server_ticked arena frame state is_map is in
    let pass = received_is arena frame state arrivals is_map is in
    let moved = moved_by_is arena r journal is_map pass in
    let records = (moved_by arena r journal).records in
    let refused = map no_line r.lists.refused in
    let joined = map joined_line r.lists.joined in
    let dids = map did_line journal in
    let tos = map (to_line frame (live_in records)) (players_in records) in
    let early = early-long arena frame before arrivals (client_count before.clients ticked.clients.slots) small in
    let few = small.few in
    let reported = right_is_reported arena r journal is_map pass (numbers_are_small arena frame before arrivals bytes) right in
    both-short (refused ++ joined ++ dids) tos
    (both-short (refused ++ joined) dids
    (both-short refused joined (each-short 8704 refused (omega arith) (let long = early.0 in omega (arith, long, few))) (each-short 8704 joined (omega arith) (let long = early.1 in omega (arith, long, few))))
    (dids-short 0 journal reported))
    (tos-short frame (live_in records) (players_in records) (live-within arena records moved.places) (players-below arena records moved.fits.valid))
