-- The lines of the output: those of a frame, and those of frames.
use Rattle.std.specs.Prelude.{ℕ, ◌+◌, List, [], ◌∷◌, ◌++◌, map, Option}
use Rattle.entity_recs.specs.declared.rec.Rec.{Rec}
use Rattle.entity_recs.specs.declared.effect.Entry.{Entry}
use Rattle.arena_map.specs.Maps.{MapView}
use Rattle.world_tree.specs.Live.{live_in}
use Rattle.packet_read.specs.declared.arrival.Arrival.{Arrival}
use Rattle.client_ports.specs.declared.received.Refused.{Refused}
use Rattle.client_ports.specs.declared.received.Joined.{Joined}
use Rattle.client_ports.specs.Lists.{Lists}
use Rattle.client_ports.specs.States.{State}
use Rattle.client_ports.specs.Receiving.{Receiving}
use Rattle.plain_server.specs.Frames.{received_in, moved_by, state_after, first_of, rest_of}
use Rattle.plain_server.specs.Replies.{players_in}
use Rattle.snapshot_write.specs.Snapshots.{snapshot}
use Rattle.out_text.specs.Dids.{did_of}
use Rattle.out_text.specs.OutLines.{OutLine, FrameLine, NoLine, JoinedLine, DidLine, ToLine}

-- the line of a packet that was refused
abbrev pub no_line : Refused → OutLine
no_line t = NoLine t.place t.why

-- the line of a player that joined
abbrev pub joined_line : Joined → OutLine
joined_line j = JoinedLine j.port j.slot

-- the line of a move that was done
abbrev pub did_line : Entry → OutLine
did_line e = DidLine (did_of e)

-- the line of the snapshot of a player among all live records
abbrev pub to_line : ℕ → List Rec → Rec → OutLine
to_line frame live me = ToLine me.id (snapshot frame me live)

-- the line of the reply to each of these slots
abbrev pub reply_lines : List ℕ → List (List ℕ) → List OutLine
reply_lines [] replies = []
reply_lines (slot ∷ slots) [] = []
reply_lines (slot ∷ slots) (bytes ∷ replies) = ToLine slot bytes ∷ reply_lines slots replies

-- the lines of the snapshots of the live players
abbrev pub to_lines : ℕ → List (Option Rec) → List OutLine
to_lines frame records = map (to_line frame (live_in records)) (players_in records)

-- a frame's lines: its refusals, its joins, the moves of its journal, and the snapshot of each live player
abbrev pub frame_lines : ℕ → Lists → List Entry → List (Option Rec) → List OutLine
frame_lines frame lists journal records =
    FrameLine frame ∷ (map no_line lists.refused ++ map joined_line lists.joined ++ map did_line journal
    ++ to_lines frame records)

-- the lines after the first, from what the frame gave out: the live slots after its moves, and the bytes of the reply to
-- each
abbrev pub answer_lines : Lists → List Entry → List ℕ → List (List ℕ) → List OutLine
answer_lines lists journal slots replies =
    map no_line lists.refused ++ map joined_line lists.joined ++ map did_line journal ++ reply_lines slots replies

-- all of them, from the same
abbrev pub given_lines : ℕ → Lists → List Entry → List ℕ → List (List ℕ) → List OutLine
given_lines frame lists journal slots replies = FrameLine frame ∷ answer_lines lists journal slots replies

-- the lines of a frame with this journal: the snapshots show the world after its moves, in which those that leave are
-- still there
abbrev pub lines_with : MapView → ℕ → Receiving → List Entry → List OutLine
lines_with map frame r journal = frame_lines frame r.lists journal (moved_by map r journal).records

-- the lines of frames, the first of which has this number, with these journals
abbrev pub run_lines : MapView → ℕ → State → List (List Arrival) → List (List Entry) → List OutLine
run_lines map frame state [] journals = []
run_lines map frame state (arrivals ∷ frames) journals =
    let r = received_in map frame state arrivals in
    lines_with map frame r (first_of journals)
    ++ run_lines map (frame + 1) (state_after map r (first_of journals)) frames (rest_of journals)
