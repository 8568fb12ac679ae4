-- The lines of what a frame gives out are those of its live players.
use Rattle.std.proofs.Common.{◌≡◌, ℕ, List, [], ◌∷◌, ◌++◌, map, Option, refl, ap}
use Rattle.entity_recs.specs.declared.rec.Rec.{Rec}
use Rattle.entity_recs.specs.declared.effect.Entry.{Entry}
use Rattle.world_tree.specs.Live.{live_in}
use Rattle.client_ports.specs.Lists.{Lists}
use Rattle.snapshot_write.specs.Snapshots.{snapshot}
use Rattle.plain_server.specs.Replies.{players_in, slots_of, replies_of}
use Rattle.out_text.specs.OutLines.{FrameLine}
use Rattle.out_text.specs.FrameLines.{no_line, joined_line, did_line, to_line, reply_lines, given_lines, frame_lines}

-- the lines of the slots of players and of their snapshots
lines_of_players : (frame : ℕ) (live players : List Rec) → reply_lines (map (λ (me : Rec). me.id) players) (map (λ (me : Rec). snapshot frame me live) players) ≡ map (to_line frame live) players
lines_of_players frame live [] = refl
lines_of_players frame live (me ∷ players) = ap (λ ls. to_line frame live me ∷ ls) (lines_of_players frame live players)

-- what a frame gives out are its lines
pub given-is : (frame : ℕ) (lists : Lists) (journal : List Entry) (records : List (Option Rec)) → given_lines frame lists journal (slots_of records) (replies_of frame records) ≡ frame_lines frame lists journal records
given-is frame lists journal records =
    ap (λ ls. FrameLine frame ∷ (map no_line lists.refused ++ map joined_line lists.joined ++ map did_line journal ++ ls)) (lines_of_players frame (live_in records) (players_in records))
