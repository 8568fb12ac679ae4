-- What the replies of a frame show: the live slots, and the snapshot of the player in each.
use Rattle.std.specs.Prelude.{ℕ, List, filter, Option}
use Rattle.std.specs.Prelude.{map as map_list}
use Rattle.entity_recs.specs.declared.rec.Rec.{Rec}
use Rattle.entity_recs.specs.Kinds.{is_player}
use Rattle.world_tree.specs.Live.{live_in}
use Rattle.snapshot_write.specs.Snapshots.{snapshot}

-- the live players in rising slot
abbrev pub players_in : List (Option Rec) → List Rec
players_in records = filter (λ (r : Rec). is_player r.kind) (live_in records)

-- their slots
abbrev pub slots_of : List (Option Rec) → List ℕ
slots_of records = map_list (λ (me : Rec). me.id) (players_in records)

-- the snapshot of each, in this order
abbrev pub replies_of : ℕ → List (Option Rec) → List (List ℕ)
replies_of frame records = map_list (λ (me : Rec). snapshot frame me (live_in records)) (players_in records)
