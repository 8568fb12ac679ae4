-- Items that return, over records by id.
use Rattle.std.specs.Prelude.{ℕ, ◌==◌, Bool, not, ◌&&◌, nat_le, List, map, Option, slice_set, if◌then◌else◌}
use Rattle.std.specs.Option.{option_map}
use Rattle.entity_recs.specs.declared.rec.Rec.{Rec}
use Rattle.entity_recs.specs.Records.{with_state}
use Rattle.entity_recs.specs.Kinds.{is_item}
use Rattle.world_tree.specs.Live.{record_at}

-- the records by id, each live one changed so
abbrev pub each_changed : (Rec → Rec) → List (Option Rec) → List (Option Rec)
each_changed change records = map (option_map change) records

-- the records by id, with the one of this id changed so, if it is live
abbrev pub changed_at : (Rec → Rec) → List (Option Rec) → ℕ → List (Option Rec)
changed_at change records id = slice_set records id (option_map change (record_at records id))

-- the record is that of a taken item, and the frame in which it returns has come
abbrev pub is_due : ℕ → Rec → Bool
is_due frame r = is_item r.kind && not (r.state == 0) && nat_le r.state frame

-- the record after the items of a frame have returned: an item that is due is there again
abbrev pub record_after_returns : ℕ → Rec → Rec
record_after_returns frame r = if is_due frame r then with_state r 0 else r

-- the records by id after the items of a frame have returned
abbrev pub after_returns : ℕ → List (Option Rec) → List (Option Rec)
after_returns frame records = each_changed (record_after_returns frame) records
