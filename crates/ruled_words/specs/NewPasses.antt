-- The passes of a new table.
use Rattle.std.specs.Prelude.{ℕ, ◌-◌, false, List, ◌∷◌, map, length, slice_index, None}
use Rattle.std.specs.List.{range_with_len}
use Rattle.atomic_table.specs.Seated.{TableId}
use Rattle.core_steps.specs.Reads.{View, new_view}
use Rattle.ruled_words.specs.Sights.{no_tally}
use Rattle.ruled_words.specs.Passes.{PassView}
use Rattle.ruled_words.specs.declared.setting.Setting.{Setting}

-- a pass with this view that has no command in hand, of a table of which its passes know this
abbrev pub new_pass : TableId → Setting → ℕ → View → PassView
new_pass table setting number view = record {
  table = table;
  setting = setting;
  number = number;
  given = None;
  quits = false;
  effect = None;
  view = view;
  tally = no_tally;
}

-- the view of a new seat that has made so many seats
abbrev pub view_with_made : ℕ → ℕ → View
view_with_made room made = record (new_view room) { made = made }

-- pass 0 of a table with these rooms
abbrev pub first_pass : TableId → Setting → List ℕ → PassView
first_pass table setting rooms = new_pass table setting 0 (view_with_made (slice_index rooms 0) (length rooms))

-- another pass
abbrev pub other_pass : TableId → Setting → List ℕ → ℕ → PassView
other_pass table setting rooms number = new_pass table setting number (new_view (slice_index rooms number))

-- the passes of a table with these rooms, in rising number
abbrev pub new_passes : TableId → Setting → List ℕ → List PassView
new_passes table setting rooms = first_pass table setting rooms
    ∷ map (other_pass table setting rooms) (range_with_len 1 (length rooms - 1))
