-- How the queries walk the lists: which ids they pass, which they mark, and which records they gather.
use Rattle.std.specs.Prelude.{ℕ, ◌+◌, ◌==◌, Bool, false, ◌&&◌, not, if◌then◌else◌, List, [], ◌∷◌, ◌++◌, Option, None}
use Rattle.std.specs.Prelude.{slice_index_or, slice_set}
use Rattle.std.specs.List.{cons_option, flat_map}
use Rattle.std.specs.Option.{option_map_or}
use Rattle.arena_geo.specs.Bounds.{Bounds}
use Rattle.arena_geo.specs.Boxes.{overlaps}
use Rattle.arena_geo.specs.Regions.{touches_region}
use Rattle.entity_recs.specs.declared.rec.Rec.{Rec}
use Rattle.entity_recs.specs.Kinds.{is_solid}
use Rattle.entity_recs.specs.Bodies.{body_of}
use Rattle.link_lists.specs.Pool.{ListsView, list_of}

-- there is a box at the id, and it touches the region
abbrev pub touches_at : List (Option Bounds) → List Bounds → ℕ → Bool
touches_at boxes region id = option_map_or (λ b. touches_region b region) (slice_index_or boxes id None) false

-- the marks, after each of these ids is marked where it touches the region
unfoldable pub marked : List (Option Bounds) → List Bounds → List ℕ → List Bool → List Bool
marked boxes region [] marks = marks
marked boxes region (id ∷ ids) marks = marked boxes region ids (slice_set marks id (touches_at boxes region id))

-- the ids at these nodes of a tree with this many nodes, the solids of each before its triggers
unfoldable pub ids_at : ℕ → ListsView → List ℕ → List ℕ
ids_at count lists nodes = flat_map (λ node. list_of lists node ++ list_of lists (count + node)) nodes

-- the triggers at these nodes of a tree with this many nodes
unfoldable pub triggers_at : ℕ → ListsView → List ℕ → List ℕ
triggers_at count lists nodes = flat_map (λ node. list_of lists (count + node)) nodes

-- the record of a place, if the place is marked
abbrev pub marked_record : Option Rec → Bool → Option Rec
marked_record place mark = if mark then place else None

-- the live records at the marked places, in order
unfoldable pub picked : List Bool → List (Option Rec) → List Rec
picked [] records = []
picked (mark ∷ marks) [] = []
picked (mark ∷ marks) (place ∷ records) = cons_option (marked_record place mark) (picked marks records)

-- there is a record, it is a solid but not this one, and its body overlaps this one
abbrev pub is_in_the_way : Bounds → ℕ → Option Rec → Bool
is_in_the_way body except place =
    option_map_or (λ r. is_solid r.kind && not (r.id == except) && overlaps body (body_of r)) place false
