-- The linked world: a tree, records by id, and the lists of the tree's nodes in which the live ids are linked.
use Rattle.std.specs.Prelude.{◌≡◌, ℕ, ◌+◌, ◌*◌, if◌then◌else◌, List, fold, length, replicate, Option, Some, None, slice_set}
use Rattle.std.specs.Option.{option_map}
use Rattle.arena_geo.specs.Bounds.{Bounds}
use Rattle.areanode.specs.Trees.{TreeView, IsTreeDepth, nodes_in, node_of}
use Rattle.entity_recs.specs.declared.limits.TheConstants.{IDS}
use Rattle.entity_recs.specs.declared.rec.Rec.{Rec}
use Rattle.entity_recs.specs.Kinds.{is_solid}
use Rattle.entity_recs.specs.Bodies.{abs_of}
use Rattle.link_lists.specs.Pool.{ListsView, IsProper, where_of, empty_pool, lists_after_insert, lists_after_remove}
use Rattle.world_tree.specs.Live.{record_at, ids_of, boxes_of, AreEntries}

-- the tree, the record at the place of each id, and the ids of each list
pub record WorldView : Type 0 where
  pub tree : TreeView
  pub records : List (Option Rec)
  pub lists : ListsView

-- the world with this tree, these records and these lists
abbrev pub world_of : TreeView → List (Option Rec) → ListsView → WorldView
world_of tree records lists = record { tree = tree; records = records; lists = lists }

-- the record with this id, if that id is live
abbrev pub record_of : WorldView → ℕ → Option Rec
record_of w id = record_at w.records id

-- the list of a record: that of the node of its absolute box for a solid, and as many further on as there are nodes for a trigger
abbrev pub list_for : TreeView → Rec → ℕ
list_for tree r = if is_solid r.kind then node_of tree (abs_of r) else nodes_in tree.depth + node_of tree (abs_of r)

-- Quake's SV_LinkEdict: each live id is in one list, there once, and the list is that of its record; no other id is in
-- any.
-- The records are by id, each within its bounds, and there are two lists for each node.
pub record IsLinked (w : WorldView) : Type 0 where
  pub depth : IsTreeDepth w.tree.depth
  pub places : length w.records ≡ IDS
  pub ids : w.lists.ids ≡ IDS
  pub list_count : length w.lists.lists ≡ 2 * nodes_in w.tree.depth
  pub entries : AreEntries w.records
  pub proper : IsProper w.lists
  pub linked : (id : ℕ) → where_of w.lists id ≡ option_map (list_for w.tree) (record_of w id)

-- what a world keeps beside its records and lists, so that no query computes it anew: the absolute box of each record,
-- and the live ids in rising order
pub record IsKept (w : WorldView) (boxes : List (Option Bounds)) (live : List ℕ) : Type 0 where
  pub linked : IsLinked w
  pub boxes_are : boxes ≡ boxes_of w.records
  pub live_are : live ≡ ids_of w.records

-- the world over these bounds, with a tree of this depth, in which no id is live
abbrev pub empty_world : Bounds → ℕ → WorldView
empty_world bounds depth = record {
  tree = record { depth = depth; bounds = bounds };
  records = replicate IDS None;
  lists = empty_pool IDS (2 * nodes_in depth);
}

-- the world with this record, its id first in the record's list
abbrev pub with_record : WorldView → Rec → WorldView
with_record w r = record {
  tree = w.tree;
  records = slice_set w.records r.id (Some r);
  lists = lists_after_insert w.lists (list_for w.tree r) r.id;
}

-- the world without this id, which is in no list; the others keep their order
abbrev pub without_id : WorldView → ℕ → WorldView
without_id w id = record { tree = w.tree; records = slice_set w.records id None; lists = lists_after_remove w.lists id }

-- the world with these records put in, one after another
abbrev pub with_records : WorldView → List Rec → WorldView
with_records w records = fold with_record w records
