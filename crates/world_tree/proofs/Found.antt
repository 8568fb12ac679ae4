-- That what is found along the lists is what a test of all records finds.
use Rattle.std.proofs.Common.{◌≡◌, ℕ, zero, suc, ◌+◌, ◌<◌, ◌==◌, Bool, true, false, ◌&&◌, ◌||◌, not, if◌then◌else◌, nat_eq, List, [], ◌∷◌, ◌++◌, filter, map, length, replicate, All, Option, Some, None, slice_index_or, slice_set, sym, refl, ap, ◌∙◌, subst, inl, inr, arith, get_or-set_same, get_or-set_other}
use Rattle.std.specs.List.{cons_option, list_any, range_with_len}
use Rattle.std.specs.Option.{option_map, option_map_or}
use Rattle.std.proofs.lemmas.Bool.{cases_Bool, cases_eq, cases_lt, eq-eqb, ne_eqb, or_left, or_right}
use Rattle.std.proofs.lemmas.List.{get_or_past, get_or-replicate, length-replicate, length-set}
use Rattle.std.proofs.lemmas.List.Folds.{list_any-append}
use Rattle.std.proofs.lemmas.Option.{none-some, same_Some}
use Rattle.arena_geo.specs.Bounds.{Bounds, IsOrdered}
use Rattle.arena_geo.specs.Boxes.{touches, overlaps, is_blocked}
use Rattle.arena_geo.specs.Regions.{IsRegion, touches_region}
use Rattle.areanode.specs.Words.{has_bit}
use Rattle.areanode.specs.Trees.{nodes_in, node_of, leaves_of, visited_of}
use Rattle.areanode.proofs.Nodes.{touched_node_is_visited, node_is_in_range}
use Rattle.entity_recs.specs.declared.limits.TheConstants.{IDS}
use Rattle.entity_recs.specs.declared.rec.Rec.{Rec}
use Rattle.entity_recs.specs.Kinds.{is_solid}
use Rattle.entity_recs.specs.Bodies.{body_of, abs_of, is_touched}
use Rattle.entity_recs.proofs.Standing.{records_have_boxes}
use Rattle.link_lists.specs.Pool.{ListsView, has, list_of}
use Rattle.link_lists.proofs.Pools.{has-where_of, where_of-has}
use Rattle.world_tree.specs.Live.{record_at, live_in, boxes_of}
use Rattle.world_tree.specs.Worlds.{WorldView, record_of, list_for, IsLinked}
use Rattle.world_tree.specs.Queries.{is_near, near_in, touching_in, solids_in, is_free, nodes_for, looks_for}
use Rattle.world_tree.specs.Walks.{touches_at, marked, ids_at, triggers_at, marked_record, picked, is_in_the_way}
use Rattle.world_tree.proofs.Rounds.{looks_at, passing-has, passing-below}

-- marking keeps the number of marks
pub length-marked : (boxes : List (Option Bounds)) (region : List Bounds) (ids : List ℕ) (marks : List Bool) → length (marked boxes region ids marks) ≡ length marks
unfolding marked
length-marked boxes region [] marks = refl
length-marked boxes region (id ∷ ids) marks =
    length-marked boxes region ids (slice_set marks id (touches_at boxes region id)) ∙ length-set marks id (touches_at boxes region id)

-- the mark of an id: whether it touches the region where it was among the ids, and else what it was
pub marked-at : (boxes : List (Option Bounds)) (region : List Bounds) (ids : List ℕ) (marks : List Bool) (i : ℕ) → i < length marks
    → slice_index_or (marked boxes region ids marks) i false ≡ (if has ids i then touches_at boxes region i else slice_index_or marks i false)
unfolding marked
marked-at boxes region [] marks i below = refl
marked-at boxes region (id ∷ ids) marks i below =
    let mark = touches_at boxes region id in
    let next = slice_set marks id mark in
    let longer : i < length next = omega (arith, length-set marks id mark) in
    marked-at boxes region ids next i longer
    ∙ elim (cases_eq i id) [
      | inl same ↦
          let t = eq-eqb i id same in
          let here : slice_index_or next i false ≡ touches_at boxes region i =
          ap (λ j. slice_index_or next j false) same ∙ get_or-set_same marks id mark false (omega arith) ∙ ap (touches_at boxes region) (sym same) in
          rw t (both (has ids i) _ _ here)
      | inr apart ↦
          let t = ne_eqb i id apart in
          let here = get_or-set_other marks id i mark false apart in
          rw t (ap (λ (b : Bool). if has ids i then touches_at boxes region i else b) here)
    ]
  where
    both : (b : Bool) (x y : Bool) → y ≡ x → (if b then x else y) ≡ x
    both true x y e = refl
    both false x y e = e

-- the box of an id is that of its record
pub box-at : (records : List (Option Rec)) (id : ℕ) → slice_index_or (boxes_of records) id None ≡ option_map abs_of (record_at records id)
box-at [] id = refl
box-at (place ∷ records) zero = refl
box-at (place ∷ records) (suc id) = box-at records id

-- what is gathered is what passes a test, where the marks are that test
pub picked-is : (test : Rec → Bool) (marks : List Bool) (records : List (Option Rec)) → length marks ≡ length records
    → ((i : ℕ) (r : Rec) → record_at records i ≡ Some r → slice_index_or marks i false ≡ test r)
    → picked marks records ≡ filter test (live_in records)
unfolding picked
picked-is test [] [] same agrees = refl
picked-is test [] (place ∷ records) same agrees = absurd (omega arith)
picked-is test (mark ∷ marks) [] same agrees = refl
picked-is test (mark ∷ marks) (None ∷ records) same agrees =
    let rest = picked-is test marks records (omega arith) (λ i r e. agrees (suc i) r e) in
    ap (λ (o : Option Rec). cons_option o (picked marks records)) (no_record mark) ∙ rest
  where
    no_record : (b : Bool) → marked_record None b ≡ None
    no_record true = refl
    no_record false = refl
picked-is test (mark ∷ marks) (Some r ∷ records) same agrees =
    let rest = picked-is test marks records (omega arith) (λ i r e. agrees (suc i) r e) in
    ap (λ (b : Bool). cons_option (marked_record (Some r) b) (picked marks records)) (agrees 0 r refl)
    ∙ ap (λ (rs : List Rec). cons_option (marked_record (Some r) (test r)) rs) rest ∙ by_test (test r)
  where
    by_test : (b : Bool) → cons_option (marked_record (Some r) b) (filter test (live_in records)) ≡ (if b then r ∷ filter test (live_in records) else filter test (live_in records))
    by_test true = refl
    by_test false = refl

-- an id is among those of some nodes where one of them has it
has-ids_at : (count : ℕ) (lists : ListsView) (nodes : List ℕ) (i : ℕ) → has (ids_at count lists nodes) i ≡ list_any (λ node. has (list_of lists node ++ list_of lists (count + node)) i) nodes
unfolding ids_at
has-ids_at count lists [] i = refl
has-ids_at count lists (node ∷ nodes) i =
    list_any-append (nat_eq i) (list_of lists node ++ list_of lists (count + node)) (ids_at count lists nodes)
    ∙ ap (λ (b : Bool). has (list_of lists node ++ list_of lists (count + node)) i || b) (has-ids_at count lists nodes i)

has-triggers_at : (count : ℕ) (lists : ListsView) (nodes : List ℕ) (i : ℕ) → has (triggers_at count lists nodes) i ≡ list_any (λ node. has (list_of lists (count + node)) i) nodes
unfolding triggers_at
has-triggers_at count lists [] i = refl
has-triggers_at count lists (node ∷ nodes) i =
    list_any-append (nat_eq i) (list_of lists (count + node)) (triggers_at count lists nodes)
    ∙ ap (λ (b : Bool). has (list_of lists (count + node)) i || b) (has-triggers_at count lists nodes i)

-- a linked world and a region of ordered boxes
module _ (w : WorldView) (linked : IsLinked w) (region : List Bounds) (ordered : All IsOrdered region) where
  abbrev all_nodes : ℕ
  all_nodes = nodes_in w.tree.depth

  abbrev nodes : List ℕ
  nodes = nodes_for w.tree region

  -- a live record is in its list
  has-own : (i : ℕ) (r : Rec) → record_of w i ≡ Some r → has (list_of w.lists (list_for w.tree r)) i ≡ true
  has-own i r is = has-where_of w.lists i (list_for w.tree r) (linked.linked i ∙ ap (option_map (list_for w.tree)) is)

  -- the node of each record is one of the tree's
  node-below : (r : Rec) → node_of w.tree (abs_of r) < all_nodes
  node-below r = omega (arith, node_is_in_range w.tree (abs_of r))

  -- the node of a record that touches the region is visited
  node-visited : (i : ℕ) (r : Rec) → record_of w i ≡ Some r → touches_region (abs_of r) region ≡ true
      → has_bit (visited_of w.tree.depth (leaves_of w.tree region)) (node_of w.tree (abs_of r)) ≡ true
  node-visited i r is touched =
      touched_node_is_visited w.tree (abs_of r) region (records_have_boxes r (linked.entries i r is).is_record).abs.ordered ordered touched

  -- where a live record touches the region, its id is among those at the visited nodes
  touched-found : (i : ℕ) (r : Rec) → record_of w i ≡ Some r → touches_region (abs_of r) region ≡ true → has (ids_at all_nodes w.lists nodes) i ≡ true
  touched-found i r is touched =
      has-ids_at all_nodes w.lists nodes i
      ∙ passing-has (has_bit (visited_of w.tree.depth (leaves_of w.tree region))) (λ node. has (list_of w.lists node ++ list_of w.lists (all_nodes + node)) i)
      all_nodes (node_of w.tree (abs_of r)) (node-below r) (node-visited i r is touched)
      (list_any-append (nat_eq i) (list_of w.lists (node_of w.tree (abs_of r))) (list_of w.lists (all_nodes + node_of w.tree (abs_of r)))
      ∙ in_one (is_solid r.kind) (has-own i r is))
    where
      in_one : (b : Bool) → has (list_of w.lists (if b then node_of w.tree (abs_of r) else all_nodes + node_of w.tree (abs_of r))) i ≡ true
          → (has (list_of w.lists (node_of w.tree (abs_of r))) i || has (list_of w.lists (all_nodes + node_of w.tree (abs_of r))) i) ≡ true
      in_one true h = or_left _ _ h
      in_one false h = or_right (has (list_of w.lists (node_of w.tree (abs_of r))) i) _ h

  -- the same of a trigger and the lists of triggers
  trigger-found : (i : ℕ) (r : Rec) → record_of w i ≡ Some r → is_solid r.kind ≡ false → touches_region (abs_of r) region ≡ true → has (triggers_at all_nodes w.lists nodes) i ≡ true
  trigger-found i r is trigger touched =
      has-triggers_at all_nodes w.lists nodes i
      ∙ passing-has (has_bit (visited_of w.tree.depth (leaves_of w.tree region))) (λ node. has (list_of w.lists (all_nodes + node)) i)
      all_nodes (node_of w.tree (abs_of r)) (node-below r) (node-visited i r is touched)
      (ap (λ (b : Bool). has (list_of w.lists (if b then node_of w.tree (abs_of r) else all_nodes + node_of w.tree (abs_of r))) i) (sym trigger) ∙ has-own i r is)

  -- and no solid is in those
  solid-not_found : (i : ℕ) (r : Rec) → record_of w i ≡ Some r → is_solid r.kind ≡ true → has (triggers_at all_nodes w.lists nodes) i ≡ false
  solid-not_found i r is solid = elim (cases_Bool (has (triggers_at all_nodes w.lists nodes) i)) [
    | inl found ↦
        let s = passing-below (has_bit (visited_of w.tree.depth (leaves_of w.tree region))) (λ node. has (list_of w.lists (all_nodes + node)) i) all_nodes (sym (has-triggers_at all_nodes w.lists nodes i) ∙ found) in
        let there = where_of-has w.lists i (all_nodes + s.number) linked.proper s.passes in
        let own = linked.linked i ∙ ap (option_map (list_for w.tree)) is in
        let same = same_Some (all_nodes + s.number) (list_for w.tree r) (sym there ∙ own) in
        let solids = ap (λ (b : Bool). if b then node_of w.tree (abs_of r) else all_nodes + node_of w.tree (abs_of r)) solid in
        let below = node-below r in
        let beyond : all_nodes + s.number ≡ node_of w.tree (abs_of r) = same ∙ solids in
        absurd (omega arith)
    | inr not_found ↦ not_found
  ]

  -- a live id is among the ids
  live-below : (i : ℕ) (r : Rec) → record_of w i ≡ Some r → i < IDS
  live-below i r is = elim (cases_lt i (length w.records)) [
    | inl within ↦ omega (arith, linked.places)
    | inr past ↦ absurd (none-some r (sym (get_or_past w.records i None past) ∙ is))
  ]

  -- its box is that of its record
  touches_at-live : (i : ℕ) (r : Rec) → record_of w i ≡ Some r → touches_at (boxes_of w.records) region i ≡ touches_region (abs_of r) region
  touches_at-live i r is = ap (λ o. option_map_or (λ b. touches_region b region) o false) (box-at w.records i ∙ ap (option_map abs_of) is)

  abbrev none : List Bool
  none = replicate IDS false

  -- the marks of what is found
  marks-near : (i : ℕ) (r : Rec) → record_of w i ≡ Some r → slice_index_or (marked (boxes_of w.records) region (ids_at all_nodes w.lists nodes) none) i false ≡ touches_region (abs_of r) region
  marks-near i r is =
      let below = live-below i r is in
      marked-at (boxes_of w.records) region (ids_at all_nodes w.lists nodes) none i (omega (arith, length-replicate IDS false))
      ∙ ap (λ (b : Bool). if has (ids_at all_nodes w.lists nodes) i then touches_at (boxes_of w.records) region i else b) (get_or-replicate IDS i false false below)
      ∙ ap (λ (b : Bool). if has (ids_at all_nodes w.lists nodes) i then b else false) (touches_at-live i r is)
      ∙ elim (cases_Bool (touches_region (abs_of r) region)) [
        | inl touched ↦ rw (touched-found i r is touched) refl
        | inr apart ↦ rw apart (either (has (ids_at all_nodes w.lists nodes) i))
      ]
    where
      either : (b : Bool) → (if b then false else false) ≡ false
      either true = refl
      either false = refl

  marks-triggers : (i : ℕ) (r : Rec) → record_of w i ≡ Some r
      → slice_index_or (marked (boxes_of w.records) region (triggers_at all_nodes w.lists nodes) none) i false ≡ (not (is_solid r.kind) && touches_region (abs_of r) region)
  marks-triggers i r is =
      let below = live-below i r is in
      marked-at (boxes_of w.records) region (triggers_at all_nodes w.lists nodes) none i (omega (arith, length-replicate IDS false))
      ∙ ap (λ (b : Bool). if has (triggers_at all_nodes w.lists nodes) i then touches_at (boxes_of w.records) region i else b) (get_or-replicate IDS i false false below)
      ∙ ap (λ (b : Bool). if has (triggers_at all_nodes w.lists nodes) i then b else false) (touches_at-live i r is)
      ∙ elim (cases_Bool (is_solid r.kind)) [
        | inl solid ↦ rw (solid-not_found i r is solid, solid) refl
        | inr trigger ↦ elim (cases_Bool (touches_region (abs_of r) region)) [
          | inl touched ↦ rw (trigger-found i r is trigger touched, trigger) refl
          | inr apart ↦ rw (apart, trigger) (either (has (triggers_at all_nodes w.lists nodes) i))
        ]
      ]
    where
      either : (b : Bool) → (if b then false else false) ≡ false
      either true = refl
      either false = refl

  -- what `near` gathers
  pub near-found : (except : ℕ)
      → picked (slice_set (marked (boxes_of w.records) region (ids_at all_nodes w.lists nodes) (replicate IDS false)) except false) w.records ≡ near_in w.records region except
  near-found except =
      let all = marked (boxes_of w.records) region (ids_at all_nodes w.lists nodes) none in
      let long : length all ≡ IDS = length-marked (boxes_of w.records) region (ids_at all_nodes w.lists nodes) none ∙ length-replicate IDS false in
      picked-is (is_near region except) (slice_set all except false) w.records
      (length-set all except false ∙ long ∙ sym linked.places)
      (λ i r is. elim (cases_eq i except) [
        | inl same ↦
            let t : (r.id == except) ≡ true = eq-eqb r.id except ((linked.entries i r is).own_id ∙ same) in
            let here = get_or-set_same all except false false (omega (arith, live-below i r is)) in
            ap (λ j. slice_index_or (slice_set all except false) j false) same ∙ here ∙ sym (rw t (and_false (touches_region (abs_of r) region)))
        | inr apart ↦
            let t : (r.id == except) ≡ false = ne_eqb r.id except (λ e. apart (sym (linked.entries i r is).own_id ∙ e)) in
            get_or-set_other all except i false false apart ∙ marks-near i r is ∙ sym (rw t (and_true (touches_region (abs_of r) region)))
      ])
    where
      and_false : (b : Bool) → (b && false) ≡ false
      and_false true = refl
      and_false false = refl

      and_true : (b : Bool) → (b && true) ≡ b
      and_true true = refl
      and_true false = refl

-- what `touching` gathers
pub triggers-found : (w : WorldView) → IsLinked w → (abs : Bounds) → All IsOrdered (abs ∷ [])
    → picked (marked (boxes_of w.records) (abs ∷ []) (triggers_at (nodes_in w.tree.depth) w.lists (nodes_for w.tree (abs ∷ []))) (replicate IDS false)) w.records ≡ touching_in w.records abs
triggers-found w linked abs ordered =
    let all = marked (boxes_of w.records) (abs ∷ []) (triggers_at (nodes_in w.tree.depth) w.lists (nodes_for w.tree (abs ∷ []))) (replicate IDS false) in
    let long : length all ≡ IDS = length-marked (boxes_of w.records) (abs ∷ []) (triggers_at (nodes_in w.tree.depth) w.lists (nodes_for w.tree (abs ∷ []))) (replicate IDS false) ∙ length-replicate IDS false in
    picked-is (is_touched abs) all w.records (long ∙ sym linked.places)
    (λ i r is. marks-triggers w linked (abs ∷ []) ordered i r is ∙ ap (λ (b : Bool). not (is_solid r.kind) && b) (or_false (touches (abs_of r) abs)))
  where
    or_false : (b : Bool) → (b || false) ≡ b
    or_false true = refl
    or_false false = refl

-- some record is in the way where the body of a solid is
pub in_the_way-is : (body : Bounds) (except : ℕ) (records : List (Option Rec)) → list_any (is_in_the_way body except) records ≡ is_blocked body (map body_of (solids_in records except))
in_the_way-is body except [] = refl
in_the_way-is body except (None ∷ records) = in_the_way-is body except records
in_the_way-is body except (Some r ∷ records) =
    ap (λ (b : Bool). (is_solid r.kind && not (r.id == except) && overlaps body (body_of r)) || b) (in_the_way-is body except records)
    ∙ by_test (is_solid r.kind && not (r.id == except))
  where
    by_test : (b : Bool) → ((b && overlaps body (body_of r)) || is_blocked body (map body_of (solids_in records except)))
        ≡ is_blocked body (map body_of (if b then r ∷ solids_in records except else solids_in records except))
    by_test true = refl
    by_test false = refl

-- what the steps of `near` come to
pub near-is : (w : WorldView) → IsLinked w → (region : List Bounds) → IsRegion region → (except leaves nodes count : ℕ)
    → (walked : List (Option Bounds)) (places : List (Option Rec)) (marks unmarked : List Bool) (out : List Rec)
    → leaves ≡ leaves_of w.tree region → nodes ≡ visited_of w.tree.depth leaves → count ≡ nodes_in w.tree.depth
    → walked ≡ boxes_of w.records
    → marks ≡ marked walked region (ids_at count w.lists (filter (has_bit nodes) (range_with_len 0 count))) (replicate IDS false)
    → unmarked ≡ slice_set marks except false → places ≡ w.records → out ≡ picked unmarked places
    → out ≡ near_in w.records region except
near-is w linked region is_region except leaves nodes count walked places marks unmarked out leaves_is nodes_is count_is walked_is marks_is unmarked_is places_is out_is =
    let found : ℕ → ℕ → List (Option Bounds) → List Rec =
    λ n all rs. picked (slice_set (marked rs region (ids_at all w.lists (filter (has_bit n) (range_with_len 0 all))) (replicate IDS false)) except false) w.records in
    let visited : nodes ≡ visited_of w.tree.depth (leaves_of w.tree region) = nodes_is ∙ ap (visited_of w.tree.depth) leaves_is in
    out_is ∙ ap (picked unmarked) places_is ∙ ap (λ ms. picked ms w.records) unmarked_is
    ∙ ap (λ ms. picked (slice_set ms except false) w.records) marks_is
    ∙ ap (λ rs. found nodes count rs) walked_is
    ∙ ap (λ all. found nodes all (boxes_of w.records)) count_is
    ∙ ap (λ n. found n (nodes_in w.tree.depth) (boxes_of w.records)) visited
    ∙ near-found w linked region (λ k d below. (is_region.boxes k d below).ordered) except

-- what the steps of `touching` come to
pub touching-is : (w : WorldView) → IsLinked w → (abs : Bounds) → (region : List Bounds) → region ≡ abs ∷ [] → IsRegion region → (leaves nodes count : ℕ)
    → (walked : List (Option Bounds)) (places : List (Option Rec)) (marks : List Bool) (out : List Rec)
    → leaves ≡ leaves_of w.tree region → nodes ≡ visited_of w.tree.depth leaves → count ≡ nodes_in w.tree.depth
    → walked ≡ boxes_of w.records
    → marks ≡ marked walked region (triggers_at count w.lists (filter (has_bit nodes) (range_with_len 0 count))) (replicate IDS false)
    → places ≡ w.records → out ≡ picked marks places
    → out ≡ touching_in w.records abs
touching-is w linked abs region one is_region leaves nodes count walked places marks out leaves_is nodes_is count_is walked_is marks_is places_is out_is =
    let found : ℕ → ℕ → List (Option Bounds) → List Bounds → List Rec =
    λ n all rs boxes. picked (marked rs boxes (triggers_at all w.lists (filter (has_bit n) (range_with_len 0 all))) (replicate IDS false)) w.records in
    let visited : nodes ≡ visited_of w.tree.depth (leaves_of w.tree (abs ∷ [])) =
    nodes_is ∙ ap (visited_of w.tree.depth) (leaves_is ∙ ap (leaves_of w.tree) one) in
    let ordered : All IsOrdered (abs ∷ []) = λ k d below. ((subst IsRegion one is_region).boxes k d below).ordered in
    out_is ∙ ap (picked marks) places_is
    ∙ ap (λ ms. picked ms w.records) marks_is
    ∙ ap (λ boxes. found nodes count walked boxes) one
    ∙ ap (λ rs. found nodes count rs (abs ∷ [])) walked_is
    ∙ ap (λ all. found nodes all (boxes_of w.records) (abs ∷ [])) count_is
    ∙ ap (λ n. found n (nodes_in w.tree.depth) (boxes_of w.records) (abs ∷ [])) visited
    ∙ triggers-found w linked abs ordered

-- how many looks that is
pub looks-are : (w : WorldView) → (abs : Bounds) → (region : List Bounds) → region ≡ abs ∷ [] → (leaves nodes count before after : ℕ)
    → leaves ≡ leaves_of w.tree region → nodes ≡ visited_of w.tree.depth leaves → count ≡ nodes_in w.tree.depth
    → after ≡ before + looks_at count w.lists (filter (has_bit nodes) (range_with_len 0 count))
    → after ≡ before + looks_for w abs
looks-are w abs region one leaves nodes count before after leaves_is nodes_is count_is after_is =
    let visited : nodes ≡ visited_of w.tree.depth (leaves_of w.tree (abs ∷ [])) =
    nodes_is ∙ ap (visited_of w.tree.depth) (leaves_is ∙ ap (leaves_of w.tree) one) in
    after_is
    ∙ ap (λ all. before + looks_at all w.lists (filter (has_bit nodes) (range_with_len 0 all))) count_is
    ∙ ap (λ n. before + looks_at (nodes_in w.tree.depth) w.lists (filter (has_bit n) (range_with_len 0 (nodes_in w.tree.depth)))) visited

-- a place is free where neither the fixed boxes nor the solids that were walked over are in the way
free-is : (records walked : List (Option Rec)) (body : Bounds) (fixed : List Bounds) (except : ℕ) (by_fixed by_solids : Bool)
    → by_fixed ≡ is_blocked body fixed → by_solids ≡ list_any (is_in_the_way body except) walked → walked ≡ records
    → not by_fixed && not by_solids ≡ is_free records body fixed except
free-is records walked body fixed except by_fixed by_solids fixed_is solids_is walked_is =
    ap (λ (b : Bool). not b && not by_solids) fixed_is
    ∙ ap (λ (b : Bool). not (is_blocked body fixed) && not b)
    (solids_is ∙ ap (list_any (is_in_the_way body except)) walked_is ∙ in_the_way-is body except records)

neither_is : (a b : Bool) → b ≡ false → not a ≡ not a && not b
neither_is true b e = refl
neither_is false b e = sym (ap not e)

second_is : (a b : Bool) → b ≡ true → not b ≡ not a && not b
second_is true b e = ap not e
second_is false b e = refl

-- what the steps of `free` come to, where no solid is in the way
pub free_of_solids : (records walked : List (Option Rec)) (body : Bounds) (fixed : List Bounds) (except : ℕ) (by_fixed by_solids : Bool)
    → by_fixed ≡ is_blocked body fixed → by_solids ≡ false → by_solids ≡ list_any (is_in_the_way body except) walked → walked ≡ records
    → not by_fixed ≡ is_free records body fixed except
free_of_solids records walked body fixed except by_fixed by_solids fixed_is none solids_is walked_is =
    neither_is by_fixed by_solids none ∙ free-is records walked body fixed except by_fixed by_solids fixed_is solids_is walked_is

-- and where one is
pub blocked_by_one : (records walked : List (Option Rec)) (body : Bounds) (fixed : List Bounds) (except : ℕ) (by_solids : Bool)
    → by_solids ≡ true → by_solids ≡ list_any (is_in_the_way body except) walked → walked ≡ records
    → not by_solids ≡ is_free records body fixed except
blocked_by_one records walked body fixed except by_solids one solids_is walked_is =
    second_is (is_blocked body fixed) by_solids one
    ∙ free-is records walked body fixed except (is_blocked body fixed) by_solids refl solids_is walked_is
