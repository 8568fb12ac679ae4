-- The node that a seat takes next is one of the leaves that it wants, or an inner node that they visit.
use Rattle.std.proofs.Common.{◌≡◌, ℕ, ◌<◌, Bool, true, false, List, ◌++◌, length, refl, sym, ap, ◌∙◌, subst, inl, inr, Option, Some, arith}
use Rattle.std.specs.Prelude.{◌||◌, ◌==◌, nat_le, All}
use Rattle.std.specs.List.{range_with_len}
use mathlib.Core.Option as maybe
use lib.ListN.{get_elem?}
use Rattle.std.proofs.lemmas.Bool.{cases_Bool, true≢false, or_cases, or_right, eqb-true, leb-true, leb-false}
use Rattle.arena_geo.specs.Bounds.{Bounds, IsOrdered}
use Rattle.arena_geo.specs.Regions.{touches_region}
use Rattle.atomic_table.specs.Table.{State}
use Rattle.entity_recs.specs.declared.rec.Rec.{Rec}
use Rattle.entity_recs.specs.declared.effect.Effect.{Effect}
use Rattle.entity_recs.specs.Bodies.{abs_of}
use Rattle.entity_recs.specs.Commands.{Command}
use Rattle.entity_recs.specs.Worlds.{others_of}
use Rattle.entity_recs.specs.Histories.{outcome}
use Rattle.entity_recs.proofs.Standing.{records_have_boxes}
use Rattle.areanode.specs.Words.{has_bit}
use Rattle.areanode.specs.Trees.{leaves_of, visited_of}
use Rattle.areanode.proofs.Nodes.{touched_node_is_visited}
use Rattle.core_steps.specs.Nodes.{Fixed, has, is_leaf, inner_nodes, leaf_nodes, inner_visited, plan_of, home}
use Rattle.core_steps.specs.Nodes.{write_nodes}
use Rattle.core_steps.specs.Points.{Point, Idle, Owning, Taking, Checking, Entering, Entered, Loading, Leaving, Sensing}
use Rattle.core_steps.specs.Points.{Resolving, Claiming, Storing, Releasing, Returning, Yielding, stage_of, is_settled}
use Rattle.core_steps.specs.Points.{is_read_again, is_whole}
use Rattle.core_steps.specs.Reads.{View, region_in, record_read, effect_loaded}
use Rattle.core_steps.specs.Steps.{next_node_at}
use Rattle.core_steps.specs.Stands.{IsAt}
use Rattle.core_steps.specs.Machine.{Next}
use Rattle.core_steps.proofs.Lists.{has_append, has_filter, filter_has, range_has, has_range}
use Rattle.core_steps.proofs.Exclusion.{now_world, settled_seat, inside_touches}
use Rattle.core_steps.proofs.Runs.{is_call, live_ordered}
use Rattle.core_steps.proofs.Resolved.{again_is, loaded_is_outcome}
use Rattle.core_steps.proofs.Waiting.{first_there}
use Rattle.ruled_words.specs.Sights.{SightView}
use Rattle.ruled_words.specs.Going.{MayGo}
use Rattle.ruled_words.specs.Rule.{IsRuled}
use Rattle.ruled_words.specs.Passes.{node_taken_next}
use Rattle.ruled_words.specs.Holders.{IsReached, AreReached}
use Rattle.ruled_words.proofs.Holders.{taken_asked}

-- the node of a box that touches a region is visited, where it is no leaf
inner_home : (F : Fixed) (r : Rec) (region : List Bounds) → All IsOrdered region → IsOrdered (abs_of r) → touches_region (abs_of r) region ≡ true → is_leaf F (home F r) ≡ false
    → has (inner_visited F region) (home F r) ≡ true
inner_home F r region ordered box touches inner =
    let h = home F r in
    let below = leb-false (inner_nodes F) h inner in
    filter_has (has_bit (visited_of F.tree.depth (leaves_of F.tree region))) (range_with_len 0 (inner_nodes F)) h
    (range_has 0 (inner_nodes F) h (omega arith) (omega arith)) (touched_node_is_visited F.tree (abs_of r) region box ordered touches)

has_later : (got rest : List ℕ) (node : ℕ) → has rest node ≡ true → has (got ++ rest) node ≡ true
has_later got rest node there = has_append got rest node ∙ or_right (has got node) (has rest node) there

-- a node that is planned and no leaf is visited
planned_inner : (F : Fixed) (region : List Bounds) (node : ℕ) → ((n : ℕ) → has (leaf_nodes F region) n ≡ true → is_leaf F n ≡ true) → has (plan_of F region) node ≡ true → is_leaf F node ≡ false → has (inner_visited F region) node ≡ true
planned_inner F region node leaves planned inner =
    elim (or_cases (has (leaf_nodes F region) node) (has (inner_visited F region) node) (sym (has_append (leaf_nodes F region) (inner_visited F region) node) ∙ planned)) [
      | inl leaf ↦ absurd (true≢false (sym (leaves node leaf) ∙ inner))
      | inr there ↦ there
    ]

-- what is known of a node that is taken
record IsTakenNext (F : Fixed) (view : View) (node : ℕ) : Type 0 where
  wanted : is_leaf F node ≡ true → has view.wanted node ≡ true
  visited : is_leaf F node ≡ false → has (inner_visited F (region_in F view.cmd view.own)) node ≡ true
  whole : is_whole (stage_of view.point) ≡ true

module _ (F : Fixed) (rooms : List ℕ) (s : State (Unit {0}) SightView) (r : IsRuled F rooms s) (i : ℕ) where
  abbrev seat_view : View
  seat_view = r.core.view i

  leaves_only : is_whole (stage_of seat_view.point) ≡ true → (n : ℕ) → has (leaf_nodes F (region_in F seat_view.cmd seat_view.own)) n ≡ true → is_leaf F n ≡ true
  leaves_only whole n there =
      let seat = r.stands.core.seats i in
      seat.holding.wanted_are_leaves n (subst (λ (ns : List ℕ). has ns n ≡ true) (sym (seat.own.leaves whole)) there)

  -- the write nodes of the outcome are visited
  write_visited : (e : Effect) (node : ℕ) → is_settled (stage_of seat_view.point) ≡ true → is_read_again (stage_of seat_view.point) ≡ true
      → e ≡ outcome F.effect_of r.now seat_view.cmd → has (write_nodes F (record_read seat_view.cmd.slot seat_view.again) e) node ≡ true
      → has (inner_visited F (region_in F seat_view.cmd seat_view.own)) node ≡ true
  write_visited e node settled read is there =
      let cmd = seat_view.cmd in
      let region = region_in F cmd seat_view.own in
      let mine = settled_seat F r.core r.history r.now i r.lawful r.start r.stands.core settled in
      let world = now_world F r.core r.history r.now r.lawful r.start r.stands.core in
      let before = record_read cmd.slot seat_view.again in
      let me : before ≡ r.now.record_of cmd.slot = again_is F r.core r.history r.now i r.lawful r.start r.stands.core settled read in
      let call = is_call F r.now cmd r.start world mine.given in
      let within = r.lawful.footprint.within (r.now.record_of cmd.slot) (others_of r.now cmd.slot) cmd call in
      let kept = has_filter (λ n. (n == home F before) || (n == home F e.me)) (range_with_len 0 (inner_nodes F)) node there in
      let small = has_range 0 (inner_nodes F) node kept.listed in
      let below : node < inner_nodes F = let top = small.most in omega (arith, top) in
      let old_box = live_ordered F r.now cmd.slot r.lawful world mine.given.live in
      let old_touches : touches_region (abs_of (r.now.record_of cmd.slot)) region ≡ true = subst (λ (bs : List Bounds). touches_region (abs_of (r.now.record_of cmd.slot)) bs ≡ true) (sym mine.region) (inside_touches (abs_of (r.now.record_of cmd.slot)) _ old_box within.before) in
      let after = outcome F.effect_of r.now cmd in
      let new_box = (records_have_boxes after.me (r.lawful.validity.keepable after.me (r.lawful.validity.me (r.now.record_of cmd.slot) (others_of r.now cmd.slot) cmd call)).bounds).abs.ordered in
      let new_touches : touches_region (abs_of after.me) region ≡ true = subst (λ (bs : List Bounds). touches_region (abs_of after.me) bs ≡ true) (sym mine.region) (inside_touches (abs_of after.me) _ new_box within.after) in
      elim (or_cases (node == home F before) (node == home F e.me) kept.passes) [
        | inl old ↦ at_home (r.now.record_of cmd.slot) node region mine.holds_it.ordered old_box old_touches below (eqb_is node (home F before) old ∙ ap (home F) me)
        | inr new ↦ at_home after.me node region mine.holds_it.ordered new_box new_touches below (eqb_is node (home F e.me) new ∙ ap (λ (f : Effect). home F f.me) is)
      ]
    where
      eqb_is : (a b : ℕ) → (a == b) ≡ true → a ≡ b
      eqb_is a b e = eqb-true a b e

      above : (h : ℕ) → h < inner_nodes F → nat_le (inner_nodes F) h ≡ false
      above h below = elim (cases_Bool (nat_le (inner_nodes F) h)) [ inl over ↦ let least = leb-true (inner_nodes F) h over in absurd (omega (arith, least, below)) | inr under ↦ under ]

      at_home : (x : Rec) (node : ℕ) (region : List Bounds) → All IsOrdered region → IsOrdered (abs_of x) → touches_region (abs_of x) region ≡ true → node < inner_nodes F → node ≡ home F x → has (inner_visited F region) node ≡ true
      at_home x node region ordered box touches below is =
          subst (λ (n : ℕ). has (inner_visited F region) n ≡ true) (sym is) (inner_home F x region ordered box touches (above (home F x) (subst (λ (n : ℕ). n < inner_nodes F) is below)))

  writes_are_inner : (before : Rec) (e : Effect) (node : ℕ) → has (write_nodes F before e) node ≡ true → is_leaf F node ≡ false
  writes_are_inner before e node there =
      let kept = has_filter (λ n. (n == home F before) || (n == home F e.me)) (range_with_len 0 (inner_nodes F)) node there in
      let small = has_range 0 (inner_nodes F) node kept.listed in
      elim (cases_Bool (nat_le (inner_nodes F) node)) [ inl over ↦ let least = leb-true (inner_nodes F) node over in let top = small.most in absurd (omega (arith, least, top)) | inr under ↦ under ]

  taken_by_point : (point : Point) (node : ℕ) → seat_view.point ≡ point → next_node_at F seat_view point ≡ Some node → IsTakenNext F seat_view node
  taken_by_point Idle node e next = cc
  taken_by_point Owning node e next = cc
  taken_by_point (Taking got rest) node e next =
      let seat = r.stands.core.seats i in
      let at : IsAt F seat_view.cmd seat_view.own seat_view.wanted seat_view.again seat_view.lists seat_view.others seat_view.states seat_view.effect (Taking got rest) =
      subst (λ (q : Point). IsAt F seat_view.cmd seat_view.own seat_view.wanted seat_view.again seat_view.lists seat_view.others seat_view.states seat_view.effect q) e seat.at in
      let there : has seat_view.wanted node ≡ true = subst (λ (ns : List ℕ). has ns node ≡ true) at.all (has_later got rest node (first_there rest node next)) in
      record {
        wanted = λ leaf. there;
        visited = λ inner. absurd (true≢false (sym (seat.holding.wanted_are_leaves node there) ∙ inner));
        whole = ap (λ (q : Point). is_whole (stage_of q)) e;
      }
  taken_by_point Checking node e next = cc
  taken_by_point (Entering n plan) node e next =
      let seat = r.stands.core.seats i in
      let same : n ≡ node = same_node n node next in
      let at : IsAt F seat_view.cmd seat_view.own seat_view.wanted seat_view.again seat_view.lists seat_view.others seat_view.states seat_view.effect (Entering n plan) =
      subst (λ (q : Point). IsAt F seat_view.cmd seat_view.own seat_view.wanted seat_view.again seat_view.lists seat_view.others seat_view.states seat_view.effect q) e seat.at in
      let whole : is_whole (stage_of seat_view.point) ≡ true = ap (λ (q : Point). is_whole (stage_of q)) e in
      let inner : is_leaf F node ≡ false = subst (λ (m : ℕ). is_leaf F m ≡ false) same at.inner in
      let planned : has (plan_of F (region_in F seat_view.cmd seat_view.own)) node ≡ true = subst (λ (m : ℕ). has (plan_of F (region_in F seat_view.cmd seat_view.own)) m ≡ true) same at.planned in
      record {
        wanted = λ leaf. absurd (true≢false (sym leaf ∙ inner));
        visited = λ _. planned_inner F (region_in F seat_view.cmd seat_view.own) node (leaves_only whole) planned inner;
        whole = whole;
      }
    where
      same_node : (n node : ℕ) → Some n ≡ Some node → n ≡ node
      same_node n node e = cc
  taken_by_point (Entered n plan) node e next = cc
  taken_by_point (Loading n part players plan) node e next = cc
  taken_by_point (Leaving n plan) node e next = cc
  taken_by_point (Sensing ids) node e next = cc
  taken_by_point Resolving node e next =
      let before = record_read seat_view.cmd.slot seat_view.again in
      let there = first_there (write_nodes F before (effect_loaded F seat_view)) node next in
      let inner = writes_are_inner before (effect_loaded F seat_view) node there in
      record {
        wanted = λ leaf. absurd (true≢false (sym leaf ∙ inner));
        visited = λ _. write_visited (effect_loaded F seat_view) node (ap (λ (q : Point). is_settled (stage_of q)) e) (ap (λ (q : Point). is_read_again (stage_of q)) e)
            (loaded_is_outcome F r.core r.history r.now i r.lawful r.start r.stands.core e) there;
        whole = ap (λ (q : Point). is_whole (stage_of q)) e;
      }
  taken_by_point (Claiming got rest) node e next =
      let seat = r.stands.core.seats i in
      let before = record_read seat_view.cmd.slot seat_view.again in
      let at : IsAt F seat_view.cmd seat_view.own seat_view.wanted seat_view.again seat_view.lists seat_view.others seat_view.states seat_view.effect (Claiming got rest) =
      subst (λ (q : Point). IsAt F seat_view.cmd seat_view.own seat_view.wanted seat_view.again seat_view.lists seat_view.others seat_view.states seat_view.effect q) e seat.at in
      let settled : is_settled (stage_of seat_view.point) ≡ true = ap (λ (q : Point). is_settled (stage_of q)) e in
      let there : has (write_nodes F before at.claim.e) node ≡ true = subst (λ (ns : List ℕ). has ns node ≡ true) at.claim.nodes (has_later got rest node (first_there rest node next)) in
      let inner = writes_are_inner before at.claim.e node there in
      record {
        wanted = λ leaf. absurd (true≢false (sym leaf ∙ inner));
        visited = λ _. write_visited at.claim.e node settled (ap (λ (q : Point). is_read_again (stage_of q)) e) (seat.resolved.is_outcome settled at.claim.e at.claim.is) there;
        whole = ap (λ (q : Point). is_whole (stage_of q)) e;
      }
  taken_by_point (Storing nodes stores) node e next = cc
  taken_by_point (Releasing nodes) node e next = cc
  taken_by_point (Returning leaves) node e next = cc
  taken_by_point (Yielding nodes leaves) node e next = cc

  is_reached : (node : ℕ) → next_node_at F seat_view seat_view.point ≡ Some node → IsReached F seat_view node
  is_reached node next =
      let seat = r.stands.core.seats i in
      let is = taken_by_point seat_view.point node refl next in
      record { wanted = seat.own.leaves is.whole; is_wanted = is.wanted; is_visited = is.visited }

  module _ (sight : SightView) (at : get_elem? s.views i ≡ maybe.some sight) (given : Option Command) (quits : Bool) (next : Next) (may : MayGo F (length rooms) sight.number sight.view given quits next) where
    -- the node that a step takes is a leaf wanted or visited by them
    pub are_reached : AreReached F sight.view next
    are_reached node taken =
        let seen : r.core.view i ≡ sight.view = r.seats.view i sight at in
        let next_node : next_node_at F (r.core.view i) (r.core.view i).point ≡ Some node =
        subst (λ (v : View). next_node_at F v v.point ≡ Some node) (sym seen) (taken_asked F sight.view given quits node (ap node_taken_next may.comes ∙ taken)) in
        subst (λ (v : View). IsReached F v node) seen (is_reached node next_node)
