-- What was loaded gives the outcome of the run.
use Rattle.std.proofs.Common.{◌≡◌, ℕ, ◌+◌, ◌-◌, ◌*◌, ◌^◌, ◌<◌, ◌≤◌, Bool, true, false, not, List, [], ◌∷◌, map, refl, sym, ap, ◌∙◌, subst, inl, inr, Option, Some, None, arith, add-one}
use Rattle.std.specs.Prelude.{◌==◌, ◌&&◌, nat_lt, nat_le, filter, is_some, All}
use Rattle.std.specs.List.{range_with_len, filter_map, cons_option}
use Rattle.std.proofs.Math.Nat.{pow-suc}
use Rattle.std.proofs.lemmas.Bool.{cases_Bool, false≢true, true≢false, eq-eqb, and_from, or_left, or_right, ltb-true, ltb-false, leb-true, leb-false, le-leb, cond-true, cond-false, not-true, false_from_ne_true}
use Rattle.arena_geo.specs.Bounds.{Bounds, IsOrdered}
use Rattle.arena_geo.specs.Regions.{touches_region}
use Rattle.entity_recs.specs.declared.rec.Rec.{Rec}
use Rattle.entity_recs.specs.Records.{with_state}
use Rattle.entity_recs.specs.Bodies.{abs_of}
use Rattle.entity_recs.specs.Worlds.{World, others_of}
use Rattle.entity_recs.specs.Histories.{Item, outcome}
use Rattle.entity_recs.specs.Actions.{records_touching}
use Rattle.areanode.specs.Words.{has_bit}
use Rattle.areanode.specs.Trees.{leaf_node, visited_of, leaves_of}
use Rattle.areanode.proofs.Nodes.{node_is_in_range, touched_leaf_is_listed, touched_node_is_visited}
use Rattle.core_steps.specs.Encoding.{words_of, nth_word}
use Rattle.core_steps.specs.Nodes.{Fixed, has, is_leaf, inner_nodes, leaf_nodes, inner_visited, plan_of, home}
use Rattle.core_steps.specs.Points.{Point, Resolving, stage_of, is_settled, is_read_again}
use Rattle.core_steps.specs.Reads.{region_in, record_read, list_at, player_at, state_at, player_of, thing_of}
use Rattle.core_steps.specs.Reads.{record_loaded, near_loaded, effect_loaded}
use Rattle.core_steps.specs.Steps.{Core}
use Rattle.core_steps.specs.Stands.{IsStart, IsLawful, Stands, is_player, value_in, touches_own}
use Rattle.core_steps.proofs.Lists.{has_append, has_filter, filter_has, range_has}
use Rattle.core_steps.proofs.Giving.{seat_at}
use Rattle.core_steps.proofs.Runs.{is_call, live_ordered}
use Rattle.core_steps.proofs.Exclusion.{now_world, player_from_words, leaf_listed, settled_seat}
use Rattle.core_steps.proofs.Owned.{cell_low}

-- ---- the node of a record that touches the region is planned

planned_home : (F : Fixed) (r : Rec) (region : List Bounds) → All IsOrdered region → IsOrdered (abs_of r) → touches_own region r ≡ true → has (plan_of F region) (home F r) ≡ true
planned_home F r region ordered box touches =
    let h = home F r in
    let range = node_is_in_range F.tree (abs_of r) in
    has_append (leaf_nodes F region) (inner_visited F region) h ∙ elim (cases_Bool (is_leaf F h)) [
      | inl leaf ↦
          let least = leb-true (inner_nodes F) h leaf in
          let number = h - inner_nodes F in
          let is : h ≡ leaf_node F.tree.depth number = omega arith in
          let below : number < 2 ^ F.tree.depth = below_depth h F.tree.depth range least in
          let listed = touched_leaf_is_listed F.tree (abs_of r) region number box ordered touches below is in
          or_left _ _ (subst (λ (n : ℕ). has (leaf_nodes F region) n ≡ true) (sym is) (leaf_listed F region number below listed))
      | inr inner ↦
          let below = leb-false (inner_nodes F) h inner in
          or_right _ _ (filter_has (has_bit (visited_of F.tree.depth (leaves_of F.tree region))) (range_with_len 0 (inner_nodes F)) h
          (range_has 0 (inner_nodes F) h (omega arith) (omega arith)) (touched_node_is_visited F.tree (abs_of r) region box ordered touches))
    ]
  where
    below_depth : (h d : ℕ) → h + 1 < 2 ^ (d + 1) → 2 ^ d - 1 ≤ h → h - (2 ^ d - 1) < 2 ^ d
    below_depth h d range least =
        let twice : 2 ^ (d + 1) ≡ 2 ^ d * 2 = rw add-one (pow-suc 2 d) in
        omega arith

-- ---- one record

-- what is loaded of an id is its record where that passes the test, and else nothing that passes it
pub record IsLoadedFor (test : Rec → Bool) (r : Rec) (loaded : Option Rec) : Type 0 where
  pub passes : test r ≡ true → loaded ≡ Some r
  pub fails : test r ≡ false → (other : Rec) → loaded ≡ Some other → test other ≡ false

pub same_filtered : (test : Rec → Bool) (g : ℕ → Rec) (h : ℕ → Option Rec) (ids : List ℕ) → ((id : ℕ) → has ids id ≡ true → IsLoadedFor test (g id) (h id))
    → filter test (filter_map h ids) ≡ filter test (map g ids)
same_filtered test g h [] each = refl
same_filtered test g h (id ∷ ids) each =
    let rest = same_filtered test g h ids (λ v there. each v (or_right _ _ there)) in
    one_more (h id) (each id (or_left _ _ (eq-eqb id id refl))) rest
  where
    one_more : (loaded : Option Rec) → IsLoadedFor test (g id) loaded → filter test (filter_map h ids) ≡ filter test (map g ids)
        → filter test (cons_option loaded (filter_map h ids)) ≡ filter test (g id ∷ map g ids)
    one_more None is rest = elim (cases_Bool (test (g id))) [
      | inl e ↦ let bad = is.passes e in cc
      | inr e ↦ rest ∙ sym (cond-false (test (g id)) (g id ∷ filter test (map g ids)) (filter test (map g ids)) e)
    ]
    one_more (Some r) is rest = elim (cases_Bool (test (g id))) [
      | inl e ↦
          let same : r ≡ g id = let both = is.passes e in cc in
          subst (λ (x : Rec). filter test (x ∷ filter_map h ids) ≡ filter test (g id ∷ map g ids)) (sym same)
          (cond-true (test (g id)) (g id ∷ filter test (filter_map h ids)) (filter test (filter_map h ids)) e ∙ ap (λ (rs : List Rec). g id ∷ rs) rest
          ∙ sym (cond-true (test (g id)) (g id ∷ filter test (map g ids)) (filter test (map g ids)) e))
      | inr e ↦
          let none = is.fails e r refl in
          cond-false (test r) (r ∷ filter test (filter_map h ids)) (filter test (filter_map h ids)) none ∙ rest
          ∙ sym (cond-false (test (g id)) (g id ∷ filter test (map g ids)) (filter test (map g ids)) e)
    ]

record SomeOf (A : Type 0) (o : Option A) : Type 0 where
  value : A
  is : o ≡ Some value

some_of : (A : Type 0) (o : Option A) → is_some o ≡ true → SomeOf A o
some_of A None e = absurd (false≢true e)
some_of A (Some x) e = record { value = x; is = refl }

-- ---- what was loaded

-- a player's record
player_loaded : (F : Fixed) (core : Core) (history : List Item) (now : World) (i id : ℕ) → IsLawful F → IsStart F → Stands F core history now → (core.view i).point ≡ Resolving
    → has F.start.ids id ≡ true → (id == (core.view i).cmd.slot) ≡ false → nat_lt id 64 ≡ true
    → IsLoadedFor (touches_own (region_in F (core.view i).cmd (core.view i).own)) (now.record_of id) (player_of id (player_at (core.view i).others id))
player_loaded F core history now i id lawful start is e live other low =
    let view = core.view i in
    let region = region_in F view.cmd view.own in
    let seat = is.seats i in
    let at = (seat_at F core history now i Resolving is e).at in
    let settled : is_settled (stage_of view.point) ≡ true = ap (λ (p : Point). is_settled (stage_of p)) e in
    let mine = settled_seat F core history now i lawful start is settled in
    let world = now_world F core history now lawful start is in
    let player : is_player F id ≡ true = and_from (nat_lt id 64) (has F.start.ids id) low live in
    record {
      passes = λ touches.
          let planned = planned_home F (now.record_of id) region mine.holds_it.ordered (live_ordered F now id lawful world live) touches in
          let read = some_of ℕ (list_at view.lists (home F (now.record_of id))) (at.read.read (home F (now.record_of id)) planned refl) in
          let bit = seat.right.has_its_bit settled id read.value player other touches read.is in
          let loaded = some_of (List ℕ) (player_at view.others id) (at.read.loaded (home F (now.record_of id)) read.value id read.is (ltb-true id 64 low) bit other refl) in
          ap (player_of id) loaded.is ∙ ap Some (seat.right.same_player settled id loaded.value player loaded.is (or_right _ _ touches));
      fails = λ away r. from_option (player_at view.others id) (λ words read. false_from_ne_true _ (λ touches.
          let same = seat.right.same_player settled id words player read (or_left _ _ touches) in
          true≢false (sym touches ∙ ap (touches_own region) same ∙ away))) r;
    }
  where
    from_option : (o : Option (List ℕ)) → ((words : List ℕ) → o ≡ Some words → touches_own (region_in F (core.view i).cmd (core.view i).own) (record_read id words) ≡ false)
        → (r : Rec) → player_of id o ≡ Some r → touches_own (region_in F (core.view i).cmd (core.view i).own) r ≡ false
    from_option None each r there = cc
    from_option (Some words) each r there =
        let same : record_read id words ≡ r = cc in
        subst (λ (x : Rec). touches_own (region_in F (core.view i).cmd (core.view i).own) x ≡ false) same (each words refl)

-- a thing of the map
thing_loaded : (F : Fixed) (core : Core) (history : List Item) (now : World) (i id : ℕ) → IsLawful F → IsStart F → Stands F core history now → (core.view i).point ≡ Resolving
    → has F.start.ids id ≡ true → nat_lt id 64 ≡ false
    → IsLoadedFor (touches_own (region_in F (core.view i).cmd (core.view i).own)) (now.record_of id) (thing_of (F.start.record_of id) (state_at (core.view i).states id))
thing_loaded F core history now i id lawful start is e live high =
    let view = core.view i in
    let region = region_in F view.cmd view.own in
    let seat = is.seats i in
    let at = (seat_at F core history now i Resolving is e).at in
    let settled : is_settled (stage_of view.point) ≡ true = ap (λ (p : Point). is_settled (stage_of p)) e in
    let world = now_world F core history now lawful start is in
    let least = ltb-false id 64 high in
    let whole : now.record_of id ≡ with_state (F.start.record_of id) (now.record_of id).state = world.things id least in
    record {
      passes = λ touches.
          let there : touches_own region (F.start.record_of id) ≡ true = sym (ap (touches_own region) whole) ∙ touches in
          let thing = filter_has (λ n. nat_le 64 n && touches_region (abs_of (F.start.record_of n)) region) F.start.ids id live (and_from _ _ (le-leb 64 id least) there) in
          let loaded = some_of ℕ (state_at view.states id) (at.sensed.loaded id thing refl) in
          let state = seat.right.same_state settled id loaded.value least live loaded.is touches in
          ap (thing_of (F.start.record_of id)) loaded.is ∙ ap Some (ap (with_state (F.start.record_of id)) state ∙ sym whole);
      fails = λ away r. from_option (state_at view.states id) (sym (ap (touches_own region) whole) ∙ away) r;
    }
  where
    from_option : (o : Option ℕ) → touches_own (region_in F (core.view i).cmd (core.view i).own) (F.start.record_of id) ≡ false
        → (r : Rec) → thing_of (F.start.record_of id) o ≡ Some r → touches_own (region_in F (core.view i).cmd (core.view i).own) r ≡ false
    from_option None away r there = cc
    from_option (Some state) away r there =
        let same : with_state (F.start.record_of id) state ≡ r = cc in
        subst (λ (x : Rec). touches_own (region_in F (core.view i).cmd (core.view i).own) x ≡ false) same away

-- the own record as loaded again is that of the run
pub again_is : (F : Fixed) (core : Core) (history : List Item) (now : World) (i : ℕ) → IsLawful F → IsStart F → Stands F core history now
    → is_settled (stage_of (core.view i).point) ≡ true → is_read_again (stage_of (core.view i).point) ≡ true
    → record_read (core.view i).cmd.slot (core.view i).again ≡ now.record_of (core.view i).cmd.slot
again_is F core history now i lawful start is settled read =
    let view = core.view i in
    let slot = view.cmd.slot in
    let seat = is.seats i in
    let mine = settled_seat F core history now i lawful start is settled in
    let world = now_world F core history now lawful start is in
    let long = seat.right.whole read in
    let matches : (k : ℕ) → k < 5 → nth_word view.again k ≡ nth_word (words_of (now.record_of slot)) k =
    λ k below. seat.right.same_again settled k (omega arith) (omega arith) ∙ ap (value_in now) (cell_low slot k below) in
    let last : nth_word view.again 5 ≡ (now.record_of slot).state = seat.right.same_again settled 5 (omega arith) (omega arith) in
    player_from_words F now slot (nth_word view.again 5) view.again lawful world mine.given.command.slot mine.given.live (record {
      zeroth = matches 0 (omega arith);
      first = matches 1 (omega arith);
      second = matches 2 (omega arith);
      third = matches 3 (omega arith);
      fourth = matches 4 (omega arith);
    }) ∙ ap (with_state (now.record_of slot)) last

-- the records loaded that touch the region are those of the run that touch it
pub near_is : (F : Fixed) (core : Core) (history : List Item) (now : World) (i : ℕ) → IsLawful F → IsStart F → Stands F core history now → (core.view i).point ≡ Resolving
    → near_loaded F (region_in F (core.view i).cmd (core.view i).own) (core.view i).cmd.slot (core.view i).others (core.view i).states
    ≡ records_touching (region_in F (core.view i).cmd (core.view i).own) (others_of now (core.view i).cmd.slot)
near_is F core history now i lawful start is e =
    let view = core.view i in
    let slot = view.cmd.slot in
    let region = region_in F view.cmd view.own in
    let world = now_world F core history now lawful start is in
    same_filtered (touches_own region) now.record_of (record_loaded F view.others view.states) (filter (λ id. not (id == slot)) F.start.ids) (λ id there.
    let kept = has_filter (λ n. not (n == slot)) F.start.ids id there in
    elim (cases_Bool (nat_lt id 64)) [
      | inl low ↦ subst (IsLoadedFor (touches_own region) (now.record_of id)) (sym (cond-true (nat_lt id 64) (player_of id (player_at view.others id)) (thing_of (F.start.record_of id) (state_at view.states id)) low))
          (player_loaded F core history now i id lawful start is e kept.listed (not-true (id == slot) kept.passes) low)
      | inr high ↦ subst (IsLoadedFor (touches_own region) (now.record_of id)) (sym (cond-false (nat_lt id 64) (player_of id (player_at view.others id)) (thing_of (F.start.record_of id) (state_at view.states id)) high))
          (thing_loaded F core history now i id lawful start is e kept.listed high)
    ])
    ∙ ap (λ (ids : List ℕ). records_touching region (map now.record_of (filter (λ id. not (id == slot)) ids))) (sym world.ids)

-- what the action gives on what was loaded is the outcome in the run
pub loaded_is_outcome : (F : Fixed) (core : Core) (history : List Item) (now : World) (i : ℕ) → IsLawful F → IsStart F → Stands F core history now → (core.view i).point ≡ Resolving
    → effect_loaded F (core.view i) ≡ outcome F.effect_of now (core.view i).cmd
loaded_is_outcome F core history now i lawful start is e =
    let view = core.view i in
    let cmd = view.cmd in
    let slot = cmd.slot in
    let region = region_in F cmd view.own in
    let settled : is_settled (stage_of view.point) ≡ true = ap (λ (p : Point). is_settled (stage_of p)) e in
    let read : is_read_again (stage_of view.point) ≡ true = ap (λ (p : Point). is_read_again (stage_of p)) e in
    let mine = settled_seat F core history now i lawful start is settled in
    let world = now_world F core history now lawful start is in
    let me = again_is F core history now i lawful start is settled read in
    let near = near_is F core history now i lawful start is e in
    let local = lawful.locality.near (now.record_of slot) (others_of now slot) cmd (is_call F now cmd start world mine.given) in
    ap (λ (r : Rec). F.effect_of r (near_loaded F region slot view.others view.states) cmd) me
    ∙ ap (λ rs. F.effect_of (now.record_of slot) rs cmd) near
    ∙ ap (λ (bs : List Bounds). F.effect_of (now.record_of slot) (records_touching bs (others_of now slot)) cmd) mine.region
    ∙ sym local
