-- Each step that is no refused take leaves fewer steps.
use Rattle.std.proofs.Common.{◌≡◌, ℕ, suc, ◌+◌, ◌*◌, ◌<◌, ◌≤◌, true, false, List, [], ◌∷◌, ◌++◌, length, refl, sym, ap, subst, inl, inr, Option, Some, None, arith}
use Rattle.std.specs.Prelude.{◌==◌, ◌&&◌, ◌||◌, not, filter, map, is_some}
use Rattle.std.specs.List.{range_with_len}
use Rattle.std.proofs.lemmas.Bool.{cases_Bool, true≢false, eqb-true, or_parts}
use Rattle.std.proofs.lemmas.List.{length-map, length-append}
use Rattle.std.proofs.lemmas.List.FromFn.{length-range_with_len}
use Rattle.areanode.specs.Words.{has_bit}
use Rattle.areanode.specs.Depths.{sizes_of_depth}
use Rattle.entity_recs.specs.declared.rec.Rec.{Rec}
use Rattle.entity_recs.specs.declared.effect.Effect.{Effect}
use Rattle.entity_recs.specs.declared.effect.NewState.{NewState}
use Rattle.entity_recs.specs.Commands.{Command}
use Rattle.core_steps.specs.Cells.{State}
use Rattle.core_steps.specs.Encoding.{words_of}
use Rattle.core_steps.specs.Nodes.{Fixed, has, inner_nodes, is_leaf, plan_of, home, write_nodes}
use Rattle.core_steps.specs.Points.{Store, Put, Link, Point, Idle, Owning, Taking, Checking, Entering, Entered, Loading}
use Rattle.core_steps.specs.Points.{Leaving, Sensing, Resolving, Claiming, Storing, Releasing, Returning, Yielding}
use Rattle.core_steps.specs.Points.{stores_of, body_stores}
use Rattle.core_steps.specs.Reads.{View, things_in, region_in, players_in, record_read}
use Rattle.core_steps.specs.Steps.{sensing, visiting, loading, taking, storing, returning, yielding, rest_of, first}
use Rattle.core_steps.specs.Machine.{giving, resolving, committing}
use Rattle.core_steps.specs.Stands.{AreDistinct}
use Rattle.core_steps.proofs.Lists.{distinct_range}
use Rattle.core_steps.proofs.Planned.{leaf_nodes_length, plan_length, filter_few}
use Rattle.core_seats.specs.Going.{view_found}
use Rattle.core_seats.specs.Nexts.{next_resolved, next_point, the_next}
use Rattle.core_progress.specs.StepsLeft.{VISIT, after_reading, after_visits, after_leaves, left_at, steps_left, is_served, IsCounting, ServedStepsLeaveFewer}

-- ---- what is left at the points that a step leads to

module _ (F : Fixed) (effect : Option Effect) where
  -- what is left at most once the visits are done
  left_sensing : (own again wanted : ℕ) (ids : List ℕ) → left_at F effect own again wanted (sensing ids) ≤ length ids + 1 + after_reading effect wanted
  left_sensing own again wanted [] = omega arith
  left_sensing own again wanted (id ∷ ids) = omega arith

  left_visiting : (own again wanted : ℕ) (view : View) (plan : List ℕ) → left_at F effect own again wanted (visiting F view plan) ≤ VISIT * length plan + after_visits F effect wanted
  left_visiting own again wanted view [] =
      let region = region_in F view.cmd view.own in
      let few : length (things_in F region) ≤ length F.start.ids = filter_few _ F.start.ids in
      let sensed = left_sensing own again wanted (things_in F region) in
      omega (arith, few, sensed)
  left_visiting own again wanted view (node ∷ plan) =
      elim (cases_Bool (is_leaf F node)) [ inl e ↦ rw e (omega arith) | inr e ↦ rw e (omega arith) ]

  left_loading : (own again wanted : ℕ) (view : View) (node : ℕ) (players plan : List ℕ) → left_at F effect own again wanted (loading F view node players plan) ≤ 6 * length players + 1 + VISIT * length plan + after_visits F effect wanted
  left_loading own again wanted view node [] plan =
      let visits = left_visiting own again wanted view plan in
      elim (cases_Bool (is_leaf F node)) [ inl e ↦ rw e (omega (arith, visits)) | inr e ↦ rw e (omega arith) ]
  left_loading own again wanted view node (slot ∷ players) plan = omega arith

  left_taking : (own again wanted : ℕ) (got rest : List ℕ) → left_at F effect own again wanted (taking got rest) ≤ length rest + after_leaves F effect wanted
  left_taking own again wanted got [] = omega arith
  left_taking own again wanted got (leaf ∷ rest) = omega arith

  left_storing : (own again wanted : ℕ) (nodes : List ℕ) (stores : List Store) → left_at F effect own again wanted (storing nodes stores) ≤ length stores + length nodes + wanted
  left_storing own again wanted nodes [] = omega arith
  left_storing own again wanted nodes (store ∷ stores) = omega arith

stores_length : (slot k : ℕ) (words : List ℕ) → length (body_stores slot k words) ≡ length words
stores_length slot k [] = refl
stores_length slot k (word ∷ words) = ap suc (stores_length slot (suc k) words)

few_stores : (F : Fixed) (slot old : ℕ) (e : Effect) → length (stores_of F slot old e) ≡ 8 + length e.states
few_stores F slot old e =
    let states = map (λ (s : NewState). Put (State s.id) s.state) e.states in
    let one = stores_length slot 0 (words_of e.me) in
    let five : length (words_of e.me) ≡ 5 = refl in
    let mapped = length-map e.states (λ (s : NewState). Put (State s.id) s.state) in
    let last = length-append states (Link (home F e.me) ∷ []) in
    let all = length-append (body_stores slot 0 (words_of e.me)) (Put (State slot) e.me.state ∷ (states ++ (Link (home F e.me) ∷ []))) in
    omega (arith, one, five, mapped, last, all)

none_there : (a : ℕ) (xs : List ℕ) → has xs a ≡ false → length (filter (λ v. v == a) xs) ≡ 0
none_there a [] none = refl
none_there a (x ∷ xs) none =
    let parts = or_parts (x == a) (has xs a) none in
    rw parts.0 (none_there a xs parts.1)

-- a number is at most once in a list of different numbers
one_there : (a : ℕ) (xs : List ℕ) → AreDistinct xs → length (filter (λ v. v == a) xs) ≤ 1
one_there a [] is = omega arith
one_there a (x ∷ xs) is = elim (cases_Bool (x == a)) [
  | inl same ↦
      let none = none_there a xs (subst (λ (v : ℕ). has xs v ≡ false) (eqb-true x a same) is.0) in
      rw same (omega (arith, none))
  | inr other ↦ rw other (one_there a xs is.1)
]

two_there : (a b : ℕ) (xs : List ℕ) → length (filter (λ v. (v == a) || (v == b)) xs) ≤ length (filter (λ v. v == a) xs) + length (filter (λ v. v == b) xs)
two_there a b [] = omega arith
two_there a b (x ∷ xs) =
    let rest = two_there a b xs in
    elim (cases_Bool (x == a)) [
      | inl is ↦ elim (cases_Bool (x == b)) [ inl also ↦ rw (is, also) (omega (arith, rest)) | inr not' ↦ rw (is, not') (omega (arith, rest)) ]
      | inr not' ↦ elim (cases_Bool (x == b)) [ inl also ↦ rw (not', also) (omega (arith, rest)) | inr neither ↦ rw (not', neither) (omega (arith, rest)) ]
    ]

-- an effect has two write nodes at most
few_writes : (F : Fixed) (before : Rec) (e : Effect) → length (write_nodes F before e) ≤ 2
few_writes F before e =
    let a = home F before in
    let b = home F e.me in
    let nodes = range_with_len 0 (inner_nodes F) in
    let both = two_there a b nodes in
    let first' = one_there a nodes (distinct_range 0 (inner_nodes F)) in
    let second = one_there b nodes (distinct_range 0 (inner_nodes F)) in
    omega (arith, both, first', second)

module _ (F : Fixed) (effect : Option Effect) (view : View) (counting : IsCounting F effect view) where
  abbrev Lowers : Option Command → Point → ℕ → Type 0
  Lowers given point found = steps_left F effect (view_found F view (the_next (next_point F view given effect point)) found) < left_at F effect (length view.own) (length view.again) (length view.wanted) point

  lowers_owning : (found : ℕ) → view.point ≡ Owning → Lowers None Owning found
  lowers_owning found e =
      let few = counting.own e in
      let grown = length-append view.own (found ∷ []) in
      elim (cases_Bool (length (view.own ++ found ∷ []) == 6)) [
        | inl whole ↦
            let leaves = leaf_nodes_length F (region_in F view.cmd (view.own ++ found ∷ [])) in
            let most = (sizes_of_depth F.tree.depth counting.depth).leaves in
            rw whole (omega (arith, leaves, most, few))
        | inr part ↦ rw (part, e) (omega (arith, few, grown))
      ]

  lowers_checking : (found : ℕ) → view.point ≡ Checking → Lowers None Checking found
  lowers_checking found e =
      let few = counting.again e in
      let grown = length-append view.again (found ∷ []) in
      elim (cases_Bool (length (view.again ++ found ∷ []) == 6)) [
        | inl whole ↦
            let after = record view { again = view.again ++ found ∷ [] } in
            let plan = plan_of F (region_in F view.cmd view.own) in
            let visits = left_visiting F effect (length view.own) (length (view.again ++ found ∷ [])) (length view.wanted) after plan in
            let all = plan_length F (region_in F view.cmd view.own) in
            let most = (sizes_of_depth F.tree.depth counting.depth).nodes in
            rw whole (omega (arith, visits, all, most, few))
        | inr part ↦ rw (part, e) (omega (arith, few, grown))
      ]

  lowers_taking : (got : List ℕ) (leaf : ℕ) (rest : List ℕ) (found : ℕ) → view.point ≡ Taking got (leaf ∷ rest) → (found == 0) ≡ true → Lowers None (Taking got (leaf ∷ rest)) found
  lowers_taking got leaf rest found e free =
      let left = left_taking F effect (length view.own) (length view.again) (length view.wanted) (got ++ leaf ∷ []) rest in
      rw (free, e) (omega (arith, left))

  lowers_entering : (node : ℕ) (plan : List ℕ) (found : ℕ) → view.point ≡ Entering node plan → (found == 0) ≡ true → Lowers None (Entering node plan) found
  lowers_entering node plan found e free = rw (free, e) (omega arith)

  lowers_entered : (node : ℕ) (plan : List ℕ) (found : ℕ) → Lowers None (Entered node plan) found
  lowers_entered node plan found =
      let after = record view { lists = record { node = node; word = found } ∷ view.lists } in
      let players = players_in found view.cmd.slot in
      let few = filter_few (λ slot. has_bit found slot && not (slot == view.cmd.slot)) (range_with_len 0 64) in
      let all = length-range_with_len 0 64 in
      let left = left_loading F effect (length view.own) (length view.again) (length view.wanted) view node players plan in
      omega (arith, few, all, left)

  lowers_loading : (node : ℕ) (part : List ℕ) (slot : ℕ) (players plan : List ℕ) (found : ℕ) → view.point ≡ Loading node part (slot ∷ players) plan → Lowers None (Loading node part (slot ∷ players) plan) found
  lowers_loading node part slot players plan found e =
      let few = counting.part node part (slot ∷ players) plan e in
      let grown = length-append part (found ∷ []) in
      elim (cases_Bool (length (part ++ found ∷ []) == 6)) [
        | inl whole ↦
            let left = left_loading F effect (length view.own) (length view.again) (length view.wanted) view node players plan in
            rw whole (omega (arith, left, few))
        | inr some ↦ rw some (omega (arith, few, grown))
      ]

  lowers_leaving : (node : ℕ) (plan : List ℕ) (found : ℕ) → view.point ≡ Leaving node plan → Lowers None (Leaving node plan) found
  lowers_leaving node plan found e =
      let left = left_visiting F effect (length view.own) (length view.again) (length view.wanted) view plan in
      rw e (omega (arith, left))

  lowers_sensing : (id : ℕ) (ids : List ℕ) (found : ℕ) → Lowers None (Sensing (id ∷ ids)) found
  lowers_sensing id ids found =
      let left = left_sensing F effect (length view.own) (length view.again) (length view.wanted) ids in
      omega (arith, left)

  lowers_storing : (nodes : List ℕ) (store : Store) (stores : List Store) (found : ℕ) → Lowers None (Storing nodes (store ∷ stores)) found
  lowers_storing nodes store stores found =
      let left = left_storing F effect (length view.own) (length view.again) (length view.wanted) nodes stores in
      omega (arith, left)

  left_returning : (leaves : List ℕ) → steps_left F effect (returning view leaves) ≤ length leaves
  left_returning [] = omega arith
  left_returning (leaf ∷ leaves) = omega arith

  left_yielding : (nodes leaves : List ℕ) → steps_left F effect (yielding view nodes leaves) ≤ length nodes + length leaves
  left_yielding [] [] = omega arith
  left_yielding [] (leaf ∷ leaves) = omega arith
  left_yielding (node ∷ nodes) leaves = omega arith

  shorter : (xs : List ℕ) → 0 < length xs → length (rest_of xs) < length xs
  shorter [] some = absurd (omega (arith, some))
  shorter (x ∷ xs) some = omega arith

  lowers_releasing : (nodes : List ℕ) (found : ℕ) → view.point ≡ Releasing nodes → is_some (next_point F view None effect (Releasing nodes)) ≡ true → Lowers None (Releasing nodes) found
  lowers_releasing [] found e comes = by_leaves view.wanted refl comes
    where
      by_leaves : (leaves : List ℕ) → view.wanted ≡ leaves → is_some (giving (first leaves)) ≡ true → steps_left F effect (view_found F view (the_next (giving (first leaves))) found) < 0 + length view.wanted
      by_leaves [] w comes = absurd (true≢false (sym comes))
      by_leaves (leaf ∷ leaves) w comes =
          let less = shorter view.wanted (counting.wanted [] e) in
          let left = left_returning (rest_of view.wanted) in
          rw e (omega (arith, less, left))
  lowers_releasing (node ∷ nodes) found e comes = rw e (omega arith)

  lowers_returning : (leaves : List ℕ) (found : ℕ) → view.point ≡ Returning leaves → is_some (next_point F view None effect (Returning leaves)) ≡ true → Lowers None (Returning leaves) found
  lowers_returning [] found e comes = absurd (true≢false (sym comes))
  lowers_returning (leaf ∷ leaves) found e comes =
      let left = left_returning leaves in
      rw e (omega (arith, left))

  lowers_yielding : (nodes leaves : List ℕ) (found : ℕ) → view.point ≡ Yielding nodes leaves → is_some (next_point F view None effect (Yielding nodes leaves)) ≡ true → Lowers None (Yielding nodes leaves) found
  lowers_yielding [] [] found e comes = absurd (true≢false (sym comes))
  lowers_yielding [] (leaf ∷ leaves) found e comes =
      let left = left_yielding [] leaves in
      rw e (omega (arith, left))
  lowers_yielding (node ∷ nodes) leaves found e comes =
      let left = left_yielding nodes leaves in
      rw e (omega (arith, left))

  lowers_claiming : (got : List ℕ) (node : ℕ) (rest : List ℕ) (found : ℕ) → view.point ≡ Claiming got (node ∷ rest) → (found == 0) ≡ true → Lowers None (Claiming got (node ∷ rest)) found
  lowers_claiming got node rest found e free =
      let grown = length-append got (node ∷ []) in
      rw (free, e) (omega (arith, grown))

  lowers_committing : (got : List ℕ) (found : ℕ) (o : Option Effect) → view.effect ≡ o → is_some (committing o got) ≡ true
      → steps_left F effect (view_found F view (the_next (committing o got)) found) < left_at F effect (length view.own) (length view.again) (length view.wanted) (Claiming got [])
  lowers_committing got found None e comes = absurd (true≢false (sym comes))
  lowers_committing got found (Some now) e comes =
      let stores = few_stores F view.cmd.slot (home F (record_read view.cmd.slot view.again)) now in
      rw (counting.kept now e) (omega (arith, stores))

  lowers_resolving : (o : Option Effect) (found : ℕ) → effect ≡ o → is_some (next_resolved F view o) ≡ true → is_served (the_next (next_resolved F view o)) found ≡ true
      → steps_left F effect (view_found F view (the_next (next_resolved F view o)) found) < left_at F effect (length view.own) (length view.again) (length view.wanted) Resolving
  lowers_resolving None found e comes served = absurd (true≢false (sym comes))
  lowers_resolving (Some now) found e comes served =
      let before = record_read view.cmd.slot view.again in
      by_nodes (write_nodes F before now) refl served
    where
      by_nodes : (nodes : List ℕ) → write_nodes F (record_read view.cmd.slot view.again) now ≡ nodes → is_served (resolving now nodes) found ≡ true
          → steps_left F effect (view_found F view (resolving now nodes) found) < left_at F effect (length view.own) (length view.again) (length view.wanted) Resolving
      by_nodes [] is served =
          let stores = few_stores F view.cmd.slot (home F (record_read view.cmd.slot view.again)) now in
          rw e (omega (arith, stores))
      by_nodes (node ∷ nodes) is served =
          let free : (found == 0) ≡ true = served in
          let few : length (node ∷ nodes) ≤ 2 = subst (λ (ns : List ℕ). length ns ≤ 2) is (few_writes F (record_read view.cmd.slot view.again) now) in
          rw (is, free, e) (omega (arith, few))

pub served_steps_leave_fewer : ServedStepsLeaveFewer
served_steps_leave_fewer F effect view found counting comes served = by_point view.point refl comes served
  where
    by_point : (point : Point) → view.point ≡ point → is_some (next_point F view None effect point) ≡ true → is_served (the_next (next_point F view None effect point)) found ≡ true
        → Lowers F effect view counting None point found
    by_point Idle e comes served = absurd (true≢false (sym comes))
    by_point Owning e comes served = lowers_owning F effect view counting found e
    by_point (Taking got []) e comes served = absurd (true≢false (sym comes))
    by_point (Taking got (leaf ∷ rest)) e comes served = lowers_taking F effect view counting got leaf rest found e served
    by_point Checking e comes served = lowers_checking F effect view counting found e
    by_point (Entering node plan) e comes served = lowers_entering F effect view counting node plan found e served
    by_point (Entered node plan) e comes served = lowers_entered F effect view counting node plan found
    by_point (Loading node part [] plan) e comes served = absurd (true≢false (sym comes))
    by_point (Loading node part (slot ∷ players) plan) e comes served = lowers_loading F effect view counting node part slot players plan found e
    by_point (Leaving node plan) e comes served = lowers_leaving F effect view counting node plan found e
    by_point (Sensing []) e comes served = absurd (true≢false (sym comes))
    by_point (Sensing (id ∷ ids)) e comes served = lowers_sensing F effect view counting id ids found
    by_point Resolving e comes served = lowers_resolving F effect view counting effect found refl comes served
    by_point (Claiming got []) e comes served = lowers_committing F effect view counting got found view.effect refl comes
    by_point (Claiming got (node ∷ rest)) e comes served = lowers_claiming F effect view counting got node rest found e served
    by_point (Storing nodes []) e comes served = absurd (true≢false (sym comes))
    by_point (Storing nodes (store ∷ stores)) e comes served = lowers_storing F effect view counting nodes store stores found
    by_point (Releasing nodes) e comes served = lowers_releasing F effect view counting nodes found e comes
    by_point (Returning leaves) e comes served = lowers_returning F effect view counting leaves found e comes
    by_point (Yielding nodes leaves) e comes served = lowers_yielding F effect view counting nodes leaves found e comes
