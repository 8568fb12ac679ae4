-- Not all seats wait: nodes are taken in one order, leaves before inner nodes, each by number.
use Rattle.std.proofs.Common.{◌≡◌, ℕ, zero, suc, ◌+◌, ◌-◌, ◌^◌, ◌<◌, ◌≤◌, ◌⊎◌, Bool, true, false, List, [], ◌∷◌, ◌++◌, map, refl, sym, ap, ◌∙◌, subst, inl, inr, Option, Some, None, arith}
use Rattle.std.specs.Prelude.{◌==◌, ◌||◌, filter}
use Rattle.std.specs.List.{range_with_len}
use Rattle.std.proofs.lemmas.Bool.{cases_Bool, false≢true, true≢false, eqb-true, eq-eqb, or_cases, or_left, or_right, leb-true, leb-false, cond-true, cond-false}
use Rattle.arena_geo.specs.Bounds.{Bounds}
use Rattle.entity_recs.specs.Worlds.{World}
use Rattle.entity_recs.specs.Histories.{Item}
use Rattle.areanode.specs.Words.{has_bit}
use Rattle.areanode.specs.Trees.{leaves_of}
use Rattle.core_steps.specs.Nodes.{Fixed, has, is_leaf, inner_nodes, leaf_nodes, inner_of_two, home, write_nodes}
use Rattle.core_steps.specs.Nodes.{taking_order}
use Rattle.core_steps.specs.Points.{Point, Idle, Owning, Taking, Checking, Entering, Entered, Loading, Leaving, Sensing}
use Rattle.core_steps.specs.Points.{Resolving, Claiming, Storing, Releasing, Returning, Yielding, stage_of, is_busy}
use Rattle.core_steps.specs.Points.{is_whole}
use Rattle.core_steps.specs.Reads.{record_read, effect_loaded, region_in}
use Rattle.core_steps.specs.Held.{holds}
use Rattle.core_steps.specs.Steps.{Core, first, next_node_at, next_node, Waits, SomeSeatGoesOn}
use Rattle.core_steps.specs.Stands.{Stands}
use Rattle.core_steps.specs.Laws.{NotAllWait, TakesComeInOrder}
use Rattle.core_steps.proofs.Lists.{has_filter, has_range, has_shifted, has_append}
use Rattle.core_steps.proofs.Frames.{busy_lives}
use Rattle.core_steps.proofs.Giving.{seat_at}
use Rattle.core_steps.proofs.TreeNodes.{wanted_below}
use Rattle.core_steps.proofs.Takes.{two_inner}

-- ---- rising lists

-- each number of the list is below those after it
abbrev pub Rises : List ℕ → Type 0
Rises [] = Unit {0}
Rises (x ∷ xs) = ((v : ℕ) → has xs v ≡ true → x < v) × Rises xs

pub rises_range : (low n : ℕ) → Rises (range_with_len low n)
rises_range low zero = tt
rises_range low (suc n) = ((λ v there. let is = has_range (low + 1) n v there in omega arith), rises_range (low + 1) n)

pub rises_filter : (test : ℕ → Bool) (xs : List ℕ) → Rises xs → Rises (filter test xs)
rises_filter test [] is = tt
rises_filter test (x ∷ xs) is =
    elim (cases_Bool (test x)) [
      | inl e ↦ rw e ((λ v there. is.0 v (has_filter test xs v there).listed), rises_filter test xs is.1)
      | inr e ↦ rw e (rises_filter test xs is.1)
    ]

rises_shifted : (by : ℕ) (xs : List ℕ) → Rises xs → Rises (map (λ x. by + x) xs)
rises_shifted by [] is = tt
rises_shifted by (x ∷ xs) is =
    ((λ v there. let s = has_shifted by xs v there in let less = is.0 s.from s.listed in omega (arith, s.is)), rises_shifted by xs is.1)

-- what comes before a number is below it
below_next : (xs : List ℕ) (y : ℕ) (ys : List ℕ) (v : ℕ) → Rises (xs ++ y ∷ ys) → has xs v ≡ true → v < y
below_next [] y ys v is there = absurd (false≢true there)
below_next (x ∷ xs) y ys v is there =
    elim (or_cases (x == v) (has xs v) there) [
      | inl same ↦ subst (λ (n : ℕ). n < y) (eqb-true x v same) (is.0 y (has_append xs (y ∷ ys) y ∙ or_right _ _ (or_left _ _ (eq-eqb y y refl))))
      | inr rest ↦ below_next xs y ys v is.1 rest
    ]

pub leaf_nodes_rise : (F : Fixed) (region : List Bounds) → Rises (leaf_nodes F region)
leaf_nodes_rise F region =
    rises_shifted (2 ^ F.tree.depth - 1) (filter (has_bit (leaves_of F.tree region)) (range_with_len 0 (2 ^ F.tree.depth)))
    (rises_filter (has_bit (leaves_of F.tree region)) (range_with_len 0 (2 ^ F.tree.depth)) (rises_range 0 (2 ^ F.tree.depth)))

two_rise : (F : Fixed) (a b : ℕ) → Rises (inner_of_two F a b)
two_rise F a b = rises_filter (λ node. (node == a) || (node == b)) (range_with_len 0 (inner_nodes F)) (rises_range 0 (inner_nodes F))

-- ---- the order of nodes

pub place_of_leaf : (F : Fixed) (node : ℕ) → is_leaf F node ≡ true → taking_order F node ≡ node - inner_nodes F
place_of_leaf F node leaf = cond-true (is_leaf F node) (node - inner_nodes F) (2 ^ F.tree.depth + node) leaf

pub place_of_inner : (F : Fixed) (node : ℕ) → is_leaf F node ≡ false → taking_order F node ≡ 2 ^ F.tree.depth + node
place_of_inner F node inner = cond-false (is_leaf F node) (node - inner_nodes F) (2 ^ F.tree.depth + node) inner

-- a leaf comes before each inner node
pub leaf_first : (F : Fixed) (leaf node : ℕ) → is_leaf F leaf ≡ true → leaf < inner_nodes F + 2 ^ F.tree.depth → is_leaf F node ≡ false → taking_order F leaf < taking_order F node
leaf_first F leaf node is below inner =
    let a = place_of_leaf F leaf is in
    let b = place_of_inner F node inner in
    let least = leb-true (inner_nodes F) leaf is in
    rw (a, b) (omega arith)

-- the place of each node that is held comes before that of the node that is taken next, and that one is in range
pub record ComesNext (F : Fixed) (point : Point) (wanted : List ℕ) (node : ℕ) : Type 0 where
  pub before : (v : ℕ) → holds F point wanted v ≡ true → taking_order F v < taking_order F node
  pub most : taking_order F node < 2 ^ F.tree.depth + inner_nodes F

inner_most : (F : Fixed) (node : ℕ) → is_leaf F node ≡ false → taking_order F node < 2 ^ F.tree.depth + inner_nodes F
inner_most F node inner =
    let is = place_of_inner F node inner in
    let below = leb-false (inner_nodes F) node inner in
    rw is (omega arith)

pub first_there : (nodes : List ℕ) (node : ℕ) → first nodes ≡ Some node → has nodes node ≡ true
first_there [] node e = cc
first_there (n ∷ nodes) node e = let same : n ≡ node = cc in or_left _ _ (eq-eqb n node same)

pub comes_next : (F : Fixed) (core : Core) (history : List Item) (now : World) (j node : ℕ) (point : Point) → Stands F core history now → (core.view j).point ≡ point
    → next_node_at F (core.view j) point ≡ Some node → ComesNext F point (core.view j).wanted node
comes_next F core history now j node Idle is e next = cc
comes_next F core history now j node Owning is e next = cc
comes_next F core history now j node (Taking got []) is e next = cc
comes_next F core history now j node (Taking got (leaf ∷ rest)) is e next =
    let view = core.view j in
    let here = seat_at F core history now j (Taking got (leaf ∷ rest)) is e in
    let region = region_in F view.cmd view.own in
    let same : leaf ≡ node = cc in
    let whole : is_whole (stage_of view.point) ≡ true = ap (λ (p : Point). is_whole (stage_of p)) e in
    let all : leaf_nodes F region ≡ got ++ leaf ∷ rest = sym (here.at.all ∙ (is.seats j).own.leaves whole) in
    let rises : Rises (got ++ leaf ∷ rest) = subst Rises all (leaf_nodes_rise F region) in
    let next_wanted : has view.wanted leaf ≡ true =
    subst (λ (ns : List ℕ). has ns leaf ≡ true) here.at.all (has_append got (leaf ∷ rest) leaf ∙ or_right _ _ (or_left _ _ (eq-eqb leaf leaf refl))) in
    let next_leaf = here.holding.wanted_are_leaves leaf next_wanted in
    let place = place_of_leaf F leaf next_leaf in
    let most = wanted_below F core history now j is whole leaf next_wanted in
    let least = leb-true (inner_nodes F) leaf next_leaf in
    subst (ComesNext F (Taking got (leaf ∷ rest)) view.wanted) same (record {
      before = λ v held.
          let less = below_next got leaf rest v rises held in
          let old = here.holding.leaves_are_leaves v held in
          let first_place = place_of_leaf F v old in
          let first_least = leb-true (inner_nodes F) v old in
          rw (first_place, place) (omega arith);
      most = rw place (omega arith);
    })
comes_next F core history now j node Checking is e next = cc
comes_next F core history now j node (Entering n plan) is e next =
    let here = seat_at F core history now j (Entering n plan) is e in
    let whole : is_whole (stage_of (core.view j).point) ≡ true = ap (λ (p : Point). is_whole (stage_of p)) e in
    let same : n ≡ node = cc in
    subst (ComesNext F (Entering n plan) (core.view j).wanted) same (record {
      before = λ v held. leaf_first F v n (here.holding.wanted_are_leaves v held) (wanted_below F core history now j is whole v held) here.at.inner;
      most = inner_most F n here.at.inner;
    })
comes_next F core history now j node (Entered n plan) is e next = cc
comes_next F core history now j node (Loading n part players plan) is e next = cc
comes_next F core history now j node (Leaving n plan) is e next = cc
comes_next F core history now j node (Sensing ids) is e next = cc
comes_next F core history now j node Resolving is e next =
    let view = core.view j in
    let here = seat_at F core history now j Resolving is e in
    let whole : is_whole (stage_of view.point) ≡ true = ap (λ (p : Point). is_whole (stage_of p)) e in
    let before = record_read view.cmd.slot view.again in
    let inner = two_inner F (home F before) (home F (effect_loaded F view).me) node (first_there (write_nodes F before (effect_loaded F view)) node next) in
    record {
      before = λ v held. leaf_first F v node (here.holding.wanted_are_leaves v held) (wanted_below F core history now j is whole v held) inner;
      most = inner_most F node inner;
    }
comes_next F core history now j node (Claiming got []) is e next = cc
comes_next F core history now j node (Claiming got (n ∷ rest)) is e next =
    let view = core.view j in
    let here = seat_at F core history now j (Claiming got (n ∷ rest)) is e in
    let whole : is_whole (stage_of view.point) ≡ true = ap (λ (p : Point). is_whole (stage_of p)) e in
    let before = record_read view.cmd.slot view.again in
    let effect = here.at.claim.e in
    let rises : Rises (got ++ n ∷ rest) = subst Rises (sym here.at.claim.nodes) (two_rise F (home F before) (home F effect.me)) in
    let inner = two_inner F (home F before) (home F effect.me) n
    (subst (λ (ns : List ℕ). has ns n ≡ true) here.at.claim.nodes (has_append got (n ∷ rest) n ∙ or_right _ _ (or_left _ _ (eq-eqb n n refl)))) in
    let place = place_of_inner F n inner in
    let same : n ≡ node = cc in
    subst (ComesNext F (Claiming got (n ∷ rest)) view.wanted) same (record {
      before = λ v held. elim (or_cases (has got v) (has view.wanted v) held) [
        | inl taken ↦
            let less = below_next got n rest v rises taken in
            let first_place = place_of_inner F v (here.holding.inner_are_inner v taken) in
            rw (first_place, place) (omega arith)
        | inr leaf ↦ leaf_first F v n (here.holding.wanted_are_leaves v leaf) (wanted_below F core history now j is whole v leaf) inner
      ];
      most = inner_most F n inner;
    })
comes_next F core history now j node (Storing nodes stores) is e next = cc
comes_next F core history now j node (Releasing nodes) is e next = cc
comes_next F core history now j node (Returning leaves) is e next = cc
comes_next F core history now j node (Yielding nodes leaves) is e next = cc

pub takes_come_in_order : TakesComeInOrder
takes_come_in_order F core history now i node held is next has_it = (comes_next F core history now i node (core.view i).point is refl next).before held has_it

-- ---- the holder of a node

pub record IsHeld (F : Fixed) (core : Core) (node : ℕ) : Type 0 where
  pub holder : ℕ
  pub held : holds F (core.view holder).point (core.view holder).wanted node ≡ true

-- a node is held by one of the first n seats, or by none of them
pub holder_below : (F : Fixed) (core : Core) (node n : ℕ) → IsHeld F core node ⊎ ((j : ℕ) → j < n → holds F (core.view j).point (core.view j).wanted node ≡ false)
holder_below F core node zero = inr (λ j below. absurd (omega arith))
holder_below F core node (suc n) =
    elim (cases_Bool (holds F (core.view n).point (core.view n).wanted node)) [
      | inl held ↦ inl (record { holder = n; held = held })
      | inr free ↦ elim (holder_below F core node n) [
        | inl found ↦ inl found
        | inr none ↦ inr (λ j below. elim (cases_Bool (j == n)) [
          | inl same ↦ subst (λ (m : ℕ). holds F (core.view m).point (core.view m).wanted node ≡ false) (sym (eqb-true j n same)) free
          | inr other ↦ none j (below_other j n below (λ same. true≢false (sym (eq-eqb j n same) ∙ other)))
        ])
      ]
    ]
  where
    below_other : (j n : ℕ) → j < suc n → (j ≡ n → ⊥) → j < n
    below_other j n below other = omega (arith, other)

-- a seat that holds a node has a command in hand
holder_busy : (F : Fixed) (point : Point) (wanted : List ℕ) (node : ℕ) → holds F point wanted node ≡ true → is_busy (stage_of point) ≡ true
holder_busy F Idle wanted node held = absurd (false≢true held)
holder_busy F Owning wanted node held = refl
holder_busy F (Taking got rest) wanted node held = refl
holder_busy F Checking wanted node held = refl
holder_busy F (Entering n plan) wanted node held = refl
holder_busy F (Entered n plan) wanted node held = refl
holder_busy F (Loading n part players plan) wanted node held = refl
holder_busy F (Leaving n plan) wanted node held = refl
holder_busy F (Sensing ids) wanted node held = refl
holder_busy F Resolving wanted node held = refl
holder_busy F (Claiming got rest) wanted node held = refl
holder_busy F (Storing nodes stores) wanted node held = refl
holder_busy F (Releasing nodes) wanted node held = refl
holder_busy F (Returning leaves) wanted node held = refl
holder_busy F (Yielding nodes leaves) wanted node held = refl

-- what a seat holds, it holds as one of the numbers given out
pub holder_is_below : (F : Fixed) (core : Core) (history : List Item) (now : World) (j node : ℕ) → Stands F core history now → holds F (core.view j).point (core.view j).wanted node ≡ true → j < (core.view 0).made
holder_is_below F core history now j node is held = is.numbers.live j (busy_lives core.view j is.numbers (holder_busy F (core.view j).point (core.view j).wanted node held))

-- there is a node
pub record IsSomeNode (o : Option ℕ) : Type 0 where
  pub node : ℕ
  pub is : o ≡ Some node

-- ---- from a seat to the holder of the node that it waits for

pub cases_Option : (o : Option ℕ) → (o ≡ None) ⊎ IsSomeNode o
cases_Option None = inl refl
cases_Option (Some node) = inr (record { node = node; is = refl })

-- a seat that takes no node next doesn't wait
pub takes_none : (F : Fixed) (core : Core) (j : ℕ) → next_node F (core.view j) ≡ None → Waits F core j → ⊥
takes_none F core j none waits = differ waits.node (sym none ∙ waits.next)
  where
    differ : (node : ℕ) → None ≡ Some node → ⊥
    differ node same = cc

-- a seat whose next node is held by none of the numbers given out doesn't wait
pub takes_free : (F : Fixed) (core : Core) (history : List Item) (now : World) (j node : ℕ) → Stands F core history now → next_node F (core.view j) ≡ Some node
    → ((k : ℕ) → k < (core.view 0).made → holds F (core.view k).point (core.view k).wanted node ≡ false) → Waits F core j → ⊥
takes_free F core history now j node is next none waits =
    let same : waits.node ≡ node = same_node waits.node (sym waits.next ∙ next) in
    let held = subst (λ (n : ℕ). holds F (core.view waits.holder).point (core.view waits.holder).wanted n ≡ true) same waits.held in
    true≢false (sym held ∙ none waits.holder (holder_is_below F core history now waits.holder node is held))
  where
    same_node : (n : ℕ) → Some n ≡ Some node → n ≡ node
    same_node n both = cc

-- a chain of waiting seats ends: each next node comes later, and there are so many places left
from_seat : (F : Fixed) (core : Core) (history : List Item) (now : World) (left j : ℕ) → Stands F core history now → is_busy (stage_of (core.view j).point) ≡ true
    → ((node : ℕ) → next_node F (core.view j) ≡ Some node → 2 ^ F.tree.depth + inner_nodes F ≤ left + taking_order F node) → SomeSeatGoesOn F core
from_seat F core history now zero j is busy enough = elim (cases_Option (next_node F (core.view j))) [
  | inl none ↦ record { seat = j; busy = busy; goes_on = takes_none F core j none }
  | inr some ↦
      let here = comes_next F core history now j some.node (core.view j).point is refl some.is in
      let last = enough some.node some.is in
      absurd (omega (arith, here.most, last))
]
from_seat F core history now (suc left) j is busy enough = elim (cases_Option (next_node F (core.view j))) [
  | inl none ↦ record { seat = j; busy = busy; goes_on = takes_none F core j none }
  | inr some ↦ elim (holder_below F core some.node (core.view 0).made) [
    | inl found ↦
        let k = found.holder in
        from_seat F core history now left k is (holder_busy F (core.view k).point (core.view k).wanted some.node found.held) (λ node next.
        let later = (comes_next F core history now k node (core.view k).point is refl next).before some.node found.held in
        let here = enough some.node some.is in
        omega (arith, later, here))
    | inr none ↦ record { seat = j; busy = busy; goes_on = takes_free F core history now j some.node is some.is none }
  ]
]

pub not_all_wait : NotAllWait
not_all_wait F core history now i is busy =
    from_seat F core history now (2 ^ F.tree.depth + inner_nodes F) i is busy (λ node next. omega arith)
