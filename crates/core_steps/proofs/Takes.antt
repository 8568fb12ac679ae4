-- Each kind of point at which a node is taken.
use Rattle.std.proofs.Common.{◌≡◌, ℕ, true, false, List, [], ◌∷◌, ◌++◌, refl, sym, ap, ◌∙◌, subst, inl, inr, Some, arith, append_assoc}
use Rattle.std.specs.Prelude.{◌==◌, ◌||◌}
use Rattle.std.specs.List.{range_with_len}
use Rattle.std.proofs.lemmas.Bool.{false≢true, eqb-true, eqb-false, eq-eqb, or_cases, or_left, or_right, cond-false, lt-leb}
use Rattle.entity_recs.specs.Worlds.{World}
use Rattle.entity_recs.specs.Histories.{Item}
use Rattle.core_steps.specs.Nodes.{Fixed, has, is_leaf, inner_nodes, inner_of_two, write_nodes, home}
use Rattle.core_steps.specs.Points.{Point, Idle, Owning, Taking, Checking, Entering, Entered, Loading, Leaving, Sensing}
use Rattle.core_steps.specs.Points.{Resolving, Claiming, Storing, Releasing, Returning, Yielding, Stage, AtTaking}
use Rattle.core_steps.specs.Points.{AtChecking, AtReading, AtClaiming, stage_of, is_whole}
use Rattle.core_steps.specs.Reads.{View, record_read}
use Rattle.core_steps.specs.Held.{visited_node, held_word}
use Rattle.core_steps.specs.Steps.{Core, with_node, taking, next_take, point_after_take, view_after_refusal}
use Rattle.core_steps.specs.Stands.{AreDistinct, Stands}
use Rattle.core_steps.specs.Laws.{TakenNodeStands, RefusedNodeStands}
use Rattle.core_steps.proofs.Puts.{eqb_sym}
use Rattle.core_steps.proofs.Frames.{busy_lives, stands_with_view}
use Rattle.core_steps.proofs.Unyielding.{not_giving_up}
use Rattle.core_steps.proofs.Points.{StageAsksLess, seat_with_point, reading_goes_on}
use Rattle.core_steps.proofs.Drops.{word_at_stages}
use Rattle.core_steps.proofs.Giving.{seat_at, current_unsettled}
use Rattle.core_steps.proofs.TreeNodes.{inner_in, wanted_in}
use Rattle.core_steps.proofs.GiveBacks.{taking_point}
use Rattle.core_steps.proofs.Taking.{IsTaken, take_on, checking_stands}
use Rattle.core_steps.proofs.Lists.{has_front, has_last, has_before_last, distinct_front, distinct_filter, distinct_range, has_filter, has_range}

taking_goes_on : StageAsksLess AtTaking AtTaking
taking_goes_on = record {
  busy = refl;
  was_busy = refl;
  open' = refl;
  owning = refl;
  whole = refl;
  settled = refl;
  again = refl;
  before = refl;
  without = refl;
  committed = refl;
  not_storing = refl;
}

claiming_goes_on : StageAsksLess AtClaiming AtClaiming
claiming_goes_on = record {
  busy = refl;
  was_busy = refl;
  open' = refl;
  owning = refl;
  whole = refl;
  settled = refl;
  again = refl;
  before = refl;
  without = refl;
  committed = refl;
  not_storing = refl;
}

-- what is less than a stage at which the seat is asks less of its view
less_at : (view : View) (old : Point) (new : Stage) → view.point ≡ old → StageAsksLess new (stage_of old) → StageAsksLess new (stage_of view.point)
less_at view old new e less = subst (λ (point : Point). StageAsksLess new (stage_of point)) (sym e) less

-- ---- leaves

-- a leaf is taken, and it is the last one
take_last_leaf : (F : Fixed) (core : Core) (history : List Item) (now : World) (i node : ℕ) (got : List ℕ) → Stands F core history now → (core.view i).point ≡ Taking got (node ∷ [])
    → core.words.node node ≡ 0 → Stands F (with_node core node (held_word F i AtChecking (core.view i).wanted node) i (record (core.view i) { point = Checking })) history now
take_last_leaf F core history now i node got is e free =
    let view = core.view i in
    let seat = seat_at F core history now i (Taking got (node ∷ [])) is e in
    let all : got ++ node ∷ [] ≡ view.wanted = seat.at.all in
    take_on F core history now i node (record view { point = Checking }) is free
    (subst (λ (point : Point). IsTaken F core history now i node (record view { point = Checking }) point) (sym e) (record {
      was_busy = refl;
      within = wanted_in F core history now i is (ap (λ (p : Point). is_whole (stage_of p)) e) node (subst (λ (leaves : List ℕ). has leaves node ≡ true) all (has_last got node));
      keeps = record { live = refl; log = refl; made = refl; ended = refl };
      cmd = refl;
      now_held = subst (λ (leaves : List ℕ). has leaves node ≡ true) all (has_last got node);
      more = λ v held other. has_before_last got node v (subst (λ (leaves : List ℕ). has leaves v ≡ true) (sym all) held) other;
      kept = λ v held. subst (λ (leaves : List ℕ). has leaves v ≡ true) all (has_front got (node ∷ []) v held);
      word = λ v _. word_at_stages F i AtTaking AtChecking view.wanted v refl;
      owes = refl;
      owed = refl;
      not_storing = refl;
      was_not_storing = refl;
      seat = λ node' named. checking_stands F core.words history now i view got (node ∷ []) node' e (is.seats i) named;
    }))

-- a leaf is taken, and others are left
take_leaf : (F : Fixed) (core : Core) (history : List Item) (now : World) (i node next : ℕ) (got rest : List ℕ) → Stands F core history now
    → (core.view i).point ≡ Taking got (node ∷ next ∷ rest) → core.words.node node ≡ 0
    → Stands F (with_node core node (held_word F i AtTaking (core.view i).wanted node) i (record (core.view i) { point = Taking (got ++ node ∷ []) (next ∷ rest) })) history now
take_leaf F core history now i node next got rest is e free =
    let view = core.view i in
    let old = Taking got (node ∷ next ∷ rest) in
    let new = Taking (got ++ node ∷ []) (next ∷ rest) in
    let seat = seat_at F core history now i old is e in
    let all : (got ++ node ∷ []) ++ next ∷ rest ≡ view.wanted = rw append_assoc seat.at.all in
    let leaf : (v : ℕ) → has (got ++ node ∷ []) v ≡ true → has view.wanted v ≡ true =
    λ v held. subst (λ (leaves : List ℕ). has leaves v ≡ true) all (has_front (got ++ node ∷ []) (next ∷ rest) v held) in
    take_on F core history now i node (record view { point = new }) is free
    (subst (λ (point : Point). IsTaken F core history now i node (record view { point = new }) point) (sym e) (record {
      was_busy = refl;
      within = wanted_in F core history now i is (ap (λ (p : Point). is_whole (stage_of p)) e) node (leaf node (has_last got node));
      keeps = record { live = refl; log = refl; made = refl; ended = refl };
      cmd = refl;
      now_held = has_last got node;
      more = λ v held other. has_before_last got node v held other;
      kept = λ v held. has_front got (node ∷ []) v held;
      word = λ v _. refl;
      owes = refl;
      owed = refl;
      not_storing = refl;
      was_not_storing = refl;
      seat = λ node' named. seat_with_point F core.words history now i view new node' (is.seats i) (record {
        less = less_at view old AtTaking e taking_goes_on;
        named = named;
        holding = record {
          wanted_once = seat.holding.wanted_once;
          wanted_are_leaves = seat.holding.wanted_are_leaves;
          leaves_once = distinct_front (got ++ node ∷ []) (next ∷ rest) (subst AreDistinct (sym all) seat.holding.wanted_once);
          leaves_are_leaves = λ v held. seat.holding.wanted_are_leaves v (leaf v held);
          inner_once = tt;
          inner_are_inner = λ v held. absurd (false≢true held);
        };
        at = record { all = all; left = omega arith };
        current = current_unsettled core.words.links core.words.body new view.wanted view.lists (record { unsettled = refl; part = λ p. refl });
        owes = refl;
        giving_up = not_giving_up refl;
      });
    }))

-- ---- an inner node of a visit

enter_node : (F : Fixed) (core : Core) (history : List Item) (now : World) (i node : ℕ) (plan : List ℕ) → Stands F core history now → (core.view i).point ≡ Entering node plan
    → core.words.node node ≡ 0 → Stands F (with_node core node (held_word F i AtReading (core.view i).wanted node) i (record (core.view i) { point = Entered node plan })) history now
enter_node F core history now i node plan is e free =
    let view = core.view i in
    let new = Entered node plan in
    let seat = seat_at F core history now i (Entering node plan) is e in
    let inner : visited_node F node ≡ node ∷ [] = cond-false (is_leaf F node) [] (node ∷ []) seat.at.inner in
    let one : (v : ℕ) → has (visited_node F node) v ≡ true → node ≡ v =
    λ v held. only node v (subst (λ (nodes : List ℕ). has nodes v ≡ true) inner held) in
    take_on F core history now i node (record view { point = new }) is free
    (subst (λ (point : Point). IsTaken F core history now i node (record view { point = new }) point) (sym e) (record {
      was_busy = refl;
      within = inner_in F node seat.at.inner;
      keeps = record { live = refl; log = refl; made = refl; ended = refl };
      cmd = refl;
      now_held = or_left _ _ (subst (λ (nodes : List ℕ). has nodes node ≡ true) (sym inner) (or_left _ _ (eq-eqb node node refl)));
      more = λ v held other. elim (or_cases (has (visited_node F node) v) (has view.wanted v) held) [
        | inl here ↦ absurd (eqb-false v node other (sym (one v here)))
        | inr leaf ↦ leaf
      ];
      kept = λ v held. or_right _ _ held;
      word = λ v _. refl;
      owes = refl;
      owed = refl;
      not_storing = refl;
      was_not_storing = refl;
      seat = λ node' named. seat_with_point F core.words history now i view new node' (is.seats i) (record {
        less = less_at view (Entering node plan) AtReading e reading_goes_on;
        named = named;
        holding = record {
          wanted_once = seat.holding.wanted_once;
          wanted_are_leaves = seat.holding.wanted_are_leaves;
          leaves_once = seat.holding.leaves_once;
          leaves_are_leaves = seat.holding.leaves_are_leaves;
          inner_once = subst AreDistinct (sym inner) (refl, tt);
          inner_are_inner = λ v held. subst (λ (n : ℕ). is_leaf F n ≡ false) (one v held) seat.at.inner;
        };
        at = seat.at.read;
        current = record { same_list = seat.current.same_list; same_part = seat.current.same_part };
        owes = refl;
        giving_up = not_giving_up refl;
      });
    }))
  where
    only : (n v : ℕ) → has (n ∷ []) v ≡ true → n ≡ v
    only n v held = elim (or_cases (n == v) false held) [ inl same ↦ eqb-true n v same | inr none ↦ absurd (false≢true none) ]

-- ---- write nodes

pub two_once : (F : Fixed) (a b : ℕ) → AreDistinct (inner_of_two F a b)
two_once F a b = distinct_filter (λ node. (node == a) || (node == b)) (range_with_len 0 (inner_nodes F)) (distinct_range 0 (inner_nodes F))

pub two_inner : (F : Fixed) (a b v : ℕ) → has (inner_of_two F a b) v ≡ true → is_leaf F v ≡ false
two_inner F a b v held =
    let kept = has_filter (λ node. (node == a) || (node == b)) (range_with_len 0 (inner_nodes F)) v held in
    let range = has_range 0 (inner_nodes F) v kept.listed in
    lt-leb (inner_nodes F) v (omega arith)

-- one more write node is taken
claim_next : (F : Fixed) (core : Core) (history : List Item) (now : World) (i node : ℕ) (got rest : List ℕ) → Stands F core history now
    → (core.view i).point ≡ Claiming got (node ∷ rest) → core.words.node node ≡ 0
    → Stands F (with_node core node (held_word F i AtClaiming (core.view i).wanted node) i (record (core.view i) { point = Claiming (got ++ node ∷ []) rest })) history now
claim_next F core history now i node got rest is e free =
    let view = core.view i in
    let old = Claiming got (node ∷ rest) in
    let new = Claiming (got ++ node ∷ []) rest in
    let seat = seat_at F core history now i old is e in
    let claim = seat.at.claim in
    let before = record_read view.cmd.slot view.again in
    let nodes : (got ++ node ∷ []) ++ rest ≡ write_nodes F before claim.e = rw append_assoc claim.nodes in
    take_on F core history now i node (record view { point = new }) is free
    (subst (λ (point : Point). IsTaken F core history now i node (record view { point = new }) point) (sym e) (record {
      was_busy = refl;
      within = inner_in F node (two_inner F (home F before) (home F claim.e.me) node
          (subst (λ (all : List ℕ). has all node ≡ true) nodes (has_front (got ++ node ∷ []) rest node (has_last got node))));
      keeps = record { live = refl; log = refl; made = refl; ended = refl };
      cmd = refl;
      now_held = or_left _ _ (has_last got node);
      more = λ v held other. elim (or_cases (has (got ++ node ∷ []) v) (has view.wanted v) held) [
        | inl inner ↦ or_left _ _ (has_before_last got node v inner other)
        | inr leaf ↦ or_right _ _ leaf
      ];
      kept = λ v held. elim (or_cases (has got v) (has view.wanted v) held) [
        | inl inner ↦ or_left _ _ (has_front got (node ∷ []) v inner)
        | inr leaf ↦ or_right _ _ leaf
      ];
      word = λ v _. refl;
      owes = refl;
      owed = refl;
      not_storing = refl;
      was_not_storing = refl;
      seat = λ node' named. seat_with_point F core.words history now i view new node' (is.seats i) (record {
        less = less_at view old AtClaiming e claiming_goes_on;
        named = named;
        holding = record {
          wanted_once = seat.holding.wanted_once;
          wanted_are_leaves = seat.holding.wanted_are_leaves;
          leaves_once = seat.holding.leaves_once;
          leaves_are_leaves = seat.holding.leaves_are_leaves;
          inner_once = distinct_front (got ++ node ∷ []) rest (subst AreDistinct (sym nodes) (two_once F (home F before) (home F claim.e.me)));
          inner_are_inner = λ v held. two_inner F (home F before) (home F claim.e.me) v
              (subst (λ (all : List ℕ). has all v ≡ true) nodes (has_front (got ++ node ∷ []) rest v held));
        };
        at = record { sensing = seat.at.sensing; claim = record { e = claim.e; is = claim.is; nodes = nodes } };
        current = record { same_list = seat.current.same_list; same_part = seat.current.same_part };
        owes = refl;
        giving_up = not_giving_up refl;
      });
    }))

-- ---- a node is taken

taken_at : (F : Fixed) (core : Core) (history : List Item) (now : World) (i node : ℕ) (point : Point) → Stands F core history now → (core.view i).point ≡ point
    → next_take point ≡ Some node → core.words.node node ≡ 0
    → Stands F (with_node core node (held_word F i (stage_of (point_after_take node point)) (core.view i).wanted node) i (record (core.view i) { point = point_after_take node point })) history now
taken_at F core history now i node Idle is e next free = cc
taken_at F core history now i node Owning is e next free = cc
taken_at F core history now i node (Taking got []) is e next free = cc
taken_at F core history now i node (Taking got (leaf ∷ [])) is e next free =
    let same : leaf ≡ node = cc in
    take_last_leaf F core history now i node got is (e ∙ ap (λ (n : ℕ). Taking got (n ∷ [])) same) free
taken_at F core history now i node (Taking got (leaf ∷ m ∷ rest)) is e next free =
    let same : leaf ≡ node = cc in
    take_leaf F core history now i node m got rest is (e ∙ ap (λ (n : ℕ). Taking got (n ∷ m ∷ rest)) same) free
taken_at F core history now i node Checking is e next free = cc
taken_at F core history now i node (Entering n plan) is e next free =
    let same : n ≡ node = cc in
    subst (λ (m : ℕ). Stands F (with_node core node (held_word F i AtReading (core.view i).wanted node) i (record (core.view i) { point = Entered m plan })) history now) (sym same)
    (enter_node F core history now i node plan is (e ∙ ap (λ (m : ℕ). Entering m plan) same) free)
taken_at F core history now i node (Entered n plan) is e next free = cc
taken_at F core history now i node (Loading n part players plan) is e next free = cc
taken_at F core history now i node (Leaving n plan) is e next free = cc
taken_at F core history now i node (Sensing ids) is e next free = cc
taken_at F core history now i node Resolving is e next free = cc
taken_at F core history now i node (Claiming got []) is e next free = cc
taken_at F core history now i node (Claiming got (n ∷ rest)) is e next free =
    let same : n ≡ node = cc in
    claim_next F core history now i node got rest is (e ∙ ap (λ (m : ℕ). Claiming got (m ∷ rest)) same) free
taken_at F core history now i node (Storing nodes stores) is e next free = cc
taken_at F core history now i node (Releasing nodes) is e next free = cc
taken_at F core history now i node (Returning leaves) is e next free = cc
taken_at F core history now i node (Yielding nodes leaves) is e next free = cc

pub taken_node_stands : TakenNodeStands
taken_node_stands F core history now i node next free is = taken_at F core history now i node (core.view i).point is refl next free

pub refused_node_stands : RefusedNodeStands
refused_node_stands F core history now i node taking held is =
    let view = core.view i in
    let seat = is.seats i in
    let point = taking_point view.point taking in
    stands_with_view F core history now i (view_after_refusal node (core.words.node node) view) is (record {
      lives = busy_lives core.view i is.numbers point.busy;
      keeps = record { live = refl; log = refl; made = refl; ended = refl };
      seat = record {
        named = seat.named;
        holding = seat.holding;
        counted = seat.counted;
        hand = seat.hand;
        own = seat.own;
        unread = seat.unread;
        at = seat.at;
        current = seat.current;
        right = seat.right;
        resolved = seat.resolved;
        giving_up = seat.giving_up;
        committed = seat.committed;
      };
      same = λ v. refl;
      slots = λ j other. (is.apart i j (eqb_sym j i other)).slots;
      owes = refl;
      stores = λ p. refl;
    })
