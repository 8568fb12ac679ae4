-- Each kind of point at which a node is given back.
use Rattle.std.proofs.Common.{◌≡◌, ℕ, Bool, true, false, List, [], ◌∷◌, length, refl, sym, ap, ◌∙◌, subst, Some, None, arith, length-append}
use Rattle.std.specs.Prelude.{◌==◌, ◌||◌, ◌&&◌}
use Rattle.std.proofs.lemmas.Bool.{false≢true, or_left, cond-false}
use Rattle.entity_recs.specs.Worlds.{World}
use Rattle.entity_recs.specs.Histories.{Item}
use Rattle.core_steps.specs.Nodes.{Fixed, has, is_leaf}
use Rattle.core_steps.specs.Points.{Point, Idle, Owning, Taking, Checking, Entering, Entered, Loading, Leaving, Sensing}
use Rattle.core_steps.specs.Points.{Resolving, Claiming, Storing, Releasing, Returning, Yielding, Stage, AtTaking}
use Rattle.core_steps.specs.Points.{AtReading, AtClaiming, AtReleasing, AtReturning, AtYielding, stage_of, is_busy}
use Rattle.core_steps.specs.Points.{is_settled, is_whole, is_storing, is_writing, stores_owed}
use Rattle.core_steps.specs.Reads.{without_command}
use Rattle.core_steps.specs.Held.{inner_held, leaves_held, visited_node}
use Rattle.core_steps.specs.Steps.{Core, with_node, visiting, returning, yielded, rest_of, first, first_of_two, next_give, view_after_give, is_taking}
use Rattle.core_steps.specs.Stands.{IsHolding, IsReadRight, IsResolved, Stands}
use Rattle.core_steps.specs.Laws.{GivenNodeStands, YieldedNodeStands, YieldedNothingStands}
use Rattle.core_steps.proofs.Frames.{busy_lives, stands_with_view}
use Rattle.core_steps.proofs.Unyielding.{is_yielding, not_giving_up}
use Rattle.core_steps.proofs.Resting.{rests}
use Rattle.core_steps.proofs.Points.{StageAsksLess, visiting_between, at_visiting, current_between, reading_goes_on}
use Rattle.core_steps.proofs.Drops.{Drops, drop_inner, drop_leaf, holding_rest_inner, holding_rest_leaf, word_at_stages, word_of_leaf}
use Rattle.core_steps.proofs.Giving.{ReadsStill, seat_at, IsGiving, give_on, same_drops, same_holding, current_unsettled, return_on, yield_first, resting_counted}
use Rattle.core_steps.proofs.Seats.{within_more}

-- ---- how stages follow one another where nodes are given back

releasing_goes_on : StageAsksLess AtReleasing AtReleasing
releasing_goes_on = record {
  busy = refl;
  was_busy = refl;
  open' = refl;
  owning = refl;
  whole = refl;
  settled = refl;
  again = refl;
  before = refl;
  without = refl;
  committed = refl;
  not_storing = refl;
}

returning_after_release : StageAsksLess AtReturning AtReleasing
returning_after_release = record {
  busy = refl;
  was_busy = refl;
  open' = refl;
  owning = refl;
  whole = refl;
  settled = refl;
  again = refl;
  before = refl;
  without = refl;
  committed = refl;
  not_storing = refl;
}

returning_goes_on : StageAsksLess AtReturning AtReturning
returning_goes_on = record {
  busy = refl;
  was_busy = refl;
  open' = refl;
  owning = refl;
  whole = refl;
  settled = refl;
  again = refl;
  before = refl;
  without = refl;
  committed = refl;
  not_storing = refl;
}

yielding_goes_on : StageAsksLess AtYielding AtYielding
yielding_goes_on = record {
  busy = refl;
  was_busy = refl;
  open' = refl;
  owning = refl;
  whole = refl;
  settled = refl;
  again = refl;
  before = refl;
  without = refl;
  committed = refl;
  not_storing = refl;
}

yielding_after_taking : StageAsksLess AtYielding AtTaking
yielding_after_taking = record {
  busy = refl;
  was_busy = refl;
  open' = refl;
  owning = refl;
  whole = refl;
  settled = refl;
  again = refl;
  before = refl;
  without = refl;
  committed = refl;
  not_storing = refl;
}

yielding_after_reading : StageAsksLess AtYielding AtReading
yielding_after_reading = record {
  busy = refl;
  was_busy = refl;
  open' = refl;
  owning = refl;
  whole = refl;
  settled = refl;
  again = refl;
  before = refl;
  without = refl;
  committed = refl;
  not_storing = refl;
}

yielding_after_claiming : StageAsksLess AtYielding AtClaiming
yielding_after_claiming = record {
  busy = refl;
  was_busy = refl;
  open' = refl;
  owning = refl;
  whole = refl;
  settled = refl;
  again = refl;
  before = refl;
  without = refl;
  committed = refl;
  not_storing = refl;
}

-- ---- a node is given back

-- the inner node of a visit is given back
leave_node : (F : Fixed) (core : Core) (history : List Item) (now : World) (i node : ℕ) (plan : List ℕ) → Stands F core history now → (core.view i).point ≡ Leaving node plan
    → Stands F (with_node core node 0 i (record (core.view i) { point = visiting F (core.view i) plan })) history now
leave_node F core history now i node plan is e =
    let view = core.view i in
    let wanted = view.wanted in
    let new = visiting F view plan in
    let between = visiting_between F view plan in
    let seat = seat_at F core history now i (Leaving node plan) is e in
    let inner : visited_node F node ≡ node ∷ [] = cond-false (is_leaf F node) [] (node ∷ []) seat.at.inner in
    let holding : IsHolding F wanted wanted (node ∷ []) = subst (IsHolding F wanted wanted) inner seat.holding in
    give_on F core history now i node new is (subst (λ (point : Point). IsGiving F core now i node new point) (sym e) (record {
      less = subst (λ (s : Stage). StageAsksLess s AtReading) (sym between.stage) reading_goes_on;
      drops = same_drops (visited_node F node) wanted (inner_held F new) (leaves_held new wanted) (node ∷ []) wanted [] wanted node inner refl between.inner (between.leaves wanted)
          (drop_inner F wanted wanted [] node holding);
      holding = same_holding F wanted (leaves_held new wanted) (inner_held F new) [] wanted between.inner (between.leaves wanted) (holding_rest_inner F wanted wanted [] node holding);
      word = λ v _. word_at_stages F i (stage_of new) AtReading wanted v (ap is_writing between.stage);
      at = at_visiting F view plan seat.at.read;
      current = current_between F core.words.links core.words.body (Leaving node plan) new wanted view.lists refl between seat.current;
      owes = between.owes;
      owed = refl;
      was_not_storing = refl;
      giving_up = not_giving_up (ap is_yielding between.stage);
    }))

-- a write node is given back
release_node : (F : Fixed) (core : Core) (history : List Item) (now : World) (i node : ℕ) (nodes : List ℕ) → Stands F core history now → (core.view i).point ≡ Releasing (node ∷ nodes)
    → Stands F (with_node core node 0 i (record (core.view i) { point = Releasing nodes })) history now
release_node F core history now i node nodes is e =
    let view = core.view i in
    let seat = seat_at F core history now i (Releasing (node ∷ nodes)) is e in
    give_on F core history now i node (Releasing nodes) is (subst (λ (point : Point). IsGiving F core now i node (Releasing nodes) point) (sym e) (record {
      less = releasing_goes_on;
      drops = drop_inner F view.wanted view.wanted nodes node seat.holding;
      holding = holding_rest_inner F view.wanted view.wanted nodes node seat.holding;
      word = λ v _. refl;
      at = tt;
      current = current_unsettled core.words.links core.words.body (Releasing nodes) view.wanted view.lists (record { unsettled = refl; part = λ p. refl });
      owes = refl;
      owed = refl;
      was_not_storing = refl;
      giving_up = not_giving_up refl;
    }))

-- the first leaf is given back, after the write nodes
release_leaf : (F : Fixed) (core : Core) (history : List Item) (now : World) (i node : ℕ) (wanted : List ℕ) → Stands F core history now → (core.view i).point ≡ Releasing []
    → (core.view i).wanted ≡ wanted → first wanted ≡ Some node → Stands F (with_node core node 0 i (returning (core.view i) (rest_of wanted))) history now
release_leaf F core history now i node [] is e want next = cc
release_leaf F core history now i node (leaf ∷ rest) is e want next =
    let view = core.view i in
    let same : leaf ≡ node = cc in
    let seat = seat_at F core history now i (Releasing []) is e in
    let holding : IsHolding F view.wanted (leaf ∷ rest) [] = subst (λ (leaves : List ℕ). IsHolding F view.wanted leaves []) want seat.holding in
    return_on F core history now i node (Releasing []) rest is e returning_after_release
    (subst (λ (n : ℕ). Drops [] view.wanted [] rest n) same (same_drops [] view.wanted [] rest [] (leaf ∷ rest) [] rest leaf refl want refl refl (drop_leaf F view.wanted rest leaf holding)))
    (holding_rest_leaf F view.wanted rest [] leaf holding) refl refl

-- a leaf is given back
return_leaf : (F : Fixed) (core : Core) (history : List Item) (now : World) (i node : ℕ) (leaves : List ℕ) → Stands F core history now → (core.view i).point ≡ Returning leaves
    → first leaves ≡ Some node → Stands F (with_node core node 0 i (returning (core.view i) (rest_of leaves))) history now
return_leaf F core history now i node [] is e next = cc
return_leaf F core history now i node (leaf ∷ rest) is e next =
    let view = core.view i in
    let same : leaf ≡ node = cc in
    let seat = seat_at F core history now i (Returning (leaf ∷ rest)) is e in
    return_on F core history now i node (Returning (leaf ∷ rest)) rest is e returning_goes_on
    (subst (λ (n : ℕ). Drops [] (leaf ∷ rest) [] rest n) same (drop_leaf F view.wanted rest leaf seat.holding))
    (holding_rest_leaf F view.wanted rest [] leaf seat.holding) refl refl

-- the next node of a command that is given up is given back
yield_next : (F : Fixed) (core : Core) (history : List Item) (now : World) (i node : ℕ) (nodes leaves : List ℕ) → Stands F core history now → (core.view i).point ≡ Yielding nodes leaves
    → first_of_two nodes leaves ≡ Some node → Stands F (with_node core node 0 i (yielded (core.view i) nodes leaves)) history now
yield_next F core history now i node nodes leaves is e next =
    let seat = seat_at F core history now i (Yielding nodes leaves) is e in
    yield_first F core history now i node (Yielding nodes leaves) nodes leaves is e yielding_goes_on refl refl seat.holding (λ v _. refl) refl refl
    ((is.seats i).giving_up.few nodes leaves e) (λ _ all. (is.seats i).giving_up.still nodes (e ∙ ap (λ (ls : List ℕ). Yielding nodes ls) all)) next

given_at : (F : Fixed) (core : Core) (history : List Item) (now : World) (i node : ℕ) (point : Point) → Stands F core history now → (core.view i).point ≡ point
    → next_give point (core.view i).wanted ≡ Some node → Stands F (with_node core node 0 i (view_after_give F (core.view i) point)) history now
given_at F core history now i node Idle is e next = cc
given_at F core history now i node Owning is e next = cc
given_at F core history now i node (Taking got rest) is e next = cc
given_at F core history now i node Checking is e next = cc
given_at F core history now i node (Entering n plan) is e next = cc
given_at F core history now i node (Entered n plan) is e next = cc
given_at F core history now i node (Loading n part players plan) is e next = cc
given_at F core history now i node (Leaving n plan) is e next =
    let same : n ≡ node = cc in
    subst (λ (m : ℕ). Stands F (with_node core m 0 i (record (core.view i) { point = visiting F (core.view i) plan })) history now) same (leave_node F core history now i n plan is e)
given_at F core history now i node (Sensing ids) is e next = cc
given_at F core history now i node Resolving is e next = cc
given_at F core history now i node (Claiming got rest) is e next = cc
given_at F core history now i node (Storing nodes stores) is e next = cc
given_at F core history now i node (Releasing []) is e next = release_leaf F core history now i node (core.view i).wanted is e refl next
given_at F core history now i node (Releasing (n ∷ nodes)) is e next =
    let same : n ≡ node = cc in
    subst (λ (m : ℕ). Stands F (with_node core m 0 i (record (core.view i) { point = Releasing nodes })) history now) same (release_node F core history now i n nodes is e)
given_at F core history now i node (Returning leaves) is e next = return_leaf F core history now i node leaves is e next
given_at F core history now i node (Yielding nodes leaves) is e next = yield_next F core history now i node nodes leaves is e next

pub given_node_stands : GivenNodeStands
given_node_stands F core history now i node next is = given_at F core history now i node (core.view i).point is refl next

-- ---- giving up

-- what a seat that takes write nodes has read
claiming_still : (F : Fixed) (core : Core) (history : List Item) (now : World) (i : ℕ) (got rest : List ℕ) → Stands F core history now → (core.view i).point ≡ Claiming got rest → ReadsStill F core now i
claiming_still F core history now i got rest is e =
    let view = core.view i in
    let seat = is.seats i in
    let stage : stage_of view.point ≡ AtClaiming = ap stage_of e in
    record {
      right = subst (λ (s : Stage). IsReadRight F now view.cmd s view.own view.again view.lists view.others view.states) stage seat.right;
      resolved = subst (λ (s : Stage). IsResolved F now view.cmd s view.effect) stage seat.resolved;
      same_list = λ node word read leaf. seat.current.same_list (ap is_settled stage) node word read (or_left _ _ leaf);
    }

-- the first node of a command is given back that is given up at this point
yielded_at : (F : Fixed) (core : Core) (history : List Item) (now : World) (i node : ℕ) (point : Point) → Stands F core history now → (core.view i).point ≡ point → is_taking point ≡ true
    → first_of_two (inner_held F point) (leaves_held point (core.view i).wanted) ≡ Some node
    → Stands F (with_node core node 0 i (yielded (core.view i) (inner_held F point) (leaves_held point (core.view i).wanted))) history now
yielded_at F core history now i node Idle is e taking next = absurd (false≢true taking)
yielded_at F core history now i node Owning is e taking next = absurd (false≢true taking)
yielded_at F core history now i node (Taking got rest) is e taking next =
    let seat = seat_at F core history now i (Taking got rest) is e in
    yield_first F core history now i node (Taking got rest) [] got is e yielding_after_taking refl refl seat.holding
    (λ v held. word_of_leaf F i AtYielding AtTaking (core.view i).wanted v (seat.holding.leaves_are_leaves v held)) refl refl
    (let size = length-append got rest in let all = ap length seat.at.all in omega (arith, size, all)) (λ some. absurd (omega (arith, some))) next
yielded_at F core history now i node Checking is e taking next = absurd (false≢true taking)
yielded_at F core history now i node (Entering n plan) is e taking next =
    let seat = seat_at F core history now i (Entering n plan) is e in
    yield_first F core history now i node (Entering n plan) [] (core.view i).wanted is e yielding_after_reading refl refl seat.holding
    (λ v held. word_of_leaf F i AtYielding AtReading (core.view i).wanted v (seat.holding.leaves_are_leaves v held)) refl refl
    (omega arith) (λ some. absurd (omega (arith, some))) next
yielded_at F core history now i node (Entered n plan) is e taking next = absurd (false≢true taking)
yielded_at F core history now i node (Loading n part players plan) is e taking next = absurd (false≢true taking)
yielded_at F core history now i node (Leaving n plan) is e taking next = absurd (false≢true taking)
yielded_at F core history now i node (Sensing ids) is e taking next = absurd (false≢true taking)
yielded_at F core history now i node Resolving is e taking next =
    let seat = seat_at F core history now i Resolving is e in
    yield_first F core history now i node Resolving [] (core.view i).wanted is e yielding_after_reading refl refl seat.holding
    (λ v held. word_of_leaf F i AtYielding AtReading (core.view i).wanted v (seat.holding.leaves_are_leaves v held)) refl refl
    (omega arith) (λ some. absurd (omega (arith, some))) next
yielded_at F core history now i node (Claiming got rest) is e taking next =
    let seat = seat_at F core history now i (Claiming got rest) is e in
    yield_first F core history now i node (Claiming got rest) got (core.view i).wanted is e yielding_after_claiming refl refl seat.holding (λ v _. refl) refl refl
    (omega arith) (λ _ _. claiming_still F core history now i got rest is e) next
yielded_at F core history now i node (Storing nodes stores) is e taking next = absurd (false≢true taking)
yielded_at F core history now i node (Releasing nodes) is e taking next = absurd (false≢true taking)
yielded_at F core history now i node (Returning leaves) is e taking next = absurd (false≢true taking)
yielded_at F core history now i node (Yielding nodes leaves) is e taking next = absurd (false≢true taking)

pub yielded_node_stands : YieldedNodeStands
yielded_node_stands F core history now i node taking next is = yielded_at F core history now i node (core.view i).point is refl taking next

-- nothing is held of an inner list and a list of leaves without a first
nothing_first : (inner leaves : List ℕ) (v : ℕ) → first_of_two inner leaves ≡ None → (has inner v || has leaves v) ≡ false
nothing_first [] [] v none = refl
nothing_first [] (leaf ∷ leaves) v none = cc
nothing_first (n ∷ inner) leaves v none = cc

-- where a node is to be taken a command is in hand, and nothing is owed
pub record IsTakingPoint (point : Point) : Type 0 where
  pub busy : is_busy (stage_of point) ≡ true
  pub whole : is_whole (stage_of point) ≡ true
  pub owed : stores_owed point ≡ []
  pub not_storing : is_storing (stage_of point) ≡ false

pub taking_point : (point : Point) → is_taking point ≡ true → IsTakingPoint point
taking_point Idle taking = absurd (false≢true taking)
taking_point Owning taking = absurd (false≢true taking)
taking_point (Taking got rest) taking = record { busy = refl; whole = refl; owed = refl; not_storing = refl }
taking_point Checking taking = absurd (false≢true taking)
taking_point (Entering n plan) taking = record { busy = refl; whole = refl; owed = refl; not_storing = refl }
taking_point (Entered n plan) taking = absurd (false≢true taking)
taking_point (Loading n part players plan) taking = absurd (false≢true taking)
taking_point (Leaving n plan) taking = absurd (false≢true taking)
taking_point (Sensing ids) taking = absurd (false≢true taking)
taking_point Resolving taking = record { busy = refl; whole = refl; owed = refl; not_storing = refl }
taking_point (Claiming got rest) taking = record { busy = refl; whole = refl; owed = refl; not_storing = refl }
taking_point (Storing nodes stores) taking = absurd (false≢true taking)
taking_point (Releasing nodes) taking = absurd (false≢true taking)
taking_point (Returning leaves) taking = absurd (false≢true taking)
taking_point (Yielding nodes leaves) taking = absurd (false≢true taking)

pub yielded_nothing_stands : YieldedNothingStands
yielded_nothing_stands F core history now i taking none is =
    let view = core.view i in
    let seat = is.seats i in
    let point = taking_point view.point taking in
    let rest = resting_counted core.words.commits view.seen view.room view.log (stage_of view.point) seat.counted in
    stands_with_view F core history now i (record (without_command view) { seen = core.words.commits }) is (record {
      lives = busy_lives core.view i is.numbers point.busy;
      keeps = record { live = refl; log = refl; made = refl; ended = refl };
      seat = rests F core.words history now i (record view { seen = core.words.commits }) (record {
        within = within_more view.seen core.words.commits view.room view.log seat.counted.known seat.counted.within;
        known = omega arith;
        has_room = rest.has_room;
      });
      same = λ node. sym (nothing_first (inner_held F view.point) (leaves_held view.point view.wanted) node none);
      slots = λ j other busy. absurd (false≢true busy);
      owes = sym point.owed;
      stores = λ p. ap (λ (b : Bool). b && (view.cmd.slot == p)) (sym point.not_storing);
    })
