-- The machine: each step that a seat makes keeps what stands.
use Rattle.std.proofs.Common.{◌≡◌, ℕ, ◌<◌, ◌≤◌, true, false, List, [], ◌∷◌, length, refl, sym, ap, ◌∙◌, subst, inl, inr, Option, Some, None, arith}
use Rattle.std.specs.Prelude.{◌==◌, ◌&&◌, nat_le}
use Rattle.std.proofs.lemmas.Bool.{cases_Bool, false≢true, or_right, cond-true}
use Rattle.arena_geo.specs.Regions.{touches_region}
use Rattle.entity_recs.specs.declared.effect.NewState.{NewState}
use Rattle.entity_recs.specs.Bodies.{abs_of}
use Rattle.entity_recs.specs.Commands.{Command}
use Rattle.entity_recs.specs.Worlds.{World}
use Rattle.entity_recs.specs.Histories.{Item}
use Rattle.core_steps.specs.Cells.{Words, put}
use Rattle.core_steps.specs.Nodes.{Fixed, is_leaf, has}
use Rattle.core_steps.specs.Points.{Store, Point, Idle, Releasing, Returning, Yielding, stage_of, is_busy, is_whole}
use Rattle.core_steps.specs.Reads.{View, ListRead, PlayerRead, things_in, region_in}
use Rattle.core_steps.specs.Steps.{sensing, visiting, loading, taking, storing, returning, yielding, released, yielded, rest_of, is_taking}
use Rattle.core_steps.specs.Stands.{Stands}
use Rattle.core_steps.specs.Machine.{Machine, IsPending, SomeIsLeft, HasNext, Fits, ViewFits, lists_ahead, states_ahead, MachineStands}
use Rattle.core_steps.proofs.Puts.{each_put, put_other}
use Rattle.core_steps.proofs.Planned.{filter_few}

-- ---- a seat goes on

-- what is known of a seat's new view
pub record GoesOn (F : Fixed) (old new : View) : Type 0 where
  pub cmd : is_busy (stage_of new.point) ≡ true → new.cmd ≡ old.cmd
  pub next : HasNext new.point new.wanted
  pub fits : ViewFits F new

-- what was read fits still where no more is ahead
pub fits_less : (F : Fixed) (point new : Point) (lists : List ListRead) (others : List PlayerRead) (states : List NewState) → Fits F point lists others states
    → lists_ahead F new ≤ lists_ahead F point → states_ahead F new ≤ states_ahead F point → Fits F new lists others states
fits_less F point new lists others states is fewer less = record {
  few_lists = omega (arith, is.few_lists, fewer);
  once = is.once;
  below = is.below;
  few_states = omega (arith, is.few_states, less);
}

-- where nothing is read, it fits
pub fits_none : (F : Fixed) → Fits F Idle [] [] []
fits_none F = record { few_lists = omega arith; once = tt; below = λ slot there. absurd (false≢true there); few_states = omega arith }

-- what a view has read fits still at a point with nothing ahead
pub fits_last : (F : Fixed) (view : View) (point : Point) → ViewFits F view → lists_ahead F point ≤ 0 → states_ahead F point ≤ 0 → Fits F point view.lists view.others view.states
fits_last F view point is fewer less = fits_less F view.point point view.lists view.others view.states is (omega arith) (omega arith)

-- how much is ahead
pub lists_sensing : (F : Fixed) (ids : List ℕ) → lists_ahead F (sensing ids) ≤ 0
lists_sensing F [] = omega arith
lists_sensing F (id ∷ ids) = omega arith

pub states_sensing : (F : Fixed) (ids : List ℕ) → states_ahead F (sensing ids) ≤ length ids
states_sensing F [] = omega arith
states_sensing F (id ∷ ids) = omega arith

pub lists_visiting : (F : Fixed) (view : View) (plan : List ℕ) → lists_ahead F (visiting F view plan) ≤ length plan
lists_visiting F view [] = lists_sensing F (things_in F (region_in F view.cmd view.own))
lists_visiting F view (node ∷ plan) = elim (cases_Bool (is_leaf F node)) [ inl leaf ↦ rw leaf (omega arith) | inr inner ↦ rw inner (omega arith) ]

pub states_visiting : (F : Fixed) (view : View) (plan : List ℕ) → states_ahead F (visiting F view plan) ≤ length F.start.ids
states_visiting F view [] =
    let region = region_in F view.cmd view.own in
    let some = states_sensing F (things_in F region) in
    let all = filter_few (λ id. nat_le 64 id && touches_region (abs_of (F.start.record_of id)) region) F.start.ids in
    omega (arith, some, all)
states_visiting F view (node ∷ plan) = elim (cases_Bool (is_leaf F node)) [ inl leaf ↦ rw leaf (omega arith) | inr inner ↦ rw inner (omega arith) ]

pub lists_loading : (F : Fixed) (view : View) (node : ℕ) (players plan : List ℕ) → lists_ahead F (loading F view node players plan) ≤ length plan
lists_loading F view node [] plan = elim (cases_Bool (is_leaf F node)) [ inl leaf ↦ rw leaf (lists_visiting F view plan) | inr inner ↦ rw inner (omega arith) ]
lists_loading F view node (slot ∷ players) plan = omega arith

pub states_loading : (F : Fixed) (view : View) (node : ℕ) (players plan : List ℕ) → states_ahead F (loading F view node players plan) ≤ length F.start.ids
states_loading F view node [] plan = elim (cases_Bool (is_leaf F node)) [ inl leaf ↦ rw leaf (states_visiting F view plan) | inr inner ↦ rw inner (omega arith) ]
states_loading F view node (slot ∷ players) plan = omega arith

-- the seat has another point
pub goes_to : (F : Fixed) (view : View) (point : Point) → 0 < length view.wanted → SomeIsLeft point view.wanted → Fits F point view.lists view.others view.states
    → GoesOn F view (record view { point = point })
goes_to F view point some left fits = record { cmd = λ _. refl; next = record { some_wanted = λ _. some; left = left }; fits = fits }

-- the seat has done with its command
pub goes_idle : (F : Fixed) (view new : View) → new.point ≡ Idle → ViewFits F new → GoesOn F view new
goes_idle F view new e fits = record {
  fits = fits;
  cmd = λ busy. absurd (false≢true (ap (λ (p : Point). is_busy (stage_of p)) (sym e) ∙ busy));
  next = record {
    some_wanted = λ whole. absurd (false≢true (ap (λ (p : Point). is_whole (stage_of p)) (sym e) ∙ whole));
    left = subst (λ (p : Point). SomeIsLeft p new.wanted) (sym e) tt;
  };
}

pub left_sensing : (ids wanted : List ℕ) → SomeIsLeft (sensing ids) wanted
left_sensing [] wanted = tt
left_sensing (id ∷ ids) wanted = omega arith

pub left_visiting : (F : Fixed) (view : View) (plan wanted : List ℕ) → SomeIsLeft (visiting F view plan) wanted
left_visiting F view [] wanted = left_sensing (things_in F (region_in F view.cmd view.own)) wanted
left_visiting F view (node ∷ plan) wanted = elim (cases_Bool (is_leaf F node)) [ inl leaf ↦ rw leaf tt | inr inner ↦ rw inner tt ]

pub left_loading : (F : Fixed) (view : View) (node : ℕ) (players plan wanted : List ℕ) → SomeIsLeft (loading F view node players plan) wanted
left_loading F view node [] plan wanted = elim (cases_Bool (is_leaf F node)) [ inl leaf ↦ rw leaf (left_visiting F view plan wanted) | inr inner ↦ rw inner tt ]
left_loading F view node (slot ∷ players) plan wanted = tt

pub left_taking : (got rest wanted : List ℕ) → SomeIsLeft (taking got rest) wanted
left_taking got [] wanted = tt
left_taking got (leaf ∷ rest) wanted = tt

pub left_storing : (nodes : List ℕ) (stores : List Store) (wanted : List ℕ) → SomeIsLeft (storing nodes stores) wanted
left_storing nodes [] wanted = tt
left_storing nodes (store ∷ stores) wanted = tt

-- the one list has no more than the other
abbrev pub IsAmong : List ℕ → List ℕ → Type 0
IsAmong xs ys = (v : ℕ) → has xs v ≡ true → has ys v ≡ true

rest_among : (xs : List ℕ) → IsAmong (rest_of xs) xs
rest_among [] v there = there
rest_among (x ∷ xs) v there = or_right (x == v) (has xs v) there

pub goes_returning : (F : Fixed) (view : View) (leaves : List ℕ) → 0 < length view.wanted → IsAmong leaves view.wanted → ViewFits F view → GoesOn F view (returning view leaves)
goes_returning F view [] some among fits = goes_idle F view (returning view []) refl (fits_none F)
goes_returning F view (leaf ∷ leaves) some among fits =
    goes_to F view (Returning (leaf ∷ leaves)) some (record { some = omega arith; among = among }) (fits_last F view (Returning (leaf ∷ leaves)) fits (omega arith) (omega arith))

pub goes_returned : (F : Fixed) (view : View) (leaves : List ℕ) → 0 < length view.wanted → IsAmong leaves view.wanted → ViewFits F view → GoesOn F view (returning view (rest_of leaves))
goes_returned F view leaves some among fits = goes_returning F view (rest_of leaves) some (λ v there. among v (rest_among leaves v there)) fits

pub goes_released : (F : Fixed) (view : View) (nodes : List ℕ) → 0 < length view.wanted → ViewFits F view → GoesOn F view (released view nodes)
goes_released F view [] some fits = goes_returned F view view.wanted some (λ v there. there) fits
goes_released F view (node ∷ nodes) some fits = goes_to F view (Releasing nodes) some tt (fits_last F view (Releasing nodes) fits (omega arith) (omega arith))

pub goes_yielding : (F : Fixed) (view : View) (nodes leaves : List ℕ) → 0 < length view.wanted → IsAmong leaves view.wanted → ViewFits F view → GoesOn F view (yielding view nodes leaves)
goes_yielding F view [] [] some among fits = goes_idle F view (yielding view [] []) refl (fits_none F)
goes_yielding F view [] (leaf ∷ leaves) some among fits =
    goes_to F view (Yielding [] (leaf ∷ leaves)) some (record { some = omega arith; among = among }) (fits_last F view (Yielding [] (leaf ∷ leaves)) fits (omega arith) (omega arith))
goes_yielding F view (node ∷ nodes) leaves some among fits =
    goes_to F view (Yielding (node ∷ nodes) leaves) some (record { some = omega arith; among = among }) (fits_last F view (Yielding (node ∷ nodes) leaves) fits (omega arith) (omega arith))

pub goes_yielded : (F : Fixed) (view : View) (nodes leaves : List ℕ) → 0 < length view.wanted → IsAmong leaves view.wanted → ViewFits F view → GoesOn F view (yielded view nodes leaves)
goes_yielded F view [] leaves some among fits = goes_yielding F view [] (rest_of leaves) some (λ v there. among v (rest_among leaves v there)) fits
goes_yielded F view (node ∷ nodes) leaves some among fits = goes_yielding F view nodes leaves some among fits

-- ---- the other seats

record IsLeft (given : ℕ → Option Command) (i j : ℕ) (c : Command) : Type 0 where
  other : (j == i) ≡ false
  is : given j ≡ Some c

-- a command that is left to be begun is another seat's
given_left : (given : ℕ → Option Command) (i j : ℕ) (c : Command) → put i None given j ≡ Some c → IsLeft given i j c
given_left given i j c e =
    elim (cases_Bool (j == i)) [
      | inl same ↦ none_some (put i None given j) (cond-true (j == i) None (given j) same) e
      | inr other ↦ record { other = other; is = sym (put_other i j None given other) ∙ e }
    ]
  where
    none_some : (o : Option Command) → o ≡ None → o ≡ Some c → IsLeft given i j c
    none_some o none some = cc

-- the machine stands after a step of one seat
pub machine_on : (F : Fixed) (m : Machine) (history history' : List Item) (now now' : World) (i : ℕ) (words : Words) (new : View) → MachineStands F m history now
    → ((j : ℕ) (d : Command) → (j == i) ≡ false → m.given j ≡ Some d → is_busy (stage_of new.point) ≡ true → (d.slot == new.cmd.slot) ≡ false)
    → HasNext new.point new.wanted → ViewFits F new → Stands F (record { words = words; view = put i new m.core.view }) history' now'
    → MachineStands F (record { core = record { words = words; view = put i new m.core.view }; given = put i None m.given; quits = put i false m.quits }) history' now'
machine_on F m history history' now now' i words new is apart next fits stands = record {
  core = stands;
  pending = λ j c e.
      let left = given_left m.given i j c e in
      subst (λ (v : View). IsPending F v c) (sym (put_other i j new m.core.view left.other)) (is.pending j c left.is);
  given_apart = λ j k c d differ e f. is.given_apart j k c d differ (given_left m.given i j c e).is (given_left m.given i k d f).is;
  busy_apart = λ j k c differ e busy.
      let left = given_left m.given i j c e in
      each_put (λ (n : ℕ) (v : View). (j == n) ≡ false → is_busy (stage_of v.point) ≡ true → (c.slot == v.cmd.slot) ≡ false) i new m.core.view
      (λ _ b. apart j c left.other left.is b) (λ n _ other b. is.busy_apart j n c other left.is b) k differ busy;
  quits = λ j q. elim (cases_Bool (j == i)) [
    | inl same ↦ absurd (false≢true (sym (cond-true (j == i) false (m.quits j) same) ∙ q))
    | inr other ↦ subst (λ (v : View). is_taking v.point ≡ true) (sym (put_other i j new m.core.view other)) (is.quits j (sym (put_other i j false m.quits other) ∙ q))
  ];
  next = each_put (λ (n : ℕ) (v : View). HasNext v.point v.wanted) i new m.core.view next (λ n _. is.next n);
  fits = each_put (λ (n : ℕ) (v : View). ViewFits F v) i new m.core.view fits (λ n _. is.fits n);
}

-- the machine stands after a step of a seat with a command in view
pub busy_on : (F : Fixed) (m : Machine) (history history' : List Item) (now now' : World) (i : ℕ) (words : Words) (new : View) → MachineStands F m history now
    → is_busy (stage_of (m.core.view i).point) ≡ true → GoesOn F (m.core.view i) new → Stands F (record { words = words; view = put i new m.core.view }) history' now'
    → MachineStands F (record { core = record { words = words; view = put i new m.core.view }; given = put i None m.given; quits = put i false m.quits }) history' now'
busy_on F m history history' now now' i words new is busy goes stands =
    machine_on F m history history' now now' i words new is
    (λ j d other given still. subst (λ (c : Command). (d.slot == c.slot) ≡ false) (sym (goes.cmd still)) (is.busy_apart j i d other given busy)) goes.next goes.fits stands
