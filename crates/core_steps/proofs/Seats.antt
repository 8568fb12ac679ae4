-- Seats are made and ended, and counts are loaded.
use Rattle.std.proofs.Common.{◌≡◌, ℕ, suc, ◌<◌, ◌≤◌, Bool, true, false, List, [], ◌∷◌, ◌++◌, refl, sym, ap, ◌∙◌, subst, inl, inr, None, arith, append-nil}
use Rattle.std.specs.Prelude.{◌==◌, ◌||◌, if◌then◌else◌, All}
use Rattle.std.specs.List.{IsDistinct, AllByRecursion}
use Rattle.std.specs.List.Sorted.{IsPermutation}
use Rattle.std.proofs.lemmas.Bool.{cases_Bool, true≢false, eqb-true, eqb-false, eq-eqb, ne_eqb, or_parts, or_cases, or_left, or_right, or_from, cond-true, cond-false}
use Rattle.std.proofs.lemmas.List.Elements.{All-cons, All-weaker}
use Rattle.entity_recs.specs.Worlds.{World}
use Rattle.entity_recs.specs.Histories.{Item}
use Rattle.core_steps.specs.Cells.{Words, Cell, put}
use Rattle.core_steps.specs.Nodes.{Fixed}
use Rattle.core_steps.specs.Points.{Idle, stores_owed}
use Rattle.core_steps.specs.Reads.{View, Ended, new_view, spent}
use Rattle.core_steps.specs.Held.{holds}
use Rattle.core_steps.specs.Steps.{with_ended}
use Rattle.core_steps.specs.Stands.{IsLogWithin, ended_log, is_ended, log_of, items_below, items_of, IsNumbered, SeatStands, owed_at, is_storing_for}
use Rattle.core_steps.specs.Laws.{MadeSeatStands, EndedSeatStands, EndedSeatKeepsItems, LoadedCountStands}
use Rattle.core_steps.proofs.Puts.{each_put, put_same, put_other, kept_put, eqb_sym}
use Rattle.core_steps.proofs.Frames.{apart_put, items_same, stands_with_view}
use Rattle.core_steps.proofs.Resting.{rests, rest_apart}
use Rattle.core_steps.proofs.Starts.{empty_counted}

-- a log below a count is below a greater one
pub within_more : (count more room : ℕ) (log : List Item) → count ≤ more → IsLogWithin count room log → IsLogWithin more room log
within_more count more room log at_most is = record {
  rising = is.rising;
  below = All-weaker (λ (item : Item). item.entry.place < count) (λ (item : Item). item.entry.place < more) (λ item below. omega arith) log is.below;
  fits = is.fits;
}

-- a seat stands with another room for numbers
seat_with_numbers : (F : Fixed) (words : Words) (history : List Item) (now : World) (i : ℕ) (view : View) (made : ℕ) (ended : List Ended)
    → SeatStands F words history now i view → SeatStands F words history now i (record view { made = made; ended = ended })
seat_with_numbers F words history now i view made ended is = record {
  named = is.named;
  holding = is.holding;
  counted = is.counted;
  hand = is.hand;
  own = is.own;
  unread = is.unread;
  at = is.at;
  current = is.current;
  right = is.right;
  resolved = is.resolved;
  giving_up = is.giving_up;
  committed = is.committed;
}

-- ---- the count

pub loaded_count_stands : LoadedCountStands
loaded_count_stands F core history now i rest is =
    let seat = is.seats i in
    stands_with_view F core history now i (record (core.view i) { seen = core.words.commits }) is (record {
      lives = rest.lives;
      keeps = record { live = refl; log = refl; made = refl; ended = refl };
      seat = record {
        named = seat.named;
        holding = seat.holding;
        counted = record {
          within = within_more (core.view i).seen core.words.commits (core.view i).room (core.view i).log seat.counted.known seat.counted.within;
          known = omega arith;
          has_room = seat.counted.has_room;
        };
        hand = seat.hand;
        own = seat.own;
        unread = seat.unread;
        at = seat.at;
        current = seat.current;
        right = seat.right;
        resolved = seat.resolved;
        giving_up = seat.giving_up;
        committed = seat.committed;
      };
      same = λ node. refl;
      slots = λ j other. (is.apart i j (eqb_sym j i other)).slots;
      owes = refl;
      stores = λ p. refl;
    })

-- ---- a seat is made

-- a number that isn't ended has no ended log
no_ended_log : (ended : List Ended) (n : ℕ) → is_ended ended n ≡ false → ended_log ended n ≡ []
no_ended_log [] n none = refl
no_ended_log (e ∷ ended) n none =
    let parts = or_parts (e.number == n) (is_ended ended n) none in
    cond-false (e.number == n) e.log (ended_log ended n) parts.0 ∙ no_ended_log ended n parts.1

-- the next number was not given out
pub record IsFresh (view : ℕ → View) (n : ℕ) : Type 0 where
  pub spends : view n ≡ spent
  pub ended : is_ended (view 0).ended n ≡ false
  pub not_first : (n == 0) ≡ false

fresh_number : (view : ℕ → View) → IsNumbered view → IsFresh view (view 0).made
fresh_number view is =
    let made = (view 0).made in
    record {
      spends = elim (cases_Bool (view made).live) [
        | inl lives ↦ let below = is.live made lives in absurd (omega arith)
        | inr dead ↦ is.others made dead
      ];
      ended = elim (cases_Bool (is_ended (view 0).ended made)) [
        | inl ends ↦ let below = is.ended made ends in absurd (omega arith)
        | inr none ↦ none
      ];
      not_first = ne_eqb made 0 (λ zeroth. let below = is.live 0 is.first in omega arith);
    }

-- the views after a seat is made
abbrev with_made : (ℕ → View) → ℕ → ℕ → View
with_made view room = put (view 0).made (new_view room) (put 0 (record (view 0) { made = suc (view 0).made }) view)

-- what a new view has as a spent one, and seat 0 keeps, all seats keep
kept_made : {B : Type 0} (g : View → B) (view : ℕ → View) (room : ℕ) → IsFresh view (view 0).made → g (new_view room) ≡ g spent
    → g (record (view 0) { made = suc (view 0).made }) ≡ g (view 0) → (j : ℕ) → g (with_made view room j) ≡ g (view j)
kept_made {B} g view room fresh new first j =
    let made = (view 0).made in
    let inner = put 0 (record (view 0) { made = suc made }) view in
    let there : inner made ≡ spent = put_other 0 made (record (view 0) { made = suc made }) view fresh.not_first ∙ fresh.spends in
    kept_put g made (new_view room) inner (new ∙ ap g (sym there)) j ∙ kept_put g 0 (record (view 0) { made = suc made }) view first j

-- seat 0 after a seat is made
first_made : (view : ℕ → View) (room : ℕ) → IsFresh view (view 0).made → with_made view room 0 ≡ record (view 0) { made = suc (view 0).made }
first_made view room fresh =
    put_other (view 0).made 0 (new_view room) (put 0 (record (view 0) { made = suc (view 0).made }) view) (eqb_sym (view 0).made 0 fresh.not_first)

-- the logs after a seat is made
log_made : (view : ℕ → View) (room : ℕ) → IsNumbered view → (n : ℕ) → log_of (with_made view room) n ≡ log_of view n
log_made view room is n =
    let made = (view 0).made in
    let fresh = fresh_number view is in
    let log = kept_made (λ (v : View). v.log) view room fresh refl refl n in
    let ended = kept_made (λ (v : View). v.ended) view room fresh refl refl 0 in
    elim (cases_Bool (n == made)) [
      | inl e ↦
          let same : n ≡ made = eqb-true n made e in
          let none : log_of view made ≡ [] = rw fresh.spends (no_ended_log (view 0).ended made fresh.ended) in
          let new : log_of (with_made view room) made ≡ [] =
          ap (λ (v : View). if v.live then v.log else ended_log (with_made view room 0).ended made) (put_same made (new_view room) (put 0 (record (view 0) { made = suc made }) view)) in
          subst (λ (m : ℕ). log_of (with_made view room) m ≡ log_of view m) (sym same) (new ∙ sym none)
      | inr e ↦
          let live : (with_made view room n).live ≡ (view n).live =
          ap (λ (v : View). v.live) (put_other made n (new_view room) (put 0 (record (view 0) { made = suc made }) view) e)
          ∙ kept_put (λ (v : View). v.live) 0 (record (view 0) { made = suc made }) view refl n in
          rw (live, log, ended) refl
    ]

items_made : (view : ℕ → View) (room : ℕ) → IsNumbered view → items_of (with_made view room) ≡ items_of view
unfolding items_below
items_made view room is =
    let made = (view 0).made in
    let fresh = fresh_number view is in
    let first = first_made view room fresh in
    let more : items_of (with_made view room) ≡ items_below (suc made) (log_of (with_made view room)) =
    ap (λ (v : View). items_below v.made (log_of (with_made view room))) first in
    let same : items_below made (log_of (with_made view room)) ≡ items_of view = items_same made (log_of (with_made view room)) (log_of view) (log_made view room is) in
    let none : log_of (with_made view room) made ≡ [] =
    log_made view room is made ∙ rw fresh.spends (no_ended_log (view 0).ended made fresh.ended) in
    more ∙ ap (λ (items : List Item). items_below made (log_of (with_made view room)) ++ items) none ∙ append-nil _ ∙ same

numbered_made : (view : ℕ → View) (room : ℕ) → IsNumbered view → IsNumbered (with_made view room)
numbered_made view room is =
    let made = (view 0).made in
    let fresh = fresh_number view is in
    let first = first_made view room fresh in
    let count : (with_made view room 0).made ≡ suc made = ap (λ (v : View). v.made) first in
    let ended : (with_made view room 0).ended ≡ (view 0).ended = ap (λ (v : View). v.ended) first in
    let inner = put 0 (record (view 0) { made = suc made }) view in
    let lives : (n : ℕ) → (n == made) ≡ false → (with_made view room n).live ≡ (view n).live =
    λ n other. ap (λ (v : View). v.live) (put_other made n (new_view room) inner other) ∙ kept_put (λ (v : View). v.live) 0 (record (view 0) { made = suc made }) view refl n in
    record {
      first = ap (λ (v : View). v.live) first ∙ is.first;
      live = λ n living. rw count (elim (cases_Bool (n == made)) [
        | inl e ↦ let same = eqb-true n made e in omega arith
        | inr e ↦ let below = is.live n (sym (lives n e) ∙ living) in omega arith
      ]);
      ended = λ n ends. rw count (let below = is.ended n (ap (λ (es : List Ended). is_ended es n) (sym ended) ∙ ends) in omega arith);
      differ = λ n living. ap (λ (es : List Ended). is_ended es n) ended ∙ elim (cases_Bool (n == made)) [
        | inl e ↦ subst (λ (m : ℕ). is_ended (view 0).ended m ≡ false) (sym (eqb-true n made e)) fresh.ended
        | inr e ↦ is.differ n (sym (lives n e) ∙ living)
      ];
      once = rw ended is.once;
      all = λ n below. elim (cases_Bool (n == made)) [
        | inl e ↦ or_left _ _ (ap (λ (v : View). v.live) (cond-true (n == made) (new_view room) (inner n) e))
        | inr e ↦
            let smaller : n < suc made = rw count at below in
            let differs = eqb-false n made e in
            ap (λ (b : Bool). b || is_ended (with_made view room 0).ended n) (lives n e) ∙ ap (λ (es : List Ended). (view n).live || is_ended es n) ended
            ∙ is.all n (strictly n made smaller differs)
      ];
      others = each_put (λ (n : ℕ) (v : View). v.live ≡ false → v ≡ spent) made (new_view room) inner (λ dead. absurd (true≢false dead))
          (λ n _. each_put (λ (m : ℕ) (v : View). v.live ≡ false → v ≡ spent) 0 (record (view 0) { made = suc made }) view
          (λ dead. absurd (true≢false (sym is.first ∙ dead))) (λ m _. is.others m) n);
    }
  where
    strictly : (n m : ℕ) → n < suc m → (n ≡ m → ⊥) → n < m
    strictly n m below differs = omega arith

pub made_seat_stands : MadeSeatStands
made_seat_stands F core history now room rest is =
    let view = core.view in
    let made = (view 0).made in
    let first = record (view 0) { made = suc made } in
    let inner = put 0 first view in
    let fresh = fresh_number view is.numbers in
    let idle : (view 0).point ≡ Idle = rest.idle in
    record {
      tied = is.tied;
      legal = is.legal;
      given = is.given;
      count = is.count;
      items = subst (IsPermutation history) (sym (items_made view room is.numbers)) is.items;
      numbers = numbered_made view room is.numbers;
      ended = subst (All (λ (e : Ended). IsLogWithin core.words.commits e.room e.log)) (sym (ap (λ (v : View). v.ended) (first_made view room fresh))) is.ended;
      seats = each_put (λ (j : ℕ) (v : View). SeatStands F core.words history now j v) made (new_view room) inner
          (rests F core.words history now made (new_view room) (empty_counted core.words.commits room))
          (λ j _. each_put (λ (k : ℕ) (v : View). SeatStands F core.words history now k v) 0 first view
          (seat_with_numbers F core.words history now 0 (view 0) (suc made) (view 0).ended (is.seats 0)) (λ k _. is.seats k) j);
      apart = apart_put F inner made (new_view room)
          (apart_put F view 0 first is.apart (λ k other. let old = is.apart 0 k (eqb_sym k 0 other) in record { nodes = old.nodes; slots = old.slots; cells = old.cells }))
          (λ j _. rest_apart F (new_view room) (inner j));
      free = λ node none. is.free node (λ j. sym (kept_made (λ (v : View). holds F v.point v.wanted node) view room fresh refl refl j) ∙ none j);
      unowed = λ cell lives none. is.unowed cell lives (λ j. sym (kept_made (λ (v : View). owed_at (stores_owed v.point) cell) view room fresh refl refl j) ∙ none j);
      linked = λ p node lives none. is.linked p node lives (λ j. sym (kept_made (λ (v : View). is_storing_for v p) view room fresh refl refl j) ∙ none j);
      unlinked = is.unlinked;
      unused = is.unused;
    }

-- ---- a seat is ended

-- the views after a seat is ended
abbrev with_end : (ℕ → View) → ℕ → ℕ → View
with_end view i = put i spent (put 0 (with_ended i (view i) (view 0)) view)

-- what an ended view has as a spent one, and seat 0 keeps, all seats keep
kept_end : {B : Type 0} (g : View → B) (view : ℕ → View) (i : ℕ) → (i == 0) ≡ false → g spent ≡ g (view i)
    → g (with_ended i (view i) (view 0)) ≡ g (view 0) → (j : ℕ) → g (with_end view i j) ≡ g (view j)
kept_end {B} g view i not_first new first j =
    let zeroth = with_ended i (view i) (view 0) in
    let inner = put 0 zeroth view in
    kept_put g i spent inner (new ∙ ap g (sym (put_other 0 i zeroth view not_first))) j ∙ kept_put g 0 zeroth view first j

first_end : (view : ℕ → View) (i : ℕ) → (i == 0) ≡ false → with_end view i 0 ≡ with_ended i (view i) (view 0)
first_end view i not_first = put_other i 0 spent (put 0 (with_ended i (view i) (view 0)) view) (eqb_sym i 0 not_first)

lives_end : (view : ℕ → View) (i n : ℕ) → (n == i) ≡ false → (with_end view i n).live ≡ (view n).live
lives_end view i n other =
    ap (λ (v : View). v.live) (put_other i n spent (put 0 (with_ended i (view i) (view 0)) view) other)
    ∙ kept_put (λ (v : View). v.live) 0 (with_ended i (view i) (view 0)) view refl n

log_end : (view : ℕ → View) (i : ℕ) → (i == 0) ≡ false → (view i).live ≡ true → (n : ℕ) → log_of (with_end view i) n ≡ log_of view n
log_end view i not_first lives n =
    let zeroth = with_ended i (view i) (view 0) in
    let inner = put 0 zeroth view in
    let ended = ap (λ (v : View). v.ended) (first_end view i not_first) in
    elim (cases_Bool (n == i)) [
      | inl e ↦
          let same : n ≡ i = eqb-true n i e in
          let new : log_of (with_end view i) i ≡ (view i).log =
          ap (λ (v : View). if v.live then v.log else ended_log (with_end view i 0).ended i) (put_same i spent inner)
          ∙ ap (λ (es : List Ended). ended_log es i) ended ∙ cond-true (i == i) (view i).log (ended_log (view 0).ended i) (eq-eqb i i refl) in
          let old : log_of view i ≡ (view i).log = cond-true (view i).live (view i).log (ended_log (view 0).ended i) lives in
          subst (λ (m : ℕ). log_of (with_end view i) m ≡ log_of view m) (sym same) (new ∙ sym old)
      | inr e ↦
          let log : (with_end view i n).log ≡ (view n).log =
          ap (λ (v : View). v.log) (put_other i n spent inner e) ∙ kept_put (λ (v : View). v.log) 0 zeroth view refl n in
          let rest : ended_log (with_end view i 0).ended n ≡ ended_log (view 0).ended n =
          ap (λ (es : List Ended). ended_log es n) ended ∙ cond-false (i == n) (view i).log (ended_log (view 0).ended n) (eqb_sym n i e) in
          rw (lives_end view i n e, log, rest) refl
    ]

pub ended_seat_keeps_items : EndedSeatKeepsItems
ended_seat_keeps_items F core i not_first rest is =
    let view = core.view in
    ap (λ (v : View). items_below v.made (log_of (with_end view i))) (first_end view i not_first)
    ∙ items_same (view 0).made (log_of (with_end view i)) (log_of view) (log_end view i not_first rest.lives)

-- a number that wasn't ended differs from those that were
ended_differ : (n : ℕ) (ended : List Ended) → is_ended ended n ≡ false → (e : Ended) → e.number ≡ n → AllByRecursion (λ (other : Ended). (e.number == other.number) ≡ false) ended
ended_differ n [] none e same = tt
ended_differ n (x ∷ ended) none e same =
    let parts = or_parts (x.number == n) (is_ended ended n) none in
    (ne_eqb e.number x.number (λ both. eqb-false x.number n parts.0 (sym both ∙ same)), ended_differ n ended parts.1 e same)

numbered_end : (view : ℕ → View) (i : ℕ) → (i == 0) ≡ false → (view i).live ≡ true → IsNumbered view → IsNumbered (with_end view i)
unfolding IsDistinct
numbered_end view i not_first lives is =
    let zeroth = with_ended i (view i) (view 0) in
    let inner = put 0 zeroth view in
    let first = first_end view i not_first in
    let count : (with_end view i 0).made ≡ (view 0).made = ap (λ (v : View). v.made) first in
    let ended : (with_end view i 0).ended ≡ zeroth.ended = ap (λ (v : View). v.ended) first in
    let spends : (with_end view i i).live ≡ false = ap (λ (v : View). v.live) (put_same i spent inner) in
    let other : (n : ℕ) → (with_end view i n).live ≡ true → (n == i) ≡ false =
    λ n living. ne_eqb n i (λ same. true≢false (sym living ∙ subst (λ (m : ℕ). (with_end view i m).live ≡ false) (sym same) spends)) in
    record {
      first = ap (λ (v : View). v.live) first ∙ is.first;
      live = λ n living. rw count (is.live n (sym (lives_end view i n (other n living)) ∙ living));
      ended = λ n ends. rw count (elim (or_cases (i == n) (is_ended (view 0).ended n) (ap (λ (es : List Ended). is_ended es n) (sym ended) ∙ ends)) [
        | inl e ↦ subst (λ (m : ℕ). m < (view 0).made) (eqb-true i n e) (is.live i lives)
        | inr e ↦ is.ended n e
      ]);
      differ = λ n living. ap (λ (es : List Ended). is_ended es n) ended
          ∙ or_from (i == n) (is_ended (view 0).ended n) (eqb_sym n i (other n living)) (is.differ n (sym (lives_end view i n (other n living)) ∙ living));
      once = rw ended (ended_differ i (view 0).ended (is.differ i lives) (record { number = i; room = (view i).room; log = (view i).log }) refl, is.once);
      all = λ n below. ap (λ (es : List Ended). (with_end view i n).live || is_ended es n) ended ∙ elim (cases_Bool (n == i)) [
        | inl e ↦ or_right _ _ (or_left _ _ (eq-eqb i n (sym (eqb-true n i e))))
        | inr e ↦ elim (or_cases (view n).live (is_ended (view 0).ended n) (is.all n (rw count at below))) [
          | inl living ↦ or_left _ _ (lives_end view i n e ∙ living)
          | inr ends ↦ or_right _ _ (or_right (i == n) (is_ended (view 0).ended n) ends)
        ]
      ];
      others = each_put (λ (n : ℕ) (v : View). v.live ≡ false → v ≡ spent) i spent inner (λ _. refl)
          (λ n _. each_put (λ (m : ℕ) (v : View). v.live ≡ false → v ≡ spent) 0 zeroth view (λ dead. absurd (true≢false (sym is.first ∙ dead))) (λ m _. is.others m) n);
    }

pub ended_seat_stands : EndedSeatStands
ended_seat_stands F core history now i not_first rest first is =
    let view = core.view in
    let zeroth = with_ended i (view i) (view 0) in
    let inner = put 0 zeroth view in
    let idle : (view i).point ≡ Idle = rest.idle in
    let seat = is.seats i in
    let holds_nothing : (node : ℕ) → false ≡ holds F (view i).point (view i).wanted node = λ node. rw idle refl in
    let owes_nothing : (cell : Cell) → None ≡ owed_at (stores_owed (view i).point) cell = λ cell. rw idle refl in
    let stores_nothing : (p : ℕ) → false ≡ is_storing_for (view i) p = λ p. rw idle refl in
    record {
      tied = is.tied;
      legal = is.legal;
      given = is.given;
      count = is.count;
      items = subst (IsPermutation history) (sym (ended_seat_keeps_items F core i not_first rest is.numbers)) is.items;
      numbers = numbered_end view i not_first rest.lives is.numbers;
      ended = subst (All (λ (e : Ended). IsLogWithin core.words.commits e.room e.log)) (sym (ap (λ (v : View). v.ended) (first_end view i not_first)))
          (All-cons (λ (e : Ended). IsLogWithin core.words.commits e.room e.log) (record { number = i; room = (view i).room; log = (view i).log }) (view 0).ended
          (within_more (view i).seen core.words.commits (view i).room (view i).log seat.counted.known seat.counted.within) is.ended);
      seats = each_put (λ (j : ℕ) (v : View). SeatStands F core.words history now j v) i spent inner
          (rests F core.words history now i spent (empty_counted core.words.commits 0))
          (λ j _. each_put (λ (k : ℕ) (v : View). SeatStands F core.words history now k v) 0 zeroth view
          (seat_with_numbers F core.words history now 0 (view 0) (view 0).made zeroth.ended (is.seats 0)) (λ k _. is.seats k) j);
      apart = apart_put F inner i spent
          (apart_put F view 0 zeroth is.apart (λ k other. let old = is.apart 0 k (eqb_sym k 0 other) in record { nodes = old.nodes; slots = old.slots; cells = old.cells }))
          (λ j _. rest_apart F spent (inner j));
      free = λ node none. is.free node (λ j. sym (kept_end (λ (v : View). holds F v.point v.wanted node) view i not_first (holds_nothing node) refl j) ∙ none j);
      unowed = λ cell lives none. is.unowed cell lives (λ j. sym (kept_end (λ (v : View). owed_at (stores_owed v.point) cell) view i not_first (owes_nothing cell) refl j) ∙ none j);
      linked = λ p node lives none. is.linked p node lives (λ j. sym (kept_end (λ (v : View). is_storing_for v p) view i not_first (stores_nothing p) refl j) ∙ none j);
      unlinked = is.unlinked;
      unused = is.unused;
    }
