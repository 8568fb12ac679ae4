-- The seats at the start are those of the machine.
use mathlib.Core.Path.{fun_ext}
use Rattle.std.proofs.Common.{◌≡◌, ℕ, zero, suc, ◌+◌, ◌-◌, ◌^◌, ◌<◌, ◌≤◌, true, false, List, [], ◌∷◌, ◌++◌, length, map, take, drop, get_or, refl, sym, ap, ◌∙◌, subst, inl, inr, None, arith, append_assoc, append-nil, length-append}
use Rattle.core_steps.specs.declared.sizes.TheConstants.{MOST_SEATS}
use Rattle.entity_recs.specs.declared.limits.TheConstants.{IDS}
use Rattle.std.specs.Prelude.{◌==◌}
use Rattle.std.proofs.lemmas.List.{map_more, map-append}
use Rattle.std.proofs.Math.Seq.{take-length}
use Rattle.std.proofs.lemmas.Bool.{cases_Bool, cond-true, cond-false, eqb-true, eqb-false, ne_eqb, eq-eqb}
use Rattle.core_steps.specs.Cells.{put}
use Rattle.core_steps.specs.Nodes.{Fixed}
use Rattle.core_steps.specs.Reads.{View, new_view, spent}
use Rattle.core_steps.specs.Steps.{Core, make_seat}
use Rattle.core_steps.specs.Stands.{IsLawful, start_words, start_core}
use Rattle.core_steps.specs.Calls.{StandsSomehow, with_seats, start_machine}
use Rattle.core_steps.proofs.Reached.{machine_start_stands}
use Rattle.core_machine.specs.declared.words.Words.{Words}
use Rattle.core_machine.specs.declared.seat.Seat.{Seat}
use Rattle.core_machine.specs.Tables.{words_in}
use Rattle.core_machine.specs.Seats.{IsFresh}
use Rattle.core_seats.specs.Shown.{RulesView, IsRuled}
use Rattle.core_machine.specs.Cores.{SeatView, HasRooms, IsCore, seat_of, no_seat, machine_of, fresh_seat, start_seats}
use Rattle.core_steps.proofs.Puts.{put_same, put_other}
use Rattle.core_machine.proofs.Cores.{same_machine}

-- a new seat of the code
pub fresh_is : (room made : ℕ) (s : Seat) → IsFresh room made IDS s → seat_of s ≡ fresh_seat room made
fresh_is room made s is = rw (is.view, is.given, is.quits) refl

-- another seat at the start
abbrev pub more_seat : ℕ → SeatView
more_seat room = fresh_seat room 0

-- the first seat and others
abbrev pub seats_with : ℕ → List ℕ → List SeatView
seats_with room rooms = fresh_seat room (suc (length rooms)) ∷ map more_seat rooms

abbrev pub views_of : List SeatView → ℕ → View
views_of seats i = (get_or seats i no_seat).view

-- ---- one seat more

more_here : (rooms : List ℕ) (room j : ℕ) → (j == length rooms) ≡ true → views_of (map more_seat (rooms ++ room ∷ [])) j ≡ new_view room
more_here [] room zero e = refl
more_here [] room (suc j) e = absurd (no_zero (eqb-true (suc j) 0 e))
  where
    no_zero : suc j ≡ 0 → ⊥
    no_zero e = omega arith
more_here (r ∷ rooms) room zero e = absurd (no_zero (eqb-true 0 (suc (length rooms)) e))
  where
    no_zero : 0 ≡ suc (length rooms) → ⊥
    no_zero e = omega arith
more_here (r ∷ rooms) room (suc j) e = more_here rooms room j (eq-eqb j (length rooms) (less (eqb-true (suc j) (suc (length rooms)) e)))
  where
    less : suc j ≡ suc (length rooms) → j ≡ length rooms
    less e = omega arith

more_there : (rooms : List ℕ) (room j : ℕ) → (j ≡ length rooms → ⊥) → views_of (map more_seat (rooms ++ room ∷ [])) j ≡ views_of (map more_seat rooms) j
more_there [] room zero other = absurd (other refl)
more_there [] room (suc j) other = refl
more_there (r ∷ rooms) room zero other = refl
more_there (r ∷ rooms) room (suc j) other = more_there rooms room j (λ e. other (ap suc e))

less_suc : (a b : ℕ) → suc a ≡ suc b → a ≡ b
less_suc a b e = omega arith

zero_suc : {R : Type 0} (a : ℕ) → 0 ≡ suc a → R
zero_suc a e = absurd (omega arith)

made_at : (first room : ℕ) (rooms : List ℕ) (j : ℕ) → put (suc (length rooms)) (new_view room) (put 0 (record (new_view first) { made = suc (suc (length rooms)) }) (views_of (seats_with first rooms))) j
    ≡ views_of (seats_with first (rooms ++ room ∷ [])) j
made_at first room rooms zero =
    let grown = record (new_view first) { made = suc (suc (length rooms)) } in
    let views = views_of (seats_with first rooms) in
    put_other (suc (length rooms)) 0 (new_view room) (put 0 grown views) (ne_eqb 0 (suc (length rooms)) (λ e. zero_suc (length rooms) e))
    ∙ put_same 0 grown views
    ∙ ap (λ (n : ℕ). record (new_view first) { made = suc n }) (rw (length-append rooms (room ∷ [])) (omega arith))
made_at first room rooms (suc j) =
    let grown = record (new_view first) { made = suc (suc (length rooms)) } in
    let views = views_of (seats_with first rooms) in
    elim (cases_Bool (suc j == suc (length rooms))) [
      | inl same ↦
          cond-true (suc j == suc (length rooms)) (new_view room) (put 0 grown views (suc j)) same
          ∙ sym (more_here rooms room j (eq-eqb j (length rooms) (less_suc j (length rooms) (eqb-true (suc j) (suc (length rooms)) same))))
      | inr other ↦
          put_other (suc (length rooms)) (suc j) (new_view room) (put 0 grown views) other
          ∙ put_other 0 (suc j) grown views (ne_eqb (suc j) 0 (λ e. zero_suc j (sym e)))
          ∙ sym (more_there rooms room j (λ e. eqb-false (suc j) (suc (length rooms)) other (ap suc e)))
    ]

made_views : (core : Core) (first room : ℕ) (rooms : List ℕ) → core.view ≡ views_of (seats_with first rooms) → (make_seat core room).view ≡ views_of (seats_with first (rooms ++ room ∷ []))
made_views core first room rooms is =
    ap (λ (v : ℕ → View). put (v 0).made (new_view room) (put 0 (record (v 0) { made = suc (v 0).made }) v)) is ∙ fun_ext (made_at first room rooms)

all_views : (core : Core) (first : ℕ) (rooms more : List ℕ) → core.view ≡ views_of (seats_with first rooms) → (with_seats core more).view ≡ views_of (seats_with first (rooms ++ more))
all_views core first rooms [] is = is ∙ ap (λ (rs : List ℕ). views_of (seats_with first rs)) (sym (append-nil rooms))
all_views core first rooms (room ∷ more) is =
    all_views (make_seat core room) first (rooms ++ room ∷ []) more (made_views core first room rooms is)
    ∙ ap (λ (rs : List ℕ). views_of (seats_with first rs)) (append_assoc rooms (room ∷ []) more)

all_words : (core : Core) (more : List ℕ) → (with_seats core more).words ≡ core.words
all_words core [] = refl
all_words core (room ∷ more) = all_words (make_seat core room) more

first_at : (F : Fixed) (first j : ℕ) → (start_core F first).view j ≡ views_of (seats_with first []) j
first_at F first zero = cond-true (0 == 0) (record (new_view first) { made = 1 }) spent (eq-eqb 0 0 refl)
first_at F first (suc j) = cond-false (suc j == 0) (record (new_view first) { made = 1 }) spent (ne_eqb (suc j) 0 (λ e. zero_suc j (sym e)))

-- the views of the seats at the start
pub start_views : (F : Fixed) (first : ℕ) (rooms : List ℕ) → (with_seats (start_core F first) rooms).view ≡ views_of (seats_with first rooms)
start_views F first rooms = all_views (start_core F first) first [] rooms (fun_ext (first_at F first))

-- ---- the whole machine

none_given : (rooms : List ℕ) (j : ℕ) → (get_or (map more_seat rooms) j no_seat).given ≡ None
none_given [] j = refl
none_given (room ∷ rooms) zero = refl
none_given (room ∷ rooms) (suc j) = none_given rooms j

none_quits : (rooms : List ℕ) (j : ℕ) → (get_or (map more_seat rooms) j no_seat).quits ≡ false
none_quits [] j = refl
none_quits (room ∷ rooms) zero = refl
none_quits (room ∷ rooms) (suc j) = none_quits rooms j

given_at : (first : ℕ) (rooms : List ℕ) (j : ℕ) → (get_or (seats_with first rooms) j no_seat).given ≡ None
given_at first rooms zero = refl
given_at first rooms (suc j) = none_given rooms j

quits_at : (first : ℕ) (rooms : List ℕ) (j : ℕ) → (get_or (seats_with first rooms) j no_seat).quits ≡ false
quits_at first rooms zero = refl
quits_at first rooms (suc j) = none_quits rooms j

-- the machine of a core at the start
pub start_is : {A : Type 0} (F : Fixed) (rules : RulesView A) (words : Words) (first : ℕ) (rooms : List ℕ) → words_in words (start_words F) ≡ start_words F
    → machine_of F (record { rules = rules; words = words; seats = seats_with first rooms }) ≡ start_machine F first rooms
start_is F rules words first rooms is =
    same_machine _ _ _ _ _ _ _ _ (is ∙ sym (all_words (start_core F first) rooms))
    (sym (start_views F first rooms))
    (fun_ext (given_at first rooms))
    (fun_ext (quits_at first rooms))

-- ---- rooms

rooms_small : (rooms : List ℕ) → ((k : ℕ) → k < length rooms → get_or rooms k 0 < 2 ^ 32) → (j : ℕ) → (views_of (map more_seat rooms) j).room < 2 ^ 32
rooms_small [] small j = omega arith
rooms_small (room ∷ rooms) small zero = small 0 (omega arith)
rooms_small (room ∷ rooms) small (suc j) = rooms_small rooms (λ k below. small (suc k) (omega arith)) j

rooms_at : (first : ℕ) (rooms : List ℕ) → ((k : ℕ) → k < length (first ∷ rooms) → get_or (first ∷ rooms) k 0 < 2 ^ 32) → (j : ℕ) → (views_of (seats_with first rooms) j).room < 2 ^ 32
rooms_at first rooms small zero = small 0 (omega arith)
rooms_at first rooms small (suc j) = rooms_small rooms (λ k below. small (suc k) (omega arith)) j

pub start_rooms : {A : Type 0} (F : Fixed) (rules : RulesView A) (words : Words) (first : ℕ) (rooms : List ℕ) → length (first ∷ rooms) ≤ MOST_SEATS → ((k : ℕ) → k < length (first ∷ rooms) → get_or (first ∷ rooms) k 0 < 2 ^ 32)
    → HasRooms (machine_of F (record { rules = rules; words = words; seats = seats_with first rooms })).core.view
start_rooms F rules words first rooms few small = record { made = few; ended = refl; room = rooms_at first rooms small }

-- ---- the seats of the code

-- one seat more was made, for the i-th room
pub seat_more : (seats before : List Seat) (s : Seat) (rooms : List ℕ) (i : ℕ) → i < length rooms → IsFresh (get_or rooms i 0) 0 IDS s
    → map seat_of seats ≡ map seat_of before ++ map more_seat (take i rooms) → map seat_of (seats ++ s ∷ []) ≡ map seat_of before ++ map more_seat (take (i + 1) rooms)
seat_more seats before s rooms i below fresh so_far =
    map-append seat_of seats (s ∷ [])
    ∙ ap (λ (xs : List SeatView). xs ++ seat_of s ∷ []) so_far
    ∙ append_assoc (map seat_of before) (map more_seat (take i rooms)) (seat_of s ∷ [])
    ∙ ap (λ (xs : List SeatView). map seat_of before ++ xs)
    (ap (λ (x : SeatView). map more_seat (take i rooms) ++ x ∷ []) (fresh_is (get_or rooms i 0) 0 s fresh) ∙ sym (map_more more_seat rooms i 0 below))

-- the first seat and the others are those at the start
pub start_of : (seats one : List Seat) (s : Seat) (room : List ℕ) → 0 < length room → IsFresh (get_or room 0 0) (length room) IDS s → one ≡ s ∷ []
    → map seat_of seats ≡ map seat_of one ++ map more_seat (take (length room - 1) (drop 1 room)) → map seat_of seats ≡ start_seats room
start_of seats one s [] some fresh is all = absurd (omega arith)
start_of seats one s (first ∷ others) some fresh is all =
    let less : suc (length others) - 1 ≡ length others = omega arith in
    let rest : take (suc (length others) - 1) others ≡ others = ap (λ (n : ℕ). take n others) less ∙ take-length others in
    all ∙ ap (λ (xs : List Seat). map seat_of xs ++ map more_seat (take (suc (length others) - 1) others)) is
    ∙ ap (λ (xs : List ℕ). seat_of s ∷ map more_seat xs) rest
    ∙ ap (λ (x : SeatView). x ∷ map more_seat others) (fresh_is first (suc (length others)) s fresh)

-- a core at the start is one
pub start_core_is : {A : Type 0} (F : Fixed) (rules : RulesView A) (words : Words) (seats : List SeatView) (room : List ℕ) → IsLawful F → IsRuled F → words_in words (start_words F) ≡ start_words F → 0 < length room
    → length room ≤ MOST_SEATS → ((k : ℕ) → get_or room k 0 < 2 ^ 32) → seats ≡ start_seats room → IsCore F (record { rules = rules; words = words; seats = seats })
start_core_is F rules words seats [] lawful ruled laid some few small is = absurd (omega arith)
start_core_is F rules words seats (first ∷ others) lawful ruled laid some few small is =
    subst (λ (ss : List SeatView). IsCore F (record { rules = rules; words = words; seats = ss })) (sym is) (record {
      lawful = lawful;
      ruled = ruled;
      stands = subst (StandsSomehow F) (sym (start_is F rules words first others laid))
          (record { history = []; now = F.start; stands = machine_start_stands F first others });
      rooms = start_rooms F rules words first others few (λ k _. small k);
    })
