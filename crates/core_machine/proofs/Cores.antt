-- The machine that a core is, after one of its seats is changed.
use mathlib.Core.Path.{fun_ext}
use Rattle.std.proofs.Common.{◌≡◌, ℕ, ◌<◌, ◌≤◌, Bool, true, false, if◌then◌else◌, List, length, map, set, get_or, get_or-set_same, get_or-set_other, refl, sym, ap, ◌∙◌, subst, inl, inr, Option, Some, None}
use Rattle.std.specs.Prelude.{◌==◌, is_some}
use Rattle.std.specs.Option.{option_map}
use Rattle.std.proofs.lemmas.List.{map-set, get_or-map, get_or_past, length-map}
use Rattle.std.proofs.lemmas.Bool.{cases_Bool, cases_lt, cond-true, cond-false, eqb-true, eqb-false}
use Rattle.entity_recs.specs.declared.cmd.Cmd.{Cmd}
use Rattle.entity_recs.specs.declared.effect.Effect.{Effect}
use Rattle.entity_recs.specs.Commands.{Command, command_of}
use Rattle.entity_recs.specs.Worlds.{World}
use Rattle.entity_recs.specs.Histories.{Item}
use Rattle.core_steps.specs.Cells as cells
use Rattle.core_steps.specs.Cells.{put}
use Rattle.core_steps.specs.Nodes.{Fixed}
use Rattle.core_steps.specs.Points.{Point, Resolving}
use Rattle.core_steps.specs.Reads.{View, effect_loaded}
use Rattle.areanode.specs.Trees.{IsTreeDepth}
use Rattle.core_steps.specs.Steps.{Core, first_yield, is_taking}
use Rattle.core_steps.specs.Stands.{IsLawful, IsStart, start_words}
use Rattle.core_steps.specs.Machine.{Machine, Next, next_of, next_step_of, step_of, quitting, core_after, machine_after, word_of_next, MachineStands}
use Rattle.core_steps.specs.Calls.{Call, has_command, StandsSomehow, MayBeCalled, with_given, with_quitting, after_call}
use Rattle.core_steps.proofs.Nexts.{next_exists}
use Rattle.core_steps.proofs.Reached.{stands_called}
use Rattle.core_steps.proofs.Kept.{other_view}
use Rattle.core_machine.specs.declared.words.Words.{Words}
use Rattle.core_machine.specs.declared.seat.Seat.{Seat}
use Rattle.core_machine.specs.Tables.{words_in}
use Rattle.core_machine.specs.Seats.{view_of, given_of}
use Rattle.core_seats.specs.Shown.{RulesView}
use Rattle.core_seats.specs.Going.{view_found}
use Rattle.core_seats.specs.Nexts.{next_with}
use Rattle.core_seats.specs.Ready.{is_resolving, effect_due, IsReady}
use Rattle.core_machine.specs.Cores.{SeatView, CoreView, HasRooms, IsCore, seat_of, no_seat, machine_of}
use Rattle.core_seats.proofs.Changing.{view_here}
use Rattle.core_seats.proofs.Sounding.{sound_here}
use Rattle.core_machine.proofs.StepsMade.{due_at}

-- ---- functions with another value at one number

put_self : {A : Type 0} (i : ℕ) (f : ℕ → A) → put i (f i) f ≡ f
put_self i f = fun_ext (λ j. elim (cases_Bool (j == i)) [
  | inl same ↦ cond-true (j == i) (f i) (f j) same ∙ ap f (sym (eqb-true j i same))
  | inr other ↦ cond-false (j == i) (f i) (f j) other
])

put_field : {A B : Type 0} (g : A → B) (i : ℕ) (a : A) (f : ℕ → A) → (λ (j : ℕ). g (put i a f j)) ≡ put i (g a) (λ (j : ℕ). g (f j))
put_field g i a f = fun_ext (λ j. elim (cases_Bool (j == i)) [
  | inl same ↦ ap g (cond-true (j == i) a (f j) same) ∙ sym (cond-true (j == i) (g a) (g (f j)) same)
  | inr other ↦ ap g (cond-false (j == i) a (f j) other) ∙ sym (cond-false (j == i) (g a) (g (f j)) other)
])

seats_set : (seats : List SeatView) (i : ℕ) (x : SeatView) → i < length seats
    → (λ (j : ℕ). get_or (set seats i x) j no_seat) ≡ put i x (λ (j : ℕ). get_or seats j no_seat)
seats_set seats i x below = fun_ext (λ j. elim (cases_Bool (j == i)) [
  | inl same ↦
      subst (λ (k : ℕ). get_or (set seats i x) k no_seat ≡ x) (sym (eqb-true j i same)) (get_or-set_same seats i x no_seat below)
      ∙ sym (cond-true (j == i) x (get_or seats j no_seat) same)
  | inr other ↦ get_or-set_other seats i j x no_seat (eqb-false j i other) ∙ sym (cond-false (j == i) x (get_or seats j no_seat) other)
])

-- ---- machines by their parts

abbrev pub machine_with : cells.Words → (ℕ → View) → (ℕ → Option Command) → (ℕ → Bool) → Machine
machine_with words view given quits = record { core = record { words = words; view = view }; given = given; quits = quits }

pub same_machine : (a b : cells.Words) (v w : ℕ → View) (g h : ℕ → Option Command) (q r : ℕ → Bool) → a ≡ b → v ≡ w → g ≡ h → q ≡ r → machine_with a v g q ≡ machine_with b w h r
same_machine a b v w g h q r ab vw gh qr = rw (ab, vw, gh, qr) refl

-- the machine after the seat with number i became x, with these words
machine_set : {A : Type 0} (F : Fixed) (c : CoreView A) (words : Words) (i : ℕ) (x : SeatView) → i < length c.seats
    → machine_of F (record { rules = c.rules; words = words; seats = set c.seats i x })
    ≡ machine_with (words_in words (start_words F)) (put i x.view (machine_of F c).core.view) (put i x.given (machine_of F c).given) (put i x.quits (machine_of F c).quits)
machine_set F c words i x below =
    let f = λ (j : ℕ). get_or c.seats j no_seat in
    let e = seats_set c.seats i x below in
    same_machine _ _ _ _ _ _ _ _ refl
    (ap (λ (h : ℕ → SeatView). λ (j : ℕ). (h j).view) e ∙ put_field (λ (s : SeatView). s.view) i x f)
    (ap (λ (h : ℕ → SeatView). λ (j : ℕ). (h j).given) e ∙ put_field (λ (s : SeatView). s.given) i x f)
    (ap (λ (h : ℕ → SeatView). λ (j : ℕ). (h j).quits) e ∙ put_field (λ (s : SeatView). s.quits) i x f)

-- ---- calls, where n is the seat's number

-- a seat of a core of the code
pub seat_here : (seats : List Seat) (i : ℕ) (s : Seat) → i < length seats → s ≡ get_or seats i s → get_or (map seat_of seats) i no_seat ≡ seat_of s
seat_here seats i s below is = get_or-map seat_of seats i s no_seat below ∙ ap seat_of (sym is)

abbrev pub core_view : {A : Type 0} → RulesView A → Words → List Seat → CoreView A
core_view rules words seats = record { rules = rules; words = words; seats = map seat_of seats }

machine_seat : {A : Type 0} (F : Fixed) (rules : RulesView A) (words after : Words) (seats : List Seat) (i : ℕ) (new : Seat) → i < length seats
    → machine_of F (core_view rules after (set seats i new))
    ≡ machine_with (words_in after (start_words F)) (put i (seat_of new).view (machine_of F (core_view rules words seats)).core.view)
    (put i (seat_of new).given (machine_of F (core_view rules words seats)).given) (put i (seat_of new).quits (machine_of F (core_view rules words seats)).quits)
machine_seat F rules words after seats i new below =
    let inside : i < length (map seat_of seats) = rw (length-map seats seat_of) below in
    ap (λ (ss : List SeatView). machine_of F (record { rules = rules; words = after; seats = ss })) (map-set seat_of seats i new)
    ∙ machine_set F (core_view rules words seats) after i (seat_of new) inside

-- the machine after a command was given
pub given_machine : {A : Type 0} (F : Fixed) (rules : RulesView A) (words : Words) (seats : List Seat) (i n : ℕ) (s : Seat) (cmd : Cmd) → i ≡ n → i < length seats → s ≡ get_or seats i s
    → machine_of F (core_view rules words (set seats i (record s { given = Some cmd }))) ≡ with_given (machine_of F (core_view rules words seats)) n (command_of cmd)
given_machine F rules words seats i n s cmd number below is =
    let m = machine_of F (core_view rules words seats) in
    let here = seat_here seats i s below is in
    machine_seat F rules words words seats i (record s { given = Some cmd }) below
    ∙ same_machine _ _ _ _ _ _ _ _ refl
    (ap (λ (x : SeatView). put i x.view m.core.view) (sym here) ∙ put_self i m.core.view)
    (ap (λ (k : ℕ). put k (Some (command_of cmd)) m.given) number)
    (ap (λ (x : SeatView). put i x.quits m.quits) (sym here) ∙ put_self i m.quits)

-- the machine after a seat was asked to give up
pub quitting_machine : {A : Type 0} (F : Fixed) (rules : RulesView A) (words : Words) (seats : List Seat) (i n : ℕ) (s : Seat) → i ≡ n → i < length seats → s ≡ get_or seats i s
    → machine_of F (core_view rules words (set seats i (record s { quits = true }))) ≡ with_quitting (machine_of F (core_view rules words seats)) n
quitting_machine F rules words seats i n s number below is =
    let m = machine_of F (core_view rules words seats) in
    let here = seat_here seats i s below is in
    machine_seat F rules words words seats i (record s { quits = true }) below
    ∙ same_machine _ _ _ _ _ _ _ _ refl
    (ap (λ (x : SeatView). put i x.view m.core.view) (sym here) ∙ put_self i m.core.view)
    (ap (λ (x : SeatView). put i x.given m.given) (sym here) ∙ put_self i m.given)
    (ap (λ (k : ℕ). put k true m.quits) number)

view_after : (F : Fixed) (core : Core) (i : ℕ) (next : Next) (new : View) → new ≡ view_found F (core.view i) next (word_of_next core.words (core.view i) next)
    → put i new core.view ≡ (core_after F core i next).view
view_after F core i next new is = fun_ext (λ j. elim (cases_Bool (j == i)) [
  | inl same ↦ cond-true (j == i) new (core.view j) same ∙ is ∙ sym (view_here F core i next) ∙ ap (core_after F core i next).view (sym (eqb-true j i same))
  | inr other ↦ cond-false (j == i) new (core.view j) other ∙ sym (other_view F core i j next other)
])

-- the machine after a seat's step
pub stepped_machine : {A : Type 0} (F : Fixed) (rules : RulesView A) (words after : Words) (seats : List Seat) (i : ℕ) (new : Seat) (next : Next) → i < length seats
    → words_in after (start_words F) ≡ (core_after F (machine_of F (core_view rules words seats)).core i next).words
    → (seat_of new).view ≡ view_found F ((machine_of F (core_view rules words seats)).core.view i) next
    (word_of_next (machine_of F (core_view rules words seats)).core.words ((machine_of F (core_view rules words seats)).core.view i) next)
    → (seat_of new).given ≡ None → (seat_of new).quits ≡ false
    → machine_of F (core_view rules after (set seats i new)) ≡ machine_after F (machine_of F (core_view rules words seats)) i next
stepped_machine F rules words after seats i new next below made view given quits =
    let m = machine_of F (core_view rules words seats) in
    machine_seat F rules words after seats i new below
    ∙ same_machine _ _ _ _ _ _ _ _ made (view_after F m.core i next (seat_of new).view view)
    (ap (λ (g : Option Command). put i g m.given) given)
    (ap (λ (q : Bool). put i q m.quits) quits)

-- ---- what comes next

-- with the effect that is due a seat goes on as in the machine
pub next_due : (F : Fixed) (m : Machine) (i : ℕ) → next_with F (m.core.view i) (m.given i) (m.quits i) (effect_due F (m.core.view i)) ≡ next_of F m i
next_due F m i =
    let view = m.core.view i in
    ap (λ (o : Option Next). if m.quits i then Some (quitting (first_yield F view)) else o) (due_at F view (m.given i) view.point)

due_is : (F : Fixed) (view : View) (point : Point) (e : Effect) → point ≡ Resolving → (if is_resolving point then Some (effect_loaded F view) else None) ≡ Some e → e ≡ effect_loaded F view
due_is F view point e at is =
    let same : Some (effect_loaded F view) ≡ Some e = rw at at is in
    cc

-- each seat of a machine that stands may make its next step
pub ready_here : (F : Fixed) (m : Machine) (history : List Item) (now : World) (i : ℕ) → IsLawful F → IsStart F → IsTreeDepth F.tree.depth → MachineStands F m history now
    → IsReady F (m.core.view i) (m.given i) (m.quits i) (effect_due F (m.core.view i))
ready_here F m history now i lawful start depth is = record {
  sound = sound_here F m history now i lawful start is depth;
  pending = is.pending i;
  taking = is.quits i;
  due = λ e at due. due_is F (m.core.view i) (m.core.view i).point e at due;
}

pub some_mapped : {A B : Type 0} (f : A → B) (o : Option A) → is_some (option_map f o) ≡ is_some o
some_mapped f None = refl
some_mapped f (Some a) = refl

-- ---- what a core keeps

false_is_true : {R : Type 0} → false ≡ true → R
false_is_true e = cc

-- a seat that lives is one of the list
pub live_below : (seats : List Seat) (i n : ℕ) → i ≡ n → (get_or (map seat_of seats) n no_seat).view.live ≡ true → i < length seats
live_below seats i n number lives = elim (cases_lt i (length seats)) [
  | inl below ↦ below
  | inr past ↦
      let beyond : length (map seat_of seats) ≤ n = rw (length-map seats seat_of, ← number) past in
      false_is_true (sym (ap (λ (s : SeatView). s.view.live) (get_or_past (map seat_of seats) n no_seat beyond)) ∙ lives)
]

-- a seat that takes a node next is one of the list
pub taking_below : (seats : List Seat) (i n : ℕ) → i ≡ n → is_taking (get_or (map seat_of seats) n no_seat).view.point ≡ true → i < length seats
taking_below seats i n number takes = elim (cases_lt i (length seats)) [
  | inl below ↦ below
  | inr past ↦
      let beyond : length (map seat_of seats) ≤ n = rw (length-map seats seat_of, ← number) past in
      false_is_true (sym (ap (λ (s : SeatView). is_taking s.view.point) (get_or_past (map seat_of seats) n no_seat beyond)) ∙ takes)
]

-- a core after a call that leaves the views
pub core_called : {A : Type 0} (F : Fixed) (old new : CoreView A) (call : Call) → IsCore F old → MayBeCalled F (machine_of F old) call
    → machine_of F new ≡ after_call F (machine_of F old) call → HasRooms (after_call F (machine_of F old) call).core.view → IsCore F new
core_called F old new call is may same rooms = record {
  lawful = is.lawful;
  ruled = is.ruled;
  stands = subst (StandsSomehow F) (sym same) (stands_called F (machine_of F old) call is.lawful is.ruled.start may is.stands);
  rooms = subst (λ (m : Machine). HasRooms m.core.view) (sym same) rooms;
}

pub number_below : (seats : List Seat) (i n : ℕ) → i ≡ n → n < length (map seat_of seats) → i < length seats
number_below seats i n number below = rw number (rw (length-map seats seat_of) at below)

pub seat_numbered : (seats : List Seat) (i n : ℕ) (s : Seat) → i ≡ n → i < length seats → s ≡ get_or seats i s → get_or (map seat_of seats) n no_seat ≡ seat_of s
seat_numbered seats i n s number below is = ap (λ (k : ℕ). get_or (map seat_of seats) k no_seat) (sym number) ∙ seat_here seats i s below is

-- a seat of a core may make its next step
pub seat_ready : {A : Type 0} (F : Fixed) (rules : RulesView A) (words : Words) (seats : List Seat) (i n : ℕ) (s : Seat) → i ≡ n → i < length seats → s ≡ get_or seats i s
    → IsCore F (core_view rules words seats) → IsReady F (view_of s) (given_of s) s.quits (effect_due F (view_of s))
seat_ready F rules words seats i n s number below is core =
    subst (λ (x : SeatView). IsReady F x.view x.given x.quits (effect_due F x.view)) (seat_numbered seats i n s number below is)
    (ready_here F (machine_of F (core_view rules words seats)) core.stands.history core.stands.now n core.lawful core.ruled.start core.ruled.depth core.stands.stands)

-- the next step of a seat of a core, where this effect is due
pub seat_step : {A : Type 0} (F : Fixed) (rules : RulesView A) (words : Words) (seats : List Seat) (i n : ℕ) (s : Seat) (effect : Option Effect) → i ≡ n → i < length seats → s ≡ get_or seats i s
    → effect ≡ effect_due F (view_of s)
    → option_map (step_of n (view_of s)) (next_with F (view_of s) (given_of s) s.quits effect) ≡ next_step_of F (machine_of F (core_view rules words seats)) n
seat_step F rules words seats i n s effect number below is due =
    let m = machine_of F (core_view rules words seats) in
    ap (λ (e : Option Effect). option_map (step_of n (view_of s)) (next_with F (view_of s) (given_of s) s.quits e)) due
    ∙ subst (λ (x : SeatView). option_map (step_of n x.view) (next_with F x.view x.given x.quits (effect_due F x.view)) ≡ next_step_of F m n) (seat_numbered seats i n s number below is)
    (ap (option_map (step_of n (m.core.view n))) (next_due F m n))

-- a seat has a next step where it has a command in hand
pub step_exists : {A : Type 0} (F : Fixed) (c : CoreView A) (n : ℕ) → IsCore F c → is_some (next_step_of F (machine_of F c) n) ≡ has_command (machine_of F c) n
step_exists F c n core =
    let m = machine_of F c in
    some_mapped (step_of n (m.core.view n)) (next_of F m n) ∙ next_exists F m core.stands.history core.stands.now n core.stands.stands
