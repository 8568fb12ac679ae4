-- A seat's next step, made on a word of the table.
use Rattle.std.proofs.Common.{◌≡◌, ℕ, ◌+◌, ◌^◌, ◌<◌, Bool, true, false, refl, sym, ap, ◌∙◌, subst, Option, Some, None, is_some}
use Rattle.std.specs.Prelude.{if◌then◌else◌}
use Rattle.std.specs.Option.{option_map}
use Rattle.entity_recs.specs.declared.effect.Effect.{Effect}
use Rattle.entity_recs.specs.Commands.{Command, command_of}
use Rattle.core_steps.specs.declared.step.Step.{Step}
use Rattle.core_steps.specs.declared.step.StepKind.{StepKind}
use Rattle.core_steps.specs.declared.step.StepKind.TheVariants.{Commit}
use Rattle.core_steps.specs.declared.sizes.TheConstants.{TABLE_WORDS}
use Rattle.core_steps.specs.Cells.{Words, word_at}
use Rattle.core_steps.specs.Nodes.{Fixed}
use Rattle.core_steps.specs.Points.{stage_of, Point, Idle, Owning, Taking, Checking, Entering, Entered, Loading}
use Rattle.core_steps.specs.Points.{Leaving, Sensing, Resolving, Claiming, Storing, Releasing, Returning, Yielding}
use Rattle.core_steps.specs.Reads.{View, effect_loaded}
use Rattle.core_steps.specs.Steps.{first_yield}
use Rattle.core_steps.specs.Machine.{Next, next_at, quitting, step_of, index_of, kind_of, word_of_next}
use Rattle.core_steps.proofs.Storing.{storing_busy}
use Rattle.core_machine.specs.declared.seat.Seat.{Seat}
use Rattle.core_machine.specs.Tables.{with_word_at}
use Rattle.core_machine.specs.Seats.{view_of, given_of}
use Rattle.core_seats.specs.Going.{view_found, word_left}
use Rattle.core_seats.specs.Nexts.{next_point, next_with, the_next}
use Rattle.core_seats.specs.Sound.{IsSound}
use Rattle.core_seats.specs.Ready.{is_resolving, effect_due}
use Rattle.core_machine.proofs.Rooms.{command_at, wanted_in, wanted_few}
use Rattle.core_machine.specs.Cores.{seat_of}
use Rattle.core_machine.specs.WordsLeft.{IsNodeWord, MayLeave, word_by_kind}
use Rattle.core_machine.proofs.Lefts.{the_next_is_by_kind}
use Rattle.core_machine.specs.Stepping.{seat_next, is_done, IsOnWord, IsStepped}

-- the index of the step's word
pub index_is : (view : View) (next : Next) (s : Step) (index : ℕ) → step_of s.seat view next ≡ s → index ≡ s.word → index ≡ index_of view next
index_is view next s index same at = at ∙ sym (ap (λ (t : Step). t.word) same)

-- what is found there is the step's word
pub found_is : (F : Fixed) (words : Words) (view : View) (next : Next) (index found : ℕ) → IsOnWord F words view next → index ≡ index_of view next → found ≡ word_at words index
    → found ≡ word_of_next words view next
found_is F words view next index found on at is = is ∙ ap (word_at words) at ∙ on.found

pub index_in_table : (F : Fixed) (words : Words) (view : View) (next : Next) (index : ℕ) → IsOnWord F words view next → index ≡ index_of view next → index < TABLE_WORDS
index_in_table F words view next index on at = rw at on.in_table

pub count_fits : (F : Fixed) (words : Words) (view : View) (next : Next) (found : ℕ) → IsOnWord F words view next → found ≡ word_of_next words view next → kind_of next ≡ Commit → found + 1 < 2 ^ 64
count_fits F words view next found on is commits = subst (λ (n : ℕ). n + 1 < 2 ^ 64) (sym is) (on.count commits)

pub sound_after : (F : Fixed) (words : Words) (view : View) (next : Next) (found : ℕ) → IsOnWord F words view next → found ≡ word_of_next words view next → IsSound F (view_found F view next found)
sound_after F words view next found on is = subst (λ (n : ℕ). IsSound F (view_found F view next n)) (sym is) on.after

-- what the step's word is to become can be told
pub may_leave : (F : Fixed) (words : Words) (view : View) (given : Option Command) (effect : Option Effect) (quits : Bool) (s : Step) (found : ℕ) → IsSound F view
    → is_some (next_with F view given quits effect) ≡ true → IsOnWord F words view (the_next (next_with F view given quits effect))
    → step_of s.seat view (the_next (next_with F view given quits effect)) ≡ s
    → found ≡ word_of_next words view (the_next (next_with F view given quits effect)) → MayLeave F view s.kind s.word found
may_leave F words view given effect quits s found sound some on same is =
    let next = the_next (next_with F view given quits effect) in
    let kind : kind_of next ≡ s.kind = ap (λ (t : Step). t.kind) same in
    let word : s.word ≡ index_of view next = index_is view next s s.word same refl in
    let left = the_next_is_by_kind F s.seat view given effect found quits some in
    record {
      take = λ takes. record {
        node = subst IsNodeWord (sym word) (on.node (kind ∙ takes));
        wanted = wanted_in F view sound view.point refl (left.whole (kind ∙ takes));
        few = wanted_few F view sound view.point refl (left.whole (kind ∙ takes));
      };
      count = λ commits. count_fits F words view next found on is (kind ∙ commits);
      hand = λ storing. command_at F view sound view.point refl (storing_busy (stage_of view.point) storing);
    }

-- the word that is left by the step's kind is the one of what comes next
pub left_is : (F : Fixed) (view : View) (given : Option Command) (effect : Option Effect) (quits : Bool) (s : Step) (found left : ℕ) → IsSound F view
    → is_some (next_with F view given quits effect) ≡ true → step_of s.seat view (the_next (next_with F view given quits effect)) ≡ s
    → left ≡ word_by_kind F s.seat view s.kind s.word found → left ≡ word_left F s.seat view (the_next (next_with F view given quits effect)) found
left_is F view given effect quits s found left sound some same is =
    let next = the_next (next_with F view given quits effect) in
    let kind : kind_of next ≡ s.kind = ap (λ (t : Step). t.kind) same in
    let word : s.word ≡ index_of view next = index_is view next s s.word same refl in
    is ∙ ap (λ (k : StepKind). word_by_kind F s.seat view k s.word found) (sym kind)
    ∙ ap (λ (w : ℕ). word_by_kind F s.seat view (kind_of next) w found) word
    ∙ sym (the_next_is_by_kind F s.seat view given effect found quits some).word

pub stepped : (F : Fixed) (s : Step) (words after : Words) (view : View) (new : Seat) (next : Next) (index found left : ℕ) (answer : Bool) → step_of s.seat view next ≡ s
    → index ≡ index_of view next → found ≡ word_of_next words view next
    → left ≡ word_left F s.seat view next found → after ≡ with_word_at words index left
    → view_of new ≡ view_found F view next found → new.given ≡ None → new.quits ≡ false → answer ≡ is_done s.kind found
    → IsStepped F s.seat words after view (seat_of new) next answer
stepped F s words after view new next index found left answer same at is leaves made seen given quits done = record {
  words = made ∙ ap (λ (n : ℕ). with_word_at words n left) at
      ∙ ap (with_word_at words (index_of view next)) (leaves ∙ ap (word_left F s.seat view next) is);
  view = seen ∙ ap (view_found F view next) is;
  given = ap (option_map command_of) given;
  quits = quits;
  done = done ∙ ap (λ (k : StepKind). is_done k found) (ap (λ (t : Step). t.kind) (sym same)) ∙ ap (is_done (kind_of next)) is;
}

-- ---- which step comes next

pub record IsMapped {A B : Type 0} (f : A → B) (o : Option A) (b : B) : Type 0 where
  pub a : A
  pub is : o ≡ Some a
  pub same : f a ≡ b

pub mapped : {A B : Type 0} (f : A → B) (o : Option A) (b : B) → option_map f o ≡ Some b → IsMapped f o b
mapped f None b e = cc
mapped f (Some a) b e = record { a = a; is = refl; same = cc }

pub due_at : (F : Fixed) (view : View) (given : Option Command) (point : Point)
    → next_point F view given (if is_resolving point then Some (effect_loaded F view) else None) point ≡ next_at F view given point
due_at F view given Idle = refl
due_at F view given Owning = refl
due_at F view given (Taking got rest) = refl
due_at F view given Checking = refl
due_at F view given (Entering node plan) = refl
due_at F view given (Entered node plan) = refl
due_at F view given (Loading node part players plan) = refl
due_at F view given (Leaving node plan) = refl
due_at F view given (Sensing ids) = refl
due_at F view given Resolving = refl
due_at F view given (Claiming got rest) = refl
due_at F view given (Storing nodes stores) = refl
due_at F view given (Releasing nodes) = refl
due_at F view given (Returning leaves) = refl
due_at F view given (Yielding nodes leaves) = refl

-- with the effect that is due a seat goes on as in the machine
pub seat_due : (F : Fixed) (seat : Seat) (effect : Option Effect) → effect ≡ effect_due F (view_of seat) → next_with F (view_of seat) (given_of seat) seat.quits effect ≡ seat_next F (seat_of seat)
seat_due F seat effect due =
    let view = view_of seat in
    ap (next_with F view (given_of seat) seat.quits) due
    ∙ ap (λ (o : Option Next). if seat.quits then Some (quitting (first_yield F view)) else o) (due_at F view (given_of seat) view.point)

-- what comes next, where the seat's next step is s
pub record ComesNext (F : Fixed) (seat : Seat) (effect : Option Effect) (s : Step) : Type 0 where
  pub next : Next
  pub is : next_with F (view_of seat) (given_of seat) seat.quits effect ≡ Some next
  pub due : seat_next F (seat_of seat) ≡ Some next
  pub same : step_of s.seat (view_of seat) next ≡ s

pub comes_next : (F : Fixed) (seat : Seat) (effect : Option Effect) (s : Step) → effect ≡ effect_due F (view_of seat)
    → option_map (step_of s.seat (view_of seat)) (next_with F (view_of seat) (given_of seat) seat.quits effect) ≡ Some s → ComesNext F seat effect s
comes_next F seat effect s due e =
    let o = mapped (step_of s.seat (view_of seat)) (next_with F (view_of seat) (given_of seat) seat.quits effect) s e in
    record { next = o.a; is = o.is; due = sym (seat_due F seat effect due) ∙ o.is; same = o.same }

pub one_comes : (o : Option Next) (a b : Next) → o ≡ Some a → o ≡ Some b → a ≡ b
one_comes o a b e f = let same : Some a ≡ Some b = sym e ∙ f in cc
