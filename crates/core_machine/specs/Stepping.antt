-- A seat's next step on a word of the table.
use Rattle.std.specs.Prelude.{ℕ, ◌≡◌, ◌<◌, ◌+◌, ◌^◌, ◌==◌, Bool, true, false, if◌then◌else◌, Option, Some, None}
use Rattle.std.specs.Option.{option_map}
use Rattle.core_steps.specs.declared.step.Step.{Step}
use Rattle.core_steps.specs.declared.step.StepKind.{StepKind}
use Rattle.core_steps.specs.declared.step.StepKind.TheVariants.{Take, Commit}
use Rattle.core_steps.specs.declared.sizes.TheConstants.{TABLE_WORDS}
use Rattle.core_steps.specs.Cells.{Words, word_at}
use Rattle.core_steps.specs.Nodes.{Fixed}
use Rattle.core_steps.specs.Reads.{View}
use Rattle.core_steps.specs.Steps.{first_yield}
use Rattle.core_steps.specs.Machine.{Next, next_at, quitting, step_of, index_of, kind_of, word_of_next}
use Rattle.core_machine.specs.declared.words.Words as declared
use Rattle.core_machine.specs.declared.seat.Seat.{Seat}
use Rattle.core_machine.specs.Tables.{with_word_at}
use Rattle.core_machine.specs.Seats.{view_of}
use Rattle.core_seats.specs.Going.{view_found, word_left}
use Rattle.core_seats.specs.Sound.{IsSound}
use Rattle.core_seats.specs.Ready.{IsReady, effect_due}
use Rattle.core_machine.specs.Cores.{SeatView, seat_of}
use Rattle.core_machine.specs.WordsLeft.{IsNodeWord}

-- what the seat does next
abbrev pub seat_next : Fixed → SeatView → Option Next
seat_next F seat =
    if seat.quits then Some (quitting (first_yield F seat.view)) else next_at F seat.view seat.given seat.view.point

-- whether a step of this kind is done where this word was found: a take is done where the node is free
abbrev pub is_done : StepKind → ℕ → Bool
is_done Take found = found == 0
is_done _ _ = true

-- the step's word lies in the table, that of a take among those of the nodes, the view after it is sound, and the count
-- of commits doesn't reach its end
pub record IsOnWord (F : Fixed) (words : Words) (view : View) (next : Next) : Type 0 where
  pub in_table : index_of view next < TABLE_WORDS
  pub node : kind_of next ≡ Take → IsNodeWord (index_of view next)
  pub found : word_at words (index_of view next) ≡ word_of_next words view next
  pub after : IsSound F (view_found F view next (word_of_next words view next))
  pub count : kind_of next ≡ Commit → word_of_next words view next + 1 < 2 ^ 64

-- the seat may make its next step, if it has one, on these words
pub record MayStep (F : Fixed) (words : Words) (seat : SeatView) : Type 0 where
  pub ready : IsReady F seat.view seat.given seat.quits (effect_due F seat.view)
  pub on_word : (next : Next) → seat_next F seat ≡ Some next → IsOnWord F words seat.view next

-- the seat with this number made its next step: the step's word and the seat's view are those after it, and no command
-- is left to be begun or to be given up
pub record IsStepped (F : Fixed) (i : ℕ) (old_words new_words : Words) (old : View) (new : SeatView) (next : Next)
    (answer : Bool) : Type 0 where
  pub words : new_words ≡ with_word_at old_words (index_of old next)
      (word_left F i old next (word_of_next old_words old next))
  pub view : new.view ≡ view_found F old next (word_of_next old_words old next)
  pub given : new.given ≡ None
  pub quits : new.quits ≡ false
  pub done : answer ≡ is_done (kind_of next) (word_of_next old_words old next)

-- this step isn't the seat's next one: nothing changed, and it wasn't done
pub record IsOther (F : Fixed) (s : Step) (old_words new_words : declared.Words) (old new : Seat) (answer : Bool) :
    Type 0 where
  pub other : option_map (step_of s.seat (view_of old)) (seat_next F (seat_of old)) ≡ Some s → ⊥
  pub words : new_words ≡ old_words
  pub seat : new ≡ old
  pub done : answer ≡ false

-- this step is the seat's next one, and was made
pub record IsMade (F : Fixed) (s : Step) (old_words new_words : Words) (old new : SeatView) (answer : Bool) : Type 0
  where
    pub next : Next
    pub comes : seat_next F old ≡ Some next
    pub same : step_of s.seat old.view next ≡ s
    pub stepped : IsStepped F s.seat old_words new_words old.view new next answer
