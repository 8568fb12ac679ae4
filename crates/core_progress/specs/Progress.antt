-- Which steps are served, how many steps all seats have left, and schedules.
use Rattle.std.specs.Prelude.{ℕ, zero, suc, ◌≡◌, ◌≤◌, ◌+◌, ◌⊎◌, ◌==◌, ◌||◌, Bool, true, false, if◌then◌else◌}
use Rattle.std.specs.Prelude.{List, [], ◌∷◌, map, Option, Some, None}
use Rattle.std.specs.List.{range_with_len, sum_by, list_any}
use Rattle.entity_recs.specs.declared.effect.Effect.{Effect}
use Rattle.entity_recs.specs.Commands.{Command}
use Rattle.entity_recs.specs.Worlds.{nobody, zero_vector}
use Rattle.core_steps.specs.Cells.{Words}
use Rattle.core_steps.specs.Nodes.{Fixed}
use Rattle.core_steps.specs.Points.{Owning}
use Rattle.core_steps.specs.Reads.{View}
use Rattle.core_steps.specs.Machine.{Machine, Next, next_of, word_of_next}
use Rattle.core_steps.specs.Calls.{Call, Give, Go, GiveUp, after_call, after_calls, has_command}
use Rattle.core_steps.specs.Calls.{MayBeCalled, MayAllBeCalled, IsWaiting}
use Rattle.core_progress.specs.StepsLeft.{left_at, steps_left, is_served}

-- ---- steps that are served

-- what comes next, if anything does, is no take of a node whose word says that it is held
abbrev pub serves_next : Words → View → Option Next → Bool
serves_next words view None = false
serves_next words view (Some next) = is_served next (word_of_next words view next)

-- the seat can step: it has a next step, and that step is served
abbrev pub can_step : Fixed → Machine → ℕ → Bool
can_step F m i = serves_next m.core.words (m.core.view i) (next_of F m i)

-- how many steps of a call are served: one, where a seat that can step makes its next step
abbrev pub served_by : Fixed → Machine → Call → ℕ
served_by F m (Give i c) = 0
served_by F m (Go i) = if can_step F m i then 1 else 0
served_by F m (GiveUp i) = 0

-- how many steps of these calls are served
abbrev pub served_steps : Fixed → Machine → List Call → ℕ
served_steps F m [] = 0
served_steps F m (call ∷ calls) = served_by F m call + served_steps F (after_call F m call) calls

-- how many commands these calls give
abbrev pub commands_given : List Call → ℕ
commands_given [] = 0
commands_given (Give i c ∷ calls) = suc (commands_given calls)
commands_given (Go i ∷ calls) = commands_given calls
commands_given (GiveUp i ∷ calls) = commands_given calls

-- ---- steps that are left

-- an effect with a state for each live id; no effect of a lawful action lists more
abbrev pub longest_effect : Fixed → Effect
longest_effect F = record {
  me = nobody;
  states = map (λ id. record { id = id; state = 0 }) F.start.ids;
  reply = record { origin = zero_vector; got = [] };
}

-- the effect in view, or the longest where none is in view yet
abbrev pub effect_or_longest : Fixed → Option Effect → Option Effect
effect_or_longest F None = Some (longest_effect F)
effect_or_longest F (Some e) = Some e

-- the steps that are left of a view
abbrev pub view_steps : Fixed → View → ℕ
view_steps F view = steps_left F (effect_or_longest F view.effect) view

-- the steps of a whole command, none of which is made yet
abbrev pub steps_of_command : Fixed → ℕ
steps_of_command F = left_at F (Some (longest_effect F)) 0 0 0 Owning

-- the steps of a command that was given and isn't begun
abbrev pub given_steps : Fixed → Option Command → ℕ
given_steps F None = 0
given_steps F (Some c) = steps_of_command F

-- the steps that a seat has left
abbrev pub seat_steps : Fixed → Machine → ℕ → ℕ
seat_steps F m i = given_steps F (m.given i) + view_steps F (m.core.view i)

-- the steps that all seats have left
abbrev pub steps_of_all : Fixed → Machine → ℕ
steps_of_all F m = sum_by (seat_steps F m) (range_with_len 0 (m.core.view 0).made)

-- ---- who can step

-- the seat can step, or it waits for a node that another seat holds, and never both
pub record StepsOrWaits (F : Fixed) (m : Machine) (i : ℕ) : Type 0 where
  pub either : (can_step F m i ≡ true) ⊎ IsWaiting F m i
  pub not_both : IsWaiting F m i → can_step F m i ≡ false

-- some seat with a command in hand can step
pub record SomeSeatSteps (F : Fixed) (m : Machine) : Type 0 where
  pub seat : ℕ
  pub busy : has_command m seat ≡ true
  pub steps : can_step F m seat ≡ true

-- ---- rounds

-- the seat goes on in one of these calls
abbrev pub lets_go : ℕ → List Call → Bool
lets_go i [] = false
lets_go i (Give j c ∷ calls) = lets_go i calls
lets_go i (Go j ∷ calls) = (j == i) || lets_go i calls
lets_go i (GiveUp j ∷ calls) = lets_go i calls

-- a round: calls, each under its condition, in which each seat that can step as the round begins goes on
pub record IsRound (F : Fixed) (m : Machine) (calls : List Call) : Type 0 where
  pub may : MayAllBeCalled F m calls
  pub each : (i : ℕ) → can_step F m i ≡ true → lets_go i calls ≡ true

-- rounds, one after another
abbrev pub AreRounds : Fixed → Machine → List (List Call) → Type 0
AreRounds F m [] = Unit {0}
AreRounds F m (round ∷ rounds) = IsRound F m round × AreRounds F (after_calls F m round) rounds

-- the machine after them
abbrev pub after_rounds : Fixed → Machine → List (List Call) → Machine
after_rounds F m [] = m
after_rounds F m (round ∷ rounds) = after_rounds F (after_calls F m round) rounds

-- the calls by which each seat goes on once, in the order of their numbers
abbrev pub turns : Machine → List Call
turns m = map Go (range_with_len 0 (m.core.view 0).made)

-- the machine after so many turns of all seats
abbrev pub after_turns : Fixed → Machine → ℕ → Machine
after_turns F m zero = m
after_turns F m (suc n) = after_turns F (after_calls F m (turns m)) n

-- how many commands rounds give
abbrev pub commands_in : List (List Call) → ℕ
commands_in [] = 0
commands_in (round ∷ rounds) = commands_given round + commands_in rounds

-- some seat has a command in hand
abbrev pub any_in_hand : Machine → Bool
any_in_hand m = list_any (has_command m) (range_with_len 0 (m.core.view 0).made)

-- how many of the rounds begin with a command in hand
abbrev pub busy_rounds : Fixed → Machine → List (List Call) → ℕ
busy_rounds F m [] = 0
busy_rounds F m (round ∷ rounds) = (if any_in_hand m then 1 else 0) + busy_rounds F (after_calls F m round) rounds

-- ---- schedules without end

-- the machine after the first n calls of a schedule
abbrev pub machine_at : Fixed → Machine → (ℕ → Call) → ℕ → Machine
machine_at F m schedule zero = m
machine_at F m schedule (suc n) = after_call F (machine_at F m schedule n) (schedule n)

-- from the n-th call on a seat goes on, or can't step
pub record GoesOnOrCant (F : Fixed) (m : Machine) (schedule : ℕ → Call) (i n : ℕ) : Type 0 where
  pub at : ℕ
  pub later : n ≤ at
  pub either : (schedule at ≡ Go i) ⊎ (can_step F (machine_at F m schedule at) i ≡ false)

-- a schedule: calls without end, each under its condition, of which finitely many give a command, and by which no seat
-- that can step is left so for ever
pub record IsFair (F : Fixed) (m : Machine) (schedule : ℕ → Call) : Type 0 where
  pub may : (n : ℕ) → MayBeCalled F (machine_at F m schedule n) (schedule n)
  pub given : ℕ
  pub none_given : (n : ℕ) → given ≤ n → commands_given (schedule n ∷ []) ≡ 0
  pub fair : (i n : ℕ) → GoesOnOrCant F m schedule i n

-- from some call on no seat has a command in hand
pub record EndsSometime (F : Fixed) (m : Machine) (schedule : ℕ → Call) : Type 0 where
  pub end : ℕ
  pub none_in_hand : (n i : ℕ) → end ≤ n → has_command (machine_at F m schedule n) i ≡ false
