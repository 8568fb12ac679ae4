-- What calls serve, and what is left after them.
use Rattle.std.proofs.Common.{◌≡◌, ℕ, ◌+◌, ◌*◌, ◌<◌, ◌≤◌, true, false, List, [], ◌∷◌, length, refl, sym, ap, ◌∙◌, subst, inl, inr, Option, Some, None, is_some, arith}
use Rattle.std.specs.Prelude.{◌==◌, if◌then◌else◌}
use Rattle.std.specs.List.{range_with_len, sum_by}
use Rattle.std.proofs.lemmas.Bool.{cases_Bool, or_cases}
use Rattle.std.proofs.lemmas.List.{length-map}
use Rattle.areanode.specs.Trees.{IsTreeDepth}
use Rattle.entity_recs.specs.declared.effect.NewState.{NewState}
use Rattle.entity_recs.specs.Commands.{Command}
use Rattle.entity_recs.specs.Worlds.{World}
use Rattle.entity_recs.specs.Histories.{Item}
use Rattle.core_steps.specs.Cells.{put}
use Rattle.core_steps.specs.Nodes.{Fixed}
use Rattle.core_steps.specs.Points.{stage_of, is_busy}
use Rattle.core_steps.specs.Stands.{IsLawful, IsStart}
use Rattle.core_steps.specs.Machine.{Machine, Next, next_of, word_of_next, machine_after, MachineStands}
use Rattle.core_steps.specs.Calls.{Call, Give, Go, GiveUp, gone_on, with_given, after_call, after_calls, has_command, MayBeGiven, MayBeCalled, MayAllBeCalled, StandsSomehow}
use Rattle.core_steps.proofs.Puts.{put_same, put_other}
use Rattle.core_steps.proofs.Frames.{busy_lives}
use Rattle.core_steps.proofs.Nexts.{next_exists}
use Rattle.core_steps.proofs.OneView.{steps_change_one_view}
use Rattle.core_steps.proofs.Reached.{stands_called}
use Rattle.core_steps.proofs.SameSeats.{SeatPart, same_seats}
use Rattle.core_progress.specs.StepsLeft.{is_served}
use Rattle.core_progress.specs.Progress.{serves_next, served_by, served_steps, commands_given, view_steps, given_steps, steps_of_command, seat_steps, steps_of_all}
use Rattle.core_progress.specs.Laws.{ServedStepsAreBounded}
use Rattle.core_progress.proofs.Lowering.{lowers, keeps}
use Rattle.core_progress.proofs.Sums.{sum_lower, sum_higher}

-- ---- a seat with a command is there

module _ (F : Fixed) (m : Machine) (history : List Item) (now : World) (i : ℕ) (is : MachineStands F m history now) where
  given_lives : (given : Option Command) → m.given i ≡ given → is_some given ≡ true → (m.core.view i).live ≡ true
  given_lives None e some = cc
  given_lives (Some c) e some = (is.pending i c e).lives

  -- its number was given out
  pub below_made : has_command m i ≡ true → i < (m.core.view 0).made
  below_made has = is.core.numbers.live i (elim (or_cases (is_some (m.given i)) (is_busy (stage_of (m.core.view i).point)) has) [
    | inl given ↦ given_lives (m.given i) refl given
    | inr busy ↦ busy_lives m.core.view i is.core.numbers busy
  ])

-- ---- one step

module _ (F : Fixed) (m : Machine) (history : List Item) (now : World) (i : ℕ) (next : Next) (lawful : IsLawful F) (start : IsStart F) (depth : IsTreeDepth F.tree.depth) (is : MachineStands F m history now) (comes : next_of F m i ≡ Some next) where
  abbrev after : Machine
  after = machine_after F m i next

  same_made : (after.core.view 0).made ≡ (m.core.view 0).made
  same_made = ap (λ (p : SeatPart). p.made) (same_seats F m.core i next 0)

  same_other : (j : ℕ) → (j == i) ≡ false → seat_steps F after j ≤ seat_steps F m j
  same_other j other =
      let given = ap (given_steps F) (put_other i j None m.given other) in
      let view = ap (view_steps F) ((steps_change_one_view F m i).step next j other) in
      omega (arith, given, view)

  below : i < (m.core.view 0).made
  below = below_made F m history now i is (sym (next_exists F m history now i is) ∙ ap is_some comes)

  sum_after : (k : ℕ) → seat_steps F after i + k ≤ seat_steps F m i → steps_of_all F after + k ≤ steps_of_all F m
  sum_after k less =
      subst (λ (n : ℕ). sum_by (seat_steps F after) (range_with_len 0 n) + k ≤ steps_of_all F m) (sym same_made)
      (sum_lower (seat_steps F after) (seat_steps F m) i k 0 (m.core.view 0).made same_other less (omega arith) (omega (arith, below)))

  step_left : (if is_served next (word_of_next m.core.words (m.core.view i) next) then 1 else 0) + steps_of_all F after ≤ steps_of_all F m
  step_left = elim (cases_Bool (is_served next (word_of_next m.core.words (m.core.view i) next))) [
    | inl served' ↦
        let less = lowers F m history now i next is comes lawful start depth served' in
        let all = sum_after 1 (omega (arith, less)) in
        rw served' (omega (arith, all))
    | inr refused ↦
        let less = keeps F m history now i next is comes refused in
        let all = sum_after 0 (omega (arith, less)) in
        rw refused (omega (arith, all))
  ]

gone_left : (F : Fixed) (m : Machine) (history : List Item) (now : World) (i : ℕ) (o : Option Next) → IsLawful F → IsStart F → IsTreeDepth F.tree.depth → MachineStands F m history now
    → next_of F m i ≡ o → (if serves_next m.core.words (m.core.view i) o then 1 else 0) + steps_of_all F (gone_on F m i o) ≤ steps_of_all F m
gone_left F m history now i None lawful start depth is comes = omega arith
gone_left F m history now i (Some next) lawful start depth is comes = step_left F m history now i next lawful start depth is comes

-- ---- one call

given_left : (F : Fixed) (m : Machine) (i : ℕ) (c : Command) → MayBeGiven F m i c → steps_of_all F (with_given m i c) ≤ steps_of_all F m + steps_of_command F
given_left F m i c may =
    let here : given_steps F (put i (Some c) m.given i) ≡ steps_of_command F = ap (given_steps F) (put_same i (Some c) m.given) in
    let none : given_steps F (m.given i) ≡ 0 = ap (given_steps F) may.none in
    sum_higher (seat_steps F (with_given m i c)) (seat_steps F m) i (steps_of_command F) 0 (m.core.view 0).made
    (λ j other. let given = ap (given_steps F) (put_other i j (Some c) m.given other) in omega (arith, given)) (omega (arith, here, none))

-- a call leaves at most what was left, but for what it serves, and for the command that it gives
pub call_left : (F : Fixed) (m : Machine) (history : List Item) (now : World) (call : Call) → IsLawful F → IsStart F → IsTreeDepth F.tree.depth → MachineStands F m history now
    → MayBeCalled F m call → served_by F m call + steps_of_all F (after_call F m call) ≤ steps_of_all F m + commands_given (call ∷ []) * steps_of_command F
call_left F m history now (Give i c) lawful start depth is may = let left = given_left F m i c may in omega (arith, left)
call_left F m history now (Go i) lawful start depth is may =
    let left = gone_left F m history now i (next_of F m i) lawful start depth is refl in
    omega (arith, left)
call_left F m history now (GiveUp i) lawful start depth is may = omega arith

-- ---- all calls

given_more : (call : Call) (calls : List Call) (k : ℕ) → commands_given (call ∷ calls) * k ≡ commands_given (call ∷ []) * k + commands_given calls * k
given_more (Give i c) calls k = grind arith
given_more (Go i) calls k = omega arith
given_more (GiveUp i) calls k = omega arith

pub calls_left : (F : Fixed) (m : Machine) (calls : List Call) → IsLawful F → IsStart F → IsTreeDepth F.tree.depth → StandsSomehow F m → MayAllBeCalled F m calls
    → served_steps F m calls + steps_of_all F (after_calls F m calls) ≤ steps_of_all F m + commands_given calls * steps_of_command F
calls_left F m [] lawful start depth is may = omega arith
calls_left F m (call ∷ calls) lawful start depth is may =
    let one = call_left F m is.history is.now call lawful start depth is.stands may.0 in
    let rest = calls_left F (after_call F m call) calls lawful start depth (stands_called F m call lawful start may.0 is) may.1 in
    let more = given_more call calls (steps_of_command F) in
    omega (arith, one, rest, more)

-- how many steps a command takes
pub command_steps : (F : Fixed) → steps_of_command F ≡ 24471 + 2 * length F.start.ids
command_steps F =
    let long = length-map F.start.ids (λ (id : ℕ). let s : NewState = record { id = id; state = 0 } in s) in
    omega (arith, long)

pub served_steps_are_bounded : ServedStepsAreBounded
served_steps_are_bounded F m history now calls lawful start depth is may =
    let left = calls_left F m calls lawful start depth (record { history = history; now = now; stands = is }) may in
    let each = ap (λ (steps : ℕ). commands_given calls * steps) (command_steps F) in
    omega (arith, left, each)
