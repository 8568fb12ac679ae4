-- A round in which a command is in hand serves a step.
use Rattle.std.proofs.Common.{◌≡◌, ℕ, zero, suc, ◌+◌, ◌*◌, ◌<◌, ◌≤◌, ◌⊎◌, Bool, true, false, List, [], ◌∷◌, length, refl, sym, ap, ◌∙◌, subst, inl, inr, Option, Some, None, is_some, arith}
use Rattle.std.specs.Prelude.{◌==◌, ◌||◌, if◌then◌else◌}
use Rattle.std.specs.List.{range_with_len, list_any}
use Rattle.std.proofs.lemmas.Bool.{cases_Bool, false≢true, true≢false, or_cases, cond-true, cond-false, eqb-true}
use Rattle.areanode.specs.Trees.{IsTreeDepth}
use Rattle.entity_recs.specs.declared.effect.Effect.{Effect}
use Rattle.entity_recs.specs.Commands.{Command}
use Rattle.entity_recs.specs.Worlds.{World}
use Rattle.entity_recs.specs.Histories.{Item}
use Rattle.core_steps.specs.Cells.{Words, put}
use Rattle.core_steps.specs.Nodes.{Fixed}
use Rattle.core_steps.specs.Points.{Point, Idle, Owning, Taking, Checking, Entering, Entered, Loading, Leaving, Sensing}
use Rattle.core_steps.specs.Points.{Resolving, Claiming, Storing, Releasing, Returning, Yielding, stage_of, is_busy}
use Rattle.core_steps.specs.Reads.{View}
use Rattle.core_steps.specs.Steps.{Core, is_taking, first_yield}
use Rattle.core_steps.specs.Stands.{IsLawful, IsStart}
use Rattle.core_steps.specs.Machine.{Machine, Next, Begin, LoadOwn, LoadAgain, TakeNode, ClaimNode, ReadList, ReadPlayer, ReadState, CommitMove, StoreWord, GiveNode, YieldNode, YieldCount, next_at, next_of, quitting, beginning, word_of_next, core_after, machine_after, MachineStands}
use Rattle.core_steps.specs.Calls.{Call, Give, Go, GiveUp, gone_on, with_given, with_quitting, after_call, after_calls, has_command, MayBeGiven, MayBeCalled, MayAllBeCalled, StandsSomehow}
use Rattle.core_steps.proofs.Puts.{put_other}
use Rattle.core_steps.proofs.OneView.{steps_change_one_view}
use Rattle.core_steps.proofs.Reached.{stands_called}
use Rattle.core_progress.specs.StepsLeft.{is_served, left_at}
use Rattle.core_progress.specs.Progress.{serves_next, can_step, served_by, served_steps, commands_given, effect_or_longest, given_steps, steps_of_command, seat_steps, steps_of_all, lets_go, IsRound, AreRounds, after_rounds, commands_in, any_in_hand, busy_rounds}
use Rattle.core_progress.specs.Laws.{BusyRoundsAreFew, RoundsEndAllCommands}
use Rattle.core_progress.proofs.Serving.{some_seat_can_step}
use Rattle.core_progress.proofs.Calls.{call_left, calls_left, command_steps}
use Rattle.core_progress.proofs.Sums.{none_of, sum_some}

-- ---- steps are left exactly where a command is in hand

some_in_hand : (F : Fixed) (given : Option Command) (e : Option Effect) (own again wanted : ℕ) (point : Point) → 0 < given_steps F given + left_at F e own again wanted point
    → (is_some given || is_busy (stage_of point)) ≡ true
some_in_hand F (Some c) e own again wanted point some = refl
some_in_hand F None e own again wanted Idle some = absurd (omega (arith, some))
some_in_hand F None e own again wanted Owning some = refl
some_in_hand F None e own again wanted (Taking got rest) some = refl
some_in_hand F None e own again wanted Checking some = refl
some_in_hand F None e own again wanted (Entering node plan) some = refl
some_in_hand F None e own again wanted (Entered node plan) some = refl
some_in_hand F None e own again wanted (Loading node part players plan) some = refl
some_in_hand F None e own again wanted (Leaving node plan) some = refl
some_in_hand F None e own again wanted (Sensing ids) some = refl
some_in_hand F None e own again wanted Resolving some = refl
some_in_hand F None e own again wanted (Claiming got rest) some = refl
some_in_hand F None e own again wanted (Storing nodes stores) some = refl
some_in_hand F None e own again wanted (Releasing nodes) some = refl
some_in_hand F None e own again wanted (Returning leaves) some = refl
some_in_hand F None e own again wanted (Yielding nodes leaves) some = refl

-- a seat has a command in hand
pub record HasSome (m : Machine) : Type 0 where
  pub seat : ℕ
  pub has : has_command m seat ≡ true

pub none_or_some : (F : Fixed) (m : Machine) → (steps_of_all F m ≡ 0) ⊎ HasSome m
none_or_some F m = elim (sum_some (seat_steps F m) (range_with_len 0 (m.core.view 0).made)) [
  | inl none ↦ inl none
  | inr some ↦
      let view = m.core.view some.at in
      inr (record { seat = some.at; has = some_in_hand F (m.given some.at) (effect_or_longest F view.effect) (length view.own) (length view.again) (length view.wanted) view.point some.some })
]

-- a step that can be made is served
pub one_served : (F : Fixed) (m : Machine) (i : ℕ) → can_step F m i ≡ true → served_by F m (Go i) ≡ 1
one_served F m i can = cond-true (can_step F m i) 1 0 can

pub none_in_hand : (F : Fixed) (m : Machine) → IsLawful F → IsStart F → IsTreeDepth F.tree.depth → StandsSomehow F m → steps_of_all F m ≡ 0 → (i : ℕ) → has_command m i ≡ false
none_in_hand F m lawful start depth is none i = elim (cases_Bool (has_command m i)) [
  | inl has ↦
      let free = some_seat_can_step F m is.history is.now i is.stands has in
      let left = call_left F m is.history is.now (Go free.seat) lawful start depth is.stands tt in
      let one = one_served F m free.seat free.steps in
      absurd (omega (arith, none, left, one))
  | inr idle ↦ idle
]

-- ---- a seat that can step still can, as long as no step is served

quitting_served : (words : Words) (view : View) (o : Option ℕ) → is_served (quitting o) (word_of_next words view (quitting o)) ≡ true
quitting_served words view None = refl
quitting_served words view (Some node) = refl

-- a refused take changes the record of the refused take in its seat's view alone
refused_core : (F : Fixed) (core : Core) (j : ℕ) (next : Next) → is_served next (word_of_next core.words (core.view j) next) ≡ false → (core_after F core j next).words ≡ core.words
refused_core F core j (Begin c) e = absurd (true≢false e)
refused_core F core j LoadOwn e = absurd (true≢false e)
refused_core F core j LoadAgain e = absurd (true≢false e)
refused_core F core j (TakeNode node) e = rw e refl
refused_core F core j (ClaimNode f node) e = rw e refl
refused_core F core j (ReadList node plan) e = absurd (true≢false e)
refused_core F core j (ReadPlayer node part slot players plan) e = absurd (true≢false e)
refused_core F core j (ReadState id ids) e = absurd (true≢false e)
refused_core F core j (CommitMove f nodes) e = absurd (true≢false e)
refused_core F core j (StoreWord nodes store stores) e = absurd (true≢false e)
refused_core F core j (GiveNode node) e = absurd (true≢false e)
refused_core F core j (YieldNode node) e = absurd (true≢false e)
refused_core F core j YieldCount e = absurd (true≢false e)

-- whether a seat can step, of its parts
step_of_parts : Fixed → Words → View → Option Command → Bool → Bool
step_of_parts F words view given quits = serves_next words view (if quits then Some (quitting (first_yield F view)) else next_at F view given view.point)

can_by_parts : (F : Fixed) (m : Machine) (i : ℕ) → can_step F m i ≡ step_of_parts F m.core.words (m.core.view i) (m.given i) (m.quits i)
unfolding step_of_parts
can_by_parts F m i = refl

same_parts : (F : Fixed) (a b : Words) (v w : View) (g h : Option Command) (q r : Bool) → a ≡ b → v ≡ w → g ≡ h → q ≡ r → step_of_parts F a v g q ≡ step_of_parts F b w h r
same_parts F a b v w g h q r ab vw gh qr = rw (ab, vw, gh, qr) refl

-- a seat to which a command may be given has no next step
idle_cant : (F : Fixed) (m : Machine) (history : List Item) (now : World) (j : ℕ) (c : Command) → MachineStands F m history now → MayBeGiven F m j c → can_step F m j ≡ false
idle_cant F m history now j c is may =
    let view = m.core.view j in
    elim (cases_Bool (m.quits j)) [
      | inl quits ↦ absurd (false≢true (sym (ap is_taking may.pending.idle) ∙ is.quits j quits))
      | inr goes ↦
          ap (serves_next m.core.words view) (cond-false (m.quits j) (Some (quitting (first_yield F view))) (next_at F view (m.given j) view.point) goes
          ∙ ap (next_at F view (m.given j)) may.pending.idle ∙ ap beginning may.none)
    ]

module _ (F : Fixed) (m : Machine) (i : ℕ) (can : can_step F m i ≡ true) where
  -- it isn't the seat of a take that was refused
  other_seat : (j : ℕ) (next : Next) → next_of F m j ≡ Some next → is_served next (word_of_next m.core.words (m.core.view j) next) ≡ false → (i == j) ≡ false
  other_seat j next comes refused = elim (cases_Bool (i == j)) [
    | inl same ↦
        let mine = subst (λ (k : ℕ). can_step F m k ≡ true) (eqb-true i j same) can in
        absurd (true≢false (sym mine ∙ ap (serves_next m.core.words (m.core.view j)) comes ∙ refused))
    | inr other ↦ other
  ]

  still_after : (j : ℕ) (o : Option Next) → next_of F m j ≡ o → serves_next m.core.words (m.core.view j) o ≡ false → can_step F (gone_on F m j o) i ≡ true
  still_after j None comes refused = can
  still_after j (Some next) comes refused =
      let after = machine_after F m j next in
      let other = other_seat j next comes refused in
      can_by_parts F after i
      ∙ same_parts F after.core.words m.core.words (after.core.view i) (m.core.view i) (after.given i) (m.given i) (after.quits i) (m.quits i)
      (refused_core F m.core j next refused) ((steps_change_one_view F m j).step next i other) (put_other j i None m.given other) (put_other j i false m.quits other)
      ∙ sym (can_by_parts F m i) ∙ can

  still_asked : (j : ℕ) → can_step F (with_quitting m j) i ≡ true
  still_asked j =
      let after = with_quitting m j in
      elim (cases_Bool (i == j)) [
        | inl same ↦
            let view = m.core.view i in
            let asked : put j true m.quits i ≡ true = cond-true (i == j) true (m.quits i) same in
            ap (serves_next m.core.words view) (cond-true (put j true m.quits i) (Some (quitting (first_yield F view))) (next_at F view (m.given i) view.point) asked)
            ∙ quitting_served m.core.words view (first_yield F view)
        | inr other ↦
            can_by_parts F after i
            ∙ same_parts F m.core.words m.core.words (m.core.view i) (m.core.view i) (m.given i) (m.given i) (after.quits i) (m.quits i) refl refl refl (put_other j i true m.quits other)
            ∙ sym (can_by_parts F m i) ∙ can
      ]

  not_one : (j : ℕ) → served_by F m (Go j) ≡ 0 → can_step F m j ≡ false
  not_one j none = elim (cases_Bool (can_step F m j)) [
    | inl yes' ↦ let one = one_served F m j yes' in absurd (omega (arith, none, one))
    | inr no' ↦ no'
  ]

  -- nor is it the seat that is given a command
  other_given : (history : List Item) (now : World) (j : ℕ) (c : Command) → MachineStands F m history now → MayBeGiven F m j c → (i == j) ≡ false
  other_given history now j c is may = elim (cases_Bool (i == j)) [
    | inl same ↦ absurd (true≢false (sym (subst (λ (k : ℕ). can_step F m k ≡ true) (eqb-true i j same) can) ∙ idle_cant F m history now j c is may))
    | inr other ↦ other
  ]

  still_given : (j : ℕ) (c : Command) → (i == j) ≡ false → can_step F (with_given m j c) i ≡ true
  still_given j c other =
      let after = with_given m j c in
      can_by_parts F after i
      ∙ same_parts F m.core.words m.core.words (m.core.view i) (m.core.view i) (after.given i) (m.given i) (m.quits i) (m.quits i) refl refl (put_other j i (Some c) m.given other) refl
      ∙ sym (can_by_parts F m i) ∙ can

  pub still_can : (history : List Item) (now : World) (call : Call) → MachineStands F m history now → MayBeCalled F m call → served_by F m call ≡ 0 → can_step F (after_call F m call) i ≡ true
  still_can history now (Give j c) is may none = still_given j c (other_given history now j c is may)
  still_can history now (Go j) is may none = still_after j (next_of F m j) refl (not_one j none)
  still_can history now (GiveUp j) is may none = still_asked j

-- ---- a round

pub zero_or_more : (n : ℕ) → (n ≡ 0) ⊎ (1 ≤ n)
zero_or_more zero = inl refl
zero_or_more (suc n) = inr (omega arith)

-- the other calls let the seat go on, where this one serves nothing
goes_later : (F : Fixed) (m : Machine) (i : ℕ) (call : Call) (calls : List Call) → can_step F m i ≡ true → served_by F m call ≡ 0 → lets_go i (call ∷ calls) ≡ true → lets_go i calls ≡ true
goes_later F m i (Give j c) calls can none goes = goes
goes_later F m i (Go j) calls can none goes = elim (or_cases (j == i) (lets_go i calls) goes) [
  | inl same ↦
      let one = one_served F m j (subst (λ (k : ℕ). can_step F m k ≡ true) (sym (eqb-true j i same)) can) in
      absurd (omega (arith, none, one))
  | inr later ↦ later
]
goes_later F m i (GiveUp j) calls can none goes = goes

-- calls that let a seat go on that can step serve a step
round_serves : (F : Fixed) (m : Machine) (i : ℕ) (calls : List Call) → IsLawful F → IsStart F → StandsSomehow F m → MayAllBeCalled F m calls
    → can_step F m i ≡ true → lets_go i calls ≡ true → 1 ≤ served_steps F m calls
round_serves F m i [] lawful start is may can goes = absurd (false≢true goes)
round_serves F m i (call ∷ calls) lawful start is may can goes =
    elim (zero_or_more (served_by F m call)) [
      | inl none ↦
          let after = stands_called F m call lawful start may.0 is in
          let still = still_can F m i can is.history is.now call is.stands may.0 none in
          let rest = round_serves F (after_call F m call) i calls lawful start after may.1 still (goes_later F m i call calls can none goes) in
          omega (arith, none, rest)
      | inr some ↦ omega (arith, some)
    ]

pub stands_after : (F : Fixed) (m : Machine) (calls : List Call) → IsLawful F → IsStart F → MayAllBeCalled F m calls → StandsSomehow F m → StandsSomehow F (after_calls F m calls)
stands_after F m [] lawful start may is = is
stands_after F m (call ∷ calls) lawful start may is = stands_after F (after_call F m call) calls lawful start may.1 (stands_called F m call lawful start may.0 is)

-- a round that begins with a command in hand serves a step
busy_round : (F : Fixed) (m : Machine) (round : List Call) → IsLawful F → IsStart F → StandsSomehow F m → IsRound F m round → HasSome m → 1 ≤ served_steps F m round
busy_round F m round lawful start is here some =
    let free = some_seat_can_step F m is.history is.now some.seat is.stands some.has in
    round_serves F m free.seat round lawful start is here.may free.steps (here.each free.seat free.steps)

-- ---- rounds

some_any : (test : ℕ → Bool) (xs : List ℕ) → list_any test xs ≡ true → (n : ℕ) × (test n ≡ true)
some_any test [] e = absurd (false≢true e)
some_any test (x ∷ xs) e = elim (or_cases (test x) (list_any test xs) e) [
  | inl here ↦ (x, here)
  | inr later ↦ some_any test xs later
]

busy_rounds_left : (F : Fixed) (m : Machine) (rounds : List (List Call)) → IsLawful F → IsStart F → IsTreeDepth F.tree.depth → StandsSomehow F m → AreRounds F m rounds
    → busy_rounds F m rounds ≤ steps_of_all F m + commands_in rounds * steps_of_command F
busy_rounds_left F m [] lawful start depth is are = omega arith
busy_rounds_left F m (round ∷ rounds) lawful start depth is are =
    let after = after_calls F m round in
    let left = calls_left F m round lawful start depth is are.0.may in
    let rest = busy_rounds_left F after rounds lawful start depth (stands_after F m round lawful start are.0.may is) are.1 in
    let parts = product_parts (commands_given round) (commands_in rounds) (steps_of_command F) in
    elim (cases_Bool (any_in_hand m)) [
      | inl busy ↦
          let some = some_any (has_command m) (range_with_len 0 (m.core.view 0).made) busy in
          let one = busy_round F m round lawful start is are.0 (record { seat = some.0; has = some.1 }) in
          rw busy (omega (arith, left, rest, parts, one))
      | inr idle ↦ rw idle (omega (arith, left, rest, parts))
    ]
  where
    product_parts : (a b k : ℕ) → (a + b) * k ≡ a * k + b * k
    product_parts a b k = grind arith

pub busy_rounds_are_few : BusyRoundsAreFew
busy_rounds_are_few F m history now rounds lawful start depth is are =
    let few = busy_rounds_left F m rounds lawful start depth (record { history = history; now = now; stands = is }) are in
    let each = ap (λ (steps : ℕ). commands_in rounds * steps) (command_steps F) in
    omega (arith, few, each)

pub rounds_end : (F : Fixed) (m : Machine) (rounds : List (List Call)) → IsLawful F → IsStart F → IsTreeDepth F.tree.depth → StandsSomehow F m → AreRounds F m rounds
    → commands_in rounds ≡ 0 → steps_of_all F m ≤ length rounds → (i : ℕ) → has_command (after_rounds F m rounds) i ≡ false
rounds_end F m [] lawful start depth is are none few i = none_in_hand F m lawful start depth is (omega (arith, few)) i
rounds_end F m (round ∷ rounds) lawful start depth is are none few i =
    let after = after_calls F m round in
    let left = calls_left F m round lawful start depth is are.0.may in
    let none_here : commands_given round ≡ 0 = omega (arith, none) in
    let no_more : commands_given round * steps_of_command F ≡ 0 = none_of (commands_given round) (steps_of_command F) none_here in
    let fewer : steps_of_all F after ≤ length rounds = elim (none_or_some F m) [
      | inl done ↦ omega (arith, left, no_more, done)
      | inr some ↦ let one = busy_round F m round lawful start is are.0 some in omega (arith, left, no_more, one, few)
    ] in
    rounds_end F after rounds lawful start depth (stands_after F m round lawful start are.0.may is) are.1 (omega (arith, none)) fewer i

pub rounds_end_all_commands : RoundsEndAllCommands
rounds_end_all_commands F m history now rounds lawful start depth is are none few i =
    rounds_end F m rounds lawful start depth (record { history = history; now = now; stands = is }) are none few i
