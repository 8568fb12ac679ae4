-- A schedule without end, by which no seat that can step is left so for ever, ends all commands.
use Rattle.std.proofs.Common.{◌≡◌, ℕ, zero, suc, ◌+◌, ◌-◌, ◌*◌, ◌<◌, ◌≤◌, ◌⊎◌, true, false, [], ◌∷◌, refl, sym, ap, ◌∙◌, subst, inl, inr, arith}
use Rattle.std.proofs.lemmas.Bool.{true≢false}
use Rattle.areanode.specs.Trees.{IsTreeDepth}
use Rattle.core_steps.specs.Nodes.{Fixed}
use Rattle.core_steps.specs.Stands.{IsLawful, IsStart}
use Rattle.core_steps.specs.Machine.{Machine}
use Rattle.core_steps.specs.Calls.{Call, Go, StandsSomehow}
use Rattle.core_steps.proofs.Reached.{stands_called}
use Rattle.core_progress.specs.Progress.{can_step, served_by, commands_given, steps_of_command, steps_of_all, machine_at, IsFair, EndsSometime}
use Rattle.core_progress.specs.Laws.{FairSchedulesEndAllCommands}
use Rattle.core_progress.proofs.Serving.{some_seat_can_step}
use Rattle.core_progress.proofs.Calls.{call_left}
use Rattle.core_progress.proofs.Sums.{none_of}
use Rattle.core_progress.proofs.Rounds.{none_or_some, one_served, none_in_hand, still_can, zero_or_more}

module _ (F : Fixed) (m : Machine) (schedule : ℕ → Call) (lawful : IsLawful F) (start : IsStart F) (depth : IsTreeDepth F.tree.depth) (first : StandsSomehow F m) (fair : IsFair F m schedule) where
  abbrev at : ℕ → Machine
  at n = machine_at F m schedule n

  abbrev left : ℕ → ℕ
  left n = steps_of_all F (at n)

  stands : (n : ℕ) → StandsSomehow F (at n)
  stands zero = first
  stands (suc n) = stands_called F (at n) (schedule n) lawful start (fair.may n) (stands n)

  one_less : (n : ℕ) → fair.given ≤ n → served_by F (at n) (schedule n) + left (suc n) ≤ left n
  one_less n since =
      let is = stands n in
      let call = call_left F (at n) is.history is.now (schedule n) lawful start depth is.stands (fair.may n) in
      let none : commands_given (schedule n ∷ []) * steps_of_command F ≡ 0 = none_of (commands_given (schedule n ∷ [])) (steps_of_command F) (fair.none_given n since) in
      omega (arith, call, none)

  -- what is left later is no more
  no_more : (d n k : ℕ) → fair.given ≤ n → d + n ≡ k → left k ≤ left n
  no_more zero n k since e = let same : k ≡ n = omega (arith, e) in subst (λ (j : ℕ). left j ≤ left n) (sym same) (omega arith)
  no_more (suc d) n k since e =
      let before = no_more d n (d + n) since refl in
      let one = one_less (d + n) (omega (arith, since)) in
      let same : suc (d + n) ≡ k = omega (arith, e) in
      subst (λ (j : ℕ). left j ≤ left n) same (omega (arith, before, one))

  -- later less is left
  record LessLater (n : ℕ) : Type 0 where
    end : ℕ
    later : n ≤ end
    less : left end < left n

  -- from a seat that can step to a step that is served
  walk : (i d n k : ℕ) → fair.given ≤ n → d + n ≡ k → can_step F (at n) i ≡ true → (schedule k ≡ Go i) ⊎ (can_step F (at k) i ≡ false) → LessLater n
  walk i zero n k since e can either =
      let same : k ≡ n = omega (arith, e) in
      elim either [
        | inl goes ↦
            let here : schedule n ≡ Go i = subst (λ (j : ℕ). schedule j ≡ Go i) same goes in
            let served' = ap (served_by F (at n)) here ∙ one_served F (at n) i can in
            let one = one_less n since in
            record { end = suc n; later = omega arith; less = omega (arith, served', one) }
        | inr cant ↦ absurd (true≢false (sym can ∙ subst (λ (j : ℕ). can_step F (at j) i ≡ false) same cant))
      ]
  walk i (suc d) n k since e can either =
      let is = stands n in
      let one = one_less n since in
      elim (zero_or_more (served_by F (at n) (schedule n))) [
        | inl none ↦
            let still = still_can F (at n) i can is.history is.now (schedule n) is.stands (fair.may n) none in
            let rest = walk i d (suc n) k (omega (arith, since)) (omega (arith, e)) still either in
            let later' = rest.later in
            let less = rest.less in
            record { end = rest.end; later = omega (arith, later'); less = omega (arith, less, one) }
        | inr some ↦ record { end = suc n; later = omega arith; less = omega (arith, some, one) }
      ]

  ends_here : (n : ℕ) → fair.given ≤ n → left n ≡ 0 → EndsSometime F m schedule
  ends_here n since none = record {
    end = n;
    none_in_hand = λ k i least.
        let more = no_more (k - n) n k since (apart k least) in
        none_in_hand F (at k) lawful start depth (stands k) (omega (arith, more, none)) i;
  }
    where
      apart : (k : ℕ) → n ≤ k → k - n + n ≡ k
      apart k least = omega (arith, least)

  ends : (fuel n : ℕ) → fair.given ≤ n → left n ≤ fuel → EndsSometime F m schedule
  ends zero n since few = ends_here n since (omega (arith, few))
  ends (suc fuel) n since few = elim (none_or_some F (at n)) [
    | inl none ↦ ends_here n since none
    | inr some ↦
        let is = stands n in
        let free = some_seat_can_step F (at n) is.history is.now some.seat is.stands some.has in
        let goes = fair.fair free.seat n in
        let rest = walk free.seat (goes.at - n) n goes.at since (ahead goes.at goes.later) free.steps goes.either in
        let later' = rest.later in
        let less = rest.less in
        ends fuel rest.end (omega (arith, since, later')) (omega (arith, less, few))
  ]
    where
      ahead : (k : ℕ) → n ≤ k → k - n + n ≡ k
      ahead k least = omega (arith, least)

pub fair_schedules_end_all_commands : FairSchedulesEndAllCommands
fair_schedules_end_all_commands F m history now schedule lawful start depth is fair =
    let first : StandsSomehow F m = record { history = history; now = now; stands = is } in
    ends F m schedule lawful start depth first fair (steps_of_all F (machine_at F m schedule fair.given)) fair.given (omega arith) (omega arith)
