-- Commands with buttons, which are given to the seats of a machine at its start, one after another.
use Rattle.std.proofs.Common.{◌≡◌, ℕ, ◌+◌, ◌^◌, ◌<◌, ◌≤◌, true, sym, ap, ◌∙◌, inl, inr, Some, arith}
use Rattle.core_steps.specs.declared.sizes.TheConstants.{MOST_SEATS}
use Rattle.std.specs.Prelude.{◌==◌}
use Rattle.std.proofs.lemmas.Int.{ints}
use Rattle.std.proofs.lemmas.Bool.{cases_Bool, false≢true, cond-true, cond-false, eqb-true, eqb-false, ne_eqb}
use Rattle.std.proofs.lemmas.Option.{same_Some}
use Rattle.entity_recs.specs.Commands.{Command}
use Rattle.entity_recs.specs.Actions.{IsCommand}
use Rattle.core_steps.specs.Nodes.{Fixed, has}
use Rattle.core_steps.specs.Points.{stage_of, is_busy}
use Rattle.core_steps.specs.Machine.{Machine}
use Rattle.core_steps.specs.Calls.{MayBeGiven, with_given}
use Rattle.core_machine.proofs.Filled.{IsFilled}
use Rattle.core_trials.specs.ErrandCommands.{errand_command}

pub command_is : (slot buttons : ℕ) → slot < 64 → buttons < 2 ^ 8 → IsCommand (errand_command slot buttons)
command_is slot buttons below small = record {
  slot = below;
  seq = omega arith;
  frame = omega arith;
  least_ms = omega arith;
  most_ms = omega arith;
  low_x = omega (arith, ints);
  high_x = omega (arith, ints);
  low_y = omega (arith, ints);
  high_y = omega (arith, ints);
  buttons = small;
}

-- the next seat may be given a command
pub may_give : (F : Fixed) (m : Machine) (i n buttons : ℕ) → i < n → n ≤ MOST_SEATS → buttons < 2 ^ 8 → has F.start.ids i ≡ true → IsFilled m i n → MayBeGiven F m i (errand_command i buttons)
may_give F m i n buttons below few small live is = record {
  pending = record {
    lives = is.lives i below;
    idle = is.idle i;
    command = record { command = command_is i buttons (omega arith) small; live = live };
    room = is.room i below;
  };
  none = is.none i (omega arith);
  given_apart = λ j d other e. ne_eqb i d.slot (λ same. eqb-false j i other (sym (same ∙ is.own j d e)));
  busy_apart = λ j other busy. absurd (false≢true (sym (ap (λ p. is_busy (stage_of p)) (is.idle j)) ∙ busy));
}

-- the seats after it was given
pub given_more : (F : Fixed) (m : Machine) (i n buttons : ℕ) → IsFilled m i n → IsFilled (with_given m i (errand_command i buttons)) (i + 1) n
given_more F m i n buttons is = record {
  idle = is.idle;
  own = λ j d e. elim (cases_Bool (j == i)) [
    | inl same ↦
        let given : errand_command i buttons ≡ d = same_Some (errand_command i buttons) d (sym (cond-true (j == i) (Some (errand_command i buttons)) (m.given j) same) ∙ e) in
        sym (ap (λ (c : Command). c.slot) given) ∙ sym (eqb-true j i same)
    | inr other ↦ is.own j d (sym (cond-false (j == i) (Some (errand_command i buttons)) (m.given j) other) ∙ e)
  ];
  none = λ j past. cond-false (j == i) (Some (errand_command i buttons)) (m.given j) (ne_eqb j i (λ same. differs j i same past)) ∙ is.none j (omega arith);
  lives = is.lives;
  room = is.room;
}
  where
    differs : (j i : ℕ) → j ≡ i → i + 1 ≤ j → ⊥
    differs j i same past = omega (arith, same, past)
