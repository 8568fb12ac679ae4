-- A seat that gives up.
use Rattle.std.proofs.Common.{◌≡◌, ℕ, ◌<◌, ◌≤◌, true, false, List, map, length, refl, sym, ap, ◌∙◌, subst, Option, Some, None, arith}
use Rattle.core_steps.specs.declared.sizes.TheConstants.{MOST_SEATS}
use Rattle.std.specs.Prelude.{is_some}
use Rattle.std.proofs.lemmas.List.{length-map}
use Rattle.std.proofs.lemmas.Bool.{true≢false, or_parts, eqb-false, ne_eqb, cond-true, cond-false}
use Rattle.entity_recs.specs.declared.rec.Rec.{Rec}
use Rattle.entity_recs.specs.Commands.{Command}
use Rattle.entity_recs.specs.Histories.{Item}
use Rattle.entity_recs.specs.Actions.{IsCommand}
use Rattle.core_steps.specs.Calls.{MayBeGiven, StandsSomehow, has_command, with_quitting}
use Rattle.core_steps.specs.MachineLaws.{hand_of}
use Rattle.core_steps.proofs.SameSeats.{SeatPart, same_seats}
use Rattle.core_steps.proofs.InHand.{steps_bring_no_command, hand_given}
use Rattle.core_seats.specs.Shown.{RulesView}
use Rattle.core_machine.specs.Cores.{CoreView, machine_of}
use Rattle.core_seats.specs.Logs.{entries_of}
use Rattle.core_machine.proofs.Filled.{IsFilled}
use Rattle.core_trials.specs.Hands.{HasOwnCommands}
use Rattle.std.specs.Option.{option_map}
use Rattle.core_steps.specs.declared.step.Step.{Step}
use Rattle.core_steps.specs.Nodes.{Fixed, has}
use Rattle.core_steps.specs.Points.{Point, Idle, stage_of, is_busy}
use Rattle.core_steps.specs.Reads.{View}
use Rattle.core_steps.specs.Machine.{Machine, Next, next_of, next_step_of, step_of, machine_after}
use Rattle.core_steps.proofs.Points.{idle_point, none_in_hand}

step_seat_of : (F : Fixed) (i : ℕ) (view : View) (s : Step) (next : Option Next) → option_map (step_of i view) next ≡ Some s → s.seat ≡ i
step_seat_of F i view s None e = cc
step_seat_of F i view s (Some next) e = let same : step_of i view next ≡ s = cc in ap (λ (t : Step). t.seat) (sym same)

-- a seat's next step is one of this seat
pub step_seat : (F : Fixed) (m : Machine) (i : ℕ) (s : Step) → next_step_of F m i ≡ Some s → s.seat ≡ i
step_seat F m i s e = step_seat_of F i (m.core.view i) s (next_of F m i) e

-- ---- commands of the players with the numbers of their seats

-- a step that a seat makes next
record IsNext (F : Fixed) (m : Machine) (i : ℕ) : Type 0 where
  next : Next
  comes : next_of F m i ≡ Some next

next_there : (F : Fixed) (m : Machine) (i : ℕ) (view : View) (s : Step) (o : Option Next) → next_of F m i ≡ o → option_map (step_of i view) o ≡ Some s → IsNext F m i
next_there F m i view s None e step = cc
next_there F m i view s (Some next) e step = record { next = next; comes = e }

-- they stay so after a step
pub own_after_step : {A : Type 0} (F : Fixed) (old new : CoreView A) (i : ℕ) (s : Step) → StandsSomehow F (machine_of F old) → next_step_of F (machine_of F old) i ≡ Some s
    → ((next : Next) → next_of F (machine_of F old) i ≡ Some next → machine_of F new ≡ machine_after F (machine_of F old) i next)
    → new.rules ≡ old.rules → length new.seats ≡ length old.seats → HasOwnCommands old → HasOwnCommands new
own_after_step {A} F old new i s stands step made rules seats is =
    let m = machine_of F old in
    let there = next_there F m i (m.core.view i) s (next_of F m i) refl step in
    let after = made there.next there.comes in
    let below : (j : ℕ) → j < length new.seats → j < length old.seats = λ j. subst (λ (n : ℕ). j < n) seats in
    record {
      few = subst (λ (n : ℕ). n ≤ MOST_SEATS) (sym seats) is.few;
      lives = λ j b. ap (λ (k : Machine). (k.core.view j).live) after ∙ ap (λ (part : SeatPart). part.live) (same_seats F m.core i there.next j) ∙ is.lives j (below j b);
      room = λ j b. subst (λ (n : ℕ). 0 < n) (sym (ap (λ (k : Machine). (k.core.view j).room) after ∙ ap (λ (part : SeatPart). part.room) (same_seats F m.core i there.next j))) (is.room j (below j b));
      player = λ j b. ap (λ (r : RulesView A). has (map (λ (x : Rec). x.id) r.start) j) rules ∙ is.player j (below j b);
      own = λ j cmd e. is.own j cmd (steps_bring_no_command F m stands.history stands.now i there.next there.comes stands.stands j cmd
          (subst (λ (k : Machine). hand_of (k.given j) (k.core.view j) ≡ Some cmd) after e));
    }

-- and after a seat is asked to give up
pub own_after_quitting : {A : Type 0} (F : Fixed) (old new : CoreView A) (i : ℕ) → machine_of F new ≡ with_quitting (machine_of F old) i → new.rules ≡ old.rules → length new.seats ≡ length old.seats
    → HasOwnCommands old → HasOwnCommands new
own_after_quitting {A} F old new i after rules seats is =
    let below : (j : ℕ) → j < length new.seats → j < length old.seats = λ j. subst (λ (n : ℕ). j < n) seats in
    record {
      few = subst (λ (n : ℕ). n ≤ MOST_SEATS) (sym seats) is.few;
      lives = λ j b. ap (λ (k : Machine). (k.core.view j).live) after ∙ is.lives j (below j b);
      room = λ j b. subst (λ (k : Machine). 0 < (k.core.view j).room) (sym after) (is.room j (below j b));
      player = λ j b. ap (λ (r : RulesView A). has (map (λ (x : Rec). x.id) r.start) j) rules ∙ is.player j (below j b);
      own = λ j cmd e. is.own j cmd (subst (λ (k : Machine). hand_of (k.given j) (k.core.view j) ≡ Some cmd) after e);
    }

-- ---- a seat without a command

busy_hand : (given : Option Command) (view : View) → ((c : Command) → given ≡ Some c → view.point ≡ Idle) → is_busy (stage_of view.point) ≡ true → hand_of given view ≡ Some view.cmd
busy_hand None view pending busy = cond-true (is_busy (stage_of view.point)) (Some view.cmd) None busy
busy_hand (Some c) view pending busy = absurd (true≢false (sym busy ∙ ap (λ (p : Point). is_busy (stage_of p)) (pending c refl)))

no_items : (log : List Item) → length (entries_of log) ≡ 0 → length log ≡ 0
no_items log e = sym (length-map log (λ (item : Item). item.entry)) ∙ e

-- a seat without a command and without an entry may be given one of the player with its number
pub may_give_again : {A : Type 0} (F : Fixed) (c : CoreView A) (i : ℕ) (cmd : Command) → StandsSomehow F (machine_of F c) → HasOwnCommands c → i < length c.seats
    → IsCommand cmd → cmd.slot ≡ i → has F.start.ids i ≡ true → has_command (machine_of F c) i ≡ false → length (entries_of ((machine_of F c).core.view i).log) ≡ 0
    → MayBeGiven F (machine_of F c) i cmd
may_give_again F c i cmd stands is below command slot live free empty =
    let m = machine_of F c in
    let parts = or_parts (is_some (m.given i)) (is_busy (stage_of (m.core.view i).point)) free in
    let log = no_items (m.core.view i).log empty in
    record {
      pending = record {
        lives = is.lives i below;
        idle = idle_point (m.core.view i).point parts.1;
        command = record { command = command; live = subst (λ (n : ℕ). has F.start.ids n ≡ true) (sym slot) live };
        room = subst (λ (n : ℕ). n < (m.core.view i).room) (sym log) (is.room i below);
      };
      none = none_in_hand (m.given i) parts.0;
      given_apart = λ j d other e. ne_eqb cmd.slot d.slot (λ same. eqb-false j i other (sym (is.own j d (hand_given (m.given j) (m.core.view j) d e)) ∙ sym same ∙ slot));
      busy_apart = λ j other busy. ne_eqb cmd.slot (m.core.view j).cmd.slot (λ same. eqb-false j i other
          (sym (is.own j (m.core.view j).cmd (busy_hand (m.given j) (m.core.view j) (λ d e. (stands.stands.pending j d e).idle) busy)) ∙ sym same ∙ slot));
    }

-- ---- seats to which commands were given at the start

given_when_idle : (given : Option Command) (view : View) (c : Command) → view.point ≡ Idle → hand_of given view ≡ Some c → given ≡ Some c
given_when_idle None view c idle e = let none = sym (cond-false (is_busy (stage_of view.point)) (Some view.cmd) None (ap (λ (p : Point). is_busy (stage_of p)) idle)) ∙ e in cc
given_when_idle (Some d) view c idle e = e

pub own_when_filled : {A : Type 0} (F : Fixed) (c : CoreView A) (i n : ℕ) → length c.seats ≡ n → n ≤ MOST_SEATS → ((j : ℕ) → j < n → has (map (λ (r : Rec). r.id) c.rules.start) j ≡ true)
    → IsFilled (machine_of F c) i n → HasOwnCommands c
own_when_filled F c i n seats few player is =
    let m = machine_of F c in
    record {
      few = subst (λ (k : ℕ). k ≤ MOST_SEATS) (sym seats) few;
      lives = λ j below. is.lives j (subst (λ (k : ℕ). j < k) seats below);
      room = λ j below. let room = is.room j (subst (λ (k : ℕ). j < k) seats below) in omega (arith, room);
      player = λ j below. player j (subst (λ (k : ℕ). j < k) seats below);
      own = λ j cmd e. is.own j cmd (given_when_idle (m.given j) (m.core.view j) cmd (is.idle j) e);
    }
