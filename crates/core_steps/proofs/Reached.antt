-- The machine from its start on: whatever calls are made, it stands.
use Rattle.std.proofs.Common.{◌≡◌, ℕ, suc, Bool, true, false, List, [], ◌∷◌, ◌++◌, refl, sym, ap, ◌∙◌, subst, inl, inr, Option, Some, None}
use Rattle.std.specs.Prelude.{◌==◌}
use Rattle.std.proofs.lemmas.Bool.{cases_Bool, false≢true, true≢false, eqb-true, eq-eqb, cond-true, cond-false}
use Rattle.std.proofs.lemmas.Option.{same_Some}
use Rattle.entity_recs.specs.Commands.{Command}
use Rattle.entity_recs.specs.Worlds.{World}
use Rattle.entity_recs.specs.Histories.{Item, run}
use Rattle.core_steps.specs.Cells.{put}
use Rattle.core_steps.specs.Nodes.{Fixed}
use Rattle.core_steps.specs.Points.{Point, Idle, stage_of, is_whole}
use Rattle.core_steps.specs.Reads.{View, new_view, spent}
use Rattle.core_steps.specs.Steps.{Core, is_taking, make_seat}
use Rattle.core_steps.specs.Stands.{IsStart, IsLawful, Stands, start_core}
use Rattle.core_steps.specs.Machine.{Machine, Next, next_of, items_after, IsPending, SomeIsLeft, ViewFits}
use Rattle.core_steps.specs.Calls.{with_seats, start_machine, Call, Give, Go, GiveUp, gone_on, after_call, MayBeCalled, after_calls, MayAllBeCalled, StandsSomehow}
use Rattle.core_steps.specs.MachineLaws.{MachineStartStands, GivenCommandStands, QuittingStands, EachMachineStands}
use Rattle.core_steps.proofs.Puts.{each_put, put_other, eqb_sym}
use Rattle.core_steps.proofs.Starts.{start_stands}
use Rattle.core_steps.proofs.Seats.{made_seat_stands}
use Rattle.core_steps.proofs.Machines.{fits_none}
use Rattle.core_steps.proofs.NextSteps.{next_step_stands}

-- ---- the start

-- no seat has a command in view, and seat 0 is there
record AllRest (F : Fixed) (core : Core) : Type 0 where
  lives : (core.view 0).live ≡ true
  idle : (i : ℕ) → (core.view i).point ≡ Idle
  fits : (i : ℕ) → ViewFits F (core.view i)
  log : (i : ℕ) → (core.view i).log ≡ []

rest_at_start : (F : Fixed) (room : ℕ) → AllRest F (start_core F room)
rest_at_start F room = record {
  lives = refl;
  idle = λ i. elim (cases_Bool (i == 0)) [
    | inl e ↦ ap (λ (v : View). v.point) (cond-true (i == 0) (record (new_view room) { made = 1 }) spent e)
    | inr e ↦ ap (λ (v : View). v.point) (cond-false (i == 0) (record (new_view room) { made = 1 }) spent e)
  ];
  fits = λ i. elim (cases_Bool (i == 0)) [
    | inl e ↦ subst (ViewFits F) (sym (cond-true (i == 0) (record (new_view room) { made = 1 }) spent e)) (fits_none F)
    | inr e ↦ subst (ViewFits F) (sym (cond-false (i == 0) (record (new_view room) { made = 1 }) spent e)) (fits_none F)
  ];
  log = λ i. elim (cases_Bool (i == 0)) [
    | inl e ↦ ap (λ (v : View). v.log) (cond-true (i == 0) (record (new_view room) { made = 1 }) spent e)
    | inr e ↦ ap (λ (v : View). v.log) (cond-false (i == 0) (record (new_view room) { made = 1 }) spent e)
  ];
}

same_fits : (F : Fixed) (core : Core) → ViewFits F (core.view 0) → ViewFits F (record (core.view 0) { made = suc (core.view 0).made })
same_fits F core is = is

rest_made : (F : Fixed) (core : Core) (room : ℕ) → AllRest F core → AllRest F (make_seat core room)
rest_made F core room is =
    let made = (core.view 0).made in
    let zeroth = record (core.view 0) { made = suc made } in
    record {
      lives = each_put (λ (n : ℕ) (v : View). n ≡ 0 → v.live ≡ true) made (new_view room) (put 0 zeroth core.view) (λ _. refl)
          (λ n _. each_put (λ (k : ℕ) (v : View). k ≡ 0 → v.live ≡ true) 0 zeroth core.view (λ _. is.lives) (λ k _ e. subst (λ (j : ℕ). (core.view j).live ≡ true) (sym e) is.lives) n) 0 refl;
      idle = each_put (λ (n : ℕ) (v : View). v.point ≡ Idle) made (new_view room) (put 0 zeroth core.view) refl
          (λ n _. each_put (λ (k : ℕ) (v : View). v.point ≡ Idle) 0 zeroth core.view (is.idle 0) (λ k _. is.idle k) n);
      fits = each_put (λ (n : ℕ) (v : View). ViewFits F v) made (new_view room) (put 0 zeroth core.view) (fits_none F)
          (λ n _. each_put (λ (k : ℕ) (v : View). ViewFits F v) 0 zeroth core.view (same_fits F core (is.fits 0)) (λ k _. is.fits k) n);
      log = each_put (λ (n : ℕ) (v : View). v.log ≡ []) made (new_view room) (put 0 zeroth core.view) refl
          (λ n _. each_put (λ (k : ℕ) (v : View). v.log ≡ []) 0 zeroth core.view (is.log 0) (λ k _. is.log k) n);
    }

-- a core stands whose seats all rest
record StandsAtRest (F : Fixed) (core : Core) (history : List Item) (now : World) : Type 0 where
  stands : Stands F core history now
  rest : AllRest F core

seats_made : (F : Fixed) (core : Core) (history : List Item) (now : World) (rooms : List ℕ) → StandsAtRest F core history now → StandsAtRest F (with_seats core rooms) history now
seats_made F core history now [] is = is
seats_made F core history now (room ∷ rooms) is = seats_made F (make_seat core room) history now rooms (record {
  stands = made_seat_stands F core history now room (record { lives = is.rest.lives; idle = is.rest.idle 0 }) is.stands;
  rest = rest_made F core room is.rest;
})

no_command_yet : {R : Type 0} (c : Command) → None ≡ Some c → R
no_command_yet c e = cc

made_at_start : (F : Fixed) (room : ℕ) (rooms : List ℕ) → StandsAtRest F (with_seats (start_core F room) rooms) [] F.start
made_at_start F room rooms = seats_made F (start_core F room) [] F.start rooms (record { stands = start_stands F room; rest = rest_at_start F room })

-- at the start each seat rests, and its log is empty
pub idle_at_start : (F : Fixed) (room : ℕ) (rooms : List ℕ) (i : ℕ) → ((with_seats (start_core F room) rooms).view i).point ≡ Idle
idle_at_start F room rooms i = (made_at_start F room rooms).rest.idle i

pub log_at_start : (F : Fixed) (room : ℕ) (rooms : List ℕ) (i : ℕ) → ((with_seats (start_core F room) rooms).view i).log ≡ []
log_at_start F room rooms i = (made_at_start F room rooms).rest.log i

pub machine_start_stands : MachineStartStands
machine_start_stands F room rooms =
    let core = with_seats (start_core F room) rooms in
    let is = seats_made F (start_core F room) [] F.start rooms (record { stands = start_stands F room; rest = rest_at_start F room }) in
    record {
      core = is.stands;
      pending = λ i c e. no_command_yet c e;
      given_apart = λ i j c d other e f. no_command_yet c e;
      busy_apart = λ i j c other e busy. no_command_yet c e;
      quits = λ i e. absurd (false≢true e);
      next = λ i. record {
        some_wanted = λ whole. absurd (false≢true (ap (λ (p : Point). is_whole (stage_of p)) (sym (is.rest.idle i)) ∙ whole));
        left = subst (λ (p : Point). SomeIsLeft p (core.view i).wanted) (sym (is.rest.idle i)) tt;
      };
      fits = is.rest.fits;
    }

-- ---- calls that make no step

-- what holds of the commands that are given, where one more is
given_put : (given : ℕ → Option Command) (i : ℕ) (c : Command) (P : ℕ → Command → Type 0) → P i c → ((j : ℕ) (d : Command) → (j == i) ≡ false → given j ≡ Some d → P j d)
    → (j : ℕ) (d : Command) → put i (Some c) given j ≡ Some d → P j d
given_put given i c P here others j d e =
    elim (cases_Bool (j == i)) [
      | inl same ↦
          let equal : c ≡ d = same_Some c d (sym (cond-true (j == i) (Some c) (given j) same) ∙ e) in
          subst (λ (n : ℕ). P n d) (sym (eqb-true j i same)) (subst (P i) equal here)
      | inr other ↦ others j d other (sym (put_other i j (Some c) given other) ∙ e)
    ]

pub given_command_stands : GivenCommandStands
given_command_stands F m history now i c may is = record {
  core = is.core;
  pending = given_put m.given i c (λ (j : ℕ) (d : Command). IsPending F (m.core.view j) d) may.pending (λ j d _ e. is.pending j d e);
  given_apart = λ j k d f differ e g.
      given_put m.given i c (λ (n : ℕ) (x : Command). (n == k) ≡ false → (x.slot == f.slot) ≡ false)
      (λ other. given_put m.given i c (λ (n : ℕ) (x : Command). (i == n) ≡ false → (c.slot == x.slot) ≡ false)
      (λ same. absurd (true≢false (sym (eq-eqb i i refl) ∙ same))) (λ n x away h _. may.given_apart n x away h) k f g other)
      (λ n x away h. given_put m.given i c (λ (l : ℕ) (y : Command). (n == l) ≡ false → (x.slot == y.slot) ≡ false)
      (λ _. eqb_sym c.slot x.slot (may.given_apart n x away h)) (λ l y _ there apart. is.given_apart n l x y apart h there) k f g)
      j d e differ;
  busy_apart = λ j k d differ e busy.
      given_put m.given i c (λ (n : ℕ) (x : Command). (n == k) ≡ false → (x.slot == (m.core.view k).cmd.slot) ≡ false)
      (λ other. may.busy_apart k (eqb_sym i k other) busy) (λ n x _ h other. is.busy_apart n k x other h busy) j d e differ;
  quits = is.quits;
  next = is.next;
  fits = is.fits;
}

pub quitting_stands : QuittingStands
quitting_stands F m history now i takes is = record {
  core = is.core;
  pending = is.pending;
  given_apart = is.given_apart;
  busy_apart = is.busy_apart;
  quits = each_put (λ (j : ℕ) (b : Bool). b ≡ true → is_taking (m.core.view j).point ≡ true) i true m.quits (λ _. takes) (λ j _. is.quits j);
  next = is.next;
  fits = is.fits;
}

-- ---- all calls

stands_gone_on : (F : Fixed) (m : Machine) (i : ℕ) (next : Option Next) → IsLawful F → IsStart F → next_of F m i ≡ next → StandsSomehow F m → StandsSomehow F (gone_on F m i next)
stands_gone_on F m i None lawful start e is = is
stands_gone_on F m i (Some next) lawful start e is = record {
  history = is.history ++ items_after m.core i next;
  now = run F.effect_of is.now (items_after m.core i next);
  stands = next_step_stands F m is.history is.now i next lawful start e is.stands;
}

pub stands_called : (F : Fixed) (m : Machine) (call : Call) → IsLawful F → IsStart F → MayBeCalled F m call → StandsSomehow F m → StandsSomehow F (after_call F m call)
stands_called F m (Give i c) lawful start may is = record { history = is.history; now = is.now; stands = given_command_stands F m is.history is.now i c may is.stands }
stands_called F m (Go i) lawful start may is = stands_gone_on F m i (next_of F m i) lawful start refl is
stands_called F m (GiveUp i) lawful start may is = record { history = is.history; now = is.now; stands = quitting_stands F m is.history is.now i may is.stands }

stands_after_calls : (F : Fixed) (m : Machine) (calls : List Call) → IsLawful F → IsStart F → MayAllBeCalled F m calls → StandsSomehow F m → StandsSomehow F (after_calls F m calls)
stands_after_calls F m [] lawful start may is = is
stands_after_calls F m (call ∷ calls) lawful start may is = stands_after_calls F (after_call F m call) calls lawful start may.1 (stands_called F m call lawful start may.0 is)

pub each_machine_stands : EachMachineStands
each_machine_stands F room rooms calls lawful start may =
    stands_after_calls F (start_machine F room rooms) calls lawful start may (record { history = []; now = F.start; stands = machine_start_stands F room rooms })
