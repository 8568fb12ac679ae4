-- What a move as one walk leaves of its pass: the hand, and the seat in plain values after it.
use Rattle.std.proofs.Common.{◌≡◌, ℕ, suc, ◌≤◌, false, [], ◌∷◌, ◌++◌, sym, ap, ◌∙◌, subst, inl, inr, Option, None, arith}
use Rattle.std.proofs.lemmas.Bool.{cases_Bool, false≢true}
use Rattle.atomic_table.specs.Seated.{TableId}
use Rattle.entity_recs.specs.declared.effect.Effect.{Effect}
use Rattle.entity_recs.specs.declared.effect.Entry.{Entry}
use Rattle.entity_recs.specs.Commands.{Command}
use Rattle.core_steps.specs.Nodes.{Fixed}
use Rattle.core_steps.specs.Reads.{View, without_command}
use Rattle.core_steps.specs.Steps.{is_taking}
use Rattle.core_seats.specs.declared.refusals.Refusals.{Refusals}
use Rattle.core_seats.specs.Refusals.{AreRefusals, last_of}
use Rattle.core_seats.specs.Ready.{is_resolving}
use Rattle.core_machine.specs.declared.seat.Seat as seats
use Rattle.core_machine.specs.Seats.{view_of, given_of}
use Rattle.ruled_words.specs.Passes.{PassView, IsPassOf}
use Rattle.ruled_words.specs.Hands.{plain_pass}
use Rattle.ruled_words.specs.Going.{view_looked}
use Rattle.ruled_words.specs.GivingUp.{NoTakeWasRefused, view_after_giving_up}
use Rattle.ruled_words.specs.Straight.{in_view_with}
use Rattle.shared_moves.specs.declared.again.Again.{Again}
use Rattle.shared_moves.specs.InHand.{MayBegin, item_of}
use Rattle.shared_moves.specs.Moves.{HasRun, IsCause, WasNotRun}
use Rattle.shared_moves.specs.Runs.{HasMoved, HasLeft, done_with}
use Rattle.shared_moves.proofs.PassRuns.{pass_ran, was_not_run}
use Rattle.region_locks.specs.PassLists.{pass_view}

-- ---- the seat in plain values

-- after a move that was run: its command is forgotten, its refusals and its log are those of the view
pub seat_done : (c : Command) (e : Entry) (r : Refusals) (start hand done forgot after : View) → start ≡ hand → forgot ≡ without_command start → AreRefusals r done
    → after ≡ record forgot { refusals = r.count; refused = last_of r; log = forgot.log ++ item_of c e ∷ []; seen = suc e.place }
    → after ≡ done_with c e hand done
seat_done c e r start hand done forgot after same forgets are kept =
    kept
    ∙ ap (λ (v : View). record v { refusals = r.count; refused = last_of r; log = v.log ++ item_of c e ∷ []; seen = suc e.place }) (forgets ∙ ap without_command same)
    ∙ (λ i. record (without_command hand) { refusals = are.count i; refused = are.last i; log = hand.log ++ item_of c e ∷ []; seen = suc e.place })

-- after a move that was given up: it has seen the count that the hand looked at
pub seat_left : (F : Fixed) (passes : ℕ) (c : Command) (r : Refusals) (found : ℕ) (start forgot : View) (hand new : PassView) → start ≡ hand.view → forgot ≡ without_command start
    → HasLeft F passes c hand new → AreRefusals r new.view
    → record forgot { refusals = r.count; refused = last_of r; seen = found } ≡ view_looked found new.view
seat_left F passes c r found start forgot hand new same forgets left are =
    let view : new.view ≡ view_after_giving_up left.r new.view.seen hand.view = ap (λ (q : PassView). q.view) left.hand in
    ap (λ (v : View). record v { refusals = r.count; refused = last_of r; seen = found }) (forgets ∙ ap without_command same)
    ∙ (λ i. record (without_command hand.view) { refusals = are.count i; refused = are.last i; seen = found })
    ∙ ap (λ (v : View). record (without_command hand.view) { refusals = v.refusals; refused = v.refused; seen = found }) view
    ∙ sym (ap (view_looked found) view)

-- ---- the hand

-- a hand that gave up has left its command also once it has looked at the count
pub left_looked : (F : Fixed) (passes : ℕ) (c : Command) (hand new looked : PassView) (found : ℕ) → HasLeft F passes c hand new → looked ≡ record new { view = view_looked found new.view }
    → new.view.seen ≤ found → HasLeft F passes c (plain_pass hand) looked
left_looked F passes c hand new looked found left is more = record {
  r = left.r;
  holder = left.holder;
  leaves = left.leaves;
  fault = left.fault;
  seen = let before = left.seen in let now = ap (λ (q : PassView). q.view.seen) is in omega (arith, before, more, now);
  hand = is ∙ ap (λ (q : PassView). record q { view = view_looked found q.view }) left.hand
      ∙ (λ i. in_view_with hand (view_after_giving_up left.r (sym (ap (λ (q : PassView). q.view.seen) is) i) hand.view) (sym (ap (λ (q : PassView). q.tally) is) i));
  begun = ap (λ (q : PassView). q.tally.begun) is ∙ left.begun;
  listed = ap (λ (q : PassView). q.tally.refused) is ∙ left.listed;
}

module _ (F : Fixed) (passes : ℕ) (table : TableId) (p hand : PassView) (seat : seats.Seat) (effect : Option Effect)
    (is : pass_view hand seat effect ≡ p) (same : view_of seat ≡ hand.view) (own : IsPassOf F passes table p) (free : MayBegin p) where
  quits_not : p.quits ≡ false
  quits_not = elim (cases_Bool p.quits) [
    | inl quits ↦ absurd (false≢true (sym (ap is_taking free.idle) ∙ own.may_quit quits))
    | inr not ↦ not
  ]

  none_kept : p.effect ≡ None
  none_kept = own.only_resolving (ap is_resolving free.idle)

  -- a pass that rests is that of its hand
  pub hand_is : plain_pass hand ≡ p
  hand_is =
      (λ i. record hand {
        given = sym (ap (λ (q : PassView). q.given) is ∙ free.none) i;
        quits = sym (ap (λ (q : PassView). q.quits) is ∙ quits_not) i;
        effect = sym (ap (λ (q : PassView). q.effect) is ∙ none_kept) i;
        view = sym same i;
      })
      ∙ is

  pub plain_own : IsPassOf F passes table (plain_pass hand)
  plain_own = subst (IsPassOf F passes table) (sym hand_is) own

  plain_free : MayBegin (plain_pass hand)
  plain_free = subst MayBegin (sym hand_is) free

  -- the pass of a hand that has done its command, with the same seat in plain values, is the hand
  pub done_is : (done : PassView) (after : seats.Seat) → done.given ≡ None → done.quits ≡ false → done.effect ≡ None → given_of after ≡ given_of seat → after.quits ≡ seat.quits → view_of after ≡ done.view
      → done ≡ pass_view done after effect
  done_is done after none not nothing given quits follows = λ i. record done {
    given = (none ∙ sym (given ∙ ap (λ (q : PassView). q.given) is ∙ free.none)) i;
    quits = (not ∙ sym (quits ∙ ap (λ (q : PassView). q.quits) is ∙ quits_not)) i;
    effect = (nothing ∙ sym (ap (λ (q : PassView). q.effect) is ∙ none_kept)) i;
    view = sym follows i;
  }

  -- the command was run
  pub has_run : (done : PassView) (after : seats.Seat) (c : Command) (e : Entry) → HasMoved c e hand done → IsPassOf F passes table done → given_of after ≡ given_of seat → after.quits ≡ seat.quits
      → view_of after ≡ done_with c e hand.view done.view → HasRun F passes table p (pass_view done after effect) c e
  has_run done after c e moved own_done given quits follows =
      let done_pass = done_is done after (ap (λ (q : PassView). q.given) moved.hand) (ap (λ (q : PassView). q.quits) moved.hand) (ap (λ (q : PassView). q.effect) moved.hand) given quits
      (follows ∙ sym (ap (λ (q : PassView). q.view) moved.hand)) in
      let ran : HasRun F passes table (plain_pass hand) done c e = pass_ran F passes table (plain_pass hand) plain_own plain_free done c e (record {
        hand = moved.hand;
        begun = moved.begun;
        listed = moved.listed;
        slot = moved.slot;
        seq = moved.seq;
        place = moved.place;
        small = moved.small;
      }) own_done in
      subst (λ (q : PassView). HasRun F passes table p q c e) done_pass (subst (λ (q : PassView). HasRun F passes table q done c e) hand_is ran)

  -- and no take was refused
  pub none_refused : (done : PassView) (after : seats.Seat) → NoTakeWasRefused hand done → view_of after ≡ done.view → NoTakeWasRefused p (pass_view done after effect)
  none_refused done after none follows = record {
    refusals = ap (λ (v : View). v.refusals) follows ∙ none.refusals ∙ ap (λ (q : PassView). q.view.refusals) hand_is;
    refused = ap (λ (v : View). v.refused) follows ∙ none.refused ∙ ap (λ (q : PassView). q.view.refused) hand_is;
    listed = none.listed ∙ ap (λ (q : PassView). q.tally.refused) hand_is;
  }

  -- the command wasn't run
  pub was_left : (looked : PassView) (after : seats.Seat) (c : Command) (a : Again) (left : HasLeft F passes c (plain_pass hand) looked) → IsPassOf F passes table looked → IsCause F passes hand.number c left.r a
      → given_of after ≡ given_of seat → after.quits ≡ seat.quits → view_of after ≡ looked.view → WasNotRun F passes table p (pass_view looked after effect) c a
  was_left looked after c a left own_looked cause given quits follows =
      let looked_pass = done_is looked after (ap (λ (q : PassView). q.given) left.hand) (ap (λ (q : PassView). q.quits) left.hand) (ap (λ (q : PassView). q.effect) left.hand) given quits follows in
      let not_run : WasNotRun F passes table (plain_pass hand) looked c a = was_not_run F passes table (plain_pass hand) plain_own plain_free looked c a left own_looked cause in
      subst (λ (q : PassView). WasNotRun F passes table p q c a) looked_pass (subst (λ (q : PassView). WasNotRun F passes table q looked c a) hand_is not_run)
