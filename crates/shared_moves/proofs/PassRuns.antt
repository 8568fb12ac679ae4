-- What a move leaves of its pass, by what its hand ran.
use Rattle.std.proofs.Common.{◌≡◌, ℕ, suc, ◌+◌, ◌-◌, ◌<◌, ◌≤◌, List, [], ◌∷◌, ◌++◌, get_or, true, false, if◌then◌else◌, length, refl, sym, ap, ◌∙◌, subst, inl, inr, Option, Some, None, is_some, Result, Ok, Err, arith}
use Rattle.std.specs.Option.{option_map}
use Rattle.std.specs.Result.{OnErr, IsOk}
use Rattle.std.proofs.lemmas.Bool.{cases_Bool, false≢true}
use Rattle.std.proofs.lemmas.List.{length-append, length-map}
use Rattle.std.proofs.lemmas.Option.{same_Some}
use Rattle.atomic_table.specs.Seated.{TableId}
use Rattle.entity_recs.specs.declared.effect.Entry.{Entry}
use Rattle.entity_recs.specs.Commands.{Command}
use Rattle.entity_recs.specs.Histories.{Item}
use Rattle.move_journal.specs.Logs.{JournalView}
use Rattle.world_tree.specs.Nears.{NearView}
use Rattle.core_steps.specs.Nodes.{Fixed}
use Rattle.core_steps.specs.Reads.{Refused}
use Rattle.core_steps.specs.Steps.{is_taking}
use Rattle.core_seats.specs.declared.refusals.Refusals.{Refusals}
use Rattle.core_seats.specs.declared.refusals.Refused as noted
use Rattle.core_seats.specs.Logs.{entries_of}
use Rattle.core_seats.specs.Refusals.{last_of, refused_of}
use Rattle.core_seats.specs.Ready.{is_resolving}
use Rattle.ruled_words.specs.Passes.{PassView, IsPassOf}
use Rattle.ruled_words.specs.Hands.{plain_pass}
use Rattle.ruled_words.specs.declared.setting.Setting.{Setting}
use Rattle.ruled_words.proofs.TriedTakes.{counted_more}
use Rattle.shared_moves.specs.InHand.{MayBegin}
use Rattle.shared_moves.specs.declared.again.Again.{Again}
use Rattle.shared_moves.specs.Moves.{HasRun, IsCause, WasNotRun}
use Rattle.shared_moves.specs.PassParts.{IsKeptBeside}
use Rattle.shared_moves.specs.Runs.{HasMoved, HasLeft}

one_more : (n m k l : ℕ) → n ≡ suc m → k ≡ 0 → l ≡ 0 → n + k ≡ m + l + 1
one_more n m k l is one two = omega (arith, is, one, two)

abbrev count_given : Option Command → ℕ
count_given o = if is_some o then 1 else 0

none_given : (o : Option Command) → o ≡ None → count_given o ≡ 0
none_given o none = ap count_given none

module _ (F : Fixed) (passes : ℕ) (table : TableId) (p : PassView) (own : IsPassOf F passes table p) (free : MayBegin p) where
  quits_not : p.quits ≡ false
  quits_not = elim (cases_Bool p.quits) [
    | inl quits ↦ absurd (false≢true (sym (ap is_taking free.idle) ∙ own.may_quit quits))
    | inr not ↦ not
  ]

  -- a pass that rests is that of its hand
  hand_is : plain_pass p ≡ p
  hand_is = λ i. record p {
    given = sym free.none i;
    quits = sym quits_not i;
    effect = sym (own.only_resolving (ap is_resolving free.idle)) i;
  }

  pub hand_own : IsPassOf F passes table (plain_pass p)
  hand_own = subst (IsPassOf F passes table) (sym hand_is) own

  module _ (new : PassView) (c : Command) (e : Entry) (moved : HasMoved c e p new) (own_new : IsPassOf F passes table new) where
    pub pass_ran : HasRun F passes table p new c e
    pass_ran = record {
      own = own_new;
      rests = record { given = ap (λ (q : PassView). q.given) moved.hand; idle = ap (λ (q : PassView). q.view.point) moved.hand };
      number = ap (λ (q : PassView). q.number) moved.hand;
      room = ap (λ (q : PassView). q.view.room) moved.hand;
      log = ap (λ (q : PassView). q.view.log) moved.hand;
      slot = moved.slot;
      seq = moved.seq;
      place = moved.place;
      seen = ap (λ (q : PassView). q.view.seen) moved.hand ∙ next_is e.place;
      given = one_more new.tally.begun p.tally.begun _ _ moved.begun (none_given new.given (ap (λ (q : PassView). q.given) moved.hand)) (none_given p.given free.none);
      listed = moved.listed;
      counted = counted_more p new moved.listed own.counted own_new.counted;
    }
      where
        next_is : (n : ℕ) → suc n ≡ n + 1
        next_is n = omega arith

  -- the command was given up
  pub was_not_run : (new : PassView) (c : Command) (a : Again) (left : HasLeft F passes c p new) → IsPassOf F passes table new → IsCause F passes p.number c left.r a → WasNotRun F passes table p new c a
  was_not_run new c a left own_new cause = record {
    own = own_new;
    rests = record { given = ap (λ (q : PassView). q.given) left.hand; idle = ap (λ (q : PassView). q.view.point) left.hand };
    number = ap (λ (q : PassView). q.number) left.hand;
    room = ap (λ (q : PassView). q.view.room) left.hand;
    log = ap (λ (q : PassView). q.view.log) left.hand;
    seen = left.seen;
    given = one_more new.tally.begun p.tally.begun _ _ left.begun (none_given new.given (ap (λ (q : PassView). q.given) left.hand)) (none_given p.given free.none);
    counted = ap (λ (q : PassView). q.view.refusals) left.hand;
    r = left.r;
    kept = ap (λ (q : PassView). q.view.refused) left.hand;
    listed = left.listed;
    fault = subst (λ (n : ℕ). IsCause F passes n c left.r a) (sym (ap (λ (q : PassView). q.number) left.hand)) cause;
  }

-- the near list has room for all that a move can touch
pub near_room : (F : Fixed) (passes : ℕ) (table : TableId) (p : PassView) (log : JournalView) (refusals : Refusals) (near : NearView) → IsPassOf F passes table p
    → IsKeptBeside p log refusals near → 64 + length F.start.ids ≤ near.room
near_room F passes table p log refusals near own kept =
    let records = ap (λ (s : Setting). s.records) own.at_setting in
    let fits = kept.near_fits in
    omega (arith, records, fits)

-- ---- as the code has it

-- a walk that waits isn't given up
pub waits_on : {T E : Type 0} (r : Result T E) → OnErr r (true ≡ false) → IsOk r
waits_on (Ok x) err = refl
waits_on (Err e) err = absurd (false≢true (sym err))

-- the last refused take in plain values is the one in view
pub is_noted : (r : Refusals) (o : Refused) (x : noted.Refused) → last_of r ≡ Some o → Some x ≡ r.last → refused_of x ≡ o
is_noted r o x last is = same_Some (refused_of x) o (ap (option_map refused_of) is ∙ last)

-- ---- the log's last entry

pub as_many_entries : (log : List Item) → length (entries_of log) ≡ length log
as_many_entries log = length-map log (λ (item : Item). item.entry)

pub some_logged : (earlier : List Item) (i : Item) → 0 < length (earlier ++ i ∷ [])
some_logged earlier i = let long = length-append earlier (i ∷ []) in omega (arith, long)

pub last_logged : (earlier : List Item) (i : Item) (d : Entry) → get_or (entries_of (earlier ++ i ∷ [])) (length (entries_of (earlier ++ i ∷ [])) - 1) d ≡ i.entry
last_logged [] i d = refl
last_logged (x ∷ earlier) i d =
    let rest = entries_of (earlier ++ i ∷ []) in
    let size = as_many_entries (earlier ++ i ∷ []) in
    let some = some_logged earlier i in
    let at : suc (length rest) - 1 ≡ suc (length rest - 1) = omega (arith, size, some) in
    ap (λ (n : ℕ). get_or (x.entry ∷ rest) n d) at ∙ last_logged earlier i d
