-- A step of the core, made on the words of the table, keeps the rule.
use Rattle.std.proofs.Common.{◌≡◌, ℕ, ◌%◌, ◌^◌, ◌<◌, ◌≤◌, Bool, true, false, if◌then◌else◌, List, [], ◌++◌, length, refl, sym, ap, ◌∙◌, subst, inl, inr, Option, Some, None, slice_index, slice_set, All, length-set, get_or-set_same, get_or-set_other}
use Rattle.std.specs.Prelude.{◌==◌}
use mathlib.Core.Option as maybe
use lib.ListN.{get_elem?}
use Rattle.std.proofs.lemmas.Bool.{cases_Bool, false≢true, eqb-true, eqb-false, ne_eqb}
use Rattle.core_steps.specs.declared.sizes.TheConstants.{TABLE_WORDS}
use Rattle.atomic_table.specs.Table.{State, keeps, stepped}
use Rattle.atomic_table.proofs.Lists.{at_set}
use Rattle.entity_recs.specs.Commands.{Command}
use Rattle.entity_recs.specs.Worlds.{World}
use Rattle.entity_recs.specs.Histories.{Item, run}
use Rattle.core_steps.specs.Cells.{put, word_at}
use Rattle.core_steps.specs.Nodes.{Fixed}
use Rattle.core_steps.specs.Points.{stage_of, is_busy}
use Rattle.core_steps.specs.Reads.{Ended, View}
use Rattle.core_steps.specs.Steps.{Core, first_yield, is_taking}
use Rattle.core_steps.specs.Machine.{Machine, Next, quitting, next_at, next_of, machine_after, core_after, items_after, index_of, word_of_next, IsPending, MachineStands}
use Rattle.core_steps.specs.MachineLaws.{HasItsWord}
use Rattle.core_steps.proofs.Puts.{each_put, put_same, put_other}
use Rattle.core_steps.proofs.NextSteps.{next_step_stands}
use Rattle.core_steps.proofs.TableWords.{steps_have_their_word}
use Rattle.core_steps.proofs.TreeNodes.{each_tree_fits}
use Rattle.core_steps.proofs.OneWord.{steps_change_one_word}
use Rattle.core_steps.proofs.Kept.{other_view}
use Rattle.ruled_words.specs.Sights.{SightView, sight_found}
use Rattle.ruled_words.specs.Going.{next_asked, MayGo}
use Rattle.core_seats.specs.Going.{view_found, word_left}
use Rattle.ruled_words.specs.Rule.{at_rest, HasWords, HasSeats, ServesItsSlots, HasRooms, IsRuled}
use Rattle.core_seats.proofs.Changing.{view_here, word_here}
use Rattle.ruled_words.proofs.Takings.{takes_step}
use Rattle.ruled_words.proofs.Views.{command_next, keeps_found, asked_is}

none_given : {R : Type 0} (c : Command) → None ≡ Some c → R
none_given c e = cc

-- a machine that stands, stands without what was given and asked
pub rested : (F : Fixed) (m : Machine) (history : List Item) (now : World) → MachineStands F m history now → MachineStands F (at_rest m.core) history now
rested F m history now is = record {
  core = is.core;
  pending = λ i c e. none_given c e;
  given_apart = λ i j c d differ e f. none_given c e;
  busy_apart = λ i j c differ e busy. none_given c e;
  quits = λ i q. absurd (false≢true q);
  next = is.next;
  fits = is.fits;
}

-- the machine of which one seat is given a command or is asked to give up
abbrev pub asked : Core → ℕ → Option Command → Bool → Machine
asked core i given quits = record { core = core; given = put i given (λ j. None); quits = put i quits (λ j. false) }

record IsGivenTo (given : Option Command) (i j : ℕ) (c : Command) : Type 0 where
  here : j ≡ i
  is : given ≡ Some c

given_to : (given : Option Command) (i j : ℕ) (c : Command) → put i given (λ k. None) j ≡ Some c → IsGivenTo given i j c
given_to given i j c e =
    elim (cases_Bool (j == i)) [
      | inl same ↦ record { here = eqb-true j i same; is = sym (subst (λ (k : ℕ). put i given (λ n. None) k ≡ given) (sym (eqb-true j i same)) (put_same i given (λ n. None))) ∙ e }
      | inr other ↦ none_given c (sym (put_other i j given (λ n. None) other) ∙ e)
    ]

pub stands_asked : (F : Fixed) (passes : ℕ) (core : Core) (history : List Item) (now : World) (i : ℕ) (given : Option Command) (quits : Bool)
    → MachineStands F (at_rest core) history now → ServesItsSlots passes core
    → ((c : Command) → given ≡ Some c → IsPending F (core.view i) c)
    → ((c : Command) → given ≡ Some c → c.slot % passes ≡ i)
    → (quits ≡ true → is_taking (core.view i).point ≡ true)
    → MachineStands F (asked core i given quits) history now
stands_asked F passes core history now i given quits is serves pending own at_take = record {
  core = is.core;
  pending = λ j c e.
      let to = given_to given i j c e in
      subst (λ (k : ℕ). IsPending F (core.view k) c) (sym to.here) (pending c to.is);
  given_apart = λ j k c d differ e f. absurd (eqb-false j k differ ((given_to given i j c e).here ∙ sym (given_to given i k d f).here));
  busy_apart = λ j k c differ e busy.
      let to = given_to given i j c e in
      ne_eqb c.slot (core.view k).cmd.slot (λ same.
      eqb-false j k differ (to.here ∙ sym (own c to.is) ∙ ap (λ (n : ℕ). n % passes) same ∙ serves k busy));
  quits = each_put (λ (j : ℕ) (b : Bool). b ≡ true → is_taking (core.view j).point ≡ true) i quits (λ j. false) at_take (λ j other q. absurd (false≢true q));
  next = is.next;
  fits = is.fits;
}

asked_next : (F : Fixed) (core : Core) (i : ℕ) (given : Option Command) (quits : Bool) → next_of F (asked core i given quits) i ≡ next_asked F (core.view i) given quits
asked_next F core i given quits =
    let view = core.view i in
    ap (λ (q : Bool). if q then Some (quitting (first_yield F view)) else next_at F view (put i given (λ j. None) i) view.point) (put_same i quits (λ j. false))
    ∙ ap (λ (o : Option Command). if quits then Some (quitting (first_yield F view)) else next_at F view o view.point) (put_same i given (λ j. None))

module _ (F : Fixed) (rooms : List ℕ) (s : State (Unit {0}) SightView) (r : IsRuled F rooms s) (i : ℕ) (sight : SightView) (at : get_elem? s.views i ≡ maybe.some sight) where
  -- a seat that lives is at the place of its number
  pub number_is : sight.view.live ≡ true → sight.number ≡ i
  number_is lives = r.seats.number i sight at lives

  seen : r.core.view i ≡ sight.view
  seen = r.seats.view i sight at

  module _ (given : Option Command) (quits : Bool) (next : Next) (may : MayGo F (length rooms) sight.number sight.view given quits next) where
    here : sight.number ≡ i
    here = number_is may.lives

    abbrev V : View
    V = r.core.view i

    abbrev after : Core
    after = core_after F r.core i next

    may_here : MayGo F (length rooms) i V given quits next
    may_here = subst (λ (v : View). MayGo F (length rooms) i v given quits next) (sym seen) (subst (λ (n : ℕ). MayGo F (length rooms) n sight.view given quits next) here may)

    pub stands_before : MachineStands F (asked r.core i given quits) r.history r.now
    stands_before = stands_asked F (length rooms) r.core r.history r.now i given quits r.stands r.serves may_here.pending may_here.serves may_here.at_take

    comes : next_of F (asked r.core i given quits) i ≡ Some next
    comes = asked_next F r.core i given quits ∙ may_here.comes

    pub stands_after : MachineStands F (at_rest after) (r.history ++ items_after r.core i next) (run F.effect_of r.now (items_after r.core i next))
    stands_after = rested F (machine_after F (asked r.core i given quits) i next) _ _ (next_step_stands F (asked r.core i given quits) r.history r.now i next r.lawful r.start comes stands_before)

    has_word : HasItsWord F r.core i next
    has_word = steps_have_their_word F (asked r.core i given quits) r.history r.now i next r.lawful r.start (each_tree_fits F r.depth) comes stands_before

    abbrev index : ℕ
    index = index_of V next

    in_table : index < TABLE_WORDS
    in_table = has_word.in_table

    before_word : word_at r.core.words index ≡ word_of_next r.core.words V next
    before_word = has_word.before

    after_word : word_at after.words index ≡ word_of_next after.words V next
    after_word = has_word.after

    other_words : (k : ℕ) → (k == index) ≡ false → word_at after.words k ≡ word_at r.core.words k
    other_words k other = steps_change_one_word F r.core i k next other

    pub found_is : slice_index s.words index ≡ word_of_next r.core.words V next
    found_is = r.words.each index in_table ∙ before_word

    abbrev new : SightView
    new = sight_found F (record { number = sight.number; view = V; tally = sight.tally }) next (slice_index s.words index)

    new_is : after.view i ≡ new.view
    new_is = view_here F r.core i next ∙ ap (λ (n : ℕ). view_found F V next n) (sym found_is)

    words_after : (left : ℕ) → left ≡ word_left F i V next (slice_index s.words index) → HasWords (slice_set s.words index left) after
    words_after left is = record {
      count = length-set s.words index left ∙ r.words.count;
      each = λ k below. elim (cases_Bool (k == index)) [
        | inl same ↦
            let at_index : slice_index (slice_set s.words index left) index ≡ left = get_or-set_same s.words index left 0 (subst (λ (n : ℕ). index < n) (sym r.words.count) in_table) in
            let left_word : left ≡ word_at after.words index = is ∙ ap (λ (n : ℕ). word_left F i V next n) found_is ∙ sym (word_here F r.core i next) ∙ sym after_word in
            subst (λ (n : ℕ). slice_index (slice_set s.words index left) n ≡ word_at after.words n) (sym (eqb-true k index same)) (at_index ∙ left_word)
        | inr other ↦ get_or-set_other s.words index k left 0 (eqb-false k index other) ∙ r.words.each k below ∙ sym (other_words k other)
      ];
    }

    seats_after : HasSeats (slice_set s.views i new) after
    seats_after = record {
      view = λ k other e. elim (at_set s.views i k new other e) [
        | inl is ↦ subst (λ (n : ℕ). after.view n ≡ other.view) (sym is.0) (new_is ∙ ap (λ (x : SightView). x.view) is.1)
        | inr is ↦ other_view F r.core i k next (ne_eqb k i is.0) ∙ r.seats.view k other is.1
      ];
      number = λ k other e live. elim (at_set s.views i k new other e) [
        | inl is ↦ sym (ap (λ (x : SightView). x.number) is.1) ∙ here ∙ sym is.0
        | inr is ↦ r.seats.number k other is.1 live
      ];
      made = kept (λ (v : View). v.made) (keeps_found F V next (word_of_next r.core.words V next)).made 0 ∙ r.seats.made ∙ sym (length-set s.views i new);
    }
      where
        kept : {B : Type 0} (g : View → B) → g (view_found F V next (word_of_next r.core.words V next)) ≡ g V → (k : ℕ) → g (after.view k) ≡ g (r.core.view k)
        kept g same k = elim (cases_Bool (k == i)) [
          | inl e ↦ subst (λ (n : ℕ). g (after.view n) ≡ g (r.core.view n)) (sym (eqb-true k i e)) (ap g (view_here F r.core i next) ∙ same)
          | inr e ↦ ap g (other_view F r.core i k next e)
        ]

    kept_views : {B : Type 0} (g : View → B) → g (view_found F V next (word_of_next r.core.words V next)) ≡ g V → (k : ℕ) → g (after.view k) ≡ g (r.core.view k)
    kept_views g same k = elim (cases_Bool (k == i)) [
      | inl e ↦ subst (λ (n : ℕ). g (after.view n) ≡ g (r.core.view n)) (sym (eqb-true k i e)) (ap g (view_here F r.core i next) ∙ same)
      | inr e ↦ ap g (other_view F r.core i k next e)
    ]

    serves_after : ServesItsSlots (length rooms) after
    serves_after k busy = elim (cases_Bool (k == i)) [
      | inl e ↦
          let busy_here : is_busy (stage_of (after.view i).point) ≡ true = subst (λ (n : ℕ). is_busy (stage_of (after.view n).point) ≡ true) (eqb-true k i e) busy in
          let busy_new = subst (λ (v : View). is_busy (stage_of v.point) ≡ true) (view_here F r.core i next) busy_here in
          let cmd : (after.view i).cmd ≡ command_next V next = ap (λ (v : View). v.cmd) (view_here F r.core i next) ∙ (keeps_found F V next (word_of_next r.core.words V next)).cmd busy_new in
          let own : (command_next V next).slot % length rooms ≡ i =
          asked_is V (λ c. c.slot % length rooms ≡ i) F given quits next may_here.comes may_here.at_take may_here.serves (λ b. r.serves i b) in
          subst (λ (n : ℕ). (after.view n).cmd.slot % length rooms ≡ n) (sym (eqb-true k i e)) (ap (λ (c : Command). c.slot % length rooms) cmd ∙ own)
      | inr e ↦
          let same = other_view F r.core i k next e in
          ap (λ (v : View). v.cmd.slot % length rooms) same ∙ r.serves k (subst (λ (v : View). is_busy (stage_of v.point) ≡ true) same busy)
    ]

    fits_after : HasRooms rooms after
    fits_after =
        let stays = keeps_found F V next (word_of_next r.core.words V next) in
        record {
          few = r.fits.few;
          made = subst (λ (n : ℕ). n ≤ length rooms) (sym (kept_views (λ (v : View). v.made) stays.made 0)) r.fits.made;
          room = λ k. subst (λ (n : ℕ). n < 2 ^ 32) (sym (kept_views (λ (v : View). v.room) stays.room k)) (r.fits.room k);
          ended = subst (λ (es : List Ended). All (λ (e : Ended). e.room < 2 ^ 32) es) (sym (kept_views (λ (v : View). v.ended) stays.ended 0)) r.fits.ended;
        }

    goes_here : (left : ℕ) → left ≡ word_left F i V next (slice_index s.words index) → IsRuled F rooms (stepped s index left i [] new keeps)
    goes_here left is = record {
      core = after;
      history = r.history ++ items_after r.core i next;
      now = run F.effect_of r.now (items_after r.core i next);
      lawful = r.lawful;
      start = r.start;
      depth = r.depth;
      stands = stands_after;
      words = words_after left is;
      seats = seats_after;
      serves = serves_after;
      fits = fits_after;
      takes = takes_step F s.views r.core i sight new next (slice_index s.words index) (word_left F sight.number V next (slice_index s.words index)) r.takes at found_is
          (ap (λ (n : ℕ). word_left F n V next (slice_index s.words index)) here) ((keeps_found F V next (slice_index s.words index)).live ∙ may_here.lives) refl;
    }

    -- the step is one on a word of the table
    pub goes_in_table : index_of sight.view next < TABLE_WORDS
    goes_in_table = subst (λ (v : View). index_of v next < TABLE_WORDS) seen in_table

    -- the rule holds after the step
    pub goes : (left : ℕ) → left ≡ word_left F sight.number sight.view next (slice_index s.words (index_of sight.view next))
        → IsRuled F rooms (stepped s (index_of sight.view next) left i [] (sight_found F sight next (slice_index s.words (index_of sight.view next))) keeps)
    goes = subst
        (λ (v : View). (left : ℕ) → left ≡ word_left F sight.number v next (slice_index s.words (index_of v next))
        → IsRuled F rooms (stepped s (index_of v next) left i [] (sight_found F (record { number = sight.number; view = v; tally = sight.tally }) next (slice_index s.words (index_of v next))) keeps))
        seen
        (λ left is. goes_here left (is ∙ ap (λ (n : ℕ). word_left F n V next (slice_index s.words index)) here))
