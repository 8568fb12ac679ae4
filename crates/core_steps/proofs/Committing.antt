-- The commit: the seat's item joins the history, its stores are owed, and all other seats stand in the run of the longer history.
use Rattle.std.proofs.Common.{◌≡◌, ℕ, suc, Bool, true, false, List, [], ◌∷◌, ◌++◌, length, refl, sym, ap, ◌∙◌, subst, inl, inr, Some, None, arith, append_assoc, length-append}
use Rattle.std.specs.Prelude.{◌==◌, ◌||◌, ◌&&◌, nat_lt, is_some, All}
use Rattle.std.proofs.lemmas.Bool.{cases_Bool, false≢true, true≢false, eqb-true, and_parts, or_cases, or_parts, or_left, or_right, cond-true, cond-false, false_from_ne_true}
use Rattle.std.proofs.lemmas.List.Elements.{All-append, All-weaker, All-from_recursion}
use Rattle.entity_recs.specs.declared.rec.Rec.{Rec}
use Rattle.entity_recs.specs.declared.effect.Effect.{Effect}
use Rattle.entity_recs.specs.Worlds.{World, others_of}
use Rattle.entity_recs.specs.Histories.{Item, entry_of, outcome, apply, run}
use Rattle.areanode.specs.Words.{has_bit}
use Rattle.core_steps.specs.Cells.{Words, Cell, Body, State, put, word_in, cell_of}
use Rattle.core_steps.specs.Encoding.{words_of, nth_word}
use Rattle.core_steps.specs.Nodes.{Fixed, has, home, write_nodes}
use Rattle.core_steps.specs.Points.{Store, Stage, AtRest, AtOwning, AtTaking, AtChecking, AtReading, AtClaiming}
use Rattle.core_steps.specs.Points.{AtStoring, AtReleasing, AtReturning, AtYielding, stage_of, is_busy, is_open}
use Rattle.core_steps.specs.Points.{is_settled, is_committed, is_read_again, is_storing, stores_owed}
use Rattle.core_steps.specs.Reads.{Ended, View, record_read, region_in, list_at, state_at}
use Rattle.core_steps.specs.Held.{inner_held, leaves_held, holds, held_word}
use Rattle.core_steps.specs.Steps.{Core, item_at, view_after_commit, commit}
use Rattle.core_steps.specs.Stands.{IsGiven, IsStart, IsLawful, IsLogWithin, LeavesAlone, IsLastItem, IsReadRight, IsResolved, SeatStands, SeatsApart, Stands, is_player, is_live_cell, value_in, touches_own, owed_at, is_storing_for}
use Rattle.core_steps.proofs.Unyielding.{not_giving_up}
use Rattle.core_steps.proofs.Puts.{each_put, put_same, put_other, kept_put, eqb_sym}
use Rattle.core_steps.proofs.Frames.{apart_put, busy_lives}
use Rattle.core_steps.proofs.Giving.{current_unsettled, same_holding}
use Rattle.core_steps.proofs.Seats.{within_more}
use Rattle.core_steps.proofs.Owned.{given_player}
use Rattle.core_steps.proofs.Owing.{is_written, owed_written, stores_written, settled_owes_nothing}
use Rattle.core_steps.proofs.Runs.{run_append, other_after, is_call}
use Rattle.core_steps.proofs.Exclusion.{IsSettledStage, IsSettledSeat, settled_stage, all_leaves, now_world, settled_seat, giving_up_seat, own_touches}
use Rattle.core_steps.proofs.Quiet.{has_committed, writes_elsewhere}
use Rattle.core_steps.proofs.Storing.{storing_busy}
use Rattle.core_steps.proofs.Resolved.{again_is}
use Rattle.core_steps.proofs.Appending.{legal_with, within_with}
use Rattle.core_steps.proofs.Changes.{unwritten_body, unwritten_value, written_is_owed, owes_outcome}
use Rattle.core_steps.proofs.Elsewhere.{listed_here, written_is_unowed, owes_after, same_there, same_after, same_own, same_outcome}
use Rattle.core_steps.proofs.Logged.{logs_with, numbered_with}

-- the seat holds all its leaves and these write nodes, and has read all that it needs
pub record IsCommitting (F : Fixed) (core : Core) (now : World) (i : ℕ) (nodes : List ℕ) : Type 0 where
  pub settled : is_settled (stage_of (core.view i).point) ≡ true
  pub read : is_read_again (stage_of (core.view i).point) ≡ true
  pub nodes_are : nodes ≡ write_nodes F (record_read (core.view i).cmd.slot (core.view i).again) (outcome F.effect_of now (core.view i).cmd)
  pub inner : inner_held F (core.view i).point ≡ nodes
  pub words : (v : ℕ) → holds F (core.view i).point (core.view i).wanted v ≡ true
      → held_word F i (stage_of (core.view i).point) (core.view i).wanted v ≡ held_word F i AtStoring (core.view i).wanted v

-- a command that isn't committed is in hand
pub open_busy : (stage : Stage) → is_open stage ≡ true → is_busy stage ≡ true
open_busy AtRest e = absurd (false≢true e)
open_busy AtOwning e = refl
open_busy AtTaking e = refl
open_busy AtChecking e = refl
open_busy AtReading e = refl
open_busy AtClaiming e = refl
open_busy AtStoring e = refl
open_busy AtReleasing e = refl
open_busy AtReturning e = refl
open_busy AtYielding e = refl

-- a cell of a record that is the same in both worlds has the same value
same_cell : (w new : World) (slot k : ℕ) → new.record_of slot ≡ w.record_of slot → value_in w (cell_of slot k) ≡ value_in new (cell_of slot k)
same_cell w new slot k same =
    elim (cases_Bool (nat_lt k 5)) [
      | inl low ↦ subst (λ (c : Cell). value_in w c ≡ value_in new c) (sym (cond-true (nat_lt k 5) (Body slot k) (State slot) low)) (ap (λ (r : Rec). nth_word (words_of r) k) (sym same))
      | inr high ↦ subst (λ (c : Cell). value_in w c ≡ value_in new c) (sym (cond-false (nat_lt k 5) (Body slot k) (State slot) high)) (ap (λ (r : Rec). r.state) (sym same))
    ]

module _ (F : Fixed) (core : Core) (history : List Item) (now : World) (i : ℕ) (nodes : List ℕ) (lawful : IsLawful F) (start : IsStart F) (is : Stands F core history now) (step : IsCommitting F core now i nodes) where
  abbrev view : View
  view = core.view i

  abbrev e : Effect
  e = outcome F.effect_of now (core.view i).cmd

  abbrev item : Item
  item = item_at core.words.commits (core.view i) (outcome F.effect_of now (core.view i).cmd)

  abbrev longer : List Item
  longer = history ++ item ∷ []

  abbrev new : World
  new = apply F.effect_of now (core.view i).cmd

  abbrev new_view : View
  new_view = view_after_commit F core.words.commits e nodes (core.view i)

  abbrev new_words : Words
  new_words = record core.words { commits = suc core.words.commits }

  stage : IsSettledStage (stage_of (core.view i).point)
  stage = settled_stage (stage_of (core.view i).point) step.settled

  here_is : record_read (core.view i).cmd.slot (core.view i).again ≡ now.record_of (core.view i).cmd.slot
  here_is = again_is F core history now i lawful start is step.settled step.read

  same_holds : (v : ℕ) → holds F new_view.point new_view.wanted v ≡ holds F view.point view.wanted v
  same_holds v =
      ap (λ (ns : List ℕ). has ns v || has view.wanted v) (sym step.inner)
      ∙ ap (λ (ns : List ℕ). has (inner_held F view.point) v || has ns v) (sym (all_leaves view.point view.wanted (or_left _ _ step.settled)))

  -- no seat stores for the player of the seat
  none_stores : (j : ℕ) → is_storing_for (core.view j) view.cmd.slot ≡ false
  none_stores j = false_from_ne_true _ (λ storing_it.
      let parts = and_parts (is_storing (stage_of (core.view j).point)) ((core.view j).cmd.slot == view.cmd.slot) storing_it in
      elim (cases_Bool (j == i)) [
        | inl same ↦ true≢false (sym parts.0 ∙ subst (λ (n : ℕ). is_storing (stage_of (core.view n).point) ≡ false) (sym (eqb-true j i same)) stage.not_storing)
        | inr other ↦ true≢false (sym parts.1 ∙ (is.apart j i other).slots (storing_busy (stage_of (core.view j).point) parts.0) stage.busy)
      ])

  -- ---- the seat itself

  last_item : IsLastItem F longer view.cmd view.own view.again (Some e) new_view.log
  last_item =
      let mine = settled_seat F core history now i lawful start is step.settled in
      record {
        before = history;
        item = item;
        after = [];
        place = refl;
        command = refl;
        earlier = view.log;
        last = refl;
        actor = here_is ∙ ap (λ (w : World). w.record_of view.cmd.slot) is.tied;
        is = ap (λ (w : World). Some (outcome F.effect_of w view.cmd)) is.tied;
        region = mine.region ∙ ap (λ (w : World). F.region_of (w.record_of view.cmd.slot) view.cmd) is.tied;
        alone = All-from_recursion (LeavesAlone view.cmd.slot (outcome F.effect_of (run F.effect_of F.start history) view.cmd).states) [] tt;
      }

  linked_before : (v : ℕ) → has_bit (core.words.links v) view.cmd.slot ≡ (v == home F (record_read view.cmd.slot view.again))
  linked_before v =
      is.linked view.cmd.slot v (given_player F view.cmd ((is.seats i).hand stage.busy)) none_stores
      ∙ ap (λ (r : Rec). v == home F r) (sym here_is)

  own_seat : SeatStands F new_words longer new i new_view
  own_seat =
      let seat = is.seats i in
      let mine = settled_seat F core history now i lawful start is step.settled in
      let world = now_world F core history now lawful start is in
      let slot = view.cmd.slot in
      let within = lawful.footprint.within (now.record_of slot) (others_of now slot) view.cmd (is_call F now view.cmd start world mine.given) in
      record {
        named = λ v held.
            let old = sym (same_holds v) ∙ held in
            seat.named v old ∙ step.words v old;
        holding = same_holding F view.wanted view.wanted nodes (inner_held F view.point) (leaves_held view.point view.wanted) (sym step.inner)
            (sym (all_leaves view.point view.wanted (or_left _ _ step.settled))) seat.holding;
        counted = record {
          within = within_with view.seen view.room view.log item seat.counted.within seat.counted.known (seat.counted.has_room stage.open');
          known = omega arith;
          has_room = λ o. absurd (false≢true o);
        };
        hand = λ _. seat.hand stage.busy;
        own = record {
          matches = λ o. absurd (false≢true o);
          part = λ o. absurd (false≢true o);
          whole = λ _. seat.own.whole stage.whole;
          leaves = λ _. seat.own.leaves stage.whole;
          none = λ none. absurd (true≢false none);
        };
        unread = record {
          no_own = λ idle. absurd (true≢false idle);
          no_again = λ b. absurd (false≢true b);
          no_lists = λ b. absurd (false≢true b);
          no_others = λ b. absurd (false≢true b);
          no_states = λ b. absurd (false≢true b);
          no_effect = λ b. absurd (false≢true b);
        };
        at = record { e = e; is = refl; held = step.nodes_are; made = []; owed = refl; left = omega arith };
        current = current_unsettled core.words.links core.words.body new_view.point view.wanted view.lists (record { unsettled = refl; part = λ p. refl });
        right = record {
          same_again = λ s. absurd (false≢true s);
          whole = λ _. seat.right.whole step.read;
          same_player = λ s. absurd (false≢true s);
          same_state = λ s. absurd (false≢true s);
          has_its_bit = λ s. absurd (false≢true s);
        };
        resolved = record { is_outcome = λ s. absurd (false≢true s) };
        giving_up = not_giving_up refl;
        committed = record {
          item = λ _. last_item;
          owed = owes_outcome F now view.cmd (home F (record_read slot view.again)) within.apart
              (λ id listed. (listed_here F core history now i lawful start is step.settled id listed).other);
          linked = λ _ v. linked_before v;
        };
      }

  -- ---- the other seats

  -- the item leaves what another seat wrote alone
  leaves_alone : (j : ℕ) → (j == i) ≡ false → is_committed (stage_of (core.view j).point) ≡ true → (f : Effect) → (core.view j).effect ≡ Some f → LeavesAlone (core.view j).cmd.slot f.states item
  leaves_alone j other committed f effect =
      let theirs = core.view j in
      let wrote = has_committed F core history now j lawful start is committed in
      let mine = own_touches F core history now i lawful start is step.settled in
      let none : ((view.cmd.slot == theirs.cmd.slot) || is_some (state_at f.states view.cmd.slot)) ≡ false =
      false_from_ne_true _ (λ written.
      writes_elsewhere F core history now i j view.cmd.slot lawful start is step.settled (eqb_sym j i other) mine wrote f effect written) in
      let parts = or_parts (view.cmd.slot == theirs.cmd.slot) (is_some (state_at f.states view.cmd.slot)) none in
      record { own = parts.0; listed = parts.1 }

  last_item_of : (j : ℕ) → (j == i) ≡ false → is_committed (stage_of (core.view j).point) ≡ true
      → IsLastItem F longer (core.view j).cmd (core.view j).own (core.view j).again (core.view j).effect (core.view j).log
  last_item_of j other committed =
      let theirs = core.view j in
      let old = (is.seats j).committed.item committed in
      let f = outcome F.effect_of (run F.effect_of F.start old.before) theirs.cmd in
      record {
        before = old.before;
        item = old.item;
        after = old.after ++ item ∷ [];
        place = ap (λ (items : List Item). items ++ item ∷ []) old.place ∙ append_assoc old.before (old.item ∷ old.after) (item ∷ []);
        command = old.command;
        earlier = old.earlier;
        last = old.last;
        actor = old.actor;
        is = old.is;
        region = old.region;
        alone = All-append (LeavesAlone theirs.cmd.slot f.states) old.after (item ∷ []) old.alone
            (All-from_recursion (LeavesAlone theirs.cmd.slot f.states) (item ∷ []) (leaves_alone j other committed f old.is, tt));
      }

  -- the five words of the player of another seat are as before
  same_body : (j k : ℕ) → (j == i) ≡ false → is_busy (stage_of (core.view j).point) ≡ true → value_in new (Body (core.view j).cmd.slot k) ≡ value_in now (Body (core.view j).cmd.slot k)
  same_body j k other busy = unwritten_body F now view.cmd (core.view j).cmd.slot k ((is.apart j i other).slots busy stage.busy)

  -- what another seat has read is as in the run still, where it holds its region at stages that ask for it
  read_right : (j : ℕ) (asked : Stage) → (j == i) ≡ false → (is_settled asked ≡ true → IsSettledSeat F now (core.view j))
      → IsReadRight F now (core.view j).cmd asked (core.view j).own (core.view j).again (core.view j).lists (core.view j).others (core.view j).states
      → IsReadRight F new (core.view j).cmd asked (core.view j).own (core.view j).again (core.view j).lists (core.view j).others (core.view j).states
  read_right j asked other holds_it old =
      let theirs = core.view j in
      let region = region_in F theirs.cmd theirs.own in
      record {
        same_again = λ s k below six. old.same_again s k below six
            ∙ same_cell now new theirs.cmd.slot k (same_own F core history now i lawful start is step.settled j other (holds_it s));
        whole = old.whole;
        same_player = λ s p words player read touches. elim (or_cases (touches_own region (record_read p words)) (touches_own region (new.record_of p)) touches) [
          | inl loaded ↦
              let same = old.same_player s p words player read (or_left _ _ loaded) in
              same ∙ sym (same_there F core history now i lawful start is step.settled j other (holds_it s) p (sym (ap (touches_own region) same) ∙ loaded))
          | inr there ↦
              let still = same_after F core history now i lawful start is step.settled j other (holds_it s) p there in
              old.same_player s p words player read (or_right _ _ (ap (touches_own region) (sym still) ∙ there)) ∙ sym still
        ];
        same_state = λ s id state high live read touches.
            let still = same_after F core history now i lawful start is step.settled j other (holds_it s) id touches in
            old.same_state s id state high live read (ap (touches_own region) (sym still) ∙ touches) ∙ ap (λ (r : Rec). r.state) (sym still);
        has_its_bit = λ s p word player differ touches read.
            let still = same_after F core history now i lawful start is step.settled j other (holds_it s) p touches in
            old.has_its_bit s p word player differ (ap (touches_own region) (sym still) ∙ touches) (ap (λ (r : Rec). list_at theirs.lists (home F r)) (sym still) ∙ read);
      }

  resolved_still : (j : ℕ) (asked : Stage) → (j == i) ≡ false → (is_settled asked ≡ true → IsSettledSeat F now (core.view j))
      → IsResolved F now (core.view j).cmd asked (core.view j).effect → IsResolved F new (core.view j).cmd asked (core.view j).effect
  resolved_still j asked other holds_it old = record {
    is_outcome = λ s f effect. old.is_outcome s f effect ∙ same_outcome F core history now i lawful start is step.settled j other (holds_it s);
  }

  other_seat : (j : ℕ) → (j == i) ≡ false → SeatStands F new_words longer new j (core.view j)
  other_seat j other =
      let theirs = core.view j in
      let seat = is.seats j in
      record {
        named = seat.named;
        holding = seat.holding;
        counted = record { within = seat.counted.within; known = omega (arith, seat.counted.known); has_room = seat.counted.has_room };
        hand = seat.hand;
        own = record {
          matches = λ o k below five. seat.own.matches o k below five ∙ sym (same_body j k other (open_busy (stage_of theirs.point) o));
          part = seat.own.part;
          whole = seat.own.whole;
          leaves = seat.own.leaves;
          none = seat.own.none;
        };
        unread = seat.unread;
        at = seat.at;
        current = record { same_list = seat.current.same_list; same_part = seat.current.same_part };
        right = read_right j (stage_of theirs.point) other (settled_seat F core history now j lawful start is) seat.right;
        resolved = resolved_still j (stage_of theirs.point) other (settled_seat F core history now j lawful start is) seat.resolved;
        giving_up = record {
          few = seat.giving_up.few;
          still = λ nodes e.
              let old = seat.giving_up.still nodes e in
              let held = giving_up_seat F core history now j nodes lawful start is e in
              record {
                right = read_right j AtClaiming other (λ _. held) old.right;
                resolved = resolved_still j AtClaiming other (λ _. held) old.resolved;
                same_list = old.same_list;
              };
        };
        committed = record {
          item = last_item_of j other;
          owed = owes_after F core history now i lawful start is step.settled j seat.committed.owed;
          linked = seat.committed.linked;
        };
      }

  -- ---- all of it

  apart_from : (j : ℕ) → (j == i) ≡ false → SeatsApart F new_view (core.view j)
  apart_from j other =
      let old = is.apart i j (eqb_sym j i other) in
      record {
        nodes = λ v held. old.nodes v (sym (same_holds v) ∙ held);
        slots = λ _. old.slots stage.busy;
        cells = λ cell x owed. written_is_unowed F core history now i lawful start is step.settled j cell
            (owed_written view.cmd.slot e.states (stores_owed new_view.point) cell x (stores_written F view.cmd.slot (home F (record_read view.cmd.slot view.again)) e) owed);
      }

  -- what nobody owes after the commit isn't written by it, and was owed by nobody before it
  unowed_after : (cell : Cell) → is_live_cell F cell ≡ true → ((j : ℕ) → owed_at (stores_owed (put i new_view core.view j).point) cell ≡ None) → word_in core.words cell ≡ value_in new cell
  unowed_after cell live none =
      let here : owed_at (stores_owed new_view.point) cell ≡ None =
      subst (λ (v : View). owed_at (stores_owed v.point) cell ≡ None) (put_same i new_view core.view) (none i) in
      let unwritten : is_written view.cmd.slot e.states cell ≡ false = false_from_ne_true _ (λ written.
      false≢true (ap is_some (sym here) ∙ written_is_owed F view.cmd.slot (home F (record_read view.cmd.slot view.again)) e cell live written)) in
      is.unowed cell live (λ j. elim (cases_Bool (j == i)) [
        | inl same ↦ subst (λ (n : ℕ). owed_at (stores_owed (core.view n).point) cell ≡ None) (sym (eqb-true j i same))
            (ap (λ (stores : List Store). owed_at stores cell) (settled_owes_nothing view.point step.settled))
        | inr other ↦ subst (λ (v : View). owed_at (stores_owed v.point) cell ≡ None) (put_other i j new_view core.view other) (none j)
      ]) ∙ sym (unwritten_value F now view.cmd cell unwritten)

  -- a player that no seat is writing after the commit isn't the seat's own
  linked_after : (p v : ℕ) → is_player F p ≡ true → ((j : ℕ) → is_storing_for (put i new_view core.view j) p ≡ false) → has_bit (core.words.links v) p ≡ (v == home F (new.record_of p))
  linked_after p v player none =
      let here : (view.cmd.slot == p) ≡ false = subst (λ (w : View). is_storing_for w p ≡ false) (put_same i new_view core.view) (none i) in
      is.linked p v player (λ j. elim (cases_Bool (j == i)) [
        | inl same ↦ subst (λ (n : ℕ). is_storing_for (core.view n) p ≡ false) (sym (eqb-true j i same)) (ap (λ (b : Bool). b && (view.cmd.slot == p)) stage.not_storing)
        | inr other ↦ subst (λ (w : View). is_storing_for w p ≡ false) (put_other i j new_view core.view other) (none j)
      ]) ∙ ap (λ (r : Rec). v == home F r) (sym (other_after F now view.cmd p (eqb_sym view.cmd.slot p here)))

  pub committed_stands : Stands F (commit F core i e nodes) longer new
  committed_stands =
      let seat = is.seats i in
      let lives = busy_lives core.view i is.numbers stage.busy in
      record {
        tied = ap (λ (w : World). apply F.effect_of w view.cmd) is.tied ∙ sym (run_append F.effect_of F.start history (item ∷ []));
        legal = legal_with F.effect_of F.start history item is.legal (ap (λ (n : ℕ). entry_of n view.cmd e) is.count
            ∙ ap (λ (w : World). entry_of (length history) view.cmd (outcome F.effect_of w view.cmd)) is.tied);
        given = All-append (λ (x : Item). IsGiven F x.command) history (item ∷ []) is.given
            (All-from_recursion (λ (x : Item). IsGiven F x.command) (item ∷ []) (seat.hand stage.busy, tt));
        count = omega (arith, is.count, length-append history (item ∷ []));
        items = logs_with core.view i new_view item history lives is.numbers refl refl refl refl is.items;
        numbers = numbered_with core.view i new_view lives refl refl refl is.numbers;
        ended = subst (All (λ (x : Ended). IsLogWithin (suc core.words.commits) x.room x.log)) (sym (kept_put (λ (v : View). v.ended) i new_view core.view refl 0))
            (All-weaker (λ (x : Ended). IsLogWithin core.words.commits x.room x.log) (λ (x : Ended). IsLogWithin (suc core.words.commits) x.room x.log)
            (λ x within. within_more core.words.commits (suc core.words.commits) x.room x.log (omega arith) within) (core.view 0).ended is.ended);
        seats = each_put (λ (j : ℕ) (v : View). SeatStands F new_words longer new j v) i new_view core.view own_seat other_seat;
        apart = apart_put F core.view i new_view is.apart apart_from;
        free = λ v none. is.free v (λ j. sym (kept_put (λ (w : View). holds F w.point w.wanted v) i new_view core.view (same_holds v) j) ∙ none j);
        unowed = unowed_after;
        linked = linked_after;
        unlinked = is.unlinked;
        unused = is.unused;
      }
