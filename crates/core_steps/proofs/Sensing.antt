-- The state of a thing of the map is loaded.
use Rattle.std.proofs.Common.{◌≡◌, ℕ, true, false, List, [], ◌∷◌, refl, sym, ap, ◌∙◌, subst, inl, inr, Some}
use Rattle.std.specs.Prelude.{◌==◌, ◌||◌, ◌&&◌, is_some}
use Rattle.std.proofs.lemmas.Bool.{cases_Bool, false≢true, true≢false, eqb-true, eq-eqb, or_right, or_from, cond-true, cond-false}
use Rattle.entity_recs.specs.declared.effect.NewState.{NewState}
use Rattle.core_steps.specs.Cells.{State}
use Rattle.core_steps.specs.Nodes.{has}
use Rattle.core_steps.specs.Points.{Point, Sensing, Stage, AtReading, stage_of, is_busy, is_settled, is_storing}
use Rattle.core_steps.specs.Points.{is_committed, is_without_effect, stores_owed}
use Rattle.core_steps.specs.Reads.{state_at}
use Rattle.core_steps.specs.Held.{leaves_held, holds, held_word}
use Rattle.core_steps.specs.Steps.{sensing}
use Rattle.core_steps.specs.Stands.{OwesRight, IsHolding, HasOwn, IsCounted, IsUnread, IsReadRight, IsResolved}
use Rattle.core_steps.specs.Laws.{LoadedStateStands}
use Rattle.core_steps.proofs.Unyielding.{is_yielding, not_giving_up}
use Rattle.core_steps.proofs.Puts.{eqb_sym}
use Rattle.core_steps.proofs.Frames.{busy_lives, stands_with_view}
use Rattle.core_steps.proofs.Points.{sensing_between, at_sensing, current_between}
use Rattle.core_steps.proofs.Giving.{seat_at}
use Rattle.core_steps.proofs.Quiet.{quiet_word}

other_state : (states : List NewState) (id state v : ℕ) → (v == id) ≡ false → state_at (record { id = id; state = state } ∷ states) v ≡ state_at states v
other_state states id state v other = cond-false (id == v) (Some state) (state_at states v) (eqb_sym v id other)

this_state : (states : List NewState) (id state v : ℕ) → (v == id) ≡ true → state_at (record { id = id; state = state } ∷ states) v ≡ Some state
this_state states id state v same = cond-true (id == v) (Some state) (state_at states v) (eq-eqb id v (sym (eqb-true v id same)))

pub loaded_state_stands : LoadedStateStands
loaded_state_stands F core history now i id ids lawful start e is =
    let view = core.view i in
    let seat = is.seats i in
    let here = seat_at F core history now i (Sensing (id ∷ ids)) is e in
    let word = core.words.state id in
    let states = record { id = id; state = word } ∷ view.states in
    let point = sensing ids in
    let between = sensing_between F ids in
    let stage : stage_of view.point ≡ AtReading = ap stage_of e in
    let same_stage : stage_of point ≡ stage_of view.point = between.stage ∙ sym stage in
    let busy : is_busy (stage_of view.point) ≡ true = ap is_busy stage in
    let settled : is_settled (stage_of view.point) ≡ true = ap is_settled stage in
    let new = record view { states = states; point = point } in
    let same_holds : (v : ℕ) → holds F point view.wanted v ≡ holds F view.point view.wanted v =
    λ v. ap (λ (nodes : List ℕ). has nodes v || has (leaves_held point view.wanted) v) between.inner ∙ ap (λ (nodes : List ℕ). has nodes v) (between.leaves view.wanted)
    ∙ ap (λ (p : Point). holds F p view.wanted v) (sym e) in
    stands_with_view F core history now i new is (record {
      lives = busy_lives core.view i is.numbers busy;
      keeps = record { live = refl; log = refl; made = refl; ended = refl };
      seat = record {
        named = λ v held. seat.named v (sym (same_holds v) ∙ held) ∙ ap (λ (s : Stage). held_word F i s view.wanted v) (sym same_stage);
        holding = subst (λ (inner : List ℕ). IsHolding F view.wanted (leaves_held point view.wanted) inner) (sym between.inner)
            (subst (λ (leaves : List ℕ). IsHolding F view.wanted leaves []) (sym (between.leaves view.wanted)) here.holding);
        counted = subst (IsCounted core.words.commits view.seen view.room view.log) (sym same_stage) seat.counted;
        hand = λ _. seat.hand busy;
        own = subst (λ (s : Stage). HasOwn F now view.cmd s view.own view.wanted) (sym same_stage) seat.own;
        unread = subst (λ (s : Stage). IsUnread s view.own view.again view.lists view.others states view.effect) (sym between.stage) (record {
          no_own = λ idle. absurd (true≢false idle);
          no_again = λ before. absurd (false≢true before);
          no_lists = λ before. absurd (false≢true before);
          no_others = λ before. absurd (false≢true before);
          no_states = λ before. absurd (false≢true before);
          no_effect = λ _. seat.unread.no_effect (ap is_without_effect stage);
        });
        at = at_sensing F (record view { states = states }) ids here.at.read (record {
          things = λ v left. here.at.sensed.things v (or_right _ _ left);
          loaded = λ v thing none. elim (cases_Bool (v == id)) [
            | inl same ↦ ap is_some (this_state view.states id word v same)
            | inr other ↦ ap is_some (other_state view.states id word v other) ∙ here.at.sensed.loaded v thing (or_from (id == v) (has ids v) (eqb_sym v id other) none)
          ];
        });
        current = current_between F core.words.links core.words.body (Sensing (id ∷ ids)) point view.wanted view.lists refl between here.current;
        right = subst (λ (s : Stage). IsReadRight F now view.cmd s view.own view.again view.lists view.others states) (sym same_stage) (record {
          same_again = seat.right.same_again;
          whole = seat.right.whole;
          same_player = seat.right.same_player;
          same_state = λ _ v state thing live read touches. elim (cases_Bool (v == id)) [
            | inl same ↦
                let equal : word ≡ state = let there = sym (this_state view.states id word v same) ∙ read in cc in
                let at : v ≡ id = eqb-true v id same in
                sym equal ∙ subst (λ (n : ℕ). core.words.state n ≡ (now.record_of v).state) at (quiet_word F core history now i (State v) lawful start is settled live touches)
            | inr other ↦ seat.right.same_state settled v state thing live (sym (other_state view.states id word v other) ∙ read) touches
          ];
          has_its_bit = seat.right.has_its_bit;
        });
        resolved = subst (λ (s : Stage). IsResolved F now view.cmd s view.effect) (sym same_stage) seat.resolved;
        giving_up = not_giving_up (ap is_yielding between.stage);
        committed = record {
          item = λ done. absurd (false≢true (ap is_committed (sym between.stage) ∙ done));
          owed = subst (OwesRight now) (sym between.owes) tt;
          linked = λ storing. absurd (false≢true (ap is_storing (sym between.stage) ∙ storing));
        };
      };
      same = same_holds;
      slots = λ j other _. (is.apart i j (eqb_sym j i other)).slots busy;
      owes = between.owes ∙ sym (ap stores_owed e);
      stores = λ p. ap (λ (s : Stage). is_storing s && (view.cmd.slot == p)) same_stage;
    })
