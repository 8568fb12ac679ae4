-- The own record is loaded again.
use Rattle.std.proofs.Common.{◌≡◌, ℕ, ◌+◌, ◌<◌, true, List, [], ◌∷◌, ◌++◌, length, refl, sym, ap, ◌∙◌, subst, inl, inr, arith}
use Rattle.std.specs.Prelude.{◌==◌, ◌||◌, ◌&&◌, nat_lt}
use Rattle.std.proofs.lemmas.Bool.{cases_Bool, false≢true, true≢false, eqb-true, eqb-false, and_from, ltb-true, ltb-false, cond-true, cond-false}
use Rattle.entity_recs.specs.Worlds.{World}
use Rattle.entity_recs.specs.Histories.{Item}
use Rattle.core_steps.specs.Cells.{Cell, Body, State, cell_of, word_in, put}
use Rattle.core_steps.specs.Encoding.{nth_word}
use Rattle.core_steps.specs.Nodes.{Fixed, has, plan_of}
use Rattle.core_steps.specs.Points.{is_before_leaves, is_read_again, Point, Checking, Stage, AtChecking, stage_of}
use Rattle.core_steps.specs.Points.{is_busy, is_open, is_whole, is_settled, is_storing, is_committed, is_without_effect}
use Rattle.core_steps.specs.Points.{stores_owed}
use Rattle.core_steps.specs.Reads.{list_at, player_at, View, region_in}
use Rattle.core_steps.specs.Held.{leaves_held, holds, held_word}
use Rattle.core_steps.specs.Steps.{Core, visiting}
use Rattle.core_steps.specs.Stands.{OwesRight, IsStart, IsLawful, IsHolding, HasOwn, IsCounted, IsUnread, IsReadRight, IsResolved, IsAt, Stands, value_in, is_live_cell, is_player, touches_own}
use Rattle.core_steps.specs.Laws.{LoadedAgainStands}
use Rattle.core_steps.proofs.Unyielding.{is_yielding, not_giving_up}
use Rattle.core_steps.proofs.Puts.{eqb_sym}
use Rattle.core_steps.proofs.Frames.{busy_lives, stands_with_view}
use Rattle.core_steps.proofs.Points.{visiting_between, at_visiting}
use Rattle.core_steps.proofs.Giving.{seat_at}
use Rattle.core_steps.proofs.Exclusion.{own_touches}
use Rattle.core_steps.proofs.Quiet.{id_of_cell, quiet_word}
use Rattle.core_steps.proofs.Owned.{one_more, the_last, longer, given_player}

own_cell_live : (F : Fixed) (slot k : ℕ) → is_player F slot ≡ true → has F.start.ids slot ≡ true → is_live_cell F (cell_of slot k) ≡ true
own_cell_live F slot k player live =
    elim (cases_Bool (nat_lt k 5)) [
      | inl low ↦ subst (λ (c : Cell). is_live_cell F c ≡ true) (sym (cond-true (nat_lt k 5) (Body slot k) (State slot) low)) (and_from (is_player F slot) (nat_lt k 5) player low)
      | inr high ↦ subst (λ (c : Cell). is_live_cell F c ≡ true) (sym (cond-false (nat_lt k 5) (Body slot k) (State slot) high)) live
    ]

own_cell_id : (slot k : ℕ) → id_of_cell (cell_of slot k) ≡ slot
own_cell_id slot k =
    elim (cases_Bool (nat_lt k 5)) [
      | inl low ↦ ap id_of_cell (cond-true (nat_lt k 5) (Body slot k) (State slot) low)
      | inr high ↦ ap id_of_cell (cond-false (nat_lt k 5) (Body slot k) (State slot) high)
    ]

-- what a longer second load matches
again_matches : (F : Fixed) (core : Core) (history : List Item) (now : World) (i : ℕ) → IsLawful F → IsStart F → Stands F core history now → (core.view i).point ≡ Checking
    → (k : ℕ) → k < length ((core.view i).again ++ word_in core.words (cell_of (core.view i).cmd.slot (length (core.view i).again)) ∷ []) → k < 6
    → nth_word ((core.view i).again ++ word_in core.words (cell_of (core.view i).cmd.slot (length (core.view i).again)) ∷ []) k ≡ value_in now (cell_of (core.view i).cmd.slot k)
again_matches F core history now i lawful start is e k below six =
    let view = core.view i in
    let slot = view.cmd.slot in
    let seat = is.seats i in
    let n = length view.again in
    let x = word_in core.words (cell_of slot n) in
    let long = longer view.again x in
    let settled : is_settled (stage_of view.point) ≡ true = ap (λ (p : Point). is_settled (stage_of p)) e in
    let given = seat.hand (ap (λ (p : Point). is_busy (stage_of p)) e) in
    elim (cases_Bool (nat_lt k n)) [
      | inl old ↦ one_more view.again x k (ltb-true k n old) ∙ seat.right.same_again settled k (ltb-true k n old) six
      | inr new ↦
          let last : n ≡ k = let least = ltb-false k n new in omega arith in
          let touches = own_touches F core history now i lawful start is settled in
          subst (λ (m : ℕ). nth_word (view.again ++ x ∷ []) m ≡ value_in now (cell_of slot m)) last
          (the_last view.again x
          ∙ quiet_word F core history now i (cell_of slot n) lawful start is settled (own_cell_live F slot n (given_player F view.cmd given) given.live)
          (subst (λ (id : ℕ). touches_own (region_in F view.cmd view.own) (now.record_of id) ≡ true) (sym (own_cell_id slot n)) touches))
    ]

pub loaded_again_stands : LoadedAgainStands
loaded_again_stands F core history now i lawful start e is =
    let view = core.view i in
    let slot = view.cmd.slot in
    let seat = is.seats i in
    let here = seat_at F core history now i Checking is e in
    let x = word_in core.words (cell_of slot (length view.again)) in
    let again = view.again ++ x ∷ [] in
    let long = longer view.again x in
    let stage : stage_of view.point ≡ AtChecking = ap stage_of e in
    let busy : is_busy (stage_of view.point) ≡ true = ap is_busy stage in
    let settled : is_settled (stage_of view.point) ≡ true = ap is_settled stage in
    let open' : is_open (stage_of view.point) ≡ true = ap is_open stage in
    let whole : is_whole (stage_of view.point) ≡ true = ap is_whole stage in
    let part = here.at.part in
    let matches = again_matches F core history now i lawful start is e in
    let region = region_in F view.cmd view.own in
    let point = visiting F view (plan_of F region) in
    let more = record view { again = again } in
    elim (cases_Bool (length again == 6)) [
      | inl six ↦
          let new = record view { again = again; point = point } in
          let between = visiting_between F view (plan_of F region) in
          let same_holds : (v : ℕ) → holds F point view.wanted v ≡ holds F view.point view.wanted v =
          λ v. ap (λ (nodes : List ℕ). has nodes v || has (leaves_held point view.wanted) v) between.inner ∙ ap (λ (nodes : List ℕ). has nodes v) (between.leaves view.wanted)
          ∙ ap (λ (p : Point). holds F p view.wanted v) (sym e) in
          subst (λ (v : View). Stands F (record core { view = put i v core.view }) history now) (sym (cond-true (length again == 6) (record more { point = point }) more six))
          (stands_with_view F core history now i new is (record {
            lives = busy_lives core.view i is.numbers busy;
            keeps = record { live = refl; log = refl; made = refl; ended = refl };
            seat = record {
              named = λ v held. seat.named v (sym (same_holds v) ∙ held)
                  ∙ ap (λ (s : Stage). held_word F i s view.wanted v) stage ∙ ap (λ (s : Stage). held_word F i s view.wanted v) (sym between.stage);
              holding = subst (λ (inner : List ℕ). IsHolding F view.wanted (leaves_held point view.wanted) inner) (sym between.inner)
                  (subst (λ (leaves : List ℕ). IsHolding F view.wanted leaves []) (sym (between.leaves view.wanted)) here.holding);
              counted = subst (IsCounted core.words.commits view.seen view.room view.log) (sym between.stage)
                  (record { within = seat.counted.within; known = seat.counted.known; has_room = λ _. seat.counted.has_room open' });
              hand = λ _. seat.hand busy;
              own = subst (λ (s : Stage). HasOwn F now view.cmd s view.own view.wanted) (sym between.stage) (record {
                matches = λ _. seat.own.matches open';
                part = λ owning. absurd (false≢true owning);
                whole = λ _. seat.own.whole whole;
                leaves = λ _. seat.own.leaves whole;
                none = λ none. absurd (true≢false none);
              });
              unread = subst (λ (s : Stage). IsUnread s view.own again view.lists view.others view.states view.effect) (sym between.stage) (record {
                no_own = λ idle. absurd (true≢false idle);
                no_again = λ before. absurd (false≢true before);
                no_lists = λ before. absurd (false≢true before);
                no_others = λ before. absurd (false≢true before);
                no_states = λ before. absurd (false≢true before);
                no_effect = λ _. seat.unread.no_effect (ap is_without_effect stage);
              });
              at = at_visiting F (record view { again = again }) (plan_of F region) (record {
                planned = λ v planned. planned;
                read = λ v planned none. absurd (true≢false (sym planned ∙ none));
                loaded = λ v word p read. let none = ap (λ lists. list_at lists v) here.at.no_lists in cc;
                whole = λ p words read. let none = ap (λ others. player_at others p) here.at.no_others in cc;
              });
              current = record {
                same_list = λ _ v word read. let none = ap (λ lists. list_at lists v) here.at.no_lists in cc;
                same_part = λ p k below. let none = ap length (between.part p) in absurd (omega (arith, below, none));
              };
              right = subst (λ (s : Stage). IsReadRight F now view.cmd s view.own again view.lists view.others view.states) (sym between.stage) (record {
                same_again = λ _. matches;
                whole = λ _. eqb-true (length again) 6 six;
                same_player = λ _. seat.right.same_player settled;
                same_state = λ _. seat.right.same_state settled;
                has_its_bit = λ _. seat.right.has_its_bit settled;
              });
              resolved = subst (λ (s : Stage). IsResolved F now view.cmd s view.effect) (sym between.stage) (record { is_outcome = λ _. seat.resolved.is_outcome settled });
              giving_up = not_giving_up (ap is_yielding between.stage);
              committed = record {
                item = λ done. absurd (false≢true (ap is_committed (sym between.stage) ∙ done));
                owed = subst (OwesRight now) (sym between.owes) tt;
                linked = λ storing. absurd (false≢true (ap is_storing (sym between.stage) ∙ storing));
              };
            };
            same = same_holds;
            slots = λ j other _. (is.apart i j (eqb_sym j i other)).slots busy;
            owes = between.owes ∙ sym (ap stores_owed e);
            stores = λ p. ap (λ (s : Stage). is_storing s && (slot == p)) between.stage ∙ ap (λ (s : Stage). is_storing s && (slot == p)) (sym stage);
          }))
      | inr not_six ↦
          let differs = eqb-false (length again) 6 not_six in
          subst (λ (v : View). Stands F (record core { view = put i v core.view }) history now) (sym (cond-false (length again == 6) (record more { point = point }) more not_six))
          (stands_with_view F core history now i more is (record {
            lives = busy_lives core.view i is.numbers busy;
            keeps = record { live = refl; log = refl; made = refl; ended = refl };
            seat = record {
              named = seat.named;
              holding = seat.holding;
              counted = seat.counted;
              hand = seat.hand;
              own = seat.own;
              unread = record {
                no_own = seat.unread.no_own;
                no_again = λ before. absurd (false≢true (sym (ap is_before_leaves stage) ∙ before));
                no_lists = seat.unread.no_lists;
                no_others = seat.unread.no_others;
                no_states = seat.unread.no_states;
                no_effect = seat.unread.no_effect;
              };
              at = subst (IsAt F view.cmd view.own view.wanted again view.lists view.others view.states view.effect) (sym e) (record {
                part = shorter (length view.again) (length again) long part differs;
                no_lists = here.at.no_lists;
                no_others = here.at.no_others;
                no_states = here.at.no_states;
              });
              current = seat.current;
              right = record {
                same_again = λ _. matches;
                whole = λ read. absurd (false≢true (sym (ap is_read_again stage) ∙ read));
                same_player = seat.right.same_player;
                same_state = seat.right.same_state;
                has_its_bit = seat.right.has_its_bit;
              };
              resolved = seat.resolved;
              giving_up = not_giving_up (ap is_yielding stage);
              committed = record {
                item = λ done. absurd (false≢true (sym (ap is_committed stage) ∙ done));
                owed = seat.committed.owed;
                linked = seat.committed.linked;
              };
            };
            same = λ v. refl;
            slots = λ j other. (is.apart i j (eqb_sym j i other)).slots;
            owes = refl;
            stores = λ p. refl;
          }))
    ]
  where
    shorter : (n m : ℕ) → m ≡ n + 1 → n < 6 → (m ≡ 6 → ⊥) → m < 6
    shorter n m e below differs = omega arith
