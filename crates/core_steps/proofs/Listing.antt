-- A list word is loaded.
use Rattle.std.proofs.Common.{◌≡◌, ℕ, true, false, not, List, [], ◌∷◌, length, refl, sym, ap, ◌∙◌, subst, inl, inr, Some, arith}
use Rattle.std.specs.Prelude.{◌==◌, ◌||◌, ◌&&◌, is_some}
use Rattle.std.specs.List.{range_with_len}
use Rattle.std.proofs.lemmas.Bool.{cases_Bool, false≢true, true≢false, eqb-true, eqb-false, eq-eqb, and_parts, and_from, or_cases, or_left, or_right, or_from, cond-true, cond-false, not_from_false, not-true}
use Rattle.areanode.specs.Words.{has_bit}
use Rattle.core_steps.specs.Nodes.{Fixed, has, is_leaf, plan_of, home}
use Rattle.core_steps.specs.Points.{Point, Entered, Leaving, Stage, AtReading, stage_of, is_busy, is_settled}
use Rattle.core_steps.specs.Points.{is_storing, is_committed, is_without_effect, stores_owed}
use Rattle.core_steps.specs.Reads.{ListRead, View, list_at, players_in, region_in}
use Rattle.core_steps.specs.Held.{inner_held, leaves_held, holds, visited_node, held_word}
use Rattle.core_steps.specs.Steps.{loading, visiting, view_after_list}
use Rattle.core_steps.specs.Stands.{OwesRight, IsCounted, HasOwn, IsUnread, IsReadRight, IsResolved, IsAt, HasRead, IsLoadable, IsHolding, is_present, part_of}
use Rattle.core_steps.specs.Laws.{LoadedListStands}
use Rattle.core_steps.proofs.Unyielding.{is_yielding, not_giving_up}
use Rattle.core_steps.proofs.Puts.{eqb_sym}
use Rattle.core_steps.proofs.Lists.{has_filter, filter_has, has_range, range_has}
use Rattle.core_steps.proofs.Frames.{busy_lives, stands_with_view}
use Rattle.core_steps.proofs.Points.{visiting_between, at_visiting}
use Rattle.core_steps.proofs.Giving.{seat_at}
use Rattle.core_steps.proofs.Quiet.{quiet_bit}

-- what a point is that comes after the list word of this node was loaded
pub record IsListed (F : Fixed) (node : ℕ) (point : Point) : Type 0 where
  pub stage : stage_of point ≡ AtReading
  pub leaves : (wanted : List ℕ) → leaves_held point wanted ≡ wanted
  pub inner : inner_held F point ≡ visited_node F node
  pub present : (v : ℕ) → is_present point v ≡ true → v ≡ node
  pub part : (p : ℕ) → length (part_of point p) ≡ 0
  pub owes : stores_owed point ≡ []

pub loading_listed : (F : Fixed) (view : View) (node : ℕ) (players plan : List ℕ) → IsListed F node (loading F view node players plan)
loading_listed F view node [] plan =
    elim (cases_Bool (is_leaf F node)) [
      | inl leaf ↦
          let between = visiting_between F view plan in
          let is : IsListed F node (visiting F view plan) = record {
            stage = between.stage;
            leaves = between.leaves;
            inner = between.inner ∙ sym (cond-true (is_leaf F node) [] (node ∷ []) leaf);
            present = λ v here. absurd (false≢true (sym (between.absent v) ∙ here));
            part = λ p. ap length (between.part p);
            owes = between.owes;
          } in
          subst (IsListed F node) (sym (cond-true (is_leaf F node) (visiting F view plan) (Leaving node plan) leaf)) is
      | inr inner ↦
          let is : IsListed F node (Leaving node plan) = record {
            stage = refl;
            leaves = λ wanted. refl;
            inner = refl;
            present = λ v here. sym (eqb-true node v here);
            part = λ p. refl;
            owes = refl;
          } in
          subst (IsListed F node) (sym (cond-false (is_leaf F node) (visiting F view plan) (Leaving node plan) inner)) is
    ]
loading_listed F view node (slot ∷ players) plan = record {
  stage = refl;
  leaves = λ wanted. refl;
  inner = refl;
  present = λ v here. sym (eqb-true node v here);
  part = λ p. elim (cases_Bool (slot == p)) [ inl e ↦ rw e refl | inr e ↦ rw e refl ];
  owes = refl;
}

-- what is known where players are left under a node that is planned
pub record IsReadUnder (F : Fixed) (view : View) (node : ℕ) (players plan : List ℕ) : Type 0 where
  pub read : HasRead F (region_in F view.cmd view.own) view.cmd.slot view.lists view.others plan players
  pub planned : has (plan_of F (region_in F view.cmd view.own)) node ≡ true
  pub each : (p : ℕ) → has players p ≡ true → IsLoadable node view.cmd.slot p view.lists

pub at_loading : (F : Fixed) (view : View) (node : ℕ) (players plan : List ℕ) → IsReadUnder F view node players plan
    → IsAt F view.cmd view.own view.wanted view.again view.lists view.others view.states view.effect (loading F view node players plan)
at_loading F view node [] plan is =
    elim (cases_Bool (is_leaf F node)) [
      | inl leaf ↦ subst (IsAt F view.cmd view.own view.wanted view.again view.lists view.others view.states view.effect)
          (sym (cond-true (is_leaf F node) (visiting F view plan) (Leaving node plan) leaf)) (at_visiting F view plan is.read)
      | inr inner ↦ subst (IsAt F view.cmd view.own view.wanted view.again view.lists view.others view.states view.effect)
          (sym (cond-false (is_leaf F node) (visiting F view plan) (Leaving node plan) inner)) (record { read = is.read; planned = is.planned; inner = inner })
    ]
at_loading F view node (slot ∷ players) plan is = record {
  read = is.read;
  load = record { partly = omega arith; left = omega arith; planned = is.planned; each = is.each };
}

-- a word that is read at another node leaves this one
other_list : (lists : List ListRead) (node word v : ℕ) → (v == node) ≡ false → list_at (record { node = node; word = word } ∷ lists) v ≡ list_at lists v
other_list lists node word v other = cond-false (node == v) (Some word) (list_at lists v) (eqb_sym v node other)

this_list : (lists : List ListRead) (node word v : ℕ) → (v == node) ≡ true → list_at (record { node = node; word = word } ∷ lists) v ≡ Some word
this_list lists node word v same = cond-true (node == v) (Some word) (list_at lists v) (eq-eqb node v (sym (eqb-true v node same)))

-- what is read after the word of the first node ahead was loaded
read_more : (F : Fixed) (view : View) (node word : ℕ) (plan : List ℕ) → HasRead F (region_in F view.cmd view.own) view.cmd.slot view.lists view.others (node ∷ plan) []
    → HasRead F (region_in F view.cmd view.own) view.cmd.slot (record { node = node; word = word } ∷ view.lists) view.others plan (players_in word view.cmd.slot)
read_more F view node word plan is = record {
  planned = λ v ahead. is.planned v (or_right _ _ ahead);
  read = λ v planned none. elim (cases_Bool (v == node)) [
    | inl e ↦ ap is_some (this_list view.lists node word v e)
    | inr e ↦ ap is_some (other_list view.lists node word v e) ∙ is.read v planned (or_from (node == v) (has plan v) (eqb_sym v node e) none)
  ];
  loaded = λ v word' p read below bit other none. elim (cases_Bool (v == node)) [
    | inl e ↦
        let same : word ≡ word' = let there = sym (this_list view.lists node word v e) ∙ read in cc in
        let there = filter_has (λ slot. has_bit word slot && not (slot == view.cmd.slot)) (range_with_len 0 64) p (range_has 0 64 p (omega arith) (omega arith))
        (and_from _ _ (subst (λ (w : ℕ). has_bit w p ≡ true) (sym same) bit) (not_from_false (p == view.cmd.slot) other)) in
        absurd (true≢false (sym there ∙ none))
    | inr e ↦ is.loaded v word' p (sym (other_list view.lists node word v e) ∙ read) below bit other refl
  ];
  whole = is.whole;
}

pub loaded_list_stands : LoadedListStands
loaded_list_stands F core history now i node plan lawful start e is =
    let view = core.view i in
    let word = core.words.links node in
    let slot = view.cmd.slot in
    let players = players_in word slot in
    let new = view_after_list F node plan word view in
    let seat = is.seats i in
    let here = seat_at F core history now i (Entered node plan) is e in
    let listed = loading_listed F view node players plan in
    let stage : stage_of view.point ≡ AtReading = ap stage_of e in
    let same_stage : stage_of new.point ≡ stage_of view.point = listed.stage ∙ sym stage in
    let settled : is_settled (stage_of view.point) ≡ true = ap is_settled stage in
    let same_holds : (v : ℕ) → holds F new.point view.wanted v ≡ holds F view.point view.wanted v =
    λ v. ap (λ (nodes : List ℕ). has nodes v || has (leaves_held new.point view.wanted) v) listed.inner
    ∙ ap (λ (nodes : List ℕ). has (visited_node F node) v || has nodes v) (listed.leaves view.wanted)
    ∙ ap (λ (p : Point). holds F p view.wanted v) (sym e) in
    let list = view.lists in
    stands_with_view F core history now i new is (record {
      lives = busy_lives core.view i is.numbers (ap is_busy stage);
      keeps = record { live = refl; log = refl; made = refl; ended = refl };
      seat = record {
        named = λ v held. seat.named v (sym (same_holds v) ∙ held) ∙ ap (λ (s : Stage). held_word F i s view.wanted v) (sym same_stage);
        holding = subst (λ (inner : List ℕ). IsHolding F view.wanted (leaves_held new.point view.wanted) inner) (sym listed.inner)
            (subst (λ (leaves : List ℕ). IsHolding F view.wanted leaves (visited_node F node)) (sym (listed.leaves view.wanted)) here.holding);
        counted = subst (IsCounted core.words.commits view.seen view.room view.log) (sym same_stage) seat.counted;
        hand = λ busy. seat.hand (ap is_busy stage);
        own = subst (λ (s : Stage). HasOwn F now view.cmd s view.own view.wanted) (sym same_stage) seat.own;
        unread = subst (λ (s : Stage). IsUnread s view.own view.again new.lists view.others view.states view.effect) (sym listed.stage) (record {
          no_own = λ busy. absurd (true≢false busy);
          no_again = λ before. absurd (false≢true before);
          no_lists = λ before. absurd (false≢true before);
          no_others = λ before. absurd (false≢true before);
          no_states = λ before. absurd (false≢true before);
          no_effect = λ _. seat.unread.no_effect (ap is_without_effect stage);
        });
        at = at_loading F (record view { lists = new.lists }) node players plan (record {
          read = read_more F view node word plan here.at;
          planned = here.at.planned node (or_left _ _ (eq-eqb node node refl));
          each = λ p listed_p.
              let kept = has_filter (λ s. has_bit word s && not (s == slot)) (range_with_len 0 64) p listed_p in
              let range = has_range 0 64 p kept.listed in
              let parts = and_parts (has_bit word p) (not (p == slot)) kept.passes in
              record { player = omega arith; other = not-true (p == slot) parts.1; word = word; read = this_list list node word node (eq-eqb node node refl); bit = parts.0 };
        });
        current = record {
          same_list = λ _ v word' read held. elim (cases_Bool (v == node)) [
            | inl same ↦
                let equal : word ≡ word' = let there = sym (this_list list node word v same) ∙ read in cc in
                ap core.words.links (eqb-true v node same) ∙ equal
            | inr other ↦ here.current.same_list refl v word' (sym (other_list list node word v other) ∙ read)
                (elim (or_cases (has view.wanted v) (is_present new.point v) held) [
                  | inl leaf ↦ or_left _ _ leaf
                  | inr present ↦ absurd (eqb-false v node other (listed.present v present))
                ])
          ];
          same_part = λ p k below. let none = listed.part p in absurd (omega (arith, below, none));
        };
        right = subst (λ (s : Stage). IsReadRight F now view.cmd s view.own view.again new.lists view.others view.states) (sym same_stage) (record {
          same_again = seat.right.same_again;
          whole = seat.right.whole;
          same_player = seat.right.same_player;
          same_state = seat.right.same_state;
          has_its_bit = λ _ p word' player other touches read. elim (cases_Bool (home F (now.record_of p) == node)) [
            | inl same ↦
                let equal : word ≡ word' = let there = sym (this_list list node word (home F (now.record_of p)) same) ∙ read in cc in
                let bit = quiet_bit F core history now i p node lawful start is settled player touches in
                subst (λ (w : ℕ). has_bit w p ≡ true) equal (bit ∙ eq-eqb node (home F (now.record_of p)) (sym (eqb-true (home F (now.record_of p)) node same)))
            | inr away ↦ seat.right.has_its_bit settled p word' player other touches (sym (other_list list node word (home F (now.record_of p)) away) ∙ read)
          ];
        });
        resolved = subst (λ (s : Stage). IsResolved F now view.cmd s view.effect) (sym same_stage) seat.resolved;
        giving_up = not_giving_up (ap is_yielding listed.stage);
        committed = record {
          item = λ done. absurd (false≢true (ap is_committed (sym listed.stage) ∙ done));
          owed = subst (OwesRight now) (sym listed.owes) tt;
          linked = λ storing. absurd (false≢true (ap is_storing (sym listed.stage) ∙ storing));
        };
      };
      same = same_holds;
      slots = λ j other _. (is.apart i j (eqb_sym j i other)).slots (ap is_busy stage);
      owes = listed.owes ∙ sym (ap stores_owed e);
      stores = λ p. ap (λ (s : Stage). is_storing s && (slot == p)) same_stage;
    })
