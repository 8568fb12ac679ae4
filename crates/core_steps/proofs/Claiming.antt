-- The first write node is taken, with which the effect enters the view.
use Rattle.std.proofs.Common.{◌≡◌, ℕ, true, false, List, [], ◌∷◌, refl, sym, ap, ◌∙◌, subst, inl, inr, Some}
use Rattle.std.specs.Prelude.{◌==◌}
use Rattle.std.proofs.lemmas.Bool.{false≢true, true≢false, eqb-true, eqb-false, eq-eqb, or_cases, or_left, or_right}
use Rattle.entity_recs.specs.Histories.{outcome}
use Rattle.core_steps.specs.Nodes.{has, is_leaf, home, write_nodes}
use Rattle.core_steps.specs.Points.{Point, Resolving, AtReading, AtClaiming, stage_of, is_busy, is_open, is_whole}
use Rattle.core_steps.specs.Points.{is_settled, is_read_again}
use Rattle.core_steps.specs.Reads.{record_read}
use Rattle.core_steps.specs.Steps.{first, rest_of, view_after_claim}
use Rattle.core_steps.specs.Laws.{ClaimedNodeStands}
use Rattle.core_steps.proofs.Unyielding.{not_giving_up}
use Rattle.core_steps.proofs.Giving.{seat_at}
use Rattle.core_steps.proofs.TreeNodes.{inner_in}
use Rattle.core_steps.proofs.Taking.{IsTaken, take_on}
use Rattle.core_steps.proofs.Takes.{two_inner}
use Rattle.core_steps.proofs.Drops.{word_of_leaf}
use Rattle.core_steps.proofs.Resolved.{loaded_is_outcome}

first_and_rest : (nodes : List ℕ) (node : ℕ) → first nodes ≡ Some node → node ∷ rest_of nodes ≡ nodes
first_and_rest [] node e = cc
first_and_rest (n ∷ nodes) node e = cc

pub claimed_node_stands : ClaimedNodeStands
claimed_node_stands F core history now i e node lawful start at_point effect next free is =
    let view = core.view i in
    let seat = is.seats i in
    let here = seat_at F core history now i Resolving is at_point in
    let before = record_read view.cmd.slot view.again in
    let nodes = write_nodes F before e in
    let all : node ∷ rest_of nodes ≡ nodes = first_and_rest nodes node next in
    let new = view_after_claim F e node view in
    let stage : stage_of view.point ≡ AtReading = ap stage_of at_point in
    let busy : is_busy (stage_of view.point) ≡ true = ap is_busy stage in
    let open' : is_open (stage_of view.point) ≡ true = ap is_open stage in
    let whole : is_whole (stage_of view.point) ≡ true = ap is_whole stage in
    let settled : is_settled (stage_of view.point) ≡ true = ap is_settled stage in
    let right : e ≡ outcome F.effect_of now view.cmd = effect ∙ loaded_is_outcome F core history now i lawful start is at_point in
    let inner : (v : ℕ) → has (node ∷ []) v ≡ true → is_leaf F v ≡ false =
    λ v held. two_inner F (home F before) (home F e.me) v (subst (λ (ns : List ℕ). has ns v ≡ true) all (elim (or_cases (node == v) false held) [
      | inl same ↦ or_left _ _ same
      | inr none ↦ absurd (false≢true none)
    ])) in
    take_on F core history now i node new is free
    (subst (λ (point : Point). IsTaken F core history now i node new point) (sym at_point) (record {
      was_busy = refl;
      within = inner_in F node (inner node (or_left _ _ (eq-eqb node node refl)));
      keeps = record { live = refl; log = refl; made = refl; ended = refl };
      cmd = refl;
      now_held = or_left _ _ (or_left _ _ (eq-eqb node node refl));
      more = λ v held other. elim (or_cases (has (node ∷ []) v) (has view.wanted v) held) [
        | inl taken ↦ absurd (only v other taken)
        | inr leaf ↦ leaf
      ];
      kept = λ v held. or_right _ _ held;
      word = λ v held. word_of_leaf F i AtReading AtClaiming view.wanted v (here.holding.leaves_are_leaves v held);
      owes = refl;
      owed = refl;
      not_storing = refl;
      was_not_storing = refl;
      seat = λ node' named. record {
        named = named;
        holding = record {
          wanted_once = here.holding.wanted_once;
          wanted_are_leaves = here.holding.wanted_are_leaves;
          leaves_once = here.holding.leaves_once;
          leaves_are_leaves = here.holding.leaves_are_leaves;
          inner_once = (refl, tt);
          inner_are_inner = inner;
        };
        counted = record { within = seat.counted.within; known = seat.counted.known; has_room = λ _. seat.counted.has_room open' };
        hand = λ _. seat.hand busy;
        own = record {
          matches = λ _. seat.own.matches open';
          part = λ owning. absurd (false≢true owning);
          whole = λ _. seat.own.whole whole;
          leaves = λ _. seat.own.leaves whole;
          none = λ none. absurd (true≢false none);
        };
        unread = record {
          no_own = λ idle. absurd (true≢false idle);
          no_again = λ e. absurd (false≢true e);
          no_lists = λ e. absurd (false≢true e);
          no_others = λ e. absurd (false≢true e);
          no_states = λ e. absurd (false≢true e);
          no_effect = λ e. absurd (false≢true e);
        };
        at = record { sensing = here.at; claim = record { e = e; is = refl; nodes = all } };
        current = record { same_list = here.current.same_list; same_part = here.current.same_part };
        right = record {
          same_again = λ _. seat.right.same_again settled;
          whole = λ _. seat.right.whole (ap is_read_again stage);
          same_player = λ _. seat.right.same_player settled;
          same_state = λ _. seat.right.same_state settled;
          has_its_bit = λ _. seat.right.has_its_bit settled;
        };
        resolved = record { is_outcome = λ _ f is_f. let same : e ≡ f = cc in sym same ∙ right };
        giving_up = not_giving_up refl;
        committed = record { item = λ done. absurd (false≢true done); owed = tt; linked = λ storing. absurd (false≢true storing) };
      };
    }))
  where
    only : (v : ℕ) → (v == node) ≡ false → has (node ∷ []) v ≡ true → ⊥
    only v other held = elim (or_cases (node == v) false held) [
      | inl same ↦ eqb-false v node other (sym (eqb-true node v same))
      | inr none ↦ false≢true none
    ]
