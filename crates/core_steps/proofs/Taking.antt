-- A node is taken.
use Rattle.std.proofs.Common.{◌≡◌, ℕ, suc, ◌<◌, ◌≤◌, Bool, true, false, List, [], length, refl, sym, ap, ◌∙◌, subst, inl, inr, arith}
use Rattle.std.specs.Prelude.{◌==◌, ◌&&◌}
use Rattle.std.proofs.lemmas.Bool.{cases_Bool, false≢true, true≢false, eqb-true, ne_eqb, cond-true, cond-false, false_from_ne_true}
use Rattle.entity_recs.specs.declared.effect.NewState.{NewState}
use Rattle.entity_recs.specs.Worlds.{World}
use Rattle.entity_recs.specs.Histories.{Item}
use Rattle.core_steps.specs.Cells.{Words, put}
use Rattle.core_steps.specs.Nodes.{Fixed, nodes_of, home}
use Rattle.core_steps.specs.Points.{is_before_leaves, is_open, is_whole, is_without_effect, Point, Taking, Checking}
use Rattle.core_steps.specs.Points.{AtTaking, AtChecking, stage_of, is_busy, is_storing, stores_owed}
use Rattle.core_steps.specs.Reads.{ListRead, PlayerRead, list_at, player_at, state_at, View}
use Rattle.core_steps.specs.Held.{holds, held_word}
use Rattle.core_steps.specs.Steps.{Core, with_node}
use Rattle.core_steps.specs.Stands.{SeatStands, owed_at, Stands}
use Rattle.core_steps.proofs.Unyielding.{not_giving_up}
use Rattle.core_steps.proofs.Puts.{put_other, eqb_sym}
use Rattle.core_steps.proofs.Frames.{KeepsLog, stands_after, none_before, busy_lives}

-- a node whose word is 0 is held by nobody
not_held : (F : Fixed) (core : Core) (history : List Item) (now : World) (j node : ℕ) → Stands F core history now → core.words.node node ≡ 0
    → holds F (core.view j).point (core.view j).wanted node ≡ false
not_held F core history now j node is free =
    false_from_ne_true _ (λ held. let named = (is.seats j).named node held in absurd (zero_or_more (free_sum named)))
  where
    free_sum : {n : ℕ} → core.words.node node ≡ suc n → 0 ≡ suc n
    free_sum e = sym free ∙ e

    zero_or_more : {n : ℕ} → 0 ≡ suc n → ⊥
    zero_or_more e = cc

-- the seat's view after it has taken a node at the old point
pub record IsTaken (F : Fixed) (core : Core) (history : List Item) (now : World) (i node : ℕ) (new : View) (old : Point) : Type 0 where
  pub was_busy : is_busy (stage_of old) ≡ true
  pub within : node < nodes_of F
  pub keeps : KeepsLog new (core.view i)
  pub cmd : new.cmd ≡ (core.view i).cmd
  pub now_held : holds F new.point new.wanted node ≡ true
  pub more : (v : ℕ) → holds F new.point new.wanted v ≡ true → (v == node) ≡ false → holds F old (core.view i).wanted v ≡ true
  pub kept : (v : ℕ) → holds F old (core.view i).wanted v ≡ true → holds F new.point new.wanted v ≡ true
  pub word : (v : ℕ) → holds F old (core.view i).wanted v ≡ true
      → held_word F i (stage_of old) (core.view i).wanted v ≡ held_word F i (stage_of new.point) new.wanted v
  pub owes : stores_owed new.point ≡ []
  pub owed : stores_owed old ≡ []
  pub not_storing : is_storing (stage_of new.point) ≡ false
  pub was_not_storing : is_storing (stage_of old) ≡ false
  pub seat : (node' : ℕ → ℕ) → ((v : ℕ) → holds F new.point new.wanted v ≡ true → node' v ≡ held_word F i (stage_of new.point) new.wanted v)
      → SeatStands F (record core.words { node = node' }) history now i new

pub take_on : (F : Fixed) (core : Core) (history : List Item) (now : World) (i node : ℕ) (new : View) → Stands F core history now → core.words.node node ≡ 0
    → IsTaken F core history now i node new (core.view i).point
    → Stands F (with_node core node (held_word F i (stage_of new.point) new.wanted node) i new) history now
take_on F core history now i node new is free step =
    let view = core.view i in
    let word = held_word F i (stage_of new.point) new.wanted node in
    let nobody : (j : ℕ) → holds F (core.view j).point (core.view j).wanted node ≡ false = λ j. not_held F core history now j node is free in
    let differs : (j v : ℕ) → holds F (core.view j).point (core.view j).wanted v ≡ true → (v == node) ≡ false =
    λ j v held. ne_eqb v node (λ same. true≢false (sym held ∙ subst (λ (n : ℕ). holds F (core.view j).point (core.view j).wanted n ≡ false) (sym same) (nobody j))) in
    stands_after F core history now i new (put node word core.words.node) is (record {
      lives = busy_lives core.view i is.numbers step.was_busy;
      keeps = step.keeps;
      seat = step.seat (put node word core.words.node) (λ v held. elim (cases_Bool (v == node)) [
        | inl e ↦ cond-true (v == node) word (core.words.node v) e
            ∙ ap (λ (n : ℕ). held_word F i (stage_of new.point) new.wanted n) (sym (eqb-true v node e))
        | inr e ↦ let before = step.more v held e in cond-false (v == node) word (core.words.node v) e ∙ (is.seats i).named v before ∙ step.word v before
      ]);
      others = λ j _ v held. put_other node v word core.words.node (differs j v held);
      apart = λ j other.
          let old = is.apart i j (eqb_sym j i other) in
          record {
            nodes = λ v held. elim (cases_Bool (v == node)) [
              | inl e ↦ subst (λ (n : ℕ). holds F (core.view j).point (core.view j).wanted n ≡ false) (sym (eqb-true v node e)) (nobody j)
              | inr e ↦ old.nodes v (step.more v held e)
            ];
            slots = λ busy busy'. subst (λ c. (c.slot == (core.view j).cmd.slot) ≡ false) (sym step.cmd) (old.slots step.was_busy busy');
            cells = λ cell x owed. let none = ap (λ stores. owed_at stores cell) step.owes in cc;
          };
      free = λ v here others.
          let other : (v == node) ≡ false = ne_eqb v node (λ same. true≢false (sym step.now_held ∙ subst (λ (n : ℕ). holds F new.point new.wanted n ≡ false) same here)) in
          put_other node v word core.words.node other
          ∙ is.free v (none_before F core.view i v (false_from_ne_true _ (λ held. true≢false (sym (step.kept v held) ∙ here))) others);
      owes = λ cell. ap (λ stores. owed_at stores cell) (step.owes ∙ sym step.owed);
      stores = λ p. ap (λ (b : Bool). b && (new.cmd.slot == p)) (step.not_storing ∙ sym step.was_not_storing)
          ∙ ap (λ c. is_storing (stage_of view.point) && (c.slot == p)) step.cmd;
      unused = λ v beyond. put_other node v word core.words.node (away v node beyond step.within) ∙ is.unused.no_node v beyond;
    })
  where
    away : (v n : ℕ) → nodes_of F ≤ v → n < nodes_of F → (v == n) ≡ false
    away v n beyond within = ne_eqb v n (λ same. omega arith)

-- ---- a leaf

-- the seat stands that has taken its last leaf: nothing is read yet
pub checking_stands : (F : Fixed) (words : Words) (history : List Item) (now : World) (i : ℕ) (view : View) (got rest : List ℕ) (node' : ℕ → ℕ)
    → view.point ≡ Taking got rest → SeatStands F words history now i view
    → ((v : ℕ) → holds F Checking view.wanted v ≡ true → node' v ≡ held_word F i AtChecking view.wanted v)
    → SeatStands F (record words { node = node' }) history now i (record view { point = Checking })
checking_stands F words history now i view got rest node' e is named =
    let stage : stage_of view.point ≡ AtTaking = ap stage_of e in
    let before : is_before_leaves (stage_of view.point) ≡ true = ap is_before_leaves stage in
    let open' : is_open (stage_of view.point) ≡ true = ap is_open stage in
    let whole : is_whole (stage_of view.point) ≡ true = ap is_whole stage in
    let again = is.unread.no_again before in
    let lists = is.unread.no_lists before in
    let others = is.unread.no_others before in
    let states = is.unread.no_states before in
    let effect = is.unread.no_effect (ap is_without_effect stage) in
    record {
      named = named;
      holding = record {
        wanted_once = is.holding.wanted_once;
        wanted_are_leaves = is.holding.wanted_are_leaves;
        leaves_once = is.holding.wanted_once;
        leaves_are_leaves = is.holding.wanted_are_leaves;
        inner_once = tt;
        inner_are_inner = λ v held. absurd (false≢true held);
      };
      counted = record { within = is.counted.within; known = is.counted.known; has_room = λ _. is.counted.has_room open' };
      hand = λ _. is.hand (ap is_busy stage);
      own = record {
        matches = λ _. is.own.matches open';
        part = λ owning. absurd (false≢true owning);
        whole = λ _. is.own.whole whole;
        leaves = λ _. is.own.leaves whole;
        none = λ none. absurd (true≢false none);
      };
      unread = record {
        no_own = λ busy. absurd (true≢false busy);
        no_again = λ e. absurd (false≢true e);
        no_lists = λ e. absurd (false≢true e);
        no_others = λ e. absurd (false≢true e);
        no_states = λ e. absurd (false≢true e);
        no_effect = λ _. effect;
      };
      at = record { part = subst (λ (words : List ℕ). length words < 6) (sym again) (omega arith); no_lists = lists; no_others = others; no_states = states };
      current = record {
        same_list = λ _ node word read _. let none = ap (λ (ls : List ListRead). list_at ls node) lists in cc;
        same_part = λ p k below. absurd (omega arith);
      };
      right = record {
        same_again = λ _ k below. let none = ap length again in absurd (omega arith);
        whole = λ e. absurd (false≢true e);
        same_player = λ _ p words _ read _. let none = ap (λ (rs : List PlayerRead). player_at rs p) others in cc;
        same_state = λ _ id state _ _ read _. let none = ap (λ (ss : List NewState). state_at ss id) states in cc;
        has_its_bit = λ _ p word _ _ _ read. let none = ap (λ (ls : List ListRead). list_at ls (home F (now.record_of p))) lists in cc;
      };
      resolved = record { is_outcome = λ _ e is_e. cc };
      giving_up = not_giving_up refl;
      committed = record { item = λ done. absurd (false≢true done); owed = tt; linked = λ storing. absurd (false≢true storing) };
    }
