-- A store that is owed is made: the own bit is cleared or set, or a word is stored.
use Rattle.std.proofs.Common.{◌≡◌, ℕ, ◌<◌, ◌≤◌, Bool, true, false, List, [], ◌∷◌, ◌++◌, length, refl, sym, ap, ◌∙◌, subst, inl, inr, Option, Some, None, arith, append_assoc}
use Rattle.std.specs.Prelude.{◌==◌, ◌||◌, ◌&&◌, nat_lt, All, is_some}
use Rattle.std.specs.List.Sorted.{IsPermutation}
use Rattle.std.proofs.lemmas.Bool.{cases_Bool, false≢true, true≢false, eqb-true, eq-eqb, ne_eqb, and_parts, and_from, or_cases, or_left, or_right, ltb-true, lt-ltb, leb-false, cond-true, cond-false}
use Rattle.entity_recs.specs.Worlds.{World}
use Rattle.entity_recs.specs.Histories.{Item}
use Rattle.areanode.specs.Trees.{node_of}
use Rattle.areanode.specs.Words.{has_bit}
use Rattle.std.specs.List.{range_with_len}
use Rattle.core_steps.specs.Cells.{Words, Cell, Body, State, put, is_cell, word_in, with_word, with_bit, without_bit}
use Rattle.core_steps.specs.Nodes.{Fixed, has, is_leaf, inner_nodes, nodes_of, home}
use Rattle.core_steps.specs.Points.{Store, Clear, Put, Link, Point, Idle, Owning, Taking, Checking, Entering, Entered}
use Rattle.core_steps.specs.Points.{Loading, Leaving, Sensing, Resolving, Claiming, Storing, Releasing, Returning}
use Rattle.core_steps.specs.Points.{Yielding, Stage, AtRest, AtOwning, AtTaking, AtChecking, AtReading, AtClaiming}
use Rattle.core_steps.specs.Points.{AtStoring, AtReleasing, AtReturning, AtYielding, stage_of, is_busy, is_open}
use Rattle.core_steps.specs.Points.{is_settled, is_committed, is_before_leaves, is_whole, is_owning, is_read_again}
use Rattle.core_steps.specs.Points.{is_without_effect, is_storing, is_writing, stores_owed}
use Rattle.core_steps.specs.Reads.{Ended, View, state_at, record_read, region_in}
use Rattle.core_steps.specs.Held.{inner_held, leaves_held, holds}
use Rattle.core_steps.specs.Steps.{Core, storing, store_next}
use Rattle.core_steps.specs.Stands.{OwesRight, IsAt, IsStart, IsLawful, IsLogWithin, IsHolding, AreUnusedZero, IsCurrent, IsGivingUp, IsStoring, is_present, part_of, is_player, is_live_cell, value_in, owed_at, is_linked_at, is_storing_for, SeatStands, Stands}
use Rattle.core_steps.specs.Laws.{StoredNextStands}
use Rattle.core_steps.proofs.Unyielding.{is_yielding, not_giving_up}
use Rattle.core_steps.proofs.Puts.{each_put, put_same, put_other, kept_put, eqb_sym}
use Rattle.core_steps.proofs.Lists.{filter_has, range_has}
use Rattle.core_steps.proofs.Frames.{same_logs_put, items_of_same, numbered_put, apart_put, busy_lives, KeepsLog}
use Rattle.core_steps.proofs.Giving.{seat_at, current_unsettled}
use Rattle.core_steps.proofs.Drops.{word_at_stages}
use Rattle.core_steps.proofs.TreeNodes.{inner_in, wanted_in}
use Rattle.entity_recs.specs.declared.effect.Effect.{Effect}
use Rattle.core_steps.proofs.Exclusion.{all_leaves, now_world}
use Rattle.core_steps.proofs.Runs.{live_ordered}
use Rattle.core_steps.proofs.Owing.{owing}
use Rattle.core_steps.proofs.Quiet.{has_written}
use Rattle.core_steps.proofs.Held.{holds_old, leaf_home, under_held, NoClear}
use Rattle.core_steps.proofs.Stores.{middle_of, tail_of-is, tail_no_clear, rest_no_clear, not_linked, front_no_link, link_is_last, some_left, word_same, word_other, without_bit_same, without_bit_other, with_bit_same, with_bit_other, bits_kept}

-- ---- the point after a store

pub record IsAfterStore (F : Fixed) (nodes : List ℕ) (stores : List Store) (point : Point) : Type 0 where
  pub committed : is_committed (stage_of point) ≡ true
  pub busy : is_busy (stage_of point) ≡ true
  pub closed : is_open (stage_of point) ≡ false
  pub unsettled : is_settled (stage_of point) ≡ false
  pub whole : is_whole (stage_of point) ≡ true
  pub owning : is_owning (stage_of point) ≡ false
  pub again : is_read_again (stage_of point) ≡ true
  pub before : is_before_leaves (stage_of point) ≡ false
  pub effect : is_without_effect (stage_of point) ≡ false
  pub writing : is_writing (stage_of point) ≡ true
  pub leaves : (wanted : List ℕ) → leaves_held point wanted ≡ wanted
  pub inner : inner_held F point ≡ nodes
  pub owes : stores_owed point ≡ stores
  pub part : (p : ℕ) → part_of point p ≡ []
  pub yielding : is_yielding (stage_of point) ≡ false

pub after_store : (F : Fixed) (nodes : List ℕ) (stores : List Store) → IsAfterStore F nodes stores (storing nodes stores)
after_store F nodes [] = record { committed = refl; busy = refl; closed = refl; unsettled = refl; whole = refl; owning = refl; again = refl; before = refl; effect = refl; writing = refl; leaves = λ w. refl; inner = refl; owes = refl; part = λ p. refl; yielding = refl }
after_store F nodes (s ∷ stores) = record { committed = refl; busy = refl; closed = refl; unsettled = refl; whole = refl; owning = refl; again = refl; before = refl; effect = refl; writing = refl; leaves = λ w. refl; inner = refl; owes = refl; part = λ p. refl; yielding = refl }

-- some stores are left: the seat is storing still
still_storing : (nodes : List ℕ) (stores : List Store) → 0 < length stores → is_storing (stage_of (storing nodes stores)) ≡ true
still_storing nodes [] some = absurd (omega arith)
still_storing nodes (s ∷ stores) some = refl

at_after : (F : Fixed) (view : View) (nodes : List ℕ) (store : Store) (stores : List Store) → IsStoring F view.cmd.slot (record_read view.cmd.slot view.again) view.effect nodes (store ∷ stores)
    → IsAt F view.cmd view.own view.wanted view.again view.lists view.others view.states view.effect (storing nodes stores)
at_after F view nodes store [] is = tt
at_after F view nodes store (s ∷ stores) is = record {
  e = is.e;
  is = is.is;
  held = is.held;
  made = is.made ++ store ∷ [];
  owed = append_assoc is.made (store ∷ []) (s ∷ stores) ∙ is.owed;
  left = omega arith;
}

-- the seat that stores stands after its store
seat_after : (F : Fixed) (words words' : Words) (history : List Item) (now : World) (i : ℕ) (view : View) (nodes : List ℕ) (store : Store) (stores : List Store)
    → view.point ≡ Storing nodes (store ∷ stores) → words'.node ≡ words.node → words'.commits ≡ words.commits → SeatStands F words history now i view
    → OwesRight now stores
    → (is_storing (stage_of (storing nodes stores)) ≡ true → (v : ℕ) → has_bit (words'.links v) view.cmd.slot ≡ is_linked_at stores v)
    → SeatStands F words' history now i (record view { point = storing nodes stores })
seat_after F words words' history now i view nodes store stores e node_same commits_same is owes linked =
    let point = storing nodes stores in
    let after = after_store F nodes stores in
    let stage : stage_of view.point ≡ AtStoring = ap stage_of e in
    let at : IsStoring F view.cmd.slot (record_read view.cmd.slot view.again) view.effect nodes (store ∷ stores) =
    subst (IsAt F view.cmd view.own view.wanted view.again view.lists view.others view.states view.effect) e is.at in
    let same_holds : (v : ℕ) → holds F point view.wanted v ≡ holds F view.point view.wanted v =
    λ v. ap (λ (ns : List ℕ). has ns v || has (leaves_held point view.wanted) v) after.inner ∙ ap (λ (ns : List ℕ). has nodes v || has ns v) (after.leaves view.wanted)
    ∙ ap (λ (p : Point). holds F p view.wanted v) (sym e) in
    record {
      named = λ v held. ap (λ (f : ℕ → ℕ). f v) node_same ∙ is.named v (sym (same_holds v) ∙ held)
          ∙ word_at_stages F i (stage_of view.point) (stage_of point) view.wanted v (ap is_writing stage ∙ sym after.writing);
      holding = subst (λ (inner : List ℕ). IsHolding F view.wanted (leaves_held point view.wanted) inner) (sym after.inner)
          (subst (λ (leaves : List ℕ). IsHolding F view.wanted leaves nodes) (sym (after.leaves view.wanted))
          (subst (λ (p : Point). IsHolding F view.wanted (leaves_held p view.wanted) (inner_held F p)) e is.holding));
      counted = record {
        within = is.counted.within;
        known = subst (λ (n : ℕ). view.seen ≤ n) (sym commits_same) is.counted.known;
        has_room = λ o. absurd (false≢true (sym after.closed ∙ o));
      };
      hand = λ _. is.hand (ap is_busy stage);
      own = record {
        matches = λ o. absurd (false≢true (sym after.closed ∙ o));
        part = λ o. absurd (false≢true (sym after.owning ∙ o));
        whole = λ _. is.own.whole (ap is_whole stage);
        leaves = λ _. is.own.leaves (ap is_whole stage);
        none = λ n. absurd (true≢false (sym after.whole ∙ n));
      };
      unread = record {
        no_own = λ n. absurd (true≢false (sym after.busy ∙ n));
        no_again = λ b. absurd (false≢true (sym after.before ∙ b));
        no_lists = λ b. absurd (false≢true (sym after.before ∙ b));
        no_others = λ b. absurd (false≢true (sym after.before ∙ b));
        no_states = λ b. absurd (false≢true (sym after.before ∙ b));
        no_effect = λ b. absurd (false≢true (sym after.effect ∙ b));
      };
      at = at_after F view nodes store stores at;
      current = current_unsettled words'.links words'.body point view.wanted view.lists (record { unsettled = after.unsettled; part = after.part });
      right = record {
        same_again = λ s. absurd (false≢true (sym after.unsettled ∙ s));
        whole = λ _. is.right.whole (ap is_read_again stage);
        same_player = λ s. absurd (false≢true (sym after.unsettled ∙ s));
        same_state = λ s. absurd (false≢true (sym after.unsettled ∙ s));
        has_its_bit = λ s. absurd (false≢true (sym after.unsettled ∙ s));
      };
      resolved = record { is_outcome = λ s. absurd (false≢true (sym after.unsettled ∙ s)) };
      giving_up = not_giving_up after.yielding;
      committed = record {
        item = λ _. is.committed.item (ap is_committed stage);
        owed = subst (OwesRight now) (sym after.owes) owes;
        linked = λ storing' v. linked storing' v ∙ ap (λ (s : List Store). is_linked_at s v) (sym after.owes);
      };
    }

-- another seat stands after words changed that it doesn't speak of
other_after : (F : Fixed) (words words' : Words) (history : List Item) (now : World) (j : ℕ) (view : View) → words'.node ≡ words.node → words'.commits ≡ words.commits
    → IsCurrent words'.links words'.body view.point view.wanted view.lists
    → IsGivingUp F words'.links now view.cmd view.point view.own view.wanted view.again view.lists view.others view.states view.effect
    → (is_storing (stage_of view.point) ≡ true → (v : ℕ) → has_bit (words'.links v) view.cmd.slot ≡ is_linked_at (stores_owed view.point) v)
    → SeatStands F words history now j view → SeatStands F words' history now j view
other_after F words words' history now j view node_same commits_same current giving_up linked is = record {
  named = λ v held. ap (λ (f : ℕ → ℕ). f v) node_same ∙ is.named v held;
  holding = is.holding;
  counted = record { within = is.counted.within; known = subst (λ (n : ℕ). view.seen ≤ n) (sym commits_same) is.counted.known; has_room = is.counted.has_room };
  hand = is.hand;
  own = is.own;
  unread = is.unread;
  at = is.at;
  current = current;
  right = is.right;
  resolved = is.resolved;
  giving_up = giving_up;
  committed = record { item = is.committed.item; owed = is.committed.owed; linked = linked };
}

-- what is owed of the rest is owed of all
rest_is_owed : (store : Store) (stores : List Store) (cell : Cell) (x : ℕ) → owed_at stores cell ≡ Some x → is_some (owed_at (store ∷ stores) cell) ≡ true
rest_is_owed (Clear node) stores cell x owed = ap is_some owed
rest_is_owed (Put c y) stores cell x owed =
    elim (cases_Bool (is_cell c cell)) [
      | inl e ↦ ap is_some (cond-true (is_cell c cell) (Some y) (owed_at stores cell) e)
      | inr e ↦ ap is_some (cond-false (is_cell c cell) (Some y) (owed_at stores cell) e ∙ owed)
    ]
rest_is_owed (Link node) stores cell x owed = ap is_some owed

some_none : (o : Option ℕ) (other : Option ℕ) → ((y : ℕ) → o ≡ Some y → other ≡ None) → is_some o ≡ true → other ≡ None
some_none None other each e = absurd (false≢true e)
some_none (Some y) other each e = each y refl

-- the words after a store, and what is said of them
record IsStoreStep (F : Fixed) (core : Core) (now : World) (i : ℕ) (nodes : List ℕ) (stores : List Store) (words' : Words) : Type 0 where
  node_same : words'.node ≡ core.words.node
  commits_same : words'.commits ≡ core.words.commits
  own_bit : is_storing (stage_of (storing nodes stores)) ≡ true → (v : ℕ) → has_bit (words'.links v) (core.view i).cmd.slot ≡ is_linked_at stores v
  current : (j : ℕ) → (j == i) ≡ false → IsCurrent words'.links words'.body (core.view j).point (core.view j).wanted (core.view j).lists
  giving_up : (j : ℕ) → (j == i) ≡ false
      → IsGivingUp F words'.links now (core.view j).cmd (core.view j).point (core.view j).own (core.view j).wanted (core.view j).again (core.view j).lists (core.view j).others (core.view j).states (core.view j).effect
  others_bit : (j : ℕ) → (j == i) ≡ false → is_storing (stage_of (core.view j).point) ≡ true → (v : ℕ)
      → has_bit (words'.links v) (core.view j).cmd.slot ≡ is_linked_at (stores_owed (core.view j).point) v
  unowed : (cell : Cell) → is_live_cell F cell ≡ true → owed_at stores cell ≡ None → ((j : ℕ) → (j == i) ≡ false → owed_at (stores_owed (core.view j).point) cell ≡ None)
      → word_in words' cell ≡ value_in now cell
  linked : (p v : ℕ) → is_player F p ≡ true → (is_storing (stage_of (storing nodes stores)) && ((core.view i).cmd.slot == p)) ≡ false
      → ((j : ℕ) → (j == i) ≡ false → is_storing_for (core.view j) p ≡ false) → has_bit (words'.links v) p ≡ (v == home F (now.record_of p))
  unlinked : (p v : ℕ) → p < 64 → has F.start.ids p ≡ false → has_bit (words'.links v) p ≡ false
  unused : AreUnusedZero F words'.node words'.links words'.body words'.state

store_on : (F : Fixed) (core : Core) (history : List Item) (now : World) (i : ℕ) (nodes : List ℕ) (store : Store) (stores : List Store) (words' : Words)
    → (core.view i).point ≡ Storing nodes (store ∷ stores) → OwesRight now stores → Stands F core history now → IsStoreStep F core now i nodes stores words'
    → Stands F (record { words = words'; view = put i (record (core.view i) { point = storing nodes stores }) core.view }) history now
store_on F core history now i nodes store stores words' e owes is step =
    let view = core.view i in
    let point = storing nodes stores in
    let new = record view { point = point } in
    let after = after_store F nodes stores in
    let busy : is_busy (stage_of view.point) ≡ true = ap (λ (p : Point). is_busy (stage_of p)) e in
    let keeps : KeepsLog new view = record { live = refl; log = refl; made = refl; ended = refl } in
    let same_holds : (v : ℕ) → holds F point view.wanted v ≡ holds F view.point view.wanted v =
    λ v. ap (λ (ns : List ℕ). has ns v || has (leaves_held point view.wanted) v) after.inner ∙ ap (λ (ns : List ℕ). has nodes v || has ns v) (after.leaves view.wanted)
    ∙ ap (λ (p : Point). holds F p view.wanted v) (sym e) in
    let there : (P : View → Type 0) → ((j : ℕ) → P (put i new core.view j)) → P new = λ P all. subst P (put_same i new core.view) (all i) in
    let elsewhere : (P : View → Type 0) → ((j : ℕ) → P (put i new core.view j)) → (j : ℕ) → (j == i) ≡ false → P (core.view j) =
    λ P all j other. subst P (put_other i j new core.view other) (all j) in
    record {
      tied = is.tied;
      legal = is.legal;
      given = is.given;
      count = step.commits_same ∙ is.count;
      items = subst (IsPermutation history) (sym (items_of_same (put i new core.view) core.view (same_logs_put core.view i new keeps))) is.items;
      numbers = numbered_put core.view i new (busy_lives core.view i is.numbers busy) keeps is.numbers;
      ended = subst (λ (n : ℕ). All (λ (x : Ended). IsLogWithin n x.room x.log) (put i new core.view 0).ended) (sym step.commits_same)
          (subst (All (λ (x : Ended). IsLogWithin core.words.commits x.room x.log)) (sym (kept_put (λ (v : View). v.ended) i new core.view refl 0)) is.ended);
      seats = each_put (λ (j : ℕ) (v : View). SeatStands F words' history now j v) i new core.view
          (seat_after F core.words words' history now i view nodes store stores e step.node_same step.commits_same (is.seats i) owes step.own_bit)
          (λ j other. other_after F core.words words' history now j (core.view j) step.node_same step.commits_same (step.current j other) (step.giving_up j other) (step.others_bit j other) (is.seats j));
      apart = apart_put F core.view i new is.apart (λ j other.
          let old = is.apart i j (eqb_sym j i other) in
          record {
            nodes = λ v held. old.nodes v (sym (same_holds v) ∙ held);
            slots = λ _. old.slots busy;
            cells = λ cell x owed. some_none (owed_at (stores_owed view.point) cell) (owed_at (stores_owed (core.view j).point) cell) (λ y some. old.cells cell y some)
                (ap (λ (p : Point). is_some (owed_at (stores_owed p) cell)) e ∙ rest_is_owed store stores cell x (ap (λ (s : List Store). owed_at s cell) (sym after.owes) ∙ owed));
          });
      free = λ v none. ap (λ (f : ℕ → ℕ). f v) step.node_same
          ∙ is.free v (λ j. sym (kept_put (λ (w : View). holds F w.point w.wanted v) i new core.view (same_holds v) j) ∙ none j);
      unowed = λ cell live none. step.unowed cell live
          (ap (λ (s : List Store). owed_at s cell) (sym after.owes) ∙ there (λ (w : View). owed_at (stores_owed w.point) cell ≡ None) none)
          (elsewhere (λ (w : View). owed_at (stores_owed w.point) cell ≡ None) none);
      linked = λ p v player none. step.linked p v player (there (λ (w : View). is_storing_for w p ≡ false) none) (elsewhere (λ (w : View). is_storing_for w p ≡ false) none);
      unlinked = step.unlinked;
      unused = step.unused;
    }

-- ---- what other seats read

-- the node of the present visit is held
present_held : (F : Fixed) (core : Core) (history : List Item) (now : World) (j v : ℕ) (point : Point) → Stands F core history now → (core.view j).point ≡ point → is_present point v ≡ true
    → holds F (core.view j).point (core.view j).wanted v ≡ true
present_held F core history now j v Idle is e here = absurd (false≢true here)
present_held F core history now j v Owning is e here = absurd (false≢true here)
present_held F core history now j v (Taking got rest) is e here = absurd (false≢true here)
present_held F core history now j v Checking is e here = absurd (false≢true here)
present_held F core history now j v (Entering n plan) is e here = absurd (false≢true here)
present_held F core history now j v (Entered n plan) is e here = absurd (false≢true here)
present_held F core history now j v (Loading n part players plan) is e here =
    subst (λ (m : ℕ). holds F (core.view j).point (core.view j).wanted m ≡ true) (eqb-true n v here) (under_held F core history now j n part players plan is e)
present_held F core history now j v (Leaving n plan) is e here =
    let at = (seat_at F core history now j (Leaving n plan) is e).at in
    let held : holds F (Leaving n plan) (core.view j).wanted n ≡ true =
    or_left _ _ (subst (λ (ns : List ℕ). has ns n ≡ true) (sym (cond-false (is_leaf F n) [] (n ∷ []) at.inner)) (or_left _ _ (eq-eqb n n refl))) in
    subst (λ (m : ℕ). holds F (core.view j).point (core.view j).wanted m ≡ true) (eqb-true n v here)
    (subst (λ (p : Point). holds F p (core.view j).wanted n ≡ true) (sym e) held)
present_held F core history now j v (Sensing ids) is e here = absurd (false≢true here)
present_held F core history now j v Resolving is e here = absurd (false≢true here)
present_held F core history now j v (Claiming got rest) is e here = absurd (false≢true here)
present_held F core history now j v (Storing nodes stores) is e here = absurd (false≢true here)
present_held F core history now j v (Releasing nodes) is e here = absurd (false≢true here)
present_held F core history now j v (Returning leaves) is e here = absurd (false≢true here)
present_held F core history now j v (Yielding nodes leaves) is e here = absurd (false≢true here)

-- what another seat read stays current where the list word of a held node changes
links_current : (F : Fixed) (core : Core) (history : List Item) (now : World) (i j n word : ℕ) → Stands F core history now → (j == i) ≡ false
    → holds F (core.view i).point (core.view i).wanted n ≡ true → IsCurrent (put n word core.words.links) core.words.body (core.view j).point (core.view j).wanted (core.view j).lists
links_current F core history now i j n word is other held =
    let theirs = core.view j in
    let current = (is.seats j).current in
    record {
      same_list = λ settled v read there looked. elim (cases_Bool (v == n)) [
        | inl same ↦
            let by_j : holds F theirs.point theirs.wanted v ≡ true = elim (or_cases (has theirs.wanted v) (is_present theirs.point v) looked) [
              | inl leaf ↦ or_right _ _ (subst (λ (leaves : List ℕ). has leaves v ≡ true) (sym (all_leaves theirs.point theirs.wanted (or_left _ _ settled))) leaf)
              | inr present ↦ present_held F core history now j v theirs.point is refl present
            ] in
            let by_i = subst (λ (m : ℕ). holds F (core.view i).point (core.view i).wanted m ≡ true) (sym (eqb-true v n same)) held in
            absurd (true≢false (sym by_j ∙ (is.apart i j (eqb_sym j i other)).nodes v by_i))
        | inr away ↦ put_other n v word core.words.links away ∙ current.same_list settled v read there looked
      ];
      same_part = current.same_part;
    }

-- and so it does where the other seat gives up
links_giving_up : (F : Fixed) (core : Core) (history : List Item) (now : World) (i j n word : ℕ) → Stands F core history now → (j == i) ≡ false
    → holds F (core.view i).point (core.view i).wanted n ≡ true
    → IsGivingUp F (put n word core.words.links) now (core.view j).cmd (core.view j).point (core.view j).own (core.view j).wanted (core.view j).again (core.view j).lists (core.view j).others (core.view j).states (core.view j).effect
links_giving_up F core history now i j n word is other held =
    let theirs = core.view j in
    let up = (is.seats j).giving_up in
    record {
      few = up.few;
      still = λ nodes e. let old = up.still nodes e in record {
        right = old.right;
        resolved = old.resolved;
        same_list = λ v read there leaf. elim (cases_Bool (v == n)) [
          | inl same ↦
              let by_j : holds F theirs.point theirs.wanted v ≡ true = subst (λ (p : Point). holds F p theirs.wanted v ≡ true) (sym e) (or_right (has nodes v) (has theirs.wanted v) leaf) in
              let by_i = subst (λ (m : ℕ). holds F (core.view i).point (core.view i).wanted m ≡ true) (sym (eqb-true v n same)) held in
              absurd (true≢false (sym by_j ∙ (is.apart i j (eqb_sym j i other)).nodes v by_i))
          | inr away ↦ put_other n v word core.words.links away ∙ old.same_list v read there leaf
        ];
      };
    }

-- a player of whom words are loaded has its bit set somewhere
record IsLinkedSomewhere (core : Core) (p : ℕ) : Type 0 where
  node : ℕ
  bit : has_bit (core.words.links node) p ≡ true

part_linked : (F : Fixed) (core : Core) (history : List Item) (now : World) (j q k : ℕ) (point : Point) → Stands F core history now → (core.view j).point ≡ point
    → k < length (part_of point q) → IsLinkedSomewhere core q
part_linked F core history now j q k Idle is e below = absurd (omega arith)
part_linked F core history now j q k Owning is e below = absurd (omega arith)
part_linked F core history now j q k (Taking got rest) is e below = absurd (omega arith)
part_linked F core history now j q k Checking is e below = absurd (omega arith)
part_linked F core history now j q k (Entering n plan) is e below = absurd (omega arith)
part_linked F core history now j q k (Entered n plan) is e below = absurd (omega arith)
part_linked F core history now j q k (Loading n part [] plan) is e below = absurd (omega arith)
part_linked F core history now j q k (Loading n part (s ∷ players) plan) is e below =
    elim (cases_Bool (s == q)) [
      | inl same ↦
          let here = seat_at F core history now j (Loading n part (s ∷ players) plan) is e in
          let load = here.at.load.each s (or_left _ _ (eq-eqb s s refl)) in
          let word = here.current.same_list refl n load.word load.read (or_right _ _ (eq-eqb n n refl)) in
          record { node = n; bit = subst (λ (m : ℕ). has_bit (core.words.links n) m ≡ true) (eqb-true s q same) (ap (λ (w : ℕ). has_bit w s) word ∙ load.bit) }
      | inr other ↦ let none : part_of (Loading n part (s ∷ players) plan) q ≡ [] = cond-false (s == q) part [] other in let empty = ap length none in absurd (omega (arith, below, empty))
    ]
part_linked F core history now j q k (Leaving n plan) is e below = absurd (omega arith)
part_linked F core history now j q k (Sensing ids) is e below = absurd (omega arith)
part_linked F core history now j q k Resolving is e below = absurd (omega arith)
part_linked F core history now j q k (Claiming got rest) is e below = absurd (omega arith)
part_linked F core history now j q k (Storing nodes stores) is e below = absurd (omega arith)
part_linked F core history now j q k (Releasing nodes) is e below = absurd (omega arith)
part_linked F core history now j q k (Returning leaves) is e below = absurd (omega arith)
part_linked F core history now j q k (Yielding nodes leaves) is e below = absurd (omega arith)

-- ---- the own bit

pub storing_busy : (stage : Stage) → is_storing stage ≡ true → is_busy stage ≡ true
storing_busy AtRest e = absurd (false≢true e)
storing_busy AtOwning e = refl
storing_busy AtTaking e = refl
storing_busy AtChecking e = refl
storing_busy AtReading e = refl
storing_busy AtClaiming e = refl
storing_busy AtStoring e = refl
storing_busy AtReleasing e = refl
storing_busy AtReturning e = refl
storing_busy AtYielding e = refl

links_word : (words : Words) (links' : ℕ → ℕ) (cell : Cell) → word_in (record words { links = links' }) cell ≡ word_in words cell
links_word words links' (Body p k) = refl
links_word words links' (State id) = refl

-- a node that a seat holds while it stores is a node of the tree
storing_holds : (F : Fixed) (core : Core) (history : List Item) (now : World) (i n : ℕ) (nodes : List ℕ) (stores : List Store) → Stands F core history now
    → (core.view i).point ≡ Storing nodes stores → holds F (core.view i).point (core.view i).wanted n ≡ true → n < nodes_of F
storing_holds F core history now i n nodes stores is e held =
    let wanted = (core.view i).wanted in
    elim (or_cases (has nodes n) (has wanted n) (ap (λ (p : Point). holds F p wanted n) (sym e) ∙ held)) [
      | inl inner ↦ inner_in F n ((seat_at F core history now i (Storing nodes stores) is e).holding.inner_are_inner n inner)
      | inr leaf ↦ wanted_in F core history now i is (ap (λ (p : Point). is_whole (stage_of p)) e) n leaf
    ]

-- a list word of a held node that keeps the bits of the other players
link_step : (F : Fixed) (core : Core) (history : List Item) (now : World) (i n word : ℕ) (nodes : List ℕ) (store : Store) (stores : List Store) → Stands F core history now
    → (core.view i).point ≡ Storing nodes (store ∷ stores) → ((cell : Cell) → owed_at (store ∷ stores) cell ≡ owed_at stores cell)
    → holds F (core.view i).point (core.view i).wanted n ≡ true
    → ((p : ℕ) → p < 64 → (p == (core.view i).cmd.slot) ≡ false → has_bit word p ≡ has_bit (core.words.links n) p)
    → (is_storing (stage_of (storing nodes stores)) ≡ true → (v : ℕ) → has_bit (put n word core.words.links v) (core.view i).cmd.slot ≡ is_linked_at stores v)
    → ((v : ℕ) → is_storing (stage_of (storing nodes stores)) ≡ false → has_bit (put n word core.words.links v) (core.view i).cmd.slot ≡ (v == home F (now.record_of (core.view i).cmd.slot)))
    → IsStoreStep F core now i nodes stores (record core.words { links = put n word core.words.links })
link_step F core history now i n word nodes store stores is e same_owed held others own_bit own_linked =
    let view = core.view i in
    let slot = view.cmd.slot in
    let busy : is_busy (stage_of view.point) ≡ true = ap (λ (p : Point). is_busy (stage_of p)) e in
    let given = (is.seats i).hand busy in
    record {
      node_same = refl;
      commits_same = refl;
      own_bit = own_bit;
      current = λ j other. links_current F core history now i j n word is other held;
      giving_up = λ j other. links_giving_up F core history now i j n word is other held;
      others_bit = λ j other storing v.
          let theirs = core.view j in
          let busy_j = storing_busy (stage_of theirs.point) storing in
          let differ = eqb_sym slot theirs.cmd.slot ((is.apart i j (eqb_sym j i other)).slots busy busy_j) in
          bits_kept core.words.links n word theirs.cmd.slot v (others theirs.cmd.slot ((is.seats j).hand busy_j).command.slot differ) ∙ (is.seats j).committed.linked storing v;
      unowed = λ cell live none owed. links_word core.words (put n word core.words.links) cell ∙ is.unowed cell live (λ j. elim (cases_Bool (j == i)) [
        | inl same ↦ subst (λ (m : ℕ). owed_at (stores_owed (core.view m).point) cell ≡ None) (sym (eqb-true j i same))
            (ap (λ (p : Point). owed_at (stores_owed p) cell) e ∙ same_owed cell ∙ none)
        | inr other ↦ owed j other
      ]);
      linked = λ p v player not_ours others_none. elim (cases_Bool (slot == p)) [
        | inl same ↦
            let at : slot ≡ p = eqb-true slot p same in
            let done : is_storing (stage_of (storing nodes stores)) ≡ false = elim (cases_Bool (is_storing (stage_of (storing nodes stores)))) [
              | inl s ↦ absurd (true≢false (sym (and_from (is_storing (stage_of (storing nodes stores))) (slot == p) s same) ∙ not_ours))
              | inr s ↦ s
            ] in
            subst (λ (m : ℕ). has_bit (put n word core.words.links v) m ≡ (v == home F (now.record_of m))) at (own_linked v done)
        | inr differ ↦
            let parts = and_parts (nat_lt p 64) (has F.start.ids p) player in
            bits_kept core.words.links n word p v (others p (ltb-true p 64 parts.0) (eqb_sym slot p differ)) ∙ is.linked p v player (λ j. elim (cases_Bool (j == i)) [
              | inl same ↦ subst (λ (m : ℕ). is_storing_for (core.view m) p ≡ false) (sym (eqb-true j i same)) (ap (λ (q : Point). is_storing (stage_of q) && (slot == p)) e ∙ differ)
              | inr other ↦ others_none j other
            ])
      ];
      unlinked = λ p v below dead.
          let differ : (p == slot) ≡ false = ne_eqb p slot (λ same. true≢false (sym given.live ∙ subst (λ (m : ℕ). has F.start.ids m ≡ false) same dead)) in
          bits_kept core.words.links n word p v (others p below differ) ∙ is.unlinked p v below dead;
      unused = record {
        no_node = is.unused.no_node;
        no_links = λ v beyond. put_other n v word core.words.links (away v n beyond (storing_holds F core history now i n nodes (store ∷ stores) is e held)) ∙ is.unused.no_links v beyond;
        no_body = is.unused.no_body;
        no_state = is.unused.no_state;
      };
    }
  where
    away : (v m : ℕ) → nodes_of F ≤ v → m < nodes_of F → (v == m) ≡ false
    away v m beyond within = ne_eqb v m (λ same. omega arith)

clear_stands : (F : Fixed) (core : Core) (history : List Item) (now : World) (i n : ℕ) (nodes : List ℕ) (stores : List Store) → IsLawful F → IsStart F
    → (core.view i).point ≡ Storing nodes (Clear n ∷ stores) → Stands F core history now → Stands F (store_next core i nodes (Clear n) stores) history now
clear_stands F core history now i n nodes stores lawful start e is =
    let view = core.view i in
    let slot = view.cmd.slot in
    let seat = is.seats i in
    let old = Storing nodes (Clear n ∷ stores) in
    let at = (seat_at F core history now i old is e).at in
    let before = record_read slot view.again in
    let owed : at.made ++ Clear n ∷ stores ≡ Clear (home F before) ∷ (middle_of F slot at.e ++ (Link (home F at.e.me) ∷ [])) = at.owed ∙ tail_of-is F slot (home F before) at.e in
    let none = rest_no_clear at.made stores (middle_of F slot at.e ++ (Link (home F at.e.me) ∷ [])) (Clear n) (home F before) (tail_no_clear F slot at.e) owed in
    let left = some_left at.made stores (Clear (home F before) ∷ middle_of F slot at.e) (Clear n) (home F at.e.me) (λ m same. cc) owed in
    let held : holds F view.point view.wanted n ≡ true =
    subst (λ (p : Point). holds F p view.wanted n ≡ true) (sym e) (holds_old F core history now i n old lawful start is e refl (eq-eqb n n refl)) in
    let slot_below = (seat.hand (ap (λ (p : Point). is_busy (stage_of p)) e)).command.slot in
    let bit : (v : ℕ) → has_bit (core.words.links v) slot ≡ (v == n) =
    λ v. seat.committed.linked (ap (λ (p : Point). is_storing (stage_of p)) e) v ∙ ap (λ (p : Point). is_linked_at (stores_owed p) v) e in
    store_on F core history now i nodes (Clear n) stores (record core.words { links = put n (without_bit (core.words.links n) slot) core.words.links }) e
    (subst (λ (p : Point). OwesRight now (stores_owed p)) e seat.committed.owed) is
    (link_step F core history now i n (without_bit (core.words.links n) slot) nodes (Clear n) stores is e (λ cell. refl) held
    (λ p below differ. without_bit_other (core.words.links n) slot p below differ)
    (λ _ v. elim (cases_Bool (v == n)) [
      | inl same ↦ ap (λ (w : ℕ). has_bit w slot) (cond-true (v == n) (without_bit (core.words.links n) slot) (core.words.links v) same)
          ∙ without_bit_same (core.words.links n) slot slot_below ∙ sym (not_linked stores v none)
      | inr away ↦ ap (λ (w : ℕ). has_bit w slot) (cond-false (v == n) (without_bit (core.words.links n) slot) (core.words.links v) away)
          ∙ bit v ∙ away ∙ sym (not_linked stores v none)
    ])
    (λ v done. absurd (true≢false (sym (still_storing nodes stores left) ∙ done))))

link_stands : (F : Fixed) (core : Core) (history : List Item) (now : World) (i n : ℕ) (nodes : List ℕ) (stores : List Store) → IsLawful F → IsStart F
    → (core.view i).point ≡ Storing nodes (Link n ∷ stores) → Stands F core history now → Stands F (store_next core i nodes (Link n) stores) history now
link_stands F core history now i n nodes stores lawful start e is =
    let view = core.view i in
    let slot = view.cmd.slot in
    let seat = is.seats i in
    let old = Storing nodes (Link n ∷ stores) in
    let at = (seat_at F core history now i old is e).at in
    let before = record_read slot view.again in
    let owed : at.made ++ Link n ∷ stores ≡ (Clear (home F before) ∷ middle_of F slot at.e) ++ (Link (home F at.e.me) ∷ []) = at.owed ∙ tail_of-is F slot (home F before) at.e in
    let last = link_is_last at.made stores (Clear (home F before) ∷ middle_of F slot at.e) n (home F at.e.me) (front_no_link F slot (home F before) at.e) owed in
    let wrote = has_written F core history now i lawful start is (ap (λ (p : Point). is_storing (stage_of p)) e) in
    let same_e : wrote.e ≡ at.e = let both = sym wrote.is ∙ at.is in cc in
    let world = now_world F core history now lawful start is in
    let given = seat.hand (ap (λ (p : Point). is_busy (stage_of p)) e) in
    let me_home : home F (now.record_of slot) ≡ n = ap (node_of F.tree) wrote.me ∙ ap (λ x. home F x.me) same_e ∙ sym last.at_new in
    let wanted : leaves_held view.point view.wanted ≡ view.wanted = ap (λ (p : Point). leaves_held p view.wanted) e in
    let h = home F (now.record_of slot) in
    let here : (has nodes h || has view.wanted h) ≡ true = elim (cases_Bool (is_leaf F h)) [
      | inl leaf ↦ or_right _ _ (subst (λ (leaves : List ℕ). has leaves h ≡ true) (sym wrote.holds_it.leaves ∙ wanted)
          (leaf_home F (now.record_of slot) (region_in F view.cmd view.own) wrote.holds_it.ordered (live_ordered F now slot lawful world given.live) wrote.actor leaf))
      | inr inner ↦
          let below = leb-false (inner_nodes F) h inner in
          or_left _ _ (subst (λ (ns : List ℕ). has ns h ≡ true) (sym at.held)
          (filter_has (λ m. (m == home F before) || (m == home F at.e.me)) (range_with_len 0 (inner_nodes F)) h (range_has 0 (inner_nodes F) h (omega arith) (omega arith))
          (or_right _ _ (eq-eqb h (home F at.e.me) (me_home ∙ last.at_new)))))
    ] in
    let held : holds F view.point view.wanted n ≡ true =
    subst (λ (p : Point). holds F p view.wanted n ≡ true) (sym e) (subst (λ (m : ℕ). (has nodes m || has view.wanted m) ≡ true) me_home here) in
    let bit : (v : ℕ) → has_bit (core.words.links v) slot ≡ false =
    λ v. seat.committed.linked (ap (λ (p : Point). is_storing (stage_of p)) e) v ∙ ap (λ (p : Point). is_linked_at (stores_owed p) v) e in
    store_on F core history now i nodes (Link n) stores (record core.words { links = put n (with_bit (core.words.links n) slot) core.words.links }) e
    (subst (λ (p : Point). OwesRight now (stores_owed p)) e seat.committed.owed) is
    (link_step F core history now i n (with_bit (core.words.links n) slot) nodes (Link n) stores is e (λ cell. refl) held
    (λ p below differ. with_bit_other (core.words.links n) slot p below differ)
    (λ storing' v. absurd (true≢false (sym storing' ∙ ap (λ (s : List Store). is_storing (stage_of (storing nodes s))) last.none)))
    (λ v _. elim (cases_Bool (v == n)) [
      | inl same ↦ ap (λ (w : ℕ). has_bit w slot) (cond-true (v == n) (with_bit (core.words.links n) slot) (core.words.links v) same)
          ∙ with_bit_same (core.words.links n) slot given.command.slot ∙ sym (eq-eqb v h (eqb-true v n same ∙ sym me_home))
      | inr away ↦ ap (λ (w : ℕ). has_bit w slot) (cond-false (v == n) (with_bit (core.words.links n) slot) (core.words.links v) away)
          ∙ bit v ∙ sym away ∙ ap (λ (m : ℕ). v == m) (sym me_home)
    ]))

-- ---- a word of a record

-- a word that is owed is stored
put_step : (F : Fixed) (core : Core) (history : List Item) (now : World) (i : ℕ) (cell : Cell) (x : ℕ) (nodes : List ℕ) (stores : List Store) (words' : Words) → Stands F core history now
    → (core.view i).point ≡ Storing nodes (Put cell x ∷ stores) → 0 < length stores → NoClear stores → words'.node ≡ core.words.node → words'.commits ≡ core.words.commits → words'.links ≡ core.words.links
    → word_in words' cell ≡ value_in now cell → ((other : Cell) → is_cell cell other ≡ false → word_in words' other ≡ word_in core.words other)
    → ((j : ℕ) → (j == i) ≡ false → (p k : ℕ) → k < length (part_of (core.view j).point p) → words'.body p k ≡ core.words.body p k)
    → AreUnusedZero F words'.node words'.links words'.body words'.state
    → IsStoreStep F core now i nodes stores words'
put_step F core history now i cell x nodes stores words' is e left none node_same commits_same links_same stored others bodies unused =
    let view = core.view i in
    let slot = view.cmd.slot in
    let seat = is.seats i in
    let bit : (v : ℕ) → has_bit (core.words.links v) slot ≡ false =
    λ v. seat.committed.linked (ap (λ (p : Point). is_storing (stage_of p)) e) v ∙ ap (λ (p : Point). is_linked_at (stores_owed p) v) e in
    let same_bit : (p v : ℕ) → has_bit (words'.links v) p ≡ has_bit (core.words.links v) p = λ p v. ap (λ (f : ℕ → ℕ). has_bit (f v) p) links_same in
    record {
      node_same = node_same;
      commits_same = commits_same;
      own_bit = λ _ v. same_bit slot v ∙ bit v ∙ sym (not_linked stores v none);
      current = λ j other. let old = (is.seats j).current in record {
        same_list = λ settled v word read held. ap (λ (f : ℕ → ℕ). f v) links_same ∙ old.same_list settled v word read held;
        same_part = λ p k below five. bodies j other p k below ∙ old.same_part p k below five;
      };
      giving_up = λ j other.
          let theirs = core.view j in
          subst (λ (links : ℕ → ℕ). IsGivingUp F links now theirs.cmd theirs.point theirs.own theirs.wanted theirs.again theirs.lists theirs.others theirs.states theirs.effect) (sym links_same)
          (is.seats j).giving_up;
      others_bit = λ j other storing' v. same_bit (core.view j).cmd.slot v ∙ (is.seats j).committed.linked storing' v;
      unowed = λ c live owed_none others_none. elim (cases_Bool (is_cell cell c)) [
        | inl same ↦ same_cell cell c same stored
        | inr differ ↦ others c differ ∙ is.unowed c live (λ j. elim (cases_Bool (j == i)) [
          | inl here ↦ subst (λ (m : ℕ). owed_at (stores_owed (core.view m).point) c ≡ None) (sym (eqb-true j i here))
              (ap (λ (p : Point). owed_at (stores_owed p) c) e ∙ cond-false (is_cell cell c) (Some x) (owed_at stores c) differ ∙ owed_none)
          | inr away ↦ others_none j away
        ])
      ];
      linked = λ p v player not_ours others_none. same_bit p v ∙ is.linked p v player (λ j. elim (cases_Bool (j == i)) [
        | inl here ↦ subst (λ (m : ℕ). is_storing_for (core.view m) p ≡ false) (sym (eqb-true j i here))
            (ap (λ (q : Point). is_storing (stage_of q) && (slot == p)) e ∙ sym (ap (λ (b : Bool). b && (slot == p)) (still_storing nodes stores left)) ∙ not_ours)
        | inr away ↦ others_none j away
      ]);
      unlinked = λ p v below dead. same_bit p v ∙ is.unlinked p v below dead;
      unused = unused;
    }
  where
    same_cell : (a b : Cell) → is_cell a b ≡ true → word_in words' a ≡ value_in now a → word_in words' b ≡ value_in now b
    same_cell (Body p k) (Body q l) same known =
        let parts = and_parts (p == q) (k == l) same in
        subst (λ (m : ℕ). words'.body q m ≡ value_in now (Body q m)) (eqb-true k l parts.1) (subst (λ (m : ℕ). words'.body m k ≡ value_in now (Body m k)) (eqb-true p q parts.0) known)
    same_cell (Body p k) (State id) same known = absurd (false≢true same)
    same_cell (State id) (Body p k) same known = absurd (false≢true same)
    same_cell (State id) (State id') same known = subst (λ (m : ℕ). words'.state m ≡ (now.record_of m).state) (eqb-true id id' same) known

-- what is known where a word is owed next
record IsPutNext (F : Fixed) (core : Core) (now : World) (i : ℕ) (cell : Cell) (x : ℕ) (stores : List Store) : Type 0 where
  left : 0 < length stores
  none : NoClear stores
  value : x ≡ value_in now cell
  owes : OwesRight now stores

put_next : (F : Fixed) (core : Core) (history : List Item) (now : World) (i : ℕ) (cell : Cell) (x : ℕ) (nodes : List ℕ) (stores : List Store) → Stands F core history now
    → (core.view i).point ≡ Storing nodes (Put cell x ∷ stores) → IsPutNext F core now i cell x stores
put_next F core history now i cell x nodes stores is e =
    let view = core.view i in
    let slot = view.cmd.slot in
    let at = (seat_at F core history now i (Storing nodes (Put cell x ∷ stores)) is e).at in
    let before = record_read slot view.again in
    let owed : at.made ++ Put cell x ∷ stores ≡ Clear (home F before) ∷ (middle_of F slot at.e ++ (Link (home F at.e.me) ∷ [])) = at.owed ∙ tail_of-is F slot (home F before) at.e in
    let right : OwesRight now (Put cell x ∷ stores) = subst (λ (p : Point). OwesRight now (stores_owed p)) e (is.seats i).committed.owed in
    record {
      left = some_left at.made stores (Clear (home F before) ∷ middle_of F slot at.e) (Put cell x) (home F at.e.me) (λ m same. cc) owed;
      none = rest_no_clear at.made stores (middle_of F slot at.e ++ (Link (home F at.e.me) ∷ [])) (Put cell x) (home F before) (tail_no_clear F slot at.e) owed;
      value = right.0;
      owes = right.1;
    }

put_stands : (F : Fixed) (core : Core) (history : List Item) (now : World) (i : ℕ) (cell : Cell) (x : ℕ) (nodes : List ℕ) (stores : List Store) → IsLawful F → IsStart F
    → (core.view i).point ≡ Storing nodes (Put cell x ∷ stores) → Stands F core history now → Stands F (store_next core i nodes (Put cell x) stores) history now
put_stands F core history now i (Body p k) x nodes stores lawful start e is =
    let view = core.view i in
    let next = put_next F core history now i (Body p k) x nodes stores is e in
    let words' = with_word core.words (Body p k) x in
    let owes = owing F view.cmd view.own view.wanted view.again view.lists view.others view.states view.effect view.point (Body p k) x (is.seats i).at
    (ap (λ (q : Point). owed_at (stores_owed q) (Body p k)) e ∙ cond-true (is_cell (Body p k) (Body p k)) (Some x) (owed_at stores (Body p k)) (and_from (p == p) (k == k) (eq-eqb p p refl) (eq-eqb k k refl))) in
    let own : p ≡ view.cmd.slot = eqb-true p view.cmd.slot owes.written in
    let bit : (v : ℕ) → has_bit (core.words.links v) p ≡ false =
    λ v. ap (has_bit (core.words.links v)) own ∙ (is.seats i).committed.linked (ap (λ (q : Point). is_storing (stage_of q)) e) v ∙ ap (λ (q : Point). is_linked_at (stores_owed q) v) e in
    store_on F core history now i nodes (Put (Body p k) x) stores words' e next.owes is
    (put_step F core history now i (Body p k) x nodes stores words' is e next.left next.none refl refl refl (word_same core.words (Body p k) x ∙ next.value)
    (λ other differ. word_other core.words (Body p k) other x differ)
    (λ j _ q l below. elim (cases_Bool (q == p)) [
      | inl same ↦
          let linked = part_linked F core history now j q l (core.view j).point is refl below in
          absurd (true≢false (sym linked.bit ∙ ap (has_bit (core.words.links linked.node)) (eqb-true q p same) ∙ bit linked.node))
      | inr away ↦ ap (λ (f : ℕ → ℕ). f l) (put_other p q (put k x (core.words.body p)) core.words.body away)
    ]) (record {
      no_node = is.unused.no_node;
      no_links = is.unused.no_links;
      no_body = λ q l dead. ap (λ (f : ℕ → ℕ). f l) (put_other p q (put k x (core.words.body p)) core.words.body (other_slot q dead (player own))) ∙ is.unused.no_body q l dead;
      no_state = is.unused.no_state;
    }))
  where
    player : p ≡ (core.view i).cmd.slot → is_player F p ≡ true
    player own =
        let given = (is.seats i).hand (ap (λ (q : Point). is_busy (stage_of q)) e) in
        let slot = (core.view i).cmd.slot in
        ap (is_player F) own ∙ and_from (nat_lt slot 64) (has F.start.ids slot) (lt-ltb slot 64 given.command.slot) given.live

    other_slot : (q : ℕ) → is_player F q ≡ false → is_player F p ≡ true → (q == p) ≡ false
    other_slot q dead live = ne_eqb q p (λ same. true≢false (sym live ∙ ap (is_player F) (sym same) ∙ dead))
put_stands F core history now i (State id) x nodes stores lawful start e is =
    let next = put_next F core history now i (State id) x nodes stores is e in
    let words' = with_word core.words (State id) x in
    store_on F core history now i nodes (Put (State id) x) stores words' e next.owes is
    (put_step F core history now i (State id) x nodes stores words' is e next.left next.none refl refl refl (word_same core.words (State id) x ∙ next.value)
    (λ other differ. word_other core.words (State id) other x differ) (λ j _ q l below. refl) (record {
      no_node = is.unused.no_node;
      no_links = is.unused.no_links;
      no_body = is.unused.no_body;
      no_state = λ other dead. put_other id other x core.words.state (other_id other dead live) ∙ is.unused.no_state other dead;
    }))
  where
    live : has F.start.ids id ≡ true
    live =
        let view = core.view i in
        let owes = owing F view.cmd view.own view.wanted view.again view.lists view.others view.states view.effect view.point (State id) x (is.seats i).at
        (ap (λ (q : Point). owed_at (stores_owed q) (State id)) e ∙ cond-true (id == id) (Some x) (owed_at stores (State id)) (eq-eqb id id refl)) in
        let wrote = has_written F core history now i lawful start is (ap (λ (q : Point). is_storing (stage_of q)) e) in
        let same : wrote.e ≡ owes.e = let both = sym wrote.is ∙ owes.is in cc in
        elim (or_cases (id == view.cmd.slot) (is_some (state_at owes.e.states id)) owes.written) [
          | inl own ↦ ap (has F.start.ids) (eqb-true id view.cmd.slot own) ∙ wrote.given.live
          | inr listed ↦ wrote.live id (ap (λ (f : Effect). is_some (state_at f.states id)) same ∙ listed)
        ]

    other_id : (other : ℕ) → has F.start.ids other ≡ false → has F.start.ids id ≡ true → (other == id) ≡ false
    other_id other dead there = ne_eqb other id (λ same. true≢false (sym there ∙ ap (has F.start.ids) (sym same) ∙ dead))

pub stored_next_stands : StoredNextStands
stored_next_stands F core history now i nodes (Clear n) stores lawful start e is = clear_stands F core history now i n nodes stores lawful start e is
stored_next_stands F core history now i nodes (Put cell x) stores lawful start e is = put_stands F core history now i cell x nodes stores lawful start e is
stored_next_stands F core history now i nodes (Link n) stores lawful start e is = link_stands F core history now i n nodes stores lawful start e is
