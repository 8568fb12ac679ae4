-- The own record is loaded.
use Rattle.std.proofs.Common.{◌≡◌, ℕ, ◌+◌, ◌-◌, ◌^◌, ◌<◌, ◌≤◌, true, false, List, [], ◌∷◌, ◌++◌, length, refl, sym, ap, ◌∙◌, subst, inl, inr, None, arith, length-append}
use Rattle.std.specs.Prelude.{◌==◌, ◌&&◌, filter, nat_lt, All}
use Rattle.std.specs.List.{range_with_len}
use Rattle.std.proofs.Math.Seq.{get_or-append_seam}
use Rattle.std.proofs.lemmas.List.{get_or_append_left}
use Rattle.std.proofs.lemmas.Bool.{cases_Bool, false≢true, true≢false, eqb-true, eqb-false, and_from, or_left, ltb-true, ltb-false, lt-ltb, le-leb, cond-true, cond-false}
use Rattle.std.proofs.lemmas.List.Elements.{All-head}
use Rattle.arena_geo.specs.Bounds.{Bounds, IsOrdered}
use Rattle.entity_recs.specs.Commands.{Command}
use Rattle.entity_recs.specs.Worlds.{World}
use Rattle.entity_recs.specs.Histories.{Item}
use Rattle.entity_recs.specs.Actions.{HasPlayer}
use Rattle.areanode.specs.Words.{has_bit}
use Rattle.areanode.specs.Trees.{leaf_node, leaves_of}
use Rattle.areanode.proofs.Nodes.{box_has_a_leaf}
use Rattle.core_steps.specs.Cells.{Body, State, cell_of, word_in, put}
use Rattle.core_steps.specs.Encoding.{nth_word}
use Rattle.core_steps.specs.Nodes.{Fixed, has, is_leaf, leaf_nodes, inner_nodes}
use Rattle.core_steps.specs.Points.{Point, Idle, Owning, Taking, Stage, AtRest, AtOwning, AtTaking, AtChecking}
use Rattle.core_steps.specs.Points.{AtReading, AtClaiming, AtStoring, AtReleasing, AtReturning, AtYielding, stage_of}
use Rattle.core_steps.specs.Points.{is_busy, is_open, is_whole, is_settled, is_storing, is_committed, is_without_effect}
use Rattle.core_steps.specs.Points.{is_owning, is_before_leaves, stores_owed}
use Rattle.core_steps.specs.Reads.{View, region_in}
use Rattle.core_steps.specs.Held.{holds}
use Rattle.core_steps.specs.Steps.{Core, view_after_begin}
use Rattle.core_steps.specs.Stands.{IsAt, IsGiven, HasOwn, AreDistinct, Stands, value_in, is_player, owed_at}
use Rattle.core_steps.specs.Laws.{BegunMoveStands, LoadedOwnStands}
use Rattle.core_steps.proofs.Unyielding.{is_yielding, not_giving_up}
use Rattle.core_steps.proofs.Puts.{eqb_sym}
use Rattle.core_steps.proofs.Lists.{has_shifted, distinct_shifted, distinct_filter, distinct_range}
use Rattle.core_steps.proofs.Frames.{busy_lives, stands_with_view}
use Rattle.core_steps.proofs.Giving.{current_unsettled}
use Rattle.core_steps.proofs.Exclusion.{now_world, own_region_is, region_ordered, leaf_listed}
use Rattle.core_steps.proofs.Owing.{owing}
use Rattle.core_steps.proofs.Quiet.{no_some}

-- ---- one more word

pub one_more : (words : List ℕ) (x k : ℕ) → k < length words → nth_word (words ++ x ∷ []) k ≡ nth_word words k
one_more words x k below = get_or_append_left words (x ∷ []) 0 k below

pub the_last : (words : List ℕ) (x : ℕ) → nth_word (words ++ x ∷ []) (length words) ≡ x
the_last words x = get_or-append_seam words x [] 0

pub longer : (words : List ℕ) (x : ℕ) → length (words ++ x ∷ []) ≡ length words + 1
longer words x = length-append words (x ∷ [])

pub cell_low : (slot k : ℕ) → k < 5 → cell_of slot k ≡ Body slot k
cell_low slot k below = cond-true (nat_lt k 5) (Body slot k) (State slot) (lt-ltb k 5 below)

pub given_player : (F : Fixed) (c : Command) → IsGiven F c → is_player F c.slot ≡ true
given_player F c given = and_from (nat_lt c.slot 64) (has F.start.ids c.slot) (lt-ltb c.slot 64 given.command.slot) given.live

-- the words of the player of a command that is in hand, or is given to a seat that rests, are those of the run
own_word : (F : Fixed) (core : Core) (history : List Item) (now : World) (i slot k : ℕ) → Stands F core history now → is_player F slot ≡ true → k < 5
    → stores_owed (core.view i).point ≡ [] → ((j : ℕ) → (j == i) ≡ false → is_busy (stage_of (core.view j).point) ≡ true → (slot == (core.view j).cmd.slot) ≡ false)
    → core.words.body slot k ≡ value_in now (Body slot k)
own_word F core history now i slot k is player below none others =
    is.unowed (Body slot k) (and_from (is_player F slot) (nat_lt k 5) player (lt-ltb k 5 below)) (λ j. elim (cases_Bool (j == i)) [
      | inl here ↦ subst (λ (n : ℕ). owed_at (stores_owed (core.view n).point) (Body slot k) ≡ None) (sym (eqb-true j i here)) (ap (λ stores. owed_at stores (Body slot k)) none)
      | inr other ↦ no_some (owed_at (stores_owed (core.view j).point) (Body slot k)) (λ x owed.
          let view = core.view j in
          let owes = owing F view.cmd view.own view.wanted view.again view.lists view.others view.states view.effect view.point (Body slot k) x (is.seats j).at owed in
          true≢false (sym owes.written ∙ others j other (storing_busy (stage_of view.point) owes.storing)))
    ])
  where
    storing_busy : (stage : Stage) → is_storing stage ≡ true → is_busy stage ≡ true
    storing_busy AtRest e = absurd (false≢true e)
    storing_busy AtOwning e = refl
    storing_busy AtTaking e = refl
    storing_busy AtChecking e = refl
    storing_busy AtReading e = refl
    storing_busy AtClaiming e = refl
    storing_busy AtStoring e = refl
    storing_busy AtReleasing e = refl
    storing_busy AtReturning e = refl
    storing_busy AtYielding e = refl

-- ---- the first word

pub begun_move_stands : BegunMoveStands
begun_move_stands F core history now i c rest given room others is =
    let view = core.view i in
    let seat = is.seats i in
    let idle : view.point ≡ Idle = rest.idle in
    let stage : stage_of view.point ≡ AtRest = ap stage_of idle in
    let word = core.words.body c.slot 0 in
    let new = view_after_begin c word view in
    let before : is_before_leaves (stage_of view.point) ≡ true = ap is_before_leaves stage in
    let matches : word ≡ value_in now (Body c.slot 0) =
    own_word F core history now i c.slot 0 is (given_player F c given) (omega arith) (ap stores_owed idle) others in
    stands_with_view F core history now i new is (record {
      lives = rest.lives;
      keeps = record { live = refl; log = refl; made = refl; ended = refl };
      seat = record {
        named = λ v held. absurd (false≢true held);
        holding = record {
          wanted_once = seat.holding.wanted_once;
          wanted_are_leaves = seat.holding.wanted_are_leaves;
          leaves_once = tt;
          leaves_are_leaves = λ v held. absurd (false≢true held);
          inner_once = tt;
          inner_are_inner = λ v held. absurd (false≢true held);
        };
        counted = record { within = seat.counted.within; known = seat.counted.known; has_room = λ _. room };
        hand = λ _. given;
        own = record {
          matches = λ _ k below five. let first : k ≡ 0 = omega arith in subst (λ (n : ℕ). nth_word (word ∷ []) n ≡ value_in now (Body c.slot n)) (sym first) matches;
          part = λ _. omega arith;
          whole = λ e. absurd (false≢true e);
          leaves = λ e. absurd (false≢true e);
          none = λ _. seat.own.none (ap is_whole stage);
        };
        unread = record {
          no_own = λ e. absurd (true≢false e);
          no_again = λ _. seat.unread.no_again before;
          no_lists = λ _. seat.unread.no_lists before;
          no_others = λ _. seat.unread.no_others before;
          no_states = λ _. seat.unread.no_states before;
          no_effect = λ _. seat.unread.no_effect (ap is_without_effect stage);
        };
        at = tt;
        current = current_unsettled core.words.links core.words.body Owning view.wanted view.lists (record { unsettled = refl; part = λ p. refl });
        right = record {
          same_again = λ e. absurd (false≢true e);
          whole = λ e. absurd (false≢true e);
          same_player = λ e. absurd (false≢true e);
          same_state = λ e. absurd (false≢true e);
          has_its_bit = λ e. absurd (false≢true e);
        };
        resolved = record { is_outcome = λ e. absurd (false≢true e) };
        giving_up = not_giving_up refl;
        committed = record { item = λ e. absurd (false≢true e); owed = tt; linked = λ e. absurd (false≢true e) };
      };
      same = λ v. ap (λ (p : Point). holds F p view.wanted v) (sym idle);
      slots = λ j other _ busy. others j other busy;
      owes = sym (ap stores_owed idle);
      stores = λ p. ap (λ (s : Stage). is_storing s && (view.cmd.slot == p)) (sym stage);
    })

-- ---- the other words

-- what a longer own record matches
own_matches : (F : Fixed) (core : Core) (history : List Item) (now : World) (i : ℕ) → Stands F core history now → (core.view i).point ≡ Owning
    → (k : ℕ) → k < length ((core.view i).own ++ word_in core.words (cell_of (core.view i).cmd.slot (length (core.view i).own)) ∷ []) → k < 5
    → nth_word ((core.view i).own ++ word_in core.words (cell_of (core.view i).cmd.slot (length (core.view i).own)) ∷ []) k ≡ value_in now (Body (core.view i).cmd.slot k)
own_matches F core history now i is e k below five =
    let view = core.view i in
    let slot = view.cmd.slot in
    let seat = is.seats i in
    let n = length view.own in
    let x = word_in core.words (cell_of slot n) in
    let long = longer view.own x in
    let busy : is_busy (stage_of view.point) ≡ true = ap (λ (p : Point). is_busy (stage_of p)) e in
    let open' : is_open (stage_of view.point) ≡ true = ap (λ (p : Point). is_open (stage_of p)) e in
    elim (cases_Bool (nat_lt k n)) [
      | inl old ↦ one_more view.own x k (ltb-true k n old) ∙ seat.own.matches open' k (ltb-true k n old) five
      | inr new ↦
          let last : n ≡ k = let least = ltb-false k n new in omega arith in
          let cell : x ≡ core.words.body slot n = ap (word_in core.words) (cell_low slot n (omega arith)) in
          subst (λ (m : ℕ). nth_word (view.own ++ x ∷ []) m ≡ value_in now (Body slot m)) last
          (the_last view.own x ∙ cell ∙ own_word F core history now i slot n is (given_player F view.cmd (seat.hand busy)) (omega arith) (ap stores_owed e)
          (λ j other. (is.apart i j (eqb_sym j i other)).slots busy))
    ]

-- a region's leaf nodes are leaves, each once, and there is one
pub leaf_nodes_once : (F : Fixed) (region : List Bounds) → AreDistinct (leaf_nodes F region)
leaf_nodes_once F region =
    distinct_shifted (2 ^ F.tree.depth - 1) (filter (has_bit (leaves_of F.tree region)) (range_with_len 0 (2 ^ F.tree.depth)))
    (distinct_filter (has_bit (leaves_of F.tree region)) (range_with_len 0 (2 ^ F.tree.depth)) (distinct_range 0 (2 ^ F.tree.depth)))

pub leaf_nodes_are_leaves : (F : Fixed) (region : List Bounds) (v : ℕ) → has (leaf_nodes F region) v ≡ true → is_leaf F v ≡ true
leaf_nodes_are_leaves F region v held =
    let there = has_shifted (2 ^ F.tree.depth - 1) (filter (has_bit (leaves_of F.tree region)) (range_with_len 0 (2 ^ F.tree.depth))) v held in
    le-leb (inner_nodes F) v (subst (λ (n : ℕ). inner_nodes F ≤ n) (sym there.is) (omega arith))

some_there : (xs : List ℕ) (v : ℕ) → has xs v ≡ true → 0 < length xs
some_there [] v held = absurd (false≢true held)
some_there (x ∷ xs) v held = omega arith

pub some_leaf : (F : Fixed) (region : List Bounds) → All IsOrdered region → 0 < length region → 0 < length (leaf_nodes F region)
some_leaf F [] ordered some = absurd (omega arith)
some_leaf F (b ∷ region) ordered some =
    let leaf = box_has_a_leaf F.tree b (All-head IsOrdered b region ordered) in
    some_there (leaf_nodes F (b ∷ region)) (leaf_node F.tree.depth leaf.number) (leaf_listed F (b ∷ region) leaf.number leaf.below (or_left _ _ leaf.passes))

-- the view whose own record is loaded in part
pub loaded_own_stands : LoadedOwnStands
loaded_own_stands F core history now i lawful start e is =
    let view = core.view i in
    let slot = view.cmd.slot in
    let seat = is.seats i in
    let x = word_in core.words (cell_of slot (length view.own)) in
    let own = view.own ++ x ∷ [] in
    let long = longer view.own x in
    let stage : stage_of view.point ≡ AtOwning = ap stage_of e in
    let busy : is_busy (stage_of view.point) ≡ true = ap is_busy stage in
    let open' : is_open (stage_of view.point) ≡ true = ap is_open stage in
    let before : is_before_leaves (stage_of view.point) ≡ true = ap is_before_leaves stage in
    let given = seat.hand busy in
    let part = seat.own.part (ap is_owning stage) in
    let matches = own_matches F core history now i is e in
    let more = record view { own = own } in
    let region = region_in F view.cmd own in
    let leaves = leaf_nodes F region in
    elim (cases_Bool (length own == 6)) [
      | inl whole ↦
          let six = eqb-true (length own) 6 whole in
          let new = record view { own = own; wanted = leaves; point = Taking [] leaves } in
          let has_own : HasOwn F now view.cmd AtTaking own leaves = record {
            matches = λ _. matches;
            part = λ owning. absurd (false≢true owning);
            whole = λ _. six;
            leaves = λ _. refl;
            none = λ none. absurd (true≢false none);
          } in
          let world = now_world F core history now lawful start is in
          let player : HasPlayer F.takes (now.record_of slot) view.cmd = record { command = given.command; own = world.own slot given.live; taken = world.taken slot given.live } in
          let same = own_region_is F now view.cmd AtTaking own leaves lawful world given refl refl has_own in
          let ordered : All IsOrdered region = subst (All IsOrdered) (sym same) (region_ordered F now view.cmd lawful world given) in
          let some : 0 < length region = let boxes = (lawful.footprint.boxes (now.record_of slot) view.cmd player).least in subst (λ (r : List Bounds). 0 < length r) (sym same) (omega arith) in
          subst (λ (v : View). Stands F (record core { view = put i v core.view }) history now) (sym (cond-true (length own == 6) (record more { wanted = leaves; point = Taking [] leaves }) more whole))
          (stands_with_view F core history now i new is (record {
            lives = busy_lives core.view i is.numbers busy;
            keeps = record { live = refl; log = refl; made = refl; ended = refl };
            seat = record {
              named = λ v held. absurd (false≢true held);
              holding = record {
                wanted_once = leaf_nodes_once F region;
                wanted_are_leaves = leaf_nodes_are_leaves F region;
                leaves_once = tt;
                leaves_are_leaves = λ v held. absurd (false≢true held);
                inner_once = tt;
                inner_are_inner = λ v held. absurd (false≢true held);
              };
              counted = record { within = seat.counted.within; known = seat.counted.known; has_room = λ _. seat.counted.has_room open' };
              hand = λ _. given;
              own = has_own;
              unread = record {
                no_own = λ e. absurd (true≢false e);
                no_again = λ _. seat.unread.no_again before;
                no_lists = λ _. seat.unread.no_lists before;
                no_others = λ _. seat.unread.no_others before;
                no_states = λ _. seat.unread.no_states before;
                no_effect = λ _. seat.unread.no_effect (ap is_without_effect stage);
              };
              at = record { all = refl; left = some_leaf F region ordered some };
              current = current_unsettled core.words.links core.words.body (Taking [] leaves) leaves view.lists (record { unsettled = refl; part = λ p. refl });
              right = record {
                same_again = λ e. absurd (false≢true e);
                whole = λ e. absurd (false≢true e);
                same_player = λ e. absurd (false≢true e);
                same_state = λ e. absurd (false≢true e);
                has_its_bit = λ e. absurd (false≢true e);
              };
              resolved = record { is_outcome = λ e. absurd (false≢true e) };
              giving_up = not_giving_up refl;
              committed = record { item = λ e. absurd (false≢true e); owed = tt; linked = λ e. absurd (false≢true e) };
            };
            same = λ v. ap (λ (p : Point). holds F p view.wanted v) (sym e);
            slots = λ j other _. (is.apart i j (eqb_sym j i other)).slots busy;
            owes = sym (ap stores_owed e);
            stores = λ p. ap (λ (s : Stage). is_storing s && (slot == p)) (sym stage);
          }))
      | inr not_whole ↦
          let differs = eqb-false (length own) 6 not_whole in
          subst (λ (v : View). Stands F (record core { view = put i v core.view }) history now) (sym (cond-false (length own == 6) (record more { wanted = leaves; point = Taking [] leaves }) more not_whole))
          (stands_with_view F core history now i more is (record {
            lives = busy_lives core.view i is.numbers busy;
            keeps = record { live = refl; log = refl; made = refl; ended = refl };
            seat = record {
              named = seat.named;
              holding = seat.holding;
              counted = seat.counted;
              hand = seat.hand;
              own = record {
                matches = λ _. matches;
                part = λ _. shorter (length view.own) (length own) long part differs;
                whole = λ w. absurd (false≢true (sym (ap is_whole stage) ∙ w));
                leaves = λ w. absurd (false≢true (sym (ap is_whole stage) ∙ w));
                none = seat.own.none;
              };
              unread = record {
                no_own = λ idle. absurd (true≢false (sym busy ∙ idle));
                no_again = seat.unread.no_again;
                no_lists = seat.unread.no_lists;
                no_others = seat.unread.no_others;
                no_states = seat.unread.no_states;
                no_effect = seat.unread.no_effect;
              };
              at = subst (IsAt F view.cmd own view.wanted view.again view.lists view.others view.states view.effect) (sym e) tt;
              current = seat.current;
              right = record {
                same_again = seat.right.same_again;
                whole = seat.right.whole;
                same_player = λ settled. absurd (false≢true (sym (ap is_settled stage) ∙ settled));
                same_state = λ settled. absurd (false≢true (sym (ap is_settled stage) ∙ settled));
                has_its_bit = λ settled. absurd (false≢true (sym (ap is_settled stage) ∙ settled));
              };
              resolved = seat.resolved;
              giving_up = not_giving_up (ap is_yielding stage);
              committed = record {
                item = λ done. absurd (false≢true (sym (ap is_committed stage) ∙ done));
                owed = seat.committed.owed;
                linked = seat.committed.linked;
              };
            };
            same = λ v. refl;
            slots = λ j other. (is.apart i j (eqb_sym j i other)).slots;
            owes = refl;
            stores = λ p. refl;
          }))
    ]
  where
    shorter : (n m : ℕ) → m ≡ n + 1 → n < 6 → (m ≡ 6 → ⊥) → m < 6
    shorter n m e below differs = omega arith
