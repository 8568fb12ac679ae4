-- A node is given back.
use Rattle.std.proofs.Common.{◌≡◌, ℕ, ◌<◌, ◌≤◌, Bool, true, false, List, [], ◌∷◌, length, refl, sym, ap, ◌∙◌, subst, inl, inr, Some, arith}
use Rattle.std.specs.Prelude.{◌==◌, ◌||◌, ◌&&◌}
use Rattle.std.proofs.lemmas.Bool.{cases_Bool, false≢true, true≢false, cond-true, cond-false, ne_eqb, false_from_ne_true}
use Rattle.entity_recs.specs.Worlds.{World}
use Rattle.entity_recs.specs.Histories.{Item}
use Rattle.core_steps.specs.Cells.{put}
use Rattle.core_steps.specs.Nodes.{Fixed, has, nodes_of}
use Rattle.core_steps.specs.Points.{Point, Returning, Yielding, Stage, AtRest, AtClaiming, AtReturning, AtYielding}
use Rattle.core_steps.specs.Points.{stage_of, is_busy, is_settled, is_storing, stores_owed}
use Rattle.core_steps.specs.Reads.{ListRead, without_command}
use Rattle.core_steps.specs.Held.{inner_held, leaves_held, holds, held_word}
use Rattle.core_steps.specs.Steps.{Core, with_node, returning, yielding, yielded, first_of_two}
use Rattle.core_steps.specs.Stands.{IsAt, IsCurrent, IsHolding, IsReadStill, IsGivingUp, IsCounted, owed_at, part_of, Stands}
use Rattle.core_steps.proofs.Puts.{put_other, eqb_sym}
use Rattle.core_steps.proofs.Frames.{stands_after, none_before, busy_lives}
use Rattle.core_steps.proofs.Unyielding.{not_giving_up}
use Rattle.core_steps.proofs.Resting.{rests, rest_apart}
use Rattle.core_steps.proofs.Points.{StageAsksLess, seat_with_point}
use Rattle.core_steps.proofs.Drops.{Drops, drop_inner, drop_leaf, holding_rest_inner, holding_rest_leaf, word_of_leaf}

-- a node that is held is held by no other seat
not_by_others : (F : Fixed) (core : Core) (history : List Item) (now : World) (i j node v : ℕ) → Stands F core history now → (j == i) ≡ false
    → holds F (core.view i).point (core.view i).wanted node ≡ true → holds F (core.view j).point (core.view j).wanted v ≡ true → (v == node) ≡ false
not_by_others F core history now i j node v is other held by_other =
    ne_eqb v node (λ same. true≢false (sym by_other ∙ subst (λ (n : ℕ). holds F (core.view j).point (core.view j).wanted n ≡ false) (sym same) ((is.apart i j (eqb_sym j i other)).nodes node held)))

-- a node that is given back leaves the nodes free that the tree hasn't
still_unused : (F : Fixed) (core : Core) (history : List Item) (now : World) (node : ℕ) → Stands F core history now → (v : ℕ) → nodes_of F ≤ v → put node 0 core.words.node v ≡ 0
still_unused F core history now node is v beyond = elim (cases_Bool (v == node)) [
  | inl e ↦ cond-true (v == node) 0 (core.words.node v) e
  | inr e ↦ cond-false (v == node) 0 (core.words.node v) e ∙ is.unused.no_node v beyond
]

-- ---- the point goes on

-- what is known of a seat at its point
pub record IsSeatAt (F : Fixed) (core : Core) (i : ℕ) (old : Point) : Type 0 where
  pub holding : IsHolding F (core.view i).wanted (leaves_held old (core.view i).wanted) (inner_held F old)
  pub at : IsAt F (core.view i).cmd (core.view i).own (core.view i).wanted (core.view i).again (core.view i).lists (core.view i).others (core.view i).states (core.view i).effect old
  pub current : IsCurrent core.words.links core.words.body old (core.view i).wanted (core.view i).lists

pub seat_at : (F : Fixed) (core : Core) (history : List Item) (now : World) (i : ℕ) (old : Point) → Stands F core history now → (core.view i).point ≡ old → IsSeatAt F core i old
seat_at F core history now i old is e =
    let seat = is.seats i in
    subst (λ (point : Point). IsSeatAt F core i point) e (record { holding = seat.holding; at = seat.at; current = seat.current })

-- the seat's point after it has given a node back at the old one
pub record IsGiving (F : Fixed) (core : Core) (now : World) (i node : ℕ) (point old : Point) : Type 0 where
  pub less : StageAsksLess (stage_of point) (stage_of old)
  pub drops : Drops (inner_held F old) (leaves_held old (core.view i).wanted) (inner_held F point) (leaves_held point (core.view i).wanted) node
  pub holding : IsHolding F (core.view i).wanted (leaves_held point (core.view i).wanted) (inner_held F point)
  pub word : (v : ℕ) → holds F point (core.view i).wanted v ≡ true
      → held_word F i (stage_of point) (core.view i).wanted v ≡ held_word F i (stage_of old) (core.view i).wanted v
  pub at : IsAt F (core.view i).cmd (core.view i).own (core.view i).wanted (core.view i).again (core.view i).lists (core.view i).others (core.view i).states (core.view i).effect point
  pub current : IsCurrent core.words.links core.words.body point (core.view i).wanted (core.view i).lists
  pub owes : stores_owed point ≡ []
  pub owed : stores_owed old ≡ []
  pub was_not_storing : is_storing (stage_of old) ≡ false
  pub giving_up : IsGivingUp F core.words.links now (core.view i).cmd point (core.view i).own (core.view i).wanted (core.view i).again (core.view i).lists (core.view i).others (core.view i).states (core.view i).effect

pub give_on : (F : Fixed) (core : Core) (history : List Item) (now : World) (i node : ℕ) (point : Point) → Stands F core history now → IsGiving F core now i node point (core.view i).point
    → Stands F (with_node core node 0 i (record (core.view i) { point = point })) history now
give_on F core history now i node point is step =
    let view = core.view i in
    let drops = step.drops in
    stands_after F core history now i (record view { point = point }) (put node 0 core.words.node) is (record {
      lives = busy_lives core.view i is.numbers step.less.was_busy;
      keeps = record { live = refl; log = refl; made = refl; ended = refl };
      seat = seat_with_point F core.words history now i view point (put node 0 core.words.node) (is.seats i) (record {
        less = step.less;
        named = λ v held. put_other node v 0 core.words.node (ne_eqb v node (λ same. true≢false (sym held ∙ subst (λ (n : ℕ). holds F point view.wanted n ≡ false) (sym same) drops.gone)))
            ∙ (is.seats i).named v (drops.less v held) ∙ sym (step.word v held);
        holding = step.holding;
        at = step.at;
        current = step.current;
        owes = step.owes;
        giving_up = step.giving_up;
      });
      others = λ j other v held. put_other node v 0 core.words.node (not_by_others F core history now i j node v is other drops.held held);
      apart = λ j other.
          let old = is.apart i j (eqb_sym j i other) in
          record {
            nodes = λ v held. old.nodes v (drops.less v held);
            slots = λ busy. old.slots step.less.was_busy;
            cells = λ cell x owed. let none = ap (λ stores. owed_at stores cell) step.owes in cc;
          };
      free = λ v here others. elim (cases_Bool (v == node)) [
        | inl e ↦ cond-true (v == node) 0 (core.words.node v) e
        | inr e ↦ cond-false (v == node) 0 (core.words.node v) e ∙ is.free v (none_before F core.view i v
            (false_from_ne_true _ (λ held. true≢false (sym (drops.rest v held e) ∙ here))) others)
      ];
      owes = λ cell. ap (λ stores. owed_at stores cell) (step.owes ∙ sym step.owed);
      stores = λ p. ap (λ (b : Bool). b && (view.cmd.slot == p)) (step.less.not_storing ∙ sym step.was_not_storing);
      unused = still_unused F core history now node is;
    })

-- ---- the last node is given back

-- the node is the last one that is held
pub record IsLastGiving (F : Fixed) (core : Core) (i node : ℕ) (old : Point) : Type 0 where
  pub busy : is_busy (stage_of old) ≡ true
  pub drops : Drops (inner_held F old) (leaves_held old (core.view i).wanted) [] [] node
  pub owed : stores_owed old ≡ []
  pub was_not_storing : is_storing (stage_of old) ≡ false

pub resting_counted : (commits seen room : ℕ) (log : List Item) (stage : Stage) → IsCounted commits seen room log stage → IsCounted commits seen room log AtRest
resting_counted commits seen room log stage is = record { within = is.within; known = is.known; has_room = λ e. absurd (false≢true e) }

pub give_last : (F : Fixed) (core : Core) (history : List Item) (now : World) (i node : ℕ) → Stands F core history now → IsLastGiving F core i node (core.view i).point
    → Stands F (with_node core node 0 i (without_command (core.view i))) history now
give_last F core history now i node is step =
    let view = core.view i in
    let drops = step.drops in
    let seat = is.seats i in
    stands_after F core history now i (without_command view) (put node 0 core.words.node) is (record {
      lives = busy_lives core.view i is.numbers step.busy;
      keeps = record { live = refl; log = refl; made = refl; ended = refl };
      seat = rests F (record core.words { node = put node 0 core.words.node }) history now i view (resting_counted core.words.commits view.seen view.room view.log (stage_of view.point) seat.counted);
      others = λ j other v held. put_other node v 0 core.words.node (not_by_others F core history now i j node v is other drops.held held);
      apart = λ j _. rest_apart F view (core.view j);
      free = λ v here others. elim (cases_Bool (v == node)) [
        | inl e ↦ cond-true (v == node) 0 (core.words.node v) e
        | inr e ↦ cond-false (v == node) 0 (core.words.node v) e ∙ is.free v (none_before F core.view i v
            (false_from_ne_true _ (λ held. true≢false (sym (drops.rest v held e) ∙ here))) others)
      ];
      owes = λ cell. ap (λ stores. owed_at stores cell) (sym step.owed);
      stores = λ p. ap (λ (b : Bool). b && (view.cmd.slot == p)) (sym step.was_not_storing);
      unused = still_unused F core history now node is;
    })

-- ---- the rest that is to be given back

pub same_drops : (inner leaves inner' leaves' a b c d : List ℕ) (node : ℕ) → inner ≡ a → leaves ≡ b → inner' ≡ c → leaves' ≡ d → Drops a b c d node → Drops inner leaves inner' leaves' node
same_drops inner leaves inner' leaves' a b c d node e f g h drops = rw (e, f, g, h) drops

pub same_holding : (F : Fixed) (wanted leaves inner a b : List ℕ) → inner ≡ a → leaves ≡ b → IsHolding F wanted b a → IsHolding F wanted leaves inner
same_holding F wanted leaves inner a b e f holding = rw (e, f) holding

-- where not all leaves are held, or the command is committed, nothing that was read need be current
pub record IsUnsettled (point : Point) : Type 0 where
  pub unsettled : is_settled (stage_of point) ≡ false
  pub part : (p : ℕ) → part_of point p ≡ []

pub current_unsettled : (links : ℕ → ℕ) (body : ℕ → ℕ → ℕ) (point : Point) (wanted : List ℕ) (lists : List ListRead) → IsUnsettled point → IsCurrent links body point wanted lists
current_unsettled links body point wanted lists is = record {
  same_list = λ settled. absurd (false≢true (sym is.unsettled ∙ settled));
  same_part = λ p k below. let none = is.part p in absurd (omega (arith, ap length none, below));
}

-- leaves are given back one by one
pub return_on : (F : Fixed) (core : Core) (history : List Item) (now : World) (i node : ℕ) (old : Point) (rest : List ℕ) → Stands F core history now → (core.view i).point ≡ old
    → StageAsksLess AtReturning (stage_of old) → Drops (inner_held F old) (leaves_held old (core.view i).wanted) [] rest node → IsHolding F (core.view i).wanted rest []
    → stores_owed old ≡ [] → is_storing (stage_of old) ≡ false
    → Stands F (with_node core node 0 i (returning (core.view i) rest)) history now
return_on F core history now i node old [] is e less drops holding owed not_storing =
    give_last F core history now i node is (subst (λ (point : Point). IsLastGiving F core i node point) (sym e) (record {
      busy = less.was_busy;
      drops = drops;
      owed = owed;
      was_not_storing = not_storing;
    }))
return_on F core history now i node old (leaf ∷ rest) is e less drops holding owed not_storing =
    give_on F core history now i node (Returning (leaf ∷ rest)) is (subst (λ (point : Point). IsGiving F core now i node (Returning (leaf ∷ rest)) point) (sym e) (record {
      less = less;
      drops = drops;
      holding = holding;
      word = λ v held. word_of_leaf F i AtReturning (stage_of old) (core.view i).wanted v (holding.leaves_are_leaves v held);
      at = tt;
      current = current_unsettled core.words.links core.words.body (Returning (leaf ∷ rest)) (core.view i).wanted (core.view i).lists (record { unsettled = refl; part = λ p. refl });
      owes = refl;
      owed = owed;
      was_not_storing = not_storing;
      giving_up = not_giving_up refl;
    }))

-- what a seat has read, while it gives up and holds all its leaves
abbrev pub ReadsStill : Fixed → Core → World → ℕ → Type 0
ReadsStill F core now i =
    IsReadStill F core.words.links now (core.view i).cmd AtClaiming (core.view i).own (core.view i).wanted (core.view i).again (core.view i).lists (core.view i).others (core.view i).states (core.view i).effect

-- a seat that gives up at this point
abbrev pub GivesUp : Fixed → Core → World → ℕ → Point → Type 0
GivesUp F core now i point =
    IsGivingUp F core.words.links now (core.view i).cmd point (core.view i).own (core.view i).wanted (core.view i).again (core.view i).lists (core.view i).others (core.view i).states (core.view i).effect

gives_up_at : (F : Fixed) (core : Core) (now : World) (i : ℕ) (nodes leaves : List ℕ) → length leaves ≤ length (core.view i).wanted → (leaves ≡ (core.view i).wanted → ReadsStill F core now i)
    → GivesUp F core now i (Yielding nodes leaves)
gives_up_at F core now i nodes leaves few still = record {
  few = λ others left e. subst (λ (ls : List ℕ). length ls ≤ length (core.view i).wanted) (same_leaves nodes leaves others left e) few;
  still = λ others e. still (same_leaves nodes leaves others (core.view i).wanted e);
}
  where
    same_leaves : (nodes leaves others left : List ℕ) → Yielding nodes leaves ≡ Yielding others left → leaves ≡ left
    same_leaves nodes leaves others left e = cc

-- inner nodes and leaves are given back one by one, where the command is given up
yield_on : (F : Fixed) (core : Core) (history : List Item) (now : World) (i node : ℕ) (old : Point) (nodes rest : List ℕ) → Stands F core history now → (core.view i).point ≡ old
    → StageAsksLess AtYielding (stage_of old) → Drops (inner_held F old) (leaves_held old (core.view i).wanted) nodes rest node → IsHolding F (core.view i).wanted rest nodes
    → ((v : ℕ) → (has nodes v || has rest v) ≡ true → held_word F i AtYielding (core.view i).wanted v ≡ held_word F i (stage_of old) (core.view i).wanted v)
    → stores_owed old ≡ [] → is_storing (stage_of old) ≡ false → GivesUp F core now i (Yielding nodes rest)
    → Stands F (with_node core node 0 i (yielding (core.view i) nodes rest)) history now
yield_on F core history now i node old [] [] is e less drops holding word owed not_storing gives_up =
    give_last F core history now i node is (subst (λ (point : Point). IsLastGiving F core i node point) (sym e) (record {
      busy = less.was_busy;
      drops = drops;
      owed = owed;
      was_not_storing = not_storing;
    }))
yield_on F core history now i node old [] (leaf ∷ rest) is e less drops holding word owed not_storing gives_up =
    give_on F core history now i node (Yielding [] (leaf ∷ rest)) is (subst (λ (point : Point). IsGiving F core now i node (Yielding [] (leaf ∷ rest)) point) (sym e) (record {
      less = less;
      drops = drops;
      holding = holding;
      word = word;
      at = tt;
      current = current_unsettled core.words.links core.words.body (Yielding [] (leaf ∷ rest)) (core.view i).wanted (core.view i).lists (record { unsettled = refl; part = λ p. refl });
      owes = refl;
      owed = owed;
      was_not_storing = not_storing;
      giving_up = gives_up;
    }))
yield_on F core history now i node old (n ∷ nodes) rest is e less drops holding word owed not_storing gives_up =
    give_on F core history now i node (Yielding (n ∷ nodes) rest) is (subst (λ (point : Point). IsGiving F core now i node (Yielding (n ∷ nodes) rest) point) (sym e) (record {
      less = less;
      drops = drops;
      holding = holding;
      word = word;
      at = tt;
      current = current_unsettled core.words.links core.words.body (Yielding (n ∷ nodes) rest) (core.view i).wanted (core.view i).lists (record { unsettled = refl; part = λ p. refl });
      owes = refl;
      owed = owed;
      was_not_storing = not_storing;
      giving_up = gives_up;
    }))

-- the first of these is given back, where the command is given up
pub yield_first : (F : Fixed) (core : Core) (history : List Item) (now : World) (i node : ℕ) (old : Point) (inner leaves : List ℕ) → Stands F core history now → (core.view i).point ≡ old
    → StageAsksLess AtYielding (stage_of old) → inner_held F old ≡ inner → leaves_held old (core.view i).wanted ≡ leaves → IsHolding F (core.view i).wanted leaves inner
    → ((v : ℕ) → (has inner v || has leaves v) ≡ true → held_word F i AtYielding (core.view i).wanted v ≡ held_word F i (stage_of old) (core.view i).wanted v)
    → stores_owed old ≡ [] → is_storing (stage_of old) ≡ false → length leaves ≤ length (core.view i).wanted
    → (0 < length inner → leaves ≡ (core.view i).wanted → ReadsStill F core now i)
    → first_of_two inner leaves ≡ Some node
    → Stands F (with_node core node 0 i (yielded (core.view i) inner leaves)) history now
yield_first F core history now i node old [] [] is e less inner leaves holding word owed not_storing few still next = cc
yield_first F core history now i node old [] (leaf ∷ rest) is e less inner leaves holding word owed not_storing few still next =
    let same : leaf ≡ node = cc in
    let drops = drop_leaf F (core.view i).wanted rest leaf holding in
    yield_on F core history now i node old [] rest is e less
    (subst (λ (n : ℕ). Drops (inner_held F old) (leaves_held old (core.view i).wanted) [] rest n) same
    (same_drops (inner_held F old) (leaves_held old (core.view i).wanted) [] rest [] (leaf ∷ rest) [] rest leaf inner leaves refl refl drops))
    (holding_rest_leaf F (core.view i).wanted rest [] leaf holding) (λ v held. word v (drops.less v held)) owed not_storing
    (gives_up_at F core now i [] rest (omega (arith, few)) (λ all. let same_length = ap length all in absurd (omega (arith, few, same_length))))
yield_first F core history now i node old (n ∷ nodes) rest is e less inner leaves holding word owed not_storing few still next =
    let same : n ≡ node = cc in
    let drops = drop_inner F (core.view i).wanted rest nodes n holding in
    yield_on F core history now i node old nodes rest is e less
    (subst (λ (m : ℕ). Drops (inner_held F old) (leaves_held old (core.view i).wanted) nodes rest m) same
    (same_drops (inner_held F old) (leaves_held old (core.view i).wanted) nodes rest (n ∷ nodes) rest nodes rest n inner leaves refl refl drops))
    (holding_rest_inner F (core.view i).wanted rest nodes n holding) (λ v held. word v (drops.less v held)) owed not_storing
    (gives_up_at F core now i nodes rest few (still (omega arith)))
