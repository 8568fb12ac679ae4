-- Rounds over the nodes of a word: which nodes, which ids they have, and what is marked.
use Rattle.std.proofs.Common.{◌≡◌, ℕ, zero, suc, ◌+◌, ◌<◌, Bool, true, false, if◌then◌else◌, List, [], ◌∷◌, ◌++◌, filter, length, sum_by, Option, add-one, sym, refl, ap, ◌∙◌, inl, inr, arith, length-append}
use Rattle.std.specs.List.{list_any, range_with_len}
use Rattle.std.proofs.lemmas.Bool.{cases_eq, or_left, or_right, or_cases, false≢true}
use Rattle.std.proofs.lemmas.List.{append-nil}
use Rattle.std.proofs.lemmas.List.Elements.{filter-append}
use Rattle.std.proofs.lemmas.List.Folds.{list_any-append}
use Rattle.std.proofs.lemmas.List.Sums.{sum_by-append}
use Rattle.std.proofs.lemmas.Grind.{flat_map-append}
use Rattle.arena_geo.specs.Bounds.{Bounds}
use Rattle.areanode.specs.Laws.{SomeBelow}
use Rattle.link_lists.specs.Pool.{ListsView, list_of}
use Rattle.world_tree.specs.Walks.{marked, ids_at, triggers_at}

-- the numbers below n that pass
abbrev pub passing : (ℕ → Bool) → ℕ → List ℕ
passing test n = filter test (range_with_len 0 n)

pub range-more : (a n : ℕ) → range_with_len a (suc n) ≡ range_with_len a n ++ (a + n) ∷ []
range-more a zero = ap (λ (b : ℕ). b ∷ []) (omega arith)
range-more a (suc n) =
    let same : a + 1 + n ≡ a + suc n = omega arith in
    ap (λ (xs : List ℕ). a ∷ xs) (range-more (a + 1) n ∙ ap (λ (b : ℕ). range_with_len (a + 1) n ++ b ∷ []) same)

passing-more : (test : ℕ → Bool) (n : ℕ) → passing test (n + 1) ≡ passing test n ++ filter test (n ∷ [])
passing-more test n =
    ap (passing test) (add-one n) ∙ ap (filter test) (range-more 0 n ∙ ap (λ (b : ℕ). range_with_len 0 n ++ b ∷ []) (omega arith))
    ∙ filter-append test (range_with_len 0 n) (n ∷ [])

-- one that passes comes last
pub passing-takes : (test : ℕ → Bool) (n : ℕ) → test n ≡ true → passing test (n + 1) ≡ passing test n ++ n ∷ []
passing-takes test n is = passing-more test n ∙ ap (λ (b : Bool). passing test n ++ (if b then n ∷ [] else [])) is

-- one that fails changes nothing
pub passing-skips : (test : ℕ → Bool) (n : ℕ) → test n ≡ false → passing test (n + 1) ≡ passing test n
passing-skips test n isnt =
    passing-more test n ∙ ap (λ (b : Bool). passing test n ++ (if b then n ∷ [] else [])) isnt ∙ append-nil (passing test n)

-- marks one after another
marked-append : (boxes : List (Option Bounds)) (region : List Bounds) (xs ys : List ℕ) (marks : List Bool)
    → marked boxes region (xs ++ ys) marks ≡ marked boxes region ys (marked boxes region xs marks)
unfolding marked
marked-append boxes region [] ys marks = refl
marked-append boxes region (x ∷ xs) ys marks = marked-append boxes region xs ys _

ids_at-last : (count : ℕ) (lists : ListsView) (nodes : List ℕ) (node : ℕ) → ids_at count lists (nodes ++ node ∷ []) ≡ ids_at count lists nodes ++ (list_of lists node ++ list_of lists (count + node))
unfolding ids_at
ids_at-last count lists nodes node =
    flat_map-append (λ n. list_of lists n ++ list_of lists (count + n)) nodes (node ∷ [])
    ∙ ap (λ (xs : List ℕ). ids_at count lists nodes ++ xs) (append-nil (list_of lists node ++ list_of lists (count + node)))

triggers_at-last : (count : ℕ) (lists : ListsView) (nodes : List ℕ) (node : ℕ) → triggers_at count lists (nodes ++ node ∷ []) ≡ triggers_at count lists nodes ++ list_of lists (count + node)
unfolding triggers_at
triggers_at-last count lists nodes node =
    flat_map-append (λ n. list_of lists (count + n)) nodes (node ∷ [])
    ∙ ap (λ (xs : List ℕ). triggers_at count lists nodes ++ xs) (append-nil (list_of lists (count + node)))

module _ (count : ℕ) (lists : ListsView) (boxes : List (Option Bounds)) (region : List Bounds) (start : List Bool) (test : ℕ → Bool) where
  pub round-begins : start ≡ marked boxes region (ids_at count lists (passing test 0)) start
  unfolding marked ids_at
  round-begins = refl

  pub round-takes : (node : ℕ) (marks half more : List Bool) → test node ≡ true
      → marks ≡ marked boxes region (ids_at count lists (passing test node)) start
      → half ≡ marked boxes region (list_of lists node) marks
      → more ≡ marked boxes region (list_of lists (count + node)) half
      → more ≡ marked boxes region (ids_at count lists (passing test (node + 1))) start
  round-takes node marks half more is before first second =
      second ∙ ap (marked boxes region (list_of lists (count + node))) first
      ∙ sym (marked-append boxes region (list_of lists node) (list_of lists (count + node)) marks)
      ∙ ap (marked boxes region (list_of lists node ++ list_of lists (count + node))) before
      ∙ sym (marked-append boxes region (ids_at count lists (passing test node)) (list_of lists node ++ list_of lists (count + node)) start)
      ∙ ap (λ ids. marked boxes region ids start) (sym (ids_at-last count lists (passing test node) node))
      ∙ ap (λ nodes. marked boxes region (ids_at count lists nodes) start) (sym (passing-takes test node is))

  pub round-skips : (node : ℕ) (marks : List Bool) → test node ≡ false
      → marks ≡ marked boxes region (ids_at count lists (passing test node)) start
      → marks ≡ marked boxes region (ids_at count lists (passing test (node + 1))) start
  round-skips node marks isnt before = before ∙ ap (λ nodes. marked boxes region (ids_at count lists nodes) start) (sym (passing-skips test node isnt))

-- how many looks there are at the triggers of these nodes, in a tree with this many nodes
abbrev pub looks_at : ℕ → ListsView → List ℕ → ℕ
looks_at count lists nodes = length nodes + sum_by (λ node. length (list_of lists (count + node))) nodes

looks_at-last : (count : ℕ) (lists : ListsView) (nodes : List ℕ) (node : ℕ) → looks_at count lists (nodes ++ node ∷ []) ≡ looks_at count lists nodes + (1 + length (list_of lists (count + node)))
looks_at-last count lists nodes node =
    let longer = length-append nodes (node ∷ []) in
    let sums = sum_by-append (λ n. length (list_of lists (count + n))) nodes (node ∷ []) in
    omega arith

-- the round over the triggers keeps the marks and the count
pub record KeepsRound (count : ℕ) (lists : ListsView) (boxes : List (Option Bounds)) (region : List Bounds) (start : List Bool) (before : ℕ) (nodes : List ℕ) (marks : List Bool) (steps : ℕ) : Type 0 where
  pub marking : marks ≡ marked boxes region (triggers_at count lists nodes) start
  pub counted : steps ≡ before + looks_at count lists nodes

module _ (count : ℕ) (lists : ListsView) (boxes : List (Option Bounds)) (region : List Bounds) (start : List Bool) (before : ℕ) (test : ℕ → Bool) where
  pub counted_round-begins : KeepsRound count lists boxes region start before (passing test 0) start before
  unfolding marked triggers_at
  counted_round-begins = record { marking = refl; counted = omega arith }

  pub counted_round-takes : (node : ℕ) (marks more : List Bool) (steps later : ℕ) → test node ≡ true
      → KeepsRound count lists boxes region start before (passing test node) marks steps
      → more ≡ marked boxes region (list_of lists (count + node)) marks
      → later ≡ steps + (1 + length (list_of lists (count + node)))
      → KeepsRound count lists boxes region start before (passing test (node + 1)) more later
  counted_round-takes node marks more steps later is keeps does counts = record {
    marking =
        does ∙ ap (marked boxes region (list_of lists (count + node))) keeps.marking
        ∙ sym (marked-append boxes region (triggers_at count lists (passing test node)) (list_of lists (count + node)) start)
        ∙ ap (λ ids. marked boxes region ids start) (sym (triggers_at-last count lists (passing test node) node))
        ∙ ap (λ nodes. marked boxes region (triggers_at count lists nodes) start) (sym (passing-takes test node is));
    counted =
        let last = ap (looks_at count lists) (passing-takes test node is) ∙ looks_at-last count lists (passing test node) node in
        omega (arith, keeps.counted);
  }

  pub counted_round-skips : (node : ℕ) (marks more : List Bool) (steps later : ℕ) → test node ≡ false
      → KeepsRound count lists boxes region start before (passing test node) marks steps
      → more ≡ marks → later ≡ steps
      → KeepsRound count lists boxes region start before (passing test (node + 1)) more later
  counted_round-skips node marks more steps later isnt keeps same_marks same_steps = record {
    marking =
        same_marks ∙ keeps.marking
        ∙ ap (λ nodes. marked boxes region (triggers_at count lists nodes) start) (sym (passing-skips test node isnt));
    counted = same_steps ∙ keeps.counted ∙ ap (λ nodes. before + looks_at count lists nodes) (sym (passing-skips test node isnt));
  }

-- one that passes is among the passing
pub passing-has : (test among : ℕ → Bool) (n i : ℕ) → i < n → test i ≡ true → among i ≡ true → list_any among (passing test n) ≡ true
passing-has test among zero i below is has = absurd (omega arith)
passing-has test among (suc n) i below is has =
    ap (λ m. list_any among (passing test m)) (sym (add-one n)) ∙ (ap (list_any among) (passing-more test n))
    ∙ list_any-append among (passing test n) (filter test (n ∷ []))
    ∙ elim (cases_eq i n) [
      | inl same ↦
          let one : filter test (n ∷ []) ≡ n ∷ [] = ap (λ (b : Bool). if b then n ∷ [] else []) (ap test (sym same) ∙ is) in
          or_right (list_any among (passing test n)) _ (ap (list_any among) one ∙ or_left (among n) false (ap among (sym same) ∙ has))
      | inr apart ↦ or_left _ _ (passing-has test among n i (omega arith) is has)
    ]

-- and only numbers below n are
pub passing-below : (test among : ℕ → Bool) (n : ℕ) → list_any among (passing test n) ≡ true → SomeBelow n among
passing-below test among zero h = absurd (false≢true h)
passing-below test among (suc n) h =
    let split = sym (list_any-append among (passing test n) (filter test (n ∷ []))) ∙ ap (list_any among) (sym (passing-more test n)) ∙ ap (λ m. list_any among (passing test m)) (add-one n) ∙ h in
    elim (or_cases (list_any among (passing test n)) (list_any among (filter test (n ∷ []))) split) [
      | inl earlier ↦
          let w = passing-below test among n earlier in
          record { number = w.number; below = omega (arith, w.below); passes = w.passes }
      | inr here ↦ record { number = n; below = omega arith; passes = last (test n) here }
    ]
  where
    last : (b : Bool) → list_any among (if b then n ∷ [] else []) ≡ true → among n ≡ true
    last true e = elim (or_cases (among n) false e) [ inl is ↦ is | inr isnt ↦ absurd (false≢true isnt) ]
    last false e = absurd (false≢true e)
