-- The way back from a waypoint to waypoint 0.
use Rattle.std.proofs.Common.{◌≡◌, ℕ, zero, suc, ◌+◌, ◌<◌, ◌≤◌, Bool, true, false, cond, nat_lt, List, [], ◌∷◌, ◌++◌, length, get_or, count_by, Option, Some, None, IfSome, refl, sym, ◌∙◌, subst, ap, inl, inr, arith, append_assoc}
use Rattle.std.proofs.lemmas.Bool.{ltb-true, ltb-false, cases_eq}
use Rattle.std.proofs.lemmas.List.Sums.{sum_by-cons}
use Rattle.arena_map.specs.Maps.{MapView}
use Rattle.bot_ways.specs.Walks.{IsWalk, alone, longer, length_to}
use Rattle.bot_ways.specs.Ways.{IsBefore, IsLeastBefore, IsWay, start, next, HasBefore, IsCertificate}
use Rattle.bot_ways.proofs.EdgeParts.{edge_least}
use Rattle.bot_ways.proofs.Lengths.{length_within, same_length}

-- ---- how many waypoints have a lesser length

counted_not : (b : Bool) → b ≡ false → cond {A = ℕ} b 1 0 ≡ 0
counted_not true h = cc
counted_not false h = refl

counted_once : (b : Bool) → b ≡ true → cond {A = ℕ} b 1 0 ≡ 1
counted_once true h = refl
counted_once false h = cc

one_more : (p : Option ℕ → Bool) (x : Option ℕ) (xs : List (Option ℕ)) → count_by p (x ∷ xs) ≡ cond (p x) 1 0 + count_by p xs
one_more p x xs = sum_by-cons (λ (o : Option ℕ). cond (p o) 1 0) x xs

module _ (p q : Option ℕ → Bool) (wider : (o : Option ℕ) → p o ≡ true → q o ≡ true) where
  one_at_most : (a b : Bool) → (a ≡ true → b ≡ true) → cond a 1 0 ≤ cond b 1 0
  one_at_most true true h = omega arith
  one_at_most true false h = let e = h refl in cc
  one_at_most false true h = omega arith
  one_at_most false false h = omega arith

  at_most : (xs : List (Option ℕ)) → count_by p xs ≤ count_by q xs
  at_most [] = omega arith
  at_most (x ∷ xs) =
      let left : count_by p (x ∷ xs) ≡ cond (p x) 1 0 + count_by p xs = one_more p x xs in
      let right : count_by q (x ∷ xs) ≡ cond (q x) 1 0 + count_by q xs = one_more q x xs in
      let one = one_at_most (p x) (q x) (wider x) in let rest = at_most xs in omega arith

  -- where one more passes the wider test, more pass it
  pub fewer : (xs : List (Option ℕ)) (i : ℕ) → i < length xs → p (get_or xs i None) ≡ false → q (get_or xs i None) ≡ true
      → count_by p xs + 1 ≤ count_by q xs
  fewer [] i lt fails passes = absurd (omega arith)
  fewer (x ∷ xs) zero lt fails passes =
      let left : count_by p (x ∷ xs) ≡ cond (p x) 1 0 + count_by p xs = one_more p x xs in
      let right : count_by q (x ∷ xs) ≡ cond (q x) 1 0 + count_by q xs = one_more q x xs in
      let none = counted_not (p x) fails in
      let one = counted_once (q x) passes in
      let rest = at_most xs in
      omega arith
  fewer (x ∷ xs) (suc i) lt fails passes =
      let left : count_by p (x ∷ xs) ≡ cond (p x) 1 0 + count_by p xs = one_more p x xs in
      let right : count_by q (x ∷ xs) ≡ cond (q x) 1 0 + count_by q xs = one_more q x xs in
      let one = one_at_most (p x) (q x) (wider x) in
      let rest = fewer xs i (omega arith) fails passes in
      omega arith

-- the length is less than n
abbrev pub is_less : ℕ → Option ℕ → Bool
is_less n None = false
is_less n (Some m) = nat_lt m n

-- how many waypoints have a length below n
abbrev pub less : ℕ → List (Option ℕ) → ℕ
less n least = count_by (is_less n) least

not_less : (n : ℕ) (b : Bool) → nat_lt n n ≡ b → b ≡ false
not_less n true h = let lt = ltb-true n n h in absurd (omega arith)
not_less n false h = refl

is_below : (n m : ℕ) (b : Bool) → nat_lt n m ≡ b → n < m → b ≡ true
is_below n m true h lt = refl
is_below n m false h lt = let ge = ltb-false n m h in absurd (omega arith)

less_wider : (n m : ℕ) → n < m → (o : Option ℕ) → is_less n o ≡ true → is_less m o ≡ true
less_wider n m lt None h = h
less_wider n m lt (Some k) h = let below = ltb-true k n h in is_below k m (nat_lt k m) refl (omega arith)

all_pass : (xs : List (Option ℕ)) → count_by (λ (o : Option ℕ). true) xs ≡ length xs
all_pass [] = refl
all_pass (x ∷ xs) =
    let left : count_by (λ (o : Option ℕ). true) (x ∷ xs) ≡ 1 + count_by (λ (o : Option ℕ). true) xs = one_more (λ (o : Option ℕ). true) x xs in
    let rest = all_pass xs in omega arith

-- a waypoint isn't among those that have a lesser length
pub less_of_all : (least : List (Option ℕ)) (v n : ℕ) → length_to least v ≡ Some n → less n least + 1 ≤ length least
less_of_all least v n h =
    let lt = length_within least v n h in
    let fails : is_less n (length_to least v) ≡ false = ap (is_less n) h ∙ not_less n (nat_lt n n) refl in
    let more = fewer (is_less n) (λ o. true) (λ o _. refl) least v lt fails refl in
    let all = all_pass least in
    omega arith

-- it is among those with a length below a greater one
pub less_of_more : (least : List (Option ℕ)) (v n m : ℕ) → length_to least v ≡ Some n → n < m → less n least + 1 ≤ less m least
less_of_more least v n m h below =
    let lt = length_within least v n h in
    let fails : is_less n (length_to least v) ≡ false = ap (is_less n) h ∙ not_less n (nat_lt n n) refl in
    let passes : is_less m (length_to least v) ≡ true = ap (is_less m) h ∙ is_below n m (nat_lt n m) refl below in
    fewer (is_less n) (is_less m) (less_wider n m below) least v lt fails passes

-- ---- the way so far

-- what is known of the way from a waypoint on: it is a walk to the target, by the least waypoints before each other
pub record IsWayBack (map : MapView) (least : List (Option ℕ)) (target first : ℕ) (way : List ℕ) : Type 0 where
  pub here : ℕ
  pub walked : ℕ
  pub rest : List ℕ
  pub begins : way ≡ first ∷ rest
  pub here_is : length_to least first ≡ Some here
  pub there_is : length_to least target ≡ Some (here + walked)
  pub walk : IsWalk map first target way walked
  pub completes : (before : List ℕ) → IsWay map least first before → IsWay map least target (before ++ rest)
  pub room : length way + less here least ≤ length least

module _ (map : MapView) (least : List (Option ℕ)) (cert : IsCertificate map least) (target : ℕ) where
  pub back_first : (way : List ℕ) (n : ℕ) → length_to least target ≡ Some n → way ≡ target ∷ [] → IsWayBack map least target target way
  back_first way n h is =
      let lt = length_within least target n h in
      let count = cert.count in
      let sum : n ≡ n + 0 = omega arith in
      let size : length way ≡ 1 = ap (λ (xs : List ℕ). length xs) is in
      let more = less_of_all least target n h in
      record {
        here = n;
        walked = 0;
        rest = [];
        begins = is;
        here_is = h;
        there_is = h ∙ ap (λ (x : ℕ). Some x) sum;
        walk = subst (λ (xs : List ℕ). IsWalk map target target xs 0) (sym is) (alone target (omega arith));
        completes = λ before w. subst (IsWay map least target) (sym (append_nil before)) w;
        room = omega arith;
      }
    where
      append_nil : (xs : List ℕ) → xs ++ [] ≡ xs
      append_nil [] = refl
      append_nil (x ∷ xs) = ap (λ (ys : List ℕ). x ∷ ys) (append_nil xs)

  -- a waypoint before another has a lesser length
  pub before_less : (u v n m : ℕ) → IsBefore map least u v → length_to least u ≡ Some n → length_to least v ≡ Some m → n < m
  before_less u v n m b p q =
      let x = same_length (length_to least u) b.here n b.from p in
      let z = same_length (length_to least v) (b.here + b.step) m b.to q in
      let positive = edge_least map u v b.step b.edge_is in
      omega arith

  -- there is room for the waypoint before the first
  pub back_room : (first u : ℕ) (way : List ℕ) → IsWayBack map least target first way → IsBefore map least u first
      → length way < length least
  back_room first u way back b =
      let below = before_less u first b.here back.here b b.from back.here_is in
      let more = less_of_more least u b.here back.here b.from below in
      let room = back.room in
      omega arith

  pub back_next : (first u : ℕ) (way new : List ℕ) → IsWayBack map least target first way → IsLeastBefore map least u first
      → new ≡ u ∷ way → IsWayBack map least target u new
  back_next first u way new back least_before is =
      let b = least_before.before in
      let sum = same_length (length_to least first) (b.here + b.step) back.here b.to back.here_is in
      let below = before_less u first b.here back.here b b.from back.here_is in
      let more = less_of_more least u b.here back.here b.from below in
      let room = back.room in
      let total : back.here + back.walked ≡ b.here + (b.step + back.walked) = omega arith in
      let size : length new ≡ length way + 1 = ap (λ (xs : List ℕ). length xs) is ∙ omega arith in
      record {
        here = b.here;
        walked = b.step + back.walked;
        rest = way;
        begins = is;
        here_is = b.from;
        there_is = back.there_is ∙ ap (λ (x : ℕ). Some x) total;
        walk = subst (λ (xs : List ℕ). IsWalk map u target xs (b.step + back.walked)) (sym is)
            (longer u first target b.step back.walked way b.edge_is back.walk);
        completes = λ before w.
            let whole = back.completes (before ++ first ∷ []) (next u first before least_before w) in
            let same : (before ++ first ∷ []) ++ back.rest ≡ before ++ way =
            append_assoc before (first ∷ []) back.rest ∙ ap (λ (xs : List ℕ). before ++ xs) (sym back.begins) in
            subst (IsWay map least target) same whole;
        room = omega arith;
      }

  -- the way is whole where fails waypoint is before the first
  pub back_start : (first : ℕ) (way : List ℕ) → IsWayBack map least target first way → (HasBefore map least first → ⊥) → first ≡ 0
  back_start first way back none = elim (cases_eq first 0) [
    | inl same ↦ same
    | inr apart ↦ absurd (none (cert.tight first back.here back.here_is apart))
  ]

  pub back_way : (first : ℕ) (way : List ℕ) → IsWayBack map least target first way → first ≡ 0 → IsWay map least target way
  back_way first way back zero_first =
      let begins : way ≡ 0 ∷ back.rest = back.begins ∙ ap (λ (x : ℕ). x ∷ back.rest) zero_first in
      let begun = subst (λ (x : ℕ). IsWay map least x (0 ∷ [])) (sym zero_first) start in
      subst (IsWay map least target) (sym begins) (back.completes (0 ∷ []) begun)

  pub back_walk : (first : ℕ) (way : List ℕ) (n : ℕ) → IsWayBack map least target first way → first ≡ 0
      → length_to least target ≡ Some n → IsWalk map 0 target way n
  back_walk first way n back zero_first h =
      let lt = length_within least first back.here back.here_is in
      let count = cert.count in
      let started = cert.start (omega arith) in
      let at_start = subst (λ (x : ℕ). length_to least x ≡ Some back.here) zero_first back.here_is in
      let none = same_length (length_to least 0) 0 back.here started at_start in
      let total = same_length (length_to least target) (back.here + back.walked) n back.there_is h in
      let same : back.walked ≡ n = omega arith in
      let w = subst (λ (x : ℕ). IsWalk map x target way back.walked) zero_first back.walk in
      subst (IsWalk map 0 target way) same w

-- ---- the target's length

pub if_some : (o : Option ℕ) (P : ℕ → Type 0) → ((n : ℕ) → o ≡ Some n → P n) → IfSome o P
if_some None P each = tt
if_some (Some n) P each = each n refl
