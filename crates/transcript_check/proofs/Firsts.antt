-- The first move of a player among those that are left.
use Rattle.std.proofs.Common.{◌≡◌, ℕ, suc, ◌+◌, ◌==◌, Bool, true, false, List, [], ◌∷◌, ◌++◌, length, map, take, drop, get_or, Some, None, cond, add-one, refl, sym, ap, ◌∙◌, subst, arith}
use Rattle.std.specs.List.{AllByRecursion, position, position_from}
use Rattle.std.proofs.lemmas.Bool.{eqb-true}
use Rattle.std.proofs.lemmas.Iterator.Adapters.{position_from-zero}
use Rattle.std.proofs.lemmas.List.{map-append}
use Rattle.entity_recs.specs.declared.cmd.Cmd.{Cmd}
use Rattle.entity_recs.specs.Commands.{Command, command_of}
use Rattle.transcript_check.specs.Moves.{IsNextOf}

-- the move is one of this slot
abbrev pub is_of : ℕ → Cmd → Bool
is_of slot cmd = cmd.slot == slot

-- no command is one of this slot
abbrev IsNone : ℕ → List Cmd → Type 0
IsNone slot cmds = AllByRecursion (λ (c : Command). (c.slot == slot) ≡ false) (map command_of cmds)

-- the first of a slot, between those before it and those after
record IsFirst (slot : ℕ) (xs : List Cmd) (n k : ℕ) : Type 0 where
  before : List Cmd
  cmd : Cmd
  after : List Cmd
  parts : xs ≡ before ++ cmd ∷ after
  place : k ≡ n + length before
  own : cmd.slot ≡ slot
  none : IsNone slot before

first_from : (slot : ℕ) (xs : List Cmd) (n k : ℕ) → position_from (is_of slot) n xs ≡ Some k → IsFirst slot xs n k
first_from slot [] n k is = cc
first_from slot (x ∷ xs) n k is = by (is_of slot x) refl is (first_from slot xs (n + 1) k)
  where
    by : (b : Bool) → is_of slot x ≡ b → cond b (Some n) (position_from (is_of slot) (n + 1) xs) ≡ Some k → (position_from (is_of slot) (n + 1) xs ≡ Some k → IsFirst slot xs (n + 1) k)
        → IsFirst slot (x ∷ xs) n k
    by true e is more = record { before = []; cmd = x; after = xs; parts = refl; place = (let same : n ≡ k = cc in omega (arith, same)); own = eqb-true x.slot slot e; none = tt }
    by false e is more =
        let rest = more is in
        record {
          before = x ∷ rest.before;
          cmd = rest.cmd;
          after = rest.after;
          parts = ap (λ (ys : List Cmd). x ∷ ys) rest.parts;
          place = (let at = rest.place in omega (arith, at));
          own = rest.own;
          none = (e, rest.none);
        }

none_from : (slot : ℕ) (xs : List Cmd) (n : ℕ) → position_from (is_of slot) n xs ≡ None → IsNone slot xs
none_from slot [] n is = tt
none_from slot (x ∷ xs) n is = by (is_of slot x) refl is (none_from slot xs (n + 1))
  where
    by : (b : Bool) → is_of slot x ≡ b → cond b (Some n) (position_from (is_of slot) (n + 1) xs) ≡ None → (position_from (is_of slot) (n + 1) xs ≡ None → IsNone slot xs) → IsNone slot (x ∷ xs)
    by true e is more = cc
    by false e is more = (e, more is)

pub no-first : (slot : ℕ) (xs : List Cmd) → position (is_of slot) xs ≡ None → AllByRecursion (λ (c : Command). (c.slot == slot) ≡ false) (map command_of xs)
no-first slot xs is = none_from slot xs 0 (sym (position_from-zero (is_of slot) xs) ∙ is)

at-length : (before : List Cmd) (c : Cmd) (after : List Cmd) (d : Cmd) → get_or (before ++ c ∷ after) (length before) d ≡ c
at-length [] c after d = refl
at-length (x ∷ before) c after d = at-length before c after d

-- without it those before and those after are left
without : (before : List Cmd) (c : Cmd) (after : List Cmd) → take (length before) (before ++ c ∷ after) ++ drop (suc (length before)) (before ++ c ∷ after) ≡ before ++ after
without [] c after = refl
without (x ∷ before) c after = ap (λ (ys : List Cmd). x ∷ ys) (without before c after)

pub record IsTaken (slot : ℕ) (xs : List Cmd) (cmd : Cmd) (left : List Cmd) : Type 0 where
  pub next : IsNextOf (map command_of xs) (command_of cmd) (map command_of left)
  pub own : cmd.slot ≡ slot

pub first-taken : (slot : ℕ) (xs : List Cmd) (k : ℕ) (cmd : Cmd) (left : List Cmd) → position (is_of slot) xs ≡ Some k → cmd ≡ get_or xs k cmd → left ≡ take k xs ++ drop (k + 1) xs → IsTaken slot xs cmd left
first-taken slot xs k cmd left at value items =
    let is = first_from slot xs 0 k (sym (position_from-zero (is_of slot) xs) ∙ at) in
    let here : k ≡ length is.before = (let p = is.place in omega (arith, p)) in
    let same : cmd ≡ is.cmd =
    value ∙ ap (λ (n : ℕ). get_or xs n cmd) here ∙ ap (λ (ys : List Cmd). get_or ys (length is.before) cmd) is.parts ∙ at-length is.before is.cmd is.after cmd in
    let rest : left ≡ is.before ++ is.after =
    items ∙ ap (λ (n : ℕ). take n xs ++ drop (n + 1) xs) here ∙ ap (λ (n : ℕ). take (length is.before) xs ++ drop n xs) (add-one (length is.before))
    ∙ ap (λ (ys : List Cmd). take (length is.before) ys ++ drop (suc (length is.before)) ys) is.parts ∙ without is.before is.cmd is.after in
    record {
      next = record {
        before = map command_of is.before;
        after = map command_of is.after;
        pending_is = ap (map command_of) is.parts ∙ map-append command_of is.before (is.cmd ∷ is.after)
            ∙ ap (λ (c : Cmd). map command_of is.before ++ command_of c ∷ map command_of is.after) (sym same);
        none = subst (λ (n : ℕ). AllByRecursion (λ (c : Command). (c.slot == n) ≡ false) (map command_of is.before)) (sym (ap (λ (c : Cmd). c.slot) same ∙ is.own)) is.none;
        left_is = ap (map command_of) rest ∙ map-append command_of is.before is.after;
      };
      own = ap (λ (c : Cmd). c.slot) same ∙ is.own;
    }
