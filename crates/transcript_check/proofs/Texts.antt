-- Texts at the front of bytes, and lines that are read or missed there.
use Rattle.std.proofs.Common.{◌≡◌, ℕ, ◌+◌, ◌≤◌, ◌<◌, ◌==◌, Bool, true, false, List, [], ◌∷◌, ◌++◌, length, map, drop, get_or, zero, suc, add-one, Option, Some, None, IfSome, Result, Ok, Err, IfOk, refl, sym, ap, ◌∙◌, subst, append_assoc, append-nil, arith}
use Rattle.std.specs.Bool.{OnTrue, OnFalse}
use Rattle.std.specs.Io.KnownBytes.{Consumes}
use Rattle.std.proofs.lemmas.List.Elements.{All-head, All-tail}
use Rattle.edge_io.specs.Lines.{HasNoLineFeed}
use Rattle.demo_lines.specs.declared.rest.TheConstants.{LONGEST_REST}
use Rattle.demo_lines.specs.Rest.{GivesRestLine, HasNoRestLine}
use Rattle.out_text.specs.OutLines.{OutLine, line_spelling, printed_line, text_of}
use Rattle.out_text.specs.Transcripts.{BeginsWith}
use Rattle.out_text.proofs.Runs.{text_of-append}
use Rattle.out_text.proofs.Quiet.{each_unbroken}

-- a line has no line feed
pub one_line : (l : OutLine) → HasNoLineFeed (line_spelling l)
one_line l = (each_unbroken (l ∷ [])).0

-- where two lines begin the same bytes, they are the same, and so is what follows
pub record IsSame (line other after rest : List ℕ) : Type 0 where
  pub line_is : line ≡ other
  pub rest_is : after ≡ rest

pub same_line : (line other after rest : List ℕ) → HasNoLineFeed line → HasNoLineFeed other → line ++ 10 ∷ after ≡ other ++ 10 ∷ rest → IsSame line other after rest
same_line [] [] after rest one two same = record { line_is = refl; rest_is = cc }
same_line [] (b ∷ other) after rest one two same =
    let first : b ≡ 10 = cc in
    let none : (b == 10) ≡ false = All-head (λ x. (x == 10) ≡ false) b other two in
    let never : true ≡ false = subst (λ x. (x == 10) ≡ false) first none in
    cc
same_line (b ∷ line) [] after rest one two same =
    let first : b ≡ 10 = cc in
    let none : (b == 10) ≡ false = All-head (λ x. (x == 10) ≡ false) b line one in
    let never : true ≡ false = subst (λ x. (x == 10) ≡ false) first none in
    cc
same_line (b ∷ line) (d ∷ other) after rest one two same =
    let first : b ≡ d = cc in
    let more : line ++ 10 ∷ after ≡ other ++ 10 ∷ rest = cc in
    let is = same_line line other after rest (All-tail (λ x. (x == 10) ≡ false) b line one) (All-tail (λ x. (x == 10) ≡ false) d other two) more in
    record { line_is = (λ i. first i ∷ is.line_is i); rest_is = is.rest_is }

-- a line that is printed, before more
printed-before : (l : OutLine) (after : List ℕ) → printed_line l ++ after ≡ line_spelling l ++ 10 ∷ after
printed-before l after = append_assoc (line_spelling l) (10 ∷ []) after

-- one line as text
pub text_of-one : (l : OutLine) → text_of (l ∷ []) ≡ printed_line l
text_of-one l = append-nil (printed_line l)

-- ---- what was ahead

-- no line was there
pub missed-none : (a : Option (List ℕ)) (l : OutLine) → IfSome a HasNoRestLine → length (line_spelling l) ≤ LONGEST_REST → IfSome a (λ bytes. BeginsWith bytes (printed_line l) → ⊥)
missed-none None l none short = tt
missed-none (Some bytes) l none short = λ begins. none (line_spelling l) begins.after (one_line l) short (begins.is ∙ printed-before l begins.after)

-- another line was there
pub missed-other : (a b : Option (List ℕ)) (given : List ℕ) (l : OutLine) → GivesRestLine a b given → (given ≡ line_spelling l → ⊥) → IfSome a (λ bytes. BeginsWith bytes (printed_line l) → ⊥)
missed-other None b given l gives other = tt
missed-other (Some bytes) None given l gives other = absurd gives.consumed
missed-other (Some bytes) (Some left) given l gives other = λ begins.
    let both : given ++ 10 ∷ left ≡ line_spelling l ++ 10 ∷ begins.after =
    sym (append_assoc given (10 ∷ []) left) ∙ sym gives.consumed ∙ begins.is ∙ printed-before l begins.after in
    other (same_line given (line_spelling l) left begins.after gives.one_line (one_line l) both).line_is

-- ---- fronts

pub append-same : (front xs ys : List ℕ) → front ++ xs ≡ front ++ ys → xs ≡ ys
append-same [] xs ys same = same
append-same (b ∷ front) xs ys same = append-same front xs ys (cc)

-- what begins with both texts begins with the second after the first
pub begins-after : (bytes left front more : List ℕ) → bytes ≡ front ++ left → BeginsWith bytes (front ++ more) → BeginsWith left more
begins-after bytes left front more is begins = record {
  after = begins.after;
  is = append-same front left (more ++ begins.after) (sym is ∙ begins.is ∙ append_assoc front more begins.after);
}

-- what begins with both texts begins with the first
pub begins-front : (bytes front more : List ℕ) → BeginsWith bytes (front ++ more) → BeginsWith bytes front
begins-front bytes front more begins = record { after = more ++ begins.after; is = begins.is ∙ append_assoc front more begins.after }

-- P of what is left gives Q of the whole
pub if_some-read : (a b : Option (List ℕ)) (front : List ℕ) (P Q : List ℕ → Type 0) → Consumes a b front → IfSome b P → ((bytes left : List ℕ) → bytes ≡ front ++ left → P left → Q bytes) → IfSome a Q
if_some-read None b front P Q reads has then = tt
if_some-read (Some bytes) None front P Q reads has then = absurd reads
if_some-read (Some bytes) (Some left) front P Q reads has then = then bytes left reads has

pub if_some-weaker : (a : Option (List ℕ)) (P Q : List ℕ → Type 0) → IfSome a P → ((bytes : List ℕ) → P bytes → Q bytes) → IfSome a Q
if_some-weaker None P Q has then = tt
if_some-weaker (Some bytes) P Q has then = then bytes has

pub if_some-both : (a : Option (List ℕ)) (P Q : List ℕ → Type 0) → IfSome a P → IfSome a Q → IfSome a (λ bytes. P bytes × Q bytes)
if_some-both None P Q p q = tt
if_some-both (Some bytes) P Q p q = (p, q)

-- P of the whole and Q of what is left give T of the whole
pub if_some-over : (a b : Option (List ℕ)) (front : List ℕ) (P Q T : List ℕ → Type 0) → Consumes a b front → IfSome a P → IfSome b Q
    → ((bytes left : List ℕ) → bytes ≡ front ++ left → P bytes → Q left → T bytes) → IfSome a T
if_some-over None b front P Q T reads p q then = tt
if_some-over (Some bytes) None front P Q T reads p q then = absurd reads
if_some-over (Some bytes) (Some left) front P Q T reads p q then = then bytes left reads p q

pub if_some-all : (a : Option (List ℕ)) (P : List ℕ → Type 0) → ((bytes : List ℕ) → P bytes) → IfSome a P
if_some-all None P each = tt
if_some-all (Some bytes) P each = each bytes

-- lines that are missed after others are missed with them
pub missed-after : (a b : Option (List ℕ)) (front more : List OutLine) → Consumes a b (text_of front) → IfSome b (λ bytes. BeginsWith bytes (text_of more) → ⊥)
    → IfSome a (λ bytes. BeginsWith bytes (text_of (front ++ more)) → ⊥)
missed-after a b front more reads missed =
    if_some-read a b (text_of front) (λ bytes. BeginsWith bytes (text_of more) → ⊥) (λ bytes. BeginsWith bytes (text_of (front ++ more)) → ⊥) reads missed
    (λ bytes left is none begins. none (begins-after bytes left (text_of front) (text_of more) is (subst (BeginsWith bytes) (text_of-append front more) begins)))

-- lines whose front is missed are missed
pub missed-front : (a : Option (List ℕ)) (front more : List OutLine) → IfSome a (λ bytes. BeginsWith bytes (text_of front) → ⊥) → IfSome a (λ bytes. BeginsWith bytes (text_of (front ++ more)) → ⊥)
missed-front a front more missed =
    if_some-weaker a _ _ missed (λ bytes none begins. none (begins-front bytes (text_of front) (text_of more) (subst (BeginsWith bytes) (text_of-append front more) begins)))

pub missed-one : (a : Option (List ℕ)) (l : OutLine) → IfSome a (λ bytes. BeginsWith bytes (printed_line l) → ⊥) → IfSome a (λ bytes. BeginsWith bytes (text_of (l ∷ [])) → ⊥)
missed-one a l missed = if_some-weaker a _ _ missed (λ bytes none begins. none (subst (BeginsWith bytes) (text_of-one l) begins))

-- ---- what holds where an answer is true, or false

pub on_true-weaker : (b : Bool) (P Q : Type 0) → OnTrue b P → (P → Q) → OnTrue b Q
on_true-weaker true P Q p then = then p
on_true-weaker false P Q p then = tt

pub on_false-weaker : (b : Bool) (P Q : Type 0) → OnFalse b P → (P → Q) → OnFalse b Q
on_false-weaker true P Q p then = tt
on_false-weaker false P Q p then = then p

pub on_false-all : (b : Bool) (P : Type 0) → P → OnFalse b P
on_false-all true P p = tt
on_false-all false P p = p

pub ok_false-weaker : {E : Type 0} (r : Result Bool E) (P Q : Type 0) → IfOk r (λ is. OnFalse is P) → (P → Q) → IfOk r (λ is. OnFalse is Q)
ok_false-weaker (Ok b) P Q p then = on_false-weaker b P Q p then
ok_false-weaker (Err e) P Q p then = tt

-- the lines that are left, with the first of them
pub left_cons : {X : Type 0} (f : X → OutLine) (xs : List X) (i : ℕ) (d : X) → i < length xs → map f (drop i xs) ≡ f (get_or xs i d) ∷ map f (drop (i + 1) xs)
left_cons {X = X} f xs i d inside = ap (map f) (drop-at xs i inside) ∙ ap (λ n. f (get_or xs i d) ∷ map f (drop n xs)) (sym (add-one i))
  where
    drop-at : (ys : List X) (k : ℕ) → k < length ys → drop k ys ≡ get_or ys k d ∷ drop (suc k) ys
    drop-at [] k within = absurd (omega (arith, within))
    drop-at (y ∷ ys) zero within = refl
    drop-at (y ∷ ys) (suc k) within = drop-at ys k (omega (arith, within))

pub ok_true-weaker : {E : Type 0} (r : Result Bool E) (P Q : Type 0) → IfOk r (λ is. OnTrue is P) → (P → Q) → IfOk r (λ is. OnTrue is Q)
ok_true-weaker (Ok b) P Q p then = on_true-weaker b P Q p then
ok_true-weaker (Err e) P Q p then = tt
