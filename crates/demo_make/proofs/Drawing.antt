-- The words that are drawn for a move, and the commands that they give.
use Rattle.std.proofs.Common.{◌≡◌, ℕ, zero, suc, ◌+◌, ◌-◌, ◌*◌, ◌<◌, ◌≤◌, true, false, Some, None, refl, ap, ◌∙◌, inl, inr, arith}
use Rattle.std.specs.Prelude.{nat_lt, nat_le, min}
use Rattle.std.proofs.lemmas.Bool.{cases_lt}
use Rattle.std.proofs.lemmas.Bool.Decides.{nat_tests}
use Rattle.rand_xoshiro.specs.SplitMix64.{mix_u64}
use Rattle.demo_make.specs.declared.last_words.LastWords.{LastWords}
use Rattle.demo_make.specs.Words.{word_of, next_state, state_after, word_at, state_back}
use Rattle.demo_make.specs.ResentFrames.{last_commands}
use Rattle.demo_make.specs.LastWords.{word_if, state_if, word_back, commands_by, AreLast}

-- ---- a word

-- the word of a state, and the state after it
pub record IsDrawn (state word next : ℕ) : Type 0 where
  pub is_word : word ≡ word_of state
  pub is_next : next ≡ next_state state

pub drawn : (state word next : ℕ) → (word, next) ≡ mix_u64 state → IsDrawn state word next
unfolding word_of next_state
drawn state word next e = record { is_word = ap (λ p. p.0) e; is_next = ap (λ p. p.1) e }

pub next_state-after : (state k : ℕ) → next_state (state_after state k) ≡ state_after state (k + 1)
unfolding state_after
next_state-after state zero = refl
next_state-after state (suc k) =
    let e : suc k + 1 ≡ suc (k + 1) = omega arith in rw e (next_state-after (next_state state) k)

-- ---- the words of a move

-- where a frame so many before the open one was opened, one word less is left of it after a word was drawn
pub drawn-back : (seed players opened left back : ℕ) → 0 < left → left ≤ players → back < opened
    → next_state (state_back seed players opened left back) ≡ state_back seed players opened (left - 1) back
drawn-back seed players opened left back some few before =
    let k = opened - back - 1 in
    let one : opened - back ≡ k + 1 = omega arith in
    let rows : (opened - back) * players ≡ k * players + players = ap (λ n. n * players) one ∙ omega arith in
    let more : (opened - back) * players - left + 1 ≡ (opened - back) * players - (left - 1) = omega (arith, rows) in
    next_state-after seed ((opened - back) * players - left) ∙ ap (state_after seed) more

-- where it wasn't, no word was drawn
pub not-drawn : (seed players opened left back : ℕ) → opened ≤ back
    → state_back seed players opened left back ≡ state_back seed players opened (left - 1) back
not-drawn seed players opened left back late =
    let none : opened - back ≡ 0 = omega arith in rw none (ap (state_after seed) (omega arith))

pub drawn-if : (seed players opened left back : ℕ) → 0 < left → left ≤ players
    → state_if (nat_lt back opened) (state_back seed players opened left back) ≡ state_back seed players opened (left - 1) back
drawn-if seed players opened left back some few = elim (cases_lt back opened) [
  | inl before ↦ let yes_ : nat_lt back opened ≡ true = grind (arith, nat_tests) in rw yes_ (drawn-back seed players opened left back some few before)
  | inr late ↦ let no_ : nat_lt back opened ≡ false = grind (arith, nat_tests) in rw no_ (not-drawn seed players opened left back late)
]

-- the number of a move's word, from where the generator is
word-number : (players opened left back : ℕ) → 0 < left → left ≤ players → back < opened
    → (opened - back) * players - left ≡ (opened - 1 - back) * players + (players - left + 1 - 1)
word-number players opened left back some few before =
    let k = opened - 1 - back in
    let one : opened - back ≡ k + 1 = omega arith in
    rw one (omega arith)

pub word-now : (seed players opened left : ℕ) → 0 < left → left ≤ players → 0 < opened
    → word_of (state_back seed players opened left 0) ≡ word_at seed ((opened - 1) * players + (players - left + 1 - 1))
word-now seed players opened left some few before =
    let none : opened - 1 - 0 ≡ opened - 1 = omega arith in
    ap (word_at seed) (word-number players opened left 0 some few before ∙ ap (λ frame. frame * players + (players - left + 1 - 1)) none)

pub word-if : (seed players opened left back : ℕ) → 0 < left → left ≤ players → 0 < opened
    → word_if (nat_lt back opened) (state_back seed players opened left back) ≡ word_back seed players (opened - 1) (players - left + 1) back
word-if seed players opened left back some few before = elim (cases_lt back opened) [
  | inl less ↦
      let yes_ : nat_lt back opened ≡ true = grind (arith, nat_tests) in
      let too : nat_le back (opened - 1) ≡ true = grind (arith, nat_tests) in
      rw yes_ (rw too (ap (λ k. Some (word_at seed k)) (word-number players opened left back some few less)))
  | inr late ↦
      let no_ : nat_lt back opened ≡ false = grind (arith, nat_tests) in
      let too : nat_le back (opened - 1) ≡ false = grind (arith, nat_tests) in
      rw no_ (rw too refl)
]

pub word-drawn : (seed players opened left back state : ℕ) → state ≡ state_back seed players opened left back
    → 0 < left → left ≤ players → 0 < opened
    → word_if (nat_lt back opened) state ≡ word_back seed players (opened - 1) (players - left + 1) back
word-drawn seed players opened left back state is some few before =
    ap (word_if (nat_lt back opened)) is ∙ word-if seed players opened left back some few before

pub state-drawn : (seed players opened left back state : ℕ) → state ≡ state_back seed players opened left back
    → 0 < left → left ≤ players → state_if (nat_lt back opened) state ≡ state_back seed players opened (left - 1) back
state-drawn seed players opened left back state is some few =
    ap (state_if (nat_lt back opened)) is ∙ drawn-if seed players opened left back some few

pub none-drawn : (seed players back : ℕ) → state_back seed players 0 0 back ≡ seed
unfolding state_after
none-drawn seed players back =
    let early : 0 - back ≡ 0 = omega arith in
    let none : 0 * players - 0 ≡ 0 = omega arith in
    rw early (rw none refl)

-- ---- the commands

back-there : (seed players frame port back before : ℕ) → before + back ≡ frame
    → word_back seed players frame port back ≡ Some (word_at seed (before * players + (port - 1)))
back-there seed players frame port back before e =
    let there : nat_le back frame ≡ true = grind (arith, nat_tests) in
    let same : frame - back ≡ before = omega arith in
    rw there (rw same refl)

back-none : (seed players frame port back : ℕ) → frame < back → word_back seed players frame port back ≡ None
back-none seed players frame port back before =
    let none : nat_le back frame ≡ false = grind (arith, nat_tests) in rw none refl

pub commands-are : (seed players frame port : ℕ) (words : LastWords) → AreLast seed players frame port words
    → commands_by words ≡ last_commands seed players frame port
commands-are seed players zero port words are =
    rw are.newest
    (rw (are.one ∙ back-none seed players 0 port 1 (omega arith))
    (rw (are.two ∙ back-none seed players 0 port 2 (omega arith)) refl))
commands-are seed players (suc zero) port words are =
    rw are.newest
    (rw (are.one ∙ back-there seed players 1 port 1 0 refl)
    (rw (are.two ∙ back-none seed players 1 port 2 (omega arith)) refl))
commands-are seed players (suc (suc frame)) port words are =
    let now = suc (suc frame) in
    let many : min 3 (now + 1) ≡ 3 = omega arith in
    let first : now + 1 - 3 ≡ frame = omega arith in
    let last : now ≡ frame + 1 + 1 = omega arith in
    rw (are.newest ∙ ap (λ f. word_at seed (f * players + (port - 1))) last)
    (rw (are.one ∙ back-there seed players now port 1 (frame + 1) (omega arith))
    (rw (are.two ∙ back-there seed players now port 2 frame (omega arith)) (rw many (rw first refl))))
