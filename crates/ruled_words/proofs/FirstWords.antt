-- The words of a table at the start, kind by kind.
use Rattle.std.proofs.Common.{◌≡◌, ℕ, zero, suc, ◌+◌, ◌*◌, ◌<◌, List, [], ◌∷◌, ◌++◌, map, length, get_or, refl, sym, ap, ◌∙◌, subst, append-nil, arith}
use Rattle.std.specs.List.{range_with_len}
use Rattle.std.proofs.lemmas.List.{append_assoc}
use Rattle.entity_recs.specs.declared.limits.TheConstants.{IDS}
use Rattle.core_steps.specs.declared.sizes.TheConstants.{FIRST_LIST_WORD, FIRST_RECORD_WORD, FIRST_STATE_WORD, TABLE_NODES, TABLE_WORDS}
use Rattle.core_steps.specs.Stands.{start_words}
use Rattle.core_steps.proofs.Layouts.{layout_is_right}
use Rattle.core_steps.proofs.StartWords.{zeros_at, zeros}
use Rattle.world_tree.specs.Worlds.{WorldView}
use Rattle.ruled_words.specs.Starts.{fixed_of_world, start_word_at, AreStartWords, first_words}
use Rattle.ruled_words.proofs.Worlds.{words_more, all_words}

-- the words of the table at the start that come after the first n
pub words_after : (w : WorldView) (n : ℕ) (more : List ℕ) → ((k : ℕ) → k < length more → get_or more k 0 ≡ start_word_at w (n + k)) → first_words w n ++ more ≡ first_words w (n + length more)
words_after w n [] each = append-nil (first_words w n) ∙ ap (first_words w) (omega arith)
words_after w n (x ∷ more) each =
    let here : n + 0 ≡ n = omega arith in
    let later : n + 1 + length more ≡ n + length (x ∷ more) = omega arith in
    let next : (k : ℕ) → n + suc k ≡ n + 1 + k = λ k. omega arith in
    sym (append_assoc (first_words w n) (x ∷ []) more)
    ∙ ap (λ (y : ℕ). first_words w n ++ y ∷ [] ++ more) (each 0 (omega arith) ∙ ap (start_word_at w) here)
    ∙ ap (λ (xs : List ℕ). xs ++ more) (sym (words_more w n))
    ∙ words_after w (n + 1) more (λ k below. each (suc k) (omega (arith, below)) ∙ ap (start_word_at w) (next k))
    ∙ ap (first_words w) later

-- the count and the words of the nodes
pub nodes_first : (w : WorldView) → zeros FIRST_LIST_WORD ≡ first_words w FIRST_LIST_WORD
nodes_first w = refl

-- the list words come next
pub links_next : (w : WorldView) (links : List ℕ) → length links ≡ TABLE_NODES → ((node : ℕ) → node < TABLE_NODES → get_or links node 0 ≡ (start_words (fixed_of_world w)).links node)
    → first_words w FIRST_LIST_WORD ++ links ≡ first_words w FIRST_RECORD_WORD
links_next w links size each =
    words_after w FIRST_LIST_WORD links (λ node below. let within : node < TABLE_NODES = omega (arith, below, size) in each node within ∙ sym ((layout_is_right (start_words (fixed_of_world w))).links node within))
    ∙ ap (λ (n : ℕ). first_words w (FIRST_LIST_WORD + n)) size

-- the words of this player come next
pub body_next : (w : WorldView) (slot : ℕ) (words body : List ℕ) → slot < 64 → words ≡ first_words w (FIRST_RECORD_WORD + 5 * slot) → length body ≡ 5
    → ((k : ℕ) → k < 5 → get_or body k 0 ≡ (start_words (fixed_of_world w)).body slot k) → words ++ body ≡ first_words w (FIRST_RECORD_WORD + 5 * (slot + 1))
body_next w slot words body below is size each =
    let last : FIRST_RECORD_WORD + 5 * slot + length body ≡ FIRST_RECORD_WORD + 5 * (slot + 1) = omega (arith, size) in
    ap (λ (xs : List ℕ). xs ++ body) is
    ∙ words_after w (FIRST_RECORD_WORD + 5 * slot) body (λ k within. let five : k < 5 = omega (arith, within, size) in each k five ∙ sym ((layout_is_right (start_words (fixed_of_world w))).body slot k below five))
    ∙ ap (first_words w) last

-- the state of this id comes next
pub state_next : (w : WorldView) (id x : ℕ) (words : List ℕ) → words ≡ first_words w (FIRST_STATE_WORD + id) → x ≡ (start_words (fixed_of_world w)).state id
    → words ++ x ∷ [] ≡ first_words w (FIRST_STATE_WORD + (id + 1))
state_next w id x words is state =
    let last : FIRST_STATE_WORD + id + 1 ≡ FIRST_STATE_WORD + (id + 1) = omega arith in
    let only : (k : ℕ) → k < 1 → k ≡ 0 = λ k below. omega (arith, below) in
    let here : (k : ℕ) → k ≡ 0 → FIRST_STATE_WORD + id ≡ FIRST_STATE_WORD + id + k = λ k first. omega (arith, first) in
    ap (λ (xs : List ℕ). xs ++ x ∷ []) is
    ∙ words_after w (FIRST_STATE_WORD + id) (x ∷ []) (λ k within.
    ap (λ (n : ℕ). get_or (x ∷ []) n 0) (only k within) ∙ state ∙ sym ((layout_is_right (start_words (fixed_of_world w))).state id) ∙ ap (start_word_at w) (here k (only k within)))
    ∙ ap (first_words w) last

-- all words
pub states_last : (w : WorldView) (id : ℕ) (words : List ℕ) → words ≡ first_words w (FIRST_STATE_WORD + id) → id ≡ IDS → AreStartWords w words
states_last w id words is end = all_words w words (is ∙ ap (λ (n : ℕ). first_words w (FIRST_STATE_WORD + n)) end)
