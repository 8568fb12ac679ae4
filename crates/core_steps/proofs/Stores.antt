-- The order of the stores that an effect owes.
use Rattle.std.proofs.Common.{◌≡◌, ℕ, suc, ◌<◌, Bool, true, false, not, List, [], ◌∷◌, ◌++◌, length, map, refl, sym, ap, ◌∙◌, subst, inl, inr, arith, append_assoc}
use Rattle.std.specs.Prelude.{◌==◌, ◌||◌, ◌&&◌}
use Rattle.std.proofs.lemmas.Bool.{cases_Bool, true≢false, eqb-true, eq-eqb, and_cases, and_left, or_left, cond-true, cond-false}
use Rattle.entity_recs.specs.declared.effect.NewState.{NewState}
use Rattle.entity_recs.specs.declared.effect.Effect.{Effect}
use Rattle.areanode.specs.Words.{has_bit}
use Rattle.areanode.proofs.Words.{word_has_its_bits}
use Rattle.core_steps.specs.Cells.{Words, Cell, Body, State, put, is_cell, word_in, with_word, with_bit, without_bit}
use Rattle.core_steps.specs.Encoding.{words_of}
use Rattle.core_steps.specs.Nodes.{Fixed, home}
use Rattle.core_steps.specs.Points.{Store, Clear, Put, Link, body_stores, stores_of}
use Rattle.core_steps.specs.Stands.{is_linked_at}
use Rattle.core_steps.proofs.Puts.{put_same, put_other, eqb_sym}
use Rattle.core_steps.proofs.Held.{NoClear, no_clear_append, no_clear_body, no_clear_states}

-- ---- the first and the last store

-- the stores but the clearing one, and all but the last
abbrev pub middle_of : Fixed → ℕ → Effect → List Store
middle_of F slot e = body_stores slot 0 (words_of e.me) ++ (Put (State slot) e.me.state ∷ map (λ (s : NewState). Put (State s.id) s.state) e.states)

pub tail_of-is : (F : Fixed) (slot old : ℕ) (e : Effect) → stores_of F slot old e ≡ (Clear old ∷ middle_of F slot e) ++ (Link (home F e.me) ∷ [])
tail_of-is F slot old e =
    ap (λ (s : List Store). Clear old ∷ s) (sym (append_assoc (body_stores slot 0 (words_of e.me)) (Put (State slot) e.me.state ∷ map (λ (s : NewState). Put (State s.id) s.state) e.states) (Link (home F e.me) ∷ [])))

pub tail_no_clear : (F : Fixed) (slot : ℕ) (e : Effect) → NoClear (middle_of F slot e ++ (Link (home F e.me) ∷ []))
tail_no_clear F slot e =
    no_clear_append (middle_of F slot e) (Link (home F e.me) ∷ [])
    (no_clear_append (body_stores slot 0 (words_of e.me)) (Put (State slot) e.me.state ∷ map (λ (s : NewState). Put (State s.id) s.state) e.states)
    (no_clear_body slot 0 (words_of e.me)) (no_clear_states e.states)) tt

clear_end : (xs ys : List Store) → NoClear (xs ++ ys) → NoClear ys
clear_end [] ys none = none
clear_end (Clear node ∷ xs) ys none = absurd none
clear_end (Put cell x ∷ xs) ys none = clear_end xs ys none
clear_end (Link node ∷ xs) ys none = clear_end xs ys none

-- no clearing store comes after any store
pub rest_no_clear : (made stores tail : List Store) (store : Store) (old : ℕ) → NoClear tail → made ++ store ∷ stores ≡ Clear old ∷ tail → NoClear stores
rest_no_clear [] stores tail store old none e = let same : stores ≡ tail = cc in subst NoClear (sym same) none
rest_no_clear (m ∷ made) stores tail store old none e =
    let same : made ++ store ∷ stores ≡ tail = cc in
    clear_end (store ∷ []) stores (clear_end made (store ∷ stores) (subst NoClear (sym same) none))

pub not_linked : (stores : List Store) (node : ℕ) → NoClear stores → is_linked_at stores node ≡ false
not_linked [] node none = refl
not_linked (Clear old ∷ stores) node none = absurd none
not_linked (Put cell x ∷ stores) node none = refl
not_linked (Link new ∷ stores) node none = refl

abbrev NoLink : List Store → Type 0
NoLink [] = Unit {0}
NoLink (Clear node ∷ stores) = NoLink stores
NoLink (Put cell x ∷ stores) = NoLink stores
NoLink (Link node ∷ stores) = ⊥

no_link_append : (xs ys : List Store) → NoLink xs → NoLink ys → NoLink (xs ++ ys)
no_link_append [] ys a b = b
no_link_append (Clear node ∷ xs) ys a b = no_link_append xs ys a b
no_link_append (Put cell x ∷ xs) ys a b = no_link_append xs ys a b
no_link_append (Link node ∷ xs) ys a b = absurd a

no_link_body : (slot k : ℕ) (words : List ℕ) → NoLink (body_stores slot k words)
no_link_body slot k [] = tt
no_link_body slot k (word ∷ words) = no_link_body slot (suc k) words

no_link_states : (states : List NewState) → NoLink (map (λ (s : NewState). Put (State s.id) s.state) states)
no_link_states [] = tt
no_link_states (s ∷ states) = no_link_states states

pub front_no_link : (F : Fixed) (slot old : ℕ) (e : Effect) → NoLink (Clear old ∷ middle_of F slot e)
front_no_link F slot old e =
    no_link_append (body_stores slot 0 (words_of e.me)) (Put (State slot) e.me.state ∷ map (λ (s : NewState). Put (State s.id) s.state) e.states)
    (no_link_body slot 0 (words_of e.me)) (no_link_states e.states)

-- what the store that links is: the last one, at the new node
pub record IsLastStore (node new : ℕ) (stores : List Store) : Type 0 where
  pub at_new : node ≡ new
  pub none : stores ≡ []

not_nothing : (made : List Store) (store : Store) (stores : List Store) → made ++ store ∷ stores ≡ [] → ⊥
not_nothing [] store stores e = cc
not_nothing (m ∷ made) store stores e = cc

pub link_is_last : (made stores front : List Store) (n new : ℕ) → NoLink front → made ++ Link n ∷ stores ≡ front ++ Link new ∷ [] → IsLastStore n new stores
link_is_last [] stores [] n new none e = record { at_new = cc; none = cc }
link_is_last (m ∷ made) stores [] n new none e = let rest : made ++ Link n ∷ stores ≡ [] = cc in absurd (not_nothing made (Link n) stores rest)
link_is_last [] stores (Clear old ∷ front) n new none e = cc
link_is_last [] stores (Put cell x ∷ front) n new none e = cc
link_is_last [] stores (Link node ∷ front) n new none e = absurd none
link_is_last (m ∷ made) stores (Clear old ∷ front) n new none e = let rest : made ++ Link n ∷ stores ≡ front ++ Link new ∷ [] = cc in link_is_last made stores front n new none rest
link_is_last (m ∷ made) stores (Put cell x ∷ front) n new none e = let rest : made ++ Link n ∷ stores ≡ front ++ Link new ∷ [] = cc in link_is_last made stores front n new none rest
link_is_last (m ∷ made) stores (Link node ∷ front) n new none e = absurd none

last_same : (xs ys : List Store) (a b : Store) → xs ++ a ∷ [] ≡ ys ++ b ∷ [] → a ≡ b
last_same [] [] a b e = cc
last_same [] (y ∷ ys) a b e = let rest : [] ≡ ys ++ b ∷ [] = cc in absurd (not_nothing ys b [] (sym rest))
last_same (x ∷ xs) [] a b e = let rest : xs ++ a ∷ [] ≡ [] = cc in absurd (not_nothing xs a [] rest)
last_same (x ∷ xs) (y ∷ ys) a b e = let rest : xs ++ a ∷ [] ≡ ys ++ b ∷ [] = cc in last_same xs ys a b rest

-- after another store than the linking one some are left
pub some_left : (made stores front : List Store) (store : Store) (new : ℕ) → ((n : ℕ) → store ≡ Link n → ⊥) → made ++ store ∷ stores ≡ front ++ Link new ∷ [] → 0 < length stores
some_left made [] front store new differs e = absurd (differs new (last_same made front store (Link new) e))
some_left made (s ∷ stores) front store new differs e = omega arith

-- ---- one word more

pub word_same : (words : Words) (cell : Cell) (x : ℕ) → word_in (with_word words cell x) cell ≡ x
word_same words (Body p k) x = ap (λ (f : ℕ → ℕ). f k) (put_same p (put k x (words.body p)) words.body) ∙ put_same k x (words.body p)
word_same words (State id) x = put_same id x words.state

pub word_other : (words : Words) (cell other : Cell) (x : ℕ) → is_cell cell other ≡ false → word_in (with_word words cell x) other ≡ word_in words other
word_other words (Body p k) (Body q l) x differ =
    elim (cases_Bool (q == p)) [
      | inl same ↦
          let at : q ≡ p = eqb-true q p same in
          let k_differs : (l == k) ≡ false = elim (and_cases (p == q) (k == l) differ) [
            | inl e ↦ absurd (true≢false (sym (eq-eqb p q (sym at)) ∙ e))
            | inr e ↦ eqb_sym k l e
          ] in
          ap (λ (f : ℕ → ℕ). f l) (cond-true (q == p) (put k x (words.body p)) (words.body q) same) ∙ put_other k l x (words.body p) k_differs ∙ ap (λ (n : ℕ). words.body n l) (sym at)
      | inr other ↦ ap (λ (f : ℕ → ℕ). f l) (put_other p q (put k x (words.body p)) words.body other)
    ]
word_other words (Body p k) (State id) x differ = refl
word_other words (State id) (Body q l) x differ = refl
word_other words (State id) (State id') x differ = put_other id id' x words.state (eqb_sym id id' differ)

-- ---- one bit more or less

pub without_bit_same : (word slot : ℕ) → slot < 64 → has_bit (without_bit word slot) slot ≡ false
without_bit_same word slot below =
    word_has_its_bits 64 (λ other. not (other == slot) && has_bit word other) slot below ∙ and_left _ _ (ap not (eq-eqb slot slot refl))

pub without_bit_other : (word slot p : ℕ) → p < 64 → (p == slot) ≡ false → has_bit (without_bit word slot) p ≡ has_bit word p
without_bit_other word slot p below other =
    word_has_its_bits 64 (λ q. not (q == slot) && has_bit word q) p below ∙ ap (λ (b : Bool). not b && has_bit word p) other

pub with_bit_same : (word slot : ℕ) → slot < 64 → has_bit (with_bit word slot) slot ≡ true
with_bit_same word slot below =
    word_has_its_bits 64 (λ other. (other == slot) || has_bit word other) slot below ∙ or_left _ _ (eq-eqb slot slot refl)

pub with_bit_other : (word slot p : ℕ) → p < 64 → (p == slot) ≡ false → has_bit (with_bit word slot) p ≡ has_bit word p
with_bit_other word slot p below other =
    word_has_its_bits 64 (λ q. (q == slot) || has_bit word q) p below ∙ ap (λ (b : Bool). b || has_bit word p) other

-- the bits of the others at all nodes, where one list word keeps them
pub bits_kept : (links : ℕ → ℕ) (node word p v : ℕ) → has_bit word p ≡ has_bit (links node) p → has_bit (put node word links v) p ≡ has_bit (links v) p
bits_kept links node word p v same =
    elim (cases_Bool (v == node)) [
      | inl e ↦ ap (λ (w : ℕ). has_bit w p) (cond-true (v == node) word (links v) e) ∙ same ∙ ap (λ (n : ℕ). has_bit (links n) p) (sym (eqb-true v node e))
      | inr e ↦ ap (λ (w : ℕ). has_bit w p) (cond-false (v == node) word (links v) e)
    ]
