-- The words of the start, from its records.
use mathlib.Core.Path.{fun_ext}
use Rattle.std.proofs.Common.{◌≡◌, ℕ, ◌+◌, ◌<◌, ◌==◌, ◌&&◌, Bool, true, false, List, [], ◌∷◌, length, map, set, get_or, get_or-set_same, get_or-set_other, refl, sym, ap, ◌∙◌, inl, inr, Some, None, arith}
use Rattle.std.specs.Prelude.{nat_lt}
use Rattle.std.proofs.lemmas.Bool.{cases_Bool, cases_eq, lt-ltb, ltb-true, or_left, or_right, and_parts, cond-true, cond-false}
use Rattle.std.proofs.Math.Bool.{and-false}
use Rattle.entity_recs.specs.declared.rec.Rec.{Rec}
use Rattle.entity_recs.specs.Worlds.{record_with, nobody}
use Rattle.core_steps.specs.Cells.{Words}
use Rattle.core_steps.specs.Nodes.{Fixed, has, home}
use Rattle.core_steps.specs.Stands.{is_player}
use Rattle.core_seats.specs.Starts.{record_at}
use Rattle.core_machine.specs.Tables.{within, rows}

-- ---- a record of the start

pub found_record : (rs : List Rec) (id : ℕ) (r : Rec) → record_at rs id ≡ Some r → record_with rs id ≡ r
found_record [] id r is = cc
found_record (x ∷ rs) id r is =
    elim (cases_Bool (x.id == id)) [
      | inl e ↦
          let same : Some x ≡ Some r = sym (cond-true (x.id == id) (Some x) (record_at rs id) e) ∙ is in
          let one : x ≡ r = cc in
          cond-true (x.id == id) x (record_with rs id) e ∙ one
      | inr e ↦ cond-false (x.id == id) x (record_with rs id) e ∙ found_record rs id r (sym (cond-false (x.id == id) (Some x) (record_at rs id) e) ∙ is)
    ]

pub no_record : (rs : List Rec) (id : ℕ) → record_at rs id ≡ None → record_with rs id ≡ nobody
no_record [] id is = refl
no_record (x ∷ rs) id is =
    elim (cases_Bool (x.id == id)) [
      | inl e ↦ let no : Some x ≡ None = sym (cond-true (x.id == id) (Some x) (record_at rs id) e) ∙ is in cc
      | inr e ↦ cond-false (x.id == id) x (record_with rs id) e ∙ no_record rs id (sym (cond-false (x.id == id) (Some x) (record_at rs id) e) ∙ is)
    ]

pub record_lives : (rs : List Rec) (id : ℕ) (r : Rec) → record_at rs id ≡ Some r → has (map (λ (r : Rec). r.id) rs) id ≡ true
record_lives [] id r is = cc
record_lives (x ∷ rs) id r is =
    elim (cases_Bool (x.id == id)) [
      | inl e ↦ or_left _ _ e
      | inr e ↦ or_right _ _ (record_lives rs id r (sym (cond-false (x.id == id) (Some x) (record_at rs id) e) ∙ is))
    ]

pub none_lives : (rs : List Rec) (id : ℕ) → record_at rs id ≡ None → has (map (λ (r : Rec). r.id) rs) id ≡ false
none_lives [] id is = refl
none_lives (x ∷ rs) id is =
    elim (cases_Bool (x.id == id)) [
      | inl e ↦ let no : Some x ≡ None = sym (cond-true (x.id == id) (Some x) (record_at rs id) e) ∙ is in cc
      | inr e ↦ rw e (none_lives rs id (sym (cond-false (x.id == id) (Some x) (record_at rs id) e) ∙ is))
    ]

-- ---- a player's bit

pub linked_is : (F : Fixed) (slot node at : ℕ) → slot < 64 → has F.start.ids slot ≡ true → at ≡ home F (F.start.record_of slot)
    → (node == at) ≡ (is_player F slot && (node == home F (F.start.record_of slot)))
linked_is F slot node at below lives is =
    ap (λ (n : ℕ). node == n) is
    ∙ ap (λ (b : Bool). b && (node == home F (F.start.record_of slot))) (sym (ap (λ (b : Bool). b && has F.start.ids slot) (lt-ltb slot 64 below) ∙ lives))

pub none_linked : (F : Fixed) (slot node : ℕ) → has F.start.ids slot ≡ false → false ≡ (is_player F slot && (node == home F (F.start.record_of slot)))
none_linked F slot node none =
    ap (λ (b : Bool). b && (node == home F (F.start.record_of slot))) (sym (ap (λ (b : Bool). nat_lt slot 64 && b) none ∙ and-false (nat_lt slot 64)))

-- ---- an array that is filled from its first place on

pub filled : {A : Type 0} (xs : List A) (i : ℕ) (x d : A) (f : ℕ → A) → i < length xs → ((k : ℕ) → k < i → get_or xs k d ≡ f k) → x ≡ f i
    → (k : ℕ) → k < i + 1 → get_or (set xs i x) k d ≡ f k
filled xs i x d f room before is k below =
    elim (cases_eq k i) [
      | inl same ↦ rw (same, get_or-set_same) (grind (arith, is))
      | inr other ↦ rw get_or-set_other (before k (omega (arith, other)))
    ]

pub all_within : (n : ℕ) (xs : List ℕ) (f : ℕ → ℕ) → ((k : ℕ) → k < n → get_or xs k 0 ≡ f k) → within n xs f ≡ f
all_within n xs f same = fun_ext (λ i. elim (cases_Bool (nat_lt i n)) [
  | inl e ↦ cond-true (nat_lt i n) (get_or xs i 0) (f i) e ∙ same i (ltb-true i n e)
  | inr e ↦ cond-false (nat_lt i n) (get_or xs i 0) (f i) e
])

pub all_rows : (body : List (List ℕ)) (f : ℕ → ℕ → ℕ) → ((slot k : ℕ) → slot < 64 → get_or (get_or body slot []) k 0 ≡ f slot k) → rows body f ≡ f
all_rows body f same = fun_ext (λ slot. fun_ext (λ k. elim (cases_Bool (nat_lt slot 64 && nat_lt k 5)) [
  | inl e ↦ cond-true (nat_lt slot 64 && nat_lt k 5) (get_or (get_or body slot []) k 0) (f slot k) e ∙ same slot k (ltb-true slot 64 (and_parts (nat_lt slot 64) (nat_lt k 5) e).0)
  | inr e ↦ cond-false (nat_lt slot 64 && nat_lt k 5) (get_or (get_or body slot []) k 0) (f slot k) e
]))

-- words that are the same part by part
pub same_words : (words : Words) (node links state : ℕ → ℕ) (body : ℕ → ℕ → ℕ) → node ≡ words.node → links ≡ words.links → body ≡ words.body → state ≡ words.state
    → record words { node = node; links = links; body = body; state = state } ≡ words
same_words words node links state body a b c d = rw (a, b, c, d) refl
