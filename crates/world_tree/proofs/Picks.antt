-- Which records are gathered from marks.
use Rattle.std.proofs.Common.{◌≡◌, ℕ, ◌+◌, ◌<◌, ◌≤◌, ◌↔◌, Bool, true, false, IsTrue, List, [], ◌∷◌, ◌++◌, length, drop, Option, Some, None, MatchBool, slice_index_or, sym, refl, ap, ◌∙◌, arith, append_assoc, length-append}
use Rattle.std.specs.List.{cons_option}
use Rattle.std.proofs.lemmas.Bool.{false≢true}
use Rattle.std.proofs.lemmas.List.{drop_more}
use Rattle.std.proofs.Math.ListN.{drop_of_length-le}
use Rattle.entity_recs.specs.declared.limits.TheConstants.{IDS}
use Rattle.entity_recs.specs.declared.rec.Rec.{Rec}
use Rattle.world_tree.specs.Nears.{NearView}
use Rattle.world_tree.specs.Walks.{marked_record, picked}

-- no more records are gathered than there are
length-cons_option : (o : Option Rec) (xs : List Rec) → length (cons_option o xs) ≤ length xs + 1
length-cons_option None xs = omega arith
length-cons_option (Some x) xs = omega arith

length-picked : (marks : List Bool) (records : List (Option Rec)) → length (picked marks records) ≤ length records
unfolding picked
length-picked [] records = omega arith
length-picked (mark ∷ marks) [] = omega arith
length-picked (mark ∷ marks) (place ∷ records) =
    let rest = length-picked marks records in
    omega (arith, length-cons_option (marked_record place mark) (picked marks records))

-- nothing is gathered where no place is left
picked-none : (marks : List Bool) → picked marks [] ≡ []
unfolding picked
picked-none [] = refl
picked-none (mark ∷ marks) = refl

picked-cons : (mark : Bool) (place : Option Rec) (marks : List Bool) (records : List (Option Rec))
    → picked (mark ∷ marks) (place ∷ records) ≡ cons_option (marked_record place mark) (picked marks records)
unfolding picked
picked-cons mark place marks records = refl

-- from one place on
pub picked-drop : (marks : List Bool) (records : List (Option Rec)) (i : ℕ)
    → i < length marks → i < length records
    → picked (drop i marks) (drop i records) ≡ cons_option (marked_record (slice_index_or records i None) (slice_index_or marks i false)) (picked (drop (i + 1) marks) (drop (i + 1) records))
picked-drop marks records i in_marks in_records =
    ap (λ ms. picked ms (drop i records)) (drop_more marks i false in_marks)
    ∙ ap (λ rs. picked (slice_index_or marks i false ∷ drop (i + 1) marks) rs) (drop_more records i None in_records)
    ∙ picked-cons _ _ _ _

pub picked-past : (marks : List Bool) (records : List (Option Rec)) (i : ℕ) → length records ≤ i → picked (drop i marks) (drop i records) ≡ []
picked-past marks records i past = ap (λ rs. picked (drop i marks) rs) (drop_of_length-le records past) ∙ picked-none (drop i marks)

-- the loop that gathers: what is out, and then what comes from the places that are left, is all
module _ (marks : List Bool) (records : List (Option Rec)) (out more : List Rec) (i : ℕ)
    (in_marks : i < length marks) (in_records : i < length records)
    (keeps : out ++ picked (drop i marks) (drop i records) ≡ picked marks records) where
  pub picking-skips : more ≡ out → marked_record (slice_index_or records i None) (slice_index_or marks i false) ≡ None
      → more ++ picked (drop (i + 1) marks) (drop (i + 1) records) ≡ picked marks records
  picking-skips same none =
      let step = picked-drop marks records i in_marks in_records in
      let left = ap (λ o. cons_option o (picked (drop (i + 1) marks) (drop (i + 1) records))) none in
      ap (λ (xs : List Rec). xs ++ picked (drop (i + 1) marks) (drop (i + 1) records)) same
      ∙ ap (λ (xs : List Rec). out ++ xs) (sym (step ∙ left)) ∙ keeps

  pub picking-takes : (r : Rec) (pushed : Bool) (room : ℕ) (grown : NearView) → more ≡ grown.items → length records ≡ IDS → IDS ≤ room
      → marked_record (slice_index_or records i None) (slice_index_or marks i false) ≡ Some r
      → (IsTrue pushed ↔ (length out < room))
      → MatchBool pushed (grown ≡ record { items = out ++ r ∷ []; room = room }) (grown ≡ record { items = out; room = room })
      → (more ++ picked (drop (i + 1) marks) (drop (i + 1) records) ≡ picked marks records) × (grown.room ≡ room)
  picking-takes r pushed room grown same places enough taken has_room does =
      let rest = picked (drop (i + 1) marks) (drop (i + 1) records) in
      let step = picked-drop marks records i in_marks in_records in
      let left = step ∙ ap (λ o. cons_option o rest) taken in
      let all : length out + length (picked (drop i marks) (drop i records)) ≡ length (picked marks records) =
      sym (length-append out (picked (drop i marks) (drop i records))) ∙ ap (λ (xs : List Rec). length xs) keeps in
      let one : length (picked (drop i marks) (drop i records)) ≡ length rest + 1 = ap (λ (xs : List Rec). length xs) left ∙ omega arith in
      let few = length-picked marks records in
      let fits : length out < room = omega arith in
      let took_is = took pushed (has_room.1 fits) does in
      let grows = same ∙ ap (λ (l : NearView). l.items) took_is in (
        ap (λ (xs : List Rec). xs ++ rest) grows ∙ append_assoc out (r ∷ []) rest
            ∙ ap (λ (xs : List Rec). out ++ xs) (sym left) ∙ keeps,
        ap (λ (l : NearView). l.room) took_is,
      )
    where
      with_one : NearView
      with_one = record { items = out ++ r ∷ []; room = room }

      took : (b : Bool) → IsTrue b → MatchBool b (grown ≡ with_one) (grown ≡ record { items = out; room = room }) → grown ≡ with_one
      took true is h = h
      took false is h = absurd (false≢true is)
