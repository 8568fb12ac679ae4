-- Lengths that are there, and lengths at most others.
use Rattle.std.proofs.Common.{◌≡◌, ◌≢◌, ℕ, ◌<◌, ◌≤◌, List, length, Option, Some, None, refl, sym, ◌∙◌, subst, inl, inr, arith}
use Rattle.std.proofs.lemmas.Bool.{cases_lt}
use Rattle.std.proofs.lemmas.List.{get_or_past}
use Rattle.std.proofs.lemmas.Option.{none-some, same_Some}
use Rattle.bot_ways.specs.Walks.{length_to}
use Rattle.bot_ways.specs.Ways.{IsAtMost}

-- a length that is there, and at most another
pub record IsWithin (most : ℕ) (o : Option ℕ) : Type 0 where
  pub number : ℕ
  pub is : o ≡ Some number
  pub within : number ≤ most

within_at : (most : ℕ) (o p : Option ℕ) → o ≡ p → IsAtMost most p → IsWithin most o
within_at most o None e h = absurd h
within_at most o (Some n) e h = record { number = n; is = e; within = h }

pub within_of : (most : ℕ) (o : Option ℕ) → IsAtMost most o → IsWithin most o
within_of most o h = within_at most o o refl h

pub at_most_of : (most n : ℕ) (o : Option ℕ) → o ≡ Some n → n ≤ most → IsAtMost most o
at_most_of most n o e h = subst (IsAtMost most) (sym e) h

pub at_most_more : (most more : ℕ) (o : Option ℕ) → most ≤ more → IsAtMost most o → IsAtMost more o
at_most_more most more o le h = let w = within_of most o h in at_most_of more w.number o w.is (omega arith)

-- a length that is there is that of a waypoint of the list
pub length_within : (least : List (Option ℕ)) (v n : ℕ) → length_to least v ≡ Some n → v < length least
length_within least v n h = elim (cases_lt v (length least)) [
  | inl within ↦ within
  | inr past ↦ absurd (none-some n (sym (get_or_past least v None past) ∙ h))
]

pub same_length : (o : Option ℕ) (n m : ℕ) → o ≡ Some n → o ≡ Some m → n ≡ m
same_length o n m p q = same_Some n m (sym p ∙ q)

-- there is a length
pub record HasLength (o : Option ℕ) : Type 0 where
  pub number : ℕ
  pub is : o ≡ Some number

pub has_length : (o : Option ℕ) → o ≢ None → HasLength o
has_length None apart = absurd (apart refl)
has_length (Some n) apart = record { number = n; is = refl }
