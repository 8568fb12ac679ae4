-- The rule of a post: whose turn it is at the slot, by its word.
use Rattle.std.specs.Prelude.{◌≡◌, ℕ, List, [], ◌∷◌, Option, Some, None}
use mathlib.Core.Option.{some, none}
use Rattle.atomic_table.specs.Table.{State}
use Rattle.crew.specs.declared.view.View.{View}
use Rattle.crew.specs.Views.{alone, new, leading, helping}

-- a table of one word and one slot
abbrev pub table_of : {T : Type 0} → ℕ → mathlib.Core.Option.Option T → List (View T) → State T (View T)
table_of word home views = record { words = word ∷ []; homes = home ∷ []; views = views }

module _ {T : Type 0} (may_run : T → Type 0) (changes : T → T → Type 0) where
  -- the word, what lies in the slot where no seat holds it, what the leader has handed over and the helper has begun
  pub data IsTurn (word : ℕ) (home : mathlib.Core.Option.Option T) (given begun : Option T) : Type 0 where
    -- nothing is handed over, and the leader holds the slot
    is_free : word ≡ 0 → home ≡ none → given ≡ None → begun ≡ None → IsTurn word home given begun
    -- an item was handed over, and lies in the slot as it was
    is_offered : (x : T) → may_run x → word ≡ 1 → home ≡ some x → given ≡ Some x → begun ≡ None → IsTurn word home given begun
    -- the helper has taken it
    is_begun : (x : T) → word ≡ 2 → home ≡ none → given ≡ Some x → begun ≡ Some x → IsTurn word home given begun
    -- what the helper has made of it lies in the slot
    is_done : (x y : T) → changes x y → word ≡ 3 → home ≡ some y → given ≡ Some x → begun ≡ None → IsTurn word home given begun
    -- there are no more turns
    is_stopped : word ≡ 4 → home ≡ none → given ≡ None → begun ≡ None → IsTurn word home given begun

  -- the table is new, the helper has got its seat, or the two take turns
  pub data IsRuled (s : State T (View T)) : Type 0 where
    is_alone : (x : T) → s ≡ table_of 0 (some x) (alone ∷ []) → IsRuled s
    is_new : (x : T) → s ≡ table_of 0 (some x) (new ∷ helping None ∷ []) → IsRuled s
    is_paired : (word : ℕ) (home : mathlib.Core.Option.Option T) (given begun : Option T) → IsTurn word home given begun
        → s ≡ table_of word home (leading given ∷ helping begun ∷ []) → IsRuled s
