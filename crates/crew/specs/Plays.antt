-- What a step of a post tells the seat that makes it: a seat is its view, and the slot with its value where it holds it.
use Rattle.std.specs.Prelude.{◌≡◌, ◌≢◌, ℕ, [], ◌∷◌, Option, Some, None, map}
use Rattle.atomic_table.specs.Table.{Me}
use Rattle.crew.specs.declared.view.View.{View}
use Rattle.crew.specs.Views.{leading, helping}

module _ {T : Type 0} where
  -- the leader has the slot, with this in it, and has handed nothing over
  abbrev pub IsFreeWith : T → Me T (View T) → Type 0
  IsFreeWith x me = me ≡ (leading None, (0, x) ∷ [])

  -- the leader has handed this over
  abbrev pub HasGiven : T → Me T (View T) → Type 0
  HasGiven x me = me ≡ (leading (Some x), [])

  -- the helper has begun this, and the slot has that
  abbrev pub IsAtWork : T → T → Me T (View T) → Type 0
  IsAtWork x y me = me ≡ (helping (Some x), (0, y) ∷ [])

  -- the helper has nothing
  abbrev pub IsIdle : Me T (View T) → Type 0
  IsIdle me = me ≡ (helping None, [])

  -- the leader has the slot
  pub record IsFree (me : Me T (View T)) : Type 0 where
    pub kept : T
    pub is : IsFreeWith kept me

  -- the same without what lies in it
  abbrev pub IsRested : Me T (View T) → Type 0
  IsRested me = (me.0 ≡ leading None) × (map (λ p. p.0) me.1 ≡ 0 ∷ [])

  -- the leader has something to hand over that may run
  pub record IsReady (may_run : T → Type 0) (me : Me T (View T)) : Type 0 where
    pub item : T
    pub may : may_run item
    pub free : IsFreeWith item me

  -- the leader has handed something over that may run
  pub record IsGiven (may_run : T → Type 0) (me : Me T (View T)) : Type 0 where
    pub item : T
    pub may : may_run item
    pub given : HasGiven item me

  -- the leader has handed something over, which this is the change of
  pub record IsChanged (changes : T → T → Type 0) (given : Option T) (me : Me T (View T)) : Type 0 where
    pub before : T
    pub after : T
    pub given_is : given ≡ Some before
    pub changed : changes before after
    pub free : IsFreeWith after me

  -- the leader has again what it has handed over
  pub record IsBack (given : Option T) (me : Me T (View T)) : Type 0 where
    pub item : T
    pub given_is : given ≡ Some item
    pub free : IsFreeWith item me

  -- the helper has begun something that may run
  pub record HasBegun (may_run : T → Type 0) (me : Me T (View T)) : Type 0 where
    pub item : T
    pub may : may_run item
    pub begun : IsAtWork item item me

  -- the helper has changed what it has begun
  pub record HasWorked (changes : T → T → Type 0) (me : Me T (View T)) : Type 0 where
    pub before : T
    pub after : T
    pub changed : changes before after
    pub worked : IsAtWork before after me

  -- the steps: of the seat before, the word that was found, and the seat after
  abbrev pub opened : Me T (View T) → ℕ → Me T (View T) → Type 0
  opened before word after = IsFree after

  abbrev pub offered : Me T (View T) → ℕ → Me T (View T) → Type 0
  offered before word after = (x : T) → IsFreeWith x before → HasGiven x after

  abbrev pub reclaimed : Me T (View T) → ℕ → Me T (View T) → Type 0
  reclaimed before word after = (word ≡ 1 → IsBack before.0.item after) × (word ≢ 1 → after ≡ before)

  abbrev pub collected : (T → T → Type 0) → Me T (View T) → ℕ → Me T (View T) → Type 0
  collected changes before word after = (word ≡ 3 → IsChanged changes before.0.item after) × (word ≢ 3 → after ≡ before)

  abbrev pub stopped : Me T (View T) → ℕ → Me T (View T) → Type 0
  stopped before word after = after ≡ before

  abbrev pub began : (T → Type 0) → Me T (View T) → ℕ → Me T (View T) → Type 0
  began may_run before word after = (word ≡ 1 → HasBegun may_run after) × (word ≢ 1 → after ≡ before)

  abbrev pub ended : Me T (View T) → ℕ → Me T (View T) → Type 0
  ended before word after = IsIdle after
