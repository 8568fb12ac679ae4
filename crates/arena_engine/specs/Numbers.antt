-- Numbers as words spell them.
use Rattle.std.specs.Prelude.{◌≡◌, ℕ, ◌≤◌, List, decimal}

-- the word spells a number from 1 to most in decimal digits, without a sign and without a leading zero
pub record SpellsUpTo (most : ℕ) (word : List ℕ) (n : ℕ) : Type 0 where
  pub digits_are : word ≡ decimal n
  pub some : 1 ≤ n
  pub few : n ≤ most
