-- The root of a number, rounded down.
use Rattle.std.specs.Prelude.{ℕ, zero, suc, ◌+◌, ◌*◌, ◌≤◌, nat_le, if◌then◌else◌}

-- r is the greatest number whose square is at most n
pub record IsRoot (n r : ℕ) : Type 0 where
  pub square : r * r ≤ n
  pub greatest : (q : ℕ) → q * q ≤ n → q ≤ r

-- the root of n: it grows by 1 where n comes to the next square
unfoldable pub root_of : ℕ → ℕ
root_of zero = 0
root_of (suc n) =
    if nat_le ((root_of n + 1) * (root_of n + 1)) (suc n) then root_of n + 1 else root_of n
