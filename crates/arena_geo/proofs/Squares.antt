-- Squares and roots.
use Rattle.std.proofs.Common.{◌≡◌, ℕ, zero, suc, ◌+◌, ◌*◌, ◌<◌, ◌≤◌, Bool, true, false, nat_le, if◌then◌else◌, refl, arith}
use Rattle.std.proofs.lemmas.Nat.{mul-le}
use Rattle.std.proofs.lemmas.Bool.Decides.{nat_tests}
use Rattle.arena_geo.specs.Roots.{IsRoot, root_of}
use Rattle.arena_geo.specs.Laws.{RootIsGreatest}

-- a number whose square is below that of r + 1 is at most r
pub le_from_square : (q r : ℕ) → q * q < (r + 1) * (r + 1) → q ≤ r
le_from_square q r below = grind (arith, mul-le)

-- a root lies below the next square
pub IsRoot-next_square : (n r : ℕ) → r * r ≤ n → n < (r + 1) * (r + 1) → IsRoot n r
IsRoot-next_square n r square next = record { square = square; greatest = λ q below. le_from_square q r (omega arith) }

pub next_square : (n r : ℕ) → IsRoot n r → n < (r + 1) * (r + 1)
next_square n r root = grind (arith, root.greatest (r + 1))

-- a number has one root
pub same_root : (n r s : ℕ) → IsRoot n r → IsRoot n s → r ≡ s
same_root n r s one other = omega (arith, one.greatest s other.square, other.greatest r one.square)

-- where n + 1 is the next square its root is greater by 1, and else the same
IsRoot-next : (n r : ℕ) (b : Bool) → nat_le ((r + 1) * (r + 1)) (suc n) ≡ b → IsRoot n r
    → IsRoot (suc n) (if b then r + 1 else r)
IsRoot-next n r true is root =
    let square : (r + 1) * (r + 1) ≤ suc n = grind (arith, nat_tests) in
    let below : n < (r + 1) * (r + 1) = next_square n r root in
    IsRoot-next_square (suc n) (r + 1) square (omega arith)
IsRoot-next n r false is root =
    let next : suc n < (r + 1) * (r + 1) = grind (arith, nat_tests) in
    IsRoot-next_square (suc n) r (omega (arith, root.square)) next

pub root_is_greatest : RootIsGreatest
unfolding root_of
root_is_greatest zero = record { square = omega arith; greatest = λ q below. le_from_square q 0 (omega arith) }
root_is_greatest (suc n) = IsRoot-next n (root_of n) _ refl (root_is_greatest n)
