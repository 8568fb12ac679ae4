-- When a shot is fired, in numbers.
use Rattle.std.proofs.Common.{◌≡◌, ℕ, ◌+◌, ◌*◌, ◌/◌, ◌%◌, ◌<◌, ◌≤◌, ◌==◌, nat_lt, Bool, true, false, ◌&&◌, not, length, ℤ, pos, ◌*ℤ◌, ap, inl, inr, arith}
use Rattle.std.specs.Prelude.{unsigned_abs}
use Rattle.std.proofs.lemmas.Nat.{mul-le}
use Rattle.std.proofs.lemmas.Bool.{cases_lt, lt-ltb, ltb-true}
use Rattle.std.proofs.lemmas.Bool.Decides.{nat_tests}
use Rattle.std.proofs.lemmas.Int.{unsigned_abs-mul}
use Rattle.arena_geo.specs.Roots.{IsRoot}
use Rattle.arena_geo.proofs.Squares.{root_is_greatest}
use Rattle.speed_rules.specs.Wishes.{wish_length}
use Rattle.shot_rules.specs.Targets.{is_set, has_aim}
use Rattle.shot_rules.specs.Shots.{is_fired}
use Rattle.shot_rules.specs.Laws.{IsFiring, FiringIsKnown}
use Rattle.shot_rules.proofs.Hits.{firing}

-- ---- the length of a wish

-- a part of a wish in sub-units
pub in_sub_units : (wish : ℤ) → unsigned_abs (wish *ℤ pos 256) ≡ unsigned_abs wish * 256
in_sub_units wish = unsigned_abs-mul wish (pos 256)

same_legs : (a b m n len : ℕ) → a ≡ m → b ≡ n → IsRoot (a * a + b * b) len → IsRoot (m * m + n * n) len
same_legs a b m n len a_is b_is root = rw (a_is, b_is) at root

-- the length of a wish is the root of the squares of its parts, in sub-units
pub IsRoot-wish_length : (wish_x wish_y : ℤ)
    → IsRoot ((unsigned_abs wish_x * 256) * (unsigned_abs wish_x * 256) + (unsigned_abs wish_y * 256) * (unsigned_abs wish_y * 256)) (wish_length wish_x wish_y)
IsRoot-wish_length wish_x wish_y =
    same_legs (unsigned_abs (wish_x *ℤ pos 256)) (unsigned_abs (wish_y *ℤ pos 256)) (unsigned_abs wish_x * 256) (unsigned_abs wish_y * 256) (wish_length wish_x wish_y)
    (in_sub_units wish_x) (in_sub_units wish_y) (root_is_greatest _)

root_is_long : (m n len : ℕ) → IsRoot ((m * 256) * (m * 256) + (n * 256) * (n * 256)) len → 0 < m + n → 256 ≤ len
root_is_long m n len root some =
    elim (cases_lt 0 m) [
      | inl has_x ↦ root.greatest 256 (omega (arith, mul-le 256 256 (m * 256) (m * 256) (omega arith) (omega arith)))
      | inr no_x ↦ root.greatest 256 (omega (arith, mul-le 256 256 (n * 256) (n * 256) (omega arith) (omega arith)))
    ]

root_is_none : (m n len : ℕ) → IsRoot ((m * 256) * (m * 256) + (n * 256) * (n * 256)) len → 0 < len → 0 < m + n
root_is_none m n len root some =
    elim (cases_lt 0 (m + n)) [
      | inl has ↦ has
      | inr none ↦ absurd (omega (arith, root.square, mul-le m m 0 0 (omega arith) (omega arith), mul-le n n 0 0 (omega arith) (omega arith), mul-le 1 1 len len some some))
    ]

-- a wish that isn't (0, 0) is a unit or longer
pub wish_is_long : (wish_x wish_y : ℤ) → 0 < unsigned_abs wish_x + unsigned_abs wish_y → 256 ≤ wish_length wish_x wish_y
wish_is_long wish_x wish_y some =
    root_is_long (unsigned_abs wish_x) (unsigned_abs wish_y) (wish_length wish_x wish_y) (IsRoot-wish_length wish_x wish_y) some

-- ---- each condition

set_to : (n : ℕ) → (n == 1) ≡ true → n ≡ 1
set_to n h = grind (arith, nat_tests)

set_from : (n : ℕ) → n ≡ 1 → (n == 1) ≡ true
set_from n h = grind (arith, nat_tests)

clear_to : (n : ℕ) → (n / 2 % 2 == 1) ≡ false → n / 2 % 2 ≡ 0
clear_to n h = grind (arith, nat_tests)

clear_from : (n : ℕ) → n ≡ 0 → not (n == 1) ≡ true
clear_from n h = ap (λ (k : ℕ). not (k == 1)) h

wish_to : (wish_x wish_y : ℤ) → has_aim wish_x wish_y ≡ true → 0 < unsigned_abs wish_x + unsigned_abs wish_y
wish_to wish_x wish_y aim =
    root_is_none (unsigned_abs wish_x) (unsigned_abs wish_y) (wish_length wish_x wish_y) (IsRoot-wish_length wish_x wish_y) (ltb-true 0 (wish_length wish_x wish_y) aim)

wish_from : (wish_x wish_y : ℤ) → 0 < unsigned_abs wish_x + unsigned_abs wish_y → has_aim wish_x wish_y ≡ true
wish_from wish_x wish_y some = lt-ltb 0 (wish_length wish_x wish_y) (omega (arith, wish_is_long wish_x wish_y some))

-- ---- all of them

and_all : (a b d e f : Bool) → a ≡ true → b ≡ true → d ≡ true → e ≡ true → f ≡ true → ((a && b && d && e) && f) ≡ true
and_all a b d e f p q r s t = cc

pub conditions_known : FiringIsKnown
conditions_known c w = (to, from)
  where
    to : is_fired c w ≡ true → IsFiring c w
    to fired =
        let f = firing c w fired in
        record {
          pressed = set_to (c.buttons / 2 % 2) f.pressed;
          stayed = clear_to w.me.flags f.stayed;
          loaded = f.some;
          wish = wish_to c.wish_x c.wish_y f.aim;
          few = f.few;
        }

    from : IsFiring c w → is_fired c w ≡ true
    from f =
        and_all (is_set c.buttons 1) (nat_lt 0 w.me.ammo) (not (is_set w.me.flags 1)) (nat_lt (length w.got) 8) (has_aim c.wish_x c.wish_y)
        (set_from (c.buttons / 2 % 2) f.pressed) (lt-ltb 0 w.me.ammo f.loaded) (clear_from (w.me.flags / 2 % 2) f.stayed) (lt-ltb (length w.got) 8 f.few)
        (wish_from c.wish_x c.wish_y f.wish)
