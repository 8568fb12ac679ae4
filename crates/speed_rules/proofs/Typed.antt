-- What the code computes in its types, where everything fits.
use Rattle.std.proofs.Common.{◌≡◌, ℕ, ◌^◌, ◌<◌, ◌≤◌, false, ℤ, pos, ◌+ℤ◌, ◌-ℤ◌, ◌*ℤ◌, ◌<ℤ◌, ◌≤ℤ◌, ◌∙◌, arith}
use Rattle.std.specs.Prelude.{unsigned_abs, int_le, FitsSigned}
use Rattle.std.specs.Int.{Width, w16, w32, w64, int_min, cast_signed, cast_unsigned}
use Rattle.std.proofs.lemmas.Int.{ints, clamps, to_z-of_z}

-- a value that went to its type's bits and is read again
abbrev typed : Width → ℤ → ℤ
typed w z = cast_signed w (cast_unsigned w z)

pub fits_sum : (a b : ℤ) → unsigned_abs a ≤ 600000 → unsigned_abs b ≤ 40960 → FitsSigned w32 (a +ℤ b)
fits_sum a b a_near b_near = omega (arith, ints)

pub fits_difference : (cap : ℕ) (part : ℤ) → cap < 2 ^ 32 → unsigned_abs part < 2 ^ 62 → FitsSigned w64 (pos cap -ℤ part)
fits_difference cap part small near = omega (arith, ints)

-- the sum of two numbers that are what is meant
pub sum_is : (w : Width) (a b s t : ℤ) → FitsSigned w a → FitsSigned w b → FitsSigned w (s +ℤ t) → a ≡ s → b ≡ t → typed w (typed w a +ℤ typed w b) ≡ s +ℤ t
sum_is w a b s t a_fits b_fits fits a_is b_is = rw (to_z-of_z w a a_fits, to_z-of_z w b b_fits, a_is, b_is) (to_z-of_z w (s +ℤ t) fits)

pub difference_is : (w : Width) (a b s t : ℤ) → FitsSigned w a → FitsSigned w b → FitsSigned w (s -ℤ t) → a ≡ s → b ≡ t → typed w (typed w a -ℤ typed w b) ≡ s -ℤ t
difference_is w a b s t a_fits b_fits fits a_is b_is = rw (to_z-of_z w a a_fits, to_z-of_z w b b_fits, a_is, b_is) (to_z-of_z w (s -ℤ t) fits)

-- the sum of two products
pub dot_is : (a x b y p q : ℤ) → FitsSigned w32 a → FitsSigned w32 x → FitsSigned w32 b → FitsSigned w32 y → FitsSigned w64 p → FitsSigned w64 q → p ≡ typed w32 a *ℤ typed w32 x → q ≡ typed w32 b *ℤ typed w32 y → typed w64 p +ℤ typed w64 q ≡ a *ℤ x +ℤ b *ℤ y
dot_is a x b y p q a_fits x_fits b_fits y_fits p_fits q_fits p_is q_is =
    let one = simp to_z-of_z at p_is in
    let other = simp to_z-of_z at q_is in
    rw (to_z-of_z w64 p p_fits, to_z-of_z w64 q q_fits, one, other)

-- the lesser of what is allowed and of what is missing
pub gain_is : (f m g : ℤ) (allowed : ℕ) → allowed ≤ 40960 → f ≡ pos allowed → FitsSigned w64 m → FitsSigned w64 g → pos 0 <ℤ m → g ≡ int_min (typed w64 f) (typed w64 m) → typed w32 (typed w64 g) ≡ int_min (pos allowed) m
gain_is f m g allowed small f_is m_fits g_fits some g_is =
    let allowed_fits : FitsSigned w64 (pos allowed) = omega (arith, ints) in
    let g_min : g ≡ int_min (pos allowed) m = g_is ∙ (rw (f_is, to_z-of_z w64 (pos allowed) allowed_fits, to_z-of_z w64 m m_fits)) in
    let least_fits : FitsSigned w32 (int_min (pos allowed) m) = omega (arith, ints, clamps) in
    rw (to_z-of_z w64 g g_fits, g_min) (to_z-of_z w32 (int_min (pos allowed) m) least_fits)

pub gain_is_positive : (allowed : ℕ) (m : ℤ) → pos 0 <ℤ m → pos 0 ≤ℤ int_min (pos allowed) m
gain_is_positive allowed m some = omega (arith, ints, clamps)

-- a test that failed
pub positive_from_test : (m : ℤ) → FitsSigned w64 m → int_le (typed w64 m) (pos 0) ≡ false → pos 0 <ℤ m
positive_from_test m fits failed = omega (arith, ints)

-- a wish in units, in sub-units
pub wish_is : (f wish : ℤ) → FitsSigned w16 wish → f ≡ typed w16 wish → typed w32 (typed w32 f *ℤ pos 256) ≡ wish *ℤ pos 256
wish_is f wish fits is = omega (arith, ints)
