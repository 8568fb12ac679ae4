-- The fields of a snapshot as bytes, and read back.
use Rattle.std.proofs.Common.{◌≡◌, ℕ, zero, suc, ◌+◌, ◌*◌, ◌/◌, ◌%◌, ◌^◌, ◌<◌, ◌≤◌, Bool, true, false, List, [], ◌∷◌, ◌++◌, length, drop, refl, ap, sym, ◌∙◌, arith, drop-cons}
use Rattle.std.specs.Prelude.{ℤ, FitsSigned, ◌==◌}
use Rattle.std.specs.Int.{w16, w32, cast_signed, cast_unsigned, from_le_bytes, to_le_bytes}
use Rattle.std.proofs.lemmas.Int.{ints, to_z-of_z, of_z-to_z}
use Rattle.std.proofs.lemmas.Nat.{from_le_bytes-to_le_bytes_4}
use Rattle.arena_geo.specs.declared.vec3.Vec3.{Vec3}
use Rattle.arena_geo.specs.Vectors.{Fits, vector}
use Rattle.entity_recs.specs.declared.kind.Kind.{Kind}
use Rattle.entity_recs.specs.declared.kind.Kind.TheVariants.{Player, Ammo, Gem, Teleporter, Goal, Lift}
use Rattle.entity_recs.specs.Kinds.{number_of}
use Rattle.byte_lists.specs.Bytes.{byte}
use Rattle.byte_lists.proofs.Bytes.{number_cells}
use Rattle.snapshot_write.specs.Snapshots.{signed_bytes, vector_bytes}
use Rattle.snapshot_write.specs.Fields.{short_at, number_at, signed_at, vector_at, kind_of}
use Rattle.snapshot_write.specs.Spelling.{status_of}

-- ---- what was written is read

-- the number with a sign that four bytes spell
pub signed_again : (z : ℤ) → FitsSigned w32 z → cast_signed w32 (from_le_bytes w32 (signed_bytes z)) ≡ z
signed_again z fits = rw (from_le_bytes-to_le_bytes_4 (cast_unsigned w32 z) (omega (arith, ints))) (to_z-of_z w32 z fits)

-- a vector that was written somewhere, between other bytes
pub vector_again : (v : Vec3) → Fits v
    → vector (cast_signed w32 (from_le_bytes w32 (signed_bytes v.x))) (cast_signed w32 (from_le_bytes w32 (signed_bytes v.y)))
    (cast_signed w32 (from_le_bytes w32 (signed_bytes v.z))) ≡ v
vector_again v fits = rw (signed_again v.x fits.x, signed_again v.y fits.y, signed_again v.z fits.z) refl

-- a kind is that of its number
pub kind_again : (kind : Kind) → kind_of (number_of kind) ≡ kind
kind_again Player = refl
kind_again Ammo = refl
kind_again Gem = refl
kind_again Teleporter = refl
kind_again Goal = refl
kind_again Lift = refl

-- what is there has status 1
pub status_again : (here : Bool) → (status_of here == 1) ≡ here
status_again true = refl
status_again false = refl

-- ---- what is read was written

-- bytes at each index
abbrev pub AreBytesBelow : List ℕ → ℕ → Type 0
AreBytesBelow bytes n = (i : ℕ) → i < n → byte bytes i < 256

-- and those of the number with a sign
pub signed_cells : (a b c d : ℕ) → a < 256 → b < 256 → c < 256 → d < 256
    → signed_bytes (cast_signed w32 (from_le_bytes w32 (a ∷ b ∷ c ∷ d ∷ []))) ≡ a ∷ b ∷ c ∷ d ∷ []
signed_cells a b c d ha hb hc hd =
    let fits : from_le_bytes w32 (a ∷ b ∷ c ∷ d ∷ []) < 2 ^ 32 = omega arith in
    ap (to_le_bytes w32) (of_z-to_z w32 (from_le_bytes w32 (a ∷ b ∷ c ∷ d ∷ [])) fits) ∙ number_cells a b c d ha hb hc hd

-- two bytes are those of the number that they are read as
pub short_cells : (a b : ℕ) → a < 256 → b < 256 → to_le_bytes w16 (from_le_bytes w16 (a ∷ b ∷ [])) ≡ a ∷ b ∷ []
short_cells a b ha hb =
    let n = a + b * 256 in
    let low : n % 256 ≡ a = omega arith in
    let high : n / 256 % 256 ≡ b = omega arith in
    rw (low, high) refl

-- the first bytes of those from i on, one by one
pub one_at : (xs : List ℕ) (i : ℕ) → i < length xs → drop i xs ≡ byte xs i ∷ drop (i + 1) xs
one_at xs i inside =
    let next : suc i ≡ i + 1 = omega arith in
    drop-cons xs i 0 inside ∙ ap (λ k. byte xs i ∷ drop k xs) next

pub two_at : (xs : List ℕ) (i : ℕ) → i + 2 ≤ length xs → drop i xs ≡ byte xs i ∷ byte xs (i + 1) ∷ drop (i + 2) xs
two_at xs i inside =
    let next : i + 1 + 1 ≡ i + 2 = omega arith in
    one_at xs i (omega arith)
    ∙ ap (λ l. byte xs i ∷ l) (one_at xs (i + 1) (omega arith) ∙ ap (λ k. byte xs (i + 1) ∷ drop k xs) next)

pub four_at : (xs : List ℕ) (i : ℕ) → i + 4 ≤ length xs
    → drop i xs ≡ byte xs i ∷ byte xs (i + 1) ∷ byte xs (i + 2) ∷ byte xs (i + 3) ∷ drop (i + 4) xs
four_at xs i inside =
    two_at xs i (omega arith)
    ∙ ap (λ l. byte xs i ∷ byte xs (i + 1) ∷ l) (two_at xs (i + 2) (omega arith) ∙ from_two)
  where
    from_two : byte xs (i + 2) ∷ byte xs (i + 2 + 1) ∷ drop (i + 2 + 2) xs ≡ byte xs (i + 2) ∷ byte xs (i + 3) ∷ drop (i + 4) xs
    from_two =
        let third : i + 2 + 1 ≡ i + 3 = omega arith in
        let fourth : i + 2 + 2 ≡ i + 4 = omega arith in
        rw (third, fourth) refl

-- the bytes from i on begin with those of the number that is read there
pub short_spelled : (xs : List ℕ) (i : ℕ) → i + 2 ≤ length xs → AreBytesBelow xs (length xs)
    → drop i xs ≡ to_le_bytes w16 (short_at xs i) ++ drop (i + 2) xs
short_spelled xs i inside below =
    two_at xs i inside
    ∙ ap (λ l. l ++ drop (i + 2) xs)
    (sym (short_cells (byte xs i) (byte xs (i + 1)) (below i (omega arith)) (below (i + 1) (omega arith))))

pub number_spelled : (xs : List ℕ) (i : ℕ) → i + 4 ≤ length xs → AreBytesBelow xs (length xs)
    → drop i xs ≡ to_le_bytes w32 (number_at xs i) ++ drop (i + 4) xs
number_spelled xs i inside below =
    four_at xs i inside
    ∙ ap (λ l. l ++ drop (i + 4) xs)
    (sym (number_cells (byte xs i) (byte xs (i + 1)) (byte xs (i + 2)) (byte xs (i + 3)) (below i (omega arith))
    (below (i + 1) (omega arith)) (below (i + 2) (omega arith)) (below (i + 3) (omega arith))))

pub signed_spelled : (xs : List ℕ) (i : ℕ) → i + 4 ≤ length xs → AreBytesBelow xs (length xs)
    → drop i xs ≡ signed_bytes (signed_at xs i) ++ drop (i + 4) xs
signed_spelled xs i inside below =
    four_at xs i inside
    ∙ ap (λ l. l ++ drop (i + 4) xs)
    (sym (signed_cells (byte xs i) (byte xs (i + 1)) (byte xs (i + 2)) (byte xs (i + 3)) (below i (omega arith))
    (below (i + 1) (omega arith)) (below (i + 2) (omega arith)) (below (i + 3) (omega arith))))

pub vector_spelled : (xs : List ℕ) (i : ℕ) → i + 12 ≤ length xs → AreBytesBelow xs (length xs)
    → drop i xs ≡ vector_bytes (vector_at xs i) ++ drop (i + 12) xs
vector_spelled xs i inside below =
    signed_spelled xs i (omega arith) below
    ∙ ap (λ l. signed_bytes (signed_at xs i) ++ l)
    (signed_spelled xs (i + 4) (omega arith) below
    ∙ ap (λ l. signed_bytes (signed_at xs (i + 4)) ++ l) last)
  where
    last : drop (i + 4 + 4) xs ≡ signed_bytes (signed_at xs (i + 8)) ++ drop (i + 12) xs
    last =
        let here : i + 4 + 4 ≡ i + 8 = omega arith in
        let after : i + 8 + 4 ≡ i + 12 = omega arith in
        rw here (signed_spelled xs (i + 8) (omega arith) below ∙ ap (λ n. signed_bytes (signed_at xs (i + 8)) ++ drop n xs) after)

-- a number of at most 5 is that of its kind
pub kind_cell : (n : ℕ) → n ≤ 5 → number_of (kind_of n) ≡ n
kind_cell zero le = refl
kind_cell (suc zero) le = refl
kind_cell (suc (suc zero)) le = refl
kind_cell (suc (suc (suc zero))) le = refl
kind_cell (suc (suc (suc (suc zero)))) le = refl
kind_cell (suc (suc (suc (suc (suc zero))))) le = refl
kind_cell (suc (suc (suc (suc (suc (suc n)))))) le = absurd (omega arith)

-- a status of at most 1 is that of what it says
pub status_cell : (n : ℕ) → n ≤ 1 → status_of (n == 1) ≡ n
status_cell zero le = refl
status_cell (suc zero) le = refl
status_cell (suc (suc n)) le = absurd (omega arith)
