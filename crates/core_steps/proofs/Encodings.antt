-- A player's record and its five words.
use Rattle.std.proofs.Common.{◌≡◌, ℕ, ◌+◌, ◌*◌, ◌/◌, ◌%◌, ◌^◌, ◌<◌, ℤ, refl, ap, ◌∙◌, subst, arith}
use Rattle.std.specs.Prelude.{FitsSigned}
use Rattle.std.specs.Int.{w32}
use Rattle.std.proofs.lemmas.Int.{ints, to_z-of_z, fits_signed_from_abs}
use Rattle.arena_geo.specs.declared.vec3.Vec3.{Vec3}
use Rattle.arena_geo.specs.Vectors.{IsNear, Fits}
use Rattle.entity_recs.specs.Records.{IsShapeOf, HasCorners}
use Rattle.core_steps.specs.Encoding.{word_of_halves, low_half, high_half, bits_of, signed_of}
use Rattle.core_steps.specs.Laws.{EncodedIsDecoded}

pub low-joined : (low high : ℕ) → low < 2 ^ 32 → low_half (word_of_halves low high) ≡ low
low-joined low high below = omega arith

pub high-joined : (low high : ℕ) → low < 2 ^ 32 → high_half (word_of_halves low high) ≡ high
high-joined low high below = omega arith

bits_fit : (z : ℤ) → FitsSigned w32 z → bits_of z < 2 ^ 32
bits_fit z fits = omega (arith, ints)

signed-bits : (z : ℤ) → FitsSigned w32 z → signed_of (bits_of z) ≡ z
signed-bits z fits = to_z-of_z w32 z fits

pub low_signed : (z : ℤ) (high : ℕ) → FitsSigned w32 z → signed_of (low_half (word_of_halves (bits_of z) high)) ≡ z
low_signed z high fits = ap signed_of (low-joined (bits_of z) high (bits_fit z fits)) ∙ signed-bits z fits

pub high_signed : (low : ℕ) (z : ℤ) → low < 2 ^ 32 → FitsSigned w32 z → signed_of (high_half (word_of_halves low (bits_of z))) ≡ z
high_signed low z below fits = ap signed_of (high-joined low (bits_of z) below) ∙ signed-bits z fits

fits_where_near : (far : ℕ) (v : Vec3) → far < 2 ^ 31 → IsNear far v → Fits v
fits_where_near far v below near = record {
  x = fits_signed_from_abs w32 v.x (omega arith);
  y = fits_signed_from_abs w32 v.y (omega arith);
  z = fits_signed_from_abs w32 v.z (omega arith);
}

byte0 : (a b c : ℕ) → a < 256 → (a + b * 256 + c * 65536) % 256 ≡ a
byte0 a b c below = omega arith

byte1 : (a b c : ℕ) → a < 256 → b < 256 → (a + b * 256 + c * 65536) / 256 % 256 ≡ b
byte1 a b c first second = omega arith

byte2 : (a b c : ℕ) → a < 256 → b < 256 → c < 256 → (a + b * 256 + c * 65536) / 65536 % 256 ≡ c
byte2 a b c first second third = omega arith

pub encoded_is_decoded : EncodedIsDecoded
encoded_is_decoded r state keep player =
    let at = fits_where_near 1048576 r.origin (omega arith) keep.bounds.origin in
    let by = fits_where_near 512000 r.vel (omega arith) keep.bounds.vel in
    let shape : HasCorners _ _ r.mins r.maxs = subst (λ k. IsShapeOf k r.origin r.mins r.maxs) player keep.bounds.shape in
    let x = low_signed r.origin.x (bits_of r.origin.y) at.x in
    let y = high_signed (bits_of r.origin.x) r.origin.y (bits_fit r.origin.x at.x) at.y in
    let z = low_signed r.origin.z (bits_of r.vel.x) at.z in
    let vx = high_signed (bits_of r.origin.z) r.vel.x (bits_fit r.origin.z at.z) by.x in
    let vy = low_signed r.vel.y (bits_of r.vel.z) by.y in
    let vz = high_signed (bits_of r.vel.y) r.vel.z (bits_fit r.vel.y by.y) by.z in
    let score = low-joined r.score r.seq keep.score in
    let seq = high-joined r.score r.seq keep.score in
    let flags = byte0 r.flags r.ammo r.carry (omega (arith, keep.bounds.flags)) in
    let ammo = byte1 r.flags r.ammo r.carry (omega (arith, keep.bounds.flags)) (omega (arith, keep.bounds.ammo)) in
    let carry = byte2 r.flags r.ammo r.carry (omega (arith, keep.bounds.flags)) (omega (arith, keep.bounds.ammo)) (omega (arith, keep.bounds.carry)) in
    rw (x, y, z, vx, vy, vz, score, seq, flags, ammo, carry, ← shape.low_is, ← shape.high_is, ← player) refl
