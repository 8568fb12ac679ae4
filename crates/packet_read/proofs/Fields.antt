-- The fields of a move as bytes, and read back.
use Rattle.std.proofs.Common.{◌≡◌, ℕ, ◌+◌, ◌*◌, ◌/◌, ◌%◌, ◌^◌, ◌<◌, ◌∷◌, refl, arith, []}
use Rattle.std.specs.Prelude.{ℤ, FitsSigned}
use Rattle.std.specs.Int.{w16, cast_signed, cast_unsigned, from_le_bytes, to_le_bytes}
use Rattle.std.proofs.lemmas.Int.{ints, to_z-of_z, of_z-to_z}
use Rattle.std.proofs.lemmas.Nat.{from_le_bytes-to_le_bytes_2, from_le_bytes-to_le_bytes_4}
use Rattle.std.proofs.lemmas.List.Elements.{All-from_recursion}
use Rattle.byte_lists.specs.Bytes.{AreBytes}
use Rattle.packet_read.specs.declared.move_packet.MovePacket.{MovePacket}
use Rattle.packet_read.specs.declared.packet.Packet.TheVariants.{Move}
use Rattle.packet_read.specs.Spelling.{spelling, MoveFits}
use Rattle.packet_read.specs.Reading.{move_in}

-- a wish is read as it was written
pub wish_again : (z : ℤ) → FitsSigned w16 z → cast_signed w16 (from_le_bytes w16 (to_le_bytes w16 (cast_unsigned w16 z))) ≡ z
wish_again z fits = rw (from_le_bytes-to_le_bytes_2 (cast_unsigned w16 z) (omega (arith, ints))) (to_z-of_z w16 z fits)

-- a move is read as it was written
pub move_again : (m : MovePacket) → MoveFits m → move_in (spelling (Move m)) ≡ m
move_again m fits =
    rw (from_le_bytes-to_le_bytes_4 m.seq fits.seq, wish_again m.wish_x fits.wish_x, wish_again m.wish_y fits.wish_y) refl

-- two bytes are those of the wish that they are read as
pub wish_cells : (a b : ℕ) → a < 256 → b < 256 → to_le_bytes w16 (cast_unsigned w16 (cast_signed w16 (from_le_bytes w16 (a ∷ b ∷ [])))) ≡ a ∷ b ∷ []
wish_cells a b ha hb =
    let n = a + b * 256 in
    let fits : n < 2 ^ 16 = omega arith in
    let low : n % 256 ≡ a = omega arith in
    let high : n / 256 % 256 ≡ b = omega arith in
    rw (of_z-to_z w16 n fits, low, high) refl

-- the bytes of a move
pub move-bytes : (m : MovePacket) → m.ms < 256 → m.buttons < 256 → AreBytes (spelling (Move m))
move-bytes m ms buttons =
    All-from_recursion (λ b. b < 256) (spelling (Move m))
    (omega arith, (omega arith, (omega arith, (omega arith, (omega arith, (omega arith, (ms, (omega arith, (omega arith, (omega arith, (omega arith, (buttons, tt))))))))))))
