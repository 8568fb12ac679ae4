use Rattle.std.proofs.Common.{◌≡◌, List, ◌++◌, ℕ, append_assoc, rules}
use Rattle.std.specs.Int.{w16, cast_unsigned, to_le_bytes}
use Rattle.packet_read.proofs.writing.append_move.Goals as goal

-- six lists put last, one after the other
in_turn : (a b c d e f g p q r s t u : List ℕ)
    → b ≡ a ++ p
    → c ≡ b ++ q
    → d ≡ c ++ r
    → e ≡ d ++ s
    → f ≡ e ++ t
    → g ≡ f ++ u
    → g ≡ a ++ (p ++ (q ++ (r ++ (s ++ (t ++ u)))))
in_turn a b c d e f g p q r s t u eb ec ed ee ef eg = rw (eg, ef, ee, ed, ec, eb) (simp append_assoc)

pub returns-clause-appended : goal.returns-clause-appended
returns-clause-appended c =
    let packet = c.args.packet in
    let wish_x : c.to_le_bytes-2.result ≡ to_le_bytes w16 (cast_unsigned w16 packet.wish_x) = search rules in
    let wish_y : c.to_le_bytes-3.result ≡ to_le_bytes w16 (cast_unsigned w16 packet.wish_y) = search rules in
    in_turn _ _ _ _ _ _ _ _ _ _ _ _ _
    c.extend.ensures
    (rw c.to_le_bytes.ensures at c.extend-2.ensures)
    c.extend-3.ensures
    (rw wish_x at c.extend-4.ensures)
    (rw wish_y at c.extend-5.ensures)
    c.extend-6.ensures
