-- The numbers of the commands of a packet.
use Rattle.std.proofs.Common.{◌≡◌, ℕ, zero, suc, ◌+◌, List, [], ◌∷◌, length, refl, ap, arith}
use Rattle.std.specs.Prelude.{option_map}
use Rattle.std.specs.List.{slice_get}
use Rattle.packet_read.specs.declared.block_list.CmdBlock.{CmdBlock}
use Rattle.packet_read.specs.Commands.{move_with_number, moves_numbered_from}

pub length-numbered : (n : ℕ) (bs : List CmdBlock) → length (moves_numbered_from n bs) ≡ length bs
length-numbered n [] = refl
length-numbered n (b ∷ more) = ap suc (length-numbered (n + 1) more)

pub numbered-at : (n : ℕ) (bs : List CmdBlock) (i : ℕ) → slice_get (moves_numbered_from n bs) i ≡ option_map (move_with_number (n + i)) (slice_get bs i)
numbered-at n [] i = refl
numbered-at n (b ∷ more) zero =
    let same : n + 0 ≡ n = omega arith in
    rw same refl
numbered-at n (b ∷ more) (suc i) =
    let same : n + suc i ≡ n + 1 + i = omega arith in
    rw same (numbered-at (n + 1) more i)
