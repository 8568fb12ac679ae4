-- What the bytes of a packet of version 2 are read as.
use Rattle.std.proofs.Common.{◌≡◌, ◌∙◌, ℕ, ◌+◌, ◌*◌, ◌≤◌, Bool, false, cond, List, [], ◌∷◌, length, refl, ap, arith}
use Rattle.std.specs.Prelude.{◌-◌, min, nat_lt, nat_le, ◌==◌, flat_map, Option, Some, None, Ok}
use Rattle.std.specs.Int.{w32, from_le_bytes, to_le_bytes}
use Rattle.std.proofs.lemmas.Bool.{le-ltb, ne_eqb, or_from, and_right}
use Rattle.std.proofs.lemmas.Nat.{from_le_bytes-to_le_bytes_4}
use Rattle.byte_lists.specs.Bytes.{byte}
use Rattle.packet_read.specs.declared.block_list.CmdBlock.{CmdBlock}
use Rattle.packet_read.specs.declared.moves_packet.MovesPacket.{MovesPacket}
use Rattle.packet_read.specs.declared.packet.Packet.{Packet}
use Rattle.packet_read.specs.declared.packet.Packet.TheVariants.{Moves}
use Rattle.packet_read.specs.declared.packet_fault.PacketFault.{PacketFault}
use Rattle.packet_read.specs.declared.packet_fault.PacketFault.TheVariants.{Empty, Version, Kind, Short, Long, Time, Buttons, Count}
use Rattle.packet_read.specs.Spelling.{spelling, block_fields, IsAllowedMoves, MovesFit}
use Rattle.packet_read.specs.Faults.{blocks_from, is_wrong_count, block_fault_of}
use Rattle.packet_read.specs.Reading.{answer, reading}
use Rattle.packet_read.proofs.Blocks.{blocks_again, length_fields, times_kept, buttons_kept}

-- ---- the first rule that is broken, by whether each is

-- the three rules before the length hold, there are enough bytes, and the rest decides
after_short : (e v k s : Bool) (rest : Option PacketFault) → e ≡ false → v ≡ false → k ≡ false → s ≡ false
    → cond e (Some Empty) (cond v (Some Version) (cond k (Some Kind) (cond s (Some Short) rest))) ≡ rest
after_short e v k s rest he hv hk hs = rw (he, hv, hk, hs) refl

later_of : (b : Bool) (fault : PacketFault) (rest : Option PacketFault) → b ≡ false → cond b (Some fault) rest ≡ rest
later_of b fault rest e = rw e refl

none_of : (t u c : Bool) → t ≡ false → u ≡ false → c ≡ false → cond t (Some Time) (cond u (Some Buttons) (cond c (Some Count) None)) ≡ None
none_of t u c ht hu hc = rw (ht, hu, hc) refl

-- ---- their bytes after version and kind

module _ (a b c d n : ℕ) (xs : List ℕ) where
  abbrev bytes : List ℕ
  bytes = 2 ∷ 2 ∷ a ∷ b ∷ c ∷ d ∷ n ∷ xs

  abbrev packet : Packet
  packet = Moves (record { seq = from_le_bytes w32 (a ∷ b ∷ c ∷ d ∷ []); cmds = blocks_from (min n 3) xs })

  empty : (length bytes == 0) ≡ false
  empty = ne_eqb (length bytes) 0 (λ e. omega (arith, e))

  not_one : (length bytes == 1) ≡ false
  not_one = ne_eqb (length bytes) 1 (λ e. omega (arith, e))

  -- as many as the commands take
  pub steps_read : length xs ≡ 6 * min n 3
      → reading bytes
      ≡ answer
      (block_fault_of (blocks_from (min n 3) xs) n (from_le_bytes w32 (a ∷ b ∷ c ∷ d ∷ [])))
      (Moves (record { seq = from_le_bytes w32 (a ∷ b ∷ c ∷ d ∷ []); cmds = blocks_from (min n 3) xs }))
  steps_read e =
      let short = or_from (length bytes == 1) _ not_one (le-ltb (length bytes) (7 + 6 * min n 3) (omega (arith, e))) in
      let long = le-ltb (7 + 6 * min n 3) (length bytes) (omega (arith, e)) in
      ap (λ (found : Option PacketFault). answer found packet)
      (after_short _ _ _ _ _ empty refl (and_right (nat_le 2 (length bytes)) false refl) short ∙ later_of _ Long _ long)

-- ---- read as it was written

-- a number of at most 3 is not cut
pub min_is : (n : ℕ) → n ≤ 3 → min n 3 ≡ n
min_is n le = omega (arith, le)

-- the number of commands keeps its rule
count_kept : (n seq : ℕ) → 1 ≤ n → n ≤ 3 → n ≤ seq + 1 → is_wrong_count n seq ≡ false
count_kept n seq some few numbers =
    or_from (n == 0) _ (ne_eqb n 0 (λ e. omega (arith, e, some)))
    (or_from (nat_lt 3 n) _ (le-ltb 3 n few) (le-ltb seq (n - 1) (omega (arith, numbers))))

-- what equal parts are read as
read_as : (bs cmds : List CmdBlock) (n read seq : ℕ) → bs ≡ cmds → read ≡ seq → block_fault_of cmds n seq ≡ None
    → answer (block_fault_of bs n read) (Moves (record { seq = read; cmds = bs })) ≡ Ok (Moves (record { seq = seq; cmds = cmds }))
read_as bs cmds n read seq e f none =
    rw (e, f) (ap (λ (found : Option PacketFault). answer found (Moves (record { seq = seq; cmds = cmds }))) none)

-- a packet of version 2 is read as it was written
pub moves_again : (s : MovesPacket) → MovesFit s → IsAllowedMoves s → reading (spelling (Moves s)) ≡ Ok (Moves s)
moves_again s fits allowed =
    let cmds = s.cmds in
    let few = min_is (length cmds) allowed.few in
    let numbers = to_le_bytes w32 s.seq in
    let whole : length (flat_map block_fields cmds) ≡ 6 * min (length cmds) 3 = rw few (length_fields cmds) in
    let blocks : blocks_from (min (length cmds) 3) (flat_map block_fields cmds) ≡ cmds = rw few (blocks_again cmds fits.blocks) in
    let none : block_fault_of cmds (length cmds) s.seq ≡ None =
    none_of _ _ _ (times_kept cmds allowed.blocks) (buttons_kept cmds allowed.blocks)
    (count_kept (length cmds) s.seq allowed.some allowed.few allowed.numbers)
    in
    steps_read (byte numbers 0) (byte numbers 1) (byte numbers 2) (byte numbers 3) (length cmds) (flat_map block_fields cmds) whole
    ∙ read_as _ cmds (length cmds) _ s.seq blocks (from_le_bytes-to_le_bytes_4 s.seq fits.seq) none
