-- Bytes that break no rule spell the packet that is in them.
use Rattle.std.proofs.Common.{get_or, rules, lit<, ◌∙◌, ◌++◌, ◌≡◌, ℕ, suc, ◌<◌, ◌≤◌, Bool, true, false, cond, List, [], ◌∷◌, length, refl, sym, ap, subst, arith, inl, inr}
use Rattle.std.specs.Int.{w32, from_le_bytes}
use Rattle.packet_read.specs.declared.block_list.CmdBlock.{CmdBlock}
use Rattle.std.specs.Prelude.{zero, take, drop, ◌+◌, ◌-◌, ◌*◌, ◌||◌, min, All, nat_lt, nat_le, ◌==◌, not, ◌&&◌, Option, Some, None, Result, Ok, Err, IfOk}
use Rattle.std.proofs.lemmas.List.{nil_from_length, take_all}
use Rattle.std.proofs.lemmas.Slice.Eq.{text_from_reads}
use Rattle.std.proofs.lemmas.Bool.Decides.{nat_tests}
use Rattle.std.proofs.lemmas.Bool.{false≢true, ltb-false, or_parts, cases_eq}
use Rattle.byte_lists.specs.Bytes.{AreBytes, byte}
use Rattle.byte_lists.proofs.Bytes.{number_cells}
use Rattle.packet_read.specs.declared.packet.Packet.{Packet}
use Rattle.packet_read.specs.declared.packet.Packet.TheVariants.{Join, Move, Leave, Moves}
use Rattle.packet_read.specs.declared.packet_fault.PacketFault.{PacketFault}
use Rattle.packet_read.specs.declared.packet_fault.PacketFault.TheVariants.{Empty, Version, Kind, Short, Long, Time, Buttons, Count}
use Rattle.packet_read.specs.Spelling.{move_fields, IsAllowedBlock, IsAllowedMoves, MoveFits, Spells}
use Rattle.packet_read.specs.Faults.{form_in, blocks_from, breaks, fault_of}
use Rattle.packet_read.specs.Reading.{move_in, moves_in, packet_of, answer, reading}
use Rattle.packet_read.proofs.Fields.{wish_cells}
use Rattle.packet_read.proofs.Blocks.{blocks_spelled, blocks_fit, blocks_allowed, length_blocks}
use Rattle.packet_read.proofs.ManyMoves.{min_is}
use Rattle.packet_read.proofs.Again.{packet_again}

-- the bytes break no rule
pub record Keeps (bytes : List ℕ) : Type 0 where
  pub empty : breaks bytes Empty ≡ false
  pub version : breaks bytes Version ≡ false
  pub kind : breaks bytes Kind ≡ false
  pub short : breaks bytes Short ≡ false
  pub long : breaks bytes Long ≡ false
  pub time : breaks bytes Time ≡ false
  pub buttons : breaks bytes Buttons ≡ false
  pub count : breaks bytes Count ≡ false

-- a rule that is not broken, and those after it
not_broken : (b : Bool) (fault : PacketFault) (others : Option PacketFault) → cond b (Some fault) others ≡ None → (b ≡ false) × (others ≡ None)
not_broken true fault others e = absurd cc
not_broken false fault others e = (refl, e)

-- where there is no cause, no rule is broken
pub keeps : (bytes : List ℕ) → fault_of bytes ≡ None → Keeps bytes
keeps bytes none =
    let a = not_broken (breaks bytes Empty) Empty _ none in
    let b = not_broken (breaks bytes Version) Version _ a.1 in
    let c = not_broken (breaks bytes Kind) Kind _ b.1 in
    let d = not_broken (breaks bytes Short) Short _ c.1 in
    let e = not_broken (breaks bytes Long) Long _ d.1 in
    let f = not_broken (breaks bytes Time) Time _ e.1 in
    let g = not_broken (breaks bytes Buttons) Buttons _ f.1 in
    let h = not_broken (breaks bytes Count) Count _ g.1 in
    record { empty = a.0; version = b.0; kind = c.0; short = d.0; long = e.0; time = f.0; buttons = g.0; count = h.0 }

-- ten bytes, one by one
ten : (xs : List ℕ) → length xs ≡ 10 → xs ≡ byte xs 0 ∷ byte xs 1 ∷ byte xs 2 ∷ byte xs 3 ∷ byte xs 4 ∷ byte xs 5 ∷ byte xs 6 ∷ byte xs 7 ∷ byte xs 8 ∷ byte xs 9 ∷ []
ten xs e =
    text_from_reads xs (byte xs 0 ∷ byte xs 1 ∷ byte xs 2 ∷ byte xs 3 ∷ byte xs 4 ∷ byte xs 5 ∷ byte xs 6 ∷ byte xs 7 ∷ byte xs 8 ∷ byte xs 9 ∷ []) e
    (refl, (refl, (refl, (refl, (refl, (refl, (refl, (refl, (refl, (refl, tt))))))))))

-- the fields of a move after its number and around its wish
joined : (a a' x x' y y' : List ℕ) (ms buttons : ℕ) → a ≡ a' → x ≡ x' → y ≡ y' → a ++ ms ∷ x ++ y ++ buttons ∷ [] ≡ a' ++ ms ∷ x' ++ y' ++ buttons ∷ []
joined a a' x x' y y' ms buttons p q r = cc

-- ten bytes are the fields of the move that they are read as
move_spelled : (xs : List ℕ) → length xs ≡ 10 → ((i : ℕ) → i < 10 → byte xs i < 256) → xs ≡ move_fields (move_in (1 ∷ 2 ∷ xs))
move_spelled xs e below =
    let seq = number_cells (byte xs 0) (byte xs 1) (byte xs 2) (byte xs 3) (below 0 (lit< tt)) (below 1 (lit< tt)) (below 2 (lit< tt)) (below 3 (lit< tt)) in
    let wish_x = wish_cells (byte xs 5) (byte xs 6) (below 5 (lit< tt)) (below 6 (lit< tt)) in
    let wish_y = wish_cells (byte xs 7) (byte xs 8) (below 7 (lit< tt)) (below 8 (lit< tt)) in
    ten xs e ∙ sym (joined _ _ _ _ _ _ (byte xs 4) (byte xs 9) seq wish_x wish_y)

-- the wire fits the types
move_fits : (xs : List ℕ) → ((i : ℕ) → i < 10 → byte xs i < 256) → MoveFits (move_in (1 ∷ 2 ∷ xs))
move_fits xs below = record {
  seq = omega (arith, below 0 (lit< tt), below 1 (lit< tt), below 2 (lit< tt), below 3 (lit< tt));
  ms = below 4 (lit< tt);
  wish_x = search rules;
  wish_y = search rules;
  buttons = below 9 (lit< tt);
}

-- a join or a leave has two bytes
nothing_after : (k : ℕ) (xs : List ℕ) → nat_lt 2 (length (1 ∷ k ∷ xs)) ≡ false → xs ≡ []
nothing_after k xs long =
    let le : length (1 ∷ k ∷ xs) ≤ 2 = ltb-false 2 (length (1 ∷ k ∷ xs)) long in
    nil_from_length xs (omega arith)

join_spelled : (xs : List ℕ) → Keeps (1 ∷ 1 ∷ xs) → Spells (1 ∷ 1 ∷ xs) Join
join_spelled xs kept = record { fits = tt; allowed = tt; spelled = ap (λ (ys : List ℕ). 1 ∷ 1 ∷ ys) (nothing_after 1 xs kept.long) }

leave_spelled : (xs : List ℕ) → Keeps (1 ∷ 3 ∷ xs) → Spells (1 ∷ 3 ∷ xs) Leave
leave_spelled xs kept = record { fits = tt; allowed = tt; spelled = ap (λ (ys : List ℕ). 1 ∷ 3 ∷ ys) (nothing_after 3 xs kept.long) }

move_form_spelled : (xs : List ℕ) → AreBytes (1 ∷ 2 ∷ xs) → Keeps (1 ∷ 2 ∷ xs) → Spells (1 ∷ 2 ∷ xs) (Move (move_in (1 ∷ 2 ∷ xs)))
move_form_spelled xs all kept =
    let short = or_parts (length (1 ∷ 2 ∷ xs) == 1) (nat_lt (length (1 ∷ 2 ∷ xs)) 12) kept.short in
    let least : 12 ≤ length (1 ∷ 2 ∷ xs) = ltb-false (length (1 ∷ 2 ∷ xs)) 12 short.1 in
    let most : length (1 ∷ 2 ∷ xs) ≤ 12 = ltb-false 12 (length (1 ∷ 2 ∷ xs)) kept.long in
    let ten_bytes : length xs ≡ 10 = omega arith in
    let below : (i : ℕ) → i < 10 → byte xs i < 256 = λ i lt. all (suc (suc i)) 0 (omega arith) in
    let time = or_parts (nat_lt (byte xs 4) 1) (nat_lt 50 (byte xs 4)) kept.time in
    record {
      fits = move_fits xs below;
      allowed = record {
        least = ltb-false (byte xs 4) 1 time.0;
        most = ltb-false 50 (byte xs 4) time.1;
        buttons = ltb-false 1 (byte xs 9) kept.buttons;
      };
      spelled = ap (λ (ys : List ℕ). 1 ∷ 2 ∷ ys) (move_spelled xs ten_bytes below);
    }

-- the fields of a packet of version 2
steps_joined : (q q' xs xs' : List ℕ) (n n' : ℕ) → q ≡ q' → n ≡ n' → xs ≡ xs' → 2 ∷ 2 ∷ (q ++ n ∷ xs) ≡ 2 ∷ 2 ∷ (q' ++ n' ∷ xs')
steps_joined q q' xs xs' n n' e f g = cc

-- a number that isn't 0
pub some_of : (n : ℕ) → (n == 0) ≡ false → 1 ≤ n
some_of zero e = absurd (false≢true (sym e))
some_of (suc n) e = omega arith

-- the limits of a packet of version 2 that announces n commands
steps_allowed : (n seq : ℕ) (bs : List CmdBlock) → length bs ≡ n → 1 ≤ n → n ≤ 3 → n - 1 ≤ seq → All IsAllowedBlock bs
    → IsAllowedMoves (record { seq = seq; cmds = bs })
steps_allowed n seq bs e some few numbers blocks = record {
  some = omega (arith, e, some);
  few = omega (arith, e, few);
  numbers = omega (arith, e, numbers);
  blocks = blocks;
}

steps_form_spelled : (xs : List ℕ) → AreBytes (2 ∷ 2 ∷ xs) → Keeps (2 ∷ 2 ∷ xs) → Spells (2 ∷ 2 ∷ xs) (Moves (moves_in (2 ∷ 2 ∷ xs)))
steps_form_spelled [] all kept = absurd (false≢true (sym kept.short))
steps_form_spelled (a ∷ []) all kept = absurd (false≢true (sym kept.short))
steps_form_spelled (a ∷ b ∷ []) all kept = absurd (false≢true (sym kept.short))
steps_form_spelled (a ∷ b ∷ c ∷ []) all kept = absurd (false≢true (sym kept.short))
steps_form_spelled (a ∷ b ∷ c ∷ d ∷ []) all kept = absurd (false≢true (sym kept.short))
steps_form_spelled (a ∷ b ∷ c ∷ d ∷ n ∷ xs) all kept =
    let bytes = 2 ∷ 2 ∷ a ∷ b ∷ c ∷ d ∷ n ∷ xs in
    let seq = from_le_bytes w32 (a ∷ b ∷ c ∷ d ∷ []) in
    let short = or_parts (length bytes == 1) (nat_lt (length bytes) (7 + 6 * min n 3)) kept.short in
    let least : 7 + 6 * min n 3 ≤ length bytes = ltb-false (length bytes) (7 + 6 * min n 3) short.1 in
    let most : length bytes ≤ 7 + 6 * min n 3 = ltb-false (7 + 6 * min n 3) (length bytes) kept.long in
    let whole : length xs ≡ 6 * min n 3 = omega (arith, least, most) in
    let count = or_parts (n == 0) (nat_lt 3 n || nat_lt seq (n - 1)) kept.count in
    let above = or_parts (nat_lt 3 n) (nat_lt seq (n - 1)) count.1 in
    let few : n ≤ 3 = ltb-false 3 n above.0 in
    let many : length (blocks_from (min n 3) xs) ≡ n = length_blocks (min n 3) xs ∙ min_is n few in
    let is_a : a < 256 = all 2 0 (omega arith) in
    let is_b : b < 256 = all 3 0 (omega arith) in
    let is_c : c < 256 = all 4 0 (omega arith) in
    let is_d : d < 256 = all 5 0 (omega arith) in
    let bytes_after : AreBytes xs = λ k z lt. all (suc (suc (suc (suc (suc (suc (suc k))))))) z (omega (arith, lt)) in
    record {
      fits = record {
        seq = omega (arith, is_a, is_b, is_c, is_d);
        blocks = blocks_fit (min n 3) xs whole bytes_after;
      };
      allowed = steps_allowed n seq (blocks_from (min n 3) xs) many (some_of n count.0) few (ltb-false seq (n - 1) above.1)
          (blocks_allowed (blocks_from (min n 3) xs) kept.time kept.buttons);
      spelled = sym (steps_joined _ _ _ _ _ _
          (number_cells a b c d is_a is_b is_c is_d) many (blocks_spelled (min n 3) xs whole bytes_after));
    }

-- after version 1 a kind is 1, 2 or 3, after version 2 it is 2
kind_is : (k n : ℕ) → nat_le 2 n && not (nat_le 1 k && nat_le k 3) ≡ false → 2 ≤ n → (1 ≤ k) × (k ≤ 3)
kind_is k n e two = grind (arith, nat_tests)

kind_2_is : (k n : ℕ) → nat_le 2 n && not (k == 2) ≡ false → 2 ≤ n → k ≡ 2
kind_2_is k n e two = grind (arith, nat_tests)

-- what is said of one number holds of an equal one
abbrev IsSpelledAfter : List ℕ → ℕ → ℕ → Type 0
IsSpelledAfter xs v k = AreBytes (v ∷ k ∷ xs) → Keeps (v ∷ k ∷ xs) → Spells (v ∷ k ∷ xs) (packet_of (form_in (v ∷ k ∷ xs)) (v ∷ k ∷ xs))

kind_spelled : (k : ℕ) (xs : List ℕ) → IsSpelledAfter xs 1 k
kind_spelled k xs all kept =
    let kind = kind_is k (length (1 ∷ k ∷ xs)) kept.kind (omega arith) in
    elim (cases_eq k 1) [
      | inl e ↦ subst (IsSpelledAfter xs 1) (sym e) (λ _ kept. join_spelled xs kept) all kept
      | inr not_join ↦ elim (cases_eq k 2) [
        | inl e ↦ subst (IsSpelledAfter xs 1) (sym e) (move_form_spelled xs) all kept
        | inr not_move ↦
            let e : k ≡ 3 = omega arith in
            subst (IsSpelledAfter xs 1) (sym e) (λ _ kept. leave_spelled xs kept) all kept
      ]
    ]

kind_2_spelled : (k : ℕ) (xs : List ℕ) → IsSpelledAfter xs 2 k
kind_2_spelled k xs all kept =
    let e : k ≡ 2 = kind_2_is k (length (2 ∷ k ∷ xs)) kept.kind (omega arith) in
    subst (IsSpelledAfter xs 2) (sym e) (steps_form_spelled xs) all kept

-- a version is 1 or 2
version_is : (v : ℕ) → not ((v == 1) || (v == 2)) ≡ false → (v ≡ 2 → ⊥) → v ≡ 1
version_is v e other = grind (arith, nat_tests)

-- bytes that break no rule spell the packet that is in them
pub kept_spelled : (bytes : List ℕ) → AreBytes bytes → Keeps bytes → Spells bytes (packet_of (form_in bytes) bytes)
kept_spelled [] all kept = absurd (false≢true (sym kept.empty))
kept_spelled (v ∷ []) all kept = absurd (false≢true (sym kept.short))
kept_spelled (v ∷ k ∷ xs) all kept = elim (cases_eq v 2) [
  | inl e ↦ subst (λ (w : ℕ). IsSpelledAfter xs w k) (sym e) (kind_2_spelled k xs) all kept
  | inr other ↦
      let e : v ≡ 1 = version_is v kept.version other in
      subst (λ (w : ℕ). IsSpelledAfter xs w k) (sym e) (kind_spelled k xs) all kept
]

-- bytes that begin with a number, and those after it
pub headed : (k : ℕ) (bytes : List ℕ) → 1 ≤ k → get_or bytes 0 0 ≡ k → bytes ≡ k ∷ take (length bytes - 1) (drop 1 bytes)
headed k [] some e = absurd (omega (arith, some, e))
headed k (x ∷ xs) some e =
    let all : take (length (x ∷ xs) - 1) xs ≡ xs = take_all (length (x ∷ xs) - 1) xs (omega arith) in
    rw (all, e) refl

-- an answer that is a packet
answered_ok : (found : Option PacketFault) (q p : Packet) → answer found q ≡ Ok p → (found ≡ None) × (q ≡ p)
answered_ok None q p e = (refl, cc)
answered_ok (Some fault) q p e = absurd cc

-- an answer that is a fault
answered_err : (found : Option PacketFault) (q : Packet) (fault : PacketFault) → answer found q ≡ Err fault → found ≡ Some fault
answered_err None q fault e = absurd cc
answered_err (Some other) q fault e = cc

-- what bytes are read as, they spell
pub read_spells : (bytes : List ℕ) → AreBytes bytes → (p : Packet) → reading bytes ≡ Ok p → Spells bytes p
read_spells bytes all p e =
    let parts = answered_ok (fault_of bytes) (packet_of (form_in bytes) bytes) p e in
    subst (λ (q : Packet). Spells bytes q) parts.1 (kept_spelled bytes all (keeps bytes parts.0))

-- the same of a result
pub found_spells : (bytes : List ℕ) (r : Result Packet PacketFault) → AreBytes bytes → r ≡ reading bytes → IfOk r (λ p. Spells bytes p)
found_spells bytes (Ok p) all e = read_spells bytes all p (sym e)
found_spells bytes (Err fault) all e = tt

-- bytes are read as what they spell
pub spelled_read : (bytes : List ℕ) (p : Packet) → Spells bytes p → reading bytes ≡ Ok p
spelled_read bytes p s = ap reading s.spelled ∙ packet_again p s.fits s.allowed

-- bytes are read as a fault exactly where it is their cause
pub read_fault : (bytes : List ℕ) (fault : PacketFault) → reading bytes ≡ Err fault → fault_of bytes ≡ Some fault
read_fault bytes fault e = answered_err (fault_of bytes) (packet_of (form_in bytes) bytes) fault e

pub fault_read : (bytes : List ℕ) (fault : PacketFault) → fault_of bytes ≡ Some fault → reading bytes ≡ Err fault
fault_read bytes fault e = ap (λ (found : Option PacketFault). answer found (packet_of (form_in bytes) bytes)) e

-- bytes that spell a packet have no cause
pub spelled_no_fault : (bytes : List ℕ) (p : Packet) → Spells bytes p → fault_of bytes ≡ None
spelled_no_fault bytes p s = (answered_ok (fault_of bytes) (packet_of (form_in bytes) bytes) p (spelled_read bytes p s)).0
