-- Bytes that break no rule spell the snapshot that is in them.
use Rattle.std.proofs.Common.{◌≡◌, ℕ, zero, suc, ◌+◌, ◌*◌, ◌^◌, ◌<◌, ◌≤◌, ◌==◌, Bool, true, false, ◌&&◌, ◌||◌, not, cond, List, [], ◌∷◌, ◌++◌, length, map, take, drop, flat_map, Option, Some, None, refl, ap, sym, ◌∙◌, subst, arith, rules, length-drop, length-take-le}
use Rattle.std.specs.Prelude.{nat_le, nat_lt, Result, Ok, Err, IfOk}
use Rattle.std.specs.Int.{w16, w32, to_le_bytes}
use Rattle.std.specs.List.{list_any}
use Rattle.std.specs.Simd.{first_chunks}
use Rattle.std.proofs.lemmas.Bool.{ltb-false, eqb-true, not-false, or_parts}
use Rattle.std.proofs.lemmas.Bool.Decides.{nat_tests}
use Rattle.std.proofs.lemmas.List.{length-map, nil_from_length, take-append-drop, get_or-take, get_or-drop}
use Rattle.arena_geo.specs.Vectors.{Fits}
use Rattle.entity_recs.specs.Kinds.{number_of, is_item}
use Rattle.entity_recs.specs.declared.limits.TheConstants.{IDS}
use Rattle.byte_lists.specs.Bytes.{AreBytes, byte}
use Rattle.snapshot_write.specs.declared.seen.TheConstants.{MOST_SEEN}
use Rattle.snapshot_write.specs.declared.snapshot.Snapshot.{Snapshot}
use Rattle.snapshot_write.specs.declared.snap_fault.SnapFault.{SnapFault}
use Rattle.snapshot_write.specs.declared.snap_fault.SnapFault.TheVariants.{Short, Version, Order, Count, Long}
use Rattle.snapshot_write.specs.Snapshots.{vector_bytes, own_bytes}
use Rattle.snapshot_write.specs.Fields.{number_at, vector_at, count_in, length_with, blocks_in, id_in, kind_of}
use Rattle.snapshot_write.specs.Faults.{are_rising, have_id, is_kind, has_wrong_own, has_wrong_field, has_wrong_blocks, breaks, fault_of}
use Rattle.snapshot_write.specs.Reading.{own_in, seen_in, snapshot_in, answer, reading}
use Rattle.snapshot_write.specs.Spelling.{status_of, block_of, spelling, IsOwn, IsSeen, AreSeen, ids_of, is_rising, IsSnapshot, Spells}
use Rattle.snapshot_write.proofs.Fields.{AreBytesBelow, one_at, short_spelled, number_spelled, vector_spelled, kind_cell, status_cell}
use Rattle.snapshot_write.proofs.Blocks.{list_any-map, rising_blocks}
use Rattle.snapshot_write.proofs.Again.{snapshot_again}

-- the bytes break no rule
pub record Keeps (bytes : List ℕ) : Type 0 where
  pub short : breaks bytes Short ≡ false
  pub version : breaks bytes Version ≡ false
  pub order : breaks bytes Order ≡ false
  pub count : breaks bytes Count ≡ false
  pub long : breaks bytes Long ≡ false

-- a rule that is not broken, and those after it
not_broken : (b : Bool) (fault : SnapFault) (others : Option SnapFault) → cond b (Some fault) others ≡ None
    → (b ≡ false) × (others ≡ None)
not_broken true fault others e = absurd cc
not_broken false fault others e = (refl, e)

-- where there is no cause, no rule is broken
pub keeps : (bytes : List ℕ) → fault_of bytes ≡ None → Keeps bytes
keeps bytes none =
    let a = not_broken (breaks bytes Short) Short _ none in
    let b = not_broken (breaks bytes Version) Version _ a.1 in
    let c = not_broken (breaks bytes Order) Order _ b.1 in
    let d = not_broken (breaks bytes Count) Count _ c.1 in
    let e = not_broken (breaks bytes Long) Long _ d.1 in
    record { short = a.0; version = b.0; order = c.0; count = d.0; long = e.0 }

-- ---- one block

-- a block has no wrong field
record IsRightBlock (block : List ℕ) : Type 0 where
  id : id_in block < IDS
  kind : byte block 2 ≤ 5
  status : byte block 3 ≤ 1
  here : ((byte block 3 == 0) && not (is_item (kind_of (byte block 2)))) ≡ false

right_block : (block : List ℕ) → has_wrong_field block ≡ false → IsRightBlock block
right_block block right =
    let last = or_parts _ ((byte block 3 == 0) && not (is_item (kind_of (byte block 2)))) right in
    let third = or_parts _ (nat_lt 1 (byte block 3)) last.0 in
    let second = or_parts (nat_le IDS (id_in block)) (not (is_kind (byte block 2))) third.0 in
    record {
      id = grind (arith, nat_tests, second.0);
      kind = grind (arith, nat_tests, second.1);
      status = ltb-false 1 (byte block 3) third.1;
      here = last.1;
    }

-- it is that of its entity
block_spelled : (block : List ℕ) → length block ≡ 16 → AreBytesBelow block (length block) → has_wrong_field block ≡ false
    → block ≡ block_of (seen_in block)
block_spelled block sixteen below right =
    let is = right_block block right in
    let kind = one_at block 2 (omega (arith, sixteen)) in
    let status = one_at block 3 (omega (arith, sixteen)) in
    let origin = vector_spelled block 4 (omega (arith, sixteen)) below in
    let nothing : drop 16 block ≡ [] = nil_from_length (drop 16 block) (length-drop 16 block ∙ omega (arith, sixteen)) in
    let tail = origin ∙ ap (λ l. vector_bytes (vector_at block 4) ++ l) nothing in
    short_spelled block 0 (omega (arith, sixteen)) below
    ∙ ap (λ l. to_le_bytes w16 (id_in block) ++ l)
    (kind ∙ ap (λ l. byte block 2 ∷ l) (status ∙ ap (λ l. byte block 3 ∷ l) tail)
    ∙ numbers (byte block 2) (byte block 3) (number_of (kind_of (byte block 2))) (status_of (byte block 3 == 1))
    (vector_bytes (vector_at block 4)) (kind_cell (byte block 2) is.kind) (status_cell (byte block 3) is.status))
  where
    numbers : (a b k s : ℕ) (l : List ℕ) → k ≡ a → s ≡ b → a ∷ b ∷ l ≡ k ∷ s ∷ l
    numbers a b k s l e f = cc

-- what isn't there is an item
item_of : (status : ℕ) (item : Bool) → status ≤ 1 → ((status == 0) && not item) ≡ false → ((status == 1) || item) ≡ true
item_of zero true one e = refl
item_of zero false one e = absurd cc
item_of (suc zero) item one e = refl
item_of (suc (suc n)) item one e = absurd (omega arith)

-- three numbers that are read with a sign are of 32 bits
vector_fits : (bytes : List ℕ) (i : ℕ) → i + 12 ≤ length bytes → AreBytesBelow bytes (length bytes) → Fits (vector_at bytes i)
vector_fits bytes i inside below = record { x = search rules; y = search rules; z = search rules }

block_seen : (block : List ℕ) → length block ≡ 16 → AreBytesBelow block (length block) → has_wrong_field block ≡ false
    → IsSeen (seen_in block)
block_seen block sixteen below right =
    let is = right_block block right in
    record {
      id = is.id;
      origin = vector_fits block 4 (omega (arith, sixteen)) below;
      here = item_of (byte block 3) (is_item (kind_of (byte block 2))) is.status is.here;
    }

-- ---- all blocks

-- a front of bytes, and what comes after it
below_take : (n : ℕ) (xs : List ℕ) → AreBytesBelow xs (length xs) → n ≤ length xs
    → AreBytesBelow (take n xs) (length (take n xs))
below_take n xs below le i inside =
    let same : length (take n xs) ≡ n = length-take-le n xs le in
    let before : i < n = omega (arith, same) in
    rw (get_or-take n xs i 0 before) (below i (omega (arith, before)))

below_drop : (n : ℕ) (xs : List ℕ) → AreBytesBelow xs (length xs) → AreBytesBelow (drop n xs) (length (drop n xs))
below_drop n xs below i inside =
    let same = length-drop n xs in
    rw (get_or-drop n xs i 0) (below (n + i) (omega (arith, same)))

-- there are as many blocks as are asked for
length-chunks : {X : Type 0} (n k : ℕ) (xs : List X) → length (first_chunks n k xs) ≡ k
length-chunks n zero xs = refl
length-chunks n (suc k) xs = let rest = length-chunks n k (drop n xs) in omega (arith, rest)

-- blocks are those of their entities
record AreSpelled (n : ℕ) (xs : List ℕ) : Type 0 where
  spelled : xs ≡ flat_map block_of (map seen_in (first_chunks 16 n xs))
  seen : AreSeen (map seen_in (first_chunks 16 n xs))

blocks_spelled : (n : ℕ) (xs : List ℕ) → length xs ≡ 16 * n → AreBytesBelow xs (length xs)
    → list_any has_wrong_field (first_chunks 16 n xs) ≡ false → AreSpelled n xs
blocks_spelled zero xs long below right = record { spelled = nil_from_length xs (omega (arith, long)); seen = tt }
blocks_spelled (suc n) xs long below right =
    let block = take 16 xs in
    let parts = or_parts (has_wrong_field block) (list_any has_wrong_field (first_chunks 16 n (drop 16 xs))) right in
    let sixteen : length block ≡ 16 = length-take-le 16 xs (omega (arith, long)) in
    let rest_long : length (drop 16 xs) ≡ 16 * n = length-drop 16 xs ∙ omega (arith, long) in
    let bytes = below_take 16 xs below (omega (arith, long)) in
    let rest = blocks_spelled n (drop 16 xs) rest_long (below_drop 16 xs below) parts.1 in
    record {
      spelled =
          sym (take-append-drop 16 xs)
          ∙ ap (λ l. l ++ drop 16 xs) (block_spelled block sixteen bytes parts.0)
          ∙ ap (λ l. block_of (seen_in block) ++ l) rest.spelled;
      seen = (block_seen block sixteen bytes parts.0, rest.seen);
    }

-- the ids of the entities are those of the blocks
ids_are : (blocks : List (List ℕ)) → ids_of (map seen_in blocks) ≡ map id_in blocks
ids_are [] = refl
ids_are (b ∷ blocks) = ap (λ l. id_in b ∷ l) (ids_are blocks)

-- ---- the player's own bytes

-- four bytes are a number of 32 bits
number_fits : (bytes : List ℕ) (i : ℕ) → i + 4 ≤ length bytes → AreBytesBelow bytes (length bytes) → number_at bytes i < 2 ^ 32
number_fits bytes i inside below =
    omega (arith, below i (omega arith), below (i + 1) (omega arith), below (i + 2) (omega arith), below (i + 3) (omega arith))

own_spelled : (bytes : List ℕ) → 43 ≤ length bytes → AreBytesBelow bytes (length bytes) → byte bytes 0 ≡ 1
    → bytes ≡ own_bytes (number_at bytes 1) (own_in bytes) ++ drop 41 bytes
own_spelled bytes long below version =
    let seq = number_spelled bytes 37 (omega (arith, long)) below in
    let score = number_spelled bytes 33 (omega (arith, long)) below ∙ ap (λ l. to_le_bytes w32 (number_at bytes 33) ++ l) seq in
    let carry = one_at bytes 32 (omega (arith, long)) ∙ ap (λ l. byte bytes 32 ∷ l) score in
    let ammo = one_at bytes 31 (omega (arith, long)) ∙ ap (λ l. byte bytes 31 ∷ l) carry in
    let flags = one_at bytes 30 (omega (arith, long)) ∙ ap (λ l. byte bytes 30 ∷ l) ammo in
    let vel = vector_spelled bytes 18 (omega (arith, long)) below ∙ ap (λ l. vector_bytes (vector_at bytes 18) ++ l) flags in
    let origin = vector_spelled bytes 6 (omega (arith, long)) below ∙ ap (λ l. vector_bytes (vector_at bytes 6) ++ l) vel in
    let slot = one_at bytes 5 (omega (arith, long)) ∙ ap (λ l. byte bytes 5 ∷ l) origin in
    let frame = number_spelled bytes 1 (omega (arith, long)) below ∙ ap (λ l. to_le_bytes w32 (number_at bytes 1) ++ l) slot in
    one_at bytes 0 (omega (arith, long)) ∙ ap (λ b. b ∷ drop 1 bytes) version ∙ ap (λ l. 1 ∷ l) frame

own_right : (bytes : List ℕ) → 43 ≤ length bytes → AreBytesBelow bytes (length bytes) → has_wrong_own bytes ≡ false
    → IsOwn (own_in bytes)
own_right bytes long below right =
    let carry = or_parts _ (nat_lt 8 (byte bytes 32)) right in
    let ammo = or_parts _ (nat_lt 100 (byte bytes 31)) carry.0 in
    let slot = or_parts (nat_lt 63 (byte bytes 5)) (nat_lt 3 (byte bytes 30)) ammo.0 in
    record {
      slot = ltb-false 63 (byte bytes 5) slot.0;
      kind = refl;
      origin = vector_fits bytes 6 (omega (arith, long)) below;
      body = record { low_is = refl; high_is = refl };
      vel = vector_fits bytes 18 (omega (arith, long)) below;
      flags = ltb-false 3 (byte bytes 30) slot.1;
      ammo = ltb-false 100 (byte bytes 31) ammo.1;
      carry = ltb-false 8 (byte bytes 32) carry.1;
      score = number_fits bytes 33 (omega (arith, long)) below;
      seq = number_fits bytes 37 (omega (arith, long)) below;
      state = refl;
    }

-- ---- the whole

-- bytes that break no rule spell the snapshot that is in them
pub kept_spelled : (bytes : List ℕ) → AreBytesBelow bytes (length bytes) → Keeps bytes → Spells bytes (snapshot_in bytes)
kept_spelled bytes below kept =
    let count = count_in bytes in
    let body = drop 43 bytes in
    let seen = map seen_in (blocks_in bytes) in
    let short = or_parts (nat_lt (length bytes) 43) (nat_lt (length bytes) (length_with count)) kept.short in
    let least : 43 ≤ length bytes = ltb-false (length bytes) 43 short.0 in
    let enough : length_with count ≤ length bytes = ltb-false (length bytes) (length_with count) short.1 in
    let most : length bytes ≤ length_with count = ltb-false (length_with count) (length bytes) kept.long in
    let version : byte bytes 0 ≡ 1 = eqb-true (byte bytes 0) 1 (not-false (byte bytes 0 == 1) kept.version) in
    let order = or_parts (not (are_rising (blocks_in bytes))) (have_id (byte bytes 5) (blocks_in bytes)) kept.order in
    let fields = or_parts (has_wrong_own bytes) (has_wrong_blocks (blocks_in bytes)) kept.count in
    let blocks = or_parts (nat_lt MOST_SEEN (length (blocks_in bytes))) (list_any has_wrong_field (blocks_in bytes)) fields.1 in
    let long : length body ≡ 16 * count = length-drop 43 bytes ∙ omega (arith, enough, most) in
    let spelled = blocks_spelled count body long (below_drop 43 bytes below) blocks.1 in
    let ids = ids_are (blocks_in bytes) in
    let as_many : length seen ≡ count = length-map (blocks_in bytes) seen_in ∙ length-chunks 16 count body in
    record {
      in_range = record {
        frame = number_fits bytes 1 (omega (arith, least)) below;
        own = own_right bytes least below fields.0;
        count = rw (length-map (blocks_in bytes) seen_in) (ltb-false MOST_SEEN (length (blocks_in bytes)) blocks.0);
        seen = spelled.seen;
        rising = ap is_rising ids ∙ sym (rising_blocks (blocks_in bytes)) ∙ not-false (are_rising (blocks_in bytes)) order.0;
        others = ap (list_any (λ id. id == byte bytes 5)) ids ∙ list_any-map (λ id. id == byte bytes 5) id_in (blocks_in bytes) ∙ order.1;
      };
      spelled =
          own_spelled bytes least below version
          ∙ ap (λ l. own_bytes (number_at bytes 1) (own_in bytes) ++ l)
          (short_spelled bytes 41 least below
          ∙ ap (λ l. to_le_bytes w16 count ++ l) spelled.spelled
          ∙ ap (λ n. to_le_bytes w16 n ++ flat_map block_of seen) (sym as_many));
    }

-- and bytes are below 256 at each index
pub below_are : (bytes : List ℕ) → AreBytes bytes → AreBytesBelow bytes (length bytes)
below_are bytes all i inside = all i 0 inside

-- an answer that is a snapshot
answered_ok : (found : Option SnapFault) (s t : Snapshot) → answer found s ≡ Ok t → (found ≡ None) × (s ≡ t)
answered_ok None s t e = (refl, cc)
answered_ok (Some fault) s t e = absurd cc

-- an answer that is a fault
answered_err : (found : Option SnapFault) (s : Snapshot) (fault : SnapFault) → answer found s ≡ Err fault → found ≡ Some fault
answered_err None s fault e = absurd cc
answered_err (Some other) s fault e = cc

-- what bytes are read as, they spell
pub read_spells : (bytes : List ℕ) → AreBytes bytes → (s : Snapshot) → reading bytes ≡ Ok s → Spells bytes s
read_spells bytes all s e =
    let parts = answered_ok (fault_of bytes) (snapshot_in bytes) s e in
    subst (λ (t : Snapshot). Spells bytes t) parts.1 (kept_spelled bytes (below_are bytes all) (keeps bytes parts.0))

-- the same of a result
pub found_spells : (bytes : List ℕ) (r : Result Snapshot SnapFault) → AreBytes bytes → r ≡ reading bytes
    → IfOk r (λ s. Spells bytes s)
found_spells bytes (Ok s) all e = read_spells bytes all s (sym e)
found_spells bytes (Err fault) all e = tt

-- bytes are read as what they spell
pub spelled_read : (bytes : List ℕ) (s : Snapshot) → Spells bytes s → reading bytes ≡ Ok s
spelled_read bytes s spells = ap reading spells.spelled ∙ snapshot_again s spells.in_range

-- bytes are read as a fault exactly where it is their cause
pub read_fault : (bytes : List ℕ) (fault : SnapFault) → reading bytes ≡ Err fault → fault_of bytes ≡ Some fault
read_fault bytes fault e = answered_err (fault_of bytes) (snapshot_in bytes) fault e

pub fault_read : (bytes : List ℕ) (fault : SnapFault) → fault_of bytes ≡ Some fault → reading bytes ≡ Err fault
fault_read bytes fault e = ap (λ (found : Option SnapFault). answer found (snapshot_in bytes)) e

-- bytes that spell a snapshot have no cause
pub spelled_no_fault : (bytes : List ℕ) (s : Snapshot) → Spells bytes s → fault_of bytes ≡ None
spelled_no_fault bytes s spells = (answered_ok (fault_of bytes) (snapshot_in bytes) s (spelled_read bytes s spells)).0

-- snapshots with one spelling are one
pub same_spelling : (s t : Snapshot) → IsSnapshot s → IsSnapshot t → spelling s ≡ spelling t → s ≡ t
same_spelling s t is also same =
    let e : reading (spelling s) ≡ Ok t = ap reading same ∙ snapshot_again t also in
    ok_same s t (sym (snapshot_again s is) ∙ e)
  where
    ok_same : (a b : Snapshot) → answer None a ≡ answer None b → a ≡ b
    ok_same a b e = cc
