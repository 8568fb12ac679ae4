-- Why bytes are no snapshot: the first rule that they break.
use Rattle.std.specs.Prelude.{ℕ, ◌==◌, nat_lt, nat_le, Bool, not, ◌&&◌, ◌||◌, List, [], ◌∷◌, length, drop, find, Option}
use Rattle.std.specs.List.{list_all, list_any, zip}
use Rattle.entity_recs.specs.declared.limits.TheConstants.{IDS}
use Rattle.entity_recs.specs.Kinds.{is_item}
use Rattle.byte_lists.specs.Bytes.{byte}
use Rattle.snapshot_write.specs.declared.seen.TheConstants.{MOST_SEEN}
use Rattle.snapshot_write.specs.declared.snap_fault.SnapFault.{SnapFault}
use Rattle.snapshot_write.specs.declared.snap_fault.SnapFault.TheVariants.{Short, Version, Order, Count, Long}
use Rattle.snapshot_write.specs.Fields.{count_in, length_with, blocks_in, id_in, kind_of}

-- the id of each block is below that of the next one
abbrev pub are_rising : List (List ℕ) → Bool
are_rising blocks = list_all (λ p. nat_lt (id_in p.0) (id_in p.1)) (zip blocks (drop 1 blocks))

-- a block has this id
abbrev pub have_id : ℕ → List (List ℕ) → Bool
have_id id blocks = list_any (λ block. id_in block == id) blocks

-- a number of one of the six kinds
abbrev pub is_kind : ℕ → Bool
is_kind kind = nat_le kind 5

-- the slot is above 63, the flags above 3, the ammunition above 100 or the gems above 8
abbrev pub has_wrong_own : List ℕ → Bool
has_wrong_own bytes =
    nat_lt 63 (byte bytes 5) || nat_lt 3 (byte bytes 30) || nat_lt 100 (byte bytes 31) || nat_lt 8 (byte bytes 32)

-- the id is no id of an entity, the kind above 5 or the status above 1, or something other than an item has status 0
abbrev pub has_wrong_field : List ℕ → Bool
has_wrong_field block =
    nat_le IDS (id_in block) || not (is_kind (byte block 2)) || nat_lt 1 (byte block 3)
    || ((byte block 3 == 0) && not (is_item (kind_of (byte block 2))))

-- there are more blocks than a snapshot shows entities, or one has a wrong field
abbrev pub has_wrong_blocks : List (List ℕ) → Bool
has_wrong_blocks blocks = nat_lt MOST_SEEN (length blocks) || list_any has_wrong_field blocks

-- whether the bytes break the rule that the fault is named for
abbrev pub breaks : List ℕ → SnapFault → Bool
breaks bytes Short = nat_lt (length bytes) 43 || nat_lt (length bytes) (length_with (count_in bytes))
breaks bytes Version = not (byte bytes 0 == 1)
breaks bytes Order = not (are_rising (blocks_in bytes)) || have_id (byte bytes 5) (blocks_in bytes)
breaks bytes Count = has_wrong_own bytes || has_wrong_blocks (blocks_in bytes)
breaks bytes Long = nat_lt (length_with (count_in bytes)) (length bytes)

-- the faults, in the order in which their rules are asked
abbrev pub faults : List SnapFault
faults = Short ∷ Version ∷ Order ∷ Count ∷ Long ∷ []

-- the fault of bytes that are no snapshot: the first whose rule they break
abbrev pub fault_of : List ℕ → Option SnapFault
fault_of bytes = find (breaks bytes) faults
