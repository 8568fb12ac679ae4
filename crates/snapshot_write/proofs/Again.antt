-- A snapshot is read as it was written.
use Rattle.std.proofs.Common.{◌≡◌, ℕ, ◌*◌, ◌≤◌, ◌==◌, Bool, true, false, ◌&&◌, ◌||◌, not, List, [], ◌∷◌, length, map, flat_map, None, Ok, refl, ap, sym, ◌∙◌, arith, length-append}
use Rattle.std.specs.Prelude.{nat_lt}
use Rattle.std.specs.List.{list_any}
use Rattle.std.specs.Simd.{first_chunks}
use Rattle.std.proofs.lemmas.Bool.{le-ltb, lt-leb}
use Rattle.std.proofs.lemmas.List.{length-map}
use Rattle.std.proofs.lemmas.Nat.{from_le_bytes-to_le_bytes_2, from_le_bytes-to_le_bytes_4}
use Rattle.arena_geo.specs.declared.vec3.Vec3.{Vec3}
use Rattle.entity_recs.specs.declared.kind.Kind.{Kind}
use Rattle.entity_recs.specs.declared.kind.Kind.TheVariants.{Player, Ammo, Gem, Teleporter, Goal, Lift}
use Rattle.entity_recs.specs.declared.rec.Rec.{Rec}
use Rattle.entity_recs.specs.declared.bodies.TheConstants.{PLAYER_MINS, PLAYER_MAXS}
use Rattle.entity_recs.specs.Kinds.{number_of, is_item}
use Rattle.entity_recs.specs.declared.limits.TheConstants.{IDS}
use Rattle.snapshot_write.specs.declared.seen.TheConstants.{MOST_SEEN}
use Rattle.snapshot_write.specs.declared.seen.Seen.{Seen}
use Rattle.snapshot_write.specs.declared.snapshot.Snapshot.{Snapshot}
use Rattle.snapshot_write.specs.declared.snap_fault.SnapFault.TheVariants.{Short, Version, Order, Count, Long}
use Rattle.snapshot_write.specs.Fields.{count_in, length_with, blocks_in, id_in}
use Rattle.snapshot_write.specs.Faults.{are_rising, have_id, is_kind, has_wrong_own, has_wrong_field, has_wrong_blocks, breaks, fault_of}
use Rattle.snapshot_write.specs.Reading.{own_in, seen_in, snapshot_in, answer, reading}
use Rattle.snapshot_write.specs.Spelling.{status_of, block_of, spelling, IsOwn, IsSeen, AreSeen, ids_of, is_rising, IsSnapshot}
use Rattle.snapshot_write.proofs.Fields.{vector_again, kind_again, status_again}
use Rattle.snapshot_write.proofs.Blocks.{list_any-map, rising_blocks}

-- each entity takes 16 bytes
pub length-blocks : (seen : List Seen) → length (flat_map block_of seen) ≡ 16 * length seen
length-blocks [] = refl
length-blocks (s ∷ seen) =
    let rest = length-blocks seen in
    length-append (block_of s) (flat_map block_of seen) ∙ omega (arith, rest)

-- the blocks are those of the entities
pub blocks_again : (seen : List Seen) → first_chunks 16 (length seen) (flat_map block_of seen) ≡ map block_of seen
blocks_again [] = refl
blocks_again (s ∷ seen) = ap (λ l. block_of s ∷ l) (blocks_again seen)

-- an entity is read as it was written
pub seen_again : (s : Seen) → IsSeen s → seen_in (block_of s) ≡ s
seen_again s is =
    rw (from_le_bytes-to_le_bytes_2 s.id (omega (arith, is.id)), kind_again s.kind, status_again s.here, vector_again s.origin is.origin)
    refl

pub all_seen_again : (seen : List Seen) → AreSeen seen → map seen_in (map block_of seen) ≡ seen
all_seen_again [] are = refl
all_seen_again (s ∷ seen) are = rw (seen_again s are.0, all_seen_again seen are.1) refl

-- so are the ids
pub ids_again : (seen : List Seen) → AreSeen seen → map id_in (map block_of seen) ≡ ids_of seen
ids_again [] are = refl
ids_again (s ∷ seen) are =
    rw (from_le_bytes-to_le_bytes_2 s.id (omega (arith, (are.0).id)), ids_again seen are.1) refl

-- each kind has a number of at most 5
kind_is : (kind : Kind) → not (is_kind (number_of kind)) ≡ false
kind_is Player = refl
kind_is Ammo = refl
kind_is Gem = refl
kind_is Teleporter = refl
kind_is Goal = refl
kind_is Lift = refl

-- a status is at most 1
status_is : (here : Bool) → nat_lt 1 (status_of here) ≡ false
status_is true = refl
status_is false = refl

-- what isn't there is an item
item_is : (here item : Bool) → (here || item) ≡ true → ((status_of here == 0) && not item) ≡ false
item_is true item e = refl
item_is false true e = refl
item_is false false e = absurd cc

-- a block of an entity has no wrong field
pub none_wrong : (seen : List Seen) → AreSeen seen → list_any has_wrong_field (map block_of seen) ≡ false
none_wrong [] are = refl
none_wrong (s ∷ seen) are =
    rw (
      from_le_bytes-to_le_bytes_2 s.id (omega (arith, (are.0).id)),
      lt-leb IDS s.id (are.0).id,
      kind_is s.kind,
      kind_again s.kind,
      status_is s.here,
      item_is s.here (is_item s.kind) (are.0).here,
      none_wrong seen are.1,
    )
    refl

-- the record that a snapshot shows is the player's own
own_is : (me : Rec) → IsOwn me
    → record {
      id = me.id;
      kind = Player;
      origin = me.origin;
      mins = PLAYER_MINS;
      maxs = PLAYER_MAXS;
      vel = me.vel;
      flags = me.flags;
      ammo = me.ammo;
      carry = me.carry;
      score = me.score;
      seq = me.seq;
      state = 0;
    } ≡ me
own_is me own =
    let made : Kind → Vec3 → Vec3 → ℕ → Rec = λ kind mins maxs state. record {
      id = me.id;
      kind = kind;
      origin = me.origin;
      mins = mins;
      maxs = maxs;
      vel = me.vel;
      flags = me.flags;
      ammo = me.ammo;
      carry = me.carry;
      score = me.score;
      seq = me.seq;
      state = state;
    } in
    ap (λ kind. made kind PLAYER_MINS PLAYER_MAXS 0) (sym own.kind)
    ∙ ap (λ mins. made me.kind mins PLAYER_MAXS 0) (sym own.body.low_is)
    ∙ ap (λ maxs. made me.kind me.mins maxs 0) (sym own.body.high_is)
    ∙ ap (λ state. made me.kind me.mins me.maxs state) (sym own.state)

pub own_again : (s : Snapshot) → IsOwn s.own → own_in (spelling s) ≡ s.own
own_again s own =
    rw (
      vector_again s.own.origin own.origin,
      vector_again s.own.vel own.vel,
      from_le_bytes-to_le_bytes_4 s.own.score own.score,
      from_le_bytes-to_le_bytes_4 s.own.seq own.seq,
    )
    (own_is s.own own)

-- so are the count and the blocks
pub count_again : (s : Snapshot) → length s.seen ≤ MOST_SEEN → count_in (spelling s) ≡ length s.seen
count_again s few = from_le_bytes-to_le_bytes_2 (length s.seen) (omega (arith, few))

pub spelled_blocks : (s : Snapshot) → length s.seen ≤ MOST_SEEN → blocks_in (spelling s) ≡ map block_of s.seen
spelled_blocks s few =
    ap (λ n. first_chunks 16 n (flat_map block_of s.seen)) (count_again s few) ∙ blocks_again s.seen

pub length-spelling : (s : Snapshot) → length (spelling s) ≡ length_with (length s.seen)
length-spelling s = let rest = length-blocks s.seen in omega (arith, rest)

-- the snapshot that is in the bytes is the one that was written
pub in_again : (s : Snapshot) → IsSnapshot s → snapshot_in (spelling s) ≡ s
in_again s is =
    rw (from_le_bytes-to_le_bytes_4 s.frame is.frame, own_again s is.own, spelled_blocks s is.count, all_seen_again s.seen is.seen) refl

-- the bytes of a snapshot break no rule
record BreaksNone (bytes : List ℕ) : Type 0 where
  short : breaks bytes Short ≡ false
  version : breaks bytes Version ≡ false
  order : breaks bytes Order ≡ false
  count : breaks bytes Count ≡ false
  long : breaks bytes Long ≡ false

own_right : (s : Snapshot) → IsOwn s.own → has_wrong_own (spelling s) ≡ false
own_right s own =
    rw (le-ltb 63 s.own.id own.slot, le-ltb 3 s.own.flags own.flags, le-ltb 100 s.own.ammo own.ammo, le-ltb 8 s.own.carry own.carry)
    refl

blocks_right : (s : Snapshot) → IsSnapshot s → has_wrong_blocks (blocks_in (spelling s)) ≡ false
blocks_right s is =
    ap has_wrong_blocks (spelled_blocks s is.count)
    ∙ rw (length-map s.seen block_of, le-ltb MOST_SEEN (length s.seen) is.count, none_wrong s.seen is.seen) refl

in_order : (s : Snapshot) → IsSnapshot s → breaks (spelling s) Order ≡ false
in_order s is =
    let blocks = map block_of s.seen in
    let same = spelled_blocks s is.count in
    let rising : are_rising (blocks_in (spelling s)) ≡ true =
    ap are_rising same ∙ rising_blocks blocks ∙ ap is_rising (ids_again s.seen is.seen) ∙ is.rising in
    let other : have_id s.own.id (blocks_in (spelling s)) ≡ false =
    ap (have_id s.own.id) same ∙ sym (list_any-map (λ id. id == s.own.id) id_in blocks)
    ∙ ap (list_any (λ id. id == s.own.id)) (ids_again s.seen is.seen) ∙ is.others in
    rw (rising, other) refl

breaks_none : (s : Snapshot) → IsSnapshot s → BreaksNone (spelling s)
breaks_none s is =
    let long = length-spelling s in
    let count = count_again s is.count in
    let least : 43 ≤ length (spelling s) = omega (arith, long) in
    let right : length (spelling s) ≡ length_with (count_in (spelling s)) = long ∙ ap length_with (sym count) in
    record {
      short = rw (le-ltb (length (spelling s)) 43 least, le-ltb (length (spelling s)) (length_with (count_in (spelling s))) (omega (arith, right))) refl;
      version = refl;
      order = in_order s is;
      count = rw (own_right s is.own, blocks_right s is) refl;
      long = le-ltb (length_with (count_in (spelling s))) (length (spelling s)) (omega (arith, right));
    }

-- where no rule is broken there is no cause
no_cause : (bytes : List ℕ) → BreaksNone bytes → fault_of bytes ≡ None
no_cause bytes none = rw (none.short, none.version, none.order, none.count, none.long) refl

pub spelled_fault : (s : Snapshot) → IsSnapshot s → fault_of (spelling s) ≡ None
spelled_fault s is = no_cause (spelling s) (breaks_none s is)

-- a snapshot is read as it was written
pub snapshot_again : (s : Snapshot) → IsSnapshot s → reading (spelling s) ≡ Ok s
snapshot_again s is = ap (λ fault. answer fault (snapshot_in (spelling s))) (spelled_fault s is) ∙ ap (λ t. Ok t) (in_again s is)
