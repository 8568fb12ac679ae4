-- How long lines are, at most, with their line feeds.
use Rattle.std.proofs.Common.{◌≡◌, ℕ, suc, ◌+◌, ◌*◌, ◌^◌, ◌<◌, ◌≤◌, Bool, true, false, cond, ℤ, pos, negsuc, unsigned_abs, List, [], ◌∷◌, ◌++◌, length, map, flat_map, codes, decimal, refl, ap, ◌∙◌, arith, length-append}
use Rattle.std.specs.List.{AllByRecursion, join_with_byte}
use Rattle.std.specs.Fmt.{signed_decimal}
use Rattle.std.proofs.lemmas.Fmt.{length-decimal-le}
use Rattle.hex.specs.Hex.{lower_digits, encode_lower}
use Rattle.hex.proofs.HexLemmas.{length-encode_with}
use Rattle.edge_io.specs.declared.line_buf.TheConstants.{ROOM}
use Rattle.entity_recs.specs.declared.limits.TheConstants.{IDS}
use Rattle.entity_recs.specs.declared.rec.Rec.{Rec}
use Rattle.entity_recs.specs.declared.effect.Entry.{Entry}
use Rattle.packet_read.specs.declared.packet_fault.PacketFault.{PacketFault}
use Rattle.packet_read.specs.declared.packet_fault.PacketFault.TheVariants.{Empty, Version, Kind, Short, Long, Time, Buttons, Count}
use Rattle.client_ports.specs.declared.refusal.Refusal.{Refusal}
use Rattle.client_ports.specs.declared.refusal.Refusal.TheVariants.{Packet, Already, Full, Crowded, NotJoined, Leaving, Old, Many}
use Rattle.snapshot_write.specs.declared.reply_buf.TheConstants.{BLOCK, REPLY_ROOM}
use Rattle.snapshot_write.specs.Snapshots.{is_seen, entity_bytes, own_bytes, seen_by, seen_bytes, snapshot}
use Rattle.plain_server.specs.Entries.{IsReported, AreReported}
use Rattle.out_text.specs.OutLines.{OutLine, FrameLine, NoLine, JoinedLine, EndLine, fault_name_of, name_of, ids_text, printed_line, text_of}
use Rattle.out_text.specs.FrameLines.{did_line, to_line}
use Rattle.out_text.proofs.Runs.{text_of-append}

-- texts put together
spaced : (xs ys : List ℕ) → length (xs ++ codes " " ++ ys) ≡ length xs + 1 + length ys
spaced xs ys = omega (arith, length-append (xs ++ codes " ") ys, length-append xs (codes " "))

ended : (xs : List ℕ) → length (xs ++ 10 ∷ []) ≡ length xs + 1
ended xs = omega (arith, length-append xs (10 ∷ []))

-- the texts of lines put together
pub length-lines : (xs ys : List OutLine) → length (text_of (xs ++ ys)) ≡ length (text_of xs) + length (text_of ys)
length-lines xs ys = ap length (text_of-append xs ys) ∙ length-append (text_of xs) (text_of ys)

pub length-line : (l : OutLine) (ls : List OutLine) → length (text_of (l ∷ ls)) ≡ length (printed_line l) + length (text_of ls)
length-line l ls = length-append (printed_line l) (text_of ls)

-- ---- frames, refusals and joins

pub frame_line-long : (frame : ℕ) → frame < 100000 → length (printed_line (FrameLine frame)) ≤ 16
frame_line-long frame below =
    omega (arith, ended (codes "frame " ++ decimal frame), length-append (codes "frame ") (decimal frame), length-decimal-le 5 frame (omega arith) (omega arith) (omega arith))

pub end_line-long : (frames : ℕ) → frames ≤ 100000 → length (printed_line (EndLine frames)) ≤ 16
end_line-long frames few =
    omega (arith, ended (codes "end " ++ decimal frames), length-append (codes "end ") (decimal frames), length-decimal-le 6 frames (omega arith) (omega arith) (omega arith))

fault-long : (fault : PacketFault) → length (fault_name_of fault) ≤ 9
fault-long Empty = omega arith
fault-long Version = omega arith
fault-long Kind = omega arith
fault-long Short = omega arith
fault-long Long = omega arith
fault-long Time = omega arith
fault-long Buttons = omega arith
fault-long Count = omega arith

name-long : (why : Refusal) → length (name_of why) ≤ 9
name-long (Packet fault) = fault-long fault
name-long Already = omega arith
name-long Full = omega arith
name-long Crowded = omega arith
name-long NotJoined = omega arith
name-long Leaving = omega arith
name-long Old = omega arith
name-long Many = omega arith

pub no_line-long : (place : ℕ) (why : Refusal) → place < 512 → length (printed_line (NoLine place why)) ≤ 17
no_line-long place why below =
    let front = codes "no " ++ decimal place in
    omega (
      arith,
      ended (front ++ codes " " ++ name_of why),
      spaced front (name_of why),
      length-append (codes "no ") (decimal place),
      length-decimal-le 3 place (omega arith) (omega arith) (omega arith),
      name-long why,
    )

pub joined_line-long : (port slot : ℕ) → port < 65536 → slot < 64 → length (printed_line (JoinedLine port slot)) ≤ 17
joined_line-long port slot small below =
    let front = codes "joined " ++ decimal port in
    omega (
      arith,
      ended (front ++ codes " " ++ decimal slot),
      spaced front (decimal slot),
      length-append (codes "joined ") (decimal port),
      length-decimal-le 5 port (omega arith) (omega arith) (omega arith),
      length-decimal-le 2 slot (omega arith) (omega arith) (omega arith),
    )

-- ---- moves

number-long : (z : ℤ) → unsigned_abs z ≤ 1048576 → length (signed_decimal z) ≤ 8
number-long (pos n) near = omega (arith, length-decimal-le 7 n (omega arith) (omega arith) (omega arith))
number-long (negsuc n) near = omega (arith, length-decimal-le 7 (suc n) (omega arith) (omega arith) (omega arith))

id-long : (id : ℕ) → id < 2 ^ 16 → length (decimal id) ≤ 5
id-long id small = length-decimal-le 5 id (omega arith) (omega arith) (omega arith)

joined-long : (id : ℕ) (ids : List ℕ) → AllByRecursion (λ id. id < 2 ^ 16) (id ∷ ids) → length (join_with_byte 44 (map decimal (id ∷ ids))) ≤ 6 * length ids + 5
joined-long id [] are = id-long id are.0
joined-long id (next ∷ ids) are =
    omega (arith, length-append (decimal id) (44 ∷ join_with_byte 44 (map decimal (next ∷ ids))), id-long id are.0, joined-long next ids are.1)

ids-long : (ids : List ℕ) → AllByRecursion (λ id. id < 2 ^ 16) ids → length ids ≤ 8 → length (ids_text ids) ≤ 48
ids-long [] are few = omega arith
ids-long (id ∷ ids) are few = omega (arith, joined-long id ids are, few)

did_line-long : (place : ℕ) (e : Entry) → IsReported place e → length (printed_line (did_line e)) ≤ 96
did_line-long place e is =
    let low : e.slot < 64 = is.slot in
    let small : e.seq < 2 ^ 32 = is.seq in
    let slot = codes "did " ++ decimal e.slot in
    let seq = slot ++ codes " " ++ decimal e.seq in
    let x = seq ++ codes " " ++ signed_decimal e.reply.origin.x in
    let y = x ++ codes " " ++ signed_decimal e.reply.origin.y in
    let z = y ++ codes " " ++ signed_decimal e.reply.origin.z in
    let slot_long = length-decimal-le 2 e.slot (omega arith) (omega arith) (omega arith) in
    let seq_long = length-decimal-le 10 e.seq (omega arith) (omega arith) (omega arith) in
    omega (
      arith,
      ended (z ++ codes " " ++ ids_text e.reply.got),
      spaced z (ids_text e.reply.got),
      spaced y (signed_decimal e.reply.origin.z),
      spaced x (signed_decimal e.reply.origin.y),
      spaced seq (signed_decimal e.reply.origin.x),
      spaced slot (decimal e.seq),
      length-append (codes "did ") (decimal e.slot),
      slot_long,
      seq_long,
      number-long e.reply.origin.x is.origin.x,
      number-long e.reply.origin.y is.origin.y,
      number-long e.reply.origin.z is.origin.z,
      ids-long e.reply.got is.got.small is.got.few,
    )

pub journal-long : (place : ℕ) (es : List Entry) → AreReported place es → length (text_of (map did_line es)) ≤ 96 * length es
journal-long place [] are = omega arith
journal-long place (e ∷ es) are = omega (arith, length-line (did_line e) (map did_line es), did_line-long place e are.0, journal-long (place + 1) es are.1)

-- ---- snapshots

entities-long : (seen : List Rec) → length (flat_map entity_bytes seen) ≡ 16 * length seen
entities-long [] = refl
entities-long (r ∷ seen) = omega (arith, length-append (entity_bytes r) (flat_map entity_bytes seen), entities-long seen)

seen-few : (me : Rec) (live : List Rec) → length (seen_by me live) ≤ length live
seen-few me [] = omega arith
seen-few me (r ∷ live) = by (is_seen me r) (seen_by me live) (seen-few me live)
  where
    by : (b : Bool) (l : List Rec) → length l ≤ length live → length (cond b (r ∷ l) l) ≤ suc (length live)
    by true l few = omega arith
    by false l few = omega arith

-- of at most as many records as there are ids
snapshot-long : (frame : ℕ) (me : Rec) (live : List Rec) → length live ≤ IDS → length (snapshot frame me live) ≤ REPLY_ROOM + BLOCK
snapshot-long frame me live few =
    let seen = seen_by me live in
    omega (arith, length-append (own_bytes frame me) (seen_bytes seen), entities-long seen, seen-few me live, few)

to_line-long : (frame : ℕ) (live : List Rec) (me : Rec) → length live ≤ IDS → me.id < IDS → length (printed_line (to_line frame live me)) ≤ ROOM
to_line-long frame live me few below =
    let front = codes "to " ++ decimal me.id in
    let bytes = snapshot frame me live in
    omega (
      arith,
      ended (front ++ codes " " ++ encode_lower bytes),
      spaced front (encode_lower bytes),
      length-append (codes "to ") (decimal me.id),
      length-decimal-le 3 me.id (omega arith) (omega arith) (omega arith),
      length-encode_with lower_digits bytes,
      snapshot-long frame me live few,
    )

pub to_lines-long : (frame : ℕ) (live players : List Rec) → length live ≤ IDS → AllByRecursion (λ r. r.id < IDS) players
    → length (text_of (map (to_line frame live) players)) ≤ ROOM * length players
to_lines-long frame live [] few below = omega arith
to_lines-long frame live (me ∷ players) few below =
    omega (arith, length-line (to_line frame live me) (map (to_line frame live) players), to_line-long frame live me few below.0, to_lines-long frame live players few below.1)
