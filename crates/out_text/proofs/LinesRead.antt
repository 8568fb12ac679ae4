-- Lines of the output are read as they were printed, and what is read was printed.
use Rattle.std.proofs.Common.{◌≡◌, ℕ, suc, ◌^◌, ◌<◌, ◌≤◌, ◌==◌, Bool, true, false, cond, List, [], ◌∷◌, ◌++◌, length, map, Option, Some, None, codes, bytes_eq, ℤ, pos, negsuc, decimal, unsigned_abs, refl, ap, sym, ◌∙◌, subst, arith, append_assoc, append-nil}
use Rattle.std.specs.Prelude.{nat_le, nat_lt, FitsSigned, find, option_map, if◌then◌else◌, IfSome}
use Rattle.std.specs.Int.{w32}
use Rattle.std.specs.Fmt.{signed_decimal}
use Rattle.std.specs.List.{list_all, AllByRecursion, slice_split, join_with_byte}
use Rattle.std.proofs.lemmas.Bool.Decides.{nat_tests}
use Rattle.std.proofs.lemmas.Bool.{leb-true, ltb-true, and_parts}
use Rattle.std.proofs.lemmas.Int.{ints}
use Rattle.std.proofs.lemmas.Slice.Eq.{bytes_eq-Decides}
use Rattle.std.proofs.lemmas.List.Splits.{join_with_byte-slice_split}
use Rattle.std.proofs.lemmas.Option.{same_Some}
use Rattle.arena_geo.specs.declared.vec3.Vec3.{Vec3}
use Rattle.arena_geo.specs.Vectors.{Fits}
use Rattle.edge_io.specs.Numbers.{natural_up_to, integer_up_to}
use Rattle.edge_io.specs.Fields.{◌>>=◌, cut, field_at, field_text}
use Rattle.edge_io.proofs.Decimals.{natural-spelled, natural-decimal, integer-spelled, integer-decimal}
use Rattle.edge_io.proofs.FieldTexts.{AreAbove, IsEnd, decimal_above, signed_above, cut-field, field_at-field, cut-whole, field_at-whole}
use Rattle.client_ports.specs.declared.refusal.Refusal.{Refusal}
use Rattle.client_ports.specs.declared.refusal.Refusal.TheVariants.{Packet, Already, Full, Crowded, NotJoined, Leaving, Old, Many}
use Rattle.packet_read.specs.declared.packet_fault.PacketFault.{PacketFault}
use Rattle.packet_read.specs.declared.packet_fault.PacketFault.TheVariants.{Empty, Version, Kind, Short, Long, Time, Buttons, Count}
use Rattle.hex.specs.Hex.{encode_lower, lower_digits}
use Rattle.hex.proofs.HexLemmas.{length-encode_with}
use Rattle.out_text.specs.Dids.{Did}
use Rattle.out_text.specs.OutLines.{OutLine, FrameLine, FromLine, NoLine, JoinedLine, DidLine, ToLine, EndLine, name_of, ids_text, line_spelling}
use Rattle.demo_lines.specs.Spelling.{packet_text}
use Rattle.out_text.specs.Journals.{number_at, all_there, ids_in, value_at_end, is_coordinate}
use Rattle.out_text.specs.Ranges.{IsInRange, IsPrinted}
use Rattle.out_text.specs.Reading.{value_if_passing, within, coordinate_at, origin_at, few_ids, refusals, refusal_of, bytes_in, packet_in, frame_in, from_in, no_in, joined_in, did_line_in, to_in, end_in, line_in}
use Rattle.out_text.proofs.Spellings.{AreIds, joined, ids-read}
use Rattle.out_text.proofs.HexTexts.{hex-back, hex-sound, hex-above}

-- ---- what was printed is read: the fields

number-back : (limit n : ℕ) (rest : List ℕ) → n ≤ limit → limit ≤ 4294967295 → IsEnd rest
    → number_at limit (field_text (decimal n) ++ rest) ≡ Some (n, rest)
number-back limit n rest few low ends =
    let Read : Option (List ℕ × List ℕ) → Option (ℕ × List ℕ) = λ f. f >>= (λ field. natural_up_to limit field.0 >>= (λ m. Some (m, field.1))) in
    let Value : Option ℕ → Option (ℕ × List ℕ) = λ y. y >>= (λ m. Some (m, rest)) in
    ap Read (field_at-field (decimal n) rest (decimal_above n (omega (arith, few, low))) ends)
    ∙ ap Value (natural-decimal limit n (omega (arith, few, low)) few)

fits_coordinate : (z : ℤ) → FitsSigned w32 z → is_coordinate z ≡ true
fits_coordinate (pos n) fits =
    let below : nat_lt n 2147483648 ≡ true = grind (arith, nat_tests, fits) in
    let small : nat_le n 2147483648 ≡ true = grind (arith, nat_tests, fits) in
    rw (below, small) refl
fits_coordinate (negsuc n) fits =
    let small : nat_le (suc n) 2147483648 ≡ true = grind (arith, nat_tests, fits) in
    small

near_coordinate : (z : ℤ) → is_coordinate z ≡ true → unsigned_abs z ≤ 2147483648
near_coordinate z is = leb-true (unsigned_abs z) 2147483648 (and_parts _ (nat_le (unsigned_abs z) 2147483648) is).1

coordinate_fits : (z : ℤ) → is_coordinate z ≡ true → FitsSigned w32 z
coordinate_fits (pos n) is =
    let below : n < 2147483648 = ltb-true n 2147483648 (and_parts (nat_lt n 2147483648) (nat_le n 2147483648) is).0 in
    omega (arith, ints, below)
coordinate_fits (negsuc n) is =
    let small : suc n ≤ 2147483648 = leb-true (suc n) 2147483648 is in
    omega (arith, ints, small)

coordinate-back : (z : ℤ) (rest : List ℕ) → FitsSigned w32 z → IsEnd rest
    → coordinate_at (field_text (signed_decimal z) ++ rest) ≡ Some (z, rest)
coordinate-back z rest fits ends =
    let is = fits_coordinate z fits in
    let near = near_coordinate z is in
    let Read : Option (List ℕ × List ℕ) → Option (ℤ × List ℕ) = λ f. f >>= (λ field. within (integer_up_to 2147483648 field.0) >>= (λ y. Some (y, field.1))) in
    let Value : Option ℤ → Option (ℤ × List ℕ) = λ y. within y >>= (λ x. Some (x, rest)) in
    ap Read (field_at-field (signed_decimal z) rest (signed_above z (omega (arith, near))) ends)
    ∙ ap Value (integer-decimal 2147483648 z (omega (arith, near)) near)
    ∙ rw is refl

origin-back : (o : Vec3) (rest : List ℕ) → Fits o → IsEnd rest
    → origin_at (field_text (signed_decimal o.x) ++ (field_text (signed_decimal o.y) ++ (field_text (signed_decimal o.z) ++ rest))) ≡ Some (o, rest)
origin-back o rest fits ends =
    rw (
      coordinate-back o.x (field_text (signed_decimal o.y) ++ (field_text (signed_decimal o.z) ++ rest)) fits.x refl,
      coordinate-back o.y (field_text (signed_decimal o.z) ++ rest) fits.y refl,
      coordinate-back o.z rest fits.z ends,
    )
    refl

-- a text passes a test of each byte
above : (xs : List ℕ) → list_all (λ b. nat_lt 32 b) xs ≡ true → AreAbove 32 xs
above [] is = tt
above (x ∷ xs) is =
    let parts = and_parts (nat_lt 32 x) (list_all (λ b. nat_lt 32 b) xs) is in
    (ltb-true 32 x parts.0, above xs parts.1)

fault_above : (fault : PacketFault) → list_all (λ b. nat_lt 32 b) (name_of (Packet fault)) ≡ true
fault_above Empty = refl
fault_above Version = refl
fault_above Kind = refl
fault_above Short = refl
fault_above Long = refl
fault_above Time = refl
fault_above Buttons = refl
fault_above Count = refl

name_above : (why : Refusal) → list_all (λ b. nat_lt 32 b) (name_of why) ≡ true
name_above (Packet fault) = fault_above fault
name_above Already = refl
name_above Full = refl
name_above Crowded = refl
name_above NotJoined = refl
name_above Leaving = refl
name_above Old = refl
name_above Many = refl

fault-back : (fault : PacketFault) → refusal_of (name_of (Packet fault)) ≡ Some (Packet fault)
fault-back Empty = refl
fault-back Version = refl
fault-back Kind = refl
fault-back Short = refl
fault-back Long = refl
fault-back Time = refl
fault-back Buttons = refl
fault-back Count = refl

name-back : (why : Refusal) → refusal_of (name_of why) ≡ Some why
name-back (Packet fault) = fault-back fault
name-back Already = refl
name-back Full = refl
name-back Crowded = refl
name-back NotJoined = refl
name-back Leaving = refl
name-back Old = refl
name-back Many = refl

above_both : (xs ys : List ℕ) → AreAbove 32 xs → AreAbove 32 ys → AreAbove 32 (xs ++ ys)
above_both [] ys a b = b
above_both (x ∷ xs) ys a b = (a.0, above_both xs ys a.1 b)

joined_above : (id : ℕ) (ids : List ℕ) → AreIds (id ∷ ids) → AreAbove 32 (joined (id ∷ ids))
joined_above id [] are = let most = are.0 in decimal_above id (omega (arith, most))
joined_above id (next ∷ ids) are =
    let most = are.0 in
    above_both (decimal id) (44 ∷ joined (next ∷ ids)) (decimal_above id (omega (arith, most))) (lit_comma, joined_above next ids are.1)
  where
    lit_comma : 32 < 44
    lit_comma = omega arith

ids_above : (ids : List ℕ) → AreIds ids → AreAbove 32 (ids_text ids)
ids_above [] are = above (ids_text []) refl
ids_above (id ∷ ids) are = joined_above id ids are

are_ids : (ids : List ℕ) → AllByRecursion (λ id. id < 2 ^ 16) ids → AreIds ids
are_ids [] are = tt
are_ids (id ∷ ids) are = let below : id < 2 ^ 16 = are.0 in (omega (arith, below), are_ids ids are.1)

few-back : (ids : List ℕ) → AllByRecursion (λ id. id < 2 ^ 16) ids → length ids ≤ 8 → few_ids (ids_in (ids_text ids)) ≡ Some ids
few-back ids are few =
    let within : nat_le (length ids) 8 ≡ true = grind (arith, nat_tests, few) in
    ap few_ids (ids-read ids (are_ids ids are)) ∙ rw within refl

-- the digits of a byte and more are no dash
not_dash : (b : ℕ) (bytes : List ℕ) → bytes_eq (encode_lower (b ∷ bytes)) (codes "-") ≡ false
not_dash b bytes = by (bytes_eq (encode_lower (b ∷ bytes)) (codes "-")) refl
  where
    by : (dash : Bool) → bytes_eq (encode_lower (b ∷ bytes)) (codes "-") ≡ dash → dash ≡ false
    by true e =
        let long = ap length ((bytes_eq-Decides (encode_lower (b ∷ bytes)) (codes "-")).0 e) in
        absurd (omega (arith, long, length-encode_with lower_digits (b ∷ bytes)))
    by false e = refl

-- a packet is read back
packet-back : (bytes : List ℕ) → length bytes ≤ 252 → AllByRecursion (λ b. b < 2 ^ 8) bytes → packet_in (packet_text bytes) ≡ Some bytes
packet-back [] few are = refl
packet-back (b ∷ bytes) few are =
    let within : nat_le (length (b ∷ bytes)) 252 ≡ true = grind (arith, nat_tests, few) in
    let no_dash : bytes_eq (encode_lower (b ∷ bytes)) (codes "-") ≡ false = not_dash b bytes in
    rw no_dash (ap (value_if_passing (λ (l : List ℕ). nat_le (length l) 252)) (hex-back (b ∷ bytes) (omega arith) (omega (arith, few)) are) ∙ rw within refl)

packet_above : (bytes : List ℕ) → AllByRecursion (λ b. b < 2 ^ 8) bytes → AreAbove 32 (packet_text bytes)
packet_above [] are = above (packet_text []) refl
packet_above (b ∷ bytes) are = hex-above (b ∷ bytes) are

-- ---- the whole line

-- what the rest of a line says, by its first word
abbrev by_word : List ℕ × List ℕ → Option OutLine
by_word parts =
    if bytes_eq parts.0 (codes "frame") then frame_in parts.1
    else if bytes_eq parts.0 (codes "from") then from_in parts.1
    else if bytes_eq parts.0 (codes "no") then no_in parts.1
    else if bytes_eq parts.0 (codes "joined") then joined_in parts.1
    else if bytes_eq parts.0 (codes "did") then did_line_in parts.1
    else if bytes_eq parts.0 (codes "to") then to_in parts.1
    else if bytes_eq parts.0 (codes "end") then end_in parts.1
    else None

word-back : (word rest line : List ℕ) → list_all (λ b. nat_lt 32 b) word ≡ true → IsEnd rest → line ≡ word ++ rest → line_in line ≡ by_word (word, rest)
word-back word rest line is ends same = ap (λ l. by_word (cut l)) same ∙ ap by_word (cut-field word rest (above word is) ends)

last-field : (word : List ℕ) → field_text word ≡ field_text word ++ []
last-field word = sym (append-nil (field_text word))

did_parts : (a b c d e f g s : List ℕ) → a ++ b ++ s ++ c ++ s ++ d ++ s ++ e ++ s ++ f ++ s ++ g ≡ a ++ (b ++ (s ++ (c ++ (s ++ (d ++ (s ++ (e ++ (s ++ (f ++ (s ++ g))))))))))
did_parts a b c d e f g s = simp append_assoc

-- a word and two fields
two_fields : (word a b : List ℕ) → word ++ a ++ codes " " ++ b ≡ word ++ (a ++ (field_text b ++ []))
two_fields word a b =
    append_assoc (word ++ a) (codes " ") b ∙ append_assoc word a (field_text b) ∙ ap (λ l. word ++ (a ++ l)) (last-field b)

did_text : (d : Did) → line_spelling (DidLine d) ≡ codes "did" ++ (field_text (decimal d.slot) ++ (field_text (decimal d.seq) ++ (field_text (signed_decimal d.origin.x)
    ++ (field_text (signed_decimal d.origin.y) ++ (field_text (signed_decimal d.origin.z) ++ (field_text (ids_text d.got) ++ []))))))
did_text d =
    did_parts (codes "did ") (decimal d.slot) (decimal d.seq) (signed_decimal d.origin.x) (signed_decimal d.origin.y)
    (signed_decimal d.origin.z) (ids_text d.got) (codes " ")
    ∙ ap (λ l. codes "did" ++ (field_text (decimal d.slot) ++ (field_text (decimal d.seq) ++ (field_text (signed_decimal d.origin.x)
    ++ (field_text (signed_decimal d.origin.y) ++ (field_text (signed_decimal d.origin.z) ++ l)))))) (last-field (ids_text d.got))

-- what follows a value that is there
goes_on : {A B : Type 0} (o : Option A) (x : A) (f : A → Option B) → o ≡ Some x → o >>= f ≡ f x
goes_on o x f e = ap (λ p. p >>= f) e

pub line-back : (l : OutLine) → IsInRange l → line_in (line_spelling l) ≡ Some l
line-back (FrameLine frame) is =
    word-back (codes "frame") (field_text (decimal frame)) (line_spelling (FrameLine frame)) refl refl refl
    ∙ ap frame_in (last-field (decimal frame))
    ∙ rw (number-back 4294967295 frame [] (omega (arith, is)) (omega arith) tt) refl
line-back (EndLine frames) is =
    word-back (codes "end") (field_text (decimal frames)) (line_spelling (EndLine frames)) refl refl refl
    ∙ ap end_in (last-field (decimal frames))
    ∙ rw (number-back 4294967295 frames [] (omega (arith, is)) (omega arith) tt) refl
line-back (NoLine place why) is =
    let name = field_text (name_of why) ++ [] in
    word-back (codes "no") (field_text (decimal place) ++ name) (line_spelling (NoLine place why)) refl refl
    (two_fields (codes "no ") (decimal place) (name_of why))
    ∙ goes_on (number_at 4294967295 (field_text (decimal place) ++ name)) (place, name) _ (number-back 4294967295 place name (omega (arith, is)) (omega arith) refl)
    ∙ goes_on (field_at name) (name_of why, []) (λ field. refusal_of field.0 >>= (λ other. value_at_end (NoLine place other) field.1))
    (field_at-field (name_of why) [] (above (name_of why) (name_above why)) tt)
    ∙ goes_on (refusal_of (name_of why)) why (λ other. value_at_end (NoLine place other) []) (name-back why)
line-back (FromLine port bytes) is =
    let fits = is.port_fits in
    let text = field_text (packet_text bytes) ++ [] in
    word-back (codes "from") (field_text (decimal port) ++ text) (line_spelling (FromLine port bytes)) refl refl
    (two_fields (codes "from ") (decimal port) (packet_text bytes))
    ∙ goes_on (number_at 65535 (field_text (decimal port) ++ text)) (port, text) _ (number-back 65535 port text (omega (arith, fits)) (omega arith) refl)
    ∙ goes_on (field_at text) (packet_text bytes, []) (λ field. packet_in field.0 >>= (λ read. value_at_end (FromLine port read) field.1))
    (field_at-field (packet_text bytes) [] (packet_above bytes is.are_bytes) tt)
    ∙ goes_on (packet_in (packet_text bytes)) bytes (λ read. value_at_end (FromLine port read) []) (packet-back bytes is.most is.are_bytes)
line-back (JoinedLine port slot) is =
    let fits = is.port_fits in
    let small = is.slot_fits in
    let last = field_text (decimal slot) ++ [] in
    word-back (codes "joined") (field_text (decimal port) ++ last) (line_spelling (JoinedLine port slot)) refl refl
    (two_fields (codes "joined ") (decimal port) (decimal slot))
    ∙ rw (
      number-back 65535 port last (omega (arith, fits)) (omega arith) refl,
      number-back 255 slot [] (omega (arith, small)) (omega arith) tt,
    ) refl
line-back (DidLine d) is =
    let slot = is.slot in
    let seq = is.seq in
    let ids = field_text (ids_text d.got) ++ [] in
    let z = field_text (signed_decimal d.origin.z) ++ ids in
    let y = field_text (signed_decimal d.origin.y) ++ z in
    let x = field_text (signed_decimal d.origin.x) ++ y in
    let number = field_text (decimal d.seq) ++ x in
    word-back (codes "did") (field_text (decimal d.slot) ++ number) (line_spelling (DidLine d)) refl refl
    (did_text d)
    ∙ goes_on (number_at 255 (field_text (decimal d.slot) ++ number)) (d.slot, number) _ (number-back 255 d.slot number (omega (arith, slot)) (omega arith) refl)
    ∙ goes_on (number_at 4294967295 number) (d.seq, x) (λ s. origin_at s.1 >>= (λ o. field_at o.1 >>= (λ field. few_ids (ids_in field.0) >>= (λ got.
    value_at_end (DidLine (record { slot = d.slot; seq = s.0; origin = o.0; got = got })) field.1))))
    (number-back 4294967295 d.seq x (omega (arith, seq)) (omega arith) refl)
    ∙ goes_on (origin_at x) (d.origin, ids) (λ o. field_at o.1 >>= (λ field. few_ids (ids_in field.0) >>= (λ got.
    value_at_end (DidLine (record { slot = d.slot; seq = d.seq; origin = o.0; got = got })) field.1)))
    (origin-back d.origin ids is.origin refl)
    ∙ goes_on (field_at ids) (ids_text d.got, []) (λ field. few_ids (ids_in field.0) >>= (λ got.
    value_at_end (DidLine (record { slot = d.slot; seq = d.seq; origin = d.origin; got = got })) field.1))
    (field_at-field (ids_text d.got) [] (ids_above d.got (are_ids d.got is.got)) tt)
    ∙ goes_on (few_ids (ids_in (ids_text d.got))) d.got (λ got. value_at_end (DidLine (record { slot = d.slot; seq = d.seq; origin = d.origin; got = got })) [])
    (few-back d.got is.got is.few)
line-back (ToLine slot bytes) is =
    let small = is.slot_fits in
    let text = field_text (encode_lower bytes) ++ [] in
    word-back (codes "to") (field_text (decimal slot) ++ text) (line_spelling (ToLine slot bytes)) refl refl
    (two_fields (codes "to ") (decimal slot) (encode_lower bytes))
    ∙ goes_on (number_at 255 (field_text (decimal slot) ++ text)) (slot, text) _ (number-back 255 slot text (omega (arith, small)) (omega arith) refl)
    ∙ goes_on (field_at text) (encode_lower bytes, []) (λ field. bytes_in field.0 >>= (λ read. value_at_end (ToLine slot read) field.1))
    (field_at-field (encode_lower bytes) [] (hex-above bytes is.are_bytes) tt)
    ∙ goes_on (bytes_in (encode_lower bytes)) bytes (λ read. value_at_end (ToLine slot read) []) (hex-back bytes is.some is.most is.are_bytes)

-- ---- what is read was printed: the fields

-- the value in between, where both gave one
record Binds {A B : Type 0} (o : Option A) (f : A → Option B) (y : B) : Type 0 where
  at : A
  is : o ≡ Some at
  gives : f at ≡ Some y

binds : {A B : Type 0} (o : Option A) (f : A → Option B) (y : B) → o >>= f ≡ Some y → Binds o f y
binds None f y h = cc
binds (Some x) f y h = record { at = x; is = refl; gives = h }

-- a value that passed a test
passed : {X : Type 0} (test : X → Bool) (o : Option X) (x : X) → value_if_passing test o ≡ Some x → (o ≡ Some x) × (test x ≡ true)
passed test None x h = absurd cc
passed test (Some y) x h = by (test y) refl h
  where
    by : (b : Bool) → test y ≡ b → cond b (Some y) None ≡ Some x → (Some y ≡ Some x) × (test x ≡ true)
    by true e g = (g, ap test (sym (same_Some y x g)) ∙ e)
    by false e g = absurd cc

-- nothing follows
alone-sound : {X : Type 0} (x l : X) (rest : List ℕ) → value_at_end x rest ≡ Some l → (rest ≡ []) × (x ≡ l)
alone-sound x l [] h = (refl, same_Some x l h)
alone-sound x l (b ∷ rest) h = absurd cc

-- a number was read
record ReadsNumber (limit : ℕ) (rest : List ℕ) (n : ℕ × List ℕ) : Type 0 where
  most : n.0 ≤ limit
  spelled : rest ≡ field_text (decimal n.0) ++ n.1

number-sound : (limit : ℕ) (rest : List ℕ) (n : ℕ × List ℕ) → limit ≤ 4294967295 → number_at limit rest ≡ Some n → ReadsNumber limit rest n
number-sound limit rest n low h =
    let field = binds (field_at rest) _ n h in
    let m = binds (natural_up_to limit field.at.0) _ n field.gives in
    let line_spelling = natural-spelled limit m.at field.at.0 (omega (arith, low)) m.is in
    let P : ℕ × List ℕ → Type 0 = ReadsNumber limit rest in
    subst P (same_Some (m.at, field.at.1) n m.gives)
    (record { most = line_spelling.1; spelled = field_at-whole rest field.at field.is ∙ ap (λ t. field_text t ++ field.at.1) line_spelling.0 })

-- a coordinate was read
record ReadsCoordinate (rest : List ℕ) (z : ℤ × List ℕ) : Type 0 where
  fits : FitsSigned w32 z.0
  spelled : rest ≡ field_text (signed_decimal z.0) ++ z.1

coordinate-sound : (rest : List ℕ) (z : ℤ × List ℕ) → coordinate_at rest ≡ Some z → ReadsCoordinate rest z
coordinate-sound rest z h =
    let field = binds (field_at rest) _ z h in
    let y = binds (within (integer_up_to 2147483648 field.at.0)) _ z field.gives in
    let in_range = passed is_coordinate (integer_up_to 2147483648 field.at.0) y.at y.is in
    let line_spelling = integer-spelled 2147483648 y.at field.at.0 (omega arith) in_range.0 in
    let P : ℤ × List ℕ → Type 0 = ReadsCoordinate rest in
    subst P (same_Some (y.at, field.at.1) z y.gives)
    (record {
      fits = coordinate_fits y.at in_range.1;
      spelled = field_at-whole rest field.at field.is ∙ ap (λ t. field_text t ++ field.at.1) line_spelling.0;
    })

-- three coordinates were read
record ReadsOrigin (rest : List ℕ) (o : Vec3 × List ℕ) : Type 0 where
  fits : Fits o.0
  spelled : rest ≡ field_text (signed_decimal o.0.x) ++ (field_text (signed_decimal o.0.y) ++ (field_text (signed_decimal o.0.z) ++ o.1))

origin-sound : (rest : List ℕ) (o : Vec3 × List ℕ) → origin_at rest ≡ Some o → ReadsOrigin rest o
origin-sound rest o h =
    let x = binds (coordinate_at rest) _ o h in
    let y = binds (coordinate_at x.at.1) _ o x.gives in
    let z = binds (coordinate_at y.at.1) _ o y.gives in
    let read_x = coordinate-sound rest x.at x.is in
    let read_y = coordinate-sound x.at.1 y.at y.is in
    let read_z = coordinate-sound y.at.1 z.at z.is in
    let P : Vec3 × List ℕ → Type 0 = ReadsOrigin rest in
    subst P (same_Some _ o z.gives)
    (record {
      fits = record { x = read_x.fits; y = read_y.fits; z = read_z.fits };
      spelled =
          read_x.spelled
          ∙ ap (λ l. field_text (signed_decimal x.at.0) ++ l) (read_y.spelled ∙ ap (λ l. field_text (signed_decimal y.at.0) ++ l) read_z.spelled);
    })

-- ids were read
record AreNumbers (parts : List (List ℕ)) (ids : List ℕ) : Type 0 where
  spelled : parts ≡ map decimal ids
  fit : AllByRecursion (λ id. id < 2 ^ 16) ids

there-sound : (parts : List (List ℕ)) (ids : List ℕ) → all_there (map (natural_up_to 65535) parts) ≡ Some ids → AreNumbers parts ids
there-sound [] ids h =
    let none : [] ≡ ids = cc in
    subst (λ (l : List ℕ). AreNumbers [] l) none (record { spelled = refl; fit = tt })
there-sound (part ∷ parts) ids h = by (natural_up_to 65535 part) refl h (λ more is. there-sound parts more is)
  where
    by : (read : Option ℕ) → natural_up_to 65535 part ≡ read → all_there (read ∷ map (natural_up_to 65535) parts) ≡ Some ids
        → ((more : List ℕ) → all_there (map (natural_up_to 65535) parts) ≡ Some more → AreNumbers parts more) → AreNumbers (part ∷ parts) ids
    by None e g rest = absurd cc
    by (Some id) e g rest =
        let more = binds (all_there (map (natural_up_to 65535) parts)) (λ (l : List ℕ). Some (id ∷ l)) ids g in
        let here = natural-spelled 65535 id part (omega arith) e in
        let small = here.1 in
        let others = rest more.at more.is in
        subst (λ (l : List ℕ). AreNumbers (part ∷ parts) l) (same_Some (id ∷ more.at) ids more.gives)
        (record {
          spelled = ap (λ p. p ∷ parts) here.0 ∙ ap (λ ps. decimal id ∷ ps) others.spelled;
          fit = (omega (arith, small), others.fit);
        })

record ReadsIds (text ids : List ℕ) : Type 0 where
  spelled : text ≡ ids_text ids
  fit : AllByRecursion (λ id. id < 2 ^ 16) ids

-- a list of parts that isn't empty
has_part : (text : List ℕ) → slice_split (λ b. b == 44) text ≡ [] → text ≡ [] → ⊥
has_part text none is = no_parts (slice_split (λ b. b == 44) text) none (ap (λ (l : List ℕ). slice_split (λ b. b == 44) l) is)
  where
    no_parts : (parts : List (List ℕ)) → parts ≡ [] → parts ≡ [] ∷ [] → ⊥
    no_parts parts e f = cc

ids-sound : (text ids : List ℕ) → ids_in text ≡ Some ids → ReadsIds text ids
ids-sound text ids h = by (bytes_eq text (codes "-")) refl h
  where
    listed : (ids : List ℕ) → AreNumbers (slice_split (λ b. b == 44) text) ids → ReadsIds text ids
    listed [] are =
        let empty = sym (join_with_byte-slice_split 44 text) ∙ ap (join_with_byte 44) are.spelled in
        absurd (has_part text are.spelled empty)
    listed (id ∷ ids) are = record { spelled = sym (join_with_byte-slice_split 44 text) ∙ ap (join_with_byte 44) are.spelled; fit = are.fit }

    by : (dash : Bool) → bytes_eq text (codes "-") ≡ dash → cond dash (Some []) (all_there (map (natural_up_to 65535) (slice_split (λ b. b == 44) text))) ≡ Some ids
        → ReadsIds text ids
    by true e g =
        subst (λ (l : List ℕ). ReadsIds text l) (same_Some [] ids g) (record { spelled = (bytes_eq-Decides text (codes "-")).0 e; fit = tt })
    by false e g = listed ids (there-sound (slice_split (λ b. b == 44) text) ids g)

few-sound : (text ids : List ℕ) → few_ids (ids_in text) ≡ Some ids → ReadsIds text ids × (length ids ≤ 8)
few-sound text ids h =
    let parts = passed (λ (l : List ℕ). nat_le (length l) 8) (ids_in text) ids h in
    (ids-sound text ids parts.0, leb-true (length ids) 8 parts.1)

-- a name was read
found_by : (name : List ℕ) (whys : List Refusal) (why : Refusal) → find (λ w. bytes_eq (name_of w) name) whys ≡ Some why → name ≡ name_of why
found_by name [] why h = absurd cc
found_by name (w ∷ whys) why h = by (bytes_eq (name_of w) name) refl h (found_by name whys why)
  where
    by : (b : Bool) → bytes_eq (name_of w) name ≡ b → cond b (Some w) (find (λ w. bytes_eq (name_of w) name) whys) ≡ Some why
        → (find (λ w. bytes_eq (name_of w) name) whys ≡ Some why → name ≡ name_of why) → name ≡ name_of why
    by true e g rest = sym ((bytes_eq-Decides (name_of w) name).0 e) ∙ ap name_of (same_Some w why g)
    by false e g rest = rest g

-- ---- the whole line

frame-sound : (rest : List ℕ) (l : OutLine) → frame_in rest ≡ Some l → IsPrinted (codes "frame" ++ rest) l
frame-sound rest l h =
    let n = binds (number_at 4294967295 rest) _ l h in
    let read = number-sound 4294967295 rest n.at (omega arith) n.is in
    let last = alone-sound (FrameLine n.at.0) l n.at.1 n.gives in
    let most = read.most in
    subst (λ (k : OutLine). IsPrinted (codes "frame" ++ rest) k) last.1
    (record {
      in_range = omega (arith, most);
      spelled = ap (λ r. codes "frame" ++ r) (read.spelled ∙ ap (λ t. field_text (decimal n.at.0) ++ t) last.0 ∙ append-nil (field_text (decimal n.at.0)));
    })

end-sound : (rest : List ℕ) (l : OutLine) → end_in rest ≡ Some l → IsPrinted (codes "end" ++ rest) l
end-sound rest l h =
    let n = binds (number_at 4294967295 rest) _ l h in
    let read = number-sound 4294967295 rest n.at (omega arith) n.is in
    let last = alone-sound (EndLine n.at.0) l n.at.1 n.gives in
    let most = read.most in
    subst (λ (k : OutLine). IsPrinted (codes "end" ++ rest) k) last.1
    (record {
      in_range = omega (arith, most);
      spelled = ap (λ r. codes "end" ++ r) (read.spelled ∙ ap (λ t. field_text (decimal n.at.0) ++ t) last.0 ∙ append-nil (field_text (decimal n.at.0)));
    })

no-sound : (rest : List ℕ) (l : OutLine) → no_in rest ≡ Some l → IsPrinted (codes "no" ++ rest) l
no-sound rest l h =
    let n = binds (number_at 4294967295 rest) _ l h in
    let field = binds (field_at n.at.1) _ l n.gives in
    let why = binds (refusal_of field.at.0) _ l field.gives in
    let read = number-sound 4294967295 rest n.at (omega arith) n.is in
    let name = found_by field.at.0 refusals why.at why.is in
    let last = alone-sound (NoLine n.at.0 why.at) l field.at.1 why.gives in
    let most = read.most in
    subst (λ (k : OutLine). IsPrinted (codes "no" ++ rest) k) last.1
    (record {
      in_range = omega (arith, most);
      spelled =
          ap (λ r. codes "no" ++ r) (read.spelled ∙ ap (λ t. field_text (decimal n.at.0) ++ t)
          (field_at-whole n.at.1 field.at field.is ∙ ap (λ t. field_text field.at.0 ++ t) last.0 ∙ ap (λ t. field_text t ++ []) name))
          ∙ sym (two_fields (codes "no ") (decimal n.at.0) (name_of why.at));
    })

joined-sound : (rest : List ℕ) (l : OutLine) → joined_in rest ≡ Some l → IsPrinted (codes "joined" ++ rest) l
joined-sound rest l h =
    let port = binds (number_at 65535 rest) _ l h in
    let slot = binds (number_at 255 port.at.1) _ l port.gives in
    let read = number-sound 65535 rest port.at (omega arith) port.is in
    let also = number-sound 255 port.at.1 slot.at (omega arith) slot.is in
    let last = alone-sound (JoinedLine port.at.0 slot.at.0) l slot.at.1 slot.gives in
    let most = read.most in
    let few = also.most in
    subst (λ (k : OutLine). IsPrinted (codes "joined" ++ rest) k) last.1
    (record {
      in_range = record { port_fits = omega (arith, most); slot_fits = omega (arith, few) };
      spelled =
          ap (λ r. codes "joined" ++ r) (read.spelled ∙ ap (λ t. field_text (decimal port.at.0) ++ t)
          (also.spelled ∙ ap (λ t. field_text (decimal slot.at.0) ++ t) last.0))
          ∙ sym (two_fields (codes "joined ") (decimal port.at.0) (decimal slot.at.0));
    })

to-sound : (rest : List ℕ) (l : OutLine) → to_in rest ≡ Some l → IsPrinted (codes "to" ++ rest) l
to-sound rest l h =
    let slot = binds (number_at 255 rest) _ l h in
    let field = binds (field_at slot.at.1) _ l slot.gives in
    let bytes = binds (bytes_in field.at.0) _ l field.gives in
    let read = number-sound 255 rest slot.at (omega arith) slot.is in
    let hex = hex-sound field.at.0 bytes.at bytes.is in
    let last = alone-sound (ToLine slot.at.0 bytes.at) l field.at.1 bytes.gives in
    let few = read.most in
    subst (λ (k : OutLine). IsPrinted (codes "to" ++ rest) k) last.1
    (record {
      in_range = record { slot_fits = omega (arith, few); some = hex.some; most = hex.most; are_bytes = hex.are };
      spelled =
          ap (λ r. codes "to" ++ r) (read.spelled ∙ ap (λ t. field_text (decimal slot.at.0) ++ t)
          (field_at-whole slot.at.1 field.at field.is ∙ ap (λ t. field_text field.at.0 ++ t) last.0 ∙ ap (λ t. field_text t ++ []) hex.spelled))
          ∙ sym (two_fields (codes "to ") (decimal slot.at.0) (encode_lower bytes.at));
    })

-- a packet was read
record ReadsPacket (text bytes : List ℕ) : Type 0 where
  spelled : text ≡ packet_text bytes
  most : length bytes ≤ 252
  are : AllByRecursion (λ b. b < 2 ^ 8) bytes

packet-sound : (text bytes : List ℕ) → packet_in text ≡ Some bytes → ReadsPacket text bytes
packet-sound text bytes h = by (bytes_eq text (codes "-")) refl h
  where
    spelled_so : (xs : List ℕ) → 1 ≤ length xs → encode_lower xs ≡ packet_text xs
    spelled_so [] some = absurd (omega arith)
    spelled_so (x ∷ xs) some = refl

    by : (dash : Bool) → bytes_eq text (codes "-") ≡ dash → cond dash (Some []) (value_if_passing (λ (l : List ℕ). nat_le (length l) 252) (bytes_in text)) ≡ Some bytes
        → ReadsPacket text bytes
    by true e g = subst (λ (l : List ℕ). ReadsPacket text l) (same_Some [] bytes g) (record { spelled = (bytes_eq-Decides text (codes "-")).0 e; most = omega arith; are = tt })
    by false e g =
        let parts = passed (λ (l : List ℕ). nat_le (length l) 252) (bytes_in text) bytes g in
        let hex = hex-sound text bytes parts.0 in
        record { spelled = hex.spelled ∙ spelled_so bytes hex.some; most = leb-true (length bytes) 252 parts.1; are = hex.are }

from-sound : (rest : List ℕ) (l : OutLine) → from_in rest ≡ Some l → IsPrinted (codes "from" ++ rest) l
from-sound rest l h =
    let port = binds (number_at 65535 rest) _ l h in
    let field = binds (field_at port.at.1) _ l port.gives in
    let bytes = binds (packet_in field.at.0) _ l field.gives in
    let read = number-sound 65535 rest port.at (omega arith) port.is in
    let packet = packet-sound field.at.0 bytes.at bytes.is in
    let last = alone-sound (FromLine port.at.0 bytes.at) l field.at.1 bytes.gives in
    let few = read.most in
    subst (λ (k : OutLine). IsPrinted (codes "from" ++ rest) k) last.1
    (record {
      in_range = record { port_fits = omega (arith, few); most = packet.most; are_bytes = packet.are };
      spelled =
          ap (λ r. codes "from" ++ r) (read.spelled ∙ ap (λ t. field_text (decimal port.at.0) ++ t)
          (field_at-whole port.at.1 field.at field.is ∙ ap (λ t. field_text field.at.0 ++ t) last.0 ∙ ap (λ t. field_text t ++ []) packet.spelled))
          ∙ sym (two_fields (codes "from ") (decimal port.at.0) (packet_text bytes.at));
    })

did-sound : (rest : List ℕ) (l : OutLine) → did_line_in rest ≡ Some l → IsPrinted (codes "did" ++ rest) l
did-sound rest l h =
    let slot = binds (number_at 255 rest) _ l h in
    let seq = binds (number_at 4294967295 slot.at.1) _ l slot.gives in
    let o = binds (origin_at seq.at.1) _ l seq.gives in
    let field = binds (field_at o.at.1) _ l o.gives in
    let got = binds (few_ids (ids_in field.at.0)) _ l field.gives in
    let d : Did = record { slot = slot.at.0; seq = seq.at.0; origin = o.at.0; got = got.at } in
    let read_slot = number-sound 255 rest slot.at (omega arith) slot.is in
    let read_seq = number-sound 4294967295 slot.at.1 seq.at (omega arith) seq.is in
    let read_o = origin-sound seq.at.1 o.at o.is in
    let read_got = few-sound field.at.0 got.at got.is in
    let last = alone-sound (DidLine d) l field.at.1 got.gives in
    let few = read_slot.most in
    let most = read_seq.most in
    subst (λ (k : OutLine). IsPrinted (codes "did" ++ rest) k) last.1
    (record {
      in_range = record { slot = omega (arith, few); seq = omega (arith, most); origin = read_o.fits; few = read_got.1; got = (read_got.0).fit };
      spelled =
          ap (λ r. codes "did" ++ r) (read_slot.spelled ∙ ap (λ t. field_text (decimal d.slot) ++ t)
          (read_seq.spelled ∙ ap (λ t. field_text (decimal d.seq) ++ t)
          (read_o.spelled ∙ ap (λ t. field_text (signed_decimal d.origin.x) ++ (field_text (signed_decimal d.origin.y) ++ (field_text (signed_decimal d.origin.z) ++ t)))
          (field_at-whole o.at.1 field.at field.is ∙ ap (λ t. field_text field.at.0 ++ t) last.0 ∙ ap (λ t. field_text t ++ []) (read_got.0).spelled))))
          ∙ sym (did_text d);
    })

-- the first word is this one, or it isn't
by_first : (first word rest : List ℕ) (here others : Option OutLine) (l : OutLine) → cond (bytes_eq first word) here others ≡ Some l
    → (here ≡ Some l → IsPrinted (word ++ rest) l) → (others ≡ Some l → IsPrinted (first ++ rest) l) → IsPrinted (first ++ rest) l
by_first first word rest here others l h is isnt = by (bytes_eq first word) refl h
  where
    by : (b : Bool) → bytes_eq first word ≡ b → cond b here others ≡ Some l → IsPrinted (first ++ rest) l
    by true e g =
        let word_is = (bytes_eq-Decides first word).0 e in
        subst (λ (w : List ℕ). IsPrinted (w ++ rest) l) (sym word_is) (is g)
    by false e g = isnt g

word-sound : (f r : List ℕ) (l : OutLine) → by_word (f, r) ≡ Some l → IsPrinted (f ++ r) l
word-sound f r l h =
    by_first f (codes "frame") r _ _ l h (frame-sound r l) (λ h2.
    by_first f (codes "from") r _ _ l h2 (from-sound r l) (λ h3.
    by_first f (codes "no") r _ _ l h3 (no-sound r l) (λ h4.
    by_first f (codes "joined") r _ _ l h4 (joined-sound r l) (λ h5.
    by_first f (codes "did") r _ _ l h5 (did-sound r l) (λ h6.
    by_first f (codes "to") r _ _ l h6 (to-sound r l) (λ h7.
    by_first f (codes "end") r _ _ l h7 (end-sound r l) (λ h8. nothing h8)))))))
  where
    nothing : None ≡ Some l → IsPrinted (f ++ r) l
    nothing e = cc

-- a line that is read was printed so
pub line-sound : (line : List ℕ) (l : OutLine) → line_in line ≡ Some l → IsPrinted line l
line-sound line l h =
    subst (λ (text : List ℕ). IsPrinted text l) (cut-whole line) (word-sound (cut line).0 (cut line).1 l h)

-- no two lines in range are printed alike
pub one_line : (l k : OutLine) → IsInRange l → IsInRange k → line_spelling l ≡ line_spelling k → l ≡ k
one_line l k is also e = same_Some l k (sym (line-back l is) ∙ ap line_in e ∙ line-back k also)

-- what is read of a line of the program's
pub found_printed : {X : Type 0} (r : Option X) (view : X → OutLine) (line : List ℕ) → option_map view r ≡ line_in line → IfSome r (λ x. IsPrinted line (view x))
found_printed None view line e = tt
found_printed (Some x) view line e = line-sound line (view x) (sym e)

pub printed_read : (line : List ℕ) (l : OutLine) → IsPrinted line l → line_in line ≡ Some l
printed_read line l is = ap line_in is.spelled ∙ line-back l is.in_range
