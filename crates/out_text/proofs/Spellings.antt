-- What is read off the lines that are printed: each line of a frame, and each line of a move.
use Rattle.std.proofs.Common.{◌≡◌, ℕ, suc, ◌+◌, ◌^◌, ◌≤◌, ◌<◌, ◌==◌, ◌&&◌, Bool, true, false, not, cond, List, [], ◌∷◌, ◌++◌, length, take, drop, map, get_or, codes, bytes_eq, Option, Some, None, unwrap_or, ℤ, pos, negsuc, decimal, unsigned_abs, ◌⊎◌, inl, inr, nat_lt, nat_le, int_lt, refl, sym, ap, subst, ◌∙◌, arith, append_assoc}
use Rattle.std.specs.Fmt.{signed_decimal}
use Rattle.std.specs.List.{list_all, AllByRecursion, position_or_len, join_with_byte, slice_split}
use Rattle.std.specs.Str.{all_ascii_digits}
use Rattle.std.proofs.lemmas.Bool.Decides.{nat_tests}
use Rattle.std.proofs.lemmas.Bool.{leb-true, and_parts, le-leb}
use Rattle.std.proofs.lemmas.Slice.Eq.{bytes_eq-Decides}
use Rattle.std.proofs.lemmas.Fmt.{digits_decimal}
use Rattle.std.proofs.lemmas.List.Elements.{All-from_recursion}
use Rattle.std.proofs.lemmas.List.Splits.{slice_split_none, slice_split_at}
use Rattle.edge_io.specs.Fields.{is_space, cut, field_at}
use Rattle.edge_io.specs.Fields.{◌>>=◌}
use Rattle.edge_io.proofs.Decimals.{own, first_of_decimal, natural-decimal, integer-decimal}
use Rattle.edge_io.specs.Numbers.{is_digit, natural_up_to, integer_up_to}
use Rattle.entity_recs.specs.declared.effect.Entry.{Entry}
use Rattle.out_text.specs.Dids.{Did, did_of}
use Rattle.out_text.specs.OutLines.{OutLine, FrameLine, DidLine, ids_text, line_spelling}
use Rattle.out_text.specs.FrameLines.{did_line}
use Rattle.out_text.specs.Laws.{IsFrameLine, DidLinesAreRead, FrameLinesAreRead}
use Rattle.out_text.specs.Journals.{Mark, Opens, Reports, Other, number_at, integer_at, all_there, ids_in, value_at_end, did_in, is_coordinate, has_numbers, has_coordinates, has_ids, is_reportable, where_spelled, frame_mark, did_mark, mark_of, onto}
use Rattle.out_text.proofs.Quiet.{none_where, one_more, cut-word, mark-word, IsSilent, split_of, split-silent}

-- what is in a report that is in range
pub record IsReport (d : Did) : Type 0 where
  pub slot : d.slot ≤ 255
  pub seq : d.seq ≤ 4294967295
  pub x : unsigned_abs d.origin.x ≤ 2147483648
  pub y : unsigned_abs d.origin.y ≤ 2147483648
  pub z : unsigned_abs d.origin.z ≤ 2147483648
  pub got : AllByRecursion (λ id. id ≤ 65535) d.got

-- ---- neither a space nor a comma is in a number

-- no byte is c
abbrev Lacks : ℕ → List ℕ → Type 0
Lacks c bytes = AllByRecursion (λ b. (b == c) ≡ false) bytes

digit_is_other : (c d : ℕ) → c < 48 → is_digit d ≡ true → (d == c) ≡ false
digit_is_other c d low digit = grind (arith, nat_tests)

Lacks-digits : (c : ℕ) (ds : List ℕ) → c < 48 → all_ascii_digits ds ≡ true → Lacks c ds
Lacks-digits c [] low digits = tt
Lacks-digits c (d ∷ ds) low digits =
    let parts = and_parts (is_digit d) (all_ascii_digits ds) digits in
    (digit_is_other c d low parts.0, Lacks-digits c ds low parts.1)

Lacks-decimal : (c n : ℕ) → c < 48 → n < 2 ^ 64 → Lacks c (decimal n)
Lacks-decimal c n low small = Lacks-digits c (decimal n) low (digits_decimal own n small)

Lacks-signed : (z : ℤ) → unsigned_abs z < 2 ^ 64 → Lacks 32 (signed_decimal z)
Lacks-signed (pos n) small = Lacks-decimal 32 n (omega arith) small
Lacks-signed (negsuc n) small = (refl, Lacks-decimal 32 (suc n) (omega arith) small)

Lacks-append : (c : ℕ) (xs ys : List ℕ) → Lacks c xs → Lacks c ys → Lacks c (xs ++ ys)
Lacks-append c [] ys p q = q
Lacks-append c (x ∷ xs) ys p q = (p.0, Lacks-append c xs ys p.1 q)

-- ---- ids

-- an id is at most 65,535
abbrev pub AreIds : List ℕ → Type 0
AreIds ids = AllByRecursion (λ id. id ≤ 65535) ids

-- ids with a comma between any two
abbrev pub joined : List ℕ → List ℕ
joined ids = join_with_byte 44 (map decimal ids)

Lacks-joined : (id : ℕ) (ids : List ℕ) → AreIds (id ∷ ids) → Lacks 32 (joined (id ∷ ids))
Lacks-joined id [] are = let h : id ≤ 65535 = are.0 in Lacks-decimal 32 id (omega arith) (omega arith)
Lacks-joined id (next ∷ ids) are =
    let h : id ≤ 65535 = are.0 in
    Lacks-append 32 (decimal id) (44 ∷ joined (next ∷ ids)) (Lacks-decimal 32 id (omega arith) (omega arith)) (refl, Lacks-joined next ids are.1)

Lacks-ids : (ids : List ℕ) → AreIds ids → Lacks 32 (ids_text ids)
Lacks-ids [] are = (refl, tt)
Lacks-ids (id ∷ ids) are = Lacks-joined id ids are

-- cut at the commas, joined ids are the ids
split-joined : (id : ℕ) (ids : List ℕ) → AreIds (id ∷ ids) → slice_split (λ b. b == 44) (joined (id ∷ ids)) ≡ map decimal (id ∷ ids)
split-joined id [] are =
    let h : id ≤ 65535 = are.0 in
    slice_split_none (λ b. b == 44) (decimal id) (All-from_recursion (λ b. (b == 44) ≡ false) (decimal id) (Lacks-decimal 44 id (omega arith) (omega arith)))
split-joined id (next ∷ ids) are =
    let h : id ≤ 65535 = are.0 in
    slice_split_at (λ b. b == 44) (decimal id) 44 (joined (next ∷ ids))
    (All-from_recursion (λ b. (b == 44) ≡ false) (decimal id) (Lacks-decimal 44 id (omega arith) (omega arith))) refl
    ∙ ap (λ parts. decimal id ∷ parts) (split-joined next ids are.1)

there-cons : (read : Option ℕ) (reads : List (Option ℕ)) (id : ℕ) (ids : List ℕ) → read ≡ Some id → all_there reads ≡ Some ids → all_there (read ∷ reads) ≡ Some (id ∷ ids)
there-cons read reads id ids is are = ap (λ o. all_there (o ∷ reads)) is ∙ ap (λ o. o >>= (λ rest. Some (id ∷ rest))) are

-- each id is read
there-decimals : (ids : List ℕ) → AreIds ids → all_there (map (natural_up_to 65535) (map decimal ids)) ≡ Some ids
there-decimals [] are = refl
there-decimals (id ∷ ids) are =
    let h : id ≤ 65535 = are.0 in
    there-cons (natural_up_to 65535 (decimal id)) (map (natural_up_to 65535) (map decimal ids)) id ids
    (natural-decimal 65535 id (omega arith) h) (there-decimals ids are.1)

-- a text that begins with a digit isn't the dash
no_dash : (text : List ℕ) → 48 ≤ get_or text 0 0 → bytes_eq text (codes "-") ≡ false
no_dash [] high = refl
no_dash (d ∷ ds) high =
    let other : (d == 45) ≡ false = grind (arith, nat_tests) in
    ap (λ b. b && bytes_eq ds []) other

first-append : (xs ys : List ℕ) → 48 ≤ get_or xs 0 0 → 48 ≤ get_or (xs ++ ys) 0 0
first-append [] ys high = absurd (omega arith)
first-append (x ∷ xs) ys high = high

-- a decimal text begins with a digit
first-decimal : (n : ℕ) → n < 2 ^ 64 → 48 ≤ get_or (decimal n) 0 0
first-decimal n small = by_first (decimal n) (first_of_decimal n small)
  where
    by_first : (text : List ℕ) → ((text ≡ 48 ∷ []) ⊎ (48 < get_or text 0 0)) → 48 ≤ get_or text 0 0
    by_first text (inl is) = let first : get_or text 0 0 ≡ 48 = ap (λ ds. get_or ds 0 0) is in omega arith
    by_first text (inr high) = omega arith

first-joined : (id : ℕ) (ids : List ℕ) → id ≤ 65535 → 48 ≤ get_or (joined (id ∷ ids)) 0 0
first-joined id [] h = first-decimal id (omega arith)
first-joined id (next ∷ ids) h = first-append (decimal id) (44 ∷ joined (next ∷ ids)) (first-decimal id (omega arith))

-- the ids that a text of ids spells
pub ids-read : (ids : List ℕ) → AreIds ids → ids_in (ids_text ids) ≡ Some ids
ids-read [] are = refl
ids-read (id ∷ ids) are =
    let text = joined (id ∷ ids) in
    ap (λ b. cond b (Some []) (all_there (map (natural_up_to 65535) (slice_split (λ b. b == 44) text)))) (no_dash text (first-joined id ids are.0))
    ∙ ap (λ parts. all_there (map (natural_up_to 65535) parts)) (split-joined id ids are)
    ∙ there-decimals (id ∷ ids) are

-- ---- the fields of a line

-- the number in the field after a space
number-word : (limit n : ℕ) (word rest : List ℕ) → Lacks 32 word → natural_up_to limit word ≡ Some n → number_at limit (32 ∷ (word ++ 32 ∷ rest)) ≡ Some (n, 32 ∷ rest)
number-word limit n word rest none read =
    ap (λ (parts : List ℕ × List ℕ). natural_up_to limit parts.0 >>= (λ m. Some (m, parts.1))) (cut-word word rest none)
    ∙ ap (λ o. o >>= (λ m. Some (m, 32 ∷ rest))) read

-- and the coordinate
integer-word : (z : ℤ) (word rest : List ℕ) → Lacks 32 word → integer_up_to 2147483648 word ≡ Some z → integer_at (32 ∷ (word ++ 32 ∷ rest)) ≡ Some (z, 32 ∷ rest)
integer-word z word rest none read =
    ap (λ (parts : List ℕ × List ℕ). integer_up_to 2147483648 parts.0 >>= (λ y. Some (y, parts.1))) (cut-word word rest none)
    ∙ ap (λ o. o >>= (λ y. Some (y, 32 ∷ rest))) read

position-none : (word : List ℕ) → Lacks 32 word → position_or_len is_space word ≡ length word
position-none [] none = refl
position-none (b ∷ word) none =
    ap (λ t. cond (not t) (1 + position_or_len is_space word) 0) none.0 ∙ one_more (position_or_len is_space word) (length word) (position-none word none.1)

place_or_size : (t : Bool) (n : ℕ) → unwrap_or (cond t (Some n) None) n ≡ n
place_or_size true n = refl
place_or_size false n = refl

take-whole : (xs : List ℕ) → take (length xs) xs ≡ xs
take-whole [] = refl
take-whole (x ∷ xs) = ap (λ l. x ∷ l) (take-whole xs)

drop-whole : (xs : List ℕ) → drop (length xs) xs ≡ []
drop-whole [] = refl
drop-whole (x ∷ xs) = drop-whole xs

abbrev cut_at : ℕ → List ℕ → List ℕ × List ℕ
cut_at n bytes = (take n bytes, drop n bytes)

-- the last word is all that is left
cut-last : (word : List ℕ) → Lacks 32 word → cut word ≡ (word, [])
cut-last word none =
    let size = length word in
    ap (λ n. cut_at (unwrap_or (cond (nat_lt n size) (Some n) None) size) word) (position-none word none)
    ∙ ap (λ n. cut_at n word) (place_or_size (nat_lt size size) size)
    ∙ (λ i. (take-whole word i, drop-whole word i))

-- ---- an entry, from each of its fields on

abbrev from_got : ℕ → ℕ → ℤ → ℤ → ℤ → List ℕ → Option Did
from_got slot seq x y z rest =
    field_at rest >>= (λ got. ids_in got.0 >>= (λ ids. value_at_end (record { slot = slot; seq = seq; origin = record { x = x; y = y; z = z }; got = ids }) got.1))

abbrev from_z : ℕ → ℕ → ℤ → ℤ → List ℕ → Option Did
from_z slot seq x y rest = integer_at rest >>= (λ z. from_got slot seq x y z.0 z.1)

abbrev from_y : ℕ → ℕ → ℤ → List ℕ → Option Did
from_y slot seq x rest = integer_at rest >>= (λ y. from_z slot seq x y.0 y.1)

abbrev from_x : ℕ → ℕ → List ℕ → Option Did
from_x slot seq rest = integer_at rest >>= (λ x. from_y slot seq x.0 x.1)

abbrev from_seq : ℕ → List ℕ → Option Did
from_seq slot rest = number_at 4294967295 rest >>= (λ seq. from_x slot seq.0 seq.1)

got-word : (slot seq : ℕ) (x y z : ℤ) (ids word : List ℕ) → Lacks 32 word → ids_in word ≡ Some ids
    → from_got slot seq x y z (32 ∷ word) ≡ Some (record { slot = slot; seq = seq; origin = record { x = x; y = y; z = z }; got = ids })
got-word slot seq x y z ids word none read =
    let did : List ℕ → Did = λ is. record { slot = slot; seq = seq; origin = record { x = x; y = y; z = z }; got = is } in
    ap (λ (parts : List ℕ × List ℕ). ids_in parts.0 >>= (λ is. value_at_end (did is) parts.1)) (cut-last word none)
    ∙ ap (λ o. o >>= (λ is. value_at_end (did is) [])) read

-- a word that is read as a number, and one that is read as a coordinate
record SpellsNumber (limit n : ℕ) (word : List ℕ) : Type 0 where
  none : Lacks 32 word
  read : natural_up_to limit word ≡ Some n

record SpellsInteger (z : ℤ) (word : List ℕ) : Type 0 where
  none : Lacks 32 word
  read : integer_up_to 2147483648 word ≡ Some z

decimal_spells : (limit n : ℕ) → n < 2 ^ 64 → n ≤ limit → SpellsNumber limit n (decimal n)
decimal_spells limit n small h = record { none = Lacks-decimal 32 n (omega arith) small; read = natural-decimal limit n small h }

signed_spells : (z : ℤ) → unsigned_abs z ≤ 2147483648 → SpellsInteger z (signed_decimal z)
signed_spells z near =
    let small : unsigned_abs z < 2 ^ 64 = omega arith in
    record { none = Lacks-signed z small; read = integer-decimal 2147483648 z small near }

-- the words of an entry, each after a space, are read as that entry
entry-words : (e : Did) (slot seq x y z got : List ℕ) → SpellsNumber 255 e.slot slot → SpellsNumber 4294967295 e.seq seq
    → SpellsInteger e.origin.x x → SpellsInteger e.origin.y y → SpellsInteger e.origin.z z → Lacks 32 got → ids_in got ≡ Some e.got
    → did_in (32 ∷ (slot ++ 32 ∷ (seq ++ 32 ∷ (x ++ 32 ∷ (y ++ 32 ∷ (z ++ 32 ∷ got)))))) ≡ Some e
entry-words e slot seq x y z got is_slot is_seq is_x is_y is_z none read =
    let o = e.origin in
    let at_z = z ++ 32 ∷ got in
    let at_y = y ++ 32 ∷ at_z in
    let at_x = x ++ 32 ∷ at_y in
    let at_seq = seq ++ 32 ∷ at_x in
    ap (λ read. read >>= (λ n. from_seq n.0 n.1)) (number-word 255 e.slot slot at_seq is_slot.none is_slot.read)
    ∙ ap (λ read. read >>= (λ n. from_x e.slot n.0 n.1)) (number-word 4294967295 e.seq seq at_x is_seq.none is_seq.read)
    ∙ ap (λ read. read >>= (λ i. from_y e.slot e.seq i.0 i.1)) (integer-word o.x x at_y is_x.none is_x.read)
    ∙ ap (λ read. read >>= (λ i. from_z e.slot e.seq o.x i.0 i.1)) (integer-word o.y y at_z is_y.none is_y.read)
    ∙ ap (λ read. read >>= (λ i. from_got e.slot e.seq o.x o.y i.0 i.1)) (integer-word o.z z got is_z.none is_z.read)
    ∙ got-word e.slot e.seq o.x o.y o.z e.got got none read

-- a line's words, seen from the first on
words_on : (slot seq x y z got : List ℕ)
    → codes "did " ++ slot ++ codes " " ++ seq ++ codes " " ++ x ++ codes " " ++ y ++ codes " " ++ z ++ codes " " ++ got
    ≡ codes "did" ++ 32 ∷ (slot ++ 32 ∷ (seq ++ 32 ∷ (x ++ 32 ∷ (y ++ 32 ∷ (z ++ 32 ∷ got)))))
words_on slot seq x y z got = simp append_assoc

-- a line is itself
where_spelled-same : (line : OutLine) (mark : Mark) → where_spelled (line_spelling line) line mark ≡ mark
where_spelled-same line mark = ap (λ b. cond b mark Other) ((bytes_eq-Decides (line_spelling line) (line_spelling line)).1 refl)

-- the words of a report are read as that report
report-words : (d : Did) → IsReport d → did_in (32 ∷ (decimal d.slot ++ 32 ∷ (decimal d.seq ++ 32 ∷ (signed_decimal d.origin.x
    ++ 32 ∷ (signed_decimal d.origin.y ++ 32 ∷ (signed_decimal d.origin.z ++ 32 ∷ ids_text d.got)))))) ≡ Some d
report-words d is =
    let low_slot : d.slot ≤ 255 = is.slot in
    let low_seq : d.seq ≤ 4294967295 = is.seq in
    entry-words d (decimal d.slot) (decimal d.seq) (signed_decimal d.origin.x) (signed_decimal d.origin.y) (signed_decimal d.origin.z) (ids_text d.got)
    (decimal_spells 255 d.slot (omega arith) low_slot) (decimal_spells 4294967295 d.seq (omega arith) low_seq)
    (signed_spells d.origin.x is.x) (signed_spells d.origin.y is.y) (signed_spells d.origin.z is.z) (Lacks-ids d.got is.got) (ids-read d.got is.got)

-- the line of a report is read as that report
pub mark-did : (d : Did) → IsReport d → is_reportable d ≡ true → mark_of (line_spelling (DidLine d)) ≡ Reports d
mark-did d is fits =
    let slot = decimal d.slot in
    let seq = decimal d.seq in
    let x = signed_decimal d.origin.x in
    let y = signed_decimal d.origin.y in
    let z = signed_decimal d.origin.z in
    let got = ids_text d.got in
    let rest = slot ++ 32 ∷ (seq ++ 32 ∷ (x ++ 32 ∷ (y ++ 32 ∷ (z ++ 32 ∷ got)))) in
    let words = words_on slot seq x y z got in
    ap mark_of words ∙ mark-word (codes "did") rest (none_where is_space (codes "did") refl) ∙ ap (λ line. did_mark line (did_in (32 ∷ rest))) (sym words)
    ∙ ap (did_mark (line_spelling (DidLine d))) (report-words d is) ∙ ap (λ b. cond b (where_spelled (line_spelling (DidLine d)) (DidLine d) (Reports d)) Other) fits
    ∙ where_spelled-same (DidLine d) (Reports d)

-- the number in the last field
number-last : (limit n : ℕ) (word : List ℕ) → Lacks 32 word → natural_up_to limit word ≡ Some n → number_at limit (32 ∷ word) ≡ Some (n, [])
number-last limit n word none read =
    ap (λ (parts : List ℕ × List ℕ). natural_up_to limit parts.0 >>= (λ m. Some (m, parts.1))) (cut-last word none) ∙ ap (λ o. o >>= (λ m. Some (m, []))) read

-- the line of a frame opens one
pub mark-frame : (frame : ℕ) → frame ≤ 4294967295 → mark_of (line_spelling (FrameLine frame)) ≡ Opens
mark-frame frame small =
    let line = line_spelling (FrameLine frame) in
    let is = decimal_spells 4294967295 frame (omega arith) small in
    mark-word (codes "frame") (decimal frame) (none_where is_space (codes "frame") refl)
    ∙ ap (frame_mark line) (number-last 4294967295 frame (decimal frame) is.none is.read)
    ∙ ap (λ b. cond b (where_spelled line (FrameLine frame) Opens) Other) (le-leb frame 4294967295 small) ∙ where_spelled-same (FrameLine frame) Opens

-- ---- only what is printed is read

-- what a report in range has
parts_of : (d : Did) → is_reportable d ≡ true → IsReport d
parts_of d fits =
    let all = and_parts (has_numbers d) (has_coordinates d && has_ids d) fits in
    let numbers = and_parts (nat_le d.slot 255) (nat_le d.seq 4294967295) all.0 in
    let rest = and_parts (has_coordinates d) (has_ids d) all.1 in
    let x = and_parts (is_coordinate d.origin.x) (is_coordinate d.origin.y && is_coordinate d.origin.z) rest.0 in
    let yz = and_parts (is_coordinate d.origin.y) (is_coordinate d.origin.z) x.1 in
    let ids = and_parts (nat_le (length d.got) 8) (list_all (λ id. nat_le id 65535) d.got) rest.1 in
    record {
      slot = leb-true d.slot 255 numbers.0;
      seq = leb-true d.seq 4294967295 numbers.1;
      x = size_of d.origin.x x.0;
      y = size_of d.origin.y yz.0;
      z = size_of d.origin.z yz.1;
      got = each_id d.got ids.1;
    }
  where
    size_of : (z : ℤ) → is_coordinate z ≡ true → unsigned_abs z ≤ 2147483648
    size_of z h = leb-true (unsigned_abs z) 2147483648 (and_parts (int_lt z (pos 2147483648)) (nat_le (unsigned_abs z) 2147483648) h).1

    each_id : (ids : List ℕ) → list_all (λ id. nat_le id 65535) ids ≡ true → AllByRecursion (λ id. id ≤ 65535) ids
    each_id [] h = tt
    each_id (id ∷ ids) h = let both = and_parts (nat_le id 65535) (list_all (λ id. nat_le id 65535) ids) h in (leb-true id 65535 both.0, each_id ids both.1)

-- which of two tests gave a report
report_is : (b c : Bool) (e d : Did) → cond b (cond c (Reports e) Other) Other ≡ Reports d → (b ≡ true) × (c ≡ true) × (e ≡ d)
report_is true true e d h = (refl, refl, cc)
report_is true false e d h = cc
report_is false c e d h = cc

no_report : (b c : Bool) (d : Did) → cond b (cond c Opens Other) Other ≡ Reports d → ⊥
no_report true true d h = cc
no_report true false d h = cc
no_report false c d h = cc

frame_is : (b c : Bool) → cond b (cond c Opens Other) Other ≡ Opens → (b ≡ true) × (c ≡ true)
frame_is true true h = (refl, refl)
frame_is true false h = cc
frame_is false c h = cc

no_frame : (b c : Bool) (e : Did) → cond b (cond c (Reports e) Other) Other ≡ Opens → ⊥
no_frame true true e h = cc
no_frame true false e h = cc
no_frame false c e h = cc

did_from_frame : (line : List ℕ) (n : Option (ℕ × List ℕ)) (d : Did) → frame_mark line n ≡ Reports d → ⊥
did_from_frame line None d h = cc
did_from_frame line (Some n) d h = no_report (nat_le n.0 4294967295) (bytes_eq line (line_spelling (FrameLine n.0))) d h

did_from : (line : List ℕ) (o : Option Did) (d : Did) → did_mark line o ≡ Reports d → (is_reportable d ≡ true) × (line ≡ line_spelling (DidLine d))
did_from line None d h = cc
did_from line (Some e) d h =
    let is = report_is (is_reportable e) (bytes_eq line (line_spelling (DidLine e))) e d h in
    let P : Did → Type 0 = λ x. (is_reportable x ≡ true) × (line ≡ line_spelling (DidLine x)) in
    subst P is.2 (is.0, (bytes_eq-Decides line (line_spelling (DidLine e))).0 is.1)

did_by_word : (f g : Bool) (line : List ℕ) (n : Option (ℕ × List ℕ)) (o : Option Did) (d : Did) → cond f (frame_mark line n) (cond g (did_mark line o) Other) ≡ Reports d
    → (is_reportable d ≡ true) × (line ≡ line_spelling (DidLine d))
did_by_word true g line n o d h = absurd (did_from_frame line n d h)
did_by_word false true line n o d h = did_from line o d h
did_by_word false false line n o d h = cc

pub did_lines_are_read : DidLinesAreRead
did_lines_are_read line d = (
  λ h. did_by_word (bytes_eq (cut line).0 (codes "frame")) (bytes_eq (cut line).0 (codes "did")) line (number_at 4294967295 (cut line).1) (did_in (cut line).1) d h,
  λ h. ap mark_of h.1 ∙ mark-did d (parts_of d h.0) h.0,
)

frame_from_did : (line : List ℕ) (o : Option Did) → did_mark line o ≡ Opens → ⊥
frame_from_did line None h = cc
frame_from_did line (Some e) h = no_frame (is_reportable e) (bytes_eq line (line_spelling (DidLine e))) e h

frame_from : (line : List ℕ) (n : Option (ℕ × List ℕ)) → frame_mark line n ≡ Opens → IsFrameLine line
frame_from line None h = cc
frame_from line (Some n) h =
    let is = frame_is (nat_le n.0 4294967295) (bytes_eq line (line_spelling (FrameLine n.0))) h in
    record { frame = n.0; fits = leb-true n.0 4294967295 is.0; is = (bytes_eq-Decides line (line_spelling (FrameLine n.0))).0 is.1 }

frame_by_word : (f g : Bool) (line : List ℕ) (n : Option (ℕ × List ℕ)) (o : Option Did) → cond f (frame_mark line n) (cond g (did_mark line o) Other) ≡ Opens → IsFrameLine line
frame_by_word true g line n o h = frame_from line n h
frame_by_word false true line n o h = absurd (frame_from_did line o h)
frame_by_word false false line n o h = cc

pub frame_lines_are_read : FrameLinesAreRead
frame_lines_are_read line = (
  λ h. frame_by_word (bytes_eq (cut line).0 (codes "frame")) (bytes_eq (cut line).0 (codes "did")) line (number_at 4294967295 (cut line).1) (did_in (cut line).1) h,
  λ (h : IsFrameLine line). ap mark_of h.is ∙ mark-frame h.frame h.fits,
)

-- ---- the journals of lines

-- a report that is read back from its line
pub record CanBeRead (d : Did) : Type 0 where
  pub is : IsReport d
  pub fits : is_reportable d ≡ true

-- the lines of moves put what they report before the first frame after
split-dids : (es : List Entry) (more : List OutLine) (fs : List (List Did)) → AllByRecursion (λ e. CanBeRead (did_of e)) es → split_of more ≡ record { before = []; frames = fs }
    → split_of (map did_line es ++ more) ≡ record { before = map did_of es; frames = fs }
split-dids [] more fs reports is = is
split-dids (e ∷ es) more fs reports is =
    ap (λ mark. onto mark (split_of (map did_line es ++ more))) (mark-did (did_of e) reports.0.is reports.0.fits) ∙ ap (onto (Reports (did_of e))) (split-dids es more fs reports.1 is)

lines_on : (a dids b more : List OutLine) → (a ++ dids ++ b) ++ more ≡ a ++ (dids ++ (b ++ more))
lines_on a dids b more = simp append_assoc

-- a frame's lines put what they report before what those after report
pub split-lines : (n : ℕ) → n ≤ 4294967295 → (a : List OutLine) (es : List Entry) (b more : List OutLine) (fs : List (List Did))
    → AllByRecursion IsSilent a → AllByRecursion (λ e. CanBeRead (did_of e)) es → AllByRecursion IsSilent b → split_of more ≡ record { before = []; frames = fs }
    → split_of (FrameLine n ∷ ((a ++ map did_line es ++ b) ++ more)) ≡ record { before = []; frames = map did_of es ∷ fs }
split-lines n small a es b more fs silent_a reports silent_b is =
    let lines = a ++ map did_line es ++ b in
    ap (λ mark. onto mark (split_of (lines ++ more))) (mark-frame n small)
    ∙ ap (onto Opens) (ap split_of (lines_on a (map did_line es) b more)
    ∙ split-silent a (map did_line es ++ (b ++ more)) silent_a
    ∙ split-dids es (b ++ more) fs reports (split-silent b more silent_b ∙ is))
