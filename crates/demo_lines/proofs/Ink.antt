-- The bytes of written lines: all are printed, so none is a line feed or a carriage return.
use Rattle.std.proofs.Common.{◌≡◌, ℕ, zero, suc, ◌-◌, ◌^◌, ◌≤◌, ◌<◌, ◌/◌, ◌%◌, ◌==◌, Bool, true, false, slice_index, nat_le, List, [], ◌∷◌, ◌++◌, length, take, drop, cond, codes, bytes_eq, refl, ap, subst, arith, ℤ, ◌≤ℤ◌, pos, negsuc, decimal, unsigned_abs, rules}
use Rattle.std.specs.Fmt.{signed_decimal}
use Rattle.std.specs.List.{AllByRecursion}
use Rattle.std.specs.Str.{all_ascii_digits}
use Rattle.std.proofs.lemmas.Bool.Decides.{nat_tests}
use Rattle.std.proofs.lemmas.Int.{ints}
use Rattle.std.proofs.lemmas.Fmt.{digits_decimal}
use Rattle.std.proofs.lemmas.List.Elements.{All-get_or, All-head, All-tail, All-from_recursion}
use Rattle.std.proofs.lemmas.Bool.{and_from, and_parts}
use Rattle.edge_io.specs.Lines.{AreBytes, HasNoLineFeed}
use Rattle.edge_io.specs.Numbers.{is_digit}
use Rattle.edge_io.specs.Fields.{field_text}
use Rattle.edge_io.proofs.Decimals.{own}
use Rattle.edge_io.proofs.Feeds.{each_of_both}
use Rattle.edge_io.proofs.FieldTexts.{AreAbove}
use Rattle.hex.specs.Hex.{encode_with, lower_digits}
use Rattle.arena_geo.specs.declared.vec3.Vec3.{Vec3}
use Rattle.arena_geo.specs.Vectors.{IsNear}
use Rattle.entity_recs.specs.declared.kind.Kind.{Kind}
use Rattle.entity_recs.specs.declared.kind.Kind.TheVariants as kinds
use Rattle.entity_recs.specs.Kinds.{is_item}
use Rattle.arena_map.specs.declared.map_line.MapLine.{MapLine}
use Rattle.arena_map.specs.declared.map_line.MapLine.TheVariants.{Arena, Block, Spawn, Item, Teleport, Goal, Lift, Depth, Shots, Blocks}
use Rattle.arena_map.specs.declared.map_word.MapWord.{MapWord}
use Rattle.arena_map.specs.declared.map_word.MapWord.TheVariants as map_words
use Rattle.arena_map.specs.MapLines.{IsWithinLimits}
use Rattle.arena_map.specs.Words.{word_text, kind_text}
use Rattle.arena_map.specs.Spelling.{word_of, point_text, fields_text, map_line_text}
use Rattle.demo_lines.specs.Lines.{is_printable, are_printable, ends_in_return, text_of}
use Rattle.demo_lines.specs.Spelling.{packet_text}
use Rattle.demo_lines.proofs.Prefixes.{bytes_eq-same}

-- the byte is printed, or a space
abbrev pub IsInk : ℕ → Type 0
IsInk b = (32 ≤ b) × (b ≤ 126)

abbrev pub AreInk : List ℕ → Type 0
AreInk bytes = AllByRecursion IsInk bytes

pub ink-append : (xs ys : List ℕ) → AreInk xs → AreInk ys → AreInk (xs ++ ys)
ink-append xs ys p q = each_of_both IsInk xs ys p q

-- ---- what they are not

ink-printable : (b : ℕ) → IsInk b → is_printable b ≡ true
ink-printable b ink = let low : 32 ≤ b = ink.0 in let high : b ≤ 126 = ink.1 in grind (arith, nat_tests)

pub are-printable : (bytes : List ℕ) → AreInk bytes → are_printable bytes ≡ true
are-printable [] ink = refl
are-printable (b ∷ bytes) ink = and_from (is_printable b) (are_printable bytes) (ink-printable b ink.0) (are-printable bytes ink.1)

no_feed : (b : ℕ) → IsInk b → (b == 10) ≡ false
no_feed b ink = let low : 32 ≤ b = ink.0 in grind (arith, nat_tests)

no_feeds : (bytes : List ℕ) → AreInk bytes → AllByRecursion (λ b. (b == 10) ≡ false) bytes
no_feeds [] p = tt
no_feeds (b ∷ bytes) p = (no_feed b p.0, no_feeds bytes p.1)

pub one_line : (bytes : List ℕ) → AreInk bytes → HasNoLineFeed bytes
one_line bytes p = All-from_recursion (λ b. (b == 10) ≡ false) bytes (no_feeds bytes p)

ink-drop : (n : ℕ) (bytes : List ℕ) → AreInk bytes → AreInk (drop n bytes)
ink-drop zero bytes ink = ink
ink-drop (suc n) [] ink = tt
ink-drop (suc n) (b ∷ bytes) ink = ink-drop n bytes ink.1

no_return : (bytes : List ℕ) (b : Bool) → AreInk bytes → bytes_eq bytes (codes "\r") ≡ b → b ≡ false
no_return bytes true ink is =
    let same : bytes ≡ codes "\r" = bytes_eq-same bytes (codes "\r") is in
    let first : AreInk (codes "\r") = subst AreInk same ink in
    let low : 32 ≤ 13 = first.0.0 in absurd (omega arith)
no_return bytes false ink is = refl

-- a written line is its own text
pub own_text : (bytes : List ℕ) → AreInk bytes → text_of bytes ≡ bytes
own_text bytes ink =
    let last = drop (length bytes - 1) bytes in
    let none : ends_in_return bytes ≡ false = no_return last (ends_in_return bytes) (ink-drop (length bytes - 1) bytes ink) refl in
    ap (λ b. cond b (take (length bytes - 1) bytes) bytes) none

-- ---- numbers

digit-ink : (d : ℕ) → is_digit d ≡ true → IsInk d
digit-ink d h =
    let parts = and_parts (nat_le 48 d) (nat_le d 57) h in
    let low : 48 ≤ d = grind (arith, nat_tests) in
    let high : d ≤ 57 = grind (arith, nat_tests) in
    (omega arith, omega arith)

digits-ink : (ds : List ℕ) → all_ascii_digits ds ≡ true → AreInk ds
digits-ink [] h = tt
digits-ink (d ∷ ds) h = let parts = and_parts (is_digit d) (all_ascii_digits ds) h in (digit-ink d parts.0, digits-ink ds parts.1)

pub decimal-ink : (n : ℕ) → n < 2 ^ 64 → AreInk (decimal n)
decimal-ink n small = digits-ink (decimal n) (digits_decimal own n small)

signed-ink : (z : ℤ) → unsigned_abs z < 2 ^ 64 → AreInk (signed_decimal z)
signed-ink (pos n) small = decimal-ink n small
signed-ink (negsuc n) small = ((omega arith, omega arith), decimal-ink (suc n) small)

-- ---- packets

table_above : AllByRecursion (λ b. 32 < b) lower_digits
table_above = search rules

table_below : AllByRecursion (λ b. b < 127) lower_digits
table_below = search rules

hex-ink : (d : ℕ) → d < 16 → IsInk (slice_index lower_digits d)
hex-ink d h =
    let low : 32 < slice_index lower_digits d = All-get_or (λ b. 32 < b) lower_digits d 0 h (All-from_recursion (λ b. 32 < b) lower_digits table_above) in
    let high : slice_index lower_digits d < 127 = All-get_or (λ b. b < 127) lower_digits d 0 h (All-from_recursion (λ b. b < 127) lower_digits table_below) in
    (omega arith, omega arith)

encoded-ink : (bytes : List ℕ) → AreBytes bytes → AreInk (encode_with lower_digits bytes)
unfolding encode_with
encoded-ink [] are = tt
encoded-ink (b ∷ bytes) are =
    let byte : b < 256 = All-head (λ c. c < 256) b bytes are in
    (hex-ink (b / 16) (omega arith), (hex-ink (b % 16) (omega arith), encoded-ink bytes (All-tail (λ c. c < 256) b bytes are)))

pub packet-ink : (bytes : List ℕ) → AreBytes bytes → AreInk (packet_text bytes)
packet-ink [] are = ((omega arith, omega arith), tt)
packet-ink (b ∷ bytes) are = encoded-ink (b ∷ bytes) are

-- ---- lines of the map

pub field-ink : (field : List ℕ) → AreInk field → AreInk (field_text field)
field-ink field ink = ((omega arith, omega arith), ink)

point-ink : (p : Vec3) → IsNear 1048576 p → AreInk (point_text p)
point-ink p near =
    let x = field_text (signed_decimal p.x) in
    let y = field_text (signed_decimal p.y) in
    let z = field_text (signed_decimal p.z) in
    ink-append (x ++ y) z (ink-append x y (field-ink _ (signed-ink p.x (omega (arith, near.x)))) (field-ink _ (signed-ink p.y (omega (arith, near.y)))))
    (field-ink _ (signed-ink p.z (omega (arith, near.z))))

corners-ink : (lo hi : Vec3) → IsNear 1048576 lo → IsNear 1048576 hi → AreInk (point_text lo ++ point_text hi)
corners-ink lo hi near_lo near_hi = ink-append (point_text lo) (point_text hi) (point-ink lo near_lo) (point-ink hi near_hi)

kind-ink : (kind : Kind) → is_item kind ≡ true → AreInk (kind_text kind)
kind-ink kinds.Ammo is = search rules
kind-ink kinds.Gem is = search rules
kind-ink kind is = cc

pub word-ink : (word : MapWord) → AreInk (word_text word)
word-ink map_words.Arena = search rules
word-ink map_words.Block = search rules
word-ink map_words.Spawn = search rules
word-ink map_words.Item = search rules
word-ink map_words.Teleport = search rules
word-ink map_words.Goal = search rules
word-ink map_words.Lift = search rules
word-ink map_words.Depth = search rules
word-ink map_words.Shots = search rules
word-ink map_words.Blocks = search rules

small-abs : (z : ℤ) (n : ℕ) → pos 1 ≤ℤ z → z ≤ℤ pos n → n < 2 ^ 63 → unsigned_abs z < 2 ^ 64
small-abs (pos m) n low high small = omega (arith, ints, low, high)
small-abs (negsuc m) n low high small = absurd (omega (arith, ints, low))

fields-ink : (line : MapLine) → IsWithinLimits line → AreInk (fields_text line)
fields-ink (Arena lo hi) is = corners-ink lo hi is.0 is.1
fields-ink (Block lo hi) is = corners-ink lo hi is.0 is.1
fields-ink (Spawn at) is = point-ink at is
fields-ink (Item at kind delay) is =
    ink-append (point_text at ++ field_text (kind_text kind)) (field_text (decimal delay))
    (ink-append (point_text at) (field_text (kind_text kind)) (point-ink at is.0) (field-ink _ (kind-ink kind is.1))) (field-ink _ (decimal-ink delay (omega (arith, is.3))))
fields-ink (Teleport lo hi dest) is = ink-append (point_text lo ++ point_text hi) (point_text dest) (corners-ink lo hi is.0 is.1) (point-ink dest is.2)
fields-ink (Goal lo hi) is = corners-ink lo hi is.0 is.1
fields-ink (Lift lo hi rise speed) is =
    ink-append ((point_text lo ++ point_text hi) ++ field_text (signed_decimal rise)) (field_text (signed_decimal speed))
    (ink-append (point_text lo ++ point_text hi) (field_text (signed_decimal rise)) (corners-ink lo hi is.0 is.1)
    (field-ink _ (signed-ink rise (small-abs rise 1048576 is.2 is.3 (omega arith)))))
    (field-ink _ (signed-ink speed (small-abs speed 2560 is.4 is.5 (omega arith))))
fields-ink (Depth depth) is = field-ink _ (decimal-ink depth (omega (arith, is.most)))
fields-ink Shots is = tt
fields-ink (Blocks most) is = field-ink _ (decimal-ink most (omega (arith, is.most)))

pub map_line-ink : (line : MapLine) → IsWithinLimits line → AreInk (map_line_text line)
map_line-ink line is = ink-append (word_text (word_of line)) (fields_text line) (word-ink (word_of line)) (fields-ink line is)

-- ---- packets have no space

hex_above : (d : ℕ) → d < 16 → 32 < slice_index lower_digits d
hex_above d h = All-get_or (λ b. 32 < b) lower_digits d 0 h (All-from_recursion (λ b. 32 < b) lower_digits table_above)

encoded_above : (bytes : List ℕ) → AreBytes bytes → AreAbove 32 (encode_with lower_digits bytes)
unfolding encode_with
encoded_above [] are = tt
encoded_above (b ∷ bytes) are =
    let byte : b < 256 = All-head (λ c. c < 256) b bytes are in
    (hex_above (b / 16) (omega arith), (hex_above (b % 16) (omega arith), encoded_above bytes (All-tail (λ c. c < 256) b bytes are)))

pub packet_above : (bytes : List ℕ) → AreBytes bytes → AreAbove 32 (packet_text bytes)
packet_above [] are = (omega arith, tt)
packet_above (b ∷ bytes) are = encoded_above (b ∷ bytes) are
