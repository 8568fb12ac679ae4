-- The lines of the map by their numbers.
use Rattle.std.proofs.Common.{lit≤, append-nil, cond, eqb, Bool, ◌≡◌, ℕ, zero, suc, ◌+◌, ◌*◌, ◌/◌, ◌%◌, ◌≤◌, ◌<◌, true, false, List, [], ◌∷◌, ◌++◌, length, map, take, Some, None, unsigned_abs, refl, sym, ap, ◌∙◌, arith, append_assoc, length-append}
use Rattle.std.specs.List.{range_with_len, slice_get}
use Rattle.std.specs.Fmt.{digits}
use Rattle.std.proofs.lemmas.Int.{ints}
use Rattle.std.proofs.lemmas.List.{map-append}
use Rattle.std.proofs.lemmas.List.Concat.{flat_map-append}
use Rattle.arena_geo.specs.Vectors.{IsNear}
use Rattle.edge_io.specs.declared.line_buf.TheConstants.{ROOM}
use Rattle.edge_io.specs.WholeLines.{unlines}
use Rattle.arena_map.specs.declared.map_line.MapLine.{MapLine}
use Rattle.entity_recs.specs.declared.kind.Kind.TheVariants.{Ammo, Gem}
use Rattle.arena_map.specs.MapLines.{IsWithinLimits}
use Rattle.arena_map.specs.Spelling.{map_line_text}
use Rattle.hex.specs.Hex.{lower_digits}
use Rattle.hex.proofs.HexLemmas.{length-encode_with}
use Rattle.entity_recs.specs.Kinds.{is_item}
use Rattle.demo_lines.specs.Spelling.{packet_text}
use Rattle.demo_make.specs.GeneratedMap.{in_row, spawn_at, block_corner, spawn_line, block_line, item_line, things, generated_lines, low_teleport, high_teleport, goal_line, lift_line}

-- ---- places in lists

nth : {X : Type 0} (f : ℕ → X) (a n i : ℕ) → i < n → slice_get (map f (range_with_len a n)) i ≡ Some (f (a + i))
nth f a zero i h = absurd (omega arith)
nth f a (suc n) zero h = ap (λ k. Some (f k)) (omega arith)
nth f a (suc n) (suc i) h = nth f (a + 1) n i (omega arith) ∙ ap (λ k. Some (f k)) (omega arith)

within_front : {X : Type 0} (xs ys : List X) (i : ℕ) (x : X) → slice_get xs i ≡ Some x → slice_get (xs ++ ys) i ≡ Some x
within_front [] ys i x h = absurd (none_is_some h)
  where
    none_is_some : {X : Type 0} {x : X} → None ≡ Some x → ⊥
    none_is_some e = cc
within_front (y ∷ xs) ys zero x h = h
within_front (y ∷ xs) ys (suc i) x h = within_front xs ys i x h

behind_front : {X : Type 0} (xs ys : List X) (i k : ℕ) → i ≡ length xs + k → slice_get (xs ++ ys) i ≡ slice_get ys k
behind_front [] ys i k h = ap (slice_get ys) (omega arith)
behind_front (x ∷ xs) ys zero k h = absurd (omega arith)
behind_front (x ∷ xs) ys (suc i) k h = behind_front xs ys i k (omega arith)

-- ---- each kind

pub spawn_there : (index i : ℕ) → index ≡ i + 1 → i < 64 → slice_get generated_lines index ≡ Some (spawn_line i)
spawn_there index i e h =
    let suc_i : index ≡ suc i = omega arith in
    let spawns = map spawn_line (range_with_len 0 64) in
    let blocks = map block_line (range_with_len 0 16) in
    rw suc_i (within_front spawns (blocks ++ things) i (spawn_line i)
    (nth spawn_line 0 64 i h ∙ ap (λ k. Some (spawn_line k)) (omega arith)))

pub block_there : (index j : ℕ) → index ≡ j + 65 → j < 16 → slice_get generated_lines index ≡ Some (block_line j)
block_there index j e h =
    let suc_i : index ≡ suc (64 + j) = omega arith in
    let spawns = map spawn_line (range_with_len 0 64) in
    let blocks = map block_line (range_with_len 0 16) in
    rw suc_i (behind_front spawns (blocks ++ things) (64 + j) j refl
    ∙ within_front blocks things j (block_line j)
    (nth block_line 0 16 j h ∙ ap (λ k. Some (block_line k)) (omega arith)))

pub item_there : (index j : ℕ) → index ≡ j + 81 → j < 16 → slice_get generated_lines index ≡ Some (item_line j)
item_there index j e h =
    let suc_i : index ≡ suc (64 + (16 + j)) = omega arith in
    let spawns = map spawn_line (range_with_len 0 64) in
    let blocks = map block_line (range_with_len 0 16) in
    let items = map item_line (range_with_len 0 16) in
    rw suc_i (behind_front spawns (blocks ++ things) (64 + (16 + j)) (16 + j) refl
    ∙ behind_front blocks things (16 + j) j refl
    ∙ within_front items (low_teleport ∷ high_teleport ∷ goal_line ∷ lift_line ∷ []) j (item_line j)
    (nth item_line 0 16 j h ∙ ap (λ k. Some (item_line k)) (omega arith)))

-- ---- their numbers

row-near : (apart first i : ℕ) → i * apart ≤ 1048576 → first ≤ 1048576 → unsigned_abs (in_row apart first i) ≤ 1048576
row-near apart first i far near = omega (arith, ints)

pub spawn-near : (i : ℕ) → i < 64 → IsNear 1048576 (spawn_at i)
spawn-near i h = record {
  x = row-near 49152 172032 (i % 8) (omega arith) (omega arith);
  y = row-near 49152 172032 (i / 8) (omega arith) (omega arith);
  z = omega arith;
}

pub corner-near : (j : ℕ) → j < 16 → IsNear 1048576 (block_corner j)
corner-near j h = record {
  x = row-near 98304 151552 (j % 4) (omega arith) (omega arith);
  y = row-near 98304 151552 (j / 4) (omega arith) (omega arith);
  z = omega arith;
}

pub block-near : (j : ℕ) → j < 16 → IsWithinLimits (block_line j)
block-near j h = (
  corner-near j h,
  record { x = omega (arith, ints); y = omega (arith, ints); z = omega arith },
)

pub item-near : (j : ℕ) → j < 16 → IsWithinLimits (item_line j)
item-near j h = (
  record {
    x = row-near 98304 151552 (j % 4) (omega arith) (omega arith);
    y = row-near 98304 176128 (j / 4) (omega arith) (omega arith);
    z = omega arith;
  },
  item-kind (eqb (j % 2) 0),
  omega arith,
  omega arith,
)
  where
    item-kind : (even : Bool) → is_item (cond even Ammo Gem) ≡ true
    item-kind true = refl
    item-kind false = refl

-- ---- their text

-- the text of the lines before this one
abbrev pub text_before : ℕ → List ℕ
text_before i = unlines (map map_line_text (take i generated_lines))

pub take-next : {X : Type 0} (xs : List X) (i : ℕ) (x : X) → slice_get xs i ≡ Some x → take (i + 1) xs ≡ take i xs ++ x ∷ []
take-next [] i x h = absurd (none_is_some h)
  where
    none_is_some : {X : Type 0} {x : X} → None ≡ Some x → ⊥
    none_is_some e = cc
take-next (y ∷ xs) zero x h = ap (λ z. z ∷ []) (some-same h)
  where
    some-same : {X : Type 0} {y x : X} → Some y ≡ Some x → y ≡ x
    some-same e = cc
take-next (y ∷ xs) (suc i) x h =
    let e : suc i + 1 ≡ suc (i + 1) = omega arith in rw e (ap (λ t. y ∷ t) (take-next xs i x h))

pub text_before-next : (i : ℕ) (line : MapLine) → slice_get generated_lines i ≡ Some line
    → text_before (i + 1) ≡ (text_before i ++ map_line_text line) ++ 10 ∷ []
text_before-next i line h =
    ap (λ ls. unlines (map map_line_text ls)) (take-next generated_lines i line h)
    ∙ ap unlines (map-append map_line_text (take i generated_lines) (line ∷ []))
    ∙ flat_map-append (λ l. l ++ 10 ∷ []) (map map_line_text (take i generated_lines)) (map_line_text line ∷ [])
    ∙ ap (λ t. text_before i ++ t) (append-nil (map_line_text line ++ 10 ∷ []))
    ∙ sym (append_assoc (text_before i) (map_line_text line) (10 ∷ []))

-- a text before a line and this line are no longer than the whole text
length-before : (xs : List MapLine) (i : ℕ)
    → length (unlines (map map_line_text (take i xs))) ≤ length (unlines (map map_line_text xs))
length-before [] zero = omega arith
length-before [] (suc i) = omega arith
length-before (x ∷ xs) zero = omega arith
length-before (x ∷ xs) (suc i) =
    omega (
      arith,
      length-append (map_line_text x ++ 10 ∷ []) (unlines (map map_line_text (take i xs))),
      length-append (map_line_text x ++ 10 ∷ []) (unlines (map map_line_text xs)),
      length-before xs i,
    )

-- the lines of the map are few enough for the buffer
pub whole-fits : length (unlines (map map_line_text generated_lines)) ≤ 8300
unfolding digits
whole-fits = lit≤ tt

pub line-fits : (i : ℕ) (line : MapLine) → slice_get generated_lines i ≡ Some line
    → length (text_before i) + length (map_line_text line) + 1 ≤ ROOM
line-fits i line h =
    omega (
      arith,
      ap length (text_before-next i line h),
      length-append (text_before i ++ map_line_text line) (10 ∷ []),
      length-append (text_before i) (map_line_text line),
      length-before generated_lines (i + 1),
      whole-fits,
    )

-- ---- a packet

pub packet-long : (bytes : List ℕ) → length bytes ≤ 64 → length (packet_text bytes) ≤ 128
packet-long [] few = omega arith
packet-long (b ∷ bytes) few = omega (arith, length-encode_with lower_digits (b ∷ bytes))
