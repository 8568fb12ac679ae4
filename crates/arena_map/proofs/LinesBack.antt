-- A line that was printed is read as that line.
use Rattle.std.proofs.Common.{◌≡◌, ℕ, zero, suc, ◌≤◌, nat_le, true, List, [], ◌++◌, Option, Some, None, Ok, Err, ok_or, cond, refl, sym, ap, ◌∙◌, arith, ℤ, pos, negsuc, ◌≤ℤ◌, unsigned_abs, decimal, append_assoc, append-nil, rules}
use Rattle.std.specs.Fmt.{signed_decimal}
use Rattle.std.proofs.lemmas.Bool.Decides.{nat_tests}
use Rattle.std.proofs.lemmas.Int.{ints}
use Rattle.arena_geo.specs.declared.vec3.Vec3.{Vec3}
use Rattle.arena_geo.specs.Vectors.{IsNear}
use Rattle.entity_recs.specs.declared.kind.Kind.{Kind}
use Rattle.entity_recs.specs.declared.kind.Kind.TheVariants as kinds
use Rattle.edge_io.specs.Numbers.{natural_up_to, integer_up_to}
use Rattle.edge_io.specs.Fields.{◌>>=◌, field_text}
use Rattle.edge_io.proofs.Decimals.{natural-decimal, integer-decimal}
use Rattle.edge_io.proofs.FieldTexts.{AreAbove, IsEnd, decimal_above, signed_above, cut-field, field_at-field}
use Rattle.entity_recs.specs.Kinds.{is_item}
use Rattle.areanode.specs.declared.sizes.TheConstants.{LEAST_DEPTH, MOST_DEPTH}
use Rattle.areanode.specs.Trees.{IsTreeDepth}
use Rattle.arena_map.specs.declared.limits.TheConstants.{DEFAULT_BLOCKS, MOST_BLOCKS}
use Rattle.arena_map.specs.declared.map_line.MapLine.{MapLine}
use Rattle.arena_map.specs.declared.map_line.MapLine.TheVariants.{Arena, Block, Spawn, Item, Teleport, Goal, Lift, Depth, Shots, Blocks}
use Rattle.arena_map.specs.declared.map_word.MapWord.{MapWord}
use Rattle.arena_map.specs.declared.map_word.MapWord.TheVariants as words
use Rattle.arena_map.specs.MapLines.{IsWithinLimits, IsBlockLimit}
use Rattle.arena_map.specs.Words.{word_text, map_word, kind_text, item_kind}
use Rattle.arena_map.specs.Reading.{coordinate_at, point_at, above_zero, count_at, kind_at, line_at_end, corners_at, at_least, number_between, line_within, line_of_word, line_of_first, map_line_of}
use Rattle.arena_map.specs.Spelling.{word_of, point_text, fields_text, map_line_text}
use Rattle.arena_map.proofs.LinesSound.{within-form}

-- ---- the fields

coordinate-back : (z : ℤ) (rest : List ℕ) → unsigned_abs z ≤ 1048576 → IsEnd rest → coordinate_at (field_text (signed_decimal z) ++ rest) ≡ Some (z, rest)
coordinate-back z rest near ends =
    let Read : Option (List ℕ × List ℕ) → Option (ℤ × List ℕ) = λ f. f >>= (λ field. integer_up_to 1048576 field.0 >>= (λ y. Some (y, field.1))) in
    let Value : Option ℤ → Option (ℤ × List ℕ) = λ y. y >>= (λ x. Some (x, rest)) in
    ap Read (field_at-field (signed_decimal z) rest (signed_above z (omega arith)) ends)
    ∙ ap Value (integer-decimal 1048576 z (omega arith) near)

point-back : (p : Vec3) (rest : List ℕ) → IsNear 1048576 p → IsEnd rest → point_at (point_text p ++ rest) ≡ Some (p, rest)
point-back p rest near ends =
    let x = field_text (signed_decimal p.x) in
    let y = field_text (signed_decimal p.y) in
    let z = field_text (signed_decimal p.z) in
    ap point_at (append_assoc (x ++ y) z rest ∙ append_assoc x y (z ++ rest))
    ∙ rw (coordinate-back p.x (y ++ (z ++ rest)) near.x refl, coordinate-back p.y (z ++ rest) near.y refl, coordinate-back p.z rest near.z ends) refl

last-point : (p : Vec3) → IsNear 1048576 p → point_at (point_text p) ≡ Some (p, [])
last-point p near = ap point_at (sym (append-nil (point_text p))) ∙ point-back p [] near tt

some-above : (n : ℕ) → 1 ≤ n → above_zero n ≡ Some n
some-above zero h = absurd (omega (arith, h))
some-above (suc n) h = refl

count-back : (limit n : ℕ) (rest : List ℕ) → 1 ≤ n → n ≤ limit → limit ≤ 1048576 → IsEnd rest → count_at limit (field_text (decimal n) ++ rest) ≡ Some (n, rest)
count-back limit n rest some few low ends =
    let Read : Option (List ℕ × List ℕ) → Option (ℕ × List ℕ) =
    λ f. f >>= (λ field. natural_up_to limit field.0 >>= (λ m. above_zero m >>= (λ count. Some (count, field.1)))) in
    let Value : Option ℕ → Option (ℕ × List ℕ) = λ y. y >>= (λ m. above_zero m >>= (λ count. Some (count, rest))) in
    let Count : Option ℕ → Option (ℕ × List ℕ) = λ y. y >>= (λ count. Some (count, rest)) in
    ap Read (field_at-field (decimal n) rest (decimal_above n (omega (arith, few, low))) ends)
    ∙ ap Value (natural-decimal limit n (omega (arith, few, low)) few)
    ∙ ap Count (some-above n some)

last-count : (limit n : ℕ) → 1 ≤ n → n ≤ limit → limit ≤ 1048576 → count_at limit (field_text (decimal n)) ≡ Some (n, [])
last-count limit n some few low = ap (count_at limit) (sym (append-nil (field_text (decimal n)))) ∙ count-back limit n [] some few low tt

pub kind-above : (kind : Kind) → is_item kind ≡ true → AreAbove 32 (kind_text kind)
kind-above kinds.Ammo is = search rules
kind-above kinds.Gem is = search rules
kind-above kind is = cc

item_kind-back : (kind : Kind) → is_item kind ≡ true → item_kind (kind_text kind) ≡ Some kind
item_kind-back kinds.Ammo is = refl
item_kind-back kinds.Gem is = refl
item_kind-back kind is = cc

kind-back : (kind : Kind) (rest : List ℕ) → is_item kind ≡ true → IsEnd rest → kind_at (field_text (kind_text kind) ++ rest) ≡ Some (kind, rest)
kind-back kind rest is ends =
    let Read : Option (List ℕ × List ℕ) → Option (Kind × List ℕ) = λ f. f >>= (λ field. item_kind field.0 >>= (λ k. Some (k, field.1))) in
    let Value : Option Kind → Option (Kind × List ℕ) = λ k. k >>= (λ one. Some (one, rest)) in
    ap Read (field_at-field (kind_text kind) rest (kind-above kind is) ends) ∙ ap Value (item_kind-back kind is)

corners-back : (lo hi : Vec3) (rest : List ℕ) → IsNear 1048576 lo → IsNear 1048576 hi → IsEnd rest
    → corners_at ((point_text lo ++ point_text hi) ++ rest) ≡ Some (lo, hi, rest)
corners-back lo hi rest near_lo near_hi ends =
    let Hi : Option (Vec3 × List ℕ) → Option (Vec3 × Vec3 × List ℕ) = λ o. o >>= (λ l. point_at l.1 >>= (λ h. Some (l.0, h.0, h.1))) in
    let Both : Option (Vec3 × List ℕ) → Option (Vec3 × Vec3 × List ℕ) = λ o. o >>= (λ h. Some (lo, h.0, h.1)) in
    ap corners_at (append_assoc (point_text lo) (point_text hi) rest)
    ∙ ap Hi (point-back lo (point_text hi ++ rest) near_lo refl)
    ∙ ap Both (point-back hi rest near_hi ends)

last-corners : (lo hi : Vec3) → IsNear 1048576 lo → IsNear 1048576 hi → corners_at (point_text lo ++ point_text hi) ≡ Some (lo, hi, [])
last-corners lo hi near_lo near_hi =
    ap corners_at (sym (append-nil (point_text lo ++ point_text hi))) ∙ corners-back lo hi [] near_lo near_hi tt

-- ---- the lines

item-back : (at : Vec3) (kind : Kind) (delay : ℕ) → IsWithinLimits (Item at kind delay) → line_within words.Item (fields_text (Item at kind delay)) ≡ Some (Item at kind delay)
item-back at kind delay limits =
    let kind_field = field_text (kind_text kind) in
    let delay_field = field_text (decimal delay) in
    let At : Option (Vec3 × List ℕ) → Option MapLine =
    λ o. o >>= (λ p. kind_at p.1 >>= (λ k. count_at 65535 k.1 >>= (λ d. line_at_end (Item p.0 k.0 d.0) d.1))) in
    let KindOf : Option (Kind × List ℕ) → Option MapLine = λ o. o >>= (λ k. count_at 65535 k.1 >>= (λ d. line_at_end (Item at k.0 d.0) d.1)) in
    let Delay : Option (ℕ × List ℕ) → Option MapLine = λ o. o >>= (λ d. line_at_end (Item at kind d.0) d.1) in
    ap (line_within words.Item) (append_assoc (point_text at) kind_field delay_field)
    ∙ ap At (point-back at (kind_field ++ delay_field) limits.0 refl)
    ∙ ap KindOf (kind-back kind delay_field limits.1 refl)
    ∙ ap Delay (last-count 65535 delay limits.2 limits.3 (omega arith))

teleport-back : (lo hi dest : Vec3) → IsWithinLimits (Teleport lo hi dest)
    → line_within words.Teleport (fields_text (Teleport lo hi dest)) ≡ Some (Teleport lo hi dest)
teleport-back lo hi dest limits =
    let Corners : Option (Vec3 × Vec3 × List ℕ) → Option MapLine = λ o. o >>= (λ c. point_at c.2 >>= (λ d. line_at_end (Teleport c.0 c.1 d.0) d.1)) in
    let Dest : Option (Vec3 × List ℕ) → Option MapLine = λ o. o >>= (λ d. line_at_end (Teleport lo hi d.0) d.1) in
    ap Corners (corners-back lo hi (point_text dest) limits.0 limits.1 refl) ∙ ap Dest (last-point dest limits.2)

-- a lift's numbers, which are above 0
lift-numbers-back : (lo hi : Vec3) (rise speed : ℕ) → IsNear 1048576 lo → IsNear 1048576 hi → 1 ≤ rise → rise ≤ 1048576 → 1 ≤ speed → speed ≤ 2560
    → line_within words.Lift (fields_text (Lift lo hi (pos rise) (pos speed))) ≡ Some (Lift lo hi (pos rise) (pos speed))
lift-numbers-back lo hi rise speed near_lo near_hi least_rise most_rise least_speed most_speed =
    let rise_field = field_text (decimal rise) in
    let speed_field = field_text (decimal speed) in
    let Corners : Option (Vec3 × Vec3 × List ℕ) → Option MapLine =
    λ o. o >>= (λ c. count_at 1048576 c.2 >>= (λ r. count_at 2560 r.1 >>= (λ s. line_at_end (Lift c.0 c.1 (pos r.0) (pos s.0)) s.1))) in
    let Rise : Option (ℕ × List ℕ) → Option MapLine = λ o. o >>= (λ r. count_at 2560 r.1 >>= (λ s. line_at_end (Lift lo hi (pos r.0) (pos s.0)) s.1)) in
    let Speed : Option (ℕ × List ℕ) → Option MapLine = λ o. o >>= (λ s. line_at_end (Lift lo hi (pos rise) (pos s.0)) s.1) in
    ap (line_within words.Lift) (append_assoc (point_text lo ++ point_text hi) rise_field speed_field)
    ∙ ap Corners (corners-back lo hi (rise_field ++ speed_field) near_lo near_hi refl)
    ∙ ap Rise (count-back 1048576 rise speed_field least_rise most_rise (omega arith) refl)
    ∙ ap Speed (last-count 2560 speed least_speed most_speed (omega arith))

nat-least : (n : ℕ) → pos 1 ≤ℤ pos n → 1 ≤ n
nat-least n h = omega (arith, ints, h)

nat-most : (n limit : ℕ) → pos n ≤ℤ pos limit → n ≤ limit
nat-most n limit h = omega (arith, ints, h)

lift-back : (lo hi : Vec3) (rise speed : ℤ) → IsWithinLimits (Lift lo hi rise speed)
    → line_within words.Lift (fields_text (Lift lo hi rise speed)) ≡ Some (Lift lo hi rise speed)
lift-back lo hi (pos rise) (pos speed) limits =
    lift-numbers-back lo hi rise speed limits.0 limits.1 (nat-least rise limits.2) (nat-most rise 1048576 limits.3) (nat-least speed limits.4) (nat-most speed 2560 limits.5)
lift-back lo hi (negsuc rise) speed limits = let least = limits.2 in absurd (omega (arith, ints, least))
lift-back lo hi (pos rise) (negsuc speed) limits = let least = limits.4 in absurd (omega (arith, ints, least))

some-at_least : (least n : ℕ) → least ≤ n → at_least least n ≡ Some n
some-at_least least n h =
    let reached : nat_le least n ≡ true = grind (arith, nat_tests) in
    ap (λ b. cond b (Some n) None) reached

between-back : (least most n : ℕ) (rest : List ℕ) → least ≤ n → n ≤ most → most ≤ 1048576 → IsEnd rest
    → number_between least most (field_text (decimal n) ++ rest) ≡ Some (n, rest)
between-back least most n rest low few small ends =
    let Read : Option (List ℕ × List ℕ) → Option (ℕ × List ℕ) =
    λ f. f >>= (λ field. natural_up_to most field.0 >>= (λ m. at_least least m >>= (λ number. Some (number, field.1)))) in
    let Value : Option ℕ → Option (ℕ × List ℕ) = λ y. y >>= (λ m. at_least least m >>= (λ number. Some (number, rest))) in
    let Reached : Option ℕ → Option (ℕ × List ℕ) = λ y. y >>= (λ number. Some (number, rest)) in
    ap Read (field_at-field (decimal n) rest (decimal_above n (omega (arith, few, small))) ends)
    ∙ ap Value (natural-decimal most n (omega (arith, few, small)) few)
    ∙ ap Reached (some-at_least least n low)

depth-back : (depth : ℕ) → IsTreeDepth depth → line_within words.Depth (fields_text (Depth depth)) ≡ Some (Depth depth)
depth-back depth range =
    let Line : Option (ℕ × List ℕ) → Option MapLine = λ o. o >>= (λ d. line_at_end (Depth d.0) d.1) in
    ap (line_within words.Depth) (sym (append-nil (field_text (decimal depth))))
    ∙ ap Line (between-back LEAST_DEPTH MOST_DEPTH depth [] range.least range.most (omega arith) tt)

blocks-back : (most : ℕ) → IsBlockLimit most → line_within words.Blocks (fields_text (Blocks most)) ≡ Some (Blocks most)
blocks-back most range =
    let Line : Option (ℕ × List ℕ) → Option MapLine = λ o. o >>= (λ m. line_at_end (Blocks m.0) m.1) in
    ap (line_within words.Blocks) (sym (append-nil (field_text (decimal most))))
    ∙ ap Line (between-back DEFAULT_BLOCKS MOST_BLOCKS most [] range.least range.most (omega arith) tt)

within-back : (l : MapLine) → IsWithinLimits l → line_within (word_of l) (fields_text l) ≡ Some l
within-back (Arena lo hi) limits =
    let Line : Option (Vec3 × Vec3 × List ℕ) → Option MapLine = λ o. o >>= (λ c. line_at_end (Arena c.0 c.1) c.2) in
    ap Line (last-corners lo hi limits.0 limits.1)
within-back (Block lo hi) limits =
    let Line : Option (Vec3 × Vec3 × List ℕ) → Option MapLine = λ o. o >>= (λ c. line_at_end (Block c.0 c.1) c.2) in
    ap Line (last-corners lo hi limits.0 limits.1)
within-back (Spawn at) limits =
    let Line : Option (Vec3 × List ℕ) → Option MapLine = λ o. o >>= (λ p. line_at_end (Spawn p.0) p.1) in
    ap Line (last-point at limits)
within-back (Item at kind delay) limits = item-back at kind delay limits
within-back (Teleport lo hi dest) limits = teleport-back lo hi dest limits
within-back (Goal lo hi) limits =
    let Line : Option (Vec3 × Vec3 × List ℕ) → Option MapLine = λ o. o >>= (λ c. line_at_end (Goal c.0 c.1) c.2) in
    ap Line (last-corners lo hi limits.0 limits.1)
within-back (Lift lo hi rise speed) limits = lift-back lo hi rise speed limits
within-back (Depth depth) limits = depth-back depth limits
within-back Shots limits = refl
within-back (Blocks most) limits = blocks-back most limits

-- ---- the whole line

word-above : (word : MapWord) → AreAbove 32 (word_text word)
word-above words.Arena = search rules
word-above words.Block = search rules
word-above words.Spawn = search rules
word-above words.Item = search rules
word-above words.Teleport = search rules
word-above words.Goal = search rules
word-above words.Lift = search rules
word-above words.Depth = search rules
word-above words.Shots = search rules
word-above words.Blocks = search rules

pub map_word-back : (word : MapWord) → map_word (word_text word) ≡ Some word
map_word-back words.Arena = refl
map_word-back words.Block = refl
map_word-back words.Spawn = refl
map_word-back words.Item = refl
map_word-back words.Teleport = refl
map_word-back words.Goal = refl
map_word-back words.Lift = refl
map_word-back words.Depth = refl
map_word-back words.Shots = refl
map_word-back words.Blocks = refl

-- the fields begin with a space
fields-end : (l : MapLine) → IsEnd (fields_text l)
fields-end (Arena lo hi) = refl
fields-end (Block lo hi) = refl
fields-end (Spawn at) = refl
fields-end (Item at kind delay) = refl
fields-end (Teleport lo hi dest) = refl
fields-end (Goal lo hi) = refl
fields-end (Lift lo hi rise speed) = refl
fields-end (Depth depth) = refl
fields-end Shots = tt
fields-end (Blocks most) = refl

word-back : (word : MapWord) (rest : List ℕ) (l : MapLine) → line_within word rest ≡ Some l → line_of_word word rest ≡ Ok l
word-back word rest l h =
    ap (λ b. cond b (ok_or (line_within word rest) 6) (Err 4)) (within-form word rest l h) ∙ ap (λ o. ok_or o 6) h

pub line-back : (l : MapLine) → IsWithinLimits l → map_line_of (map_line_text l) ≡ Ok l
line-back l limits =
    let parts = cut-field (word_text (word_of l)) (fields_text l) (word-above (word_of l)) (fields-end l) in
    ap (λ (p : List ℕ × List ℕ). line_of_first (map_word p.0) p.1) parts
    ∙ ap (λ o. line_of_first o (fields_text l)) (map_word-back (word_of l))
    ∙ word-back (word_of l) (fields_text l) l (within-back l limits)
