-- A text that is read as a line is the text of that line, has the form of its word, and its numbers are within their limits.
use Rattle.std.proofs.Common.{◌≡◌, ℕ, zero, suc, ◌≤◌, nat_le, Bool, true, false, ◌&&◌, List, [], ◌∷◌, ◌++◌, Option, Some, None, Result, Ok, Err, ok_or, cond, codes, bytes_eq, refl, sym, ap, ◌∙◌, subst, arith, ℤ, pos, ◌≤ℤ◌, unsigned_abs, decimal, append_assoc, append-nil}
use Rattle.std.specs.Fmt.{signed_decimal}
use Rattle.std.proofs.lemmas.Slice.Eq.{bytes_eq-Decides}
use Rattle.std.proofs.lemmas.Bool.Decides.{nat_tests}
use Rattle.std.proofs.lemmas.Int.{ints}
use Rattle.std.proofs.lemmas.Option.{same_Some}
use Rattle.arena_geo.specs.declared.vec3.Vec3.{Vec3}
use Rattle.arena_geo.specs.Vectors.{IsNear}
use Rattle.entity_recs.specs.declared.kind.Kind.{Kind}
use Rattle.entity_recs.specs.declared.kind.Kind.TheVariants as kinds
use Rattle.edge_io.specs.Numbers.{natural_up_to, integer_up_to, is_integer}
use Rattle.edge_io.specs.Fields.{◌>>=◌, cut, field_at, field_text}
use Rattle.edge_io.proofs.Decimals.{natural-spelled, integer-spelled, integer-form, natural-integer}
use Rattle.edge_io.proofs.FieldTexts.{cut-whole, field_at-whole}
use Rattle.entity_recs.specs.Kinds.{is_item}
use Rattle.areanode.specs.declared.sizes.TheConstants.{LEAST_DEPTH, MOST_DEPTH}
use Rattle.arena_map.specs.declared.limits.TheConstants.{DEFAULT_BLOCKS, MOST_BLOCKS}
use Rattle.arena_map.specs.declared.map_line.MapLine.{MapLine}
use Rattle.arena_map.specs.declared.map_line.MapLine.TheVariants.{Arena, Block, Spawn, Item, Teleport, Goal, Lift, Depth, Shots, Blocks}
use Rattle.arena_map.specs.declared.map_word.MapWord.{MapWord}
use Rattle.arena_map.specs.declared.map_word.MapWord.TheVariants as words
use Rattle.arena_map.specs.declared.map_word.MapField.{MapField}
use Rattle.arena_map.specs.declared.map_word.MapField.TheVariants.{Number, ItemKind}
use Rattle.arena_map.specs.MapLines.{IsWithinLimits}
use Rattle.arena_map.specs.Words.{word_text, map_word, kind_text, item_kind, numbers, fields_of}
use Rattle.arena_map.specs.Reading.{is_field_first, has_fields, coordinate_at, point_at, above_zero, count_at, kind_at, at_least, number_between, depth_in, blocks_in, line_at_end, corners_at, arena_in, block_in, spawn_in, item_in, teleport_in, goal_in, lift_in, line_within, line_of_word, line_of_first, map_line_of}
use Rattle.arena_map.specs.Spelling.{word_of, point_text, fields_text, map_line_text}

-- ---- steps

-- the value in between, where both gave one
record Binds {A B : Type 0} (o : Option A) (f : A → Option B) (y : B) : Type 0 where
  at : A
  is : o ≡ Some at
  gives : f at ≡ Some y

binds : {A B : Type 0} (o : Option A) (f : A → Option B) (y : B) → o >>= f ≡ Some y → Binds o f y
binds None f y h = cc
binds (Some x) f y h = record { at = x; is = refl; gives = h }

-- these fields were read, written so, and this is after them
pub record IsRead (fields : List MapField) (text rest after : List ℕ) : Type 0 where
  pub spelled : rest ≡ text ++ after
  pub form : (more : List MapField) → has_fields (fields ++ more) rest ≡ has_fields more after

read-then : (f g : List MapField) (t u rest middle after : List ℕ) → IsRead f t rest middle → IsRead g u middle after → IsRead (f ++ g) (t ++ u) rest after
read-then f g t u rest middle after one other = record {
  spelled = one.spelled ∙ ap (λ s. t ++ s) other.spelled ∙ sym (append_assoc t u after);
  form = λ more. ap (λ fields. has_fields fields rest) (append_assoc f g more) ∙ one.form (g ++ more) ∙ other.form more;
}

-- ---- the fields

field-read : (field : MapField) (rest : List ℕ) (parts : List ℕ × List ℕ) → field_at rest ≡ Some parts
    → ((more : List ℕ → Bool) → is_field_first field (Some parts) more ≡ more parts.1) → IsRead (field ∷ []) (field_text parts.0) rest parts.1
field-read field rest parts at is = record {
  spelled = field_at-whole rest parts at;
  form = λ more. ap (λ o. is_field_first field o (has_fields more)) at ∙ is (has_fields more);
}

number-first : (parts : List ℕ × List ℕ) → is_integer parts.0 ≡ true → (more : List ℕ → Bool) → is_field_first Number (Some parts) more ≡ more parts.1
number-first parts is more = ap (λ b. b && more parts.1) is

-- a coordinate was read
abbrev ReadsCoordinate : List ℕ → ℤ × List ℕ → Type 0
ReadsCoordinate rest c = (unsigned_abs c.0 ≤ 1048576) × IsRead (numbers 1) (field_text (signed_decimal c.0)) rest c.1

coordinate-read : (rest : List ℕ) (c : ℤ × List ℕ) → coordinate_at rest ≡ Some c → ReadsCoordinate rest c
coordinate-read rest c h =
    let field = binds (field_at rest) _ c h in
    let z = binds (integer_up_to 1048576 field.at.0) _ c field.gives in
    let spelled = integer-spelled 1048576 z.at field.at.0 (omega arith) z.is in
    let read = field-read Number rest field.at field.is (number-first field.at (integer-form 1048576 z.at field.at.0 z.is)) in
    let Text : List ℕ → Type 0 = λ text. IsRead (numbers 1) (field_text text) rest field.at.1 in
    let P : ℤ × List ℕ → Type 0 = ReadsCoordinate rest in
    subst P (same_Some (z.at, field.at.1) c z.gives) (spelled.1, subst Text spelled.0 read)

-- a point was read
abbrev ReadsPoint : List ℕ → Vec3 × List ℕ → Type 0
ReadsPoint rest p = IsNear 1048576 p.0 × IsRead (numbers 3) (point_text p.0) rest p.1

point-read : (rest : List ℕ) (p : Vec3 × List ℕ) → point_at rest ≡ Some p → ReadsPoint rest p
point-read rest p h =
    let x = binds (coordinate_at rest) _ p h in
    let y = binds (coordinate_at x.at.1) _ p x.gives in
    let z = binds (coordinate_at y.at.1) _ p y.gives in
    let read_x = coordinate-read rest x.at x.is in
    let read_y = coordinate-read x.at.1 y.at y.is in
    let read_z = coordinate-read y.at.1 z.at z.is in
    let P : Vec3 × List ℕ → Type 0 = ReadsPoint rest in
    subst P (same_Some _ p z.gives) (
      record { x = read_x.0; y = read_y.0; z = read_z.0 },
      read-then (numbers 2) (numbers 1) _ _ rest y.at.1 z.at.1 (read-then (numbers 1) (numbers 1) _ _ rest x.at.1 y.at.1 read_x.1 read_y.1) read_z.1,
    )

-- a count was read
abbrev ReadsCount : ℕ → List ℕ → ℕ × List ℕ → Type 0
ReadsCount limit rest c = (1 ≤ c.0) × (c.0 ≤ limit) × IsRead (numbers 1) (field_text (decimal c.0)) rest c.1

positive : (n c : ℕ) → above_zero n ≡ Some c → (1 ≤ c) × (n ≡ c)
positive zero c h = cc
positive (suc n) c h = let e = same_Some (suc n) c h in (omega (arith, e), e)

count-read : (limit : ℕ) (rest : List ℕ) (c : ℕ × List ℕ) → limit ≤ 1048576 → count_at limit rest ≡ Some c → ReadsCount limit rest c
count-read limit rest c low h =
    let field = binds (field_at rest) _ c h in
    let n = binds (natural_up_to limit field.at.0) _ c field.gives in
    let count = binds (above_zero n.at) _ c n.gives in
    let spelled = natural-spelled limit n.at field.at.0 (omega (arith, low)) n.is in
    let some = positive n.at count.at count.is in
    let read = field-read Number rest field.at field.is (number-first field.at (natural-integer limit n.at field.at.0 n.is (omega (arith, low)))) in
    let Text : List ℕ → Type 0 = λ text. IsRead (numbers 1) (field_text text) rest field.at.1 in
    let P : ℕ × List ℕ → Type 0 = ReadsCount limit rest in
    subst P (same_Some (count.at, field.at.1) c count.gives)
    (some.0, omega (arith, spelled.1, some.1), subst Text (spelled.0 ∙ ap decimal some.1) read)

-- a kind was read
abbrev ReadsKind : List ℕ → Kind × List ℕ → Type 0
ReadsKind rest k = (is_item k.0 ≡ true) × IsRead (ItemKind ∷ []) (field_text (kind_text k.0)) rest k.1

pub kind-spelled : (text : List ℕ) (kind : Kind) → item_kind text ≡ Some kind → (text ≡ kind_text kind) × (is_item kind ≡ true)
kind-spelled text kind h = by (bytes_eq text (codes "ammo")) (bytes_eq text (codes "gem")) refl refl h
  where
    by : (a g : Bool) → bytes_eq text (codes "ammo") ≡ a → bytes_eq text (codes "gem") ≡ g → cond a (Some kinds.Ammo) (cond g (Some kinds.Gem) None) ≡ Some kind
        → (text ≡ kind_text kind) × (is_item kind ≡ true)
    by true g is not e =
        let P : Kind → Type 0 = λ k. (text ≡ kind_text k) × (is_item k ≡ true) in
        subst P (same_Some kinds.Ammo kind e) ((bytes_eq-Decides text (codes "ammo")).0 is, refl)
    by false true is not e =
        let P : Kind → Type 0 = λ k. (text ≡ kind_text k) × (is_item k ≡ true) in
        subst P (same_Some kinds.Gem kind e) ((bytes_eq-Decides text (codes "gem")).0 not, refl)
    by false false is not e = cc

kind-first : (parts : List ℕ × List ℕ) (kind : Kind) → item_kind parts.0 ≡ Some kind → (more : List ℕ → Bool) → is_field_first ItemKind (Some parts) more ≡ more parts.1
kind-first parts kind is more = rw is refl

kind-read : (rest : List ℕ) (k : Kind × List ℕ) → kind_at rest ≡ Some k → ReadsKind rest k
kind-read rest k h =
    let field = binds (field_at rest) _ k h in
    let kind = binds (item_kind field.at.0) _ k field.gives in
    let spelled = kind-spelled field.at.0 kind.at kind.is in
    let read = field-read ItemKind rest field.at field.is (kind-first field.at kind.at kind.is) in
    let Text : List ℕ → Type 0 = λ text. IsRead (ItemKind ∷ []) (field_text text) rest field.at.1 in
    let P : Kind × List ℕ → Type 0 = ReadsKind rest in
    subst P (same_Some (kind.at, field.at.1) k kind.gives) (spelled.1, subst Text spelled.0 read)

-- two corners were read
abbrev ReadsCorners : List ℕ → Vec3 × Vec3 × List ℕ → Type 0
ReadsCorners rest c = IsNear 1048576 c.0 × IsNear 1048576 c.1 × IsRead (numbers 6) (point_text c.0 ++ point_text c.1) rest c.2

corners-read : (rest : List ℕ) (c : Vec3 × Vec3 × List ℕ) → corners_at rest ≡ Some c → ReadsCorners rest c
corners-read rest c h =
    let lo = binds (point_at rest) _ c h in
    let hi = binds (point_at lo.at.1) _ c lo.gives in
    let read_lo = point-read rest lo.at lo.is in
    let read_hi = point-read lo.at.1 hi.at hi.is in
    let P : Vec3 × Vec3 × List ℕ → Type 0 = ReadsCorners rest in
    subst P (same_Some (lo.at.0, hi.at.0, hi.at.1) c hi.gives)
    (read_lo.0, read_hi.0, read-then (numbers 3) (numbers 3) _ _ rest lo.at.1 hi.at.1 read_lo.1 read_hi.1)

-- ---- the lines

-- a line was read: it has this word, its numbers are within their limits, and its fields were written so
pub record ReadsLine (word : MapWord) (rest : List ℕ) (line : MapLine) : Type 0 where
  pub word_is : word_of line ≡ word
  pub limits : IsWithinLimits line
  pub read : IsRead (fields_of word) (fields_text line) rest []

-- nothing more is on the line
alone-read : (word : MapWord) (line l : MapLine) (rest after : List ℕ) → word_of line ≡ word → IsWithinLimits line → IsRead (fields_of word) (fields_text line) rest after
    → line_at_end line after ≡ Some l → ReadsLine word rest l
alone-read word line l rest [] is limits read h =
    let P : MapLine → Type 0 = ReadsLine word rest in
    subst P (same_Some line l h) (record { word_is = is; limits = limits; read = read })
alone-read word line l rest (b ∷ after) is limits read h = cc

arena-read : (rest : List ℕ) (l : MapLine) → arena_in rest ≡ Some l → ReadsLine words.Arena rest l
arena-read rest l h =
    let c = binds (corners_at rest) _ l h in
    let read = corners-read rest c.at c.is in
    alone-read words.Arena (Arena c.at.0 c.at.1) l rest c.at.2 refl (read.0, read.1) read.2 c.gives

block-read : (rest : List ℕ) (l : MapLine) → block_in rest ≡ Some l → ReadsLine words.Block rest l
block-read rest l h =
    let c = binds (corners_at rest) _ l h in
    let read = corners-read rest c.at c.is in
    alone-read words.Block (Block c.at.0 c.at.1) l rest c.at.2 refl (read.0, read.1) read.2 c.gives

goal-read : (rest : List ℕ) (l : MapLine) → goal_in rest ≡ Some l → ReadsLine words.Goal rest l
goal-read rest l h =
    let c = binds (corners_at rest) _ l h in
    let read = corners-read rest c.at c.is in
    alone-read words.Goal (Goal c.at.0 c.at.1) l rest c.at.2 refl (read.0, read.1) read.2 c.gives

spawn-read : (rest : List ℕ) (l : MapLine) → spawn_in rest ≡ Some l → ReadsLine words.Spawn rest l
spawn-read rest l h =
    let at = binds (point_at rest) _ l h in
    let read = point-read rest at.at at.is in
    alone-read words.Spawn (Spawn at.at.0) l rest at.at.1 refl read.0 read.1 at.gives

item-read : (rest : List ℕ) (l : MapLine) → item_in rest ≡ Some l → ReadsLine words.Item rest l
item-read rest l h =
    let at = binds (point_at rest) _ l h in
    let kind = binds (kind_at at.at.1) _ l at.gives in
    let delay = binds (count_at 65535 kind.at.1) _ l kind.gives in
    let read_at = point-read rest at.at at.is in
    let read_kind = kind-read at.at.1 kind.at kind.is in
    let read_delay = count-read 65535 kind.at.1 delay.at (omega arith) delay.is in
    let both = read-then (numbers 3) (ItemKind ∷ []) _ _ rest at.at.1 kind.at.1 read_at.1 read_kind.1 in
    let read = read-then (numbers 3 ++ ItemKind ∷ []) (numbers 1) _ _ rest kind.at.1 delay.at.1 both read_delay.2 in
    alone-read words.Item (Item at.at.0 kind.at.0 delay.at.0) l rest delay.at.1 refl (read_at.0, read_kind.0, read_delay.0, read_delay.1) read delay.gives

teleport-read : (rest : List ℕ) (l : MapLine) → teleport_in rest ≡ Some l → ReadsLine words.Teleport rest l
teleport-read rest l h =
    let c = binds (corners_at rest) _ l h in
    let dest = binds (point_at c.at.2) _ l c.gives in
    let read_c = corners-read rest c.at c.is in
    let read_dest = point-read c.at.2 dest.at dest.is in
    let read = read-then (numbers 6) (numbers 3) _ _ rest c.at.2 dest.at.1 read_c.2 read_dest.1 in
    alone-read words.Teleport (Teleport c.at.0 c.at.1 dest.at.0) l rest dest.at.1 refl (read_c.0, read_c.1, read_dest.0) read dest.gives

-- a number in a range was read
abbrev ReadsBetween : ℕ → ℕ → List ℕ → ℕ × List ℕ → Type 0
ReadsBetween least most rest c = (least ≤ c.0) × (c.0 ≤ most) × IsRead (numbers 1) (field_text (decimal c.0)) rest c.1

reached : (least n c : ℕ) → at_least least n ≡ Some c → (least ≤ n) × (n ≡ c)
reached least n c h = by (nat_le least n) refl h
  where
    by : (b : Bool) → nat_le least n ≡ b → cond b (Some n) None ≡ Some c → (least ≤ n) × (n ≡ c)
    by true is e = (grind (arith, nat_tests), same_Some n c e)
    by false is e = cc

between-read : (least most : ℕ) (rest : List ℕ) (c : ℕ × List ℕ) → most ≤ 1048576 → number_between least most rest ≡ Some c → ReadsBetween least most rest c
between-read least most rest c small h =
    let field = binds (field_at rest) _ c h in
    let n = binds (natural_up_to most field.at.0) _ c field.gives in
    let number = binds (at_least least n.at) _ c n.gives in
    let spelled = natural-spelled most n.at field.at.0 (omega (arith, small)) n.is in
    let low = reached least n.at number.at number.is in
    let read = field-read Number rest field.at field.is (number-first field.at (natural-integer most n.at field.at.0 n.is (omega (arith, small)))) in
    let Text : List ℕ → Type 0 = λ text. IsRead (numbers 1) (field_text text) rest field.at.1 in
    let P : ℕ × List ℕ → Type 0 = ReadsBetween least most rest in
    subst P (same_Some (number.at, field.at.1) c number.gives)
    (omega (arith, low.0, low.1), omega (arith, spelled.1, low.1), subst Text (spelled.0 ∙ ap decimal low.1) read)

depth-read : (rest : List ℕ) (l : MapLine) → depth_in rest ≡ Some l → ReadsLine words.Depth rest l
depth-read rest l h =
    let d = binds (number_between LEAST_DEPTH MOST_DEPTH rest) _ l h in
    let read = between-read LEAST_DEPTH MOST_DEPTH rest d.at (omega arith) d.is in
    let limits : IsWithinLimits (Depth d.at.0) = record { least = read.0; most = read.1 } in
    alone-read words.Depth (Depth d.at.0) l rest d.at.1 refl limits read.2 d.gives

blocks-read : (rest : List ℕ) (l : MapLine) → blocks_in rest ≡ Some l → ReadsLine words.Blocks rest l
blocks-read rest l h =
    let m = binds (number_between DEFAULT_BLOCKS MOST_BLOCKS rest) _ l h in
    let read = between-read DEFAULT_BLOCKS MOST_BLOCKS rest m.at (omega arith) m.is in
    let limits : IsWithinLimits (Blocks m.at.0) = record { least = read.0; most = read.1 } in
    alone-read words.Blocks (Blocks m.at.0) l rest m.at.1 refl limits read.2 m.gives

int-least : (n : ℕ) → 1 ≤ n → pos 1 ≤ℤ pos n
int-least n h = omega (arith, ints, h)

int-most : (n limit : ℕ) → n ≤ limit → pos n ≤ℤ pos limit
int-most n limit h = omega (arith, ints, h)

lift-read : (rest : List ℕ) (l : MapLine) → lift_in rest ≡ Some l → ReadsLine words.Lift rest l
lift-read rest l h =
    let c = binds (corners_at rest) _ l h in
    let rise = binds (count_at 1048576 c.at.2) _ l c.gives in
    let speed = binds (count_at 2560 rise.at.1) _ l rise.gives in
    let read_c = corners-read rest c.at c.is in
    let read_rise = count-read 1048576 c.at.2 rise.at (omega arith) rise.is in
    let read_speed = count-read 2560 rise.at.1 speed.at (omega arith) speed.is in
    let both = read-then (numbers 6) (numbers 1) _ _ rest c.at.2 rise.at.1 read_c.2 read_rise.2 in
    let read = read-then (numbers 7) (numbers 1) _ _ rest rise.at.1 speed.at.1 both read_speed.2 in
    let limits : IsWithinLimits (Lift c.at.0 c.at.1 (pos rise.at.0) (pos speed.at.0)) = (
      read_c.0,
      read_c.1,
      int-least rise.at.0 read_rise.0,
      int-most rise.at.0 1048576 read_rise.1,
      int-least speed.at.0 read_speed.0,
      int-most speed.at.0 2560 read_speed.1,
    ) in
    alone-read words.Lift (Lift c.at.0 c.at.1 (pos rise.at.0) (pos speed.at.0)) l rest speed.at.1 refl limits read speed.gives

pub within-read : (word : MapWord) (rest : List ℕ) (l : MapLine) → line_within word rest ≡ Some l → ReadsLine word rest l
within-read words.Arena rest l h = arena-read rest l h
within-read words.Block rest l h = block-read rest l h
within-read words.Spawn rest l h = spawn-read rest l h
within-read words.Item rest l h = item-read rest l h
within-read words.Teleport rest l h = teleport-read rest l h
within-read words.Goal rest l h = goal-read rest l h
within-read words.Lift rest l h = lift-read rest l h
within-read words.Depth rest l h = depth-read rest l h
within-read words.Blocks rest l h = blocks-read rest l h
within-read words.Shots rest l h = alone-read words.Shots Shots l rest rest refl tt (record { spelled = refl; form = λ more. refl }) h

-- what is read has the form of its word
pub within-form : (word : MapWord) (rest : List ℕ) (l : MapLine) → line_within word rest ≡ Some l → has_fields (fields_of word) rest ≡ true
within-form word rest l h =
    let reads = within-read word rest l h in
    ap (λ fields. has_fields fields rest) (sym (append-nil (fields_of word))) ∙ reads.read.form []

-- ---- the words

-- the word is this one, or one of the others
word-choice : (text : List ℕ) (w v : MapWord) (more : Option MapWord) → (more ≡ Some v → text ≡ word_text v)
    → cond (bytes_eq text (word_text w)) (Some w) more ≡ Some v → text ≡ word_text v
word-choice text w v more others h = by (bytes_eq text (word_text w)) refl h
  where
    by : (b : Bool) → bytes_eq text (word_text w) ≡ b → cond b (Some w) more ≡ Some v → text ≡ word_text v
    by true is e = (bytes_eq-Decides text (word_text w)).0 is ∙ ap word_text (same_Some w v e)
    by false is e = others e

no-word : (text : List ℕ) (v : MapWord) → None ≡ Some v → text ≡ word_text v
no-word text v h = cc

-- a word is read where its text is
pub word-spelled : (text : List ℕ) (v : MapWord) → map_word text ≡ Some v → text ≡ word_text v
word-spelled text v =
    word-choice text words.Arena v _ (
    word-choice text words.Block v _ (
    word-choice text words.Spawn v _ (
    word-choice text words.Item v _ (
    word-choice text words.Teleport v _ (
    word-choice text words.Goal v _ (
    word-choice text words.Lift v _ (
    word-choice text words.Depth v _ (
    word-choice text words.Shots v _ (
    word-choice text words.Blocks v _ (no-word text v))))))))))

-- ---- the whole line

ok-some : (o : Option MapLine) (l : MapLine) → ok_or {E = ℕ} o 6 ≡ Ok l → o ≡ Some l
ok-some None l h = cc
ok-some (Some m) l h = ap (λ (r : Result MapLine ℕ). elim r [ Ok x ↦ Some x | Err e ↦ None ]) h

of-word : (word : MapWord) (rest : List ℕ) (l : MapLine) → line_of_word word rest ≡ Ok l → line_within word rest ≡ Some l
of-word word rest l h = by (has_fields (fields_of word) rest) h
  where
    by : (b : Bool) → cond b (ok_or {E = ℕ} (line_within word rest) 6) (Err 4) ≡ Ok l → line_within word rest ≡ Some l
    by true e = ok-some (line_within word rest) l e
    by false e = cc

of-first : (text first rest : List ℕ) (o : Option MapWord) (l : MapLine) → first ++ rest ≡ text → map_word first ≡ o → line_of_first o rest ≡ Ok l
    → (text ≡ map_line_text l) × IsWithinLimits l
of-first text first rest None l whole is h = cc
of-first text first rest (Some word) l whole is h =
    let reads = within-read word rest l (of-word word rest l h) in (
      sym whole
          ∙ ap (λ w. w ++ rest) (word-spelled first word is)
          ∙ ap (λ w. word_text w ++ rest) (sym reads.word_is)
          ∙ ap (λ r. word_text (word_of l) ++ r) (reads.read.spelled ∙ append-nil (fields_text l)),
      reads.limits,
    )

-- a text that is read as a line is what is printed for it
pub line-sound : (text : List ℕ) (l : MapLine) → map_line_of text ≡ Ok l → (text ≡ map_line_text l) × IsWithinLimits l
line-sound text l h = of-first text (cut text).0 (cut text).1 (map_word (cut text).0) l (cut-whole text) refl h
