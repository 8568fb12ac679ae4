-- The commands of a packet of version 2 as bytes, and read back.
use Rattle.std.proofs.Common.{rules, ◌≡◌, ℕ, suc, ◌*◌, false, List, [], ◌∷◌, ◌++◌, length, refl, sym, arith}
use Rattle.std.specs.Prelude.{zero, All, flat_map, drop, nat_lt}
use Rattle.std.specs.List.{list_any}
use Rattle.std.proofs.lemmas.Bool.{ltb-false, le-ltb, or_parts, or_from}
use Rattle.std.proofs.lemmas.List.{nil_from_length}
use Rattle.std.proofs.lemmas.List.Elements.{All-nil, All-cons, All-head, All-tail}
use Rattle.byte_lists.specs.Bytes.{AreBytes}
use Rattle.packet_read.specs.declared.block_list.CmdBlock.{CmdBlock}
use Rattle.packet_read.specs.Spelling.{block_fields, IsAllowedBlock, BlockFits}
use Rattle.packet_read.specs.Faults.{block_in, blocks_from, is_wrong_time, is_above_the_shot}
use Rattle.packet_read.proofs.Fields.{wish_again, wish_cells}

-- ---- read as they were written

-- a command is read as it was written
block_again : (b : CmdBlock) (xs : List ℕ) → BlockFits b → block_in (block_fields b ++ xs) ≡ b
block_again b xs fits = rw (wish_again b.wish_x fits.wish_x, wish_again b.wish_y fits.wish_y) refl

cons_same : (a b : CmdBlock) (xs ys : List CmdBlock) → a ≡ b → xs ≡ ys → a ∷ xs ≡ b ∷ ys
cons_same a b xs ys e f = cc

-- commands are read as they were written
pub blocks_again : (bs : List CmdBlock) → All BlockFits bs → blocks_from (length bs) (flat_map block_fields bs) ≡ bs
blocks_again [] fits = refl
blocks_again (b ∷ more) fits =
    cons_same _ _ _ _
    (block_again b (flat_map block_fields more) (All-head BlockFits b more fits))
    (blocks_again more (All-tail BlockFits b more fits))

-- a command takes six bytes
pub length_fields : (bs : List CmdBlock) → length (flat_map block_fields bs) ≡ 6 * length bs
length_fields [] = refl
length_fields (b ∷ more) =
    let rest : length (flat_map block_fields more) ≡ 6 * length more = length_fields more in
    omega (arith, rest)

-- ---- written as they were read

-- the bytes of a command, and those after it
joined : (x x' y y' m m' : List ℕ) (ms buttons : ℕ) → x ≡ x' → y ≡ y' → m ≡ m'
    → (ms ∷ x ++ y ++ buttons ∷ []) ++ m ≡ (ms ∷ x' ++ y' ++ buttons ∷ []) ++ m'
joined x x' y y' m m' ms buttons p q r = cc

-- the bytes after the first six
rest_are : (a b c d f g : ℕ) (xs : List ℕ) → AreBytes (a ∷ b ∷ c ∷ d ∷ f ∷ g ∷ xs) → AreBytes xs
rest_are a b c d f g xs all k z lt = all (suc (suc (suc (suc (suc (suc k)))))) z (omega (arith, lt))

-- so many times six bytes are the commands that they are read as
pub blocks_spelled : (n : ℕ) (xs : List ℕ) → length xs ≡ 6 * n → AreBytes xs → flat_map block_fields (blocks_from n xs) ≡ xs
blocks_spelled zero xs e all = sym (nil_from_length xs (omega (arith, e)))
blocks_spelled (suc n) [] e all = absurd (omega (arith, e))
blocks_spelled (suc n) (a ∷ []) e all = absurd (omega (arith, e))
blocks_spelled (suc n) (a ∷ b ∷ []) e all = absurd (omega (arith, e))
blocks_spelled (suc n) (a ∷ b ∷ c ∷ []) e all = absurd (omega (arith, e))
blocks_spelled (suc n) (a ∷ b ∷ c ∷ d ∷ []) e all = absurd (omega (arith, e))
blocks_spelled (suc n) (a ∷ b ∷ c ∷ d ∷ f ∷ []) e all = absurd (omega (arith, e))
blocks_spelled (suc n) (a ∷ b ∷ c ∷ d ∷ f ∷ g ∷ xs) e all =
    let wish_x = wish_cells b c (all 1 0 (omega arith)) (all 2 0 (omega arith)) in
    let wish_y = wish_cells d f (all 3 0 (omega arith)) (all 4 0 (omega arith)) in
    let rest = blocks_spelled n xs (omega (arith, e)) (rest_are a b c d f g xs all) in
    joined _ _ _ _ _ _ a g wish_x wish_y rest

-- so many commands are so many
pub length_blocks : (n : ℕ) (xs : List ℕ) → length (blocks_from n xs) ≡ n
length_blocks zero xs = refl
length_blocks (suc n) xs = rw (length_blocks n (drop 6 xs)) refl

-- the wire fits the types
block_fits : (a b c d f g : ℕ) (xs : List ℕ) → AreBytes (a ∷ b ∷ c ∷ d ∷ f ∷ g ∷ xs) → BlockFits (block_in (a ∷ b ∷ c ∷ d ∷ f ∷ g ∷ xs))
block_fits a b c d f g xs all = record {
  ms = all 0 0 (omega arith);
  wish_x = search rules;
  wish_y = search rules;
  buttons = all 5 0 (omega arith);
}

pub blocks_fit : (n : ℕ) (xs : List ℕ) → length xs ≡ 6 * n → AreBytes xs → All BlockFits (blocks_from n xs)
blocks_fit zero xs e all = All-nil BlockFits
blocks_fit (suc n) [] e all = absurd (omega (arith, e))
blocks_fit (suc n) (a ∷ []) e all = absurd (omega (arith, e))
blocks_fit (suc n) (a ∷ b ∷ []) e all = absurd (omega (arith, e))
blocks_fit (suc n) (a ∷ b ∷ c ∷ []) e all = absurd (omega (arith, e))
blocks_fit (suc n) (a ∷ b ∷ c ∷ d ∷ []) e all = absurd (omega (arith, e))
blocks_fit (suc n) (a ∷ b ∷ c ∷ d ∷ f ∷ []) e all = absurd (omega (arith, e))
blocks_fit (suc n) (a ∷ b ∷ c ∷ d ∷ f ∷ g ∷ xs) e all =
    All-cons BlockFits _ _ (block_fits a b c d f g xs all)
    (blocks_fit n xs (omega (arith, e)) (rest_are a b c d f g xs all))

-- ---- limits

-- commands that break no rule are within the limits
pub blocks_allowed : (bs : List CmdBlock)
    → list_any (λ b. is_wrong_time b.ms) bs ≡ false
    → list_any (λ b. is_above_the_shot b.buttons) bs ≡ false
    → All IsAllowedBlock bs
blocks_allowed [] times buttons = All-nil IsAllowedBlock
blocks_allowed (b ∷ more) times buttons =
    let time = or_parts (is_wrong_time b.ms) (list_any (λ b. is_wrong_time b.ms) more) times in
    let button = or_parts (is_above_the_shot b.buttons) (list_any (λ b. is_above_the_shot b.buttons) more) buttons in
    let ends = or_parts (nat_lt b.ms 1) (nat_lt 50 b.ms) time.0 in
    All-cons IsAllowedBlock b more
    (record { least = ltb-false b.ms 1 ends.0; most = ltb-false 50 b.ms ends.1; buttons = ltb-false 3 b.buttons button.0 })
    (blocks_allowed more time.1 button.1)

-- commands within the limits break no rule
pub times_kept : (bs : List CmdBlock) → All IsAllowedBlock bs → list_any (λ b. is_wrong_time b.ms) bs ≡ false
times_kept [] allowed = refl
times_kept (b ∷ more) allowed =
    let own = All-head IsAllowedBlock b more allowed in
    or_from _ _
    (or_from _ _ (le-ltb b.ms 1 own.least) (le-ltb 50 b.ms own.most))
    (times_kept more (All-tail IsAllowedBlock b more allowed))

pub buttons_kept : (bs : List CmdBlock) → All IsAllowedBlock bs → list_any (λ b. is_above_the_shot b.buttons) bs ≡ false
buttons_kept [] allowed = refl
buttons_kept (b ∷ more) allowed =
    let own = All-head IsAllowedBlock b more allowed in
    or_from _ _ (le-ltb 3 b.buttons own.buttons) (buttons_kept more (All-tail IsAllowedBlock b more allowed))
