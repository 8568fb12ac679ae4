-- What the loops over the commands of a packet of version 2 keep.
use Rattle.std.proofs.Common.{◌≡◌, ◌∙◌, ℕ, suc, ◌+◌, ◌*◌, ◌<◌, ◌≤◌, List, [], ◌∷◌, ◌++◌, length, take, get_or, sym, ap, subst, append_assoc, append-nil, arith}
use Rattle.std.specs.Prelude.{zero, ℤ, ◌-◌, All, flat_map, drop}
use Rattle.std.proofs.lemmas.List.{length-drop, length-append, take_all, take_more}
use Rattle.std.proofs.lemmas.List.Concat.{flat_map-append}
use Rattle.std.proofs.lemmas.List.Elements.{All-nil, All-cons, All-append}
use Rattle.packet_read.specs.declared.block_list.CmdBlock.{CmdBlock}
use Rattle.packet_read.specs.Spelling.{block_fields, BlockFits}
use Rattle.packet_read.specs.Faults.{block_in, blocks_from}

-- ---- reading

-- the commands that were read, with those of the bytes that are left, are all; and there are at most three
pub record IsReading (bytes : List ℕ) (count : ℕ) (left : List ℕ) (cmds : List CmdBlock) : Type 0 where
  pub more : ℕ
  pub whole : length left ≡ 6 * more
  pub few : length cmds + more ≤ 3
  pub all : cmds ++ blocks_from more left ≡ blocks_from count bytes

-- there is room for one more
pub has_room : (bytes : List ℕ) (count : ℕ) (left : List ℕ) (cmds : List CmdBlock) → IsReading bytes count left cmds → 6 ≤ length left → length cmds < 3
has_room bytes count left cmds r six =
    let whole = r.whole in
    let few = r.few in
    omega (arith, whole, few, six)

-- one more was read
read_more_of : (bytes : List ℕ) (count : ℕ) (left : List ℕ) (cmds : List CmdBlock) (more : ℕ)
    → length left ≡ 6 * more → length cmds + more ≤ 3 → cmds ++ blocks_from more left ≡ blocks_from count bytes → 6 ≤ length left
    → IsReading bytes count (drop 6 left) (cmds ++ block_in left ∷ [])
read_more_of bytes count left cmds zero whole few all six = absurd (omega (arith, whole, six))
read_more_of bytes count left cmds (suc more) whole few all six =
    let shorter = length-drop 6 left in
    let longer = length-append cmds (block_in left ∷ []) in
    let moved : (cmds ++ block_in left ∷ []) ++ blocks_from more (drop 6 left) ≡ cmds ++ (block_in left ∷ blocks_from more (drop 6 left)) = append_assoc cmds (block_in left ∷ []) (blocks_from more (drop 6 left)) in
    record {
      more = more;
      whole = omega (arith, whole, shorter);
      few = omega (arith, few, longer);
      all = moved ∙ all;
    }

pub read_more : (bytes : List ℕ) (count : ℕ) (left : List ℕ) (cmds new : List CmdBlock)
    → IsReading bytes count left cmds → 6 ≤ length left → new ≡ cmds ++ block_in left ∷ []
    → IsReading bytes count (take (length left - 6) (drop 6 left)) new
read_more bytes count left cmds new r six e =
    let rest : take (length left - 6) (drop 6 left) ≡ drop 6 left = take_all (length left - 6) (drop 6 left) (rw (length-drop 6 left) (omega arith)) in
    rw (e, rest) (read_more_of bytes count left cmds r.more r.whole r.few r.all six)

-- a command whose wishes are given by equal numbers
pub pushed : (new cmds : List CmdBlock) (ms buttons : ℕ) (x x' y y' : ℤ)
    → new ≡ cmds ++ record { ms = ms; wish_x = x; wish_y = y; buttons = buttons } ∷ [] → x ≡ x' → y ≡ y'
    → new ≡ cmds ++ record { ms = ms; wish_x = x'; wish_y = y'; buttons = buttons } ∷ []
pushed new cmds ms buttons x x' y y' e f g = rw (← f, ← g) e

-- ---- writing

-- the commands before this one were put last, and their fields fit their types
pub record IsWriting (before : List ℕ) (cmds : List CmdBlock) (i : ℕ) (bytes : List ℕ) : Type 0 where
  pub are : bytes ≡ before ++ flat_map block_fields (take i cmds)
  pub fit : All BlockFits (take i cmds)

-- one more was put last
pub write_more : (before : List ℕ) (cmds : List CmdBlock) (i : ℕ) (bytes new : List ℕ) (block blank : CmdBlock)
    → IsWriting before cmds i bytes → i < length cmds → block ≡ get_or cmds i blank
    → new ≡ bytes ++ block_fields block → BlockFits block
    → IsWriting before cmds (i + 1) new
write_more before cmds i bytes new block blank w within is appended fits =
    let more : take (i + 1) cmds ≡ take i cmds ++ block ∷ [] = take_more cmds i blank within ∙ ap (λ (b : CmdBlock). take i cmds ++ b ∷ []) (sym is) in
    let fields : flat_map block_fields (take (i + 1) cmds) ≡ flat_map block_fields (take i cmds) ++ block_fields block =
    ap (flat_map block_fields) more ∙ flat_map-append block_fields (take i cmds) (block ∷ []) ∙ ap (λ (xs : List ℕ). flat_map block_fields (take i cmds) ++ xs) (append-nil (block_fields block)) in
    record {
      are = appended ∙ ap (λ (xs : List ℕ). xs ++ block_fields block) w.are ∙ append_assoc before (flat_map block_fields (take i cmds)) (block_fields block)
          ∙ ap (λ (xs : List ℕ). before ++ xs) (sym fields);
      fit = subst (All BlockFits) (sym more) (All-append BlockFits (take i cmds) (block ∷ []) w.fit (All-cons BlockFits block [] fits (All-nil BlockFits)));
    }
