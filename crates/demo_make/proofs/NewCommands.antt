-- The new commands of a packet, and those of all frames: each command once.
use Rattle.std.proofs.Common.{◌≡◌, ℕ, zero, suc, ◌+◌, ◌-◌, ◌≤◌, ◌<◌, Bool, true, false, cond, List, [], ◌∷◌, ◌++◌, length, map, flat_map, refl, sym, ap, ◌∙◌, inl, inr, arith}
use Rattle.std.specs.Prelude.{nat_lt}
use Rattle.std.specs.List.{range_with_len}
use Rattle.std.proofs.Math.Nat.{le-min}
use Rattle.std.proofs.lemmas.Bool.{cases_lt}
use Rattle.std.proofs.lemmas.Bool.Decides.{nat_tests}
use Rattle.std.proofs.lemmas.List.{map-append}
use Rattle.std.proofs.lemmas.List.FromFn.{length-map-range_with_len}
use Rattle.packet_read.specs.declared.block_list.CmdBlock.{CmdBlock}
use Rattle.packet_read.specs.declared.move_packet.MovePacket.{MovePacket}
use Rattle.packet_read.specs.declared.packet.Packet.TheVariants.{Moves}
use Rattle.packet_read.specs.Commands.{move_with_number, moves_numbered_from, commands_of, first_seq}
use Rattle.client_ports.specs.NewMoves.{new_among, numbers_in, last_in}
use Rattle.demo_make.specs.ResentFrames.{command_in, how_many_in, last_commands, arrives}
use Rattle.demo_make.specs.Repeating.{last_before, commands_from, new_commands}
use Rattle.demo_make.proofs.Repeats.{many-some, many-there, commands-length, repeat_of}
use Rattle.demo_make.proofs.LastNumbers.{last-come, last-lost, last-low, last-high, last-all, last-grows-by}

-- ---- the commands of a packet

-- commands of a range, with their numbers
numbered-range : (f : ℕ → CmdBlock) (a n : ℕ)
    → moves_numbered_from (a + 1) (map f (range_with_len a n)) ≡ map (λ m. move_with_number m (f (m - 1))) (range_with_len (a + 1) n)
numbered-range f a zero = refl
numbered-range f a (suc n) =
    let e : a ≡ a + 1 - 1 = omega arith in
    ap (λ k. move_with_number (a + 1) (f k) ∷ moves_numbered_from (a + 1 + 1) (map f (range_with_len (a + 1) n))) e
    ∙ ap (λ ms. move_with_number (a + 1) (f (a + 1 - 1)) ∷ ms) (numbered-range f (a + 1) n)

packet-commands : (seed players frame port : ℕ) → commands_of (Moves (repeat_of seed players frame port))
    ≡ commands_from seed players port (frame + 1 - how_many_in frame + 1) (how_many_in frame)
packet-commands seed players frame port =
    let first = frame + 1 - how_many_in frame in
    let cmds = last_commands seed players frame port in
    let e : first_seq (repeat_of seed players frame port) ≡ first + 1 =
    omega (arith, commands-length seed players frame port, many-some frame, many-there frame) in
    ap (λ n. moves_numbered_from n cmds) e ∙ numbered-range (command_in seed players port) first (how_many_in frame)

-- ---- which of them are new

all-new : (f : ℕ → CmdBlock) (last a n : ℕ) → last < a
    → let moves = map (λ m. move_with_number m (f (m - 1))) (range_with_len a n) in new_among last moves ≡ moves
all-new f last a zero above = refl
all-new f last a (suc n) above =
    let new : nat_lt last a ≡ true = grind (arith, nat_tests) in
    let rest = all-new f last (a + 1) n (omega arith) in
    rw new (ap (λ ms. move_with_number a (f (a - 1)) ∷ ms) rest)

some-new : (f : ℕ → CmdBlock) (last a n : ℕ) → a ≤ last + 1 → last + 1 ≤ a + n
    → new_among last (map (λ m. move_with_number m (f (m - 1))) (range_with_len a n))
    ≡ map (λ m. move_with_number m (f (m - 1))) (range_with_len (last + 1) (a + n - (last + 1)))
some-new f last a zero low high =
    let none : 0 ≡ a + 0 - (last + 1) = omega arith in
    ap (λ k. map (λ m. move_with_number m (f (m - 1))) (range_with_len (last + 1) k)) none
some-new f last a (suc n) low high = elim (cases_lt last a) [
  | inl above ↦
      let first : a ≡ last + 1 = omega arith in
      let count : suc n ≡ a + suc n - (last + 1) = omega arith in
      all-new f last a (suc n) above
      ∙ ap (λ k. map (λ m. move_with_number m (f (m - 1))) (range_with_len k (suc n))) first
      ∙ ap (λ k. map (λ m. move_with_number m (f (m - 1))) (range_with_len (last + 1) k)) count
  | inr below ↦
      let old : nat_lt last a ≡ false = grind (arith, nat_tests) in
      let count : a + 1 + n - (last + 1) ≡ a + suc n - (last + 1) = omega arith in
      rw old (some-new f last (a + 1) n (omega arith) (omega arith)
      ∙ ap (λ k. map (λ m. move_with_number m (f (m - 1))) (range_with_len (last + 1) k)) count)
]

-- those after the last that came before the frame
pub packet-new : (seed players frames frame port : ℕ) → arrives frames frame port ≡ true
    → new_among (last_before frames port frame) (commands_of (Moves (repeat_of seed players frame port)))
    ≡ new_commands seed players frames frame port
packet-new seed players frames frame port come =
    let last = last_before frames port frame in
    let first = frame + 1 - how_many_in frame + 1 in
    let low = last-low frames port frame in
    let high = last-high frames port frame in
    let there = many-there frame in
    let wide : frame + 1 - last ≤ how_many_in frame = le-min (omega (arith, high)) (omega arith) in
    let count : first + how_many_in frame - (last + 1) ≡ frame + 1 - last = omega (arith, there) in
    ap (new_among last) (packet-commands seed players frame port)
    ∙ some-new (command_in seed players port) last first (how_many_in frame) (omega (arith, wide)) (omega (arith, there, low))
    ∙ ap (commands_from seed players port (last + 1)) count
    ∙ ap (λ b. cond b (commands_from seed players port (last + 1) (frame + 1 - last)) []) (sym come)

pub none-new : (seed players frames frame port : ℕ) → arrives frames frame port ≡ false → new_commands seed players frames frame port ≡ []
none-new seed players frames frame port lost =
    let last = last_before frames port frame in
    ap (λ b. cond b (commands_from seed players port (last + 1) (frame + 1 - last)) []) lost

-- there are one to three of them
pub new-length : (seed players frames frame port : ℕ) → arrives frames frame port ≡ true
    → length (new_commands seed players frames frame port) ≡ frame + 1 - last_before frames port frame
new-length seed players frames frame port come =
    let last = last_before frames port frame in
    ap (λ b. length (cond b (commands_from seed players port (last + 1) (frame + 1 - last)) [])) come
    ∙ length-map-range_with_len (λ n. move_with_number n (command_in seed players port (n - 1))) (last + 1) (frame + 1 - last)

-- ---- the last of them

last-of-range : (f : ℕ → CmdBlock) (before a n : ℕ)
    → last_in before (numbers_in (map (λ m. move_with_number m (f (m - 1))) (range_with_len a (suc n)))) ≡ a + n
last-of-range f before a zero = omega arith
last-of-range f before a (suc n) = last-of-range f a (a + 1) n ∙ (let e : a + 1 + n ≡ a + suc n = omega arith in e)

pub new-last : (seed players frames frame port : ℕ)
    → last_in (last_before frames port frame) (numbers_in (new_commands seed players frames frame port)) ≡ last_before frames port (frame + 1)
new-last seed players frames frame port = by (arrives frames frame port) refl
  where
    last : ℕ
    last = last_before frames port frame

    by : (b : Bool) → arrives frames frame port ≡ b
        → last_in (last_before frames port frame) (numbers_in (new_commands seed players frames frame port)) ≡ last_before frames port (frame + 1)
    by true come =
        let low = last-low frames port frame in
        let count : frame + 1 - last_before frames port frame ≡ suc (frame - last_before frames port frame) = omega (arith, low) in
        let all : last_before frames port frame + 1 + (frame - last_before frames port frame) ≡ frame + 1 = omega (arith, low) in
        ap (λ b. last_in (last_before frames port frame) (numbers_in (cond b (commands_from seed players port (last_before frames port frame + 1) (frame + 1 - last_before frames port frame)) []))) come
        ∙ ap (λ n. last_in (last_before frames port frame) (numbers_in (commands_from seed players port (last_before frames port frame + 1) n))) count
        ∙ last-of-range (command_in seed players port) (last_before frames port frame) (last_before frames port frame + 1) (frame - last_before frames port frame)
        ∙ all ∙ sym (last-come frames port frame come)
    by false lost =
        ap (λ ms. last_in (last_before frames port frame) (numbers_in ms)) (none-new seed players frames frame port lost)
        ∙ sym (last-lost frames port frame lost)

-- ---- all frames

-- those of a frame are the ones from the last before it on, up to the last before the next one
new-is : (seed players frames port frame : ℕ) → new_commands seed players frames frame port
    ≡ commands_from seed players port (last_before frames port frame + 1) (last_before frames port (frame + 1) - last_before frames port frame)
new-is seed players frames port frame = by (arrives frames frame port) refl
  where
    by : (b : Bool) → arrives frames frame port ≡ b → new_commands seed players frames frame port
        ≡ commands_from seed players port (last_before frames port frame + 1) (last_before frames port (frame + 1) - last_before frames port frame)
    by true come =
        let last = last_before frames port frame in
        ap (λ b. cond b (commands_from seed players port (last + 1) (frame + 1 - last)) []) come
        ∙ ap (λ n. commands_from seed players port (last + 1) (n - last)) (sym (last-come frames port frame come))
    by false lost =
        let last = last_before frames port frame in
        let none : 0 ≡ last_before frames port (frame + 1) - last = let same = last-lost frames port frame lost in omega (arith, same) in
        none-new seed players frames frame port lost ∙ ap (commands_from seed players port (last + 1)) none

commands-append : (seed players port a b m n : ℕ) → a + m ≡ b
    → commands_from seed players port a m ++ commands_from seed players port b n ≡ commands_from seed players port a (m + n)
commands-append seed players port a b zero n at =
    let same : b ≡ a = omega (arith, at) in
    let none : n ≡ 0 + n = omega arith in
    ap (λ k. commands_from seed players port k n) same ∙ ap (commands_from seed players port a) none
commands-append seed players port a b (suc m) n at =
    let count : suc (m + n) ≡ suc m + n = omega arith in
    ap (λ ms. move_with_number a (command_in seed players port (a - 1)) ∷ ms) (commands-append seed players port (a + 1) b m n (omega (arith, at)))
    ∙ ap (commands_from seed players port a) count

-- the commands that come in these frames
abbrev pub new_over : ℕ → ℕ → ℕ → ℕ → List ℕ → List MovePacket
new_over seed players frames port numbers = flat_map (λ frame. new_commands seed players frames frame port) numbers

some-frames : (seed players frames port a n : ℕ) → new_over seed players frames port (range_with_len a n)
    ≡ commands_from seed players port (last_before frames port a + 1) (last_before frames port (a + n) - last_before frames port a)
some-frames seed players frames port a zero =
    let e : a ≡ a + 0 = omega arith in
    let first = last_before frames port a in
    let none : 0 ≡ first - first = omega arith in
    ap (commands_from seed players port (first + 1)) none
    ∙ ap (λ k. commands_from seed players port (first + 1) (last_before frames port k - first)) e
some-frames seed players frames port a (suc n) =
    let first = last_before frames port a in
    let second = last_before frames port (a + 1) in
    let third = last_before frames port (a + 1 + n) in
    let grown = last-grows-by frames port a 1 in
    let more = last-grows-by frames port (a + 1) n in
    let count : second - first + (third - second) ≡ third - first = omega (arith, grown, more) in
    let e : a + 1 + n ≡ a + suc n = omega arith in
    ap (λ ms. ms ++ new_over seed players frames port (range_with_len (a + 1) n)) (new-is seed players frames port a)
    ∙ ap (λ ms. commands_from seed players port (first + 1) (second - first) ++ ms) (some-frames seed players frames port (a + 1) n)
    ∙ commands-append seed players port (first + 1) (second + 1) (second - first) (third - second) (omega (arith, grown))
    ∙ ap (commands_from seed players port (first + 1)) count
    ∙ ap (λ k. commands_from seed players port (first + 1) (last_before frames port k - first)) e

-- over all frames each command comes once
pub each-once : (seed players frames port : ℕ) → 1 ≤ frames → new_over seed players frames port (range_with_len 0 frames) ≡ commands_from seed players port 1 frames
each-once seed players frames port some =
    let e : 0 + frames ≡ frames = omega arith in
    let all = ap (last_before frames port) e ∙ last-all frames port some in
    let count : last_before frames port (0 + frames) - 0 ≡ frames = omega (arith, all) in
    some-frames seed players frames port 0 frames ∙ ap (commands_from seed players port 1) count

-- ---- their numbers

numbers-are : (f : ℕ → CmdBlock) (a n : ℕ) → numbers_in (map (λ m. move_with_number m (f (m - 1))) (range_with_len a n)) ≡ range_with_len a n
numbers-are f a zero = refl
numbers-are f a (suc n) = ap (λ ns. a ∷ ns) (numbers-are f (a + 1) n)

numbers-over : (seed players frames port : ℕ) (numbers : List ℕ) → flat_map (λ frame. numbers_in (new_commands seed players frames frame port)) numbers
    ≡ numbers_in (new_over seed players frames port numbers)
numbers-over seed players frames port [] = refl
numbers-over seed players frames port (frame ∷ numbers) =
    let here = new_commands seed players frames frame port in
    ap (λ ns. numbers_in here ++ ns) (numbers-over seed players frames port numbers)
    ∙ sym (map-append (λ (m : MovePacket). m.seq) here (new_over seed players frames port numbers))

-- each number comes once
pub numbers-once : (seed players frames port : ℕ) → 1 ≤ frames
    → flat_map (λ frame. numbers_in (new_commands seed players frames frame port)) (range_with_len 0 frames) ≡ range_with_len 1 frames
numbers-once seed players frames port some =
    numbers-over seed players frames port (range_with_len 0 frames) ∙ ap numbers_in (each-once seed players frames port some)
    ∙ numbers-are (command_in seed players port) 1 frames
