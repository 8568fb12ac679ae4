-- The loop that accepts the new commands of a packet.
use Rattle.std.proofs.Common.{◌≡◌, ℕ, suc, ◌+◌, ◌<◌, ◌≤◌, Bool, true, cond, List, ◌∷◌, length, map as map_list, drop, sym, ap, ◌∙◌, arith, drop-cons, get_or, length-append}
use Rattle.std.specs.Prelude.{nat_lt}
use Rattle.std.proofs.lemmas.List.{get_or_default, length-map}
use Rattle.std.proofs.lemmas.Bool.{lt-ltb}
use Rattle.packet_read.specs.declared.move_packet.MovePacket.{MovePacket}
use Rattle.client_ports.specs.NewMoves.{new_among}
use Rattle.client_ports.specs.Lists.{Lists, with_moves}
use Rattle.client_ports.specs.Receiving.{command_in}

-- the element at an index, and those after it
drop-here : {X : Type 0} (xs : List X) (i : ℕ) (x : X) → i < length xs → x ≡ get_or xs i x → drop i xs ≡ x ∷ drop (i + 1) xs
drop-here xs i x below is =
    let one : i + 1 ≡ suc i = omega arith in
    drop-cons xs i x below ∙ ap (λ y. y ∷ drop (suc i) xs) (sym is) ∙ ap (λ k. x ∷ drop k xs) (sym one)

-- the new ones of those that are left, after one of them
new-next : (last i : ℕ) (step : MovePacket) (steps : List MovePacket) (b : Bool) → i < length steps → step ≡ get_or steps i step → nat_lt last step.seq ≡ b
    → new_among last (drop i steps) ≡ cond b (step ∷ new_among last (drop (i + 1) steps)) (new_among last (drop (i + 1) steps))
new-next last i step steps b below is test =
    ap (new_among last) (drop-here steps i step below is)
    ∙ ap (λ (c : Bool). cond c (step ∷ new_among last (drop (i + 1) steps)) (new_among last (drop (i + 1) steps))) test

-- one that is new is accepted, and there is room for it
pub record IsAccepting (last frame slot i : ℕ) (steps : List MovePacket) (l start : Lists) : Type 0 where
  pub rest : with_moves l (map_list (command_in frame slot) (new_among last (drop i steps))) ≡ with_moves start (map_list (command_in frame slot) (new_among last steps))

accepted-count : (last frame slot i : ℕ) (steps : List MovePacket) (l start : Lists) → IsAccepting last frame slot i steps l start
    → length l.moves + length (new_among last (drop i steps)) ≡ length start.moves + length (new_among last steps)
accepted-count last frame slot i steps l start so_far =
    let left = new_among last (drop i steps) in
    let new = new_among last steps in
    omega (
      arith,
      ap (λ (m : Lists). length m.moves) so_far.rest,
      length-append l.moves (map_list (command_in frame slot) left),
      length-append start.moves (map_list (command_in frame slot) new),
      length-map left (command_in frame slot),
      length-map new (command_in frame slot),
    )

-- where the next one is new, there is room for it
pub accept-room : (last frame slot i most : ℕ) (step : MovePacket) (steps : List MovePacket) (l start : Lists) → i < length steps → step ≡ get_or steps i step → nat_lt last step.seq ≡ true
    → IsAccepting last frame slot i steps l start → length start.moves + length (new_among last steps) ≤ most → length l.moves < most
accept-room last frame slot i most step steps l start below is test so_far fits =
    let next = ap (λ (s : List MovePacket). length s) (new-next last i step steps true below is test) in
    omega (arith, next, accepted-count last frame slot i steps l start so_far, fits)

-- and so for the command at an index, in the words of the code's tests
pub room-at : (last frame slot i most : ℕ) (d : MovePacket) (steps : List MovePacket) (l start : Lists) → i < length steps → last < (get_or steps i d).seq
    → IsAccepting last frame slot i steps l start → length start.moves + length (new_among last steps) ≤ most → length l.moves < most
room-at last frame slot i most d steps l start below above so_far fits =
    let step = get_or steps i d in
    accept-room last frame slot i most step steps l start below (get_or_default steps i d step below) (lt-ltb last step.seq above) so_far fits
