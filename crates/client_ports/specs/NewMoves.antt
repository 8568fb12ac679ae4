-- Which commands of a move packet are new: those whose number is above the last accepted one.
use Rattle.std.specs.Prelude.{ℕ, ◌<◌, ◌≤◌, nat_lt, List, [], ◌∷◌, map, filter}
use Rattle.packet_read.specs.declared.move_packet.MovePacket.{MovePacket}

-- a command takes 1 to 50 milliseconds
pub record TakesItsTime (m : MovePacket) : Type 0 where
  pub least : 1 ≤ m.ms
  pub most : m.ms ≤ 50

-- the commands among these whose number is above this one
abbrev pub new_among : ℕ → List MovePacket → List MovePacket
new_among last steps = filter (λ m. nat_lt last m.seq) steps

-- the numbers of commands, in their order
abbrev pub numbers_in : List MovePacket → List ℕ
numbers_in steps = map (λ m. m.seq) steps

-- the last of these numbers, and the first argument where there is none
abbrev pub last_in : ℕ → List ℕ → ℕ
last_in last [] = last
last_in last (n ∷ more) = last_in n more

-- the numbers rise strictly from this one on, which is below the first
abbrev pub RiseFrom : ℕ → List ℕ → Type 0
RiseFrom last [] = Unit {0}
RiseFrom last (n ∷ more) = (last < n) × RiseFrom n more
