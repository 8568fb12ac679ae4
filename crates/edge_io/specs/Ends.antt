-- The end of a source's input.
use Rattle.std.specs.Prelude.{ℕ, Bool, false, ◌==◌, ◌&&◌, nat_lt, Result, Ok, Err}

-- a read with a buffer of this length answered Ok(0), and the buffer isn't empty
abbrev pub is_end_of_input : {E : Type 0} → Result ℕ E → ℕ → Bool
is_end_of_input (Ok count) room = count == 0 && nat_lt 0 room
is_end_of_input (Err error) room = false
