-- A player's command as plain numbers, without the facts that its type keeps.
use Rattle.std.specs.Prelude.{ℕ, ℤ, ◌==◌, Bool, ◌&&◌}
use Rattle.entity_recs.specs.declared.cmd.Cmd.{Cmd}

-- whose command it is and its number, the frame in which it is done, how many milliseconds it takes, the speed that is
-- wished, and the buttons
-- Plain numbers, tied to `Cmd` by `command_of`: the Rust type keeps facts as proofs, which a definition of the receive
-- pass would have to build.
pub record Command : Type 0 where
  pub slot : ℕ
  pub seq : ℕ
  pub frame : ℕ
  pub ms : ℕ
  pub wish_x : ℤ
  pub wish_y : ℤ
  pub buttons : ℕ

-- the numbers of a command
abbrev pub command_of : Cmd → Command
command_of c =
    record {
      slot = c.slot;
      seq = c.seq;
      frame = c.frame;
      ms = c.ms;
      wish_x = c.wish_x;
      wish_y = c.wish_y;
      buttons = c.buttons;
    }

-- two commands are one player's, with one number
abbrev pub is_same_move : Command → Command → Bool
is_same_move a b = (a.slot == b.slot) && (a.seq == b.seq)
