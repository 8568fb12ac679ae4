use Rattle.std.proofs.Common.{refl, arith}
use Rattle.packet_read.specs.Commands.{first_seq}
use Rattle.packet_read.proofs.Numbers.{length-numbered, numbered-at}
use Rattle.packet_read.proofs.laws.commands_are_numbered.Goals as goal

pub returns : goal.returns
returns c = record {
  move = λ m. refl;
  join = refl;
  leave = refl;
  many = λ s. length-numbered (first_seq s) s.cmds;
  each = λ s i. numbered-at (first_seq s) s.cmds i;
  fields = λ seq block. record { seq_is = refl; ms_is = refl; wish_x_is = refl; wish_y_is = refl; buttons_are = refl };
  newest = λ s allowed. omega (arith, allowed.some, allowed.numbers);
}
