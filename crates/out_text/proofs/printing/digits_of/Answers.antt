use Rattle.std.proofs.Common.{rules}
use Rattle.hex.specs.Hex.{encode_with}
use Rattle.out_text.proofs.Digits.{first_eight}
use Rattle.out_text.proofs.printing.digits_of.Goals as goal

pub returns : goal.returns
unfolding encode_with
returns c = rw (first_eight c.args.bytes.now c.requires) (search rules)
