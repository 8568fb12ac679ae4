use Rattle.std.proofs.Common.{List, [], ◌∷◌, ℕ, length, length-append, ap, arith}
use Rattle.hex.specs.Hex.{lower_digits, encode_lower}
use Rattle.hex.proofs.HexLemmas.{length-encode_with}
use Rattle.out_text.proofs.printing.print_to.Goals as goal

pub returns-clause-short : goal.returns-clause-short
returns-clause-short g c =
    let len = λ (l : List ℕ). length l in
    omega (
      arith,
      ap len c.push_digits.ensures,
      length-append c.extend-2.new.self (encode_lower c.args.bytes.now),
      length-encode_with lower_digits c.args.bytes.now,
      ap len c.extend-2.ensures,
      length-append c.push_number.new.out (32 ∷ []),
      c.push_number.ensures.short,
      ap len c.extend.ensures,
      length-append c.args.out.now (116 ∷ 111 ∷ 32 ∷ []),
    )
