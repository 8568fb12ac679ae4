use Rattle.std.proofs.Common.{ap, ◌∙◌, arith}
use Rattle.edge_io.specs.Numbers.{natural_up_to}
use Rattle.arena_engine.proofs.Spelled.{some-printed, printed-read}
use Rattle.arena_engine.proofs.numbers.number.Goals as goal

pub returns-clause-some : goal.returns-clause-some
returns-clause-some c =
    some-printed 18446744073709551615 c.args.word.now c.natural.result (omega arith)
    (c.natural.ensures.value ∙ ap (natural_up_to 18446744073709551615) c.as_bytes.ensures.value)

pub returns-clause-only : goal.returns-clause-only
returns-clause-only c = λ n below is.
    printed-read 18446744073709551615 n c.args.word.now c.natural.result below (omega (arith, below))
    (c.natural.ensures.value ∙ ap (natural_up_to 18446744073709551615) c.as_bytes.ensures.value) is
