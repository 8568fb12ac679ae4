use Rattle.std.proofs.Common.{◌≡◌, ◌∙◌, rules, arith, get_or, List, ℕ, ◌∷◌, ap, sym}
use Rattle.packet_read.specs.Reading.{reading}
use Rattle.packet_read.proofs.Rules.{headed}
use Rattle.packet_read.proofs.reading.read_kind.Goals as goal

pub returns-in-2 : goal.returns-in-2
returns-in-2 c =
    let kind : get_or c.args.bytes.now 0 0 ≡ 2 = search rules in
    c.read_move.ensures ∙ ap (λ (xs : List ℕ). reading (1 ∷ xs)) (sym (headed 2 c.args.bytes.now (omega arith) kind))
