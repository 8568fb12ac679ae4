use Rattle.std.proofs.Common.{◌∷◌, ◌+◌, ◌<◌, take, length, ap, sym, ◌∙◌, arith, length-drop}
use Rattle.snapshot_write.proofs.Blocks.{rest_is}
use Rattle.out_text.specs.Reading.{parts_of}
use Rattle.out_text.proofs.Ids.{first_part, no_comma}
use Rattle.out_text.proofs.reading.at_comma.Goals as goal

pub returns-in_err-comma-clause-none : goal.returns-in_err-comma-clause-none
returns-in_err-comma-clause-none c = λ none. no_comma c.args.text.now (sym c.first_comma.ensures ∙ c.in_err-comma.was)

pub returns-clause-some : goal.returns-clause-some
returns-clause-some c =
    let text = c.args.text.now in
    let i = c.in_ok-comma.comma in
    let first = first_part text i (sym c.first_comma.ensures ∙ c.in_ok-comma.was) in
    first.0 ∙ ap (λ rest. take i text ∷ parts_of rest) (sym (rest_is (i + 1) text))

pub returns-clause-shorter : goal.returns-clause-shorter
returns-clause-shorter c =
    let text = c.args.text.now in
    let i = c.in_ok-comma.comma in
    let first = first_part text i (sym c.first_comma.ensures ∙ c.in_ok-comma.was) in
    let inside : i < length text = first.1 in
    let same = ap length (rest_is (i + 1) text) in
    let long = length-drop (i + 1) text in
    omega (arith, same, long, inside)
