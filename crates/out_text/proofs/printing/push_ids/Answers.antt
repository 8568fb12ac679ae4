use Rattle.std.proofs.Common.{◌++◌, List, ℕ, length, ap, sym, ◌∙◌, append_assoc, arith}
use Rattle.std.specs.Fmt.{decimal}
use Rattle.out_text.specs.OutLines.{ids_text}
use Rattle.out_text.proofs.Writing.{more_ids, ids-first}
use Rattle.out_text.proofs.printing.push_ids.Goals as goal

pub loop-id-init : goal.loop-id-init
loop-id-init c =
    let old = c.args.out.now in
    let first = c.in-Some.first.now in
    let rest = c.in-Some.rest.now in
    let count = ap (λ (l : List ℕ). length l) c.in-Some.ensures.cases.0 in
    record {
      all =
          ap (λ l. l ++ more_ids rest) (c.push_number.ensures.text ∙ ap (λ n. old ++ decimal n) c.from.ensures)
          ∙ append_assoc old (decimal first) (more_ids rest)
          ∙ ap (λ l. old ++ l) (sym (ids-first first rest))
          ∙ ap (λ l. old ++ ids_text l) (sym c.in-Some.ensures.cases.0);
      room = omega (arith, count, c.push_number.ensures.short, c.requires.room, c.requires.few);
    }
