use Rattle.std.proofs.Common.{◌≡◌, ◌+◌, ◌-◌, ◌++◌, [], ◌∷◌, length, take, drop, sym, ap, ◌∙◌, arith, length-drop, length-take-le}
use lib.Seq.{paste}
use Rattle.std.proofs.lemmas.List.{drop-take, take_more_set}
use Rattle.std.proofs.lemmas.List.Edits.{take-paste}
use Rattle.core_seats.proofs.queue.Queue.push_moved.Goals as goal

pub returns : goal.returns
returns g c =
    let all = c.self.inside.places in
    let from = c.self.inside.from in
    let to = c.self.inside.to in
    let len = to - from in
    let size = ap (λ v. length v.items) (sym c.self.view_is) ∙ length-drop from (take to all) in
    let taken = length-take-le to all (omega (arith, c.self.invariant)) in
    let same : len ≡ 0 + len = omega arith in
    let whole : from + len ≡ to = omega (arith, c.self.invariant) in
    let moved = ap (take len) c.copy_within.ensures.after ∙ ap (λ k. take k (paste all 0 (drop from all) len)) same
    ∙ take-paste all 0 (drop from all) len (omega arith) (omega (arith, c.self.invariant, length-drop from all))
    ∙ sym (drop-take from len all) ∙ ap (λ k. drop from (take k all)) whole ∙ ap (λ v. v.items) c.self.view_is in
    take_more_set c.copy_within.new.self len c.args.element (omega (arith, size, taken, c.requires, c.self.invariant, c.copy_within.ensures.len)) ∙ ap (λ xs. xs ++ c.args.element ∷ []) moved
