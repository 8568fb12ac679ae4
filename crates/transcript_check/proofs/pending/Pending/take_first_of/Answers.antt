use Rattle.std.proofs.Common.{◌∙◌, sym}
use Rattle.transcript_check.proofs.Firsts.{no-first, first-taken}
use Rattle.transcript_check.proofs.pending.Pending.take_first_of.Goals as goal

pub returns-in_err-place-clause-none : goal.returns-in_err-place-clause-none
returns-in_err-place-clause-none c = λ none.
    rw (← c.self.view_is) (no-first c.args.slot c.self.inside.moves.items (rw c.deref.ensures.value at (sym c.first_of.ensures ∙ c.in_err-place.was)))

pub returns-clause-some : goal.returns-clause-some
returns-clause-some c =
    rw (← c.self.view_is)
    ((first-taken c.args.slot c.self.inside.moves.items c.in_ok-place.place c.remove.result c.remove.new.self.items (rw c.deref.ensures.value at (sym c.first_of.ensures ∙ c.in_ok-place.was))
    c.remove.ensures.value c.remove.ensures.by_index.2).next)

pub returns-clause-slot : goal.returns-clause-slot
returns-clause-slot c =
    (first-taken c.args.slot c.self.inside.moves.items c.in_ok-place.place c.remove.result c.remove.new.self.items (rw c.deref.ensures.value at (sym c.first_of.ensures ∙ c.in_ok-place.was))
    c.remove.ensures.value c.remove.ensures.by_index.2).own
