use Rattle.std.proofs.Common.{◌≡◌, sym, ◌∙◌, subst}
use Rattle.entity_recs.specs.declared.effect.Effect.{Effect}
use Rattle.entity_recs.specs.Records.{IsRecord}
use Rattle.core_machine.proofs.seat.Seat.resolve.Goals as goal

pub write_nodes-nodes-requires-clause-after : goal.write_nodes-nodes-requires-clause-after
write_nodes-nodes-requires-clause-after g c κs within = c.requires.after c.in-Some.effect c.in-Some.is

pub commit-requires-clause-after : goal.commit-requires-clause-after
commit-requires-clause-after g c κs within = λ e is.
    let same : c.same_effect.result ≡ e = cc in
    subst (λ (f : Effect). IsRecord f.me) (sym c.same_effect.ensures ∙ same) (c.requires.after c.in-Some.effect c.in-Some.is)
