use Rattle.std.proofs.Common.{sym, ◌∙◌}
use Rattle.ruled_words.specs.Passes.{fixed_in}
use Rattle.region_locks.proofs.Stepping.{commits, stores, unlinks, links}
use Rattle.trial_passes.proofs.stepping.go.Goals as goal
use Rattle.trial_passes.proofs.stepping.go.Goals.{in-Take+in_ok-take_free-in-Take, in-GiveBack+in_ok-give_back-in-GiveBack, in-LoadList+in_ok-load_list-in-LoadList, in-Load+in_ok-load_rec-in-Load, in-Bit, in-Bit-2, in-Store}

pub commit-requires-clause-next : goal.commit-requires-clause-next
commit-requires-clause-next g c κs within =
    commits (fixed_in g.A.Action.meaning c.args.table.now) c.args.pass.now c.in-Some.step (sym c.next.ensures.step ∙ c.in-Some.is) c.in-Commit.is

pub store_next-requires-clause-next : goal.store_next-requires-clause-next
store_next-requires-clause-next g c κs within =
    stores (fixed_in g.A.Action.meaning c.args.table.now) c.args.pass.now c.in-Some.step (sym c.next.ensures.step ∙ c.in-Some.is) c.in-Store.is

pub unlink-requires-clause-next : goal.unlink-requires-clause-next
unlink-requires-clause-next g c κs within =
    unlinks (fixed_in g.A.Action.meaning c.args.table.now) c.args.pass.now c.in-Some.step (sym c.next.ensures.step ∙ c.in-Some.is) c.in-Bit.is (sym c.unlinks_next.ensures ∙ c.if-unlinks_next.true)

pub link-requires-clause-next : goal.link-requires-clause-next
link-requires-clause-next g c κs within =
    links (fixed_in g.A.Action.meaning c.args.table.now) c.args.pass.now c.in-Some.step (sym c.next.ensures.step ∙ c.in-Some.is) c.in-Bit.is (sym c.unlinks_next.ensures ∙ c.if-unlinks_next.false)

pub returns : goal.returns
returns g c =
    elim c.match-step.branch [
      | in-Take+in_ok-take_free-in-Take w ↦ rw w.pass-is w.in_ok-take_free-in-Take.ensures
      | in-GiveBack+in_ok-give_back-in-GiveBack w ↦ rw w.pass-is w.in_ok-give_back-in-GiveBack.ensures
      | in-LoadList+in_ok-load_list-in-LoadList w ↦ rw w.pass-is w.in_ok-load_list-in-LoadList.ensures
      | in-Load+in_ok-load_rec-in-Load w ↦ rw w.pass-is w.in_ok-load_rec-in-Load.ensures
      | in-Bit w ↦ rw w.pass-is w.unlink.ensures.own
      | in-Bit-2 w ↦ rw w.pass-is w.link.ensures.own
      | in-Store w ↦ rw w.pass-is w.store_next.ensures.own
    ]
