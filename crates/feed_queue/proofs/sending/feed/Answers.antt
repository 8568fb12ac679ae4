use Rattle.std.proofs.Common.{rules, ◌≡◌, ◌∙◌, ap, sym, arith, false, ℕ, List}
use Rattle.feed_queue.specs.Orders.{is_of}
use Rattle.feed_queue.proofs.Keeping.{passed_on}
use Rattle.feed_queue.proofs.sending.feed.Goals.{then-is_own, else-is_own}
use Rattle.feed_queue.proofs.sending.feed.Goals as goal

pub loop-place-preserved : goal.loop-place-preserved
loop-place-preserved g c =
    elim c.if-is_own.branch [
      | then-is_own w ↦ search rules
      | else-is_own w ↦
          let ports = g.N.Ported.ports in
          let other : is_of ports c.args.feeder c.loop-place.place ≡ false =
          ap (λ (l : List ℕ). is_of l c.args.feeder c.loop-place.place) c.requires.fits.ports_are ∙ sym w.if-is_own.ensures in
          let seen = c.loop-place.invariant in
          rw (w.pass-is, w.sent-is) (seen.0, seen.1 ∙ passed_on ports c.args.feeder c.loop-place.place other, omega (arith, seen.2))
    ]
