use Rattle.std.proofs.Common.{◌≡◌, ◌+◌, ◌++◌, List, [], ◌∷◌, length, drop, set, get_or, slice_index, sym, ap, ◌∙◌, subst, arith}
use Rattle.std.proofs.lemmas.List.{length-set}
use Rattle.packet_read.specs.declared.arrival.Arrival.{Arrival}
use Rattle.packet_read.specs.Orders.{in_order}
use Rattle.playback.proofs.Moving.{within, one_moved}
use Rattle.playback.proofs.playback.move_in_order.Goals as goal

pub bounds-arrivals-place : goal.bounds-arrivals-place
bounds-arrivals-place c =
    let inside = within c.args.order.now (length c.args.arrivals.now) c.loop-place.place-index c.requires.places c.loop-place-test.true in
    omega (arith, inside, c.loop-place.invariant.1)

pub loop-place-preserved : goal.loop-place-preserved
loop-place-preserved c =
    let order = c.args.order.now in
    let i = c.loop-place.place-index in
    let place = slice_index order i in
    let inside = within order (length c.args.arrivals.now) i c.requires.places c.loop-place-test.true in
    let same = c.loop-place.invariant.1 in
    let taken = c.replace-arrival.ensures.value in
    let items = c.in_ok-push.ensures.items ∙ ap (λ (a : Arrival). c.loop-place.moved.items ++ a ∷ []) taken in (
      ap (λ (xs : List Arrival). xs ++ in_order (drop (i + 1) order) (set c.loop-place.arrivals place c.replace-arrival.new.dest)) items
          ∙ one_moved order (length c.args.arrivals.now) i c.loop-place.arrivals c.loop-place.moved.items c.replace-arrival.new.dest c.index-arrivals-place.result (in_order order c.args.arrivals.now) c.requires.places c.loop-place-test.true
          (omega (arith, inside, same)) c.loop-place.invariant.0,
      length-set c.loop-place.arrivals place c.replace-arrival.new.dest ∙ same,
    )
