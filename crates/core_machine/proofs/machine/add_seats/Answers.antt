use Rattle.std.proofs.Common.{◌≤◌, [], ◌∷◌, ap, sym, subst, ◌∙◌, map, All, arith}
use Rattle.std.proofs.lemmas.List.Elements.{All-append, All-from_recursion}
use Rattle.entity_recs.specs.declared.limits.TheConstants.{IDS}
use Rattle.core_machine.specs.Seats.{things_room}
use Rattle.core_machine.specs.Cores.{seat_of}
use Rattle.core_machine.specs.ListRooms.{HasThingsRoom}
use Rattle.core_machine.proofs.Starting.{seat_more}
use Rattle.core_machine.proofs.machine.add_seats.Goals as goal

pub loop-entries-preserved : goal.loop-entries-preserved
loop-entries-preserved c =
    let s = c.in_ok-new.field-0 in
    let room : IDS ≤ things_room s = omega (arith, c.in_ok-new.ensures.room_of_things) in
    record {
      seats = ap (map seat_of) c.in_ok-push.ensures.items
          ∙ seat_more c.loop-entries.seats.items c.args.seats.now.items s c.args.room.now c.loop-entries.entries-index c.loop-entries-test.true c.in_ok-new.ensures c.loop-entries.invariant.seats;
      things = subst (All HasThingsRoom) (sym c.in_ok-push.ensures.items)
          (All-append HasThingsRoom c.loop-entries.seats.items (s ∷ []) c.loop-entries.invariant.things (All-from_recursion HasThingsRoom (s ∷ []) (room, tt)));
    }
