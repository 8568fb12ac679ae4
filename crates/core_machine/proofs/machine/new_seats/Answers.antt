use Rattle.std.proofs.Common.{◌≤◌, List, [], ◌∷◌, ◌++◌, ap, sym, subst, ◌∙◌, All, arith}
use Rattle.std.proofs.lemmas.List.Elements.{All-from_recursion}
use Rattle.entity_recs.specs.declared.limits.TheConstants.{IDS}
use Rattle.core_machine.specs.Seats.{things_room}
use Rattle.core_machine.specs.ListRooms.{HasThingsRoom}
use Rattle.core_machine.specs.declared.seat.Seat.{Seat}
use Rattle.core_machine.proofs.Starting.{start_of}
use Rattle.core_machine.proofs.machine.new_seats.Goals as goal

pub add_seats-requires : goal.add_seats-requires
add_seats-requires c =
    let s = c.in_ok-new.field-0 in
    let room : IDS ≤ things_room s = omega (arith, c.in_ok-new.ensures.room_of_things) in
    subst (All HasThingsRoom) (sym (c.in_ok-push.ensures.items ∙ ap (λ (xs : List Seat). xs ++ s ∷ []) c.in_ok-seats.ensures.items))
    (All-from_recursion HasThingsRoom (s ∷ []) (room, tt))

pub returns-clause-seats : goal.returns-clause-seats
returns-clause-seats c =
    start_of c.add_seats.new.seats.items c.push.new.self.items c.in_ok-new.field-0 c.args.room.now c.requires.some c.in_ok-new.ensures
    (c.in_ok-push.ensures.items ∙ ap (λ (xs : List Seat). xs ++ c.in_ok-new.field-0 ∷ []) c.in_ok-seats.ensures.items) c.in_ok-add_seats.ensures.seats
