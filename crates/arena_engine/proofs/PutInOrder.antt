-- The packets of the frame that an event closes are put into the order in which they arrive.
use Rattle.std.proofs.Common.{ℕ, ◌<◌, ◌≤◌, List, length, Option, Some, None, IfSome, Result, Ok, Err, IfOk, sym, subst, arith}
use Rattle.std.proofs.lemmas.List.{length-map}
use Rattle.packet_read.specs.declared.arrival.Arrival.{Arrival}
use Rattle.packet_read.specs.Orders.{AreEachOnce}
use Rattle.feed_queue.specs.Orders.{ports_of, IsOrder}
use Rattle.feed_queue.proofs.Ordering.{each_place_once, no_more_packets, each_port_kept}
use Rattle.demo_lines.specs.declared.event.EventKind.{EventKind}
use Rattle.demo_lines.specs.declared.event.EventKind.TheVariants as kinds
use Rattle.demo_lines.specs.Kinds.{event_of_kind}
use Rattle.playback.specs.Playbacks.{Course, MayClose, IsReady}
use Rattle.arena_engine.specs.declared.feeding.Feeding.{Feeding}
use Rattle.arena_engine.specs.Feedings.{AreSent, arranged}
use Rattle.arena_engine.specs.Games.{IsReadyFor, PutsOpenInOrder, PutsInOrderFor}

-- what two client threads hand over is an order in which they can send the packets
pub threads_send : (sent : List Arrival) (order : List ℕ) → IsOrder (ports_of sent) order → AreSent sent order
threads_send sent order is =
    let each = each_place_once (ports_of sent) order is in
    record {
      places = subst (λ (n : ℕ). AreEachOnce n order) (length-map sent (λ (a : Arrival). a.port)) each.places;
      rising = record { evens = each.evens; odds = each.odds };
      feed = λ port. each_port_kept sent order port is;
      few = no_more_packets sent order is;
    }

pub threads_send_all : {E : Type 0} (sent : List Arrival) (handed : Result (List ℕ) E) → IfOk handed (IsOrder (ports_of sent)) → IfOk handed (AreSent sent)
threads_send_all sent (Ok order) is = threads_send sent order is
threads_send_all sent (Err error) is = tt

-- the frame may still be closed
may_close_then : (feeding : Feeding) (opened : Option (List Arrival)) (old new : Course) (order : Option (List ℕ)) → PutsOpenInOrder feeding opened old new order → IfSome opened (λ arrivals. length arrivals ≤ 512)
    → IfSome opened (λ _. old.server.frames < 100000) → MayClose old → MayClose new
may_close_then feeding None old new order same few frames may = subst MayClose (sym same) may
may_close_then feeding (Some arrivals) old new order puts few frames may =
    let fewer : length (arranged order arrivals) ≤ 512 = let no_more = puts.few in omega (arith, no_more, few) in
    subst MayClose (sym puts.course) (record { few = fewer; frames = frames })

-- whether an event may come doesn't depend on its packet
pub ready_for : (course : Course) (kind : EventKind) (a : Arrival) → IsReady course (event_of_kind kind a) → IsReadyFor course kind
ready_for course kinds.Frame a may = may
ready_for course kinds.From a may = tt
ready_for course kinds.End a may = may

-- the event may still come
pub ready_then : (feeding : Feeding) (kind : EventKind) (a : Arrival) (old new : Course) (order : Option (List ℕ)) → PutsInOrderFor feeding kind old new order → IsReady old (event_of_kind kind a) → IsReady new (event_of_kind kind a)
ready_then feeding kinds.Frame a old new order puts may = may_close_then feeding old.opened old new order puts may.few may.frames may
ready_then feeding kinds.From a old new order puts may = tt
ready_then feeding kinds.End a old new order puts may = may_close_then feeding old.opened old new order puts may.few may.frames may
