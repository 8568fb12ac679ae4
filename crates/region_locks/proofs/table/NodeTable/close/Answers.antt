use Rattle.std.proofs.Common.{◌≡◌, length, map, sym, ap, subst, arith, All}
use Rattle.std.specs.List.{range_with_len}
use Rattle.core_steps.specs.Nodes.{Fixed}
use Rattle.ruled_words.specs.Rule.{HasSomeRooms}
use Rattle.ruled_words.specs.Passes.{PassView, TableView, IsPassOf, fixed_in, sight_of}
use Rattle.ruled_words.specs.Ends.{ClosesInto}
use Rattle.shared_moves.proofs.EndedLogs.{left_here, passes_count, is_closed}
use Rattle.shared_moves.proofs.EndedPasses.{takes_at_close, refusals_held}
use Rattle.region_locks.proofs.table.NodeTable.close.Goals as goal

pub end_all-first-requires-clause-own : goal.end_all-first-requires-clause-own
end_all-first-requires-clause-own g c κs within =
    subst (λ (t : TableView _). All (IsPassOf (fixed_in g.A.Action.meaning t) (length t.rooms) t.table) c.args.passes.items) (sym c.self.view_is) c.requires.own

pub end_all-first-requires-clause-numbers : goal.end_all-first-requires-clause-numbers
end_all-first-requires-clause-numbers g c κs within =
    subst (λ (t : TableView _). map (λ (p : PassView). p.number) c.args.passes.items ≡ range_with_len 0 (length t.rooms)) (sym c.self.view_is) c.requires.all

pub end_all-first-requires-clause-count : goal.end_all-first-requires-clause-count
end_all-first-requires-clause-count g c κs within =
    let count = passes_count c.args.passes.items _ c.requires.all in
    let rooms : HasSomeRooms c.args.self.rooms = subst (λ (t : TableView _). HasSomeRooms t.rooms) c.self.view_is c.self.invariant in
    let some = rooms.some in
    let few = rooms.few in
    (omega (arith, count, some), omega (arith, count, few))

pub close_into-requires-clause-rests : goal.close_into-requires-clause-rests
close_into-requires-clause-rests g c κs within =
    let rooms : HasSomeRooms c.args.self.rooms = subst (λ (t : TableView _). HasSomeRooms t.rooms) c.self.view_is c.self.invariant in
    (left_here _ _ _ c.args.passes.items _ c.requires.own c.requires.none c.requires.all rooms.some c.end_all-first.ensures.sight).rests

pub close_into-requires-clause-first : goal.close_into-requires-clause-first
close_into-requires-clause-first g c κs within =
    let rooms : HasSomeRooms c.args.self.rooms = subst (λ (t : TableView _). HasSomeRooms t.rooms) c.self.view_is c.self.invariant in
    (left_here _ _ _ c.args.passes.items _ c.requires.own c.requires.none c.requires.all rooms.some c.end_all-first.ensures.sight).first

pub close_into-requires-clause-ended : goal.close_into-requires-clause-ended
close_into-requires-clause-ended g c κs within = λ n above below.
    let rooms : HasSomeRooms c.args.self.rooms = subst (λ (t : TableView _). HasSomeRooms t.rooms) c.self.view_is c.self.invariant in
    let count = passes_count c.args.passes.items _ c.requires.all in
    let same = ap (λ (t : TableView _). length t.rooms) c.self.view_is in
    (left_here _ _ _ c.args.passes.items _ c.requires.own c.requires.none c.requires.all rooms.some c.end_all-first.ensures.sight).ended n above (omega (arith, below, count, same))

pub returns-clause-closed : goal.returns-clause-closed
returns-clause-closed g c =
    let passes = c.args.passes.items in
    let first = c.end_all-first.result in
    let rooms : HasSomeRooms c.args.self.rooms = subst (λ (t : TableView _). HasSomeRooms t.rooms) c.self.view_is c.self.invariant in
    let F : Fixed = fixed_in g.A.Action.meaning c.args.self in
    let world = c.close_into.new.world in
    let closes : ClosesInto F world first.view = subst (λ (t : TableView _). ClosesInto (fixed_in g.A.Action.meaning t) world first.view) c.self.view_is c.close_into.ensures.closes in
    let left = left_here F _ _ passes _ c.requires.own c.requires.none c.requires.all rooms.some c.end_all-first.ensures.sight in
    let count = passes_count passes _ c.requires.all in
    let same = ap (λ (t : TableView _). length t.rooms) c.self.view_is in
    let made = c.close_into.ensures.made in
    is_closed F world passes (sight_of first) left closes (omega (arith, made, same, count))

pub returns-clause-refusals : goal.returns-clause-refusals
returns-clause-refusals g c = takes_at_close c.args.passes.items (sight_of c.end_all-first.result) c.end_all-first.ensures.sight c.close_into.ensures.refusals

pub returns-clause-held : goal.returns-clause-held
returns-clause-held g c =
    refusals_held _ _ _ c.args.passes.items c.requires.own (takes_at_close c.args.passes.items (sight_of c.end_all-first.result) c.end_all-first.ensures.sight c.close_into.ensures.refusals)
