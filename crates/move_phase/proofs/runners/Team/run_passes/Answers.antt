use Rattle.std.proofs.Common.{List, subst}
use Rattle.std.proofs.lemmas.List.Elements.{All-same}
use Rattle.crew.specs.Rounds.{ChangesEach}
use Rattle.move_phase.specs.declared.turn.Turn.{Turn}
use Rattle.move_phase.specs.Turns.{AreReversed, MayRun, HasRun, HasPass, HasSomePass}
use Rattle.move_phase.proofs.Turns.{IsFrameOf, same_turns, all_may_run, all_have_passes, all_served}
use Rattle.move_phase.proofs.runners.Team.run_passes.Goals as goal

pub run_each-requires : goal.run_each-requires
run_each-requires g c =
    let is : IsFrameOf c.args.shared c.args.moves.now c.args.workers c.put.new.self =
    record { shared = c.put.ensures.shared; moves_are = c.put.ensures.moves; workers_are = c.put.ensures.workers } in
    All-same MayRun _ _ c.as_mut_slice.ensures.value
    (all_may_run c.args.shared c.args.moves.now c.args.workers c.put.new.self is c.args.passes.now.items c.give_out.new.turns.items c.give_out.ensures.turns
    c.requires.may)

pub take_back-requires-clause-each : goal.take_back-requires-clause-each
take_back-requires-clause-each g c =
    let is : IsFrameOf c.args.shared c.args.moves.now c.args.workers c.put.new.self =
    record { shared = c.put.ensures.shared; moves_are = c.put.ensures.moves; workers_are = c.put.ensures.workers } in
    let ran : ChangesEach HasRun c.give_out.new.turns.items c.run_each.new.items =
    subst (λ (ts : List (Turn g.row.G.Denot)). ChangesEach HasRun ts c.run_each.new.items) c.as_mut_slice.ensures.value c.run_each.ensures.changed in
    All-same HasSomePass _ _ (same_turns c.run_each.new.items c.give_out.new.turns.items c.give_out.new.turns.len ran.count c.give_out.new.turns.ok.0)
    (all_have_passes c.args.shared c.args.moves.now c.args.workers c.put.new.self is c.args.passes.now.items c.give_out.new.turns.items
    c.give_out.ensures.turns c.run_each.new.items ran)

pub returns-clause-served : goal.returns-clause-served
returns-clause-served g c =
    let is : IsFrameOf c.args.shared c.args.moves.now c.args.workers c.put.new.self =
    record { shared = c.put.ensures.shared; moves_are = c.put.ensures.moves; workers_are = c.put.ensures.workers } in
    let ran : ChangesEach HasRun c.give_out.new.turns.items c.run_each.new.items =
    subst (λ (ts : List (Turn g.row.G.Denot)). ChangesEach HasRun ts c.run_each.new.items) c.as_mut_slice.ensures.value c.run_each.ensures.changed in
    let same = same_turns c.run_each.new.items c.give_out.new.turns.items c.give_out.new.turns.len ran.count c.give_out.new.turns.ok.0 in
    let back : AreReversed HasPass c.run_each.new.items c.take_back.new.passes.items =
    subst (λ (ts : List (Turn g.row.G.Denot)). AreReversed HasPass ts c.take_back.new.passes.items) same c.take_back.ensures.passes in
    all_served c.args.shared c.args.moves.now c.args.workers c.put.new.self is c.args.passes.now.items c.give_out.new.turns.items c.give_out.ensures.turns
    c.run_each.new.items ran c.take_back.new.passes.items back
