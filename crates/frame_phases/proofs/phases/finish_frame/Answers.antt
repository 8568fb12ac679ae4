use Rattle.std.proofs.Common.{List, map, sym, subst, ap, ◌∙◌, arith}
use Rattle.entity_recs.specs.Commands.{Command, command_of}
use Rattle.arena_actions.specs.MapActions.{map_in}
use Rattle.client_ports.specs.States.{state_of}
use Rattle.client_ports.specs.Receiving.{receiving_of}
use Rattle.move_phase.specs.Starting.{AreStarted}
use Rattle.server_state.specs.declared.state.State.{State}
use Rattle.frame_phases.proofs.Frames.{AreRun, few_moves, apart_moves, live_after, is_finished}
use Rattle.frame_phases.proofs.phases.finish_frame.Goals as goal

pub run-requires-clause-started : goal.run-requires-clause-started
run-requires-clause-started g c =
    subst (λ (cs : List Command). AreStarted c.args.states.now.next.world cs c.args.started) (sym c.moves.ensures) c.requires.begun.moves

pub run-requires-clause-apart : goal.run-requires-clause-apart
run-requires-clause-apart g c =
    let next = c.args.states.now.next in
    let r = receiving_of (state_of next.ports next.world.records) c.args.out.now.received.lists in
    apart_moves (map_in c.args.started.action) r c.moves.result.now c.moves.ensures c.requires.begun.got

pub run-requires-clause-room : goal.run-requires-clause-room
run-requires-clause-room g c =
    let next = c.args.states.now.next in
    let r = receiving_of (state_of next.ports next.world.records) c.args.out.now.received.lists in
    omega (arith, few_moves (map_in c.args.started.action) r c.moves.result.now c.moves.ensures c.requires.begun.got, c.args.out.now.journal_fits)

pub finish-requires : goal.finish-requires
finish-requires g c =
    let next = c.args.states.now.next in
    let r = receiving_of (state_of next.ports next.world.records) c.args.out.now.received.lists in
    let ran : AreRun (map_in c.args.started.action) r c.args.started.workers (map command_of c.moves.result.now) c.run.new.world.records c.run.new.journal.entries =
    record { right = c.run.ensures.right; order = c.run.ensures.order; moved = c.run.ensures.moved } in
    live_after (map_in c.args.started.action) c.args.started.workers r c.moves.result.now c.run.new.world.records c.run.new.journal.entries c.requires.begun.is_map c.requires.begun.got c.moves.ensures ran

pub returns-clause-finished : goal.returns-clause-finished
returns-clause-finished g c =
    let next = c.args.states.now.next in
    let r = receiving_of (state_of next.ports next.world.records) c.args.out.now.received.lists in
    let ran : AreRun (map_in c.args.started.action) r c.args.started.workers (map command_of c.moves.result.now) c.run.new.world.records c.run.new.journal.entries =
    record { right = c.run.ensures.right; order = c.run.ensures.order; moved = c.run.ensures.moved } in
    is_finished (map_in c.args.started.action) r c.args.states.now.frames c.args.started.workers c.moves.result.now c.run.new.world.records (state_of c.swap.new.x.ports c.swap.new.x.world.records) c.run.new.journal.entries
    c.show_players.new.slots c.show_players.new.replies c.requires.begun.is_map c.requires.begun.got c.moves.ensures ran
    (ap (λ (s : State). state_of s.ports s.world.records) c.swap.ensures.x_after ∙ c.finish.ensures.finished) c.show_players.ensures.slots c.show_players.ensures.replies
