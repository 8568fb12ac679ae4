use Rattle.std.proofs.Common.{ℕ, ◌+◌, refl, sym, subst, ap, ◌∙◌}
use Rattle.arena_actions.specs.MapActions.{map_in}
use Rattle.client_ports.specs.States.{state_of, IsServerState}
use Rattle.client_ports.specs.Lists.{ReceivedView}
use Rattle.client_ports.specs.Receiving.{Receiving, receiving_of}
use Rattle.plain_server.specs.Frames.{received_in}
use Rattle.frame_phases.specs.Servers.{ServerView, server_view}
use Rattle.frame_phases.proofs.Frames.{whole_frame}
use Rattle.frame_phases.proofs.server.run_frame.Goals as goal

pub invariant_of-server : goal.invariant_of-server
invariant_of-server g c =
    let t = server_view (map_in c.server.inside.action.now) (state_of c.server.inside.states.state.ports c.server.inside.states.state.world.records) c.server.inside.states.frames in
    let begun = c.begin_frame.new.states in
    let r = receiving_of (state_of begun.next.ports begun.next.world.records) c.begin_frame.new.received.lists in
    let done = c.finish_frame.new.states in
    let next = state_of done.state.ports done.state.world.records in
    let out = c.finish_frame.new.out in
    let frame = whole_frame c.args.server.now t c.in-Ok.started c.server.inside.action.now c.args.workers begun.frames c.args.arrivals.now r next out.journal.entries out.slots out.replies
    c.server.view_is c.server.invariant.server c.begin_frame.ensures.received refl c.in-Ok.ensures.started.action_is c.in-Ok.ensures.started.workers_are c.begin_frame.ensures.kept.frames
    c.finish_frame.ensures.finished in
    record {
      server = record { is_map = c.server.invariant.server.is_map; fits = subst (λ (server : ServerView). IsServerState server.map next) (sym c.server.view_is) frame.fits };
      tree = c.finish_frame.ensures.tree;
      of_its_map = c.server.invariant.of_its_map;
    }

pub returns-in-Ok-clause-runs : goal.returns-in-Ok-clause-runs
returns-in-Ok-clause-runs g c =
    let t = server_view (map_in c.server.inside.action.now) (state_of c.server.inside.states.state.ports c.server.inside.states.state.world.records) c.server.inside.states.frames in
    let begun = c.begin_frame.new.states in
    let r = receiving_of (state_of begun.next.ports begun.next.world.records) c.begin_frame.new.received.lists in
    let done = c.finish_frame.new.states in
    let next = state_of done.state.ports done.state.world.records in
    let out = c.finish_frame.new.out in
    let frame = whole_frame c.args.server.now t c.in-Ok.started c.server.inside.action.now c.args.workers begun.frames c.args.arrivals.now r next out.journal.entries out.slots out.replies
    c.server.view_is c.server.invariant.server c.begin_frame.ensures.received refl c.in-Ok.ensures.started.action_is c.in-Ok.ensures.started.workers_are c.begin_frame.ensures.kept.frames
    c.finish_frame.ensures.finished in
    let count = c.finish_frame.ensures.frames ∙ ap (λ (n : ℕ). n + 1) c.begin_frame.ensures.kept.frames in
    record {
      right = frame.finished.right;
      order = frame.finished.order;
      few = frame.few;
      next = ap (server_view t.map next) count ∙ (λ i. server_view (c.server.view_is i).map next ((c.server.view_is i).frames + 1)) ∙ frame.next_is;
    }

pub returns-in-Ok-clause-given : goal.returns-in-Ok-clause-given
returns-in-Ok-clause-given g c =
    let t = server_view (map_in c.server.inside.action.now) (state_of c.server.inside.states.state.ports c.server.inside.states.state.world.records) c.server.inside.states.frames in
    let begun = c.begin_frame.new.states in
    let r = receiving_of (state_of begun.next.ports begun.next.world.records) c.begin_frame.new.received.lists in
    let done = c.finish_frame.new.states in
    let next = state_of done.state.ports done.state.world.records in
    let out = c.finish_frame.new.out in
    let frame = whole_frame c.args.server.now t c.in-Ok.started c.server.inside.action.now c.args.workers begun.frames c.args.arrivals.now r next out.journal.entries out.slots out.replies
    c.server.view_is c.server.invariant.server c.begin_frame.ensures.received refl c.in-Ok.ensures.started.action_is c.in-Ok.ensures.started.workers_are c.begin_frame.ensures.kept.frames
    c.finish_frame.ensures.finished in
    record {
      frame_is = c.finish_frame.ensures.frame ∙ c.begin_frame.ensures.kept.frames ∙ ap (λ (s : ServerView). s.frames) c.server.view_is;
      lists_are = ap (λ (x : ReceivedView). x.lists) c.finish_frame.ensures.received
          ∙ ap (λ (q : Receiving). q.lists) c.begin_frame.ensures.received
          ∙ ap (λ (s : ServerView). (received_in s.map s.frames s.state c.args.arrivals.now).lists) c.server.view_is;
      slots_are = frame.finished.slots_are;
      replies_are = frame.finished.replies_are;
    }

pub returns-in-Ok-clause-items : goal.returns-in-Ok-clause-items
returns-in-Ok-clause-items g c =
    let t = server_view (map_in c.server.inside.action.now) (state_of c.server.inside.states.state.ports c.server.inside.states.state.world.records) c.server.inside.states.frames in
    let begun = c.begin_frame.new.states in
    let r = receiving_of (state_of begun.next.ports begun.next.world.records) c.begin_frame.new.received.lists in
    let done = c.finish_frame.new.states in
    let next = state_of done.state.ports done.state.world.records in
    let out = c.finish_frame.new.out in
    let frame = whole_frame c.args.server.now t c.in-Ok.started c.server.inside.action.now c.args.workers begun.frames c.args.arrivals.now r next out.journal.entries out.slots out.replies
    c.server.view_is c.server.invariant.server c.begin_frame.ensures.received refl c.in-Ok.ensures.started.action_is c.in-Ok.ensures.started.workers_are c.begin_frame.ensures.kept.frames
    c.finish_frame.ensures.finished in
    record { one_taker = frame.once; away = frame.away }
