use Rattle.std.proofs.Common.{◌==◌, length, map, refl, sym, ap, ◌∙◌, arith}
use Rattle.std.specs.Prelude.{filter, not}
use Rattle.std.proofs.lemmas.List.{length-map}
use Rattle.entity_recs.specs.Actions.{HasValidity}
use Rattle.core_steps.specs.Points as core_points
use Rattle.core_seats.specs.declared.reads.PlayerRead.{PlayerRead}
use Rattle.core_machine.specs.Points.{point_of, store_of}
use Rattle.core_seats.specs.PlayerReads.{player_read_of}
use Rattle.core_machine.specs.Seats.{view_of, given_of, list_read_of}
use Rattle.core_seats.specs.Shown.{fixed_of}
use Rattle.core_machine.proofs.ReadPlayers.{without_mapped}
use Rattle.core_machine.proofs.PointSteps.{gone, sixth_word, took_leaf, took_inner, took_node, committed, commit_comes, read_player, read_state, stored, gave, resolved, resolved_commit, none_left, some_left}
use Rattle.core_machine.proofs.Rooms.{lists_room, player_at_point, command_at, log_room, leaves_room, leaves_left, nodes_room, after_is_record, states_room, things_left, others_few, players_left, claimed, stores_left}
use Rattle.core_seats.proofs.SoundRecords.{before_is_record, loaded_is_record}
use Rattle.core_machine.proofs.seat.Seat.go_on.Goals as goal

pub load_own-requires-clause-player : goal.load_own-requires-clause-player
load_own-requires-clause-player g c κs within =
    let F = fixed_of g.A.Action.meaning c.args.rules.now in
    λ five. sixth_word F (view_of c.args.self.now) (given_of c.args.self.now) c.args.effect.now c.args.found (ap (point_of c.args.self.now.queues) c.in-Owning.is) five c.requires.after

pub load_again-requires-clause-player : goal.load_again-requires-clause-player
load_again-requires-clause-player g c κs within =
    let F = fixed_of g.A.Action.meaning c.args.rules.now in
    player_at_point F (view_of c.args.self.now) c.requires.ready.sound core_points.Checking (ap (point_of c.args.self.now.queues) c.in-Checking.is) refl refl

pub read_list-requires-clause-room : goal.read_list-requires-clause-room
read_list-requires-clause-room g c κs within =
    let F = fixed_of g.A.Action.meaning c.args.rules.now in
    let few = lists_room F (view_of c.args.self.now) c.requires.ready.sound c.in-Entered.node c.args.self.now.queues.plan.items (ap (point_of c.args.self.now.queues) c.in-Entered.is) in
    let same = length-map c.args.self.now.lists.items list_read_of in
    omega (arith, few, same)

pub read_list-requires-clause-player : goal.read_list-requires-clause-player
read_list-requires-clause-player g c κs within =
    let F = fixed_of g.A.Action.meaning c.args.rules.now in
    player_at_point F (view_of c.args.self.now) c.requires.ready.sound (core_points.Entered c.in-Entered.node c.args.self.now.queues.plan.items) (ap (point_of c.args.self.now.queues) c.in-Entered.is) refl refl

pub read_player-requires-clause-room : goal.read_player-requires-clause-room
read_player-requires-clause-room g c κs within =
    let F = fixed_of g.A.Action.meaning c.args.rules.now in
    λ node slot part players plan at.
    let few = others_few F (view_of c.args.self.now) c.requires.ready.sound node slot part players plan at in
    let same = ap length (without_mapped slot c.args.self.now.others.items) in
    let size = length-map (filter (λ (r : PlayerRead). not (r.slot == slot)) c.args.self.now.others.items) player_read_of in
    omega (arith, few, same, size)

pub read_player-requires-clause-player : goal.read_player-requires-clause-player
read_player-requires-clause-player g c κs within =
    let F = fixed_of g.A.Action.meaning c.args.rules.now in
    player_at_point F (view_of c.args.self.now) c.requires.ready.sound (core_points.Loading c.in-Loading.node c.args.self.now.queues.part.items c.args.self.now.queues.players.items c.args.self.now.queues.plan.items) (ap (point_of c.args.self.now.queues) c.in-Loading.is) refl refl

pub read_state-requires : goal.read_state-requires
read_state-requires g c =
    let F = fixed_of g.A.Action.meaning c.args.rules.now in
    let few = states_room F (view_of c.args.self.now) c.requires.ready.sound c.args.self.now.queues.things.ids (ap (point_of c.args.self.now.queues) c.in-Sensing.is) in
    omega (arith, few, c.requires.things)

pub resolve-requires-clause-command : goal.resolve-requires-clause-command
resolve-requires-clause-command g c κs within =
    let F = fixed_of g.A.Action.meaning c.args.rules.now in
    command_at F (view_of c.args.self.now) c.requires.ready.sound core_points.Resolving (ap (point_of c.args.self.now.queues) c.in-Resolving.is) refl

pub resolve-requires-clause-before : goal.resolve-requires-clause-before
resolve-requires-clause-before g c κs within =
    let F = fixed_of g.A.Action.meaning c.args.rules.now in
    let met = g.met.A.Action g.world.𝓛 g.world.𝓜 g.world.𝓡 ((λ s x. x), (λ x. x), (λ x. x), λ x. x) in
    let validity : HasValidity F.takes F.effect_of = met.validity c.args.rules.now.action in
    before_is_record F (view_of c.args.self.now) c.requires.ready.sound core_points.Resolving validity (ap (point_of c.args.self.now.queues) c.in-Resolving.is) refl refl

pub resolve-requires-clause-after : goal.resolve-requires-clause-after
resolve-requires-clause-after g c κs within =
    let F = fixed_of g.A.Action.meaning c.args.rules.now in
    let met = g.met.A.Action g.world.𝓛 g.world.𝓜 g.world.𝓡 ((λ s x. x), (λ x. x), (λ x. x), λ x. x) in
    let validity : HasValidity F.takes F.effect_of = met.validity c.args.rules.now.action in
    λ e kept. loaded_is_record F (view_of c.args.self.now) c.requires.ready.sound e validity (ap (point_of c.args.self.now.queues) c.in-Resolving.is) (c.requires.ready.due e (ap (point_of c.args.self.now.queues) c.in-Resolving.is) kept)

pub resolve-requires-clause-room : goal.resolve-requires-clause-room
resolve-requires-clause-room g c κs within =
    let F = fixed_of g.A.Action.meaning c.args.rules.now in
    log_room F (view_of c.args.self.now) c.requires.ready.sound core_points.Resolving (ap (point_of c.args.self.now.queues) c.in-Resolving.is) refl

pub resolve-requires-clause-count : goal.resolve-requires-clause-count
resolve-requires-clause-count g c κs within =
    let F = fixed_of g.A.Action.meaning c.args.rules.now in
    λ e kept none. c.requires.count (resolved_commit F (view_of c.args.self.now) (given_of c.args.self.now) c.args.effect.now e (ap (point_of c.args.self.now.queues) c.in-Resolving.is) kept none)

pub commit_held-requires-clause-command : goal.commit_held-requires-clause-command
commit_held-requires-clause-command g c κs within =
    let F = fixed_of g.A.Action.meaning c.args.rules.now in
    command_at F (view_of c.args.self.now) c.requires.ready.sound (core_points.Claiming c.args.self.now.queues.got.items c.args.self.now.queues.rest.items) (ap (point_of c.args.self.now.queues) c.in-Claiming.is) refl

pub commit_held-requires-clause-before : goal.commit_held-requires-clause-before
commit_held-requires-clause-before g c κs within =
    let F = fixed_of g.A.Action.meaning c.args.rules.now in
    let met = g.met.A.Action g.world.𝓛 g.world.𝓜 g.world.𝓡 ((λ s x. x), (λ x. x), (λ x. x), λ x. x) in
    let validity : HasValidity F.takes F.effect_of = met.validity c.args.rules.now.action in
    before_is_record F (view_of c.args.self.now) c.requires.ready.sound (core_points.Claiming c.args.self.now.queues.got.items c.args.self.now.queues.rest.items) validity (ap (point_of c.args.self.now.queues) c.in-Claiming.is) refl refl

pub commit_held-requires-clause-after : goal.commit_held-requires-clause-after
commit_held-requires-clause-after g c κs within =
    let F = fixed_of g.A.Action.meaning c.args.rules.now in
    let met = g.met.A.Action g.world.𝓛 g.world.𝓜 g.world.𝓡 ((λ s x. x), (λ x. x), (λ x. x), λ x. x) in
    let validity : HasValidity F.takes F.effect_of = met.validity c.args.rules.now.action in
    λ e in_view. after_is_record F (view_of c.args.self.now) c.requires.ready.sound (core_points.Claiming c.args.self.now.queues.got.items c.args.self.now.queues.rest.items) e validity (ap (point_of c.args.self.now.queues) c.in-Claiming.is) refl in_view

pub commit_held-requires-clause-room : goal.commit_held-requires-clause-room
commit_held-requires-clause-room g c κs within =
    let F = fixed_of g.A.Action.meaning c.args.rules.now in
    log_room F (view_of c.args.self.now) c.requires.ready.sound (core_points.Claiming c.args.self.now.queues.got.items c.args.self.now.queues.rest.items) (ap (point_of c.args.self.now.queues) c.in-Claiming.is) refl

pub commit_held-requires-clause-place : goal.commit_held-requires-clause-place
commit_held-requires-clause-place g c κs within =
    let F = fixed_of g.A.Action.meaning c.args.rules.now in
    let claim = claimed F (view_of c.args.self.now) c.requires.ready.sound c.args.self.now.queues.got.items c.args.self.now.queues.rest.items (ap (point_of c.args.self.now.queues) c.in-Claiming.is) in
    c.requires.count (commit_comes F (view_of c.args.self.now) (given_of c.args.self.now) c.args.effect.now claim.e c.args.self.now.queues.got.items c.args.self.now.queues.rest.items (ap (point_of c.args.self.now.queues) c.in-Claiming.is) (none_left c.args.self.now.queues.rest.items (sym c.is_empty.ensures ∙ c.if-is_empty.true)) claim.is)

pub take_next-requires-clause-leaves : goal.take_next-requires-clause-leaves
take_next-requires-clause-leaves g c =
    let F = fixed_of g.A.Action.meaning c.args.rules.now in
    λ got rest at. leaves_room F (view_of c.args.self.now) c.requires.ready.sound got rest at

pub take_next-requires-clause-nodes : goal.take_next-requires-clause-nodes
take_next-requires-clause-nodes g c =
    let F = fixed_of g.A.Action.meaning c.args.rules.now in
    λ got rest at. nodes_room F (view_of c.args.self.now) c.requires.ready.sound got rest at

pub take_next-requires-in-Claiming-2-clause-nodes : goal.take_next-requires-in-Claiming-2-clause-nodes
take_next-requires-in-Claiming-2-clause-nodes g c =
    let F = fixed_of g.A.Action.meaning c.args.rules.now in
    λ got rest at. nodes_room F (view_of c.args.self.now) c.requires.ready.sound got rest at

pub give_next-requires-clause-player : goal.give_next-requires-clause-player
give_next-requires-clause-player g c κs within =
    let F = fixed_of g.A.Action.meaning c.args.rules.now in
    λ node plan at. player_at_point F (view_of c.args.self.now) c.requires.ready.sound (core_points.Leaving node plan) at refl refl

pub returns-in-Taking-clause-view : goal.returns-in-Taking-clause-view
returns-in-Taking-clause-view g c =
    let F = fixed_of g.A.Action.meaning c.args.rules.now in
    took_leaf F (view_of c.args.self.now) _ (given_of c.args.self.now) c.args.effect.now c.args.self.now.queues.got.items c.args.self.now.queues.rest.items c.args.found (ap (point_of c.args.self.now.queues) c.in-Taking.is) (leaves_left F (view_of c.args.self.now) c.requires.ready.sound c.args.self.now.queues.got.items c.args.self.now.queues.rest.items (ap (point_of c.args.self.now.queues) c.in-Taking.is)) c.take_next.ensures.view

pub returns-in-Entering-clause-view : goal.returns-in-Entering-clause-view
returns-in-Entering-clause-view g c =
    let F = fixed_of g.A.Action.meaning c.args.rules.now in
    took_inner F (view_of c.args.self.now) _ (given_of c.args.self.now) c.args.effect.now c.in-Entering.node c.args.self.now.queues.plan.items c.args.found (ap (point_of c.args.self.now.queues) c.in-Entering.is) c.take_next-in-Entering.ensures.view

pub returns-in-Entered-clause-view : goal.returns-in-Entered-clause-view
returns-in-Entered-clause-view g c =
    let F = fixed_of g.A.Action.meaning c.args.rules.now in
    gone F (view_of c.args.self.now) _ (given_of c.args.self.now) c.args.effect.now (core_points.Entered c.in-Entered.node c.args.self.now.queues.plan.items) _ c.args.found (ap (point_of c.args.self.now.queues) c.in-Entered.is) refl (c.read_list.ensures.view c.in-Entered.node c.args.self.now.queues.plan.items (ap (point_of c.args.self.now.queues) c.in-Entered.is))

pub returns-in-Loading-clause-view : goal.returns-in-Loading-clause-view
returns-in-Loading-clause-view g c =
    let F = fixed_of g.A.Action.meaning c.args.rules.now in
    read_player F (view_of c.args.self.now) _ (given_of c.args.self.now) c.args.effect.now c.in-Loading.node c.args.self.now.queues.part.items c.args.self.now.queues.players.items c.args.self.now.queues.plan.items c.args.found (ap (point_of c.args.self.now.queues) c.in-Loading.is) (players_left F (view_of c.args.self.now) c.requires.ready.sound c.in-Loading.node c.args.self.now.queues.part.items c.args.self.now.queues.players.items c.args.self.now.queues.plan.items (ap (point_of c.args.self.now.queues) c.in-Loading.is))
    (λ slot rest at. c.read_player.ensures.view c.in-Loading.node slot c.args.self.now.queues.part.items rest c.args.self.now.queues.plan.items at)

pub returns-in-Sensing-clause-view : goal.returns-in-Sensing-clause-view
returns-in-Sensing-clause-view g c =
    let F = fixed_of g.A.Action.meaning c.args.rules.now in
    read_state F (view_of c.args.self.now) _ (given_of c.args.self.now) c.args.effect.now c.args.self.now.queues.things.ids c.args.found (ap (point_of c.args.self.now.queues) c.in-Sensing.is) (things_left F (view_of c.args.self.now) c.requires.ready.sound c.args.self.now.queues.things.ids (ap (point_of c.args.self.now.queues) c.in-Sensing.is)) c.read_state.ensures.view

pub returns-in-Resolving-clause-view : goal.returns-in-Resolving-clause-view
returns-in-Resolving-clause-view g c =
    let F = fixed_of g.A.Action.meaning c.args.rules.now in
    resolved F (view_of c.args.self.now) _ (given_of c.args.self.now) c.args.effect.now c.args.found (ap (point_of c.args.self.now.queues) c.in-Resolving.is) c.requires.comes c.resolve.ensures.view

pub returns-in-Claiming-clause-view : goal.returns-in-Claiming-clause-view
returns-in-Claiming-clause-view g c =
    let F = fixed_of g.A.Action.meaning c.args.rules.now in
    let claim = claimed F (view_of c.args.self.now) c.requires.ready.sound c.args.self.now.queues.got.items c.args.self.now.queues.rest.items (ap (point_of c.args.self.now.queues) c.in-Claiming.is) in
    committed F (view_of c.args.self.now) _ (given_of c.args.self.now) c.args.effect.now claim.e c.args.self.now.queues.got.items c.args.self.now.queues.rest.items c.args.found (ap (point_of c.args.self.now.queues) c.in-Claiming.is) (none_left c.args.self.now.queues.rest.items (sym c.is_empty.ensures ∙ c.if-is_empty.true)) claim.is
    (c.commit_held.ensures.view claim.e c.args.self.now.queues.got.items c.args.self.now.queues.rest.items claim.is (ap (point_of c.args.self.now.queues) c.in-Claiming.is))

pub returns-in-Claiming-2-clause-view : goal.returns-in-Claiming-2-clause-view
returns-in-Claiming-2-clause-view g c =
    let F = fixed_of g.A.Action.meaning c.args.rules.now in
    took_node F (view_of c.args.self.now) _ (given_of c.args.self.now) c.args.effect.now c.args.self.now.queues.got.items c.args.self.now.queues.rest.items c.args.found (ap (point_of c.args.self.now.queues) c.in-Claiming.is) (some_left c.args.self.now.queues.rest.items (sym c.is_empty.ensures ∙ c.if-is_empty.false)) c.take_next-in-Claiming-2.ensures.view

pub returns-in-Storing-clause-view : goal.returns-in-Storing-clause-view
returns-in-Storing-clause-view g c =
    let F = fixed_of g.A.Action.meaning c.args.rules.now in
    stored F (view_of c.args.self.now) _ (given_of c.args.self.now) c.args.effect.now c.args.self.now.queues.got.items (map store_of c.args.self.now.queues.stores.items) c.args.found (ap (point_of c.args.self.now.queues) c.in-Storing.is)
    (stores_left F (view_of c.args.self.now) c.requires.ready.sound c.args.self.now.queues.got.items (map store_of c.args.self.now.queues.stores.items) (ap (point_of c.args.self.now.queues) c.in-Storing.is)) (c.store_made.ensures.view c.args.self.now.queues.got.items)

pub returns-in-Releasing-clause-view : goal.returns-in-Releasing-clause-view
returns-in-Releasing-clause-view g c =
    let F = fixed_of g.A.Action.meaning c.args.rules.now in
    gave F (view_of c.args.self.now) _ (given_of c.args.self.now) c.args.effect.now (core_points.Releasing c.args.self.now.queues.got.items) _ c.args.found (ap (point_of c.args.self.now.queues) c.in-Releasing.is) refl c.requires.comes c.give_next-in-Releasing.ensures.view

pub returns-in-Returning-clause-view : goal.returns-in-Returning-clause-view
returns-in-Returning-clause-view g c =
    let F = fixed_of g.A.Action.meaning c.args.rules.now in
    gave F (view_of c.args.self.now) _ (given_of c.args.self.now) c.args.effect.now (core_points.Returning c.args.self.now.queues.rest.items) _ c.args.found (ap (point_of c.args.self.now.queues) c.in-Returning.is) refl c.requires.comes c.give_next-in-Returning.ensures.view

pub returns-in-Yielding-clause-view : goal.returns-in-Yielding-clause-view
returns-in-Yielding-clause-view g c =
    let F = fixed_of g.A.Action.meaning c.args.rules.now in
    gave F (view_of c.args.self.now) _ (given_of c.args.self.now) c.args.effect.now (core_points.Yielding c.args.self.now.queues.got.items c.args.self.now.queues.rest.items) _ c.args.found (ap (point_of c.args.self.now.queues) c.in-Yielding.is) refl c.requires.comes c.give_next-in-Yielding.ensures.view
