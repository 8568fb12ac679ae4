use Rattle.std.proofs.Common.{arith, ◌≡◌, ◌∙◌, sym, ap, map, ◌∷◌, List, refl}
use Rattle.core_steps.specs.Points as core_points
use Rattle.core_machine.specs.declared.point.Store.{Store}
use Rattle.core_machine.specs.Points.{point_of, store_of}
use Rattle.core_machine.specs.Seats.{view_of, given_of}
use Rattle.core_seats.specs.Shown.{fixed_of}
use Rattle.core_machine.proofs.SoundViews.{sensed_in, owed_in_table, player_next, state_next}
use Rattle.core_seats.proofs.SoundRecords.{before_is_record, loaded_is_record}
use Rattle.core_machine.proofs.seat.Seat.point_step.Goals as goal

pub state_step-requires : goal.state_step-requires
state_step-requires g c = λ id rest is.
    let F = fixed_of g.A.Action.meaning c.args.rules.now in
    let ids : c.args.self.now.queues.things.ids ≡ id ∷ rest = sym c.ids.ensures ∙ is in
    let below = sensed_in F (view_of c.args.self.now) id rest c.is_lawful.ensures c.is_ruled.ensures.start c.requires.sound (ap (point_of c.args.self.now.queues) c.in-Sensing.is ∙ ap core_points.Sensing ids) in
    omega arith

pub resolved_step-requires-clause-before : goal.resolved_step-requires-clause-before
resolved_step-requires-clause-before g c κs within =
    let F = fixed_of g.A.Action.meaning c.args.rules.now in
    before_is_record F (view_of c.args.self.now) c.requires.sound core_points.Resolving c.is_lawful.ensures.validity (ap (point_of c.args.self.now.queues) c.in-Resolving.is) refl refl

pub resolved_step-requires-clause-after : goal.resolved_step-requires-clause-after
resolved_step-requires-clause-after g c κs within = λ e is.
    let F = fixed_of g.A.Action.meaning c.args.rules.now in
    let at : point_of c.args.self.now.queues c.args.self.now.point ≡ core_points.Resolving = ap (point_of c.args.self.now.queues) c.in-Resolving.is in
    loaded_is_record F (view_of c.args.self.now) c.requires.sound e c.is_lawful.ensures.validity at (c.requires.due e at is)

pub next_store_step-requires : goal.next_store_step-requires
next_store_step-requires g c = λ store rest is.
    let F = fixed_of g.A.Action.meaning c.args.rules.now in
    let stores : c.args.self.now.queues.stores.items ≡ store ∷ rest = sym c.as_slice-in-Storing.ensures.value ∙ is in
    owed_in_table F (view_of c.args.self.now) c.args.self.now.queues.got.items store rest c.requires.sound
    (ap (point_of c.args.self.now.queues) c.in-Storing.is ∙ ap (λ (ss : List Store). core_points.Storing c.args.self.now.queues.got.items (map store_of ss)) stores)

pub returns-in-Loading : goal.returns-in-Loading
returns-in-Loading g c =
    let F = fixed_of g.A.Action.meaning c.args.rules.now in
    let qs = c.args.self.now.queues in
    rw (c.player_step.ensures, c.as_slice-in-Loading.ensures.value, c.len-in-Loading.ensures.value, c.in-Loading.is)
    (player_next F (view_of c.args.self.now) (given_of c.args.self.now) c.args.number c.in-Loading.node qs.part.items qs.players.items qs.plan.items)

pub returns-in-Storing : goal.returns-in-Storing
returns-in-Storing g c =
    let F = fixed_of g.A.Action.meaning c.args.rules.now in
    rw (c.next_store_step.ensures F (view_of c.args.self.now) (given_of c.args.self.now) c.args.self.now.queues.got.items, c.as_slice-in-Storing.ensures.value, c.in-Storing.is) refl

pub returns-in-Sensing : goal.returns-in-Sensing
returns-in-Sensing g c =
    let F = fixed_of g.A.Action.meaning c.args.rules.now in
    rw (c.state_step.ensures, c.ids.ensures, c.in-Sensing.is)
    (state_next F (view_of c.args.self.now) (given_of c.args.self.now) c.args.number c.args.self.now.queues.things.ids)

pub returns-in-Claiming : goal.returns-in-Claiming
returns-in-Claiming g c =
    let F = fixed_of g.A.Action.meaning c.args.rules.now in
    rw (c.claim_step.ensures F c.args.self.now.queues.got.items, c.as_slice-in-Claiming.ensures.value, c.in-Claiming.is) refl
