use Rattle.std.proofs.Common.{◌≡◌, ◌+◌, ◌≤◌, Some, sym, ap, ◌∙◌, subst, length}
use Rattle.std.specs.Prelude.{option_copied}
use Rattle.entity_recs.specs.Commands.{command_of}
use Rattle.core_steps.specs.Nodes.{Fixed, inner_nodes}
use Rattle.core_steps.specs.Reads.{Refused}
use Rattle.core_seats.specs.Refusals.{last_of, refused_of}
use Rattle.ruled_words.specs.GivingUp.{IsRefusedBy}
use Rattle.ruled_words.specs.Hands.{plain_pass}
use Rattle.ruled_words.specs.Passes.{PassView, TableView, IsPassOf, fixed_in}
use Rattle.shared_moves.specs.Moves.{IsCause}
use Rattle.shared_moves.specs.PassParts.{IsKeptBeside}
use Rattle.shared_moves.specs.Runs.{HasMoved, HasLeft}
use Rattle.shared_moves.proofs.PassRuns.{hand_own, near_room, pass_ran, was_not_run, is_noted}
use Rattle.shared_moves.proofs.shared.Shared.try_run.Goals as goal

pub walk-requires-clause-own : goal.walk-requires-clause-own
walk-requires-clause-own g c κs within =
    subst (λ (t : TableView _). IsPassOf (fixed_in g.A.Action.meaning t) (length t.rooms) t.table (plain_pass c.pass.inside.hand)) (sym c.self.view_is)
    (subst (λ (p : PassView). IsPassOf (fixed_in g.A.Action.meaning c.args.self.now) (length c.args.self.now.rooms) c.args.self.now.table (plain_pass p)) (sym c.pass.view_is)
    (hand_own (fixed_in g.A.Action.meaning c.args.self.now) (length c.args.self.now.rooms) c.args.self.now.table c.args.pass.now c.requires.own c.requires.free))

pub walk-requires-clause-room : goal.walk-requires-clause-room
walk-requires-clause-room g c κs within =
    subst (λ (t : TableView _). 64 + length (fixed_in g.A.Action.meaning t).start.ids ≤ c.pass.inside.room.near.room) (sym c.self.view_is)
    (near_room (fixed_in g.A.Action.meaning c.args.self.now) (length c.args.self.now.rooms) c.args.self.now.table c.args.pass.now c.pass.inside.log c.pass.inside.refusals c.pass.inside.room.near c.requires.own
    (subst (λ (p : PassView). IsKeptBeside p c.pass.inside.log c.pass.inside.refusals c.pass.inside.room.near) c.pass.view_is c.pass.invariant))

pub returns-in-Ok-clause-ok : goal.returns-in-Ok-clause-ok
returns-in-Ok-clause-ok g c =
    let new = c.walk.new.hand in
    pass_ran (fixed_in g.A.Action.meaning c.args.self.now) (length c.args.self.now.rooms) c.args.self.now.table c.args.pass.now c.requires.own c.requires.free new (command_of c.args.cmd) c.in-Ok.entry
    (subst (λ (p : PassView). HasMoved (command_of c.args.cmd) c.in-Ok.entry p new) c.pass.view_is c.in-Ok.ensures.moved)
    (subst (λ (t : TableView _). IsPassOf (fixed_in g.A.Action.meaning t) (length t.rooms) t.table new) c.self.view_is c.walk.ensures.own.pass)

pub returns-in-Err-clause-err : goal.returns-in-Err-clause-err
returns-in-Err-clause-err g c =
    let new = c.walk.new.hand in
    let own = c.args.pass.now.number in
    let F : Fixed = fixed_in g.A.Action.meaning c.args.self.now in
    let count = length c.args.self.now.rooms in
    let left : HasLeft F count (command_of c.args.cmd) c.args.pass.now new =
    subst (λ (t : TableView _). HasLeft (fixed_in g.A.Action.meaning t) (length t.rooms) (command_of c.args.cmd) c.args.pass.now new) c.self.view_is
    (subst (λ (p : PassView). HasLeft (fixed_in g.A.Action.meaning c.self.inside.words) (length c.self.inside.words.rooms) (command_of c.args.cmd) p new) c.pass.view_is c.in-Err.ensures.left) in
    let last : last_of c.walk.new.refusals ≡ Some left.r = (c.walk.ensures.refusals c.pass.invariant.refusals_are).last ∙ ap (λ (q : PassView). q.view.refused) left.hand in
    let kept : refused_of c.unwrap-refused.result.now ≡ left.r =
    is_noted c.walk.new.refusals left.r c.unwrap-refused.result.now last (sym (ap option_copied c.unwrap-refused.ensures) ∙ c.as_ref.ensures.value) in
    let first : c.first_leaf.result ≡ inner_nodes F = subst (λ (t : TableView _). c.first_leaf.result ≡ inner_nodes (fixed_in g.A.Action.meaning t)) c.self.view_is c.first_leaf.ensures.value in
    was_not_run F count c.args.self.now.table c.args.pass.now c.requires.own c.requires.free new (command_of c.args.cmd) c.again_after.result left
    (subst (λ (t : TableView _). IsPassOf (fixed_in g.A.Action.meaning t) (length t.rooms) t.table new) c.self.view_is c.walk.ensures.own.pass)
    (subst (λ (r : Refused). IsCause F count own (command_of c.args.cmd) r c.again_after.result) kept
    (c.again_after.ensures F count own (command_of c.args.cmd) left.holder left.leaves first
    (subst (λ (r : Refused). IsRefusedBy F count own (command_of c.args.cmd) r left.holder left.leaves) (sym kept) left.fault)))
