use Rattle.std.proofs.Common.{◌+◌, ◌≤◌, sym, subst, length, Result}
use Rattle.std.specs.Result.{IfOk}
use Rattle.entity_recs.specs.declared.effect.Entry.{Entry}
use Rattle.entity_recs.specs.Commands.{command_of}
use Rattle.ruled_words.specs.Hands.{plain_pass}
use Rattle.ruled_words.specs.Passes.{PassView, TableView, IsPassOf, fixed_in}
use Rattle.shared_moves.specs.PassParts.{IsKeptBeside}
use Rattle.shared_moves.specs.Runs.{HasMoved}
use Rattle.shared_moves.proofs.PassRuns.{hand_own, near_room, pass_ran, waits_on}
use Rattle.shared_moves.proofs.shared.Shared.run_into_log.Goals as goal

pub walk-walked-requires-clause-own : goal.walk-walked-requires-clause-own
walk-walked-requires-clause-own g c κs within =
    subst (λ (t : TableView _). IsPassOf (fixed_in g.A.Action.meaning t) (length t.rooms) t.table (plain_pass c.pass.inside.hand)) (sym c.self.view_is)
    (subst (λ (p : PassView). IsPassOf (fixed_in g.A.Action.meaning c.args.self.now) (length c.args.self.now.rooms) c.args.self.now.table (plain_pass p)) (sym c.pass.view_is)
    (hand_own (fixed_in g.A.Action.meaning c.args.self.now) (length c.args.self.now.rooms) c.args.self.now.table c.args.pass.now c.requires.own c.requires.free))

pub walk-walked-requires-clause-room : goal.walk-walked-requires-clause-room
walk-walked-requires-clause-room g c κs within =
    subst (λ (t : TableView _). 64 + length (fixed_in g.A.Action.meaning t).start.ids ≤ c.pass.inside.room.near.room) (sym c.self.view_is)
    (near_room (fixed_in g.A.Action.meaning c.args.self.now) (length c.args.self.now.rooms) c.args.self.now.table c.args.pass.now c.pass.inside.log c.pass.inside.refusals c.pass.inside.room.near c.requires.own
    (subst (λ (p : PassView). IsKeptBeside p c.pass.inside.log c.pass.inside.refusals c.pass.inside.room.near) c.pass.view_is c.pass.invariant))

pub unwrap-requires : goal.unwrap-requires
unwrap-requires g c = waits_on c.walk-walked.result c.walk-walked.ensures.at_once

pub returns : goal.returns
returns g c =
    let new = c.walk-walked.new.hand in
    let moved : HasMoved (command_of c.args.cmd) c.unwrap.result c.pass.inside.hand new =
    subst (λ (r : Result _ _). IfOk r (λ (e : Entry). HasMoved (command_of c.args.cmd) e c.pass.inside.hand new)) c.unwrap.ensures c.walk-walked.ensures.moved in
    record {
      entry = c.unwrap.result;
      run = pass_ran (fixed_in g.A.Action.meaning c.args.self.now) (length c.args.self.now.rooms) c.args.self.now.table c.args.pass.now c.requires.own c.requires.free new (command_of c.args.cmd) c.unwrap.result
          (subst (λ (p : PassView). HasMoved (command_of c.args.cmd) c.unwrap.result p new) c.pass.view_is moved)
          (subst (λ (t : TableView _). IsPassOf (fixed_in g.A.Action.meaning t) (length t.rooms) t.table new) c.self.view_is c.walk-walked.ensures.own.pass);
    }
