use Rattle.std.proofs.Common.{◌≡◌, ◌+◌, ◌≤◌, ◌++◌, ◌∷◌, [], suc, Some, refl, sym, ap, ◌∙◌, subst, length, Option}
use Rattle.std.specs.Prelude.{option_copied}
use Rattle.std.specs.Option.{option_map}
use Rattle.entity_recs.specs.declared.cmd.Cmd.{Cmd}
use Rattle.entity_recs.specs.declared.effect.Entry.{Entry}
use Rattle.entity_recs.specs.Commands.{command_of}
use Rattle.core_steps.specs.Nodes.{Fixed, inner_nodes}
use Rattle.core_steps.specs.Reads.{View, Refused, without_command}
use Rattle.core_seats.specs.Refusals.{AreRefusals, last_of, refused_of}
use Rattle.core_machine.specs.Seats.{view_of}
use Rattle.ruled_words.specs.GivingUp.{IsRefusedBy}
use Rattle.ruled_words.specs.Hands.{plain_pass}
use Rattle.ruled_words.specs.Passes.{PassView, TableView, IsPassOf, fixed_in, sight_of}
use Rattle.ruled_words.specs.Plays.{IsSoundSight}
use Rattle.ruled_words.proofs.Owns.{looked_own}
use Rattle.shared_moves.specs.InHand.{item_of}
use Rattle.shared_moves.specs.Moves.{IsCause}
use Rattle.shared_moves.specs.Runs.{HasLeft}
use Rattle.shared_moves.proofs.PassRuns.{is_noted}
use Rattle.region_locks.proofs.Following.{near_room_for}
use Rattle.region_locks.proofs.Tried.{seat_done, seat_left, left_looked, plain_own, has_run, none_refused, was_left}
use Rattle.region_locks.proofs.table.NodeTable.try_run.Goals as goal

pub walk-requires-clause-own : goal.walk-requires-clause-own
walk-requires-clause-own g c κs within =
    subst (λ (t : TableView _). IsPassOf (fixed_in g.A.Action.meaning t) (length t.rooms) t.table (plain_pass c.pass.inside.hand)) (sym c.self.view_is)
    (plain_own (fixed_in g.A.Action.meaning c.args.self.now) (length c.args.self.now.rooms) c.args.self.now.table c.args.pass.now c.pass.inside.hand c.pass.inside.seat c.pass.inside.effect
    c.pass.view_is c.pass.invariant.same_view c.requires.own c.requires.free)

pub walk-requires-clause-room : goal.walk-requires-clause-room
walk-requires-clause-room g c κs within =
    subst (λ (t : TableView _). 64 + length (fixed_in g.A.Action.meaning t).start.ids ≤ c.pass.inside.room.near.room) (sym c.self.view_is)
    (near_room_for (fixed_in g.A.Action.meaning c.args.self.now) (length c.args.self.now.rooms) c.args.self.now.table c.args.pass.now c.pass.inside.hand c.pass.inside.seat c.pass.inside.effect c.pass.inside.room.near
    c.pass.view_is c.requires.own c.pass.invariant)

pub returns-in-Ok-clause-ok : goal.returns-in-Ok-clause-ok
returns-in-Ok-clause-ok g c =
    let inside = c.pass.inside in
    let F : Fixed = fixed_in g.A.Action.meaning c.args.self.now in
    let count = length c.args.self.now.rooms in
    let cmd = command_of c.args.cmd in
    let new = c.walk.new.hand in
    let own_new : IsPassOf F count c.args.self.now.table new = subst (λ (t : TableView _). IsPassOf (fixed_in g.A.Action.meaning t) (length t.rooms) t.table new) c.self.view_is c.walk.ensures.own.pass in
    let forgot : AreRefusals c.forget.new.self.refusals inside.hand.view = record {
      count = ap (λ (v : View). v.refusals) (c.forget.ensures.view ∙ ap without_command c.pass.invariant.same_view);
      last = ap (λ (v : View). v.refused) (c.forget.ensures.view ∙ ap without_command c.pass.invariant.same_view);
    } in
    let noted : AreRefusals c.walk.new.refusals new.view = c.walk.ensures.refusals forgot in
    let e = c.in-Ok.entry in
    let follows = seat_done cmd e c.walk.new.refusals (view_of inside.seat) inside.hand.view new.view (view_of c.forget.new.self) (view_of c.keep.new.self) c.pass.invariant.same_view c.forget.ensures.view noted
    (c.keep.ensures.view ∙ ap (λ (f : Entry). record (view_of c.forget.new.self) {
      refusals = c.walk.new.refusals.count;
      refused = last_of c.walk.new.refusals;
      log = (view_of c.forget.new.self).log ++ item_of cmd f ∷ [];
      seen = suc f.place;
    }) c.same_entry.ensures) in
    has_run F count c.args.self.now.table c.args.pass.now inside.hand inside.seat inside.effect c.pass.view_is c.pass.invariant.same_view c.requires.own c.requires.free
    new c.keep.new.self cmd e c.in-Ok.ensures.moved own_new
    (ap (λ (o : Option Cmd). option_map command_of o) (c.keep.ensures.given ∙ c.forget.ensures.given)) (c.keep.ensures.quits ∙ c.forget.ensures.quits) follows

pub returns-in-Ok-clause-served : goal.returns-in-Ok-clause-served
returns-in-Ok-clause-served g c =
    let inside = c.pass.inside in
    let F : Fixed = fixed_in g.A.Action.meaning c.args.self.now in
    let count = length c.args.self.now.rooms in
    let cmd = command_of c.args.cmd in
    let new = c.walk.new.hand in
    let own_new : IsPassOf F count c.args.self.now.table new = subst (λ (t : TableView _). IsPassOf (fixed_in g.A.Action.meaning t) (length t.rooms) t.table new) c.self.view_is c.walk.ensures.own.pass in
    let forgot : AreRefusals c.forget.new.self.refusals inside.hand.view = record {
      count = ap (λ (v : View). v.refusals) (c.forget.ensures.view ∙ ap without_command c.pass.invariant.same_view);
      last = ap (λ (v : View). v.refused) (c.forget.ensures.view ∙ ap without_command c.pass.invariant.same_view);
    } in
    let noted : AreRefusals c.walk.new.refusals new.view = c.walk.ensures.refusals forgot in
    let e = c.in-Ok.entry in
    let follows = seat_done cmd e c.walk.new.refusals (view_of inside.seat) inside.hand.view new.view (view_of c.forget.new.self) (view_of c.keep.new.self) c.pass.invariant.same_view c.forget.ensures.view noted
    (c.keep.ensures.view ∙ ap (λ (f : Entry). record (view_of c.forget.new.self) {
      refusals = c.walk.new.refusals.count;
      refused = last_of c.walk.new.refusals;
      log = (view_of c.forget.new.self).log ++ item_of cmd f ∷ [];
      seen = suc f.place;
    }) c.same_entry.ensures) in
    none_refused F count c.args.self.now.table c.args.pass.now inside.hand inside.seat inside.effect c.pass.view_is c.pass.invariant.same_view c.requires.own c.requires.free
    new c.keep.new.self (c.in-Ok.ensures.served refl) (follows ∙ sym (ap (λ (q : PassView). q.view) c.in-Ok.ensures.moved.hand))

pub returns-in-Err-clause-err : goal.returns-in-Err-clause-err
returns-in-Err-clause-err g c =
    let inside = c.pass.inside in
    let F : Fixed = fixed_in g.A.Action.meaning c.args.self.now in
    let count = length c.args.self.now.rooms in
    let cmd = command_of c.args.cmd in
    let new = c.walk.new.hand in
    let own_new : IsPassOf F count c.args.self.now.table new = subst (λ (t : TableView _). IsPassOf (fixed_in g.A.Action.meaning t) (length t.rooms) t.table new) c.self.view_is c.walk.ensures.own.pass in
    let forgot : AreRefusals c.forget.new.self.refusals inside.hand.view = record {
      count = ap (λ (v : View). v.refusals) (c.forget.ensures.view ∙ ap without_command c.pass.invariant.same_view);
      last = ap (λ (v : View). v.refused) (c.forget.ensures.view ∙ ap without_command c.pass.invariant.same_view);
    } in
    let noted : AreRefusals c.walk.new.refusals new.view = c.walk.ensures.refusals forgot in
    let left : HasLeft F count cmd inside.hand new = subst (λ (t : TableView _). HasLeft (fixed_in g.A.Action.meaning t) (length t.rooms) cmd inside.hand new) c.self.view_is c.in-Err.ensures.left in
    let looked = c.look_on-pass-inside.new.hand in
    let found = c.look_on-pass-inside.result in
    let follows = seat_left F count cmd c.walk.new.refusals found (view_of inside.seat) (view_of c.forget.new.self) inside.hand new c.pass.invariant.same_view c.forget.ensures.view left noted
    ∙ sym (ap (λ (q : PassView). q.view) c.look_on-pass-inside.ensures.hand) in
    let looked_left = left_looked F count cmd inside.hand new looked found left c.look_on-pass-inside.ensures.hand c.look_on-pass-inside.ensures.seen in
    let own_looked = looked_own F count c.args.self.now.table new looked found c.look_on-pass-inside.ensures.hand own_new
    (subst (λ (t : TableView _). IsSoundSight (fixed_in g.A.Action.meaning t) (length t.rooms) (sight_of looked)) c.self.view_is c.look_on-pass-inside.ensures.sound_sight) in
    let last : last_of c.walk.new.refusals ≡ Some looked_left.r =
    noted.last ∙ sym (ap (λ (q : PassView). q.view.refused) c.look_on-pass-inside.ensures.hand) ∙ ap (λ (q : PassView). q.view.refused) looked_left.hand in
    let kept : refused_of c.unwrap-refused.result.now ≡ looked_left.r =
    is_noted c.walk.new.refusals looked_left.r c.unwrap-refused.result.now last (sym (ap option_copied c.unwrap-refused.ensures) ∙ c.as_ref.ensures.value) in
    let first : c.first_leaf.result ≡ inner_nodes F = subst (λ (t : TableView _). c.first_leaf.result ≡ inner_nodes (fixed_in g.A.Action.meaning t)) c.self.view_is c.first_leaf.ensures.value in
    let cause : IsCause F count inside.hand.number cmd looked_left.r c.again_after.result =
    subst (λ (r : Refused). IsCause F count inside.hand.number cmd r c.again_after.result) kept
    (c.again_after.ensures F count inside.hand.number cmd looked_left.holder looked_left.leaves first
    (subst (λ (r : Refused). IsRefusedBy F count inside.hand.number cmd r looked_left.holder looked_left.leaves) (sym kept) looked_left.fault)) in
    was_left F count c.args.self.now.table c.args.pass.now inside.hand inside.seat inside.effect c.pass.view_is c.pass.invariant.same_view c.requires.own c.requires.free
    looked (record c.forget.new.self { seen = found; refusals = c.walk.new.refusals }) cmd c.again_after.result looked_left own_looked cause
    (ap (λ (o : Option Cmd). option_map command_of o) c.forget.ensures.given) c.forget.ensures.quits follows
