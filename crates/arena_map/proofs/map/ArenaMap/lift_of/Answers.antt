use Rattle.std.proofs.Common.{rules, ◌≡◌, Option, IfSome, is_some, ap, ◌∙◌, sym, subst}
use Rattle.arena_map.specs.declared.lift.Lift.{Lift}
use Rattle.arena_map.specs.Maps.{IsLift, lift_of}
use Rattle.arena_map.proofs.Lifts.{lift-is_lift}
use Rattle.arena_map.proofs.ThingData.{lift-some}
use Rattle.arena_map.proofs.map.ArenaMap.lift_of.Goals as goal

pub returns-clause-lift : goal.returns-clause-lift
returns-clause-lift c =
    let Is : Option Lift → Type 0 = λ lift. IfSome lift IsLift in
    subst Is (sym c.lift_data.ensures) (lift-is_lift c.args.self.now c.in_ok-thing_of.field-0 c.in_ok-thing_of.ensures.rules c.in_ok-thing_of.ensures.inside)

pub returns-in_err-thing_of-clause-some : goal.returns-in_err-thing_of-clause-some
returns-in_err-thing_of-clause-some c =
    let value : c.from_residual.result ≡ lift_of c.args.self.now c.args.id = search rules in
    ap is_some value ∙ lift-some c.args.self.now c.args.id c.in_err-thing_of.ensures.rules

pub returns-clause-some : goal.returns-clause-some
returns-clause-some c =
    let value : c.lift_data.result ≡ lift_of c.args.self.now c.args.id = search rules in
    ap is_some value ∙ lift-some c.args.self.now c.args.id c.in_ok-thing_of.ensures.rules
