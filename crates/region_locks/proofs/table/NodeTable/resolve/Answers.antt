use Rattle.std.proofs.Common.{sym, ap, subst, length, Some}
use Rattle.ruled_words.specs.Passes.{PassView, fixed_in, IsPassOf}
use Rattle.ruled_words.proofs.Owns.{resolved_own}
use Rattle.region_locks.proofs.table.NodeTable.resolve.Goals as goal

pub returns-clause-own : goal.returns-clause-own
returns-clause-own g c =
    subst (IsPassOf (fixed_in g.A.Action.meaning c.args.self.now) (length c.args.self.now.rooms) c.args.self.now.table) (ap (λ (q : PassView). record q { effect = Some c.args.e }) (sym c.pass.view_is))
    (resolved_own (fixed_in g.A.Action.meaning c.args.self.now) (length c.args.self.now.rooms) c.args.self.now.table c.args.pass.now c.args.e c.requires.own c.requires.read c.requires.effect)
