use Rattle.std.proofs.Common.{◌≡◌, ◌∙◌, sym, arith, rules}
use Rattle.std.proofs.lemmas.Grind.{common_steps}
use Rattle.link_lists.specs.Pool.{IsProper, first_of}
use Rattle.link_lists.proofs.Pools.{IfSome-from, where_of-first}
use Rattle.link_lists.proofs.lists.Lists.first.Goals as goal

-- the head is the first id of the list, and so it is in that list
pub returns-clause-member : goal.returns-clause-member
returns-clause-member c =
    let proper : IsProper c.args.self.now = search rules in
    let head : c.flatten.result ≡ first_of c.args.self.now c.args.list = grind (arith, common_steps) in
    IfSome-from _ _ (λ id is. where_of-first c.args.self.now c.args.list id proper (sym head ∙ is))
