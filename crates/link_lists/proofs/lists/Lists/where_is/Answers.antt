use Rattle.std.proofs.Common.{◌≡◌, ◌↔◌, ℕ, Option, Some, IsTrue, sym, subst, arith, rules}
use Rattle.std.proofs.lemmas.Grind.{common_steps}
use Rattle.link_lists.specs.Pool.{has, list_of, IsProper, where_of}
use Rattle.link_lists.proofs.Absences.{none_where_absent}
use Rattle.link_lists.proofs.Pools.{where_of-member}
use Rattle.link_lists.proofs.lists.Lists.where_is.Goals as goal

-- the answer is where the id is
pub returns-clause-member : goal.returns-clause-member
returns-clause-member c =
    let place : c.flatten.result ≡ where_of c.args.self.now c.args.id = grind (arith, common_steps) in
    let proper : IsProper c.args.self.now = search rules in
    λ list. subst (λ (r : Option ℕ). (r ≡ Some list) ↔ IsTrue (has (list_of c.args.self.now list) c.args.id))
    (sym place)
    (where_of-member c.args.self.now c.args.id list proper)

-- there is none exactly where no list has the id
pub returns-clause-none : goal.returns-clause-none
returns-clause-none c = none_where_absent c.args.self.now c.args.id c.flatten.result (returns-clause-member c)
