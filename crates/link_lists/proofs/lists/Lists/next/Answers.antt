use Rattle.std.proofs.Common.{◌≡◌, ◌↔◌, ℕ, ◌+◌, length, Option, None, ◌∙◌, sym, subst, arith, rules}
use Rattle.std.proofs.lemmas.Grind.{common_steps}
use Rattle.link_lists.specs.Pool.{IsProper, list_of, next_of}
use Rattle.link_lists.proofs.Absences.{none_after_last}
use Rattle.link_lists.proofs.Pools.{IfSome-from, next_of-at, where_of-next_same}
use Rattle.link_lists.proofs.lists.Lists.next.Goals as goal

-- the link is what comes next in the list, which is at the next place
pub returns-clause-follows : goal.returns-clause-follows
returns-clause-follows c =
    let proper : IsProper c.args.self.now = search rules in
    let link : c.index.result.now ≡ next_of c.args.self.now c.args.id = grind (arith, common_steps) in
    λ list place at. link ∙ next_of-at c.args.self.now list place c.args.id proper at

-- and is in the same list
pub returns-clause-same_list : goal.returns-clause-same_list
returns-clause-same_list c =
    let proper : IsProper c.args.self.now = search rules in
    let link : c.index.result.now ≡ next_of c.args.self.now c.args.id = grind (arith, common_steps) in
    IfSome-from _ _ (λ other is. where_of-next_same c.args.self.now c.args.id other proper (sym link ∙ is))

-- there is none exactly at the last place
pub returns-clause-none : goal.returns-clause-none
returns-clause-none c = λ list place at.
    subst (λ (r : Option ℕ). (r ≡ None) ↔ (length (list_of c.args.self.now list) ≡ place + 1)) (sym (returns-clause-follows c list place at))
    (none_after_last (list_of c.args.self.now list) place c.args.id at)
