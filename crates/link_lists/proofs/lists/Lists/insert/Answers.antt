use Rattle.std.proofs.Common.{◌≡◌, Some, set, length, sym, ap, subst, arith}
use Rattle.std.proofs.lemmas.Grind.{common_steps}
use Rattle.std.proofs.lemmas.List.{with_items_is}
use Rattle.std.specs.Vec.{with_items}
use Rattle.link_lists.specs.Pool.{ListsView, lists_after_insert, IsProper, SetsOnly}
use Rattle.link_lists.specs.Links.{link_at, with_link, IsLinkedAs}
use Rattle.link_lists.proofs.Pools.{where_of-inserted}
use Rattle.link_lists.proofs.Walks.{pool_of-linked, IsLinkedAs-itself}
use Rattle.link_lists.proofs.Linking.{head_in_range, IsLinkedAs-inserted}
use Rattle.link_lists.proofs.lists.Lists.insert.Goals as goal
use Rattle.link_lists.proofs.lists.Lists.insert.Goals.{After-index_mut-3}

pub link_back-requires : goal.link_back-requires
link_back-requires c = λ x e.
    let count = c.self.invariant.list_count in
    let view = ap (λ (p : ListsView). length p.lists) c.self.view_is in
    let first : link_at c.self.inside.heads.items c.args.list ≡ Some x = grind (arith, common_steps) in
    omega (arith, head_in_range _ _ _ _ _ c.self.invariant c.args.list x first)

-- the links are now those of the lists with the id put in
linked : (c : After-index_mut-3) → IsLinkedAs
    (set c.self.inside.heads.items c.from-head.result (Some c.args.id))
    (set c.self.inside.next.items c.from-index.result c.index-first.result.now)
    (with_items c.self.inside.prev c.link_back.new.prev).items
    (set c.self.inside.places.items c.from-index.result (Some c.args.list))
    (lists_after_insert c.args.self.now c.args.list c.args.id)
linked c =
    let old = subst (IsLinkedAs _ _ _ _) c.self.view_is c.self.invariant in
    let count = old.list_count in
    let first : c.index-first.result.now ≡ link_at c.self.inside.heads.items c.args.list =
    grind (arith, common_steps) in
    let links : c.link_back.new.prev ≡ with_link c.self.inside.prev.items
    (link_at c.self.inside.heads.items c.args.list) (Some c.args.id) = cc in
    let kept : length c.link_back.new.prev ≡ c.self.inside.prev.len = omega arith in
    rw (c.from-head.ensures, c.from-index.ensures, first, with_items_is c.self.inside.prev c.link_back.new.prev kept, links)
    (IsLinkedAs-inserted _ _ _ _ c.args.self.now c.args.list c.args.id old c.requires.list_in_range c.requires.id_in_range c.requires.unlinked)

pub invariant_of-self : goal.invariant_of-self
invariant_of-self c = IsLinkedAs-itself _ _ _ _ _ (linked (goal.at.invariant_of-self c).After-index_mut-3)

pub returns-clause-lists : goal.returns-clause-lists
returns-clause-lists c = pool_of-linked _ _ _ _ _ (linked (goal.at.returns-clause-lists c).After-index_mut-3)

pub returns-clause-place : goal.returns-clause-place
returns-clause-place c =
    let same = pool_of-linked _ _ _ _ _ (linked (goal.at.returns-clause-place c).After-index_mut-3) in
    let proper = subst IsProper c.self.view_is c.self.invariant.proper in
    subst (λ (p : ListsView). SetsOnly c.args.self.now p c.args.id (Some c.args.list)) (sym same)
    (where_of-inserted _ _ _ proper c.requires.list_in_range c.requires.id_in_range c.requires.unlinked)

pub returns-clause-proper : goal.returns-clause-proper
returns-clause-proper c = (IsLinkedAs-itself _ _ _ _ _ (linked (goal.at.returns-clause-proper c).After-index_mut-3)).proper
