use Rattle.std.proofs.Common.{◌≡◌, Some, None, set, length, sym, ap, ◌∙◌, subst, arith}
use Rattle.std.proofs.lemmas.Grind.{common_steps}
use Rattle.std.proofs.lemmas.List.{with_items_is}
use Rattle.std.specs.Vec.{with_item, with_items}
use Rattle.link_lists.specs.Pool.{ListsView, lists_after_remove, IsProper, SetsOnly}
use Rattle.link_lists.specs.Links.{link_at, with_link, IsLinkedAs}
use Rattle.link_lists.proofs.Pools.{where_of-removed}
use Rattle.link_lists.proofs.Walks.{pool_of-linked, IsLinkedAs-itself}
use Rattle.link_lists.proofs.Linking.{next_in_range, prev_in_range, IsLinkedAs-removed_first, IsLinkedAs-removed_after}
use Rattle.link_lists.proofs.lists.Lists.remove.Goals as goal
use Rattle.link_lists.proofs.lists.Lists.remove.Goals.{After-index_mut-in-Some, After-index_mut-in-None}

pub link_back-requires : goal.link_back-requires
link_back-requires c = λ x e.
    let next_count = c.self.invariant.next_count in
    let view = ap (λ (p : ListsView). p.ids) c.self.view_is in
    let after : link_at c.self.inside.next.items c.args.id ≡ Some x = grind (arith, common_steps) in
    omega (arith, next_in_range _ _ _ _ _ c.self.invariant c.args.id x after)

pub index_mut-requires-in-Some : goal.index_mut-requires-in-Some
index_mut-requires-in-Some c =
    let old = subst (IsLinkedAs _ _ _ _) c.self.view_is c.self.invariant in
    let place : link_at c.self.inside.places.items c.args.id ≡ Some c.unwrap-list.result = grind (arith, common_steps) in
    let at = sym (old.wheres c.args.id) ∙ place in
    let before : link_at c.self.inside.prev.items c.args.id ≡ Some c.in-Some.before = grind (arith, common_steps) in
    omega (arith, prev_in_range _ _ _ _ _ _ c.args.id old at c.in-Some.before before)

-- the links are now those of the lists without the id, after another id and as the first of its list
linked-in-Some : (c : After-index_mut-in-Some) → IsLinkedAs
    c.self.inside.heads.items
    (set (set c.self.inside.next.items c.from-index.result c.take-after.new.self) c.from.result c.take-after.result)
    (with_items (with_item c.self.inside.prev c.from-index.result c.take-before.new.self) c.link_back.new.prev).items
    (set c.self.inside.places.items c.from-index.result c.take.new.self)
    (lists_after_remove c.args.self.now c.args.id)
linked-in-Some c =
    let old = subst (IsLinkedAs _ _ _ _) c.self.view_is c.self.invariant in
    let place : link_at c.self.inside.places.items c.args.id ≡ Some c.unwrap-list.result = grind (arith, common_steps) in
    let at = sym (old.wheres c.args.id) ∙ place in
    let before : link_at c.self.inside.prev.items c.args.id ≡ Some c.in-Some.before = grind (arith, common_steps) in
    let after : c.take-after.result ≡ link_at c.self.inside.next.items c.args.id = grind (arith, common_steps) in
    let links : c.link_back.new.prev ≡ with_link (set c.self.inside.prev.items c.args.id None)
    (link_at c.self.inside.next.items c.args.id) (Some c.in-Some.before) = cc in
    let kept : length c.link_back.new.prev ≡ c.self.inside.prev.len = omega arith in
    let written = with_items_is (with_item c.self.inside.prev c.from-index.result c.take-before.new.self) c.link_back.new.prev kept in
    rw (written, c.from-index.ensures, c.from.ensures, c.take-after.ensures.after, c.take.ensures.after, after, links)
    (IsLinkedAs-removed_after _ _ _ _ c.args.self.now c.unwrap-list.result c.args.id old at c.in-Some.before before)

linked-in-None : (c : After-index_mut-in-None) → IsLinkedAs
    (set c.self.inside.heads.items c.from-in-None.result c.take-after.result)
    (set c.self.inside.next.items c.from-index.result c.take-after.new.self)
    (with_items (with_item c.self.inside.prev c.from-index.result c.take-before.new.self) c.link_back.new.prev).items
    (set c.self.inside.places.items c.from-index.result c.take.new.self)
    (lists_after_remove c.args.self.now c.args.id)
linked-in-None c =
    let old = subst (IsLinkedAs _ _ _ _) c.self.view_is c.self.invariant in
    let place : link_at c.self.inside.places.items c.args.id ≡ Some c.unwrap-list.result = grind (arith, common_steps) in
    let at = sym (old.wheres c.args.id) ∙ place in
    let before : link_at c.self.inside.prev.items c.args.id ≡ None = grind (arith, common_steps) in
    let after : c.take-after.result ≡ link_at c.self.inside.next.items c.args.id = grind (arith, common_steps) in
    let links : c.link_back.new.prev ≡ with_link (set c.self.inside.prev.items c.args.id None)
    (link_at c.self.inside.next.items c.args.id) None = cc in
    let kept : length c.link_back.new.prev ≡ c.self.inside.prev.len = omega arith in
    let written = with_items_is (with_item c.self.inside.prev c.from-index.result c.take-before.new.self) c.link_back.new.prev kept in
    rw (written, c.from-index.ensures, c.from-in-None.ensures, c.take-after.ensures.after, c.take.ensures.after, after, links)
    (IsLinkedAs-removed_first _ _ _ _ c.args.self.now c.unwrap-list.result c.args.id old at before)

pub invariant_of-self : goal.invariant_of-self
invariant_of-self c = IsLinkedAs-itself _ _ _ _ _ (linked-in-Some (goal.at.invariant_of-self c).After-index_mut-in-Some)

pub returns-in-Some-clause-lists : goal.returns-in-Some-clause-lists
returns-in-Some-clause-lists c = pool_of-linked _ _ _ _ _ (linked-in-Some (goal.at.returns-in-Some-clause-lists c).After-index_mut-in-Some)

pub returns-in-Some-clause-place : goal.returns-in-Some-clause-place
returns-in-Some-clause-place c =
    let same = pool_of-linked _ _ _ _ _ (linked-in-Some (goal.at.returns-in-Some-clause-place c).After-index_mut-in-Some) in
    let proper = subst IsProper c.self.view_is c.self.invariant.proper in
    subst (λ (p : ListsView). SetsOnly c.args.self.now p c.args.id None) (sym same) (where_of-removed _ _ proper)

pub returns-in-Some-clause-proper : goal.returns-in-Some-clause-proper
returns-in-Some-clause-proper c = (IsLinkedAs-itself _ _ _ _ _ (linked-in-Some (goal.at.returns-in-Some-clause-proper c).After-index_mut-in-Some)).proper

pub invariant_of-self-in-None : goal.invariant_of-self-in-None
invariant_of-self-in-None c = IsLinkedAs-itself _ _ _ _ _ (linked-in-None (goal.at.invariant_of-self-in-None c).After-index_mut-in-None)

pub returns-in-None-clause-lists : goal.returns-in-None-clause-lists
returns-in-None-clause-lists c = pool_of-linked _ _ _ _ _ (linked-in-None (goal.at.returns-in-None-clause-lists c).After-index_mut-in-None)

pub returns-in-None-clause-place : goal.returns-in-None-clause-place
returns-in-None-clause-place c =
    let same = pool_of-linked _ _ _ _ _ (linked-in-None (goal.at.returns-in-None-clause-place c).After-index_mut-in-None) in
    let proper = subst IsProper c.self.view_is c.self.invariant.proper in
    subst (λ (p : ListsView). SetsOnly c.args.self.now p c.args.id None) (sym same) (where_of-removed _ _ proper)

pub returns-in-None-clause-proper : goal.returns-in-None-clause-proper
returns-in-None-clause-proper c = (IsLinkedAs-itself _ _ _ _ _ (linked-in-None (goal.at.returns-in-None-clause-proper c).After-index_mut-in-None)).proper
