use Rattle.std.proofs.Common.{arith}
use Rattle.std.proofs.lemmas.Grind.{common_steps}
use Rattle.link_lists.specs.Pool.{empty_pool}
use Rattle.link_lists.specs.Links.{IsLinkedAs}
use Rattle.link_lists.proofs.Walks.{pool_of-linked, IsLinkedAs-itself}
use Rattle.link_lists.proofs.Linking.{IsLinkedAs-none}
use Rattle.link_lists.proofs.lists.Lists.new.Goals as goal
use Rattle.link_lists.proofs.lists.Lists.new.Goals.{In_ok-vec-4}

-- the four vectors have no link
linked : (c : In_ok-vec-4) → IsLinkedAs
    c.in_ok-vec.field-0.items
    c.in_ok-vec-2.field-0.items
    c.in_ok-vec-3.field-0.items
    c.in_ok-vec-4.field-0.items
    (empty_pool c.args.ids c.args.lists)
linked c = IsLinkedAs-none _ _ _ _ c.args.ids c.args.lists
    (grind (arith, common_steps)) (grind (arith, common_steps)) (grind (arith, common_steps)) (grind (arith, common_steps))

pub invariant_of-result : goal.invariant_of-result
invariant_of-result c = IsLinkedAs-itself _ _ _ _ _ (linked (goal.at.invariant_of-result c).In_ok-vec-4)

pub returns : goal.returns
returns c = pool_of-linked _ _ _ _ _ (linked (goal.at.returns c).In_ok-vec-4)
