use Rattle.std.proofs.Common.{◌<◌, length, length-set, ◌∙◌, arith}
use Rattle.core_steps.specs.Stands.{start_words}
use Rattle.core_seats.specs.Shown.{fixed_of}
use Rattle.core_machine.proofs.StartRecords.{filled}
use Rattle.core_machine.proofs.start.all_links.Goals as goal

pub loop-node-preserved : goal.loop-node-preserved
loop-node-preserved g c =
    let room : c.loop-node.node < length c.loop-node.links = omega (arith, c.loop-node.invariant.size, c.loop-node-test.true) in
    rw c.from.ensures (record {
      each = filled c.loop-node.links c.loop-node.node c.links_at_start.result 0 ((start_words (fixed_of g.A.Action.meaning c.args.rules.now)).links) room c.loop-node.invariant.each c.links_at_start.ensures;
      size = length-set c.loop-node.links c.loop-node.node c.links_at_start.result ∙ c.loop-node.invariant.size;
    })
