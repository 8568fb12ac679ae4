use Rattle.std.proofs.Common.{ℕ, ◌<◌, length, length-set, ◌∙◌, arith}
use Rattle.entity_recs.specs.Worlds.{record_with}
use Rattle.core_machine.proofs.StartRecords.{filled}
use Rattle.core_machine.proofs.start.all_states.Goals as goal

pub loop-id-preserved : goal.loop-id-preserved
loop-id-preserved g c =
    let room : c.loop-id.id < length c.loop-id.state = omega (arith, c.loop-id.invariant.size, c.loop-id-test.true) in
    rw c.from.ensures (record {
      each = filled c.loop-id.state c.loop-id.id c.state_at_start.result 0 (λ (k : ℕ). (record_with c.args.rules.now.start k).state) room c.loop-id.invariant.each c.state_at_start.ensures;
      size = length-set c.loop-id.state c.loop-id.id c.state_at_start.result ∙ c.loop-id.invariant.size;
    })
