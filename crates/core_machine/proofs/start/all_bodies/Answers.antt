use Rattle.std.proofs.Common.{ℕ, ◌<◌, [], length, length-set, ◌∙◌, arith}
use Rattle.entity_recs.specs.Worlds.{record_with}
use Rattle.core_steps.specs.Encoding.{words_of}
use Rattle.core_machine.proofs.StartRecords.{filled}
use Rattle.core_machine.proofs.start.all_bodies.Goals as goal

pub loop-slot-preserved : goal.loop-slot-preserved
loop-slot-preserved g c =
    let room : c.loop-slot.slot < length c.loop-slot.body = omega (arith, c.loop-slot.invariant.size, c.loop-slot-test.true) in
    rw c.from.ensures (record {
      each = filled c.loop-slot.body c.loop-slot.slot c.body_at_start.result [] (λ (k : ℕ). words_of (record_with c.args.rules.now.start k)) room c.loop-slot.invariant.each c.body_at_start.ensures;
      size = length-set c.loop-slot.body c.loop-slot.slot c.body_at_start.result ∙ c.loop-slot.invariant.size;
    })
