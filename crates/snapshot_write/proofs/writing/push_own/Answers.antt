use Rattle.std.proofs.Common.{ap, ◌∙◌, ◌++◌, sym}
use Rattle.snapshot_write.specs.Snapshots.{head_bytes, vector_bytes, count_bytes}
use Rattle.snapshot_write.proofs.Appending.{four_in_turn}
use Rattle.snapshot_write.proofs.writing.push_own.Goals as goal

pub returns-clause-bytes : goal.returns-clause-bytes
returns-clause-bytes c =
    let me = c.args.me.now in
    four_in_turn c.args.out.now (head_bytes c.args.frame me.id) (vector_bytes me.origin) (vector_bytes me.vel) (count_bytes me)
    c.push_head.new.out c.push_vector.new.out c.push_vector-2.new.out c.push_counts.new.out
    (c.push_head.ensures.bytes ∙ ap (λ slot. c.args.out.now ++ head_bytes c.args.frame slot) (sym c.requires.slot))
    c.push_vector.ensures.bytes c.push_vector-2.ensures.bytes c.push_counts.ensures.bytes
