use Rattle.std.proofs.Common.{rules}
use Rattle.std.proofs.lemmas.Int.{to_z-of_z}
use Rattle.snapshot_write.specs.Snapshots.{signed_bytes}
use Rattle.snapshot_write.proofs.Appending.{three_in_turn}
use Rattle.snapshot_write.proofs.writing.push_vector.Goals as goal

pub returns-clause-bytes : goal.returns-clause-bytes
returns-clause-bytes c =
    let v = c.args.v in
    three_in_turn c.args.out.now (signed_bytes v.x) (signed_bytes v.y) (signed_bytes v.z) c.push_signed.new.out c.push_signed-2.new.out c.push_signed-3.new.out
    (search (rules, to_z-of_z)) (search (rules, to_z-of_z)) (search (rules, to_z-of_z))
