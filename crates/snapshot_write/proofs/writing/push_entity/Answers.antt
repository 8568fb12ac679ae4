use Rattle.std.proofs.Common.{rules}
use Rattle.std.proofs.lemmas.Int.{to_z-of_z}
use Rattle.snapshot_write.proofs.writing.push_entity.Goals as goal

pub returns-clause-bytes : goal.returns-clause-bytes
returns-clause-bytes c =
    let ids = c.to_le_bytes.ensures in
    let xs = c.to_le_bytes-2.ensures in
    let ys = c.to_le_bytes-3.ensures in
    let zs = c.to_le_bytes-4.ensures in
    search (rules, to_z-of_z)
