use Rattle.std.proofs.Common.{rules, ◌∷◌, []}
use Rattle.std.specs.Int.{to_le_bytes, w32}
use Rattle.snapshot_write.proofs.Appending.{three_in_turn}
use Rattle.snapshot_write.proofs.writing.push_counts.Goals as goal

pub returns-clause-bytes : goal.returns-clause-bytes
returns-clause-bytes c =
    let me = c.args.me.now in
    three_in_turn c.args.out.now (me.flags ∷ me.ammo ∷ me.carry ∷ []) (to_le_bytes w32 me.score) (to_le_bytes w32 me.seq)
    c.extend.new.self c.extend-2.new.self c.extend-3.new.self (search rules) (search rules) (search rules)
