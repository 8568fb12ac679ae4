use Rattle.std.proofs.Common.{◌≡◌, ◌∙◌, rules, to_z, of_z}
use Rattle.std.specs.Int.{w16}
use Rattle.std.proofs.lemmas.Bool.{OnTrue_at}
use Rattle.std.proofs.lemmas.Int.{to_z-of_z}
use Rattle.packet_read.proofs.Loops.{read_more, has_room, pushed}
use Rattle.packet_read.proofs.reading_moves.read_blocks.Goals as goal

pub loop-left-preserved : goal.loop-left-preserved
loop-left-preserved c =
    let bytes = c.args.bytes.now in
    let left = c.loop-left.left.now in
    let cmds = c.loop-left.cmds in
    let six = c.in-len6-up.len_at_least in
    let room = has_room bytes c.args.blocks left cmds c.loop-left.invariant six in
    let now = OnTrue_at (c.push.ensures.room.1 room) c.push.ensures.pushed in
    let wish_x : to_z w16 (of_z w16 c.from_le_bytes.result) ≡ c.from_le_bytes.result = search (rules, to_z-of_z) in
    let wish_y : to_z w16 (of_z w16 c.from_le_bytes-in-len6-up.result) ≡ c.from_le_bytes-in-len6-up.result = search (rules, to_z-of_z) in
    read_more bytes c.args.blocks left cmds c.push.new.self c.loop-left.invariant six
    (pushed c.push.new.self cmds _ _ _ _ _ _ now (wish_x ∙ c.from_le_bytes.ensures) (wish_y ∙ c.from_le_bytes-in-len6-up.ensures))
