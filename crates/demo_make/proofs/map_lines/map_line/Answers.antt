use Rattle.std.proofs.Common.{◌-◌, arith}
use Rattle.demo_make.proofs.Lines.{spawn_there, block_there, item_there, spawn-near, block-near, item-near}
use Rattle.demo_make.proofs.map_lines.map_line.Goals as goal

pub returns-in-1-to-64 : goal.returns-in-1-to-64
returns-in-1-to-64 c = rw c.spawn.ensures (record {
  line = spawn_there c.args.index (c.args.index - 1) (omega arith) (omega arith);
  limits = spawn-near (c.args.index - 1) (omega arith);
})

pub returns-in-65-to-80 : goal.returns-in-65-to-80
returns-in-65-to-80 c = rw c.block.ensures (record {
  line = block_there c.args.index (c.args.index - 65) (omega arith) (omega arith);
  limits = block-near (c.args.index - 65) (omega arith);
})

pub returns-in-81-to-96 : goal.returns-in-81-to-96
returns-in-81-to-96 c = rw c.item.ensures (record {
  line = item_there c.args.index (c.args.index - 81) (omega arith) (omega arith);
  limits = item-near (c.args.index - 81) (omega arith);
})
