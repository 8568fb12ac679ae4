use Rattle.std.proofs.Common.{drop, ap, ◌∙◌}
use Rattle.edge_io.proofs.Blocks.{slice_range-later}
use Rattle.edge_io.proofs.line_reader.LineReader.consume.Goals as goal

pub returns : goal.returns
returns c =
    slice_range-later c.self.inside.block.items c.self.inside.start c.self.inside.end c.args.count
    ∙ ap (drop c.args.count) c.self.view_is
