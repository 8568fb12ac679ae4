use Rattle.plain_server.specs.RecordsById.{opening}
use Rattle.plain_server.proofs.Frames.{one_journal_each}
use Rattle.demo_make.specs.GeneratedMap.{generated_map}
use Rattle.demo_make.specs.GeneratedFrames.{generated_frames}
use Rattle.std.proofs.Common.{length}
use Rattle.match_play.proofs.laws.order_leaves_one_match.Goals as goal

pub returns : goal.returns
returns c = λ seed players journals right order.
    one_journal_each generated_map 0 (opening generated_map) (generated_frames seed players (length journals)) journals right order
