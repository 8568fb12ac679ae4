use Rattle.std.proofs.Common.{ap, ◌∙◌}
use Rattle.arena_map.specs.Reading.{map_line_of}
use Rattle.arena_map.proofs.LinesSound.{line-sound}
use Rattle.arena_map.proofs.LinesBack.{line-back}
use Rattle.arena_map.proofs.laws.map_lines_read_back.Goals as goal

pub returns : goal.returns
returns c = λ text line. (line-sound text line, λ printed. ap map_line_of printed.0 ∙ line-back line printed.1)
