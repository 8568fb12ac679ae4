use Rattle.std.proofs.Common.{refl}
use Rattle.out_text.proofs.Runs.{run_lines-push}
use Rattle.out_text.proofs.laws.lines_are_in_turn.Goals as goal

pub returns : goal.returns
returns c = record {
  none = λ map frame state. refl;
  more = λ map frame state frames journals arrivals journal same. run_lines-push map frame state frames arrivals journals journal same;
}
