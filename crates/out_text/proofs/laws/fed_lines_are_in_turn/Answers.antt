use Rattle.std.proofs.Common.{◌++◌, refl, ap, ◌∙◌}
use Rattle.out_text.specs.Feeds.{with_froms, fed_lines}
use Rattle.out_text.proofs.FedRuns.{fed_lines-push}
use Rattle.out_text.proofs.laws.fed_lines_are_in_turn.Goals as goal

pub returns : goal.returns
returns c = record {
  none = λ map frame state. refl;
  more = λ map frame state feeds journals fed journal others same is.
      fed_lines-push map frame state feeds fed journals journal same
      ∙ ap (λ ls. fed_lines map frame state feeds journals ++ with_froms fed ls) is;
}
