use Rattle.demo_lines.proofs.Prefixes.{nothing_after_a_refusal}
use Rattle.demo_lines.proofs.laws.nothing_after_a_refusal.Goals as goal

pub returns : goal.returns
returns c = nothing_after_a_refusal
