use Rattle.demo_lines.proofs.FirstFaults.{faults_are_the_first}
use Rattle.demo_lines.proofs.laws.faults_are_the_first.Goals as goal

pub returns : goal.returns
returns c = faults_are_the_first
