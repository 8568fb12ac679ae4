use Rattle.core_steps.proofs.Fitting.{each_view_reads_little}
use Rattle.core_steps.proofs.machine_laws.each_view_reads_little.Goals as goal

pub returns : goal.returns
returns c = each_view_reads_little
