use Rattle.region_locks.proofs.Quitting.{free_of_steps}
use Rattle.trial_passes.proofs.passes.give_up.Goals as goal

pub returns-clause-free : goal.returns-clause-free
returns-clause-free g c = free_of_steps _ _ _ c.args.pass.now c.quit.new.pass c.next.result c.requires.own c.requires.taking c.quit.ensures.pass c.next.ensures.some c.in-None.is
