use Rattle.core_seats.proofs.rules.Rules.is_ruled.Goals as goal

pub returns : goal.returns
returns g c = rw (← c.self.view_is) (record { depth = c.self.invariant.depth; start = c.self.invariant.start })
