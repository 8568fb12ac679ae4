use Rattle.std.proofs.Common.{sym, ◌∙◌}
use Rattle.region_locks.proofs.Stepping.{resolves_next}
use Rattle.trial_passes.proofs.stepping.resolve.Goals as goal

pub effect-effect-requires-clause-read : goal.effect-effect-requires-clause-read
effect-effect-requires-clause-read g c κs within = (resolves_next c.args.pass.now (sym c.has_command.ensures ∙ c.if-has_command.true) c.requires.none).0

pub resolve-requires-clause-read : goal.resolve-requires-clause-read
resolve-requires-clause-read g c κs within = rw c.effect-effect.ensures.pass (resolves_next c.args.pass.now (sym c.has_command.ensures ∙ c.if-has_command.true) c.requires.none).0

pub resolve-requires-clause-once : goal.resolve-requires-clause-once
resolve-requires-clause-once g c κs within = rw c.effect-effect.ensures.pass (resolves_next c.args.pass.now (sym c.has_command.ensures ∙ c.if-has_command.true) c.requires.none).1
