use Rattle.std.proofs.Common.{length, ap, sym, subst, arith}
use Rattle.std.specs.Prelude.{All}
use Rattle.std.proofs.lemmas.List.{length-map}
use Rattle.entity_recs.specs.Commands.{command_of}
use Rattle.move_journal.specs.Merges.{HasNumbersApart}
use Rattle.plain_server.specs.Moving.{HasLivePlayer}
use Rattle.move_phase_trials.proofs.tests.moving.reach.Goals as goal

pub journal_of-requires-clause-live : goal.journal_of-requires-clause-live
journal_of-requires-clause-live g c κs within = subst (All (HasLivePlayer c.receive.new.world.records)) (sym c.moves.ensures) c.receive.ensures.live

pub journal_of-requires-clause-apart : goal.journal_of-requires-clause-apart
journal_of-requires-clause-apart g c κs within = subst HasNumbersApart (sym c.moves.ensures) c.receive.ensures.apart

pub journal_of-requires-clause-few : goal.journal_of-requires-clause-few
journal_of-requires-clause-few g c = omega (arith, c.receive.ensures.few, ap length c.moves.ensures, length-map c.moves.result.now command_of)
