use Rattle.std.proofs.Common.{◌∙◌}
use Rattle.arena_engine.specs.Texts.{play_texts}
use Rattle.arena_engine.proofs.Taken.{play_texts_are_sound}
use Rattle.arena_engine.proofs.Reported.{played_reported, played_ends}
use Rattle.arena_engine.proofs.commands.play.play_recording.Goals as goal

pub returns-clause-played : goal.returns-clause-played
returns-clause-played g c =
    played_reported g.S.Source g.K.Sink (play_texts c.args.host.now.workers) c.args.source.now c.play-played.new.source c.args.sink.now c.play-played.new.sink c.play-played.result c.report_of.result
    c.report_of.ensures.report c.play-played.ensures.played (play_texts_are_sound c.args.host.now.workers)

pub returns-clause-ends : goal.returns-clause-ends
returns-clause-ends g c =
    played_ends g.S.Source g.K.Sink (play_texts c.args.host.now.workers) c.args.source.now c.play-played.new.source c.args.sink.now c.play-played.new.sink c.play-played.result c.report_of.result
    c.report_of.ensures.report c.play-played.ensures.played

pub returns-clause-orderless : goal.returns-clause-orderless
returns-clause-orderless g c = c.report_of.ensures.report.order ∙ c.play-played.ensures.orders
