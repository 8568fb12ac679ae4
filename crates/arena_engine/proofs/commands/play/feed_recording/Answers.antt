use Rattle.arena_engine.specs.Texts.{feed_texts}
use Rattle.arena_engine.proofs.Taken.{feed_texts_are_sound}
use Rattle.arena_engine.proofs.Reported.{played_reported, played_ends}
use Rattle.arena_engine.proofs.commands.play.feed_recording.Goals as goal

pub returns-clause-fed : goal.returns-clause-fed
returns-clause-fed g c =
    played_reported g.S.Source g.K.Sink (feed_texts c.args.host.now.workers) c.args.source.now c.play-played.new.source c.args.sink.now c.play-played.new.sink c.play-played.result c.report_of.result
    c.report_of.ensures.report c.play-played.ensures.played (feed_texts_are_sound c.args.host.now.workers)

pub returns-clause-ends : goal.returns-clause-ends
returns-clause-ends g c =
    played_ends g.S.Source g.K.Sink (feed_texts c.args.host.now.workers) c.args.source.now c.play-played.new.source c.args.sink.now c.play-played.new.sink c.play-played.result c.report_of.result
    c.report_of.ensures.report c.play-played.ensures.played
