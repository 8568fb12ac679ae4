use Rattle.std.proofs.Common.{Option, sym, subst}
use Rattle.move_journal.specs.Logs.{JournalView}
use Rattle.playback.specs.Playbacks.{GoesOn, IsGivenIf, IsReady, entries_if}
use Rattle.match_play.specs.Games.{GameView}
use Rattle.match_play.proofs.Closing.{few_of_each}
use Rattle.match_play.proofs.game.MatchGame.take.Goals as goal

pub with_frame-self-inside-requires-clause-few : goal.with_frame-self-inside-requires-clause-few
with_frame-self-inside-requires-clause-few g c =
    let old = c.self.inside.playback.course in
    let new = c.take.new.self.course in
    let goes = subst (λ (j : Option JournalView). GoesOn c.args.host.now.workers old new c.args.event (entries_if j)) c.in-Some.is c.in_ok-journal.ensures.next in
    let given = subst (λ (j : Option JournalView). IsGivenIf old.server old.opened (entries_if j) c.take.new.self.out) c.in-Some.is c.in_ok-journal.ensures.given in
    let ready = subst (λ (v : GameView). IsReady v.course c.args.event) (sym c.self.view_is) c.requires in
    rw (c.out.ensures.out, c.as_slice.ensures) (few_of_each c.args.host.now.workers old new c.args.event c.in-Some.journal goes c.take.new.self.out given ready)
