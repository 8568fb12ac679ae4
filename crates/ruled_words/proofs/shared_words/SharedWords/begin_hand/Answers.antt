use Rattle.std.proofs.Common.{◌≡◌, sym, ◌∙◌, subst, length}
use Rattle.entity_recs.specs.Commands.{command_of}
use Rattle.ruled_words.specs.Passes.{TableView, IsReady, HasGone, fixed_in, word_after}
use Rattle.ruled_words.specs.Hands.{given_to, plain_pass}
use Rattle.ruled_words.proofs.HandSteps.{begin_ready, begin_left, has_begun, begun_own}
use Rattle.ruled_words.proofs.shared_words.SharedWords.begin_hand.Goals as goal

pub begin_on-requires-clause-ready : goal.begin_on-requires-clause-ready
begin_on-requires-clause-ready g c κs within =
    subst (λ (t : TableView _). IsReady (fixed_in g.A.Action.meaning t) (length t.rooms) t.table (given_to (plain_pass c.args.hand.now) (command_of c.args.cmd.now)) c.args.hand.now c.from.result) (sym c.self.view_is)
    (begin_ready (fixed_in g.A.Action.meaning c.args.self.now) (length c.args.self.now.rooms) c.args.self.now.table c.args.hand.now (command_of c.args.cmd.now) c.requires.own c.requires.idle c.requires.pending c.requires.serves _ (c.from.ensures ∙ c.record_word.ensures))

pub begin_on-requires-clause-left : goal.begin_on-requires-clause-left
begin_on-requires-clause-left g c κs within found =
    subst (λ (t : TableView _). word_after (fixed_in g.A.Action.meaning t) (given_to (plain_pass c.args.hand.now) (command_of c.args.cmd.now)) found ≡ found) (sym c.self.view_is)
    (begin_left (fixed_in g.A.Action.meaning c.args.self.now) (length c.args.self.now.rooms) c.args.self.now.table c.args.hand.now (command_of c.args.cmd.now) c.requires.own c.requires.idle c.requires.pending c.requires.serves found)

pub returns-clause-pass : goal.returns-clause-pass
returns-clause-pass g c =
    let gone : HasGone (fixed_in g.A.Action.meaning c.args.self.now) (length c.args.self.now.rooms) (given_to (plain_pass c.args.hand.now) (command_of c.args.cmd.now)) c.begin_on.result c.begin_on.new.self =
    rw (← c.self.view_is) c.begin_on.ensures.gone in
    has_begun (fixed_in g.A.Action.meaning c.args.self.now) (length c.args.self.now.rooms) c.args.self.now.table c.args.hand.now (command_of c.args.cmd.now) c.requires.own c.requires.idle c.requires.pending c.requires.serves c.begin_on.new.self c.begin_on.result gone c.begin_on.ensures.plain.1

pub returns-clause-own : goal.returns-clause-own
returns-clause-own g c =
    let gone : HasGone (fixed_in g.A.Action.meaning c.args.self.now) (length c.args.self.now.rooms) (given_to (plain_pass c.args.hand.now) (command_of c.args.cmd.now)) c.begin_on.result c.begin_on.new.self =
    rw (← c.self.view_is) c.begin_on.ensures.gone in
    begun_own (fixed_in g.A.Action.meaning c.args.self.now) (length c.args.self.now.rooms) c.args.self.now.table c.args.hand.now (command_of c.args.cmd.now) c.requires.own c.requires.idle c.requires.pending c.requires.serves c.begin_on.new.self c.begin_on.result gone c.begin_on.ensures.plain.1
