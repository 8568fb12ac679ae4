use Rattle.std.proofs.Common.{◌-◌, ◌+◌, ap, ◌∙◌, sym}
use Rattle.demo_make.specs.Words.{state_after}
use Rattle.demo_walk.specs.WalkedFrames.{words_before}
use Rattle.demo_walk.proofs.Schedules.{joined-open, words-open}
use Rattle.demo_walk.proofs.Steps.{left-open}
use Rattle.demo_walk.proofs.walk.Walk.open.Goals as goal

pub returns : goal.returns
returns c =
    let w = c.args.self.now in
    left-open w.seed w.players w.places w.opened w.frames_left w.joined w.joins_left w.moves_left c.joined_by-joined.result w.ended
    c.requires.no_join c.requires.no_move c.requires.some w.joined_is c.joined_by-joined.ensures.value

pub invariant_of-self-clause-joined_is : goal.invariant_of-self-clause-joined_is
invariant_of-self-clause-joined_is c =
    let w = c.args.self.now in
    c.joined_by-joined.ensures.value ∙ sym (joined-open w.places w.players w.opened)

pub invariant_of-self-clause-words_are : goal.invariant_of-self-clause-words_are
invariant_of-self-clause-words_are c =
    let w = c.args.self.now in
    w.words_are
    ∙ ap (λ n. state_after w.seed (words_before w.places w.players w.opened - n)) c.requires.no_move
    ∙ words-open w.seed w.places w.players w.opened
    ∙ ap (λ n. state_after w.seed (words_before w.places w.players (w.opened + 1) - n)) (sym c.joined_by-joined.ensures.value)
