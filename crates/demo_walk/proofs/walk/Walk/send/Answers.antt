use Rattle.std.proofs.Common.{◌≡◌, ◌+◌, ◌-◌, ap, ◌∙◌, arith}
use Rattle.demo_make.specs.Words.{word_of, next_state}
use Rattle.demo_make.specs.GeneratedFrames.{move_of}
use Rattle.demo_make.proofs.Drawing.{drawn}
use Rattle.demo_walk.proofs.Schedules.{some-opened, word-now, word-next}
use Rattle.demo_walk.proofs.Steps.{left-move}
use Rattle.demo_walk.proofs.walk.Walk.send.Goals as goal

pub returns : goal.returns
returns c =
    let w = c.args.self.now in
    let d = drawn w.words c.next_word-word.result c.next_word-word.new.self c.next_word-word.ensures in
    let number : w.opened ≡ w.opened - 1 + 1 = omega (arith, some-opened w.places w.players w.opened w.joined w.moves_left w.joined_is c.requires.some w.few_moves) in
    let word = d.is_word ∙ ap word_of w.words_are
    ∙ word-now w.seed w.places w.players w.opened w.joined w.moves_left w.joined_is c.requires.some w.few_moves in
    let sent = c.drawn_move.ensures
    ∙ ap (λ seq. move_of seq c.next_word-word.result) number
    ∙ ap (move_of (w.opened - 1 + 1)) word in
    rw c.from-port.ensures
    (rw c.write_packet.ensures.spelled
    (rw sent
    (left-move w.seed w.players w.places w.opened w.frames_left w.joined w.joins_left w.moves_left w.ended c.requires.no_join c.requires.some w.few_moves)))

pub invariant_of-self-clause-words_are : goal.invariant_of-self-clause-words_are
invariant_of-self-clause-words_are c =
    let w = c.args.self.now in
    let d = drawn w.words c.next_word-word.result c.next_word-word.new.self c.next_word-word.ensures in
    d.is_next
    ∙ ap next_state w.words_are
    ∙ word-next w.seed w.places w.players w.opened w.joined w.moves_left w.joined_is c.requires.some w.few_moves
