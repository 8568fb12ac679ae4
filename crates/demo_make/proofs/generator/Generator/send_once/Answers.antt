use Rattle.std.proofs.Common.{◌≡◌, ◌+◌, ◌-◌, ap, ◌∙◌, arith}
use Rattle.demo_make.specs.declared.sending.Sending.{Sending}
use Rattle.demo_make.specs.declared.sending.Sending.TheVariants.{Once, Repeated}
use Rattle.demo_make.specs.Words.{word_of, next_state}
use Rattle.demo_make.specs.GeneratedFrames.{move_of}
use Rattle.demo_make.proofs.Drawing.{drawn, drawn-back, word-now}
use Rattle.demo_make.proofs.Steps.{left-once}
use Rattle.demo_make.proofs.generator.Generator.send_once.Goals as goal

once-again : (sending : Sending) → sending ≡ Once → sending ≡ Repeated → ⊥
once-again sending once again = cc

pub returns : goal.returns
returns c =
    let g = c.args.self.now in
    let d = drawn g.words c.next_word-word.result c.next_word-word.new.self c.next_word-word.ensures in
    let number : g.opened ≡ g.opened - 1 + 1 = omega (arith, g.moves_of_open, c.requires.some) in
    let word = d.is_word ∙ ap word_of g.words_are
    ∙ word-now g.seed g.players g.opened g.moves_left c.requires.some g.few_moves (omega (arith, g.moves_of_open, c.requires.some)) in
    let sent = c.drawn_move.ensures
    ∙ ap (λ seq. move_of seq c.next_word-word.result) number
    ∙ ap (move_of (g.opened - 1 + 1)) word in
    rw c.requires.sending
    (rw c.sender-port.ensures
    (rw c.write_packet.ensures.spelled
    (rw sent
    (left-once g.seed g.players g.opened g.frames_left g.joins_left g.moves_left g.ended c.requires.no_join c.requires.some g.few_moves))))

pub invariant_of-self-clause-words_are : goal.invariant_of-self-clause-words_are
invariant_of-self-clause-words_are c =
    let g = c.args.self.now in
    let d = drawn g.words c.next_word-word.result c.next_word-word.new.self c.next_word-word.ensures in
    d.is_next
    ∙ ap next_state g.words_are
    ∙ drawn-back g.seed g.players g.opened g.moves_left 0 c.requires.some g.few_moves (omega (arith, g.moves_of_open, c.requires.some))

pub invariant_of-self-clause-one_back_is : goal.invariant_of-self-clause-one_back_is
invariant_of-self-clause-one_back_is c = λ again. absurd (once-again c.args.self.now.sending c.requires.sending again)

pub invariant_of-self-clause-two_back_is : goal.invariant_of-self-clause-two_back_is
invariant_of-self-clause-two_back_is c = λ again. absurd (once-again c.args.self.now.sending c.requires.sending again)
