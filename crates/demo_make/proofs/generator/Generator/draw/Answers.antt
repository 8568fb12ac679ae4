use Rattle.std.proofs.Common.{◌<◌, ap, ◌∙◌, arith}
use Rattle.demo_make.specs.Words.{word_of, next_state}
use Rattle.demo_make.proofs.Drawing.{drawn, drawn-back, word-now, word-drawn, state-drawn}
use Rattle.demo_make.proofs.generator.Generator.draw.Goals as goal

pub invariant_of-self-clause-words_are : goal.invariant_of-self-clause-words_are
invariant_of-self-clause-words_are c =
    let g = c.args.self.now in
    (drawn g.words c.next_word.result c.next_word.new.self c.next_word.ensures).is_next
    ∙ ap next_state g.words_are
    ∙ drawn-back g.seed g.players g.opened g.moves_left 0 c.requires.some g.few_moves (omega (arith, g.moves_of_open, c.requires.some))

pub invariant_of-self-clause-one_back_is : goal.invariant_of-self-clause-one_back_is
invariant_of-self-clause-one_back_is c =
    let g = c.args.self.now in
    λ again. c.next_word_if-2.ensures.state ∙ state-drawn g.seed g.players g.opened g.moves_left 1 g.one_back (g.one_back_is again) c.requires.some g.few_moves

pub invariant_of-self-clause-two_back_is : goal.invariant_of-self-clause-two_back_is
invariant_of-self-clause-two_back_is c =
    let g = c.args.self.now in
    λ again. c.next_word_if.ensures.state ∙ state-drawn g.seed g.players g.opened g.moves_left 2 g.two_back (g.two_back_is again) c.requires.some g.few_moves

pub returns-clause-words : goal.returns-clause-words
returns-clause-words c =
    let g = c.args.self.now in
    let some : 0 < g.opened = omega (arith, g.moves_of_open, c.requires.some) in
    record {
      newest = (drawn g.words c.next_word.result c.next_word.new.self c.next_word.ensures).is_word
          ∙ ap word_of g.words_are ∙ word-now g.seed g.players g.opened g.moves_left c.requires.some g.few_moves some;
      one = c.next_word_if-2.ensures.word
          ∙ word-drawn g.seed g.players g.opened g.moves_left 1 g.one_back (g.one_back_is c.requires.sending) c.requires.some g.few_moves some;
      two = c.next_word_if.ensures.word
          ∙ word-drawn g.seed g.players g.opened g.moves_left 2 g.two_back (g.two_back_is c.requires.sending) c.requires.some g.few_moves some;
    }
