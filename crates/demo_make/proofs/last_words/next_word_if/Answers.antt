use Rattle.std.proofs.Common.{ap, Some}
use Rattle.demo_make.proofs.Drawing.{drawn}
use Rattle.demo_make.proofs.last_words.next_word_if.Goals as goal

pub returns-then-draws-clause-word : goal.returns-then-draws-clause-word
returns-then-draws-clause-word c =
    rw c.if-draws.true (ap Some (drawn c.args.words.now c.next_word.result c.next_word.new.self c.next_word.ensures).is_word)

pub returns-then-draws-clause-state : goal.returns-then-draws-clause-state
returns-then-draws-clause-state c =
    rw c.if-draws.true (drawn c.args.words.now c.next_word.result c.next_word.new.self c.next_word.ensures).is_next
