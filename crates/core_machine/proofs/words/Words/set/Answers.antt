use Rattle.std.proofs.Common.{sym, ◌∙◌, arith}
use Rattle.core_machine.specs.Tables.{words_in}
use Rattle.core_machine.proofs.TableParts.{in_body, in_state}
use Rattle.core_machine.proofs.words.Words.set.Goals as goal

pub returns-then-index-lt-STATES : goal.returns-then-index-lt-STATES
returns-then-index-lt-STATES c = λ beyond.
    c.set_cell.ensures beyond ∙ sym (in_body (words_in c.args.self.now beyond) c.args.index c.args.word (omega arith) (omega arith))

pub returns-else-index-lt-STATES : goal.returns-else-index-lt-STATES
returns-else-index-lt-STATES c = λ beyond.
    c.set_cell-else-index-lt-STATES.ensures beyond ∙ sym (in_state (words_in c.args.self.now beyond) c.args.index c.args.word (omega arith))
