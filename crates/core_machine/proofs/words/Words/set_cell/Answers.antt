use Rattle.std.proofs.Common.{◌≡◌, [], length, get_or, arith, refl}
use Rattle.core_machine.specs.Tables.{IsBodyCell}
use Rattle.core_machine.proofs.Tables.{rows_set}
use Rattle.core_machine.proofs.words.Words.set_cell.Goals as goal

pub returns-in-Body : goal.returns-in-Body
returns-in-Body c = λ beyond.
    let body = c.args.self.now.body in
    let slot = c.in-Body.slot in
    let k = c.in-Body.k in
    let is : IsBodyCell slot k = rw c.in-Body.is at c.requires in
    let size : length body ≡ 64 = omega arith in
    let five : length (get_or body slot []) ≡ 5 = rw c.from-player.ensures at c.with_word_at.ensures.five in
    rw (c.in-Body.is, c.with_word_at.ensures.value, c.from-player.ensures, rows_set body slot k c.args.word beyond.body is.slot_below is.word_below size five) refl
