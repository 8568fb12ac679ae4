-- The words that are in no use are 0 in the table.
use Rattle.std.proofs.Common.{◌∙◌, arith}
use Rattle.core_steps.specs.Cells.{Body, State, node_index, links_index, cell_index}
use Rattle.core_steps.proofs.TableWords.{unused_words_are_zero}
use Rattle.ruled_words.specs.Laws.{UnusedWordsStayZero}

pub unused_words_stay_zero : UnusedWordsStayZero
unused_words_stay_zero F rooms s r =
    let zero = unused_words_are_zero F r.core r.history r.now r.stands.core in
    let each = r.words.each in
    record {
      node = λ v below beyond. each (node_index v) (omega (arith, below)) ∙ zero.node v below beyond;
      links = λ v below beyond. each (links_index v) (omega (arith, below)) ∙ zero.links v below beyond;
      body = λ slot k below five dead. each (cell_index (Body slot k)) (omega (arith, below, five)) ∙ zero.body slot k below five dead;
      state = λ id below dead. each (cell_index (State id)) (omega (arith, below)) ∙ zero.state id dead;
    }
