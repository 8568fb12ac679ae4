-- The laws of journals, for callers in other crates.
use Rattle.std.specs.Prelude.{List}
use Rattle.std.proofs.Common.{sym, subst}
use Rattle.std.proofs.lemmas.List.Elements.{All-from_recursion}
use Rattle.entity_recs.specs.Histories.{Item, IsLegal}
use Rattle.move_journal.specs.Merges.{history_of}
use Rattle.move_journal.specs.Laws.{MergesHaveWholeHistories, MovesInOrderAreRight, OrderLeavesOneJournal}
use Rattle.move_journal.proofs.Founds.{IsFound, each_is_found, history_in_order}
use Rattle.move_journal.proofs.Orders.{legal_in_order, player_items_in_order, order_in_order, legal_from_first}
use Rattle.move_journal.proofs.Uniques.{one_journal, legal_at_first}
use Rattle.move_journal.proofs.WholeHistories.{whole_history}

-- one entry after another takes its player's first move that is left
pub merges_have_whole_histories : MergesHaveWholeHistories
merges_have_whole_histories =
    λ moves journal apart merge. whole_history moves journal moves (All-from_recursion (IsFound moves) moves (each_is_found moves apart)) merge

-- the history of moves that run in order is legal, and its entries report them in their order
pub moves_in_order_are_right : MovesInOrderAreRight
moves_in_order_are_right = λ act w moves apart.
    let history = history_in_order act moves w 0 moves (each_is_found moves apart) in
    let legal = legal_from_first act w _ (legal_in_order act w 0 moves) in
    record {
      right = record {
        merge = record { each = λ slot. player_items_in_order act slot w 0 moves };
        legal = subst (λ (items : List Item). IsLegal act w items) (sym history) legal;
      };
      order = order_in_order act w 0 moves;
    }

-- each entry of the journal is that of its command, one after another
pub order_leaves_one_journal : OrderLeavesOneJournal
order_leaves_one_journal = λ act w moves journal apart right.
    one_journal act moves 0 w journal moves (each_is_found moves apart) right.order (legal_at_first act w (history_of moves journal) right.right.legal)
