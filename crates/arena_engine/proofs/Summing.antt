-- What is written and kept of a match.
use Rattle.std.proofs.Common.{◌≡◌, ℕ, ◌≤◌, List, length, Result, Ok, Err, IfOk, OnOk, IsOk, IsOkAnd, sym, ap, ◌∙◌, subst}
use Rattle.move_journal.specs.Logs.{JournalView}
use Rattle.match_play.specs.declared.totals.Totals.{Totals}
use Rattle.match_play.specs.Games.{GameView}
use Rattle.match_play.specs.Matches.{HasEachJournal, match_totals, entries_of}
use Rattle.arena_engine.specs.Summaries.{summary_text}
use Rattle.arena_engine.specs.Making.{ArePlayed, line_of_match}

-- what is so of the line of the totals is so of that of the match
pub line_is : {E : Type 0} (ended : Result Totals E) (seed players : ℕ) (journals all : List JournalView) (P : List ℕ → Type 0) → all ≡ journals
    → IfOk ended (λ totals. totals ≡ match_totals seed players (entries_of journals)) → IsOkAnd ended (λ totals. P (summary_text totals)) → P (line_of_match seed players all)
line_is (Ok totals) seed players journals all P kept is holds =
    subst (λ (t : Totals). P (summary_text t)) (is ∙ ap (λ (js : List JournalView). match_totals seed players (entries_of js)) (sym kept)) holds
line_is (Err e) seed players journals all P kept is holds = absurd holds

whole_if : {E : Type 0} (ended : Result Totals E) (P : Type 0) → OnOk ended P → IsOk ended → P
whole_if (Ok totals) P holds is = holds
whole_if (Err e) P holds is = cc

-- the frames of the match were played
pub are_played : {E : Type 0} (ended : Result Totals E) (seed players frames workers status : ℕ) (g : GameView) (all : List JournalView) → all ≡ g.journals → HasEachJournal seed players workers g
    → length g.journals ≤ frames → OnOk ended (length g.journals ≡ frames) → ((status ≡ 5 → ⊥) → IsOk ended) → ArePlayed seed players frames workers status all
are_played ended seed players frames workers status g all kept each few whole ok =
    subst (λ (js : List JournalView). ArePlayed seed players frames workers status js) (sym kept) (record {
      right = each.right;
      order = each.order;
      few = few;
      whole = λ other. whole_if ended (length g.journals ≡ frames) whole (ok other);
    })
