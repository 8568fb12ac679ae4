-- The scores of the players in a world.
use Rattle.std.specs.Prelude.{ℕ, List, Option, Some, None, sum_by}
use Rattle.entity_recs.specs.declared.rec.Rec.{Rec}
use Rattle.plain_server.specs.Replies.{players_in}

-- the score of the record at a place, and 0 where the place is empty
abbrev pub score_at : Option Rec → ℕ
score_at None = 0
score_at (Some r) = r.score

-- the sum of the scores of the live players
abbrev pub score_in : List (Option Rec) → ℕ
score_in records = sum_by (λ (r : Rec). r.score) (players_in records)
