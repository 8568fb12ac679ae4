-- The lines that a match and a right transcript print.
use Rattle.std.specs.Prelude.{ℕ, List, [], ◌∷◌, ◌++◌, codes, decimal}
use Rattle.match_play.specs.declared.totals.Totals.{Totals}

-- the totals of a match, each after its name, with a line feed
abbrev pub summary_text : Totals → List ℕ
summary_text t =
    codes "frames " ++ decimal t.frames
    ++ codes " joins " ++ decimal t.joins
    ++ codes " moves " ++ decimal t.moves
    ++ codes " refused " ++ decimal t.refused
    ++ codes " items " ++ decimal t.items
    ++ codes " scores " ++ decimal t.score
    ++ 10 ∷ []

-- how many frames a right transcript has, and how many moves were received in them, with a line feed
abbrev pub right_text : ℕ → ℕ → List ℕ
right_text frames moves = codes "right frames " ++ decimal frames ++ codes " moves " ++ decimal moves ++ 10 ∷ []
