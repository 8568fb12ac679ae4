-- The solids that a move looks at are those that overlap a place; no others change it.
use Rattle.std.proofs.Common.{◌≡◌, ◌≤◌, Bool, true, false, cond, List, [], ◌∷◌, ◌++◌, length, filter, refl, sym, ap, ◌∙◌}
use Rattle.std.proofs.lemmas.List.{append-nil}
use Rattle.std.proofs.lemmas.List.Elements.{filter-append}
use Rattle.std.proofs.lemmas.List.Sums.{length-filter, count_by-le-length}
use Rattle.arena_geo.specs.Bounds.{Bounds}
use Rattle.arena_geo.specs.Boxes.{overlaps}
use Rattle.entity_recs.specs.declared.rec.Rec.{Rec}
use Rattle.player_move.specs.declared.moved.Moved.{Moved}
use Rattle.player_move.specs.Intents.{Intent}
use Rattle.player_move.specs.Moves.{move_of}
use Rattle.player_move.specs.Laws.{looked_at}
use Rattle.player_move.proofs.Looking.{move_looks_within}
use Rattle.arena_map.specs.Maps.{MapView, solids_of}
use Rattle.trigger_rules.specs.Touching.{bodies_of_solids, solids_among}

-- what passed a test passes it again
pub filter_again : {X : Type 0} (test : X → Bool) (xs : List X) → filter test (filter test xs) ≡ filter test xs
filter_again test [] = refl
filter_again {X} test (x ∷ xs) = by (test x) refl (filter_again test xs)
  where
    by : (b : Bool) → test x ≡ b → filter test (filter test xs) ≡ filter test xs → filter test (cond b (x ∷ filter test xs) (filter test xs)) ≡ cond b (x ∷ filter test xs) (filter test xs)
    by true e rest = ap (λ (b : Bool). cond b (x ∷ filter test (filter test xs)) (filter test (filter test xs))) e ∙ ap (λ (l : List X). x ∷ l) rest
    by false e rest = rest

-- no more pass a test than there are
pub length-filter-le : {X : Type 0} (test : X → Bool) (xs : List X) → length (filter test xs) ≤ length xs
length-filter-le test xs = rw (length-filter test xs) (count_by-le-length test xs)

-- the move among those solids of the map and of the records that overlap where it looks is the move among all of them
pub move_among_kept : (map : MapView) (me : Rec) (near : List Rec) (cmd : Intent) (place : Bounds) → cmd.ms ≤ 50 → place ≡ looked_at me cmd.ms
    → move_of me cmd (filter (overlaps place) (solids_of map) ++ filter (overlaps place) (bodies_of_solids near)) ≡ move_of me cmd (solids_among map near)
unfolding solids_among
move_among_kept map me near cmd place short place_is =
    let test = overlaps (looked_at me cmd.ms) in
    let all = solids_of map ++ bodies_of_solids near in
    let kept = filter test (solids_of map) ++ filter test (bodies_of_solids near) in
    let kept_is : kept ≡ filter test all = sym (filter-append test (solids_of map) (bodies_of_solids near)) in
    ap (λ (b : Bounds). move_of me cmd (filter (overlaps b) (solids_of map) ++ filter (overlaps b) (bodies_of_solids near))) place_is
    ∙ move_looks_within me cmd kept all short (ap (filter test) kept_is ∙ filter_again test all)

-- and so is the move among what was put into a list in that order
pub move_of_kept : (map : MapView) (me : Rec) (near : List Rec) (cmd : Intent) (place : Bounds) (none solids first kept taken : List Bounds) (moved : Moved) → cmd.ms ≤ 50
    → place ≡ looked_at me cmd.ms → none ≡ [] → solids ≡ solids_of map → first ≡ none ++ filter (overlaps place) solids → kept ≡ first ++ filter (overlaps place) (bodies_of_solids near)
    → taken ≡ kept → moved ≡ move_of me cmd (taken ++ []) → moved ≡ move_of me cmd (solids_among map near)
move_of_kept map me near cmd place none solids first kept taken moved short place_is none_is solids_are first_is kept_is taken_is moved_is =
    moved_is
    ∙ ap (move_of me cmd) (append-nil taken ∙ taken_is ∙ kept_is)
    ∙ ap (λ (l : List Bounds). move_of me cmd (l ++ filter (overlaps place) (bodies_of_solids near))) first_is
    ∙ ap (λ (l : List Bounds). move_of me cmd ((l ++ filter (overlaps place) solids) ++ filter (overlaps place) (bodies_of_solids near))) none_is
    ∙ ap (λ (l : List Bounds). move_of me cmd (filter (overlaps place) l ++ filter (overlaps place) (bodies_of_solids near))) solids_are
    ∙ move_among_kept map me near cmd place short place_is
