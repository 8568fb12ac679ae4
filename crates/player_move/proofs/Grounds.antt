-- The ground test over two lists of solids.
use Rattle.std.proofs.Common.{◌≡◌, Bool, true, false, ◌||◌, List, ◌++◌, sym, ap, ◌∙◌}
use Rattle.std.proofs.lemmas.List.Folds.{list_any-append}
use Rattle.arena_geo.specs.Bounds.{Bounds}
use Rattle.arena_geo.specs.Boxes.{overlaps, box_moved_by, is_blocked}
use Rattle.player_move.specs.Walks.{downwards, ground_of}

or_true : (a b : Bool) → a ≡ true → (a || b) ≡ a
or_true true b h = λ i. true
or_true false b h = cc

or_false : (a b : Bool) → a ≡ false → (a || b) ≡ b
or_false true b h = cc
or_false false b h = λ i. b

ground_is : (body below : Bounds) (fixed moving : List Bounds) → below ≡ box_moved_by body (downwards 1) → (is_blocked below fixed || is_blocked below moving) ≡ ground_of body (fixed ++ moving)
unfolding ground_of
ground_is body below fixed moving at =
    sym (list_any-append (overlaps below) fixed moving)
    ∙ ap (λ (b : Bounds). is_blocked b (fixed ++ moving)) at

-- what the first list says where it blocks, and else the second
pub ground_by_first : (body below : Bounds) (fixed moving : List Bounds) (first : Bool) → below ≡ box_moved_by body (downwards 1) → first ≡ is_blocked below fixed → first ≡ true → first ≡ ground_of body (fixed ++ moving)
ground_by_first body below fixed moving first at is blocked =
    is ∙ sym (or_true (is_blocked below fixed) (is_blocked below moving) (sym is ∙ blocked)) ∙ ground_is body below fixed moving at

pub ground_by_second : (body below : Bounds) (fixed moving : List Bounds) (first second : Bool) → below ≡ box_moved_by body (downwards 1) → first ≡ is_blocked below fixed → first ≡ false → second ≡ is_blocked below moving → second ≡ ground_of body (fixed ++ moving)
ground_by_second body below fixed moving first second at is free then =
    then ∙ sym (or_false (is_blocked below fixed) (is_blocked below moving) (sym is ∙ free)) ∙ ground_is body below fixed moving at
