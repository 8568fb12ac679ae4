-- Solids that begin with the walls of an arena block what the walls block.
use Rattle.std.proofs.Common.{◌≡◌, true, List, ◌++◌}
use Rattle.std.proofs.lemmas.List.Folds.{list_any-append}
use Rattle.std.proofs.lemmas.Bool.{or_left}
use Rattle.arena_geo.specs.Bounds.{Bounds}
use Rattle.arena_geo.specs.Boxes.{is_blocked}
use Rattle.box_trace.specs.Walls.{walls_of, HaveWalls}

-- solids with more after them block what they block
blocked_by_more : (b : Bounds) (solids more : List Bounds)
    → is_blocked b solids ≡ true → is_blocked b (solids ++ more) ≡ true
blocked_by_more b solids more h =
    rw list_any-append (or_left (is_blocked b solids) (is_blocked b more) h)

-- solids that begin with the walls have them
pub have_walls_first : (arena : Bounds) (more : List Bounds) → HaveWalls arena (walls_of arena ++ more)
have_walls_first arena more =
    record { blocked = λ b h. blocked_by_more b (walls_of arena) more h }

-- solids that have the walls have them with more after them
pub have_walls_more : (arena : Bounds) (solids more : List Bounds)
    → HaveWalls arena solids → HaveWalls arena (solids ++ more)
have_walls_more arena solids more have =
    record { blocked = λ b h. blocked_by_more b solids more (have.blocked b h) }
