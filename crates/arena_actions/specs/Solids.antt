-- An index over the solids of a map, where there is one.
use Rattle.std.specs.Prelude.{Option, List, IfSome}
use Rattle.arena_geo.specs.Bounds.{Bounds}
use Rattle.box_strips.specs.Strips.{StripsView, IsIndexOf}

-- the index misses none of the solids, if there is one
abbrev pub MissesNone : Option StripsView → List Bounds → Type 0
MissesNone strips solids = IfSome strips (λ index. IsIndexOf index solids)
