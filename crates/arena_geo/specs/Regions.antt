-- What a list of boxes covers.
use Rattle.std.specs.Prelude.{◌≤◌, Bool, List, length, All}
use Rattle.std.specs.List.{list_any}
use Rattle.arena_geo.specs.Bounds.{Bounds, IsBox}
use Rattle.arena_geo.specs.Boxes.{touches, contains}

-- 1 to 17 boxes
pub record IsRegion (region : List Bounds) : Type 0 where
  pub least : 1 ≤ length region
  pub most : length region ≤ 17
  pub boxes : All IsBox region

-- some box of the region touches this one
abbrev pub touches_region : Bounds → List Bounds → Bool
touches_region b region = list_any (touches b) region

-- some box of the region contains this one
abbrev pub is_inside : Bounds → List Bounds → Bool
is_inside b region = list_any (λ one. contains one b) region
