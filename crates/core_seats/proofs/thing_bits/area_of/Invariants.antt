use Rattle.std.proofs.Common.{◌≡◌, true, take}
use Rattle.std.specs.Prelude.{All}
use Rattle.arena_geo.specs.Boxes.{contains}
use Rattle.core_seats.proofs.thing_bits.area_of.Given as goal

-- those of the boxes so far lie in it
abbrev pub invariant-loop-one : goal.invariant-loop-one
invariant-loop-one l = All (λ b. contains l.area b ≡ true) (take l.one-index l.boxes)
