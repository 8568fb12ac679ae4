use Rattle.std.proofs.Common.{rules}
use Rattle.std.proofs.lemmas.Int.{to_z-of_z}
use Rattle.arena_geo.proofs.Vectors.{same_parts}
use Rattle.arena_geo.proofs.vec3.Vec3.max.Goals as goal

pub returns : goal.returns
returns c = same_parts (search (rules, to_z-of_z)) (search (rules, to_z-of_z)) (search (rules, to_z-of_z))
