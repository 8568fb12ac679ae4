-- Where a body is on its way: a displacement is gone in as many steps as its greatest part has sub-units.
use Rattle.std.specs.Prelude.{ℕ, max, ℤ, pos, ◌*ℤ◌, int_div, unsigned_abs}
use Rattle.arena_geo.specs.declared.vec3.Vec3.{Vec3}
use Rattle.arena_geo.specs.Bounds.{Bounds}
use Rattle.arena_geo.specs.Boxes.{box_moved_by}

-- how many steps a displacement has: the greatest of its parts, signs left out
abbrev pub step_count : Vec3 → ℕ
step_count d = max (unsigned_abs d.x) (max (unsigned_abs d.y) (unsigned_abs d.z))

-- how far a part has come at step k of n, cut toward 0
abbrev pub part_at : ℕ → ℕ → ℤ → ℤ
part_at n k part = int_div (part *ℤ pos k) (pos n)

-- how far the body has come at step k
abbrev pub shift_at : Vec3 → ℕ → Vec3
shift_at d k =
    let n = step_count d in record { x = part_at n k d.x; y = part_at n k d.y; z = part_at n k d.z }

-- the body at step k
abbrev pub body_at : Bounds → Vec3 → ℕ → Bounds
body_at body d k = box_moved_by body (shift_at d k)
