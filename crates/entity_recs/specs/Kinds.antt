-- The numbers of the kinds, and which of them are players, solids or items.
use Rattle.std.specs.Prelude.{ℕ, Bool, true, false}
use Rattle.entity_recs.specs.declared.kind.Kind.{Kind}
use Rattle.entity_recs.specs.declared.kind.Kind.TheVariants.{Player, Ammo, Gem, Teleporter, Goal, Lift}

-- a kind's number
abbrev pub number_of : Kind → ℕ
number_of Player = 0
number_of Ammo = 1
number_of Gem = 2
number_of Teleporter = 3
number_of Goal = 4
number_of Lift = 5

-- a player
abbrev pub is_player : Kind → Bool
is_player Player = true
is_player _ = false

-- a player or a lift, which other bodies can't enter; the other kinds are triggers
abbrev pub is_solid : Kind → Bool
is_solid Player = true
is_solid Lift = true
is_solid _ = false

-- ammunition or a gem
abbrev pub is_item : Kind → Bool
is_item Ammo = true
is_item Gem = true
is_item _ = false
