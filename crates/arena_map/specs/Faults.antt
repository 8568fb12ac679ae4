-- The numbers of the rules.
use Rattle.std.specs.Prelude.{ℕ}
use Rattle.arena_map.specs.declared.map_fault.MapFault.{MapFault}
use Rattle.arena_map.specs.declared.map_fault.MapFault.TheVariants.{Arena, Box, Count, Stand, Item, Travel, NoSpawn}
use Rattle.arena_map.specs.declared.map_fault.MapFault.TheVariants.{Shaft}

-- a rule's number
abbrev pub number_of : MapFault → ℕ
number_of Arena = 1
number_of Box = 2
number_of Count = 3
number_of Stand = 4
number_of Item = 5
number_of Travel = 6
number_of NoSpawn = 7
number_of Shaft = 8
