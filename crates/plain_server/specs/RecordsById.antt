-- The records by id as a world of histories, and the records of such a world.
use Rattle.std.specs.Prelude.{List, map, fold, replicate, Option, Some, None, slice_set}
use Rattle.std.specs.Option.{option_map}
use Rattle.entity_recs.specs.declared.limits.TheConstants.{IDS}
use Rattle.entity_recs.specs.declared.rec.Rec.{Rec}
use Rattle.entity_recs.specs.Worlds.{World, record_or_nobody}
use Rattle.arena_map.specs.Maps.{MapView, entities_of}
use Rattle.world_tree.specs.Live.{record_at, ids_of}
use Rattle.client_ports.specs.Clients.{no_clients}
use Rattle.client_ports.specs.States.{State, state_of}

-- the world of these records: the live ids in rising order, and the record of each
abbrev pub world_of : List (Option Rec) → World
world_of records = record { ids = ids_of records; record_of = λ id. record_or_nobody (record_at records id) }

-- the live records, each as it is in a world
abbrev pub records_in : World → List (Option Rec) → List (Option Rec)
records_in w records = map (option_map (λ (r : Rec). w.record_of r.id)) records

-- the records with this one at the place of its id
abbrev pub with_record_at : List (Option Rec) → Rec → List (Option Rec)
with_record_at records r = slice_set records r.id (Some r)

-- before the first frame the things of the map are there, and nobody is joined
-- Unfoldable, since its normal form is a list of 512 places that each goal would carry in full; what proofs need of it
-- are a few lemmas.
unfoldable pub opening : MapView → State
opening map = state_of no_clients (fold with_record_at (replicate IDS None) (entities_of map))
