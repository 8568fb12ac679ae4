-- What a packet is answered: what it changes, or the first refusal that holds.
use Rattle.std.specs.Prelude.{ℕ, ◌+◌, ◌==◌, true, nat_lt, List, length, Option, Some, None, option_map, Result, Ok, Err}
use Rattle.std.specs.Prelude.{ok_or, if◌then◌else◌}
use Rattle.std.specs.List.{find}
use Rattle.arena_geo.specs.declared.vec3.Vec3.{Vec3}
use Rattle.arena_geo.specs.Bounds.{Bounds}
use Rattle.entity_recs.specs.declared.rec.Rec.{Rec}
use Rattle.entity_recs.specs.Bodies.{player_body}
use Rattle.packet_read.specs.declared.move_packet.MovePacket.{MovePacket}
use Rattle.entity_slots.specs.declared.join_fault.JoinFault.{JoinFault}
use Rattle.entity_slots.specs.declared.join_fault.JoinFault.TheVariants as fault
use Rattle.entity_slots.specs.FreeSlots.{slot_for}
use Rattle.arena_map.specs.Maps.{MapView, solids_of}
use Rattle.world_tree.specs.Queries.{is_free}
use Rattle.client_ports.specs.declared.client.Client.{Client}
use Rattle.client_ports.specs.declared.client.LiveSlot.{LiveSlot}
use Rattle.client_ports.specs.declared.refusal.Refusal.{Refusal}
use Rattle.client_ports.specs.declared.refusal.Refusal.TheVariants.{Already, Full, Crowded, NotJoined, Leaving, Old}
use Rattle.client_ports.specs.declared.refusal.Refusal.TheVariants.{Many}
use Rattle.client_ports.specs.declared.spawns.JoinPoint.{JoinPoint}
use Rattle.client_ports.specs.NewMoves.{new_among, numbers_in, last_in}
use Rattle.client_ports.specs.Clients.{client, ports_of, live_slot, live_with}
use Rattle.client_ports.specs.States.{State}

-- the refusal of a join that gets no slot
-- Whether a slot is free doesn't depend on where anybody is, so `Full` is asked before the spawns are tried.
abbrev pub refusal_of : JoinFault → Refusal
refusal_of fault.Already = Already
refusal_of fault.Full = Full

-- the slot and the origin that a join gets
abbrev pub join_point : ℕ → Vec3 → JoinPoint
join_point slot at = record { slot = slot; at = at }

-- the first spawn in line order at which a player's body overlaps no wall, no block and no body of a live solid but the
-- slot's own
abbrev pub free_spawn : List Bounds → List (Option Rec) → ℕ → List Vec3 → Option Vec3
free_spawn solids records slot spawns = find (λ at. is_free records (player_body at) solids slot) spawns

-- the place in the slot that a join gets
abbrev pub join_point_in : MapView → List (Option Rec) → Result ℕ JoinFault → Result JoinPoint Refusal
join_point_in map records (Err why) = Err (refusal_of why)
join_point_in map records (Ok slot) =
    ok_or (option_map (join_point slot) (free_spawn (solids_of map) records slot map.spawns)) Crowded

-- the answer to a join
abbrev pub join_answer : MapView → State → ℕ → Result JoinPoint Refusal
join_answer map state port = join_point_in map state.records (slot_for (ports_of state.clients) port)

-- the client, leaving
abbrev pub live_slot_leaving : LiveSlot → LiveSlot
live_slot_leaving live = live_slot live.slot (client live.client.port live.client.last true live.client.moves)

-- the client after these new moves: the number of the last of them is the last accepted one
abbrev pub with_new_moves : LiveSlot → List MovePacket → LiveSlot
with_new_moves live new =
    live_slot live.slot (client live.client.port (last_in live.client.last (numbers_in new)) live.client.leaves
    (live.client.moves + length new))

-- the answer to a leave: the client, leaving
abbrev pub leave_by : Option LiveSlot → Result LiveSlot Refusal
leave_by None = Err NotJoined
leave_by (Some live) = if live.client.leaves then Err Leaving else Ok (live_slot_leaving live)

-- the answer to a leave of a port
abbrev pub leave_answer : List (Option Client) → ℕ → Result LiveSlot Refusal
leave_answer clients port = leave_by (live_with clients port)

-- the answer to a move packet with these commands, where so many of them are new: the client before it, of which the
-- new ones are accepted
abbrev pub new_answer : LiveSlot → ℕ → Result LiveSlot Refusal
new_answer live new =
    if live.client.leaves then Err Leaving
    else if new == 0 then Err Old
    else if nat_lt 8 (live.client.moves + new) then Err Many
    else Ok live

-- the answer to a move packet with these commands
abbrev pub move_by : Option LiveSlot → List MovePacket → Result LiveSlot Refusal
move_by None steps = Err NotJoined
move_by (Some live) steps = new_answer live (length (new_among live.client.last steps))

-- the answer to a move packet of a port with these commands
abbrev pub move_answer : List (Option Client) → ℕ → List MovePacket → Result LiveSlot Refusal
move_answer clients port steps = move_by (live_with clients port) steps
