-- What the tick of a frame keeps: the state stays a server's, bodies stay clear, and items that return later stay away.
use Rattle.std.proofs.Common.{◌≡◌, ℕ, ◌<◌, true, List, Option, Some, is_some, sym, ap, ◌∙◌}
use Rattle.entity_recs.specs.declared.rec.Rec.{Rec}
use Rattle.entity_recs.specs.Kinds.{is_item}
use Rattle.arena_map.specs.Maps.{MapView, IsMap}
use Rattle.arena_map.specs.Validity.{IsValidWorld, AreClear}
use Rattle.world_tree.specs.Live.{record_at}
use Rattle.world_physics.specs.Ticks.{after_tick}
use Rattle.world_physics.proofs.Kept.{ids_stay, worlds_stay_valid, items_return_at_their_frame}
use Rattle.world_physics.proofs.Clear.{players_keep_room}
use Rattle.client_ports.specs.States.{State, IsServerState}
use Rattle.plain_server.specs.Frames.{state_after_tick}
use Rattle.plain_server.proofs.Players.{live_record}

-- the state is a server's after the tick
pub server_ticked : (map : MapView) (frame : ℕ) (state : State) → IsMap map → IsServerState map state → IsServerState map (state_after_tick map frame state)
server_ticked map frame state is_map is = record {
  clients = is.clients;
  places = (ids_stay map _ state.records).count ∙ is.places;
  fits = record {
    live = record { same = λ slot below. is.fits.live.same slot below ∙ sym ((ids_stay map _ state.records).live slot) };
    valid = worlds_stay_valid map _ state.records is_map is.fits.valid;
  };
}

-- its bodies are clear
pub clear_ticked : (map : MapView) (frame : ℕ) (state : State) → IsMap map → IsServerState map state → AreClear map state.records → AreClear map (state_after_tick map frame state).records
clear_ticked map frame state is_map is clear = players_keep_room map _ state.records is_map is.fits.valid clear

-- and an item that returns in a later frame is as it was
pub waits : (map : MapView) (frame id : ℕ) (item : Rec) (records : List (Option Rec)) → IsMap map → IsValidWorld map records → record_at records id ≡ Some item → is_item item.kind ≡ true
    → frame < item.state → record_at (after_tick map frame records) id ≡ Some item
waits map frame id item records is_map valid at kind before =
    let there = live_record (after_tick map frame records) id ((ids_stay map frame records).live id ∙ ap is_some at) in
    there.at ∙ ap Some ((items_return_at_their_frame map frame records id item there.r is_map valid at kind there.at).away before)
