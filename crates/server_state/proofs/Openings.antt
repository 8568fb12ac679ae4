-- The world before the first frame, and the live players after a tick.
use Rattle.std.proofs.Common.{◌≡◌, ℕ, List, [], ◌∷◌, fold, Option, refl, sym, ap, ◌∙◌, subst}
use Rattle.arena_geo.specs.Bounds.{Bounds}
use Rattle.entity_recs.specs.declared.rec.Rec.{Rec}
use Rattle.arena_map.specs.Maps.{MapView, IsMap, entities_of}
use Rattle.client_ports.specs.Clients.{no_clients}
use Rattle.client_ports.specs.States.{state_of, HaveSameLive, IsServerState}
use Rattle.client_ports.specs.declared.client.Client.{Client}
use Rattle.world_physics.specs.Ticks.{after_tick}
use Rattle.world_tree.specs.Worlds.{WorldView, empty_world, with_record, with_records}
use Rattle.plain_server.specs.RecordsById.{with_record_at, opening}
use Rattle.plain_server.proofs.Ticking.{server_ticked}

-- records are put in at the places of their ids
records-with : (w : WorldView) (rs : List Rec) → (with_records w rs).records ≡ fold with_record_at w.records rs
records-with w [] = refl
records-with w (r ∷ rs) = records-with (with_record w r) rs

-- the world that the code makes of the map's parts
pub made_so : (map : MapView) (bounds : Bounds) (depth : ℕ) (things : List Rec) → bounds ≡ map.bounds → depth ≡ map.depth
    → things ≡ entities_of map
    → with_records (empty_world bounds depth) things ≡ with_records (empty_world map.bounds map.depth) (entities_of map)
made_so map bounds depth things bounds_are depth_is things_are =
    ap (λ (b : Bounds). with_records (empty_world b depth) things) bounds_are
    ∙ ap (λ d. with_records (empty_world map.bounds d) things) depth_is
    ∙ ap (with_records (empty_world map.bounds map.depth)) things_are

-- it has the opening records
pub opened : (map : MapView) (w : WorldView) → w ≡ with_records (empty_world map.bounds map.depth) (entities_of map) → w.records ≡ (opening map).records
unfolding opening
opened map w is = ap (λ (v : WorldView). v.records) is ∙ records-with (empty_world map.bounds map.depth) (entities_of map)

-- before the first frame nobody is joined
nobody-joined : (map : MapView) → (opening map).clients ≡ no_clients
unfolding opening
nobody-joined map = refl

-- so it is that of a server before the first frame
pub opened-is : (map : MapView) (records : List (Option Rec)) (clients : List (Option Client)) → records ≡ (opening map).records → clients ≡ no_clients → state_of clients records ≡ opening map
opened-is map records clients records_are nobody = λ i. state_of ((nobody ∙ sym (nobody-joined map)) i) (records_are i)

-- after the tick of a frame the live slots are the live players still
pub ticked_live : (map_view : MapView) (frame : ℕ) (clients : List (Option Client)) (before records : List (Option Rec)) → IsMap map_view → IsServerState map_view (state_of clients before)
    → records ≡ after_tick map_view frame before → HaveSameLive clients records
ticked_live map_view frame clients before records is_map is ticked =
    subst (HaveSameLive clients) (sym ticked) (server_ticked map_view frame (state_of clients before) is_map is).fits.live
