use Rattle.std.proofs.Common.{length}
use Rattle.plain_server.specs.Frames.{state_played}
use Rattle.plain_server.specs.RecordsById.{opening}
use Rattle.plain_server.proofs.Frames.{played_is, opening_is}
use Rattle.plain_server.proofs.Clear.{clear_shown, clear_through, opening_clear}
use Rattle.plain_server.proofs.laws.players_keep_room.Goals as goal

pub returns : goal.returns
returns c = record {
  between = λ map frames journals is_map. clear_through map 0 (opening map) frames journals is_map (opening_is map is_map) (opening_clear map is_map);
  shown = λ map frames journals arrivals journal is_map.
      clear_shown map (length frames) (state_played map 0 (opening map) frames journals) arrivals journal is_map
      (played_is map 0 (opening map) frames journals is_map (opening_is map is_map))
      (clear_through map 0 (opening map) frames journals is_map (opening_is map is_map) (opening_clear map is_map));
}
