use Rattle.std.proofs.Common.{length}
use Rattle.plain_server.specs.Frames.{state_played}
use Rattle.plain_server.specs.Laws.{received_next}
use Rattle.plain_server.specs.RecordsById.{opening}
use Rattle.plain_server.proofs.Frames.{moved_by_is, received_is, played_is, opening_is}
use Rattle.plain_server.proofs.laws.worlds_stay_valid.Goals as goal

pub returns : goal.returns
returns c = record {
  between = λ map frames journals is_map. played_is map 0 (opening map) frames journals is_map (opening_is map is_map);
  shown = λ map frames journals arrivals journal is_map.
      moved_by_is map (received_next map frames journals arrivals) journal is_map
      (received_is map (length frames) (state_played map 0 (opening map) frames journals) arrivals is_map
      (played_is map 0 (opening map) frames journals is_map (opening_is map is_map)));
}
