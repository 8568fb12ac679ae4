use Rattle.arena_map.proofs.ThingData.{live_records_have_data}
use Rattle.arena_map.proofs.laws.live_records_have_data.Goals as goal

pub returns : goal.returns
returns c = live_records_have_data
