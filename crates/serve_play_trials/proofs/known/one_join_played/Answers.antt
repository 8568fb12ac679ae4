use Rattle.serve_play_trials.proofs.OneJoin.{one_join_whole, one_join_fits}
use Rattle.serve_play_trials.proofs.known.one_join_played.Goals as goal

pub played-requires-clause-whole : goal.played-requires-clause-whole
played-requires-clause-whole g c = λ κs within.
    one_join_whole c.packets_have_room.ensures c.recordings_read_back.ensures c.as_bytes.result.now c.as_bytes.ensures.value

pub played-requires-clause-room : goal.played-requires-clause-room
played-requires-clause-room g c = λ κs within.
    one_join_fits c.packets_have_room.ensures c.recordings_read_back.ensures c.outputs_are_bounded.ensures c.as_bytes.result.now c.as_bytes.ensures.value
