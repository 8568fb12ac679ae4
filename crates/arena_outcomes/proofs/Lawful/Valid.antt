-- Validity: a move leaves its player a record that is taken.
use Rattle.std.proofs.Common.{ℕ, ◌<◌, sym, subst, arith}
use Rattle.entity_recs.specs.declared.rec.Rec.{Rec}
use Rattle.entity_recs.specs.Commands.{Command}
use Rattle.entity_recs.specs.Actions.{HasPlayer, HasValidity}
use Rattle.entity_recs.proofs.Ids.{kind_of_id}
use Rattle.arena_map.specs.Maps.{MapView, IsMap}
use Rattle.trigger_rules.specs.Laws.{IsPlayerOn}
use Rattle.arena_outcomes.specs.Outcomes.{outcome_in}
use Rattle.arena_outcomes.specs.Takes.{takes}
use Rattle.arena_outcomes.proofs.Lawful.Moves.{stay_on_maps, keep_who_moves}
use Rattle.arena_outcomes.proofs.Lawful.Taking.{taken_is_record, taken_is_keepable, taken_is_player, player_is_taken, taken_in_any_state}

-- the command's player is on the map
pub has_player_on : (map : MapView) (me : Rec) (c : Command) → IsMap map → HasPlayer (takes map) me c
    → IsPlayerOn map me
has_player_on map me c is_map has =
    let below : me.id < 64 = subst (λ (id : ℕ). id < 64) (sym has.own) has.command.slot in
    taken_is_player map me is_map has.taken (kind_of_id me.kind me.id (taken_is_record map me is_map has.taken).id below)

pub is_valid : (map : MapView) → IsMap map → HasValidity (takes map) (outcome_in map)
is_valid map is_map = record {
  keepable = λ r h. taken_is_keepable map r is_map h;
  any_state = λ r state h. taken_in_any_state map r state h;
  me = λ me near c call.
      let after = stay_on_maps map me near c is_map (has_player_on map me c is_map call.player) in
      let seq = (keep_who_moves map me near c).seq in
      player_is_taken map (outcome_in map me near c).me after (omega (arith, seq, call.player.command.seq));
}
