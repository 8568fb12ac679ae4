-- Where players shoot, one that is down lies where it is, and one that isn't moves.
use Rattle.std.proofs.Common.{◌≡◌, Bool, true, false, cond, List, sym, ap}
use Rattle.entity_recs.specs.declared.rec.Rec.{Rec}
use Rattle.entity_recs.specs.Commands.{Command}
use Rattle.arena_map.specs.Maps.{MapView}
use Rattle.trigger_rules.specs.Touching.{first_walk}
use Rattle.shot_rules.specs.Shots.{is_down}
use Rattle.arena_outcomes.specs.Outcomes.{effect_of, player_after_rising, player_while_down, shooting_in, shot_outcome}

pub down_is : (arena : MapView) (me : Rec) (near : List Rec) (c : Command) → is_down me c.frame ≡ true
    → effect_of (first_walk (player_while_down me c.seq)) ≡ shot_outcome arena me near c
unfolding shot_outcome
down_is arena me near c down =
    sym (ap (λ (t : Bool). cond t (effect_of (first_walk (player_while_down me c.seq))) (shooting_in arena (player_after_rising me) near c)) down)

pub moves_is : (arena : MapView) (me : Rec) (near : List Rec) (c : Command) → is_down me c.frame ≡ false
    → shooting_in arena (player_after_rising me) near c ≡ shot_outcome arena me near c
unfolding shot_outcome
moves_is arena me near c up =
    sym (ap (λ (t : Bool). cond t (effect_of (first_walk (player_while_down me c.seq))) (shooting_in arena (player_after_rising me) near c)) up)
