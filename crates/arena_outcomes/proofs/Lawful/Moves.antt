-- What holds of every move.
use Rattle.std.proofs.Common.{◌≡◌, ℕ, ◌≢◌, Bool, true, false, List, [], ◌∷◌, fold, All, Contains, refl, sym, ap, ◌∙◌, subst, arith}
use Rattle.std.proofs.lemmas.Bool.{false_from_ne_true}
use Rattle.std.proofs.lemmas.List.Elements.{All-contains, Contains-append_right}
use Rattle.arena_geo.specs.declared.vec3.Vec3.{Vec3}
use Rattle.arena_geo.specs.Bounds.{Bounds}
use Rattle.arena_geo.specs.Boxes.{is_blocked}
use Rattle.entity_recs.specs.declared.bodies.TheConstants.{PLAYER_MINS, PLAYER_MAXS}
use Rattle.entity_recs.specs.declared.kind.Kind.TheVariants.{Teleporter}
use Rattle.entity_recs.specs.declared.rec.Rec.{Rec}
use Rattle.entity_recs.specs.Records.{HasCorners}
use Rattle.entity_recs.specs.Bodies.{box_at_origin, body_of}
use Rattle.entity_recs.specs.Commands.{Command}
use Rattle.entity_recs.proofs.Ids.{player_shape}
use Rattle.player_move.proofs.Ending.{move_ends_free}
use Rattle.arena_map.specs.Maps.{MapView}
use Rattle.player_move.specs.Moves.{move_of}
use Rattle.trigger_rules.specs.Touching.{touched_by, solids_among, Walk, first_walk, after_trigger, touched}
use Rattle.trigger_rules.proofs.Taken.{stay_themselves, leaps_free, only_leaps, were_there, ids_rise}
use Rattle.trigger_rules.proofs.Leaping.{leaps_from_teleporters}
use Rattle.trigger_rules.proofs.Bounds.{stay_on, states_apart}
use Rattle.arena_outcomes.specs.Outcomes.{intent_of_command, after_move, effect_of, moved_among, outcome_in}
use Rattle.arena_outcomes.specs.Laws.{PlayersStayOnMaps, IsPlayerAfter, MovesKeepWhoMoves, IsMoveAlone, MovesAreMade, PlayersAreWhereTheyMoved, TouchingFollowsMoves, PlayersStayFree, MovesTakeWhatIsThere, NewStatesAreApart, RepliedIdsRise, RepliesHaveTheOrigin}
use Rattle.arena_outcomes.proofs.Lawful.Players.{moved_stays_on}

pub stay_on_maps : PlayersStayOnMaps
unfolding outcome_in
stay_on_maps map me near c is_map is =
    stay_on map c.frame (moved_among map me near c) near is_map (moved_stays_on map me near c is_map is)

-- the player that has moved, and touched nothing yet, is the same one
moved_is_same : (map : MapView) (me : Rec) (near : List Rec) (c : Command)
    → IsPlayerAfter me c.seq (moved_among map me near c)
unfolding moved_among
moved_is_same map me near c = record { id = refl; kind = refl; mins = refl; maxs = refl; state = refl; seq = refl }

pub keep_who_moves : MovesKeepWhoMoves
unfolding outcome_in
keep_who_moves map me near c =
    let moved = moved_is_same map me near c in
    let same = stay_themselves map c.frame (moved_among map me near c) near in
    record {
      id = same.id ∙ moved.id;
      kind = same.kind ∙ moved.kind;
      mins = same.mins ∙ moved.mins;
      maxs = same.maxs ∙ moved.maxs;
      state = same.state ∙ moved.state;
      seq = same.seq ∙ moved.seq;
    }

-- the player that has moved is free where it was free
moved_is_free : (map : MapView) (me : Rec) (near : List Rec) (c : Command)
    → is_blocked (body_of me) (solids_among map near) ≡ false
    → is_blocked (body_of (moved_among map me near c)) (solids_among map near) ≡ false
unfolding moved_among
moved_is_free map me near c free = move_ends_free me (intent_of_command c) (solids_among map near) free

-- a body in place in the same shape is the same body
pub same_body : (a b : Rec) → b.origin ≡ a.origin → b.mins ≡ a.mins → b.maxs ≡ a.maxs → body_of b ≡ body_of a
same_body a b origin mins maxs =
    ap (λ (o : Vec3). box_at_origin o b.mins b.maxs) origin ∙ ap (λ (m : Vec3). box_at_origin a.origin m b.maxs) mins
    ∙ ap (λ (m : Vec3). box_at_origin a.origin a.mins m) maxs

-- a player that touches things is free where it was free, and where a teleporter moves it
touches_free : (map : MapView) (frame : ℕ) (me : Rec) (near : List Rec)
    → HasCorners PLAYER_MINS PLAYER_MAXS me.mins me.maxs → is_blocked (body_of me) (solids_among map near) ≡ false
    → (ended : Bool) → (touched map frame me near).ended ≡ ended
    → is_blocked (body_of (touched map frame me near).me) (solids_among map near) ≡ false
touches_free map frame me near corners free true e = (leaps_free map frame me near corners e).free
touches_free map frame me near corners free false e =
    let same = stay_themselves map frame me near in
    ap (λ (b : Bounds). is_blocked b (solids_among map near)) (same_body me (touched map frame me near).me (only_leaps map frame me near e).origin same.mins same.maxs) ∙ free

pub stay_free : PlayersStayFree
unfolding outcome_in
stay_free map me near c is free =
    let moved = moved_among map me near c in
    let same = moved_is_same map me near c in
    let shape = player_shape me is.is_record is.kind in
    touches_free map c.frame moved near (record {
      low_is = same.mins ∙ shape.low_is;
      high_is = same.maxs ∙ shape.high_is;
    })
    (moved_is_free map me near c free) (touched map c.frame moved near).ended refl

pub take_what_is_there : MovesTakeWhatIsThere
unfolding outcome_in
take_what_is_there map me near c = were_there map c.frame (moved_among map me near c) near

pub new_states_apart : NewStatesAreApart
unfolding outcome_in
new_states_apart map me near c rise = states_apart map c.frame (moved_among map me near c) near rise

pub replied_rise : RepliedIdsRise
unfolding outcome_in
replied_rise map me near c rise = ids_rise map c.frame (moved_among map me near c) near rise

pub replies_have_origin : RepliesHaveTheOrigin
unfolding outcome_in
replies_have_origin map me near c = refl

-- where nothing is touched, the walk is over before it begins
none_touched : (map : MapView) (frame : ℕ) (me : Rec) (near : List Rec) → touched_by me near ≡ []
    → touched map frame me near ≡ first_walk me
unfolding touched
none_touched map frame me near none = ap (fold (after_trigger map (solids_among map near) frame) (first_walk me)) none

pub are_made : MovesAreMade
unfolding outcome_in moved_among
are_made map me near c none =
    let moved = move_of me (intent_of_command c) (solids_among map near) in
    let there = after_move me moved c.seq in
    subst (λ (w : Walk). IsMoveAlone me moved (effect_of w)) (sym (none_touched map c.frame there near none))
    (record { origin = refl; vel = refl; flags = refl; ammo = refl; carry = refl; score = refl; states = refl; got = refl })

-- the first of some records is among them
is_first : (r : Rec) (more : List Rec) → Contains (r ∷ more) r
is_first r more = (0, omega arith, refl)

-- a player that touches no teleporter isn't moved by one
isnt_led_away : (map : MapView) (frame : ℕ) (me : Rec) (near : List Rec) → All (λ r. r.kind ≢ Teleporter) (touched_by me near)
    → (touched map frame me near).ended ≡ false
isnt_led_away map frame me near none = false_from_ne_true (touched map frame me near).ended ends_not
  where
    ends_not : (touched map frame me near).ended ≡ true → ⊥
    ends_not end =
        let led = leaps_from_teleporters map frame me near end in
        let listed = Contains-append_right led.before (led.teleporter ∷ led.after) led.teleporter (is_first led.teleporter led.after) in
        All-contains (λ r. r.kind ≢ Teleporter) (touched_by me near) led.teleporter none
        (subst (λ (l : List Rec). Contains l led.teleporter) (sym led.touched_are) listed) led.kind

pub are_where_they_moved : PlayersAreWhereTheyMoved
unfolding outcome_in moved_among
are_where_they_moved map me near c none =
    let there = after_move me (move_of me (intent_of_command c) (solids_among map near)) c.seq in
    let place = only_leaps map c.frame there near (isnt_led_away map c.frame there near none) in
    record { origin = place.origin; vel = place.vel; flags = place.flags }

pub follows_moves : TouchingFollowsMoves
unfolding outcome_in moved_among
follows_moves map me near c = record { player = refl; states = refl; origin = refl; got = refl }
