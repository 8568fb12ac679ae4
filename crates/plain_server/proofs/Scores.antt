-- What a player touches does the same whatever its score, but for the score.
use Rattle.std.proofs.Common.{◌≡◌, ℕ, ◌+◌, Bool, true, false, ◌==◌, ◌&&◌, nat_lt, if◌then◌else◌, List, [], ◌∷◌, ◌++◌, length, fold, Option, Some, None, refl, sym, ap, ◌∙◌}
use Rattle.arena_geo.specs.declared.vec3.Vec3.{Vec3}
use Rattle.arena_geo.specs.Bounds.{Bounds}
use Rattle.arena_geo.specs.Boxes.{is_blocked}
use Rattle.entity_recs.specs.declared.kind.Kind.{Kind}
use Rattle.entity_recs.specs.declared.kind.Kind.TheVariants.{Player, Ammo, Gem, Teleporter, Goal, Lift}
use Rattle.entity_recs.specs.declared.rec.Rec.{Rec}
use Rattle.entity_recs.specs.Bodies.{player_body}
use Rattle.arena_map.specs.Maps.{MapView, dest_of, delay_of}
use Rattle.item_rules.specs.Items.{has_room_for, may_take, with_item, after_item, taken_state}
use Rattle.trigger_rules.specs.Touching.{touched_by, solids_among, Walk, walk_of, first_walk, new_state, after_taking, after_touched_item, leapt, after_teleporter, after_kind, after_trigger, touched}

-- the player with no score
abbrev pub without_score : Rec → Rec
without_score me = record me { score = 0 }

-- the walk of that player
abbrev unscored : Walk → Walk
unscored w = walk_of (without_score w.me) w.states w.got w.ended

same_room : (me : Rec) (k : Kind) → has_room_for (without_score me) k ≡ has_room_for me k
same_room me Player = refl
same_room me Ammo = refl
same_room me Gem = refl
same_room me Teleporter = refl
same_room me Goal = refl
same_room me Lift = refl

may_as_well : (me item : Rec) → may_take (without_score me) item ≡ may_take me item
may_as_well me item = ap (λ (b : Bool). (item.state == 0) && b) (same_room me item.kind)

with-unscored : (b : Bool) (me : Rec) (k : Kind) → without_score (if b then with_item (without_score me) k else without_score me) ≡ without_score (if b then with_item me k else me)
with-unscored false me k = refl
with-unscored true me Player = refl
with-unscored true me Ammo = refl
with-unscored true me Gem = refl
with-unscored true me Teleporter = refl
with-unscored true me Goal = refl
with-unscored true me Lift = refl

item-unscored : (me item : Rec) → without_score (after_item (without_score me) item) ≡ without_score (after_item me item)
item-unscored me item =
    ap (λ (b : Bool). without_score (if b then with_item (without_score me) item.kind else without_score me)) (may_as_well me item) ∙ with-unscored (may_take me item) me item.kind

taking-unscored : (state : Option ℕ) (w : Walk) (item : Rec) → unscored (after_taking state (unscored w) item) ≡ unscored (after_taking state w item)
taking-unscored None w item = refl
taking-unscored (Some state) w item =
    ap (λ (me : Rec). walk_of me (w.states ++ new_state item.id state ∷ []) (w.got ++ item.id ∷ []) w.ended) (item-unscored w.me item)

touched_item-unscored : (delay : Option ℕ) (frame : ℕ) (w : Walk) (item : Rec) → unscored (after_touched_item delay frame (unscored w) item) ≡ unscored (after_touched_item delay frame w item)
touched_item-unscored None frame w item = refl
touched_item-unscored (Some delay) frame w item = by (nat_lt (length w.got) 8)
  where
    state : taken_state (without_score w.me) item delay frame ≡ taken_state w.me item delay frame
    state = ap (λ (b : Bool). if b then Some (frame + delay) else None) (may_as_well w.me item)

    by : (b : Bool) → unscored (if b then after_taking (taken_state (without_score w.me) item delay frame) (unscored w) item else unscored w)
        ≡ unscored (if b then after_taking (taken_state w.me item delay frame) w item else w)
    by true = ap (λ (s : Option ℕ). unscored (after_taking s (unscored w) item)) state ∙ taking-unscored (taken_state w.me item delay frame) w item
    by false = refl

teleporter-unscored : (dest : Option Vec3) (solids : List Bounds) (w : Walk) → unscored (after_teleporter dest solids (unscored w)) ≡ unscored (after_teleporter dest solids w)
teleporter-unscored None solids w = refl
teleporter-unscored (Some dest) solids w = by (is_blocked (player_body dest) solids)
  where
    by : (b : Bool) → unscored (if b then unscored w else walk_of (leapt (without_score w.me) dest) w.states w.got true)
        ≡ unscored (if b then w else walk_of (leapt w.me dest) w.states w.got true)
    by true = refl
    by false = refl

kind-unscored : (kind : Kind) (map : MapView) (solids : List Bounds) (frame : ℕ) (w : Walk) (r : Rec) → unscored (after_kind kind map solids frame (unscored w) r) ≡ unscored (after_kind kind map solids frame w r)
kind-unscored Player map solids frame w r = refl
kind-unscored Ammo map solids frame w r = touched_item-unscored (delay_of map r.id) frame w r
kind-unscored Gem map solids frame w r = touched_item-unscored (delay_of map r.id) frame w r
kind-unscored Teleporter map solids frame w r = teleporter-unscored (dest_of map r.id) solids w
kind-unscored Goal map solids frame w r = refl
kind-unscored Lift map solids frame w r = refl

trigger-unscored : (map : MapView) (solids : List Bounds) (frame : ℕ) (w : Walk) (r : Rec) → unscored (after_trigger map solids frame (unscored w) r) ≡ unscored (after_trigger map solids frame w r)
trigger-unscored map solids frame w r = by w.ended
  where
    by : (b : Bool) → unscored (if b then unscored w else after_kind r.kind map solids frame (unscored w) r) ≡ unscored (if b then w else after_kind r.kind map solids frame w r)
    by true = refl
    by false = kind-unscored r.kind map solids frame w r

walk-unscored : (map : MapView) (solids : List Bounds) (frame : ℕ) (w : Walk) (rs : List Rec)
    → unscored (fold (after_trigger map solids frame) (unscored w) rs) ≡ unscored (fold (after_trigger map solids frame) w rs)
walk-unscored map solids frame w [] = refl
walk-unscored map solids frame w (r ∷ rs) =
    let f = after_trigger map solids frame in
    sym (walk-unscored map solids frame (f (unscored w) r) rs)
    ∙ ap (λ (v : Walk). unscored (fold f v rs)) (trigger-unscored map solids frame w r)
    ∙ walk-unscored map solids frame (f w r) rs

-- but for its score, a player is after touching as it would be with no score before
pub touched-without_score : (map : MapView) (frame : ℕ) (me : Rec) (near : List Rec)
    → without_score (touched map frame (without_score me) near).me ≡ without_score (touched map frame me near).me
unfolding touched
touched-without_score map frame me near = ap (λ (w : Walk). w.me) (walk-unscored map (solids_among map near) frame (first_walk me) (touched_by me near))
