-- That each trigger that a player touches does its part.
use Rattle.std.proofs.Common.{◌≡◌, ◌≢◌, ◌⊎◌, ℕ, ◌+◌, ◌<◌, ◌≤◌, ◌==◌, nat_lt, Bool, true, false, ◌&&◌, if◌then◌else◌, List, [], ◌∷◌, length, fold, Contains, Option, Some, None, refl, sym, ap, ◌∙◌, subst, inl, inr, arith}
use Rattle.std.specs.List.{AllByRecursion}
use Rattle.std.proofs.lemmas.Bool.Decides.{nat_tests}
use Rattle.std.proofs.lemmas.List.{length_push}
use Rattle.std.proofs.lemmas.List.Elements.{All-contains, All-from_recursion, Contains-append_left, Contains-push}
use Rattle.arena_geo.specs.declared.vec3.Vec3.{Vec3}
use Rattle.arena_geo.specs.Bounds.{Bounds}
use Rattle.arena_geo.specs.Boxes.{is_blocked}
use Rattle.entity_recs.specs.declared.kind.Kind.{Kind}
use Rattle.entity_recs.specs.declared.kind.Kind.TheVariants.{Player, Ammo, Gem, Teleporter, Goal, Lift}
use Rattle.entity_recs.specs.declared.rec.Rec.{Rec}
use Rattle.entity_recs.specs.Bodies.{player_body}
use Rattle.entity_recs.specs.Kinds.{is_item}
use Rattle.arena_map.specs.Maps.{MapView, dest_of, delay_of}
use Rattle.item_rules.specs.Items.{has_room_for, may_take, with_item, after_item}
use Rattle.trigger_rules.specs.Touching.{touched_by, solids_among, Walk, walk_of, first_walk, after_taking, after_touched_item, after_teleporter, after_kind, leapt, after_trigger, touched}
use Rattle.trigger_rules.specs.Laws.{HasFewThings, IsLeftFor, IsAway, AreEnough, IsArmed, IsLaden, AreTakenOrLeft, TouchedItemsAreTaken, PassedTeleportersAreBlocked}
use Rattle.trigger_rules.proofs.Steps.{Step, step, item-change, few-with, true-false}

-- ---- a walk with a good end

module _ (f : Walk → Rec → Walk) (Good : Walk → Type 0) (back : (v : Walk) (r : Rec) → Good (f v r) → Good v) where
  -- what is good at the end was good before
  pub good-before : (w : Walk) (rs : List Rec) → Good (fold f w rs) → Good w
  good-before w [] good = good
  good-before w (r ∷ rs) good = back w r (good-before (f w r) rs good)

  module _ (P : Walk → Type 0) (keeps : (v : Walk) (r : Rec) → Good (f v r) → P v → P (f v r)) where
    -- what each record keeps up to a good end
    pub kept-through : (w : Walk) (rs : List Rec) → Good (fold f w rs) → P w → P (fold f w rs)
    kept-through w [] good is = is
    kept-through w (r ∷ rs) good is = kept-through (f w r) rs good (keeps w r (good-before (f w r) rs good) is)

-- what is done by each record, and by none undone
module _ (f : Walk → Rec → Walk) (Good : Walk → Type 0) (back : (v : Walk) (r : Rec) → Good (f v r) → Good v) (P : Walk → Type 0) (keeps : (v : Walk) (r : Rec) → Good (f v r) → P v → P (f v r))
    (Done : Walk → Rec → Type 0) (here : (v : Walk) (r : Rec) → Good (f v r) → P v → Done (f v r) r) (still : (item : Rec) (v : Walk) (r : Rec) → Good (f v r) → Done v item → Done (f v r) item) where
  pub each-done : (w : Walk) (rs : List Rec) → Good (fold f w rs) → P w → AllByRecursion (Done (fold f w rs)) rs
  each-done w [] good is = tt
  each-done w (r ∷ rs) good is =
      let next = good-before f Good back (f w r) rs good in
      (kept-through f Good back (λ v. Done v r) (still r) (f w r) rs good (here w r next is), each-done (f w r) rs good (keeps w r next is))

-- ---- a walk that doesn't end, with a score below its end

pub record IsSound (w : Walk) : Type 0 where
  pub on : w.ended ≡ false
  pub below : w.me.score < 4294967295

sound-step : (map : MapView) (solids : List Bounds) (frame : ℕ) (w next : Walk) (r : Rec) → Step map solids frame w r next → IsSound next → IsSound w
sound-step map solids frame w next r (inl same) good = subst IsSound same good
sound-step map solids frame w next r (inr (inl t)) good =
    let after = subst IsSound t.is good in
    record { on = after.on; below = omega (arith, (item-change w.me r).score, after.below) }
sound-step map solids frame w next r (inr (inr (inl goal))) good =
    let after = subst IsSound goal.is good in
    record { on = after.on; below = omega (arith, after.below) }
sound-step map solids frame w next r (inr (inr (inr l))) good = absurd (true-false (subst IsSound l.is good).on)

-- ---- what no record undoes

-- an item takes nothing away
record IsGain (before after : Rec) : Type 0 where
  ammo : before.ammo ≡ 100 → after.ammo ≡ 100
  carry : before.carry ≤ after.carry

gain : (me item : Rec) → IsGain me (after_item me item)
gain me item = by (may_take me item) item.kind
  where
    same : IsGain me me
    same = record { ammo = λ full. full; carry = omega arith }

    by : (may : Bool) (k : Kind) → IsGain me (if may then with_item me k else me)
    by false k = same
    by true Player = same
    by true Ammo = record { ammo = λ full. omega (arith, full); carry = omega arith }
    by true Gem = record { ammo = λ full. full; carry = omega arith }
    by true Teleporter = same
    by true Goal = same
    by true Lift = same

-- what was got stays so, 8 that were got are all, and neither ammunition at its end nor a gem is lost
record IsLater (v w : Walk) : Type 0 where
  got : (id : ℕ) → Contains v.got id → Contains w.got id
  all : length v.got ≡ 8 → length w.got ≡ 8
  ammo : v.me.ammo ≡ 100 → w.me.ammo ≡ 100
  gems : v.me.score + v.me.carry ≤ w.me.score + w.me.carry

later-step : (map : MapView) (solids : List Bounds) (frame : ℕ) (w next : Walk) (r : Rec) → Step map solids frame w r next → IsSound next → IsLater w next
later-step map solids frame w next r (inl same) good =
    subst (IsLater w) (sym same) (record { got = λ id is. is; all = λ is. is; ammo = λ is. is; gems = omega arith })
later-step map solids frame w next r (inr (inl t)) good = subst (IsLater w) (sym t.is) (record {
  got = λ id is. Contains-append_left w.got (r.id ∷ []) id is;
  all = λ is. absurd (omega (arith, is, t.few));
  ammo = (gain w.me r).ammo;
  gems = omega (arith, (gain w.me r).carry, (item-change w.me r).score);
})
later-step map solids frame w next r (inr (inr (inl goal))) good =
    let below = (subst IsSound goal.is good).below in
    subst (IsLater w) (sym goal.is) (record { got = λ id is. is; all = λ is. is; ammo = λ is. is; gems = omega (arith, below) })
later-step map solids frame w next r (inr (inr (inr l))) good = absurd (true-false (subst IsSound l.is good).on)

-- ---- items

-- the item was got, or left for a reason
IsDone : Rec → Walk → Rec → Type 0
IsDone me w item = Contains w.got item.id ⊎ IsLeftFor me w item

left-later : (me item : Rec) (v w : Walk) → IsLater v w → IsLeftFor me v item → IsLeftFor me w item
left-later me item v w later (IsAway away) = IsAway away
left-later me item v w later (AreEnough all) = AreEnough (later.all all)
left-later me item v w later (IsArmed kind full) = IsArmed kind (later.ammo full)
left-later me item v w later (IsLaden kind laden) = IsLaden kind (omega (arith, laden, later.gems))

done-later : (me item : Rec) (v w : Walk) → IsLater v w → IsDone me v item → IsDone me w item
unfolding IsDone
done-later me item v w later (inl got) = inl (later.got item.id got)
done-later me item v w later (inr left) = inr (left-later me item v w later left)

-- the walk of a player that began with this score
record IsUnderWay (me : Rec) (w : Walk) : Type 0 where
  few : HasFewThings w.me
  score : me.score ≤ w.me.score
  got : length w.got ≤ 8

under_way-step : (map : MapView) (solids : List Bounds) (frame : ℕ) (me : Rec) (w next : Walk) (r : Rec) → Step map solids frame w r next → IsSound next → IsUnderWay me w → IsUnderWay me next
under_way-step map solids frame me w next r (inl same) good is = subst (IsUnderWay me) (sym same) is
under_way-step map solids frame me w next r (inr (inl t)) good is = subst (IsUnderWay me) (sym t.is) (record {
  few = few-with w.me r t.may is.few;
  score = omega (arith, is.score, (item-change w.me r).score);
  got = omega (arith, length_push w.got r.id, t.few);
})
under_way-step map solids frame me w next r (inr (inr (inl goal))) good is =
    let below = (subst IsSound goal.is good).below in
    subst (IsUnderWay me) (sym goal.is) (record { few = record { ammo = is.few.ammo; carry = omega arith }; score = omega (arith, is.score, below); got = is.got })
under_way-step map solids frame me w next r (inr (inr (inr l))) good is = absurd (true-false (subst IsSound l.is good).on)

-- an item for which there is no room
no-room : (me : Rec) (w : Walk) (item : Rec) → IsUnderWay me w → (k : Kind) → item.kind ≡ k → is_item k ≡ true → has_room_for w.me k ≡ false → IsLeftFor me w item
no-room me w item is Player kind item_is room = absurd (true-false (sym item_is))
no-room me w item is Ammo kind item_is room = IsArmed kind (armed is.few.ammo room)
  where
    armed : w.me.ammo ≤ 100 → nat_lt w.me.ammo 100 ≡ false → w.me.ammo ≡ 100
    armed few room = grind (arith, nat_tests)
no-room me w item is Gem kind item_is room = IsLaden kind (laden is.score room)
  where
    laden : me.score ≤ w.me.score → nat_lt w.me.carry 8 ≡ false → me.score + 8 ≤ w.me.score + w.me.carry
    laden least room = grind (arith, nat_tests)
no-room me w item is Teleporter kind item_is room = absurd (true-false (sym item_is))
no-room me w item is Goal kind item_is room = absurd (true-false (sym item_is))
no-room me w item is Lift kind item_is room = absurd (true-false (sym item_is))

-- an item that a player touches and doesn't take, where fewer than 8 were got
not-taken : (me : Rec) (w : Walk) (item : Rec) → IsUnderWay me w → is_item item.kind ≡ true → may_take w.me item ≡ false → IsLeftFor me w item
not-taken me w item is item_is may = by (item.state == 0) refl may
  where
    by : (there : Bool) → (item.state == 0) ≡ there → (there && has_room_for w.me item.kind) ≡ false → IsLeftFor me w item
    by true there room = no-room me w item is item.kind refl item_is room
    by false there room = IsAway (away there)
      where
        away : (item.state == 0) ≡ false → item.state ≢ 0
        away there = grind (arith, nat_tests)

item-done : (frame : ℕ) (me : Rec) (w : Walk) (item : Rec) (delay : ℕ) → IsUnderWay me w → is_item item.kind ≡ true → IsDone me (after_touched_item (Some delay) frame w item) item
unfolding IsDone
item-done frame me w item delay is item_is = by (nat_lt (length w.got) 8) refl
  where
    all : length w.got ≤ 8 → nat_lt (length w.got) 8 ≡ false → length w.got ≡ 8
    all most room = grind (arith, nat_tests)

    taking : (may : Bool) → may_take w.me item ≡ may → IsDone me (after_taking (if may then Some (frame + delay) else None) w item) item
    taking true may = inl (Contains-push w.got item.id)
    taking false may = inr (not-taken me w item is item_is may)

    by : (few : Bool) → nat_lt (length w.got) 8 ≡ few
        → IsDone me (if few then after_taking (if may_take w.me item then Some (frame + delay) else None) w item else w) item
    by true few = taking (may_take w.me item) refl
    by false few = inr (AreEnough (all is.got few))

-- the item that a player touches is done, if it has a delay
IsDoneWhereDelayed : MapView → Rec → Walk → Rec → Type 0
IsDoneWhereDelayed map me w item = is_item item.kind ≡ true → (delay : ℕ) → delay_of map item.id ≡ Some delay → IsDone me w item

trigger-done : (map : MapView) (solids : List Bounds) (frame : ℕ) (me : Rec) (w : Walk) (r : Rec) → w.ended ≡ false → IsUnderWay me w → is_item r.kind ≡ true → (delay : ℕ) → delay_of map r.id ≡ Some delay
    → IsDone me (after_trigger map solids frame w r) r
trigger-done map solids frame me w r on is item_is delay delayed =
    subst (λ (b : Bool). IsDone me (if b then w else after_kind r.kind map solids frame w r) r) (sym on) (kinds r.kind item_is)
  where
    touched_item : IsDone me (after_touched_item (delay_of map r.id) frame w r) r
    touched_item = subst (λ (d : Option ℕ). IsDone me (after_touched_item d frame w r) r) (sym delayed) (item-done frame me w r delay is item_is)

    kinds : (k : Kind) → is_item k ≡ true → IsDone me (after_kind k map solids frame w r) r
    kinds Player e = absurd (true-false (sym e))
    kinds Ammo e = touched_item
    kinds Gem e = touched_item
    kinds Teleporter e = absurd (true-false (sym e))
    kinds Goal e = absurd (true-false (sym e))
    kinds Lift e = absurd (true-false (sym e))

-- the walk over these triggers goes on, with a score below its end: each item among them was got or left
pub items-of : (map : MapView) (solids : List Bounds) (frame : ℕ) (me : Rec) (rs : List Rec) → HasFewThings me
    → let w = fold (after_trigger map solids frame) (first_walk me) rs in w.ended ≡ false → w.me.score < 4294967295 → AreTakenOrLeft map me rs w
unfolding IsDone IsDoneWhereDelayed
items-of map solids frame me rs few on below item delay listed item_is delayed =
    let f = after_trigger map solids frame in
    let at = λ (v : Walk) (r : Rec). step map solids frame v r in
    let back = λ (v : Walk) (r : Rec) (good : IsSound (f v r)). sound-step map solids frame v (f v r) r (at v r) good in
    let Done = IsDoneWhereDelayed map me (fold f (first_walk me) rs) in
    let all =
    each-done f IsSound back (IsUnderWay me) (λ v r good is. under_way-step map solids frame me v (f v r) r (at v r) good is)
    (IsDoneWhereDelayed map me) (λ v r good is item_is delay delayed. trigger-done map solids frame me v r (back v r good).on is item_is delay delayed)
    (λ other v r good done item_is delay delayed. done-later me other v (f v r) (later-step map solids frame v (f v r) r (at v r) good) (done item_is delay delayed))
    (first_walk me) rs (record { on = on; below = below }) (record { few = few; score = omega arith; got = omega arith }) in
    All-contains Done rs item (All-from_recursion Done rs all) listed item_is delay delayed

pub items_taken : TouchedItemsAreTaken
unfolding touched
items_taken map frame me near few on below = items-of map (solids_among map near) frame me (touched_by me near) few on below

-- ---- teleporters

-- a walk that goes on was going on before
pub on-step : (map : MapView) (solids : List Bounds) (frame : ℕ) (w next : Walk) (r : Rec) → Step map solids frame w r next → next.ended ≡ false → w.ended ≡ false
on-step map solids frame w next r (inl same) on = ap (λ (v : Walk). v.ended) (sym same) ∙ on
on-step map solids frame w next r (inr (inl t)) on = ap (λ (v : Walk). v.ended) (sym t.is) ∙ on
on-step map solids frame w next r (inr (inr (inl goal))) on = ap (λ (v : Walk). v.ended) (sym goal.is) ∙ on
on-step map solids frame w next r (inr (inr (inr l))) on = absurd (true-false (ap (λ (v : Walk). v.ended) (sym l.is) ∙ on))

-- a destination of the record has a solid in the way
IsPassed : MapView → List Bounds → Rec → Type 0
IsPassed map solids r = r.kind ≡ Teleporter → (dest : Vec3) → dest_of map r.id ≡ Some dest → is_blocked (player_body dest) solids ≡ true

passed-by : (map : MapView) (solids : List Bounds) (frame : ℕ) (w : Walk) (r : Rec) → w.ended ≡ false → (after_trigger map solids frame w r).ended ≡ false → IsPassed map solids r
unfolding IsPassed
passed-by map solids frame w r before after kind dest is = by (is_blocked (player_body dest) solids) refl
  where
    trigger_is : after_trigger map solids frame w r ≡ after_teleporter (Some dest) solids w
    trigger_is =
        ap (λ (b : Bool). if b then w else after_kind r.kind map solids frame w r) before
        ∙ ap (λ (k : Kind). after_kind k map solids frame w r) kind
        ∙ ap (λ (d : Option Vec3). after_teleporter d solids w) is

    by : (blocked : Bool) → is_blocked (player_body dest) solids ≡ blocked → is_blocked (player_body dest) solids ≡ true
    by true e = e
    by false e =
        absurd (true-false
        (sym (ap (λ (b : Bool). (if b then w else walk_of (leapt w.me dest) w.states w.got true).ended) e) ∙ sym (ap (λ (v : Walk). v.ended) trigger_is) ∙ after))

-- the walk over these triggers goes on: each teleporter among them is blocked
pub passed-of : (map : MapView) (solids : List Bounds) (frame : ℕ) (me : Rec) (rs : List Rec) → (fold (after_trigger map solids frame) (first_walk me) rs).ended ≡ false
    → (teleporter : Rec) (dest : Vec3) → Contains rs teleporter → teleporter.kind ≡ Teleporter → dest_of map teleporter.id ≡ Some dest → is_blocked (player_body dest) solids ≡ true
unfolding IsPassed
passed-of map solids frame me rs on teleporter dest listed kind is =
    let f = after_trigger map solids frame in
    let On : Walk → Type 0 = λ v. v.ended ≡ false in
    let back = λ (v : Walk) (r : Rec) (good : On (f v r)). on-step map solids frame v (f v r) r (step map solids frame v r) good in
    let all =
    each-done f On back (λ v. Unit {0}) (λ v r good is. tt) (λ v r. IsPassed map solids r) (λ v r good is. passed-by map solids frame v r (back v r good) good) (λ other v r good done. done)
    (first_walk me) rs on tt in
    All-contains (IsPassed map solids) rs teleporter (All-from_recursion (IsPassed map solids) rs all) listed kind dest is

pub teleporters_blocked : PassedTeleportersAreBlocked
unfolding touched
teleporters_blocked map frame me near on = passed-of map (solids_among map near) frame me (touched_by me near) on
