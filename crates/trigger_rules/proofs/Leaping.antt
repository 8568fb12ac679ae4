-- That a leap is from a teleporter that the player touches, the first that isn't blocked.
use Rattle.std.specs.Prelude.{map as map_list}
use Rattle.std.specs.List.Sorted.{IsStrictlyIncreasing}
use Rattle.std.proofs.Common.{◌≡◌, ◌⊎◌, ℕ, Bool, true, false, bit_or, List, [], ◌∷◌, ◌++◌, fold, Contains, refl, sym, ap, ◌∙◌, subst, inl, inr}
use Rattle.arena_geo.specs.declared.vec3.Vec3.{Vec3}
use Rattle.arena_geo.specs.Bounds.{Bounds}
use Rattle.entity_recs.specs.declared.rec.Rec.{Rec}
use Rattle.arena_map.specs.Maps.{MapView}
use Rattle.trigger_rules.specs.Touching.{touched_by, solids_among, Walk, walk_of, first_walk, leapt, after_trigger, touched}
use Rattle.trigger_rules.specs.Laws.{IsInPlace, IsLeftFor, IsAway, AreEnough, IsArmed, IsLaden, AreCarried, HadNoRoom, WereEnough, WasArmed, WasLaden, HasLeaptFrom, LeapsAreFromTeleporters}
use Rattle.trigger_rules.proofs.Walks.{ended-stays}
use Rattle.trigger_rules.proofs.Steps.{IsLeap, Step, step, item-change, true-false}
use Rattle.trigger_rules.proofs.Taken.{taken-before, Rises, rises-first, touched-rise}
use Rattle.trigger_rules.proofs.Doing.{kept-through, on-step, items-of, passed-of}
use Rattle.trigger_rules.proofs.Gaining.{carried-of}
use Rattle.trigger_rules.proofs.Leaving.{without-room-of}

place-step : (map : MapView) (solids : List Bounds) (frame : ℕ) (me : Rec) (w next : Walk) (r : Rec) → Step map solids frame w r next → next.ended ≡ false → IsInPlace me w.me → IsInPlace me next.me
place-step map solids frame me w next r (inl same) on is = subst (λ (v : Walk). IsInPlace me v.me) (sym same) is
place-step map solids frame me w next r (inr (inl t)) on is =
    let change = (item-change w.me r).place in
    subst (λ (v : Walk). IsInPlace me v.me) (sym t.is) (record { origin = change.origin ∙ is.origin; vel = change.vel ∙ is.vel; flags = change.flags ∙ is.flags })
place-step map solids frame me w next r (inr (inr (inl goal))) on is =
    subst (λ (v : Walk). IsInPlace me v.me) (sym goal.is) (record { origin = is.origin; vel = is.vel; flags = is.flags })
place-step map solids frame me w next r (inr (inr (inr l))) on is = absurd (true-false (ap (λ (v : Walk). v.ended) (sym l.is) ∙ on))

-- a player stays in place while its walk goes on
in-place : (map : MapView) (solids : List Bounds) (frame : ℕ) (me : Rec) (rs : List Rec) → (fold (after_trigger map solids frame) (first_walk me) rs).ended ≡ false
    → IsInPlace me (fold (after_trigger map solids frame) (first_walk me) rs).me
in-place map solids frame me rs on =
    let f = after_trigger map solids frame in
    let On : Walk → Type 0 = λ v. v.ended ≡ false in
    kept-through f On (λ v r good. on-step map solids frame v (f v r) r (step map solids frame v r) good)
    (λ v. IsInPlace me v.me) (λ v r good is. place-step map solids frame me v (f v r) r (step map solids frame v r) good is)
    (first_walk me) rs on (record { origin = refl; vel = refl; flags = refl })

-- a walk that ends: it goes on over the triggers before a teleporter, which moves the player
record EndsAt (map : MapView) (solids : List Bounds) (frame : ℕ) (w : Walk) (rs : List Rec) : Type 0 where
  before : List Rec
  teleporter : Rec
  after : List Rec
  are : rs ≡ before ++ teleporter ∷ after
  on : (fold (after_trigger map solids frame) w before).ended ≡ false
  leap : IsLeap map solids (fold (after_trigger map solids frame) w before) teleporter (fold (after_trigger map solids frame) w rs)

-- what ends a walk that was going on is a leap
leap-of : (map : MapView) (solids : List Bounds) (frame : ℕ) (w next : Walk) (r : Rec) → Step map solids frame w r next → w.ended ≡ false → next.ended ≡ true → IsLeap map solids w r next
leap-of map solids frame w next r (inl same) on end = absurd (true-false (sym end ∙ ap (λ (v : Walk). v.ended) same ∙ on))
leap-of map solids frame w next r (inr (inl t)) on end = absurd (true-false (sym end ∙ ap (λ (v : Walk). v.ended) t.is ∙ on))
leap-of map solids frame w next r (inr (inr (inl goal))) on end = absurd (true-false (sym end ∙ ap (λ (v : Walk). v.ended) goal.is ∙ on))
leap-of map solids frame w next r (inr (inr (inr l))) on end = l

-- the records after a leap change nothing
leap-stays : (map : MapView) (solids : List Bounds) (frame : ℕ) (w next : Walk) (r : Rec) (rs : List Rec) → IsLeap map solids w r next → IsLeap map solids w r (fold (after_trigger map solids frame) next rs)
leap-stays map solids frame w next r rs l = record {
  kind = l.kind;
  dest = l.dest;
  from = l.from;
  free = l.free;
  is = ap (λ (v : Walk). fold (after_trigger map solids frame) v rs) l.is ∙ ended-stays map solids frame (leapt w.me l.dest) w.states w.got rs;
}

-- one trigger more at the start
ends-later : (map : MapView) (solids : List Bounds) (frame : ℕ) (w : Walk) (r : Rec) (rs : List Rec) → EndsAt map solids frame (after_trigger map solids frame w r) rs → EndsAt map solids frame w (r ∷ rs)
ends-later map solids frame w r rs e =
    record { before = r ∷ e.before; teleporter = e.teleporter; after = e.after; are = ap (λ (l : List Rec). r ∷ l) e.are; on = e.on; leap = e.leap }

ends-at : (map : MapView) (solids : List Bounds) (frame : ℕ) (w : Walk) (rs : List Rec) → w.ended ≡ false → (fold (after_trigger map solids frame) w rs).ended ≡ true → EndsAt map solids frame w rs
ends-at map solids frame w [] on end = absurd (true-false (sym end ∙ on))
ends-at map solids frame w (r ∷ rs) on end = by (after_trigger map solids frame w r).ended refl (λ e. ends-at map solids frame (after_trigger map solids frame w r) rs e end)
  where
    by : (ended : Bool) → (after_trigger map solids frame w r).ended ≡ ended → ((after_trigger map solids frame w r).ended ≡ false → EndsAt map solids frame (after_trigger map solids frame w r) rs) → EndsAt map solids frame w (r ∷ rs)
    by true e more =
        let next = after_trigger map solids frame w r in
        let l = leap-of map solids frame w next r (step map solids frame w r) on e in
        record { before = []; teleporter = r; after = rs; are = refl; on = on; leap = leap-stays map solids frame w next r rs l }
    by false e more = ends-later map solids frame w r rs (more e)

-- the reasons for which items were left are the same after a leap
left-after_leap : (me item : Rec) (w : Walk) (dest : Vec3) → IsLeftFor me w item → IsLeftFor me (walk_of (leapt w.me dest) w.states w.got true) item
left-after_leap me item w dest (IsAway away) = IsAway away
left-after_leap me item w dest (AreEnough all) = AreEnough all
left-after_leap me item w dest (IsArmed kind full) = IsArmed kind full
left-after_leap me item w dest (IsLaden kind laden) = IsLaden kind laden

-- so were the reasons for which there was no room for them
without-room-after_leap : (me item : Rec) (before : List Rec) (w : Walk) (dest : Vec3) → HadNoRoom me before w item → HadNoRoom me before (walk_of (leapt w.me dest) w.states w.got true) item
without-room-after_leap me item before w dest (WereEnough all below) = WereEnough all below
without-room-after_leap me item before w dest (WasArmed kind armed) = WasArmed kind armed
without-room-after_leap me item before w dest (WasLaden kind laden) = WasLaden kind (record { after_a_goal = laden.after_a_goal; without_a_goal = laden.without_a_goal })

pub leaps_from_teleporters : LeapsAreFromTeleporters
unfolding touched
leaps_from_teleporters map frame me near end =
    let solids = solids_among map near in
    let e = ends-at map solids frame (first_walk me) (touched_by me near) refl end in
    let v = fold (after_trigger map solids frame) (first_walk me) e.before in
    let taken = λ (item : Rec) (left : Contains v.got item.id ⊎ IsLeftFor me v item). after_leap item v e.leap.dest left in
    subst (HasLeaptFrom map frame me near) (sym e.leap.is) (record {
      before = e.before;
      teleporter = e.teleporter;
      after = e.after;
      touched_are = e.are;
      kind = e.leap.kind;
      dest = e.leap.from;
      flags = ap (λ (n : ℕ). bit_or n 2) (in-place map solids frame me e.before e.on).flags;
      passed = passed-of map solids frame me e.before e.on;
      items = λ few below item delay listed item_is delayed. taken item (items-of map solids frame me e.before few e.on below item delay listed item_is delayed);
      room = λ rise few first item rest delay are item_is delayed there.
          no-room first item v e.leap.dest (without-room-of map solids frame me e.before (rise-before e.before (e.teleporter ∷ e.after) e.are rise) few e.on first item rest delay are item_is delayed there);
      gems = λ rise. left-over e.before v e.leap.dest (carried-of map solids frame me e.before (rise-before e.before (e.teleporter ∷ e.after) e.are rise) e.on);
      got = taken-before map solids frame me near e.before (e.teleporter ∷ e.after) e.are;
    })
  where
    rise-before : (before more : List Rec) → touched_by me near ≡ before ++ more → IsStrictlyIncreasing (map_list (λ r. r.id) near) → Rises 0 before
    rise-before before more are rise = rises-first 0 before more (subst (Rises 0) are (touched-rise me near rise))

    no-room : (before : List Rec) (item : Rec) (w : Walk) (dest : Vec3) → Contains w.got item.id ⊎ HadNoRoom me before w item
        → Contains w.got item.id ⊎ HadNoRoom me before (walk_of (leapt w.me dest) w.states w.got true) item
    no-room before item w dest (inl got) = inl got
    no-room before item w dest (inr left) = inr (without-room-after_leap me item before w dest left)

    left-over : (before : List Rec) (w : Walk) (dest : Vec3) → AreCarried w.me.carry me before w → AreCarried w.me.carry me before (walk_of (leapt w.me dest) w.states w.got true)
    left-over before w dest is = record { after_a_goal = is.after_a_goal; without_a_goal = is.without_a_goal }

    after_leap : (item : Rec) (w : Walk) (dest : Vec3) → Contains w.got item.id ⊎ IsLeftFor me w item
        → Contains w.got item.id ⊎ IsLeftFor me (walk_of (leapt w.me dest) w.states w.got true) item
    after_leap item w dest (inl got) = inl got
    after_leap item w dest (inr left) = inr (left-after_leap me item w dest left)
