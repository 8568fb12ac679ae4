-- What one record changes in the walk: nothing, an item that is taken, a goal, or a leap.
use Rattle.std.proofs.Common.{◌≡◌, ◌⊎◌, ℕ, ◌+◌, ◌<◌, ◌==◌, Bool, true, false, nat_lt, if◌then◌else◌, List, [], ◌∷◌, ◌++◌, length, fold, Option, Some, None, refl, sym, ap, subst, inl, inr, arith}
use Rattle.std.specs.List.{AllByRecursion}
use Rattle.std.proofs.lemmas.Bool.{eqb-true, and_parts}
use Rattle.std.proofs.lemmas.Bool.Decides.{nat_tests}
use Rattle.arena_geo.specs.declared.vec3.Vec3.{Vec3}
use Rattle.arena_geo.specs.Bounds.{Bounds}
use Rattle.arena_geo.specs.Boxes.{is_blocked}
use Rattle.entity_recs.specs.declared.kind.Kind.{Kind}
use Rattle.entity_recs.specs.declared.kind.Kind.TheVariants.{Player, Ammo, Gem, Teleporter, Goal, Lift}
use Rattle.entity_recs.specs.declared.rec.Rec.{Rec}
use Rattle.entity_recs.specs.Bodies.{player_body}
use Rattle.entity_recs.specs.Kinds.{is_item}
use Rattle.arena_map.specs.Maps.{MapView, dest_of, delay_of}
use Rattle.item_rules.specs.Items.{has_room_for, may_take, with_item, after_item}
use Rattle.trigger_rules.specs.Touching.{Walk, walk_of, new_state, after_taking, after_touched_item, player_after_goal, leapt, after_teleporter, after_kind, after_trigger}
use Rattle.trigger_rules.specs.Laws.{HasFewThings, IsInPlace, IsSamePlayer}

-- the item is taken
pub record IsTake (map : MapView) (frame : ℕ) (w : Walk) (item : Rec) (next : Walk) : Type 0 where
  pub kind : is_item item.kind ≡ true
  pub delay : ℕ
  pub delay_is : delay_of map item.id ≡ Some delay
  pub few : length w.got < 8
  pub may : may_take w.me item ≡ true
  pub is : next ≡ walk_of (after_item w.me item) (w.states ++ new_state item.id (frame + delay) ∷ []) (w.got ++ item.id ∷ []) w.ended

-- a goal adds what the player carries to its score
pub record IsGoal (w : Walk) (r : Rec) (next : Walk) : Type 0 where
  pub kind : r.kind ≡ Goal
  pub is : next ≡ walk_of (player_after_goal w.me) w.states w.got w.ended

-- the player leaps
pub record IsLeap (map : MapView) (solids : List Bounds) (w : Walk) (r : Rec) (next : Walk) : Type 0 where
  pub kind : r.kind ≡ Teleporter
  pub dest : Vec3
  pub from : dest_of map r.id ≡ Some dest
  pub free : is_blocked (player_body dest) solids ≡ false
  pub is : next ≡ walk_of (leapt w.me dest) w.states w.got true

-- what a record changes
abbrev pub Step : MapView → List Bounds → ℕ → Walk → Rec → Walk → Type 0
Step map solids frame w r next = (next ≡ w) ⊎ (IsTake map frame w r next ⊎ (IsGoal w r next ⊎ IsLeap map solids w r next))

item-step : (map : MapView) (solids : List Bounds) (frame : ℕ) (w : Walk) (r : Rec) (delay : Option ℕ) → is_item r.kind ≡ true → delay_of map r.id ≡ delay → Step map solids frame w r (after_touched_item delay frame w r)
item-step map solids frame w r None kind is = inl refl
item-step map solids frame w r (Some delay) kind is = by (nat_lt (length w.got) 8) refl
  where
    below : nat_lt (length w.got) 8 ≡ true → length w.got < 8
    below e = grind (arith, nat_tests)

    taking : nat_lt (length w.got) 8 ≡ true → (may : Bool) → may_take w.me r ≡ may → Step map solids frame w r (after_taking (if may then Some (frame + delay) else None) w r)
    taking few true may = inr (inl (record { kind = kind; delay = delay; delay_is = is; few = below few; may = may; is = refl }))
    taking few false may = inl refl

    by : (few : Bool) → nat_lt (length w.got) 8 ≡ few → Step map solids frame w r (if few then after_taking (if may_take w.me r then Some (frame + delay) else None) w r else w)
    by true few = taking few (may_take w.me r) refl
    by false few = inl refl

teleporter-step : (map : MapView) (solids : List Bounds) (frame : ℕ) (w : Walk) (r : Rec) (dest : Option Vec3) → r.kind ≡ Teleporter → dest_of map r.id ≡ dest → Step map solids frame w r (after_teleporter dest solids w)
teleporter-step map solids frame w r None kind is = inl refl
teleporter-step map solids frame w r (Some dest) kind is = by (is_blocked (player_body dest) solids) refl
  where
    by : (blocked : Bool) → is_blocked (player_body dest) solids ≡ blocked → Step map solids frame w r (if blocked then w else walk_of (leapt w.me dest) w.states w.got true)
    by true e = inl refl
    by false e = inr (inr (inr (record { kind = kind; dest = dest; from = is; free = e; is = refl })))

pub step : (map : MapView) (solids : List Bounds) (frame : ℕ) (w : Walk) (r : Rec) → Step map solids frame w r (after_trigger map solids frame w r)
step map solids frame w r = by w.ended
  where
    kinds : (k : Kind) → r.kind ≡ k → Step map solids frame w r (after_kind k map solids frame w r)
    kinds Player e = inl refl
    kinds Ammo e = item-step map solids frame w r (delay_of map r.id) (ap is_item e) refl
    kinds Gem e = item-step map solids frame w r (delay_of map r.id) (ap is_item e) refl
    kinds Teleporter e = teleporter-step map solids frame w r (dest_of map r.id) e refl
    kinds Goal e = inr (inr (inl (record { kind = e; is = refl })))
    kinds Lift e = inl refl

    by : (ended : Bool) → Step map solids frame w r (if ended then w else after_kind r.kind map solids frame w r)
    by true = inl refl
    by false = kinds r.kind refl

-- ---- an item that is taken

-- an item changes neither where its player is nor who it is, nor its score
pub record IsItemsChange (before after : Rec) : Type 0 where
  pub place : IsInPlace before after
  pub same : IsSamePlayer before after
  pub score : after.score ≡ before.score

pub item-change : (me item : Rec) → IsItemsChange me (after_item me item)
item-change me item = by (may_take me item) item.kind
  where
    change : (after : Rec) → after.origin ≡ me.origin → after.vel ≡ me.vel → after.flags ≡ me.flags → after.id ≡ me.id → after.kind ≡ me.kind → after.mins ≡ me.mins → after.maxs ≡ me.maxs
        → after.seq ≡ me.seq → after.state ≡ me.state → after.score ≡ me.score → IsItemsChange me after
    change after origin vel flags id kind mins maxs seq state score = record {
      place = record { origin = origin; vel = vel; flags = flags };
      same = record { id = id; kind = kind; mins = mins; maxs = maxs; seq = seq; state = state };
      score = score;
    }

    by : (may : Bool) (k : Kind) → IsItemsChange me (if may then with_item me k else me)
    by false k = change me refl refl refl refl refl refl refl refl refl refl
    by true Player = change me refl refl refl refl refl refl refl refl refl refl
    by true Ammo = change (with_item me Ammo) refl refl refl refl refl refl refl refl refl refl
    by true Gem = change (with_item me Gem) refl refl refl refl refl refl refl refl refl refl
    by true Teleporter = change me refl refl refl refl refl refl refl refl refl refl
    by true Goal = change me refl refl refl refl refl refl refl refl refl refl
    by true Lift = change me refl refl refl refl refl refl refl refl refl refl

pub true-false : true ≡ false → ⊥
true-false h = cc

-- the item was there
pub was-there : (me item : Rec) → may_take me item ≡ true → item.state ≡ 0
was-there me item may = eqb-true item.state 0 (and_parts (item.state == 0) (has_room_for me item.kind) may).0

-- a player that has room has few things still
pub few-with : (me item : Rec) → may_take me item ≡ true → HasFewThings me → HasFewThings (after_item me item)
few-with me item may few = subst (λ (b : Bool). HasFewThings (if b then with_item me item.kind else me)) (sym may) (by item.kind (and_parts (item.state == 0) (has_room_for me item.kind) may).1)
  where
    by : (k : Kind) → has_room_for me k ≡ true → HasFewThings (with_item me k)
    by Player room = cc
    by Ammo room = record { ammo = omega arith; carry = few.carry }
    by Gem room = record { ammo = few.ammo; carry = grind (arith, nat_tests) }
    by Teleporter room = cc
    by Goal room = cc
    by Lift room = cc

-- ---- the whole walk

module _ (f : Walk → Rec → Walk) (P : Walk → Type 0) where
  -- what each record keeps the walk keeps
  pub walk-keeps : (w : Walk) (rs : List Rec) → ((v : Walk) (r : Rec) → P v → P (f v r)) → P w → P (fold f w rs)
  walk-keeps w [] keeps is = is
  walk-keeps w (r ∷ rs) keeps is = walk-keeps (f w r) rs keeps (keeps w r is)

  -- and what each of these records keeps
  pub walk-keeps-in : (Q : Rec → Type 0) (w : Walk) (rs : List Rec) → ((v : Walk) (r : Rec) → Q r → P v → P (f v r)) → AllByRecursion Q rs → P w → P (fold f w rs)
  walk-keeps-in Q w [] keeps all is = is
  walk-keeps-in Q w (r ∷ rs) keeps all is = walk-keeps-in Q (f w r) rs keeps all.1 (keeps w r all.0 is)
