-- That an item which is there is left only where there is no room for it.
use Rattle.std.proofs.Common.{◌≡◌, ◌⊎◌, ℕ, ◌+◌, ◌<◌, ◌≤◌, ◌==◌, nat_lt, Bool, true, false, ◌&&◌, cond, if◌then◌else◌, List, [], ◌∷◌, ◌++◌, length, fold, All, Contains, Option, Some, None, refl, sym, ap, ◌∙◌, subst, inl, inr, arith}
use Rattle.std.specs.List.{AllByRecursion}
use Rattle.std.proofs.lemmas.Bool.{eq-eqb}
use Rattle.std.proofs.lemmas.Bool.Decides.{nat_tests}
use Rattle.std.proofs.lemmas.List.{length_push}
use Rattle.std.proofs.lemmas.List.Elements.{All-weaker, Contains-append_left, Contains-push}
use Rattle.std.proofs.lemmas.List.Sums.{fold-append, sum_by-cons}
use Rattle.arena_geo.specs.Bounds.{Bounds}
use Rattle.entity_recs.specs.declared.kind.Kind.{Kind}
use Rattle.entity_recs.specs.declared.kind.Kind.TheVariants.{Player, Ammo, Gem, Teleporter, Goal, Lift}
use Rattle.entity_recs.specs.declared.rec.Rec.{Rec}
use Rattle.entity_recs.specs.Kinds.{number_of, is_item}
use Rattle.arena_map.specs.Maps.{MapView, delay_of}
use Rattle.item_rules.specs.Items.{has_room_for, may_take}
use Rattle.trigger_rules.specs.Touching.{touched_by, solids_among, Walk, first_walk, after_taking, after_touched_item, after_kind, after_trigger, touched}
use Rattle.trigger_rules.specs.Laws.{HasFewThings, is_got, count_got, AreCarried, HadNoRoom, WereEnough, WasArmed, WasLaden, AreLeftWithoutRoom, ItemsAreLeftWithoutRoom}
use Rattle.trigger_rules.proofs.Steps.{Step, step, true-false, walk-keeps}
use Rattle.trigger_rules.proofs.Taken.{few-through, Rises, rises-first, touched-rise, none-below}
use Rattle.trigger_rules.proofs.Doing.{good-before, on-step}
use Rattle.trigger_rules.proofs.Counting.{has, has-through}
use Rattle.trigger_rules.proofs.Gaining.{armed-of, carried-of, Follow, follow}

-- ---- what is got

-- what was got stays so
got-step : (map : MapView) (solids : List Bounds) (frame id : ℕ) (w next : Walk) (r : Rec) → Step map solids frame w r next → Contains w.got id → Contains next.got id
got-step map solids frame id w next r (inl same) is = subst (λ (v : Walk). Contains v.got id) (sym same) is
got-step map solids frame id w next r (inr (inl t)) is = subst (λ (v : Walk). Contains v.got id) (sym t.is) (Contains-append_left w.got (r.id ∷ []) id is)
got-step map solids frame id w next r (inr (inr (inl goal))) is = subst (λ (v : Walk). Contains v.got id) (sym goal.is) is
got-step map solids frame id w next r (inr (inr (inr l))) is = subst (λ (v : Walk). Contains v.got id) (sym l.is) is

-- at most 8 are got
most-step : (map : MapView) (solids : List Bounds) (frame : ℕ) (w next : Walk) (r : Rec) → Step map solids frame w r next → length w.got ≤ 8 → length next.got ≤ 8
most-step map solids frame w next r (inl same) is = subst (λ (v : Walk). length v.got ≤ 8) (sym same) is
most-step map solids frame w next r (inr (inl t)) is = subst (λ (v : Walk). length v.got ≤ 8) (sym t.is) (omega (arith, length_push w.got r.id, t.few))
most-step map solids frame w next r (inr (inr (inl goal))) is = subst (λ (v : Walk). length v.got ≤ 8) (sym goal.is) is
most-step map solids frame w next r (inr (inr (inr l))) is = subst (λ (v : Walk). length v.got ≤ 8) (sym l.is) is

-- 8 that were got are all
all-step : (map : MapView) (solids : List Bounds) (frame : ℕ) (got : List ℕ) (w next : Walk) (r : Rec) → Step map solids frame w r next → length got ≡ 8 → w.got ≡ got → next.got ≡ got
all-step map solids frame got w next r (inl same) all is = ap (λ (v : Walk). v.got) same ∙ is
all-step map solids frame got w next r (inr (inl t)) all is = absurd (omega (arith, all, ap length is, t.few))
all-step map solids frame got w next r (inr (inr (inl goal))) all is = ap (λ (v : Walk). v.got) goal.is ∙ is
all-step map solids frame got w next r (inr (inr (inr l))) all is = ap (λ (v : Walk). v.got) l.is ∙ is

-- ---- what was got before

-- the first ids are below one that follows
least : (n : ℕ) (before : List Rec) (item : Rec) (after : List Rec) → Rises n (before ++ item ∷ after) → n ≤ item.id
unfolding Rises
least n [] item after up = up.0
least n (r ∷ before) item after up = omega (arith, up.0, least (r.id + 1) before item after up.1)

ids-below : (n : ℕ) (before : List Rec) (item : Rec) (after : List Rec) → Rises n (before ++ item ∷ after) → AllByRecursion (λ r. r.id < item.id) before
unfolding Rises
ids-below n [] item after up = tt
ids-below n (r ∷ before) item after up = (omega (arith, least (r.id + 1) before item after up.1), ids-below (r.id + 1) before item after up.1)

-- the last of some records
last-ones : (P : Rec → Type 0) (before more : List Rec) → AllByRecursion P (before ++ more) → AllByRecursion P more
last-ones P [] more all = all
last-ones P (r ∷ before) more all = last-ones P before more all.1

-- where the same ids were got, as many are counted
same-count : (kind : Kind) (v w : Walk) (x : ℕ) (rs : List Rec) → ((id : ℕ) → id < x → has id w.got ≡ has id v.got) → AllByRecursion (λ r. r.id < x) rs → count_got kind rs v ≡ count_got kind rs w
same-count kind v w x [] same below = refl
same-count kind v w x (r ∷ rs) same below =
    sum_by-cons (λ s. cond (is_got kind v s) 1 0) r rs
    ∙ ap (λ (b : Bool). cond ((number_of r.kind == number_of kind) && b) 1 0 + count_got kind rs v) (sym (same r.id below.0))
    ∙ ap (λ (n : ℕ). cond (is_got kind w r) 1 0 + n) (same-count kind v w x rs same below.1)
    ∙ sym (sum_by-cons (λ s. cond (is_got kind w s) 1 0) r rs)

same-load : (gems : ℕ) (me : Rec) (triggers : List Rec) (v w : Walk) (x : ℕ) → ((id : ℕ) → id < x → has id w.got ≡ has id v.got) → AllByRecursion (λ r. r.id < x) triggers
    → AreCarried gems me triggers v → AreCarried gems me triggers w
same-load gems me triggers v w x same below is = record {
  after_a_goal = λ before goal after are kind none.
      let rest = last-ones (λ r. r.id < x) before (goal ∷ after) (subst (AllByRecursion (λ r. r.id < x)) are below) in
      is.after_a_goal before goal after are kind none ∙ same-count Gem v w x after same rest.1;
  without_a_goal = λ none. is.without_a_goal none ∙ ap (λ (n : ℕ). me.carry + n) (same-count Gem v w x triggers same below);
}

-- ---- an item that is there

at-item : (map : MapView) (solids : List Bounds) (frame : ℕ) (w : Walk) (item : Rec) (delay : ℕ) → w.ended ≡ false → is_item item.kind ≡ true → delay_of map item.id ≡ Some delay
    → after_trigger map solids frame w item ≡ after_touched_item (Some delay) frame w item
at-item map solids frame w item delay on item_is delayed =
    ap (λ (b : Bool). if b then w else after_kind item.kind map solids frame w item) on ∙ kinds item.kind item_is ∙ ap (λ (d : Option ℕ). after_touched_item d frame w item) delayed
  where
    kinds : (k : Kind) → is_item k ≡ true → after_kind k map solids frame w item ≡ after_touched_item (delay_of map item.id) frame w item
    kinds Player e = absurd (true-false (sym e))
    kinds Ammo e = refl
    kinds Gem e = refl
    kinds Teleporter e = absurd (true-false (sym e))
    kinds Goal e = absurd (true-false (sym e))
    kinds Lift e = absurd (true-false (sym e))

-- why a player doesn't take an item that is there
LacksRoom : Walk → Rec → Type 0
LacksRoom w item = (length w.got ≡ 8) ⊎ (((item.kind ≡ Ammo) × (100 ≤ w.me.ammo)) ⊎ ((item.kind ≡ Gem) × (w.me.carry ≡ 8)))

lacks-room : (w : Walk) (item : Rec) (k : Kind) → HasFewThings w.me → item.kind ≡ k → is_item k ≡ true → has_room_for w.me k ≡ false → LacksRoom w item
unfolding LacksRoom
lacks-room w item Player few kind item_is room = absurd (true-false (sym item_is))
lacks-room w item Ammo few kind item_is room = inr (inl (kind, armed room))
  where
    armed : nat_lt w.me.ammo 100 ≡ false → 100 ≤ w.me.ammo
    armed room = grind (arith, nat_tests)
lacks-room w item Gem few kind item_is room = inr (inr (kind, laden few.carry room))
  where
    laden : w.me.carry ≤ 8 → nat_lt w.me.carry 8 ≡ false → w.me.carry ≡ 8
    laden most room = grind (arith, nat_tests)
lacks-room w item Teleporter few kind item_is room = absurd (true-false (sym item_is))
lacks-room w item Goal few kind item_is room = absurd (true-false (sym item_is))
lacks-room w item Lift few kind item_is room = absurd (true-false (sym item_is))

taken-or-not : (frame : ℕ) (w : Walk) (item : Rec) (delay : ℕ) → HasFewThings w.me → length w.got ≤ 8 → is_item item.kind ≡ true → item.state ≡ 0
    → Contains (after_touched_item (Some delay) frame w item).got item.id ⊎ LacksRoom w item
unfolding LacksRoom
taken-or-not frame w item delay few most item_is there = by (nat_lt (length w.got) 8) refl
  where
    all : length w.got ≤ 8 → nat_lt (length w.got) 8 ≡ false → length w.got ≡ 8
    all most room = grind (arith, nat_tests)

    taking : (may : Bool) → may_take w.me item ≡ may → Contains (after_taking (if may then Some (frame + delay) else None) w item).got item.id ⊎ LacksRoom w item
    taking true may = inl (Contains-push w.got item.id)
    taking false may = inr (lacks-room w item item.kind few refl item_is (ap (λ (b : Bool). b && has_room_for w.me item.kind) (sym (eq-eqb item.state 0 there)) ∙ may))

    by : (few : Bool) → nat_lt (length w.got) 8 ≡ few
        → Contains (if few then after_taking (if may_take w.me item then Some (frame + delay) else None) w item else w).got item.id ⊎ LacksRoom w item
    by true few = taking (may_take w.me item) refl
    by false few = inr (inl (all most few))

-- ---- the whole walk

module _ (map : MapView) (solids : List Bounds) (frame : ℕ) (me : Rec) (before : List Rec) (item : Rec) (after : List Rec) (up : Rises 0 (before ++ item ∷ after)) (few : HasFewThings me) where
  -- the walk before the item, and all of it
  abbrev v : Walk
  v = fold (after_trigger map solids frame) (first_walk me) before

  abbrev w : Walk
  w = fold (after_trigger map solids frame) v (item ∷ after)

  below : AllByRecursion (λ r. r.id < item.id) before
  below = ids-below 0 before item after up

  ready : Follow v (item ∷ after)
  ready = follow map solids frame 0 (first_walk me) before (item ∷ after) up none-below

  same : (id : ℕ) → id < item.id → has id w.got ≡ has id v.got
  unfolding Rises
  same id less = has-through map solids frame id item.id v (item ∷ after) less (omega arith, ready.rise.1)

  no-room : v.ended ≡ false → LacksRoom v item → HadNoRoom me before w item
  unfolding LacksRoom Rises
  no-room on (inl all) =
      let f = after_trigger map solids frame in
      let got : w.got ≡ v.got = walk-keeps f (λ u. u.got ≡ v.got) v (item ∷ after) (λ u r. all-step map solids frame v.got u (f u r) r (step map solids frame u r) all) refl in
      let ids = All-weaker (λ g. g < ready.from) (λ g. g < item.id) (λ g h. omega (arith, h, ready.rise.0)) v.got ready.below.below in
      WereEnough (ap length got ∙ all) (subst (All (λ g. g < item.id)) (sym got) ids)
  no-room on (inr (inl armed)) =
      let is = armed-of map solids frame me before (rises-first 0 before (item ∷ after) up) few in
      let count = same-count Ammo v w item.id before same below in
      WasArmed armed.0 (omega (arith, is, count, armed.1))
  no-room on (inr (inr laden)) =
      let is = carried-of map solids frame me before (rises-first 0 before (item ∷ after) up) on in
      WasLaden laden.0 (same-load 8 me before v w item.id same below (subst (λ (n : ℕ). AreCarried n me before v) laden.1 is))

  got-or-no-room : (delay : ℕ) → v.ended ≡ false → is_item item.kind ≡ true → delay_of map item.id ≡ Some delay → item.state ≡ 0 → Contains w.got item.id ⊎ HadNoRoom me before w item
  got-or-no-room delay on item_is delayed there =
      let f = after_trigger map solids frame in
      let most : length v.got ≤ 8 = walk-keeps f (λ u. length u.got ≤ 8) (first_walk me) before (λ u r. most-step map solids frame u (f u r) r (step map solids frame u r)) (omega arith) in
      by (taken-or-not frame v item delay (few-through map solids frame me before few) most item_is there)
    where
      by : Contains (after_touched_item (Some delay) frame v item).got item.id ⊎ LacksRoom v item → Contains w.got item.id ⊎ HadNoRoom me before w item
      by (inl got) =
          let f = after_trigger map solids frame in
          let next = subst (λ (u : Walk). Contains u.got item.id) (sym (at-item map solids frame v item delay on item_is delayed)) got in
          inl (walk-keeps f (λ u. Contains u.got item.id) (f v item) after (λ u r. got-step map solids frame item.id u (f u r) r (step map solids frame u r)) next)
      by (inr left) = inr (no-room on left)

pub without-room-of : (map : MapView) (solids : List Bounds) (frame : ℕ) (me : Rec) (rs : List Rec) → Rises 0 rs → HasFewThings me
    → let w = fold (after_trigger map solids frame) (first_walk me) rs in w.ended ≡ false → AreLeftWithoutRoom map me rs w
without-room-of map solids frame me rs up few on before item after delay are item_is delayed there =
    let f = after_trigger map solids frame in
    let v = fold f (first_walk me) before in
    let whole : fold f (first_walk me) rs ≡ fold f v (item ∷ after) = ap (fold f (first_walk me)) are ∙ fold-append f (first_walk me) before (item ∷ after) in
    let On : Walk → Type 0 = λ u. u.ended ≡ false in
    let still : v.ended ≡ false = good-before f On (λ u r good. on-step map solids frame u (f u r) r (step map solids frame u r) good) v (item ∷ after) (subst On whole on) in
    subst (λ (u : Walk). Contains u.got item.id ⊎ HadNoRoom me before u item) (sym whole)
    (got-or-no-room map solids frame me before item after (subst (Rises 0) are up) few delay still item_is delayed there)

pub left_without_room : ItemsAreLeftWithoutRoom
unfolding touched
left_without_room map frame me near rise few on = without-room-of map (solids_among map near) frame me (touched_by me near) (touched-rise me near rise) few on
