-- The laws of the walk over what a player touches.
use Rattle.std.proofs.Common.{◌≡◌, ℕ, suc, ◌+◌, ◌<◌, ◌≤◌, Bool, true, false, cond, if◌then◌else◌, List, [], ◌∷◌, ◌++◌, length, filter, fold, All, Contains, slice_index, Option, Some, None, refl, sym, ap, ◌∙◌, subst, inl, inr, arith}
use Rattle.std.specs.Prelude.{map as map_list}
use Rattle.std.specs.List.{AllByRecursion}
use Rattle.std.specs.List.Sorted.{IsStrictlyIncreasing}
use Rattle.std.proofs.lemmas.List.{length_push, map-append}
use Rattle.std.proofs.lemmas.List.Elements.{All-contains_itself, All-filter, All-nil, All-push, All-weaker, filter_passes, recursion_from_All}
use Rattle.arena_geo.specs.declared.vec3.Vec3.{Vec3}
use Rattle.arena_geo.specs.Bounds.{Bounds}
use Rattle.arena_geo.specs.Boxes.{is_blocked}
use Rattle.entity_recs.specs.declared.bodies.TheConstants.{PLAYER_MINS, PLAYER_MAXS}
use Rattle.entity_recs.specs.declared.effect.NewState.{NewState}
use Rattle.entity_recs.specs.declared.kind.Kind.{Kind}
use Rattle.entity_recs.specs.declared.kind.Kind.TheVariants.{Player, Ammo, Gem, Teleporter, Goal, Lift}
use Rattle.entity_recs.specs.declared.rec.Rec.{Rec}
use Rattle.entity_recs.specs.Records.{HasCorners}
use Rattle.entity_recs.specs.Bodies.{abs_of, player_body, box_at_origin, is_touched}
use Rattle.entity_recs.proofs.Ids.{rising_with}
use Rattle.arena_map.specs.Maps.{MapView, dest_of}
use Rattle.item_rules.specs.Items.{after_item}
use Rattle.trigger_rules.specs.Touching.{touched_by, solids_among, Walk, walk_of, first_walk, new_state, player_after_goal, leapt, after_teleporter, after_kind, after_trigger, touched}
use Rattle.trigger_rules.specs.Laws.{HasFewThings, ThingsStayFew, IsTaken, AreTaken, ItemsWereThere, GotIdsRise, ScoresNeverFall, HasLeapt, LeapsAreFree, IsInPlace, OnlyLeapsMove, IsSamePlayer, PlayersStayThemselves, OnlyTouchedMatters}
use Rattle.trigger_rules.proofs.Steps.{Step, step, item-change, true-false, was-there, few-with, walk-keeps, walk-keeps-in}

-- ---- things stay few

few-step : (map : MapView) (solids : List Bounds) (frame : ℕ) (w next : Walk) (r : Rec) → Step map solids frame w r next → HasFewThings w.me → HasFewThings next.me
few-step map solids frame w next r (inl same) few = subst (λ (v : Walk). HasFewThings v.me) (sym same) few
few-step map solids frame w next r (inr (inl t)) few = subst (λ (v : Walk). HasFewThings v.me) (sym t.is) (few-with w.me r t.may few)
few-step map solids frame w next r (inr (inr (inl goal))) few = subst (λ (v : Walk). HasFewThings v.me) (sym goal.is) (record { ammo = few.ammo; carry = omega arith })
few-step map solids frame w next r (inr (inr (inr l))) few = subst (λ (v : Walk). HasFewThings v.me) (sym l.is) (record { ammo = few.ammo; carry = few.carry })

-- over any records
pub few-through : (map : MapView) (solids : List Bounds) (frame : ℕ) (me : Rec) (rs : List Rec) → HasFewThings me → HasFewThings (fold (after_trigger map solids frame) (first_walk me) rs).me
few-through map solids frame me rs few =
    walk-keeps (after_trigger map solids frame) (λ w. HasFewThings w.me) (first_walk me) rs (λ v r. few-step map solids frame v (after_trigger map solids frame v r) r (step map solids frame v r)) few

pub stay_few : ThingsStayFew
unfolding touched
stay_few map frame me near few = few-through map (solids_among map near) frame me (touched_by me near) few

-- ---- scores

-- a score from the least on, up to the end of scores
pub record IsScore (least : ℕ) (me : Rec) : Type 0 where
  pub low : least ≤ me.score
  pub high : me.score ≤ 4294967295

score-step : (map : MapView) (solids : List Bounds) (frame least : ℕ) (w next : Walk) (r : Rec) → Step map solids frame w r next → IsScore least w.me → IsScore least next.me
score-step map solids frame least w next r (inl same) is = subst (λ (v : Walk). IsScore least v.me) (sym same) is
score-step map solids frame least w next r (inr (inl t)) is =
    let same = (item-change w.me r).score in
    subst (λ (v : Walk). IsScore least v.me) (sym t.is) (record { low = omega (arith, same, is.low); high = omega (arith, same, is.high) })
score-step map solids frame least w next r (inr (inr (inl goal))) is = subst (λ (v : Walk). IsScore least v.me) (sym goal.is) (record { low = omega (arith, is.low, is.high); high = omega arith })
score-step map solids frame least w next r (inr (inr (inr l))) is = subst (λ (v : Walk). IsScore least v.me) (sym l.is) (record { low = is.low; high = is.high })

-- over any records
pub score-through : (map : MapView) (solids : List Bounds) (frame : ℕ) (me : Rec) (rs : List Rec) → me.score ≤ 4294967295 → IsScore me.score (fold (after_trigger map solids frame) (first_walk me) rs).me
score-through map solids frame me rs high =
    walk-keeps (after_trigger map solids frame) (λ w. IsScore me.score w.me) (first_walk me) rs
    (λ v r. score-step map solids frame me.score v (after_trigger map solids frame v r) r (step map solids frame v r)) (record { low = omega arith; high = high })

pub never_fall : ScoresNeverFall
unfolding touched
never_fall map frame me near high = (score-through map (solids_among map near) frame me (touched_by me near) high).low

-- ---- who a player is

same-through : (a b c : Rec) → IsSamePlayer a b → IsSamePlayer b c → IsSamePlayer a c
same-through a b c p q = record { id = q.id ∙ p.id; kind = q.kind ∙ p.kind; mins = q.mins ∙ p.mins; maxs = q.maxs ∙ p.maxs; seq = q.seq ∙ p.seq; state = q.state ∙ p.state }

self-step : (map : MapView) (solids : List Bounds) (frame : ℕ) (me : Rec) (w next : Walk) (r : Rec) → Step map solids frame w r next → IsSamePlayer me w.me → IsSamePlayer me next.me
self-step map solids frame me w next r (inl same) is = subst (λ (v : Walk). IsSamePlayer me v.me) (sym same) is
self-step map solids frame me w next r (inr (inl t)) is = subst (λ (v : Walk). IsSamePlayer me v.me) (sym t.is) (same-through me w.me (after_item w.me r) is (item-change w.me r).same)
self-step map solids frame me w next r (inr (inr (inl goal))) is =
    subst (λ (v : Walk). IsSamePlayer me v.me) (sym goal.is) (same-through me w.me (player_after_goal w.me) is (record { id = refl; kind = refl; mins = refl; maxs = refl; seq = refl; state = refl }))
self-step map solids frame me w next r (inr (inr (inr l))) is =
    subst (λ (v : Walk). IsSamePlayer me v.me) (sym l.is) (same-through me w.me (leapt w.me l.dest) is (record { id = refl; kind = refl; mins = refl; maxs = refl; seq = refl; state = refl }))

pub stay_themselves : PlayersStayThemselves
unfolding touched
stay_themselves map frame me near =
    let solids = solids_among map near in
    walk-keeps (after_trigger map solids frame) (λ w. IsSamePlayer me w.me) (first_walk me) (touched_by me near) (λ v r. self-step map solids frame me v (after_trigger map solids frame v r) r (step map solids frame v r))
    (record { id = refl; kind = refl; mins = refl; maxs = refl; seq = refl; state = refl })

-- ---- leaps

in_place-through : (a b c : Rec) → IsInPlace a b → IsInPlace b c → IsInPlace a c
in_place-through a b c p q = record { origin = q.origin ∙ p.origin; vel = q.vel ∙ p.vel; flags = q.flags ∙ p.flags }

-- the player is where it was, or has leapt
record HasPlace (map : MapView) (near : List Rec) (me : Rec) (w : Walk) : Type 0 where
  stays : w.ended ≡ false → IsInPlace me w.me
  leaps : HasCorners PLAYER_MINS PLAYER_MAXS w.me.mins w.me.maxs → w.ended ≡ true → HasLeapt map near w.me

-- where a player in place with the same shape is in another record's place, its body is the same
leapt-as : (map : MapView) (near : List Rec) (a b : Rec) → IsInPlace a b → IsSamePlayer a b → HasLeapt map near a → HasLeapt map near b
leapt-as map near a b place same l = record {
  free = ap (λ o. is_blocked (box_at_origin o b.mins b.maxs) (solids_among map near)) place.origin ∙ ap (λ m. is_blocked (box_at_origin a.origin m b.maxs) (solids_among map near)) same.mins
      ∙ ap (λ m. is_blocked (box_at_origin a.origin a.mins m) (solids_among map near)) same.maxs ∙ l.free;
  at_rest = place.vel ∙ l.at_rest;
}

corners-as : (a b : Rec) → IsSamePlayer a b → HasCorners PLAYER_MINS PLAYER_MAXS b.mins b.maxs → HasCorners PLAYER_MINS PLAYER_MAXS a.mins a.maxs
corners-as a b same c = record { low_is = sym same.mins ∙ c.low_is; high_is = sym same.maxs ∙ c.high_is }

place-step : (map : MapView) (near : List Rec) (frame : ℕ) (me : Rec) (w next : Walk) (r : Rec) → Step map (solids_among map near) frame w r next → HasPlace map near me w → HasPlace map near me next
place-step map near frame me w next r (inl same) is = subst (HasPlace map near me) (sym same) is
place-step map near frame me w next r (inr (inl t)) is =
    let change = item-change w.me r in
    subst (HasPlace map near me) (sym t.is) (record {
      stays = λ on. in_place-through me w.me (after_item w.me r) (is.stays on) change.place;
      leaps = λ c off. leapt-as map near w.me (after_item w.me r) change.place change.same (is.leaps (corners-as w.me (after_item w.me r) change.same c) off);
    })
place-step map near frame me w next r (inr (inr (inl goal))) is =
    let place : IsInPlace w.me (player_after_goal w.me) = record { origin = refl; vel = refl; flags = refl } in
    let same : IsSamePlayer w.me (player_after_goal w.me) = record { id = refl; kind = refl; mins = refl; maxs = refl; seq = refl; state = refl } in
    subst (HasPlace map near me) (sym goal.is) (record {
      stays = λ on. in_place-through me w.me (player_after_goal w.me) (is.stays on) place;
      leaps = λ c off. leapt-as map near w.me (player_after_goal w.me) place same (is.leaps c off);
    })
place-step map near frame me w next r (inr (inr (inr l))) is = subst (HasPlace map near me) (sym l.is) (record {
  stays = λ on. absurd (true-false on);
  leaps = λ c off. record {
    free = ap (λ m. is_blocked (box_at_origin l.dest m w.me.maxs) (solids_among map near)) c.low_is ∙ ap (λ m. is_blocked (box_at_origin l.dest PLAYER_MINS m) (solids_among map near)) c.high_is ∙ l.free;
    at_rest = refl;
  };
})

placed : (map : MapView) (frame : ℕ) (me : Rec) (near : List Rec) → HasPlace map near me (touched map frame me near)
unfolding touched
placed map frame me near =
    let solids = solids_among map near in
    walk-keeps (after_trigger map solids frame) (HasPlace map near me) (first_walk me) (touched_by me near) (λ v r. place-step map near frame me v (after_trigger map solids frame v r) r (step map solids frame v r))
    (record { stays = λ on. record { origin = refl; vel = refl; flags = refl }; leaps = λ c off. absurd (true-false (sym off)) })

pub leaps_free : LeapsAreFree
leaps_free map frame me near corners ended =
    let same = stay_themselves map frame me near in
    (placed map frame me near).leaps (record { low_is = same.mins ∙ corners.low_is; high_is = same.maxs ∙ corners.high_is }) ended

pub only_leaps : OnlyLeapsMove
only_leaps map frame me near on = (placed map frame me near).stays on

-- ---- what touches

-- a record changes the same where the ways that matter are the same
trigger-same : (map : MapView) (solids others : List Bounds) (frame : ℕ) (w : Walk) (r : Rec)
    → ((dest : Vec3) → r.kind ≡ Teleporter → dest_of map r.id ≡ Some dest → is_blocked (player_body dest) solids ≡ is_blocked (player_body dest) others)
    → after_trigger map solids frame w r ≡ after_trigger map others frame w r
trigger-same map solids others frame w r ways = by w.ended
  where
    teleport : (dest : Option Vec3) → ((d : Vec3) → dest ≡ Some d → is_blocked (player_body d) solids ≡ is_blocked (player_body d) others) → after_teleporter dest solids w ≡ after_teleporter dest others w
    teleport None same = refl
    teleport (Some d) same = ap (λ (b : Bool). if b then w else walk_of (leapt w.me d) w.states w.got true) (same d refl)

    kinds : (k : Kind) → r.kind ≡ k → after_kind k map solids frame w r ≡ after_kind k map others frame w r
    kinds Player e = refl
    kinds Ammo e = refl
    kinds Gem e = refl
    kinds Teleporter e = teleport (dest_of map r.id) (λ d is. ways d e is)
    kinds Goal e = refl
    kinds Lift e = refl

    by : (ended : Bool) → (if ended then w else after_kind r.kind map solids frame w r) ≡ (if ended then w else after_kind r.kind map others frame w r)
    by true = refl
    by false = kinds r.kind refl

walk-same : (f g : Walk → Rec → Walk) (Q : Rec → Type 0) (w : Walk) (rs : List Rec) → ((v : Walk) (r : Rec) → Q r → f v r ≡ g v r) → AllByRecursion Q rs → fold f w rs ≡ fold g w rs
walk-same f g Q w [] same all = refl
walk-same f g Q w (r ∷ rs) same all = ap (λ (v : Walk). fold f v rs) (same w r all.0) ∙ walk-same f g Q (g w r) rs same all.1

pub only_touched : OnlyTouchedMatters
unfolding touched
only_touched map frame me near others same ways =
    let rs = touched_by me near in
    let f = after_trigger map (solids_among map near) frame in
    let g = after_trigger map (solids_among map others) frame in
    walk-same f g (Contains rs) (first_walk me) rs (λ v r listed. trigger-same map (solids_among map near) (solids_among map others) frame v r (λ dest kind is. ways r dest listed kind is))
    (recursion_from_All (Contains rs) rs (All-contains_itself rs))
    ∙ ap (fold g (first_walk me)) same

-- ---- what was taken

-- the record is one of these, and is touched
record IsOne (me : Rec) (near : List Rec) (r : Rec) : Type 0 where
  listed : Contains near r
  is_near : is_touched (abs_of me) r ≡ true

all-both : (me : Rec) (near rs : List Rec) → AllByRecursion (Contains near) rs → AllByRecursion (λ r. is_touched (abs_of me) r ≡ true) rs → AllByRecursion (IsOne me near) rs
all-both me near [] a b = tt
all-both me near (r ∷ rs) a b = (record { listed = a.0; is_near = b.0 }, all-both me near rs a.1 b.1)

-- each record that is walked over is one
ones : (me : Rec) (near : List Rec) → AllByRecursion (IsOne me near) (touched_by me near)
ones me near =
    let test = is_touched (abs_of me) in
    all-both me near (touched_by me near) (recursion_from_All (Contains near) (touched_by me near) (All-filter test (Contains near) near (All-contains_itself near)))
    (recursion_from_All (λ r. test r ≡ true) (touched_by me near) (filter_passes test near))

taken-step : (map : MapView) (solids : List Bounds) (frame : ℕ) (me : Rec) (near : List Rec) (w next : Walk) (r : Rec) → Step map solids frame w r next → IsOne me near r
    → AreTaken map frame me near w.states w.got → AreTaken map frame me near next.states next.got
taken-step map solids frame me near w next r (inl same) one are = subst (λ (v : Walk). AreTaken map frame me near v.states v.got) (sym same) are
taken-step map solids frame me near w next r (inr (inl t)) one are = subst (λ (v : Walk). AreTaken map frame me near v.states v.got) (sym t.is) (record {
  got_are = ap (λ (l : List ℕ). l ++ r.id ∷ []) are.got_are ∙ sym (map-append (λ s. s.id) w.states (new ∷ []));
  each = All-push (IsTaken map frame me near) w.states new are.each (record {
    item = r;
    listed = one.listed;
    own = refl;
    kind = t.kind;
    there = was-there w.me r t.may;
    is_near = one.is_near;
    delay = t.delay;
    delay_is = t.delay_is;
    state = refl;
  });
  few = omega (arith, length_push w.got r.id, t.few);
})
  where
    new : NewState
    new = new_state r.id (frame + t.delay)
taken-step map solids frame me near w next r (inr (inr (inl goal))) one are = subst (λ (v : Walk). AreTaken map frame me near v.states v.got) (sym goal.is) are
taken-step map solids frame me near w next r (inr (inr (inr l))) one are = subst (λ (v : Walk). AreTaken map frame me near v.states v.got) (sym l.is) are

-- what a walk over records takes is theirs, where each is one of these
taken-through : (map : MapView) (solids : List Bounds) (frame : ℕ) (me : Rec) (near rs : List Rec) → AllByRecursion (IsOne me near) rs
    → let w = fold (after_trigger map solids frame) (first_walk me) rs in AreTaken map frame me near w.states w.got
taken-through map solids frame me near rs all =
    walk-keeps-in (after_trigger map solids frame) (λ w. AreTaken map frame me near w.states w.got) (IsOne me near) (first_walk me) rs
    (λ v r one. taken-step map solids frame me near v (after_trigger map solids frame v r) r (step map solids frame v r) one) all
    (record { got_are = refl; each = All-nil (IsTaken map frame me near); few = omega arith })

pub were_there : ItemsWereThere
unfolding touched
were_there map frame me near = taken-through map (solids_among map near) frame me near (touched_by me near) (ones me near)

-- what holds of each of some records holds of the first of them
first-ones : (P : Rec → Type 0) (before more : List Rec) → AllByRecursion P (before ++ more) → AllByRecursion P before
first-ones P [] more all = tt
first-ones P (r ∷ before) more all = (all.0, first-ones P before more all.1)

-- what a walk over the first triggers that a player touches takes is theirs
pub taken-before : (map : MapView) (solids : List Bounds) (frame : ℕ) (me : Rec) (near before more : List Rec) → touched_by me near ≡ before ++ more
    → let w = fold (after_trigger map solids frame) (first_walk me) before in AreTaken map frame me before w.states w.got
taken-before map solids frame me near before more are =
    let test = is_touched (abs_of me) in
    let passes = subst (AllByRecursion (λ r. test r ≡ true)) are (recursion_from_All (λ r. test r ≡ true) (touched_by me near) (filter_passes test near)) in
    taken-through map solids frame me before before
    (all-both me before before (recursion_from_All (Contains before) before (All-contains_itself before)) (first-ones (λ r. test r ≡ true) before more passes))

-- ---- rising ids

-- the ids rise from this number on
unfoldable pub Rises : ℕ → List Rec → Type 0
Rises n [] = Unit {0}
Rises n (r ∷ rs) = (n ≤ r.id) × Rises (r.id + 1) rs

rises-less : (n m : ℕ) (rs : List Rec) → m ≤ n → Rises n rs → Rises m rs
unfolding Rises
rises-less n m [] less up = tt
rises-less n m (r ∷ rs) less up = (omega (arith, up.0, less), up.1)

rises-filter : (test : Rec → Bool) (n : ℕ) (rs : List Rec) → Rises n rs → Rises n (filter test rs)
unfolding Rises
rises-filter test n [] up = tt
rises-filter test n (r ∷ rs) up = by (test r) (rises-filter test (r.id + 1) rs up.1)
  where
    by : (b : Bool) → Rises (r.id + 1) (filter test rs) → Rises n (cond b (r ∷ filter test rs) (filter test rs))
    by true more = (up.0, more)
    by false more = rises-less (r.id + 1) n (filter test rs) (omega (arith, up.0)) more

-- the ids of the first of them rise
pub rises-first : (n : ℕ) (before more : List Rec) → Rises n (before ++ more) → Rises n before
unfolding Rises
rises-first n [] more up = tt
rises-first n (r ∷ before) more up = (up.0, rises-first (r.id + 1) before more up.1)

rises-from : (n : ℕ) (rs : List Rec) → IsStrictlyIncreasing (map_list (λ r. r.id) rs) → ((r : Rec) (more : List Rec) → rs ≡ r ∷ more → n ≤ r.id) → Rises n rs
unfolding Rises
rises-from n [] rise first = tt
rises-from n (r ∷ rs) rise first = (first r rs refl, rises-from (r.id + 1) rs tail next)
  where
    tail : IsStrictlyIncreasing (map_list (λ s. s.id) rs)
    tail = λ k below.
        let e : suc k + 1 ≡ suc (k + 1) = omega arith in
        let more : suc k + 1 < length (r.id ∷ map_list (λ s. s.id) rs) = omega (arith, below) in
        subst (λ (j : ℕ). slice_index (r.id ∷ map_list (λ s. s.id) rs) (suc k) < slice_index (r.id ∷ map_list (λ s. s.id) rs) j) e (rise (suc k) more)

    next : (s : Rec) (more : List Rec) → rs ≡ s ∷ more → r.id + 1 ≤ s.id
    next s more e =
        let h : r.id < slice_index (r.id ∷ map_list (λ t. t.id) (s ∷ more)) (0 + 1) =
        subst (λ (l : List Rec). 0 + 1 < length (r.id ∷ map_list (λ t. t.id) l) → r.id < slice_index (r.id ∷ map_list (λ t. t.id) l) (0 + 1)) e (rise 0) (omega arith) in
        omega (arith, h)

-- the ids that were got rise, and are below a number
pub record IsBelow (n : ℕ) (got : List ℕ) : Type 0 where
  pub rise : IsStrictlyIncreasing got
  pub below : All (λ g. g < n) got

below-more : (n m : ℕ) (got : List ℕ) → n ≤ m → IsBelow n got → IsBelow m got
below-more n m got less is = record { rise = is.rise; below = All-weaker (λ g. g < n) (λ g. g < m) (λ g h. omega (arith, h, less)) got is.below }

pub below-step : (map : MapView) (solids : List Bounds) (frame n : ℕ) (w next : Walk) (r : Rec) → Step map solids frame w r next → n ≤ r.id → IsBelow n w.got → IsBelow (r.id + 1) next.got
below-step map solids frame n w next r (inl same) low is = subst (λ (v : Walk). IsBelow (r.id + 1) v.got) (sym same) (below-more n (r.id + 1) w.got (omega (arith, low)) is)
below-step map solids frame n w next r (inr (inl t)) low is =
    let here = below-more n r.id w.got low is in
    let more = below-more n (r.id + 1) w.got (omega (arith, low)) is in
    subst (λ (v : Walk). IsBelow (r.id + 1) v.got) (sym t.is)
    (record { rise = rising_with w.got r.id is.rise here.below; below = All-push (λ g. g < r.id + 1) w.got r.id more.below (omega arith) })
below-step map solids frame n w next r (inr (inr (inl goal))) low is = subst (λ (v : Walk). IsBelow (r.id + 1) v.got) (sym goal.is) (below-more n (r.id + 1) w.got (omega (arith, low)) is)
below-step map solids frame n w next r (inr (inr (inr l))) low is = subst (λ (v : Walk). IsBelow (r.id + 1) v.got) (sym l.is) (below-more n (r.id + 1) w.got (omega (arith, low)) is)

below-through : (map : MapView) (solids : List Bounds) (frame n : ℕ) (w : Walk) (rs : List Rec) → Rises n rs → IsBelow n w.got → IsStrictlyIncreasing (fold (after_trigger map solids frame) w rs).got
unfolding Rises
below-through map solids frame n w [] up is = is.rise
below-through map solids frame n w (r ∷ rs) up is =
    let next = after_trigger map solids frame w r in
    below-through map solids frame (r.id + 1) next rs up.1 (below-step map solids frame n w next r (step map solids frame w r) up.0 is)

-- the ids of the triggers that a player touches rise, where those of the records do
pub touched-rise : (me : Rec) (near : List Rec) → IsStrictlyIncreasing (map_list (λ r. r.id) near) → Rises 0 (touched_by me near)
touched-rise me near rise = rises-filter (is_touched (abs_of me)) 0 near (rises-from 0 near rise (λ r more e. omega arith))

-- no ids rise
pub none-below : IsBelow 0 []
none-below = record { rise = λ k below. absurd (omega (arith, below)); below = All-nil (λ g. g < 0) }

pub ids_rise : GotIdsRise
unfolding touched
ids_rise map frame me near rise = below-through map (solids_among map near) frame 0 (first_walk me) (touched_by me near) (touched-rise me near rise) none-below
