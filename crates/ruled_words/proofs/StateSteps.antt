-- The state of a thing is loaded by a pass that is held without the same seat in plain values.
use Rattle.std.proofs.Common.{◌≡◌, ℕ, zero, suc, ◌+◌, ◌-◌, ◌≤◌, ◌<◌, List, [], ◌∷◌, ◌++◌, Bool, true, false, map, take, drop, get_or, length, length-append, append-nil, append_assoc, refl, sym, ap, ◌∙◌, subst, arith, Option, Some, None}
use Rattle.std.specs.List.{filter_map}
use Rattle.std.specs.List.Sorted.{IsStrictlyIncreasing}
use Rattle.std.proofs.lemmas.List.{take_all, drop_all, length-map}
use Rattle.std.proofs.Math.ListN.{get_or-map}
use Rattle.arena_geo.specs.Bounds.{Bounds}
use Rattle.arena_geo.specs.Regions.{touches_region}
use Rattle.entity_recs.specs.declared.rec.Rec.{Rec}
use Rattle.std.specs.Prelude.{if◌then◌else◌, ◌↔◌, nat_le, IsTrue}
use Rattle.std.specs.Bool.{MatchBool}
use Rattle.std.proofs.lemmas.Bool.{false≢true}
use Rattle.entity_recs.specs.declared.effect.Effect.{Effect}
use Rattle.entity_recs.specs.declared.effect.NewState.{NewState}
use Rattle.entity_recs.specs.Bodies.{abs_of}
use Rattle.entity_recs.specs.Records.{with_state}
use Rattle.core_steps.specs.Nodes.{Fixed}
use Rattle.core_steps.specs.Points.{Point, Sensing, Resolving}
use Rattle.core_steps.specs.Reads.{things_in}
use Rattle.core_seats.specs.ThingBits.{AreApart, IsNextThing}
use Rattle.core_seats.specs.NearKept.{AreThings, thing_with, records_touching, things_loaded}
use Rattle.world_tree.specs.Nears.{NearView}
use Rattle.core_seats.proofs.ThingsLoaded.{things_of_region, loaded_of_region, things_rise, touching_same, loaded_more, left_first, left_same}
use Rattle.core_steps.specs.Steps.{sensing, view_after_state}
use Rattle.core_steps.proofs.Planned.{filter_few}
use Rattle.core_seats.specs.Nexts.{the_next}
use Rattle.core_seats.specs.Ready.{is_resolving}
use Rattle.ruled_words.specs.Passes.{PassView, next_of_pass, pass_after, state_read_next}
use Rattle.ruled_words.specs.Hands.{IsPlain}
use Rattle.ruled_words.specs.Straight.{in_view}
use Rattle.ruled_words.specs.Sensing.{after_thing, sensed_to}

none_stays : (b : Bool) (kept : Option Effect) → (if b then kept else kept) ≡ kept
none_stays true kept = refl
none_stays false kept = refl

-- a pass that nothing but its view speaks of
pub held_in_view : (p : PassView) → IsPlain p → p ≡ in_view p p.view
held_in_view p plain = λ i. record {
  table = p.table;
  setting = p.setting;
  number = p.number;
  given = plain.given i;
  quits = plain.quits i;
  effect = plain.effect i;
  view = p.view;
  tally = p.tally;
}

module _ (F : Fixed) (p : PassView) (id : ℕ) (plain : IsPlain p) (at : p.view.point ≡ Sensing (id ∷ after_thing p.view.point)) where
  abbrev left : List ℕ
  left = after_thing p.view.point

  abbrev at_thing : PassView
  at_thing = in_view p (record p.view { point = Sensing (id ∷ left) })

  is_at_thing : p ≡ at_thing
  is_at_thing = held_in_view p plain ∙ ap (λ (q : Point). in_view p (record p.view { point = q })) at

  -- the state of the thing is loaded next
  pub thing_next : state_read_next (next_of_pass F p) ≡ Some id
  thing_next = ap (λ (q : PassView). state_read_next (next_of_pass F q)) is_at_thing

  -- the state of the thing was loaded
  pub thing_loaded : (new : PassView) (found : ℕ) → new ≡ pass_after F (the_next (next_of_pass F p)) found p
      → new ≡ in_view p (view_after_state id found left p.view)
  thing_loaded new found after =
      after ∙ ap (λ (q : PassView). pass_after F (the_next (next_of_pass F q)) found q) is_at_thing
      ∙ (λ i. record {
        table = p.table;
        setting = p.setting;
        number = p.number;
        given = None;
        quits = false;
        effect = none_stays (is_resolving (sensing left)) None i;
        view = view_after_state id found left p.view;
        tally = p.tally;
      })

-- the next thing is the first of those that are left
pub first_thing : (start p : PassView) (id : ℕ) (rest : List ℕ) → p ≡ sensed_to start p.view.states (id ∷ rest)
    → p.view.point ≡ Sensing (id ∷ after_thing p.view.point)
first_thing start p id rest is =
    let at : p.view.point ≡ Sensing (id ∷ rest) = ap (λ (q : PassView). q.view.point) is in
    at ∙ ap (λ (ids : List ℕ). Sensing (id ∷ ids)) (sym (ap after_thing at))

module _ (start p new : PassView) (id found : ℕ) (rest : List ℕ) (is : p ≡ sensed_to start p.view.states (id ∷ rest))
    (after : new ≡ in_view p (view_after_state id found (after_thing p.view.point) p.view)) where
  made : new ≡ sensed_to start (record { id = id; state = found } ∷ p.view.states) rest
  made = after ∙ ap (λ (q : PassView). in_view q (view_after_state id found (after_thing q.view.point) q.view)) is

  -- one state more is in view
  pub states_more : new.view.states ≡ record { id = id; state = found } ∷ p.view.states
  states_more = ap (λ (q : PassView). q.view.states) after

  -- and one thing less is left
  pub sensed_more : new ≡ sensed_to start new.view.states rest
  sensed_more = made ∙ ap (λ (states : List NewState). sensed_to start states rest) (sym states_more)

-- a record is put last where there is room
pub put_last : (b : Bool) (near new : NearView) (r : Rec) → IsTrue b ↔ (length near.items < near.room)
    → MatchBool b (new ≡ record near { items = near.items ++ r ∷ [] }) (new ≡ near) → length near.items < near.room
    → new ≡ record near { items = near.items ++ r ∷ [] }
put_last true near new r room records few = records
put_last false near new r room records few = absurd (false≢true (room.1 few))

-- ---- the things that a region touches, by their absolute boxes

-- the region touches none of the things from the first place on and before the second one
abbrev pub AreUntouched : List Bounds → List Rec → (from to : ℕ) → Type 0
AreUntouched region things from to = (k : ℕ) (d : Rec) → from ≤ k → k < to → k < length things → touches_region (abs_of (get_or things k d)) region ≡ false

-- the thing at this place is the first from another place on that the region touches
pub record IsNextTouched (region : List Bounds) (things : List Rec) (from place : ℕ) : Type 0 where
  pub least : from ≤ place
  pub within : place < length things
  pub touches : (d : Rec) → touches_region (abs_of (get_or things place d)) region ≡ true
  pub apart : AreUntouched region things from place

module _ (region boxes : List Bounds) (things : List Rec) (boxed : boxes ≡ map abs_of things) where
  pub as_many : length boxes ≡ length things
  as_many = ap (λ (bs : List Bounds). length bs) boxed ∙ length-map things abs_of

  box_at : (k : ℕ) (d : Rec) → get_or boxes k (abs_of d) ≡ abs_of (get_or things k d)
  box_at k d = ap (λ (bs : List Bounds). get_or bs k (abs_of d)) boxed ∙ get_or-map abs_of things k d

  touched_at : (k : ℕ) (d : Rec) → touches_region (abs_of (get_or things k d)) region ≡ touches_region (get_or boxes k (abs_of d)) region
  touched_at k d = ap (λ (b : Bounds). touches_region b region) (sym (box_at k d))

  pub untouched_by_boxes : (from to : ℕ) → AreApart region boxes from to → AreUntouched region things from to
  untouched_by_boxes from to apart k d least less within =
      touched_at k d ∙ apart k (abs_of d) least less (omega (arith, within, as_many))

  pub none_by_boxes : (from : ℕ) → AreApart region boxes from (length boxes) → AreUntouched region things from (length things)
  none_by_boxes from apart k d least less within =
      touched_at k d ∙ apart k (abs_of d) least (omega (arith, within, as_many)) (omega (arith, within, as_many))

  pub within_things : (k : ℕ) → k < length boxes → k < length things
  within_things k within = omega (arith, within, as_many)

  pub next_by_boxes : (from place : ℕ) → IsNextThing region boxes from place → IsNextTouched region things from place
  next_by_boxes from place next = record {
    least = next.least;
    within = let here = next.within in omega (arith, here, as_many);
    touches = λ d. touched_at place d ∙ next.touches (abs_of d);
    apart = untouched_by_boxes from place next.apart;
  }

-- ---- the things of a region, one after another

-- the states of those of the first k things that a region touches are loaded, and they stand with them in the near list
pub record AreSensed (region : List Bounds) (things : List Rec) (start p : PassView) (before near : List Rec) (k : ℕ) : Type 0 where
  pub hand : p ≡ sensed_to start p.view.states (map (λ (r : Rec). r.id) (records_touching region (drop k things)))
  pub near_is : near ≡ before ++ filter_map (thing_with p.view.states) (records_touching region (take k things))
  pub room : length near ≤ 64 + k

module _ (F : Fixed) (things : List Rec) (region : List Bounds) (are : AreThings F things) (rising : IsStrictlyIncreasing F.start.ids) (start : PassView) (before : List Rec) where
  -- nothing is loaded yet
  pub sensed_none : IsPlain start → start.view.point ≡ sensing (things_in F region) → length before ≤ 64 → AreSensed region things start start before before 0
  sensed_none plain at few = record {
    hand = held_in_view start plain
        ∙ ap (λ (q : Point). in_view start (record start.view { point = q })) (at ∙ ap sensing (things_of_region F things region are));
    near_is = sym (append-nil before);
    room = omega (arith, few);
  }

  module _ (p : PassView) (near : List Rec) (k : ℕ) (d : Rec) (there : k < length things) (is : AreSensed region things start p before near k) where
    abbrev thing : Rec
    thing = get_or things k d

    abbrev rest : List ℕ
    rest = map (λ (r : Rec). r.id) (records_touching region (drop (k + 1) things))

    at_first : touches_region (abs_of thing) region ≡ true → p ≡ sensed_to start p.view.states (thing.id ∷ rest)
    at_first touch = is.hand ∙ ap (sensed_to start p.view.states) (left_first region things k d there touch)

    -- the thing comes next
    pub sensed_at : touches_region (abs_of thing) region ≡ true → p.view.point ≡ Sensing (thing.id ∷ after_thing p.view.point)
    sensed_at touch = first_thing start p thing.id rest (at_first touch)

    -- there is room for it
    pub sensed_room : (room : ℕ) → 64 + length F.start.ids ≤ room → length near < room
    sensed_room room enough =
        let ids = ap length are.ids in
        let size = length-map things (λ (r : Rec). r.id) in
        let few = filter_few (nat_le 64) F.start.ids in
        let most = is.room in
        omega (arith, ids, size, few, most, there, enough)

    -- its state was loaded
    pub sensed_one : touches_region (abs_of thing) region ≡ true → (new : PassView) (state : ℕ)
        → new ≡ in_view p (view_after_state thing.id state (after_thing p.view.point) p.view)
        → AreSensed region things start new before (near ++ with_state thing state ∷ []) (k + 1)
    sensed_one touch new state after =
        let more = loaded_more region things k d there p.view.states state (things_rise F things region are rising) touch in
        let long = length-append near (with_state thing state ∷ []) in
        let most = is.room in
        record {
          hand = sensed_more start p new thing.id state rest (at_first touch) after;
          near_is = ap (λ (rs : List Rec). rs ++ with_state thing state ∷ []) is.near_is
              ∙ append_assoc before (filter_map (thing_with p.view.states) (records_touching region (take k things))) (with_state thing state ∷ [])
              ∙ ap (λ (rs : List Rec). before ++ rs) (sym more)
              ∙ ap (λ (states : List NewState). before ++ filter_map (thing_with states) (records_touching region (take (k + 1) things))) (sym (states_more start p new thing.id state rest (at_first touch) after));
          room = omega (arith, long, most);
        }

    -- it doesn't touch the region
    pub sensed_skip : touches_region (abs_of thing) region ≡ false → AreSensed region things start p before near (k + 1)
    sensed_skip not =
        let most = is.room in
        record {
          hand = is.hand ∙ ap (sensed_to start p.view.states) (left_same region things k d there not);
          near_is = is.near_is ∙ ap (λ (rs : List Rec). before ++ filter_map (thing_with p.view.states) rs) (sym (touching_same region things k d there not));
          room = omega (arith, most);
        }

  -- so many things after one another aren't touched
  sensed_skips : (p : PassView) (near : List Rec) (n at : ℕ) → at + n ≤ length things → AreSensed region things start p before near at
      → ((k : ℕ) (d : Rec) → at ≤ k → k < at + n → touches_region (abs_of (get_or things k d)) region ≡ false) → AreSensed region things start p before near (at + n)
  sensed_skips p near zero at within is not = let e : at ≡ at + 0 = omega arith in subst (AreSensed region things start p before near) e is
  sensed_skips p near (suc n) at within is not =
      let e : at + 1 + n ≡ at + suc n = omega arith in
      let d : Rec = F.start.record_of 0 in
      let one = sensed_skip p near at d (omega (arith, within)) is (not at d (omega arith) (omega arith)) in
      subst (AreSensed region things start p before near) e (sensed_skips p near n (at + 1) (omega (arith, within)) one (λ k d least less. not k d (omega (arith, least)) (omega (arith, less))))

  -- none up to a place is touched
  pub sensed_until : (p : PassView) (near : List Rec) (at to : ℕ) → at ≤ to → to ≤ length things → AreSensed region things start p before near at → AreUntouched region things at to
      → AreSensed region things start p before near to
  sensed_until p near at to least within is apart =
      let e : at + (to - at) ≡ to = omega (arith, least) in
      subst (AreSensed region things start p before near) e
      (sensed_skips p near (to - at) at (omega (arith, least, within)) is (λ k d some less. apart k d some (omega (arith, less, least)) (omega (arith, less, least, within))))

  module _ (p : PassView) (near : List Rec) (k : ℕ) (end : length things ≤ k) (is : AreSensed region things start p before near k) where
    -- all are loaded
    pub sensed_view : p ≡ in_view start (record start.view { states = p.view.states; point = Resolving })
    sensed_view = is.hand ∙ ap (λ (rs : List Rec). sensed_to start p.view.states (map (λ (r : Rec). r.id) (records_touching region rs))) (drop_all k things end)

    pub sensed_near : near ≡ before ++ things_loaded F region p.view.states
    sensed_near = is.near_is
        ∙ ap (λ (rs : List Rec). before ++ filter_map (thing_with p.view.states) (records_touching region rs)) (take_all k things end)
        ∙ ap (λ (rs : List Rec). before ++ rs) (sym (loaded_of_region F things region are p.view.states))
