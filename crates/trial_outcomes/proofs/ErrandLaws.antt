-- The laws of the action over one item and a teleporter.
use Rattle.std.proofs.Common.{◌≡◌, ◌+◌, Bool, true, false, ◌&&◌, ◌||◌, cond, List, []}
use Rattle.std.proofs.Common.{◌∷◌, filter, All, refl, sym, ap, ◌∙◌, inl, inr, arith}
use Rattle.std.specs.Prelude.{◌==◌, ◌%◌}
use Rattle.std.specs.List.{list_any, AllByRecursion, IsDistinct}
use Rattle.std.proofs.lemmas.Bool.{and_from, or_left, or_right, or_cases, cases_Bool, eqb-true, false≢true, and_parts}
use Rattle.std.proofs.lemmas.List.Elements.{All-cons, All-nil, recursion_from_All}
use Rattle.arena_geo.specs.Bounds.{Bounds, IsBox}
use Rattle.arena_geo.specs.Boxes.{touches}
use Rattle.arena_geo.specs.Regions.{touches_region, is_inside, IsRegion}
use Rattle.entity_recs.specs.declared.kind.Kind.TheVariants.{Player, Gem}
use Rattle.entity_recs.specs.declared.rec.Rec.{Rec}
use Rattle.entity_recs.specs.declared.effect.NewState.{NewState}
use Rattle.entity_recs.specs.Records.{IsRecord}
use Rattle.entity_recs.specs.Bodies.{abs_of}
use Rattle.entity_recs.specs.Commands.{Command}
use Rattle.entity_recs.specs.Actions.{records_touching, IsCall, HasPlayer, HasValidity}
use Rattle.entity_recs.specs.Actions.{HasLocality, HasFootprint, StaysWithin, is_of_one_inside}
use Rattle.entity_recs.proofs.Standing.{records_have_boxes}
use Rattle.trial_outcomes.proofs.StayingLaws.{least_itself}
use Rattle.trial_outcomes.specs.declared.places.TheConstants.{ITEM}
use Rattle.trial_outcomes.specs.Errand.{takes, player_at_arrival, region_of, moved_where}
use Rattle.trial_outcomes.specs.Errand.{is_free_item, new_states, effect_where, effect_of}
use Rattle.trial_outcomes.proofs.ErrandRecords.{keepable, item_box, mover, moved_is_taken, arrived_is_taken, stated}

-- ---- validity

-- a player that is moved is a record that is taken
pub errand_is_valid : HasValidity takes effect_of
errand_is_valid = record {
  keepable = λ r h. keepable r r.kind refl h;
  any_state = λ r state h. stated r.kind r state h;
  me = λ me near c call. moved_is_taken (c.buttons % 2 == 1) me c.seq (mover me c call.player) call.player.command.seq;
}

-- ---- locality

-- where all that is found is kept, the same is found among what is kept
any_kept : (P : Rec → Type 0) (test kept : Rec → Bool) → ((r : Rec) → P r → test r ≡ true → kept r ≡ true)
    → (rs : List Rec) → AllByRecursion P rs → list_any test (filter kept rs) ≡ list_any test rs
any_kept P test kept keeps [] all = refl
any_kept P test kept keeps (r ∷ rs) all = by (kept r) refl (any_kept P test kept keeps rs all.1)
  where
    by : (b : Bool) → kept r ≡ b → list_any test (filter kept rs) ≡ list_any test rs
        → list_any test (cond b (r ∷ filter kept rs) (filter kept rs)) ≡ (test r || list_any test rs)
    by true e rest = ap (λ b. test r || b) rest
    by false e rest = elim (cases_Bool (test r)) [
      | inl found ↦ absurd (false≢true (sym e ∙ keeps r all.0 found))
      | inr other ↦ rest ∙ sym (ap (λ b. b || list_any test rs) other)
    ]

free_item_box : (r : Rec) → takes r ≡ true → is_free_item r ≡ true → abs_of r ≡ abs_of ITEM
free_item_box r taken free = item_box r r.kind refl taken (eqb-true r.id 64 (and_parts (r.id == 64) (r.state == 0) free).0)

item_is_touched : (a b : Bounds) → touches_region (abs_of ITEM) (a ∷ b ∷ abs_of ITEM ∷ []) ≡ true
item_is_touched a b =
    let item = abs_of ITEM in
    or_right (touches item a) _ (or_right (touches item b) _ (or_left (touches item item) false refl))

same_found : (me : Rec) (near : List Rec) (c : Command) → IsCall takes me near c
    → list_any is_free_item (records_touching (region_of me c) near) ≡ list_any is_free_item near
same_found me near c call =
    any_kept (λ r. takes r ≡ true) is_free_item (λ r. touches_region (abs_of r) (region_of me c))
    (λ r taken free. ap (λ b. touches_region b (region_of me c)) (free_item_box r taken free)
    ∙ item_is_touched (abs_of me) (abs_of (player_at_arrival me)))
    near (recursion_from_All (λ r. takes r ≡ true) near call.others)

-- the item lies in each region, so that what touches the region has it
pub errand_is_local : HasLocality takes region_of effect_of
errand_is_local = record {
  near = λ me near c call.
      ap (λ free. effect_where free me c) (sym (same_found me near c call));
}

-- ---- footprint

first_inside : (a : Bounds) (rest : List Bounds) → is_inside a (a ∷ rest) ≡ true
first_inside a rest =
    let x = least_itself a.lo.x in
    let y = least_itself a.lo.y in
    let z = least_itself a.lo.z in
    rw (x, y, z, least_itself a.hi.x, least_itself a.hi.y, least_itself a.hi.z) refl

later_inside : (a b : Bounds) (rest : List Bounds) → is_inside b rest ≡ true → is_inside b (a ∷ rest) ≡ true
later_inside a b rest h = or_right _ _ h

-- where what is found passes another test, something passes that
any_implied : (P : Rec → Type 0) (test other : Rec → Bool) → ((r : Rec) → P r → test r ≡ true → other r ≡ true)
    → (rs : List Rec) → AllByRecursion P rs → list_any test rs ≡ true → list_any other rs ≡ true
any_implied P test other implies [] all h = absurd (false≢true h)
any_implied P test other implies (r ∷ rs) all h = elim (or_cases (test r) (list_any test rs) h) [
  | inl here ↦ or_left _ _ (implies r all.0 here)
  | inr later ↦ or_right _ _ (any_implied P test other implies rs all.1 later)
]

-- the player at the place of arrival is a record within its bounds
pub arrived_is_record : (me : Rec) (c : Command) → HasPlayer takes me c → IsRecord (player_at_arrival me)
arrived_is_record me c player =
    let is = mover me c player in
    (keepable (player_at_arrival me) Player is.kind (arrived_is_taken me is.taken)).bounds

three_boxes : (me : Rec) (c : Command) → HasPlayer takes me c → IsRegion (region_of me c)
three_boxes me c player =
    let here = (records_have_boxes me (keepable me me.kind refl player.taken).bounds).abs in
    let there = (records_have_boxes (player_at_arrival me) (arrived_is_record me c player)).abs in
    let item = (records_have_boxes ITEM (keepable ITEM Gem refl refl).bounds).abs in
    record {
      least = omega arith;
      most = omega arith;
      boxes = All-cons IsBox (abs_of me) (abs_of (player_at_arrival me) ∷ abs_of ITEM ∷ []) here
          (All-cons IsBox (abs_of (player_at_arrival me)) (abs_of ITEM ∷ []) there
          (All-cons IsBox (abs_of ITEM) [] item (All-nil IsBox)));
    }

module _ (me : Rec) (near : List Rec) (c : Command) (call : IsCall takes me near c) where
  item_inside : (r : Rec) → takes r ≡ true → is_free_item r ≡ true
      → ((r.id == 64) && is_inside (abs_of r) (region_of me c)) ≡ true
  item_inside r taken free =
      and_from (r.id == 64) _ (and_parts (r.id == 64) (r.state == 0) free).0
      (ap (λ b. is_inside b (region_of me c)) (free_item_box r taken free)
      ∙ later_inside (abs_of me) (abs_of ITEM) (abs_of (player_at_arrival me) ∷ abs_of ITEM ∷ [])
      (later_inside (abs_of (player_at_arrival me)) (abs_of ITEM) (abs_of ITEM ∷ []) (first_inside (abs_of ITEM) [])))

  -- the new state is that of a record inside the region
  abbrev IsInside : NewState → Type 0
  IsInside s = is_of_one_inside (region_of me c) near s ≡ true

  states_inside : (free : Bool) → list_any is_free_item near ≡ free → All IsInside (new_states free c.frame)
  states_inside true e =
      All-cons IsInside (record { id = 64; state = c.frame + 1 }) []
      (any_implied (λ r. takes r ≡ true) is_free_item _ item_inside near
      (recursion_from_All (λ r. takes r ≡ true) near call.others) e)
      (All-nil IsInside)
  states_inside false e = All-nil IsInside

  states_apart : (free : Bool) → IsDistinct (λ (a b : NewState). a.id == b.id) (new_states free c.frame)
  unfolding IsDistinct
  states_apart true = (tt, tt)
  states_apart false = tt

  moved_inside : (away : Bool) → is_inside (abs_of (moved_where away me c.seq)) (region_of me c) ≡ true
  moved_inside true =
      later_inside (abs_of me) (abs_of (player_at_arrival me)) (abs_of (player_at_arrival me) ∷ abs_of ITEM ∷ [])
      (first_inside (abs_of (player_at_arrival me)) (abs_of ITEM ∷ []))
  moved_inside false = first_inside (abs_of me) (abs_of (player_at_arrival me) ∷ abs_of ITEM ∷ [])

  keeps_id : (away : Bool) → (moved_where away me c.seq).id ≡ me.id
  keeps_id true = refl
  keeps_id false = refl

  keeps_kind : (away : Bool) → (moved_where away me c.seq).kind ≡ me.kind
  keeps_kind true = refl
  keeps_kind false = refl

  keeps_mins : (away : Bool) → (moved_where away me c.seq).mins ≡ me.mins
  keeps_mins true = refl
  keeps_mins false = refl

  keeps_maxs : (away : Bool) → (moved_where away me c.seq).maxs ≡ me.maxs
  keeps_maxs true = refl
  keeps_maxs false = refl

  effect_within : StaysWithin (region_of me c) me near (effect_of me near c)
  effect_within =
      let away = c.buttons % 2 == 1 in
      let free = list_any is_free_item near in
      record {
        before = first_inside (abs_of me) (abs_of (player_at_arrival me) ∷ abs_of ITEM ∷ []);
        after = moved_inside away;
        id = keeps_id away;
        kind = keeps_kind away;
        mins = keeps_mins away;
        maxs = keeps_maxs away;
        listed = states_inside free refl;
        apart = states_apart free;
      }

-- it stays inside its region
pub errand_stays_within : HasFootprint takes region_of effect_of
errand_stays_within = record { boxes = three_boxes; any_state = λ me state c. refl; within = effect_within }
