-- An effect on what a seat has loaded lists no more states than there are live ids.
use Rattle.std.proofs.Common.{◌≡◌, ℕ, ◌<◌, ◌≤◌, Bool, true, false, not, List, [], ◌∷◌, length, refl, sym, ap, ◌∙◌, inl, inr, Option, Some, None, arith}
use Rattle.std.specs.Prelude.{◌==◌, ◌&&◌, ◌||◌, filter}
use Rattle.std.specs.List.{AllByRecursion, IsDistinct, list_any, filter_map}
use Rattle.std.proofs.lemmas.Bool.{cases_Bool, false≢true, true≢false, eqb-true, eq-eqb, or_cases, or_left, or_right}
use Rattle.std.proofs.lemmas.List.Elements.{recursion_from_All}
use Rattle.std.proofs.lemmas.Map.Keys.{IsDistinct-head, IsDistinct-tail}
use Rattle.arena_geo.specs.Bounds.{Bounds}
use Rattle.arena_geo.specs.Regions.{is_inside, touches_region}
use Rattle.entity_recs.specs.declared.rec.Rec.{Rec}
use Rattle.entity_recs.specs.declared.effect.NewState.{NewState}
use Rattle.entity_recs.specs.Actions.{is_of_one_inside}
use Rattle.entity_recs.specs.Bodies.{abs_of}
use Rattle.entity_recs.specs.Worlds.{World}
use Rattle.entity_recs.specs.Histories.{Item}
use Rattle.core_steps.specs.Nodes.{Fixed}
use Rattle.core_steps.specs.Points.{Resolving}
use Rattle.core_steps.specs.Reads.{View, region_in, record_read, record_loaded, loaded_near, effect_loaded}
use Rattle.core_steps.specs.Steps.{Core}
use Rattle.core_steps.specs.Stands.{IsLawful, IsStart, Stands}
use Rattle.core_steps.proofs.Asking.{effect_may_be_asked}

-- ---- lists that are filtered

filter_few : {A : Type 0} (test : A → Bool) (xs : List A) → length (filter test xs) ≤ length xs
filter_few test [] = omega arith
filter_few test (x ∷ xs) =
    let rest = filter_few test xs in
    elim (cases_Bool (test x)) [ inl e ↦ rw e (omega (arith, rest)) | inr e ↦ rw e (omega (arith, rest)) ]

filter_map_few : {A B : Type 0} (f : A → Option B) (xs : List A) → length (filter_map f xs) ≤ length xs
filter_map_few f [] = omega arith
filter_map_few {A} {B} f (x ∷ xs) = by_first (f x) refl (filter_map_few f xs)
  where
    by_first : (o : Option B) → f x ≡ o → length (filter_map f xs) ≤ length xs → length (filter_map f (x ∷ xs)) ≤ length (x ∷ xs)
    by_first None e rest = rw e (omega (arith, rest))
    by_first (Some b) e rest = rw e (omega (arith, rest))

-- ---- states of different records

module _ (region : List Bounds) where
  abbrev is_one : ℕ → Rec → Bool
  is_one id r = (r.id == id) && is_inside (abs_of r) region

  -- without the records of an id a list that has one is shorter
  shorter : (id : ℕ) (near : List Rec) → list_any (is_one id) near ≡ true → length (filter (λ (r : Rec). not (r.id == id)) near) < length near
  shorter id [] there = absurd (false≢true there)
  shorter id (r ∷ near) there =
      let few = filter_few (λ (r : Rec). not (r.id == id)) near in
      elim (cases_Bool (r.id == id)) [
        | inl same ↦ rw same (omega (arith, few))
        | inr other ↦
            let rest = shorter id near (later r near other there) in
            rw other (omega (arith, rest))
      ]
    where
      later : (r : Rec) (near : List Rec) → (r.id == id) ≡ false → list_any (is_one id) (r ∷ near) ≡ true → list_any (is_one id) near ≡ true
      later r near other there = ap (λ (b : Bool). (b && is_inside (abs_of r) region) || list_any (is_one id) near) (sym other) ∙ there

  -- and it has one of each other id still
  still : (id other : ℕ) (near : List Rec) → (id == other) ≡ false → list_any (is_one other) near ≡ true → list_any (is_one other) (filter (λ (r : Rec). not (r.id == id)) near) ≡ true
  still id other [] differ there = there
  still id other (r ∷ near) differ there =
      elim (cases_Bool (r.id == id)) [
        | inl same ↦ rw same (still id other near differ (elim (or_cases (is_one other r) (list_any (is_one other) near) there) [
          | inl here ↦ absurd (not_here r same here)
          | inr later ↦ later
        ]))
        | inr away ↦ rw away (elim (or_cases (is_one other r) (list_any (is_one other) near) there) [
          | inl here ↦ or_left _ _ here
          | inr later ↦ or_right _ _ (still id other near differ later)
        ])
      ]
    where
      not_here : (r : Rec) → (r.id == id) ≡ true → is_one other r ≡ true → ⊥
      not_here r same here = elim (cases_Bool (r.id == other)) [
        | inl also ↦ true≢false (sym (eq-eqb id other (sym (eqb-true r.id id same) ∙ eqb-true r.id other also)) ∙ differ)
        | inr none ↦ false≢true (ap (λ (b : Bool). b && is_inside (abs_of r) region) (sym none) ∙ here)
      ]

  all_still : (id : ℕ) (near : List Rec) (states : List NewState) → AllByRecursion (λ (t : NewState). (id == t.id) ≡ false) states
      → AllByRecursion (λ (t : NewState). list_any (is_one t.id) near ≡ true) states
      → AllByRecursion (λ (t : NewState). list_any (is_one t.id) (filter (λ (r : Rec). not (r.id == id)) near) ≡ true) states
  all_still id near [] differ all = tt
  all_still id near (t ∷ states) differ all = (still id t.id near differ.0 all.0, all_still id near states differ.1 all.1)

  -- there are at most as many states as records
  few_listed : (near : List Rec) (states : List NewState) → IsDistinct (λ (a b : NewState). a.id == b.id) states
      → AllByRecursion (λ (t : NewState). list_any (is_one t.id) near ≡ true) states → length states ≤ length near
  few_listed near [] apart all = omega arith
  few_listed near (s ∷ states) apart all =
      let less = shorter s.id near all.0 in
      let differ = IsDistinct-head (λ (a b : NewState). a.id == b.id) s states apart in
      let rest = few_listed (filter (λ (r : Rec). not (r.id == s.id)) near) states (IsDistinct-tail (λ (a b : NewState). a.id == b.id) s states apart)
      (all_still s.id near states differ all.1) in
      omega (arith, less, rest)

-- ---- the effect on what was loaded

near_few : (F : Fixed) (view : View) → length (loaded_near F view) ≤ length F.start.ids
near_few F view =
    let others = filter (λ (id : ℕ). not (id == view.cmd.slot)) F.start.ids in
    let first = filter_few (λ (id : ℕ). not (id == view.cmd.slot)) F.start.ids in
    let second = filter_map_few (record_loaded F view.others view.states) others in
    let third = filter_few (λ (r : Rec). touches_region (abs_of r) (region_in F view.cmd view.own)) (filter_map (record_loaded F view.others view.states) others) in
    omega (arith, first, second, third)

pub few_states : (F : Fixed) (core : Core) (history : List Item) (now : World) (i : ℕ) → IsLawful F → IsStart F → (core.view i).point ≡ Resolving → Stands F core history now
    → length (effect_loaded F (core.view i)).states ≤ length F.start.ids
few_states F core history now i lawful start at is =
    let view = core.view i in
    let me = record_read view.cmd.slot view.again in
    let near = loaded_near F view in
    let region = F.region_of me view.cmd in
    let within = lawful.footprint.within me near view.cmd (effect_may_be_asked F core history now i lawful start at is) in
    let states = (effect_loaded F view).states in
    let all = recursion_from_All (λ (s : NewState). is_of_one_inside region near s ≡ true) states within.listed in
    let few = few_listed region near states within.apart all in
    let least = near_few F view in
    omega (arith, few, least)
