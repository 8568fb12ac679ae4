-- The worlds of a run: the same ids are live in each, each record has its id and is taken, and things of the map change their states alone.
use Rattle.std.proofs.Common.{◌≡◌, ℕ, ◌≤◌, true, false, not, List, [], ◌∷◌, ◌++◌, map, refl, sym, ap, ◌∙◌, subst, inl, inr, arith}
use Rattle.std.specs.Prelude.{◌==◌, filter}
use Rattle.std.specs.List.{AllByRecursion}
use Rattle.std.specs.List.Sorted.{IsStrictlyIncreasing}
use Rattle.std.proofs.lemmas.Bool.{cases_Bool, false≢true, eqb-true, eqb-false, eq-eqb, ne_eqb, or_cases, or_left, or_right, cond-true}
use Rattle.std.proofs.lemmas.List.Elements.{All-from_recursion, recursion_from_All, All-map}
use Rattle.std.proofs.lemmas.List.Kept.{IsStrictlyIncreasing-filter}
use Rattle.arena_geo.specs.Bounds.{IsOrdered}
use Rattle.entity_recs.specs.declared.rec.Rec.{Rec}
use Rattle.entity_recs.specs.declared.effect.NewState.{NewState}
use Rattle.entity_recs.specs.Records.{with_state}
use Rattle.entity_recs.specs.Bodies.{abs_of}
use Rattle.entity_recs.specs.Commands.{Command}
use Rattle.entity_recs.specs.Worlds.{World, others_of}
use Rattle.entity_recs.specs.Histories.{Action, Item, outcome, with_new_state, apply, run}
use Rattle.entity_recs.specs.Actions.{IsCall}
use Rattle.entity_recs.proofs.Standing.{records_have_boxes}
use Rattle.core_steps.specs.Nodes.{Fixed, has}
use Rattle.core_steps.specs.Stands.{IsGiven, IsStart, IsLawful}
use Rattle.core_steps.proofs.Lists.{has_filter}

-- ---- lists

pub all_at : (P : ℕ → Type 0) (xs : List ℕ) → AllByRecursion P xs → (v : ℕ) → has xs v ≡ true → P v
all_at P [] all v h = absurd (false≢true h)
all_at P (x ∷ xs) all v h =
    elim (or_cases (x == v) (has xs v) h) [
      | inl same ↦ subst P (eqb-true x v same) all.0
      | inr rest ↦ all_at P xs all.1 v rest
    ]

pub all_from_has : (P : ℕ → Type 0) (xs : List ℕ) → ((v : ℕ) → has xs v ≡ true → P v) → AllByRecursion P xs
all_from_has P [] each = tt
all_from_has P (x ∷ xs) each = (each x (or_left _ _ (eq-eqb x x refl)), all_from_has P xs (λ v h. each v (or_right _ _ h)))

pub ids_of_records : (g : ℕ → Rec) (xs : List ℕ) → ((v : ℕ) → has xs v ≡ true → (g v).id ≡ v) → map (λ (r : Rec). r.id) (map g xs) ≡ xs
ids_of_records g [] own = refl
ids_of_records g (x ∷ xs) own =
    let head = own x (or_left _ _ (eq-eqb x x refl)) in
    let tail = ids_of_records g xs (λ v h. own v (or_right _ _ h)) in
    cc

-- ---- the worlds of a run

pub record IsRunWorld (F : Fixed) (w : World) : Type 0 where
  pub ids : w.ids ≡ F.start.ids
  pub own : (id : ℕ) → has F.start.ids id ≡ true → (w.record_of id).id ≡ id
  pub taken : (id : ℕ) → has F.start.ids id ≡ true → F.takes (w.record_of id) ≡ true
  pub things : (id : ℕ) → 64 ≤ id → w.record_of id ≡ with_state (F.start.record_of id) (w.record_of id).state

pub start_world : (F : Fixed) → IsStart F → IsRunWorld F F.start
start_world F start = record {
  ids = refl;
  own = λ id live. all_at (λ id. (F.start.record_of id).id ≡ id) F.start.ids (recursion_from_All (λ id. (F.start.record_of id).id ≡ id) F.start.ids start.own) id live;
  taken = λ id live. taken_at F.start.ids (recursion_from_All (λ r. F.takes r ≡ true) (map F.start.record_of F.start.ids) start.taken) id live;
  things = λ id _. refl;
}
  where
    taken_at : (xs : List ℕ) → AllByRecursion (λ (r : Rec). F.takes r ≡ true) (map F.start.record_of xs) → (id : ℕ) → has xs id ≡ true → F.takes (F.start.record_of id) ≡ true
    taken_at [] all id live = absurd (false≢true live)
    taken_at (x ∷ xs) all id live =
        elim (or_cases (x == id) (has xs id) live) [
          | inl same ↦ subst (λ (n : ℕ). F.takes (F.start.record_of n) ≡ true) (eqb-true x id same) all.0
          | inr rest ↦ taken_at xs all.1 id rest
        ]

-- the command of a live player is a call of the action
pub is_call : (F : Fixed) (w : World) (c : Command) → IsStart F → IsRunWorld F w → IsGiven F c → IsCall F.takes (w.record_of c.slot) (others_of w c.slot) c
is_call F w c start is given =
    let kept = filter (λ other. not (other == c.slot)) w.ids in
    let listed : (v : ℕ) → has kept v ≡ true → has F.start.ids v ≡ true =
    λ v h. subst (λ (ids : List ℕ). has ids v ≡ true) is.ids (has_filter (λ other. not (other == c.slot)) w.ids v h).listed in
    let own = is.own c.slot given.live in
    record {
      player = record { command = given.command; own = own; taken = is.taken c.slot given.live };
      others = All-map (λ (r : Rec). F.takes r ≡ true) w.record_of kept
          (All-from_recursion (λ id. F.takes (w.record_of id) ≡ true) kept (all_from_has (λ id. F.takes (w.record_of id) ≡ true) kept (λ v h. is.taken v (listed v h))));
      rising = subst IsStrictlyIncreasing (sym (ids_of_records w.record_of kept (λ v h. is.own v (listed v h))))
          (IsStrictlyIncreasing-filter (λ other. not (other == c.slot)) w.ids (subst IsStrictlyIncreasing (sym is.ids) start.rising));
      none_is_me = All-map (λ (r : Rec). (r.id == (w.record_of c.slot).id) ≡ false) w.record_of kept
          (All-from_recursion (λ id. ((w.record_of id).id == (w.record_of c.slot).id) ≡ false) kept
          (all_from_has (λ id. ((w.record_of id).id == (w.record_of c.slot).id) ≡ false) kept (λ v h. ne_eqb (w.record_of v).id (w.record_of c.slot).id (λ same.
          let passes = (has_filter (λ other. not (other == c.slot)) w.ids v h).passes in
          let equal : v ≡ c.slot = sym (is.own v (listed v h)) ∙ same ∙ own in
          false≢true (ap not (sym (eq-eqb v c.slot equal)) ∙ passes)))));
    }

-- a new state changes the state alone
pub new_state_alone : (states : List NewState) (id : ℕ) (r : Rec) → with_new_state states id r ≡ with_state r (with_new_state states id r).state
new_state_alone [] id r = refl
new_state_alone (s ∷ states) id r =
    elim (cases_Bool (s.id == id)) [ inl e ↦ rw e refl | inr e ↦ rw e (new_state_alone states id r) ]

-- the record of another id after a command has a new state alone
pub other_after : (F : Fixed) (w : World) (c : Command) (id : ℕ) → (id == c.slot) ≡ false
    → (apply F.effect_of w c).record_of id ≡ with_state (w.record_of id) ((apply F.effect_of w c).record_of id).state
other_after F w c id other = rw other (new_state_alone (outcome F.effect_of w c).states id (w.record_of id))

pub actor_after : (F : Fixed) (w : World) (c : Command) → (apply F.effect_of w c).record_of c.slot ≡ (outcome F.effect_of w c).me
actor_after F w c = cond-true (c.slot == c.slot) _ _ (eq-eqb c.slot c.slot refl)

pub world_after_one : (F : Fixed) (w : World) (c : Command) → IsLawful F → IsStart F → IsRunWorld F w → IsGiven F c → IsRunWorld F (apply F.effect_of w c)
world_after_one F w c lawful start is given =
    let call = is_call F w c start is given in
    let e = outcome F.effect_of w c in
    let within = lawful.footprint.within (w.record_of c.slot) (others_of w c.slot) c call in
    let me = actor_after F w c in
    let new = apply F.effect_of w c in
    record {
      ids = is.ids;
      own = λ id live. elim (cases_Bool (id == c.slot)) [
        | inl here ↦
            let same = eqb-true id c.slot here in
            subst (λ (n : ℕ). (new.record_of n).id ≡ n) (sym same) (ap (λ (r : Rec). r.id) me ∙ within.id ∙ is.own c.slot given.live)
        | inr other ↦ ap (λ (r : Rec). r.id) (other_after F w c id other) ∙ is.own id live
      ];
      taken = λ id live. elim (cases_Bool (id == c.slot)) [
        | inl here ↦
            let same = eqb-true id c.slot here in
            subst (λ (n : ℕ). F.takes (new.record_of n) ≡ true) (sym same) (ap F.takes me ∙ lawful.validity.me (w.record_of c.slot) (others_of w c.slot) c call)
        | inr other ↦ ap F.takes (other_after F w c id other) ∙ lawful.validity.any_state (w.record_of id) _ (is.taken id live)
      ];
      things = λ id thing.
          let other : (id == c.slot) ≡ false = ne_eqb id c.slot (λ same. let below = given.command.slot in absurd (omega arith)) in
          let step = other_after F w c id other in
          step ∙ ap (λ (r : Rec). with_state r (new.record_of id).state) (is.things id thing);
    }

pub world_of_run : (F : Fixed) (history : List Item) (w : World) → IsLawful F → IsStart F → IsRunWorld F w → AllByRecursion (λ (item : Item). IsGiven F item.command) history
    → IsRunWorld F (run F.effect_of w history)
world_of_run F [] w lawful start is given = is
world_of_run F (item ∷ history) w lawful start is given =
    world_of_run F history (apply F.effect_of w item.command) lawful start (world_after_one F w item.command lawful start is given.0) given.1

pub run_append : (act : Action) (w : World) (before after : List Item) → run act w (before ++ after) ≡ run act (run act w before) after
run_append act w [] after = refl
run_append act w (item ∷ before) after = run_append act (apply act w item.command) before after

-- items of other slots leave a record's box
pub box_kept : (F : Fixed) (after : List Item) (w : World) (slot : ℕ) → AllByRecursion (λ (item : Item). (item.command.slot == slot) ≡ false) after
    → abs_of ((run F.effect_of w after).record_of slot) ≡ abs_of (w.record_of slot)
box_kept F [] w slot none = refl
box_kept F (item ∷ after) w slot none =
    box_kept F after (apply F.effect_of w item.command) slot none.1
    ∙ ap abs_of (other_after F w item.command slot (ne_eqb slot item.command.slot (λ same. eqb-false item.command.slot slot none.0 (sym same))))

-- the boxes of live records are ordered
pub live_ordered : (F : Fixed) (w : World) (id : ℕ) → IsLawful F → IsRunWorld F w → has F.start.ids id ≡ true → IsOrdered (abs_of (w.record_of id))
live_ordered F w id lawful is live = (records_have_boxes (w.record_of id) (lawful.validity.keepable (w.record_of id) (is.taken id live)).bounds).abs.ordered
