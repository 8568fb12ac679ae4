-- What the commit of a seat that holds its region leaves: the records that touch the region of another seat that holds all its leaves.
use Rattle.std.proofs.Common.{◌≡◌, ℕ, Bool, true, false, not, List, [], ◌∷◌, map, refl, sym, ap, ◌∙◌, subst, inl, inr, None}
use Rattle.std.specs.Prelude.{◌==◌, ◌||◌, filter, is_some}
use Rattle.std.proofs.lemmas.Bool.{cases_Bool, false≢true, true≢false, eqb-true, or_cases, cond-true, cond-false, false_from_ne_true}
use Rattle.std.proofs.lemmas.List.Elements.{recursion_from_All}
use Rattle.arena_geo.specs.Bounds.{Bounds}
use Rattle.arena_geo.specs.Regions.{is_inside}
use Rattle.entity_recs.specs.declared.rec.Rec.{Rec}
use Rattle.entity_recs.specs.declared.effect.NewState.{NewState}
use Rattle.entity_recs.specs.Bodies.{abs_of}
use Rattle.entity_recs.specs.Worlds.{World, others_of}
use Rattle.entity_recs.specs.Histories.{Item, outcome, apply}
use Rattle.entity_recs.specs.Actions.{records_touching, is_of_one_inside}
use Rattle.core_steps.specs.Cells.{Cell}
use Rattle.core_steps.specs.Nodes.{Fixed}
use Rattle.core_steps.specs.Points.{stage_of, is_settled, stores_owed}
use Rattle.core_steps.specs.Reads.{region_in, state_at}
use Rattle.core_steps.specs.Steps.{Core}
use Rattle.core_steps.specs.Stands.{IsStart, IsLawful, OwesRight, Stands, touches_own, owed_at}
use Rattle.core_steps.proofs.Runs.{IsRunWorld, is_call, live_ordered, other_after, actor_after, world_after_one}
use Rattle.core_steps.proofs.Exclusion.{IsSettledSeat, now_world, settled_seat, inside_touches, own_touches_in, own_touches, regions_apart}
use Rattle.core_steps.proofs.Owing.{is_written}
use Rattle.core_steps.proofs.Quiet.{IsListedInside, listed_inside, nothing_owed, id_of_cell, written_by}
use Rattle.core_steps.proofs.Changes.{unwritten_record, unwritten_value, owes_still}

-- the records that pass a test are the same where each record that passes it in one world is the same in both
same_passing : (test : Rec → Bool) (g h : ℕ → Rec) (ids : List ℕ) → ((id : ℕ) → test (g id) ≡ true → g id ≡ h id) → ((id : ℕ) → test (h id) ≡ true → g id ≡ h id)
    → filter test (map g ids) ≡ filter test (map h ids)
same_passing test g h [] one two = refl
same_passing test g h (id ∷ ids) one two =
    let rest = same_passing test g h ids one two in
    elim (cases_Bool (test (g id))) [
      | inl e ↦
          subst (λ (r : Rec). filter test (g id ∷ map g ids) ≡ filter test (r ∷ map h ids)) (one id e)
          (cond-true (test (g id)) (g id ∷ filter test (map g ids)) (filter test (map g ids)) e ∙ ap (λ (rs : List Rec). g id ∷ rs) rest
          ∙ sym (cond-true (test (g id)) (g id ∷ filter test (map h ids)) (filter test (map h ids)) e))
      | inr e ↦
          let away : test (h id) ≡ false = false_from_ne_true _ (λ passes. true≢false (sym passes ∙ ap test (sym (two id passes)) ∙ e)) in
          cond-false (test (g id)) (g id ∷ filter test (map g ids)) (filter test (map g ids)) e ∙ rest
          ∙ sym (cond-false (test (h id)) (h id ∷ filter test (map h ids)) (filter test (map h ids)) away)
    ]

module _ (F : Fixed) (core : Core) (history : List Item) (now : World) (i : ℕ) (lawful : IsLawful F) (start : IsStart F) (is : Stands F core history now) (settled : is_settled (stage_of (core.view i).point) ≡ true) where
  -- the id is the actor's or one whose state the outcome lists
  abbrev is_changed : ℕ → Bool
  is_changed id = (id == (core.view i).cmd.slot) || is_some (state_at (outcome F.effect_of now (core.view i).cmd).states id)

  -- the region of the seat
  abbrev own_region : List Bounds
  own_region = region_in F (core.view i).cmd (core.view i).own

  -- the world after the seat's command
  abbrev new : World
  new = apply F.effect_of now (core.view i).cmd

  -- what an outcome lists is live, isn't the actor's, and lies inside the region
  pub listed_here : (id : ℕ) → is_some (state_at (outcome F.effect_of now (core.view i).cmd).states id) ≡ true → IsListedInside F now (core.view i).cmd.slot own_region id
  listed_here id listed =
      let cmd = (core.view i).cmd in
      let mine = settled_seat F core history now i lawful start is settled in
      let world = now_world F core history now lawful start is in
      let there = F.region_of (now.record_of cmd.slot) cmd in
      let within = lawful.footprint.within (now.record_of cmd.slot) (others_of now cmd.slot) cmd (is_call F now cmd start world mine.given) in
      let all = recursion_from_All (λ (s : NewState). is_of_one_inside there (others_of now cmd.slot) s ≡ true) (outcome F.effect_of now cmd).states within.listed in
      subst (λ (region : List Bounds). IsListedInside F now cmd.slot region id) (sym mine.region)
      (listed_inside F now cmd.slot there (outcome F.effect_of now cmd).states id world all listed)

  -- what the outcome changes lies inside the region before it
  changed_inside : (id : ℕ) → is_changed id ≡ true → is_inside (abs_of (now.record_of id)) own_region ≡ true
  changed_inside id changed =
      let cmd = (core.view i).cmd in
      let mine = settled_seat F core history now i lawful start is settled in
      let world = now_world F core history now lawful start is in
      let within = lawful.footprint.within (now.record_of cmd.slot) (others_of now cmd.slot) cmd (is_call F now cmd start world mine.given) in
      elim (or_cases (id == cmd.slot) (is_some (state_at (outcome F.effect_of now cmd).states id)) changed) [
        | inl own ↦
            subst (λ (n : ℕ). is_inside (abs_of (now.record_of n)) own_region ≡ true) (sym (eqb-true id cmd.slot own))
            (ap (is_inside (abs_of (now.record_of cmd.slot))) mine.region ∙ within.before)
        | inr listed ↦ (listed_here id listed).inside
      ]

  -- what the outcome changes lies inside the region after it
  changed_inside_after : (id : ℕ) → is_changed id ≡ true → is_inside (abs_of (new.record_of id)) own_region ≡ true
  changed_inside_after id changed =
      let cmd = (core.view i).cmd in
      let mine = settled_seat F core history now i lawful start is settled in
      let world = now_world F core history now lawful start is in
      let within = lawful.footprint.within (now.record_of cmd.slot) (others_of now cmd.slot) cmd (is_call F now cmd start world mine.given) in
      elim (or_cases (id == cmd.slot) (is_some (state_at (outcome F.effect_of now cmd).states id)) changed) [
        | inl own ↦
            subst (λ (n : ℕ). is_inside (abs_of (new.record_of n)) own_region ≡ true) (sym (eqb-true id cmd.slot own))
            (ap (λ (r : Rec). is_inside (abs_of r) own_region) (actor_after F now cmd) ∙ ap (is_inside (abs_of (outcome F.effect_of now cmd).me)) mine.region ∙ within.after)
        | inr listed ↦
            let thing = listed_here id listed in
            ap (λ (r : Rec). is_inside (abs_of r) own_region) (other_after F now cmd id thing.other) ∙ thing.inside
      ]

  -- what the outcome changes touches the region
  pub changed_touches : (id : ℕ) → is_changed id ≡ true → touches_own own_region (now.record_of id) ≡ true
  changed_touches id changed =
      let cmd = (core.view i).cmd in
      let world = now_world F core history now lawful start is in
      elim (or_cases (id == cmd.slot) (is_some (state_at (outcome F.effect_of now cmd).states id)) changed) [
        | inl own ↦ subst (λ (n : ℕ). touches_own own_region (now.record_of n) ≡ true) (sym (eqb-true id cmd.slot own)) (own_touches F core history now i lawful start is settled)
        | inr listed ↦
            let thing = listed_here id listed in
            inside_touches (abs_of (now.record_of id)) own_region (live_ordered F now id lawful world thing.live) thing.inside
      ]

  -- no seat owes a cell that the outcome writes
  pub written_is_unowed : (j : ℕ) (cell : Cell) → is_written (core.view i).cmd.slot (outcome F.effect_of now (core.view i).cmd).states cell ≡ true
      → owed_at (stores_owed (core.view j).point) cell ≡ None
  written_is_unowed j cell written =
      nothing_owed F core history now i cell lawful start is settled
      (changed_touches (id_of_cell cell) (written_by (core.view i).cmd.slot (outcome F.effect_of now (core.view i).cmd).states cell written)) j

  -- what a seat owes is right still after the outcome
  pub owes_after : (j : ℕ) → OwesRight now (stores_owed (core.view j).point) → OwesRight new (stores_owed (core.view j).point)
  owes_after j right = owes_still now new (stores_owed (core.view j).point) (λ cell owed. unwritten_value F now (core.view i).cmd cell (false_from_ne_true _ (λ written.
      false≢true (ap is_some (sym (written_is_unowed j cell written)) ∙ owed)))) right

  -- ---- another seat that holds all its leaves

  -- the region of another seat
  abbrev region_at : ℕ → List Bounds
  region_at j = region_in F (core.view j).cmd (core.view j).own

  -- what touches its region before the outcome isn't changed
  pub same_there : (j : ℕ) → (j == i) ≡ false → IsSettledSeat F now (core.view j) → (id : ℕ) → touches_own (region_at j) (now.record_of id) ≡ true
      → new.record_of id ≡ now.record_of id
  same_there j other theirs id touches = unwritten_record F now (core.view i).cmd id (false_from_ne_true _ (λ changed.
      regions_apart F core history now j i (region_at j) own_region (abs_of (now.record_of id)) is other
      theirs.holds_it (settled_seat F core history now i lawful start is settled).holds_it (changed_inside id changed) touches))

  -- what touches its region after the outcome isn't changed
  pub same_after : (j : ℕ) → (j == i) ≡ false → IsSettledSeat F now (core.view j) → (id : ℕ) → touches_own (region_at j) (new.record_of id) ≡ true
      → new.record_of id ≡ now.record_of id
  same_after j other theirs id touches = unwritten_record F now (core.view i).cmd id (false_from_ne_true _ (λ changed.
      regions_apart F core history now j i (region_at j) own_region (abs_of (new.record_of id)) is other
      theirs.holds_it (settled_seat F core history now i lawful start is settled).holds_it (changed_inside_after id changed) touches))

  -- its own record isn't changed
  pub same_own : (j : ℕ) → (j == i) ≡ false → IsSettledSeat F now (core.view j) → new.record_of (core.view j).cmd.slot ≡ now.record_of (core.view j).cmd.slot
  same_own j other theirs = same_there j other theirs (core.view j).cmd.slot (own_touches_in F core history now j lawful start is theirs)

  -- the world after the outcome is one of a run
  pub new_world : IsRunWorld F new
  new_world =
      world_after_one F now (core.view i).cmd lawful start (now_world F core history now lawful start is) (settled_seat F core history now i lawful start is settled).given

  -- the outcome of its command is the same
  pub same_outcome : (j : ℕ) → (j == i) ≡ false → IsSettledSeat F now (core.view j)
      → outcome F.effect_of now (core.view j).cmd ≡ outcome F.effect_of new (core.view j).cmd
  same_outcome j other theirs =
      let cmd = (core.view j).cmd in
      let world = now_world F core history now lawful start is in
      let me = same_own j other theirs in
      let ids = filter (λ id. not (id == cmd.slot)) now.ids in
      let near : records_touching (F.region_of (now.record_of cmd.slot) cmd) (others_of now cmd.slot) ≡ records_touching (F.region_of (now.record_of cmd.slot) cmd) (others_of new cmd.slot) =
      subst (λ (region : List Bounds). records_touching region (others_of now cmd.slot) ≡ records_touching region (others_of new cmd.slot)) theirs.region
      (same_passing (touches_own (region_at j)) now.record_of new.record_of ids (λ id touches. sym (same_there j other theirs id touches)) (λ id touches. sym (same_after j other theirs id touches))) in
      let before = lawful.locality.near (now.record_of cmd.slot) (others_of now cmd.slot) cmd (is_call F now cmd start world theirs.given) in
      let after = lawful.locality.near (new.record_of cmd.slot) (others_of new cmd.slot) cmd (is_call F new cmd start new_world theirs.given) in
      before
      ∙ ap (λ (rs : List Rec). F.effect_of (now.record_of cmd.slot) rs cmd) near
      ∙ ap (λ (r : Rec). F.effect_of r (records_touching (F.region_of r cmd) (others_of new cmd.slot)) cmd) (sym me)
      ∙ sym after
