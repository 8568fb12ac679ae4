-- The records that the words of a table have, where the words are those of a run.
use Rattle.std.proofs.Common.{◌≡◌, ℕ, ◌<◌, ◌≤◌, true, List, refl, sym, ap, ◌∙◌, inl, inr, arith, slice_index}
use Rattle.std.specs.Prelude.{nat_lt}
use Rattle.std.proofs.lemmas.Bool.{cases_Bool, cond-true, cond-false, and_from, lt-ltb, ltb-true, ltb-false}
use Rattle.entity_recs.specs.declared.limits.TheConstants.{IDS}
use Rattle.entity_recs.specs.declared.rec.Rec.{Rec}
use Rattle.entity_recs.specs.Records.{with_state}
use Rattle.entity_recs.specs.Worlds.{World}
use Rattle.world_tree.specs.Live.{IsEntry}
use Rattle.core_steps.specs.Cells.{Body, State, cell_index}
use Rattle.core_steps.specs.Encoding.{words_of, record_from}
use Rattle.core_steps.specs.Nodes.{Fixed, has}
use Rattle.core_steps.specs.Stands.{is_live_cell, is_player, value_in, IsLawful, IsStart}
use Rattle.core_steps.proofs.Runs.{IsRunWorld, start_world}
use Rattle.core_steps.proofs.Exclusion.{SameFive, player_from_words}
use Rattle.core_steps.proofs.TableWords.{live_in}
use Rattle.ruled_words.specs.Ends.{body_in, state_in, record_in}

-- the words of each live record are those of the world
pub record HasRecordWords (F : Fixed) (words : List ℕ) (now : World) : Type 0 where
  pub body : (slot k : ℕ) → slot < 64 → k < 5 → is_live_cell F (Body slot k) ≡ true
      → slice_index words (cell_index (Body slot k)) ≡ value_in now (Body slot k)
  pub state : (id : ℕ) → id < IDS → is_live_cell F (State id) ≡ true
      → slice_index words (cell_index (State id)) ≡ value_in now (State id)

module _ (F : Fixed) (words : List ℕ) (now : World) (lawful : IsLawful F) (start : IsStart F) (is : IsRunWorld F now) (here : HasRecordWords F words now) where
  state_read : (id : ℕ) → has F.start.ids id ≡ true → state_in words id ≡ (now.record_of id).state
  state_read id live = here.state id (live_in F id lawful start live) live

  body_read : (slot k : ℕ) → slot < 64 → has F.start.ids slot ≡ true → k < 5
      → slice_index words (cell_index (Body slot k)) ≡ value_in now (Body slot k)
  body_read slot k below live within =
      here.body slot k below within
      (and_from (is_player F slot) (nat_lt k 5) (and_from (nat_lt slot 64) (has F.start.ids slot) (lt-ltb slot 64 below) live) (lt-ltb k 5 within))

  same_five : (slot : ℕ) → slot < 64 → has F.start.ids slot ≡ true → SameFive (body_in words slot) (words_of (now.record_of slot))
  same_five slot below live = record {
    zeroth = body_read slot 0 below live (omega arith);
    first = body_read slot 1 below live (omega arith);
    second = body_read slot 2 below live (omega arith);
    third = body_read slot 3 below live (omega arith);
    fourth = body_read slot 4 below live (omega arith);
  }

  player_read : (slot : ℕ) → slot < 64 → has F.start.ids slot ≡ true
      → record_from slot (body_in words slot) (state_in words slot) ≡ now.record_of slot
  player_read slot below live =
      player_from_words F now slot (state_in words slot) (body_in words slot) lawful is below live (same_five slot below live)
      ∙ ap (with_state (now.record_of slot)) (state_read slot live)

  thing_read : (id : ℕ) → 64 ≤ id → has F.start.ids id ≡ true → with_state (F.start.record_of id) (state_in words id) ≡ now.record_of id
  thing_read id thing live = ap (with_state (F.start.record_of id)) (state_read id live) ∙ sym (is.things id thing)

  -- the record with this id that the words have in place of one
  read_in_place : (id : ℕ) → has F.start.ids id ≡ true → (r : Rec) → r ≡ F.start.record_of id → r.id ≡ id → record_in words r ≡ now.record_of id
  read_in_place id live r at own = elim (cases_Bool (nat_lt r.id 64)) [
    | inl player ↦
        let below : id < 64 = let b = ltb-true r.id 64 player in omega (arith, b, own) in
        cond-true (nat_lt r.id 64) (record_from r.id (body_in words r.id) (state_in words r.id)) (with_state r (state_in words r.id)) player
        ∙ ap (λ (n : ℕ). record_from n (body_in words n) (state_in words n)) own ∙ player_read id below live
    | inr thing ↦
        let above : 64 ≤ id = let b = ltb-false r.id 64 thing in omega (arith, b, own) in
        cond-false (nat_lt r.id 64) (record_from r.id (body_in words r.id) (state_in words r.id)) (with_state r (state_in words r.id)) thing
        ∙ ap (λ (n : ℕ). with_state r (state_in words n)) own ∙ ap (λ (x : Rec). with_state x (state_in words id)) at ∙ thing_read id above live
  ]

  pub record_read_is : (id : ℕ) → has F.start.ids id ≡ true → record_in words (F.start.record_of id) ≡ now.record_of id
  record_read_is id live = read_in_place id live (F.start.record_of id) refl ((start_world F start).own id live)

  pub is_entry : (id : ℕ) → has F.start.ids id ≡ true → IsEntry id (now.record_of id)
  is_entry id live = record {
    is_record = (lawful.validity.keepable (now.record_of id) (is.taken id live)).bounds;
    own_id = is.own id live;
  }
