-- A pass after its step: the seat in plain values makes the step that its hand has made.
use Rattle.std.proofs.Common.{◌≡◌, ℕ, ◌+◌, ◌≤◌, length, arith, true, false, sym, ap, ◌∙◌, subst, Option, None, is_some}
use Rattle.std.specs.Option.{option_map}
use Rattle.atomic_table.specs.Seated.{TableId}
use Rattle.entity_recs.specs.declared.effect.Effect.{Effect}
use Rattle.core_steps.specs.Nodes.{Fixed}
use Rattle.core_steps.specs.Reads.{View}
use Rattle.core_seats.specs.Going.{view_found}
use Rattle.entity_recs.specs.Commands.{command_of}
use Rattle.core_machine.specs.declared.seat.Seat as seats
use Rattle.core_seats.specs.Ready.{is_resolving}
use Rattle.core_machine.specs.Seats.{view_of, given_of, things_room}
use Rattle.ruled_words.specs.Passes.{PassView, TableView, effect_kept, next_of_pass, pass_after, IsPassOf, HasGone}
use Rattle.ruled_words.specs.Hands.{pass_beside}
use Rattle.world_tree.specs.Nears.{NearView}
use Rattle.ruled_words.specs.declared.setting.Setting.{Setting}
use Rattle.region_locks.specs.Following.{CanFollow}
use Rattle.region_locks.specs.PassLists.{HasItsLists, pass_view}
use Rattle.ruled_words.proofs.Owns.{own_after}
use Rattle.core_seats.specs.Nexts.{the_next}

-- the hand's pass is the pass
pub beside_is : (p hand : PassView) (seat : seats.Seat) (effect : Option Effect) (near : NearView) → pass_view hand seat effect ≡ p → HasItsLists hand seat near
    → pass_beside hand (given_of seat) seat.quits effect ≡ p
beside_is p hand seat effect near is lists =
    ap (λ (v : View). record (pass_beside hand (given_of seat) seat.quits effect) { view = v }) (sym lists.same_view) ∙ is

-- what holds of a pass of a table holds of its hand's pass
pub of_hand : {A : Type 0} (P : TableView A → PassView → Type 0) (t u : TableView A) (p q : PassView) → t ≡ u → q ≡ p → P u p → P t q
of_hand P t u p q same is here = subst (λ (v : TableView _). P v q) (sym same) (subst (P u) (sym is) here)

-- the view after what comes next of a pass
abbrev view_next : Fixed → PassView → ℕ → View
view_next F p found = view_found F p.view (the_next (next_of_pass F p)) found

-- the seat in plain values may make the step that its hand has made
pub can_follow : (F G : Fixed) (passes : ℕ) (table : TableId) (p q : PassView) (found : ℕ) (hand : PassView)
    → G ≡ F → q ≡ p → IsPassOf F passes table p → is_some (next_of_pass F p) ≡ true → HasGone F passes p found hand
    → CanFollow G q.view q.given q.quits q.effect found
can_follow F G passes table p q found hand same is own comes gone =
    subst (λ (H : Fixed). CanFollow H q.view q.given q.quits q.effect found) (sym same)
    (subst (λ (r : PassView). CanFollow F r.view r.given r.quits r.effect found) (sym is) (record {
      comes = comes;
      ready = record {
        sound = own.sound_sight.sound;
        pending = own.pending;
        taking = own.may_quit;
        due = λ e at some. own.has_effect (ap is_resolving at) e some;
      };
      after = gone.sound_sight.sound;
      small = gone.small;
    }))

-- what a pass is after its step
pub record Stepped (F : Fixed) (passes : ℕ) (table : TableId) (p : PassView) (found : ℕ) (hand : PassView) (seat : seats.Seat) (effect : Option Effect) : Type 0 where
  pub same_view : view_of seat ≡ hand.view
  pub pass : pass_view hand seat effect ≡ pass_after F (the_next (next_of_pass F p)) found p
  pub own : IsPassOf F passes table (pass_view hand seat effect)

module _ (F G : Fixed) (passes : ℕ) (table : TableId) (p : PassView) (found : ℕ) (old new : PassView) (seat after : seats.Seat) (effect effect_after : Option Effect)
    (same : G ≡ F) (is : pass_view old seat effect ≡ p) (own : IsPassOf F passes table p) (comes : is_some (next_of_pass F p) ≡ true)
    (gone : HasGone F passes p found new) where
  pub stepped : view_of after ≡ view_next G (pass_view old seat effect) found → after.given ≡ None → after.quits ≡ false → effect_after ≡ effect_kept (view_of after) effect
      → Stepped F passes table p found new after effect_after
  stepped follows given quits kept =
      let q = pass_view old seat effect in
      let followed : view_of after ≡ view_next F p found = follows ∙ ap (λ (H : Fixed). view_next H q found) same ∙ ap (λ (r : PassView). view_next F r found) is in
      let effect_is : effect_after ≡ effect_kept (view_next F p found) p.effect =
      kept ∙ ap (λ (r : PassView). effect_kept (view_of after) r.effect) is ∙ ap (λ (v : View). effect_kept v p.effect) followed in
      let pass : pass_view new after effect_after ≡ pass_after F (the_next (next_of_pass F p)) found p = λ i. record {
        table = gone.same_table i;
        setting = gone.same_setting i;
        number = gone.same_number i;
        given = option_map command_of (given i);
        quits = quits i;
        effect = effect_is i;
        view = followed i;
        tally = gone.tally i;
      } in
      record {
        same_view = followed ∙ sym gone.went;
        pass = pass;
        own = subst (IsPassOf F passes table) (sym pass) (own_after F passes table p found own comes gone.sound_sight);
      }

-- how many records a pass knows of are those of the start
records_are : (F : Fixed) (passes : ℕ) (table : TableId) (p hand : PassView) (seat : seats.Seat) (effect : Option Effect)
    → pass_view hand seat effect ≡ p → IsPassOf F passes table p → hand.setting.records ≡ length F.start.ids
records_are F passes table p hand seat effect is own = ap (λ (q : PassView). q.setting.records) is ∙ ap (λ (s : Setting). s.records) own.at_setting

-- the seat in plain values has room for the states of all things
pub things_room_for : (F G : Fixed) (passes : ℕ) (table : TableId) (p hand : PassView) (seat : seats.Seat) (effect : Option Effect) (near : NearView)
    → G ≡ F → pass_view hand seat effect ≡ p → IsPassOf F passes table p → HasItsLists hand seat near → length G.start.ids ≤ things_room seat
things_room_for F G passes table p hand seat effect near same is own lists =
    let records = records_are F passes table p hand seat effect is own in
    let all = ap (λ (H : Fixed). length H.start.ids) same in
    let fits = lists.things_fit in
    omega (arith, records, all, fits)

-- the near list has room for all that a move can touch
pub near_room_for : (F : Fixed) (passes : ℕ) (table : TableId) (p hand : PassView) (seat : seats.Seat) (effect : Option Effect) (near : NearView)
    → pass_view hand seat effect ≡ p → IsPassOf F passes table p → HasItsLists hand seat near → 64 + length F.start.ids ≤ near.room
near_room_for F passes table p hand seat effect near is own lists =
    let records = records_are F passes table p hand seat effect is own in
    let fits = lists.near_fits in
    omega (arith, records, fits)

-- the lists have their room after the step
pub lists_kept : (F : Fixed) (passes : ℕ) (table : TableId) (p : PassView) (found : ℕ) (old new : PassView) (seat after : seats.Seat) (effect effect_after : Option Effect) (near : NearView)
    → pass_view old seat effect ≡ p → IsPassOf F passes table p → HasItsLists old seat near → Stepped F passes table p found new after effect_after
    → things_room after ≡ things_room seat → HasItsLists new after near
lists_kept F passes table p found old new seat after effect effect_after near is own lists stepped_to kept =
    let before = records_are F passes table p old seat effect is own in
    let records = ap (λ (s : Setting). s.records) stepped_to.own.at_setting in
    let things = lists.things_fit in
    let fits = lists.near_fits in
    record {
      same_view = stepped_to.same_view;
      things_fit = omega (arith, before, records, things, kept);
      near_fits = omega (arith, before, records, fits);
    }
