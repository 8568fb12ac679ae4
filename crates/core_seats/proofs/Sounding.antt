-- Each view of a machine that stands is sound.
use Rattle.std.proofs.Common.{◌≡◌, ℕ, ◌<◌, true, List, ◌∷◌, refl, sym, ap, ◌∙◌, subst, inl, inr, Some}
use Rattle.std.proofs.lemmas.Bool.{cases_Bool, false≢true, cond-false}
use Rattle.entity_recs.specs.declared.rec.Rec.{Rec}
use Rattle.entity_recs.specs.declared.effect.Effect.{Effect}
use Rattle.entity_recs.specs.Actions.{HasPlayer}
use Rattle.entity_recs.specs.Worlds.{World, others_of}
use Rattle.entity_recs.specs.Histories.{Item}
use Rattle.core_steps.specs.declared.sizes.TheConstants.{TABLE_WORDS}
use Rattle.core_steps.specs.Nodes.{Fixed, FitsTable}
use Rattle.core_steps.specs.Points.{Store, Point, Idle, Owning, Taking, Checking, Entering, Entered, Loading, Leaving}
use Rattle.core_steps.specs.Points.{Sensing, Resolving, Claiming, Storing, Releasing, Returning, Yielding, stage_of}
use Rattle.core_steps.specs.Points.{is_settled, is_read_again, stores_owed}
use Rattle.core_steps.specs.Reads.{record_read}
use Rattle.core_steps.specs.Steps.{is_taking, first_yield}
use Rattle.core_steps.specs.Stands.{IsLawful, IsStart}
use Rattle.core_steps.specs.Machine.{Machine, StoreWord, index_of_store, next_of, next_at, quitting, MachineStands}
use Rattle.core_steps.proofs.Runs.{is_call}
use Rattle.core_steps.proofs.Exclusion.{now_world, settled_seat}
use Rattle.core_steps.proofs.Resolved.{again_is}
use Rattle.core_steps.proofs.Asking.{region_may_be_asked, effect_may_be_asked}
use Rattle.core_steps.proofs.TableWords.{steps_have_their_word}
use Rattle.core_steps.proofs.TreeNodes.{each_tree_fits}
use Rattle.core_seats.specs.Laws.{StandingViewsAreSound}

module _ (F : Fixed) (m : Machine) (history : List Item) (now : World) (i : ℕ) (lawful : IsLawful F) (start : IsStart F) (fits : FitsTable F) (is : MachineStands F m history now) where
  stored_next : (nodes : List ℕ) (store : Store) (stores : List Store) → (m.core.view i).point ≡ Storing nodes (store ∷ stores) → next_of F m i ≡ Some (StoreWord nodes store stores)
  stored_next nodes store stores e =
      let view = m.core.view i in
      elim (cases_Bool (m.quits i)) [
        | inl quits ↦ absurd (false≢true (sym (ap is_taking e) ∙ is.quits i quits))
        | inr goes ↦
            cond-false (m.quits i) (Some (quitting (first_yield F view))) (next_at F view (m.given i) view.point) goes
            ∙ ap (next_at F view (m.given i)) e
      ]

  owed_in_table : (point : Point) (store : Store) (stores : List Store) → (m.core.view i).point ≡ point → stores_owed point ≡ store ∷ stores
      → index_of_store store < TABLE_WORDS
  owed_in_table Idle store stores e owes = cc
  owed_in_table Owning store stores e owes = cc
  owed_in_table (Taking got rest) store stores e owes = cc
  owed_in_table Checking store stores e owes = cc
  owed_in_table (Entering node plan) store stores e owes = cc
  owed_in_table (Entered node plan) store stores e owes = cc
  owed_in_table (Loading node part players plan) store stores e owes = cc
  owed_in_table (Leaving node plan) store stores e owes = cc
  owed_in_table (Sensing ids) store stores e owes = cc
  owed_in_table Resolving store stores e owes = cc
  owed_in_table (Claiming got rest) store stores e owes = cc
  owed_in_table (Storing nodes owed) store stores e owes =
      (steps_have_their_word F m history now i (StoreWord nodes store stores) lawful start fits
      (stored_next nodes store stores (e ∙ ap (Storing nodes) owes)) is).in_table
  owed_in_table (Releasing nodes) store stores e owes = cc
  owed_in_table (Returning leaves) store stores e owes = cc
  owed_in_table (Yielding nodes leaves) store stores e owes = cc

  again_is_taken : is_settled (stage_of (m.core.view i).point) ≡ true → is_read_again (stage_of (m.core.view i).point) ≡ true
      → HasPlayer F.takes (record_read (m.core.view i).cmd.slot (m.core.view i).again) (m.core.view i).cmd
  again_is_taken settled read =
      let view = m.core.view i in
      let mine = settled_seat F m.core history now i lawful start is.core settled in
      let world = now_world F m.core history now lawful start is.core in
      subst (λ (r : Rec). HasPlayer F.takes r view.cmd) (sym (again_is F m.core history now i lawful start is.core settled read))
      (is_call F now view.cmd start world mine.given).player

  after_is_taken : is_settled (stage_of (m.core.view i).point) ≡ true → (e : Effect) → (m.core.view i).effect ≡ Some e → F.takes e.me ≡ true
  after_is_taken settled e in_view =
      let view = m.core.view i in
      let mine = settled_seat F m.core history now i lawful start is.core settled in
      let world = now_world F m.core history now lawful start is.core in
      let slot = view.cmd.slot in
      ap (λ (f : Effect). F.takes f.me) ((is.core.seats i).resolved.is_outcome settled e in_view)
      ∙ lawful.validity.me (now.record_of slot) (others_of now slot) view.cmd (is_call F now view.cmd start world mine.given)

pub sound_here : StandingViewsAreSound
sound_here F m history now i lawful start is depth =
    let seat = is.core.seats i in
    let fits = each_tree_fits F depth in
    record {
      depth = depth;
      own_part = seat.own.part;
      own_whole = seat.own.whole;
      again_whole = seat.right.whole;
      room = seat.counted.has_room;
      hand = seat.hand;
      whole = seat.own.leaves;
      holding = seat.holding;
      unread = seat.unread;
      at = seat.at;
      next = is.next i;
      fits = is.fits i;
      owed = λ store stores owes. owed_in_table F m history now i lawful start fits is (m.core.view i).point store stores refl owes;
      region = λ open' whole. region_may_be_asked F m.core history now i lawful start open' whole is.core;
      effect = λ at. effect_may_be_asked F m.core history now i lawful start at is.core;
      taken_again = again_is_taken F m history now i lawful start fits is;
      taken_after = after_is_taken F m history now i lawful start fits is;
    }
