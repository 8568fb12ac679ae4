-- A seat is ended into seat 0, which keeps the rule.
use Rattle.std.proofs.Common.{◌≡◌, ◌≢◌, ℕ, ◌%◌, ◌^◌, ◌<◌, ◌≤◌, true, false, List, length, refl, sym, ap, ◌∙◌, subst, inl, inr, arith, slice_set, All, length-set}
use Rattle.std.specs.Prelude.{◌==◌}
use mathlib.Core.Option as maybe
use lib.ListN.{get_elem?}
use Rattle.std.proofs.lemmas.Bool.{false≢true, ne_eqb}
use Rattle.std.proofs.lemmas.List.Elements.{recursion_from_All, All-from_recursion}
use Rattle.atomic_table.specs.Table.{State}
use Rattle.atomic_table.proofs.Lists.{at_set}
use Rattle.core_steps.specs.Cells.{put}
use Rattle.core_steps.specs.Nodes.{Fixed}
use Rattle.core_steps.specs.Points.{stage_of, is_busy}
use Rattle.core_steps.specs.Reads.{Ended, View, spent}
use Rattle.core_steps.specs.Steps.{Core, end_seat, with_ended}
use Rattle.core_steps.specs.Laws.{IsResting}
use Rattle.core_steps.specs.Machine.{HasNext, ViewFits, MachineStands}
use Rattle.core_steps.proofs.Puts.{each_put, put_same, put_other}
use Rattle.core_steps.proofs.Seats.{ended_seat_stands}
use Rattle.ruled_words.specs.Sights.{SightView, no_sight, with_one_ended}
use Rattle.ruled_words.specs.Going.{IsAtRest}
use Rattle.ruled_words.specs.Rule.{at_rest, IsRuled}
use Rattle.ruled_words.proofs.Takings.{takes_joined}
use Rattle.ruled_words.proofs.Idle.{stands_at_rest, fits_new, next_new}

module _ (F : Fixed) (rooms : List ℕ) (s : State (Unit {0}) SightView) (r : IsRuled F rooms s) (i : ℕ) (sight ended : SightView) (at : get_elem? s.views 0 ≡ maybe.some sight)
    (other : i ≢ 0) (there : get_elem? s.views i ≡ maybe.some ended) (rests : IsAtRest sight.view) (rests_too : IsAtRest ended.view) where
  seen : r.core.view 0 ≡ sight.view
  seen = r.seats.view 0 sight at

  seen_too : r.core.view i ≡ ended.view
  seen_too = r.seats.view i ended there

  resting : IsResting r.core 0
  resting = record {
    lives = ap (λ (v : View). v.live) seen ∙ rests.lives;
    idle = ap (λ (v : View). v.point) seen ∙ rests.idle;
  }

  resting_too : IsResting r.core i
  resting_too = record {
    lives = ap (λ (v : View). v.live) seen_too ∙ rests_too.lives;
    idle = ap (λ (v : View). v.point) seen_too ∙ rests_too.idle;
  }

  abbrev with_end : View
  with_end = with_ended i (r.core.view i) (r.core.view 0)

  abbrev core : Core
  core = end_seat r.core i

  each_view : (P : ℕ → View → Type 0) → P i spent → P 0 with_end → ((k : ℕ) → (k == 0) ≡ false → P k (r.core.view k)) → (k : ℕ) → P k (core.view k)
  each_view P new zeroth others = each_put P i spent (put 0 with_end r.core.view) new (λ k _. each_put P 0 with_end r.core.view zeroth others k)

  stands_ended : MachineStands F (at_rest core) r.history r.now
  stands_ended = stands_at_rest F core r.history r.now (record {
    next = each_view (λ (k : ℕ) (v : View). HasNext v.point v.wanted) (next_new 0) (r.stands.next 0) (λ k _. r.stands.next k);
    fits = each_view (λ (k : ℕ) (v : View). ViewFits F v) (fits_new F 0) (r.stands.fits 0) (λ k _. r.stands.fits k);
  }) (ended_seat_stands F r.core r.history r.now i (ne_eqb i 0 other) resting_too resting r.stands.core)

  view_0 : core.view 0 ≡ with_end
  view_0 = put_other i 0 spent (put 0 with_end r.core.view) (ne_eqb 0 i (λ same. other (sym same))) ∙ put_same 0 with_end r.core.view

  view_ended : core.view i ≡ spent
  view_ended = put_same i spent (put 0 with_end r.core.view)

  abbrev both : SightView
  both = with_one_ended sight ended

  number_is : ended.number ≡ i
  number_is = r.seats.number i ended there rests_too.lives

  both_is : with_end ≡ both.view
  both_is = ap (λ (v : View). with_ended i v (r.core.view 0)) seen_too ∙ ap (λ (v : View). with_ended i ended.view v) seen ∙ ap (λ (n : ℕ). with_ended n ended.view sight.view) (sym number_is)

  abbrev sights : List SightView
  sights = slice_set (slice_set s.views 0 both) i no_sight

  pub ends : IsRuled F rooms (record { words = s.words; homes = s.homes; views = sights })
  ends = record {
    core = core;
    history = r.history;
    now = r.now;
    lawful = r.lawful;
    start = r.start;
    depth = r.depth;
    stands = stands_ended;
    words = record { count = r.words.count; each = r.words.each };
    seats = record {
      view = λ k x e. elim (at_set (slice_set s.views 0 both) i k no_sight x e) [
        | inl is ↦ subst (λ (n : ℕ). core.view n ≡ x.view) (sym is.0) (view_ended ∙ ap (λ (y : SightView). y.view) is.1)
        | inr is ↦ elim (at_set s.views 0 k both x is.1) [
          | inl was ↦ subst (λ (n : ℕ). core.view n ≡ x.view) (sym was.0) (view_0 ∙ both_is ∙ ap (λ (y : SightView). y.view) was.1)
          | inr was ↦ put_other i k spent (put 0 with_end r.core.view) (ne_eqb k i is.0) ∙ put_other 0 k with_end r.core.view (ne_eqb k 0 was.0) ∙ r.seats.view k x was.1
        ]
      ];
      number = λ k x e live. elim (at_set (slice_set s.views 0 both) i k no_sight x e) [
        | inl is ↦ absurd (false≢true (ap (λ (y : SightView). y.view.live) is.1 ∙ live))
        | inr is ↦ elim (at_set s.views 0 k both x is.1) [
          | inl was ↦ sym (ap (λ (y : SightView). y.number) was.1) ∙ r.seats.number 0 sight at rests.lives ∙ sym was.0
          | inr was ↦ r.seats.number k x was.1 live
        ]
      ];
      made = ap (λ (v : View). v.made) view_0 ∙ r.seats.made ∙ sym (length-set s.views 0 both) ∙ sym (length-set (slice_set s.views 0 both) i no_sight);
    };
    serves = each_view (λ (k : ℕ) (v : View). is_busy (stage_of v.point) ≡ true → v.cmd.slot % length rooms ≡ k) (λ busy. absurd (false≢true busy)) (λ busy. r.serves 0 busy) (λ k _ busy. r.serves k busy);
    fits = record {
      few = r.fits.few;
      made = subst (λ (n : ℕ). n ≤ length rooms) (sym (ap (λ (v : View). v.made) view_0)) r.fits.made;
      room = each_view (λ (k : ℕ) (v : View). v.room < 2 ^ 32) (omega arith) (r.fits.room 0) (λ k _. r.fits.room k);
      ended = subst (λ (es : List Ended). All (λ (e : Ended). e.room < 2 ^ 32) es) (sym (ap (λ (v : View). v.ended) view_0))
          (All-from_recursion (λ (e : Ended). e.room < 2 ^ 32) with_end.ended (r.fits.room i, recursion_from_All (λ (e : Ended). e.room < 2 ^ 32) (r.core.view 0).ended r.fits.ended));
    };
    takes = takes_joined s.views i sight ended both no_sight r.core.words.node r.takes at other there refl rests.lives refl;
  }
