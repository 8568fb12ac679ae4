-- A seat that rests looks at the count, which keeps the rule.
use Rattle.std.proofs.Common.{◌≡◌, ℕ, ◌%◌, ◌^◌, ◌<◌, ◌≤◌, Bool, true, List, [], length, refl, sym, ap, ◌∙◌, subst, inl, inr, arith, slice_index, slice_set, All, length-set}
use mathlib.Core.Option as maybe
use lib.ListN.{get_elem?}
use Rattle.std.proofs.lemmas.Bool.{ne_eqb}
use Rattle.std.proofs.lemmas.List.{set-get_or}
use Rattle.atomic_table.specs.Table.{State, keeps, stepped}
use Rattle.atomic_table.proofs.Lists.{at_set}
use Rattle.core_steps.specs.Nodes.{Fixed}
use Rattle.core_steps.specs.Points.{stage_of, is_busy}
use Rattle.core_steps.specs.Reads.{Ended, View}
use Rattle.core_steps.specs.Steps.{Core, load_count}
use Rattle.core_steps.specs.Laws.{IsResting}
use Rattle.core_steps.specs.Machine.{MachineStands}
use Rattle.core_steps.proofs.Puts.{each_put, put_same, put_other}
use Rattle.core_steps.proofs.Seats.{loaded_count_stands}
use Rattle.ruled_words.specs.Sights.{SightView}
use Rattle.ruled_words.specs.Going.{IsAtRest, view_looked}
use Rattle.ruled_words.specs.Rule.{at_rest, HasWords, IsRuled}
use Rattle.ruled_words.proofs.Takings.{takes_set}
use Rattle.ruled_words.proofs.Idle.{stands_at_rest, each_fits, put_fits}

module _ (F : Fixed) (rooms : List ℕ) (s : State (Unit {0}) SightView) (r : IsRuled F rooms s) (i : ℕ) (sight : SightView) (at : get_elem? s.views i ≡ maybe.some sight) (rests : IsAtRest sight.view) where
  seen : r.core.view i ≡ sight.view
  seen = r.seats.view i sight at

  resting : IsResting r.core i
  resting = record {
    lives = ap (λ (v : View). v.live) seen ∙ rests.lives;
    idle = ap (λ (v : View). v.point) seen ∙ rests.idle;
  }

  abbrev V : View
  V = r.core.view i

  abbrev found : ℕ
  found = slice_index s.words 0

  count_is : found ≡ r.core.words.commits
  count_is = r.words.each 0 (omega arith)

  abbrev looked : Core
  looked = load_count r.core i

  stands_looked : MachineStands F (at_rest looked) r.history r.now
  stands_looked = stands_at_rest F looked r.history r.now
      (put_fits F r.core r.core.words i (record V { seen = r.core.words.commits }) (each_fits F r.core r.history r.now r.stands) (r.stands.next i) (r.stands.fits i))
      (loaded_count_stands F r.core r.history r.now i resting r.stands.core)

  abbrev new : SightView
  new = record { number = sight.number; view = view_looked found V; tally = sight.tally }

  new_is : looked.view i ≡ new.view
  new_is = put_same i _ r.core.view ∙ ap (λ (n : ℕ). view_looked n V) (sym count_is)

  looked_kept : {B : Type 0} (g : View → B) → g (record V { seen = r.core.words.commits }) ≡ g V → (k : ℕ) → g (looked.view k) ≡ g (r.core.view k)
  looked_kept {B} g same k = each_put (λ (n : ℕ) (v : View). g v ≡ g (r.core.view n)) i _ r.core.view same (λ n _. refl) k

  words_looked : HasWords (slice_set s.words 0 found) looked
  words_looked = subst (λ (ws : List ℕ). HasWords ws looked) (sym (set-get_or s.words 0 0)) (record { count = r.words.count; each = r.words.each })

  looks_here : IsRuled F rooms (stepped s 0 found i [] new keeps)
  looks_here = record {
    core = looked;
    history = r.history;
    now = r.now;
    lawful = r.lawful;
    start = r.start;
    depth = r.depth;
    stands = stands_looked;
    words = words_looked;
    seats = record {
      view = λ k other e. elim (at_set s.views i k new other e) [
        | inl is ↦ subst (λ (n : ℕ). looked.view n ≡ other.view) (sym is.0) (new_is ∙ ap (λ (x : SightView). x.view) is.1)
        | inr is ↦ put_other i k _ r.core.view (ne_eqb k i is.0) ∙ r.seats.view k other is.1
      ];
      number = λ k other e live. elim (at_set s.views i k new other e) [
        | inl is ↦ sym (ap (λ (x : SightView). x.number) is.1) ∙ r.seats.number i sight at rests.lives ∙ sym is.0
        | inr is ↦ r.seats.number k other is.1 live
      ];
      made = looked_kept (λ (v : View). v.made) refl 0 ∙ r.seats.made ∙ sym (length-set s.views i new);
    };
    serves = λ k busy. ap (λ (n : ℕ). n % length rooms) (looked_kept (λ (v : View). v.cmd.slot) refl k)
        ∙ r.serves k (subst (λ (b : Bool). b ≡ true) (looked_kept (λ (v : View). is_busy (stage_of v.point)) refl k) busy);
    fits = record {
      few = r.fits.few;
      made = subst (λ (n : ℕ). n ≤ length rooms) (sym (looked_kept (λ (v : View). v.made) refl 0)) r.fits.made;
      room = λ k. subst (λ (n : ℕ). n < 2 ^ 32) (sym (looked_kept (λ (v : View). v.room) refl k)) (r.fits.room k);
      ended = subst (λ (es : List Ended). All (λ (e : Ended). e.room < 2 ^ 32) es) (sym (looked_kept (λ (v : View). v.ended) refl 0)) r.fits.ended;
    };
    takes = takes_set s.views i sight new r.core.words.node r.takes at refl resting.lives;
  }

  pub looks : IsRuled F rooms (stepped s 0 found i [] (record sight { view = view_looked found sight.view }) keeps)
  looks = subst (λ (v : View). IsRuled F rooms (stepped s 0 found i [] (record { number = sight.number; view = view_looked found v; tally = sight.tally }) keeps)) seen looks_here
