-- A seat is made from seat 0, which keeps the rule.
use Rattle.std.proofs.Common.{◌≡◌, ℕ, suc, ◌%◌, ◌^◌, ◌<◌, ◌≤◌, true, false, List, [], ◌∷◌, ◌++◌, length, refl, sym, ap, ◌∙◌, subst, inl, inr, arith, slice_set, All, length-set, length-append}
use Rattle.std.specs.Prelude.{◌==◌}
use mathlib.Core.Option as maybe
use lib.ListN.{get_elem?}
use Rattle.std.proofs.lemmas.Bool.{false≢true, ne_eqb}
use Rattle.atomic_table.specs.Table.{State}
use Rattle.atomic_table.proofs.Lists.{at_set}
use Rattle.core_steps.specs.Cells.{put}
use Rattle.core_steps.specs.Nodes.{Fixed}
use Rattle.core_steps.specs.Points.{stage_of, is_busy}
use Rattle.core_steps.specs.Reads.{Ended, View, new_view}
use Rattle.core_steps.specs.Steps.{Core, make_seat}
use Rattle.core_steps.specs.Laws.{IsResting}
use Rattle.core_steps.specs.Machine.{HasNext, ViewFits, MachineStands}
use Rattle.core_steps.proofs.Puts.{each_put, put_same, put_other}
use Rattle.core_steps.proofs.Seats.{made_seat_stands}
use Rattle.ruled_words.specs.Sights.{SightView, with_one_made, sight_made}
use Rattle.ruled_words.specs.Going.{IsAtRest}
use Rattle.ruled_words.specs.Rule.{at_rest, IsRuled}
use Rattle.ruled_words.proofs.Takings.{takes_set, takes_end}
use Rattle.ruled_words.proofs.Idle.{stands_at_rest, fits_new, next_new, at_end, place_below}

module _ (F : Fixed) (rooms : List ℕ) (room : ℕ) (s : State (Unit {0}) SightView) (r : IsRuled F rooms s) (sight : SightView) (at : get_elem? s.views 0 ≡ maybe.some sight) (rests : IsAtRest sight.view)
    (more : sight.view.made < length rooms) (small : room < 2 ^ 32) where
  seen : r.core.view 0 ≡ sight.view
  seen = r.seats.view 0 sight at

  resting : IsResting r.core 0
  resting = record {
    lives = ap (λ (v : View). v.live) seen ∙ rests.lives;
    idle = ap (λ (v : View). v.point) seen ∙ rests.idle;
  }

  abbrev made : ℕ
  made = (r.core.view 0).made

  abbrev with_made : View
  with_made = record (r.core.view 0) { made = suc made }

  abbrev core : Core
  core = make_seat r.core room

  places : made ≡ length s.views
  places = r.seats.made

  some_made : 0 < length s.views
  some_made = place_below s.views 0 sight at

  not_0 : (0 == made) ≡ false
  not_0 = ne_eqb 0 made (λ same. absurd (let p = places in let q = some_made in omega (arith, same, p, q)))

  -- what each view has
  each_view : (P : ℕ → View → Type 0) → P made (new_view room) → P 0 with_made → ((k : ℕ) → (k == 0) ≡ false → P k (r.core.view k)) → (k : ℕ) → P k (core.view k)
  each_view P new zeroth others = each_put P made (new_view room) (put 0 with_made r.core.view) new (λ k _. each_put P 0 with_made r.core.view zeroth others k)

  stands_made : MachineStands F (at_rest core) r.history r.now
  stands_made = stands_at_rest F core r.history r.now (record {
    next = each_view (λ (k : ℕ) (v : View). HasNext v.point v.wanted) (next_new room) (r.stands.next 0) (λ k _. r.stands.next k);
    fits = each_view (λ (k : ℕ) (v : View). ViewFits F v) (fits_new F room) (r.stands.fits 0) (λ k _. r.stands.fits k);
  }) (made_seat_stands F r.core r.history r.now room resting r.stands.core)

  view_0 : core.view 0 ≡ with_made
  view_0 = put_other made 0 (new_view room) (put 0 with_made r.core.view) not_0 ∙ put_same 0 with_made r.core.view

  view_new : core.view made ≡ new_view room
  view_new = put_same made (new_view room) (put 0 with_made r.core.view)

  abbrev left : SightView
  left = with_one_made sight

  abbrev right : SightView
  right = sight_made room sight

  left_is : with_made ≡ left.view
  left_is = ap (λ (v : View). record v { made = suc v.made }) seen

  number_made : sight.view.made ≡ made
  number_made = ap (λ (v : View). v.made) (sym seen)

  -- the seats that were there before
  old_view : (k : ℕ) (other : SightView) → get_elem? (slice_set s.views 0 left) k ≡ maybe.some other → core.view k ≡ other.view
  old_view k other e = elim (at_set s.views 0 k left other e) [
    | inl is ↦ subst (λ (n : ℕ). core.view n ≡ other.view) (sym is.0) (view_0 ∙ left_is ∙ ap (λ (x : SightView). x.view) is.1)
    | inr is ↦
        let below = place_below s.views k other is.1 in
        let p = places in
        put_other made k (new_view room) (put 0 with_made r.core.view) (ne_eqb k made (λ same. absurd (omega (arith, same, p, below))))
        ∙ put_other 0 k with_made r.core.view (ne_eqb k 0 is.0) ∙ r.seats.view k other is.1
  ]

  old_number : (k : ℕ) (other : SightView) → get_elem? (slice_set s.views 0 left) k ≡ maybe.some other → other.view.live ≡ true → other.number ≡ k
  old_number k other e live = elim (at_set s.views 0 k left other e) [
    | inl is ↦ sym (ap (λ (x : SightView). x.number) is.1) ∙ r.seats.number 0 sight at rests.lives ∙ sym is.0
    | inr is ↦ r.seats.number k other is.1 live
  ]

  pub makes : IsRuled F rooms (record { words = s.words; homes = s.homes; views = slice_set s.views 0 left ++ right ∷ [] })
  makes = record {
    core = core;
    history = r.history;
    now = r.now;
    lawful = r.lawful;
    start = r.start;
    depth = r.depth;
    stands = stands_made;
    words = record { count = r.words.count; each = r.words.each };
    seats = record {
      view = λ k other e. elim (at_end (slice_set s.views 0 left) right other k e) [
        | inl is ↦ old_view k other is
        | inr is ↦
            let here : k ≡ made = is.0 ∙ length-set s.views 0 left ∙ sym places in
            subst (λ (n : ℕ). core.view n ≡ other.view) (sym here) (view_new ∙ ap (λ (x : SightView). x.view) is.1)
      ];
      number = λ k other e live. elim (at_end (slice_set s.views 0 left) right other k e) [
        | inl is ↦ old_number k other is live
        | inr is ↦ sym (ap (λ (x : SightView). x.number) is.1) ∙ number_made ∙ places ∙ sym (length-set s.views 0 left) ∙ sym is.0
      ];
      made = ap (λ (v : View). v.made) view_0 ∙ ap suc places ∙ counted;
    };
    serves = each_view (λ (k : ℕ) (v : View). is_busy (stage_of v.point) ≡ true → v.cmd.slot % length rooms ≡ k) (λ busy. absurd (false≢true busy)) (λ busy. r.serves 0 busy) (λ k _ busy. r.serves k busy);
    fits = record {
      few = r.fits.few;
      made = subst (λ (n : ℕ). n ≤ length rooms) (sym (ap (λ (v : View). v.made) view_0)) (let p = number_made in omega (arith, more, p));
      room = each_view (λ (k : ℕ) (v : View). v.room < 2 ^ 32) small (r.fits.room 0) (λ k _. r.fits.room k);
      ended = subst (λ (es : List Ended). All (λ (e : Ended). e.room < 2 ^ 32) es) (sym (ap (λ (v : View). v.ended) view_0)) r.fits.ended;
    };
    takes = takes_end (slice_set s.views 0 left) right r.core.words.node (takes_set s.views 0 sight left r.core.words.node r.takes at refl rests.lives) refl;
  }
    where
      counted : suc (length s.views) ≡ length (slice_set s.views 0 left ++ right ∷ [])
      counted = let a = length-append (slice_set s.views 0 left) (right ∷ []) in let b = length-set s.views 0 left in omega (arith, a, b)
