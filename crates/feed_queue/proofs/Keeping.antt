-- Each call on the queue keeps the rule.
use Rattle.std.proofs.Common.{◌≡◌, ℕ, zero, suc, ◌+◌, ◌<◌, true, false, List, [], ◌∷◌, ◌++◌, length, set, sym, refl, ap, ◌∙◌, ⊎_elim, append_assoc, length-append, append-nil, Option, Some, None, arith}
use Rattle.std.specs.List.{filter}
use mathlib.Core.Option.{some}
use lib.ListN.{get_elem?}
use Rattle.crossbeam_queue.specs.Fifo.{Pushes, Pops, Forks, Merges, Learns, Held}
use Rattle.crossbeam_queue.proofs.Lists.{at_set}
use Rattle.std.proofs.lemmas.Option.{same_Some}
use Rattle.feed_queue.specs.declared.hand.Hand.{Hand}
use Rattle.feed_queue.specs.Orders.{is_of, places_below, IsOrder}
use Rattle.feed_queue.specs.Hands.{hand, nothing_done, empty_hand, feeder_hand, hand_after_push, hand_after_pop}
use Rattle.feed_queue.specs.Rule.{IsKept, HasRoomFor, Holds}
use Rattle.feed_queue.proofs.Counting.{own_last, other_last, own_below, other_below, own_fits, each_of_one, even_not_odd, odd_not_even, as_many_places}
use Rattle.feed_queue.proofs.Doing.{done_first, done_more, done_same, done_none, done_beside, done_given, done_back}

pub begins : (ports : List ℕ) → IsKept ports [] (nothing_done ∷ [])
begins ports = record {
  got = [];
  evens_at = 0;
  odds_at = 0;
  got_at = 0;
  evens = done_first (λ v. v.evens) nothing_done [] refl;
  odds = done_first (λ v. v.odds) nothing_done [] refl;
  reads = done_first (λ v. v.got) nothing_done [] refl;
  few_evens = omega arith;
  few_odds = omega arith;
}

-- ---- a push

pub sends : (n : ℕ) (ports : List ℕ) (feeder place pass : ℕ) → feeder < 2 → place < length ports → is_of ports feeder place ≡ true
    → Pushes (IsKept ports) n pass (feeder_hand feeder (places_below ports feeder place)) place
    (λ w. w ≡ hand_after_push (feeder_hand feeder (places_below ports feeder place)) place)
sends n ports zero place pass two lt own items views room k here =
    let v : Hand = feeder_hand 0 (places_below ports 0 place) in
    let w : Hand = hand_after_push v place in
    let all : k.got ++ (items ++ place ∷ []) ≡ (k.got ++ items) ++ place ∷ [] = sym (append_assoc k.got items (place ∷ [])) in
    let evens = ap (filter (is_of ports 0)) all ∙ own_last ports 0 place (k.got ++ items) own in
    let odds = ap (filter (is_of ports 1)) all ∙ other_last ports 1 place (k.got ++ items) (even_not_odd ports place own) in
    let mine = k.evens pass v (places_below ports 0 place) here refl in (
      w,
      record {
        got = k.got;
        evens_at = k.evens_at;
        odds_at = k.odds_at;
        got_at = k.got_at;
        evens = done_more (λ v. v.evens) k.evens_at (filter (is_of ports 0) (k.got ++ items)) (filter (is_of ports 0) (k.got ++ (items ++ place ∷ []))) views pass v w (places_below ports 0 place) k.evens here refl
            (ap Some (ap (λ l. l ++ place ∷ []) mine.1 ∙ sym evens));
        odds = rw odds (done_same (λ v. v.odds) k.odds_at (filter (is_of ports 1) (k.got ++ items)) views pass v w k.odds here refl);
        reads = done_same (λ v. v.got) k.got_at k.got views pass v w k.reads here refl;
        few_evens = rw (evens, sym mine.1) (own_fits ports 0 place lt own);
        few_odds = rw odds k.few_odds;
      },
      refl,
    )
sends n ports (suc zero) place pass two lt own items views room k here =
    let v : Hand = feeder_hand 1 (places_below ports 1 place) in
    let w : Hand = hand_after_push v place in
    let all : k.got ++ (items ++ place ∷ []) ≡ (k.got ++ items) ++ place ∷ [] = sym (append_assoc k.got items (place ∷ [])) in
    let odds = ap (filter (is_of ports 1)) all ∙ own_last ports 1 place (k.got ++ items) own in
    let evens = ap (filter (is_of ports 0)) all ∙ other_last ports 0 place (k.got ++ items) (odd_not_even ports place own) in
    let mine = k.odds pass v (places_below ports 1 place) here refl in (
      w,
      record {
        got = k.got;
        evens_at = k.evens_at;
        odds_at = k.odds_at;
        got_at = k.got_at;
        evens = rw evens (done_same (λ v. v.evens) k.evens_at (filter (is_of ports 0) (k.got ++ items)) views pass v w k.evens here refl);
        odds = done_more (λ v. v.odds) k.odds_at (filter (is_of ports 1) (k.got ++ items)) (filter (is_of ports 1) (k.got ++ (items ++ place ∷ []))) views pass v w (places_below ports 1 place) k.odds here refl
            (ap Some (ap (λ l. l ++ place ∷ []) mine.1 ∙ sym odds));
        reads = done_same (λ v. v.got) k.got_at k.got views pass v w k.reads here refl;
        few_evens = rw evens k.few_evens;
        few_odds = rw (odds, sym mine.1) (own_fits ports 1 place lt own);
      },
      refl,
    )
sends n ports (suc (suc f)) place pass two lt own items views room k here = absurd (omega arith)

-- a feeder that has pushed a place goes on with the next one
pub pushed_on : (ports : List ℕ) (feeder place : ℕ) → feeder < 2 → is_of ports feeder place ≡ true
    → hand_after_push (feeder_hand feeder (places_below ports feeder place)) place ≡ feeder_hand feeder (places_below ports feeder (place + 1))
pushed_on ports zero place two own = ap (λ l. hand (Some l) None None) (sym (own_below ports 0 place own))
pushed_on ports (suc zero) place two own = ap (λ l. hand None (Some l) None) (sym (own_below ports 1 place own))
pushed_on ports (suc (suc f)) place two own = absurd (omega arith)

-- and with the same, where the place isn't its own
pub passed_on : (ports : List ℕ) (feeder place : ℕ) → is_of ports feeder place ≡ false
    → feeder_hand feeder (places_below ports feeder place) ≡ feeder_hand feeder (places_below ports feeder (place + 1))
passed_on ports feeder place other = ap (feeder_hand feeder) (sym (other_below ports feeder place other))

-- what a queue holds is not all, while a feeder has a place to push
pub has_room : (ports : List ℕ) (feeder place pass : ℕ) → feeder < 2 → place < length ports → is_of ports feeder place ≡ true
    → Learns (IsKept ports) pass (feeder_hand feeder (places_below ports feeder place))
    (HasRoomFor ports (feeder_hand feeder (places_below ports feeder place)))
has_room ports zero place pass two lt own items views k here =
    let mine = k.evens pass (feeder_hand 0 (places_below ports 0 place)) (places_below ports 0 place) here refl in
    omega (
      arith,
      own_fits ports 0 place lt own,
      length-append (places_below ports 0 place) (place ∷ []),
      ap length mine.1,
      k.few_odds,
      each_of_one ports (k.got ++ items),
      as_many_places ports,
      length-append k.got items,
    )
has_room ports (suc zero) place pass two lt own items views k here =
    let mine = k.odds pass (feeder_hand 1 (places_below ports 1 place)) (places_below ports 1 place) here refl in
    omega (
      arith,
      own_fits ports 1 place lt own,
      length-append (places_below ports 1 place) (place ∷ []),
      ap length mine.1,
      k.few_evens,
      each_of_one ports (k.got ++ items),
      as_many_places ports,
      length-append k.got items,
    )
has_room ports (suc (suc f)) place pass two lt own items views k here = absurd (omega arith)

-- ---- a pop

pub gets : (ports : List ℕ) (evens odds : Option (List ℕ)) (got : List ℕ) (pass : ℕ)
    → Pops (IsKept ports) pass (hand evens odds (Some got)) (λ x w. w ≡ hand_after_pop (hand evens odds (Some got)) x)
gets ports evens odds got pass x items views k here =
    let v : Hand = hand evens odds (Some got) in
    let w : Hand = hand_after_pop v x in
    let mine = k.reads pass v got here refl in
    let all : k.got ++ x ∷ items ≡ (k.got ++ x ∷ []) ++ items = sym (append_assoc k.got (x ∷ []) items) in (
      w,
      record {
        got = k.got ++ x ∷ [];
        evens_at = k.evens_at;
        odds_at = k.odds_at;
        got_at = k.got_at;
        evens = rw (sym all) (done_same (λ v. v.evens) k.evens_at (filter (is_of ports 0) (k.got ++ x ∷ items)) views pass v w k.evens here refl);
        odds = rw (sym all) (done_same (λ v. v.odds) k.odds_at (filter (is_of ports 1) (k.got ++ x ∷ items)) views pass v w k.odds here refl);
        reads = done_more (λ v. v.got) k.got_at k.got (k.got ++ x ∷ []) views pass v w got k.reads here refl
            (ap Some (ap (λ l. l ++ x ∷ []) mine.1));
        few_evens = rw (sym all) k.few_evens;
        few_odds = rw (sym all) k.few_odds;
      },
      refl,
    )

pub holds : (ports evens odds got : List ℕ) (pass : ℕ)
    → Learns (IsKept ports) pass (hand (Some evens) (Some odds) (Some got)) (Holds ports (hand (Some evens) (Some odds) (Some got)))
holds ports evens odds got pass items views k here =
    let v : Hand = hand (Some evens) (Some odds) (Some got) in record {
      got = k.got;
      got_is = ap Some (k.reads pass v got here refl).1;
      evens = ap Some (k.evens pass v evens here refl).1;
      odds = ap Some (k.odds pass v odds here refl).1;
    }

-- ---- passes that are made, and joined again

pub forks_evens : (ports evens : List ℕ) (odds got : Option (List ℕ)) (pass : ℕ)
    → Forks (IsKept ports) pass (hand (Some evens) odds got) (hand None odds got) (hand (Some evens) None None)
forks_evens ports evens odds got pass items views k here =
    let v : Hand = hand (Some evens) odds got in
    let left : Hand = hand None odds got in
    let right : Hand = hand (Some evens) None None in record {
      got = k.got;
      evens_at = length (set views pass left);
      odds_at = k.odds_at;
      got_at = k.got_at;
      evens = done_given (λ v. v.evens) k.evens_at (filter (is_of ports 0) (k.got ++ items)) views pass v left right evens k.evens here refl refl refl;
      odds = done_beside (λ v. v.odds) k.odds_at (filter (is_of ports 1) (k.got ++ items)) (set views pass left) right
          (done_same (λ v. v.odds) k.odds_at (filter (is_of ports 1) (k.got ++ items)) views pass v left k.odds here refl) refl;
      reads = done_beside (λ v. v.got) k.got_at k.got (set views pass left) right
          (done_same (λ v. v.got) k.got_at k.got views pass v left k.reads here refl) refl;
      few_evens = k.few_evens;
      few_odds = k.few_odds;
    }

pub forks_odds : (ports odds : List ℕ) (evens got : Option (List ℕ)) (pass : ℕ)
    → Forks (IsKept ports) pass (hand evens (Some odds) got) (hand evens None got) (hand None (Some odds) None)
forks_odds ports odds evens got pass items views k here =
    let v : Hand = hand evens (Some odds) got in
    let left : Hand = hand evens None got in
    let right : Hand = hand None (Some odds) None in record {
      got = k.got;
      evens_at = k.evens_at;
      odds_at = length (set views pass left);
      got_at = k.got_at;
      evens = done_beside (λ v. v.evens) k.evens_at (filter (is_of ports 0) (k.got ++ items)) (set views pass left) right
          (done_same (λ v. v.evens) k.evens_at (filter (is_of ports 0) (k.got ++ items)) views pass v left k.evens here refl) refl;
      odds = done_given (λ v. v.odds) k.odds_at (filter (is_of ports 1) (k.got ++ items)) views pass v left right odds k.odds here refl refl refl;
      reads = done_beside (λ v. v.got) k.got_at k.got (set views pass left) right
          (done_same (λ v. v.got) k.got_at k.got views pass v left k.reads here refl) refl;
      few_evens = k.few_evens;
      few_odds = k.few_odds;
    }

-- the view of another pass, before this one's changed
was_there : (views : List Hand) (pass other : ℕ) (both w : Hand) → ¬ (other ≡ pass) → get_elem? (set views pass both) other ≡ some w
    → get_elem? views other ≡ some w
was_there views pass other both w two at = ⊎_elim (λ x. absurd (two x.0)) (λ x. x.1) (at_set views pass other both w at)

pub merges_evens : (ports mine : List ℕ) (odds got : Option (List ℕ)) (pass other : ℕ)
    → Merges (IsKept ports) pass (hand None odds got) other (hand (Some mine) None None) (hand (Some mine) odds got) empty_hand
merges_evens ports mine odds got pass other items views k here two there =
    let v : Hand = hand None odds got in
    let w : Hand = hand (Some mine) None None in
    let both : Hand = hand (Some mine) odds got in
    let was = was_there views pass other both w two there in record {
      got = k.got;
      evens_at = pass;
      odds_at = k.odds_at;
      got_at = k.got_at;
      evens = done_back (λ v. v.evens) k.evens_at (filter (is_of ports 0) (k.got ++ items)) views pass other w both empty_hand mine k.evens was refl refl refl;
      odds = done_none (λ v. v.odds) k.odds_at (filter (is_of ports 1) (k.got ++ items)) (set views pass both) other empty_hand
          (done_same (λ v. v.odds) k.odds_at (filter (is_of ports 1) (k.got ++ items)) views pass v both k.odds here refl) refl;
      reads = done_none (λ v. v.got) k.got_at k.got (set views pass both) other empty_hand
          (done_same (λ v. v.got) k.got_at k.got views pass v both k.reads here refl) refl;
      few_evens = k.few_evens;
      few_odds = k.few_odds;
    }

pub merges_odds : (ports mine : List ℕ) (evens got : Option (List ℕ)) (pass other : ℕ)
    → Merges (IsKept ports) pass (hand evens None got) other (hand None (Some mine) None) (hand evens (Some mine) got) empty_hand
merges_odds ports mine evens got pass other items views k here two there =
    let v : Hand = hand evens None got in
    let w : Hand = hand None (Some mine) None in
    let both : Hand = hand evens (Some mine) got in
    let was = was_there views pass other both w two there in record {
      got = k.got;
      evens_at = k.evens_at;
      odds_at = pass;
      got_at = k.got_at;
      evens = done_none (λ v. v.evens) k.evens_at (filter (is_of ports 0) (k.got ++ items)) (set views pass both) other empty_hand
          (done_same (λ v. v.evens) k.evens_at (filter (is_of ports 0) (k.got ++ items)) views pass v both k.evens here refl) refl;
      odds = done_back (λ v. v.odds) k.odds_at (filter (is_of ports 1) (k.got ++ items)) views pass other w both empty_hand mine k.odds was refl refl refl;
      reads = done_none (λ v. v.got) k.got_at k.got (set views pass both) other empty_hand
          (done_same (λ v. v.got) k.got_at k.got views pass v both k.reads here refl) refl;
      few_evens = k.few_evens;
      few_odds = k.few_odds;
    }

-- ---- the end

-- a queue isn't empty while fewer places were popped than there are packets
pub not_empty : (ports order : List ℕ)
    → Held 0 (Holds ports (hand (Some (places_below ports 0 (length ports))) (Some (places_below ports 1 (length ports))) (Some order)))
    → length order < length ports → ⊥
not_empty ports order (items, none, h) lt =
    let evens = ap length (same_Some (places_below ports 0 (length ports)) (filter (is_of ports 0) (h.got ++ items)) h.evens) in
    let odds = ap length (same_Some (places_below ports 1 (length ports)) (filter (is_of ports 1) (h.got ++ items)) h.odds) in
    let got = ap length (same_Some order h.got h.got_is) in
    omega (arith, evens, odds, got, none, each_of_one ports (h.got ++ items), as_many_places ports, length-append h.got items)

is_empty : (items : List ℕ) → length items ≡ 0 → items ≡ []
is_empty [] e = refl
is_empty (x ∷ xs) e = absurd (omega arith)

-- as many places as packets were popped, so all were
pub all_popped : (ports order items : List ℕ)
    → Holds ports (hand (Some (places_below ports 0 (length ports))) (Some (places_below ports 1 (length ports))) (Some order)) items
    → length order ≡ length ports → IsOrder ports order
all_popped ports order items h as_many =
    let evens = same_Some (places_below ports 0 (length ports)) (filter (is_of ports 0) (h.got ++ items)) h.evens in
    let odds = same_Some (places_below ports 1 (length ports)) (filter (is_of ports 1) (h.got ++ items)) h.odds in
    let got = same_Some order h.got h.got_is in
    let none : items ≡ [] = is_empty items (omega (arith, ap length evens, ap length odds, ap length got, as_many, each_of_one ports (h.got ++ items), as_many_places ports, length-append h.got items)) in
    let all : h.got ++ items ≡ order = ap (λ l. h.got ++ l) none ∙ append-nil h.got ∙ sym got in record {
      evens = ap (filter (is_of ports 0)) (sym all) ∙ sym evens;
      odds = ap (filter (is_of ports 1)) (sym all) ∙ sym odds;
    }
