-- The start stands.
use Rattle.std.proofs.Common.{◌≡◌, ℕ, ◌<◌, ◌≤◌, Bool, true, false, List, [], ◌∷◌, ◌++◌, refl, sym, ap, ◌∙◌, subst, arith}
use Rattle.std.specs.Prelude.{◌==◌, ◌&&◌, ◌||◌, nat_lt}
use Rattle.std.specs.List.{IsDistinct}
use Rattle.std.specs.List.Sorted.{IsPermutation}
use Rattle.std.proofs.lemmas.Bool.{false≢true, true≢false, ltb-true, cond-true, cond-false, ne_eqb, and_parts, and_left, and_right}
use Rattle.std.proofs.lemmas.List.Elements.{All-nil}
use Rattle.std.proofs.lemmas.List.Sorted.{IsPermutation-refl}
use Rattle.entity_recs.specs.Histories.{Item}
use Rattle.areanode.specs.Words.{has_bit}
use Rattle.areanode.proofs.Words.{word_has_its_bits, word_of-same, word_of-none}
use Rattle.core_steps.specs.Encoding.{words_of, nth_word}
use Rattle.core_steps.proofs.TreeNodes.{home_in}
use Rattle.core_steps.specs.Cells.{Cell, Body, State, word_in}
use Rattle.core_steps.specs.Nodes.{Fixed, nodes_of, home, has}
use Rattle.core_steps.specs.Points.{AtRest}
use Rattle.core_steps.specs.Reads.{View, Ended, new_view, spent}
use Rattle.core_steps.specs.Stands.{IsCounted, IsLogWithin, IsGiven, items_below, items_of, IsNumbered, is_ended, value_in, SeatStands, SeatsApart, is_player, is_live_cell, AreUnusedZero, start_words, start_core}
use Rattle.core_steps.specs.Laws.{StartStands}
use Rattle.core_steps.proofs.Puts.{each_put}
use Rattle.core_steps.proofs.Resting.{rests, rest_apart}

-- the first seat at the start
abbrev first_view : ℕ → View
first_view room = record (new_view room) { made = 1 }

-- a seat with an empty log is counted
pub empty_within : (count room : ℕ) → IsLogWithin count room []
empty_within count room = record {
  rising = λ k below. absurd (omega arith);
  below = All-nil (λ (item : Item). item.entry.place < count);
  fits = omega arith;
}

pub empty_counted : (commits room : ℕ) → IsCounted commits 0 room [] AtRest
empty_counted commits room = record { within = empty_within 0 room; known = omega arith; has_room = λ open'. absurd (false≢true open') }

start_items : (F : Fixed) (room : ℕ) → items_of (start_core F room).view ≡ []
unfolding items_below
start_items F room = refl

no_item : (before : List Item) (item : Item) (after : List Item) → [] ≡ before ++ item ∷ after → ⊥
no_item [] item after e = cc
no_item (x ∷ before) item after e = cc

start_numbered : (F : Fixed) (room : ℕ) → IsNumbered (start_core F room).view
unfolding IsDistinct
start_numbered F room = record {
  first = refl;
  live = each_put (λ (n : ℕ) (v : View). v.live ≡ true → n < 1) 0 (first_view room) (λ _. spent) (λ _. omega arith) (λ n _ lives. absurd (false≢true lives));
  ended = λ n ends. absurd (false≢true ends);
  differ = λ n _. refl;
  once = tt;
  all = λ n below. let z : n ≡ 0 = omega arith in subst (λ (m : ℕ). (((start_core F room).view m).live || is_ended [] m) ≡ true) (sym z) refl;
  others = each_put (λ (n : ℕ) (v : View). v.live ≡ false → v ≡ spent) 0 (first_view room) (λ _. spent) (λ dead. absurd (true≢false dead)) (λ n _ _. refl);
}

start_word : (F : Fixed) (cell : Cell) → is_live_cell F cell ≡ true → word_in (start_words F) cell ≡ value_in F.start cell
start_word F (Body slot k) lives =
    cond-true (is_player F slot) (nth_word (words_of (F.start.record_of slot)) k) 0 (and_parts (is_player F slot) (nat_lt k 5) lives).0
start_word F (State id) lives = cond-true (has F.start.ids id) (F.start.record_of id).state 0 lives

start_bit : (F : Fixed) (p node : ℕ) → p < 64 → has_bit ((start_words F).links node) p ≡ (is_player F p && (node == home F (F.start.record_of p)))
start_bit F p node below = word_has_its_bits 64 (λ p. is_player F p && (node == home F (F.start.record_of p))) p below

-- no player is linked at a node that the tree hasn't
start_unlinked : (F : Fixed) (v : ℕ) → nodes_of F ≤ v → (start_words F).links v ≡ 0
start_unlinked F v beyond =
    word_of-same 64 (λ p. is_player F p && (v == home F (F.start.record_of p))) (λ p. false)
    (λ p below. and_right (is_player F p) (v == home F (F.start.record_of p)) (ne_eqb v (home F (F.start.record_of p)) (λ same.
    let within = home_in F (F.start.record_of p) in
    omega arith)))
    ∙ word_of-none 64

start_unused : (F : Fixed) → AreUnusedZero F (start_words F).node (start_words F).links (start_words F).body (start_words F).state
start_unused F = record {
  no_node = λ v beyond. refl;
  no_links = start_unlinked F;
  no_body = λ slot k dead. cond-false (is_player F slot) (nth_word (words_of (F.start.record_of slot)) k) 0 dead;
  no_state = λ id dead. cond-false (has F.start.ids id) (F.start.record_of id).state 0 dead;
}

pub start_stands : StartStands
start_stands F room = record {
  tied = refl;
  legal = record { each = λ before item after e. absurd (no_item before item after e) };
  given = All-nil (λ (item : Item). IsGiven F item.command);
  count = refl;
  items = subst (IsPermutation []) (sym (start_items F room)) (IsPermutation-refl []);
  numbers = start_numbered F room;
  ended = All-nil (λ (e : Ended). IsLogWithin 0 e.room e.log);
  seats = each_put (λ (i : ℕ) (v : View). SeatStands F (start_words F) [] F.start i v) 0 (first_view room) (λ _. spent)
      (rests F (start_words F) [] F.start 0 (first_view room) (empty_counted 0 room)) (λ i _. rests F (start_words F) [] F.start i spent (empty_counted 0 0));
  apart = λ i j _. each_put (λ (n : ℕ) (v : View). SeatsApart F v ((start_core F room).view j)) 0 (first_view room) (λ _. spent)
      (rest_apart F (first_view room) ((start_core F room).view j)) (λ n _. rest_apart F spent ((start_core F room).view j)) i;
  free = λ node _. refl;
  unowed = λ cell lives _. start_word F cell lives;
  linked = λ p node lives _.
      let parts = and_parts (nat_lt p 64) (has F.start.ids p) lives in
      start_bit F p node (ltb-true p 64 parts.0) ∙ ap (λ (b : Bool). b && (node == home F (F.start.record_of p))) lives;
  unlinked = λ p node below dead. start_bit F p node below ∙ and_left _ _ (and_right (nat_lt p 64) (has F.start.ids p) dead);
  unused = start_unused F;
}
