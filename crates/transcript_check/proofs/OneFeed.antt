-- Frames that are fed, whose lines are there: of two runs of such frames, the shorter begins the longer.
use Rattle.std.proofs.Common.{◌≡◌, ℕ, ◌+◌, ◌<◌, ◌≤◌, true, false, List, [], ◌∷◌, ◌++◌, length, map, refl, sym, ap, ◌∙◌, subst, arith, add-zero, append-nil, append_assoc, length-append}
use Rattle.std.specs.List.{AllByRecursion}
use Rattle.entity_recs.specs.declared.effect.Entry.{Entry}
use Rattle.arena_map.specs.Maps.{MapView, IsMap}
use Rattle.packet_read.specs.declared.arrival.Arrival.{Arrival}
use Rattle.client_ports.specs.States.{State, IsServerState}
use Rattle.plain_server.specs.Frames.{state_after_tick, received_in, state_after, state_played, first_of, rest_of, IsRightAfter, AreRight}
use Rattle.plain_server.proofs.Frames.{received_is, state_after_is}
use Rattle.plain_server.proofs.Small.{numbers_are_small}
use Rattle.plain_server.proofs.Reports.{right_is_reported}
use Rattle.plain_server.specs.Entries.{AreReported}
use Rattle.demo_lines.specs.Spelling.{IsFrame}
use Rattle.out_text.specs.Feeds.{from_line, fed_lines}
use Rattle.out_text.specs.FrameLines.{lines_with}
use Rattle.out_text.specs.MatchLogs.{may_have_more, EndsPackets}
use Rattle.out_text.specs.OutLines.{OutLine, FrameLine, line_spelling, printed_line, text_of}
use Rattle.out_text.specs.Transcripts.{BeginsWith}
use Rattle.out_text.proofs.FedPackets.{frame-bytes}
use Rattle.out_text.proofs.Lengths.{frame_line-long}
use Rattle.out_text.proofs.Runs.{text_of-append, next_number}
use Rattle.transcript_check.specs.Pieces.{answers_with}
use Rattle.transcript_check.proofs.FedFrames.{more-after, ends-after, answers-others, answers-short}
use Rattle.transcript_check.proofs.FromLines.{same-packets}
use Rattle.transcript_check.proofs.OneJournal.{text-next, same-frame}
use Rattle.transcript_check.proofs.Texts.{one_line, append-same}

-- right frames, the first of which has this number, whose lines are there, before what follows; where the last has no
-- answer, its packets end
pub record AreThere (arena : MapView) (frame : ℕ) (s : State) (feeds : List (List Arrival)) (js : List (List Entry)) (bytes after : List ℕ) : Type 0 where
  pub each : AllByRecursion IsFrame feeds
  pub right : AreRight arena frame s feeds js
  pub is : bytes ≡ text_of (fed_lines arena frame s feeds js) ++ after
  pub whole : may_have_more (fed_lines arena frame s feeds js) ≡ true → EndsPackets after

-- the first of them, and the others after it
pub record FirstThere (arena : MapView) (frame : ℕ) (s : State) (fed : List Arrival) (j : List Entry) (feeds : List (List Arrival)) (js : List (List Entry)) (bytes after : List ℕ) : Type 0 where
  pub left : List ℕ
  pub is : bytes ≡ printed_line (FrameLine frame) ++ left
  pub ended : List ℕ
  pub left_is : left ≡ text_of (map from_line fed) ++ ended
  pub ends : EndsPackets ended
  pub rest : List ℕ
  pub ended_is : ended ≡ text_of (answers_with arena frame (received_in arena frame s fed) j) ++ rest
  pub whole : may_have_more (FrameLine frame ∷ (map from_line fed ++ answers_with arena frame (received_in arena frame s fed) j)) ≡ true → EndsPackets rest
  pub others : AreThere arena (frame + 1) (state_after arena (received_in arena frame s fed) j) feeds js rest after

-- a line that opens a frame ends packets
frame-ends : (n : ℕ) (more : List OutLine) (after : List ℕ) → n < 100000 → EndsPackets (text_of (FrameLine n ∷ more) ++ after)
frame-ends n more after below = record {
  line = line_spelling (FrameLine n);
  after = text_of more ++ after;
  is = text-next (FrameLine n) more after;
  one_line = one_line (FrameLine n);
  fits = (let long = frame_line-long n below in let own = length-append (line_spelling (FrameLine n)) (10 ∷ []) in omega (arith, long, own));
  other = refl;
}

module _ (arena : MapView) (is_map : IsMap arena) where
  -- what follows the answers of a frame, where others follow it or none
  pub rest-ends : (frame : ℕ) (s : State) (here : List OutLine) (feeds : List (List Arrival)) (js : List (List Entry)) (after : List ℕ) → frame + length feeds ≤ 100000
      → (may_have_more (here ++ fed_lines arena frame s feeds js) ≡ true → EndsPackets after) → may_have_more here ≡ true → EndsPackets (text_of (fed_lines arena frame s feeds js) ++ after)
  rest-ends frame s here [] js after few whole more = whole (ap may_have_more (append-nil here) ∙ more)
  rest-ends frame s here (x ∷ feeds) js after few whole more =
      let r = received_in arena frame s x in
      let answers = map from_line x ++ answers_with arena frame r (first_of js) in
      let later = fed_lines arena (frame + 1) (state_after arena r (first_of js)) feeds (rest_of js) in
      frame-ends frame (answers ++ later) after (omega (arith, few))

  -- the others are whole where all are
  rest-whole : (frame : ℕ) (s : State) (here : List OutLine) (feeds : List (List Arrival)) (js : List (List Entry)) (after : List ℕ)
      → (may_have_more (here ++ fed_lines arena frame s feeds js) ≡ true → EndsPackets after) → may_have_more (fed_lines arena frame s feeds js) ≡ true → EndsPackets after
  rest-whole frame s here [] js after whole more = let never : false ≡ true = more in cc
  rest-whole frame s here (x ∷ feeds) js after whole more =
      let r = received_in arena frame s x in
      let answers = map from_line x ++ answers_with arena frame r (first_of js) in
      let later = fed_lines arena (frame + 1) (state_after arena r (first_of js)) feeds (rest_of js) in
      whole (more-after here (FrameLine frame) (answers ++ later) ∙ more)

  pub first-there : (frame : ℕ) (s : State) (fed : List Arrival) (j : List Entry) (feeds : List (List Arrival)) (js : List (List Entry)) (bytes after : List ℕ) → IsServerState arena s
      → frame + length (fed ∷ feeds) ≤ 100000 → AreThere arena frame s (fed ∷ feeds) (j ∷ js) bytes after → FirstThere arena frame s fed j feeds js bytes after
  first-there frame s fed j feeds js bytes after is few all =
      let r = received_in arena frame s fed in
      let froms = map from_line fed in
      let answers = answers_with arena frame r j in
      let here = FrameLine frame ∷ (froms ++ answers) in
      let next = state_after arena r j in
      let later = fed_lines arena (frame + 1) next feeds js in
      let rest = text_of later ++ after in
      let line = printed_line (FrameLine frame) in
      let parts : text_of (here ++ later) ++ after ≡ line ++ (text_of froms ++ (text_of answers ++ rest)) =
      ap (λ t. t ++ after) (text_of-append here later) ∙ append_assoc (text_of here) (text_of later) after
      ∙ append_assoc line (text_of (froms ++ answers)) rest
      ∙ ap (λ t. line ++ t) (ap (λ t. t ++ rest) (text_of-append froms answers) ∙ append_assoc (text_of froms) (text_of answers) rest) in
      let whole_here = rest-ends (frame + 1) next here feeds js after (omega (arith, few)) all.whole in
      record {
        left = text_of froms ++ (text_of answers ++ rest);
        is = all.is ∙ parts;
        ended = text_of answers ++ rest;
        left_is = refl;
        ends = ends-after frame fed answers rest (answers-others arena frame s fed j) (answers-short arena frame s fed j is_map is all.each.0 all.right.0) whole_here;
        rest = rest;
        ended_is = refl;
        whole = whole_here;
        others = record {
          each = all.each.1;
          right = all.right.1;
          is = refl;
          whole = rest-whole (frame + 1) next here feeds js after all.whole;
        };
      }

  -- ---- two runs

  -- the longer run is the shorter and more, which are there after it
  pub record GoesOnWith (frame : ℕ) (s : State) (xs ys : List (List Arrival)) (js ks : List (List Entry)) (after end : List ℕ) : Type 0 where
    pub more : List (List Arrival)
    pub later : List (List Entry)
    pub feeds_are : ys ≡ xs ++ more
    pub journals_are : ks ≡ js ++ later
    pub there : AreThere arena (frame + length xs) (state_played arena frame s xs js) more later after end

  module _ (frame : ℕ) (s : State) (x : List Arrival) (xs ys : List (List Arrival)) (js ks : List (List Entry)) (bytes after end : List ℕ) (fits : IsFrame x) where
    same-first : (y : List Arrival) (j k : List Entry) → IsFrame y → FirstThere arena frame s x j xs js bytes after → FirstThere arena frame s y k ys ks bytes end → y ≡ x
    same-first y j k also one two =
        let left : one.left ≡ two.left = append-same (printed_line (FrameLine frame)) one.left two.left (sym one.is ∙ two.is) in
        same-packets x fits.each two.left one.ended (sym left ∙ one.left_is) one.ends y also (record { after = two.ended; is = two.left_is }) two.ends

    same-ended : (j k : List Entry) (one : FirstThere arena frame s x j xs js bytes after) (two : FirstThere arena frame s x k ys ks bytes end) → one.ended ≡ two.ended
    same-ended j k one two =
        let left : one.left ≡ two.left = append-same (printed_line (FrameLine frame)) one.left two.left (sym one.is ∙ two.is) in
        append-same (text_of (map from_line x)) one.ended two.ended (sym one.left_is ∙ left ∙ two.left_is)

    -- the frame without its packets
    lines-there : (l : List Entry) (ended rest : List ℕ) → ended ≡ text_of (answers_with arena frame (received_in arena frame s x) l) ++ rest
        → BeginsWith (printed_line (FrameLine frame) ++ ended) (text_of (lines_with arena frame (received_in arena frame s x) l))
    lines-there l ended rest is =
        let line = printed_line (FrameLine frame) in
        record {
          after = rest;
          is = ap (λ t. line ++ t) is ∙ sym (append_assoc line (text_of (answers_with arena frame (received_in arena frame s x) l)) rest);
        }

    reported : IsServerState arena s → (l : List Entry) → IsRightAfter arena (received_in arena frame s x) l → AreReported 0 l
    reported is l right =
        right_is_reported arena (received_in arena frame s x) l is_map (received_is arena frame s x is_map is)
        (numbers_are_small arena frame (state_after_tick arena frame s) x (frame-bytes x fits)) right

    same-second : (j k : List Entry) → IsServerState arena s → IsRightAfter arena (received_in arena frame s x) j → IsRightAfter arena (received_in arena frame s x) k
        → FirstThere arena frame s x j xs js bytes after → FirstThere arena frame s x k ys ks bytes end → k ≡ j
    same-second j k is right other one two =
        let r = received_in arena frame s x in
        let pass = received_is arena frame s x is_map is in
        same-frame arena is_map frame r k j (printed_line (FrameLine frame) ++ one.ended) pass.apart (reported is k other) (reported is j right) other right
        (lines-there k one.ended two.rest (same-ended j k one two ∙ two.ended_is)) (lines-there j one.ended one.rest one.ended_is)

    same-rest : (j : List Entry) (one : FirstThere arena frame s x j xs js bytes after) (two : FirstThere arena frame s x j ys ks bytes end) → two.rest ≡ one.rest
    same-rest j one two =
        append-same (text_of (answers_with arena frame (received_in arena frame s x) j)) two.rest one.rest (sym two.ended_is ∙ sym (same-ended j j one two) ∙ one.ended_is)

  pub goes-on-with : (frame : ℕ) (s : State) (xs ys : List (List Arrival)) (js ks : List (List Entry)) (bytes after end : List ℕ) → IsServerState arena s → frame + length ys ≤ 100000 → length xs ≤ length ys
      → AreThere arena frame s xs js bytes after → AreThere arena frame s ys ks bytes end → GoesOnWith frame s xs ys js ks after end
  goes-on-with frame s [] ys (j ∷ js) ks bytes after end is few fewer one two = absurd one.right
  goes-on-with frame s [] ys [] ks bytes after end is few fewer one two = record {
    more = ys;
    later = ks;
    feeds_are = refl;
    journals_are = refl;
    there = subst (λ (n : ℕ). AreThere arena n s ys ks after end) (sym (add-zero frame)) (subst (λ (bs : List ℕ). AreThere arena frame s ys ks bs end) one.is two);
  }
  goes-on-with frame s (x ∷ xs) [] js ks bytes after end is few fewer one two = absurd (omega (arith, fewer))
  goes-on-with frame s (x ∷ xs) (y ∷ ys) [] ks bytes after end is few fewer one two = absurd one.right
  goes-on-with frame s (x ∷ xs) (y ∷ ys) (j ∷ js) [] bytes after end is few fewer one two = absurd two.right
  goes-on-with frame s (x ∷ xs) (y ∷ ys) (j ∷ js) (k ∷ ks) bytes after end is few fewer one two =
      let a = first-there frame s x j xs js bytes after is (omega (arith, few, fewer)) one in
      let b = first-there frame s y k ys ks bytes end is few two in
      let y_is : y ≡ x = same-first frame s x xs ys js ks bytes after end one.each.0 y j k two.each.0 a b in
      let two_x : AreThere arena frame s (x ∷ ys) (k ∷ ks) bytes end = subst (λ (f : List Arrival). AreThere arena frame s (f ∷ ys) (k ∷ ks) bytes end) y_is two in
      let b_x = first-there frame s x k ys ks bytes end is (omega (arith, few)) two_x in
      let k_is : k ≡ j = same-second frame s x xs ys js ks bytes after end one.each.0 j k is one.right.0 two_x.right.0 a b_x in
      let two_j : AreThere arena frame s (x ∷ ys) (j ∷ ks) bytes end = subst (λ (l : List Entry). AreThere arena frame s (x ∷ ys) (l ∷ ks) bytes end) k_is two_x in
      let b_j = first-there frame s x j ys ks bytes end is (omega (arith, few)) two_j in
      let r = received_in arena frame s x in
      let next = state_after arena r j in
      let others : AreThere arena (frame + 1) next ys ks a.rest end =
      subst (λ (bs : List ℕ). AreThere arena (frame + 1) next ys ks bs end) (same-rest frame s x xs ys js ks bytes after end one.each.0 j a b_j) b_j.others in
      let on = goes-on-with (frame + 1) next xs ys js ks a.rest after end (state_after_is arena r j is_map (received_is arena frame s x is_map is)) (omega (arith, few)) (omega (arith, fewer)) a.others others in
      record {
        more = on.more;
        later = on.later;
        feeds_are = (λ i. y_is i ∷ on.feeds_are i);
        journals_are = (λ i. k_is i ∷ on.journals_are i);
        there = subst (λ (n : ℕ). AreThere arena n (state_played arena (frame + 1) next xs js) on.more on.later after end) (next_number frame (length xs)) on.there;
      }
