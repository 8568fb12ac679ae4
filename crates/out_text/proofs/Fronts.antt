-- The texts of the first frames of a recording, and of all of them, with right journals.
use Rattle.std.proofs.Common.{◌≡◌, ℕ, ◌+◌, ◌-◌, ◌<◌, ◌≤◌, List, [], ◌∷◌, ◌++◌, length, take, drop, Option, Some, None, refl, sym, ap, ◌∙◌, subst, append_assoc, arith, length-append, take-append-drop}
use lib.Seq.{take-append-add, take-append_seam, length-take-le}
use Rattle.entity_recs.specs.declared.effect.Entry.{Entry}
use Rattle.arena_map.specs.Maps.{MapView, IsMap}
use Rattle.packet_read.specs.declared.arrival.Arrival.{Arrival}
use Rattle.plain_server.specs.RecordsById.{opening}
use Rattle.plain_server.specs.Frames.{received_in, state_played, AreRight, AreInOrder}
use Rattle.plain_server.proofs.Frames.{opening_is}
use Rattle.plain_server.proofs.Turns.{right_count}
use Rattle.demo_lines.specs.Bytes.{fault, map_of}
use Rattle.out_text.specs.OutLines.{OutLine, EndLine, text_of}
use Rattle.out_text.specs.FrameLines.{lines_with, run_lines}
use Rattle.out_text.specs.Journals.{dids}
use Rattle.out_text.specs.Collecting.{frames_of}
use Rattle.out_text.specs.Output.{lines_in, AreRightIn, AreInOrderIn, front_text, out_text, last_of, HasLast, IsFront, IsAllFrames, IsOutput, IsPart, IsCutFrame, IsCutEnd}
use Rattle.out_text.proofs.Runs.{run_lines-push, right-take, in_order-take, text_of-append, fewer_are_shorter}
use Rattle.out_text.proofs.ReadBack.{AreAllReported, dids-run, dids-whole}
use Rattle.out_text.proofs.Reporting.{right_are_reported}
use Rattle.out_text.proofs.Growing.{GoesOnWith, goes_on_all, take-goes_on, length-goes_on}
use Rattle.out_text.proofs.Fewness.{frames_are_few}
use Rattle.out_text.proofs.Arrivals.{frames_have_bytes, fore_have_bytes}

-- the frames of an arena, from its opening state on, have these right journals, with one worker in the order of arrival
pub record AreRun (workers : ℕ) (arena : MapView) (frames : List (List Arrival)) (js : List (List Entry)) : Type 0 where
  pub right : AreRight arena 0 (opening arena) frames js
  pub order : workers ≡ 1 → AreInOrder arena 0 (opening arena) frames js

-- the lines of frames in an arena
abbrev pub lines_of : MapView → List (List Arrival) → List (List Entry) → List OutLine
lines_of arena frames js = run_lines arena 0 (opening arena) frames js

-- the text of frames
abbrev pub text_with : MapView → List (List Arrival) → List (List Entry) → List ℕ
text_with arena frames js = text_of (lines_of arena frames js)

-- the text of frames, and the last line
abbrev pub whole_text : MapView → List (List Arrival) → List (List Entry) → List ℕ
whole_text arena frames js = text_of (lines_of arena frames js ++ EndLine (length frames) ∷ [])

-- no frame was run
pub none_are_run : (workers : ℕ) (arena : MapView) → AreRun workers arena [] []
none_are_run workers arena = record { right = tt; order = λ one. tt }

-- the first of frames that were run
pub first_are_run : (workers : ℕ) (arena : MapView) (k : ℕ) (frames : List (List Arrival)) (js : List (List Entry)) → AreRun workers arena frames js → AreRun workers arena (take k frames) (take k js)
first_are_run workers arena k frames js run = record {
  right = right-take arena 0 (opening arena) k frames js run.right;
  order = λ one. in_order-take arena 0 (opening arena) k frames js (run.order one);
}

pub right_in : (m : Option MapView) (arena : MapView) (frames : List (List Arrival)) (js : List (List Entry)) → m ≡ Some arena → AreRight arena 0 (opening arena) frames js → AreRightIn m frames js
right_in m arena frames js is right = let P : Option MapView → Type 0 = λ n. AreRightIn n frames js in subst P (sym is) right

pub in_order_in : (m : Option MapView) (arena : MapView) (frames : List (List Arrival)) (js : List (List Entry)) → m ≡ Some arena → AreInOrder arena 0 (opening arena) frames js → AreInOrderIn m frames js
in_order_in m arena frames js is order = let P : Option MapView → Type 0 = λ n. AreInOrderIn n frames js in subst P (sym is) order

-- the last of journals with one more
pub last_of-push : (js : List (List Entry)) (j : List Entry) → last_of (js ++ j ∷ []) ≡ Some j
last_of-push [] j = refl
last_of-push (k ∷ []) j = refl
last_of-push (k ∷ m ∷ js) j = last_of-push (m ∷ js) j

-- the text of no frame
pub no_front : (workers : ℕ) (bytes : List ℕ) → IsFront workers bytes 0 []
no_front workers bytes = record {
  frames = omega arith;
  spelled = sym (ap text_of (no_lines (map_of bytes) (dids [])));
  right = none_are_right (map_of bytes);
  order = λ one. none_are_in_order (map_of bytes);
}
  where
    no_lines : (m : Option MapView) (js : List (List Entry)) → lines_in m [] js ≡ []
    no_lines None js = refl
    no_lines (Some arena) js = refl

    none_are_right : (m : Option MapView) → AreRightIn m [] []
    none_are_right None = (refl, refl)
    none_are_right (Some arena) = tt

    none_are_in_order : (m : Option MapView) → AreInOrderIn m [] []
    none_are_in_order None = (refl, refl)
    none_are_in_order (Some arena) = tt

-- the frames but the last are the first of all
pub but_last_go_on : (longer all : List (List Arrival)) (k : ℕ) → GoesOnWith longer all → GoesOnWith (take k longer) all
but_last_go_on longer all k on = record {
  rest = drop k longer ++ on.rest;
  is = on.is ∙ ap (λ fs. fs ++ on.rest) (sym (take-append-drop k longer)) ∙ append_assoc (take k longer) (drop k longer) on.rest;
}

pub take-but_last : (closed : List (List Arrival)) (arrivals : List Arrival) → take (length (closed ++ arrivals ∷ []) - 1) (closed ++ arrivals ∷ []) ≡ closed
take-but_last closed arrivals =
    let one_less : length (closed ++ arrivals ∷ []) - 1 ≡ length closed = omega (arith, length-append closed (arrivals ∷ [])) in
    ap (λ k. take k (closed ++ arrivals ∷ [])) one_less ∙ take-append_seam closed (arrivals ∷ [])

-- a recording with an arena
pub record IsPlayed (bytes : List ℕ) (arena : MapView) : Type 0 where
  pub has : map_of bytes ≡ Some arena
  pub is_map : IsMap arena

module _ (workers : ℕ) (bytes : List ℕ) (arena : MapView) (played : IsPlayed bytes arena) where
  -- the entries of the journals of the first frames can be read back
  reported : (closed : List (List Arrival)) (js : List (List Entry)) → GoesOnWith closed (frames_of bytes) → AreRun workers arena closed js → AreAllReported js
  reported closed js on run =
      right_are_reported arena 0 (opening arena) closed js played.is_map (opening_is arena played.is_map) (fore_have_bytes closed (frames_of bytes) on (frames_have_bytes bytes)) run.right

  few : (closed : List (List Arrival)) → GoesOnWith closed (frames_of bytes) → 0 + length closed ≤ 4294967295
  few closed on = omega (arith, length-goes_on closed (frames_of bytes) on, frames_are_few bytes)

  -- the journals that are read off the text of the first frames
  pub dids-front : (closed : List (List Arrival)) (js : List (List Entry)) → GoesOnWith closed (frames_of bytes) → AreRun workers arena closed js → dids (text_with arena closed js) ≡ js
  dids-front closed js on run =
      dids-run arena 0 (opening arena) closed js (few closed on) (right_count arena 0 (opening arena) closed js run.right) (reported closed js on run)

  -- the journals that are read off the whole output
  pub dids-out : (closed : List (List Arrival)) (js : List (List Entry)) → frames_of bytes ≡ closed → AreRun workers arena closed js → dids (whole_text arena closed js) ≡ js
  dids-out closed js all run =
      let on = goes_on_all closed (frames_of bytes) all in
      dids-whole arena 0 (opening arena) closed js (length closed) (few closed on) (right_count arena 0 (opening arena) closed js run.right) (reported closed js on run)

  -- the text of the first frames
  pub front_text-is : (closed : List (List Arrival)) (js : List (List Entry)) → GoesOnWith closed (frames_of bytes) → front_text bytes (length closed) js ≡ text_with arena closed js
  front_text-is closed js on =
      ap (λ fs. text_of (lines_in (map_of bytes) fs js)) (take-goes_on closed (frames_of bytes) on)
      ∙ ap (λ m. text_of (lines_in m closed js)) played.has

  -- the whole output
  pub out_text-is : (closed : List (List Arrival)) (js : List (List Entry)) → frames_of bytes ≡ closed → out_text bytes js ≡ whole_text arena closed js
  out_text-is closed js all =
      ap (λ fs. text_of (lines_in (map_of bytes) fs js ++ EndLine (length fs) ∷ [])) all
      ∙ ap (λ m. text_of (lines_in m closed js ++ EndLine (length closed) ∷ [])) played.has

  -- the journals of the first frames are right
  pub front_is_right : (closed : List (List Arrival)) (js : List (List Entry)) → GoesOnWith closed (frames_of bytes) → AreRun workers arena closed js
      → AreRightIn (map_of bytes) (take (length closed) (frames_of bytes)) js
  front_is_right closed js on run =
      let P : List (List Arrival) → Type 0 = λ fs. AreRightIn (map_of bytes) fs js in
      subst P (sym (take-goes_on closed (frames_of bytes) on)) (right_in (map_of bytes) arena closed js played.has run.right)

  -- and with one worker in the order of arrival
  pub front_is_in_order : (closed : List (List Arrival)) (js : List (List Entry)) → GoesOnWith closed (frames_of bytes) → AreRun workers arena closed js
      → workers ≡ 1 → AreInOrderIn (map_of bytes) (take (length closed) (frames_of bytes)) js
  front_is_in_order closed js on run one =
      let P : List (List Arrival) → Type 0 = λ fs. AreInOrderIn (map_of bytes) fs js in
      subst P (sym (take-goes_on closed (frames_of bytes) on)) (in_order_in (map_of bytes) arena closed js played.has (run.order one))

  -- the text of the first frames is a front
  pub is_front : (closed : List (List Arrival)) (js : List (List Entry)) → GoesOnWith closed (frames_of bytes) → AreRun workers arena closed js
      → IsFront workers bytes (length closed) (text_with arena closed js)
  is_front closed js on run =
      let read = dids-front closed js on run in
      let P : List (List Entry) → Type 0 = λ ks. AreRightIn (map_of bytes) (take (length closed) (frames_of bytes)) ks in
      let Q : List (List Entry) → Type 0 = λ ks. AreInOrderIn (map_of bytes) (take (length closed) (frames_of bytes)) ks in
      record {
        frames = length-goes_on closed (frames_of bytes) on;
        spelled = sym (front_text-is closed js on) ∙ ap (front_text bytes (length closed)) (sym read);
        right = subst P (sym read) (front_is_right closed js on run);
        order = λ one. subst Q (sym read) (front_is_in_order closed js on run one);
      }

  -- the text of all frames that are closed
  pub is_all_frames : (closed : List (List Arrival)) (js : List (List Entry)) → frames_of bytes ≡ closed → AreRun workers arena closed js
      → IsAllFrames workers bytes (text_with arena closed js)
  is_all_frames closed js all run =
      let P : ℕ → Type 0 = λ k. IsFront workers bytes k (text_with arena closed js) in
      subst P (ap length (sym all)) (is_front closed js (goes_on_all closed (frames_of bytes) all) run)

  -- the whole output
  pub is_output : (closed : List (List Arrival)) (js : List (List Entry)) → fault bytes ≡ None → frames_of bytes ≡ closed → AreRun workers arena closed js
      → IsOutput workers bytes (whole_text arena closed js)
  is_output closed js accepted all run =
      let read = dids-out closed js all run in
      let P : List (List Arrival) → List (List Entry) → Type 0 = λ fs ks. AreRightIn (map_of bytes) fs ks in
      let Q : List (List Arrival) → List (List Entry) → Type 0 = λ fs ks. AreInOrderIn (map_of bytes) fs ks in
      record {
        accepted = accepted;
        spelled = sym (out_text-is closed js all) ∙ ap (out_text bytes) (sym read);
        right = subst (P (frames_of bytes)) (sym read)
            (subst (λ (fs : List (List Arrival)). P fs js) (sym all) (right_in (map_of bytes) arena closed js played.has run.right));
        order = λ one. subst (Q (frames_of bytes)) (sym read)
            (subst (λ (fs : List (List Arrival)). Q fs js) (sym all) (in_order_in (map_of bytes) arena closed js played.has (run.order one)));
      }

  -- the last of the journals that are read off the text of the first frames
  pub front_has_last : (Is : List ℕ → Type 0) (closed : List (List Arrival)) (js : List (List Entry)) (last : Option (List Entry)) → GoesOnWith closed (frames_of bytes) → AreRun workers arena closed js
      → last ≡ last_of js → Is (text_with arena closed js) → HasLast Is last (text_with arena closed js)
  front_has_last Is closed js last on run is holds = record { holds = holds; last_is = is ∙ ap last_of (sym (dids-front closed js on run)) }

  -- and of those that are read off the whole output
  pub out_has_last : (Is : List ℕ → Type 0) (closed : List (List Arrival)) (js : List (List Entry)) (last : Option (List Entry)) → frames_of bytes ≡ closed → AreRun workers arena closed js
      → last ≡ last_of js → Is (whole_text arena closed js) → HasLast Is last (whole_text arena closed js)
  out_has_last Is closed js last all run is holds = record { holds = holds; last_is = is ∙ ap last_of (sym (dids-out closed js all run)) }

  -- ---- a write that fails in a text

  -- what is written, and a part of the rest, are a part of the text of so many frames
  part_of_whole : (longer : List (List Arrival)) (js : List (List Entry)) (whole_with : List (List Entry) → List ℕ) (written piece : List ℕ) (count : ℕ)
      → GoesOnWith longer (frames_of bytes) → AreRun workers arena longer js → whole_with js ≡ written ++ piece → count < length piece
      → length (text_with arena (take (length longer - 1) longer) (take (length longer - 1) js)) ≤ length written
      → IsPart workers bytes (length longer) whole_with (last_of js) (written ++ take count piece)
  part_of_whole longer js whole_with written piece count on run is short before =
      let k = length longer - 1 in
      let fewer = take k longer in
      let fewer_on = but_last_go_on longer (frames_of bytes) k on in
      let fewer_run = first_are_run workers arena k longer js run in
      let front = text_with arena fewer (take k js) in
      let fits : k ≤ length longer = omega arith in
      let P : ℕ → Type 0 = λ n. IsFront workers bytes n front in
      record {
        frames = length-goes_on longer (frames_of bytes) on;
        journals = js;
        last_is = refl;
        right = front_is_right longer js on run;
        order = front_is_in_order longer js on run;
        front = front;
        all_but_one = subst P (length-take-le k longer fits) (is_front fewer (take k js) fewer_on fewer_run);
        spelled = sym (dids-front fewer (take k js) fewer_on fewer_run);
        count = length written + count;
        longer = omega arith;
        short = omega (arith, ap length is, length-append written piece);
        part = sym (ap (take (length written + count)) is ∙ take-append-add written piece count);
      }

  -- the text without the last frame is that of the frames before it
  but_last : (closed : List (List Arrival)) (arrivals : List Arrival) (js : List (List Entry)) (j : List Entry) → length js ≡ length closed
      → text_with arena (take (length (closed ++ arrivals ∷ []) - 1) (closed ++ arrivals ∷ [])) (take (length (closed ++ arrivals ∷ []) - 1) (js ++ j ∷ []))
      ≡ text_with arena closed js
  but_last closed arrivals js j same =
      let k = length (closed ++ arrivals ∷ []) - 1 in
      let fits : k ≡ length js = omega (arith, length-append closed (arrivals ∷ []), same) in
      ap (λ fs. text_with arena fs (take k (js ++ j ∷ []))) (take-but_last closed arrivals)
      ∙ ap (text_with arena closed) (ap (λ n. take n (js ++ j ∷ [])) fits ∙ take-append_seam js (j ∷ []))

  -- a write failed in the text of one more frame
  pub frame_cut : (closed : List (List Arrival)) (arrivals : List Arrival) (js : List (List Entry)) (j : List Entry) (piece : List OutLine) (count : ℕ) → length js ≡ length closed
      → GoesOnWith (closed ++ arrivals ∷ []) (frames_of bytes) → AreRun workers arena (closed ++ arrivals ∷ []) (js ++ j ∷ [])
      → piece ≡ lines_with arena (0 + length closed) (received_in arena (0 + length closed) (state_played arena 0 (opening arena) closed js) arrivals) j
      → count < length (text_of piece) → IsCutFrame workers bytes (last_of (js ++ j ∷ [])) (text_with arena closed js ++ take count (text_of piece))
  frame_cut closed arrivals js j piece count same on run is short =
      let longer = closed ++ arrivals ∷ [] in
      let more = js ++ j ∷ [] in
      let whole_is = front_text-is longer more on ∙ ap text_of (run_lines-push arena 0 (opening arena) closed arrivals js j same ∙ ap (λ ls. lines_of arena closed js ++ ls) (sym is))
      ∙ text_of-append (lines_of arena closed js) piece in
      let before = ap length (but_last closed arrivals js j same) in
      record {
        k = length longer;
        some = omega (arith, length-append closed (arrivals ∷ []));
        cut = part_of_whole longer more (front_text bytes (length longer)) (text_with arena closed js) (text_of piece) count on run whole_is short (omega (arith, before));
      }

  -- a write failed in the last line, or in the text of the frames from closed on and the last line
  cut_at_end : (closed longer : List (List Arrival)) (js more : List (List Entry)) (piece : List OutLine) (count : ℕ) → fault bytes ≡ None → frames_of bytes ≡ longer → AreRun workers arena longer more
      → length (text_with arena (take (length longer - 1) longer) (take (length longer - 1) more)) ≤ length (text_with arena closed js)
      → lines_of arena longer more ++ EndLine (length longer) ∷ [] ≡ lines_of arena closed js ++ piece
      → count < length (text_of piece) → IsCutEnd workers bytes (last_of more) (text_with arena closed js ++ take count (text_of piece))
  cut_at_end closed longer js more piece count accepted all run before is short =
      let whole_is = out_text-is longer more all ∙ ap text_of is ∙ text_of-append (lines_of arena closed js) piece in
      let P : ℕ → Type 0 = λ n. IsPart workers bytes n (out_text bytes) (last_of more) (text_with arena closed js ++ take count (text_of piece)) in
      let cut = part_of_whole longer more (out_text bytes) (text_with arena closed js) (text_of piece) count (goes_on_all longer (frames_of bytes) all) run whole_is short before in
      record { accepted = accepted; cut = subst P (ap length (sym all)) cut }

  -- a write failed in the last line, where no frame was open
  pub end_cut : (closed : List (List Arrival)) (js : List (List Entry)) (count : ℕ) → fault bytes ≡ None → frames_of bytes ≡ closed → AreRun workers arena closed js
      → count < length (text_of (EndLine (length closed) ∷ [])) → IsCutEnd workers bytes (last_of js) (text_with arena closed js ++ take count (text_of (EndLine (length closed) ∷ [])))
  end_cut closed js count accepted all run short =
      let same = right_count arena 0 (opening arena) closed js run.right in
      cut_at_end closed closed js js (EndLine (length closed) ∷ []) count accepted all run
      (fewer_are_shorter arena (opening arena) (length closed - 1) closed js same) refl short

  -- a write failed in the text of the last frame, which was open, and the last line
  pub last_cut : (closed : List (List Arrival)) (arrivals : List Arrival) (js : List (List Entry)) (j : List Entry) (piece : List OutLine) (count : ℕ) → length js ≡ length closed
      → fault bytes ≡ None → frames_of bytes ≡ closed ++ arrivals ∷ [] → AreRun workers arena (closed ++ arrivals ∷ []) (js ++ j ∷ [])
      → piece ≡ lines_with arena (0 + length closed) (received_in arena (0 + length closed) (state_played arena 0 (opening arena) closed js) arrivals) j ++ EndLine (length (closed ++ arrivals ∷ [])) ∷ []
      → count < length (text_of piece) → IsCutEnd workers bytes (last_of (js ++ j ∷ [])) (text_with arena closed js ++ take count (text_of piece))
  last_cut closed arrivals js j piece count same accepted all run is short =
      let longer = closed ++ arrivals ∷ [] in
      let here = lines_with arena (0 + length closed) (received_in arena (0 + length closed) (state_played arena 0 (opening arena) closed js) arrivals) j in
      let last = EndLine (length longer) ∷ [] in
      let whole_is = ap (λ ls. ls ++ last) (run_lines-push arena 0 (opening arena) closed arrivals js j same) ∙ append_assoc (lines_of arena closed js) here last
      ∙ ap (λ ls. lines_of arena closed js ++ ls) (sym is) in
      let before = ap length (but_last closed arrivals js j same) in
      cut_at_end closed longer js (js ++ j ∷ []) piece count accepted all run (omega (arith, before)) whole_is short
