-- The texts of the first frames of a recording that is fed, and of all of them, with right journals.
use Rattle.std.proofs.Common.{◌≡◌, ℕ, ◌+◌, ◌-◌, ◌<◌, ◌≤◌, List, [], ◌∷◌, ◌++◌, length, take, Option, Some, None, IfSome, refl, sym, ap, ◌∙◌, subst, append_assoc, arith, length-append}
use lib.Seq.{take-append-add, take-append_seam, length-take-le}
use Rattle.entity_recs.specs.declared.effect.Entry.{Entry}
use Rattle.arena_map.specs.Maps.{MapView}
use Rattle.packet_read.specs.declared.arrival.Arrival.{Arrival}
use Rattle.plain_server.specs.RecordsById.{opening}
use Rattle.plain_server.specs.Frames.{received_in, state_played}
use Rattle.plain_server.proofs.Frames.{opening_is}
use Rattle.plain_server.proofs.Turns.{right_count}
use Rattle.demo_lines.specs.Bytes.{fault, map_of}
use Rattle.out_text.specs.OutLines.{OutLine, EndLine, text_of}
use Rattle.out_text.specs.FrameLines.{lines_with}
use Rattle.out_text.specs.Journals.{dids}
use Rattle.out_text.specs.Collecting.{frames_of}
use Rattle.out_text.specs.Output.{AreRightIn, AreInOrderIn, last_of}
use Rattle.packet_read.specs.Orders.{AreEachOnce}
use Rattle.out_text.specs.Feeds.{AreFeedsOf, last_fed, last_ordered, RiseByParity, IsLastOrder, with_froms, fed_lines, fed_lines_in, fed_text, fed_output, froms, IsFedOutput, IsFedFront, IsFedFrames, IsFedPart, IsFedCutFrame, IsFedCutEnd, HasLastFed}
use Rattle.out_text.proofs.Runs.{text_of-append}
use Rattle.out_text.proofs.ReadBack.{AreAllReported}
use Rattle.out_text.proofs.Reporting.{right_are_reported}
use Rattle.out_text.proofs.Growing.{GoesOnWith, goes_on_all, take-goes_on, length-goes_on}
use Rattle.out_text.proofs.Fewness.{frames_are_few}
use Rattle.out_text.proofs.Arrivals.{frames_have_bytes, fore_have_bytes}
use Rattle.out_text.proofs.SmallFrames.{frames_are_small, fore_are_small}
use Rattle.out_text.proofs.Fronts.{AreRun, IsPlayed, first_are_run, right_in, in_order_in, but_last_go_on}
use Rattle.out_text.proofs.Outputs.{nothing_reported}
use Rattle.out_text.proofs.FedReadBack.{AreRead, froms-run, froms-whole, froms-none, fed_dids-run, fed_dids-whole}
use Rattle.out_text.proofs.FedRuns.{feeds_are_read, feeds_have_bytes, length-feeds, feeds-take, fed_lines-push, fewer_fed_are_shorter}

-- the lines of frames that are fed, in an arena
abbrev pub fed_lines_of : MapView → List (List Arrival) → List (List Entry) → List OutLine
fed_lines_of arena feeds js = fed_lines arena 0 (opening arena) feeds js

-- their text
abbrev pub fed_text_with : MapView → List (List Arrival) → List (List Entry) → List ℕ
fed_text_with arena feeds js = text_of (fed_lines_of arena feeds js)

-- and with the last line
abbrev pub fed_whole : MapView → List (List Arrival) → List (List Entry) → List ℕ
fed_whole arena feeds js = text_of (fed_lines_of arena feeds js ++ EndLine (length feeds) ∷ [])

-- ---- the text of no frame

no_fed_lines : (m : Option MapView) (feeds : List (List Arrival)) (js : List (List Entry)) → feeds ≡ [] → fed_lines_in m feeds js ≡ []
no_fed_lines None feeds js is = refl
no_fed_lines (Some arena) feeds js is = ap (λ fs. fed_lines arena 0 (opening arena) fs js) is

none_are_right : (m : Option MapView) → AreRightIn m [] []
none_are_right None = (refl, refl)
none_are_right (Some arena) = tt

none_are_in_order : (m : Option MapView) → AreInOrderIn m [] []
none_are_in_order None = (refl, refl)
none_are_in_order (Some arena) = tt

pub no_fed_front : (workers : ℕ) (bytes : List ℕ) → IsFedFront workers bytes 0 []
no_fed_front workers bytes =
    let P : List (List Arrival) → List (List Entry) → Type 0 = AreRightIn (map_of bytes) in
    let Q : List (List Arrival) → List (List Entry) → Type 0 = AreInOrderIn (map_of bytes) in
    record {
      frames = omega arith;
      feeds = subst (AreFeedsOf []) (sym froms-none) tt;
      spelled = sym (ap text_of (no_fed_lines (map_of bytes) (froms []) (dids []) froms-none));
      right = subst (λ (fs : List (List Arrival)). P fs (dids [])) (sym froms-none) (subst (P []) (sym nothing_reported) (none_are_right (map_of bytes)));
      order = λ one. subst (λ (fs : List (List Arrival)). Q fs (dids [])) (sym froms-none) (subst (Q []) (sym nothing_reported) (none_are_in_order (map_of bytes)));
    }

pub no_fed_last : (Is : List ℕ → Type 0) (bytes : List ℕ) (order : Option (List ℕ)) (last : Option (List Entry)) → order ≡ None → last ≡ None → Is [] → HasLastFed Is bytes order last []
no_fed_last Is bytes order last no_order none holds = record {
  holds = holds;
  order_is = record {
    none = λ _. no_order;
    places =
        let frames = take (length (froms [])) (frames_of bytes) in
        let P : Option (List ℕ) → Type 0 = λ o. IfSome o (λ places. IfSome (last_fed frames) (λ sent. AreEachOnce (length sent) places)) in
        subst P (sym no_order) tt;
    rising =
        let frames = take (length (froms [])) (frames_of bytes) in
        let P : Option (List ℕ) → Type 0 = λ o. IfSome o (λ places. IfSome (last_fed frames) (λ sent. RiseByParity sent places)) in
        subst P (sym no_order) tt;
    packets = ap (λ (o : Option (List ℕ)). last_ordered o (take (length (froms [])) (frames_of bytes))) no_order ∙ sym (ap last_fed froms-none);
  };
  last_is = none ∙ sym (ap last_of nothing_reported);
}

module _ (workers : ℕ) (bytes : List ℕ) (arena : MapView) (played : IsPlayed bytes arena) where
  module _ (closed feeds : List (List Arrival)) (js : List (List Entry)) (on : GoesOnWith closed (frames_of bytes)) (fed : AreFeedsOf closed feeds) (run : AreRun workers arena feeds js) where
    are_read : AreRead feeds
    are_read = feeds_are_read closed feeds fed (fore_are_small closed (frames_of bytes) on (frames_are_small bytes)) (fore_have_bytes closed (frames_of bytes) on (frames_have_bytes bytes))

    reported : AreAllReported js
    reported =
        right_are_reported arena 0 (opening arena) feeds js played.is_map (opening_is arena played.is_map)
        (feeds_have_bytes closed feeds fed (fore_have_bytes closed (frames_of bytes) on (frames_have_bytes bytes))) run.right

    few : 0 + length feeds ≤ 4294967295
    few = omega (arith, length-feeds closed feeds fed, length-goes_on closed (frames_of bytes) on, frames_are_few bytes)

    as_many : length js ≡ length feeds
    as_many = right_count arena 0 (opening arena) feeds js run.right

    -- what is read off the text of the first frames
    pub fed_froms-front : froms (fed_text_with arena feeds js) ≡ feeds
    fed_froms-front = froms-run arena 0 (opening arena) feeds js few as_many are_read

    pub fed_dids-front : dids (fed_text_with arena feeds js) ≡ js
    fed_dids-front = fed_dids-run arena 0 (opening arena) feeds js few as_many reported

    -- and off the whole output
    pub fed_froms-out : froms (fed_whole arena feeds js) ≡ feeds
    fed_froms-out = froms-whole arena 0 (opening arena) feeds js (length feeds) few as_many are_read

    pub fed_dids-out : dids (fed_whole arena feeds js) ≡ js
    fed_dids-out = fed_dids-whole arena 0 (opening arena) feeds js (length feeds) few as_many reported

    -- the same text by the map of the recording
    pub fed_text-is : fed_text bytes feeds js ≡ fed_text_with arena feeds js
    fed_text-is = ap (λ m. text_of (fed_lines_in m feeds js)) played.has

    pub fed_output-is : fed_output bytes feeds js ≡ fed_whole arena feeds js
    fed_output-is = ap (λ m. text_of (fed_lines_in m feeds js ++ EndLine (length feeds) ∷ [])) played.has

    pub fed_right : AreRightIn (map_of bytes) feeds js
    fed_right = right_in (map_of bytes) arena feeds js played.has run.right

    pub fed_in_turn : workers ≡ 1 → AreInOrderIn (map_of bytes) feeds js
    fed_in_turn one = in_order_in (map_of bytes) arena feeds js played.has (run.order one)

    fed_of_first : AreFeedsOf (take (length closed) (frames_of bytes)) feeds
    fed_of_first = subst (λ (fs : List (List Arrival)). AreFeedsOf fs feeds) (sym (take-goes_on closed (frames_of bytes) on)) fed

    -- the text of the first frames is a front
    pub is_fed_front : IsFedFront workers bytes (length closed) (fed_text_with arena feeds js)
    is_fed_front =
        let P : List (List Arrival) → List (List Entry) → Type 0 = AreRightIn (map_of bytes) in
        let Q : List (List Arrival) → List (List Entry) → Type 0 = AreInOrderIn (map_of bytes) in
        let text = fed_text_with arena feeds js in
        record {
          frames = length-goes_on closed (frames_of bytes) on;
          feeds = subst (AreFeedsOf (take (length closed) (frames_of bytes))) (sym fed_froms-front) fed_of_first;
          spelled = sym fed_text-is ∙ ap (λ (fs : List (List Arrival)). fed_text bytes fs js) (sym fed_froms-front) ∙ ap (fed_text bytes (froms text)) (sym fed_dids-front);
          right = subst (λ (fs : List (List Arrival)). P fs (dids text)) (sym fed_froms-front) (subst (P feeds) (sym fed_dids-front) fed_right);
          order = λ one. subst (λ (fs : List (List Arrival)). Q fs (dids text)) (sym fed_froms-front) (subst (Q feeds) (sym fed_dids-front) (fed_in_turn one));
        }

    -- the last of the order of arrival and of the journals that are read off it
    pub fed_front_has_last : (Is : List ℕ → Type 0) (order : Option (List ℕ)) (last : Option (List Entry)) → IsLastOrder order closed feeds → last ≡ last_of js
        → Is (fed_text_with arena feeds js) → HasLastFed Is bytes order last (fed_text_with arena feeds js)
    fed_front_has_last Is order last so is holds =
        let first : closed ≡ take (length feeds) (frames_of bytes) = sym (take-goes_on closed (frames_of bytes) on) ∙ ap (λ n. take n (frames_of bytes)) (sym (length-feeds closed feeds fed)) in
        let P : List (List Arrival) → Type 0 = λ fs. IsLastOrder order (take (length fs) (frames_of bytes)) fs in
        record {
          holds = holds;
          order_is = subst P (sym fed_froms-front) (subst (λ (fs : List (List Arrival)). IsLastOrder order fs feeds) first so);
          last_is = is ∙ ap last_of (sym fed_dids-front);
        }

    -- ---- all frames

    module _ (all : frames_of bytes ≡ closed) where
      pub is_fed_frames : IsFedFrames workers bytes (fed_text_with arena feeds js)
      is_fed_frames =
          let P : ℕ → Type 0 = λ k. IsFedFront workers bytes k (fed_text_with arena feeds js) in
          subst P (ap length (sym all)) is_fed_front

      pub is_fed_output : fault bytes ≡ None → IsFedOutput workers bytes (fed_whole arena feeds js)
      is_fed_output accepted =
          let P : List (List Arrival) → List (List Entry) → Type 0 = AreRightIn (map_of bytes) in
          let Q : List (List Arrival) → List (List Entry) → Type 0 = AreInOrderIn (map_of bytes) in
          let text = fed_whole arena feeds js in
          record {
            accepted = accepted;
            feeds = subst (AreFeedsOf (frames_of bytes)) (sym fed_froms-out) (subst (λ (fs : List (List Arrival)). AreFeedsOf fs feeds) (sym all) fed);
            spelled = sym fed_output-is ∙ ap (λ (fs : List (List Arrival)). fed_output bytes fs js) (sym fed_froms-out) ∙ ap (fed_output bytes (froms text)) (sym fed_dids-out);
            right = subst (λ (fs : List (List Arrival)). P fs (dids text)) (sym fed_froms-out) (subst (P feeds) (sym fed_dids-out) fed_right);
            order = λ one. subst (λ (fs : List (List Arrival)). Q fs (dids text)) (sym fed_froms-out) (subst (Q feeds) (sym fed_dids-out) (fed_in_turn one));
          }

      pub fed_out_has_last : (Is : List ℕ → Type 0) (order : Option (List ℕ)) (last : Option (List Entry)) → IsLastOrder order closed feeds → last ≡ last_of js
          → Is (fed_whole arena feeds js) → HasLastFed Is bytes order last (fed_whole arena feeds js)
      fed_out_has_last Is order last so is holds =
          let first : closed ≡ take (length feeds) (frames_of bytes) = sym (take-goes_on closed (frames_of bytes) on) ∙ ap (λ n. take n (frames_of bytes)) (sym (length-feeds closed feeds fed)) in
          let P : List (List Arrival) → Type 0 = λ fs. IsLastOrder order (take (length fs) (frames_of bytes)) fs in
          record {
            holds = holds;
            order_is = subst P (sym fed_froms-out) (subst (λ (fs : List (List Arrival)). IsLastOrder order fs feeds) first so);
            last_is = is ∙ ap last_of (sym fed_dids-out);
          }

  -- ---- a write that fails in a text

  -- what is written, and a part of the rest, are a part of the text of so many frames
  part_of_fed : (longer feeds : List (List Arrival)) (js : List (List Entry)) (whole_with : List (List Arrival) → List (List Entry) → List ℕ) (order : Option (List ℕ)) (written piece : List ℕ) (count : ℕ)
      → GoesOnWith longer (frames_of bytes) → AreFeedsOf longer feeds → AreRun workers arena feeds js → IsLastOrder order longer feeds → whole_with feeds js ≡ written ++ piece → count < length piece
      → length (fed_text_with arena (take (length longer - 1) feeds) (take (length longer - 1) js)) ≤ length written
      → IsFedPart workers bytes (length longer) whole_with order (last_of js) (written ++ take count piece)
  part_of_fed longer feeds js whole_with order written piece count on fed run so is short before =
      let k = length longer - 1 in
      let fewer = take k longer in
      let fewer_feeds = take k feeds in
      let fewer_on = but_last_go_on longer (frames_of bytes) k on in
      let fewer_fed = feeds-take k longer feeds fed in
      let fewer_run = first_are_run workers arena k feeds js run in
      let front = fed_text_with arena fewer_feeds (take k js) in
      let fits : k ≤ length longer = omega arith in
      let P : ℕ → Type 0 = λ n. IsFedFront workers bytes n front in
      let R : List (List Arrival) → Type 0 = λ fs. AreFeedsOf fs feeds in
      let O : List (List Arrival) → Type 0 = λ fs. IsLastOrder order fs feeds in
      record {
        frames = length-goes_on longer (frames_of bytes) on;
        arrived = feeds;
        journals = js;
        feeds = subst R (sym (take-goes_on longer (frames_of bytes) on)) fed;
        order_is = subst O (sym (take-goes_on longer (frames_of bytes) on)) so;
        last_is = refl;
        right = fed_right longer feeds js on fed run;
        in_turn = fed_in_turn longer feeds js on fed run;
        front = front;
        all_but_one = subst P (length-take-le k longer fits) (is_fed_front fewer fewer_feeds (take k js) fewer_on fewer_fed fewer_run);
        arrived_spelled = sym (fed_froms-front fewer fewer_feeds (take k js) fewer_on fewer_fed fewer_run);
        journals_spelled = sym (fed_dids-front fewer fewer_feeds (take k js) fewer_on fewer_fed fewer_run);
        count = length written + count;
        longer = omega arith;
        short = omega (arith, ap length is, length-append written piece);
        part = sym (ap (take (length written + count)) is ∙ take-append-add written piece count);
      }

  -- the text without the last frame is that of the frames before it
  but_last : (feeds : List (List Arrival)) (fed : List Arrival) (js : List (List Entry)) (j : List Entry) (n : ℕ) → length js ≡ length feeds → n ≡ length feeds + 1
      → fed_text_with arena (take (n - 1) (feeds ++ fed ∷ [])) (take (n - 1) (js ++ j ∷ [])) ≡ fed_text_with arena feeds js
  but_last feeds fed js j n same is =
      let here : n - 1 ≡ length feeds = omega (arith, is) in
      let there : n - 1 ≡ length js = omega (arith, is, same) in
      ap (λ fs. fed_text_with arena fs (take (n - 1) (js ++ j ∷ []))) (ap (λ m. take m (feeds ++ fed ∷ [])) here ∙ take-append_seam feeds (fed ∷ []))
      ∙ ap (fed_text_with arena feeds) (ap (λ m. take m (js ++ j ∷ [])) there ∙ take-append_seam js (j ∷ []))

  -- a write failed in the text of one more frame
  pub fed_frame_cut : (closed feeds : List (List Arrival)) (arrivals fed : List Arrival) (js : List (List Entry)) (j : List Entry) (order : Option (List ℕ)) (piece : List OutLine) (count : ℕ) → length js ≡ length feeds
      → GoesOnWith (closed ++ arrivals ∷ []) (frames_of bytes) → AreFeedsOf (closed ++ arrivals ∷ []) (feeds ++ fed ∷ []) → AreRun workers arena (feeds ++ fed ∷ []) (js ++ j ∷ [])
      → IsLastOrder order (closed ++ arrivals ∷ []) (feeds ++ fed ∷ [])
      → piece ≡ with_froms fed (lines_with arena (0 + length feeds) (received_in arena (0 + length feeds) (state_played arena 0 (opening arena) feeds js) fed) j)
      → count < length (text_of piece) → IsFedCutFrame workers bytes order (last_of (js ++ j ∷ [])) (fed_text_with arena feeds js ++ take count (text_of piece))
  fed_frame_cut closed feeds arrivals fed js j order piece count same on are run so is short =
      let longer = closed ++ arrivals ∷ [] in
      let longer_feeds = feeds ++ fed ∷ [] in
      let more = js ++ j ∷ [] in
      let whole_is = fed_text-is longer longer_feeds more on are run
      ∙ ap text_of (fed_lines-push arena 0 (opening arena) feeds fed js j same ∙ ap (λ ls. fed_lines_of arena feeds js ++ ls) (sym is))
      ∙ text_of-append (fed_lines_of arena feeds js) piece in
      let one_more : length longer ≡ length feeds + 1 = omega (arith, length-feeds longer longer_feeds are, length-append feeds (fed ∷ [])) in
      let before = ap length (but_last feeds fed js j (length longer) same one_more) in
      record {
        k = length longer;
        some = omega (arith, one_more);
        cut = part_of_fed longer longer_feeds more (fed_text bytes) order (fed_text_with arena feeds js) (text_of piece) count on are run so whole_is short (omega (arith, before));
      }

  -- a write failed in the last line, or in the text of the last frame and the last line
  fed_cut_at_end : (longer longer_feeds feeds : List (List Arrival)) (js more : List (List Entry)) (order : Option (List ℕ)) (piece : List OutLine) (count : ℕ) → fault bytes ≡ None → frames_of bytes ≡ longer
      → AreFeedsOf longer longer_feeds → AreRun workers arena longer_feeds more → IsLastOrder order longer longer_feeds
      → length (fed_text_with arena (take (length longer - 1) longer_feeds) (take (length longer - 1) more)) ≤ length (fed_text_with arena feeds js)
      → fed_lines_of arena longer_feeds more ++ EndLine (length longer_feeds) ∷ [] ≡ fed_lines_of arena feeds js ++ piece
      → count < length (text_of piece) → IsFedCutEnd workers bytes order (last_of more) (fed_text_with arena feeds js ++ take count (text_of piece))
  fed_cut_at_end longer longer_feeds feeds js more order piece count accepted all are run so before is short =
      let on = goes_on_all longer (frames_of bytes) all in
      let whole_is = fed_output-is longer longer_feeds more on are run ∙ ap text_of is ∙ text_of-append (fed_lines_of arena feeds js) piece in
      let P : ℕ → Type 0 = λ n. IsFedPart workers bytes n (fed_output bytes) order (last_of more) (fed_text_with arena feeds js ++ take count (text_of piece)) in
      let cut = part_of_fed longer longer_feeds more (fed_output bytes) order (fed_text_with arena feeds js) (text_of piece) count on are run so whole_is short before in
      record { accepted = accepted; cut = subst P (ap length (sym all)) cut }

  -- a write failed in the last line, where no frame was open
  pub fed_end_cut : (closed feeds : List (List Arrival)) (js : List (List Entry)) (order : Option (List ℕ)) (count : ℕ) → fault bytes ≡ None → frames_of bytes ≡ closed → AreFeedsOf closed feeds
      → AreRun workers arena feeds js → IsLastOrder order closed feeds
      → count < length (text_of (EndLine (length feeds) ∷ [])) → IsFedCutEnd workers bytes order (last_of js) (fed_text_with arena feeds js ++ take count (text_of (EndLine (length feeds) ∷ [])))
  fed_end_cut closed feeds js order count accepted all are run so short =
      let same = right_count arena 0 (opening arena) feeds js run.right in
      fed_cut_at_end closed feeds feeds js js order (EndLine (length feeds) ∷ []) count accepted all are run so
      (fewer_fed_are_shorter arena (opening arena) (length closed - 1) feeds js same) refl short

  -- a write failed in the text of the last frame, which was open, and the last line
  pub fed_last_cut : (closed feeds : List (List Arrival)) (arrivals fed : List Arrival) (js : List (List Entry)) (j : List Entry) (order : Option (List ℕ)) (piece : List OutLine) (count : ℕ) → length js ≡ length feeds
      → fault bytes ≡ None → frames_of bytes ≡ closed ++ arrivals ∷ [] → AreFeedsOf (closed ++ arrivals ∷ []) (feeds ++ fed ∷ []) → AreRun workers arena (feeds ++ fed ∷ []) (js ++ j ∷ [])
      → IsLastOrder order (closed ++ arrivals ∷ []) (feeds ++ fed ∷ [])
      → piece ≡ with_froms fed (lines_with arena (0 + length feeds) (received_in arena (0 + length feeds) (state_played arena 0 (opening arena) feeds js) fed) j) ++ EndLine (length (feeds ++ fed ∷ [])) ∷ []
      → count < length (text_of piece) → IsFedCutEnd workers bytes order (last_of (js ++ j ∷ [])) (fed_text_with arena feeds js ++ take count (text_of piece))
  fed_last_cut closed feeds arrivals fed js j order piece count same accepted all are run so is short =
      let longer = closed ++ arrivals ∷ [] in
      let longer_feeds = feeds ++ fed ∷ [] in
      let here = with_froms fed (lines_with arena (0 + length feeds) (received_in arena (0 + length feeds) (state_played arena 0 (opening arena) feeds js) fed) j) in
      let last = EndLine (length longer_feeds) ∷ [] in
      let whole_is = ap (λ ls. ls ++ last) (fed_lines-push arena 0 (opening arena) feeds fed js j same) ∙ append_assoc (fed_lines_of arena feeds js) here last
      ∙ ap (λ ls. fed_lines_of arena feeds js ++ ls) (sym is) in
      let one_more : length longer ≡ length feeds + 1 = omega (arith, length-feeds longer longer_feeds are, length-append feeds (fed ∷ [])) in
      let before = ap length (but_last feeds fed js j (length longer) same one_more) in
      fed_cut_at_end longer longer_feeds feeds js (js ++ j ∷ []) order piece count accepted all are run so (omega (arith, before)) whole_is short
