-- The frames of a transcript that were read so far, each with the one right journal whose lines are there.
use Rattle.std.proofs.Common.{◌≡◌, ℕ, true, false, append_assoc, zero, suc, ◌+◌, ◌*◌, ◌≤◌, List, [], ◌∷◌, ◌++◌, length, take, drop, IfSome, refl, sym, ap, ◌∙◌, subst, add-zero, append-nil, arith, length-append, take-append-drop}
use Rattle.std.specs.Prelude.{⊤}
use Rattle.edge_io.specs.declared.source.Source as sources
use Rattle.entity_recs.specs.declared.effect.Entry.{Entry}
use Rattle.arena_map.specs.declared.limits.TheConstants.{MOST_FRAMES}
use Rattle.arena_map.specs.Maps.{MapView}
use Rattle.packet_read.specs.declared.arrival.Arrival.{Arrival}
use Rattle.client_ports.specs.States.{State}
use Rattle.client_ports.specs.Receiving.{Receiving}
use Rattle.plain_server.specs.RecordsById.{opening}
use Rattle.plain_server.specs.Frames.{received_in, state_after, state_played, journals_of, IsRightAfter, AreRight}
use Rattle.plain_server.proofs.Frames as plain
use Rattle.plain_server.proofs.Turns.{right_count}
use Rattle.out_text.specs.FrameLines.{lines_with, run_lines}
use Rattle.out_text.specs.OutLines.{OutLine, EndLine, printed_line, text_of}
use Rattle.out_text.specs.Transcripts.{BeginsWith, run_moves, IsTranscript, HasRightPieces, IsWrongAfter}
use Rattle.out_text.proofs.Runs.{run_lines-append, run_lines-push, state_played-push, right-append, right-push, right-split_last, right-take, text_of-append, next_number, same_taken}
use Rattle.client_ports.specs.declared.received.TheConstants.{MOST_FRAME_MOVES}
use Rattle.transcript_check.specs.Reading.{InputView, count_after, ahead_of, MayRead, IsNeeded, ReadsLines, ReadsOneAtMost, ReadsBeginning, Misses}
use Rattle.transcript_check.specs.Checkers.{CheckerView, new_checker, IsChecker}
use Rattle.transcript_check.specs.Pieces.{MissesFrame, BeginsFrame, HasNoJournal, AreOfJournal, TakesFrame}
use Rattle.transcript_check.specs.Looked.{AreOfOutput, TakesOutput}
use Rattle.transcript_check.specs.Verdicts.{IsRight, IsWrongAt, IsVerdict}
use Rattle.transcript_check.specs.declared.verdict.Verdict.TheVariants.{Right, Wrong}
use Rattle.transcript_check.proofs.Texts.{text_of-one, begins-after, begins-front, if_some-over, if_some-all}
use Rattle.transcript_check.proofs.ReadingOn.{reads-none, reads-both, IsWithin, looked-first, looked-after}

-- the moves of one frame more
pub run_moves-push : (map : MapView) (frame : ℕ) (s : State) (frames : List (List Arrival)) (arrivals : List Arrival) (js : List (List Entry)) (j : List Entry) → length js ≡ length frames
    → run_moves map frame s (frames ++ arrivals ∷ []) (js ++ j ∷ [])
    ≡ run_moves map frame s frames js + length (received_in map (frame + length frames) (state_played map frame s frames js) arrivals).lists.moves
run_moves-push map frame s [] arrivals [] j same =
    let here = ap (λ n. length (received_in map n s arrivals).lists.moves) (add-zero frame) in
    omega (arith, here)
run_moves-push map frame s [] arrivals (k ∷ js) j same = absurd (omega (arith, same))
run_moves-push map frame s (x ∷ frames) arrivals [] j same = absurd (omega (arith, same))
run_moves-push map frame s (x ∷ frames) arrivals (k ∷ js) j same =
    let next = state_after map (received_in map frame s x) k in
    let rest = run_moves-push map (frame + 1) next frames arrivals js j (omega (arith, same)) in
    let here = ap (λ n. length (received_in map n (state_played map (frame + 1) next frames js) arrivals).lists.moves) (next_number frame (length frames)) in
    omega (arith, rest, here)

-- a list with one item more than another has a last one
record IsPushed (n : ℕ) (ls : List (List Entry)) : Type 0 where
  front : List (List Entry)
  last : List Entry
  is : ls ≡ front ++ last ∷ []
  same : length front ≡ n

pushed : (n : ℕ) (ls : List (List Entry)) → length ls ≡ n + 1 → IsPushed n ls
pushed n [] same = absurd (omega (arith, same))
pushed zero (x ∷ []) same = record { front = []; last = x; is = refl; same = refl }
pushed zero (x ∷ y ∷ ls) same = absurd (omega (arith, same))
pushed (suc n) (x ∷ ls) same =
    let rest = pushed n ls (omega (arith, same)) in
    record { front = x ∷ rest.front; last = rest.last; is = ap (λ (ys : List (List Entry)). x ∷ ys) rest.is; same = ap suc rest.same }

-- a count of few lines is their number
pub counted-few : (n : ℕ) → n ≤ 2600 * MOST_FRAMES → count_after 0 n ≡ n
counted-few zero few = refl
counted-few (suc n) few = omega (arith, few)

-- no journals are those of no frames
no-journals : (map : MapView) (s : State) (js : List (List Entry)) → AreRight map 0 s [] js → js ≡ []
no-journals map s [] right = refl
no-journals map s (j ∷ js) right = absurd right

-- the bytes begin with the text of these frames with right journals only where the journals are these
abbrev pub HasOnly : MapView → List (List Arrival) → List (List Entry) → List ℕ → Type 0
HasOnly map frames js bytes =
    (others : List (List Entry)) → AreRight map 0 (opening map) frames others → BeginsWith bytes (text_of (run_lines map 0 (opening map) frames others)) → others ≡ js

module _ (map : MapView) (done : List (List Arrival)) (arrivals : List Arrival) (js : List (List Entry)) (bytes left : List ℕ) (begun : bytes ≡ text_of (run_lines map 0 (opening map) done js) ++ left)
    (only : HasOnly map done js bytes) where
  -- what is received next, after these journals
  abbrev received_after : List (List Entry) → Receiving
  received_after ks = received_in map (0 + length done) (state_played map 0 (opening map) done ks) arrivals

  -- a right journal of the next frame, whose lines are there
  record NextThere (k : List Entry) : Type 0 where
    right : IsRightAfter map (received_after js) k
    begins : BeginsWith left (text_of (lines_with map (0 + length done) (received_after js) k))

  -- journals of one frame more whose lines are there are these, and one more that is right
  record MoreThere (others : List (List Entry)) : Type 0 where
    last : List Entry
    is : others ≡ js ++ last ∷ []
    there : NextThere last

  more-there : (others : List (List Entry)) → AreRight map 0 (opening map) (done ++ arrivals ∷ []) others → BeginsWith bytes (text_of (run_lines map 0 (opening map) (done ++ arrivals ∷ []) others)) → MoreThere others
  more-there others right begins =
      let long : length others ≡ length done + 1 = right_count map 0 (opening map) (done ++ arrivals ∷ []) others right ∙ length-append done (arrivals ∷ []) in
      let p = pushed (length done) others long in
      by p.front p.last p.same p.is (subst (AreRight map 0 (opening map) (done ++ arrivals ∷ [])) p.is right)
      (subst (λ (ls : List (List Entry)). BeginsWith bytes (text_of (run_lines map 0 (opening map) (done ++ arrivals ∷ []) ls))) p.is begins)
    where
      by : (ks : List (List Entry)) (k : List Entry) → length ks ≡ length done → others ≡ ks ++ k ∷ [] → AreRight map 0 (opening map) (done ++ arrivals ∷ []) (ks ++ k ∷ [])
          → BeginsWith bytes (text_of (run_lines map 0 (opening map) (done ++ arrivals ∷ []) (ks ++ k ∷ []))) → MoreThere others
      by ks k same is right begins =
          let parts = right-split_last map 0 (opening map) done arrivals ks k same right in
          let front = run_lines map 0 (opening map) done ks in
          let here = lines_with map (0 + length done) (received_after ks) k in
          let text = ap text_of (run_lines-push map 0 (opening map) done arrivals ks k same) ∙ text_of-append front here in
          let begins' : BeginsWith bytes (text_of front ++ text_of here) = subst (BeginsWith bytes) text begins in
          let ks_are : ks ≡ js = only ks parts.0 (begins-front bytes (text_of front) (text_of here) begins') in
          let Q : List (List Entry) → Type 0 = λ ls. IsRightAfter map (received_after ls) k in
          let T : List (List Entry) → Type 0 = λ ls. BeginsWith bytes (text_of (run_lines map 0 (opening map) done ls) ++ text_of (lines_with map (0 + length done) (received_after ls) k)) in
          record {
            last = k;
            is = is ∙ ap (λ (ls : List (List Entry)). ls ++ k ∷ []) ks_are;
            there = record {
              right = subst Q ks_are parts.1;
              begins = begins-after bytes left (text_of (run_lines map 0 (opening map) done js)) (text_of (lines_with map (0 + length done) (received_after js) k)) begun (subst T ks_are begins');
            };
          }

  -- where no other journal of the next frame is there, none is with these
  only-pushed : (j : List Entry) → ((k : List Entry) → IsRightAfter map (received_after js) k → BeginsWith left (text_of (lines_with map (0 + length done) (received_after js) k)) → k ≡ j)
      → HasOnly map (done ++ arrivals ∷ []) (js ++ j ∷ []) bytes
  only-pushed j next = λ others right begins.
      let more = more-there others right begins in
      more.is ∙ ap (λ (k : List Entry). js ++ k ∷ []) (next more.last more.there.right more.there.begins)

  -- where none of the next frame is there, no journals of one frame more are
  none-pushed : HasNoJournal (IsRightAfter map (received_after js)) (lines_with map (0 + length done) (received_after js)) left
      → (others : List (List Entry)) → AreRight map 0 (opening map) (done ++ arrivals ∷ []) others → BeginsWith bytes (text_of (run_lines map 0 (opening map) (done ++ arrivals ∷ []) others)) → ⊥
  none-pushed none others right begins =
      let more = more-there others right begins in
      none more.last more.there.right more.there.begins

-- ---- pieces

take-done : (done more : List (List Arrival)) → take (length done) (done ++ more) ≡ done
take-done [] more = refl
take-done (x ∷ done) more = ap (λ (xs : List (List Arrival)). x ∷ xs) (take-done done more)

take-one_more : (done : List (List Arrival)) (arrivals : List Arrival) (more : List (List Arrival)) → take (length done + 1) (done ++ arrivals ∷ more) ≡ done ++ arrivals ∷ []
take-one_more [] arrivals more = refl
take-one_more (x ∷ done) arrivals more =
    let next : length (x ∷ done) + 1 ≡ suc (length done + 1) = omega arith in
    ap (λ n. take n (x ∷ done ++ arrivals ∷ more)) next ∙ ap (λ (xs : List (List Arrival)). x ∷ xs) (take-one_more done arrivals more)

-- where the text of frames is there, so is that of the first of them
pub front-begins : (map : MapView) (frames : List (List Arrival)) (js : List (List Entry)) (bytes : List ℕ) (k : ℕ) → AreRight map 0 (opening map) frames js
    → BeginsWith bytes (text_of (run_lines map 0 (opening map) frames js)) → BeginsWith bytes (text_of (run_lines map 0 (opening map) (take k frames) (take k js)))
front-begins map frames js bytes k right begins =
    let s = opening map in
    let first = take k frames in
    let front = run_lines map 0 s first (take k js) in
    let rest = run_lines map (0 + length first) (state_played map 0 s first (take k js)) (drop k frames) (drop k js) in
    let both = run_lines-append map 0 s first (drop k frames) (take k js) (drop k js) (same_taken k frames js (right_count map 0 s frames js right)) in
    let whole : run_lines map 0 s frames js ≡ front ++ rest =
    ap (λ (fs : List (List Arrival)). run_lines map 0 s fs js) (sym (take-append-drop k frames))
    ∙ ap (λ (ls : List (List Entry)). run_lines map 0 s (first ++ drop k frames) ls) (sym (take-append-drop k js)) ∙ both in
    begins-front bytes (text_of front) (text_of rest) (subst (BeginsWith bytes) (ap text_of whole ∙ text_of-append front rest) begins)

-- a right transcript has the text of its frames
pub frames-begin : (map : MapView) (frames : List (List Arrival)) (bytes : List ℕ) (t : IsTranscript map frames bytes) → BeginsWith bytes (text_of (run_lines map 0 (opening map) frames t.journals))
frames-begin map frames bytes t =
    let lines = run_lines map 0 (opening map) frames t.journals in
    let end = EndLine (length frames) ∷ [] in
    begins-front bytes (text_of lines) (text_of end) (subst (BeginsWith bytes) (text_of-append lines end) t.begins)

-- a right transcript has right pieces
pub pieces-right : (map : MapView) (frames : List (List Arrival)) (bytes : List ℕ) (k : ℕ) → k ≤ length frames → IsTranscript map frames bytes → HasRightPieces map frames bytes k
pieces-right map frames bytes k few t = record {
  few = few;
  journals = take k t.journals;
  right = right-take map 0 (opening map) k frames t.journals t.right;
  begins = front-begins map frames t.journals bytes k t.right (frames-begin map frames bytes t);
}

-- the pieces so far are right, and the next one is wrong
wrong-pieces : (map : MapView) (done : List (List Arrival)) (arrivals : List Arrival) (more : List (List Arrival)) (js : List (List Entry)) (bytes left : List ℕ)
    → AreRight map 0 (opening map) done js → bytes ≡ text_of (run_lines map 0 (opening map) done js) ++ left
    → ((others : List (List Entry)) → AreRight map 0 (opening map) (done ++ arrivals ∷ []) others → BeginsWith bytes (text_of (run_lines map 0 (opening map) (done ++ arrivals ∷ []) others)) → ⊥)
    → IsWrongAfter map (done ++ arrivals ∷ more) bytes (length (run_lines map 0 (opening map) done js))
wrong-pieces map done arrivals more js bytes left right is never =
    let frames = done ++ arrivals ∷ more in
    let first = take-done done (arrivals ∷ more) in
    let long : length frames ≡ length done + length (arrivals ∷ more) = length-append done (arrivals ∷ more) in
    let no_more : HasRightPieces map frames bytes (length done + 1) → ⊥ =
    λ p. never p.journals (subst (λ (fs : List (List Arrival)). AreRight map 0 (opening map) fs p.journals) (take-one_more done arrivals more) p.right)
    (subst (λ (fs : List (List Arrival)). BeginsWith bytes (text_of (run_lines map 0 (opening map) fs p.journals))) (take-one_more done arrivals more) p.begins) in
    record {
      k = length done;
      pieces = record {
        few = omega (arith, long);
        journals = js;
        right = subst (λ (fs : List (List Arrival)). AreRight map 0 (opening map) fs js) (sym first) right;
        begins = record { after = left; is = is ∙ ap (λ (fs : List (List Arrival)). text_of (run_lines map 0 (opening map) fs js) ++ left) (sym first) };
      };
      no_more = no_more;
      not_all = λ t. no_more (pieces-right map frames bytes (length done + 1) (omega (arith, long)) t);
      lines_are = ap (λ (fs : List (List Arrival)). length (run_lines map 0 (opening map) fs js)) (sym first);
    }

-- all pieces of frames are right, and the last line is wrong
endless-pieces : (map : MapView) (frames : List (List Arrival)) (js : List (List Entry)) (bytes left : List ℕ) → AreRight map 0 (opening map) frames js
    → bytes ≡ text_of (run_lines map 0 (opening map) frames js) ++ left → HasOnly map frames js bytes → (BeginsWith left (printed_line (EndLine (length frames))) → ⊥)
    → IsWrongAfter map frames bytes (length (run_lines map 0 (opening map) frames js))
endless-pieces map frames js bytes left right is only none =
    let all : take (length frames) frames ≡ frames = ap (take (length frames)) (sym (append-nil frames)) ∙ take-done frames [] in
    let end = EndLine (length frames) in
    let not_all : IsTranscript map frames bytes → ⊥ =
    λ t. (let lines = run_lines map 0 (opening map) frames t.journals in
    let begins : BeginsWith bytes (text_of lines ++ printed_line end) = subst (BeginsWith bytes) (text_of-append lines (end ∷ []) ∙ ap (λ x. text_of lines ++ x) (text_of-one end)) t.begins in
    let same : t.journals ≡ js = only t.journals t.right (begins-front bytes (text_of lines) (printed_line end) begins) in
    let here : BeginsWith bytes (text_of (run_lines map 0 (opening map) frames js) ++ printed_line end) =
    subst (λ (ls : List (List Entry)). BeginsWith bytes (text_of (run_lines map 0 (opening map) frames ls) ++ printed_line end)) same begins in
    none (begins-after bytes left (text_of (run_lines map 0 (opening map) frames js)) (printed_line end) is here)) in
    record {
      k = length frames;
      pieces = record {
        few = omega arith;
        journals = js;
        right = subst (λ (fs : List (List Arrival)). AreRight map 0 (opening map) fs js) (sym all) right;
        begins = record { after = left; is = is ∙ ap (λ (fs : List (List Arrival)). text_of (run_lines map 0 (opening map) fs js) ++ left) (sym all) };
      };
      no_more = λ p. (let few = p.few in absurd (omega (arith, few)));
      not_all = not_all;
      lines_are = ap (λ (fs : List (List Arrival)). length (run_lines map 0 (opening map) fs js)) (sym all);
    }

-- these frames were read
pub record FramesSoFar {S : Type 0} (s : sources.Ghosts S) (map : MapView) (done : List (List Arrival)) (old now : S) (demo : InputView) (c : CheckerView) : Type 0 where
  pub journals : List (List Entry)
  pub right : AreRight map 0 (opening map) done journals
  pub reads : ReadsLines s old now demo c.input (run_lines map 0 (opening map) done journals)
  pub only : IfSome (ahead_of s demo old) (HasOnly map done journals)
  pub map_is : c.map ≡ map
  pub state_is : c.state ≡ state_played map 0 (opening map) done journals
  pub frames_are : c.frames ≡ 0 + length done
  pub moves_are : c.moves ≡ run_moves map 0 (opening map) done journals
  pub moves_few : c.moves ≤ MOST_FRAME_MOVES * length done
  pub first : demo.count ≡ 0
  pub few : length (run_lines map 0 (opening map) done journals) ≤ 2000 * length done
  pub is : IsChecker c.map c.state

module _ {S : Type 0} (s : sources.Ghosts S) (map : MapView) where
  -- none were read
  pub so-far-none : (old : S) (c : CheckerView) → MayRead s c.input old → c ≡ new_checker map c.input → c.input.count ≡ 0 → IsChecker c.map c.state → FramesSoFar s map [] old old c.input c
  so-far-none old c may new first is = record {
    journals = [];
    right = tt;
    reads = reads-none s old c.input may;
    only = if_some-all (ahead_of s c.input old) (HasOnly map [] []) (λ bytes others right begins. no-journals map (opening map) others right);
    map_is = ap (λ (u : CheckerView). u.map) new;
    state_is = ap (λ (u : CheckerView). u.state) new;
    frames_are = ap (λ (u : CheckerView). u.frames) new;
    moves_are = ap (λ (u : CheckerView). u.moves) new;
    moves_few = (let m = ap (λ (u : CheckerView). u.moves) new in omega (arith, m));
    first = first;
    few = omega arith;
    is = is;
  }

  module _ (done : List (List Arrival)) (old now : S) (demo : InputView) (c : CheckerView) (so : FramesSoFar s map done old now demo c) (arrivals : List Arrival) where
    -- the checker, as what was read says
    abbrev checker_after : CheckerView
    checker_after = record { map = map; state = state_played map 0 (opening map) done so.journals; frames = 0 + length done; moves = c.moves; input = c.input }

    checker_is : c ≡ checker_after
    checker_is = λ i. record { map = so.map_is i; state = so.state_is i; frames = so.frames_are i; moves = c.moves; input = c.input }

    abbrev received_next : Receiving
    received_next = received_in map (0 + length done) (state_played map 0 (opening map) done so.journals) arrivals

    -- one more was read
    pub so-far-pushed : (new : S) (c' : CheckerView) → TakesFrame s lines_with now new c c' arrivals → FramesSoFar s map (done ++ arrivals ∷ []) old new demo c'
    so-far-pushed new c' taken =
        let t : TakesFrame s lines_with now new checker_after c' arrivals = subst (λ (u : CheckerView). TakesFrame s lines_with now new u c' arrivals) checker_is taken in
        let js = so.journals in
        let j = t.journal in
        let same = right_count map 0 (opening map) done js so.right in
        let front = run_lines map 0 (opening map) done js in
        let here = lines_with map (0 + length done) received_next j in
        let both = run_lines-push map 0 (opening map) done arrivals js j same in
        let long = ap length both ∙ length-append front here in
        let more = length-append done (arrivals ∷ []) in
        let moves = run_moves-push map 0 (opening map) done arrivals js j same in
        record {
          journals = js ++ j ∷ [];
          right = right-push map 0 (opening map) done arrivals js j so.right t.reads.right;
          reads = subst (ReadsLines s old new demo c'.input) (sym both) (reads-both s old now new demo c.input c'.input front here so.reads t.reads.reads);
          only = if_some-over (ahead_of s demo old) (ahead_of s c.input now) (text_of front) (HasOnly map done js)
              (λ bytes. (other : List Entry) → IsRightAfter map received_next other → BeginsWith bytes (text_of (lines_with map (0 + length done) received_next other)) → other ≡ j)
              (HasOnly map (done ++ arrivals ∷ []) (js ++ j ∷ [])) so.reads.consumed so.only t.reads.only
              (λ bytes left is only next. only-pushed map done arrivals js bytes left is only j next);
          map_is = t.map_is;
          state_is = t.state_is ∙ sym (state_played-push map 0 (opening map) done arrivals js j same);
          frames_are = (let f = t.frames_are in omega (arith, f, more));
          moves_are = t.moves_are ∙ ap (λ n. n + length received_next.lists.moves) so.moves_are ∙ sym moves;
          moves_few = (let m = t.moves_are in let b = t.moves_few in let a = so.moves_few in omega (arith, m, b, a, more));
          first = so.first;
          few = (let a = so.few in let b = t.few in omega (arith, a, b, long, more));
          is = t.is;
        }

    -- the next frame is missed: where others follow it or not, the transcript is wrong after the lines of those that were read
    pub so-far-missed : (new : S) (more : List (List Arrival)) (before : ℕ) → length done ≤ MOST_FRAMES
        → MissesFrame s lines_with now new c arrivals
        → Misses s old new demo (λ bytes. IsWrongAt map (done ++ arrivals ∷ more) bytes before (before + c.input.count + 1))
    so-far-missed new more before few missed =
        let js = so.journals in
        let front = run_lines map 0 (opening map) done js in
        let there : Misses s now new c.input (HasNoJournal (IsRightAfter map received_next) (lines_with map (0 + length done) received_next)) =
        subst (λ (u : CheckerView). MissesFrame s lines_with now new u arrivals) checker_is missed in
        record {
          missed = if_some-over (ahead_of s demo old) (ahead_of s c.input now) (text_of front) (HasOnly map done js)
              (HasNoJournal (IsRightAfter map received_next) (lines_with map (0 + length done) received_next))
              (λ bytes. IsWrongAt map (done ++ arrivals ∷ more) bytes before (before + c.input.count + 1)) so.reads.consumed so.only there.missed
              (λ bytes left is only none. wrong-at bytes left is only none);
          uncounted = there.uncounted ∙ so.reads.on.uncounted;
        }
      where
        wrong-at : (bytes left : List ℕ) → bytes ≡ text_of (run_lines map 0 (opening map) done so.journals) ++ left → HasOnly map done so.journals bytes
            → HasNoJournal (IsRightAfter map received_next) (lines_with map (0 + length done) received_next) left → IsWrongAt map (done ++ arrivals ∷ more) bytes before (before + c.input.count + 1)
        wrong-at bytes left is only none =
            let js = so.journals in
            let lines = length (run_lines map 0 (opening map) done js) in
            let count : c.input.count ≡ lines = so.reads.count_is ∙ ap (λ n. count_after n lines) so.first ∙ counted-few lines (let f = so.few in omega (arith, f, few)) in
            let never = none-pushed map done arrivals js bytes left is only none in
            record {
              lines = lines;
              wrong = wrong-pieces map done arrivals more js bytes left so.right is never;
              line_is = omega (arith, count);
            }

    -- its beginning was looked at: so was that of an output of all frames
    pub so-far-looked : (new : S) (c' : CheckerView) (more : List (List Arrival)) → BeginsFrame s lines_with now new c c' arrivals
        → ReadsBeginning s (AreOfOutput map (done ++ arrivals ∷ more)) old new demo c'.input
    so-far-looked new c' more begun =
        let Next : CheckerView → List OutLine → Type 0 =
        λ u. AreOfJournal (IsRightAfter u.map (received_in u.map u.frames u.state arrivals)) (lines_with u.map u.frames (received_in u.map u.frames u.state arrivals)) in
        looked-after s old now new demo c.input c'.input (Next checker_after) (AreOfOutput map (done ++ arrivals ∷ more)) (run_lines map 0 (opening map) done so.journals) so.reads
        (λ ls is. goes-on ls is) (subst (λ (u : CheckerView). BeginsFrame s lines_with now new u c' arrivals) checker_is begun)
      where
        goes-on : (ls : List OutLine) → AreOfJournal (IsRightAfter map received_next) (lines_with map (0 + length done) received_next) ls
            → IsWithin (AreOfOutput map (done ++ arrivals ∷ more)) (run_lines map 0 (opening map) done so.journals) ls
        goes-on ls is =
            let js = so.journals in
            let j = is.journal in
            let next = state_after map received_next j in
            let ks = journals_of map (0 + length done + 1) next more in
            let front = run_lines map 0 (opening map) done js in
            let here = lines_with map (0 + length done) received_next j in
            let rest = run_lines map (0 + length done + 1) next more ks in
            let end = EndLine (length (done ++ arrivals ∷ more)) ∷ [] in
            let both : run_lines map 0 (opening map) (done ++ arrivals ∷ more) (js ++ j ∷ ks) ≡ front ++ (here ++ rest) =
            run_lines-append map 0 (opening map) done (arrivals ∷ more) js (j ∷ ks) (right_count map 0 (opening map) done js so.right) in
            record {
              after = rest ++ end;
              holds = record {
                journals = js ++ j ∷ ks;
                right = right-append map 0 (opening map) done (arrivals ∷ more) js (j ∷ ks) so.right (is.right, plain.right_in_order map (0 + length done + 1) next more);
                lines_are = ap (λ xs. front ++ (xs ++ (rest ++ end))) is.lines_are ∙ ap (λ xs. front ++ xs) (sym (append_assoc here rest end))
                    ∙ sym (append_assoc front (here ++ rest) end) ∙ ap (λ xs. xs ++ end) (sym both);
              };
            }

  module _ (frames : List (List Arrival)) (old now : S) (demo : InputView) (c : CheckerView) (so : FramesSoFar s map frames old now demo c) where
    -- of all frames, and then one line at most
    pub end-looked : (new : S) (demo'' : InputView) → ReadsOneAtMost s now new c.input demo'' → ReadsBeginning s (AreOfOutput map frames) old new demo demo''
    end-looked new demo'' one =
        looked-first s old now new demo c.input demo'' (AreOfOutput map frames) (run_lines map 0 (opening map) frames so.journals) (EndLine (length frames) ∷ []) so.reads
        (record { journals = so.journals; right = so.right; lines_are = refl }) one

    -- the whole output was read, and no more
    pub output-looked : (new : S) (demo'' : InputView) → ReadsLines s now new c.input demo'' (EndLine c.frames ∷ []) → demo''.held ≡ false
        → TakesOutput map frames (ahead_of s demo old) (ahead_of s demo'' new) (IsNeeded s old new demo demo'') (s.ended new ≡ true)
    output-looked new demo'' reads free =
        let lines = run_lines map 0 (opening map) frames so.journals in
        let count : c.frames ≡ length frames = (let f = so.frames_are in omega (arith, f)) in
        let all : ReadsLines s old new demo demo'' (lines ++ EndLine (length frames) ∷ []) =
        reads-both s old now new demo c.input demo'' lines (EndLine (length frames) ∷ []) so.reads (subst (λ n. ReadsLines s now new c.input demo'' (EndLine n ∷ [])) count reads) in
        record {
          lines = lines ++ EndLine (length frames) ∷ [];
          whole = record { journals = so.journals; right = so.right; lines_are = refl };
          read = all.consumed;
          needed = record { unread = all.on.unread; before_end = all.on.before_end; free = free };
        }

    -- all frames were read, and the last line too
    pub so-far-right : (new : S) (demo'' : InputView) → ReadsLines s now new c.input demo'' (EndLine c.frames ∷ []) → Misses s old new demo (λ bytes. IsRight map frames bytes c.frames c.moves)
    so-far-right new demo'' reads =
        let js = so.journals in
        let lines = run_lines map 0 (opening map) frames js in
        let count : c.frames ≡ length frames = (let f = so.frames_are in omega (arith, f)) in
        let all : ReadsLines s old new demo demo'' (lines ++ EndLine (length frames) ∷ []) =
        reads-both s old now new demo c.input demo'' lines (EndLine (length frames) ∷ []) so.reads (subst (λ n. ReadsLines s now new c.input demo'' (EndLine n ∷ [])) count reads) in
        record {
          missed = if_some-over (ahead_of s demo old) (ahead_of s demo'' new) (text_of (lines ++ EndLine (length frames) ∷ [])) (HasOnly map frames js) (λ _. ⊤) (λ bytes. IsRight map frames bytes c.frames c.moves)
              all.consumed so.only (if_some-all (ahead_of s demo'' new) (λ _. ⊤) (λ _. tt))
              (λ bytes left is only more. record {
                transcript = record { journals = js; right = so.right; begins = record { after = left; is = is } };
                count_is = count;
                moves_are = so.moves_are;
              });
          uncounted = all.on.uncounted;
        }

    -- the last line is missed
    pub so-far-endless : (new : S) (before : ℕ) → length frames ≤ MOST_FRAMES → Misses s now new c.input (λ bytes. BeginsWith bytes (printed_line (EndLine c.frames)) → ⊥)
        → Misses s old new demo (λ bytes. IsWrongAt map frames bytes before (before + c.input.count + 1))
    so-far-endless new before few missed =
        let front = run_lines map 0 (opening map) frames so.journals in
        let end : c.frames ≡ length frames = (let f = so.frames_are in omega (arith, f)) in
        let there = subst (λ n. Misses s now new c.input (λ bytes. BeginsWith bytes (printed_line (EndLine n)) → ⊥)) end missed in
        record {
          missed = if_some-over (ahead_of s demo old) (ahead_of s c.input now) (text_of front) (HasOnly map frames so.journals) (λ bytes. BeginsWith bytes (printed_line (EndLine (length frames))) → ⊥)
              (λ bytes. IsWrongAt map frames bytes before (before + c.input.count + 1)) so.reads.consumed so.only there.missed (λ bytes left is only none. wrong-at bytes left is only none);
          uncounted = there.uncounted ∙ so.reads.on.uncounted;
        }
      where
        wrong-at : (bytes left : List ℕ) → bytes ≡ text_of (run_lines map 0 (opening map) frames so.journals) ++ left → HasOnly map frames so.journals bytes
            → (BeginsWith left (printed_line (EndLine (length frames))) → ⊥) → IsWrongAt map frames bytes before (before + c.input.count + 1)
        wrong-at bytes left is only none =
            let js = so.journals in
            let lines = run_lines map 0 (opening map) frames js in
            let count : c.input.count ≡ length lines = so.reads.count_is ∙ ap (λ n. count_after n (length lines)) so.first ∙ counted-few (length lines) (let f = so.few in omega (arith, f, few)) in
            record {
              lines = length lines;
              wrong = endless-pieces map frames js bytes left so.right is only none;
              line_is = omega (arith, count);
            }

-- ---- a verdict

module _ {S : Type 0} (s : sources.Ghosts S) (map : MapView) (frames : List (List Arrival)) (before : ℕ) (few : length frames ≤ MOST_FRAMES) where
  -- the next frame is missed
  pub frame-wrong : (done more : List (List Arrival)) (arrivals : List Arrival) → frames ≡ done ++ arrivals ∷ more → (old now new : S) (demo : InputView) (c : CheckerView)
      → FramesSoFar s map done old now demo c → (count : ℕ) → count ≡ c.input.count
      → MissesFrame s lines_with now new c arrivals
      → Misses s old new demo (λ bytes. IsVerdict map frames bytes before (Wrong (before + count + 1)))
  frame-wrong done more arrivals is old now new demo c so count counts missed =
      let fewer : length done ≤ MOST_FRAMES = (let long = ap length is ∙ length-append done (arrivals ∷ more) in omega (arith, few, long)) in
      let wrong = so-far-missed s map done old now demo c so arrivals new more before fewer missed in
      let right_frames = subst (λ (fs : List (List Arrival)). Misses s old new demo (λ bytes. IsWrongAt map fs bytes before (before + c.input.count + 1))) (sym is) wrong in
      subst (λ n. Misses s old new demo (λ bytes. IsWrongAt map frames bytes before (before + n + 1))) (sym counts) right_frames

  -- the last line is missed
  pub end-wrong : (done : List (List Arrival)) → done ≡ frames → (old now new : S) (demo : InputView) (c : CheckerView) → FramesSoFar s map done old now demo c → (count : ℕ) → count ≡ c.input.count
      → Misses s now new c.input (λ bytes. BeginsWith bytes (printed_line (EndLine c.frames)) → ⊥) → Misses s old new demo (λ bytes. IsVerdict map frames bytes before (Wrong (before + count + 1)))
  end-wrong done all old now new demo c so count counts missed =
      let here = subst (λ (fs : List (List Arrival)). FramesSoFar s map fs old now demo c) all so in
      subst (λ n. Misses s old new demo (λ bytes. IsWrongAt map frames bytes before (before + n + 1))) (sym counts) (so-far-endless s map frames old now demo c here new before few missed)

  -- all is right
  pub all-right : (done : List (List Arrival)) → done ≡ frames → (old now new : S) (demo demo'' : InputView) (c : CheckerView) → FramesSoFar s map done old now demo c → (count moves : ℕ)
      → count ≡ c.frames → moves ≡ c.moves → ReadsLines s now new c.input demo'' (EndLine c.frames ∷ []) → Misses s old new demo (λ bytes. IsVerdict map frames bytes before (Right count moves))
  all-right done all old now new demo demo'' c so count moves counts moved reads =
      let here = subst (λ (fs : List (List Arrival)). FramesSoFar s map fs old now demo c) all so in
      let right = so-far-right s map frames old now demo c here new demo'' reads in
      subst (λ n. Misses s old new demo (λ bytes. IsRight map frames bytes n moves)) (sym counts)
      (subst (λ n. Misses s old new demo (λ bytes. IsRight map frames bytes c.frames n)) (sym moved) right)

-- ---- what was looked at

module _ {S : Type 0} (s : sources.Ghosts S) (map : MapView) (frames : List (List Arrival)) where
  -- where the next frame is missed
  pub wrong-looked : (done more : List (List Arrival)) (arrivals : List Arrival) → frames ≡ done ++ arrivals ∷ more → (old now new : S) (demo : InputView) (c c' : CheckerView)
      → FramesSoFar s map done old now demo c
      → BeginsFrame s lines_with now new c c' arrivals
      → ReadsBeginning s (AreOfOutput map frames) old new demo c'.input
  wrong-looked done more arrivals is old now new demo c c' so begun =
      subst (λ (fs : List (List Arrival)). ReadsBeginning s (AreOfOutput map fs) old new demo c'.input) (sym is) (so-far-looked s map done old now demo c so arrivals new c' more begun)

  module _ (done : List (List Arrival)) (all : done ≡ frames) (old now new : S) (demo demo'' : InputView) (c : CheckerView) (so : FramesSoFar s map done old now demo c) where
    here : FramesSoFar s map frames old now demo c
    here = subst (λ (fs : List (List Arrival)). FramesSoFar s map fs old now demo c) all so

    -- where the last line is
    pub endless-looked : ReadsOneAtMost s now new c.input demo'' → ReadsBeginning s (AreOfOutput map frames) old new demo demo''
    endless-looked one = end-looked s map frames old now demo c here new demo'' one

    -- where all is right
    pub right-looked : ReadsLines s now new c.input demo'' (EndLine c.frames ∷ []) → demo''.held ≡ false
        → TakesOutput map frames (ahead_of s demo old) (ahead_of s demo'' new) (IsNeeded s old new demo demo'') (s.ended new ≡ true)
    right-looked reads free = output-looked s map frames old now demo c here new demo'' reads free
