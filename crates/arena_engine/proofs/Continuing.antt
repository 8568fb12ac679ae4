-- What is known of a whole recording once its front was read.
use Rattle.std.proofs.Common.{◌≡◌, ℕ, true, inl, inr, List, [], ◌∷◌, ◌++◌, Option, Some, None, IfSome, refl, sym, ap, ◌∙◌, subst, append_assoc, append-nil, cond}
use Rattle.std.specs.List.{AllByRecursion}
use Rattle.edge_io.specs.Lines.{HasNoLineFeed}
use Rattle.edge_io.specs.WholeLines.{unlines}
use Rattle.arena_map.specs.Maps.{MapView}
use Rattle.demo_lines.specs.declared.event.Event.{Event}
use Rattle.demo_lines.specs.Known.{Reading, start, is_map_whole, is_over}
use Rattle.demo_lines.specs.Lines.{is_end}
use Rattle.demo_lines.specs.Recording.{next, events_of_line, after, events_of}
use Rattle.demo_lines.specs.Bytes.{last_part, lines_of, refused_where, events_in, fault_in, events, fault, map_of}
use Rattle.demo_lines.specs.Reads.{Reads, IsTextOf}
use Rattle.demo_lines.proofs.Machines.{run_of-append, outputs_of-append}
use Rattle.demo_lines.proofs.Parts.{lines_of-unlines, lines_of-none}
use Rattle.demo_lines.proofs.Prefixes.{after_last}
use Rattle.demo_lines.proofs.MapGiven.{after-kept}
use Rattle.demo_lines.proofs.Continuing.{IsCutAt, same_refusal, cut_after_lines}
use Rattle.out_text.specs.Collecting.{frames_of_events, frames_of}
use Rattle.out_text.proofs.Growing.{GoesOnWith, goes_on_collected}

-- a recording that begins so, and goes on with these bytes
pub record Continues (r : Reading) (es : List Event) (bytes rest : List ℕ) : Type 0 where
  pub events_are : events bytes ≡ es ++ events_in r rest
  pub fault_is : fault bytes ≡ fault_in r rest
  pub map_is : map_of bytes ≡ (after r (lines_of rest)).map

pub continues_lines : (r : Reading) (lines : List (List ℕ)) (es : List Event) (bytes rest : List ℕ) → IsCutAt r lines bytes rest
    → r ≡ after start lines → events_of start lines ≡ es → Continues r es bytes rest
continues_lines r lines es bytes rest cut reached given =
    let later : after start (lines_of bytes) ≡ after r (lines_of rest) =
    ap (after start) cut.lines_are ∙ run_of-append next events_of_line start lines (lines_of rest) ∙ ap (λ t. after t (lines_of rest)) (sym reached) in
    record {
      events_are = ap (events_of start) cut.lines_are ∙ outputs_of-append next events_of_line start lines (lines_of rest)
          ∙ ap (λ t. events_of start lines ++ events_of t (lines_of rest)) (sym reached) ∙ ap (λ xs. xs ++ events_in r rest) given;
      fault_is = ap (λ t. refused_where t (last_part bytes)) later ∙ same_refusal r (lines_of rest) (last_part bytes) (last_part rest) cut.last_is;
      map_is = ap (λ (t : Reading). t.map) later;
    }

-- lines of which the last is an end without a line feed, and nothing after it
cut_after_end : (r : Reading) (front : List (List ℕ)) (last : List ℕ) → AllByRecursion HasNoLineFeed (front ++ last ∷ []) → is_end last ≡ true → r ≡ after start (front ++ last ∷ [])
    → IsCutAt r (front ++ last ∷ []) ((unlines front ++ last) ++ []) []
cut_after_end r front last each end reached =
    let parts = each_of_front front (last ∷ []) each in
    record {
      lines_are = ap lines_of (append-nil (unlines front ++ last)) ∙ lines_of-unlines front last parts.0
          ∙ ap (λ ls. front ++ ls) (lines_of-none last parts.1.0 ∙ ap (λ b. cond b (last ∷ []) []) end) ∙ sym (append-nil (front ++ last ∷ []));
      last_is = inr (ap (λ (t : Reading). is_over t.stage) reached ∙ after_last start front last end);
    }
  where
    each_of_front : (xs ys : List (List ℕ)) → AllByRecursion HasNoLineFeed (xs ++ ys) → AllByRecursion HasNoLineFeed xs × AllByRecursion HasNoLineFeed ys
    each_of_front [] ys h = (tt, h)
    each_of_front (x ∷ xs) ys h = let more = each_of_front xs ys h.1 in ((h.0, more.0), more.1)

cut_by_text : (r : Reading) (lines : List (List ℕ)) (text rest : List ℕ) → AllByRecursion HasNoLineFeed lines → r ≡ after start lines → IsTextOf lines text (Some rest)
    → IsCutAt r lines (text ++ rest) rest
cut_by_text r lines text rest each reached (inl is) = subst (λ t. IsCutAt r lines (t ++ rest) rest) (sym is) (cut_after_lines r lines rest each)
cut_by_text r lines text rest each reached (inr cut) =
    let here = cut_after_end r cut.front cut.last (subst (AllByRecursion HasNoLineFeed) cut.lines_are each) cut.is_the_end (reached ∙ ap (after start) cut.lines_are) in
    subst (λ bs. IsCutAt r lines (text ++ bs) bs) (sym cut.at_end)
    (subst (λ t. IsCutAt r lines (t ++ []) []) (sym cut.text_is) (subst (λ ls. IsCutAt r ls ((unlines cut.front ++ cut.last) ++ []) []) (sym cut.lines_are) here))

-- what was read, and what is ahead, make the whole
pub continues : (r : Reading) (a b : Option (List ℕ)) (es : List Event) (P : List ℕ → Type 0) → Reads start r a b es
    → ((bytes rest : List ℕ) → b ≡ Some rest → Continues r es bytes rest → P bytes) → IfSome a P
continues r None b es P reads h = tt
continues r (Some bytes) None es P reads h = absurd reads.consumed
continues r (Some bytes) (Some rest) es P reads h =
    let cut = subst (λ bs. IsCutAt r reads.lines bs rest) (sym reads.consumed) (cut_by_text r reads.lines reads.text rest reads.each reads.reached reads.spelled) in
    h bytes rest refl (continues_lines r reads.lines es bytes rest cut reads.reached reads.events)

-- the map of the whole
pub map_of-whole : (r : Reading) (es : List Event) (bytes rest : List ℕ) (arena : MapView) → Continues r es bytes rest → is_map_whole r.stage ≡ true → r.map ≡ Some arena
    → map_of bytes ≡ Some arena
map_of-whole r es bytes rest arena so whole has = so.map_is ∙ after-kept r (lines_of rest) whole ∙ has

-- where nothing more is given, these are all frames
pub frames_of-all : (r : Reading) (es : List Event) (bytes rest : List ℕ) → Continues r es bytes rest → events_in r rest ≡ [] → frames_of bytes ≡ (frames_of_events es).closed
frames_of-all r es bytes rest so none = ap (λ xs. (frames_of_events xs).closed) (so.events_are ∙ ap (λ xs. es ++ xs) none ∙ append-nil es)

-- frames that are closed so far are the first of all
pub goes_on_frames : (r : Reading) (es : List Event) (bytes rest : List ℕ) → Continues r es bytes rest → GoesOnWith (frames_of_events es).closed (frames_of bytes)
goes_on_frames r es bytes rest so =
    let P : List Event → Type 0 = λ xs. GoesOnWith (frames_of_events es).closed (frames_of_events xs).closed in
    subst P (sym so.events_are) (goes_on_collected es (events_in r rest))

-- the same of a front of the events
pub goes_on_events : (r : Reading) (es more : List Event) (bytes rest : List ℕ) → Continues r (es ++ more) bytes rest → GoesOnWith (frames_of_events es).closed (frames_of bytes)
goes_on_events r es more bytes rest so =
    let P : List Event → Type 0 = λ xs. GoesOnWith (frames_of_events es).closed (frames_of_events xs).closed in
    subst P (sym (so.events_are ∙ append_assoc es more (events_in r rest))) (goes_on_collected es (more ++ events_in r rest))
