-- What is known of a whole recording, from what was known at first, once its front was read.
use Rattle.std.proofs.Common.{◌≡◌, ℕ, true, ◌⊎◌, inl, inr, List, [], ◌∷◌, ◌++◌, Option, Some, None, IfSome, refl, sym, ap, ◌∙◌, subst, append-nil, cond}
use Rattle.std.specs.List.{AllByRecursion}
use Rattle.edge_io.specs.Lines.{HasNoLineFeed}
use Rattle.edge_io.specs.WholeLines.{unlines}
use Rattle.demo_lines.specs.declared.event.Event.{Event}
use Rattle.demo_lines.specs.Known.{Reading, is_over}
use Rattle.demo_lines.specs.Lines.{is_end}
use Rattle.demo_lines.specs.Recording.{next, events_of_line, after, events_of}
use Rattle.demo_lines.specs.Bytes.{last_part, lines_of, refused_where, events_in, fault_in}
use Rattle.demo_lines.specs.Reads.{Reads, IsTextOf}
use Rattle.demo_lines.proofs.Machines.{run_of-append, outputs_of-append}
use Rattle.demo_lines.proofs.Parts.{lines_of-unlines, lines_of-none, last_part-unlines}
use Rattle.demo_lines.proofs.Ends.{after-over}
use Rattle.demo_lines.proofs.Prefixes.{after_last, refused_at-over}

-- a recording that begins so, and goes on with these bytes
pub record Continues (first r : Reading) (es : List Event) (bytes rest : List ℕ) : Type 0 where
  pub events_are : events_in first bytes ≡ es ++ events_in r rest
  pub fault_is : fault_in first bytes ≡ fault_in r rest
  pub map_is : (after first (lines_of bytes)).map ≡ (after r (lines_of rest)).map

-- the lines of the whole are those that were read and those of the rest, and the last part is that of the rest, unless the
-- recording is over
pub record IsCutAt (r : Reading) (lines : List (List ℕ)) (bytes rest : List ℕ) : Type 0 where
  pub lines_are : lines_of bytes ≡ lines ++ lines_of rest
  pub last_is : (last_part bytes ≡ last_part rest) ⊎ (is_over r.stage ≡ true)

pub same_refusal : (r : Reading) (lines : List (List ℕ)) (p q : List ℕ) → (p ≡ q) ⊎ (is_over r.stage ≡ true) → refused_where (after r lines) p ≡ refused_where (after r lines) q
same_refusal r lines p q (inl same) = ap (refused_where (after r lines)) same
same_refusal r lines p q (inr over) =
    let here : is_over (after r lines).stage ≡ true = ap (λ (t : Reading). is_over t.stage) (after-over r lines over) ∙ over in
    refused_at-over (after r lines).stage (after r lines) p q here

pub continues_lines : (first r : Reading) (lines : List (List ℕ)) (es : List Event) (bytes rest : List ℕ) → IsCutAt r lines bytes rest
    → r ≡ after first lines → events_of first lines ≡ es → Continues first r es bytes rest
continues_lines first r lines es bytes rest cut reached given =
    let later : after first (lines_of bytes) ≡ after r (lines_of rest) =
    ap (after first) cut.lines_are ∙ run_of-append next events_of_line first lines (lines_of rest) ∙ ap (λ t. after t (lines_of rest)) (sym reached) in
    record {
      events_are = ap (events_of first) cut.lines_are ∙ outputs_of-append next events_of_line first lines (lines_of rest)
          ∙ ap (λ t. events_of first lines ++ events_of t (lines_of rest)) (sym reached) ∙ ap (λ xs. xs ++ events_in r rest) given;
      fault_is = ap (λ t. refused_where t (last_part bytes)) later ∙ same_refusal r (lines_of rest) (last_part bytes) (last_part rest) cut.last_is;
      map_is = ap (λ (t : Reading). t.map) later;
    }

-- whole lines, and then the rest
pub cut_after_lines : (r : Reading) (lines : List (List ℕ)) (rest : List ℕ) → AllByRecursion HasNoLineFeed lines → IsCutAt r lines (unlines lines ++ rest) rest
cut_after_lines r lines rest each = record { lines_are = lines_of-unlines lines rest each; last_is = inl (last_part-unlines lines rest each) }

-- lines of which the last is an end without a line feed, and nothing after it
cut_after_end : (first r : Reading) (front : List (List ℕ)) (last : List ℕ) → AllByRecursion HasNoLineFeed (front ++ last ∷ []) → is_end last ≡ true → r ≡ after first (front ++ last ∷ [])
    → IsCutAt r (front ++ last ∷ []) ((unlines front ++ last) ++ []) []
cut_after_end first r front last each end reached =
    let parts = each_of_front front (last ∷ []) each in
    record {
      lines_are = ap lines_of (append-nil (unlines front ++ last)) ∙ lines_of-unlines front last parts.0
          ∙ ap (λ ls. front ++ ls) (lines_of-none last parts.1.0 ∙ ap (λ b. cond b (last ∷ []) []) end) ∙ sym (append-nil (front ++ last ∷ []));
      last_is = inr (ap (λ (t : Reading). is_over t.stage) reached ∙ after_last first front last end);
    }
  where
    each_of_front : (xs ys : List (List ℕ)) → AllByRecursion HasNoLineFeed (xs ++ ys) → AllByRecursion HasNoLineFeed xs × AllByRecursion HasNoLineFeed ys
    each_of_front [] ys h = (tt, h)
    each_of_front (x ∷ xs) ys h = let more = each_of_front xs ys h.1 in ((h.0, more.0), more.1)

cut_by_text : (first r : Reading) (lines : List (List ℕ)) (text rest : List ℕ) → AllByRecursion HasNoLineFeed lines → r ≡ after first lines → IsTextOf lines text (Some rest)
    → IsCutAt r lines (text ++ rest) rest
cut_by_text first r lines text rest each reached (inl is) = subst (λ t. IsCutAt r lines (t ++ rest) rest) (sym is) (cut_after_lines r lines rest each)
cut_by_text first r lines text rest each reached (inr cut) =
    let here = cut_after_end first r cut.front cut.last (subst (AllByRecursion HasNoLineFeed) cut.lines_are each) cut.is_the_end (reached ∙ ap (after first) cut.lines_are) in
    subst (λ bs. IsCutAt r lines (text ++ bs) bs) (sym cut.at_end)
    (subst (λ t. IsCutAt r lines (t ++ []) []) (sym cut.text_is) (subst (λ ls. IsCutAt r ls ((unlines cut.front ++ cut.last) ++ []) []) (sym cut.lines_are) here))

-- what was read, and what is ahead, make the whole
pub continues : (first r : Reading) (a b : Option (List ℕ)) (es : List Event) (P : List ℕ → Type 0) → Reads first r a b es
    → ((bytes rest : List ℕ) → b ≡ Some rest → Continues first r es bytes rest → P bytes) → IfSome a P
continues first r None b es P reads h = tt
continues first r (Some bytes) None es P reads h = absurd reads.consumed
continues first r (Some bytes) (Some rest) es P reads h =
    let cut = subst (λ bs. IsCutAt r reads.lines bs rest) (sym reads.consumed) (cut_by_text first r reads.lines reads.text rest reads.each reads.reached reads.spelled) in
    h bytes rest refl (continues_lines first r reads.lines es bytes rest cut reads.reached reads.events)
