-- Reads after reads are reads.
use Rattle.std.proofs.Common.{◌≡◌, ℕ, false, true, List, [], ◌∷◌, ◌++◌, inl, inr, Option, sym, ap, ◌∙◌, subst, append_assoc, append-nil}
use Rattle.std.specs.Io.KnownBytes.{Consumes}
use Rattle.std.proofs.KnownBytes.{Consumes-trans}
use Rattle.std.proofs.lemmas.Grind.{flat_map-append}
use Rattle.edge_io.specs.Lines.{HasNoLineFeed}
use Rattle.edge_io.specs.WholeLines.{all_but_last, unlines}
use Rattle.edge_io.proofs.Feeds.{all_but_last-append, each_of_both}
use Rattle.demo_lines.specs.declared.event.Event.{Event}
use Rattle.demo_lines.specs.Known.{Reading, is_over}
use Rattle.demo_lines.specs.Recording.{next, events_of_line, after, events_of}
use Rattle.demo_lines.specs.Reads.{Reads, IsTextOf}
use Rattle.demo_lines.proofs.Machines.{run_of-append, outputs_of-append}
use Rattle.demo_lines.proofs.Prefixes.{after_last}

both_lines : (ls ms : List (List ℕ)) → unlines (ls ++ ms) ≡ unlines ls ++ unlines ms
both_lines ls ms = flat_map-append (λ l. l ++ 10 ∷ []) ls ms

-- where the recording goes on, each line had its line feed
pub whole_text : (r s : Reading) (lines : List (List ℕ)) (text : List ℕ) (b : Option (List ℕ)) → s ≡ after r lines → is_over s.stage ≡ false
    → IsTextOf lines text b → text ≡ unlines lines
whole_text r s lines text b reached going (inl is) = is
whole_text r s lines text b reached going (inr cut) =
    let over : is_over s.stage ≡ true = ap (λ (t : Reading). is_over t.stage) (reached ∙ ap (after r) cut.lines_are) ∙ after_last r cut.front cut.last cut.is_the_end in
    cc

text-trans : (ls ms : List (List ℕ)) (text : List ℕ) (c : Option (List ℕ)) → IsTextOf ms text c → IsTextOf (ls ++ ms) (unlines ls ++ text) c
text-trans ls ms text c (inl is) = inl (ap (λ t. unlines ls ++ t) is ∙ sym (both_lines ls ms))
text-trans ls ms text c (inr cut) = inr (record {
  front = ls ++ cut.front;
  last = cut.last;
  lines_are = ap (λ ns. ls ++ ns) cut.lines_are ∙ sym (append_assoc ls cut.front (cut.last ∷ []));
  text_is = ap (λ t. unlines ls ++ t) cut.text_is ∙ sym (append_assoc (unlines ls) (unlines cut.front) cut.last) ∙ ap (λ t. t ++ cut.last) (sym (both_lines ls cut.front));
  is_the_end = cut.is_the_end;
  at_end = cut.at_end;
})

going-trans : (r s : Reading) (ls ms : List (List ℕ)) → s ≡ after r ls → is_over (after r (all_but_last ls)).stage ≡ false → is_over (after s (all_but_last ms)).stage ≡ false
    → is_over (after r (all_but_last (ls ++ ms))).stage ≡ false
going-trans r s ls [] reached one more = ap (λ ns. is_over (after r (all_but_last ns)).stage) (append-nil ls) ∙ one
going-trans r s ls (m ∷ ms) reached one more =
    ap (λ ns. is_over (after r ns).stage) (all_but_last-append ls m ms)
    ∙ ap (λ (t : Reading). is_over t.stage) (run_of-append next events_of_line r ls (all_but_last (m ∷ ms)))
    ∙ ap (λ u. is_over (after u (all_but_last (m ∷ ms))).stage) (sym reached)
    ∙ more

-- reads after reads are reads, where the recording goes on between them
pub Reads-trans : (r s t : Reading) (a b c : Option (List ℕ)) (es fs : List Event) → Reads r s a b es → is_over s.stage ≡ false → Reads s t b c fs → Reads r t a c (es ++ fs)
Reads-trans r s t a b c es fs one going more =
    let whole = whole_text r s one.lines one.text b one.reached going one.spelled in
    record {
      lines = one.lines ++ more.lines;
      text = unlines one.lines ++ more.text;
      each = each_of_both HasNoLineFeed one.lines more.lines one.each more.each;
      spelled = text-trans one.lines more.lines more.text c more.spelled;
      consumed = Consumes-trans a b c _ _ (subst (Consumes a b) whole one.consumed) more.consumed;
      reached = more.reached ∙ ap (λ u. after u more.lines) one.reached ∙ sym (run_of-append next events_of_line r one.lines more.lines);
      events = outputs_of-append next events_of_line r one.lines more.lines
          ∙ ap (λ u. events_of r one.lines ++ events_of u more.lines) (sym one.reached)
          ∙ ap (λ xs. events_of r one.lines ++ xs) more.events
          ∙ ap (λ xs. xs ++ fs) one.events;
      going = going-trans r s one.lines more.lines one.reached one.going more.going;
    }
