-- What was taken from a source, call after call.
use Rattle.std.proofs.Common.{◌≡◌, ℕ, false, List, [], ◌∷◌, ◌++◌, ◌⊎◌, inl, inr, Option, sym, ap, ◌∙◌, subst, append_assoc}
use Rattle.std.specs.Io.KnownBytes.{Consumes}
use Rattle.std.proofs.lemmas.Grind.{flat_map-append}
use Rattle.std.proofs.KnownBytes.{Consumes-trans}
use Rattle.edge_io.specs.Lines.{HasNoLineFeed, HasNotReadAhead, ahead}
use Rattle.edge_io.specs.WholeLines.{unlines}
use Rattle.edge_io.proofs.Feeds.{each_of_both}
use Rattle.edge_io.proofs.ReadingAhead.{HasNotReadAhead-trans}
use Rattle.demo_lines.specs.declared.event.Event.{Event}
use Rattle.demo_lines.specs.Known.{Reading, is_over}
use Rattle.demo_lines.specs.Recording.{next, events_of_line, after}
use Rattle.demo_lines.specs.Reads.{Reads, TakesCutEnd, Refuses, IsRefusedLine, IsLongFront, IsLastPart}
use Rattle.demo_lines.specs.Consumed.{ReadsToRefusal}
use Rattle.demo_lines.proofs.Machines.{run_of-append}
use Rattle.demo_lines.proofs.Joins.{whole_text}
use Rattle.demo_lines.proofs.Counting.{going-before}

-- an end without a line feed that is taken after what was read
pub cut_end_after : (r s : Reading) (a b c : Option (List ℕ)) (es : List Event) → Reads r s a b es → is_over s.stage ≡ false → TakesCutEnd b c → TakesCutEnd a c
cut_end_after r s a b c es reads going more =
    let whole = whole_text r s reads.lines reads.text b reads.reached going reads.spelled in
    let cut = more.cut in
    record {
      lines = reads.lines ++ more.lines;
      text = unlines reads.lines ++ more.text;
      each = each_of_both HasNoLineFeed reads.lines more.lines reads.each more.each;
      cut = record {
        front = reads.lines ++ cut.front;
        last = cut.last;
        lines_are = ap (λ ls. reads.lines ++ ls) cut.lines_are ∙ sym (append_assoc reads.lines cut.front (cut.last ∷ []));
        text_is = ap (λ t. unlines reads.lines ++ t) cut.text_is ∙ sym (append_assoc (unlines reads.lines) (unlines cut.front) cut.last)
            ∙ ap (λ t. t ++ cut.last) (sym (flat_map-append (λ line. line ++ 10 ∷ []) reads.lines cut.front));
        is_the_end = cut.is_the_end;
        at_end = cut.at_end;
      };
      consumed = Consumes-trans a b c (unlines reads.lines) more.text (subst (Consumes a b) whole reads.consumed) more.consumed;
    }

-- lines were taken, and then a refusal
pub refusal_on : {S : Type 0} (first : Reading) (last : S → ℕ) (s0 s1 s2 : S) (r : Reading) (a b l : Option (List ℕ)) (es : List Event) (n : ℕ) (pending buffered : List ℕ)
    (same_then same at_end : Type 0) → Reads first r a b es → HasNotReadAhead s0 s1 (last s1) [] pending → (same_then → same)
    → Refuses r b (ahead buffered l) n (HasNotReadAhead s1 s2 (last s2) pending buffered × same_then) at_end
    → ReadsToRefusal first s0 s2 (last s2) same at_end a l
refusal_on first last s0 s1 s2 r a b l es n pending buffered same_then same at_end reads needed same_end refuses =
    let lines = reads.lines ++ refuses.lines in
    let taken = whole_text first r reads.lines reads.text b reads.reached (going-before r refuses.lines refuses.going) reads.spelled in
    let reached : after r refuses.lines ≡ after first lines =
    ap (λ t. after t refuses.lines) reads.reached ∙ sym (run_of-append next events_of_line first reads.lines refuses.lines) in
    let joined : unlines lines ++ refuses.last ≡ unlines reads.lines ++ (unlines refuses.lines ++ refuses.last) =
    ap (λ bs. bs ++ refuses.last) (flat_map-append (λ line. line ++ 10 ∷ []) reads.lines refuses.lines)
    ∙ append_assoc (unlines reads.lines) (unlines refuses.lines) refuses.last in
    let c = ahead buffered l in
    let Why : Reading → Type 0 = λ t.
    ((IsRefusedLine t refuses.last ⊎ IsLongFront refuses.last) × (HasNotReadAhead s0 s2 (last s2) [] buffered × same)) ⊎ (IsLastPart refuses.last c × at_end) in
    record {
      lines = lines;
      refused = refuses.last;
      buffered = buffered;
      each = each_of_both HasNoLineFeed reads.lines refuses.lines reads.each refuses.each;
      consumed = subst (Consumes a c) (sym joined)
          (Consumes-trans a b c (unlines reads.lines) (unlines refuses.lines ++ refuses.last) (subst (Consumes a b) taken reads.consumed) refuses.consumed);
      going = ap (λ (t : Reading). is_over t.stage) (sym reached) ∙ refuses.going;
      why = subst Why reached (why_on refuses.refused);
    }
  where
    why_on : ((IsRefusedLine (after r refuses.lines) refuses.last ⊎ IsLongFront refuses.last) × (HasNotReadAhead s1 s2 (last s2) pending buffered × same_then)) ⊎ (IsLastPart refuses.last (ahead buffered l) × at_end)
        → ((IsRefusedLine (after r refuses.lines) refuses.last ⊎ IsLongFront refuses.last) × (HasNotReadAhead s0 s2 (last s2) [] buffered × same)) ⊎ (IsLastPart refuses.last (ahead buffered l) × at_end)
    why_on (inl (line, (more, at))) = inl (line, (HasNotReadAhead-trans last s0 s1 s2 [] pending buffered needed more, same_end at))
    why_on (inr (last_part, at)) = inr (last_part, at)
